-- What each call makes of the nodes and of the tables below them.
use Rattle.std.proofs.Common.{◌≡◌, ◌∙◌, ℕ, suc, ◌<◌, ◌≤◌, true, false, List, [], ◌∷◌, ◌++◌, Option, Some, None, Contains, length, map, reverse, slice_get, get_or, set, refl, sym, ap, ap₂, subst, arith}
use Rattle.std.specs.Prelude.{IfNone, IfSome}
use Rattle.std.proofs.lemmas.List.{length_push}
use Rattle.std.proofs.lemmas.Option.{same_Some, slice_get_read}
use Rattle.indexmap.specs.IndexMap.{insert_entry}
use Rattle.ig_item.specs.declared.items.InstanceKey.{InstanceKey}
use Rattle.ig_run_tables.specs.Extends.{IsNew}
use Rattle.ig_gss.specs.declared.marks.Edge.{Edge}
use Rattle.ig_gss.specs.declared.marks.Pop.{Pop}
use Rattle.ig_gss.specs.declared.chains.Cell.{Cell}
use Rattle.ig_gss.specs.declared.tops.Tops.{Tops}
use Rattle.ig_gss.specs.declared.places.Place.{Place}
use Rattle.ig_gss.specs.Chains.{cell, chain}
use Rattle.ig_gss.specs.Nodes.{Node, fresh, ended, keys_of, edges_at, pops_at, items_at, ends_at, with_edge, with_pop, FindsNode, MakesNode}
use Rattle.ig_gss.specs.Places.{place, HasAll, GrowsBy, IsHighest}
use Rattle.ig_gss.specs.Views.{AreStacks, node_by, nodes_with}
use Rattle.ig_gss.proofs.Keyed.{place_eq}
use Rattle.ig_gss.proofs.Entered.{has_all, had_all, no_pops, latest_pop, none_above, not_in_table}
use Rattle.ig_gss.proofs.Shown as shown

module _ (keys : List InstanceKey) (tops : List Tops) (es : List (Cell Edge)) (ps : List (Cell Pop)) (ends : List (Place × ℕ))
    (a : AreStacks keys tops es ps ends) (now : List Node) (view_is : nodes_with (node_by es ps) keys tops ≡ now) where
  abbrev view : List Node
  view = nodes_with (node_by es ps) keys tops

  -- a node that is new
  module _ (key : InstanceKey) (more_keys : List InstanceKey) (more_tops : List Tops) (t : Tops) (k : ℕ) (is_new : IsNew keys more_keys key k)
      (pushed : more_tops ≡ tops ++ t ∷ []) (edge_is : t.edge ≡ 0) (pop_is : t.pop ≡ 0) (flag : t.is_indexed ≡ false) where
    pub node_keeps : AreStacks more_keys more_tops es ps ends
    node_keeps =
        subst (λ z. AreStacks z more_tops es ps ends) (sym is_new.added)
        (subst (λ z. AreStacks (keys ++ key ∷ []) z es ps ends) (sym pushed) (shown.node_keeps keys tops es ps ends a key t edge_is pop_is flag is_new.new))

    node_shows : nodes_with (node_by es ps) more_keys more_tops ≡ now ++ fresh key ∷ []
    node_shows =
        ap₂ (nodes_with (node_by es ps)) is_new.added pushed ∙ shown.node_view keys tops es ps ends a key t edge_is pop_is flag ∙
        ap (λ z. z ++ fresh key ∷ []) view_is

    node_lacked : Contains (keys_of now) key → ⊥
    node_lacked c = is_new.new (subst (λ z. Contains z key) (ap keys_of (sym view_is) ∙ shown.shown_keys es ps keys tops) c)

    pub node_made : MakesNode now (nodes_with (node_by es ps) more_keys more_tops) key k
    node_made = (
      node_shows,
      is_new.last ∙ sym (shown.shown_length es ps keys tops) ∙ ap length view_is,
      node_lacked,
    )

  -- a node that was there
  module _ (key : InstanceKey) (more_keys : List InstanceKey) (more_tops : List Tops) (stayed : more_keys ≡ keys) (same : more_tops ≡ tops) where
    pub found_keeps : AreStacks more_keys more_tops es ps ends
    found_keeps =
        subst (λ z. AreStacks z more_tops es ps ends) (sym stayed) (subst (λ z. AreStacks keys z es ps ends) (sym same) a)

    pub node_found : (k : ℕ) → slice_get more_keys k ≡ Some key → FindsNode now (nodes_with (node_by es ps) more_keys more_tops) key k
    node_found k at = (
      ap₂ (nodes_with (node_by es ps)) stayed same ∙ view_is,
      subst (λ z. (n : Node) × (slice_get z k ≡ Some n) × (n.key ≡ key)) view_is
          (shown.node_of_key es ps keys tops k key (subst (λ z. slice_get z k ≡ Some key) stayed at)),
    )

  -- the instance of a node by its number
  pub key_there : (more_keys : List InstanceKey) (more_tops : List Tops) (key : InstanceKey) (k : ℕ) → slice_get more_keys k ≡ Some key →
      slice_get (keys_of (nodes_with (node_by es ps) more_keys more_tops)) k ≡ Some key
  key_there more_keys more_tops key k at = ap (λ z. slice_get z k) (shown.shown_keys es ps more_keys more_tops) ∙ at

  -- the node of a number, of which the tops were read
  module _ (node : ℕ) (lt : node < length now) where
    pub inside : node < length tops
    inside = let l = shown.shown_length es ps keys tops in let v = ap length view_is in omega (arith, l, v, lt, a.long)

    module _ (t : Tops) (read : t ≡ get_or tops node t) where
      at : slice_get tops node ≡ Some t
      at = slice_get_read tops (length tops) node t refl inside read

      pub edge_in : t.edge ≤ length es
      edge_in = a.edges_within node t at

      pub pop_in : t.pop ≤ length ps
      pop_in = a.pops_within node t at

      pub edges_are : chain (reverse es) t.edge ≡ reverse (edges_at now node)
      edges_are = shown.edges_walked keys tops es ps ends a node t at now view_is

      pub pops_are : chain (reverse ps) t.pop ≡ reverse (pops_at now node)
      pops_are = shown.pops_walked keys tops es ps ends a node t at now view_is

      -- one more edge
      module _ (e : Edge) (v : Tops) (again : v ≡ get_or tops node v) (spot : ℕ) (more : List (Cell Edge)) (pushed : more ≡ es ++ cell e t.edge ∷ [])
          (last : spot ≡ length more) where
        is_t : v ≡ t
        is_t = same_Some v t (sym (slice_get_read tops (length tops) node v refl inside again) ∙ at)

        at_end : spot ≡ suc (length es)
        at_end = let l = ap length pushed in let m = length_push es (cell e t.edge) in omega (arith, last, l, m)

        pub edge_keeps : (Contains (items_at now node) e.item → ⊥) → AreStacks keys (set tops node (record v { edge = spot })) more ps ends
        edge_keeps none =
            subst (λ z. AreStacks keys (set tops node (record v { edge = spot })) z ps ends) (sym pushed)
            (shown.edge_keeps keys tops es ps ends a node t at e (record v { edge = spot }) at_end (ap (λ z. z.pop) is_t) (ap (λ z. z.is_indexed) is_t)
            (λ c. none (subst (λ z. Contains (items_at z node) e.item) view_is c)))

        pub edge_shows : nodes_with (node_by more ps) keys (set tops node (record v { edge = spot })) ≡ with_edge now node e
        edge_shows =
            ap (λ z. nodes_with (node_by z ps) keys (set tops node (record v { edge = spot }))) pushed ∙
            shown.edge_view keys tops es ps ends a node t at e (record v { edge = spot }) at_end (ap (λ z. z.pop) is_t) (ap (λ z. z.is_indexed) is_t) ∙
            ap (λ z. with_edge z node e) view_is

      -- what is asked of its pops
      pub asks_none : None ≡ slice_get (chain (reverse ps) t.pop) 0 → (end : ℕ) → Contains (ends_at now node) end → ⊥
      asks_none none end = no_pops (pops_at now node) end (none ∙ ap (λ z. slice_get z 0) pops_are)

      pub asks_last : (p : Pop) (end : ℕ) → Some p ≡ slice_get (chain (reverse ps) t.pop) 0 → p.end ≡ end → Contains (pops_at now node) (ended end p.done)
      asks_last p end is same = latest_pop (pops_at now node) end p (is ∙ ap (λ z. slice_get z 0) pops_are) same

      pub asks_higher : (end : ℕ) → t.is_indexed ≡ false → IfSome (slice_get (chain (reverse ps) t.pop) 0) (λ p. p.end < end) →
          Contains (ends_at now node) end → ⊥
      asks_higher end rises above =
          none_above (pops_at now node) end
          (subst (λ z. IsHighest (reverse (pops_at z node))) view_is (a.indexed.rising node t at rises))
          (subst (λ z. IfSome (slice_get z 0) (λ p. p.end < end)) pops_are above)

      -- the table, before and after pops are entered
      pub had : (walked : List Pop) → walked ≡ chain (reverse ps) t.pop → t.is_indexed ≡ true → HasAll node walked ends
      had walked is flag = had_all view tops ends node t walked a.indexed at flag (is ∙ shown.pops_walked keys tops es ps ends a node t at view refl)

      module _ (walked : List Pop) (more : List (Place × ℕ)) (walk : walked ≡ chain (reverse ps) t.pop) (grows : GrowsBy node walked ends more) where
        pub ends_keep : AreStacks keys tops es ps more
        ends_keep = shown.ends_keep keys tops es ps ends a node t at more walked grows walk

        module _ (has : HasAll node walked more) where
          has_them : HasAll node (pops_at view node) more
          has_them = has_all view node walked more (walk ∙ shown.pops_walked keys tops es ps ends a node t at view refl) has

          module _ (v : Tops) (again : v ≡ get_or tops node v) where
            is_t_too : v ≡ t
            is_t_too = same_Some v t (sym (slice_get_read tops (length tops) node v refl inside again) ∙ at)

            pub flag_keeps : AreStacks keys (set tops node (record v { is_indexed = true })) es ps more
            flag_keeps =
                shown.flag_keeps keys tops es ps more ends_keep node t at (record v { is_indexed = true }) (ap (λ z. z.edge) is_t_too) (ap (λ z. z.pop) is_t_too) refl has_them

            pub flag_shows : nodes_with (node_by es ps) keys (set tops node (record v { is_indexed = true })) ≡ now
            flag_shows =
                shown.flag_view keys tops es ps more ends_keep node t at (record v { is_indexed = true }) (ap (λ z. z.edge) is_t_too) (ap (λ z. z.pop) is_t_too) refl ∙
                view_is

          -- what the table says then
          pub table_some : (end done : ℕ) → Contains more (place node end, done) → Contains (pops_at now node) (ended end done)
          table_some end done c =
              subst (λ z. Contains (pops_at z node) (ended end done)) view_is (ends_keep.indexed.sound (place node end) done c)

          pub table_none : (end : ℕ) → (Contains (map (λ e. e.0) more) (place node end) → ⊥) → Contains (ends_at now node) end → ⊥
          table_none end none = subst (λ z. Contains (ends_at z node) end → ⊥) view_is (not_in_table view more node end has_them none)

          -- one more pop, which is entered
          module _ (p : Pop) (spot : ℕ) (chained : List (Cell Pop)) (pushed : chained ≡ ps ++ cell p t.pop ∷ []) (last : spot ≡ length chained)
              (is_new : Contains (ends_at now node) p.end → ⊥) where
            abbrev falls : Tops
            falls = record { edge = t.edge; pop = spot; is_indexed = true }

            spot_end : spot ≡ suc (length ps)
            spot_end = let l = ap length pushed in let m = length_push ps (cell p t.pop) in omega (arith, last, l, m)

            pub falling_keeps : (after : List (Place × ℕ)) → after ≡ insert_entry place_eq more (place node p.end) p.done →
                AreStacks keys (set tops node falls) es chained after
            falling_keeps after made =
                subst (λ z. AreStacks keys (set tops node falls) es z after) (sym pushed)
                (shown.falling_keeps keys tops es ps more ends_keep node t at p falls refl spot_end after has_them refl made
                (λ c. is_new (subst (λ z. Contains (ends_at z node) p.end) view_is c)))

            pub falling_shows : nodes_with (node_by es chained) keys (set tops node falls) ≡ with_pop now node p
            falling_shows =
                ap (λ z. nodes_with (node_by es z) keys (set tops node falls)) pushed ∙
                shown.pop_view keys tops es ps more ends_keep node t at p falls refl spot_end ∙ ap (λ z. with_pop z node p) view_is

      -- one more pop, which is the highest
      module _ (p : Pop) (v : Tops) (again : v ≡ get_or tops node v) (spot : ℕ) (chained : List (Cell Pop)) (pushed : chained ≡ ps ++ cell p t.pop ∷ [])
          (last : spot ≡ length chained) where
        was_t : v ≡ t
        was_t = same_Some v t (sym (slice_get_read tops (length tops) node v refl inside again) ∙ at)

        rise_end : spot ≡ suc (length ps)
        rise_end = let l = ap length pushed in let m = length_push ps (cell p t.pop) in omega (arith, last, l, m)

        pub rising_keeps : t.is_indexed ≡ false → IfSome (slice_get (chain (reverse ps) t.pop) 0) (λ l. l.end < p.end) →
            (Contains (ends_at now node) p.end → ⊥) → AreStacks keys (set tops node (record v { pop = spot })) es chained ends
        rising_keeps flag above none =
            subst (λ z. AreStacks keys (set tops node (record v { pop = spot })) es z ends) (sym pushed)
            (shown.rising_keeps keys tops es ps ends a node t at p (record v { pop = spot }) (ap (λ z. z.edge) was_t) rise_end flag
            (ap (λ z. z.is_indexed) was_t ∙ flag) above (λ c. none (subst (λ z. Contains (ends_at z node) p.end) view_is c)))

        pub rising_shows : nodes_with (node_by es chained) keys (set tops node (record v { pop = spot })) ≡ with_pop now node p
        rising_shows =
            ap (λ z. nodes_with (node_by es z) keys (set tops node (record v { pop = spot }))) pushed ∙
            shown.pop_view keys tops es ps ends a node t at p (record v { pop = spot }) (ap (λ z. z.edge) was_t) rise_end ∙
            ap (λ z. with_pop z node p) view_is

-- what follows where there is none
pub none_then : {X : Type 0} (r : Option X) {P Q : Type 0} → IfNone r P → (P → Q) → IfNone r Q
none_then None h f = f h
none_then (Some x) h f = tt
