-- Instances and tops, seen as nodes.
use Rattle.std.proofs.Common.{◌≡◌, ◌∙◌, ⊎_elim, ℕ, zero, suc, ◌<◌, ◌≤◌, true, false, List, [], ◌∷◌, ◌++◌, Some, Contains, length, map, reverse, slice_get, set, refl, sym, ap, ap₂, subst, arith}
use Rattle.std.specs.Prelude.{IfSome}
use Rattle.std.proofs.lemmas.Bool.{cases_eq}
use Rattle.std.proofs.lemmas.List.{length_push, map-append, reverse-append, reverse-reverse, length-set}
use Rattle.std.proofs.lemmas.Option.{same_Some, slice_get_within}
use Rattle.ig_text.proofs.Lists.{at_from_contains, contains_first, contains_later, place_cases, from_map}
use Rattle.ig_text.proofs.Differing.{pushed_differ}
use Rattle.indexmap.specs.IndexMap.{insert_entry}
use Rattle.ig_item.specs.WellKinded.{NoneTwice}
use Rattle.ig_item.specs.declared.items.InstanceKey.{InstanceKey}
use Rattle.ig_gss.specs.declared.marks.Edge.{Edge}
use Rattle.ig_gss.specs.declared.marks.Pop.{Pop}
use Rattle.ig_gss.specs.declared.chains.Cell.{Cell}
use Rattle.ig_gss.specs.declared.tops.Tops.{Tops}
use Rattle.ig_gss.specs.declared.places.Place.{Place}
use Rattle.ig_gss.specs.Chains.{cell, chain}
use Rattle.ig_gss.specs.Nodes.{Node, AreOnce, fresh, keys_of, edges_at, pops_at, items_at, ends_at, with_edge, with_pop}
use Rattle.ig_gss.specs.Places.{place, HasAll, GrowsBy}
use Rattle.ig_gss.specs.Views.{AreStacks, AreIndexed, row, node_by, nodes_with}
use Rattle.ig_gss.proofs.Linked.{chain_0, new_chain, old_chain}
use Rattle.ig_gss.proofs.Keyed.{place_eq}
use Rattle.ig_gss.proofs.Grown.{edges_there, edges_elsewhere, pops_stay, pops_there, pops_elsewhere, edges_stay, edge_keys, pop_keys, fresh_edges, fresh_pops}
use Rattle.ig_gss.proofs.Entered.{same_index, node_index, rising_index, falling_index, set_index, grown_index}

module _ {X : Type 0} where
  pub at_set : (xs : List X) (k : ℕ) (x y : X) → slice_get xs k ≡ Some x → slice_get (set xs k y) k ≡ Some y
  at_set [] k x y e = cc
  at_set (z ∷ xs) zero x y e = refl
  at_set (z ∷ xs) (suc k) x y e = at_set xs k x y e

  pub off_set : (xs : List X) (k j : ℕ) (y : X) → (j ≡ k → ⊥) → slice_get (set xs k y) j ≡ slice_get xs j
  off_set [] k j y other = refl
  off_set (z ∷ xs) zero zero y other = absurd (other refl)
  off_set (z ∷ xs) zero (suc j) y other = refl
  off_set (z ∷ xs) (suc k) zero y other = refl
  off_set (z ∷ xs) (suc k) (suc j) y other = off_set xs k j y (λ e. other (ap suc e))

-- the node of a number
pub edges_at_is : (s : List Node) (k : ℕ) (n : Node) → slice_get s k ≡ Some n → edges_at s k ≡ n.edges
edges_at_is [] k n e = cc
edges_at_is (x ∷ xs) zero n e = ap (λ z. z.edges) (same_Some x n e)
edges_at_is (x ∷ xs) (suc k) n e = edges_at_is xs k n e

pub pops_at_is : (s : List Node) (k : ℕ) (n : Node) → slice_get s k ≡ Some n → pops_at s k ≡ n.pops
pops_at_is [] k n e = cc
pops_at_is (x ∷ xs) zero n e = ap (λ z. z.pops) (same_Some x n e)
pops_at_is (x ∷ xs) (suc k) n e = pops_at_is xs k n e

past_pops : (s : List Node) (k : ℕ) → length s ≤ k → pops_at s k ≡ []
past_pops [] k le = refl
past_pops (n ∷ ns) zero le = absurd (omega (arith, le))
past_pops (n ∷ ns) (suc k) le = past_pops ns k (omega (arith, le))

module _ (es : List (Cell Edge)) (ps : List (Cell Pop)) where
  pub shown_keys : (ks : List InstanceKey) (ts : List Tops) → keys_of (nodes_with (node_by es ps) ks ts) ≡ ks
  shown_keys [] ts = refl
  shown_keys (k ∷ ks) [] = ap (λ z. k ∷ z) (shown_keys ks [])
  shown_keys (k ∷ ks) (t ∷ ts) = ap (λ z. k ∷ z) (shown_keys ks ts)

  pub shown_length : (ks : List InstanceKey) (ts : List Tops) → length (nodes_with (node_by es ps) ks ts) ≡ length ks
  shown_length [] ts = refl
  shown_length (k ∷ ks) [] = ap suc (shown_length ks [])
  shown_length (k ∷ ks) (t ∷ ts) = ap suc (shown_length ks ts)

  pub shown_at : (ks : List InstanceKey) (ts : List Tops) (k : ℕ) (t : Tops) → length ts ≡ length ks → slice_get ts k ≡ Some t →
      (key : InstanceKey) × (slice_get (nodes_with (node_by es ps) ks ts) k ≡ Some (node_by es ps key t))
  shown_at [] [] k t long e = cc
  shown_at [] (x ∷ ts) k t long e = absurd (omega (arith, long))
  shown_at (key ∷ ks) [] k t long e = cc
  shown_at (key ∷ ks) (x ∷ ts) zero t long e = (key, ap (λ z. Some (node_by es ps key z)) (same_Some x t e))
  shown_at (key ∷ ks) (x ∷ ts) (suc k) t long e = shown_at ks ts k t (omega (arith, long)) e

  pub shown_edges : (ks : List InstanceKey) (ts : List Tops) (k : ℕ) (t : Tops) → length ts ≡ length ks → slice_get ts k ≡ Some t →
      edges_at (nodes_with (node_by es ps) ks ts) k ≡ row es t.edge
  shown_edges ks ts k t long e = let n = shown_at ks ts k t long e in edges_at_is _ k (node_by es ps n.0 t) n.1

  pub shown_pops : (ks : List InstanceKey) (ts : List Tops) (k : ℕ) (t : Tops) → length ts ≡ length ks → slice_get ts k ≡ Some t →
      pops_at (nodes_with (node_by es ps) ks ts) k ≡ row ps t.pop
  shown_pops ks ts k t long e = let n = shown_at ks ts k t long e in pops_at_is _ k (node_by es ps n.0 t) n.1

  -- the node of an instance
  pub node_of_key : (ks : List InstanceKey) (ts : List Tops) (k : ℕ) (key : InstanceKey) → slice_get ks k ≡ Some key →
      (n : Node) × (slice_get (nodes_with (node_by es ps) ks ts) k ≡ Some n) × (n.key ≡ key)
  node_of_key ks ts k key at =
      let u = from_map (λ n. n.key) (nodes_with (node_by es ps) ks ts) k key (ap (λ z. slice_get z k) (shown_keys ks ts) ∙ at) in (u.0, u.1, sym u.2)

same_nodes : (f g : InstanceKey → Tops → Node) (ks : List InstanceKey) (ts : List Tops) →
    ((key : InstanceKey) (d : Tops) → Contains ts d → f key d ≡ g key d) → nodes_with f ks ts ≡ nodes_with g ks ts
same_nodes f g [] ts alike = refl
same_nodes f g (k ∷ ks) [] alike = ap (λ z. fresh k ∷ z) (same_nodes f g ks [] alike)
same_nodes f g (k ∷ ks) (t ∷ ts) alike =
    ap₂ (λ a b. a ∷ b) (alike k t (contains_first t ts)) (same_nodes f g ks ts (λ key d m. alike key d (contains_later t ts d m)))

-- all nodes as before, but one with one more edge, or one more pop
edge_set : (f g : InstanceKey → Tops → Node) (ks : List InstanceKey) (ts : List Tops) (k : ℕ) (t u : Tops) (e : Edge) → length ts ≡ length ks →
    ((key : InstanceKey) (d : Tops) → Contains ts d → f key d ≡ g key d) → slice_get ts k ≡ Some t →
    ((key : InstanceKey) → f key u ≡ record (g key t) { edges = (g key t).edges ++ e ∷ [] }) →
    nodes_with f ks (set ts k u) ≡ with_edge (nodes_with g ks ts) k e
edge_set f g [] [] k t u e long alike at is = cc
edge_set f g [] (x ∷ ts) k t u e long alike at is = absurd (omega (arith, long))
edge_set f g (key ∷ ks) [] k t u e long alike at is = cc
edge_set f g (key ∷ ks) (x ∷ ts) zero t u e long alike at is =
    ap₂ (λ a b. a ∷ b) (subst (λ z. f key u ≡ record (g key z) { edges = (g key z).edges ++ e ∷ [] }) (sym (same_Some x t at)) (is key))
    (same_nodes f g ks ts (λ y d m. alike y d (contains_later x ts d m)))
edge_set f g (key ∷ ks) (x ∷ ts) (suc k) t u e long alike at is =
    ap₂ (λ a b. a ∷ b) (alike key x (contains_first x ts))
    (edge_set f g ks ts k t u e (omega (arith, long)) (λ y d m. alike y d (contains_later x ts d m)) at is)

pop_set : (f g : InstanceKey → Tops → Node) (ks : List InstanceKey) (ts : List Tops) (k : ℕ) (t u : Tops) (p : Pop) → length ts ≡ length ks →
    ((key : InstanceKey) (d : Tops) → Contains ts d → f key d ≡ g key d) → slice_get ts k ≡ Some t →
    ((key : InstanceKey) → f key u ≡ record (g key t) { pops = (g key t).pops ++ p ∷ [] }) →
    nodes_with f ks (set ts k u) ≡ with_pop (nodes_with g ks ts) k p
pop_set f g [] [] k t u p long alike at is = cc
pop_set f g [] (x ∷ ts) k t u p long alike at is = absurd (omega (arith, long))
pop_set f g (key ∷ ks) [] k t u p long alike at is = cc
pop_set f g (key ∷ ks) (x ∷ ts) zero t u p long alike at is =
    ap₂ (λ a b. a ∷ b) (subst (λ z. f key u ≡ record (g key z) { pops = (g key z).pops ++ p ∷ [] }) (sym (same_Some x t at)) (is key))
    (same_nodes f g ks ts (λ y d m. alike y d (contains_later x ts d m)))
pop_set f g (key ∷ ks) (x ∷ ts) (suc k) t u p long alike at is =
    ap₂ (λ a b. a ∷ b) (alike key x (contains_first x ts))
    (pop_set f g ks ts k t u p (omega (arith, long)) (λ y d m. alike y d (contains_later x ts d m)) at is)

-- tops that show the same
flag_set : (f : InstanceKey → Tops → Node) (ks : List InstanceKey) (ts : List Tops) (k : ℕ) (t u : Tops) → slice_get ts k ≡ Some t →
    ((key : InstanceKey) → f key u ≡ f key t) → nodes_with f ks (set ts k u) ≡ nodes_with f ks ts
flag_set f [] ts k t u at is = refl
flag_set f (key ∷ ks) [] k t u at is = refl
flag_set f (key ∷ ks) (x ∷ ts) zero t u at is =
    ap (λ a. a ∷ nodes_with f ks ts) (is key ∙ ap (f key) (sym (same_Some x t at)))
flag_set f (key ∷ ks) (x ∷ ts) (suc k) t u at is = ap (λ b. f key x ∷ b) (flag_set f ks ts k t u at is)

node_pushed : (f : InstanceKey → Tops → Node) (ks : List InstanceKey) (ts : List Tops) (key : InstanceKey) (t : Tops) → length ts ≡ length ks →
    nodes_with f (ks ++ key ∷ []) (ts ++ t ∷ []) ≡ nodes_with f ks ts ++ f key t ∷ []
node_pushed f [] [] key t long = refl
node_pushed f [] (x ∷ ts) key t long = absurd (omega (arith, long))
node_pushed f (k ∷ ks) [] key t long = absurd (omega (arith, long))
node_pushed f (k ∷ ks) (x ∷ ts) key t long = ap (λ b. f k x ∷ b) (node_pushed f ks ts key t (omega (arith, long)))

-- nothing stands twice when one more is added
edge_once : (s : List Node) (k : ℕ) (e : Edge) → AreOnce s → k < length s → (Contains (items_at s k) e.item → ⊥) → AreOnce (with_edge s k e)
edge_once s k e a lt none =
    record {
      keys = subst NoneTwice (sym (edge_keys s k e)) a.keys;
      items = λ j.
          ⊎_elim
          (λ (same : j ≡ k).
          subst (λ z. NoneTwice (items_at (with_edge s k e) z)) (sym same)
          (subst NoneTwice (sym (ap (map (λ x. x.item)) (edges_there s k e lt) ∙ map-append (λ x. x.item) (edges_at s k) (e ∷ [])))
          (pushed_differ (items_at s k) e.item (a.items k) none)))
          (λ (o : j ≡ k → ⊥). subst (λ z. NoneTwice (map (λ x. x.item) z)) (sym (edges_elsewhere s k j e o)) (a.items j))
          (cases_eq j k);
      ends = λ j. subst (λ z. NoneTwice (map (λ x. x.end) z)) (sym (pops_stay s k j e)) (a.ends j);
    }

pop_once : (s : List Node) (k : ℕ) (p : Pop) → AreOnce s → k < length s → (Contains (ends_at s k) p.end → ⊥) → AreOnce (with_pop s k p)
pop_once s k p a lt none =
    record {
      keys = subst NoneTwice (sym (pop_keys s k p)) a.keys;
      items = λ j. subst (λ z. NoneTwice (map (λ x. x.item) z)) (sym (edges_stay s k j p)) (a.items j);
      ends = λ j.
          ⊎_elim
          (λ (same : j ≡ k).
          subst (λ z. NoneTwice (ends_at (with_pop s k p) z)) (sym same)
          (subst NoneTwice (sym (ap (map (λ x. x.end)) (pops_there s k p lt) ∙ map-append (λ x. x.end) (pops_at s k) (p ∷ [])))
          (pushed_differ (ends_at s k) p.end (a.ends k) none)))
          (λ (o : j ≡ k → ⊥). subst (λ z. NoneTwice (map (λ x. x.end) z)) (sym (pops_elsewhere s k j p o)) (a.ends j))
          (cases_eq j k);
    }

node_once : (s : List Node) (key : InstanceKey) → AreOnce s → (Contains (keys_of s) key → ⊥) → AreOnce (s ++ fresh key ∷ [])
node_once s key a none =
    record {
      keys = subst NoneTwice (sym (map-append (λ x. x.key) s (fresh key ∷ []))) (pushed_differ (keys_of s) key a.keys none);
      items = λ j. subst (λ z. NoneTwice (map (λ x. x.item) z)) (sym (fresh_edges s key j)) (a.items j);
      ends = λ j. subst (λ z. NoneTwice (map (λ x. x.end) z)) (sym (fresh_pops s key j)) (a.ends j);
    }

-- the chain with one more mark, turned round
longer_row : {T : Type 0} (cells : List (Cell T)) (last at : ℕ) (m : T) → at ≡ suc (length cells) →
    row (cells ++ cell m last ∷ []) at ≡ row cells last ++ m ∷ []
longer_row cells last at m is =
    ap reverse (new_chain cells (cell m last) at is) ∙ reverse-append (m ∷ []) (chain (reverse cells) last)

same_row : {T : Type 0} (cells : List (Cell T)) (c : Cell T) (at : ℕ) → at ≤ length cells → row (cells ++ c ∷ []) at ≡ row cells at
same_row cells c at le = ap reverse (old_chain cells c at le)

-- no nodes
pub none_stacks : AreStacks [] [] [] [] []
none_stacks =
    record {
      long = refl;
      edges_within = λ k t e. cc;
      pops_within = λ k t e. cc;
      once = record { keys = λ i j x a b. cc; items = λ k i j x a b. cc; ends = λ k i j x a b. cc };
      indexed = record { sound = λ q done c. absurd (omega (arith, c.1)); all = λ k t e. cc; rising = λ k t e. cc };
    }

module _ (keys : List InstanceKey) (tops : List Tops) (es : List (Cell Edge)) (ps : List (Cell Pop)) (ends : List (Place × ℕ))
    (a : AreStacks keys tops es ps ends) where
  abbrev view : List Node
  view = nodes_with (node_by es ps) keys tops

  within_of : (d : Tops) → Contains tops d → (d.edge ≤ length es) × (d.pop ≤ length ps)
  within_of d m = let u = at_from_contains tops d m in (a.edges_within u.0 d u.1, a.pops_within u.0 d u.1)

  -- a new node
  module _ (key : InstanceKey) (t : Tops) (edge_is : t.edge ≡ 0) (pop_is : t.pop ≡ 0) (flag : t.is_indexed ≡ false) where
    pub node_view : nodes_with (node_by es ps) (keys ++ key ∷ []) (tops ++ t ∷ []) ≡ view ++ fresh key ∷ []
    node_view =
        node_pushed (node_by es ps) keys tops key t a.long ∙
        ap₂ (λ y z. view ++ record { key = key; edges = reverse y; pops = reverse z } ∷ []) (chain_0 (reverse es) t.edge edge_is) (chain_0 (reverse ps) t.pop pop_is)

    pub node_keeps : (Contains keys key → ⊥) → AreStacks (keys ++ key ∷ []) (tops ++ t ∷ []) es ps ends
    node_keeps none =
        record {
          long = let l = length_push keys key in let m = length_push tops t in omega (arith, l, m, a.long);
          edges_within = λ k u at.
              ⊎_elim (λ (h : slice_get tops k ≡ Some u). a.edges_within k u h)
              (λ (h : (k ≡ length tops) × (t ≡ u)). let e : t.edge ≡ u.edge = ap (λ z. z.edge) h.1 in omega (arith, e, edge_is))
              (place_cases tops t u k at);
          pops_within = λ k u at.
              ⊎_elim (λ (h : slice_get tops k ≡ Some u). a.pops_within k u h)
              (λ (h : (k ≡ length tops) × (t ≡ u)). let e : t.pop ≡ u.pop = ap (λ z. z.pop) h.1 in omega (arith, e, pop_is))
              (place_cases tops t u k at);
          once = subst AreOnce (sym node_view) (node_once view key a.once (λ c. none (subst (λ z. Contains z key) (shown_keys es ps keys tops) c)));
          indexed =
              node_index view _ tops (tops ++ t ∷ []) t ends a.indexed (λ j. ap (λ z. pops_at z j) node_view ∙ fresh_pops view key j)
              (past_pops view (length tops) (let l = shown_length es ps keys tops in omega (arith, l, a.long))) refl flag;
        }

  -- the node of a number, of which the tops are known
  module _ (k : ℕ) (t : Tops) (at : slice_get tops k ≡ Some t) where
    pub there : k < length view
    there = let l = shown_length es ps keys tops in let m = slice_get_within tops k t at in omega (arith, l, m, a.long)

    pub edges_walked : (now : List Node) → view ≡ now → chain (reverse es) t.edge ≡ reverse (edges_at now k)
    edges_walked now is =
        sym (reverse-reverse (chain (reverse es) t.edge)) ∙ ap reverse (sym (shown_edges es ps keys tops k t a.long at)) ∙ ap (λ z. reverse (edges_at z k)) is

    pub pops_walked : (now : List Node) → view ≡ now → chain (reverse ps) t.pop ≡ reverse (pops_at now k)
    pops_walked now is =
        sym (reverse-reverse (chain (reverse ps) t.pop)) ∙ ap reverse (sym (shown_pops es ps keys tops k t a.long at)) ∙ ap (λ z. reverse (pops_at z k)) is

    -- other tops in its place
    module _ (u : Tops) where
      abbrev others : List Tops
      others = set tops k u

      here_at : (v : Tops) → slice_get others k ≡ Some v → u ≡ v
      here_at v in_set = same_Some u v (sym (at_set tops k t u at) ∙ in_set)

      same_at : (j : ℕ) (v : Tops) → j ≡ k → slice_get others j ≡ Some v → u ≡ v
      same_at j v same in_set = here_at v (ap (slice_get others) (sym same) ∙ in_set)

      other_at : (j : ℕ) (v : Tops) → (j ≡ k → ⊥) → slice_get others j ≡ Some v → slice_get tops j ≡ Some v
      other_at j v o in_set = sym (off_set tops k j u o) ∙ in_set

      others_long : length others ≡ length keys
      others_long = length-set tops k u ∙ a.long

      edges_stay_within : u.edge ≡ t.edge → (j : ℕ) (v : Tops) → slice_get others j ≡ Some v → v.edge ≤ length es
      edges_stay_within is j v in_set =
          ⊎_elim
          (λ (same : j ≡ k). let i = ap (λ z. z.edge) (same_at j v same in_set) in let w = a.edges_within k t at in omega (arith, i, is, w))
          (λ (o : j ≡ k → ⊥). a.edges_within j v (other_at j v o in_set)) (cases_eq j k)

      pops_stay_within : u.pop ≡ t.pop → (j : ℕ) (v : Tops) → slice_get others j ≡ Some v → v.pop ≤ length ps
      pops_stay_within is j v in_set =
          ⊎_elim
          (λ (same : j ≡ k). let i = ap (λ z. z.pop) (same_at j v same in_set) in let w = a.pops_within k t at in omega (arith, i, is, w))
          (λ (o : j ≡ k → ⊥). a.pops_within j v (other_at j v o in_set)) (cases_eq j k)

    -- one more edge
    module _ (e : Edge) (u : Tops) (edge_is : u.edge ≡ suc (length es)) (pop_is : u.pop ≡ t.pop) (flag : u.is_indexed ≡ t.is_indexed) where
      abbrev with_e : List (Cell Edge)
      with_e = es ++ cell e t.edge ∷ []

      pub edge_view : nodes_with (node_by with_e ps) keys (set tops k u) ≡ with_edge view k e
      edge_view =
          edge_set (node_by with_e ps) (node_by es ps) keys tops k t u e a.long
          (λ key d m. ap (λ z. record { key = key; edges = z; pops = row ps d.pop }) (same_row es (cell e t.edge) d.edge (within_of d m).0)) at
          (λ key. ap₂ (λ y z. record { key = key; edges = y; pops = row ps z }) (longer_row es t.edge u.edge e edge_is) pop_is)

      pub edge_keeps : (Contains (items_at view k) e.item → ⊥) → AreStacks keys (set tops k u) with_e ps ends
      edge_keeps none =
          record {
            long = others_long u;
            edges_within = λ j v in_set.
                let l = length_push es (cell e t.edge) in
                ⊎_elim (λ (same : j ≡ k). let i = ap (λ z. z.edge) (same_at u j v same in_set) in omega (arith, i, edge_is, l))
                (λ (o : j ≡ k → ⊥). let w = a.edges_within j v (other_at u j v o in_set) in omega (arith, w, l)) (cases_eq j k);
            pops_within = pops_stay_within u pop_is;
            once = subst AreOnce (sym edge_view) (edge_once view k e a.once there none);
            indexed =
                same_index view _ tops (set tops k u) ends a.indexed (λ j. ap (λ z. pops_at z j) edge_view ∙ pops_stay view k j e) flags;
          }
        where
          flags : (j : ℕ) (v : Tops) → slice_get (set tops k u) j ≡ Some v → (w : Tops) × (slice_get tops j ≡ Some w) × (w.is_indexed ≡ v.is_indexed)
          flags j v in_set =
              ⊎_elim
              (λ (same : j ≡ k). (t, ap (slice_get tops) same ∙ at, sym flag ∙ ap (λ z. z.is_indexed) (same_at u j v same in_set)))
              (λ (o : j ≡ k → ⊥). (v, other_at u j v o in_set, refl)) (cases_eq j k)

    -- the table has more
    pub ends_keep : (more : List (Place × ℕ)) (walked : List Pop) → GrowsBy k walked ends more → walked ≡ chain (reverse ps) t.pop →
        AreStacks keys tops es ps more
    ends_keep more walked grows is =
        record {
          long = a.long;
          edges_within = a.edges_within;
          pops_within = a.pops_within;
          once = a.once;
          indexed = grown_index view tops ends more k walked a.indexed grows (is ∙ pops_walked view refl);
        }

    -- the table has all its pops, as its tops say then
    module _ (u : Tops) (edge_is : u.edge ≡ t.edge) (pop_is : u.pop ≡ t.pop) (flag : u.is_indexed ≡ true) where
      pub flag_view : nodes_with (node_by es ps) keys (set tops k u) ≡ view
      flag_view =
          flag_set (node_by es ps) keys tops k t u at (λ key. ap₂ (λ y z. record { key = key; edges = row es y; pops = row ps z }) edge_is pop_is)

      pub flag_keeps : HasAll k (pops_at view k) ends → AreStacks keys (set tops k u) es ps ends
      flag_keeps has =
          record {
            long = others_long u;
            edges_within = edges_stay_within u edge_is;
            pops_within = pops_stay_within u pop_is;
            once = subst AreOnce (sym flag_view) a.once;
            indexed =
                subst (λ z. AreIndexed z (set tops k u) ends) (sym flag_view)
                (set_index view tops (set tops k u) ends k a.indexed has (λ v in_set. sym (ap (λ z. z.is_indexed) (here_at u v in_set)) ∙ flag)
                (λ j v o in_set. other_at u j v o in_set));
          }

    -- one more pop
    module _ (p : Pop) (u : Tops) (edge_is : u.edge ≡ t.edge) (pop_is : u.pop ≡ suc (length ps)) where
      abbrev with_p : List (Cell Pop)
      with_p = ps ++ cell p t.pop ∷ []

      pub pop_view : nodes_with (node_by es with_p) keys (set tops k u) ≡ with_pop view k p
      pop_view =
          pop_set (node_by es with_p) (node_by es ps) keys tops k t u p a.long
          (λ key d m. ap (λ z. record { key = key; edges = row es d.edge; pops = z }) (same_row ps (cell p t.pop) d.pop (within_of d m).1)) at
          (λ key. ap₂ (λ y z. record { key = key; edges = row es y; pops = z }) edge_is (longer_row ps t.pop u.pop p pop_is))

      pop_there : pops_at (with_pop view k p) k ≡ pops_at view k ++ p ∷ []
      pop_there = pops_there view k p there

      pop_keeps : (after : List (Place × ℕ)) → (Contains (ends_at view k) p.end → ⊥) → AreIndexed (with_pop view k p) (set tops k u) after →
          AreStacks keys (set tops k u) es with_p after
      pop_keeps after none indexed =
          record {
            long = others_long u;
            edges_within = edges_stay_within u edge_is;
            pops_within = λ j v in_set.
                let l = length_push ps (cell p t.pop) in
                ⊎_elim (λ (same : j ≡ k). let i = ap (λ z. z.pop) (same_at u j v same in_set) in omega (arith, i, pop_is, l))
                (λ (o : j ≡ k → ⊥). let w = a.pops_within j v (other_at u j v o in_set) in omega (arith, w, l)) (cases_eq j k);
            once = subst AreOnce (sym pop_view) (pop_once view k p a.once there none);
            indexed = subst (λ z. AreIndexed z (set tops k u) after) (sym pop_view) indexed;
          }

      pub rising_keeps : t.is_indexed ≡ false → u.is_indexed ≡ false → IfSome (slice_get (chain (reverse ps) t.pop) 0) (λ l. l.end < p.end) →
          (Contains (ends_at view k) p.end → ⊥) → AreStacks keys (set tops k u) es with_p ends
      rising_keeps was flag above none =
          pop_keeps ends none
          (rising_index view (with_pop view k p) tops (set tops k u) k p pop_there (λ j o. pops_elsewhere view k j p o)
          (λ j v o in_set. other_at u j v o in_set) ends t a.indexed at was (λ v in_set. sym (ap (λ z. z.is_indexed) (here_at u v in_set)) ∙ flag)
          (subst (λ z. IfSome (slice_get z 0) (λ l. l.end < p.end)) (pops_walked view refl) above))

      pub falling_keeps : (after : List (Place × ℕ)) → HasAll k (pops_at view k) ends → u.is_indexed ≡ true →
          after ≡ insert_entry place_eq ends (place k p.end) p.done → (Contains (ends_at view k) p.end → ⊥) →
          AreStacks keys (set tops k u) es with_p after
      falling_keeps after has flag made none =
          pop_keeps after none
          (falling_index view (with_pop view k p) tops (set tops k u) k p pop_there (λ j o. pops_elsewhere view k j p o)
          (λ j v o in_set. other_at u j v o in_set) ends after a.indexed has (λ v in_set. sym (ap (λ z. z.is_indexed) (here_at u v in_set)) ∙ flag) made)
