-- One pass over the complete items in order makes the nodes.
use Rattle.std.proofs.Common.{◌≡◌, ◌≢◌, ◌⊎◌, inl, inr, ℕ, suc, ◌+◌, ◌-◌, ◌<◌, ◌≤◌, List, [], ◌∷◌, ◌++◌, true, Some, Option, Less, Equal, Greater, length, map, take, get_or, slice_get, Contains, refl, sym, ap, ◌∙◌, subst, arith}
use Rattle.std.specs.Prelude.{option_map, option_and_then}
use Rattle.std.specs.declared.cmp.Ordering.{Ordering}
use Rattle.std.specs.List.Sorted.{IsStrictlySortedBy}
use Rattle.std.specs.Ordering.{nat_cmp, ordering_then}
use Rattle.std.proofs.lemmas.Bool.{cases_lt}
use Rattle.std.proofs.lemmas.Bool.Decides.{Decides-eqb}
use Rattle.std.proofs.lemmas.Cmp.{tied_itself}
use Rattle.std.proofs.lemmas.List.{get_or-take, length-map, length-take-le, map-append, map_more, length_push}
use Rattle.std.proofs.lemmas.List.Elements.{Contains-append_left, Contains-get_or, Contains-push, Contains-push_cases}
use Rattle.std.proofs.lemmas.Map.Made.{IsDistinct-from_AllPairs, is_member-Decides}
use Rattle.std.proofs.lemmas.Map.Steps.{length-le_from_distinct_below}
use Rattle.std.proofs.lemmas.Option.{same_Some, slice_get-get_or, slice_get_within}
use Rattle.ig_text.specs.declared.tag.Tag.{Tag}
use Rattle.ig_text.proofs.Lists.{at_from_contains, get_within, contains_from_at, mapped_in, unmapped_in, place_cases, place_last, left_at}
use Rattle.ig_text.proofs.Rising.{rises}
use Rattle.ig_item.specs.Core.{alternative_at, numbered}
use Rattle.ig_item.specs.Laws.{AlternativesAreOne}
use Rattle.ig_item.specs.declared.core_grammar.CoreAlt.{CoreAlt}
use Rattle.ig_item.specs.declared.core_grammar.Nonterminal.{Nonterminal}
use Rattle.ig_item.specs.declared.items.Item.{Item}
use Rattle.ig_item.specs.declared.items.InstanceKey.{InstanceKey}
use Rattle.ig_forest.specs.CodeTables.{node_of, node_row_cmp}
use Rattle.ig_forest_live.specs.Rows.{row_cmp}
use Rattle.ig_forest.specs.CodeDone.{AreNodesOf, IsDoneRow, StandsLast, HasChoices, IsChoiceRow, IsTagged, choice_item_cmp}
use Rattle.ig_forest_live.specs.LiveOrder.{AreLiveInOrder}
use Rattle.ig_forest_live.specs.Marks.{is_live}
use Rattle.ig_forest_live.specs.Rows.{number_cmp, row_of}
use Rattle.ig_forest_tables.specs.StoredNodes.{rows_in, with_choice, StoredNode}
use Rattle.ig_forest.specs.CodeNodes as opens
use Rattle.ig_forest.specs.CodeNodes.{AreNodesWith, EndsWith, IsNumbered, MarkComplete, NodesUpTo, Opens, rows_of}
use Rattle.ig_forest_tables.specs.declared.entry.Choice.{Choice}
use Rattle.ig_forest_live.specs.declared.mark.Mark.{Mark}
use Rattle.ig_forest_live.specs.declared.mark.Mark.TheVariants.{Complete}
use Rattle.ig_forest_live.specs.declared.rows.ItemRow.{ItemRow}
use Rattle.ig_forest_tables.specs.declared.node_rows.NodeRow.{NodeRow}
use Rattle.ig_text.proofs.Sorted.{less_number, strict_none, strict_push}
use Rattle.ig_forest.proofs.CodeLiveNumbers.{marked_within, number_total}
use Rattle.ig_forest.proofs.CodeOrders.{node_row_exact, node_row_total}

-- the nodes of rows that rise don't fall
first_four : (a b c d r : Ordering) → ordering_then a (ordering_then b (ordering_then c (ordering_then d r))) ≡ Less →
    (ordering_then a (ordering_then b (ordering_then c d)) ≡ Less) ⊎ (ordering_then a (ordering_then b (ordering_then c d)) ≡ Equal)
first_four Less b c d r e = inl refl
first_four Greater b c d r e = cc
first_four Equal Less c d r e = inl refl
first_four Equal Greater c d r e = cc
first_four Equal Equal Less d r e = inl refl
first_four Equal Equal Greater d r e = cc
first_four Equal Equal Equal Less r e = inl refl
first_four Equal Equal Equal Greater r e = cc
first_four Equal Equal Equal Equal r e = inr refl

node_rises : (x y : ItemRow) → row_cmp x y ≡ Less → (node_row_cmp (node_of x) (node_of y) ≡ Less) ⊎ (node_of x ≡ node_of y)
node_rises x y e =
    elim
    (first_four (nat_cmp x.start y.start) (nat_cmp x.position y.position) (nat_cmp x.nonterminal y.nonterminal) (nat_cmp x.values y.values)
    (ordering_then (nat_cmp x.alternative y.alternative) (ordering_then (nat_cmp x.dot y.dot) (nat_cmp x.env y.env))) e) [
      | inl less ↦ inl less
      | inr equal ↦ inr (node_row_exact (node_of x) (node_of y) equal)
    ]

-- all nodes are below one that none is above, and that isn't the last one
all_below : (nodes : List NodeRow) (node : NodeRow) → IsStrictlySortedBy node_row_cmp nodes →
    ((n : NodeRow) → Contains nodes n → (node_row_cmp n node ≡ Less) ⊎ (n ≡ node)) →
    (slice_get nodes (length nodes - 1) ≡ Some node → ⊥) → (n : NodeRow) → Contains nodes n → node_row_cmp n node ≡ Less
all_below nodes node order upto never n c =
    let at = at_from_contains nodes n c in
    let within = slice_get_within nodes at.0 n at.1 in
    let last = get_within nodes (length nodes - 1) (omega (arith, within)) in
    let low : node_row_cmp last.0 node ≡ Less =
    elim (upto last.0 (contains_from_at nodes (length nodes - 1) last.0 last.1)) [
      | inl less ↦ less
      | inr same ↦ absurd (never (last.1 ∙ ap Some same))
    ] in
    elim (cases_lt at.0 (length nodes - 1)) [
      | inl lt ↦ node_row_total.trans n last.0 node (rises node_row_cmp nodes at.0 (length nodes - 1) n last.0 order at.1 last.1 lt) low
      | inr le ↦
          let place : length nodes - 1 ≡ at.0 = omega (arith, le, within) in
          subst (λ (z : NodeRow). node_row_cmp z node ≡ Less) (same_Some last.0 n (sym last.1 ∙ ap (slice_get nodes) place ∙ at.1)) low
    ]

-- a tag is told by the row
one_tag : AlternativesAreOne → (core : List Nonterminal) (row : ItemRow) (a b : Tag) → IsTagged core row a → IsTagged core row b → a ≡ b
one_tag alternatives_one core row a b p q =
    let e =
    alternatives_one core row.nonterminal row.alternative p.last.nonterminal q.last.nonterminal p.last.alternative q.last.alternative
    p.last.has q.last.has in
    p.tagged ∙ ap (λ (z : CoreAlt). z.tag) e.alternatives ∙ sym q.tagged

-- the tag that the core grammar gives
pub tag_there : (core : List Nonterminal) (row : ItemRow) (r : Option Tag) → StandsLast core row →
    r ≡ option_map (λ a. a.tag) (alternative_at core row.nonterminal row.alternative) → (tag : Tag) × (r ≡ Some tag) × IsTagged core row tag
tag_there core row r last is =
    let a : alternative_at core row.nonterminal row.alternative ≡ Some last.alternative =
    ap (option_and_then (λ (z : Nonterminal). numbered z.alternatives row.alternative)) last.has.there ∙ last.has.has in
    (last.alternative.tag, is ∙ ap (option_map (λ (z : CoreAlt). z.tag)) a, record { last = last; tagged = refl })

-- the last node
choice_pushed : (nodes : List StoredNode) (node : StoredNode) (c : Choice) →
    with_choice (nodes ++ node ∷ []) c ≡ nodes ++ record { row = node.row; alternatives = node.alternatives ++ c ∷ [] } ∷ []
choice_pushed [] node c = refl
choice_pushed (n ∷ []) node c = refl
choice_pushed (n ∷ m ∷ nodes) node c = ap (λ (z : List StoredNode). n ∷ z) (choice_pushed (m ∷ nodes) node c)

last_split : (nodes : List StoredNode) (row : NodeRow) → EndsWith nodes row →
    (init : List StoredNode) × (alternatives : List Choice) × (nodes ≡ init ++ record { row = row; alternatives = alternatives } ∷ [])
last_split [] row e = cc
last_split (n ∷ []) row e =
    let same : n.row ≡ row = same_Some n.row row e in
    ([], n.alternatives, (λ i. (let m : StoredNode = record { row = same i; alternatives = n.alternatives } in m) ∷ []))
last_split (n ∷ m ∷ nodes) row e =
    let place : length (n ∷ m ∷ nodes) - 1 ≡ suc (length (m ∷ nodes) - 1) = omega arith in
    let s = last_split (m ∷ nodes) row (sym (ap (slice_get (rows_in (n ∷ m ∷ nodes))) place) ∙ e) in
    (n ∷ s.0, s.1, λ i. n ∷ s.2 i)

rows_pushed : (nodes : List StoredNode) (node : StoredNode) → rows_in (nodes ++ node ∷ []) ≡ rows_in nodes ++ node.row ∷ []
rows_pushed nodes node = map-append (λ (n : StoredNode). n.row) nodes (node ∷ [])

-- one more row, above all
module _ (core : List Nonterminal) (rows : List ItemRow) (row : ItemRow) where
  abbrev More : List ItemRow
  More = rows ++ row ∷ []

  choice_left : (n : NodeRow) (c : Choice) → IsChoiceRow core rows n c → IsChoiceRow core More n c
  choice_left n c h = record { row = h.row; numbered = left_at rows (row ∷ []) c.item h.row h.numbered; node_is = h.node_is; tag = h.tag }

  choice_cases : (n : NodeRow) (c : Choice) → IsChoiceRow core More n c →
      IsChoiceRow core rows n c ⊎ ((c.item ≡ length rows) × (node_of row ≡ n) × IsTagged core row c.tag)
  choice_cases n c h =
      elim (place_cases rows row h.row c.item h.numbered) [
        | inl old ↦ inl (record { row = h.row; numbered = old; node_is = h.node_is; tag = h.tag })
        | inr new ↦ inr (new.0, ap node_of new.1 ∙ h.node_is, subst (λ (z : ItemRow). IsTagged core z c.tag) (sym new.1) h.tag)
      ]

  choices_stay : (n : NodeRow) (cs : List Choice) → (node_of row ≡ n → StandsLast core row → ⊥) → HasChoices choice_item_cmp core rows n cs → HasChoices choice_item_cmp core More n cs
  choices_stay n cs never has = record {
    members = λ c. (
      λ h. choice_left n c ((has.members c).0 h),
      λ h. elim (choice_cases n c h) [ inl old ↦ (has.members c).1 old | inr new ↦ absurd (never new.1 new.2.last) ],
    );
    order = has.order;
  }

  choices_grow : AlternativesAreOne → (n : NodeRow) (cs : List Choice) (tag : Tag) → node_of row ≡ n → IsTagged core row tag → HasChoices choice_item_cmp core rows n cs →
      HasChoices choice_item_cmp core More n (cs ++ record { tag = tag; item = length rows } ∷ [])
  choices_grow alternatives_one n cs tag is tagged has =
      let new_choice : Choice = record { tag = tag; item = length rows } in
      record {
        members = λ c. (
          λ h. elim (Contains-push_cases cs new_choice c h) [
            | inl old ↦ choice_left n c ((has.members c).0 old)
            | inr same ↦ subst (IsChoiceRow core More n) same (record { row = row; numbered = place_last rows row; node_is = is; tag = tagged })
          ],
          λ h. elim (choice_cases n c h) [
            | inl old ↦ Contains-append_left cs (new_choice ∷ []) c ((has.members c).1 old)
            | inr new ↦
                let t : c.tag ≡ tag = one_tag alternatives_one core row c.tag tag new.2 tagged in
                let e : c ≡ new_choice = (λ i. record { tag = t i; item = new.0 i }) in
                subst (Contains (cs ++ new_choice ∷ [])) (sym e) (Contains-push cs new_choice)
          ],
        );
        order =
            strict_push choice_item_cmp cs new_choice has.order
            (λ x h. let g = (has.members x).0 h in less_number x.item (length rows) (slice_get_within rows x.item g.row g.numbered));
      }

  left_done : (n : NodeRow) → (x : ItemRow) × Contains rows x × IsDoneRow core x n → (x : ItemRow) × Contains More x × IsDoneRow core x n
  left_done n p = (p.0, Contains-append_left rows (row ∷ []) p.0 p.1, p.2)

  nodes_stay : (ns : List NodeRow) → (StandsLast core row → ⊥) → AreNodesOf core rows ns → AreNodesOf core More ns
  nodes_stay ns never are = record {
    members = λ n. (
      λ c. left_done n ((are.members n).0 c),
      λ h. elim (Contains-push_cases rows row h.0 h.1) [
        | inl old ↦ (are.members n).1 (h.0, old, h.2)
        | inr same ↦ absurd (never (subst (StandsLast core) (sym same) h.2.last))
      ],
    );
    order = are.order;
  }

  nodes_same : (ns : List NodeRow) → Contains ns (node_of row) → AreNodesOf core rows ns → AreNodesOf core More ns
  nodes_same ns there are = record {
    members = λ n. (
      λ c. left_done n ((are.members n).0 c),
      λ h. elim (Contains-push_cases rows row h.0 h.1) [
        | inl old ↦ (are.members n).1 (h.0, old, h.2)
        | inr same ↦ subst (Contains ns) (ap node_of same ∙ h.2.node_is) there
      ],
    );
    order = are.order;
  }

  nodes_grow : (ns : List NodeRow) → StandsLast core row → ((n : NodeRow) → Contains ns n → node_row_cmp n (node_of row) ≡ Less) →
      AreNodesOf core rows ns → AreNodesOf core More (ns ++ node_of row ∷ [])
  nodes_grow ns last below are = record {
    members = λ n. (
      λ c. elim (Contains-push_cases ns (node_of row) n c) [
        | inl old ↦ left_done n ((are.members n).0 old)
        | inr same ↦ (row, Contains-push rows row, record { last = last; node_is = same })
      ],
      λ h. elim (Contains-push_cases rows row h.0 h.1) [
        | inl old ↦ Contains-append_left ns (node_of row ∷ []) n ((are.members n).1 (h.0, old, h.2))
        | inr same ↦ subst (Contains (ns ++ node_of row ∷ [])) (ap node_of same ∙ h.2.node_is) (Contains-push ns (node_of row))
      ],
    );
    order = strict_push node_row_cmp ns (node_of row) are.order below;
  }

  numbers_grow : (table after : List StoredNode) (numbers : List ℕ) (v : ℕ) → length numbers ≡ length rows →
      ((k : ℕ) (n : NodeRow) → slice_get (rows_in table) k ≡ Some n → slice_get (rows_in after) k ≡ Some n) →
      (StandsLast core row → slice_get (rows_in after) v ≡ Some (node_of row)) →
      ((k : ℕ) (x : ItemRow) → slice_get rows k ≡ Some x → StandsLast core x → IsNumbered table numbers k x) →
      (k : ℕ) (x : ItemRow) → slice_get More k ≡ Some x → StandsLast core x → IsNumbered after (numbers ++ v ∷ []) k x
  numbers_grow table after numbers v long onward here so_far k x at last =
      elim (place_cases rows row x k at) [
        | inl old ↦
            let n = so_far k x old last in
            record { number = n.number; there = left_at numbers (v ∷ []) k n.number n.there; node = onward n.number (node_of x) n.node }
        | inr new ↦
            record {
              number = v;
              there = ap (slice_get (numbers ++ v ∷ [])) (new.0 ∙ sym long) ∙ place_last numbers v;
              node = here (subst (StandsLast core) (sym new.1) last) ∙ ap (λ (z : ItemRow). Some (node_of z)) new.1;
            }
      ]

  -- it isn't complete
  pub step_skips : (table : List StoredNode) (numbers more : List ℕ) (v : ℕ) → (StandsLast core row → ⊥) → more ≡ numbers ++ v ∷ [] →
      AreNodesWith choice_item_cmp core rows table numbers → AreNodesWith choice_item_cmp core More table more
  step_skips table numbers more v never is are =
      let longer = length_push rows row in
      subst (AreNodesWith choice_item_cmp core More table) (sym is)
      (record {
        nodes = nodes_stay (rows_in table) never are.nodes;
        choices = λ n c. choices_stay n.row n.alternatives (λ e last. never last) (are.choices n c);
        few = let f = are.few in omega (arith, f, longer);
        long = let n = length_push numbers v in let l = are.long in omega (arith, n, l, longer);
        numbered = numbers_grow table table numbers v are.long (λ k n e. e) (λ last. absurd (never last)) are.numbered;
      })

  -- it is complete, and its node is the last one now
  module _ (alternatives_one : AlternativesAreOne) (table : List StoredNode) (numbers : List ℕ) (tag : Tag) (tagged : IsTagged core row tag)
      (are : AreNodesWith choice_item_cmp core rows table numbers) where
    Grown : List StoredNode → List Choice → List StoredNode
    Grown init cs = init ++ record { row = node_of row; alternatives = cs ++ record { tag = tag; item = length rows } ∷ [] } ∷ []

    grown_choices : (init : List StoredNode) (cs : List Choice) → ((n : StoredNode) → Contains init n → n.row ≡ node_of row → ⊥) →
        ((n : StoredNode) → Contains init n → HasChoices choice_item_cmp core rows n.row n.alternatives) → HasChoices choice_item_cmp core rows (node_of row) cs →
        (n : StoredNode) → Contains (Grown init cs) n → HasChoices choice_item_cmp core More n.row n.alternatives
    unfolding Grown
    grown_choices init cs other has here n c =
        elim (Contains-push_cases init (record { row = node_of row; alternatives = cs ++ record { tag = tag; item = length rows } ∷ [] }) n c) [
          | inl old ↦ choices_stay n.row n.alternatives (λ e last. other n old (sym e)) (has n old)
          | inr same ↦
              subst (λ (z : StoredNode). HasChoices choice_item_cmp core More z.row z.alternatives) same (choices_grow alternatives_one (node_of row) cs tag refl tagged here)
        ]

    grown : (init : List StoredNode) (cs : List Choice) (after : List StoredNode) (more : List ℕ) (v : ℕ) → after ≡ Grown init cs →
        more ≡ numbers ++ v ∷ [] → v ≡ length after - 1 → length init ≤ length rows → AreNodesOf core More (rows_in init ++ node_of row ∷ []) →
        ((k : ℕ) (n : NodeRow) → slice_get (rows_in table) k ≡ Some n → slice_get (rows_in init ++ node_of row ∷ []) k ≡ Some n) →
        ((n : StoredNode) → Contains init n → n.row ≡ node_of row → ⊥) →
        ((n : StoredNode) → Contains init n → HasChoices choice_item_cmp core rows n.row n.alternatives) → HasChoices choice_item_cmp core rows (node_of row) cs →
        AreNodesWith choice_item_cmp core More after more
    unfolding Grown
    grown init cs after more v is more_is v_is few nodes onward other has here =
        let added : StoredNode = record { row = node_of row; alternatives = cs ++ record { tag = tag; item = length rows } ∷ [] } in
        let rows_are : rows_in after ≡ rows_in init ++ node_of row ∷ [] = ap rows_in is ∙ rows_pushed init added in
        let longer = length_push rows row in
        let long : length after ≡ length init + 1 = ap length is ∙ length_push init added in
        let place : v ≡ length (rows_in init) = let l = length-map init (λ (n : StoredNode). n.row) in omega (arith, v_is, long, l) in
        subst (AreNodesWith choice_item_cmp core More after) (sym more_is)
        (record {
          nodes = subst (AreNodesOf core More) (sym rows_are) nodes;
          choices = λ n c. grown_choices init cs other has here n (subst (λ (z : List StoredNode). Contains z n) is c);
          few = omega (arith, few, long, longer);
          long = let n = length_push numbers v in let l = are.long in omega (arith, n, l, longer);
          numbered =
              numbers_grow table after numbers v are.long
              (λ k n e. ap (λ (z : List NodeRow). slice_get z k) rows_are ∙ onward k n e)
              (λ last.
              ap (λ (z : List NodeRow). slice_get z v) rows_are ∙ ap (slice_get (rows_in init ++ node_of row ∷ [])) place ∙
              place_last (rows_in init) (node_of row))
              are.numbered;
        })

    -- its node was the last one
    grown_same : (after : List StoredNode) (more : List ℕ) (v : ℕ) → EndsWith table (node_of row) →
        after ≡ with_choice table (record { tag = tag; item = length rows }) → more ≡ numbers ++ v ∷ [] → v ≡ length after - 1 →
        AreNodesWith choice_item_cmp core More after more
    unfolding Grown
    grown_same after more v ends is more_is v_is =
        let (init, cs, split) = last_split table (node_of row) ends in
        let c : Choice = record { tag = tag; item = length rows } in
        let last : StoredNode = record { row = node_of row; alternatives = cs } in
        let rows_are : rows_in table ≡ rows_in init ++ node_of row ∷ [] = ap rows_in split ∙ rows_pushed init last in
        let ordered : IsStrictlySortedBy node_row_cmp (rows_in init ++ node_of row ∷ []) =
        subst (IsStrictlySortedBy node_row_cmp) rows_are are.nodes.order in
        let few = are.few in
        let long : length table ≡ length init + 1 = ap length split ∙ length_push init last in
        let in_table : (n : StoredNode) → Contains (init ++ last ∷ []) n → Contains table n =
        λ n h. subst (λ (z : List StoredNode). Contains z n) (sym split) h in
        grown init cs after more v (is ∙ ap (λ (z : List StoredNode). with_choice z c) split ∙ choice_pushed init last c) more_is v_is
        (omega (arith, few, long))
        (subst (AreNodesOf core More) rows_are
        (nodes_same (rows_in table) (contains_from_at (rows_in table) (length table - 1) (node_of row) ends) are.nodes))
        (λ k n e. ap (λ (z : List NodeRow). slice_get z k) (sym rows_are) ∙ e)
        (λ n h same.
        let at = at_from_contains (rows_in init) n.row (mapped_in (λ (m : StoredNode). m.row) init n h) in
        let less : node_row_cmp n.row (node_of row) ≡ Less =
        rises node_row_cmp (rows_in init ++ node_of row ∷ []) at.0 (length (rows_in init)) n.row (node_of row) ordered
        (left_at (rows_in init) (node_of row ∷ []) at.0 n.row at.1) (place_last (rows_in init) (node_of row)) (slice_get_within (rows_in init) at.0 n.row at.1) in
        let tied : node_row_cmp (node_of row) (node_of row) ≡ Equal = tied_itself node_row_total (node_of row) in
        let lower : node_row_cmp (node_of row) (node_of row) ≡ Less = subst (λ (z : NodeRow). node_row_cmp z (node_of row) ≡ Less) same less in
        cc)
        (λ n h. are.choices n (in_table n (Contains-append_left init (last ∷ []) n h)))
        (are.choices last (in_table last (Contains-push init last)))

    -- it is a new one
    grown_new : (after : List StoredNode) (more : List ℕ) (v : ℕ) → ((x : ItemRow) → Contains rows x → row_cmp x row ≡ Less) →
        (EndsWith table (node_of row) → ⊥) →
        after ≡ with_choice (table ++ record { row = node_of row; alternatives = [] } ∷ []) (record { tag = tag; item = length rows }) →
        more ≡ numbers ++ v ∷ [] → v ≡ length after - 1 → AreNodesWith choice_item_cmp core More after more
    unfolding Grown
    grown_new after more v below never is more_is v_is =
        let c : Choice = record { tag = tag; item = length rows } in
        let last : StoredNode = record { row = node_of row; alternatives = [] } in
        let lower : (n : NodeRow) → Contains (rows_in table) n → node_row_cmp n (node_of row) ≡ Less =
        all_below (rows_in table) (node_of row) are.nodes.order
        (λ n h.
        let (x, among, done) = (are.nodes.members n).0 h in
        elim (node_rises x row (below x among)) [
          | inl less ↦ inl (subst (λ (z : NodeRow). node_row_cmp z (node_of row) ≡ Less) done.node_is less)
          | inr same ↦ inr (sym done.node_is ∙ same)
        ])
        (λ e. never (ap (λ (m : ℕ). slice_get (rows_in table) (m - 1)) (sym (length-map table (λ (n : StoredNode). n.row))) ∙ e)) in
        let absent : Contains (rows_in table) (node_of row) → ⊥ =
        λ h.
        let tied : node_row_cmp (node_of row) (node_of row) ≡ Equal = tied_itself node_row_total (node_of row) in
        let less : node_row_cmp (node_of row) (node_of row) ≡ Less = lower (node_of row) h in
        cc in
        grown table [] after more v (is ∙ choice_pushed table last c) more_is v_is are.few
        (nodes_grow (rows_in table) tagged.last lower are.nodes)
        (λ k n e. left_at (rows_in table) (node_of row ∷ []) k n e)
        (λ n h same. absent (subst (Contains (rows_in table)) same (mapped_in (λ (m : StoredNode). m.row) table n h)))
        are.choices
        (record {
          members = λ d. (
            λ h. absurd (omega (arith, h.1)),
            λ h.
                absurd (absent ((are.nodes.members (node_of row)).1
                (h.row, contains_from_at rows d.item h.row h.numbered, record { last = h.tag.last; node_is = h.node_is }))),
          );
          order = strict_none choice_item_cmp;
        })

    pub step_adds : (opened after : List StoredNode) (more : List ℕ) (place v : ℕ) → ((x : ItemRow) → Contains rows x → row_cmp x row ≡ Less) →
        place ≡ length rows → Opens (node_of row) table opened → after ≡ with_choice opened (record { tag = tag; item = place }) →
        more ≡ numbers ++ v ∷ [] → v ≡ length after - 1 → AreNodesWith choice_item_cmp core More after more
    step_adds opened after more place v below place_is (opens.same ends same) is more_is v_is =
        grown_same after more v ends
        (is ∙ ap (λ (z : List StoredNode). with_choice z (record { tag = tag; item = place })) same ∙
        ap (λ (k : ℕ). with_choice table (record { tag = tag; item = k })) place_is) more_is v_is
    step_adds opened after more place v below place_is (opens.new never new) is more_is v_is =
        let last : StoredNode = record { row = node_of row; alternatives = [] } in
        grown_new after more v below never
        (is ∙ ap (λ (z : List StoredNode). with_choice z (record { tag = tag; item = place })) new ∙
        ap (λ (k : ℕ). with_choice (table ++ last ∷ []) (record { tag = tag; item = k })) place_is) more_is v_is

-- no rows
pub nodes_none : (core : List Nonterminal) (table : List StoredNode) (numbers : List ℕ) → table ≡ [] → numbers ≡ [] → AreNodesWith choice_item_cmp core [] table numbers
nodes_none core table numbers no_nodes no_numbers =
    subst (λ (z : List StoredNode). AreNodesWith choice_item_cmp core [] z numbers) (sym no_nodes)
    (subst (λ (z : List ℕ). AreNodesWith choice_item_cmp core [] [] z) (sym no_numbers)
    (record {
      nodes = record {
        members = λ n. (λ c. absurd (omega (arith, c.1)), λ h. absurd (let lt = h.1.1 in omega (arith, lt)));
        order = strict_none node_row_cmp;
      };
      choices = λ n c. absurd (omega (arith, c.1));
      few = omega arith;
      long = refl;
      numbered = λ k x at last. cc;
    }))

-- how many nodes there are
choice_long : (nodes : List StoredNode) (c : Choice) → length (with_choice nodes c) ≡ length nodes
choice_long [] c = refl
choice_long (n ∷ []) c = refl
choice_long (n ∷ m ∷ nodes) c = ap suc (choice_long (m ∷ nodes) c)

opens_long : (node : NodeRow) (before after : List StoredNode) → Opens node before after → (0 < length after) × (length after ≤ length before + 1)
opens_long node before after (opens.same ends is) =
    let within = slice_get_within (rows_in before) (length before - 1) node ends in
    let long = length-map before (λ (n : StoredNode). n.row) in
    let same = ap length is in
    (omega (arith, within, long, same), omega (arith, same))
opens_long node before after (opens.new never is) =
    let same = ap length is ∙ length_push before (record { row = node; alternatives = [] }) in (omega (arith, same), omega (arith, same))

module _ (items : List Item) (keys : List InstanceKey) (places : List ℕ) (marks : List Mark) (order : List ℕ)
    (live : AreLiveInOrder marks (number_cmp items keys places) order) where
  -- the item of each place is a live one of the run
  number_within : (n : ℕ) → Contains order n → n < length marks
  number_within n c = marked_within marks n ((live.members n).0 c)

  apart : (i j d : ℕ) → i < j → j < length order → get_or order i d ≢ get_or order j d
  apart i j d below within same =
      let less : number_cmp items keys places (get_or order i d) (get_or order j d) ≡ Less =
      rises (number_cmp items keys places) order i j (get_or order i d) (get_or order j d) live.order_is
      (slice_get-get_or order i d (omega (arith, below, within))) (slice_get-get_or order j d within) below in
      let tied : number_cmp items keys places (get_or order j d) (get_or order j d) ≡ Equal =
      tied_itself (number_total items keys places) (get_or order j d) in
      let lower : number_cmp items keys places (get_or order j d) (get_or order j d) ≡ Less =
      subst (λ (n : ℕ). number_cmp items keys places n (get_or order j d) ≡ Less) same less in
      cc

  -- there are no more live items than items
  pub order_short : length order ≤ length marks
  order_short =
      length-le_from_distinct_below order (length marks) (IsDistinct-from_AllPairs Decides-eqb order apart)
      (λ q e. number_within q ((is_member-Decides Decides-eqb order q).0 e))

  rows_below : (place d : ℕ) → place < length order → (x : ItemRow) → Contains (rows_of items keys places (take place order)) x →
      row_cmp x (row_of items keys places (get_or order place d)) ≡ Less
  rows_below place d lt x c =
      let (n, among, is) = unmapped_in (row_of items keys places) (take place order) x c in
      let long = length-take-le place order (omega (arith, lt)) in
      let within = among.1 in
      let low : among.0 < place = omega (arith, within, long) in
      let at : slice_get order among.0 ≡ Some n =
      slice_get-get_or order among.0 n (omega (arith, low, lt)) ∙ ap Some (sym (get_or-take place order among.0 n low) ∙ among.2) in
      subst (λ (z : ItemRow). row_cmp z (row_of items keys places (get_or order place d)) ≡ Less) is
      (rises (number_cmp items keys places) order among.0 place n (get_or order place d) live.order_is at
      (slice_get-get_or order place d lt) low)

  rows_long : (place : ℕ) → place ≤ length order → length (rows_of items keys places (take place order)) ≡ place
  rows_long place le = length-map (take place order) (row_of items keys places) ∙ length-take-le place order le

  -- the items of the first places and the next one
  module _ (core : List Nonterminal) (complete : MarkComplete core items keys places marks) (place d : ℕ) (within : place < length order) where
    is_live_here : slice_get (map is_live marks) (get_or order place d) ≡ Some true
    is_live_here = (live.members (get_or order place d)).0 (Contains-get_or order place d within)

    pub here_within : get_or order place d < length marks
    here_within = number_within (get_or order place d) (Contains-get_or order place d within)

    pub stands_last : (m : Mark) → get_or marks (get_or order place d) m ≡ Complete → StandsLast core (row_of items keys places (get_or order place d))
    stands_last m is = ((complete (get_or order place d)).0 (slice_get-get_or marks (get_or order place d) m here_within ∙ ap Some is)).1

    pub item_skips : (m : Mark) (table : List StoredNode) (numbers more : List ℕ) → (get_or marks (get_or order place d) m ≡ Complete → ⊥) →
        more ≡ numbers ++ 0 ∷ [] → NodesUpTo core items keys places order place table numbers →
        NodesUpTo core items keys places order (place + 1) table more
    item_skips m table numbers more never is before =
        subst (λ (z : List ItemRow). AreNodesWith choice_item_cmp core z table more) (sym (map_more (row_of items keys places) order place d within))
        (step_skips core (rows_of items keys places (take place order)) (row_of items keys places (get_or order place d)) table numbers more 0
        (λ last.
        never (same_Some (get_or marks (get_or order place d) m) Complete
        (sym (slice_get-get_or marks (get_or order place d) m here_within) ∙ (complete (get_or order place d)).1 (is_live_here, last)))) is before)

    pub item_added : AlternativesAreOne → (row : ItemRow) (table opened after : List StoredNode) (numbers more : List ℕ) (tag : Tag) (v : ℕ) →
        row ≡ row_of items keys places (get_or order place d) → IsTagged core row tag → Opens (node_of row) table opened →
        after ≡ with_choice opened (record { tag = tag; item = place }) → more ≡ numbers ++ v ∷ [] → v ≡ length after - 1 →
        NodesUpTo core items keys places order place table numbers → NodesUpTo core items keys places order (place + 1) after more
    item_added alternatives_one row table opened after numbers more tag v row_is tagged opens is more_is v_is before =
        subst (λ (z : List ItemRow). AreNodesWith choice_item_cmp core z after more) (sym (map_more (row_of items keys places) order place d within))
        (step_adds core (rows_of items keys places (take place order)) (row_of items keys places (get_or order place d)) alternatives_one table numbers tag
        (subst (λ (z : ItemRow). IsTagged core z tag) row_is tagged) before opened after more place v (rows_below place d within)
        (sym (rows_long place (omega (arith, within)))) (subst (λ (z : ItemRow). Opens (node_of z) table opened) row_is opens) is more_is v_is)

    -- how many nodes there are then
    pub nodes_count : (node : NodeRow) (table opened after : List StoredNode) (numbers : List ℕ) (c : Choice) → Opens node table opened →
        after ≡ with_choice opened c → NodesUpTo core items keys places order place table numbers →
        (0 < length after) × (length after ≤ length marks)
    nodes_count node table opened after numbers c opens is before =
        let o = opens_long node table opened opens in
        let same = ap length is ∙ choice_long opened c in
        let few = before.few in
        let long = rows_long place (omega (arith, within)) in
        let short = order_short in
        (omega (arith, o.0, same), omega (arith, o.1, same, few, long, within, short))
