-- The texts of nodes, of items and of whole drafts tell what they are of.
use Rattle.std.proofs.Common.{◌≡◌, ◌⊎◌, inl, inr, ℕ, suc, ◌<◌, ◌++◌, List, [], ◌∷◌, Some, All, refl, sym, ap, ap₂, ◌∙◌, subst, length, drop, slice_get, arith}
use Rattle.std.specs.Prelude.{codes, flat_map, encode_utf8_all}
use Rattle.std.specs.Fmt.{decimal}
use Rattle.std.proofs.lemmas.List.{append_assoc, append-nil, append_cancel_left}
use Rattle.std.proofs.Math.Seq.{drop-append_seam}
use Rattle.std.specs.List.{AllByRecursion}
use Rattle.ig_expr.specs.declared.value.Value.{Value}
use Rattle.ig_item.specs.declared.core_grammar.Nonterminal.{Nonterminal}
use Rattle.ig_show_texts.specs.Listed.{comma_separated, numbered_texts}
use Rattle.ig_show_texts.specs.ValueText.{places_text, span_text, value_text}
use Rattle.ig_forest_tables.specs.Forest.{Forest, Node, ItemNode}
use Rattle.ig_show_texts.specs.ForestText.{choice_text, head_text, node_text, entry_text, place_text, item_text}
use Rattle.ig_forest_tables.specs.declared.entry.Choice.{Choice}
use Rattle.ig_forest_tables.specs.declared.entry.Entry.{Entry}
use Rattle.ig_forest_tables.specs.declared.entry.Entry.TheVariants.{Begin, Pass, Take}
use Rattle.ig_forest_reader.specs.Written.{TellsNames, IsSmall, IsSmallEntry, IsTagOf, IsNodeOf, IsItemOf, IsDraftOf, HasFirstRoot, TextsTellDrafts}
use Rattle.ig_forest_reader.specs.Runs.{Stops, at_end, at, IsChoice, NoItem}
use Rattle.ig_forest_reader.specs.Shown.{Begun, IsBegunItem}
use Rattle.ig_forest_reader.proofs.Telling.{decimal_told, places_told, stops_at, small_bound, values_told, head_told, tail_told, same_span}
use Rattle.ig_forest_reader.proofs.TellingLines.{Begins, lines_told, numbered_told, by_parts, parts_behind, name_plain, nonterminal_told, same_name, choice_told, entry_told}

-- a first line with further lines
line_joined : (start head middle lines us : List ℕ) →
    ((start ++ (head ++ (32 ∷ (middle ++ (10 ∷ []))))) ++ lines) ++ us ≡
    start ++ (head ++ (32 ∷ (middle ++ (10 ∷ (lines ++ us)))))
line_joined start head middle lines us =
    append_assoc (start ++ (head ++ (32 ∷ (middle ++ (10 ∷ []))))) lines us ∙
    append_assoc start (head ++ (32 ∷ (middle ++ (10 ∷ [])))) (lines ++ us) ∙
    ap (λ (z : List ℕ). start ++ z) (append_assoc head (32 ∷ (middle ++ (10 ∷ []))) (lines ++ us) ∙
    ap (λ (z : List ℕ). head ++ (32 ∷ z)) (append_assoc middle (10 ∷ []) (lines ++ us)))

-- the lines of alternatives begin with an `a`, those of entries not with an `i`
pub choice_begins : (name : List ℕ) (c : Choice) → Begins IsChoice (choice_text name c)
choice_begins name c = record { first = 97; rest = _; is = refl; has = refl }

pub entry_begins : (x : Entry) → Begins NoItem (entry_text x)
entry_begins Begin = record { first = 98; rest = _; is = refl; has = λ h. omega (arith, h) }
entry_begins (Pass i) = record { first = 112; rest = _; is = refl; has = λ h. omega (arith, h) }
entry_begins (Take i x) = record { first = 116; rest = _; is = refl; has = λ h. omega (arith, h) }

pub node_stops : (k : ℕ) (x : Node) (us : List ℕ) → Stops IsChoice (node_text k x ++ us)
node_stops k x us = at 110 _ (λ h. omega (arith, h))

pub item_stops : (k : ℕ) (x : ItemNode) (us : List ℕ) → Stops NoItem (item_text k x ++ us)
item_stops k x us = at 105 _ (λ h. h refl)

pub items_stop : (k : ℕ) (xs : List ItemNode) → Stops IsChoice (numbered_texts item_text k xs)
items_stop k [] = at_end
items_stop k (x ∷ xs) = at 105 _ (λ h. omega (arith, h))

-- nodes
pub node_joined : (k : ℕ) (x : Node) (us : List ℕ) →
    node_text k x ++ us ≡
    codes "node " ++ (head_text k x.name x.values ++ (32 ∷ (span_text x.span ++ (10 ∷ (flat_map (choice_text x.name) x.alternatives ++ us)))))
node_joined k x us =
    line_joined (codes "node ") (head_text k x.name x.values) (span_text x.span) (flat_map (choice_text x.name) x.alternatives) us

pub same_node : (x y : Node) → x.name ≡ y.name → x.nonterminal ≡ y.nonterminal → x.values ≡ y.values → x.span ≡ y.span →
    x.alternatives ≡ y.alternatives → x ≡ y
same_node x y a b c d e =
    λ i. record { name = a i; nonterminal = b i; values = c i; span = d i; alternatives = e i }

-- items
pub place_joined : (a d c p us : List ℕ) →
    (a ++ (32 ∷ (d ++ (32 ∷ (91 ∷ ((c ++ (93 ∷ [])) ++ (32 ∷ p))))))) ++ us ≡
    a ++ (32 ∷ (d ++ (32 ∷ (91 ∷ (c ++ (93 ∷ (32 ∷ (p ++ us))))))))
place_joined a d c p us =
    append_assoc a (32 ∷ (d ++ (32 ∷ (91 ∷ ((c ++ (93 ∷ [])) ++ (32 ∷ p)))))) us ∙
    ap (λ (z : List ℕ). a ++ (32 ∷ z)) (append_assoc d (32 ∷ (91 ∷ ((c ++ (93 ∷ [])) ++ (32 ∷ p)))) us ∙
    ap (λ (z : List ℕ). d ++ (32 ∷ (91 ∷ z))) (append_assoc (c ++ (93 ∷ [])) (32 ∷ p) us ∙
    append_assoc c (93 ∷ []) (32 ∷ (p ++ us))))

pub item_joined : (k : ℕ) (x : ItemNode) (us : List ℕ) →
    item_text k x ++ us ≡
    codes "item " ++ (head_text k x.name x.values ++ (32 ∷ (place_text x ++ (10 ∷ (flat_map entry_text x.entries ++ us)))))
item_joined k x us =
    line_joined (codes "item ") (head_text k x.name x.values) (place_text x) (flat_map entry_text x.entries) us

pub bound_is : (x : ItemNode) (b : Begun x) → drop (length x.values) x.env ≡ b.0
bound_is x b = ap (λ (z : List Value). drop (length x.values) z) b.1 ∙ drop-append_seam x.values b.0

pub bound_small : (x : ItemNode) (b : Begun x) → All IsSmall x.env → AllByRecursion IsSmall b.0
bound_small x b a =
    parts_behind IsSmall x.values b.0 (by_parts IsSmall (x.values ++ b.0) (subst (All IsSmall) b.1 a))

pub same_item : (x y : ItemNode) → x.name ≡ y.name → x.nonterminal ≡ y.nonterminal → x.values ≡ y.values → x.start ≡ y.start →
    x.alternative ≡ y.alternative → x.dot ≡ y.dot → x.env ≡ y.env → x.position ≡ y.position → x.entries ≡ y.entries → x ≡ y
same_item x y a b c d e f g h j =
    λ i. record { name = a i; nonterminal = b i; values = c i; start = d i; alternative = e i; dot = f i; env = g i; position = h i; entries = j i }

-- what stands in the line of an item after its values
pub record SamePlace (x y : ItemNode) (us vs : List ℕ) : Type 0 where
  pub alternative : x.alternative ≡ y.alternative
  pub dot : x.dot ≡ y.dot
  pub env : x.env ≡ y.env
  pub start : x.start ≡ y.start
  pub position : x.position ≡ y.position
  pub rest : us ≡ vs

abbrev listed : ItemNode → List ℕ
listed x = comma_separated value_text (drop (length x.values) x.env)

module _ (core : List Nonterminal) where
  place_told : (x y : ItemNode) (us vs : List ℕ) → IsItemOf core x → IsItemOf core y → Begun x → Begun y →
      x.values ≡ y.values → place_text x ++ (10 ∷ us) ≡ place_text y ++ (10 ∷ vs) → SamePlace x y us vs
  place_told x y us vs p q b c values e =
      let line = sym (place_joined (decimal x.alternative) (decimal x.dot) (listed x) (places_text x.start x.position) (10 ∷ us)) ∙ e ∙
      place_joined (decimal y.alternative) (decimal y.dot) (listed y) (places_text y.start y.position) (10 ∷ vs) in
      let alternative = decimal_told x.alternative y.alternative _ _ (small_bound _ p.alternative) (small_bound _ q.alternative)
      (stops_at 32 _ (omega arith)) (stops_at 32 _ (omega arith)) line in
      let dot = decimal_told x.dot y.dot _ _ (small_bound _ p.dot) (small_bound _ q.dot) (stops_at 32 _ (omega arith))
      (stops_at 32 _ (omega arith)) (tail_told 32 _ _ alternative.1) in
      let behind = tail_told 91 _ _ (tail_told 32 _ _ dot.1) in
      let shown : comma_separated value_text b.0 ++ (93 ∷ (32 ∷ (places_text x.start x.position ++ (10 ∷ us)))) ≡
      comma_separated value_text c.0 ++ (93 ∷ (32 ∷ (places_text y.start y.position ++ (10 ∷ vs)))) =
      ap (λ (z : List Value). comma_separated value_text z ++ (93 ∷ (32 ∷ (places_text x.start x.position ++ (10 ∷ us))))) (sym (bound_is x b)) ∙
      behind ∙
      ap (λ (z : List Value). comma_separated value_text z ++ (93 ∷ (32 ∷ (places_text y.start y.position ++ (10 ∷ vs))))) (bound_is y c) in
      let bound = values_told 93 b.0 c.0 _ _ (λ h. h.1 refl) (λ h. omega (arith, h)) (bound_small x b p.env) (bound_small y c q.env) shown in
      let places = places_told x.start x.position y.start y.position _ _ (small_bound _ p.start) (small_bound _ p.position)
      (small_bound _ q.start) (small_bound _ q.position) (stops_at 10 us (omega arith)) (stops_at 10 vs (omega arith))
      (tail_told 32 _ _ bound.1) in
      record {
        alternative = alternative.0;
        dot = dot.0;
        env = b.1 ∙ ap₂ (λ (z w : List Value). z ++ w) values bound.0 ∙ sym c.1;
        start = places.0;
        position = places.1;
        rest = tail_told 10 us vs places.2;
      }

module _ (core : List Nonterminal) (tells : TellsNames core) where
  node_told : (k : ℕ) (x y : Node) (us vs : List ℕ) → IsNodeOf core x → IsNodeOf core y → Stops IsChoice us → Stops IsChoice vs →
      node_text k x ++ us ≡ node_text k y ++ vs → (x ≡ y) × (us ≡ vs)
  node_told k x y us vs p q s t e =
      let line = append_cancel_left (codes "node ") _ _ (sym (node_joined k x us) ∙ e ∙ node_joined k y vs) in
      let head = head_told (decimal k) (encode_utf8_all x.name) (encode_utf8_all y.name) x.values y.values _ _
      (name_plain core tells x.nonterminal x.name p.named) (name_plain core tells y.nonterminal y.name q.named)
      (by_parts IsSmall x.values p.values) (by_parts IsSmall y.values q.values) line in
      let number = nonterminal_told core tells x.nonterminal y.nonterminal x.name y.name p.named q.named head.0 in
      let name = same_name core tells x.nonterminal y.nonterminal x.name y.name number p.named q.named in
      let span = places_told x.span.begin x.span.end y.span.begin y.span.end _ _ (small_bound _ p.span.begin)
      (small_bound _ p.span.end) (small_bound _ q.span.begin) (small_bound _ q.span.end) (stops_at 10 _ (omega arith))
      (stops_at 10 _ (omega arith)) (tail_told 32 _ _ head.2) in
      let lines = tail_told 10 _ _ span.2 ∙
      ap (λ (z : List ℕ). flat_map (choice_text z) y.alternatives ++ vs) (sym name) in
      let choices = lines_told IsChoice (IsTagOf core x.nonterminal) (choice_text x.name) (choice_begins x.name)
      (choice_told core tells x.nonterminal x.name p.named) x.alternatives y.alternatives us vs
      (by_parts (IsTagOf core x.nonterminal) x.alternatives p.tags)
      (by_parts (IsTagOf core x.nonterminal) y.alternatives
      (subst (λ (z : ℕ). All (IsTagOf core z) y.alternatives) (sym number) q.tags)) s t lines in
      (same_node x y name number head.1 (same_span x.span y.span span.0 span.1) choices.0, choices.1)

  item_told : (k : ℕ) (x y : ItemNode) (us vs : List ℕ) → IsBegunItem core x → IsBegunItem core y → Stops NoItem us → Stops NoItem vs →
      item_text k x ++ us ≡ item_text k y ++ vs → (x ≡ y) × (us ≡ vs)
  item_told k x y us vs (p, b) (q, c) s t e =
      let line = append_cancel_left (codes "item ") _ _ (sym (item_joined k x us) ∙ e ∙ item_joined k y vs) in
      let head = head_told (decimal k) (encode_utf8_all x.name) (encode_utf8_all y.name) x.values y.values _ _
      (name_plain core tells x.nonterminal x.name p.named) (name_plain core tells y.nonterminal y.name q.named)
      (by_parts IsSmall x.values p.values) (by_parts IsSmall y.values q.values) line in
      let number = nonterminal_told core tells x.nonterminal y.nonterminal x.name y.name p.named q.named head.0 in
      let name = same_name core tells x.nonterminal y.nonterminal x.name y.name number p.named q.named in
      let place = place_told core x y _ _ p q b c head.1 (tail_told 32 _ _ head.2) in
      let entries = lines_told NoItem IsSmallEntry entry_text entry_begins entry_told x.entries y.entries us vs
      (by_parts IsSmallEntry x.entries p.entries) (by_parts IsSmallEntry y.entries q.entries) s t place.rest in
      (same_item x y name number head.1 place.start place.alternative place.dot place.env place.position entries.0, entries.1)

-- what holds at each number
pub each_there : {X : Type 0} (P : X → Type 0) (xs : List X) → ((k : ℕ) (x : X) → slice_get xs k ≡ Some x → P x) → AllByRecursion P xs
each_there P [] f = tt
each_there P (x ∷ xs) f = (f 0 x refl, each_there P xs (λ k y e. f (suc k) y e))

pub both_parts : {X : Type 0} (P Q : X → Type 0) (xs : List X) → AllByRecursion P xs → AllByRecursion Q xs →
    AllByRecursion (λ x. P x × Q x) xs
both_parts P Q [] a b = tt
both_parts P Q (x ∷ xs) a b = ((a.0, b.0), both_parts P Q xs a.1 b.1)

-- the heading
pub heading_joined : (n m us : List ℕ) →
    (codes "forest " ++ (n ++ (32 ∷ (m ++ (10 ∷ []))))) ++ us ≡ codes "forest " ++ (n ++ (32 ∷ (m ++ (10 ∷ us))))
heading_joined n m us =
    ap (λ (z : List ℕ). codes "forest " ++ z) (append_assoc n (32 ∷ (m ++ (10 ∷ []))) us ∙
    ap (λ (z : List ℕ). n ++ (32 ∷ z)) (append_assoc m (10 ∷ []) us))

-- roots that are first are the same
compared : (m n : ℕ) → (m < n) ⊎ ((m ≡ n) ⊎ (n < m))
compared m n = grind arith

pub same_root : (f g : Forest) → HasFirstRoot f → HasFirstRoot g → f.nodes ≡ g.nodes → f.root ≡ g.root
same_root f g a b e =
    elim (compared f.root g.root) [
      | inl less ↦ absurd (b.first f.root a.node less (ap (λ (z : List Node). slice_get z f.root) (sym e) ∙ a.there) a.of_root)
      | inr (inl same) ↦ same
      | inr (inr less) ↦ absurd (a.first g.root b.node less (ap (λ (z : List Node). slice_get z g.root) e ∙ b.there) b.of_root)
    ]

pub same_forest : (f g : Forest) → f.root ≡ g.root → f.nodes ≡ g.nodes → f.items ≡ g.items → f ≡ g
same_forest f g a b c = λ i. record { root = a i; nodes = b i; items = c i }

abbrev nodes_shown : Forest → List ℕ
nodes_shown f = numbered_texts node_text 0 f.nodes

abbrev items_shown : Forest → List ℕ
items_shown f = numbered_texts item_text 0 f.items

pub items_of : (core : List Nonterminal) (tells : TellsNames core) (f : Forest) → IsDraftOf core f →
    AllByRecursion (IsBegunItem core) f.items
items_of core tells f p =
    both_parts (IsItemOf core) Begun f.items (by_parts (IsItemOf core) f.items p.items) (each_there Begun f.items p.draft.begins)

pub texts_told : TextsTellDrafts
texts_told core f g tells p q e =
    let line = append_cancel_left (codes "forest ") _ _
    (sym (heading_joined (decimal (length f.nodes)) (decimal (length f.items)) (nodes_shown f ++ items_shown f)) ∙ e ∙
    heading_joined (decimal (length g.nodes)) (decimal (length g.items)) (nodes_shown g ++ items_shown g)) in
    let many_nodes = decimal_told (length f.nodes) (length g.nodes) _ _ (small_bound _ p.few_nodes) (small_bound _ q.few_nodes)
    (stops_at 32 _ (omega arith)) (stops_at 32 _ (omega arith)) line in
    let many_items = decimal_told (length f.items) (length g.items) _ _ (small_bound _ p.few_items) (small_bound _ q.few_items)
    (stops_at 10 _ (omega arith)) (stops_at 10 _ (omega arith)) (tail_told 32 _ _ many_nodes.1) in
    let nodes = numbered_told IsChoice (IsNodeOf core) node_text node_stops (node_told core tells) 0 f.nodes g.nodes (items_shown f)
    (items_shown g) many_nodes.0 (by_parts (IsNodeOf core) f.nodes p.nodes) (by_parts (IsNodeOf core) g.nodes q.nodes)
    (items_stop 0 f.items) (items_stop 0 g.items) (tail_told 10 _ _ many_items.1) in
    let items = numbered_told NoItem (IsBegunItem core) item_text item_stops (item_told core tells) 0 f.items g.items [] []
    many_items.0 (items_of core tells f p) (items_of core tells g q) at_end at_end
    (append-nil (items_shown f) ∙ nodes.1 ∙ sym (append-nil (items_shown g))) in
    same_forest f g (same_root f g p.root q.root nodes.0) nodes.0 items.0
