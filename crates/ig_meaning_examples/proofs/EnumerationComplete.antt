-- Each derivation with low trees is a member of the enumeration.
use Rattle.std.proofs.Common.{◌≡◌, ◌∙◌, ℕ, zero, suc, ◌+◌, ◌<◌, max, List, [], ◌∷◌, ◌++◌, map, length, refl, sym, ap, subst, arith, Some, true, inl}
use Rattle.std.specs.Prelude.{slice_get, ◌≢◌}
use Rattle.std.specs.Cmp.Lexicographic.{bytes_decides}
use Rattle.std.proofs.lemmas.Option.{slice_get_within}
use Rattle.std.proofs.Math.Nat.{suc_inj}
use Rattle.ig_text.specs.Input.{Input}
use Rattle.ig_text.specs.declared.pattern.Pattern.{Pattern}
use Rattle.ig_text.specs.declared.pattern.Pattern.TheVariants as pattern
use Rattle.ig_text.specs.declared.tag.Tag.TheVariants as tag
use Rattle.ig_text.specs.Pattern.{Matches}
use Rattle.ig_text.specs.Tree.{Tree, Trees, Leaf, Node, none, more, one, join, height, greatest_height}
use Rattle.ig_expr.specs.Expression.{Expression}
use Rattle.ig_expr.specs.Evaluation.{value_of}
use Rattle.ig_text.specs.Words.{is_word}
use Rattle.ig_text.proofs.Trees.{joined_height}
use Rattle.ig_expr.specs.declared.value.Value.{Value}
use Rattle.ig_expr.specs.declared.value.Value.TheVariants as value
use Rattle.ig_meaning_examples.specs.Matches.{MatchesAreKnown}
use Rattle.ig_grammar.specs.Symbol.{Symbol, Call, Star, Plus, SepPlus, Group, Filtered}
use Rattle.ig_grammar.specs.Symbol.{Symbols, no_symbols, next_symbol, Alternatives, no_alternatives, next_alternative, gathered, listed}
use Rattle.ig_meaning.specs.Environment.{Environment, names, values, HaveValues}
use Rattle.ig_grammar.specs.Numbering.{Levelled, by_level, tag_of, choice}
use Rattle.ig_meaning.specs.Derivation.{exposed, Covers, Derives, Lists, Items, Instance, Trails}
use Rattle.ig_meaning.specs.Derivation.{empty, symbol, literal, one_of, token, call, label, guard, let_be, absent, present, star, plus, sep_star, sep_plus, group, offside, ignore, align, filtered, sequence, entry}
use Rattle.ig_meaning.specs.Derivation.{nil, snoc, one_item, more_items, first_item, further_item, no_item, some_items, bare, with_filters, alternative, layout, no_layout, outside}
use Rattle.ig_grammar.specs.declared.declaration.DeclKind.{DeclKind}
use Rattle.ig_grammar.specs.declared.declaration.DeclKind.TheVariants.{Syntax, Lexical}
use Rattle.ig_grammar.specs.declared.declaration.Decl.{Decl}
use Rattle.ig_grammar.specs.declared.grammar.Grammar.{Grammar}
use Rattle.ig_grammar.specs.declared.place.Shape.{Shape}
use Rattle.ig_grammar.specs.Gathered.{gathered_listed}
use Rattle.ig_meaning_examples.proofs.Choosing.{IsAmong}
use Rattle.ig_meaning_examples.proofs.Members.{below, among_left, among_right, among_map, among_each, among_given, among_from, among_below, same_member}
use Rattle.ig_meaning_examples.proofs.Deciding.{values_at, have_values, bound_by, are_bound, ends_of, matches_end, passes_all, passes_all_decides, are_right, are_right_decides, are_aligned, are_aligned_decides}
use Rattle.ig_meaning_examples.proofs.Enumeration as all
use Rattle.ig_meaning_examples.proofs.Enumeration.{Outcome, Covering, Listing, Itemised, Instanced, before}

-- what is lower than a height is so by a height that is one less
lowered : (P : ℕ → Type 0) (k n : ℕ) → k < n → ((m : ℕ) → k < suc m → P (suc m)) → P n
lowered P k zero low each = absurd (omega (arith, low))
lowered P k (suc m) low each = each m low

module _ (known : MatchesAreKnown) (g : Grammar) (shapes : List Shape) (text : Input) where
  abbrev outcome : ℕ → ℕ → Trees → Environment → List ℕ → Outcome
  outcome e j ts after starts = record { own = e; end = j; trees = ts; after = after; starts = starts }

  abbrev listing : ℕ → Tree → List ℕ → List ℕ → Listing
  listing j t starts items = record { end = j; tree = t; starts = starts; items = items }

  -- among all with trees of at most a height
  abbrev CoveringFound : ℕ → DeclKind → Symbols → Environment → ℕ → ℕ → Trees → Environment → List ℕ → Type 0
  CoveringFound n c xs env i j ts after starts =
      IsAmong (all.covered g shapes text (before g shapes text n) c xs env i) (record { end = j; trees = ts; after = after; starts = starts })

  abbrev OutcomeFound : ℕ → DeclKind → Symbol → Environment → ℕ → Outcome → Type 0
  OutcomeFound n c x env i o = IsAmong (all.derived g shapes text (before g shapes text n) c x env i) o

  abbrev ListingFound : ℕ → DeclKind → Symbol → Environment → ℕ → Listing → Type 0
  ListingFound n c x env i l = IsAmong (all.lists g shapes text (before g shapes text n) c x env i) l

  abbrev ItemsFound : ℕ → DeclKind → Symbol → Environment → ℕ → Itemised → Type 0
  ItemsFound n c x env i o = IsAmong (all.items g shapes text (before g shapes text n) c x env i) o

  abbrev InstanceFound : ℕ → List ℕ → List Value → ℕ → Instanced → Type 0
  InstanceFound n name vs i t = IsAmong (all.instances g shapes text (before g shapes text n) name vs i) t

  abbrev TrailFound : ℕ → DeclKind → ℕ → ℕ → Trees → Type 0
  TrailFound n c e j us =
      IsAmong (all.trails g shapes text (before g shapes text n) c e) (record { end = j; trees = us })

  room : (n k : ℕ) → k < n → (before g shapes text n).room ≡ true
  room zero k low = absurd (omega (arith, low))
  room (suc n) k low = refl

  -- among all with lower trees
  lower_covering : (k n : ℕ) (c : DeclKind) (xs : Symbols) (env : Environment) (i : ℕ) (r : Covering) → k < n →
      ((m : ℕ) → k < suc m → IsAmong (all.covered g shapes text (before g shapes text m) c xs env i) r) →
      IsAmong ((before g shapes text n).covered c xs env i) r
  lower_covering k n c xs env i r low each =
      lowered (λ m. IsAmong ((before g shapes text m).covered c xs env i) r) k n low each

  lower_outcome : (k n : ℕ) (c : DeclKind) (x : Symbol) (env : Environment) (i : ℕ) (o : Outcome) → k < n →
      ((m : ℕ) → k < suc m → OutcomeFound m c x env i o) → IsAmong ((before g shapes text n).derived c x env i) o
  lower_outcome k n c x env i o low each =
      lowered (λ m. IsAmong ((before g shapes text m).derived c x env i) o) k n low each

  lower_listing : (k n : ℕ) (c : DeclKind) (x : Symbol) (env : Environment) (i : ℕ) (l : Listing) → k < n →
      ((m : ℕ) → k < suc m → ListingFound m c x env i l) → IsAmong ((before g shapes text n).lists c x env i) l
  lower_listing k n c x env i l low each =
      lowered (λ m. IsAmong ((before g shapes text m).lists c x env i) l) k n low each

  instance_found : (n : ℕ) (name : List ℕ) (vs : List Value) (k j : ℕ) (decl : Decl) (shape : Shape) (a : Levelled)
      (env after : Environment) (i e : ℕ) (ts : Trees) (starts : List ℕ) →
      slice_get g.decls k ≡ Some decl → decl.name ≡ name → slice_get shapes k ≡ Some shape → bound_by decl.params vs ≡ Some env →
      slice_get (by_level decl.levels) j ≡ Some a →
      IsAmong ((before g shapes text n).covered decl.kind (gathered a.alternative.symbols) env i) (record { end = e; trees = ts; after = after; starts = starts }) →
      InstanceFound n name vs i (record { kind = decl.kind; end = e; tree = Node (tag_of shape (suc k) (suc j)) i e ts; starts = starts })
  instance_found n name vs k j decl shape a env after i e ts starts declared named shaped bound numbered found =
      let r : Covering = record { end = e; trees = ts; after = after; starts = starts } in
      let t : Instanced = all.instanced g shapes text (before g shapes text n) k j decl shape i r in
      among_each _ (below (length g.decls)) k t (among_below (length g.decls) k (slice_get_within g.decls k decl declared))
      (among_from (slice_get g.decls k) _ decl t declared (among_given (is_word decl.name name) _ t ((bytes_decides decl.name name).1 named)
      (among_from (slice_get shapes k) _ shape t shaped (among_from (bound_by decl.params vs) _ env t bound
      (among_each _ (below (length (by_level decl.levels))) j t (among_below (length (by_level decl.levels)) j (slice_get_within (by_level decl.levels) j a numbered))
      (among_from (slice_get (by_level decl.levels) j) _ a t numbered (among_map (all.instanced g shapes text (before g shapes text n) k j decl shape i) _ r found)))))))

  token_found : (n : ℕ) (c : DeclKind) (env : Environment) (i e j : ℕ) (t : Tree) (us ts : Trees) (starts : List ℕ) →
      TrailFound n c e j us → ts ≡ more t us → starts ≡ exposed c i →
      IsAmong (all.token g shapes text (before g shapes text n) c i e t env) (outcome e j ts env starts)
  token_found n c env i e j t us ts starts found trees exposes =
      same_member _ (outcome e j (more t us) env (exposed c i)) _ (λ k. outcome e j (sym trees k) env (sym exposes k))
      (among_map _ (all.trails g shapes text (before g shapes text n) c e) (record { end = j; trees = us }) found)

  matched_found : (n : ℕ) (c : DeclKind) (p : Pattern) (env : Environment) (i e j : ℕ) (us ts : Trees) (starts : List ℕ) →
      Matches text p i e → TrailFound n c e j us → ts ≡ more (Leaf i e) us → starts ≡ exposed c i →
      IsAmong (all.matched g shapes text (before g shapes text n) c p env i) (outcome e j ts env starts)
  matched_found n c p env i e j us ts starts m found trees exposes =
      among_each _ (ends_of text p i) e _ (matches_end known text p i e m) (token_found n c env i e j (Leaf i e) us ts starts found trees exposes)

  other_called : (n : ℕ) (c kind : DeclKind) (env : Environment) (i e : ℕ) (t : Tree) (ks : List ℕ) → kind ≢ Lexical →
      IsAmong (all.called g shapes text (before g shapes text n) c i env kind e t ks) (outcome e e (one t) env ks)
  other_called n c Lexical env i e t ks other = absurd (other refl)
  other_called n c kind env i e t ks other = inl refl

  called_found : (n : ℕ) (c kind : DeclKind) (name : List ℕ) (arguments : List Expression) (vs : List Value) (env : Environment)
      (i e : ℕ) (t : Tree) (ks : List ℕ) (o : Outcome) → HaveValues text env i arguments vs →
      InstanceFound n name vs i (record { kind = kind; end = e; tree = t; starts = ks }) →
      IsAmong (all.called g shapes text (before g shapes text n) c i env kind e t ks) o →
      OutcomeFound n c (Call name arguments) env i o
  called_found n c kind name arguments vs env i e t ks o have instance found =
      among_from (values_at text env i arguments) _ vs o (have_values text env i have)
      (among_each _ (all.instances g shapes text (before g shapes text n) name vs i) (record { kind = kind; end = e; tree = t; starts = ks }) o instance found)

  chosen_found : (n : ℕ) (c : DeclKind) (choices : Alternatives) (k b : ℕ) (xs : Symbols) (env after : Environment) (i j : ℕ)
      (ts : Trees) (starts : List ℕ) → choice choices b ≡ Some xs →
      IsAmong ((before g shapes text n).covered c xs env i) (record { end = j; trees = ts; after = after; starts = starts }) →
      IsAmong (all.chosen g shapes text (before g shapes text n) c choices k env i) (outcome j j (one (Node (tag.GroupAlt (k + b)) i j ts)) env starts)
  chosen_found n c no_alternatives k b xs env after i j ts starts place found = absurd (cc)
  chosen_found n c (next_alternative ys others) k zero xs env after i j ts starts place found =
      let r : Covering = record { end = j; trees = ts; after = after; starts = starts } in
      let same : xs ≡ ys = cc in
      let here : k ≡ k + 0 = omega arith in
      among_left (map (all.grouped k i env) ((before g shapes text n).covered c ys env i)) _ _
      (subst (λ z. IsAmong (map (all.grouped k i env) ((before g shapes text n).covered c ys env i)) (outcome j j (one (Node (tag.GroupAlt z) i j ts)) env starts)) here (among_map (all.grouped k i env) _ r (subst (λ zs. IsAmong ((before g shapes text n).covered c zs env i) r) same found)))
  chosen_found n c (next_alternative ys others) k (suc b) xs env after i j ts starts place found =
      let here : suc k + b ≡ k + suc b = omega arith in
      among_right (map (all.grouped k i env) ((before g shapes text n).covered c ys env i)) _ _
      (subst (λ z. IsAmong (all.chosen g shapes text (before g shapes text n) c others (suc k) env i) (outcome j j (one (Node (tag.GroupAlt z) i j ts)) env starts)) here (chosen_found n c others (suc k) b xs env after i j ts starts place found))

  bare_found : (n : ℕ) (c : DeclKind) (x : Symbol) (env : Environment) (i j : ℕ) (t : Tree) (starts items : List ℕ) →
      Lists g shapes text c x env i j t starts items → ListingFound n c x env i (listing j t starts items) →
      ItemsFound n c x env i (record { own = j; end = j; trees = one t; after = env; starts = starts; items = items })
  bare_found n c (Filtered x filters) env i j t starts items list found = absurd found
  bare_found n c x env i j t starts items list found =
      among_map (all.itemised env) (all.lists g shapes text (before g shapes text n) c x env i) (listing j t starts items) found

  outside_found : (n : ℕ) (c : DeclKind) (e : ℕ) → c ≢ Syntax → TrailFound n c e e none
  outside_found n Syntax e other = absurd (other refl)
  outside_found n c e other = inl refl

  mutual
    pub covered_found : {c : DeclKind} {xs : List Symbol} {env after : Environment} {i j : ℕ} {vs : Trees} {starts : List ℕ} →
        Covers g shapes text c xs env i j vs after starts → (n : ℕ) → greatest_height vs < suc n →
        CoveringFound n c (gathered xs) env i j vs after starts
    covered_found (empty c env i) n low = inl refl
    covered_found (symbol c x others env between after i e h j ts us vs ks ls starts first rest trees exposes) n low =
        let whole : greatest_height vs ≡ greatest_height (join ts us) = ap greatest_height trees in
        let parts = joined_height ts us in
        let r : Covering = record { end = j; trees = us; after = after; starts = ls } in
        let o : Outcome = outcome e h ts between ks in
        same_member _ (all.joined o r) _ (λ k. record { end = j; trees = sym trees k; after = after; starts = sym exposes k })
        (among_each _ (all.derived g shapes text (before g shapes text n) c x env i) o (all.joined o r) (derived_found first n (omega (arith, low, whole, parts)))
        (among_map (all.joined o) (all.covered g shapes text (before g shapes text n) c (gathered others) between h) r (covered_found rest n (omega (arith, low, whole, parts)))))

    pub derived_found : {c : DeclKind} {x : Symbol} {env after : Environment} {i e j : ℕ} {ts : Trees} {starts : List ℕ} →
        Derives g shapes text c x env i e j ts after starts → (n : ℕ) → greatest_height ts < suc n →
        OutcomeFound n c x env i (outcome e j ts after starts)
    derived_found (literal c word env i e j us ts starts spells trailing trees exposes) n low =
        let whole : greatest_height ts ≡ max 0 (greatest_height us) = ap greatest_height trees in
        matched_found n c (pattern.Literal word) env i e j us ts starts spells (trail_found trailing n (omega (arith, low, whole))) trees exposes
    derived_found (one_of c class env i e j us ts starts among trailing trees exposes) n low =
        let whole : greatest_height ts ≡ max 0 (greatest_height us) = ap greatest_height trees in
        matched_found n c (pattern.OneOf class) env i e j us ts starts among (trail_found trailing n (omega (arith, low, whole))) trees exposes
    derived_found (token c name arguments vs env i e j t us ts ks starts have instance trailing trees exposes) n low =
        let whole : greatest_height ts ≡ max (height t) (greatest_height us) = ap greatest_height trees in
        called_found n c Lexical name arguments vs env i e t ks _ have (instance_of instance n (omega (arith, low, whole))) (token_found n c env i e j t us ts starts (trail_found trailing n (omega (arith, low, whole))) trees exposes)
    derived_found (call c kind name arguments vs env i j t starts have instance other) n low =
        called_found n c kind name arguments vs env i j t starts _ have (instance_of instance n (omega (arith, low))) (other_called n c kind env i j t starts other)
    derived_found (label c name x env between after i e j ts starts inner bound) n low =
        same_member _ (all.labelled name i (outcome e j ts between starts)) _ (λ k. outcome e j ts (sym bound k) starts)
        (among_map (all.labelled name i) _ (outcome e j ts between starts) (derived_found inner n low))
    derived_found (guard c condition env i holds) n low =
        among_from (value_of text (names env) (values env) i condition) _ (value.Bool true) _ holds (inl refl)
    derived_found (let_be c name expression v env after i has bound) n low =
        same_member _ (all.still i none (env ++ (name, v) ∷ [])) _ (λ k. all.still i none (sym bound k))
        (among_from (value_of text (names env) (values env) i expression) _ v _ has (inl refl))
    derived_found (absent c x env i) n low =
        among_left _ _ _ (among_given (before g shapes text n).room _ _ (room n 0 (omega (arith, low))) (inl refl))
    derived_found (present c x env between i e j ts starts inner) n low =
        among_right _ _ _ (among_map (all.present i env) _ (outcome e j ts between starts) (lower_outcome (greatest_height ts) n c x env i (outcome e j ts between starts) (omega (arith, low)) (derived_found inner)))
    derived_found (star c x env i j t starts items list) n low =
        among_map (all.of_listing env) _ (listing j t starts items) (list_found list n (omega (arith, low)))
    derived_found (plus c x env i j t starts items list) n low =
        among_map (all.of_listing env) _ (listing j t starts items) (list_found list n (omega (arith, low)))
    derived_found (sep_star c x separator env i j t starts items list) n low =
        among_map (all.of_listing env) _ (listing j t starts items) (list_found list n (omega (arith, low)))
    derived_found (sep_plus c x separator env i j t starts items list) n low =
        among_map (all.of_listing env) _ (listing j t starts items) (list_found list n (omega (arith, low)))
    derived_found (group c choices k xs env between i j ts starts place inner) n low =
        let here : 1 + place.0 ≡ k = sym (place.1 ∙ omega arith) in
        subst (λ z. OutcomeFound n c (Group choices) env i (outcome j j (one (Node (tag.GroupAlt z) i j ts)) env starts)) here
        (chosen_found n c choices 1 place.0 xs env between i j ts starts place.2 (lower_covering (greatest_height ts) n c xs env i (record { end = j; trees = ts; after = between; starts = starts }) (omega (arith, low)) (λ m l. subst (λ zs. CoveringFound m c zs env i j ts between starts) (gathered_listed xs) (covered_found inner m l))))
    derived_found (offside c x env after i e j ts starts inner right) n low =
        among_each _ (all.derived g shapes text (before g shapes text n) c x env i) (outcome e j ts after starts) _ (derived_found inner n low)
        (among_given (are_right text i starts) _ _ ((are_right_decides text i starts).1 right) (inl refl))
    derived_found (ignore c x env after i e j ts starts inner) n low =
        among_map all.hidden _ (outcome e j ts after starts) (derived_found inner n low)
    derived_found (align c x env after i e j ts starts items inner column) n low =
        among_each _ (all.items g shapes text (before g shapes text n) c x env i) (record { own = e; end = j; trees = ts; after = after; starts = starts; items = items }) _ (items_found inner n low)
        (among_given (are_aligned text items) _ _ ((are_aligned_decides text items).1 column) (inl refl))
    derived_found (filtered c x filters env after i e j ts starts inner passed) n low =
        among_each _ (all.derived g shapes text (before g shapes text n) c x env i) (outcome e j ts after starts) _ (derived_found inner n low)
        (among_given (passes_all text i e filters) _ _ ((passes_all_decides known text i e filters).1 passed) (inl refl))
    derived_found (sequence c xs env after i j ts starts inner) n low =
        among_map all.of_covering _ (record { end = j; trees = ts; after = after; starts = starts }) (subst (λ zs. CoveringFound n c zs env i j ts after starts) (gathered_listed xs) (covered_found inner n low))
    derived_found (entry c bindings x vs env inside after i e j ts starts have renewed inner) n low =
        among_from (values_at text env i (map (λ b. b.value) bindings)) _ vs _ (have_values text env i have)
        (among_map (all.entered env) _ (outcome e j ts after starts) (subst (λ z. OutcomeFound n c x z i (outcome e j ts after starts)) renewed (derived_found inner n low)))

    pub list_found : {c : DeclKind} {x : Symbol} {env : Environment} {i j : ℕ} {t : Tree} {starts items : List ℕ} →
        Lists g shapes text c x env i j t starts items → (n : ℕ) → height t < suc n →
        ListingFound n c x env i (listing j t starts items)
    list_found (nil c x env i) n low =
        among_left _ _ _ (among_given (before g shapes text n).room _ _ (room n 0 (omega (arith, low))) (inl refl))
    list_found (snoc c x env after i h e j t ts ks ls starts ps items list item exposes begins) n low =
        same_member _ (all.extended tag.Snoc i (listing h t ks ps) (outcome e j ts after ls)) _ (λ k. listing j (Node tag.Snoc i j (more t ts)) (sym exposes k) (sym begins k))
        (among_right _ _ _ (among_each _ _ (listing h t ks ps) _ (lower_listing (height t) n c (Star x) env i (listing h t ks ps) (omega (arith, low)) (list_found list))
        (among_map (all.extended tag.Snoc i (listing h t ks ps)) _ (outcome e j ts after ls) (lower_outcome (greatest_height ts) n c x env h (outcome e j ts after ls) (omega (arith, low)) (derived_found item)))))
    list_found (one_item c x env after i e j ts starts item) n low =
        among_left _ _ _ (among_map (all.single i) _ (outcome e j ts after starts) (lower_outcome (greatest_height ts) n c x env i (outcome e j ts after starts) (omega (arith, low)) (derived_found item)))
    list_found (more_items c x env after i h e j t ts ks ls starts ps items list item exposes begins) n low =
        same_member _ (all.extended tag.More i (listing h t ks ps) (outcome e j ts after ls)) _ (λ k. listing j (Node tag.More i j (more t ts)) (sym exposes k) (sym begins k))
        (among_right (map (all.single i) ((before g shapes text n).derived c x env i)) _ _ (among_each _ _ (listing h t ks ps) _ (lower_listing (height t) n c (Plus x) env i (listing h t ks ps) (omega (arith, low)) (list_found list))
        (among_map (all.extended tag.More i (listing h t ks ps)) _ (outcome e j ts after ls) (lower_outcome (greatest_height ts) n c x env h (outcome e j ts after ls) (omega (arith, low)) (derived_found item)))))
    list_found (first_item c x separator env after i e j ts starts item) n low =
        among_left _ _ _ (among_map (all.single i) _ (outcome e j ts after starts) (lower_outcome (greatest_height ts) n c x env i (outcome e j ts after starts) (omega (arith, low)) (derived_found item)))
    list_found (further_item c x separator env between after i h f m e j t us ts vs ks ms ls starts ps items list part item trees exposes begins) n low =
        let whole : greatest_height vs ≡ greatest_height (join us ts) = ap greatest_height trees in
        let parts = joined_height us ts in
        same_member _ (all.separated i (listing h t ks ps) (outcome f m us between ms) (outcome e j ts after ls)) _ (λ k. listing j (Node tag.More i j (more t (sym trees k))) (sym exposes k) (sym begins k))
        (among_right (map (all.single i) ((before g shapes text n).derived c x env i)) _ _ (among_each _ _ (listing h t ks ps) _ (lower_listing (height t) n c (SepPlus x separator) env i (listing h t ks ps) (omega (arith, low)) (list_found list))
        (among_each _ _ (outcome f m us between ms) _ (lower_outcome (greatest_height us) n c separator env h (outcome f m us between ms) (omega (arith, low, whole, parts)) (derived_found part))
        (among_map (all.separated i (listing h t ks ps) (outcome f m us between ms)) _ (outcome e j ts after ls) (lower_outcome (greatest_height ts) n c x env m (outcome e j ts after ls) (omega (arith, low, whole, parts)) (derived_found item))))))
    list_found (no_item c x separator env i) n low =
        among_left _ _ _ (among_given (before g shapes text n).room _ _ (room n 0 (omega (arith, low))) (inl refl))
    list_found (some_items c x separator env i j t starts items list) n low =
        among_right _ _ _ (among_map (all.some_list i) _ (listing j t starts items) (lower_listing (height t) n c (SepPlus x separator) env i (listing j t starts items) (omega (arith, low)) (list_found list)))

    pub items_found : {c : DeclKind} {x : Symbol} {env after : Environment} {i e j : ℕ} {ts : Trees} {starts items : List ℕ} →
        Items g shapes text c x env i e j ts after starts items → (n : ℕ) → greatest_height ts < suc n →
        ItemsFound n c x env i (record { own = e; end = j; trees = ts; after = after; starts = starts; items = items })
    items_found (bare c x env i j t starts items list) n low = bare_found n c x env i j t starts items list (list_found list n (omega (arith, low)))
    items_found (with_filters c x filters env after i e j ts starts items inner passed) n low =
        among_each _ (all.items g shapes text (before g shapes text n) c x env i) (record { own = e; end = j; trees = ts; after = after; starts = starts; items = items }) _ (items_found inner n low)
        (among_given (passes_all text i e filters) _ _ ((passes_all_decides known text i e filters).1 passed) (inl refl))

    pub instance_of : {name : List ℕ} {vs : List Value} {kind : DeclKind} {i e : ℕ} {t : Tree} {starts : List ℕ} →
        Instance g shapes text name vs kind i e t starts → (n : ℕ) → height t < suc n →
        InstanceFound n name vs i (record { kind = kind; end = e; tree = t; starts = starts })
    instance_of (alternative name vs kind d k decl shape a env after i e ts t starts declares numbered bound same covers tree) n low =
        let b = declares.shaped.0 in
        let whole : height t ≡ greatest_height ts + 1 = ap height tree in
        let alike : declares.numbered.0 ≡ b = suc_inj (sym declares.numbered.1 ∙ declares.shaped.1) in
        let found = lower_covering (greatest_height ts) n kind (gathered a.alternative.symbols) env i (record { end = e; trees = ts; after = after; starts = starts }) (omega (arith, low, whole)) (covered_found covers) in
        same_member _ _ _ (λ z. record { kind = sym same z; end = e; tree = (ap (λ q. Node (tag_of shape q (suc numbered.0)) i e ts) (sym declares.shaped.1) ∙ ap (λ q. Node (tag_of shape d q) i e ts) (sym numbered.1) ∙ sym tree) z; starts = starts })
        (instance_found n name vs b numbered.0 decl shape a env after i e ts starts (subst (λ q. slice_get g.decls q ≡ Some decl) alike declares.numbered.2) declares.named declares.shaped.2 (are_bound bound) numbered.2 (subst (λ c. IsAmong ((before g shapes text n).covered c (gathered a.alternative.symbols) env i) (record { end = e; trees = ts; after = after; starts = starts })) same found))

    pub trail_found : {c : DeclKind} {e j : ℕ} {us : Trees} → Trails g shapes text c e j us → (n : ℕ) → greatest_height us < suc n →
        TrailFound n c e j us
    trail_found (layout name kind e j t starts declared instance) n low =
        subst (λ found. IsAmong (all.trailed g shapes text (before g shapes text n) found e) (record { end = j; trees = one t })) (sym declared)
        (among_map _ (all.instances g shapes text (before g shapes text n) name [] e) (record { kind = kind; end = j; tree = t; starts = starts }) (instance_of instance n (omega (arith, low))))
    trail_found (no_layout e undeclared) n low =
        subst (λ found. IsAmong (all.trailed g shapes text (before g shapes text n) found e) (record { end = e; trees = none })) (sym undeclared) (inl refl)
    trail_found (outside c e other) n low = outside_found n c e other
