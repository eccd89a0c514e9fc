-- What one grammar derives the other one derives too: one lemma for each form, from the parts of the form.
use Rattle.std.proofs.Common.{◌≡◌, ℕ, List, [], ◌∷◌, ◌++◌, map, refl, sym, ap}
use Rattle.ig_text.specs.Input.{Input}
use Rattle.ig_text.specs.declared.tag.Tag.{Tag}
use Rattle.ig_text.specs.declared.tag.Tag.TheVariants as tag
use Rattle.ig_text.specs.Tree.{Tree, Trees, Node, none, more, one, join}
use Rattle.ig_expr.specs.declared.value.Value.{Value}
use Rattle.ig_grammar.specs.Binding.{Binding}
use Rattle.ig_grammar.specs.Symbol.{Symbol, Label, Opt, Star, Plus, SepStar, SepPlus, Group, Offside, Ignore, Align, Filtered, Seq, Entry}
use Rattle.ig_grammar.specs.Symbol.{Symbols, Alternatives, listed}
use Rattle.ig_meaning.specs.Environment.{Environment, HaveValues, replaced}
use Rattle.ig_grammar.specs.Numbering.{IsChoice}
use Rattle.ig_meaning.specs.Blocks.{IsOffside}
use Rattle.ig_meaning.specs.Derivation.{span_value, Covers, Derives, Lists, Items}
use Rattle.ig_meaning.specs.Derivation.{empty, symbol, label, absent, present, star, plus, sep_star, sep_plus, group, offside, ignore, align, filtered, sequence, entry}
use Rattle.ig_meaning.specs.Derivation.{nil, snoc, one_item, more_items, first_item, further_item, no_item, some_items, bare, with_filters}
use Rattle.ig_grammar.specs.declared.filter.Filter.{Filter}
use Rattle.ig_grammar.specs.declared.declaration.DeclKind.{DeclKind}
use Rattle.ig_grammar.specs.declared.grammar.Grammar.{Grammar}
use Rattle.ig_grammar.specs.declared.place.Shape.{Shape}

-- the tag of a list, an option or a group
abbrev pub IsOfForm : Tag → Type 0
IsOfForm (tag.Rule d k) = ⊥
IsOfForm t = Unit {0}

-- environments that correspond; what is given of the starts and trees of the first; what is gained of the starts of
-- both, and the trees
module _ (text : Input) (Meets : Environment → Environment → Type 0) (Given : List ℕ → Trees → Type 0)
    (Gains : List ℕ → List ℕ → Trees → Type 0) (Marks : Type 0) (Enters : List Binding → Type 0) where
  pub record Fits : Type 0 where
    pub given_first : (ks ls : List ℕ) (ts us : Trees) → Given (ks ++ ls) (join ts us) → Given ks ts
    pub given_others : (ks ls : List ℕ) (ts us : Trees) → Given (ks ++ ls) (join ts us) → Given ls us
    pub given_inside : (t : Tag) (i j : ℕ) (ks : List ℕ) (ts : Trees) → IsOfForm t → Given ks (one (Node t i j ts)) → Given ks ts
    pub gains_none : Gains [] [] none
    pub gains_join : (ks ls ms ns : List ℕ) (ts us : Trees) → Gains ks ms ts → Gains ls ns us → Gains (ks ++ ls) (ms ++ ns) (join ts us)
    pub gains_node : (t : Tag) (i j : ℕ) (ks ms : List ℕ) (ts : Trees) → IsOfForm t → Gains ks ms ts → Gains ks ms (one (Node t i j ts))
    pub grows : (env other : Environment) (name : List ℕ) (v : Value) → Meets env other →
        Meets (env ++ (name, v) ∷ []) (other ++ (name, v) ∷ [])
    -- where marks are kept
    pub given_ignored : Marks → (ks : List ℕ) (ts : Trees) → Given [] ts → Given ks ts
    pub gains_ignored : Marks → (ks ms : List ℕ) (ts : Trees) → Gains ks ms ts → Gains [] [] ts
    pub stays_offside : Marks → (i : ℕ) (ks ms : List ℕ) (ts : Trees) → Gains ks ms ts → IsOffside text i ks → IsOffside text i ms
    -- where entries are kept
    pub enters_values : (bs : List Binding) (env other : Environment) (i : ℕ) (vs : List Value) → Enters bs → Meets env other →
        HaveValues text env i (map (λ b. b.value) bs) vs → HaveValues text other i (map (λ b. b.value) bs) vs
    pub enters_meets : (bs : List Binding) (env other : Environment) (vs : List Value) → Enters bs → Meets env other →
        Meets (replaced env bs vs) (replaced other bs vs)

module _ (g : Grammar) (shapes : List Shape) (h : Grammar) (forms : List Shape) (text : Input)
    (Meets : Environment → Environment → Type 0) (Given : List ℕ → Trees → Type 0)
    (Gains : List ℕ → List ℕ → Trees → Type 0) where
  -- the second grammar derives the same
  pub record Derived (d : DeclKind) (y : Symbol) (env : Environment) (i e j : ℕ) (ts : Trees) (after : Environment) (starts : List ℕ) : Type 0 where
    pub later : Environment
    pub exposes : List ℕ
    pub derives : Derives h forms text d y env i e j ts later exposes
    pub meets : Meets after later
    pub gains : Gains starts exposes ts

  -- up to an own end of its own
  abbrev pub EndedDerived : DeclKind → Symbol → Environment → ℕ → ℕ → Trees → Environment → List ℕ → Type 0
  EndedDerived d y env i j ts after starts = (e : ℕ) × Derived d y env i e j ts after starts

  pub record Covered (d : DeclKind) (ys : List Symbol) (env : Environment) (i j : ℕ) (ts : Trees) (after : Environment) (starts : List ℕ) : Type 0 where
    pub later : Environment
    pub exposes : List ℕ
    pub covers : Covers h forms text d ys env i j ts later exposes
    pub meets : Meets after later
    pub gains : Gains starts exposes ts

  pub record ListDerived (d : DeclKind) (y : Symbol) (env : Environment) (i j : ℕ) (t : Tree) (starts items : List ℕ) : Type 0 where
    pub exposes : List ℕ
    pub lists : Lists h forms text d y env i j t exposes items
    pub gains : Gains starts exposes (one t)

  pub record ItemsDerived (d : DeclKind) (y : Symbol) (env : Environment) (i e j : ℕ) (ts : Trees) (after : Environment) (starts items : List ℕ) : Type 0 where
    pub later : Environment
    pub exposes : List ℕ
    pub derives : Items h forms text d y env i e j ts later exposes items
    pub meets : Meets after later
    pub gains : Gains starts exposes ts

  module _ (c d : DeclKind) where
    -- what x derives y derives, and with the same own end
    abbrev pub Follows : Symbol → Symbol → Type 0
    Follows x y = (env other after : Environment) (i e j : ℕ) (ts : Trees) (starts : List ℕ) → Meets env other → Given starts ts →
        Derives g shapes text c x env i e j ts after starts → Derived d y other i e j ts after starts

    -- what x derives y derives
    abbrev pub Replaces : Symbol → Symbol → Type 0
    Replaces x y = (env other after : Environment) (i e j : ℕ) (ts : Trees) (starts : List ℕ) → Meets env other → Given starts ts →
        Derives g shapes text c x env i e j ts after starts → EndedDerived d y other i j ts after starts

    abbrev pub CoversToo : List Symbol → List Symbol → Type 0
    CoversToo xs ys = (env other after : Environment) (i j : ℕ) (ts : Trees) (starts : List ℕ) → Meets env other → Given starts ts →
        Covers g shapes text c xs env i j ts after starts → Covered d ys other i j ts after starts

    abbrev pub ListsToo : Symbol → Symbol → Type 0
    ListsToo x y = (env other : Environment) (i j : ℕ) (t : Tree) (starts items : List ℕ) → Meets env other → Given starts (one t) →
        Lists g shapes text c x env i j t starts items → ListDerived d y other i j t starts items

    abbrev pub ItemsToo : Symbol → Symbol → Type 0
    ItemsToo x y = (env other after : Environment) (i e j : ℕ) (ts : Trees) (starts items : List ℕ) → Meets env other → Given starts ts →
        Items g shapes text c x env i e j ts after starts items → ItemsDerived d y other i e j ts after starts items

    pub followed : (x y : Symbol) → Follows x y → Replaces x y
    followed x y f env other after i e j ts starts m given derived = (e, f env other after i e j ts starts m given derived)

    module _ (Marks : Type 0) (Enters : List Binding → Type 0) (fits : Fits text Meets Given Gains Marks Enters) where
      pub no_symbols_too : CoversToo [] []
      no_symbols_too env other after i j ts starts m given (empty _ _ _) =
          record { later = other; exposes = []; covers = empty d other i; meets = m; gains = fits.gains_none }

      joined_too : (y : Symbol) (ys : List Symbol) (other between after : Environment) (i e t j : ℕ) (ts us : Trees) (ks ls : List ℕ) →
          Derived d y other i e t ts between ks →
          ((later : Environment) → Meets between later → Covered d ys later t j us after ls) →
          Covered d (y ∷ ys) other i j (join ts us) after (ks ++ ls)
      joined_too y ys other between after i e t j ts us ks ls first rest =
          let others = rest first.later first.meets in
          record {
            later = others.later;
            exposes = first.exposes ++ others.exposes;
            covers = symbol d y ys other first.later others.later i e t j ts us (join ts us) first.exposes others.exposes (first.exposes ++ others.exposes) first.derives others.covers refl refl;
            meets = others.meets;
            gains = fits.gains_join ks ls first.exposes others.exposes ts us first.gains others.gains;
          }

      pub next_symbol_too : (x y : Symbol) (xs ys : List Symbol) → Replaces x y → CoversToo xs ys → CoversToo (x ∷ xs) (y ∷ ys)
      next_symbol_too x y xs ys f fs env other after i j vs starts m given (symbol _ _ _ _ between _ _ e t _ ts us _ ks ls _ first rest trees exposes) =
          let all : Given (ks ++ ls) (join ts us) = rw (sym trees, sym exposes) given in
          let head = f env other between i e t ts ks m (fits.given_first ks ls ts us all) first in
          rw (trees, exposes) (joined_too y ys other between after i head.0 t j ts us ks ls head.1
          (λ later n. fs between later after t j us ls n (fits.given_others ks ls ts us all) rest))

      pub label_follows : (name : List ℕ) (x y : Symbol) → Follows x y → Follows (Label name x) (Label name y)
      label_follows name x y f env other after i e j ts starts m given (label _ _ _ _ between _ _ _ _ _ _ inner bound) =
          let r = f env other between i e j ts starts m given inner in
          record {
            later = r.later ++ (name, span_value i e) ∷ [];
            exposes = r.exposes;
            derives = label d name y other r.later (r.later ++ (name, span_value i e) ∷ []) i e j ts r.exposes r.derives refl;
            meets = rw bound (fits.grows between r.later name (span_value i e) r.meets);
            gains = r.gains;
          }

      pub opt_follows : (x y : Symbol) → Replaces x y → Follows (Opt x) (Opt y)
      opt_follows x y f env other after i e j ts starts m given (absent _ _ _ _) =
          record { later = other; exposes = []; derives = absent d y other i; meets = m; gains = fits.gains_node tag.Absent i i [] [] none tt fits.gains_none }
      opt_follows x y f env other after i e j ts starts m given (present _ _ _ between _ o _ us _ inner) =
          let r = f env other between i o j us starts m (fits.given_inside tag.Present i j starts us tt given) inner in
          record {
            later = other;
            exposes = r.1.exposes;
            derives = present d y other r.1.later i r.0 j us r.1.exposes r.1.derives;
            meets = m;
            gains = fits.gains_node tag.Present i j starts r.1.exposes us tt r.1.gains;
          }

      pub filtered_follows : (filters : List Filter) (x y : Symbol) → Follows x y → Follows (Filtered x filters) (Filtered y filters)
      filtered_follows filters x y f env other after i e j ts starts m given (filtered _ _ _ _ _ _ _ _ _ _ inner passes) =
          let r = f env other after i e j ts starts m given inner in
          record { later = r.later; exposes = r.exposes; derives = filtered d y filters other r.later i e j ts r.exposes r.derives passes; meets = r.meets; gains = r.gains }

      pub seq_follows : (xs ys : Symbols) → CoversToo (listed xs) (listed ys) → Follows (Seq xs) (Seq ys)
      seq_follows xs ys f env other after i e j ts starts m given (sequence _ _ _ _ _ _ _ _ inner) =
          let r = f env other after i j ts starts m given inner in
          record { later = r.later; exposes = r.exposes; derives = sequence d ys other r.later i j ts r.exposes r.covers; meets = r.meets; gains = r.gains }

      node_gains : (t : Tag) (i j : ℕ) (starts ks ms : List ℕ) (ts us : Trees) → starts ≡ ks → us ≡ ts → IsOfForm t → Gains ks ms ts → Gains starts ms (one (Node t i j us))
      node_gains t i j starts ks ms ts us e o form gained = rw (e, o) (fits.gains_node t i j ks ms ts form gained)

      given_in : (t : Tag) (i j : ℕ) (starts ks : List ℕ) (us ts : Trees) → starts ≡ ks → us ≡ ts → IsOfForm t → Given starts (one (Node t i j us)) → Given ks ts
      given_in t i j starts ks us ts e o form given = rw (sym e, sym o) (fits.given_inside t i j starts us form given)

      pub star_too : (x y : Symbol) → Replaces x y → ListsToo (Star x) (Star y)
      star_too x y f env other i j t starts items m given (nil _ _ _ _) =
          record { exposes = []; lists = nil d y other i; gains = fits.gains_node tag.Nil i i [] [] none tt fits.gains_none }
      star_too x y f env other i j t starts items m given (snoc _ _ _ after _ b e _ u ts ks ls _ ps _ list item exposes begins) =
          let all : Given (ks ++ ls) (join (one u) ts) = given_in tag.Snoc i j starts (ks ++ ls) (more u ts) (more u ts) exposes refl tt given in
          let r = star_too x y f env other i b u ks ps m (fits.given_first ks ls (one u) ts all) list in
          let s = f env other after b e j ts ls m (fits.given_others ks ls (one u) ts all) item in
          let joined = fits.gains_join ks ls r.exposes s.1.exposes (one u) ts r.gains s.1.gains in
          record {
            exposes = r.exposes ++ s.1.exposes;
            lists = snoc d y other s.1.later i b s.0 j u ts r.exposes s.1.exposes (r.exposes ++ s.1.exposes) ps items r.lists s.1.derives refl begins;
            gains = node_gains tag.Snoc i j starts (ks ++ ls) (r.exposes ++ s.1.exposes) (more u ts) (more u ts) exposes refl tt joined;
          }

      pub plus_too : (x y : Symbol) → Replaces x y → ListsToo (Plus x) (Plus y)
      plus_too x y f env other i j t starts items m given (one_item _ _ _ after _ e _ ts _ item) =
          let s = f env other after i e j ts starts m (fits.given_inside tag.One i j starts ts tt given) item in
          record { exposes = s.1.exposes; lists = one_item d y other s.1.later i s.0 j ts s.1.exposes s.1.derives; gains = fits.gains_node tag.One i j starts s.1.exposes ts tt s.1.gains }
      plus_too x y f env other i j t starts items m given (more_items _ _ _ after _ b e _ u ts ks ls _ ps _ list item exposes begins) =
          let all : Given (ks ++ ls) (join (one u) ts) = given_in tag.More i j starts (ks ++ ls) (more u ts) (more u ts) exposes refl tt given in
          let r = plus_too x y f env other i b u ks ps m (fits.given_first ks ls (one u) ts all) list in
          let s = f env other after b e j ts ls m (fits.given_others ks ls (one u) ts all) item in
          let joined = fits.gains_join ks ls r.exposes s.1.exposes (one u) ts r.gains s.1.gains in
          record {
            exposes = r.exposes ++ s.1.exposes;
            lists = more_items d y other s.1.later i b s.0 j u ts r.exposes s.1.exposes (r.exposes ++ s.1.exposes) ps items r.lists s.1.derives refl begins;
            gains = node_gains tag.More i j starts (ks ++ ls) (r.exposes ++ s.1.exposes) (more u ts) (more u ts) exposes refl tt joined;
          }

      pub sep_plus_too : (x y p q : Symbol) → Replaces x y → Replaces p q → ListsToo (SepPlus x p) (SepPlus y q)
      sep_plus_too x y p q f part env other i j t starts items m given (first_item _ _ _ _ after _ e _ ts _ item) =
          let s = f env other after i e j ts starts m (fits.given_inside tag.One i j starts ts tt given) item in
          record { exposes = s.1.exposes; lists = first_item d y q other s.1.later i s.0 j ts s.1.exposes s.1.derives; gains = fits.gains_node tag.One i j starts s.1.exposes ts tt s.1.gains }
      sep_plus_too x y p q f part env other i j t starts items m given (further_item _ _ _ _ between after _ b o n e _ u us ts vs ks ms ls _ ps _ list separator item trees exposes begins) =
          let all : Given (ks ++ ms ++ ls) (join (join (one u) us) ts) = given_in tag.More i j starts (ks ++ ms ++ ls) (more u vs) (more u (join us ts)) exposes (ap (more u) trees) tt given in
          let front : Given (ks ++ ms) (join (one u) us) = fits.given_first (ks ++ ms) ls (join (one u) us) ts all in
          let r = sep_plus_too x y p q f part env other i b u ks ps m (fits.given_first ks ms (one u) us front) list in
          let w = part env other between b o n us ms m (fits.given_others ks ms (one u) us front) separator in
          let s = f env other after n e j ts ls m (fits.given_others (ks ++ ms) ls (join (one u) us) ts all) item in
          let before = fits.gains_join ks ms r.exposes w.1.exposes (one u) us r.gains w.1.gains in
          let joined = fits.gains_join (ks ++ ms) ls (r.exposes ++ w.1.exposes) s.1.exposes (join (one u) us) ts before s.1.gains in
          record {
            exposes = r.exposes ++ w.1.exposes ++ s.1.exposes;
            lists = further_item d y q other w.1.later s.1.later i b w.0 n s.0 j u us ts vs r.exposes w.1.exposes s.1.exposes (r.exposes ++ w.1.exposes ++ s.1.exposes) ps items r.lists w.1.derives s.1.derives trees refl begins;
            gains = node_gains tag.More i j starts (ks ++ ms ++ ls) (r.exposes ++ w.1.exposes ++ s.1.exposes) (more u (join us ts)) (more u vs) exposes (ap (more u) trees) tt joined;
          }

      pub sep_star_too : (x y p q : Symbol) → Replaces x y → Replaces p q → ListsToo (SepStar x p) (SepStar y q)
      sep_star_too x y p q f part env other i j t starts items m given (no_item _ _ _ _ _) =
          record { exposes = []; lists = no_item d y q other i; gains = fits.gains_node tag.Absent i i [] [] none tt fits.gains_none }
      sep_star_too x y p q f part env other i j t starts items m given (some_items _ _ _ _ _ _ u _ _ list) =
          let r = sep_plus_too x y p q f part env other i j u starts items m (fits.given_inside tag.Present i j starts (one u) tt given) list in
          record { exposes = r.exposes; lists = some_items d y q other i j u r.exposes items r.lists; gains = fits.gains_node tag.Present i j starts r.exposes (one u) tt r.gains }

      pub star_follows : (x y : Symbol) → Replaces x y → Follows (Star x) (Star y)
      star_follows x y f env other after i e j ts starts m given (star _ _ _ _ _ t _ items list) =
          let r = star_too x y f env other i j t starts items m given list in
          record { later = other; exposes = r.exposes; derives = star d y other i j t r.exposes items r.lists; meets = m; gains = r.gains }

      pub plus_follows : (x y : Symbol) → Replaces x y → Follows (Plus x) (Plus y)
      plus_follows x y f env other after i e j ts starts m given (plus _ _ _ _ _ t _ items list) =
          let r = plus_too x y f env other i j t starts items m given list in
          record { later = other; exposes = r.exposes; derives = plus d y other i j t r.exposes items r.lists; meets = m; gains = r.gains }

      pub sep_star_follows : (x y p q : Symbol) → Replaces x y → Replaces p q → Follows (SepStar x p) (SepStar y q)
      sep_star_follows x y p q f part env other after i e j ts starts m given (sep_star _ _ _ _ _ _ t _ items list) =
          let r = sep_star_too x y p q f part env other i j t starts items m given list in
          record { later = other; exposes = r.exposes; derives = sep_star d y q other i j t r.exposes items r.lists; meets = m; gains = r.gains }

      pub sep_plus_follows : (x y p q : Symbol) → Replaces x y → Replaces p q → Follows (SepPlus x p) (SepPlus y q)
      sep_plus_follows x y p q f part env other after i e j ts starts m given (sep_plus _ _ _ _ _ _ t _ items list) =
          let r = sep_plus_too x y p q f part env other i j t starts items m given list in
          record { later = other; exposes = r.exposes; derives = sep_plus d y q other i j t r.exposes items r.lists; meets = m; gains = r.gains }

      -- each alternative of a group has one that derives the same
      abbrev pub Choices : Alternatives → Alternatives → Type 0
      Choices xs ys = (k : ℕ) (zs : Symbols) → IsChoice xs k zs → (ws : Symbols) × IsChoice ys k ws × CoversToo (listed zs) (listed ws)

      pub group_follows : (xs ys : Alternatives) → Choices xs ys → Follows (Group xs) (Group ys)
      group_follows xs ys f env other after i e j ts starts m given (group _ _ k zs _ between _ _ us _ chosen inner) =
          let found = f k zs chosen in
          let r = found.2 env other between i j us starts m (fits.given_inside (tag.GroupAlt k) i j starts us tt given) inner in
          record {
            later = other;
            exposes = r.exposes;
            derives = group d ys k found.0 other r.later i j us r.exposes found.1 r.covers;
            meets = m;
            gains = fits.gains_node (tag.GroupAlt k) i j starts r.exposes us tt r.gains;
          }

      pub offside_follows : Marks → (x y : Symbol) → Follows x y → Follows (Offside x) (Offside y)
      offside_follows mark x y f env other after i e j ts starts m given (offside _ _ _ _ _ _ _ _ _ inner right) =
          let r = f env other after i e j ts starts m given inner in
          record { later = r.later; exposes = r.exposes; derives = offside d y other r.later i e j ts r.exposes r.derives (fits.stays_offside mark i starts r.exposes ts r.gains right); meets = r.meets; gains = r.gains }

      pub ignore_follows : Marks → (x y : Symbol) → Follows x y → Follows (Ignore x) (Ignore y)
      ignore_follows mark x y f env other after i e j ts starts m given (ignore _ _ _ _ _ _ _ _ ks inner) =
          let r = f env other after i e j ts ks m (fits.given_ignored mark ks ts given) inner in
          record { later = r.later; exposes = []; derives = ignore d y other r.later i e j ts r.exposes r.derives; meets = r.meets; gains = fits.gains_ignored mark ks r.exposes ts r.gains }

      pub align_follows : (x y : Symbol) → ItemsToo x y → Follows (Align x) (Align y)
      align_follows x y f env other after i e j ts starts m given (align _ _ _ _ _ _ _ _ _ items inner column) =
          let r = f env other after i e j ts starts items m given inner in
          record { later = r.later; exposes = r.exposes; derives = align d y other r.later i e j ts r.exposes items r.derives column; meets = r.meets; gains = r.gains }

      pub entry_follows : (bs : List Binding) → Enters bs → (x y : Symbol) → Replaces x y → Follows (Entry bs x) (Entry bs y)
      entry_follows bs enters x y f env other after i e j ts starts m given (entry _ _ _ vs _ inside between _ o _ _ _ have renewed inner) =
          let met : Meets inside (replaced other bs vs) = rw renewed (fits.enters_meets bs env other vs enters m) in
          let r = f inside (replaced other bs vs) between i o j ts starts met given inner in
          record { later = other; exposes = r.1.exposes; derives = entry d bs y vs other (replaced other bs vs) r.1.later i r.0 j ts r.1.exposes (fits.enters_values bs env other i vs enters m have) refl r.1.derives; meets = m; gains = r.1.gains }

      pub filtered_items : (filters : List Filter) (x y : Symbol) → ItemsToo x y → ItemsToo (Filtered x filters) (Filtered y filters)
      filtered_items filters x y f env other after i e j ts starts items m given (with_filters _ _ _ _ _ _ _ _ _ _ _ inner passes) =
          let r = f env other after i e j ts starts items m given inner in
          record { later = r.later; exposes = r.exposes; derives = with_filters d y filters other r.later i e j ts r.exposes items r.derives passes; meets = r.meets; gains = r.gains }
      filtered_items filters x y f env other after i e j ts starts items m given (bare _ _ _ _ _ _ _ _ list) = absurd (no_list list)
        where
          no_list : {c : DeclKind} {x : Symbol} {filters : List Filter} {env : Environment} {i j : ℕ} {t : Tree} {starts items : List ℕ} →
              Lists g shapes text c (Filtered x filters) env i j t starts items → ⊥
          no_list list = elim list [ ]
