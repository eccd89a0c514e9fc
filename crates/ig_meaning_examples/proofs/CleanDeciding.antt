-- A computed test that decides whether a tree is clean.
use Rattle.std.proofs.Common.{◌≡◌, ℕ, suc, ◌≤◌, Bool, true, false, List, [], ◌∷◌, ◌++◌, refl, sym, ◌∙◌, ap, subst, Option, Some, None, inl, inr, arith}
use Rattle.std.specs.Prelude.{◌⊎◌, ◌&&◌, slice_get, leb, option_and_then}
use Rattle.std.specs.Cmp.Lexicographic.{bytes_decides}
use Rattle.std.proofs.lemmas.Bool.{leb-true, and_parts}
use Rattle.std.proofs.lemmas.Bool.Decides.{nat_tests}
use Rattle.ig_text.specs.declared.tag.Tag.{Tag}
use Rattle.ig_text.specs.declared.tag.Tag.TheVariants.{Rule}
use Rattle.ig_text.specs.Tree.{Tree, Trees, Leaf, Node, none, more, one, join}
use Rattle.ig_text.specs.Words.{is_word}
use Rattle.ig_text.proofs.Options.{stepped}
use Rattle.ig_grammar.specs.Symbol.{Symbol, Call, Label}
use Rattle.ig_grammar.specs.Numbering.{Levelled, by_level}
use Rattle.ig_meaning.specs.Operands.{without_tests, Calls, plain, labelled, HasLeftOperand, HasRightOperand, left_bound, right_bound}
use Rattle.ig_meaning.specs.Clean.{Applies, EndsInOperand, BeginsWithOperand, OnRightSpine, OnLeftSpine, IsClean, Clean, AllClean, right_top, right_below, left_top, left_below}
use Rattle.ig_grammar.specs.declared.declaration.Decl.{Decl}
use Rattle.ig_grammar.specs.declared.grammar.Grammar.{Grammar}
use Rattle.ig_meaning_examples.proofs.Choosing.{IsAmong}
use Rattle.ig_text.proofs.Characters.{itself}
use Rattle.ig_text.proofs.Trees.{never_none}

module _ (name : List ℕ) where
  abbrev is_plain_call : Symbol → Bool
  is_plain_call (Call n arguments) = is_word n name
  is_plain_call x = false

  abbrev is_call : Symbol → Bool
  is_call (Call n arguments) = is_word n name
  is_call (Label label x) = is_plain_call x
  is_call x = false

  abbrev last_is_call : Symbol → List Symbol → Bool
  last_is_call x [] = is_call x
  last_is_call x (y ∷ ys) = last_is_call y ys

  -- the first of two or more symbols is a call
  abbrev begins_with_call : List Symbol → Bool
  begins_with_call (x ∷ y ∷ ys) = is_call x
  begins_with_call xs = false

  -- the last of two or more symbols is a call
  abbrev ends_with_call : List Symbol → Bool
  ends_with_call (x ∷ y ∷ ys) = last_is_call y ys
  ends_with_call xs = false

  called : {x : Symbol} → Calls name x → is_call x ≡ true
  called (plain arguments) = itself name
  called (labelled label arguments) = itself name

  plain_calls : (label : List ℕ) (x : Symbol) → is_plain_call x ≡ true → Calls name (Label label x)
  plain_calls label (Call n arguments) h =
      subst (λ (m : List ℕ). Calls name (Label label (Call m arguments))) (sym ((bytes_decides n name).0 h)) (labelled label arguments)
  plain_calls label x h = absurd (cc)

  calls : (x : Symbol) → is_call x ≡ true → Calls name x
  calls (Call n arguments) h =
      subst (λ (m : List ℕ). Calls name (Call m arguments)) (sym ((bytes_decides n name).0 h)) (plain arguments)
  calls (Label label x) h = plain_calls label x h
  calls x h = absurd (cc)

  begins : (symbols : List Symbol) → HasLeftOperand name symbols → begins_with_call (without_tests symbols) ≡ true
  begins symbols has = ap begins_with_call has.split ∙ called has.calls

  begun : (symbols xs : List Symbol) → without_tests symbols ≡ xs → begins_with_call xs ≡ true → HasLeftOperand name symbols
  begun symbols [] e h = absurd (cc)
  begun symbols (x ∷ []) e h = absurd (cc)
  begun symbols (x ∷ y ∷ ys) e h = record { first = x; second = y; others = ys; split = e; calls = calls x h }

  last_call : (ys : List Symbol) (y last : Symbol) → last_is_call y (ys ++ last ∷ []) ≡ is_call last
  last_call [] y last = refl
  last_call (z ∷ zs) y last = last_call zs z last

  end_call : (others : List Symbol) (first last : Symbol) → ends_with_call (first ∷ others ++ last ∷ []) ≡ is_call last
  end_call [] first last = refl
  end_call (y ∷ ys) first last = last_call ys y last

  ends : (symbols : List Symbol) → HasRightOperand name symbols → ends_with_call (without_tests symbols) ≡ true
  ends symbols has = ap ends_with_call has.split ∙ end_call has.others has.first has.last ∙ called has.calls

  split_symbols : (y : Symbol) (ys : List Symbol) →
      (others : List Symbol) × (last : Symbol) × (y ∷ ys ≡ others ++ last ∷ []) × (last_is_call y ys ≡ is_call last)
  split_symbols y [] = ([], y, refl, refl)
  split_symbols y (z ∷ zs) =
      let s = split_symbols z zs in (y ∷ s.0, s.1, ap (λ ws. y ∷ ws) s.2, s.3)

  ended : (symbols xs : List Symbol) → without_tests symbols ≡ xs → ends_with_call xs ≡ true → HasRightOperand name symbols
  ended symbols [] e h = absurd (cc)
  ended symbols (x ∷ []) e h = absurd (cc)
  ended symbols (x ∷ y ∷ ys) e h =
      let s = split_symbols y ys in
      record { first = x; others = s.0; last = s.1; split = e ∙ ap (λ ws. x ∷ ws) s.2; calls = calls s.1 (sym s.3 ∙ h) }

abbrev at_least : ℕ → List ℕ → Bool
at_least bound [] = true
at_least bound (k ∷ ks) = leb bound k && at_least bound ks

bounded : (bound : ℕ) (ks : List ℕ) (k : ℕ) → at_least bound ks ≡ true → IsAmong ks k → bound ≤ k
bounded bound [] k holds member = absurd member
bounded bound (j ∷ js) k holds (inl same) = subst (λ z. bound ≤ z) same (leb-true bound j (and_parts (leb bound j) (at_least bound js) holds).0)
bounded bound (j ∷ js) k holds (inr other) = bounded bound js k (and_parts (leb bound j) (at_least bound js) holds).1 other

all_bounded : (bound : ℕ) (ks : List ℕ) → ((k : ℕ) → IsAmong ks k → bound ≤ k) → at_least bound ks ≡ true
all_bounded bound [] each = refl
all_bounded bound (k ∷ ks) each =
    let first = each k (inl refl) in
    let here : leb bound k ≡ true = grind (arith, nat_tests) in
    let others = all_bounded bound ks (λ j m. each j (inr m)) in λ i. here i && others i

-- the alternative, where the test holds
abbrev kept : Bool → Levelled → Option Levelled
kept true a = Some a
kept false a = None

kept_is : (b : Bool) (a x : Levelled) → kept b a ≡ Some x → (b ≡ true) × (a ≡ x)
kept_is true a x e = (refl, cc)
kept_is false a x e = absurd (cc)

-- the level of the alternative, in front of those below
abbrev own : Option Levelled → Option (List ℕ) → List ℕ
own None ks = []
own (Some a) None = []
own (Some a) (Some ks) = a.level ∷ ks

own_none : (o : Option Levelled) (k : ℕ) → IsAmong (own o None) k → ⊥
own_none None k m = m
own_none (Some a) k m = m

own_parts : (o : Option Levelled) (ks : List ℕ) (k : ℕ) → IsAmong (own o (Some ks)) k →
    (a : Levelled) × (o ≡ Some a) × ((a.level ≡ k) ⊎ IsAmong ks k)
own_parts None ks k m = absurd m
own_parts (Some a) ks k m = (a, refl, m)

-- the last of them
abbrev or_last : List ℕ → Option (List ℕ) → Option (List ℕ)
or_last ks None = Some ks
or_last ks (Some ls) = Some ls

-- what is asked of the levels, where there are any
abbrev asked : (Levelled → ℕ) → Option Levelled → Option (List ℕ) → Bool
asked bound None ks = true
asked bound (Some a) None = true
asked bound (Some a) (Some ks) = at_least (bound a) ks

asked_by : (bound : Levelled → ℕ) (o : Option Levelled) (ks : List ℕ) →
    ((a : Levelled) → o ≡ Some a → at_least (bound a) ks ≡ true) → asked bound o (Some ks) ≡ true
asked_by bound None ks each = refl
asked_by bound (Some a) ks each = each a refl

asked_none : (bound : Levelled → ℕ) (o : Option Levelled) → asked bound o None ≡ true
asked_none bound None = refl
asked_none bound (Some a) = refl

split_trees : (ts : Trees) → (ts ≡ none) ⊎ ((before : Trees) × (last : Tree) × (ts ≡ join before (one last)))
split_trees none = inl refl
split_trees (more t ts) = behind t ts (split_trees ts)
  where
    behind : (u : Tree) (us : Trees) → (us ≡ none) ⊎ ((before : Trees) × (last : Tree) × (us ≡ join before (one last))) →
        (more u us ≡ none) ⊎ ((before : Trees) × (last : Tree) × (more u us ≡ join before (one last)))
    behind u us (inl e) = inr (none, u, ap (more u) e)
    behind u us (inr s) = inr (more u s.0, s.1, ap (more u) s.2)

module _ (g : Grammar) where
  -- the alternative of a tag, where its symbols pass the test
  abbrev operator : (List ℕ → List Symbol → Bool) → Tag → Option Levelled
  operator test (Rule (suc d) (suc k)) =
      option_and_then (λ (decl : Decl). option_and_then (λ (a : Levelled). kept (test decl.name (without_tests a.alternative.symbols)) a) (slice_get (by_level decl.levels) k)) (slice_get g.decls d)
  operator test tag = None

  found : (test : List ℕ → List Symbol → Bool) (tag : Tag) (decl : Decl) (a : Levelled) → Applies g tag decl a →
      test decl.name (without_tests a.alternative.symbols) ≡ true → operator test tag ≡ Some a
  found test tag decl a applies holds =
      let m = applies.declaration.0 in
      let n = applies.numbered.0 in
      let tagged : tag ≡ Rule (suc m) (suc n) =
      applies.tagged ∙ (λ i. Rule (applies.declaration.1 i) (applies.numbered.1 i)) in
      ap (operator test) tagged ∙
      ap (option_and_then (λ (d : Decl). option_and_then (λ (b : Levelled). kept (test d.name (without_tests b.alternative.symbols)) b) (slice_get (by_level d.levels) n))) applies.declaration.2 ∙
      ap (option_and_then (λ (b : Levelled). kept (test decl.name (without_tests b.alternative.symbols)) b)) applies.numbered.2 ∙
      ap (λ b. kept b a) holds

  record IsOperator (test : List ℕ → List Symbol → Bool) (tag : Tag) (a : Levelled) : Type 0 where
    decl : Decl
    applies : Applies g tag decl a
    holds : test decl.name (without_tests a.alternative.symbols) ≡ true

  is_operator : (test : List ℕ → List Symbol → Bool) (tag : Tag) (a : Levelled) → operator test tag ≡ Some a → IsOperator test tag a
  is_operator test (Rule (suc d) (suc k)) a e =
      let outer = stepped (λ (decl : Decl). option_and_then (λ (b : Levelled). kept (test decl.name (without_tests b.alternative.symbols)) b) (slice_get (by_level decl.levels) k)) (slice_get g.decls d) a e in
      let decl = outer.0 in
      let inner = stepped (λ (b : Levelled). kept (test decl.name (without_tests b.alternative.symbols)) b) (slice_get (by_level decl.levels) k) a outer.2 in
      let is = kept_is (test decl.name (without_tests inner.0.alternative.symbols)) inner.0 a inner.2 in
      record {
        decl = decl;
        applies =
            record { d = suc d; k = suc k; tagged = refl; declaration = (d, refl, outer.1); numbered = (k, refl, inner.1 ∙ ap Some is.1) };
        holds = subst (λ (b : Levelled). test decl.name (without_tests b.alternative.symbols) ≡ true) is.1 is.0;
      }
  is_operator test tag a e = absurd (cc)

  abbrev mutual
    -- the levels of the nodes with a right operand on the right spine
    right_levels : Tree → List ℕ
    right_levels (Leaf i j) = []
    right_levels (Node tag i j ts) = own (operator ends_with_call tag) (last_right_levels ts)

    last_right_levels : Trees → Option (List ℕ)
    last_right_levels none = None
    last_right_levels (more t ts) = or_last (right_levels t) (last_right_levels ts)

  abbrev mutual
    -- the levels of the nodes with a left operand on the left spine
    left_levels : Tree → List ℕ
    left_levels (Leaf i j) = []
    left_levels (Node tag i j ts) = own (operator begins_with_call tag) (first_left_levels ts)

    first_left_levels : Trees → Option (List ℕ)
    first_left_levels none = None
    first_left_levels (more t ts) = Some (left_levels t)

  abbrev first_right_levels : Trees → Option (List ℕ)
  first_right_levels none = None
  first_right_levels (more t ts) = Some (right_levels t)

  abbrev last_left_levels : Trees → Option (List ℕ)
  last_left_levels none = None
  last_left_levels (more t ts) = or_last (left_levels t) (last_left_levels ts)

  last_right : (before : Trees) (t : Tree) → last_right_levels (join before (one t)) ≡ Some (right_levels t)
  last_right none t = refl
  last_right (more u us) t = ap (or_last (right_levels u)) (last_right us t)

  last_left : (before : Trees) (t : Tree) → last_left_levels (join before (one t)) ≡ Some (left_levels t)
  last_left none t = refl
  last_left (more u us) t = ap (or_last (left_levels u)) (last_left us t)

  ending : (tag : Tag) (ts : Trees) (a : Levelled) (operand : Tree) → EndsInOperand g tag ts a operand →
      operator ends_with_call tag ≡ Some a
  ending tag ts a operand e = found ends_with_call tag e.decl a e.applies (ends e.decl.name a.alternative.symbols e.has)

  beginning : (tag : Tag) (ts : Trees) (a : Levelled) (operand : Tree) → BeginsWithOperand g tag ts a operand →
      operator begins_with_call tag ≡ Some a
  beginning tag ts a operand b = found begins_with_call tag b.decl a b.applies (begins b.decl.name a.alternative.symbols b.has)

  ends_in : (tag : Tag) (ts before : Trees) (a : Levelled) (operand : Tree) → operator ends_with_call tag ≡ Some a →
      ts ≡ join before (one operand) → EndsInOperand g tag ts a operand
  ends_in tag ts before a operand e last =
      let o = is_operator ends_with_call tag a e in
      record { decl = o.decl; applies = o.applies; has = ended o.decl.name a.alternative.symbols _ refl o.holds; before = before; last = last }

  begins_with : (tag : Tag) (ts : Trees) (a : Levelled) (operand : Tree) → operator begins_with_call tag ≡ Some a →
      BeginsWithOperand g tag (more operand ts) a operand
  begins_with tag ts a operand e =
      let o = is_operator begins_with_call tag a e in
      record { decl = o.decl; applies = o.applies; has = begun o.decl.name a.alternative.symbols _ refl o.holds; after = ts; first = refl }

  right_own : (tag : Tag) (i j : ℕ) (ts : Trees) (a : Levelled) (operand : Tree) → EndsInOperand g tag ts a operand →
      right_levels (Node tag i j ts) ≡ a.level ∷ right_levels operand
  right_own tag i j ts a operand e =
      (λ k. own (ending tag ts a operand e k) ((ap last_right_levels e.last ∙ last_right e.before operand) k))

  left_own : (tag : Tag) (i j : ℕ) (ts : Trees) (a : Levelled) (operand : Tree) → BeginsWithOperand g tag ts a operand →
      left_levels (Node tag i j ts) ≡ a.level ∷ left_levels operand
  left_own tag i j ts a operand b = (λ k. own (beginning tag ts a operand b k) (ap first_left_levels b.first k))

  on_right : {t : Tree} {low : Tag} {us : Trees} → OnRightSpine g t low us → (b : Levelled) (other : Tree) →
      EndsInOperand g low us b other → IsAmong (right_levels t) b.level
  on_right (right_top tag i j ts) b other e =
      subst (λ ks. IsAmong ks b.level) (sym (right_own tag i j ts b other e)) (inl refl)
  on_right (right_below tag i j ts a operand low us e spine) b other last =
      subst (λ ks. IsAmong ks b.level) (sym (right_own tag i j ts a operand e)) (inr (on_right spine b other last))

  on_left : {t : Tree} {low : Tag} {us : Trees} → OnLeftSpine g t low us → (b : Levelled) (other : Tree) →
      BeginsWithOperand g low us b other → IsAmong (left_levels t) b.level
  on_left (left_top tag i j ts) b other e =
      subst (λ ks. IsAmong ks b.level) (sym (left_own tag i j ts b other e)) (inl refl)
  on_left (left_below tag i j ts a operand low us e spine) b other first =
      subst (λ ks. IsAmong ks b.level) (sym (left_own tag i j ts a operand e)) (inr (on_left spine b other first))

  -- a node with a right operand on the right spine, of this level
  record HasRight (t : Tree) (k : ℕ) : Type 0 where
    low : Tag
    us : Trees
    b : Levelled
    other : Tree
    spine : OnRightSpine g t low us
    last : EndsInOperand g low us b other
    level : b.level ≡ k

  record HasLeft (t : Tree) (k : ℕ) : Type 0 where
    low : Tag
    us : Trees
    b : Levelled
    other : Tree
    spine : OnLeftSpine g t low us
    first : BeginsWithOperand g low us b other
    level : b.level ≡ k

  right_here : (tag : Tag) (i j : ℕ) (ts : Trees) (k : ℕ) (a : Levelled) (operand : Tree) → EndsInOperand g tag ts a operand →
      (IsAmong (right_levels operand) k → HasRight operand k) → (a.level ≡ k) ⊎ IsAmong (right_levels operand) k →
      HasRight (Node tag i j ts) k
  right_here tag i j ts k a operand e below (inl same) =
      record { low = tag; us = ts; b = a; other = operand; spine = right_top tag i j ts; last = e; level = same }
  right_here tag i j ts k a operand e below (inr m) =
      let h = below m in
      record { low = h.low; us = h.us; b = h.b; other = h.other; spine = right_below tag i j ts a operand h.low h.us e h.spine; last = h.last; level = h.level }

  left_here : (tag : Tag) (i j : ℕ) (ts : Trees) (k : ℕ) (a : Levelled) (operand : Tree) → BeginsWithOperand g tag ts a operand →
      (IsAmong (left_levels operand) k → HasLeft operand k) → (a.level ≡ k) ⊎ IsAmong (left_levels operand) k →
      HasLeft (Node tag i j ts) k
  left_here tag i j ts k a operand e below (inl same) =
      record { low = tag; us = ts; b = a; other = operand; spine = left_top tag i j ts; first = e; level = same }
  left_here tag i j ts k a operand e below (inr m) =
      let h = below m in
      record { low = h.low; us = h.us; b = h.b; other = h.other; spine = left_below tag i j ts a operand h.low h.us e h.spine; first = h.first; level = h.level }

  -- each level of the last tree is that of a node on its right spine
  abbrev EachLast : Trees → ℕ → Type 0
  EachLast ts k =
      (before : Trees) (operand : Tree) → ts ≡ join before (one operand) → IsAmong (right_levels operand) k → HasRight operand k

  right_node : (tag : Tag) (i j : ℕ) (ts : Trees) (k : ℕ) → EachLast ts k →
      (ts ≡ none) ⊎ ((before : Trees) × (last : Tree) × (ts ≡ join before (one last))) →
      IsAmong (right_levels (Node tag i j ts)) k → HasRight (Node tag i j ts) k
  right_node tag i j ts k each (inl e) m =
      absurd (own_none (operator ends_with_call tag) k (subst (λ us. IsAmong (own (operator ends_with_call tag) (last_right_levels us)) k) e m))
  right_node tag i j ts k each (inr s) m =
      let levels = ap last_right_levels s.2 ∙ last_right s.0 s.1 in
      let parts = own_parts (operator ends_with_call tag) (right_levels s.1) k (subst (λ ks. IsAmong (own (operator ends_with_call tag) ks) k) levels m) in
      right_here tag i j ts k parts.0 s.1 (ends_in tag ts s.0 parts.0 s.1 parts.1 s.2) (each s.0 s.1 s.2) parts.2

  last_of_more : (t : Tree) (ts : Trees) (k : ℕ) → (IsAmong (right_levels t) k → HasRight t k) → EachLast ts k → EachLast (more t ts) k
  last_of_more t ts k first others none operand e m =
      let same : operand ≡ t = cc in
      subst (λ u. HasRight u k) (sym same) (first (subst (λ u. IsAmong (right_levels u) k) same m))
  last_of_more t ts k first others (more b bs) operand e m =
      let rest : ts ≡ join bs (one operand) = cc in others bs operand rest m

  mutual
    right_on : (t : Tree) (k : ℕ) → IsAmong (right_levels t) k → HasRight t k
    right_on (Leaf i j) k m = absurd m
    right_on (Node tag i j ts) k m = right_node tag i j ts k (last_on ts k) (split_trees ts) m

    last_on : (ts : Trees) (k : ℕ) → EachLast ts k
    last_on none k before operand e m = absurd (never_none before operand (sym e))
    last_on (more t ts) k before operand e m = last_of_more t ts k (right_on t k) (last_on ts k) before operand e m

  mutual
    left_on : (t : Tree) (k : ℕ) → IsAmong (left_levels t) k → HasLeft t k
    left_on (Leaf i j) k m = absurd m
    left_on (Node tag i j ts) k m = first_on ts k tag i j m

    first_on : (ts : Trees) (k : ℕ) (tag : Tag) (i j : ℕ) → IsAmong (left_levels (Node tag i j ts)) k → HasLeft (Node tag i j ts) k
    first_on none k tag i j m = absurd (own_none (operator begins_with_call tag) k m)
    first_on (more t ts) k tag i j m =
        let parts = own_parts (operator begins_with_call tag) (left_levels t) k m in
        left_here tag i j (more t ts) k parts.0 t (begins_with tag ts parts.0 t parts.1) (left_on t k) parts.2

  abbrev is_clean_at : Tag → Trees → Bool
  is_clean_at tag ts =
      asked left_bound (operator begins_with_call tag) (first_right_levels ts) && asked right_bound (operator ends_with_call tag) (last_left_levels ts)

  node_is_clean : (tag : Tag) (ts : Trees) → is_clean_at tag ts ≡ true → IsClean g tag ts
  node_is_clean tag ts holds =
      let parts = and_parts (asked left_bound (operator begins_with_call tag) (first_right_levels ts)) (asked right_bound (operator ends_with_call tag) (last_left_levels ts)) holds in
      record {
        left = λ a b operand other low us first spine last.
            bounded (left_bound a) (right_levels operand) b.level ((λ k. asked left_bound (sym (beginning tag ts a operand first) k) (sym (ap first_right_levels first.first) k)) ∙ parts.0) (on_right spine b other last);
        right = λ a b operand other low us last spine first.
            bounded (right_bound a) (left_levels operand) b.level ((λ k. asked right_bound (sym (ending tag ts a operand last) k) (sym (ap last_left_levels last.last ∙ last_left last.before operand) k)) ∙ parts.1) (on_left spine b other first);
      }

  left_asked : (tag : Tag) (ts : Trees) → IsClean g tag ts → asked left_bound (operator begins_with_call tag) (first_right_levels ts) ≡ true
  left_asked tag none clean = asked_none left_bound (operator begins_with_call tag)
  left_asked tag (more t ts) clean =
      asked_by left_bound (operator begins_with_call tag) (right_levels t) (λ a e.
      all_bounded (left_bound a) (right_levels t) (λ k m.
      let h = right_on t k m in
      subst (λ z. left_bound a ≤ z) h.level (clean.left a h.b t h.other h.low h.us (begins_with tag ts a t e) h.spine h.last)))

  right_asked : (tag : Tag) (ts : Trees) → (ts ≡ none) ⊎ ((before : Trees) × (last : Tree) × (ts ≡ join before (one last))) →
      IsClean g tag ts → asked right_bound (operator ends_with_call tag) (last_left_levels ts) ≡ true
  right_asked tag ts (inl e) clean =
      ap (λ us. asked right_bound (operator ends_with_call tag) (last_left_levels us)) e ∙ asked_none right_bound (operator ends_with_call tag)
  right_asked tag ts (inr s) clean =
      ap (asked right_bound (operator ends_with_call tag)) (ap last_left_levels s.2 ∙ last_left s.0 s.1) ∙
      asked_by right_bound (operator ends_with_call tag) (left_levels s.1) (λ a e.
      all_bounded (right_bound a) (left_levels s.1) (λ k m.
      let h = left_on s.1 k m in
      subst (λ z. right_bound a ≤ z) h.level (clean.right a h.b s.1 h.other h.low h.us (ends_in tag ts s.0 a s.1 e s.2) h.spine h.first)))

  abbrev mutual
    pub is_clean : Tree → Bool
    is_clean (Leaf i j) = true
    is_clean (Node tag i j ts) = is_clean_at tag ts && are_clean ts

    pub are_clean : Trees → Bool
    are_clean none = true
    are_clean (more t ts) = is_clean t && are_clean ts

  mutual
    pub clean_by : (t : Tree) → is_clean t ≡ true → Clean g t
    clean_by (Leaf i j) holds = tt
    clean_by (Node tag i j ts) holds =
        let parts = and_parts (is_clean_at tag ts) (are_clean ts) holds in (node_is_clean tag ts parts.0, all_clean_by ts parts.1)

    pub all_clean_by : (ts : Trees) → are_clean ts ≡ true → AllClean g ts
    all_clean_by none holds = tt
    all_clean_by (more t ts) holds =
        let parts = and_parts (is_clean t) (are_clean ts) holds in (clean_by t parts.0, all_clean_by ts parts.1)

  mutual
    pub by_clean : (t : Tree) → Clean g t → is_clean t ≡ true
    by_clean (Leaf i j) clean = refl
    by_clean (Node tag i j ts) clean =
        λ k. (left_asked tag ts clean.0 k && right_asked tag ts (split_trees ts) clean.0 k) && by_all_clean ts clean.1 k

    pub by_all_clean : (ts : Trees) → AllClean g ts → are_clean ts ≡ true
    by_all_clean none clean = refl
    by_all_clean (more t ts) clean = λ k. by_clean t clean.0 k && by_all_clean ts clean.1 k
