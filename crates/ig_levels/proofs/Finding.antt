-- The computed operands are the operands.
use Rattle.std.proofs.Common.{◌≡◌, ℕ, Bool, true, false, List, [], ◌∷◌, ◌++◌, refl, sym, ◌∙◌, ap, subst}
use Rattle.std.proofs.lemmas.Bool.{not-true, and_from, and_right}
use Rattle.std.proofs.Math.Bool.{or-false}
use Rattle.std.specs.Prelude.{◌≢◌, ◌&&◌, ◌||◌, not}
use Rattle.std.specs.Cmp.Lexicographic.{bytes_decides}
use Rattle.ig_text.proofs.Booleans.{first_true, rest_true}
use Rattle.ig_text.proofs.Characters.{itself}
use Rattle.ig_grammar.specs.Symbol.{Symbol, Call, Label, Guard, Let}
use Rattle.ig_meaning.specs.Operands.{without_tests, Calls, plain, labelled, HasLeftOperand}
use Rattle.ig_levels.specs.Levels.{is_test, only_tests, is_operand, Place, is_left, is_right, has_left, has_right}

pub operand_calls : (own : List ℕ) (x : Symbol) → is_operand own x ≡ true → Calls own x
operand_calls own (Call n arguments) h =
    subst (λ (m : List ℕ). Calls own (Call m arguments)) (sym ((bytes_decides n own).0 h)) (plain arguments)
operand_calls own (Label label (Call n arguments)) h =
    subst (λ (m : List ℕ). Calls own (Label label (Call m arguments))) (sym ((bytes_decides n own).0 h)) (labelled label arguments)
operand_calls own x h = absurd (cc)

pub calls_operand : (own : List ℕ) {x : Symbol} → Calls own x → is_operand own x ≡ true
calls_operand own (plain arguments) = itself own
calls_operand own (labelled label arguments) = itself own

pub calls_no_test : (own : List ℕ) {x : Symbol} → Calls own x → is_test x ≡ false
calls_no_test own (plain arguments) = refl
calls_no_test own (labelled label arguments) = refl

pub test_no_operand : (own : List ℕ) (x : Symbol) → is_test x ≡ true → is_operand own x ≡ false
test_no_operand own (Guard e) h = refl
test_no_operand own (Let name e) h = refl
test_no_operand own x h = absurd (cc)

skipped : (x : Symbol) (xs : List Symbol) → is_test x ≡ true → without_tests (x ∷ xs) ≡ without_tests xs
skipped (Guard e) xs h = refl
skipped (Let name e) xs h = refl
skipped x xs h = absurd (cc)

kept : (x : Symbol) (xs : List Symbol) → is_test x ≡ false → without_tests (x ∷ xs) ≡ x ∷ without_tests xs
kept (Guard e) xs h = absurd (cc)
kept (Let name e) xs h = absurd (cc)
kept x xs h = refl

only_none : (xs : List Symbol) → only_tests xs ≡ true → without_tests xs ≡ []
only_none [] h = refl
only_none (x ∷ xs) h = skipped x xs (first_true (is_test x) (only_tests xs) h) ∙ only_none xs (rest_true (is_test x) (only_tests xs) h)

none_only : (xs : List Symbol) → without_tests xs ≡ [] → only_tests xs ≡ true
none_only [] h = refl
none_only (x ∷ xs) h = go (is_test x) refl (none_only xs)
  where
    go : (b : Bool) → is_test x ≡ b → (without_tests xs ≡ [] → only_tests xs ≡ true) → (is_test x && only_tests xs) ≡ true
    go true e below = and_from (is_test x) (only_tests xs) e (below (sym (skipped x xs e) ∙ h))
    go false e below = let f : x ∷ without_tests xs ≡ [] = sym (kept x xs e) ∙ h in absurd (cc)

more_than : (xs : List Symbol) → only_tests xs ≡ false → (y : Symbol) × (ys : List Symbol) × (without_tests xs ≡ y ∷ ys)
more_than xs h = go (without_tests xs) refl
  where
    go : (zs : List Symbol) → without_tests xs ≡ zs → (y : Symbol) × (ys : List Symbol) × (without_tests xs ≡ y ∷ ys)
    go [] e = let f : only_tests xs ≡ true = none_only xs e in absurd (cc)
    go (y ∷ ys) e = (y, ys, e)

-- behind the first symbol there is no left operand
pub no_later_left : (p : Place) (xs : List Symbol) → has_left p false xs ≡ false
no_later_left p [] = refl
no_later_left p (x ∷ xs) = go (is_operand p.own x) p.active (no_later_left p xs)
  where
    go : (a b : Bool) → has_left p false xs ≡ false → ((a && (b && false)) || has_left p false xs) ≡ false
    go true true h = h
    go true false h = h
    go false b h = h

unchanged : (first : Bool) (b : Bool) → b ≡ true → (first && b) ≡ first
unchanged true b e = e
unchanged false b e = refl

pub behind_test : (p : Place) (first : Bool) (x : Symbol) (xs : List Symbol) → is_test x ≡ true → has_left p first (x ∷ xs) ≡ has_left p first xs
behind_test p first x xs e =
    let no : is_operand p.own x ≡ false = test_no_operand p.own x e in
    let same : (first && is_test x) ≡ first = unchanged first (is_test x) e in
    rw (no, same) refl

pub right_behind_test : (p : Place) (first : Bool) (x : Symbol) (xs : List Symbol) → is_test x ≡ true → has_right p first (x ∷ xs) ≡ has_right p first xs
right_behind_test p first x xs e =
    let no : is_operand p.own x ≡ false = test_no_operand p.own x e in
    let same : (first && is_test x) ≡ first = unchanged first (is_test x) e in
    rw (no, same) refl

pub at_symbol : (p : Place) (first : Bool) (x : Symbol) (xs : List Symbol) → is_test x ≡ false → has_left p first (x ∷ xs) ≡ is_left p first x xs
at_symbol p first x xs e =
    let no : has_left p false xs ≡ false = no_later_left p xs in
    let ends : (first && is_test x) ≡ false = and_right first (is_test x) e in
    rw (ends, no) (or-false (is_left p first x xs))

pub right_at_symbol : (p : Place) (first : Bool) (x : Symbol) (xs : List Symbol) → is_test x ≡ false →
    has_right p first (x ∷ xs) ≡ (is_right p first x xs || has_right p false xs)
right_at_symbol p first x xs e =
    let ends : (first && is_test x) ≡ false = and_right first (is_test x) e in
    rw ends refl

pub record LeftFound (p : Place) (xs : List Symbol) : Type 0 where
  pub active : p.active ≡ true
  pub has : HasLeftOperand p.own xs

left_before_test : (p : Place) (x : Symbol) (xs : List Symbol) → is_test x ≡ true → LeftFound p xs → LeftFound p (x ∷ xs)
left_before_test p x xs e found =
    record {
      active = found.active;
      has = record { first = found.has.first; second = found.has.second; others = found.has.others; split = skipped x xs e ∙ found.has.split; calls = found.has.calls };
    }

left_at : (p : Place) (x : Symbol) (xs : List Symbol) → is_test x ≡ false → is_left p true x xs ≡ true → LeftFound p (x ∷ xs)
left_at p x xs e h =
    let operand : is_operand p.own x ≡ true = first_true (is_operand p.own x) (p.active && not (only_tests xs)) h in
    let rest : (p.active && not (only_tests xs)) ≡ true = rest_true (is_operand p.own x) (p.active && not (only_tests xs)) h in
    let more = more_than xs (not-true (only_tests xs) (rest_true p.active (not (only_tests xs)) rest)) in
    record {
      active = first_true p.active (not (only_tests xs)) rest;
      has = record { first = x; second = more.0; others = more.1; split = kept x xs e ∙ ap (λ z. x ∷ z) more.2; calls = operand_calls p.own x operand };
    }

pub left_found : (p : Place) (xs : List Symbol) → has_left p true xs ≡ true → LeftFound p xs
left_found p [] h = absurd (cc)
left_found p (x ∷ xs) h = go (is_test x) refl (left_found p xs)
  where
    go : (b : Bool) → is_test x ≡ b → (has_left p true xs ≡ true → LeftFound p xs) → LeftFound p (x ∷ xs)
    go true e below = left_before_test p x xs e (below (sym (behind_test p true x xs e) ∙ h))
    go false e below = left_at p x xs e (sym (at_symbol p true x xs e) ∙ h)

head_same : (x y : Symbol) (xs ys : List Symbol) → x ∷ xs ≡ y ∷ ys → (x ≡ y) × (xs ≡ ys)
head_same x y xs ys e = (cc, cc)

left_here : (p : Place) (x : Symbol) (xs : List Symbol) (first second : Symbol) (others : List Symbol) → p.active ≡ true → Calls p.own first →
    x ≡ first → without_tests xs ≡ second ∷ others → is_left p true x xs ≡ true
left_here p x xs first second others active calls same split =
    let operand : is_operand p.own x ≡ true = ap (is_operand p.own) same ∙ calls_operand p.own calls in
    let more : only_tests xs ≡ false = go (only_tests xs) refl in
    rw (operand, active, more) refl
  where
    go : (b : Bool) → only_tests xs ≡ b → b ≡ false
    go true e = let f : [] ≡ second ∷ others = sym (only_none xs e) ∙ split in absurd (cc)
    go false e = refl

pub left_sought : (p : Place) (xs : List Symbol) (first second : Symbol) (others : List Symbol) → p.active ≡ true → Calls p.own first →
    without_tests xs ≡ first ∷ second ∷ others → has_left p true xs ≡ true
left_sought p [] first second others active calls split = absurd (cc)
left_sought p (x ∷ xs) first second others active calls split = go (is_test x) refl (left_sought p xs first second others active calls)
  where
    go : (b : Bool) → is_test x ≡ b → (without_tests xs ≡ first ∷ second ∷ others → has_left p true xs ≡ true) → has_left p true (x ∷ xs) ≡ true
    go true e below = behind_test p true x xs e ∙ below (sym (skipped x xs e) ∙ split)
    go false e below =
        let same = head_same x first (without_tests xs) (second ∷ others) (sym (kept x xs e) ∙ split) in
        at_symbol p true x xs e ∙ left_here p x xs first second others active calls same.0 same.1

-- the last symbol is an operand; where none stands before the list, it is not the only one
pub record EndsWith (p : Place) (first : Bool) (xs : List Symbol) : Type 0 where
  pub active : p.active ≡ true
  pub before : List Symbol
  pub last : Symbol
  pub split : without_tests xs ≡ before ++ last ∷ []
  pub calls : Calls p.own last
  pub more : first ≡ true → before ≢ []

either : (a b : Bool) → (a || b) ≡ true → (a ≡ true → ⊥) → b ≡ true
either true b h not_a = absurd (not_a refl)
either false b h not_a = h

right_at : (p : Place) (first : Bool) (x : Symbol) (xs : List Symbol) → is_test x ≡ false → is_right p first x xs ≡ true → EndsWith p first (x ∷ xs)
right_at p first x xs e h =
    let operand : is_operand p.own x ≡ true = first_true (is_operand p.own x) (p.active && (not first && only_tests xs)) h in
    let rest : (p.active && (not first && only_tests xs)) ≡ true = rest_true (is_operand p.own x) (p.active && (not first && only_tests xs)) h in
    let both : (not first && only_tests xs) ≡ true = rest_true p.active (not first && only_tests xs) rest in
    let later : first ≡ false = not-true first (first_true (not first) (only_tests xs) both) in
    record {
      active = first_true p.active (not first && only_tests xs) rest;
      before = [];
      last = x;
      split = kept x xs e ∙ ap (λ z. x ∷ z) (only_none xs (rest_true (not first) (only_tests xs) both));
      calls = operand_calls p.own x operand;
      more = λ is. absurd (cc);
    }

right_below : (p : Place) (first : Bool) (x : Symbol) (xs : List Symbol) → is_test x ≡ false → EndsWith p false xs → EndsWith p first (x ∷ xs)
right_below p first x xs e found =
    record {
      active = found.active;
      before = x ∷ found.before;
      last = found.last;
      split = kept x xs e ∙ ap (λ z. x ∷ z) found.split;
      calls = found.calls;
      more = λ is none. let f : x ∷ found.before ≡ [] = none in absurd (cc);
    }

right_before_test : (p : Place) (first : Bool) (x : Symbol) (xs : List Symbol) → is_test x ≡ true → EndsWith p first xs → EndsWith p first (x ∷ xs)
right_before_test p first x xs e found =
    record {
      active = found.active;
      before = found.before;
      last = found.last;
      split = skipped x xs e ∙ found.split;
      calls = found.calls;
      more = found.more;
    }

pub right_found : (p : Place) (first : Bool) (xs : List Symbol) → has_right p first xs ≡ true → EndsWith p first xs
right_found p first [] h = absurd (cc)
right_found p first (x ∷ xs) h = go (is_test x) refl (is_right p first x xs) refl (right_found p first xs) (right_found p false xs)
  where
    go : (b : Bool) → is_test x ≡ b → (c : Bool) → is_right p first x xs ≡ c → (has_right p first xs ≡ true → EndsWith p first xs) →
        (has_right p false xs ≡ true → EndsWith p false xs) → EndsWith p first (x ∷ xs)
    go true e c f below later = right_before_test p first x xs e (below (sym (right_behind_test p first x xs e) ∙ h))
    go false e true f below later = right_at p first x xs e f
    go false e false f below later =
        right_below p first x xs e (later (either (is_right p first x xs) (has_right p false xs) (sym (right_at_symbol p first x xs e) ∙ h) (λ is. absurd (cc))))

right_here : (p : Place) (x : Symbol) (xs : List Symbol) (last : Symbol) → p.active ≡ true → Calls p.own last → x ≡ last →
    without_tests xs ≡ [] → is_right p false x xs ≡ true
right_here p x xs last active calls same split =
    let operand : is_operand p.own x ≡ true = ap (is_operand p.own) same ∙ calls_operand p.own calls in
    let only : only_tests xs ≡ true = none_only xs split in
    rw (operand, active, only) refl

pub or_true : (a : Bool) → (a || true) ≡ true
or_true true = refl
or_true false = refl

pub right_sought : (p : Place) (first : Bool) (xs before : List Symbol) (last : Symbol) → p.active ≡ true → Calls p.own last →
    without_tests xs ≡ before ++ last ∷ [] → (first ≡ true → before ≢ []) → has_right p first xs ≡ true
right_sought p first [] [] last active calls split more = absurd (cc)
right_sought p first [] (y ∷ ys) last active calls split more = absurd (cc)
right_sought p first (x ∷ xs) before last active calls split more =
    go (is_test x) refl (λ s m. right_sought p first xs before last active calls s m)
    (λ (ys : List Symbol) (s : without_tests xs ≡ ys ++ last ∷ []). right_sought p false xs ys last active calls s (λ f. absurd (cc)))
  where
    at : (before : List Symbol) → is_test x ≡ false → without_tests (x ∷ xs) ≡ before ++ last ∷ [] → (first ≡ true → before ≢ []) →
        ((ys : List Symbol) → without_tests xs ≡ ys ++ last ∷ [] → has_right p false xs ≡ true) → (is_right p first x xs || has_right p false xs) ≡ true
    at [] e s m later =
        let same = head_same x last (without_tests xs) [] (sym (kept x xs e) ∙ s) in
        let here : is_right p first x xs ≡ true = is_late first refl same.0 same.1 (λ f. m f refl) in
        rw here refl
      where
        is_late : (f : Bool) → first ≡ f → x ≡ last → without_tests xs ≡ [] → (first ≡ true → ⊥) → is_right p first x xs ≡ true
        is_late true e a b not_first = absurd (not_first e)
        is_late false e a b not_first =
            subst (λ z. is_right p z x xs ≡ true) (sym e) (right_here p x xs last active calls a b)
    at (y ∷ ys) e s m later =
        let same = head_same x y (without_tests xs) (ys ++ last ∷ []) (sym (kept x xs e) ∙ s) in
        let rest : has_right p false xs ≡ true = later ys same.1 in
        rw rest (or_true (is_right p first x xs))

    go : (b : Bool) → is_test x ≡ b →
        (without_tests xs ≡ before ++ last ∷ [] → (first ≡ true → before ≢ []) → has_right p first xs ≡ true) →
        ((ys : List Symbol) → without_tests xs ≡ ys ++ last ∷ [] → has_right p false xs ≡ true) → has_right p first (x ∷ xs) ≡ true
    go true e below later = right_behind_test p first x xs e ∙ below (sym (skipped x xs e) ∙ split) more
    go false e below later = right_at_symbol p first x xs e ∙ at before e split more later
