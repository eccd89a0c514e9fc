-- What a word behind `--` is, by its first `=`.
use Rattle.std.proofs.Common.{◌≡◌, ◌∙◌, ℕ, ◌+◌, Bool, true, false, List, [], ◌∷◌, refl, sym, ap, arith, length}
use Rattle.std.specs.Prelude.{◌||◌, ◌==◌, if◌then◌else◌, not, cond, codes}
use Rattle.std.specs.List.{list_any, after_first, position_or_len}
use Rattle.std.specs.Str.Pattern.{FindsTextPrefix, StripsPrefix}
use Rattle.ig_command.specs.Words.{is_equals, is_value}
use Rattle.ig_command.specs.Rows.{is_empty, may_stand}

-- no `=` stands in a text
pub no_equals : (xs : List ℕ) → position_or_len is_equals xs ≡ length xs → list_any is_equals xs ≡ false
no_equals [] e = refl
no_equals (x ∷ xs) e = by_test (is_equals x) x xs e (no_equals xs)
  where
    by_test : (b : Bool) (x : ℕ) (xs : List ℕ) → cond (not b) (1 + position_or_len is_equals xs) 0 ≡ length (x ∷ xs) →
        (position_or_len is_equals xs ≡ length xs → list_any is_equals xs ≡ false) → (b || list_any is_equals xs) ≡ false
    by_test true x xs e more = absurd (omega (arith, e))
    by_test false x xs e more = more (omega (arith, e))

pub stripped : (w rest : List ℕ) → StripsPrefix (FindsTextPrefix (codes "--")) w rest → w ≡ 45 ∷ 45 ∷ rest
stripped w rest h = h.1.1 ∙ ap (λ z. 45 ∷ 45 ∷ z) (sym h.2)

behind_dashes : (rest : List ℕ) (h : Bool) → list_any is_equals rest ≡ h →
    may_stand (45 ∷ 45 ∷ rest) ≡ (if h then is_value (after_first is_equals rest) else not (is_empty rest))
behind_dashes rest true e = rw e refl
behind_dashes rest false e = rw e refl

none_there : (rest : List ℕ) → not (length rest == 0) ≡ not (is_empty rest)
none_there [] = refl
none_there (c ∷ cs) = grind arith

-- a name alone stands where it isn't empty
pub named : (w rest : List ℕ) (b : Bool) → w ≡ 45 ∷ 45 ∷ rest → list_any is_equals rest ≡ false → b ≡ (length rest == 0) →
    not b ≡ may_stand w
named w rest b same none e =
    ap not e ∙ none_there rest ∙ sym (behind_dashes rest false none) ∙ ap may_stand (sym same)
