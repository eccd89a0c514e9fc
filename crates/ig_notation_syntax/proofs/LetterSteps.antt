-- The letters of a literal, read one after another.
use Rattle.std.proofs.Common.{◌≡◌, ◌∙◌, ℕ, ◌+◌, ◌-◌, ◌*◌, ◌^◌, ◌<◌, ◌≤◌, List, [], ◌∷◌, ◌++◌, Bool, true, false, not, cond, ◌==◌, Result, IfOk, Option, Some, None, option_map, is_some, length, chars, IsUtf8, encode_utf8, refl, sym, ap, subst, arith, append-nil}
use Rattle.std.proofs.lemmas.List.{append_cancel_right, nil_from_length}
use Rattle.std.proofs.lemmas.Bool.Decides.{nat_tests}
use Rattle.std.proofs.lemmas.Str.{chars-append, chars-nil, encodes-chars, encodes-append, chars_from_encodes}
use Rattle.ig_expr.specs.Reading.{spelled}
use Rattle.ig_expr.specs.Laws.{DigitsGrow}
use Rattle.std.specs.Map.{lookup}
use Rattle.ig_notation_syntax.specs.Spelling.{literal_signs, is_one_of, escape}
use Rattle.ig_notation_syntax.specs.Scanner as scanner
use Rattle.ig_notation_syntax.specs.Scanner.{letter, text_of, text_behind, not_empty, literal_of, backslash, stands_for, numeral, number_token}
use Rattle.ig_notation_syntax.specs.View.{literal_text}
use Rattle.ig_notation_syntax.specs.Steps.{Begins}

never : (d : ℕ) (r : Option (List ℕ)) → option_map (λ text. d ∷ text) r ≡ Some [] → ⊥
never d None q = cc
never d (Some t) q = cc

some_behind : (l : Option scanner.Letter) (behind : Bool → Option (List ℕ)) → (behind true ≡ Some [] → ⊥) →
    text_behind l behind ≡ Some [] → ⊥
some_behind None behind h q = cc
some_behind (Some backslash) behind h q = h q
some_behind (Some (stands_for d)) behind h q = never d (behind false) q

-- an escape isn't left open, and characters stand for characters
left_open : (cs : List ℕ) → text_of true cs ≡ Some [] → ⊥
left_open [] h = cc
left_open (c ∷ cs) h = some_behind (letter literal_signs true c) (λ e. text_of e cs) (left_open cs) h

pub text_of_some : (c : ℕ) (cs : List ℕ) → text_of false (c ∷ cs) ≡ Some [] → ⊥
text_of_some c cs h = some_behind (letter literal_signs false c) (λ e. text_of e cs) (left_open cs) h

kept : (c : ℕ) (cs : List ℕ) (r : Option (List ℕ)) → (r ≡ Some [] → ⊥) → is_some r ≡ is_some (not_empty r)
kept c cs None h = refl
kept c cs (Some []) h = absurd (h refl)
kept c cs (Some (d ∷ ds)) h = refl

pub literal_some : (cs : List ℕ) → (cs ≡ [] → ⊥) → is_some (text_of false cs) ≡ is_some (literal_of cs)
literal_some [] h = absurd (h refl)
literal_some (c ∷ cs) h = kept c cs (text_of false (c ∷ cs)) (text_of_some c cs)

pub literal_begins : (r : Option (List ℕ)) (text : List ℕ) → text ≡ [] → r ≡ option_map (λ t. text ++ t) r
literal_begins None text e = refl
literal_begins (Some t) text e = rw e refl

pub literal_ends : (e : Bool) (text : List ℕ) → text ≡ [] → is_some (text_of e text) ≡ not e
literal_ends true text h = rw h refl
literal_ends false text h = rw h refl

-- the table of escapes, where the character isn't special
abbrev others : List (ℕ × ℕ)
others = (110, 10) ∷ (114, 13) ∷ (116, 9) ∷ []

pub escape_of : (special : List ℕ) (c d : ℕ) (r : Option ℕ) (b : Bool) → b ≡ is_one_of special c → b ≡ false → c ≡ d →
    r ≡ lookup (λ x. x == d) others → r ≡ escape special c
escape_of special c d r b told bare same there =
    there ∙ ap (λ z. lookup (λ x. x == z) others) (sym same) ∙
    ap (λ z. cond z (Some c) (lookup (λ x. x == c) others)) (sym bare ∙ told)

-- numbers
pub number_over : (grow : DigitsGrow) (n c : ℕ) (text after : List ℕ) (all : ℕ) → text ≡ c ∷ after →
    2 ^ 64 ≤ 10 * n + (c - 48) → spelled n text ≡ all → 2 ^ 63 ≤ all
number_over grow n c text after all h k e =
    let p : spelled n text ≡ spelled (10 * n + (c - 48)) after = rw h refl in
    omega (arith, grow after (10 * n + (c - 48)))

-- the first digit alone
pub first_digit : (text digits after : List ℕ) (c : ℕ) → Begins text c after → IsUtf8 digits → text ≡ digits ++ after →
    chars digits ≡ c ∷ []
first_digit text digits after c b u e =
    append_cancel_right (chars digits) (c ∷ []) (chars after) (sym (chars-append digits after u) ∙ ap chars (sym e) ∙ b.spelled)

pub nought_numeral : (c : ℕ) (cs : List ℕ) → c ≡ 48 → numeral c cs ≡ number_token (c ∷ []) cs
nought_numeral c cs e = rw e refl

-- nothing has no character, and what has bytes has some
pub no_bytes : (text : List ℕ) → IsUtf8 text → chars text ≡ [] → length text ≡ 0
no_bytes text u e = ap length (sym (encodes-chars text u)) ∙ rw e refl

pub is_literal_all : (inside : List ℕ) (empty : Bool) → IsUtf8 inside → empty ≡ (length inside == 0) →
    is_some (text_of false (chars inside)) ≡ true → not empty ≡ is_some (literal_of (chars inside))
is_literal_all inside empty u e t = go (length inside == 0) refl
  where
    go : (b : Bool) → (length inside == 0) ≡ b → not empty ≡ is_some (literal_of (chars inside))
    go true h =
        let n : length inside ≡ 0 = grind (arith, nat_tests) in
        let p : chars inside ≡ [] = rw (nil_from_length inside n) chars-nil in rw (e, h, p) refl
    go false h =
        let n : length inside ≡ 0 → ⊥ = λ q. grind (arith, nat_tests) in
        rw (e, h) (sym t ∙ literal_some (chars inside) (λ q. n (no_bytes inside u q)))

pub literal_text_none : (cs : List ℕ) → None ≡ text_of false cs → literal_text cs ≡ []
literal_text_none cs e = rw (← e) refl

pub pushed : (old new : List ℕ) (c : ℕ) → IsUtf8 old → new ≡ old ++ encode_utf8 c → IsUtf8 new → chars new ≡ chars old ++ c ∷ []
pushed old new c u e v =
    sym (chars_from_encodes (chars old ++ c ∷ []) new v
    (encodes-append (chars old) (c ∷ []) ∙
    (ap (λ (z : List ℕ). z ++ (encode_utf8 c ++ [])) (encodes-chars old u) ∙
    (ap (λ (z : List ℕ). old ++ z) (append-nil (encode_utf8 c)) ∙ sym e))))

pub word_is : {E : Type 0} (r : Result (List ℕ) E) (cs ds : List ℕ) → cs ≡ ds → IfOk r (λ w. w ≡ cs) → IfOk r (λ w. w ≡ ds)
word_is r cs ds e h = subst (λ (z : List ℕ). IfOk r (λ w. w ≡ z)) e h

pub not_below : (n m : ℕ) → (n < m → ⊥) → m ≤ n
not_below n m h = omega arith
