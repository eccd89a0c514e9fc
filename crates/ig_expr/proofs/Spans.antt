-- The tests of spans decide whether their texts are equal.
use Rattle.std.proofs.Common.{◌≡◌, ◌∙◌, ℕ, ◌≤◌, List, Bool, true, false, ◌&&◌, cond, Option, Some, None, length, refl, sym, arith, leb}
use Rattle.std.specs.Prelude.{slice_range, MatchOption}
use Rattle.std.specs.Bool.{Decides}
use Rattle.std.specs.Cmp.Lexicographic.{bytes_decides}
use Rattle.std.proofs.lemmas.Bool.Decides.{Decides-like, nat_tests}
use Rattle.ig_text.specs.Input.{Input}
use Rattle.ig_text.specs.Place.{IsInside, AreSame, Spells}
use Rattle.ig_text.specs.declared.text.Span.{Span}
use Rattle.ig_text.specs.Words.{is_word}
use Rattle.ig_expr.specs.Reading.{letters_of, are_equal}

-- the option has the characters of the span, where it is in the text
abbrev Told : Input → Span → Option (List ℕ) → Type 0
Told text s o = MatchOption o (IsInside text s → ⊥) (λ xs. IsInside text s × (xs ≡ slice_range text.characters s.begin s.end))

told_by : (text : Input) (s : Span) (a b : Bool) → leb s.begin s.end ≡ a → leb s.end (length text.characters) ≡ b →
    Told text s (cond (a && b) (Some (slice_range text.characters s.begin s.end)) None)
told_by text s true true e f =
    let onward : s.begin ≤ s.end = grind (arith, nat_tests) in
    let within : s.end ≤ length text.characters = grind (arith, nat_tests) in
    (record { onward = onward; within = within }, refl)
told_by text s true false e f = λ i. let within = i.within in grind (arith, nat_tests)
told_by text s false b e f = λ i. let onward = i.onward in grind (arith, nat_tests)

told : (text : Input) (s : Span) → Told text s (letters_of text s)
told text s = told_by text s (leb s.begin s.end) (leb s.end (length text.characters)) refl refl

same_told : (text : Input) (s t : Span) (o q : Option (List ℕ)) → Told text s o → Told text t q →
    Decides (are_equal o q) (AreSame text s t)
same_told text s t None q a b = (λ h. cc, λ r. absurd (a r.first))
same_told text s t (Some xs) None a b = (λ h. cc, λ r. absurd (b r.second))
same_told text s t (Some xs) (Some ys) a b =
    Decides-like (is_word xs ys) (λ e. record { first = a.0; second = b.0; letters = sym a.1 ∙ e ∙ b.1 })
    (λ r. a.1 ∙ r.letters ∙ sym b.1) (bytes_decides xs ys)

spells_told : (text : Input) (word : List ℕ) (s : Span) (o : Option (List ℕ)) → Told text s o →
    Decides (are_equal o (Some word)) (Spells text word s.begin s.end)
spells_told text word s None a = (λ h. cc, λ r. absurd (a (record { onward = r.onward; within = r.within })))
spells_told text word s (Some xs) a =
    Decides-like (is_word xs word) (λ e. record { onward = a.0.onward; within = a.0.within; letters = sym a.1 ∙ e })
    (λ r. a.1 ∙ r.letters) (bytes_decides xs word)

pub same_decides : (text : Input) (s t : Span) →
    Decides (are_equal (letters_of text s) (letters_of text t)) (AreSame text s t)
same_decides text s t = same_told text s t (letters_of text s) (letters_of text t) (told text s) (told text t)

pub spells_decides : (text : Input) (word : List ℕ) (s : Span) →
    Decides (are_equal (letters_of text s) (Some word)) (Spells text word s.begin s.end)
spells_decides text word s = spells_told text word s (letters_of text s) (told text s)
