-- The tests of a match decide whether there is one.
use Rattle.std.proofs.Common.{◌≡◌, ℕ, ◌+◌, ◌-◌, ◌≤◌, List, Bool, true, not, Option, Some, None, length, refl, sym, subst, arith, leb}
use Rattle.std.specs.Prelude.{slice_range, slice_get, MatchOption, is_some}
use Rattle.std.specs.Bool.{Decides}
use Rattle.std.specs.Cmp.Lexicographic.{bytes_decides}
use Rattle.std.proofs.lemmas.Bool.Decides.{same_from_decides, Decides-and, Decides-not, Decides-like, nat_tests}
use Rattle.ig_text.specs.Input.{Input}
use Rattle.ig_text.specs.Class.{is_in_class}
use Rattle.ig_text.specs.Pattern.{Matches}
use Rattle.ig_text.specs.declared.class.Class.{Class}
use Rattle.ig_text.specs.declared.pattern.Pattern.{Pattern}
use Rattle.ig_text.specs.declared.pattern.Pattern.TheVariants.{Literal, OneOf}
use Rattle.ig_text.specs.Words.{is_word}
use Rattle.ig_text.proofs.Matching.{spelled_width}
use Rattle.ig_expr.specs.Matching.{width, is_some_of, matches_at, matches_before}

-- a match begins at p
abbrev pub Begins : Input → Pattern → ℕ → Type 0
Begins text pattern p = (j : ℕ) × Matches text pattern p j

-- a match ends at p
abbrev pub Ends : Input → Pattern → ℕ → Type 0
Ends text pattern p = (i : ℕ) × Matches text pattern i p

Decides-leb : (a b : ℕ) → Decides (leb a b) (a ≤ b)
Decides-leb a b = (λ h. grind (arith, nat_tests), λ h. grind (arith, nat_tests))

literal_begins : (text : Input) (word : List ℕ) (p : ℕ) → Decides (matches_at text (Literal word) p) (Begins text (Literal word) p)
literal_begins text word p =
    Decides-like (matches_at text (Literal word) p)
    (λ h. (p + length word, record { onward = omega arith; within = h.0; letters = h.1 }))
    (λ (j, s). (
      subst (λ (z : ℕ). z ≤ length text.characters) (spelled_width text word p j s) s.within,
      subst (λ (z : ℕ). slice_range text.characters p z ≡ word) (spelled_width text word p j s) s.letters,
    ))
    (Decides-and (leb (p + length word) (length text.characters)) (is_word (slice_range text.characters p (p + length word)) word) (Decides-leb (p + length word) (length text.characters)) (bytes_decides (slice_range text.characters p (p + length word)) word))

class_begins : (text : Input) (class : Class) (p : ℕ) (o : Option ℕ) → slice_get text.characters p ≡ o →
    Decides (is_some_of class o) (Begins text (OneOf class) p)
class_begins text class p None e = (λ h. cc, λ (j, m). let there = m.there in cc)
class_begins text class p (Some c) e = (
  λ h. (p + 1, record { character = c; there = e; member = h; next = refl }),
  (λ (j, m).
      let there = m.there in
      let same : m.character ≡ c = cc in subst (λ (z : ℕ). is_in_class class z ≡ true) same m.member),
)

pub begins : (text : Input) (pattern : Pattern) (p : ℕ) → Decides (matches_at text pattern p) (Begins text pattern p)
begins text (Literal word) p = literal_begins text word p
begins text (OneOf class) p = class_begins text class p (slice_get text.characters p) refl

pub matches_at_is : (text : Input) (pattern : Pattern) (p : ℕ) (r : Option ℕ) (b : Bool) → b ≡ is_some r →
    MatchOption r ((j : ℕ) → Matches text pattern p j → ⊥) (Matches text pattern p) → b ≡ matches_at text pattern p
matches_at_is text pattern p None b e h =
    same_from_decides b (matches_at text pattern p) (λ t. cc, λ (j, m). absurd (h j m)) (begins text pattern p)
matches_at_is text pattern p (Some j) b e h =
    same_from_decides b (matches_at text pattern p) (λ t. (j, h), λ m. e) (begins text pattern p)

-- a match is as long as the pattern says
pub match_width : (text : Input) (pattern : Pattern) (i j : ℕ) → Matches text pattern i j → j ≡ i + width pattern
match_width text (Literal word) i j m = spelled_width text word i j m
match_width text (OneOf class) i j m = m.next

pub ends : (text : Input) (pattern : Pattern) (p : ℕ) → Decides (matches_before text pattern p) (Ends text pattern p)
ends text pattern p =
    Decides-like (matches_before text pattern p)
    (λ h.
    let j = h.1.0 in
    let m = h.1.1 in
    let long : j ≡ p - width pattern + width pattern = match_width text pattern (p - width pattern) j m in
    let room = h.0 in
    let here : j ≡ p = omega arith in (p - width pattern, subst (λ (z : ℕ). Matches text pattern (p - width pattern) z) here m))
    (λ (i, m).
    let long : p ≡ i + width pattern = match_width text pattern i p m in
    let room : width pattern ≤ p = omega arith in
    let here : i ≡ p - width pattern = omega arith in
    (room, (p, subst (λ (z : ℕ). Matches text pattern z p) here m)))
    (Decides-and (leb (width pattern) p) (matches_at text pattern (p - width pattern)) (Decides-leb (width pattern) p) (begins text pattern (p - width pattern)))

-- what equals the test tells the same
pub ends_where : (text : Input) (pattern : Pattern) (p : ℕ) (b : Bool) → b ≡ matches_before text pattern p →
    Decides b (Ends text pattern p)
ends_where text pattern p b e = subst (λ (z : Bool). Decides z (Ends text pattern p)) (sym e) (ends text pattern p)

pub not_begins : (text : Input) (pattern : Pattern) (p : ℕ) →
    Decides (not (matches_at text pattern p)) ((j : ℕ) → Matches text pattern p j → ⊥)
not_begins text pattern p =
    Decides-like (not (matches_at text pattern p)) (λ h j m. h (j, m)) (λ h m. h m.0 m.1)
    (Decides-not (matches_at text pattern p) (begins text pattern p))

pub not_ends : (text : Input) (pattern : Pattern) (p : ℕ) →
    Decides (not (matches_before text pattern p)) ((i : ℕ) → Matches text pattern i p → ⊥)
not_ends text pattern p =
    Decides-like (not (matches_before text pattern p)) (λ h i m. h (i, m)) (λ h m. h m.0 m.1)
    (Decides-not (matches_before text pattern p) (ends text pattern p))
