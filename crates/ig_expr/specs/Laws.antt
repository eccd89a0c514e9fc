-- What the tests of a text look for, and the kinds of values.
use Rattle.std.specs.Prelude.{◌≡◌, ◌↔◌, ℕ, ◌+◌, ◌≤◌, true, not, List, map, Option, Some}
use Rattle.std.specs.Bool.{Decides}
use Rattle.ig_text.specs.Input.{Input}
use Rattle.ig_text.specs.Place.{Spells, AreSame}
use Rattle.ig_text.specs.Pattern.{Matches}
use Rattle.ig_text.specs.declared.text.Span.{Span}
use Rattle.ig_text.specs.declared.pattern.Pattern.{Pattern}
use Rattle.ig_expr.specs.Expression as tree
use Rattle.ig_expr.specs.Expression.{Expression}
use Rattle.ig_expr.specs.Kinds.{kind_in, kind_of_value}
use Rattle.ig_expr.specs.declared.kind.Kind.{Kind}
use Rattle.ig_expr.specs.Matching.{width, matches_at, matches_before}
use Rattle.ig_expr.specs.Reading.{same, spells, spelled}
use Rattle.ig_expr.specs.Evaluation.{value_of}
use Rattle.ig_expr.specs.declared.value.Value.{Value}
use Rattle.ig_expr.specs.declared.value.Value.TheVariants as value

abbrev pub IsYes : Option Value → Type 0
IsYes v = v ≡ Some (value.Bool true)

-- over a text, in an environment at a position
pub record LooksFor (text : Input) (names : List (List ℕ)) (values : List Value) (here : ℕ) : Type 0 where
  pub same_text : (s t : Span) → IsYes (same text (value.Span s) (value.Span t)) ↔ AreSame text s t
  pub same_word : (s : Span) (word : List ℕ) → IsYes (spells text word (value.Span s)) ↔ Spells text word s.begin s.end
  pub free_before : (p : Pattern) → IsYes (value_of text names values here (tree.FreeBefore p)) ↔ ((i : ℕ) → Matches text p i here → ⊥)
  pub free_after : (p : Pattern) → IsYes (value_of text names values here (tree.FreeAfter p)) ↔ ((j : ℕ) → Matches text p here j → ⊥)

-- the tests of a pattern at a position are true exactly where there is a match, and false exactly where there is none
pub record DecidesMatches (text : Input) (pattern : Pattern) (p : ℕ) : Type 0 where
  pub begins : Decides (matches_at text pattern p) ((j : ℕ) × Matches text pattern p j)
  pub ends : Decides (matches_before text pattern p) ((i : ℕ) × Matches text pattern i p)
  pub not_begins : Decides (not (matches_at text pattern p)) ((j : ℕ) → Matches text pattern p j → ⊥)
  pub not_ends : Decides (not (matches_before text pattern p)) ((i : ℕ) → Matches text pattern i p → ⊥)

abbrev pub MatchesAreDecided : Type 0
MatchesAreDecided = (text : Input) (pattern : Pattern) (p : ℕ) → DecidesMatches text pattern p

abbrev pub TestsLookFor : Type 0
TestsLookFor = (text : Input) (names : List (List ℕ)) (values : List Value) (here : ℕ) → LooksFor text names values here

-- where the values of the names have these kinds, the value of an expression has the expression's kind
abbrev pub ValuesHaveKinds : Type 0
ValuesHaveKinds =
    (text : Input) (names : List (List ℕ)) (kinds : List Kind) (values : List Value) (here : ℕ) (e : Expression) (kind : Kind)
    (v : Value) → map kind_of_value values ≡ kinds → kind_in names kinds e ≡ Some kind →
    value_of text names values here e ≡ Some v → kind_of_value v ≡ kind

-- a match is as long as its pattern says
abbrev pub MatchesHaveTheirWidth : Type 0
MatchesHaveTheirWidth =
    (text : Input) (pattern : Pattern) (i j : ℕ) → Matches text pattern i j → j ≡ i + width pattern

-- digits behind those of a number make no lesser number
abbrev pub DigitsGrow : Type 0
DigitsGrow = (letters : List ℕ) (n : ℕ) → n ≤ spelled n letters
