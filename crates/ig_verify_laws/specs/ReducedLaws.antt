-- Reduced forests are drafts, and sound ones.
use Rattle.std.specs.Prelude.{◌≡◌, ℕ, ◌<◌, ◌≤◌, List, All, length, Option, Some, None, MatchOption}
use Rattle.ig_text.specs.Input.{Input, KeepsLimits}
use Rattle.ig_text.specs.Limits.{numbers_end}
use Rattle.ig_expr.specs.Evaluation.{value_of}
use Rattle.ig_expr.specs.Expression.{Expression}
use Rattle.ig_expr.specs.declared.value.Value.{Value}
use Rattle.ig_item.specs.Core.{dots}
use Rattle.ig_item.specs.Items.{Item, Reachable}
use Rattle.ig_item.specs.WellKinded.{IsWellKinded, OfEach}
use Rattle.ig_item.specs.declared.core_grammar.Nonterminal.{Nonterminal}
use Rattle.ig_forest_tables.specs.Forest.{Forest, IsForest}
use Rattle.ig_forest.specs.Reduced.{IsReduced}
use Rattle.ig_verify.specs.Flaws.{IsFirstFlaw}
use Rattle.ig_verify.specs.Sound.{IsSound}
use Rattle.ig_verify.specs.declared.flaw.Flaw.{Flaw}
use Rattle.ig_forest_reader.specs.Written.{IsDraftOf, IsSmall}
use Rattle.ig_verify_laws.specs.Ranges.{HasSmallIntegers, IntegersFit, IsWritable}

-- the reduced forest of a well-kinded core grammar and a text is sound
abbrev pub ReducedIsSound : Type 0
ReducedIsSound =
    (core : List Nonterminal) (text : Input) (f : Forest) → IsWellKinded core → IsReduced core text f → IsForest f →
    IsSound core text f

-- where a forest is sound, the first broken rule is none
abbrev pub SoundHasNoFlaw : Type 0
SoundHasNoFlaw =
    (core : List Nonterminal) (text : Input) (f : Forest) (flaw : Option Flaw) → IsSound core text f →
    MatchOption flaw (IsSound core text f) (IsFirstFlaw core text f) → flaw ≡ None

-- the number of an alternative is at most that of all dots, and it has fewer steps
abbrev pub AlternativesAreFew : Type 0
AlternativesAreFew =
    (core : List Nonterminal) →
    OfEach core (λ n a nonterminal alternative. (a ≤ dots core) × (length alternative.steps < dots core))

-- where the integers of an expression fit 64 bits, and the values of its variables do, and spans 32, so does its value
abbrev pub ValuesAreSmall : Type 0
ValuesAreSmall =
    (text : Input) (names : List (List ℕ)) (env : List Value) (here : ℕ) (e : Expression) (v : Value) →
    KeepsLimits text → here ≤ length text.characters → All IsSmall env → HasSmallIntegers e →
    value_of text names env here e ≡ Some v → IsSmall v

-- so do the values of a reachable item
pub record ItemIsSmall (x : Item) : Type 0 where
  pub values : All IsSmall x.instance.values
  pub env : All IsSmall x.env

abbrev pub ItemsAreSmall : Type 0
ItemsAreSmall =
    (core : List Nonterminal) (text : Input) (x : Item) → KeepsLimits text → IntegersFit core →
    Reachable core text x → ItemIsSmall x

-- the reduced forest is a draft, which can be written down with the names and tags of the core grammar, where it has fewer
-- than 2 to the power of 32 items
abbrev pub ReducedIsDraft : Type 0
ReducedIsDraft =
    (core : List Nonterminal) (text : Input) (f : Forest) → IsWritable core → KeepsLimits text →
    IsReduced core text f → length f.items < numbers_end → IsDraftOf core f
