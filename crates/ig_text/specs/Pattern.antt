-- Where a pattern matches, and literals that aren't empty.
use Rattle.std.specs.Prelude.{◌≡◌, ◌≢◌, ℕ, ◌+◌, List, [], Some, slice_get, IsTrue}
use Rattle.ig_text.specs.Input.{Input}
use Rattle.ig_text.specs.Place.{Spells}
use Rattle.ig_text.specs.Class.{is_in_class}
use Rattle.ig_text.specs.declared.class.Class.{Class}
use Rattle.ig_text.specs.declared.pattern.Pattern.{Pattern}
use Rattle.ig_text.specs.declared.pattern.Pattern.TheVariants.{Literal, OneOf}

-- the text has a character of the class at i, and j is the position behind it
pub record IsOneOf (text : Input) (class : Class) (i j : ℕ) : Type 0 where
  pub character : ℕ
  pub there : slice_get text.characters i ≡ Some character
  pub member : IsTrue (is_in_class class character)
  pub next : j ≡ i + 1

-- the pattern matches the text from i to j
abbrev pub Matches : Input → Pattern → ℕ → ℕ → Type 0
Matches text (Literal word) i j = Spells text word i j
Matches text (OneOf class) i j = IsOneOf text class i j

-- a literal has at least one character
abbrev pub HasNoEmptyLiteral : Pattern → Type 0
HasNoEmptyLiteral (Literal word) = word ≢ []
HasNoEmptyLiteral (OneOf class) = Unit {0}
