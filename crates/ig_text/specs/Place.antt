-- Places in a text: positions count its characters, from 0 to its length.
use Rattle.std.specs.Prelude.{◌≡◌, ℕ, ◌≤◌, List, length, slice_range}
use Rattle.ig_text.specs.Input.{Input}
use Rattle.ig_text.specs.declared.text.Span.{Span}

-- the text from i to j is the word
pub record Spells (text : Input) (word : List ℕ) (i j : ℕ) : Type 0 where
  pub onward : i ≤ j
  pub within : j ≤ length text.characters
  pub letters : slice_range text.characters i j ≡ word

-- the span lies in the text
pub record IsInside (text : Input) (span : Span) : Type 0 where
  pub onward : span.begin ≤ span.end
  pub within : span.end ≤ length text.characters

-- both spans lie in the text, and have equal characters
pub record AreSame (text : Input) (a b : Span) : Type 0 where
  pub first : IsInside text a
  pub second : IsInside text b
  pub letters : slice_range text.characters a.begin a.end ≡ slice_range text.characters b.begin b.end
