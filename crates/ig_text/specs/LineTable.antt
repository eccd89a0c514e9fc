-- The table of line starts that a text keeps.
use Rattle.std.specs.Prelude.{◌≡◌, ℕ, ◌+◌, ◌<◌, ◌≤◌, if◌then◌else◌, List, [], ◌∷◌, length, slice_index}
use Rattle.ig_text.specs.Limits.{most_characters}
use Rattle.ig_text.specs.Lines.{is_line_feed}

-- the positions directly behind the line feeds of the characters, which begin at position p
abbrev pub starts_behind : ℕ → List ℕ → List ℕ
starts_behind p [] = []
starts_behind p (c ∷ cs) = if is_line_feed c then (p + 1) ∷ starts_behind (p + 1) cs else starts_behind (p + 1) cs

-- the positions at which the lines of a text begin
abbrev pub line_starts : List ℕ → List ℕ
line_starts characters = 0 ∷ starts_behind 0 characters

-- the first k of the numbers are at most p, and the others are greater
pub record IsSplitAt (numbers : List ℕ) (p k : ℕ) : Type 0 where
  pub within : k ≤ length numbers
  pub front : (i : ℕ) → i < k → slice_index numbers i ≤ p
  pub back : (i : ℕ) → k ≤ i → i < length numbers → p < slice_index numbers i

-- the characters are few enough for a text, and these are the positions at which its lines begin
pub record IsIndexed (characters starts : List ℕ) : Type 0 where
  pub few : length characters ≤ most_characters
  pub lines : starts ≡ line_starts characters
