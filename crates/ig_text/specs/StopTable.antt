-- The table of tab stops that a text keeps, so that columns are found without going through a line.
use Rattle.std.specs.Prelude.{◌≡◌, ◌⊎◌, ℕ, ◌+◌, ◌<◌, ◌≤◌, if◌then◌else◌, List, [], ◌∷◌, length, slice_index_or, slice_index, false, Contains}
use Rattle.ig_text.specs.Input.{Input}
use Rattle.ig_text.specs.Lines.{is_tab, is_line_feed, columns_with, column_of}
use Rattle.ig_text.specs.declared.stops.Stop.{Stop}

-- the positions directly behind the tabs of the characters, with their columns: the characters begin at position p,
-- behind n columns of their line
abbrev pub stops_behind : ℕ → ℕ → ℕ → List ℕ → List Stop
stops_behind z p n [] = []
stops_behind z p n (c ∷ cs) =
    if is_tab c then record { position = p + 1; column = columns_with z n c + 1 } ∷ stops_behind z (p + 1) (columns_with z n c) cs
    else stops_behind z (p + 1) (columns_with z n c) cs

-- the stops of a text
abbrev pub tab_stops : Input → List Stop
tab_stops text = stops_behind text.tabs 0 0 text.characters

-- the first k of the stops are at most p, and the others are greater
pub record IsStopSplit (stops : List Stop) (p k : ℕ) : Type 0 where
  pub within : k ≤ length stops
  pub front : (i : ℕ) (d : Stop) → i < k → (slice_index_or stops i d).position ≤ p
  pub back : (i : ℕ) (d : Stop) → k ≤ i → i < length stops → p < (slice_index_or stops i d).position

-- the start, or a stop behind it, up to p; each other stop up to p is no greater
pub record IsLastUpTo (stops : List Stop) (p : ℕ) (start stop : Stop) : Type 0 where
  pub onward : start.position ≤ stop.position
  pub before : start.position ≤ p → stop.position ≤ p
  pub known : (stop ≡ start) ⊎ Contains stops stop
  pub last : (other : Stop) → Contains stops other → other.position ≤ p → other.position ≤ stop.position

-- a place up to p whose column is known, and from which to p there is no line feed and no tab
pub record IsMark (text : Input) (p : ℕ) (mark : Stop) : Type 0 where
  pub before : mark.position ≤ p
  pub column : mark.column ≡ column_of text mark.position
  pub no_line_feed : (i : ℕ) → mark.position ≤ i → i < p → is_line_feed (slice_index text.characters i) ≡ false
  pub no_tab : (i : ℕ) → mark.position ≤ i → i < p → is_tab (slice_index text.characters i) ≡ false
