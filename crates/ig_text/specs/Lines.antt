-- Lines and columns count from 1, in the characters before a position.
use Rattle.std.specs.Prelude.{ℕ, ◌+◌, ◌*◌, ◌/◌, zero, suc, ◌==◌, if◌then◌else◌, Bool, List, [], ◌∷◌, length, take, count_by, Option, Some, None, codes, nat_le, ℤ, pos, negsuc}
use Rattle.ig_text.specs.Input.{Input}

-- what ends a line, as UTF-8
abbrev pub line_end : List ℕ
line_end = codes "\n"

-- a line feed
abbrev pub is_line_feed : ℕ → Bool
is_line_feed c = c == 10

-- a tab
abbrev pub is_tab : ℕ → Bool
is_tab c = c == 9

-- 1 plus the number of line feeds before the position
abbrev pub line_of : Input → ℕ → ℕ
line_of text p = count_by is_line_feed (take p text.characters) + 1

-- how many columns of its line end with the character, where n do before it: a line feed begins a new line, a tab goes
-- on to the least multiple of the width z that is greater, and each other character takes one
abbrev pub columns_with : ℕ → ℕ → ℕ → ℕ
columns_with z n c = if is_line_feed c then 0 else if is_tab c then (n / z + 1) * z else n + 1

-- the columns behind the last line feed; where there is none, those of the characters behind n columns
abbrev pub since_line_feed : ℕ → ℕ → List ℕ → ℕ
since_line_feed z n [] = n
since_line_feed z n (c ∷ cs) = since_line_feed z (columns_with z n c) cs

-- the column in which the character at the position begins: 1 at the start of its line
abbrev pub column_of : Input → ℕ → ℕ
column_of text p = since_line_feed text.tabs 0 (take p text.characters) + 1

-- the line of a position, which is at most the length
abbrev pub line_at : Input → ℕ → Option ℕ
line_at text p = if nat_le p (length text.characters) then Some (line_of text p) else None

-- the column of a position, or of -1, whose column is 0
abbrev pub column_at : Input → ℤ → Option ℤ
column_at text (pos p) = if nat_le p (length text.characters) then Some (pos (column_of text p)) else None
column_at text (negsuc zero) = Some (pos 0)
column_at text (negsuc (suc n)) = None
