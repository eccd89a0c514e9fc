-- The width of tabs that a grammar says.
use Rattle.std.specs.Prelude.{ℕ, ◌&&◌, not, nat_le, Bool, false, Option, Some, None, ℤ, pos, negsuc}
use Rattle.ig_text.specs.Limits.{most_tabs}

-- whether tabs may have the width: from 1 to 16
abbrev pub is_width : ℤ → Bool
is_width (pos n) = nat_le 1 n && nat_le n most_tabs
is_width (negsuc n) = false

-- whether a width is said that tabs can't have
abbrev pub says_bad_width : Option ℤ → Bool
says_bad_width None = false
says_bad_width (Some n) = not (is_width n)

-- the width that is said, and 1 where none is
abbrev pub tab_width : Option ℤ → ℕ
tab_width None = 1
tab_width (Some (pos n)) = n
tab_width (Some (negsuc n)) = 1
