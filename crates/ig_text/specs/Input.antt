-- A text as contracts see it: its characters, and how many columns apart its tab stops are.
use Rattle.std.specs.Prelude.{ℕ, ◌≤◌, List, length}
use Rattle.ig_text.specs.Limits.{most_characters, most_tabs}

pub record Input : Type 0 where
  pub characters : List ℕ
  pub tabs : ℕ

-- a width that tabs may have
pub record IsTabWidth (tabs : ℕ) : Type 0 where
  pub some : 1 ≤ tabs
  pub few : tabs ≤ most_tabs

-- what each text keeps to: it has few characters, and a width that tabs may have
pub record KeepsLimits (text : Input) : Type 0 where
  pub few : length text.characters ≤ most_characters
  pub width : IsTabWidth text.tabs

-- the characters, with tabs of width 1: each tab is as wide as any other character
abbrev pub untabbed : List ℕ → Input
untabbed characters = record { characters = characters; tabs = 1 }

-- the same characters with tabs of another width
abbrev pub with_width : ℕ → Input → Input
with_width tabs text = record { characters = text.characters; tabs = tabs }
