-- The notes of a command, each a line.
use Rattle.std.specs.Prelude.{ℕ, Bool, true, false, List, [], ◌++◌, codes}
use Rattle.std.specs.Fmt.{decimal}
use Rattle.ig_text.specs.Lines.{line_end}
use Rattle.ig_text.specs.declared.text.TextFault.{TextFault}
use Rattle.ig_text.specs.declared.text.TextFault.TheVariants as text_fault

abbrev pub usage_note : List ℕ
usage_note = codes "usage: iguana (check|show|core) G | (forest|trees|query) G I | load SIZE NUMBER | batch F | verify G I F | analyse G" ++ line_end

abbrev pub cannot_read_note : List ℕ → List ℕ
cannot_read_note name = codes "cannot read " ++ (name ++ line_end)

abbrev pub grammar_note : List ℕ → List ℕ
grammar_note text = codes "grammar: " ++ (text ++ line_end)

-- want of memory has a note of its own
abbrev pub input_note : TextFault → List ℕ
input_note (text_fault.NotUtf8 at) = codes "input: not UTF-8 at byte " ++ (decimal at ++ line_end)
input_note text_fault.TooLong = codes "input: too long" ++ line_end
input_note text_fault.Memory = []

abbrev pub budget_note : ℕ → List ℕ
budget_note budget = codes "budget: more than " ++ (decimal budget ++ (codes " items" ++ line_end))

abbrev pub no_parse_note : List ℕ → List ℕ
no_parse_note place = codes "no parse at " ++ (place ++ line_end)

abbrev pub depth_needed_note : List ℕ
depth_needed_note = codes "depth needed: the forest is cyclic" ++ line_end

abbrev pub no_cursor_note : List ℕ
no_cursor_note = codes "no such cursor" ++ line_end

abbrev pub long_list_note : List ℕ
long_list_note = codes "batch list: too long" ++ line_end

-- the line of that number, counted from 1, is the first wrong one
abbrev pub bad_list_note : ℕ → List ℕ
bad_list_note line = codes "batch list: line " ++ (decimal line ++ line_end)

-- the node or the item of that number breaks that rule
abbrev pub not_sound_note : Bool → ℕ → ℕ → List ℕ
not_sound_note false number rule = codes "not sound: node " ++ ((decimal number ++ (codes " rule " ++ decimal rule)) ++ line_end)
not_sound_note true number rule = codes "not sound: item " ++ ((decimal number ++ (codes " rule " ++ decimal rule)) ++ line_end)

abbrev pub long_forest_note : List ℕ
long_forest_note = codes "forest: too long" ++ line_end

abbrev pub no_forest_note : List ℕ
no_forest_note = codes "forest: not a forest" ++ line_end

abbrev pub cannot_write_note : List ℕ
cannot_write_note = codes "cannot write" ++ line_end

abbrev pub no_memory_note : List ℕ
no_memory_note = codes "out of memory" ++ line_end
