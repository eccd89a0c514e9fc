-- What the code makes of the items of a list.
use Rattle.std.specs.Prelude.{◌++◌, Bool}
use Rattle.ig_grammar.specs.Symbol.{Symbol}
use Rattle.ig_blocks_parts.specs.Setting as setting
use Rattle.ig_blocks_parts.specs.Setting.{Setting, inner, column_guards, pair_bindings, column_bindings, wrapped, entered}
use Rattle.ig_blocks_parts.specs.Body.{tests_of}

-- an item of a list, from what is made of it, and a list from what it is without bindings
abbrev pub item_by : Setting → Bool → setting.Pair → Symbol → Symbol → Symbol
item_by s al p x y = wrapped (column_guards s al ++ tests_of s (inner p) x) y

abbrev pub list_by : Setting → Bool → setting.Pair → Symbol → Symbol
list_by s al p y = entered (pair_bindings s p ++ column_bindings s al) y
