-- The text of a listing: a line for each tree, with its cursor.
use Rattle.std.specs.Prelude.{ℕ, List, ◌++◌, codes, flat_map}
use Rattle.ig_item.specs.declared.core_grammar.Nonterminal.{Nonterminal}
use Rattle.ig_text.specs.Lines.{line_end}
use Rattle.ig_show_trees.specs.TreeText.{tree_text, cursor_text}
use Rattle.ig_walker.specs.Listed.{Listed}

-- `CURSOR TREE`
abbrev pub line_text : List Nonterminal → Listed → List ℕ
line_text core x = cursor_text x.cursor ++ (codes " " ++ (tree_text core x.tree ++ line_end))

abbrev pub listing_text : List Nonterminal → List Listed → List ℕ
listing_text core trees = flat_map (line_text core) trees
