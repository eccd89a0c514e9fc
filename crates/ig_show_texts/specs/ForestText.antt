-- The text of a forest, as UTF-8.
use Rattle.std.specs.Prelude.{ℕ, List, ◌++◌, length, flat_map, codes, encode_utf8_all}
use Rattle.std.specs.Fmt.{decimal}
use Rattle.ig_expr.specs.declared.value.Value.{Value}
use Rattle.ig_forest_tables.specs.Forest as forest
use Rattle.ig_forest_tables.specs.Forest.{Forest, ItemNode}
use Rattle.ig_forest_tables.specs.declared.entry.Choice.{Choice}
use Rattle.ig_forest_tables.specs.declared.entry.Entry.{Entry}
use Rattle.ig_forest_tables.specs.declared.entry.Entry.TheVariants.{Begin, Pass, Take}
use Rattle.ig_forest_tables.specs.declared.entry.Child.{Child}
use Rattle.ig_forest_tables.specs.declared.entry.Child.TheVariants as child
use Rattle.ig_text.specs.Lines.{line_end}
use Rattle.ig_show_texts.specs.Listed.{numbered_texts}
use Rattle.ig_show_texts.specs.TagText.{tag_text}
use Rattle.ig_show_texts.specs.ValueText.{places_text, span_text, values_text, environment_text}

-- `alt TAG ITEM`
abbrev pub choice_text : List ℕ → Choice → List ℕ
choice_text name choice = codes "alt " ++ (tag_text name choice.tag ++ (codes " " ++ (decimal choice.item ++ line_end)))

-- `K NAME VALUES`
abbrev pub head_text : ℕ → List ℕ → List Value → List ℕ
head_text k name vs = decimal k ++ (codes " " ++ (encode_utf8_all name ++ (codes " " ++ values_text vs)))

-- `node K NAME VALUES i..j`
abbrev pub node_line : ℕ → forest.Node → List ℕ
node_line k node =
    codes "node " ++ (head_text k node.name node.values ++ (codes " " ++ (span_text node.span ++ line_end)))

-- its line, then a line for each alternative
abbrev pub node_text : ℕ → forest.Node → List ℕ
node_text k node = node_line k node ++ flat_map (choice_text node.name) node.alternatives

-- `node K` or `leaf i..j`
abbrev pub child_text : Child → List ℕ
child_text (child.Node v) = codes "node " ++ decimal v
child_text (child.Leaf span) = codes "leaf " ++ span_text span

-- `begin`, `pass ITEM`, `take ITEM node K` or `take ITEM leaf i..j`
abbrev pub entry_text : Entry → List ℕ
entry_text Begin = codes "begin" ++ line_end
entry_text (Pass prev) = codes "pass " ++ (decimal prev ++ line_end)
entry_text (Take prev taken) = codes "take " ++ (decimal prev ++ (codes " " ++ (child_text taken ++ line_end)))

-- `ALT DOT ENV i..j`
abbrev pub place_text : ItemNode → List ℕ
place_text it =
    decimal it.alternative ++ (codes " " ++ (decimal it.dot ++ (codes " " ++ (environment_text it.values it.env ++
    (codes " " ++ places_text it.start it.position)))))

-- `item K NAME VALUES ALT DOT ENV i..j`
abbrev pub item_line : ℕ → ItemNode → List ℕ
item_line k it = codes "item " ++ (head_text k it.name it.values ++ (codes " " ++ (place_text it ++ line_end)))

-- its line, then a line for each entry
abbrev pub item_text : ℕ → ItemNode → List ℕ
item_text k it = item_line k it ++ flat_map entry_text it.entries

-- `forest N M`, the numbers of nodes and items
abbrev pub heading : Forest → List ℕ
heading f = codes "forest " ++ (decimal (length f.nodes) ++ (codes " " ++ (decimal (length f.items) ++ line_end)))

-- the nodes and the items, each numbered from 0
abbrev pub forest_text : Forest → List ℕ
forest_text f = heading f ++ (numbered_texts node_text 0 f.nodes ++ numbered_texts item_text 0 f.items)
