-- The orders in which a reduced forest has its parts.
use Rattle.std.specs.Prelude.{ℕ}
use Rattle.std.specs.Ordering.{nat_cmp, ordering_then}
use Rattle.std.specs.declared.cmp.Ordering.{Ordering}
use Rattle.ig_text.specs.TagNumber.{number_of}
use Rattle.ig_expr.specs.ValueOrder.{values_cmp}
use Rattle.ig_item.specs.Items.{Item}
use Rattle.ig_item.specs.Gives.{NodeKey}
use Rattle.ig_forest_tables.specs.declared.entry.Choice.{Choice}
use Rattle.ig_forest_tables.specs.declared.entry.Entry.{Entry}
use Rattle.ig_forest_tables.specs.declared.entry.Entry.TheVariants.{Begin, Pass, Take}

-- items in the order of start, position, nonterminal, values, alternative, dot and environment
abbrev pub item_cmp : Item → Item → Ordering
item_cmp x y =
    ordering_then (nat_cmp x.instance.start y.instance.start)
    (ordering_then (nat_cmp x.position y.position)
    (ordering_then (nat_cmp x.instance.nonterminal y.instance.nonterminal)
    (ordering_then (values_cmp x.instance.values y.instance.values)
    (ordering_then (nat_cmp x.alternative y.alternative)
    (ordering_then (nat_cmp x.dot y.dot) (values_cmp x.env y.env))))))

-- nodes in the order of start, end, nonterminal and values
abbrev pub node_cmp : NodeKey → NodeKey → Ordering
node_cmp x y =
    ordering_then (nat_cmp x.instance.start y.instance.start)
    (ordering_then (nat_cmp x.end y.end)
    (ordering_then (nat_cmp x.instance.nonterminal y.instance.nonterminal)
    (values_cmp x.instance.values y.instance.values)))

-- the alternatives of a node in the order of the numbers of their tags, and then of their items, which is that of alternative
-- and environment
abbrev pub choice_cmp : Choice → Choice → Ordering
choice_cmp x y = ordering_then (nat_cmp (number_of x.tag) (number_of y.tag)) (nat_cmp x.item y.item)

abbrev pub previous : Entry → ℕ
previous Begin = 0
previous (Pass prev) = prev
previous (Take prev child) = prev

-- the entries of an item in the order of the previous items, which is that of where the child starts
abbrev pub entry_cmp : Entry → Entry → Ordering
entry_cmp x y = nat_cmp (previous x) (previous y)
