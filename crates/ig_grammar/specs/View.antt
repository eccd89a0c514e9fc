-- The syntax tree of a symbol of the program: both have the same forms.
use Rattle.ig_expr.specs.View.{expression_of}
use Rattle.ig_grammar.specs.Symbol as tree
use Rattle.ig_grammar.specs.Symbol.{gathered}
use Rattle.ig_grammar.specs.Alternative.{gathered_alternatives}
use Rattle.ig_grammar.specs.declared.symbol.Symbol.{Symbol}
use Rattle.ig_grammar.specs.declared.symbol.Symbol.TheVariants.{Literal, Class, Call, Label, Guard, Let, Opt, Star, Plus, SepStar, SepPlus, Group, Offside, Ignore, Align, Filtered, Seq, Entry}

abbrev pub symbol_of : Symbol → tree.Symbol
symbol_of (Literal word) = tree.Literal word
symbol_of (Class class) = tree.OneOf class
symbol_of (Call name arguments) = tree.Call name arguments
symbol_of (Label name x) = tree.Label name x
symbol_of (Guard e) = tree.Guard (expression_of e)
symbol_of (Let name e) = tree.Let name (expression_of e)
symbol_of (Opt x) = tree.Opt x
symbol_of (Star x) = tree.Star x
symbol_of (Plus x) = tree.Plus x
symbol_of (SepStar x s) = tree.SepStar x s
symbol_of (SepPlus x s) = tree.SepPlus x s
symbol_of (Group ys) = tree.Group (gathered_alternatives ys)
symbol_of (Offside x) = tree.Offside x
symbol_of (Ignore x) = tree.Ignore x
symbol_of (Align x) = tree.Align x
symbol_of (Filtered x filters) = tree.Filtered x filters
symbol_of (Seq xs) = tree.Seq (gathered xs)
symbol_of (Entry bindings x) = tree.Entry bindings x
