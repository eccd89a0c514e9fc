use Rattle.std.proofs.Common.{List, ap, ◌∙◌}
use Rattle.ig_grammar.specs.declared.grammar.Grammar.{Grammar}
use Rattle.ig_grammar.specs.declared.declaration.Decl.{Decl}
use Rattle.ig_core.proofs.Whole.{few_some, few_none}
use Rattle.ig_core.proofs.dots.has_few_dots.Goals as goal

abbrev declarations : Grammar → List Decl
declarations g = g.decls

pub returns-in-Some : goal.returns-in-Some
returns-in-Some c =
    few_some c.args.checked.now.grammar c.args.checked.now.shapes c.as_slice.result.now c.in-Some.dots c.add_rows.result
    c.is_some.result (c.as_slice.ensures ∙ ap declarations c.grammar.ensures.same) c.in-Some.ensures.0 c.add_rows.ensures
    c.is_some.ensures

pub returns-in-None : goal.returns-in-None
returns-in-None c = few_none c.args.checked.now.grammar c.args.checked.now.shapes c.in-None.ensures
