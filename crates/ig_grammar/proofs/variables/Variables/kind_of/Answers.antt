use Rattle.std.proofs.Common.{◌∙◌}
use Rattle.ig_expr.specs.Kinds.{kind_in}
use Rattle.ig_expr.specs.View.{expression_of}
use Rattle.ig_grammar.proofs.variables.Variables.kind_of.Goals as goal

pub returns : goal.returns
returns c = c.kind_of.ensures ∙ (λ i. kind_in (c.names.ensures i) (c.kinds.ensures i) (expression_of c.args.e.now))
