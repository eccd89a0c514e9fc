use Rattle.std.proofs.Common.{map}
use Rattle.ig_expr.specs.View.{expression_of}
use Rattle.ig_run_tables.proofs.Forms.{arguments_own}
use Rattle.ig_run_tables.proofs.steps.argument_values.Goals as goal

pub returns-then-are_own-clause-some : goal.returns-then-are_own-clause-some
returns-then-are_own-clause-some c =
    λ a is.
    arguments_own c.args.text.now c.args.known.now.names.now c.args.values.now c.args.here (map expression_of c.args.arguments.now) c.args.known.now.forms.now a
    c.requires (c.are_own.ensures.0 c.if-are_own.true) is

pub returns-then-are_own-clause-none : goal.returns-then-are_own-clause-none
returns-then-are_own-clause-none c = λ e. absurd (cc)

pub listed-requires : goal.listed-requires
listed-requires c = c.requires

pub returns : goal.returns
returns c = c.listed.ensures
