use Rattle.std.proofs.Common.{◌∙◌, ◌++◌, ap}
use Rattle.ig_grammar.specs.View.{symbol_of}
use Rattle.ig_blocks_parts.specs.Setting.{column_guards}
use Rattle.ig_blocks_parts.specs.Body.{tests_of}
use Rattle.ig_blocks_parts.specs.ColumnCode.{pair_of, setting_by}
use Rattle.ig_blocks_parts.proofs.guards.tests_before.Goals as goal

pub returns : goal.returns
returns c =
    c.in_ok-push_tests.ensures ∙ ap (λ z. z ++ tests_of (setting_by c.args.guide.now) (pair_of c.args.pair.now) (symbol_of c.args.symbol.now))
    (c.in_ok-push_column_test.ensures ∙ ap (λ z. z ++ column_guards (setting_by c.args.guide.now) c.args.aligned) c.new-tests.ensures)
