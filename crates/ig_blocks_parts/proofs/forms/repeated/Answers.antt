use Rattle.std.proofs.Common.{◌≡◌, IfOk, subst}
use Rattle.ig_grammar.specs.Symbol as tree
use Rattle.ig_grammar.specs.View.{symbol_of}
use Rattle.ig_blocks_parts.specs.ColumnCode.{pair_of, setting_by}
use Rattle.ig_blocks_parts.specs.FormCode.{list_by}
use Rattle.ig_blocks_parts.proofs.forms.repeated.Goals as goal

pub returns : goal.returns
returns c =
    subst (λ z. IfOk c.entered_by.result (λ r. symbol_of r ≡ list_by (setting_by c.args.guide.now) c.args.aligned (pair_of c.args.pair.now) (tree.Plus z))) c.in_ok-inner.ensures c.entered_by.ensures
