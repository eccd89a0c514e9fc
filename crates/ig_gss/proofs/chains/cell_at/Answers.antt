use Rattle.std.proofs.Common.{sym, reverse, ◌∙◌}
use Rattle.ig_gss.proofs.Linked.{none_at, found_behind}
use Rattle.ig_gss.proofs.chains.cell_at.Goals as goal

pub returns-then-at-eq0 : goal.returns-then-at-eq0
returns-then-at-eq0 g c = sym (none_at (reverse c.args.cells.now.values) c.args.at c.if-at-eq0.true)

pub returns : goal.returns
returns g c = sym c.at.ensures ∙ sym (found_behind c.args.cells.now.values c.args.at c.if-at-eq0.false)
