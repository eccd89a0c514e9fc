use Rattle.std.proofs.Common.{sym, ap, ◌∙◌}
use Rattle.std.specs.Option.{option_copied}
use Rattle.ig_gss.proofs.Linked.{first_of_none, first_of_some}
use Rattle.ig_gss.proofs.chains.Chains.last.Goals as goal

pub cell_at-requires : goal.cell_at-requires
cell_at-requires g c = rw c.self.view_is c.requires

pub returns-in_err-cell : goal.returns-in_err-cell
returns-in_err-cell g c =
    first_of_none _ _ c.args.last _ c.self.view_is (sym (ap option_copied c.in_err-cell.was) ∙ c.cell_at.ensures)
    c.from_residual.ensures

pub returns : goal.returns
returns g c = first_of_some _ _ c.args.last _ c.self.view_is (sym (ap option_copied c.in_ok-cell.was) ∙ c.cell_at.ensures)
