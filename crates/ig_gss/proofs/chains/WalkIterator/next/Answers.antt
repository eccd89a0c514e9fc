use Rattle.std.proofs.Common.{sym, ap, ◌∙◌}
use Rattle.std.specs.Option.{option_copied}
use Rattle.ig_gss.proofs.Linked.{ended, steps, goes, earlier_in}
use Rattle.ig_gss.proofs.chains.WalkIterator.next.Goals as goal

pub cell_at-requires : goal.cell_at-requires
cell_at-requires g c = c.self.invariant.1

pub invariant_of-self : goal.invariant_of-self
invariant_of-self g c = (
  c.self.invariant.0,
  earlier_in c.self.inside.cells.now.values c.self.inside.at _ c.self.invariant.0
      (sym (ap option_copied c.in_ok-cell.was) ∙ c.cell_at.ensures),
)

pub returns-in_err-cell-clause-steps : goal.returns-in_err-cell-clause-steps
returns-in_err-cell-clause-steps g c =
    ended _ c.self.inside.at _ _ c.self.view_is (sym (ap option_copied c.in_err-cell.was) ∙ c.cell_at.ensures) c.from_residual.ensures

pub returns-clause-steps : goal.returns-clause-steps
returns-clause-steps g c =
    steps _ c.self.inside.at _ _ c.self.invariant.0 c.self.view_is (sym (ap option_copied c.in_ok-cell.was) ∙ c.cell_at.ensures)

pub returns-clause-goes : goal.returns-clause-goes
returns-clause-goes g c = goes _ _ _ _ (returns-clause-steps g c)
