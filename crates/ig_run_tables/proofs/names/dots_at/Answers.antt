use Rattle.std.proofs.Common.{ap, option_copied}
use Rattle.ig_run_tables.proofs.Numbers.{no_number, numbered_there}
use Rattle.ig_run_tables.proofs.names.dots_at.Goals as goal

pub returns-in_err-place : goal.returns-in_err-place
returns-in_err-place c =
    no_number c.args.alternatives.now c.args.number _ (ap option_copied c.from_residual.ensures) c.in_err-place.ensures

pub returns : goal.returns
returns c =
    numbered_there c.args.alternatives.now c.args.number c.in_ok-place.place c.get.result c.in_ok-place.ensures.0 c.in_ok-place.ensures.1
    c.get.ensures.lookup
