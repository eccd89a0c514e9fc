use Rattle.std.proofs.Common.{sym, ap}
use Rattle.ig_notation_terms.specs.Repetitions.{separated_of}
use Rattle.ig_notation_terms.proofs.repetitions.separated.Goals as goal

pub returns-in-Star : goal.returns-in-Star
returns-in-Star c = ap (λ s. separated_of s c.args.item c.args.separator) (sym c.in-Star.is)

pub returns-in-Plus : goal.returns-in-Plus
returns-in-Plus c = ap (λ s. separated_of s c.args.item c.args.separator) (sym c.in-Plus.is)
