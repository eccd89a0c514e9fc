use Rattle.std.proofs.Common.{sym, ap}
use Rattle.ig_notation_terms.specs.Repetitions.{repeated_of}
use Rattle.ig_notation_terms.proofs.repetitions.repeated.Goals as goal

pub returns-in-Opt : goal.returns-in-Opt
returns-in-Opt c = ap (λ s. repeated_of s c.args.atom) (sym c.in-Opt.is)

pub returns-in-Star : goal.returns-in-Star
returns-in-Star c = ap (λ s. repeated_of s c.args.atom) (sym c.in-Star.is)

pub returns-in-Plus : goal.returns-in-Plus
returns-in-Plus c = ap (λ s. repeated_of s c.args.atom) (sym c.in-Plus.is)
