use Rattle.std.proofs.Common.{inl, refl, rules}
use Rattle.ig_command_endings.proofs.writing.write_text.Goals as goal

pub returns-in-Ok : goal.returns-in-Ok
returns-in-Ok g c =
    inl (refl, record { told = c.in-Ok.ensures.answer; calm = c.in-Ok.ensures.cause }, record { told = refl; calm = refl })

pub returns-in-Err : goal.returns-in-Err
returns-in-Err g c = search rules
