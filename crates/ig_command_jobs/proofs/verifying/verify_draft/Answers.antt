use Rattle.ig_command_jobs.proofs.Verified.{verifies_flaw, verifies_sound}
use Rattle.ig_command_jobs.proofs.verifying.verify_draft.Goals as goal

pub returns-in-Some : goal.returns-in-Some
returns-in-Some c =
    verifies_flaw c.args.core.now c.args.input.now c.args.draft.now c.in-Some.flaw c.not_sound.result
    (rw c.in-Some.is at c.in_ok-flaw.ensures.flaw) c.not_sound.ensures

pub returns-in-None : goal.returns-in-None
returns-in-None c =
    verifies_sound c.args.core.now c.args.input.now c.args.draft.now c.say_verified.result c.say_verified.ensures
    (rw c.in-None.is at c.in_ok-flaw.ensures.flaw)
