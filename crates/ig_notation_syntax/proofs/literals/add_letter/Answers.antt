use Rattle.std.proofs.Common.{string_bytes}
use Rattle.std.proofs.lemmas.Str.{IsUtf8-string_bytes}
use Rattle.ig_notation_syntax.proofs.LetterSteps.{pushed}
use Rattle.ig_notation_syntax.proofs.literals.add_letter.Goals as goal

pub returns-in_ok-push-in-StandsFor-clause-added : goal.returns-in_ok-push-in-StandsFor-clause-added
returns-in_ok-push-in-StandsFor-clause-added c =
    rw c.in-StandsFor.is
    (pushed (string_bytes c.args.text.now) (string_bytes c.push.new.self) c.in-StandsFor.c
    (IsUtf8-string_bytes c.args.text.now) c.in_ok-push-in-StandsFor.ensures.bytes (IsUtf8-string_bytes c.push.new.self))
