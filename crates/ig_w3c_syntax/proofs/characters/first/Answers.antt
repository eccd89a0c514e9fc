use Rattle.std.proofs.Common.{subst, sym, ◌∙◌}
use Rattle.ig_w3c_syntax.specs.Steps.{Begins}
use Rattle.ig_w3c_syntax.proofs.Reading.{begins}
use Rattle.ig_w3c_syntax.proofs.characters.first.Goals as goal

pub returns : goal.returns
returns c =
    subst (Begins c.args.text.now c.in_ok-c.c) (sym c.as_str.ensures)
    (begins c.args.text.now c.in_ok-c.c c.next.new.self.rest.now c.utf8.text
    (sym c.chars-rest.ensures.rest ∙ c.in_ok-c.ensures.steps.0))
