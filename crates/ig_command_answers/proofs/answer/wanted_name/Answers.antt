use Rattle.std.proofs.Common.{List, Option, ap, refl, subst, sym, ℕ}
use Rattle.std.specs.Prelude.{chars}
use Rattle.std.specs.Option.{option_copied}
use Rattle.ig_grammar.specs.Condition.{NoStart, no_start}
use Rattle.ig_command_answers.specs.Questions.{IsWanted}
use Rattle.ig_command_answers.proofs.answer.wanted_name.Goals as goal

pub returns-in-Some : goal.returns-in-Some
returns-in-Some c =
    subst (λ (z : Option (List ℕ)). IsWanted c.args.checked.now z (chars c.in-Some.name.now))
    (sym (ap option_copied c.in-Some.is)) refl

pub unreachable-requires : goal.unreachable-requires
unreachable-requires c =
    c.grammar-grammar.ensures.scoped (record { decl = 0; alt = 0; symbol = 0 }) NoStart
    (no_start (rw c.grammar-grammar.ensures.same at c.in_default-start.is))
