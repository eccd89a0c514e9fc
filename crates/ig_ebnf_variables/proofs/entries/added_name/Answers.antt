use Rattle.std.proofs.Common.{IfOk, ◌≡◌, ◌∙◌, subst, ap, arith}
use Rattle.std.specs.Prelude.{chars}
use Rattle.ig_ebnf_variables.proofs.CodeOfNames.{named}
use Rattle.ig_ebnf_variables.proofs.entries.added_name.Goals as goal

pub returns : goal.returns
returns c =
    subst (λ z. IfOk c.new.result (λ w. w ≡ z))
    (ap chars (c.as_str-2.ensures.value ∙ c.in_ok-text.ensures.ok) ∙
    named c.as_str.result.now c.args.of.now c.args.k (omega arith) c.as_str.utf8 c.as_str.ensures)
    c.new.ensures
