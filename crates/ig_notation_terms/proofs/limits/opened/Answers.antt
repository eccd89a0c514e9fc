use Rattle.std.proofs.Common.{sym, ap, ◌∙◌}
use Rattle.ig_notation_syntax.specs.View.{token_of}
use Rattle.ig_notation_terms.specs.Limits.{opened}
use Rattle.ig_notation_terms.proofs.limits.opened.Goals as goal

pub returns-in-Close : goal.returns-in-Close
returns-in-Close c = c.saturating_sub.ensures ∙ ap (λ t. opened c.args.before (token_of t)) (sym c.in-Close.is)

pub returns-in-CloseBrace : goal.returns-in-CloseBrace
returns-in-CloseBrace c =
    c.saturating_sub-in-CloseBrace.ensures ∙ ap (λ t. opened c.args.before (token_of t)) (sym c.in-CloseBrace.is)
