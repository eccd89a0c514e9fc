use Rattle.ig_item.specs.View.{step_of}
use Rattle.ig_run_moves.specs.Tables.{item_by}
use Rattle.ig_run_moves.proofs.Steps.{stands_there, forms_there, known_there}
use Rattle.ig_run_moves.proofs.stepping.known_before.Goals as goal

pub unreachable-requires : goal.unreachable-requires
unreachable-requires c =
    known_there c.args.context.now.core.now c.args.nonterminal c.args.item.alternative c.args.item.dot (step_of c.args.step.now) c.requires
    (λ m d s. c.in_default.ensures.none c.args.context.now.core.now m d s c.args.context.now.known)

pub returns-clause-stands : goal.returns-clause-stands
returns-clause-stands c =
    λ envs keys e.
    stands_there c.args.context.now.core.now c.args.nonterminal (item_by envs keys c.args.item) _ (step_of c.args.step.now) c.requires e
    (λ m d. c.in-Some.ensures.names c.args.context.now.core.now m d c.args.context.now.known)

pub returns-clause-forms : goal.returns-clause-forms
returns-clause-forms c =
    forms_there c.args.context.now.core.now c.args.nonterminal c.args.item.alternative c.args.item.dot (step_of c.args.step.now) _ _ c.requires
    (λ m d s. c.in-Some.ensures.forms c.args.context.now.core.now m d s c.args.context.now.known)
