use Rattle.std.proofs.Common.{Some, ap, ◌∙◌, subst}
use Rattle.std.specs.Prelude.{Contains}
use Rattle.ig_text.proofs.Lists.{none_in_nil}
use Rattle.ig_item.specs.declared.ways.Way.TheVariants.{Begin}
use Rattle.ig_engine.specs.Reached.{reached}
use Rattle.ig_engine.proofs.Adding.{pushes_of}
use Rattle.ig_engine.proofs.Begin.{begins_with, first_node, unbegun_exit}
use Rattle.ig_engine.proofs.stepping.begin.Goals as goal

pub returns-in_err-env : goal.returns-in_err-env
returns-in_err-env g c = λ core text. unbegun_exit core text c.args.budget _ c.from_residual.result c.from_residual.ensures.1

pub returns-in_err-root : goal.returns-in_err-root
returns-in_err-root g c = λ core text. unbegun_exit core text c.args.budget _ c.from_residual-in_err-root.result c.from_residual-in_err-root.ensures.1

pub push-requires : goal.push-requires
push-requires g c = λ h. none_in_nil _ (subst (λ z. Contains z c.first_item-first.result) c.requires.items h)

pub returns : goal.returns
returns g c =
    λ core text.
    let p = first_node c.args.state.now.stacks c.node.new.self _ c.in_ok-root.root c.in_ok-root.field-0-1 c.requires.nodes c.in_ok-root.ensures.found
    c.in_ok-root.ensures.made in
    begins_with c.laws.ensures core text c.args.budget (reached c.args.state.now.envs.keys c.args.state.now.stacks c.args.state.now.found) c.requires
    c.enter_values.new.envs.keys c.in_ok-env.env c.in_ok-env.ensures.once (c.in_ok-env.ensures.enters.there ∙ ap Some c.new.ensures)
    c.node.new.self c.in_ok-root.root p.0 p.1 c.push.new.self c.first_item-first.result c.first_item-first.ensures c.push.result
    (pushes_of c.args.state.now.found c.push.new.self c.first_item-first.result Begin c.args.budget c.push.result c.push.ensures.pushed
    c.push.ensures.within c.push.ensures.over)
