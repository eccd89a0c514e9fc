use Rattle.std.proofs.Common.{[], refl, ap}
use Rattle.std.specs.Prelude.{None}
use Rattle.ig_item.specs.Items.{Item}
use Rattle.ig_item.specs.declared.ways.Way.TheVariants.{Node}
use Rattle.ig_run_moves.specs.Rules.{IsPastCall}
use Rattle.ig_plain.proofs.Additions.{adds_exit}
use Rattle.ig_plain.proofs.Behind.{named_behind, node_behind, it_is_behind, adds_behind, records_behind}
use Rattle.ig_plain.proofs.Extending.{extends_itself}
use Rattle.ig_plain.proofs.Growth.{grows_not}
use Rattle.ig_plain.proofs.moves.go_behind_bare.Goals as goal

pub returns-in_err-behind-clause-adds : goal.returns-in_err-behind-clause-adds
returns-in_err-behind-clause-adds c =
    adds_exit c.args.end _ c.args.context.now.budget c.args.found.now _ c.from_residual.result c.from_residual.ensures.1
    (grows_not c.args.end _ c.args.found.now _ (extends_itself c.args.found.now.envs.keys) (λ h. h) refl refl refl refl)

pub add_returned-requires-clause-named : goal.add_returned-requires-clause-named
add_returned-requires-clause-named c =
    named_behind (IsPastCall c.args.context.now.text.now None [] c.args.end) c.args.found.now c.args.found.now.envs.keys c.args.item _ (extends_itself c.args.found.now.envs.keys)
    c.requires.named (c.in_ok-behind.ensures c.args.context.now.text.now c.args.found.now.envs.keys) c.in_ok-behind.behind refl

pub add_returned-requires-clause-by_node : goal.add_returned-requires-clause-by_node
add_returned-requires-clause-by_node c =
    node_behind (IsPastCall c.args.context.now.text.now None [] c.args.end) c.args.found.now c.args.found.now.envs.keys c.args.item _ (extends_itself c.args.found.now.envs.keys)
    c.requires.named (c.in_ok-behind.ensures c.args.context.now.text.now c.args.found.now.envs.keys) c.in_ok-behind.behind refl c.args.trail.now c.requires.by_nodes

pub returns-clause-adds : goal.returns-clause-adds
returns-clause-adds c =
    adds_behind (IsPastCall c.args.context.now.text.now None [] c.args.end) c.args.found.now c.args.found.now c.args.item _ c.requires.named (c.in_ok-behind.ensures c.args.context.now.text.now c.args.found.now.envs.keys)
    (extends_itself c.args.found.now.envs.keys) (λ h. h) refl refl refl refl c.in_ok-behind.behind refl c.add_returned.new.found c.args.end
    c.args.context.now.budget c.add_returned.result
    (ap (λ (z : Item). z.position)
    (it_is_behind (IsPastCall c.args.context.now.text.now None [] c.args.end) c.args.found.now c.args.found.now.envs.keys c.args.item _ (extends_itself c.args.found.now.envs.keys)
    c.requires.named (c.in_ok-behind.ensures c.args.context.now.text.now c.args.found.now.envs.keys) c.in_ok-behind.behind refl).1)
    c.add_returned.ensures.adds

pub returns-clause-ways : goal.returns-clause-ways
returns-clause-ways c =
    records_behind (IsPastCall c.args.context.now.text.now None [] c.args.end) c.args.found.now c.args.found.now c.args.item _ c.requires.named (c.in_ok-behind.ensures c.args.context.now.text.now c.args.found.now.envs.keys)
    (extends_itself c.args.found.now.envs.keys) (λ h. h) refl refl refl refl c.in_ok-behind.behind refl c.add_returned.new.found
    (Node c.args.prev c.args.done) c.args.trail.now c.add_returned.new.trail c.add_returned.result c.add_returned.ensures.ways
