use Rattle.std.proofs.Common.{refl, ap}
use Rattle.ig_expr.specs.View.{expression_of}
use Rattle.ig_item.specs.Items.{Item}
use Rattle.ig_item.specs.declared.ways.Way.TheVariants.{Pass}
use Rattle.ig_run_moves.specs.Rules.{IsBehindBind}
use Rattle.ig_plain.proofs.Additions.{adds_exit}
use Rattle.ig_plain.proofs.Behind.{named_behind, new_behind, it_is_behind, adds_none_behind, records_none_behind, adds_behind, records_behind}
use Rattle.ig_plain.proofs.Growth.{grows_not}
use Rattle.ig_plain.proofs.Naming.{wider}
use Rattle.ig_plain.proofs.moves.take_bind.Goals as goal

pub invariant_of-found : goal.invariant_of-found
invariant_of-found c = record { named = wider c.args.found.now.named _ c.behind_bind.ensures.extends }

pub behind_bind-requires : goal.behind_bind-requires
behind_bind-requires c = record { there = c.requires.named.env; compiled = c.requires.compiled }

pub returns-in_err-behind-clause-adds : goal.returns-in_err-behind-clause-adds
returns-in_err-behind-clause-adds c =
    adds_exit c.args.from.item.position _ c.args.context.now.budget c.args.found.now _ c.from_residual.result c.from_residual.ensures.1
    (grows_not c.args.from.item.position _ c.args.found.now _ c.in_err-behind.ensures.extends c.in_err-behind.ensures.once refl refl refl refl)

pub returns-in_default-clause-adds : goal.returns-in_default-clause-adds
returns-in_default-clause-adds c =
    adds_none_behind (IsBehindBind c.args.context.now.text.now c.args.known.now.names.now (expression_of c.args.expression.now)) c.args.found.now _
    c.args.from.item _ c.requires.named c.in_ok-behind.ensures.moves c.in_ok-behind.ensures.extends c.in_ok-behind.ensures.once
    refl refl refl refl c.args.from.item.position c.args.context.now.budget c.in_default.is

pub returns-in_default-clause-ways : goal.returns-in_default-clause-ways
returns-in_default-clause-ways c =
    records_none_behind (IsBehindBind c.args.context.now.text.now c.args.known.now.names.now (expression_of c.args.expression.now)) c.args.found.now _
    c.args.from.item _ c.requires.named c.in_ok-behind.ensures.moves c.in_ok-behind.ensures.extends c.in_ok-behind.ensures.once
    refl refl refl refl (Pass c.args.from.number) c.args.trail.now c.in_default.is

pub add_new-requires-clause-named : goal.add_new-requires-clause-named
add_new-requires-clause-named c =
    named_behind (IsBehindBind c.args.context.now.text.now c.args.known.now.names.now (expression_of c.args.expression.now)) c.args.found.now _
    c.args.from.item _ c.in_ok-behind.ensures.extends c.requires.named c.in_ok-behind.ensures.moves c.in-Some.behind c.in-Some.is

pub add_new-requires-clause-new : goal.add_new-requires-clause-new
add_new-requires-clause-new c =
    new_behind (IsBehindBind c.args.context.now.text.now c.args.known.now.names.now (expression_of c.args.expression.now)) c.args.found.now _
    c.args.from.item _ c.in_ok-behind.ensures.extends c.requires.named c.in_ok-behind.ensures.moves c.in-Some.behind c.in-Some.is
    c.requires.new

pub returns-clause-adds : goal.returns-clause-adds
returns-clause-adds c =
    adds_behind (IsBehindBind c.args.context.now.text.now c.args.known.now.names.now (expression_of c.args.expression.now)) c.args.found.now _
    c.args.from.item _ c.requires.named c.in_ok-behind.ensures.moves c.in_ok-behind.ensures.extends c.in_ok-behind.ensures.once
    refl refl refl refl c.in-Some.behind c.in-Some.is c.add_new.new.found c.args.from.item.position c.args.context.now.budget c.add_new.result
    (ap (λ (z : Item). z.position)
    (it_is_behind (IsBehindBind c.args.context.now.text.now c.args.known.now.names.now (expression_of c.args.expression.now)) c.args.found.now _
    c.args.from.item _ c.in_ok-behind.ensures.extends c.requires.named c.in_ok-behind.ensures.moves c.in-Some.behind c.in-Some.is).2)
    c.add_new.ensures.adds

pub returns-clause-ways : goal.returns-clause-ways
returns-clause-ways c =
    records_behind (IsBehindBind c.args.context.now.text.now c.args.known.now.names.now (expression_of c.args.expression.now)) c.args.found.now _
    c.args.from.item _ c.requires.named c.in_ok-behind.ensures.moves c.in_ok-behind.ensures.extends c.in_ok-behind.ensures.once
    refl refl refl refl c.in-Some.behind c.in-Some.is c.add_new.new.found (Pass c.args.from.number) c.args.trail.now c.add_new.new.trail
    c.add_new.result c.add_new.ensures.ways
