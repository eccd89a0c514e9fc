use Rattle.std.proofs.Common.{refl, ap, arith}
use Rattle.std.proofs.lemmas.Result.{on_ok_weaker}
use Rattle.ig_text.proofs.Matching.{match_goes}
use Rattle.ig_item.specs.Items.{Item}
use Rattle.ig_item.specs.declared.ways.Way.TheVariants.{Leaf}
use Rattle.ig_run_moves.specs.Rules.{IsBehind}
use Rattle.ig_plain.specs.Found as found
use Rattle.ig_plain.specs.Trail as trails
use Rattle.ig_plain.proofs.Additions.{adds_exit}
use Rattle.ig_plain.proofs.Behind.{named_behind, new_behind, it_is_behind, adds_none_behind, records_none_behind, adds_behind, records_behind}
use Rattle.ig_plain.proofs.Growth.{grows_not}
use Rattle.ig_plain.proofs.Naming.{wider}
use Rattle.ig_plain.proofs.Terminals.{terminal_later, records_terminal}
use Rattle.ig_plain.proofs.moves.take_terminal.Goals as goal

pub invariant_of-found : goal.invariant_of-found
invariant_of-found c = record { named = wider c.args.found.now.named _ c.behind_terminal.ensures.extends }

pub behind_terminal-requires : goal.behind_terminal-requires
behind_terminal-requires c = record { there = c.requires.named.env }

pub returns-in_err-behind-clause-adds : goal.returns-in_err-behind-clause-adds
returns-in_err-behind-clause-adds c =
    found.here
    (adds_exit c.args.from.item.position _ c.args.context.now.budget c.args.found.now _ c.from_residual.result c.from_residual.ensures.1
    (grows_not c.args.from.item.position _ c.args.found.now _ c.in_err-behind.ensures.extends c.in_err-behind.ensures.once
    refl refl refl refl))

pub returns-in_default-clause-adds : goal.returns-in_default-clause-adds
returns-in_default-clause-adds c =
    found.here
    (adds_none_behind (IsBehind c.args.context.now.text.now c.args.what.now c.args.qualifiers.now.label.now c.args.qualifiers.now.not.now) c.args.found.now _
    c.args.from.item _ c.requires.named c.in_ok-behind.ensures.moves c.in_ok-behind.ensures.extends c.in_ok-behind.ensures.once
    refl refl refl refl c.args.from.item.position c.args.context.now.budget c.in_default.is)

pub returns-in_default-clause-ways : goal.returns-in_default-clause-ways
returns-in_default-clause-ways c =
    trails.here
    (records_none_behind (IsBehind c.args.context.now.text.now c.args.what.now c.args.qualifiers.now.label.now c.args.qualifiers.now.not.now) c.args.found.now _
    c.args.from.item _ c.requires.named c.in_ok-behind.ensures.moves c.in_ok-behind.ensures.extends c.in_ok-behind.ensures.once
    refl refl refl refl (Leaf c.args.from.number) c.args.trail.now c.in_default.is)

pub add_new-requires-clause-named : goal.add_new-requires-clause-named
add_new-requires-clause-named c =
    named_behind (IsBehind c.args.context.now.text.now c.args.what.now c.args.qualifiers.now.label.now c.args.qualifiers.now.not.now) c.args.found.now _
    c.args.from.item _ c.in_ok-behind.ensures.extends c.requires.named c.in_ok-behind.ensures.moves c.in-Some.behind c.in-Some.is

pub add_new-requires-clause-new : goal.add_new-requires-clause-new
add_new-requires-clause-new c =
    new_behind (IsBehind c.args.context.now.text.now c.args.what.now c.args.qualifiers.now.label.now c.args.qualifiers.now.not.now) c.args.found.now _
    c.args.from.item _ c.in_ok-behind.ensures.extends c.requires.named c.in_ok-behind.ensures.moves c.in-Some.behind c.in-Some.is
    c.requires.new

pub add_later-requires : goal.add_later-requires
add_later-requires c =
    record {
      named = named_behind (IsBehind c.args.context.now.text.now c.args.what.now c.args.qualifiers.now.label.now c.args.qualifiers.now.not.now) c.args.found.now _
          c.args.from.item _ c.in_ok-behind.ensures.extends c.requires.named c.in_ok-behind.ensures.moves c.in-Some.behind c.in-Some.is;
    }

pub returns-then-behind-from-clause-adds : goal.returns-then-behind-from-clause-adds
returns-then-behind-from-clause-adds c =
    found.here
    (adds_behind (IsBehind c.args.context.now.text.now c.args.what.now c.args.qualifiers.now.label.now c.args.qualifiers.now.not.now) c.args.found.now _
    c.args.from.item _ c.requires.named c.in_ok-behind.ensures.moves c.in_ok-behind.ensures.extends c.in_ok-behind.ensures.once
    refl refl refl refl c.in-Some.behind c.in-Some.is c.add_new.new.found c.args.from.item.position c.args.context.now.budget c.add_new.result
    c.if-behind-from.true c.add_new.ensures.adds)

pub returns-then-behind-from-clause-ways : goal.returns-then-behind-from-clause-ways
returns-then-behind-from-clause-ways c =
    on_ok_weaker c.add_new.result (λ r. trails.here r)
    (records_behind (IsBehind c.args.context.now.text.now c.args.what.now c.args.qualifiers.now.label.now c.args.qualifiers.now.not.now) c.args.found.now _
    c.args.from.item _ c.requires.named c.in_ok-behind.ensures.moves c.in_ok-behind.ensures.extends c.in_ok-behind.ensures.once
    refl refl refl refl c.in-Some.behind c.in-Some.is c.add_new.new.found (Leaf c.args.from.number) c.args.trail.now c.add_new.new.trail
    c.add_new.result c.add_new.ensures.ways)

pub returns-clause-adds : goal.returns-clause-adds
returns-clause-adds c =
    let b = it_is_behind (IsBehind c.args.context.now.text.now c.args.what.now c.args.qualifiers.now.label.now c.args.qualifiers.now.not.now) c.args.found.now _
    c.args.from.item _ c.in_ok-behind.ensures.extends c.requires.named c.in_ok-behind.ensures.moves c.in-Some.behind c.in-Some.is in
    let ends = ap (λ (z : Item). z.position) b.3 in
    let onward = match_goes c.args.context.now.text.now c.args.what.now c.args.from.item.position b.0 b.1 in
    terminal_later c.args.context.now.text.now c.args.what.now c.args.qualifiers.now.label.now c.args.qualifiers.now.not.now c.args.found.now _
    c.args.from.item _ c.requires.named c.in_ok-behind.ensures.moves c.in_ok-behind.ensures.extends c.in_ok-behind.ensures.once refl refl refl refl
    c.in-Some.behind c.in-Some.is c.add_later.new.found
    c.args.from.item.position c.args.context.now.budget c.add_later.result
    (c.add_later.ensures.adds c.args.from.item.position (omega (arith, onward.0, ends, c.if-behind-from.false)))

pub returns-clause-ways : goal.returns-clause-ways
returns-clause-ways c =
    records_terminal c.args.context.now.text.now c.args.what.now c.args.qualifiers.now.label.now c.args.qualifiers.now.not.now c.args.found.now _
    c.args.from.item _ c.requires.named c.in_ok-behind.ensures.moves c.in_ok-behind.ensures.extends c.in_ok-behind.ensures.once refl refl refl refl
    c.in-Some.behind c.in-Some.is c.add_later.new.found
    c.args.from.number c.args.trail.now c.add_later.new.trail c.add_later.result c.add_later.ensures.ways
