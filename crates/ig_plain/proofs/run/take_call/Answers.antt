use Rattle.std.proofs.Common.{refl}
use Rattle.ig_text.proofs.Lists.{contains_from_at}
use Rattle.ig_plain.proofs.Instances.{at_exit}
use Rattle.ig_plain.proofs.Completes.{run_at}
use Rattle.ig_plain.proofs.Calling.{no_call, stops, callee_there, last_2, still_there, named_2, only_waits, goes_past}
use Rattle.ig_plain.proofs.Onward.{trail_at}
use Rattle.ig_plain.proofs.CallingOn.{no_call_on, trail_2, by_nodes_2, only_waits_on, goes_past_on}
use Rattle.ig_plain.proofs.Naming.{wider}
use Rattle.ig_plain.proofs.run.take_call.Goals as goal

pub invariant_of-run : goal.invariant_of-run
invariant_of-run c = record { named = wider c.args.run.now.found.named _ c.callee_of.ensures.extends }

pub callee_of-requires : goal.callee_of-requires
callee_of-requires c = record {
  there = (c.args.run.now.found.named.here c.args.taken.item
      (contains_from_at c.args.run.now.found.here.items c.requires.taking.number c.args.taken.item c.requires.taking.at)).env;
  compiled = c.requires.compiled;
}

pub returns-in_default-clause-takes : goal.returns-in_default-clause-takes
returns-in_default-clause-takes c =
    λ k e.
    no_call c.args.context.now.core.now c.args.context.now.text.now c.reachable_is_closed.ensures c.items_are_in_text.ensures c.args.context.now.budget c.args.taken.item.position k
    c.args.run.now.found c.args.run.now.waiting c.args.taken.item refl
    (run_at c.args.context.now.core.now c.args.context.now.text.now c.args.context.now.budget c.args.taken.item c.args.run.now.found c.args.run.now.waiting c.requires.taking k e) e
    c.args.known.now.names.now c.args.nonterminal _ c.args.qualifiers.now.label.now c.args.qualifiers.now.not.now c.requires.before c.before_calls.ensures
    _ c.in_ok-key.ensures.extends (c.in_ok-key.ensures.once c.requires.taking.run.taking.stored.tables.environments)
    refl refl refl refl _ c.in_ok-key.ensures.callee c.in_default.is

pub returns-in_default-clause-trail : goal.returns-in_default-clause-trail
returns-in_default-clause-trail c =
    λ k e.
    let h = trail_at c.args.context.now.core.now c.args.context.now.text.now c.args.taken.item.position c.args.taken.item c.args.taken.number c.args.run.now.found c.args.run.now.waiting
    c.args.run.now.trail
    c.requires.taking.run.taking.stored c.requires.next k e in
    no_call_on c.args.context.now.core.now c.args.context.now.text.now c.reachable_is_closed.ensures c.items_are_in_text.ensures c.args.context.now.budget k c.args.run.now.found
    c.args.run.now.waiting c.args.taken.item
    (run_at c.args.context.now.core.now c.args.context.now.text.now c.args.context.now.budget c.args.taken.item c.args.run.now.found c.args.run.now.waiting c.requires.taking k e) e
    c.args.known.now.names.now c.args.nonterminal _ c.args.qualifiers.now.label.now c.args.qualifiers.now.not.now c.requires.before c.before_calls.ensures c.args.run.now.trail c.args.taken.number h.1 h.0
    _ c.in_ok-key.ensures.extends (c.in_ok-key.ensures.once c.requires.taking.run.taking.stored.tables.environments)
    refl refl refl refl _ c.in_ok-key.ensures.callee c.in_default.is

pub call_instance-requires-clause-env : goal.call_instance-requires-clause-env
call_instance-requires-clause-env c = c.in_ok-key.ensures.callee.there c.in-Some.key c.in-Some.is

pub returns-in_err-callee-clause-takes : goal.returns-in_err-callee-clause-takes
returns-in_err-callee-clause-takes c =
    λ k e.
    at_exit c.from_residual-in_err-callee.result _ _ c.in_err-callee.field-0.0 c.from_residual-in_err-callee.ensures.1
    (stops c.args.context.now.core.now c.args.context.now.text.now c.reachable_is_closed.ensures c.items_are_in_text.ensures c.args.context.now.budget c.args.taken.item.position k
    c.args.run.now.found c.args.run.now.waiting c.args.taken.item refl
    (run_at c.args.context.now.core.now c.args.context.now.text.now c.args.context.now.budget c.args.taken.item c.args.run.now.found c.args.run.now.waiting c.requires.taking k e) e
    c.args.known.now.names.now c.args.nonterminal _ c.args.qualifiers.now.label.now c.args.qualifiers.now.not.now c.requires.before c.before_calls.ensures
    _ c.in_ok-key.ensures.extends (c.in_ok-key.ensures.once c.requires.taking.run.taking.stored.tables.environments)
    refl refl refl refl _ c.in_ok-key.ensures.callee c.in-Some.key c.in-Some.is
    c.call_instance.new.run.found c.call_instance.new.run.waiting c.in_err-callee.field-0.0 c.in_err-callee.ensures.enters)

pub add_caller-requires : goal.add_caller-requires
add_caller-requires c =
    record {
      there = callee_there c.args.context.now.core.now c.args.context.now.text.now c.reachable_is_closed.ensures c.items_are_in_text.ensures c.args.context.now.budget
          c.args.taken.item.position c.requires.taking.number c.args.run.now.found c.args.run.now.waiting c.args.taken.item refl
          c.requires.taking.run c.requires.taking.at c.args.known.now.names.now c.args.nonterminal _ c.args.qualifiers.now.label.now c.args.qualifiers.now.not.now c.requires.before c.before_calls.ensures
          _ c.in_ok-key.ensures.extends (c.in_ok-key.ensures.once c.requires.taking.run.taking.stored.tables.environments)
          refl refl refl refl _ c.in_ok-key.ensures.callee c.in-Some.key c.in-Some.is
          c.call_instance.new.run.found c.call_instance.new.run.waiting c.in_ok-callee.callee c.in_ok-callee.ensures.enters;
      last = last_2 c.args.context.now.core.now c.args.context.now.text.now c.reachable_is_closed.ensures c.items_are_in_text.ensures c.args.context.now.budget c.args.taken.item.position
          c.requires.taking.number c.args.run.now.found c.args.run.now.waiting c.args.taken.item refl
          c.requires.taking.run c.requires.taking.at c.args.known.now.names.now c.args.nonterminal _ c.args.qualifiers.now.label.now c.args.qualifiers.now.not.now c.requires.before c.before_calls.ensures
          _ c.in_ok-key.ensures.extends (c.in_ok-key.ensures.once c.requires.taking.run.taking.stored.tables.environments)
          refl refl refl refl _ c.in_ok-key.ensures.callee c.in-Some.key c.in-Some.is
          c.call_instance.new.run.found c.call_instance.new.run.waiting c.in_ok-callee.callee c.in_ok-callee.ensures.enters;
    }

pub end_at-requires : goal.end_at-requires
end_at-requires c =
    record {
      there = still_there c.args.context.now.core.now c.args.context.now.text.now c.reachable_is_closed.ensures c.items_are_in_text.ensures c.args.context.now.budget
          c.args.taken.item.position c.requires.taking.number c.args.run.now.found c.args.run.now.waiting c.args.taken.item refl
          c.requires.taking.run c.requires.taking.at c.args.known.now.names.now c.args.nonterminal _ c.args.qualifiers.now.label.now c.args.qualifiers.now.not.now c.requires.before c.before_calls.ensures
          _ c.in_ok-key.ensures.extends (c.in_ok-key.ensures.once c.requires.taking.run.taking.stored.tables.environments)
          refl refl refl refl _ c.in_ok-key.ensures.callee c.in-Some.key c.in-Some.is
          c.call_instance.new.run.found c.call_instance.new.run.waiting c.in_ok-callee.callee c.in_ok-callee.ensures.enters
          c.add_caller.new.waiting c.args.taken.number c.is_bare.result c.in_ok-add_caller.ensures.callers c.in_ok-add_caller.ensures.called;
    }

pub returns-in_default-end_at-clause-takes : goal.returns-in_default-end_at-clause-takes
returns-in_default-end_at-clause-takes c =
    λ k e.
    only_waits c.args.context.now.core.now c.args.context.now.text.now c.reachable_is_closed.ensures c.items_are_in_text.ensures c.args.context.now.budget c.args.taken.item.position k
    c.args.run.now.found c.args.run.now.waiting c.args.taken.item refl
    (run_at c.args.context.now.core.now c.args.context.now.text.now c.args.context.now.budget c.args.taken.item c.args.run.now.found c.args.run.now.waiting c.requires.taking k e) e
    c.args.known.now.names.now c.args.nonterminal _ c.args.qualifiers.now.label.now c.args.qualifiers.now.not.now c.requires.before c.before_calls.ensures
    _ c.in_ok-key.ensures.extends (c.in_ok-key.ensures.once c.requires.taking.run.taking.stored.tables.environments)
    refl refl refl refl _ c.in_ok-key.ensures.callee c.in-Some.key c.in-Some.is
    c.call_instance.new.run.found c.call_instance.new.run.waiting c.in_ok-callee.callee c.in_ok-callee.ensures.enters
    c.add_caller.new.waiting c.args.taken.number c.is_bare.result c.in_ok-add_caller.ensures.callers c.in_ok-add_caller.ensures.called c.in_default-end_at.ensures.none

pub returns-in_default-end_at-clause-trail : goal.returns-in_default-end_at-clause-trail
returns-in_default-end_at-clause-trail c =
    λ k e.
    let h = trail_at c.args.context.now.core.now c.args.context.now.text.now c.args.taken.item.position c.args.taken.item c.args.taken.number c.args.run.now.found c.args.run.now.waiting
    c.args.run.now.trail
    c.requires.taking.run.taking.stored c.requires.next k e in
    only_waits_on c.args.context.now.core.now c.args.context.now.text.now c.reachable_is_closed.ensures c.items_are_in_text.ensures c.args.context.now.budget k c.args.run.now.found
    c.args.run.now.waiting c.args.taken.item
    (run_at c.args.context.now.core.now c.args.context.now.text.now c.args.context.now.budget c.args.taken.item c.args.run.now.found c.args.run.now.waiting c.requires.taking k e) e
    c.args.known.now.names.now c.args.nonterminal _ c.args.qualifiers.now.label.now c.args.qualifiers.now.not.now c.requires.before c.before_calls.ensures c.args.run.now.trail c.args.taken.number h.1 h.0
    _ c.in_ok-key.ensures.extends (c.in_ok-key.ensures.once c.requires.taking.run.taking.stored.tables.environments)
    refl refl refl refl _ c.in_ok-key.ensures.callee c.in-Some.key c.in-Some.is
    c.call_instance.new.run.found c.call_instance.new.run.waiting c.in_ok-callee.callee c.in_ok-callee.ensures.enters
    c.call_instance.new.run.trail c.in_ok-callee.ensures.trail
    c.add_caller.new.waiting c.is_bare.result c.is_bare.ensures.0 c.in_ok-add_caller.ensures.callers c.in_ok-add_caller.ensures.called c.in_default-end_at.ensures.none

pub go_behind-requires-clause-named : goal.go_behind-requires-clause-named
go_behind-requires-clause-named c =
    named_2 c.args.context.now.core.now c.args.context.now.text.now c.reachable_is_closed.ensures c.items_are_in_text.ensures c.args.context.now.budget c.args.taken.item.position
    c.requires.taking.number c.args.run.now.found c.args.run.now.waiting c.args.taken.item refl
    c.requires.taking.run c.requires.taking.at c.args.known.now.names.now c.args.nonterminal _ c.args.qualifiers.now.label.now c.args.qualifiers.now.not.now c.requires.before c.before_calls.ensures
    _ c.in_ok-key.ensures.extends (c.in_ok-key.ensures.once c.requires.taking.run.taking.stored.tables.environments)
    refl refl refl refl _ c.in_ok-key.ensures.callee c.in-Some.key c.in-Some.is
    c.call_instance.new.run.found c.call_instance.new.run.waiting c.in_ok-callee.callee c.in_ok-callee.ensures.enters

pub go_behind-requires-clause-indexed : goal.go_behind-requires-clause-indexed
go_behind-requires-clause-indexed c =
    let h = trail_at c.args.context.now.core.now c.args.context.now.text.now c.args.taken.item.position c.args.taken.item c.args.taken.number c.args.run.now.found c.args.run.now.waiting
    c.args.run.now.trail
    c.requires.taking.run.taking.stored c.requires.next c.requires.taking.number c.requires.taking.at in
    (trail_2
    c.args.context.now.core.now c.args.context.now.text.now c.reachable_is_closed.ensures c.items_are_in_text.ensures c.args.context.now.budget c.requires.taking.number c.args.run.now.found
    c.args.run.now.waiting c.args.taken.item c.requires.taking.run c.requires.taking.at
    c.args.known.now.names.now c.args.nonterminal _ c.args.qualifiers.now.label.now c.args.qualifiers.now.not.now c.requires.before c.before_calls.ensures c.args.run.now.trail c.args.taken.number h.1 h.0
    _ c.in_ok-key.ensures.extends (c.in_ok-key.ensures.once c.requires.taking.run.taking.stored.tables.environments)
    refl refl refl refl _ c.in_ok-key.ensures.callee c.in-Some.key c.in-Some.is
    c.call_instance.new.run.found c.call_instance.new.run.waiting c.in_ok-callee.callee c.in_ok-callee.ensures.enters
    c.call_instance.new.run.trail c.in_ok-callee.ensures.trail).indexed

pub go_behind-requires-clause-by_nodes : goal.go_behind-requires-clause-by_nodes
go_behind-requires-clause-by_nodes c =
    let h = trail_at c.args.context.now.core.now c.args.context.now.text.now c.args.taken.item.position c.args.taken.item c.args.taken.number c.args.run.now.found c.args.run.now.waiting
    c.args.run.now.trail
    c.requires.taking.run.taking.stored c.requires.next c.requires.taking.number c.requires.taking.at in
    by_nodes_2
    c.args.context.now.core.now c.args.context.now.text.now c.reachable_is_closed.ensures c.items_are_in_text.ensures c.args.context.now.budget c.requires.taking.number c.args.run.now.found
    c.args.run.now.waiting c.args.taken.item c.requires.taking.run c.requires.taking.at
    c.args.known.now.names.now c.args.nonterminal _ c.args.qualifiers.now.label.now c.args.qualifiers.now.not.now c.requires.before c.before_calls.ensures c.args.run.now.trail c.args.taken.number h.1 h.0
    _ c.in_ok-key.ensures.extends (c.in_ok-key.ensures.once c.requires.taking.run.taking.stored.tables.environments)
    refl refl refl refl _ c.in_ok-key.ensures.callee c.in-Some.key c.in-Some.is
    c.call_instance.new.run.found c.call_instance.new.run.waiting c.in_ok-callee.callee c.in_ok-callee.ensures.enters
    c.call_instance.new.run.trail c.in_ok-callee.ensures.trail

pub returns-clause-takes : goal.returns-clause-takes
returns-clause-takes c =
    λ k e.
    goes_past c.args.context.now.core.now c.args.context.now.text.now c.reachable_is_closed.ensures c.items_are_in_text.ensures c.args.context.now.budget c.args.taken.item.position k
    c.args.run.now.found c.args.run.now.waiting c.args.taken.item refl
    (run_at c.args.context.now.core.now c.args.context.now.text.now c.args.context.now.budget c.args.taken.item c.args.run.now.found c.args.run.now.waiting c.requires.taking k e) e
    c.args.known.now.names.now c.args.nonterminal _ c.args.qualifiers.now.label.now c.args.qualifiers.now.not.now c.requires.before c.before_calls.ensures
    _ c.in_ok-key.ensures.extends (c.in_ok-key.ensures.once c.requires.taking.run.taking.stored.tables.environments)
    refl refl refl refl _ c.in_ok-key.ensures.callee c.in-Some.key c.in-Some.is
    c.call_instance.new.run.found c.call_instance.new.run.waiting c.in_ok-callee.callee c.in_ok-callee.ensures.enters
    c.add_caller.new.waiting c.args.taken.number c.is_bare.result c.in_ok-add_caller.ensures.callers c.in_ok-add_caller.ensures.called c.in-Some-end_at.ensures.some
    c.go_behind.new.found c.go_behind.result c.go_behind.ensures.adds

pub returns-clause-trail : goal.returns-clause-trail
returns-clause-trail c =
    λ k e.
    let h = trail_at c.args.context.now.core.now c.args.context.now.text.now c.args.taken.item.position c.args.taken.item c.args.taken.number c.args.run.now.found c.args.run.now.waiting
    c.args.run.now.trail
    c.requires.taking.run.taking.stored c.requires.next k e in
    goes_past_on c.args.context.now.core.now c.args.context.now.text.now c.reachable_is_closed.ensures c.items_are_in_text.ensures c.args.context.now.budget k c.args.run.now.found
    c.args.run.now.waiting c.args.taken.item
    (run_at c.args.context.now.core.now c.args.context.now.text.now c.args.context.now.budget c.args.taken.item c.args.run.now.found c.args.run.now.waiting c.requires.taking k e) e
    c.args.known.now.names.now c.args.nonterminal _ c.args.qualifiers.now.label.now c.args.qualifiers.now.not.now c.requires.before c.before_calls.ensures c.args.run.now.trail c.args.taken.number h.1 h.0
    _ c.in_ok-key.ensures.extends (c.in_ok-key.ensures.once c.requires.taking.run.taking.stored.tables.environments)
    refl refl refl refl _ c.in_ok-key.ensures.callee c.in-Some.key c.in-Some.is
    c.call_instance.new.run.found c.call_instance.new.run.waiting c.in_ok-callee.callee c.in_ok-callee.ensures.enters
    c.call_instance.new.run.trail c.in_ok-callee.ensures.trail
    c.add_caller.new.waiting c.is_bare.result c.is_bare.ensures.0 c.in_ok-add_caller.ensures.callers c.in_ok-add_caller.ensures.called c.in-Some-end_at.done
    c.in-Some-end_at.ensures.some c.in-Some-end_at.ensures.done c.go_behind.new.found c.go_behind.new.trail c.go_behind.result
    c.go_behind.ensures.adds c.go_behind.ensures.ways
