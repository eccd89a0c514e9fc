-- What a run keeps, and what a function makes of it, in a context.
use Rattle.std.specs.Prelude.{ℕ, Result, MatchResult}
use Rattle.ig_item.specs.declared.items.InstanceKey.{InstanceKey}
use Rattle.ig_item.specs.declared.run_fault.RunFault.{RunFault}
use Rattle.ig_run_moves.specs.declared.waiting.Taken.{Taken}
use Rattle.ig_run_moves.specs.declared.context.Context.{Context}
use Rattle.ig_plain.specs.declared.run.Run.{Run}
use Rattle.ig_plain.specs.Run.{IsRun, Refuses, Taking, Takes, EntersInstance}
use Rattle.ig_plain.specs.Trail.{HasTrail, IsNext, TakesOn, EntersOn}

-- k of the items at p are taken
abbrev pub IsRunIn : Context → ℕ → ℕ → Run → Type 0
IsRunIn context p k run = IsRun context.core.now context.text.now context.budget p k run.found run.waiting

-- and it is recorded how all that was found came about
abbrev pub HasTrailIn : Context → ℕ → ℕ → Run → Type 0
HasTrailIn context p k run = HasTrail context.core.now context.text.now p k run.found run.waiting run.trail

-- why a run was refused
abbrev pub RefusesIn : Context → RunFault → Type 0
RefusesIn context fault = Refuses context.core.now context.text.now context.budget fault

-- k of the items at p were taken; or it was refused
abbrev pub RunsIn : Context → ℕ → ℕ → Run → Result (Unit {0}) RunFault → Type 0
RunsIn context p k run result = MatchResult result (λ u. IsRunIn context p k run) (RefusesIn context)

-- the item is the next one that is taken
abbrev pub TakingIn : Context → Taken → Run → Type 0
TakingIn context taken run = Taking context.core.now context.text.now context.budget taken.item run.found run.waiting

-- and that is its number
abbrev pub IsNextIn : Context → Taken → Run → Type 0
IsNextIn context taken run =
    IsNext context.core.now context.text.now taken.item taken.number run.found run.waiting run.trail

-- the item, which is one of those at the position, was taken or refused
abbrev pub TakesIn : Context → Taken → Run → Run → Result (Unit {0}) RunFault → Type 0
TakesIn context taken a b result =
    Takes context.core.now context.text.now context.budget taken.item a.found b.found b.waiting result

-- and where it was taken, it is recorded how all that was found came about
abbrev pub TakesOnIn : Context → Taken → Run → Run → Result (Unit {0}) RunFault → Type 0
TakesOnIn context taken a b result =
    TakesOn context.core.now context.text.now taken.item a.found b.found b.waiting b.trail result

-- the instance of that key was entered, with its first items, or refused
abbrev pub EntersIn : Context → InstanceKey → Run → Run → Result ℕ RunFault → Type 0
EntersIn context key a b result =
    EntersInstance context.core.now context.budget key a.found b.found a.waiting b.waiting result

-- and where it was entered, it is recorded how its first items came about
abbrev pub EntersOnIn : Context → InstanceKey → Run → Run → Result ℕ RunFault → Type 0
EntersOnIn context key a b result =
    EntersOn context.core.now context.budget key a.found b.found a.waiting b.waiting a.trail b.trail result
