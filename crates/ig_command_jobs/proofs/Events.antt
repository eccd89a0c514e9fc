-- What the events of a parse do.
use Rattle.std.proofs.Common.{◌≡◌, ◌≢◌, ◌↔◌, ℕ, ◌+◌, ◌-◌, ◌<◌, ◌≤◌, List, Option, Some, None, true, false, Bool, IsTrue, refl, sym, ap, ◌∙◌, subst, arith, length}
use Rattle.std.specs.Prelude.{IfErr, IfOk, Result, Ok, Err}
use Rattle.std.proofs.lemmas.List.{length-map}
use Rattle.std.proofs.lemmas.List.Sorted.{length_permutation}
use Rattle.ig_text.specs.Input.{Input}
use Rattle.ig_item.specs.Items.{MoreThan}
use Rattle.ig_item.specs.declared.core_grammar.Nonterminal.{Nonterminal}
use Rattle.ig_item.specs.declared.run_fault.RunFault.{RunFault}
use Rattle.ig_item.specs.declared.run_fault.RunFault.TheVariants as fault
use Rattle.ig_engine.specs.Adding.{IsOnward}
use Rattle.ig_engine.specs.Reached.{Reached, means}
use Rattle.ig_engine.specs.Running.{Running}
use Rattle.ig_engine.specs.Stepping.{IsBegun, IsUnbegun, Steps, Took, without}
use Rattle.ig_engine.specs.declared.progress.Progress.{Progress}
use Rattle.ig_engine.specs.declared.progress.Progress.TheVariants as progress
use Rattle.ig_run_laws.specs.Finding.{Finding}
use Rattle.ig_command_jobs.specs.Stages.{Follows, is_last}
use Rattle.ig_command_jobs.specs.Underway.{GoesOn, IsAt, left_at}
use Rattle.ig_command_jobs.specs.declared.stage.Stage.{Stage}
use Rattle.ig_command_jobs.specs.declared.stage.Stage.TheVariants as stage

-- a parse begins with one item, whose ticket waits
pub begins : (run : Running) (core : List Nonterminal) (text : Input) (budget : ℕ) → run.refused ≡ None →
    IsBegun core text budget run.state → IsAt stage.Going 0 run
begins run core text budget none begun =
    let alone = begun.alone in
    let one = ap (λ (z : Finding). length z.items) begun.first in
    let n = length-map run.state.found.items (means run.state) in
    let count : 0 + length run.state.found.waiting ≡ length run.state.found.items = omega (arith, alone, one, n) in
    (omega arith, subst (GoesOn 0 run) (sym none) count)

-- for what else than want of memory it doesn't begin
pub unbegun : (core : List Nonterminal) (text : Input) (budget : ℕ) (f : RunFault) → IsUnbegun core text budget f → f ≡ fault.Budget →
    MoreThan core text budget
unbegun core text budget fault.Budget h e = h.1
unbegun core text budget fault.Memory h e = absurd (cc)

-- a step that wasn't refused was one of a run that goes on
goes : (o : Option RunFault) (p : Progress) → ((f : RunFault) → o ≡ Some f → Ok p ≡ Err f) → o ≡ None
goes None p again = refl
goes (Some f) p again = let e : Ok p ≡ Err f = again f refl in absurd (cc)

module _ (a b : Running) (events : ℕ) (budget : b.budget ≡ a.budget) where
  -- a ticket more was taken
  one_more : GoesOn events a a.refused → a.refused ≡ None → b.refused ≡ None →
      (t : Took a.state) × IsOnward a.core a.text a.budget (without a.state t) b.state → IsAt stage.Going (events + 1) b
  one_more going none still step =
      let before : events + length a.state.found.waiting ≡ length a.state.found.items = subst (GoesOn events a) none going in
      let taken = length_permutation _ _ step.0.took in
      let n = length-map a.state.found.items (means a.state) in
      let m = length-map b.state.found.items (means b.state) in
      let within = step.1.reached.within in
      let counts = step.1.counts in
      let after : events + 1 + length b.state.found.waiting ≡ length b.state.found.items = omega (arith, before, taken, n, m, counts) in
      (omega (arith, after, within, budget), subst (GoesOn (events + 1) b) (sym still) after)

  -- more items are reachable than the budget allows
  exceeds : (o : Option RunFault) → a.refused ≡ o → GoesOn events a o → ((f : RunFault) → a.refused ≡ Some f → ◌≡◌ {A = Result Progress RunFault} (Err fault.Budget) (Err f)) →
      (a.refused ≡ None → Steps a.core a.text a.budget a.state b.state (Err fault.Budget)) → MoreThan a.core a.text a.budget
  exceeds None is going again steps = (steps is).1.1
  exceeds (Some fault.Budget) is going again steps = absurd going
  exceeds (Some fault.Memory) is going again steps =
      let e : ◌≡◌ {A = Result Progress RunFault} (Err fault.Budget) (Err fault.Memory) = again fault.Memory is in absurd (cc)

  moved : b.core ≡ a.core → b.text ≡ a.text → MoreThan a.core a.text a.budget → MoreThan b.core b.text b.budget
  moved core text m =
      subst (λ (z : List Nonterminal). MoreThan z b.text b.budget) (sym core)
      (subst (λ (z : Input). MoreThan a.core z b.budget) (sym text) (subst (λ (z : ℕ). MoreThan a.core a.text z) (sym budget) m))

-- an event leads to what is known in the stage behind it
pub goes_on : {E : Type 0} (a b : Running) (events : ℕ) (r : Result Progress RunFault) (o : Result Stage E) → b.core ≡ a.core →
    b.text ≡ a.text → b.budget ≡ a.budget → ((f : RunFault) → a.refused ≡ Some f → r ≡ Err f) →
    (a.refused ≡ None → Steps a.core a.text a.budget a.state b.state r) → IfOk r (λ p. b.refused ≡ None) → Follows r o →
    IsAt stage.Going events a → IfOk o (λ s. IsAt s (events + 1) b)
goes_on a b events (Ok progress.More) (Ok s) core text budget again steps still is at =
    let none = goes a.refused progress.More again in
    subst (λ (z : Stage). IsAt z (events + 1) b) (sym is) (one_more a b events budget at.1 none still (steps none))
goes_on a b events (Ok progress.More) (Err e) core text budget again steps still is at = absurd is
goes_on a b events (Ok progress.Done) (Ok s) core text budget again steps still is at =
    let last = steps (goes a.refused progress.Done again) in
    subst (λ (z : Stage). IsAt z (events + 1) b) (sym is) (still, ap (λ (z : Reached). z.found.waiting) last.1 ∙ last.0)
goes_on a b events (Ok progress.Done) (Err e) core text budget again steps still is at = absurd is
goes_on a b events (Err fault.Budget) (Ok s) core text budget again steps still is at =
    subst (λ (z : Stage). IsAt z (events + 1) b) (sym is)
    (moved a b events budget core text (exceeds a b events budget a.refused refl at.1 again steps))
goes_on a b events (Err fault.Budget) (Err e) core text budget again steps still is at = absurd is
goes_on a b events (Err fault.Memory) (Ok s) core text budget again steps still is at = absurd is
goes_on a b events (Err fault.Memory) (Err e) core text budget again steps still is at = tt

-- and without memory to what was known
pub stays : {E : Type 0} (a b : Running) (events : ℕ) (r : Result Progress RunFault) (o : Result Stage E) → b.budget ≡ a.budget →
    IfErr r (λ f. b.refused ≡ Some f) → Follows r o → IsAt stage.Going events a → IfErr o (λ e. IsAt stage.Going events b)
stays a b events (Ok progress.More) (Ok s) budget refused is at = tt
stays a b events (Ok progress.More) (Err e) budget refused is at = absurd is
stays a b events (Ok progress.Done) (Ok s) budget refused is at = tt
stays a b events (Ok progress.Done) (Err e) budget refused is at = absurd is
stays a b events (Err fault.Budget) (Ok s) budget refused is at = tt
stays a b events (Err fault.Budget) (Err e) budget refused is at = absurd is
stays a b events (Err fault.Memory) (Ok s) budget refused is at = tt
stays a b events (Err fault.Memory) (Err e) budget refused is at =
    (subst (λ (z : ℕ). events ≤ z) (sym budget) at.0, subst (GoesOn events b) (sym refused) tt)

-- stages
pub still_going : (s : Stage) → is_last s ≡ false → s ≡ stage.Going
still_going stage.Going e = refl
still_going stage.Whole e = absurd (cc)
still_going stage.Over e = absurd (cc)

-- the number that falls is 0 exactly behind the last event
pub last_is_zero : (budget events : ℕ) (s : Stage) (run : Running) → run.budget ≡ budget → IsAt s events run → (b : Bool) →
    b ≡ is_last s → IsTrue b ↔ (left_at s budget events ≡ 0)
last_is_zero budget events stage.Going run is at b e =
    let few = at.0 in (λ (t : b ≡ true). let no = sym t ∙ e in absurd (cc), λ (z : left_at stage.Going budget events ≡ 0). absurd (omega (arith, few, is, z)))
last_is_zero budget events stage.Whole run is at b e = (λ _. refl, λ _. e)
last_is_zero budget events stage.Over run is at b e = (λ _. refl, λ _. e)

-- while a parse goes on, the number isn't 0, and there are few events
pub is_left : (budget events : ℕ) (run : Running) → run.budget ≡ budget → IsAt stage.Going events run → left_at stage.Going budget events ≢ 0
is_left budget events run is at = let few = at.0 in λ z. omega (arith, few, is, z)

pub few_events : (budget events : ℕ) (run : Running) → run.budget ≡ budget → IsAt stage.Going events run → events ≤ budget
few_events budget events run is at = let few = at.0 in omega (arith, few, is)

-- it falls
pub falls : (budget events : ℕ) (s : Stage) (run after : Running) → run.budget ≡ budget → after.budget ≡ budget →
    IsAt stage.Going events run → IsAt s (events + 1) after → left_at s budget (events + 1) < left_at stage.Going budget events
falls budget events stage.Going run after is also at then =
    let few = at.0 in let fewer = then.0 in omega (arith, few, fewer, is, also)
falls budget events stage.Whole run after is also at then = let few = at.0 in omega (arith, few, is)
falls budget events stage.Over run after is also at then = let few = at.0 in omega (arith, few, is)
