-- An item before a test, a binding or a terminal is taken.
use Rattle.std.proofs.Common.{◌≡◌, ⊎_elim, inl, ℕ, suc, ◌+◌, ◌<◌, ◌≤◌, List, Some, Option, map, Contains, refl, sym, ap, ◌∙◌, subst, arith, slice_get}
use Rattle.std.proofs.lemmas.List.Elements.{Contains-append_left}
use Rattle.std.specs.Prelude.{Result, Ok, Err, MatchResult}
use Rattle.ig_text.specs.Input.{Input}
use Rattle.ig_text.specs.declared.pattern.Pattern.{Pattern}
use Rattle.ig_text.proofs.Lists.{same_map}
use Rattle.ig_item.specs.Step.{Step}
use Rattle.ig_item.specs.Items.{Item, IsComplete, MoreThan, Reachable, first}
use Rattle.ig_item.specs.Laws.{ReachableIsClosed}
use Rattle.ig_item.specs.Tables.{instance_by}
use Rattle.ig_item.specs.declared.core_grammar.Nonterminal.{Nonterminal}
use Rattle.ig_item.specs.declared.items.Instance.{Instance}
use Rattle.ig_item.specs.declared.items.Item as stored
use Rattle.ig_item.specs.declared.run_fault.RunFault.{RunFault}
use Rattle.ig_item.specs.declared.run_fault.RunFault.TheVariants.{Budget, Memory}
use Rattle.ig_plain.specs.declared.found.Found.{Found}
use Rattle.ig_run_moves.specs.declared.waiting.Waiting.{Waiting}
use Rattle.ig_plain.specs.Found as found
use Rattle.ig_plain.specs.Found.{means, found_in, later_in, taken_in, count, GrowsLater, Adds, AddsLater, AddsTerminal, instances_in, Named, Grows, Has}
use Rattle.ig_run_moves.specs.Rules.{IsBehind, ReadsTo, Stands, step_at, Comes, NoItem, NoCall}
use Rattle.ig_run_moves.specs.Laws.{StepsAreBehind}
use Rattle.ig_run_laws.specs.Rules.{After, IsCaller}
use Rattle.ig_plain.specs.Run.{IsWaiting, IsRun, IsTaken, Refuses}
use Rattle.ig_plain.proofs.Coming.{follows_only, follows_passed, follows_read, calls_nothing, is_unfinished}
use Rattle.ig_plain.proofs.Running.{takes_found, taken_now, refuses, takes_later, taken_later, exceeds_later, named_still, means_still, all_later, item_found}
use Rattle.ig_plain.proofs.Waiters.{Keeps, waits_alone}
use Rattle.ig_plain.proofs.Completes.{keeps_grown, firsts_kept}
use Rattle.ig_plain.proofs.Growth.{instance_kept}

module _ (core : List Nonterminal) (text : Input) (law : ReachableIsClosed) (budget p k : ℕ) (s : Found) (w : Waiting) (item : stored.Item)
    (here : item.position ≡ p) (r : IsRun core text budget p k s w) (at : slice_get s.here.items k ≡ Some item) where
  abbrev it : Item
  it = means s item

  -- items are added that follow from the item alone
  pub takes_alone : (may : Item → Type 0) (t : Found) (result : Result (Unit {0}) RunFault) → Adds p may budget s t result →
      ((x : Item) → may x → After core text (Contains (taken_in s k)) it x) → ((x : Item) → After core text (Contains (taken_in s k)) it x → may x) →
      ((callee : Instance) → IsCaller core text it callee → ⊥) → (IsComplete core it → ⊥) → IsTaken core text budget p k t w result
  takes_alone may t (Ok u) d sound complete apart unfinished =
      record {
        taking = takes_found core text law budget p k s item r.taking at may t d.grows sound d.has (d.within r.taking.within) (λ x a. inl (complete x a));
        firsts = firsts_kept core text law budget p k s w item here r at may t d.grows;
        waiting = subst (λ (z : List Item). IsWaiting core text p t z w) (sym (taken_now core text law budget p k s item r.taking at may t d.grows sound))
            (waits_alone core text p s t (taken_in s k) it w (keeps_grown p may s t d.grows) apart unfinished r.waiting);
      }
  takes_alone may t (Err f) d sound complete apart unfinished = refuses core text law budget p k s item r.taking at may t f d sound

  -- it passes on, if at all
  pub takes_passing : (passes : Item → Type 0) → Comes core text it passes NoItem NoCall ⊥ → (t : Found) (result : Result (Unit {0}) RunFault) →
      Adds p passes budget s t result → IsTaken core text budget p k t w result
  takes_passing passes c t result d =
      takes_alone passes t result d (follows_passed core text it passes NoItem c (Contains (taken_in s k)))
      (λ x a. ⊎_elim (λ (h : passes x). h) (λ (h : ⊥). absurd h) (follows_only core text it passes NoItem c (Contains (taken_in s k)) x a))
      (calls_nothing core text it passes NoItem c) (is_unfinished core text it passes NoItem c)

  -- it reads on
  module _ (what : Pattern) (label : Option (List ℕ)) (excluded : List Pattern)
      (c : Comes core text it NoItem (IsBehind text what label excluded it) NoCall ⊥) where
    abbrev reads : Item → Type 0
    reads = IsBehind text what label excluded it

    behind : (x : Item) → After core text (Contains (taken_in s k)) it x → reads x
    behind x a = ⊎_elim (λ (h : ⊥). absurd h) (λ (h : reads x). h) (follows_only core text it NoItem reads c (Contains (taken_in s k)) x a)

    follows : (x : Item) → reads x → After core text (Contains (taken_in s k)) it x
    follows = follows_read core text it NoItem reads c (Contains (taken_in s k))

    over : (x : Item) → reads x → ReadsTo core text it x
    over x m = (c.reading x).1 m

    module _ (x : Item) (t : Found) (m : reads x) (g : GrowsLater p x s t) where
      pub keeps_later : Keeps s t
      keeps_later =
          record {
            named = named_still core text law budget p k s item r.taking at x t g (over x m) (follows x m);
            means_same = means_still core text law budget p k s item r.taking at x t g (over x m) (follows x m);
            instances = ap (map (instance_by t.envs.keys)) g.keys ∙
                same_map (instance_by t.envs.keys) (instance_by s.envs.keys) s.keys
                (λ key c. instance_kept s.envs.keys t.envs.keys key g.envs (s.named.values key c));
          }

      taken_one : ((y : Item) → reads y → y ≡ x) → count t ≤ budget → IsRun core text budget p (suc k) t w
      taken_one only within =
          record {
            taking = takes_later core text law budget p k s item r.taking at x t g (over x m) (follows x m) within (λ y a. only y (behind y a));
            firsts = λ callee c a nonterminal alternative has.
                all_later core text law budget p k s item r.taking at x t g (over x m) (follows x m) (first callee a)
                (r.firsts callee (subst (λ (z : List Instance). Contains z callee) keeps_later.instances c) a nonterminal alternative has);
            waiting = subst (λ (z : List Item). IsWaiting core text p t z w)
                (sym (taken_later core text law budget p k s item r.taking at x t g (over x m) (follows x m)))
                (waits_alone core text p s t (taken_in s k) it w keeps_later (calls_nothing core text it NoItem reads c)
                (is_unfinished core text it NoItem reads c) r.waiting);
          }

      too_many_later : budget < count t → MoreThan core text budget
      too_many_later more = exceeds_later core text law budget p k s item r.taking at x t g (over x m) (follows x m) more

    pub takes_terminal : (t : Found) (result : Result (Unit {0}) RunFault) → AddsTerminal text what label excluded budget p it s t result →
        IsTaken core text budget p k t w result
    takes_terminal t result (found.here d) =
        takes_alone reads t result d follows behind (calls_nothing core text it NoItem reads c) (is_unfinished core text it NoItem reads c)
    takes_terminal t result (found.later x m only d) = go result d
      where
        go : (result : Result (Unit {0}) RunFault) → AddsLater p x budget s t result → IsTaken core text budget p k t w result
        go (Ok u) d = taken_one x t m d.0 only d.1
        go (Err Budget) d = let h = d refl in too_many_later x t m h.0 h.1
        go (Err Memory) d = tt

-- what stands behind the dot of an item
pub stands_at : (core : List Nonterminal) (it : Item) (n : ℕ) (step other : Step) → StepsAreBehind → n ≡ it.instance.nonterminal →
    step_at core n it.alternative it.dot ≡ Some step → step ≡ other → Stands core it other
stands_at core it n step other law of there same =
    (law core it other).1 (ap (λ (z : ℕ). step_at core z it.alternative it.dot) (sym of) ∙ there ∙ ap Some same)

-- the item that is taken next is reachable
pub next_reachable : (core : List Nonterminal) (text : Input) (budget p k : ℕ) (s : Found) (w : Waiting) (item : stored.Item) →
    IsRun core text budget p k s w → slice_get s.here.items k ≡ Some item → Reachable core text (means s item)
next_reachable core text budget p k s w item r at =
    r.taking.reachable (means s item) (Contains-append_left (found_in s) (later_in s) (means s item) (item_found s k item at))

-- one more is taken
pub taken_next : (core : List Nonterminal) (text : Input) (budget p q k : ℕ) (t : Found) (w : Waiting) (result : Result (Unit {0}) RunFault) → q ≡ p →
    IsTaken core text budget q k t w result → MatchResult result (λ u. IsRun core text budget p (k + 1) t w) (Refuses core text budget)
taken_next core text budget p q k t w (Ok u) e r =
    let n : suc k ≡ k + 1 = omega arith in
    subst (λ (z : ℕ). IsRun core text budget p z t w) n (subst (λ (z : ℕ). IsRun core text budget z (suc k) t w) e r)
taken_next core text budget p q k t w (Err f) e r = r
