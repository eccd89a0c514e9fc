-- When a run exceeds its budget, and what is found at its end.
use Rattle.std.proofs.Common.{◌≡◌, ◌⊎◌, ⊎_elim, ℕ, ◌<◌, List, [], length, Contains, subst, arith}
use Rattle.ig_text.specs.Input.{Input}
use Rattle.ig_text.proofs.Lists.{at_from_contains, none_in_nil}
use Rattle.ig_item.specs.Induction.{follows_more, kept}
use Rattle.ig_item.specs.Items.{Item, Follows, MoreThan}
use Rattle.ig_item.specs.Laws.{ReachableIsClosed}
use Rattle.ig_item.specs.declared.core_grammar.Nonterminal.{Nonterminal}
use Rattle.ig_queue.specs.declared.ticket.Ticket.{Ticket}
use Rattle.ig_run_laws.specs.AfterBy.{AfterBy}
use Rattle.ig_run_laws.specs.Finding.{Finding, Finds, IsTaken, Takes, ticket_of}
use Rattle.ig_run_laws.specs.Laws.{BudgetsSuffice, EndedRunsAreComplete, RefusedBudgetsAreExceeded}
use Rattle.ig_run_laws.specs.Run.{IsWhole, FollowMore}
use Rattle.ig_run_laws.specs.Stacks.{Node}
use Rattle.ig_run_laws.proofs.Events as events
use Rattle.ig_run_laws.proofs.Fewer.{at_most}
use Rattle.ig_run_laws.proofs.Grown.{extends_cases}

module _ (law : ReachableIsClosed) (core : List Nonterminal) (text : Input) (a : Finding) (more : List Item) (nodes : List Node)
    (rest : List Ticket) (t : Ticket) (it : Item) (budget : ℕ) (whole : IsWhole core text a nodes) (w : Takes a rest t it)
    (f : Finds (AfterBy core text a.items nodes it t.number) a.items more) (over : budget < length more) where
  all_follow : (x : Item) → Contains more x → Follows core text (IsTaken a.items rest) x
  all_follow x c =
      ⊎_elim (events.old_follow core text a nodes rest t it whole w x)
      (λ (h : Contains f.items.more x). let q = f.each x h in events.way_follows core text a nodes rest t it whole w q.0 x q.1)
      (extends_cases a.items more x f.items c)

  pub exceeded : FollowMore core text (IsTaken a.items rest) budget × MoreThan core text budget
  exceeded = (
    record { items = more; different = f.once whole.run.once; follow = all_follow; more = over },
    record {
      items = more;
      different = f.once whole.run.once;
      reachable = λ x c. law core text x (follows_more core text (events.known_reachable core text a nodes rest t it whole w) (all_follow x c));
      more = over;
    },
  )

pub refused_budgets_are_exceeded : ReachableIsClosed → RefusedBudgetsAreExceeded
refused_budgets_are_exceeded law core text a more nodes rest t it budget whole w f over =
    exceeded law core text a more nodes rest t it budget whole w f over

pub budgets_suffice : BudgetsSuffice
budgets_suffice core text a nodes budget whole few m =
    let l = at_most m.items a.items m.different (λ x c. (whole.run.exact x).1 (m.follow x c)) in
    let n = m.more in omega (arith, few, l, n)

-- where nothing waits, all that is found is taken
pub all_taken : (a : Finding) → a.waiting ≡ [] → (x : Item) → Contains a.items x → IsTaken a.items a.waiting x
all_taken a none x c =
    let at = at_from_contains a.items x c in
    record {
      number = at.0;
      there = at.1;
      taken = λ d. none_in_nil (ticket_of x at.0) (subst (λ (z : List Ticket). Contains z (ticket_of x at.0)) none d);
    }

-- and the found items are the reachable ones
pub ended_runs_are_complete : EndedRunsAreComplete
ended_runs_are_complete core text a nodes whole none x = (
  λ c. whole.run.reachable x c,
  λ q. kept core text (Contains a.items) (λ y f. (whole.run.exact y).1 (follows_more core text (all_taken a none) f)) x q,
)
