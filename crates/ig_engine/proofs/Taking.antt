-- A ticket is taken.
use Rattle.std.proofs.Common.{◌≡◌, ⊎_elim, ℕ, List, ◌∷◌, Contains, Some, sym, ap, ◌∙◌, subst, slice_get}
use Rattle.std.specs.Prelude.{Ok, Err}
use Rattle.std.specs.List.Sorted.{IsPermutation}
use Rattle.std.proofs.lemmas.List.Sorted.{IsPermutation-sym, Contains-permutation}
use Rattle.ig_text.specs.Input.{Input}
use Rattle.ig_text.proofs.Lists.{contains_first, contains_later, in_rest, mapped_at}
use Rattle.ig_expr.specs.declared.value.Value.{Value}
use Rattle.ig_item.specs.declared.core_grammar.Nonterminal.{Nonterminal}
use Rattle.ig_item.specs.declared.items.Item as stored
use Rattle.ig_item.specs.declared.run_fault.RunFault.{RunFault}
use Rattle.ig_queue.specs.declared.ticket.Ticket.{Ticket}
use Rattle.ig_run_moves.specs.Finding as numbered
use Rattle.ig_run_moves.specs.Finding.{ticket_of}
use Rattle.ig_gss.specs.Nodes as shared
use Rattle.ig_engine.specs.declared.progress.Progress.TheVariants as progress
use Rattle.ig_engine.specs.Adding.{IsOnward, Refuses}
use Rattle.ig_engine.specs.Stepping.{Steps, Took}
use Rattle.ig_engine.specs.Reached.{IsReached, Reached, Taking, means, reached, with_tickets}

module _ (core : List Nonterminal) (text : Input) (budget : ℕ) (envs : List (List Value)) (nodes : List shared.Node) (a b : numbered.Finding)
    (r : IsReached core text budget (reached envs nodes a)) (item : stored.Item) (number : ℕ)
    (at : slice_get a.items number ≡ Some item) (took : IsPermutation a.waiting (ticket_of item number ∷ b.waiting))
    (gone : Contains b.waiting (ticket_of item number) → ⊥) (items : b.items ≡ a.items) (ways : b.ways ≡ a.ways)
    (indexed : b.indexed ≡ a.indexed) where
  -- but for the tickets nothing is changed
  pub same_but : with_tickets b a.waiting ≡ a
  same_but = λ i. record { items = items i; ways = ways i; waiting = a.waiting; indexed = indexed i }

  pub other_tickets : b ≡ with_tickets a b.waiting
  other_tickets = λ i. record { items = items i; ways = ways i; waiting = b.waiting; indexed = indexed i }

  forth : (u : Ticket) → Contains b.waiting u → Contains a.waiting u × (u ≡ ticket_of item number → ⊥)
  forth u c = (
    Contains-permutation (ticket_of item number ∷ b.waiting) a.waiting u (IsPermutation-sym a.waiting (ticket_of item number ∷ b.waiting) took)
        (contains_later (ticket_of item number) b.waiting u c),
    λ e. gone (subst (Contains b.waiting) e c),
  )

  back : (u : Ticket) → Contains a.waiting u × (u ≡ ticket_of item number → ⊥) → Contains b.waiting u
  back u h =
      ⊎_elim (λ (e : ticket_of item number ≡ u). absurd (h.1 (sym e))) (λ (c : Contains b.waiting u). c)
      (in_rest (ticket_of item number) b.waiting u (Contains-permutation a.waiting (ticket_of item number ∷ b.waiting) u took h.0))

  pub taken : Taking core text budget item number (reached envs nodes b)
  taken =
      record {
        waiting = a.waiting;
        before = subst (λ (z : numbered.Finding). IsReached core text budget (reached envs nodes z)) (sym same_but) r;
        takes = record {
          there = Contains-permutation (ticket_of item number ∷ b.waiting) a.waiting (ticket_of item number)
              (IsPermutation-sym a.waiting (ticket_of item number ∷ b.waiting) took) (contains_first (ticket_of item number) b.waiting);
          rest = λ u. (forth u, back u);
          at = mapped_at (means (reached envs nodes b)) b.items number item (ap (λ (z : List stored.Item). slice_get z number) items ∙ at);
        };
        at = ap (λ (z : List stored.Item). slice_get z number) items ∙ at;
      }

  took_one : Took (reached envs nodes a)
  took_one = record { item = item; number = number; rest = b.waiting; took = took }

  pub goes_on : (c : Reached) → IsOnward core text budget (reached envs nodes b) c →
      Steps core text budget (reached envs nodes a) c (Ok progress.More)
  unfolding took_one
  goes_on c o = (took_one, subst (λ (z : numbered.Finding). IsOnward core text budget (reached envs nodes z) c) other_tickets o)

  pub stops : (c : Reached) (f : RunFault) → Refuses core text budget (reached envs nodes b) f →
      Steps core text budget (reached envs nodes a) c (Err f)
  unfolding took_one
  stops c f o = (took_one, subst (λ (z : numbered.Finding). Refuses core text budget (reached envs nodes z) f) other_tickets o)
