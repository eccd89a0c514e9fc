-- Whether steps are calls.
use Rattle.std.proofs.Common.{◌≡◌, ⊎_elim, ℕ, ◌+◌, ◌<◌, ◌≤◌, List, Some, Option, refl, sym, ap, ◌∙◌, subst, arith, map, slice_get}
use Rattle.std.specs.Prelude.{◌↔◌, Bool, IsTrue, None, true, false}
use Rattle.std.proofs.lemmas.Bool.{cases_eq}
use Rattle.std.proofs.lemmas.Option.{same_Some}
use Rattle.ig_text.proofs.Lists.{mapped_at, unmapped_at}
use Rattle.ig_text.specs.declared.pattern.Pattern.{Pattern}
use Rattle.ig_expr.specs.Expression.{Expression}
use Rattle.ig_item.specs.Core.{steps_at}
use Rattle.ig_item.specs.Step.{Step, Test, Bind, Term, Call}
use Rattle.ig_item.specs.View.{step_of}
use Rattle.ig_item.specs.declared.core_grammar.Nonterminal.{Nonterminal}
use Rattle.ig_item.specs.declared.step.Step as stored
use Rattle.ig_run_laws.specs.FirstCalls.{CallsNothing, IsCallIn}
use Rattle.ig_engine.specs.FirstCalls.{CallsNone, CallsNoneFrom, IsCall}

-- a call has its form
call_form : (s : Step) → IsCall s →
    (callee : ℕ) × (arguments : List Expression) × (label : Option (List ℕ)) × (excluded : List Pattern) × (s ≡ Call callee arguments label excluded)
call_form (Test condition) c = absurd c
call_form (Bind name value) c = absurd c
call_form (Term what label excluded) c = absurd c
call_form (Call callee arguments label excluded) c = (callee, arguments, label, excluded, refl)

-- the step at a place
pub call_there : (steps : List stored.Step) (k : ℕ) (s : stored.Step) → slice_get steps k ≡ Some s → (b : Bool) → IsTrue b ↔ IsCall (step_of s) →
    IsTrue b ↔ IsCallIn (map step_of steps) k
call_there steps k s at b is = (
  λ h. let f = call_form (step_of s) (is.0 h) in (f.0, f.1, f.2, f.3, mapped_at step_of steps k s at ∙ ap Some f.4),
  λ q.
      is.1 (subst IsCall (sym (same_Some (step_of s) (Call q.0 q.1 q.2 q.3) (sym (mapped_at step_of steps k s at) ∙ q.4))) tt),
)

pub none_there : (steps : List stored.Step) (k : ℕ) → slice_get steps k ≡ None → IsTrue false ↔ IsCallIn (map step_of steps) k
none_there steps k none = (
  λ h. absurd (let e : false ≡ true = h in cc),
  λ q.
      let y = unmapped_at step_of steps k (Call q.0 q.1 q.2 q.3) q.4 in
      absurd (let e : None ≡ Some y.0 = sym none ∙ y.1 in cc),
)

-- none of those from a step on is one, and the one before it isn't either
pub none_further : (steps : List Step) (k number dot : ℕ) → number ≡ k + 1 → CallsNoneFrom steps number dot → (IsCallIn steps k → ⊥) →
    CallsNoneFrom steps k dot
none_further steps k number dot next none here j le lt c =
    ⊎_elim (λ (h : j ≡ k). here (subst (IsCallIn steps) h c)) (λ (h : j ≡ k → ⊥). none j (omega (arith, le, h, next)) lt c) (cases_eq j k)

-- all steps before a dot were seen; or one of them is a call
pub all_none : (steps : List Step) (k dot : ℕ) → k ≤ 0 → CallsNoneFrom steps k dot → IsTrue true ↔ CallsNone steps dot
all_none steps k dot le none = (λ h j lt c. none j (omega (arith, le)) lt c, λ h. refl)

pub one_there : (steps : List Step) (k dot : ℕ) → k < dot → IsCallIn steps k → IsTrue false ↔ CallsNone steps dot
one_there steps k dot lt call = (λ h. absurd (let e : false ≡ true = h in cc), λ none. absurd (none k lt call))

-- the steps of an alternative
pub nothing_in : (core : List Nonterminal) (n a dot : ℕ) (steps : List Step) → steps_at core n a ≡ Some steps → (b : Bool) →
    IsTrue b ↔ CallsNone steps dot → IsTrue b ↔ CallsNothing core n a dot
nothing_in core n a dot steps of b is = (
  λ h others k at lt c. is.0 h k lt (subst (λ z. IsCallIn z k) (sym (same_Some steps others (sym of ∙ at))) c),
  λ none. is.1 (λ k lt c. none steps k of lt c),
)

pub nothing_where_none : (core : List Nonterminal) (n a dot : ℕ) → steps_at core n a ≡ None → IsTrue true ↔ CallsNothing core n a dot
nothing_where_none core n a dot none = (
  λ h steps k of lt c. let e : None ≡ Some steps = sym none ∙ of in cc,
  λ h. refl,
)
