-- The step behind a dot, by which an item is looked up.
use Rattle.std.proofs.Common.{◌≡◌, ℕ, List, Some, map, refl, sym, ap, ◌∙◌, subst, arith, slice_get}
use Rattle.std.specs.Prelude.{Option, None, option_and_then}
use Rattle.std.proofs.lemmas.Option.{slice_get_past, same_Some}
use Rattle.ig_text.specs.declared.pattern.Pattern.{Pattern}
use Rattle.ig_text.proofs.Lists.{past_end}
use Rattle.ig_text.proofs.Options.{stepped}
use Rattle.ig_expr.specs.Expression.{Expression}
use Rattle.ig_item.specs.Step.{Step, Call}
use Rattle.ig_item.specs.Core.{IsAlternative, alternative_at, numbered}
use Rattle.ig_item.specs.Items.{Item, StandsBefore}
use Rattle.ig_item.specs.Laws.{EnvironmentsFit}
use Rattle.ig_item.specs.Visible.{names_at}
use Rattle.ig_item.specs.declared.core_grammar.Nonterminal.{Nonterminal}
use Rattle.ig_item.specs.declared.core_grammar.CoreAlt.{CoreAlt}
use Rattle.ig_run_tables.specs.Compiled.{form_of, expressions_of}
use Rattle.ig_run_tables.specs.declared.compiled.Form.{Form}
use Rattle.ig_run_moves.specs.Rules.{step_at, IsCallAt}
use Rattle.ig_run_moves.specs.Laws.{StepsAreBehind, EndsAreComplete}

-- a step stands in an alternative
pub record IsStepOf (core : List Nonterminal) (n a dot : ℕ) (step : Step) : Type 0 where
  pub nonterminal : Nonterminal
  pub alternative : CoreAlt
  pub has : IsAlternative core n a nonterminal alternative
  pub next : slice_get alternative.steps dot ≡ Some step

-- the step that is looked up stands there
pub step_found : (core : List Nonterminal) (n a dot : ℕ) (step : Step) → step_at core n a dot ≡ Some step → IsStepOf core n a dot step
step_found core n a dot step e =
    let s = stepped (λ (m : CoreAlt). slice_get m.steps dot) (alternative_at core n a) step e in
    let t = stepped (λ (m : Nonterminal). numbered m.alternatives a) (slice_get core n) s.0 s.1 in
    record { nonterminal = t.0; alternative = s.0; has = record { there = t.1; has = t.2 }; next = s.2 }

-- what is looked up in an alternative that is there
step_in : (core : List Nonterminal) (n a dot : ℕ) (nonterminal : Nonterminal) (alternative : CoreAlt) →
    IsAlternative core n a nonterminal alternative → step_at core n a dot ≡ slice_get alternative.steps dot
step_in core n a dot nonterminal alternative h =
    let there : alternative_at core n a ≡ Some alternative =
    ap (option_and_then (λ (m : Nonterminal). numbered m.alternatives a)) h.there ∙ h.has in
    ap (option_and_then (λ (m : CoreAlt). slice_get m.steps dot)) there

pub steps_behind : StepsAreBehind
steps_behind core it step = (
  λ s. step_in core it.instance.nonterminal it.alternative it.dot s.before.nonterminal s.before.alternative s.before.has ∙ s.before.next,
  λ e.
      let s = step_found core it.instance.nonterminal it.alternative it.dot step e in
      record {
        names = names_at s.nonterminal s.alternative it.dot;
        before = record { nonterminal = s.nonterminal; alternative = s.alternative; has = s.has; next = s.next; visible = refl };
      },
)

pub ends_complete : EnvironmentsFit → EndsAreComplete
ends_complete law core text it kinded reachable = (
  λ c.
      step_in core it.instance.nonterminal it.alternative it.dot c.nonterminal c.alternative c.has ∙
      slice_get_past c.alternative.steps it.dot (let last = c.last in omega (arith, last)),
  λ e.
      let f = law core text it kinded reachable in
      let none : slice_get f.alternative.steps it.dot ≡ None =
      sym (step_in core it.instance.nonterminal it.alternative it.dot f.nonterminal f.alternative f.has) ∙ e in
      let least = past_end f.alternative.steps it.dot none in
      let most = f.within in
      record { nonterminal = f.nonterminal; alternative = f.alternative; has = f.has; last = omega (arith, least, most) },
)

-- an item stands before a step where its numbers are those at which it is looked up
pub stands_there : (core : List Nonterminal) (n : ℕ) (it : Item) (names : List (List ℕ)) (step : Step) →
    step_at core n it.alternative it.dot ≡ Some step → it.instance.nonterminal ≡ n →
    ((m : Nonterminal) (c : CoreAlt) → IsAlternative core n it.alternative m c → names ≡ names_at m c it.dot) →
    StandsBefore core it names step
stands_there core n it names step e same all =
    let s = step_found core n it.alternative it.dot step e in
    record {
      nonterminal = s.nonterminal;
      alternative = s.alternative;
      has = subst (λ (z : ℕ). IsAlternative core z it.alternative s.nonterminal s.alternative) (sym same) s.has;
      next = s.next;
      visible = all s.nonterminal s.alternative s.has;
    }

-- the forms that are known there
pub forms_there : (core : List Nonterminal) (n a dot : ℕ) (step : Step) (names : List (List ℕ)) (forms : List Form) →
    step_at core n a dot ≡ Some step →
    ((m : Nonterminal) (c : CoreAlt) (t : Step) → IsAlternative core n a m c → slice_get c.steps dot ≡ Some t →
    forms ≡ map (form_of names) (expressions_of t)) → forms ≡ map (form_of names) (expressions_of step)
forms_there core n a dot step names forms e all =
    let s = step_found core n a dot step e in all s.nonterminal s.alternative step s.has s.next

-- and something is known
pub known_there : (core : List Nonterminal) (n a dot : ℕ) (step : Step) → step_at core n a dot ≡ Some step →
    ((m : Nonterminal) (c : CoreAlt) (t : Step) → IsAlternative core n a m c → slice_get c.steps dot ≡ Some t → ⊥) → ⊥
known_there core n a dot step e none =
    let s = step_found core n a dot step e in none s.nonterminal s.alternative step s.has s.next

-- the call that is looked up has that label and these excluded patterns
pub label_there : (core : List Nonterminal) (n a dot callee : ℕ) (arguments : List Expression) (label second : Option (List ℕ))
    (excluded others : List Pattern) → step_at core n a dot ≡ Some (Call callee arguments label excluded) →
    IsCallAt core n a dot second others → (label ≡ second) × (excluded ≡ others)
label_there core n a dot callee arguments label second excluded others e c =
    let same = same_Some (Call callee arguments label excluded) (Call c.callee c.arguments second others) (sym e ∙ c.is) in (cc same, cc same)
