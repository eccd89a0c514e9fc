-- Items behind terminals, and that each comes from one item alone.
use Rattle.std.proofs.Common.{◌≡◌, ℕ, suc, ◌+◌, ◌-◌, List, ◌++◌, Some, None, Option, slice_get, sym, ap, ◌∙◌, subst, refl}
use Rattle.std.proofs.lemmas.List.{same_from_push, append-nil}
use Rattle.ig_text.specs.Input.{Input}
use Rattle.ig_text.specs.Pattern.{Matches}
use Rattle.ig_text.specs.declared.pattern.Pattern.{Pattern}
use Rattle.ig_text.proofs.Matching.{one_begin}
use Rattle.ig_expr.specs.declared.value.Value.{Value}
use Rattle.ig_expr.specs.declared.value.Value.TheVariants.{Span}
use Rattle.ig_item.specs.Step.{Term}
use Rattle.ig_item.specs.Core.{IsAlternative}
use Rattle.ig_item.specs.Visible.{names_at}
use Rattle.ig_item.specs.Items.{Item, StandsBefore, past, span_of}
use Rattle.ig_item.specs.declared.core_grammar.Nonterminal.{Nonterminal}
use Rattle.ig_item.specs.declared.items.Instance.{Instance}
use Rattle.ig_run_moves.specs.Rules.{ReadsTo, IsBehind}
use Rattle.ig_plain.proofs.Following.{one_step}
use Rattle.std.specs.Prelude.{Result, OnOk}
use Rattle.std.proofs.lemmas.Result.{on_ok_weaker}
use Rattle.ig_item.specs.WellKinded.{NoneTwice}
use Rattle.ig_item.specs.declared.run_fault.RunFault.{RunFault}
use Rattle.ig_plain.specs.declared.found.Found.{Found}
use Rattle.ig_plain.specs.declared.trail.Trail.{Trail}
use Rattle.ig_run_tables.specs.Extends.{Extends}
use Rattle.ig_run_moves.specs.Tables.{Moves}
use Rattle.ig_item.specs.declared.items.Item as stored
use Rattle.ig_plain.specs.Found as found
use Rattle.ig_plain.specs.Trail as trails
use Rattle.ig_plain.specs.Found.{means, Named, AddsLater, AddsTerminal}
use Rattle.ig_plain.specs.Trail.{RecordsLater, RecordsTerminal}
use Rattle.ig_plain.proofs.Behind.{into, from, adds_later_behind, later_behind}

pub same_item : (a b : Item) → a.instance ≡ b.instance → a.alternative ≡ b.alternative → a.dot ≡ b.dot → a.env ≡ b.env →
    a.position ≡ b.position → a ≡ b
same_item a b p q r s t = λ i. record { instance = p i; alternative = q i; dot = r i; env = s i; position = t i }

same_env : (label : Option (List ℕ)) (env other : List Value) (i k j : ℕ) → i ≡ k → env ++ span_of label i j ≡ other ++ span_of label k j → env ≡ other
same_env None env other i k j at e = sym (append-nil env) ∙ e ∙ append-nil other
same_env (Some name) env other i k j at e =
    (same_from_push env other (Span (record { begin = i; end = j })) (Span (record { begin = k; end = j })) e).0

-- an item behind a terminal comes from one item alone
pub from_one : (core : List Nonterminal) (text : Input) (it other x : Item) → ReadsTo core text it x → ReadsTo core text other x → it ≡ other
from_one core text it other x a b =
    let e : past it (span_of a.label it.position a.is.0) a.is.0 ≡ past other (span_of b.label other.position b.is.0) b.is.0 = sym a.is.3 ∙ b.is.3 in
    let instance : it.instance ≡ other.instance = ap (λ (z : Item). z.instance) e in
    let alternative : it.alternative ≡ other.alternative = ap (λ (z : Item). z.alternative) e in
    let dots : suc it.dot ≡ suc other.dot = ap (λ (z : Item). z.dot) e in
    let dot : it.dot ≡ other.dot = cc dots in
    let ends : a.is.0 ≡ b.is.0 = ap (λ (z : Item). z.position) e in
    let moved : StandsBefore core it (b.names) (Term b.what b.label b.excluded) =
    moved_before core it other b.names b.what b.label b.excluded instance alternative dot b.before in
    let steps = one_step core text it a.names b.names (Term a.what a.label a.excluded) (Term b.what b.label b.excluded) a.before moved in
    let what : a.what ≡ b.what = cc steps in
    let label : a.label ≡ b.label = cc steps in
    let second : Matches text a.what other.position a.is.0 =
    subst (λ (z : Pattern). Matches text z other.position a.is.0) (sym what) (subst (λ (n : ℕ). Matches text b.what other.position n) (sym ends) b.is.1) in
    let position : it.position ≡ other.position = one_begin text a.what it.position other.position a.is.0 a.is.1 second in
    let envs : it.env ++ span_of a.label it.position a.is.0 ≡ other.env ++ span_of b.label other.position b.is.0 = ap (λ (z : Item). z.env) e in
    let right : other.env ++ span_of b.label other.position b.is.0 ≡ other.env ++ span_of a.label other.position a.is.0 =
    ap (λ (l : Option (List ℕ)). other.env ++ span_of l other.position b.is.0) (sym label) ∙ ap (λ (n : ℕ). other.env ++ span_of a.label other.position n) (sym ends) in
    same_item it other instance alternative dot (same_env a.label it.env other.env it.position other.position a.is.0 position (envs ∙ right)) position
  where
    moved_before : (core : List Nonterminal) (it other : Item) (names : List (List ℕ)) (what : Pattern) (label : Option (List ℕ)) (excluded : List Pattern) →
        it.instance ≡ other.instance → it.alternative ≡ other.alternative → it.dot ≡ other.dot → StandsBefore core other names (Term what label excluded) →
        StandsBefore core it names (Term what label excluded)
    moved_before core it other names what label excluded i a d s =
        record {
          nonterminal = s.nonterminal;
          alternative = s.alternative;
          has = subst (λ (n : ℕ). IsAlternative core n it.alternative s.nonterminal s.alternative) (sym (ap (λ (z : Instance). z.nonterminal) i))
              (subst (λ (n : ℕ). IsAlternative core other.instance.nonterminal n s.nonterminal s.alternative) (sym a) s.has);
          next = ap (slice_get s.alternative.steps) d ∙ s.next;
          visible = s.visible ∙ ap (names_at s.nonterminal s.alternative) (sym d);
        }

-- the item behind a terminal is added at a later position, in tables to which environments were added before
module _ (text : Input) (what : Pattern) (label : Option (List ℕ)) (excluded : List Pattern) (a m : Found) (item : stored.Item)
    (r : Option stored.Item) (named : Named a item) (moves : Moves a.envs.keys m.envs.keys item (IsBehind text what label excluded) r)
    (more : Extends a.envs.keys m.envs.keys) (once : NoneTwice a.envs.keys → NoneTwice m.envs.keys) (keys : m.keys ≡ a.keys)
    (done : m.done.items ≡ a.done.items) (at : m.here.items ≡ a.here.items) (same : m.later.items ≡ a.later.items) (y : stored.Item)
    (is : r ≡ Some y) (b : Found) where
  there : IsBehind text what label excluded (means a item) (means m y)
  there = into (IsBehind text what label excluded) a m item r named moves more once keys done at same y is b (means m y) refl

  only : (x : Item) → IsBehind text what label excluded (means a item) x → x ≡ means m y
  only = from (IsBehind text what label excluded) a m item r named moves more once keys done at same y is b

  pub terminal_later : (p budget : ℕ) (result : Result (Unit {0}) RunFault) → AddsLater p (means m y) budget m b result →
      AddsTerminal text what label excluded budget p (means a item) a b result
  terminal_later p budget result d =
      found.later (means m y) there only
      (adds_later_behind (IsBehind text what label excluded) a m item r named moves more once keys done at same y is b p budget result d)

  pub records_terminal : (n : ℕ) (t u : Trail) (result : Result (Unit {0}) RunFault) → OnOk result (RecordsLater n (means m y) m b t u) →
      OnOk result (RecordsTerminal text what label excluded n (means a item) a b t u)
  records_terminal n t u result d =
      on_ok_weaker result
      (λ (e : RecordsLater n (means m y) m b t u).
      trails.later (means m y) there only
      (later_behind (IsBehind text what label excluded) a m item r named moves more once keys done at same y is b n t u e)) d
