-- An item stands before one step or is complete, and calls at most one instance.
use Rattle.std.proofs.Common.{◌≡◌, ℕ, List, Some, Option, length, map, sym, ap, ◌∙◌, subst, arith, slice_get}
use Rattle.std.proofs.lemmas.Option.{same_Some, slice_get_within}
use Rattle.ig_text.specs.Input.{Input}
use Rattle.ig_text.specs.declared.pattern.Pattern.{Pattern}
use Rattle.ig_text.proofs.Equal.{same_listed}
use Rattle.ig_expr.specs.Evaluation.{value_of}
use Rattle.ig_item.specs.Step.{Step, Call}
use Rattle.ig_item.specs.Core.{IsAlternative, numbered}
use Rattle.ig_item.specs.Visible.{names_at}
use Rattle.ig_item.specs.Items.{Item, IsComplete, Calls, StandsBefore}
use Rattle.ig_item.specs.declared.core_grammar.Nonterminal.{Nonterminal}
use Rattle.ig_item.specs.declared.core_grammar.CoreAlt.{CoreAlt}
use Rattle.ig_item.specs.declared.items.Instance.{Instance}
use Rattle.ig_run_laws.specs.Rules.{IsCaller}

module _ (core : List Nonterminal) (text : Input) where
  same_alternative : (n a : ℕ) (m k : Nonterminal) (u v : CoreAlt) → IsAlternative core n a m u → IsAlternative core n a k v → u ≡ v
  same_alternative n a m k u v p q =
      let e : m ≡ k = same_Some m k (sym p.there ∙ q.there) in
      same_Some u v (sym p.has ∙ ap (λ (z : Nonterminal). numbered z.alternatives a) e ∙ q.has)

  pub one_step : (it : Item) (names others : List (List ℕ)) (s t : Step) → StandsBefore core it names s → StandsBefore core it others t → s ≡ t
  one_step it names others s t p q =
      let e = same_alternative it.instance.nonterminal it.alternative p.nonterminal q.nonterminal p.alternative q.alternative p.has q.has in
      same_Some s t (sym p.next ∙ ap (λ (z : CoreAlt). slice_get z.steps it.dot) e ∙ q.next)

  pub not_both : (it : Item) (names : List (List ℕ)) (s : Step) → StandsBefore core it names s → IsComplete core it → ⊥
  not_both it names s p q =
      let e = same_alternative it.instance.nonterminal it.alternative p.nonterminal q.nonterminal p.alternative q.alternative p.has q.has in
      let lt = slice_get_within p.alternative.steps it.dot s p.next in
      let len = ap (λ (z : CoreAlt). length z.steps) e in let last = q.last in omega (arith, lt, len, last)

  pub visible_one : (it : Item) (names others : List (List ℕ)) (s t : Step) →
      StandsBefore core it names s → StandsBefore core it others t → names ≡ others
  visible_one it names others s t p q =
      let n : p.nonterminal ≡ q.nonterminal = same_Some p.nonterminal q.nonterminal (sym p.has.there ∙ q.has.there) in
      let a = same_alternative it.instance.nonterminal it.alternative p.nonterminal q.nonterminal p.alternative q.alternative p.has q.has in
      p.visible ∙ ap (λ z. names_at z p.alternative it.dot) n ∙ ap (λ z. names_at q.nonterminal z it.dot) a ∙ sym q.visible

  -- an item calls one instance
  pub calls_one : (it : Item) (a b : Instance) (l m : Option (List ℕ)) (e f : List Pattern) →
      Calls core text it a l e → Calls core text it b m f → a ≡ b
  calls_one it a b l m e f p q =
      let steps = one_step it p.names q.names (Call a.nonterminal p.arguments l e) (Call b.nonterminal q.arguments m f) p.before q.before in
      let n : a.nonterminal ≡ b.nonterminal = cc steps in
      let args : p.arguments ≡ q.arguments = cc steps in
      let names : p.names ≡ q.names = visible_one it p.names q.names (Call a.nonterminal p.arguments l e) (Call b.nonterminal q.arguments m f) p.before q.before in
      let vals : map (value_of text p.names it.env it.position) p.arguments ≡ map (value_of text q.names it.env it.position) q.arguments =
      ap (λ (z : List (List ℕ)). map (value_of text z it.env it.position) p.arguments) names ∙ ap (map (value_of text q.names it.env it.position)) args in
      let v : a.values ≡ b.values = same_listed a.values b.values (sym p.values ∙ vals ∙ q.values) in
      let s : a.start ≡ b.start = p.here ∙ sym q.here in
      (λ i. record { nonterminal = n i; values = v i; start = s i })

  -- a complete item calls nothing
  pub ends_call_nothing : (it : Item) (callee : Instance) → IsComplete core it → IsCaller core text it callee → ⊥
  ends_call_nothing it callee complete c =
      not_both it c.calls.names (Call callee.nonterminal c.calls.arguments c.label c.excluded) c.calls.before complete

-- an item stands where another one does that is equal in what tells the step
pub stands_too : (core : List Nonterminal) (x y : Item) (names : List (List ℕ)) (s : Step) → x.instance ≡ y.instance →
    x.alternative ≡ y.alternative → x.dot ≡ y.dot → StandsBefore core x names s → StandsBefore core y names s
stands_too core x y names s i a d p =
    record {
      nonterminal = p.nonterminal;
      alternative = p.alternative;
      has = subst (λ (z : ℕ). IsAlternative core y.instance.nonterminal z p.nonterminal p.alternative) a
          (subst (λ (z : Instance). IsAlternative core z.nonterminal x.alternative p.nonterminal p.alternative) i p.has);
      next = subst (λ (z : ℕ). slice_get p.alternative.steps z ≡ Some s) d p.next;
      visible = p.visible ∙ ap (names_at p.nonterminal p.alternative) d;
    }
