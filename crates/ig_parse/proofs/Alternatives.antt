-- In which order a node of a forest has its alternatives.
use Rattle.std.proofs.Common.{◌≡◌, ◌⊎◌, inl, inr, ℕ, ◌<◌, List, [], ◌∷◌, length, refl, sym, ap, ◌∙◌, subst, arith}
use Rattle.std.specs.Cmp.{bool_cmp_total}
use Rattle.std.specs.Ordering.{nat_cmp, ordering_then}
use Rattle.std.specs.declared.cmp.Ordering.{Ordering}
use Rattle.std.specs.declared.cmp.Ordering.TheVariants.{Less, Equal}
use Rattle.std.proofs.lemmas.Bool.{cases_order}
use Rattle.std.proofs.lemmas.Bool.Decides.{nat_tests}
use Rattle.std.proofs.lemmas.Cmp.{nat_cmp_total, int_cmp_total, tied_itself}
use Rattle.std.proofs.lemmas.Option.{same_Some}
use Rattle.ig_text.specs.Input.{Input}
use Rattle.ig_text.specs.TagNumber.{number_of}
use Rattle.ig_text.proofs.Lists.{contains_from_at}
use Rattle.ig_text.proofs.Pairwise.{partner, key_at}
use Rattle.ig_text.proofs.Rising.{rises}
use Rattle.ig_text.proofs.Sorted.{greater_number, equal_number}
use Rattle.ig_expr.specs.ValueOrder.{value_cmp, values_cmp}
use Rattle.ig_expr.specs.declared.value.Value.{Value}
use Rattle.ig_expr.specs.declared.value.Value.TheVariants as value
use Rattle.ig_item.specs.Core.{IsAlternative, numbered}
use Rattle.ig_item.specs.Gives.{NodeKey}
use Rattle.ig_item.specs.Items.{Item, IsComplete}
use Rattle.ig_item.specs.TagOrder.{TagsRise}
use Rattle.ig_item.specs.declared.core_grammar.CoreAlt.{CoreAlt}
use Rattle.ig_item.specs.declared.core_grammar.Nonterminal.{Nonterminal}
use Rattle.ig_item.specs.declared.items.Instance.{Instance}
use Rattle.ig_core.specs.Laws.{TagsRiseInCores}
use Rattle.ig_core.specs.Lowered.{CoreOf}
use Rattle.ig_forest_tables.specs.Forest.{Forest, ItemNode}
use Rattle.ig_forest_tables.specs.Orders.{choice_cmp, item_cmp}
use Rattle.ig_forest.specs.Reduced.{IsChoice, IsItemNode, IsReduced}
use Rattle.ig_forest_tables.specs.declared.entry.Choice.{Choice}
use Rattle.ig_parse.specs.Laws.{AlternativesRiseByTags, HasLessEnvironment}

-- lists of values are tied with themselves
value_tied : (v : Value) → value_cmp v v ≡ Equal
value_tied (value.Int a) = tied_itself int_cmp_total a
value_tied (value.Bool a) = tied_itself bool_cmp_total a
value_tied (value.Span a) =
    ap (λ o. ordering_then o (nat_cmp a.end a.end)) (tied_itself nat_cmp_total a.begin) ∙ tied_itself nat_cmp_total a.end

values_tied : (vs : List Value) → values_cmp vs vs ≡ Equal
values_tied [] = refl
values_tied (v ∷ vs) = ap (λ o. ordering_then o (values_cmp vs vs)) (value_tied v) ∙ values_tied vs

-- what is tied first leaves it to what comes behind
tied_first : (o p : Ordering) → o ≡ Equal → ordering_then o p ≡ Less → p ≡ Less
tied_first o p tied less = sym (ap (λ q. ordering_then q p) tied) ∙ less

less_numbers : (a b : ℕ) → nat_cmp a b ≡ Less → a < b
less_numbers a b less = grind (arith, nat_tests)

-- of items of one instance and one position the alternative, the dot and the environment decide
behind_instance : (x y : Item) → x.instance ≡ y.instance → x.position ≡ y.position → item_cmp x y ≡ Less →
    ordering_then (nat_cmp x.alternative y.alternative) (ordering_then (nat_cmp x.dot y.dot) (values_cmp x.env y.env)) ≡ Less
behind_instance x y same position less =
    let values : values_cmp x.instance.values y.instance.values ≡ Equal =
    subst (λ (z : Instance). values_cmp x.instance.values z.values ≡ Equal) same (values_tied x.instance.values) in
    tied_first (values_cmp x.instance.values y.instance.values) _ values
    (tied_first (nat_cmp x.instance.nonterminal y.instance.nonterminal) _
    (equal_number x.instance.nonterminal y.instance.nonterminal (ap (λ (z : Instance). z.nonterminal) same))
    (tied_first (nat_cmp x.position y.position) _ (equal_number x.position y.position position)
    (tied_first (nat_cmp x.instance.start y.instance.start) _
    (equal_number x.instance.start y.instance.start (ap (λ (z : Instance). z.start) same)) less)))

-- the tags of two complete items, and their environments
module _ (core : List Nonterminal) (rise : TagsRise core) (x y : Item) (first : IsComplete core x) (second : IsComplete core y)
    (same : x.instance ≡ y.instance)
    (less : ordering_then (nat_cmp x.alternative y.alternative) (ordering_then (nat_cmp x.dot y.dot) (values_cmp x.env y.env)) ≡ Less) where
  -- the second alternative is one of the first one's nonterminal
  also : IsAlternative core x.instance.nonterminal y.alternative first.nonterminal second.alternative
  also =
      let at : IsAlternative core x.instance.nonterminal y.alternative second.nonterminal second.alternative =
      subst (λ (i : Instance). IsAlternative core i.nonterminal y.alternative second.nonterminal second.alternative)
      (sym same) second.has in
      let one : second.nonterminal ≡ first.nonterminal =
      same_Some second.nonterminal first.nonterminal (sym at.there ∙ first.has.there) in
      subst (λ (m : Nonterminal). IsAlternative core x.instance.nonterminal y.alternative m second.alternative) one at

  abbrev IsBehind : Type 0
  IsBehind = (number_of first.alternative.tag ≡ number_of second.alternative.tag) × (values_cmp x.env y.env ≡ Less)

  -- under one alternative the environments decide
  behind : x.alternative ≡ y.alternative → IsBehind
  behind e =
      let one : first.alternative ≡ second.alternative =
      same_Some first.alternative second.alternative
      (sym first.has.has ∙ ap (numbered first.nonterminal.alternatives) e ∙ also.has) in
      let dots : x.dot ≡ y.dot = first.last ∙ ap (λ (a : CoreAlt). length a.steps) one ∙ sym second.last in (
        ap (λ (a : CoreAlt). number_of a.tag) one,
        tied_first (nat_cmp x.dot y.dot) (values_cmp x.env y.env) (equal_number x.dot y.dot dots)
            (tied_first (nat_cmp x.alternative y.alternative) _ (equal_number x.alternative y.alternative e) less),
      )

  by_tags : (number_of first.alternative.tag < number_of second.alternative.tag) ⊎ IsBehind
  by_tags =
      elim (cases_order x.alternative y.alternative) [
        | inl e ↦ inr (behind e)
        | inr (inl lower) ↦
            inl
            (rise x.instance.nonterminal x.alternative first.nonterminal first.alternative first.has y.alternative
            second.alternative also lower)
        | inr (inr higher) ↦
            let p = greater_number x.alternative y.alternative higher in
            let q =
            sym (ap (λ o. ordering_then o (ordering_then (nat_cmp x.dot y.dot) (values_cmp x.env y.env))) p) ∙ less in cc
      ]

-- the environment of the item node of an alternative is that of its item
env_there : {core : List Nonterminal} {text : Input} {items : List Item} {keys : List NodeKey} (x : Item) (it : ItemNode) →
    IsItemNode core text items keys x it → it.env ≡ x.env
env_there x it is = ap (λ (z : Item). z.env) is.item

-- what two alternatives of one node have, whose items stand one behind the other
module _ (core : List Nonterminal) (text : Input) (f : Forest) (rise : TagsRise core) (r : IsReduced core text f) (key : NodeKey)
    (first second : Choice) (p : IsChoice core r.items key first) (q : IsChoice core r.items key second) where
  less_environment : number_of first.tag ≡ number_of second.tag → values_cmp p.item.env q.item.env ≡ Less →
      HasLessEnvironment f first second
  less_environment e less =
      let one = partner r.item_nodes first.item p.item p.numbered in
      let two = partner r.item_nodes second.item q.item q.numbered in
      record {
        one_number = e;
        item = one.0;
        other = two.0;
        there = one.1;
        other_there = two.1;
        less =
            (λ i. values_cmp (env_there p.item one.0 one.2 i) (env_there q.item two.0 two.2 i)) ∙ less;
      }

  rise_by_tags : item_cmp p.item q.item ≡ Less →
      (number_of first.tag < number_of second.tag) ⊎ HasLessEnvironment f first second
  rise_by_tags less =
      let instance : p.item.instance ≡ q.item.instance = p.completes.instance ∙ sym q.completes.instance in
      let a : number_of first.tag ≡ number_of p.completes.complete.alternative.tag = ap number_of p.tagged in
      let b : number_of second.tag ≡ number_of q.completes.complete.alternative.tag = ap number_of q.tagged in
      elim
      (by_tags core rise p.item q.item p.completes.complete q.completes.complete instance
      (behind_instance p.item q.item instance (p.completes.end ∙ sym q.completes.end) less)) [
        | inl lower ↦ inl (omega (arith, a, b, lower))
        | inr behind ↦ inr (less_environment (a ∙ behind.0 ∙ sym b) behind.1)
      ]

pub alternatives_rise_by_tags : TagsRiseInCores → AlternativesRiseByTags
alternatives_rise_by_tags law c text f buildable few is v i j node first second there at_first at_second less =
    let r = is.reduced in
    let of = key_at r.nodes v node there in
    let p = (of.2.choices first).0 (contains_from_at node.alternatives i first at_first) in
    let q = (of.2.choices second).0 (contains_from_at node.alternatives j second at_second) in
    let ordered = rises choice_cmp node.alternatives i j first second of.2.order at_first at_second less in
    elim (cases_order (number_of first.tag) (number_of second.tag)) [
      | inl same ↦
          let items : first.item < second.item =
          less_numbers first.item second.item
          (tied_first (nat_cmp (number_of first.tag) (number_of second.tag)) (nat_cmp first.item second.item)
          (equal_number (number_of first.tag) (number_of second.tag) same) ordered) in
          rise_by_tags (CoreOf c) text f (law c buildable few) r of.0 first second p q
          (rises item_cmp r.items first.item second.item p.item q.item r.are_items.order p.numbered q.numbered items)
      | inr (inl lower) ↦ inl lower
      | inr (inr higher) ↦
          let greater = greater_number (number_of first.tag) (number_of second.tag) higher in
          let never = sym (ap (λ o. ordering_then o (nat_cmp first.item second.item)) greater) ∙ ordered in cc
    ]
