-- The values of reachable items fit 64 bits, and their spans are small.
use Rattle.std.proofs.Common.{◌≡◌, ◌∙◌, ℕ, zero, suc, ◌+◌, ◌<◌, ◌≤◌, List, [], ◌∷◌, ◌++◌, Option, Some, None, length, slice_get, get_or, All, sym, ap, subst, arith, lit<, inl, inr}
use Rattle.std.specs.Prelude.{◌⊎◌}
use Rattle.std.proofs.lemmas.List.Elements.{All-contains}
use Rattle.std.proofs.lemmas.Option.{same_Some, slice_get-get_or}
use Rattle.ig_text.specs.Input.{Input, KeepsLimits}
use Rattle.ig_text.proofs.Lists.{contains_from_at, either_place, mapped_at, unmapped_at}
use Rattle.ig_text.specs.Limits.{numbers_end, most_characters}
use Rattle.ig_expr.specs.Evaluation.{value_of}
use Rattle.ig_expr.specs.Expression.{Expression}
use Rattle.ig_expr.specs.declared.value.Value.{Value}
use Rattle.ig_expr.specs.declared.value.Value.TheVariants as value
use Rattle.ig_item.specs.Induction.{follows_more, kept}
use Rattle.ig_item.specs.Items as items
use Rattle.ig_item.specs.Items.{Item, Follows, Reachable, StandsBefore, HaveValues, span_of, past}
use Rattle.ig_item.specs.Laws.{ItemsAreInText, ReachableIsClosed}
use Rattle.ig_item.specs.Step.{Step}
use Rattle.ig_item.specs.declared.core_grammar.Nonterminal.{Nonterminal}
use Rattle.ig_forest_reader.specs.Written.{IsSmall}
use Rattle.ig_verify_laws.specs.Ranges.{HasSmallIntegers, IntegersFit, StepHasSmallIntegers}
use Rattle.ig_verify_laws.specs.ReducedLaws.{ItemIsSmall, ItemsAreSmall, ValuesAreSmall}
use Rattle.ig_verify_laws.proofs.Values.{AreSmall}

pub record Given : Type 0 where
  pub values : ValuesAreSmall
  pub in_text : ItemsAreInText
  pub closed : ReachableIsClosed

all_small : (vs : List Value) → AreSmall vs → All IsSmall vs
all_small vs small k d lt = small k (get_or vs k d) (slice_get-get_or vs k d lt)

none_small : AreSmall []
none_small k v e = absurd (cc)

one_small : (x : Value) → IsSmall x → AreSmall (x ∷ [])
one_small x small zero v e = subst IsSmall (same_Some x v e) small
one_small x small (suc k) v e = absurd (cc)

both_small : (vs bound : List Value) → AreSmall vs → AreSmall bound → AreSmall (vs ++ bound)
both_small vs bound small more k v e =
    go (either_place vs bound k v e)
  where
    go : (slice_get vs k ≡ Some v) ⊎ ((m : ℕ) × (slice_get bound m ≡ Some v) × (k ≡ length vs + m)) → IsSmall v
    go (inl at) = small k v at
    go (inr at) = more at.0 v at.1

module _ (given : Given) (core : List Nonterminal) (text : Input) (short : KeepsLimits text)
    (fit : IntegersFit core) where
  -- the item is reachable, and its values are small
  record Small (x : Item) : Type 0 where
    reachable : Reachable core text x
    values : AreSmall x.instance.values
    env : AreSmall x.env

  here : (x : Item) → Reachable core text x → x.position ≤ length text.characters
  here x r = (given.in_text core text x r).within

  place_small : (p : ℕ) → p ≤ length text.characters → p < numbers_end
  place_small p h = below p (length text.characters) numbers_end h short.few (lit< tt)
    where
      below : (a b c : ℕ) → a ≤ b → b ≤ most_characters → most_characters < c → a < c
      below a b c h k l = omega (arith, h, k, l)

  label_small : (label : Option (List ℕ)) (i j : ℕ) → i ≤ length text.characters → j ≤ length text.characters → AreSmall (span_of label i j)
  label_small None i j h k = none_small
  label_small (Some name) i j h k =
      one_small (value.Span (record { begin = i; end = j })) (record { begin = place_small i h; end = place_small j k })

  step_fits : (it : Item) (names : List (List ℕ)) (step : Step) → StandsBefore core it names step → StepHasSmallIntegers step
  step_fits it names step b =
      All-contains StepHasSmallIntegers b.alternative.steps step
      (fit it.instance.nonterminal it.alternative b.nonterminal b.alternative b.has)
      (contains_from_at b.alternative.steps it.dot step b.next)

  arguments_small : (it : Item) (names : List (List ℕ)) (es : List Expression) (vs : List Value) → Small it →
      ((k : ℕ) (e : Expression) → slice_get es k ≡ Some e → HasSmallIntegers e) → HaveValues text it names es vs →
      AreSmall vs
  arguments_small it names es vs s each have k v at =
      let f : Expression → Option Value = value_of text names it.env it.position in
      let found = unmapped_at f es k (Some v) (ap (λ (z : List (Option Value)). slice_get z k) have ∙ mapped_at Some vs k v at) in
      given.values text names it.env it.position found.0 v short (here it s.reachable) (all_small it.env s.env) (each k found.0 found.1) found.2

  values_next : {x : Item} → Follows core text Small x → AreSmall x.instance.values
  values_next (items.root x e) = subst AreSmall (sym (ap (λ (y : Item). y.instance.values) e)) none_small
  values_next (items.test it names c x k before holds e) =
      subst AreSmall (sym (ap (λ (y : Item). y.instance.values) e)) k.values
  values_next (items.bind it names name c v x k before has e) =
      subst AreSmall (sym (ap (λ (y : Item). y.instance.values) e)) k.values
  values_next (items.terminal it names what label excluded j x k before matches free e) =
      subst AreSmall (sym (ap (λ (y : Item). y.instance.values) e)) k.values
  values_next (items.call it callee label excluded nonterminal a alternative x k calls at e) =
      subst AreSmall (sym (ap (λ (y : Item). y.instance.values) e))
      (arguments_small it calls.names calls.arguments callee.values k
      (λ m c d. All-contains HasSmallIntegers calls.arguments c (step_fits it calls.names _ calls.before) (contains_from_at calls.arguments m c d))
      calls.values)
  values_next (items.return it done label excluded x k l calls complete free e) =
      subst AreSmall (sym (ap (λ (y : Item). y.instance.values) e)) k.values

  -- what a step binds stands after what was bound before
  env_past : (it x : Item) (bound : List Value) (j : ℕ) → Small it → x ≡ past it bound j → AreSmall bound → AreSmall x.env
  env_past it x bound j s e small =
      subst AreSmall (sym (ap (λ (y : Item). y.env) e)) (both_small it.env bound s.env small)

  env_labelled : (it x : Item) (label : Option (List ℕ)) (j : ℕ) → Small it → Reachable core text x →
      x ≡ past it (span_of label it.position j) j → AreSmall x.env
  env_labelled it x label j s r e =
      let to : j ≤ length text.characters = subst (λ (z : ℕ). z ≤ length text.characters) (ap (λ (y : Item). y.position) e) (here x r) in
      env_past it x (span_of label it.position j) j s e (label_small label it.position j (here it s.reachable) to)

  env_next : {x : Item} → Reachable core text x → Follows core text Small x → AreSmall x.env
  env_next r (items.root x e) = subst AreSmall (sym (ap (λ (y : Item). y.env) e)) none_small
  env_next r (items.test it names c x k before holds e) = env_past it x [] it.position k e none_small
  env_next r (items.bind it names name c v x k before has e) =
      env_past it x (v ∷ []) it.position k e
      (one_small v
      (given.values text names it.env it.position c v short (here it k.reachable) (all_small it.env k.env) (step_fits it names _ before) has))
  env_next r (items.terminal it names what label excluded j x k before matches free e) = env_labelled it x label j k r e
  env_next r (items.call it callee label excluded nonterminal a alternative x k calls at e) =
      subst AreSmall (sym (ap (λ (y : Item). y.env) e))
      (arguments_small it calls.names calls.arguments callee.values k
      (λ m c d. All-contains HasSmallIntegers calls.arguments c (step_fits it calls.names _ calls.before) (contains_from_at calls.arguments m c d))
      calls.values)
  env_next r (items.return it done label excluded x k l calls complete free e) =
      env_labelled it x label done.position k r e

  next : (x : Item) → Follows core text Small x → Small x
  next x f =
      let r = given.closed core text x (follows_more core text (λ y (s : Small y). s.reachable) f) in
      record { reachable = r; values = values_next f; env = env_next r f }

  small : (x : Item) → Reachable core text x → ItemIsSmall x
  small x r = let s = kept core text Small next x r in
      record { values = all_small x.instance.values s.values; env = all_small x.env s.env }

pub items_small : Given → ItemsAreSmall
items_small given core text x short fit r = small given core text short fit x r
