-- What the stored item after a step stands for.
use Rattle.std.proofs.Common.{◌≡◌, ◌↔◌, ℕ, suc, ◌<◌, List, [], ◌∷◌, ◌++◌, Some, length, refl, sym, ap, ◌∙◌, subst, arith, true, false, Bool}
use Rattle.std.specs.Prelude.{slice_index_or, Option, None, IsTrue, Result, IfOk}
use Rattle.std.specs.declared.alloc.AllocError.{AllocError}
use Rattle.std.specs.Option.{option_to_list}
use Rattle.std.proofs.lemmas.List.{append-nil}
use Rattle.std.proofs.lemmas.List.Elements.{All-nil}
use Rattle.std.proofs.lemmas.Option.{slice_get-get_or, slice_get_within, get_or_from_slice_get, same_Some}
use Rattle.ig_text.specs.Input.{Input}
use Rattle.ig_text.specs.Pattern.{Matches}
use Rattle.ig_text.specs.declared.pattern.Pattern.{Pattern}
use Rattle.ig_text.proofs.Booleans.{refuted}
use Rattle.ig_text.proofs.Matching.{one_end}
use Rattle.ig_text.proofs.Options.{one_value, not_none}
use Rattle.ig_expr.specs.Expression.{Expression}
use Rattle.ig_expr.specs.Evaluation.{value_of}
use Rattle.ig_expr.specs.declared.value.Value.{Value}
use Rattle.ig_expr.specs.declared.value.Value.TheVariants.{Bool as truth}
use Rattle.ig_item.specs.Items.{Item, MatchesNone, past, span_of}
use Rattle.ig_item.specs.Tables.{instance_by, HaveValues}
use Rattle.ig_item.specs.declared.items.InstanceKey.{InstanceKey}
use Rattle.ig_item.specs.declared.items.Item as stored
use Rattle.ig_run_tables.specs.Compiled.{form_of}
use Rattle.ig_run_tables.specs.declared.compiled.Form.{Form}
use Rattle.ig_run_tables.specs.Extends.{Extends}
use Rattle.ig_run_moves.specs.Rules.{IsBehindTest, IsBehindBind, IsBehind, IsPastCall}
use Rattle.ig_run_moves.specs.Tables.{IsNamed, IsPast, IsOneFurther, Moves, item_by, no_key}
use Rattle.ig_run_moves.proofs.Growing.{instance_kept, key_values}

-- the form of the one expression of a step
pub form_of_one : (names : List (List ℕ)) (e : Expression) (forms : List Form) (f : Form) → forms ≡ f ∷ [] → forms ≡ form_of names e ∷ [] →
    f ≡ form_of names e
form_of_one names e forms f is made = let same : f ∷ [] ≡ form_of names e ∷ [] = sym is ∙ made in cc

-- what the item after a step means
pub past_means : (e f : List (List Value)) (keys : List InstanceKey) (it : stored.Item) (bound : Option Value) (end : ℕ) (x : stored.Item) →
    Extends e f → HaveValues e keys → IsNamed e keys it → IsPast e f it bound end x →
    item_by f keys x ≡ past (item_by e keys it) (option_to_list bound) end
past_means e f keys it bound end x ex have n p =
    let instance = ap (λ (k : ℕ). instance_by f (slice_index_or keys k no_key)) p.instance ∙
    instance_kept e f (slice_index_or keys it.instance no_key) ex (key_values e keys it.instance have n.instance) in
    let env = get_or_from_slice_get f x.env (slice_index_or e it.env [] ++ option_to_list bound) [] p.env in
    λ i. record { instance = instance i; alternative = p.alternative i; dot = p.dot i; env = env i; position = p.position i }

-- where nothing is bound the environment is that before the step
pub past_none : (e : List (List Value)) (it : stored.Item) (bound : Option Value) (end dot : ℕ) → it.env < length e → bound ≡ None → dot ≡ suc it.dot →
    IsPast e e it bound end (record { instance = it.instance; alternative = it.alternative; dot = dot; env = it.env; position = end })
past_none e it bound end dot lt none dot_is =
    record {
      instance = refl;
      alternative = refl;
      dot = dot_is;
      position = refl;
      env = slice_get-get_or e it.env [] lt ∙ ap Some (sym (append-nil (slice_index_or e it.env []))) ∙
          ap (λ (z : Option Value). Some (slice_index_or e it.env [] ++ option_to_list z)) (sym none);
    }

-- nothing is no value
pub never_some : {X : Type 0} (x : X) → None ≡ Some x → ⊥
never_some x e = cc

-- `behind` allows nothing
pub moves_none : (before after : List (List Value)) (it : stored.Item) (behind : Item → Item → Type 0) →
    ((keys : List InstanceKey) (x : Item) → behind (item_by before keys it) x → ⊥) → Moves before after it behind None
moves_none before after it behind never =
    record {
      exact = λ keys have n x. (λ h. absurd (never keys x h), λ h. absurd (never_some h.0 h.1));
      named = λ y e. absurd (never_some y e);
      further = λ y e. absurd (never_some y e);
    }

-- `behind` allows the same
pub moves_alike : (before after : List (List Value)) (it : stored.Item) (behind other : Item → Item → Type 0) (r : Option stored.Item) →
    ((keys : List InstanceKey) (x : Item) → behind (item_by before keys it) x ↔ other (item_by before keys it) x) →
    Moves before after it behind r → Moves before after it other r
moves_alike before after it behind other r same m =
    record {
      exact = λ keys have n x. (λ h. (m.exact keys have n x).0 ((same keys x).1 h), λ h. (same keys x).0 ((m.exact keys have n x).1 h));
      named = m.named;
      further = m.further;
    }

module _ (before after : List (List Value)) (it : stored.Item) (bound : Option Value) (end : ℕ) (y : stored.Item) (ex : Extends before after)
    (p : IsPast before after it bound end y) where
  -- `behind` allows the item after the step alone
  pub moves_past : (behind : Item → Item → Type 0) →
      ((keys : List InstanceKey) (x : Item) →
      behind (item_by before keys it) x ↔ (x ≡ past (item_by before keys it) (option_to_list bound) end)) → Moves before after it behind (Some y)
  moves_past behind tells =
      record {
        exact = λ keys have n x.
            let means = past_means before after keys it bound end y ex have n p in (
              λ h. (y, refl, means ∙ sym ((tells keys x).0 h)),
              λ h. (tells keys x).1 (sym h.2 ∙ ap (item_by after keys) (sym (same_Some y h.0 h.1)) ∙ means),
            );
        named = λ z e keys n. subst (IsNamed after keys) (same_Some y z e)
            (record {
              instance = let q = p.instance in let l = n.instance in omega (arith, q, l);
              env = slice_get_within after y.env (slice_index_or before it.env [] ++ option_to_list bound) p.env;
            });
        further = λ z e. subst (IsOneFurther it) (same_Some y z e)
            (record { instance = p.instance; alternative = p.alternative; dot = p.dot });
      }

  pub moves_call : (text : Input) (label : Option (List ℕ)) (excluded : List Pattern) → option_to_list bound ≡ span_of label it.position end →
      MatchesNone text excluded it.position end → Moves before after it (IsPastCall text label excluded end) (Some y)
  moves_call text label excluded spans free =
      moves_past (IsPastCall text label excluded end)
      (λ keys x. (
        λ h. h.1 ∙ ap (λ (z : List Value). past (item_by before keys it) z end) (sym spans),
        λ e. (free, e ∙ ap (λ (z : List Value). past (item_by before keys it) z end) spans),
      ))

-- a match of an excluded pattern
pub moves_excluded : (before after : List (List Value)) (it : stored.Item) (text : Input) (label : Option (List ℕ)) (excluded : List Pattern)
    (end : ℕ) → (MatchesNone text excluded it.position end → ⊥) → Moves before after it (IsPastCall text label excluded end) None
moves_excluded before after it text label excluded end never =
    moves_none before after it (IsPastCall text label excluded end) (λ keys x h. never h.0)

-- the same label and the same excluded patterns, by other names
pub moves_named : (before after : List (List Value)) (it : stored.Item) (text : Input) (label second : Option (List ℕ))
    (excluded others : List Pattern) (end : ℕ) (r : Result (Option stored.Item) AllocError) → label ≡ second → excluded ≡ others →
    IfOk r (Moves before after it (IsPastCall text label excluded end)) → IfOk r (Moves before after it (IsPastCall text second others end))
moves_named before after it text label second excluded others end r l e h =
    subst (λ (z : List Pattern). IfOk r (Moves before after it (IsPastCall text second z end))) e
    (subst (λ (z : Option (List ℕ)). IfOk r (Moves before after it (IsPastCall text z excluded end))) l h)

-- a pattern that doesn't match
pub moves_no_match : (before after : List (List Value)) (it : stored.Item) (text : Input) (what : Pattern) (label : Option (List ℕ))
    (excluded : List Pattern) → ((j : ℕ) → Matches text what it.position j → ⊥) → Moves before after it (IsBehind text what label excluded) None
moves_no_match before after it text what label excluded never =
    moves_none before after it (IsBehind text what label excluded) (λ keys x h. never h.0 h.1)

-- a terminal that matches is passed as a call that ended there
pub moves_terminal : (before after : List (List Value)) (it : stored.Item) (text : Input) (what : Pattern) (label : Option (List ℕ))
    (excluded : List Pattern) (end : ℕ) (r : Option stored.Item) → Matches text what it.position end →
    Moves before after it (IsPastCall text label excluded end) r → Moves before after it (IsBehind text what label excluded) r
moves_terminal before after it text what label excluded end r m =
    moves_alike before after it (IsPastCall text label excluded end) (IsBehind text what label excluded) r
    (λ keys x. (
      λ h. (end, m, h.0, h.1),
      λ h. let same : h.0 ≡ end = one_end text what it.position h.0 end h.1 m in (
        subst (MatchesNone text excluded it.position) same h.2,
        h.3 ∙ ap (λ (k : ℕ). past (item_by before keys it) (span_of label it.position k) k) same,
      ),
    ))

-- a test whose condition is true, in an environment that was lent as `values`
pub moves_test : (before after : List (List Value)) (it y : stored.Item) (text : Input) (names : List (List ℕ)) (e : Expression) (values : List Value)
    (b : Bool) → Extends before after → IsPast before after it None it.position y → values ≡ slice_index_or before it.env [] →
    IsTrue b ↔ (value_of text names values it.position e ≡ Some (truth true)) → b ≡ true →
    Moves before after it (IsBehindTest text names e) (Some y)
moves_test before after it y text names e values b ex p same told t =
    moves_past before after it None it.position y ex p (IsBehindTest text names e)
    (λ keys x. (
      λ h. h.1,
      λ q. (subst (λ (z : List Value). value_of text names z it.position e ≡ Some (truth true)) same (told.0 t), q),
    ))

pub fails_test : (before after : List (List Value)) (it : stored.Item) (text : Input) (names : List (List ℕ)) (e : Expression) (values : List Value)
    (b : Bool) → values ≡ slice_index_or before it.env [] →
    IsTrue b ↔ (value_of text names values it.position e ≡ Some (truth true)) → b ≡ false →
    Moves before after it (IsBehindTest text names e) None
fails_test before after it text names e values b same told f =
    moves_none before after it (IsBehindTest text names e)
    (λ keys x h. refuted b told f (subst (λ (z : List Value). value_of text names z it.position e ≡ Some (truth true)) (sym same) h.0))

-- a value in an environment that was lent as `values`
value_there : (before : List (List Value)) (it : stored.Item) (text : Input) (names : List (List ℕ)) (e : Expression) (values : List Value)
    (r o : Option Value) → values ≡ slice_index_or before it.env [] → r ≡ value_of text names values it.position e → r ≡ o →
    value_of text names (slice_index_or before it.env []) it.position e ≡ o
value_there before it text names e values r o same told is =
    ap (λ (z : List Value). value_of text names z it.position e) (sym same) ∙ sym told ∙ is

pub moves_bind : (before after : List (List Value)) (it y : stored.Item) (text : Input) (names : List (List ℕ)) (e : Expression) (values : List Value)
    (r : Option Value) (v : Value) → Extends before after → IsPast before after it (Some v) it.position y → values ≡ slice_index_or before it.env [] →
    r ≡ value_of text names values it.position e → r ≡ Some v → Moves before after it (IsBehindBind text names e) (Some y)
moves_bind before after it y text names e values r v ex p same told is =
    let has = value_there before it text names e values r (Some v) same told is in
    moves_past before after it (Some v) it.position y ex p (IsBehindBind text names e)
    (λ keys x. (
      λ h. h.2 ∙ ap (λ (w : Value). past (item_by before keys it) (w ∷ []) it.position) (one_value _ h.0 v h.1 has),
      λ q. (v, has, q),
    ))

pub fails_bind : (before after : List (List Value)) (it : stored.Item) (text : Input) (names : List (List ℕ)) (e : Expression) (values : List Value)
    (r : Option Value) → values ≡ slice_index_or before it.env [] → r ≡ value_of text names values it.position e → r ≡ None →
    Moves before after it (IsBehindBind text names e) None
fails_bind before after it text names e values r same told is =
    moves_none before after it (IsBehindBind text names e)
    (λ keys x h. not_none _ h.0 (value_there before it text names e values r None same told is) h.1)

-- the item after a call that has neither a label nor an excluded pattern
abbrev bare : stored.Item → ℕ → ℕ → stored.Item
bare it dot end = record { instance = it.instance; alternative = it.alternative; dot = dot; env = it.env; position = end }

pub moves_bare : (it : stored.Item) (end dot : ℕ) → dot ≡ suc it.dot → (text : Input) (envs : List (List Value)) →
    Moves envs envs it (IsPastCall text None [] end)
    (Some (record { instance = it.instance; alternative = it.alternative; dot = dot; env = it.env; position = end }))
moves_bare it end dot is text envs =
    record {
      exact = λ keys have n x.
          let p = past_none envs it None end dot n.env refl is in
          let ex : Extends envs envs = record { more = []; is = sym (append-nil envs) } in
          let none : MatchesNone text [] it.position end = All-nil (λ (pattern : Pattern). Matches text pattern it.position end → ⊥) in
          (moves_call envs envs it None end (bare it dot end) ex p text None [] refl none).exact keys have n x;
      named = λ z e keys n. subst (IsNamed envs keys) (same_Some (bare it dot end) z e) (record { instance = n.instance; env = n.env });
      further = λ z e. subst (IsOneFurther it) (same_Some (bare it dot end) z e) (record { instance = refl; alternative = refl; dot = is });
    }
