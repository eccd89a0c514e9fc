-- The instance that a call makes, and its key.
use Rattle.std.proofs.Common.{◌≡◌, ℕ, ◌<◌, List, [], Some, length, map, refl, sym, ap, ◌∙◌, subst}
use Rattle.std.specs.Prelude.{slice_index_or, None}
use Rattle.std.proofs.lemmas.Option.{slice_get_within, get_or_from_slice_get, same_Some}
use Rattle.ig_text.specs.Input.{Input}
use Rattle.ig_text.proofs.Equal.{same_listed}
use Rattle.ig_expr.specs.Expression.{Expression}
use Rattle.ig_expr.specs.declared.value.Value.{Value}
use Rattle.ig_item.specs.Tables.{instance_by}
use Rattle.ig_item.specs.declared.items.Instance.{Instance}
use Rattle.ig_item.specs.declared.items.InstanceKey.{InstanceKey}
use Rattle.ig_item.specs.declared.items.Item as stored
use Rattle.ig_run_tables.specs.Compiled.{AreValuesOf, values_in}
use Rattle.ig_run_tables.specs.declared.steps.Arguments.{Arguments}
use Rattle.ig_run_tables.specs.Extends.{Enters}
use Rattle.ig_run_moves.specs.Rules.{IsCallee}
use Rattle.ig_run_moves.specs.Tables.{GivesCallee, item_by}
use Rattle.ig_run_moves.proofs.Pasts.{never_some}

-- the key of an instance that is called where the item stands
abbrev key_of : ℕ → ℕ → stored.Item → InstanceKey
key_of n env it = record { nonterminal = n; env = env; start = it.position }

module _ (before after : List (List Value)) (it : stored.Item) (text : Input) (names : List (List ℕ)) (n : ℕ) (arguments : List Expression)
    (values : List Value) (same : values ≡ slice_index_or before it.env []) where
  -- an argument has no value
  pub callee_none : ((vs : List Value) → AreValuesOf text names values it.position arguments vs → ⊥) →
      GivesCallee before after it (IsCallee text names n arguments) None
  callee_none none =
      record {
        exact = λ keys callee. (
          λ h.
              absurd (none callee.values
              (subst (λ (z : List Value). AreValuesOf text names z it.position arguments callee.values) (sym same) h.values)),
          λ h. absurd (never_some h.0 h.1),
        );
        there = λ key e. absurd (never_some key e);
      }

  -- the arguments have values, which are an environment now
  pub callee_some : (a : Arguments) (env : ℕ) → AreValuesOf text names values it.position arguments (values_in values a) →
      Enters before after (values_in (slice_index_or before it.env []) a) env →
      GivesCallee before after it (IsCallee text names n arguments) (Some (record { nonterminal = n; env = env; start = it.position }))
  callee_some a env are enters =
      record {
        exact = λ keys callee. (
          λ h. (key_of n env it, refl, told keys callee h),
          λ h.
              let e : instance_by after (key_of n env it) ≡ callee = ap (instance_by after) (same_Some (key_of n env it) h.0 h.1) ∙ h.2 in
              subst (IsCallee text names n arguments (item_by before keys it)) e
              (record { of = refl; values = here ∙ ap (map Some) (sym values_are); here = refl }),
        );
        there = λ k e. subst (λ (z : InstanceKey). z.env < length after) (same_Some (key_of n env it) k e)
            (slice_get_within after env (values_in (slice_index_or before it.env []) a) enters.there);
      }
    where
      values_are : slice_index_or after env [] ≡ values_in (slice_index_or before it.env []) a
      values_are = get_or_from_slice_get after env (values_in (slice_index_or before it.env []) a) [] enters.there

      here : AreValuesOf text names (slice_index_or before it.env []) it.position arguments (values_in (slice_index_or before it.env []) a)
      here = subst (λ (z : List Value). AreValuesOf text names z it.position arguments (values_in z a)) same are

      told : (keys : List InstanceKey) (callee : Instance) → IsCallee text names n arguments (item_by before keys it) callee →
          instance_by after (key_of n env it) ≡ callee
      told keys callee h =
          let v : slice_index_or after env [] ≡ callee.values = values_are ∙ same_listed (values_in (slice_index_or before it.env []) a) callee.values (sym here ∙ h.values) in
          λ i. record { nonterminal = sym h.of i; values = v i; start = sym h.here i }
