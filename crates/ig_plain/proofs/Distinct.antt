-- Items that are stored once are different, and more of them than the budget are too many.
use Rattle.std.proofs.Common.{◌≡◌, ⊎_elim, ℕ, suc, ◌+◌, ◌<◌, List, [], ◌∷◌, ◌++◌, Some, length, map, Contains, refl, sym, ap, ◌∙◌, subst, arith, length-append}
use Rattle.std.specs.Prelude.{slice_index_or}
use Rattle.std.proofs.lemmas.List.{map-append}
use Rattle.std.proofs.lemmas.Option.{slice_get-get_or}
use Rattle.std.proofs.lemmas.List.Elements.{Contains-append_cases}
use Rattle.ig_text.specs.Input.{Input}
use Rattle.ig_text.proofs.Differing.{both_differ}
use Rattle.ig_text.proofs.Lists.{contains_from_at, unmapped_at}
use Rattle.ig_expr.specs.declared.value.Value.{Value}
use Rattle.ig_item.specs.Items.{Item, Reachable, MoreThan}
use Rattle.ig_item.specs.Tables.{instance_by, HaveValues}
use Rattle.ig_item.specs.WellKinded.{NoneTwice}
use Rattle.ig_item.specs.declared.core_grammar.Nonterminal.{Nonterminal}
use Rattle.ig_item.specs.declared.items.Instance.{Instance}
use Rattle.ig_item.specs.declared.items.InstanceKey.{InstanceKey}
use Rattle.ig_item.specs.declared.items.Item as stored
use Rattle.ig_plain.specs.declared.found.Found.{Found}
use Rattle.ig_run_moves.specs.Tables.{IsNamed, item_by, no_key}
use Rattle.ig_plain.specs.Found.{means, found_in, later_in, count, Named, IsStored}

module _ {X : Type 0} where
  -- equal members of a list without repeats have equal numbers
  pub same_number : (xs : List X) (i j : ℕ) (d : X) → NoneTwice xs → i < length xs → j < length xs →
      slice_index_or xs i d ≡ slice_index_or xs j d → i ≡ j
  same_number xs i j d once l m e =
      once i j (slice_index_or xs j d) (slice_get-get_or xs i d l ∙ ap Some e) (slice_get-get_or xs j d m)

  -- an injective map keeps a list without repeats
  pub once_mapped : {Y : Type 0} (f : X → Y) (xs : List X) → NoneTwice xs →
      ((x y : X) → Contains xs x → Contains xs y → f x ≡ f y → x ≡ y) → NoneTwice (map f xs)
  once_mapped f xs once one i j y p q =
      let u = unmapped_at f xs i y p in
      let v = unmapped_at f xs j y q in
      let e = one u.0 v.0 (contains_from_at xs i u.0 u.1) (contains_from_at xs j v.0 v.1) (u.2 ∙ sym v.2) in
      once i j v.0 (u.1 ∙ ap Some e) v.1

same_stored : (x y : stored.Item) → x.instance ≡ y.instance → x.alternative ≡ y.alternative → x.dot ≡ y.dot → x.env ≡ y.env →
    x.position ≡ y.position → x ≡ y
same_stored x y a b c d e = λ i. record { instance = a i; alternative = b i; dot = c i; env = d i; position = e i }

same_key : (x y : InstanceKey) → x.nonterminal ≡ y.nonterminal → x.env ≡ y.env → x.start ≡ y.start → x ≡ y
same_key x y a b c = λ i. record { nonterminal = a i; env = b i; start = c i }

module _ (envs : List (List Value)) (keys : List InstanceKey) (envs_once : NoneTwice envs) (keys_once : NoneTwice keys) (have : HaveValues envs keys) where
  key_in : (k : ℕ) → k < length keys → Contains keys (slice_index_or keys k no_key)
  key_in k lt = contains_from_at keys k (slice_index_or keys k no_key) (slice_get-get_or keys k no_key lt)

  -- instances of different numbers are different
  pub one_instance : (x y : InstanceKey) → Contains keys x → Contains keys y → instance_by envs x ≡ instance_by envs y → x ≡ y
  one_instance x y c d e =
      same_key x y (ap (λ (z : Instance). z.nonterminal) e)
      (same_number envs x.env y.env [] envs_once (have x c) (have y d) (ap (λ (z : Instance). z.values) e))
      (ap (λ (z : Instance). z.start) e)

  -- stored items that mean the same are the same
  pub one_item : (x y : stored.Item) → IsNamed envs keys x → IsNamed envs keys y → item_by envs keys x ≡ item_by envs keys y → x ≡ y
  one_item x y m n e =
      let key = one_instance (slice_index_or keys x.instance no_key) (slice_index_or keys y.instance no_key) (key_in x.instance m.instance)
      (key_in y.instance n.instance) (ap (λ (z : Item). z.instance) e) in
      same_stored x y (same_number keys x.instance y.instance no_key keys_once m.instance n.instance key)
      (ap (λ (z : Item). z.alternative) e) (ap (λ (z : Item). z.dot) e)
      (same_number envs x.env y.env [] envs_once m.env n.env (ap (λ (z : Item). z.env) e)) (ap (λ (z : Item). z.position) e)

module _ (p : ℕ) (s : Found) (r : IsStored p s) where
  named : (x : stored.Item) → Contains ((s.done.items ++ s.here.items) ++ s.later.items) x → Named s x
  named x c =
      ⊎_elim (λ (h : Contains (s.done.items ++ s.here.items) x). ⊎_elim (s.named.done x) (s.named.here x) (Contains-append_cases s.done.items s.here.items x h))
      (s.named.later x) (Contains-append_cases (s.done.items ++ s.here.items) s.later.items x c)

  pub found_once : NoneTwice (s.done.items ++ s.here.items)
  found_once = both_differ s.done.items s.here.items r.done_once r.here_once (λ x c d. let e = r.at x d in omega (arith, r.before x c, e))

  all_once : NoneTwice ((s.done.items ++ s.here.items) ++ s.later.items)
  all_once =
      both_differ (s.done.items ++ s.here.items) s.later.items found_once r.later_once
      (λ x c d.
      ⊎_elim (λ (h : Contains s.done.items x). omega (arith, r.before x h, r.behind x d))
      (λ (h : Contains s.here.items x). let e = r.at x h in omega (arith, e, r.behind x d)) (Contains-append_cases s.done.items s.here.items x c))

  pub different : NoneTwice (found_in s ++ later_in s)
  different =
      subst NoneTwice (map-append (means s) (s.done.items ++ s.here.items) s.later.items)
      (once_mapped (means s) ((s.done.items ++ s.here.items) ++ s.later.items) all_once
      (λ x y c d e. one_item s.envs.keys s.keys r.tables.environments r.tables.instances s.named.values x y (named x c) (named y d) e))

  pub counted : length (found_in s ++ later_in s) ≡ count s
  counted =
      let a = length-append (found_in s) (later_in s) in
      let b : length (found_in s) ≡ length (s.done.items ++ s.here.items) = mapped (s.done.items ++ s.here.items) in
      let c : length (later_in s) ≡ length s.later.items = mapped s.later.items in
      let d = length-append s.done.items s.here.items in omega (arith, a, b, c, d)
    where
      mapped : (xs : List stored.Item) → length (map (means s) xs) ≡ length xs
      mapped [] = refl
      mapped (x ∷ xs) = ap suc (mapped xs)

  pub too_many : (core : List Nonterminal) (text : Input) (budget : ℕ) →
      ((x : Item) → Contains (found_in s ++ later_in s) x → Reachable core text x) → budget < count s → MoreThan core text budget
  too_many core text budget reachable more =
      record {
        items = found_in s ++ later_in s;
        different = different;
        reachable = reachable;
        more = let n = counted in omega (arith, n, more);
      }
