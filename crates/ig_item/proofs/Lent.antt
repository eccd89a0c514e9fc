-- What a slice lends at a place: the member that stands there.
use Rattle.std.proofs.Common.{◌≡◌, ℕ, zero, suc, ◌-◌, ◌≤◌, Bor, List, Option, Some, None, length, map, take, slice_get, refl, sym, ap, ◌∙◌, subst, arith}
use Rattle.std.specs.Prelude.{option_map}
use Rattle.std.specs.Option.{option_copied}
use Rattle.std.specs.Slice.{IsItemAt, IsGetRangeResult}
use Rattle.std.proofs.lemmas.Option.{slice_get-map, slice_get_read, slice_get_past}
use Rattle.std.proofs.lemmas.Bool.{false≢true}
use Rattle.std.proofs.lemmas.List.{length-map}
use Rattle.ig_item.specs.Step as tree
use Rattle.ig_item.specs.View.{step_of}
use Rattle.ig_item.specs.Core.{numbered}
use Rattle.ig_item.specs.Visible.{AreSeen}
use Rattle.ig_item.specs.declared.step.Step as program

module _ {A : Type 0} where
  -- the member of a number, from 0
  pub lent : (xs ys : List A) (k : ℕ) (o : Option (Bor A)) → xs ≡ ys → IsItemAt xs k o → option_copied o ≡ slice_get ys k
  lent xs ys k None same found = sym (slice_get_past xs k found.3) ∙ ap (λ (zs : List A). slice_get zs k) same
  lent xs ys k (Some x) same found =
      sym (slice_get_read xs (length xs) k x.now refl found.3.0 (found.3.1 x.now)) ∙ ap (λ (zs : List A). slice_get zs k) same

  -- the member of a number, from 1
  pub lent_numbered : (xs ys : List A) (n k : ℕ) (o : Option (Bor A)) → (1 ≤ n) × (k ≡ n - 1) → xs ≡ ys → IsItemAt xs k o →
      option_copied o ≡ numbered ys n
  lent_numbered xs ys zero k o before same found = absurd (omega (arith, before.0))
  lent_numbered xs ys (suc n) k o before same found = lent xs ys k o same found ∙ ap (slice_get ys) (omega (arith, before.1))

  pub none_numbered : (ys : List A) (n : ℕ) → (1 ≤ n → ⊥) → None ≡ numbered ys n
  none_numbered ys zero none = refl
  none_numbered ys (suc n) none = absurd (none (omega arith))

-- the number of an alternative's steps
pub steps_lent : (xs : List program.Step) (steps : List tree.Step) → map step_of xs ≡ steps → length xs ≡ length steps
steps_lent xs steps same = sym (length-map xs step_of) ∙ ap length same

-- the names that a dot sees
module _ (names : List (List ℕ)) (seen ks : List ℕ) (view : List (List (List ℕ))) (dot : ℕ)
    (is : map (λ n. take n names) seen ≡ view) (counts : ks ≡ seen) where
  view_at : (o : Option ℕ) → slice_get seen dot ≡ o → slice_get view dot ≡ option_map (λ n. take n names) o
  view_at o at =
      ap (λ (v : List (List (List ℕ))). slice_get v dot) (sym is) ∙ slice_get-map (λ n. take n names) seen dot ∙
      ap (option_map (λ n. take n names)) at

  pub none_seen : IsItemAt ks dot None → None ≡ slice_get view dot
  none_seen found = sym (view_at None (sym (lent ks seen dot None counts found)))

  pub names_seen : (ns : List (List ℕ)) (n : Bor ℕ) (part : Option (Bor (List (List ℕ)))) → AreSeen names seen → ns ≡ names →
      IsItemAt ks dot (Some n) → IsGetRangeResult ns 0 n.now part → option_copied part ≡ slice_get view dot
  names_seen ns n None are same found got =
      let at = sym (lent ks seen dot (Some n) counts found) in
      let few : n.now ≤ length ns = subst (λ (ws : List (List ℕ)). n.now ≤ length ws) (sym same) (are dot n.now at) in
      absurd (false≢true (got.1 (omega arith, few)))
  names_seen ns n (Some part) are same found got =
      let at = sym (lent ks seen dot (Some n) counts found) in
      let all : n.now - 0 ≡ n.now = omega arith in
      let taken = ap (λ k. take k ns) all ∙ ap (take n.now) same in
      ap Some (got.0.2 ∙ taken) ∙ sym (view_at (Some n.now) at)
