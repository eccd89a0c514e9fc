-- The keys of a map, where `==` decides whether keys are the same.
use Rattle.std.proofs.Common.{◌≡◌, ◌∙◌, ◌⊎◌, inl, inr, ⊎_elim, List, [], ◌∷◌, Bool, true, false, cond, Option, None, Some, Contains, map, refl, sym, ap, subst, true≢false}
use Rattle.std.specs.Prelude.{if◌then◌else◌, IfNone, IfSome}
use Rattle.std.specs.Map.{lookup}
use Rattle.std.proofs.lemmas.Map.Views.{Contains-from_lookup}
use Rattle.std.specs.Bool.{Decides}
use Rattle.std.proofs.lemmas.Bool.Decides.{Decides-like, Decides-and, Decides-eqb}
use Rattle.indexmap.specs.IndexMap.{insert_entry}
use Rattle.ig_text.proofs.Lists.{contains_first, contains_later, in_rest, none_in_nil, contains_one}
use Rattle.ig_gss.specs.declared.places.Place.{Place}
use Rattle.ig_gss.specs.contracts.places.PlacePartialEq.TheImpl as place_impl

module _ {K V : Type 0} {eq : K → K → Bool} (decides : (x y : K) → Decides (eq x y) (x ≡ y)) where
  -- what an insert makes of the entries: those that were there, and the new one
  pub in_inserted : (es : List (K × V)) (k : K) (v : V) (x : K × V) → Contains (insert_entry eq es k v) x → Contains es x ⊎ (x ≡ (k, v))
  in_inserted [] k v x c = inr (contains_one (k, v) x c)
  in_inserted (e ∷ es) k v x c = by (eq k e.0) refl (in_inserted es k v x) c
    where
      by : (t : Bool) → eq k e.0 ≡ t → (Contains (insert_entry eq es k v) x → Contains es x ⊎ (x ≡ (k, v))) → Contains (if t then (e.0, v) ∷ es else e ∷ insert_entry eq es k v) x → Contains (e ∷ es) x ⊎ (x ≡ (k, v))
      by true is rest c =
          ⊎_elim (λ (h : (e.0, v) ≡ x). inr (sym h ∙ ap (λ (z : K). (z, v)) (sym ((decides k e.0).0 is)))) (λ (h : Contains es x). inl (contains_later e es x h))
          (in_rest (e.0, v) es x c)
      by false is rest c =
          ⊎_elim (λ (h : e ≡ x). inl (subst (Contains (e ∷ es)) h (contains_first e es)))
          (λ (h : Contains (insert_entry eq es k v) x).
          ⊎_elim (λ (g : Contains es x). inl (contains_later e es x g)) (λ (g : x ≡ (k, v)). inr g) (rest h))
          (in_rest e (insert_entry eq es k v) x c)

  pub keys_kept : (es : List (K × V)) (k : K) (v : V) (q : K) → Contains (map (λ e. e.0) es) q → Contains (map (λ e. e.0) (insert_entry eq es k v)) q
  keys_kept [] k v q c = absurd (none_in_nil q c)
  keys_kept (e ∷ es) k v q c = by (eq k e.0) (keys_kept es k v q)
    where
      by : (t : Bool) → (Contains (map (λ (z : K × V). z.0) es) q → Contains (map (λ (z : K × V). z.0) (insert_entry eq es k v)) q) → Contains (map (λ (z : K × V). z.0) (if t then (e.0, v) ∷ es else e ∷ insert_entry eq es k v)) q
      by true rest = c
      by false rest =
          ⊎_elim (λ (h : e.0 ≡ q). subst (Contains (e.0 ∷ map (λ (z : K × V). z.0) (insert_entry eq es k v))) h (contains_first e.0 (map (λ (z : K × V). z.0) (insert_entry eq es k v))))
          (λ (h : Contains (map (λ (z : K × V). z.0) es) q). contains_later e.0 (map (λ (z : K × V). z.0) (insert_entry eq es k v)) q (rest h))
          (in_rest e.0 (map (λ (z : K × V). z.0) es) q c)

  pub key_there : (es : List (K × V)) (k : K) (v : V) → Contains (map (λ e. e.0) (insert_entry eq es k v)) k
  key_there [] k v = contains_first k []
  key_there (e ∷ es) k v = by (eq k e.0) refl (key_there es k v)
    where
      by : (t : Bool) → eq k e.0 ≡ t → Contains (map (λ (z : K × V). z.0) (insert_entry eq es k v)) k → Contains (map (λ (z : K × V). z.0) (if t then (e.0, v) ∷ es else e ∷ insert_entry eq es k v)) k
      by true is rest = subst (Contains (e.0 ∷ map (λ (z : K × V). z.0) es)) (sym ((decides k e.0).0 is)) (contains_first e.0 (map (λ (z : K × V). z.0) es))
      by false is rest = contains_later e.0 (map (λ (z : K × V). z.0) (insert_entry eq es k v)) k rest

-- places are told apart by their numbers
abbrev pub place_eq : Place → Place → Bool
place_eq = place_impl.eq-value.it

same_place : (x y : Place) → (x.node ≡ y.node) × (x.end ≡ y.end) → x ≡ y
same_place x y p = λ i. record { node = p.0 i; end = p.1 i }

pub place_decides : (x y : Place) → Decides (place_eq x y) (x ≡ y)
place_decides x y =
    Decides-like _ (same_place x y) (λ e. (ap (λ (z : Place). z.node) e, ap (λ (z : Place). z.end) e))
    (Decides-and _ _ (Decides-eqb x.node y.node) (Decides-eqb x.end y.end))

-- what a look-up finds in the entries
module _ {K V : Type 0} {eq : K → K → Bool} (decides : (x y : K) → Decides (eq x y) (x ≡ y)) where
  pub looked_up : (es : List (K × V)) (k : K) (r : Option V) → r ≡ lookup (eq k) es → IfSome r (λ v. Contains es (k, v))
  looked_up es k None is = tt
  looked_up es k (Some v) is = Contains-from_lookup (λ x y. (decides x y).0) k v es (sym is)

  lacks : (es : List (K × V)) (k : K) → Contains (map (λ e. e.0) es) k → lookup (eq k) es ≡ None → ⊥
  lacks [] k c e = none_in_nil k c
  lacks (x ∷ xs) k c e = by (eq k x.0) refl (lacks xs k) e
    where
      by : (t : Bool) → eq k x.0 ≡ t → (Contains (map (λ (z : K × V). z.0) xs) k → lookup (eq k) xs ≡ None → ⊥) →
          cond t (Some x.1) (lookup (eq k) xs) ≡ None → ⊥
      by true is rest f = cc
      by false is rest f =
          ⊎_elim (λ (h : x.0 ≡ k). let yes : eq k x.0 ≡ true = (decides k x.0).1 (sym h) in true≢false (sym yes ∙ is))
          (λ (h : Contains (map (λ (z : K × V). z.0) xs) k). rest h f) (in_rest x.0 (map (λ (z : K × V). z.0) xs) k c)

  pub not_found : (es : List (K × V)) (k : K) (r : Option V) → r ≡ lookup (eq k) es → IfNone r (Contains (map (λ e. e.0) es) k → ⊥)
  not_found es k None is = λ c. lacks es k c (sym is)
  not_found es k (Some v) is = tt
