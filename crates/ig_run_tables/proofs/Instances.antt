-- Instances in chains by their hashes.
use Rattle.std.proofs.Common.{◌≡◌, ⊎_elim, ℕ, suc, ◌+◌, ◌-◌, ◌<◌, ◌≤◌, List, [], ◌∷◌, ◌++◌, length, replicate, take, refl, sym, ap, ◌∙◌, subst, arith, set, Contains}
use Rattle.std.specs.Prelude.{slice_index_or}
use Rattle.std.proofs.lemmas.Nat.{and_le_r}
use Rattle.std.proofs.lemmas.List.{get_or_append_left, get_or_push, length_push, get_or-replicate, length-replicate}
use Rattle.std.proofs.lemmas.Option.{slice_get_within, get_or_from_slice_get}
use Rattle.ig_text.proofs.Differing.{pushed_differ}
use Rattle.ig_text.proofs.Lists.{at_from_contains, take_next}
use Rattle.ig_item.specs.WellKinded.{NoneTwice}
use Rattle.ig_item.specs.declared.items.InstanceKey.{InstanceKey}
use Rattle.ig_run_tables.specs.Chained.{AreChained}
use Rattle.ig_run_tables.specs.InstanceSet.{bucket_of, hash_of, nothing, earlier_at, AreFound, AreInBuckets, Walks}
use Rattle.ig_run_tables.proofs.Chains as chains

-- the walk where there is nothing yet
starts_nowhere : (keys : List InstanceKey) (heads : List ℕ) (mask : ℕ) (key : InstanceKey) (at : ℕ) → keys ≡ [] → heads ≡ [] →
    at ≡ slice_index_or heads (bucket_of mask key) 0 → Walks mask keys key at
starts_nowhere keys heads mask key at no_keys no_heads at_is =
    let long = ap length no_keys in
    let zero_is : at ≡ 0 = at_is ∙ ap (λ (z : List ℕ). slice_index_or z (bucket_of mask key) 0) no_heads in
    record {
      passed = λ m behind lt is. absurd (omega (arith, lt, long));
      within = omega (arith, zero_is);
      in_bucket = λ k e. absurd (omega (arith, e, zero_is));
    }

-- the walk from a head
pub walk_starts : (keys : List InstanceKey) (heads earlier : List ℕ) (mask : ℕ) (key : InstanceKey) (at : ℕ) →
    AreFound keys heads earlier mask → at ≡ slice_index_or heads (bucket_of mask key) 0 → Walks mask keys key at
walk_starts keys heads earlier mask key at are at_is =
    ⊎_elim (λ (none : (keys ≡ []) × ((heads ≡ []) × (earlier ≡ []))). starts_nowhere keys heads mask key at none.0 none.1.0 at_is)
    (λ (b : AreInBuckets keys heads earlier mask).
    chains.walk_starts (bucket_of mask) nothing (λ (k : InstanceKey). k) key (bucket_of mask key) (λ c e. ap (bucket_of mask) e)
    (earlier_at earlier) mask 0 heads keys at b.chained (and_le_r (hash_of key) mask) at_is)
    are

-- where a walk stands, there are buckets
pub there : (keys : List InstanceKey) (heads earlier : List ℕ) (mask k : ℕ) → AreFound keys heads earlier mask → k < length keys →
    AreInBuckets keys heads earlier mask
there keys heads earlier mask k are lt =
    ⊎_elim (λ (none : (keys ≡ []) × ((heads ≡ []) × (earlier ≡ []))). let no_keys = ap length none.0 in absurd (omega (arith, lt, no_keys)))
    (λ (b : AreInBuckets keys heads earlier mask). b) are

-- where there are more buckets than instances, too
pub room : (keys : List InstanceKey) (heads earlier : List ℕ) (mask : ℕ) → AreFound keys heads earlier mask → length keys < length heads →
    AreInBuckets keys heads earlier mask
room keys heads earlier mask are lt =
    ⊎_elim (λ (none : (keys ≡ []) × ((heads ≡ []) × (earlier ≡ []))). let no_heads = ap length none.1.0 in absurd (omega (arith, lt, no_heads)))
    (λ (b : AreInBuckets keys heads earlier mask). b) are

-- each instance has a place in the other list, too
pub long : (keys : List InstanceKey) (heads earlier : List ℕ) (mask : ℕ) → AreFound keys heads earlier mask → length earlier ≡ length keys
long keys heads earlier mask are =
    ⊎_elim (λ (none : (keys ≡ []) × ((heads ≡ []) × (earlier ≡ []))). ap length none.1.1 ∙ sym (ap length none.0))
    (λ (b : AreInBuckets keys heads earlier mask). b.long) are

-- the walk goes on from an instance that isn't the one
pub walk_goes : (keys : List InstanceKey) (heads earlier : List ℕ) (mask : ℕ) (key found : InstanceKey) (at k next : ℕ) →
    AreFound keys heads earlier mask → Walks mask keys key at → at ≡ suc k → found ≡ slice_index_or keys k found → (found ≡ key → ⊥) →
    next ≡ slice_index_or earlier k next → Walks mask keys key next × (next ≤ k)
walk_goes keys heads earlier mask key found at k next are w at_is found_is not_here next_is =
    let within : k < length keys = omega (arith, w.within, at_is) in
    let b = there keys heads earlier mask k are within in
    let same : found ≡ slice_index_or keys k nothing = found_is ∙ chains.any_default keys k found nothing within in
    let next_at : next ≡ slice_index_or earlier k 0 = next_is ∙ chains.any_default earlier k next 0 (omega (arith, b.long, within)) in
    let small : slice_index_or earlier k 0 - 0 ≤ k =
    chains.walk_smaller (bucket_of mask) nothing (earlier_at earlier) mask 0 heads keys k b.chained within in (
      subst (Walks mask keys key) (sym next_at)
          (chains.walk_goes (bucket_of mask) nothing (λ (k : InstanceKey). k) key (bucket_of mask key) (λ c e. ap (bucket_of mask) e)
          (earlier_at earlier) mask 0 heads keys at k b.chained w (omega (arith, at_is)) (λ e. not_here (same ∙ e))),
      omega (arith, next_at, small),
    )

-- where it came to an end
pub walk_ends : (mask : ℕ) (keys : List InstanceKey) (key : InstanceKey) (at : ℕ) → Walks mask keys key at → at ≤ 0 → Contains keys key → ⊥
walk_ends mask keys key at w le c =
    let k = at_from_contains keys key c in
    w.passed k.0 (omega (arith, le)) (slice_get_within keys k.0 key k.1) (get_or_from_slice_get keys k.0 key nothing k.1)

-- buckets without instances
pub begun : (mask : ℕ) (heads : List ℕ) → heads ≡ replicate (mask + 1) 0 → AreInBuckets [] heads [] mask
begun mask heads is =
    let free : (b : ℕ) → b ≤ mask → slice_index_or heads b 0 ≡ 0 =
    λ b le. ap (λ (z : List ℕ). slice_index_or z b 0) is ∙ get_or-replicate (mask + 1) b 0 0 (omega (arith, le)) in
    record {
      long = refl;
      chained = record {
        head = λ b le. let v = free b le in omega (arith, v);
        next = λ k lt. absurd (omega (arith, lt));
        within = λ b le. let v = free b le in omega (arith, v);
        all = let l = ap length is in let r = length-replicate {A = ℕ} (mask + 1) 0 in omega (arith, l, r);
      };
    }

-- an instance is added to the buckets
pub added : (keys : List InstanceKey) (heads earlier more : List ℕ) (mask : ℕ) (key : InstanceKey) (last place : ℕ) →
    AreInBuckets keys heads earlier mask → last ≡ slice_index_or heads (bucket_of mask key) last → more ≡ earlier ++ last ∷ [] →
    place ≡ length earlier + 1 → AreInBuckets (keys ++ key ∷ []) (set heads (bucket_of mask key) place) more mask
added keys heads earlier more mask key last place are last_is more_is place_is =
    let le = and_le_r (hash_of key) mask in
    let same : last ≡ slice_index_or heads (bucket_of mask key) 0 =
    last_is ∙ chains.any_default heads (bucket_of mask key) last 0 (omega (arith, le, are.chained.all)) in
    let spot : place ≡ 0 + length keys + 1 = omega (arith, place_is, are.long) in
    subst (λ (z : List ℕ). AreInBuckets (keys ++ key ∷ []) (set heads (bucket_of mask key) place) z mask) (sym more_is)
    (record {
      long = let a = length_push earlier last in let b = length_push keys key in omega (arith, a, b, are.long);
      chained = subst (λ (z : ℕ). AreChained (bucket_of mask) nothing (earlier_at (earlier ++ last ∷ [])) mask 0 (set heads (bucket_of mask key) z) (keys ++ key ∷ [])) (sym spot)
          (chains.added (bucket_of mask) nothing (earlier_at earlier) (earlier_at (earlier ++ last ∷ [])) mask 0 heads keys key are.chained le
          (λ k lt. get_or_append_left earlier (last ∷ []) 0 k (omega (arith, lt, are.long)))
          (get_or_push earlier last 0 (length keys) are.long ∙ same));
    })

-- the same, where instances of a list are added one by one
pub goes_on : (keys : List InstanceKey) (heads earlier : List ℕ) (mask i : ℕ) (key : InstanceKey) → i < length keys →
    key ≡ slice_index_or keys i key → AreInBuckets (take i keys ++ key ∷ []) heads earlier mask → AreInBuckets (take (i + 1) keys) heads earlier mask
goes_on keys heads earlier mask i key lt is are =
    subst (λ (z : List InstanceKey). AreInBuckets z heads earlier mask) (sym (take_next keys i key lt is)) are

-- a list without repeats stays one where a value is added that it hasn't
pub once_more : (keys more : List InstanceKey) (key : InstanceKey) → NoneTwice keys → (Contains keys key → ⊥) → more ≡ keys ++ key ∷ [] → NoneTwice more
once_more keys more key once none is = subst NoneTwice (sym is) (pushed_differ keys key once none)
