-- The order of cursors is a strict total order.
use Rattle.std.proofs.Common.{◌≡◌, ℕ, ◌<◌, List, [], ◌∷◌, ◌⊎◌, inl, inr, refl, sym, ap₂, subst, arith}
use Rattle.std.proofs.lemmas.Bool.{cases_order}
use Rattle.ig_walker.specs.Laws.{CursorsAreInOrder}
use Rattle.ig_forest.specs.Cursors.{Less}
use Rattle.ig_forest.specs.Cursors as order
use Rattle.ig_walker.proofs.Cursors.{less_same}

onward_short : {ds es : List ℕ} → Less ds es → (j : ℕ) (bs : List ℕ) → ds ≡ j ∷ bs → Less [] es
onward_short (order.shorter k es) j bs e = cc
onward_short (order.here i k ds es less) j bs e = order.shorter k es
onward_short (order.later i k ds es same less) j bs e = order.shorter k es

onward_here : {ds es : List ℕ} → Less ds es → (i j : ℕ) (xs bs : List ℕ) → ds ≡ j ∷ bs → i < j → Less (i ∷ xs) es
onward_here (order.shorter k es) i j xs bs e less = cc
onward_here (order.here a k ds es more) i j xs bs e less =
    let p : a ≡ j = cc in order.here i k xs es (omega (arith, p, more, less))
onward_here (order.later a k ds es same more) i j xs bs e less =
    let p : a ≡ j = cc in order.here i k xs es (omega (arith, p, same, less))

onward_later : {ds es : List ℕ} → Less ds es → (i j : ℕ) (xs bs : List ℕ) → ds ≡ j ∷ bs → i ≡ j →
    ((cs : List ℕ) → Less bs cs → Less xs cs) → Less (i ∷ xs) es
onward_later (order.shorter k es) i j xs bs e same rest = cc
onward_later (order.here a k ds es more) i j xs bs e same rest =
    let p : a ≡ j = cc in order.here i k xs es (omega (arith, p, more, same))
onward_later (order.later a k ds es agree more) i j xs bs e same rest =
    let p : a ≡ j = cc in let q : ds ≡ bs = cc in
    order.later i k xs es (omega (arith, p, agree, same)) (rest es (subst (λ (z : List ℕ). Less z es) q more))

pub onward : {cs ds : List ℕ} → Less cs ds → (es : List ℕ) → Less ds es → Less cs es
onward (order.shorter j ds) es more = onward_short more j ds refl
onward (order.here i j cs ds less) es more = onward_here more i j cs ds refl less
onward (order.later i j cs ds same less) es more = onward_later more i j cs ds refl same (onward less)

total_more : (i j : ℕ) (cs ds : List ℕ) → (i ≡ j) ⊎ ((i < j) ⊎ (j < i)) → (cs ≡ ds) ⊎ (Less cs ds ⊎ Less ds cs) →
    (i ∷ cs ≡ j ∷ ds) ⊎ (Less (i ∷ cs) (j ∷ ds) ⊎ Less (j ∷ ds) (i ∷ cs))
total_more i j cs ds (inl e) (inl same) = inl (ap₂ (λ (a : ℕ) (z : List ℕ). a ∷ z) e same)
total_more i j cs ds (inl e) (inr (inl less)) = inr (inl (order.later i j cs ds e less))
total_more i j cs ds (inl e) (inr (inr less)) = inr (inr (order.later j i ds cs (sym e) less))
total_more i j cs ds (inr (inl less)) rest = inr (inl (order.here i j cs ds less))
total_more i j cs ds (inr (inr less)) rest = inr (inr (order.here j i ds cs less))

pub total : (cs ds : List ℕ) → (cs ≡ ds) ⊎ (Less cs ds ⊎ Less ds cs)
total [] [] = inl refl
total [] (j ∷ ds) = inr (inl (order.shorter j ds))
total (i ∷ cs) [] = inr (inr (order.shorter i cs))
total (i ∷ cs) (j ∷ ds) = total_more i j cs ds (cases_order i j) (total cs ds)

pub in_order : CursorsAreInOrder
in_order =
    record {
      none_before_itself = λ cs less. less_same less refl;
      onward = λ cs ds es less more. onward less es more;
      total = total;
    }
