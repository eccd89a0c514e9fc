-- How cursors, items and lists of values compare, part by part.
use Rattle.std.proofs.Common.{◌≡◌, ℕ, zero, suc, ◌<◌, List, [], ◌∷◌, ◌++◌, Some, length, slice_get, refl, sym, ap, ap₂, ◌∙◌, subst, append_assoc, inl, inr, arith}
use Rattle.std.specs.Cmp.{IsTotalOrder}
use Rattle.std.specs.Cmp.Lexicographic.{slice_cmp}
use Rattle.std.specs.List.Sorted.{IsStrictlySortedBy}
use Rattle.std.specs.Ordering.{nat_cmp, ordering_then, ordering_reverse}
use Rattle.std.specs.declared.cmp.Ordering.{Ordering}
use Rattle.std.specs.declared.cmp.Ordering.TheVariants as ordering
use Rattle.std.proofs.lemmas.Bool.{cases_order}
use Rattle.std.proofs.lemmas.Cmp.{tied_itself}
use Rattle.std.proofs.lemmas.Map.Lookups.{exact_unsigned}
use Rattle.ig_text.proofs.Options.{then_assoc, then_nothing}
use Rattle.ig_text.proofs.Rising.{rises}
use Rattle.ig_text.proofs.Sorted.{less_number, greater_number, equal_number}
use Rattle.ig_expr.specs.ValueOrder.{value_cmp, values_cmp}
use Rattle.ig_expr.specs.declared.value.Value.{Value}
use Rattle.ig_item.specs.Items.{Item}
use Rattle.ig_forest.specs.Cursors.{Less}
use Rattle.ig_forest.specs.Cursors as order
use Rattle.ig_forest_tables.specs.Orders.{item_cmp}
use Rattle.ig_forest_tables.specs.Unfold.{noted}
use Rattle.ig_forest.proofs.Targets.{Alike}
use Rattle.ig_expr.specs.Ordered.{value_total, list_total}

-- what decides first decides alike, and what comes behind it matters only where nothing is decided
pub decides : (o p q : Ordering) → (o ≡ ordering.Equal → p ≡ q) → ordering_then o p ≡ ordering_then o q
decides ordering.Less p q same = refl
decides ordering.Equal p q same = same refl
decides ordering.Greater p q same = refl

-- what is undecided first is passed over
pub passed : (a b : Ordering) → a ≡ ordering.Equal → ordering_then a b ≡ b
passed a b e = ap (λ (o : Ordering). ordering_then o b) e

-- in a strictly sorted list members compare as their places do
pub places_cmp : {X : Type 0} (cmp : X → X → Ordering) → IsTotalOrder cmp → (xs : List X) (i j : ℕ) (x y : X) →
    IsStrictlySortedBy cmp xs → slice_get xs i ≡ Some x → slice_get xs j ≡ Some y → nat_cmp i j ≡ cmp x y
places_cmp {X = X} cmp total xs i j x y sorted at_x at_y =
    elim (cases_order i j) [
      | inl e ↦
          let same : x ≡ y = cc in equal_number i j e ∙ sym (tied_itself total x) ∙ ap (cmp x) same
      | inr (inl lt) ↦ less_number i j lt ∙ sym (rises cmp xs i j x y sorted at_x at_y lt)
      | inr (inr lt) ↦
          greater_number i j lt ∙ sym (ap ordering_reverse (rises cmp xs j i y x sorted at_y at_x lt)) ∙
          sym (total.antisymm x y)
    ]

-- of cursors that note a choice each the choices decide first
pub noted_cmp : (many i j : ℕ) (cs ds : List ℕ) → i < many → j < many →
    slice_cmp nat_cmp (noted many i ++ cs) (noted many j ++ ds) ≡ ordering_then (nat_cmp i j) (slice_cmp nat_cmp cs ds)
noted_cmp zero i j cs ds i_in j_in = absurd (omega arith)
noted_cmp (suc zero) i j cs ds i_in j_in = sym (passed (nat_cmp i j) (slice_cmp nat_cmp cs ds) (equal_number i j (omega arith)))
noted_cmp (suc (suc n)) i j cs ds i_in j_in = refl

-- whatever stands behind them, the first list is to the second as the ordering says, and then as what stands behind
abbrev pub Compared : List ℕ → List ℕ → Ordering → Type 0
Compared cs ds o =
    (rest others : List ℕ) → slice_cmp nat_cmp (cs ++ rest) (ds ++ others) ≡ ordering_then o (slice_cmp nat_cmp rest others)

-- where cursors differ in a choice it decides, else what stands behind it
pub chosen_cmp : (many i j : ℕ) (bs gs cs ds : List ℕ) (first later : Ordering) → i < many → j < many →
    cs ≡ noted many i ++ bs → ds ≡ noted many j ++ gs → nat_cmp i j ≡ first → (i ≡ j → Compared bs gs later) →
    Compared cs ds (ordering_then first later)
chosen_cmp many i j bs gs cs ds first later i_in j_in c d decided same rest others =
    let behind = slice_cmp nat_cmp rest others in
    (λ k. slice_cmp nat_cmp (c k ++ rest) (d k ++ others)) ∙
    ap₂ (slice_cmp nat_cmp) (append_assoc (noted many i) bs rest) (append_assoc (noted many j) gs others) ∙
    noted_cmp many i j (bs ++ rest) (gs ++ others) i_in j_in ∙
    decides (nat_cmp i j) (slice_cmp nat_cmp (bs ++ rest) (gs ++ others)) (ordering_then later behind)
    (λ e. same (exact_unsigned i j e) rest others) ∙
    ap (λ (o : Ordering). ordering_then o (ordering_then later behind)) decided ∙ sym (then_assoc first later behind)

-- lists one behind the other
pub joined_cmp : (hs bs cs ds : List ℕ) (first later : Ordering) → Compared hs bs first → Compared cs ds later →
    Compared (hs ++ cs) (bs ++ ds) (ordering_then first later)
joined_cmp hs bs cs ds first later p q rest others =
    ap₂ (slice_cmp nat_cmp) (append_assoc hs cs rest) (append_assoc bs ds others) ∙ p (cs ++ rest) (ds ++ others) ∙
    ap (ordering_then first) (q rest others) ∙ sym (then_assoc first later (slice_cmp nat_cmp rest others))

-- what both lists begin with is passed over
nat_append : (bs cs ds : List ℕ) → slice_cmp nat_cmp (bs ++ cs) (bs ++ ds) ≡ slice_cmp nat_cmp cs ds
nat_append [] cs ds = refl
nat_append (b ∷ bs) cs ds = passed (nat_cmp b b) _ (equal_number b b refl) ∙ nat_append bs cs ds

-- a cursor is to itself as what stands behind it
pub same_cmp : (cs ds : List ℕ) → cs ≡ ds → Compared cs ds ordering.Equal
same_cmp cs ds e rest others =
    ap (λ (zs : List ℕ). slice_cmp nat_cmp (cs ++ rest) (zs ++ others)) (sym e) ∙ nat_append cs rest others

-- what both lists of values begin with is passed over
pub values_append : (us vs ws : List Value) → values_cmp (us ++ vs) (us ++ ws) ≡ values_cmp vs ws
values_append [] vs ws = refl
values_append (u ∷ us) vs ws = passed (value_cmp u u) _ (tied_itself value_total u) ∙ values_append us vs ws

-- the order of cursors is that of lists of numbers
pub less_cmp : {cs ds : List ℕ} → Less cs ds → slice_cmp nat_cmp cs ds ≡ ordering.Less
less_cmp (order.shorter j ds) = refl
less_cmp (order.here i j cs ds less) = ap (λ (o : Ordering). ordering_then o (slice_cmp nat_cmp cs ds)) (less_number i j less)
less_cmp (order.later i j cs ds same less) = passed (nat_cmp i j) (slice_cmp nat_cmp cs ds) (equal_number i j same) ∙ less_cmp less

-- and the other way round
pub cmp_less : (cs ds : List ℕ) → slice_cmp nat_cmp cs ds ≡ ordering.Less → Less cs ds
cmp_less [] [] e = cc
cmp_less [] (j ∷ ds) e = order.shorter j ds
cmp_less (i ∷ cs) [] e = cc
cmp_less (i ∷ cs) (j ∷ ds) e =
    elim (cases_order i j) [
      | inl same ↦
          order.later i j cs ds same (cmp_less cs ds (sym (passed (nat_cmp i j) (slice_cmp nat_cmp cs ds) (equal_number i j same)) ∙ e))
      | inr (inl less) ↦ order.here i j cs ds less
      | inr (inr more) ↦
          let greater : ordering.Greater ≡ ordering.Less =
          sym (ap (λ (o : Ordering). ordering_then o (slice_cmp nat_cmp cs ds)) (greater_number i j more)) ∙ e in cc
    ]

-- equally long beginnings of one list are equal
pub same_beginning : (us vs rest others : List Value) → length us ≡ length vs → us ++ rest ≡ vs ++ others → us ≡ vs
same_beginning [] [] rest others long e = refl
same_beginning [] (v ∷ vs) rest others long e = absurd (omega (arith, long))
same_beginning (u ∷ us) [] rest others long e = absurd (omega (arith, long))
same_beginning (u ∷ us) (v ∷ vs) rest others long e =
    let head : u ≡ v = cc in
    let tail : us ++ rest ≡ vs ++ others = cc in
    let tails = same_beginning us vs rest others (omega (arith, long)) tail in λ i. head i ∷ tails i

-- nothing differs in equal lists of values
tied_values : (us vs : List Value) → us ≡ vs → values_cmp us vs ≡ ordering.Equal
tied_values us vs e =
    subst (λ (zs : List Value). values_cmp us zs ≡ ordering.Equal) e (tied_itself list_total us)

-- items at the same dot with the same environment compare as their positions do
pub alike_cmp : (x y : Item) → Alike x y → x.env ≡ y.env → item_cmp x y ≡ nat_cmp x.position y.position
alike_cmp x y a env =
    let start : x.instance.start ≡ y.instance.start = ap (λ i. i.start) a.instance in
    let nonterminal : x.instance.nonterminal ≡ y.instance.nonterminal = ap (λ i. i.nonterminal) a.instance in
    let values : x.instance.values ≡ y.instance.values = ap (λ i. i.values) a.instance in
    passed _ _ (equal_number x.instance.start y.instance.start start) ∙
    ap (ordering_then (nat_cmp x.position y.position))
    (passed _ _ (equal_number x.instance.nonterminal y.instance.nonterminal nonterminal) ∙
    passed _ _ (tied_values x.instance.values y.instance.values values) ∙
    passed _ _ (equal_number x.alternative y.alternative a.alternative) ∙ passed _ _ (equal_number x.dot y.dot a.dot) ∙
    tied_values x.env y.env env) ∙ then_nothing (nat_cmp x.position y.position)

-- items of one instance at one position compare as alternatives, dots and environments do
pub beside_cmp : (x y : Item) → x.instance ≡ y.instance → x.position ≡ y.position →
    item_cmp x y ≡
    ordering_then (nat_cmp x.alternative y.alternative) (ordering_then (nat_cmp x.dot y.dot) (values_cmp x.env y.env))
beside_cmp x y instance position =
    let start : x.instance.start ≡ y.instance.start = ap (λ i. i.start) instance in
    let nonterminal : x.instance.nonterminal ≡ y.instance.nonterminal = ap (λ i. i.nonterminal) instance in
    let values : x.instance.values ≡ y.instance.values = ap (λ i. i.values) instance in
    passed _ _ (equal_number x.instance.start y.instance.start start) ∙ passed _ _ (equal_number x.position y.position position) ∙
    passed _ _ (equal_number x.instance.nonterminal y.instance.nonterminal nonterminal) ∙
    passed _ _ (tied_values x.instance.values y.instance.values values)
