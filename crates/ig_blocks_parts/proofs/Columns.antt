-- What `outer` and `inside` of expressions give, and what the pair of a block allows.
use Rattle.std.proofs.Common.{◌≡◌, ◌≢◌, ◌⊎◌, ◌<◌, ◌≤◌, ◌∙◌, ◌&&◌, ◌||◌, ℕ, suc, Bool, true, false, if◌then◌else◌, length, Option, Some, None, refl, sym, ap, subst, inl, inr, arith, max, ℤ, pos, nat_eq, nat_lt}
use Rattle.std.specs.Int.{int_max}
use Rattle.std.specs.Ordering.{int_eq}
use Rattle.std.proofs.lemmas.Bool.Decides.{eqb_tells, leb_tells, Decides-int_eq}
use Rattle.ig_text.specs.Input.{Input}
use Rattle.ig_text.specs.Lines.{column_of, column_at}
use Rattle.ig_expr.specs.Blocks.{outer, inside}
use Rattle.ig_expr.specs.declared.value.Value.TheVariants as value
use Rattle.ig_blocks_parts.specs.Allowed.{start_value, start_column, IsBefore, is_start, Allows, outer_column}

some_of : {A : Type 0} {a b : A} → Some a ≡ Some b → a ≡ b
some_of e = cc

int_of : (a b : ℤ) → value.Int a ≡ value.Int b → a ≡ b
int_of a b e = cc

true_of : (b : Bool) → Some (value.Bool b) ≡ Some (value.Bool true) → b ≡ true
true_of b e = cc

-- the column of the pair inside, by whether the block outside begins here
outer_here : (text : Input) (m p i : ℕ) → i ≡ p → outer_column text i m (Some p) ≡ m
outer_here text m p i e = grind (arith, eqb_tells i p)

outer_before : (text : Input) (m p i : ℕ) → i ≢ p → outer_column text i m (Some p) ≡ max m (column_of text p)
outer_before text m p i e = grind (arith, eqb_tells i p)

-- a block's pair allows what the pair outside allows and the block itself allows
pub block_allows : (text : Input) (m : ℕ) (f : Option ℕ) (i q : ℕ) → IsBefore f i → i ≤ q →
    Allows text (outer_column text i m f) (Some i) q → Allows text m f q × ((q ≡ i) ⊎ (column_of text i < column_of text q))
block_allows text m None i q before later allows =
    let above : max m 0 < column_of text q = allows.0 in
    ((omega arith, inr (omega arith)), grind (arith, allows.1))
block_allows text m (Some p) i q before later allows = go (eqb_tells i p)
  where
    go : ((nat_eq i p ≡ true) × (i ≡ p)) ⊎ ((nat_eq i p ≡ false) × (i ≢ p)) →
        Allows text m (Some p) q × ((q ≡ i) ⊎ (column_of text i < column_of text q))
    go (inl h) =
        let above : m < column_of text q = subst (λ z. z < column_of text q) (outer_here text m p i h.1) allows.0 in
        let right : (Some i ≡ Some q) ⊎ (column_of text i < column_of text q) = allows.1 in
        ((above, subst (λ z. (Some z ≡ Some q) ⊎ (column_of text z < column_of text q)) h.1 right), grind (arith, right))
    go (inr h) =
        let above : max m (column_of text p) < column_of text q = subst (λ z. z < column_of text q) (outer_before text m p i h.1) allows.0 in
        ((omega arith, inr (omega arith)), grind (arith, allows.1))

pub allows_block : (text : Input) (m : ℕ) (f : Option ℕ) (i q : ℕ) → IsBefore f i → i ≤ q →
    Allows text m f q → (q ≡ i) ⊎ (column_of text i < column_of text q) → Allows text (outer_column text i m f) (Some i) q
allows_block text m None i q before later allows right =
    let above : m < column_of text q = allows.0 in
    (omega arith, grind (arith, right))
allows_block text m (Some p) i q before later allows right = go (eqb_tells i p)
  where
    go : ((nat_eq i p ≡ true) × (i ≡ p)) ⊎ ((nat_eq i p ≡ false) × (i ≢ p)) →
        Allows text (outer_column text i m (Some p)) (Some i) q
    go (inl h) = (subst (λ z. z < column_of text q) (sym (outer_here text m p i h.1)) allows.0, grind (arith, right))
    go (inr h) =
        let above : m < column_of text q = allows.0 in
        let start : (Some p ≡ Some q) ⊎ (column_of text p < column_of text q) = allows.1 in
        let order : p ≤ i = before in
        let other : column_of text p < column_of text q = grind (arith, start, order, later, h.1) in
        let both : max m (column_of text p) < column_of text q = omega arith in
        (subst (λ z. z < column_of text q) (sym (outer_before text m p i h.1)) both, grind (arith, right))

-- the pair 0, -1 allows each token
pub all_allowed : (text : Input) (q : ℕ) → Allows text 0 None q
all_allowed text q = (omega arith, inr (omega arith))

pub column_within : (text : Input) (p : ℕ) → p ≤ length text.characters → column_at text (pos p) ≡ Some (pos (column_of text p))
column_within text p h = grind (arith, leb_tells p (length text.characters))

column_start : (text : Input) (f : Option ℕ) (i : ℕ) → IsBefore f i → i ≤ length text.characters →
    column_at text (start_value f) ≡ Some (pos (start_column text f))
column_start text None i before h = refl
column_start text (Some p) i before h = column_within text p (omega (arith, before, h))

pub int_eq_pos : (a b : ℕ) → int_eq (pos a) (pos b) ≡ nat_eq a b
int_eq_pos a b = grind (arith, Decides-int_eq (pos a) (pos b), eqb_tells a b)

is_start_is : (f : Option ℕ) (i : ℕ) → int_eq (pos i) (start_value f) ≡ is_start f i
is_start_is None i = refl
is_start_is (Some p) i = int_eq_pos i p

max_is : (a b : ℕ) → int_max (pos a) (pos b) ≡ pos (max a b)
max_is a b = grind (arith, leb_tells (suc b) a)

chosen : (b : Bool) (x y : ℕ) → (if b then pos x else pos y) ≡ pos (if b then x else y)
chosen true x y = refl
chosen false x y = refl

pub outer_is : (text : Input) (m : ℕ) (f : Option ℕ) (i : ℕ) → IsBefore f i → i ≤ length text.characters →
    outer text i (value.Int (pos m)) (value.Int (start_value f)) ≡ Some (value.Int (pos (outer_column text i m f)))
outer_is text m f i before h =
    rw (column_start text f i before h, is_start_is f i, max_is m (start_column text f), chosen (is_start f i) m (max m (start_column text f))) refl

inside_by_is : (text : Input) (m : ℕ) (f : Option ℕ) (i : ℕ) → IsBefore f i → i ≤ length text.characters →
    inside text i (value.Int (pos m)) (value.Int (start_value f)) ≡
    Some (value.Bool (nat_lt m (column_of text i) && (is_start f i || nat_lt (start_column text f) (column_of text i))))
inside_by_is text m f i before h =
    rw (column_within text i h, column_start text f i before h, is_start_is f i) refl

test_allows : (text : Input) (m : ℕ) (f : Option ℕ) (i : ℕ) →
    (nat_lt m (column_of text i) && (is_start f i || nat_lt (start_column text f) (column_of text i))) ≡ true → Allows text m f i
test_allows text m None i e = grind (arith, leb_tells (suc m) (column_of text i), leb_tells 1 (column_of text i), e)
test_allows text m (Some p) i e =
    grind (arith, leb_tells (suc m) (column_of text i), eqb_tells i p, leb_tells (suc (column_of text p)) (column_of text i), e)

allows_test : (text : Input) (m : ℕ) (f : Option ℕ) (i : ℕ) → Allows text m f i →
    (nat_lt m (column_of text i) && (is_start f i || nat_lt (start_column text f) (column_of text i))) ≡ true
allows_test text m None i a =
    let above : m < column_of text i = a.0 in
    grind (arith, leb_tells (suc m) (column_of text i), leb_tells 1 (column_of text i))
allows_test text m (Some p) i a =
    let above : m < column_of text i = a.0 in
    let right : (Some p ≡ Some i) ⊎ (column_of text p < column_of text i) = a.1 in
    grind (arith, leb_tells (suc m) (column_of text i), eqb_tells i p, leb_tells (suc (column_of text p)) (column_of text i))

-- the test before a token is true exactly where the pair allows it
pub inside_allows : (text : Input) (m : ℕ) (f : Option ℕ) (i : ℕ) → IsBefore f i → i ≤ length text.characters →
    inside text i (value.Int (pos m)) (value.Int (start_value f)) ≡ Some (value.Bool true) → Allows text m f i
inside_allows text m f i before h e = test_allows text m f i (true_of _ (sym (inside_by_is text m f i before h) ∙ e))

pub allows_inside : (text : Input) (m : ℕ) (f : Option ℕ) (i : ℕ) → IsBefore f i → i ≤ length text.characters →
    Allows text m f i → inside text i (value.Int (pos m)) (value.Int (start_value f)) ≡ Some (value.Bool true)
allows_inside text m f i before h a =
    inside_by_is text m f i before h ∙ ap (λ b. Some (value.Bool b)) (allows_test text m f i a)
