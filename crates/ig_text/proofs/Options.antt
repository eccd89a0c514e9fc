-- Values that may be missing, results, and orderings.
use Rattle.std.proofs.Common.{◌≡◌, Bool, true, false, not, Option, Some, None, refl, sym, ap, ◌∙◌, Result, Ok, Err}
use Rattle.std.specs.Prelude.{is_some, is_none, option_map, option_and_then, OnOk}
use Rattle.std.specs.declared.cmp.Ordering.{Ordering}
use Rattle.std.specs.declared.cmp.Ordering.TheVariants.{Less, Equal, Greater}
use Rattle.std.specs.Ordering.{ordering_then}
use Rattle.std.specs.Result.{IsErrAnd}

-- an option has one value
pub one_value : {X : Type 0} (o : Option X) (x y : X) → o ≡ Some x → o ≡ Some y → x ≡ y
one_value o x y e f = let both : Some x ≡ Some y = sym e ∙ f in cc

-- an option has a value or none
pub not_none : {X : Type 0} (o : Option X) (x : X) → o ≡ None → o ≡ Some x → ⊥
not_none o x e f = let both : None ≡ Some x = sym e ∙ f in cc

-- what a value under a function is made of
pub mapped : {X Y : Type 0} (f : X → Y) (o : Option X) (y : Y) → option_map f o ≡ Some y →
    (x : X) × (o ≡ Some x) × (y ≡ f x)
mapped f None y h = absurd (cc)
mapped f (Some x) y h = (x, refl, cc)

-- what a value behind a step that may give none is made of
pub stepped : {X Y : Type 0} (f : X → Option Y) (o : Option X) (y : Y) → option_and_then f o ≡ Some y →
    (x : X) × (o ≡ Some x) × (f x ≡ Some y)
stepped f None y e = absurd (cc)
stepped f (Some x) y e = (x, refl, e)

-- a test that is the contrary of 'is there' is 'is missing'
pub is_missing : {X : Type 0} (o : Option X) (b : Bool) → is_some o ≡ not b → is_none o ≡ b
is_missing None true e = refl
is_missing None false e = cc
is_missing (Some x) true e = cc
is_missing (Some x) false e = refl

-- parts of an order that are equal together are equal each
pub equal_parts : (a b : Ordering) → ordering_then a b ≡ Equal → (a ≡ Equal) × (b ≡ Equal)
equal_parts Less b e = cc
equal_parts Equal b e = (refl, e)
equal_parts Greater b e = cc

-- what an `Ok` says is carried over an equality
pub on_ok_same : {T E A : Type 0} (r : Result T E) (x y z : A) → OnOk r (x ≡ y) → y ≡ z → OnOk r (x ≡ z)
on_ok_same (Ok t) x y z h e = h ∙ e
on_ok_same (Err f) x y z h e = tt

-- of three parts, those that are taken together first make no difference
pub then_assoc : (a b c : Ordering) → ordering_then (ordering_then a b) c ≡ ordering_then a (ordering_then b c)
then_assoc Less b c = refl
then_assoc Equal b c = refl
then_assoc Greater b c = refl

-- an equal last part decides nothing
pub then_nothing : (o : Ordering) → ordering_then o Equal ≡ o
then_nothing Less = refl
then_nothing Equal = refl
then_nothing Greater = refl

-- an error that is passed on is the result
pub passed_on : {T E : Type 0} (r : Result T E) (e : E) → IsErrAnd r (λ f. f ≡ e) → r ≡ Err e
passed_on (Ok t) e h = absurd h
passed_on (Err f) e h = ap Err h
