-- How what was read composes.
use Rattle.std.proofs.Common.{◌≡◌, Result, Ok, Err, ◌∙◌, subst, sym}
use Rattle.std.specs.Result.{IsErrAnd}
use Rattle.std.specs.Prelude.{IfErr, IfOk, OnOk}
use Rattle.ig_forest_reader.specs.Shown.{Reads}
use Rattle.ig_forest_reader.specs.declared.fault.ForestFault.{ForestFault}
use Rattle.ig_forest_reader.specs.declared.fault.ForestFault.TheVariants.{NotAForest, Memory}

-- what was read
pub read_ok : {A : Type 0} (P : A → Type 0) (N : Type 0) (r : Result A ForestFault) (x : A) → Reads P N r → r ≡ Ok x → P x
read_ok P N r x reads is = subst (λ (o : Result _ ForestFault). Reads P N o) is reads

-- where a part isn't read, the whole isn't
pub failed : {A B : Type 0} (P : A → Type 0) (Q : B → Type 0) (N M : Type 0) (r : Result A ForestFault) (e : ForestFault) →
    Reads P N r → r ≡ Err e → (N → M) → Reads Q M (Err e)
failed P Q N M r NotAForest reads is f = f (subst (λ (o : Result _ ForestFault). Reads P N o) is reads)
failed P Q N M r Memory reads is f = tt

-- the same after a `?`, which hands the fault on
pub failed_on : {A B : Type 0} (P : A → Type 0) (Q : B → Type 0) (N M : Type 0) (r : Result A ForestFault) (e : ForestFault)
    (s : Result B ForestFault) → Reads P N r → r ≡ Err e → IsErrAnd s (λ f. f ≡ e) → (N → M) → Reads Q M s
failed_on P Q N M r e (Ok x) reads is handed f = absurd (handed)
failed_on P Q N M r e (Err g) reads is handed f =
    subst (λ (z : ForestFault). Reads Q M (Err z)) (sym handed) (failed P Q N M r e reads is f)

-- a list that stays as it was where a call failed
pub no_ok : {B : Type 0} (Q : Type 0) (s : Result B ForestFault) (R : ForestFault → Type 0) → IsErrAnd s R → OnOk s Q
no_ok Q (Ok x) R handed = absurd (handed)
no_ok Q (Err g) R handed = tt

pub not_ok : {B : Type 0} (Q : B → Type 0) (s : Result B ForestFault) (R : ForestFault → Type 0) → IsErrAnd s R → IfOk s Q
not_ok Q (Ok x) R handed = absurd (handed)
not_ok Q (Err g) R handed = tt

-- a whole that isn't read
pub refused_on : {A B : Type 0} (P : A → Type 0) (N : Type 0) (r : Result A ForestFault) (e : ForestFault) (s : Result B ForestFault) →
    Reads P N r → r ≡ Err e → IsErrAnd s (λ f. f ≡ e) → IfErr s (λ f. f ≡ NotAForest → N)
refused_on P N r e (Ok x) reads is handed = absurd (handed)
refused_on P N r NotAForest (Err g) reads is handed = λ same. subst (λ (o : Result _ ForestFault). Reads P N o) is reads
refused_on P N r Memory (Err g) reads is handed = λ same. let e : Memory ≡ NotAForest = sym handed ∙ same in cc
