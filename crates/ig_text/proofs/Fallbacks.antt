-- Options with another one behind them, and options that a test chooses.
use Rattle.std.proofs.Common.{◌≡◌, ◌||◌, Bool, true, false, cond, Option, Some, None, refl}
use Rattle.std.specs.Option.{option_or}
use Rattle.std.specs.Prelude.{is_some}

-- nothing behind an option changes nothing
pub or_none : {X : Type 0} (o : Option X) → option_or o None ≡ o
or_none None = refl
or_none (Some x) = refl

-- a value that a test puts first comes before both
pub or_cond : {X : Type 0} (t : Bool) (v : X) (a b : Option X) → cond t (Some v) (option_or a b) ≡ option_or (cond t (Some v) a) b
or_cond true v a b = refl
or_cond false v a b = refl

-- there is a value where the test puts one first, and where there was one
pub some_cond : {X : Type 0} (t : Bool) (v : X) (a : Option X) → is_some (cond t (Some v) a) ≡ (t || is_some a)
some_cond true v a = refl
some_cond false v a = refl
