-- How many members a filter keeps.
use Rattle.std.proofs.Common.{◌≡◌, ◌+◌, List, ◌∷◌, Bool, true, false, cond, length, arith}

-- one more where the first member passes
pub one_kept : {X : Type 0} (b : Bool) (x : X) (ys : List X) → length (cond b (x ∷ ys) ys) ≡ cond b 1 0 + length ys
one_kept true x ys = omega arith
one_kept false x ys = omega arith
