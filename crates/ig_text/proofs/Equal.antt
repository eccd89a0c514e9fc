-- Equal lists have equal members.
use Rattle.std.proofs.Common.{◌≡◌, List, [], ◌∷◌, Some, map, refl, ap₂}
use Rattle.std.proofs.lemmas.Option.{same_Some}

-- equal lists have equal first members
pub same_first : {X : Type 0} (x y : X) (xs ys : List X) → x ∷ xs ≡ y ∷ ys → x ≡ y
same_first x y xs ys e = cc

-- and the others are equal, too
pub same_rest : {X : Type 0} (x y : X) (xs ys : List X) → x ∷ xs ≡ y ∷ ys → xs ≡ ys
same_rest x y xs ys e = cc

-- members are known by what `Some` makes of them
pub same_listed : {X : Type 0} (us vs : List X) → map Some us ≡ map Some vs → us ≡ vs
same_listed [] [] e = refl
same_listed [] (v ∷ vs) e = cc
same_listed (u ∷ us) [] e = cc
same_listed (u ∷ us) (v ∷ vs) e =
    ap₂ (λ z zs. z ∷ zs) (same_Some u v (same_first (Some u) (Some v) (map Some us) (map Some vs) e))
    (same_listed us vs (same_rest (Some u) (Some v) (map Some us) (map Some vs) e))
