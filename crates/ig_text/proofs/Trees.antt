-- Lists of trees one behind the other.
use Rattle.std.proofs.Common.{◌≡◌, refl, sym, ap, ap₂, max, arith}
use Rattle.ig_text.specs.Tree.{Tree, Trees, none, more, one, join, height, greatest_height}

-- what is joined first makes no difference
pub join_join : (ts us vs : Trees) → join (join ts us) vs ≡ join ts (join us vs)
join_join none us vs = refl
join_join (more t ts) us vs = ap (more t) (join_join ts us vs)

-- none behind the trees
pub join-none : (ts : Trees) → join ts none ≡ ts
join-none none = refl
join-none (more t ts) = ap (more t) (join-none ts)

-- trees that are joined are no higher than the higher ones
pub joined_height : (ts us : Trees) → greatest_height (join ts us) ≡ max (greatest_height ts) (greatest_height us)
joined_height none us = let h : greatest_height us ≡ max 0 (greatest_height us) = omega arith in h
joined_height (more t ts) us =
    let h = joined_height ts us in
    let i : max (height t) (greatest_height (join ts us)) ≡ max (max (height t) (greatest_height ts)) (greatest_height us) = omega (arith, h) in i

-- the first tree, and those behind it
pub more_parts : (s r : Tree) (ts us : Trees) → more s ts ≡ more r us → (s ≡ r) × (ts ≡ us)
more_parts s r ts us e = (cc, cc)

-- trees with one behind are not none
pub never_none : (ts : Trees) (t : Tree) → join ts (one t) ≡ none → ⊥
never_none none t e = cc
never_none (more s ts) t e = cc

-- the last tree, and those before it
pub record Parted (ts us : Trees) (t u : Tree) : Type 0 where
  pub before : ts ≡ us
  pub last : t ≡ u

-- of equal lists of trees with a last one each
pub parted : (ts us : Trees) (t u : Tree) → join ts (one t) ≡ join us (one u) → Parted ts us t u
parted none none t u e = record { before = refl; last = (more_parts t u none none e).0 }
parted none (more r us) t u e = absurd (never_none us u (sym (more_parts t r none (join us (one u)) e).1))
parted (more s ts) none t u e = absurd (never_none ts t (more_parts s u (join ts (one t)) none e).1)
parted (more s ts) (more r us) t u e =
    let p = more_parts s r (join ts (one t)) (join us (one u)) e in
    let h = parted ts us t u p.1 in record { before = ap₂ more p.0 h.before; last = h.last }
