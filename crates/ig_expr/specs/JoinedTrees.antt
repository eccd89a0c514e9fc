-- Lists of trees with values, one behind the other. This stands here with its proofs, for what speaks of such trees; nothing of
-- it has to be believed.
use Rattle.std.proofs.Common.{◌≡◌, refl, ap}
use Rattle.ig_expr.specs.ValuedTree.{Trees, none, more, join}

-- what is joined first makes no difference
pub join_join : (ts us vs : Trees) → join (join ts us) vs ≡ join ts (join us vs)
join_join none us vs = refl
join_join (more t ts) us vs = ap (more t) (join_join ts us vs)

-- none behind the trees
pub join-none : (ts : Trees) → join ts none ≡ ts
join-none none = refl
join-none (more t ts) = ap (more t) (join-none ts)
