-- The order of trees is transitive.
use Rattle.std.proofs.Common.{◌≡◌, Bool, true, false, List, [], ◌∷◌, refl, sym, ◌∙◌, ap, subst}
use Rattle.std.specs.Cmp.{IsTotalOrder}
use Rattle.std.proofs.lemmas.Cmp.{nat_cmp_total, int_cmp_total, alike_right}
use Rattle.std.specs.Cmp.Lexicographic.{slice_cmp}
use Rattle.std.specs.declared.cmp.Ordering.{Ordering}
use Rattle.std.specs.declared.cmp.Ordering.TheVariants.{Less, Equal, Greater}
use Rattle.std.specs.Ordering.{ordering_then, ordering_reverse, nat_cmp, int_cmp, bool_cmp}
use Rattle.ig_expr.specs.declared.value.Value.{Value}
use Rattle.ig_expr.specs.declared.value.Value.TheVariants as value
use Rattle.ig_expr.specs.ValuedTree.{Tree, Trees, Leaf, Node, none, more}
use Rattle.ig_text.specs.TagNumber.{number_of}
use Rattle.ig_expr.specs.ValueOrder.{value_cmp}
use Rattle.ig_expr.specs.TreeOrder.{begin_of, starts_cmp, tree_cmp, trees_cmp}

-- what two comparisons, of a with b and of b with c, say of the one of a with c
abbrev Chains : Ordering → Ordering → Ordering → Type 0
Chains Less Less z = z ≡ Less
Chains Less Equal z = z ≡ Less
Chains Less Greater z = Unit {0}
Chains Equal y z = z ≡ y
Chains Greater Less z = Unit {0}
Chains Greater Equal z = z ≡ Greater
Chains Greater Greater z = z ≡ Greater

from_less : (y z : Ordering) → z ≡ Less → Chains Less y z
from_less Less z e = e
from_less Equal z e = e
from_less Greater z e = tt

from_greater : (y z : Ordering) → z ≡ Greater → Chains Greater y z
from_greater Less z e = tt
from_greater Equal z e = e
from_greater Greater z e = e

to_less : (x z : Ordering) → z ≡ Less → Chains x Less z
to_less Less z e = e
to_less Equal z e = e
to_less Greater z e = tt

to_greater : (x z : Ordering) → z ≡ Greater → Chains x Greater z
to_greater Less z e = tt
to_greater Equal z e = e
to_greater Greater z e = e

then_is : (a b c : Ordering) → a ≡ c → ordering_then a b ≡ ordering_then c b
then_is a b c e = ap (λ o. ordering_then o b) e

then_chains : (x y z p q r : Ordering) → Chains x y z → Chains p q r →
    Chains (ordering_then x p) (ordering_then y q) (ordering_then z r)
then_chains Less Less z p q r e f = then_is z r Less e
then_chains Less Equal z p q r e f = from_less q (ordering_then z r) (then_is z r Less e)
then_chains Less Greater z p q r e f = tt
then_chains Equal Less z p q r e f = to_less p (ordering_then z r) (then_is z r Less e)
then_chains Equal Equal z p q r e f = subst (Chains p q) (sym (then_is z r Equal e)) f
then_chains Equal Greater z p q r e f = to_greater p (ordering_then z r) (then_is z r Greater e)
then_chains Greater Less z p q r e f = tt
then_chains Greater Equal z p q r e f = from_greater q (ordering_then z r) (then_is z r Greater e)
then_chains Greater Greater z p q r e f = then_is z r Greater e

by_cases : (x y z : Ordering) → (x ≡ Less → y ≡ Less → z ≡ Less) → (x ≡ Equal → z ≡ y) → (y ≡ Equal → z ≡ x) →
    (x ≡ Greater → y ≡ Greater → z ≡ Greater) → Chains x y z
by_cases Less Less z less left right greater = less refl refl
by_cases Less Equal z less left right greater = right refl
by_cases Less Greater z less left right greater = tt
by_cases Equal y z less left right greater = left refl
by_cases Greater Less z less left right greater = tt
by_cases Greater Equal z less left right greater = right refl
by_cases Greater Greater z less left right greater = greater refl refl

of_total : {K : Type 0} {R : K → K → Ordering} → IsTotalOrder R → (a b c : K) → Chains (R a b) (R b c) (R a c)
of_total {R = R} o a b c =
    by_cases (R a b) (R b c) (R a c) (o.trans a b c) (o.congr a b c) (λ e. sym (alike_right o b c a e)) (λ p q.
    o.antisymm a c ∙ ap ordering_reverse (o.trans c b a (o.antisymm c b ∙ ap ordering_reverse q) (o.antisymm b a ∙ ap ordering_reverse p)))

bool_chains : (a b c : Bool) → Chains (bool_cmp a b) (bool_cmp b c) (bool_cmp a c)
bool_chains false false false = refl
bool_chains false false true = refl
bool_chains false true false = tt
bool_chains false true true = refl
bool_chains true false false = refl
bool_chains true false true = tt
bool_chains true true false = refl
bool_chains true true true = refl

value_chains : (u v w : Value) → Chains (value_cmp u v) (value_cmp v w) (value_cmp u w)
value_chains (value.Int a) (value.Int b) (value.Int c) = of_total int_cmp_total a b c
value_chains (value.Int a) (value.Int b) (value.Bool c) = to_less (int_cmp a b) Less refl
value_chains (value.Int a) (value.Int b) (value.Span c) = to_less (int_cmp a b) Less refl
value_chains (value.Int a) (value.Bool b) (value.Int c) = tt
value_chains (value.Int a) (value.Bool b) (value.Bool c) = from_less (bool_cmp b c) Less refl
value_chains (value.Int a) (value.Bool b) (value.Span c) = refl
value_chains (value.Int a) (value.Span b) (value.Int c) = tt
value_chains (value.Int a) (value.Span b) (value.Bool c) = tt
value_chains (value.Int a) (value.Span b) (value.Span c) = from_less (value_cmp (value.Span b) (value.Span c)) Less refl
value_chains (value.Bool a) (value.Int b) (value.Int c) = from_greater (int_cmp b c) Greater refl
value_chains (value.Bool a) (value.Int b) (value.Bool c) = tt
value_chains (value.Bool a) (value.Int b) (value.Span c) = tt
value_chains (value.Bool a) (value.Bool b) (value.Int c) = to_greater (bool_cmp a b) Greater refl
value_chains (value.Bool a) (value.Bool b) (value.Bool c) = bool_chains a b c
value_chains (value.Bool a) (value.Bool b) (value.Span c) = to_less (bool_cmp a b) Less refl
value_chains (value.Bool a) (value.Span b) (value.Int c) = tt
value_chains (value.Bool a) (value.Span b) (value.Bool c) = tt
value_chains (value.Bool a) (value.Span b) (value.Span c) = from_less (value_cmp (value.Span b) (value.Span c)) Less refl
value_chains (value.Span a) (value.Int b) (value.Int c) = from_greater (int_cmp b c) Greater refl
value_chains (value.Span a) (value.Int b) (value.Bool c) = tt
value_chains (value.Span a) (value.Int b) (value.Span c) = tt
value_chains (value.Span a) (value.Bool b) (value.Int c) = refl
value_chains (value.Span a) (value.Bool b) (value.Bool c) = from_greater (bool_cmp b c) Greater refl
value_chains (value.Span a) (value.Bool b) (value.Span c) = tt
value_chains (value.Span a) (value.Span b) (value.Int c) = to_greater (value_cmp (value.Span a) (value.Span b)) Greater refl
value_chains (value.Span a) (value.Span b) (value.Bool c) = to_greater (value_cmp (value.Span a) (value.Span b)) Greater refl
value_chains (value.Span a) (value.Span b) (value.Span c) =
    then_chains (nat_cmp a.begin b.begin) (nat_cmp b.begin c.begin) (nat_cmp a.begin c.begin) (nat_cmp a.end b.end) (nat_cmp b.end c.end) (nat_cmp a.end c.end) (of_total nat_cmp_total a.begin b.begin c.begin) (of_total nat_cmp_total a.end b.end c.end)

values_chain : (us vs ws : List Value) → Chains (slice_cmp value_cmp us vs) (slice_cmp value_cmp vs ws) (slice_cmp value_cmp us ws)
values_chain [] [] ws = refl
values_chain [] (v ∷ vs) [] = tt
values_chain [] (v ∷ vs) (w ∷ ws) = from_less (slice_cmp value_cmp (v ∷ vs) (w ∷ ws)) Less refl
values_chain (u ∷ us) [] [] = refl
values_chain (u ∷ us) [] (w ∷ ws) = tt
values_chain (u ∷ us) (v ∷ vs) [] = to_greater (slice_cmp value_cmp (u ∷ us) (v ∷ vs)) Greater refl
values_chain (u ∷ us) (v ∷ vs) (w ∷ ws) =
    then_chains (value_cmp u v) (value_cmp v w) (value_cmp u w) (slice_cmp value_cmp us vs) (slice_cmp value_cmp vs ws) (slice_cmp value_cmp us ws) (value_chains u v w) (values_chain us vs ws)

starts_chain : (ts us vs : Trees) → Chains (starts_cmp ts us) (starts_cmp us vs) (starts_cmp ts vs)
starts_chain none none vs = refl
starts_chain none (more u us) none = tt
starts_chain none (more u us) (more v vs) = from_less (starts_cmp (more u us) (more v vs)) Less refl
starts_chain (more t ts) none none = refl
starts_chain (more t ts) none (more v vs) = tt
starts_chain (more t ts) (more u us) none = to_greater (starts_cmp (more t ts) (more u us)) Greater refl
starts_chain (more t ts) (more u us) (more v vs) =
    then_chains (starts_cmp ts us) (starts_cmp us vs) (starts_cmp ts vs) (nat_cmp (begin_of t) (begin_of u)) (nat_cmp (begin_of u) (begin_of v)) (nat_cmp (begin_of t) (begin_of v)) (starts_chain ts us vs) (of_total nat_cmp_total (begin_of t) (begin_of u) (begin_of v))

mutual
  tree_chains : (t u v : Tree) → Chains (tree_cmp t u) (tree_cmp u v) (tree_cmp t v)
  tree_chains (Leaf i j) (Leaf k l) v = refl
  tree_chains (Leaf i j) (Node tag bound k l us) (Leaf m n) = tt
  tree_chains (Leaf i j) (Node tag bound k l us) (Node other values m n vs) =
      from_less (tree_cmp (Node tag bound k l us) (Node other values m n vs)) Less refl
  tree_chains (Node tag bound i j ts) (Leaf k l) (Leaf m n) = refl
  tree_chains (Node tag bound i j ts) (Leaf k l) (Node other values m n vs) = tt
  tree_chains (Node tag bound i j ts) (Node other values k l us) (Leaf m n) =
      to_greater (tree_cmp (Node tag bound i j ts) (Node other values k l us)) Greater refl
  tree_chains (Node tag bound i j ts) (Node other values k l us) (Node last final m n vs) =
      then_chains (nat_cmp (number_of tag) (number_of other)) (nat_cmp (number_of other) (number_of last)) (nat_cmp (number_of tag) (number_of last)) _ _ _ (of_total nat_cmp_total (number_of tag) (number_of other) (number_of last)) (then_chains (slice_cmp value_cmp bound values) (slice_cmp value_cmp values final) (slice_cmp value_cmp bound final) _ _ _ (values_chain bound values final) (then_chains (starts_cmp ts us) (starts_cmp us vs) (starts_cmp ts vs) (trees_cmp ts us) (trees_cmp us vs) (trees_cmp ts vs) (starts_chain ts us vs) (trees_chain ts us vs)))

  trees_chain : (ts us vs : Trees) → Chains (trees_cmp ts us) (trees_cmp us vs) (trees_cmp ts vs)
  trees_chain none none vs = refl
  trees_chain none (more u us) none = tt
  trees_chain none (more u us) (more v vs) = from_less (trees_cmp (more u us) (more v vs)) Less refl
  trees_chain (more t ts) none none = refl
  trees_chain (more t ts) none (more v vs) = tt
  trees_chain (more t ts) (more u us) none = to_greater (trees_cmp (more t ts) (more u us)) Greater refl
  trees_chain (more t ts) (more u us) (more v vs) =
      then_chains (tree_cmp t u) (tree_cmp u v) (tree_cmp t v) (trees_cmp ts us) (trees_cmp us vs) (trees_cmp ts vs) (tree_chains t u v) (trees_chain ts us vs)

less_then_less : (x y z : Ordering) → Chains x y z → x ≡ Less → y ≡ Less → z ≡ Less
less_then_less x y z chain e f =
    subst (λ o. Chains Less o z) f (subst (λ o. Chains o y z) e chain)

equal_then : (x y z : Ordering) → Chains x y z → x ≡ Equal → z ≡ y
equal_then x y z chain e = subst (λ o. Chains o y z) e chain

pub onward : (t u v : Tree) → tree_cmp t u ≡ Less → tree_cmp u v ≡ Less → tree_cmp t v ≡ Less
onward t u v e f = less_then_less (tree_cmp t u) (tree_cmp u v) (tree_cmp t v) (tree_chains t u v) e f

pub alike : (t u v : Tree) → tree_cmp t u ≡ Equal → tree_cmp t v ≡ tree_cmp u v
alike t u v e = equal_then (tree_cmp t u) (tree_cmp u v) (tree_cmp t v) (tree_chains t u v) e
