-- How children are compared, and that nothing differs in equal trees.
use Rattle.std.proofs.Common.{◌≡◌, Bool, true, false, List, [], ◌∷◌, refl, sym, ◌∙◌, ap, arith}
use Rattle.std.proofs.lemmas.Cmp.{nat_cmp_total, int_cmp_total}
use Rattle.std.specs.Cmp.Lexicographic.{slice_cmp}
use Rattle.std.specs.declared.cmp.Ordering.{Ordering}
use Rattle.std.specs.declared.cmp.Ordering.TheVariants.{Less, Equal, Greater}
use Rattle.std.specs.Ordering.{ordering_then, ordering_reverse, nat_cmp, bool_cmp}
use Rattle.ig_text.specs.declared.text.Span.{Span}
use Rattle.ig_expr.specs.declared.value.Value.{Value}
use Rattle.ig_expr.specs.declared.value.Value.TheVariants as value
use Rattle.ig_expr.specs.ValuedTree.{Tree, Trees, Leaf, Node, none, more, one, join}
use Rattle.ig_text.specs.TagNumber.{number_of}
use Rattle.ig_text.proofs.Options.{then_assoc, then_nothing}
use Rattle.ig_expr.specs.ValueOrder.{value_cmp}
use Rattle.ig_expr.specs.TreeOrder.{begin_of, starts_cmp, tree_cmp, trees_cmp, children_cmp, count_of}

starts_last : (ts us : Trees) (t u : Tree) → count_of ts ≡ count_of us →
    starts_cmp (join ts (one t)) (join us (one u)) ≡ ordering_then (nat_cmp (begin_of t) (begin_of u)) (starts_cmp ts us)
starts_last none none t u same = sym (then_nothing (nat_cmp (begin_of t) (begin_of u)))
starts_last none (more b us) t u same = absurd (cc)
starts_last (more a ts) none t u same = absurd (cc)
starts_last (more a ts) (more b us) t u same =
    ap (λ o. ordering_then o (nat_cmp (begin_of a) (begin_of b))) (starts_last ts us t u (omega (arith, same))) ∙
    then_assoc (nat_cmp (begin_of t) (begin_of u)) (starts_cmp ts us) (nat_cmp (begin_of a) (begin_of b))

trees_last : (ts us : Trees) (t u : Tree) → count_of ts ≡ count_of us →
    trees_cmp (join ts (one t)) (join us (one u)) ≡ ordering_then (trees_cmp ts us) (tree_cmp t u)
trees_last none none t u same = then_nothing (tree_cmp t u)
trees_last none (more b us) t u same = absurd (cc)
trees_last (more a ts) none t u same = absurd (cc)
trees_last (more a ts) (more b us) t u same =
    ap (ordering_then (tree_cmp a b)) (trees_last ts us t u (omega (arith, same))) ∙
    sym (then_assoc (tree_cmp a b) (trees_cmp ts us) (tree_cmp t u))

pub children_last : (ts us : Trees) (t u : Tree) → count_of ts ≡ count_of us →
    children_cmp (join ts (one t)) (join us (one u)) ≡
    ordering_then (nat_cmp (begin_of t) (begin_of u)) (ordering_then (children_cmp ts us) (tree_cmp t u))
children_last ts us t u same =
    (λ k. ordering_then (starts_last ts us t u same k) (trees_last ts us t u same k)) ∙
    then_assoc (nat_cmp (begin_of t) (begin_of u)) (starts_cmp ts us) (ordering_then (trees_cmp ts us) (tree_cmp t u)) ∙
    ap (ordering_then (nat_cmp (begin_of t) (begin_of u))) (sym (then_assoc (starts_cmp ts us) (trees_cmp ts us) (tree_cmp t u)))

turned_then : (a b c d : Ordering) → a ≡ ordering_reverse c → b ≡ ordering_reverse d →
    ordering_then a b ≡ ordering_reverse (ordering_then c d)
turned_then a b Less d p q = rw p refl
turned_then a b Equal d p q = rw p q
turned_then a b Greater d p q = rw p refl

turned_bool : (a b : Bool) → bool_cmp a b ≡ ordering_reverse (bool_cmp b a)
turned_bool false false = refl
turned_bool false true = refl
turned_bool true false = refl
turned_bool true true = refl

turned_span : (a b : Span) → value_cmp (value.Span a) (value.Span b) ≡ ordering_reverse (value_cmp (value.Span b) (value.Span a))
turned_span a b =
    turned_then (nat_cmp a.begin b.begin) (nat_cmp a.end b.end) (nat_cmp b.begin a.begin) (nat_cmp b.end a.end)
    (nat_cmp_total.antisymm a.begin b.begin) (nat_cmp_total.antisymm a.end b.end)

turned_value : (v w : Value) → value_cmp v w ≡ ordering_reverse (value_cmp w v)
turned_value (value.Int a) (value.Int b) = int_cmp_total.antisymm a b
turned_value (value.Int a) (value.Bool b) = refl
turned_value (value.Int a) (value.Span b) = refl
turned_value (value.Bool a) (value.Int b) = refl
turned_value (value.Bool a) (value.Bool b) = turned_bool a b
turned_value (value.Bool a) (value.Span b) = refl
turned_value (value.Span a) (value.Int b) = refl
turned_value (value.Span a) (value.Bool b) = refl
turned_value (value.Span a) (value.Span b) = turned_span a b

turned_values : (vs ws : List Value) → slice_cmp value_cmp vs ws ≡ ordering_reverse (slice_cmp value_cmp ws vs)
turned_values [] [] = refl
turned_values [] (w ∷ ws) = refl
turned_values (v ∷ vs) [] = refl
turned_values (v ∷ vs) (w ∷ ws) =
    turned_then (value_cmp v w) (slice_cmp value_cmp vs ws) (value_cmp w v) (slice_cmp value_cmp ws vs) (turned_value v w) (turned_values vs ws)

turned_starts : (ts us : Trees) → starts_cmp ts us ≡ ordering_reverse (starts_cmp us ts)
turned_starts none none = refl
turned_starts none (more u us) = refl
turned_starts (more t ts) none = refl
turned_starts (more t ts) (more u us) =
    turned_then (starts_cmp ts us) (nat_cmp (begin_of t) (begin_of u)) (starts_cmp us ts) (nat_cmp (begin_of u) (begin_of t))
    (turned_starts ts us) (nat_cmp_total.antisymm (begin_of t) (begin_of u))

mutual
  pub turned_tree : (t u : Tree) → tree_cmp t u ≡ ordering_reverse (tree_cmp u t)
  turned_tree (Leaf i j) (Leaf k l) = refl
  turned_tree (Leaf i j) (Node tag bound k l us) = refl
  turned_tree (Node tag bound i j ts) (Leaf k l) = refl
  turned_tree (Node tag bound i j ts) (Node other vs k l us) =
      turned_then (nat_cmp (number_of tag) (number_of other)) _ (nat_cmp (number_of other) (number_of tag)) _ (nat_cmp_total.antisymm (number_of tag) (number_of other)) (turned_then (slice_cmp value_cmp bound vs) _ (slice_cmp value_cmp vs bound) _ (turned_values bound vs) (turned_then (starts_cmp ts us) _ (starts_cmp us ts) _ (turned_starts ts us) (turned_trees ts us)))

  turned_trees : (ts us : Trees) → trees_cmp ts us ≡ ordering_reverse (trees_cmp us ts)
  turned_trees none none = refl
  turned_trees none (more u us) = refl
  turned_trees (more t ts) none = refl
  turned_trees (more t ts) (more u us) =
      turned_then (tree_cmp t u) (trees_cmp ts us) (tree_cmp u t) (trees_cmp us ts) (turned_tree t u) (turned_trees ts us)

own_reverse : (o : Ordering) → o ≡ ordering_reverse o → o ≡ Equal
own_reverse Less e = cc
own_reverse Equal e = refl
own_reverse Greater e = cc

pub no_difference : (t : Tree) → tree_cmp t t ≡ Equal
no_difference t = own_reverse (tree_cmp t t) (turned_tree t t)
