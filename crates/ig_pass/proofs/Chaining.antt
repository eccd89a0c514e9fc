-- 'Permits the same trees' is an equivalence, and 'keeps the values' chains.
use Rattle.ig_grammar.specs.Checked.{CheckedGrammar}
use Rattle.ig_pass.specs.SameTrees.{PermitSame, SameTreesIsAnEquivalence}
use Rattle.ig_pass.specs.SameValues.{KeepsValues}

itself : (a : CheckedGrammar) → PermitSame a a
itself a = record { same = λ text t. ((λ p. p), (λ p. p)) }

chained : (a b c : CheckedGrammar) → PermitSame a b → PermitSame b c → PermitSame a c
chained a b c p q =
    record { same = λ text t. ((λ h. (q.same text t).0 ((p.same text t).0 h)), (λ h. (p.same text t).1 ((q.same text t).1 h))) }

turned : (a b : CheckedGrammar) → PermitSame a b → PermitSame b a
turned a b p = record { same = λ text t. ((p.same text t).1, (p.same text t).0) }

own_values : (a : CheckedGrammar) → KeepsValues a a
own_values a = record { values = λ text t u p h. h }

values_chained : (a b c : CheckedGrammar) → PermitSame a b → KeepsValues a b → KeepsValues b c → KeepsValues a c
values_chained a b c p q r =
    record { values = λ text t u permitted h. r.values text t u ((p.same text t).0 permitted) (q.values text t u permitted h) }

pub same_trees : SameTreesIsAnEquivalence
same_trees = record { itself = itself; chained = chained; turned = turned; own_values = own_values; values_chained = values_chained }
