-- For the proof checker alone: a reader need not read this file.
-- Expressions stored as trees of labels, from which they are read back: so a proof tells expressions apart.
use Rattle.std.specs.Prelude.{◌≡◌, ℕ, ℤ, List, Bool, ◌⊎◌, refl}
use Rattle.std.specs.Coded.{Coded, code_by, coded_ℕ, coded_ℤ, coded_bool, coded_list, coded⊎}
use Rattle.std.proofs.Common.{inl, inr, ap}
use base.Stored.{Gv, gnil, gcons, coded_unit}
use Rattle.ig_text.specs.declared.pattern.Pattern.{Pattern}
use Rattle.ig_text.specs.contracts.pattern.Pattern as pattern
use Rattle.ig_expr.specs.declared.operator.Op.{Op}
use Rattle.ig_expr.specs.declared.operator.Function.{Function}
use Rattle.ig_expr.specs.contracts.operator.Op as op
use Rattle.ig_expr.specs.contracts.operator.Function as function
use Rattle.ig_expr.specs.Expression.{Expression, Integer, Truth, Here, Variable, Not, Negative, Binary, Of, Same, Spells, Outer, Inside, FreeBefore, FreeAfter}

-- a form, with what it has beside its operands
abbrev pub Plain : Type 0
Plain = Unit {0} ⊎ (Unit {0} ⊎ (Unit {0} ⊎ (Unit {0} ⊎ (Unit {0} ⊎ Unit {0}))))

abbrev pub Label : Type 0
Label = ℤ ⊎ (Bool ⊎ (List ℕ ⊎ (Pattern ⊎ (Pattern ⊎ (Op ⊎ (Function ⊎ (List ℕ ⊎ Plain)))))))

abbrev pub coded_plain : Coded Plain
coded_plain = coded⊎ coded_unit (coded⊎ coded_unit (coded⊎ coded_unit (coded⊎ coded_unit (coded⊎ coded_unit coded_unit))))

abbrev pub coded_label : Coded Label
coded_label =
    coded⊎ coded_ℤ (coded⊎ coded_bool (coded⊎ (coded_list coded_ℕ) (coded⊎ pattern.the_row.coded (coded⊎ pattern.the_row.coded (coded⊎ op.the_row.coded (coded⊎ function.the_row.coded (coded⊎ (coded_list coded_ℕ) coded_plain)))))))

pub data Labelled : Type 0 where
  none : Labelled
  node : Label → Labelled → Labelled → Labelled

abbrev pub code_of : Labelled → Gv
code_of none = gnil
code_of (node l a b) = gcons (coded_label.code l) (gcons (code_of a) (code_of b))

pub code_of-inj : (x y : Labelled) → code_of x ≡ code_of y → x ≡ y
code_of-inj none none p = refl
code_of-inj none (node m c d) p = cc
code_of-inj (node l a b) none p = cc
code_of-inj (node l a b) (node m c d) p =
    let label : l ≡ m = coded_label.inj l m cc in
    let first : a ≡ c = code_of-inj a c cc in
    let second : b ≡ d = code_of-inj b d cc in cc

abbrev pub coded_labelled : Coded Labelled
coded_labelled = record { code = code_of; inj = code_of-inj }

abbrev pub labelled : Expression → Labelled
labelled (Integer n) = node (inl n) none none
labelled (Truth b) = node (inr (inl b)) none none
labelled (Variable x) = node (inr (inr (inl x))) none none
labelled (FreeBefore p) = node (inr (inr (inr (inl p)))) none none
labelled (FreeAfter p) = node (inr (inr (inr (inr (inl p))))) none none
labelled (Binary o a b) = node (inr (inr (inr (inr (inr (inl o)))))) (labelled a) (labelled b)
labelled (Of f a) = node (inr (inr (inr (inr (inr (inr (inl f))))))) (labelled a) none
labelled (Spells a w) = node (inr (inr (inr (inr (inr (inr (inr (inl w)))))))) (labelled a) none
labelled Here = node (inr (inr (inr (inr (inr (inr (inr (inr (inl tt))))))))) none none
labelled (Not a) = node (inr (inr (inr (inr (inr (inr (inr (inr (inr (inl tt)))))))))) (labelled a) none
labelled (Negative a) = node (inr (inr (inr (inr (inr (inr (inr (inr (inr (inr (inl tt))))))))))) (labelled a) none
labelled (Same a b) = node (inr (inr (inr (inr (inr (inr (inr (inr (inr (inr (inr (inl tt)))))))))))) (labelled a) (labelled b)
labelled (Outer a b) = node (inr (inr (inr (inr (inr (inr (inr (inr (inr (inr (inr (inr (inl tt))))))))))))) (labelled a) (labelled b)
labelled (Inside a b) = node (inr (inr (inr (inr (inr (inr (inr (inr (inr (inr (inr (inr (inr tt))))))))))))) (labelled a) (labelled b)

abbrev pub read_back : Labelled → Expression
read_back none = Here
read_back (node (inl n) a b) = Integer n
read_back (node (inr (inl t)) a b) = Truth t
read_back (node (inr (inr (inl x))) a b) = Variable x
read_back (node (inr (inr (inr (inl p)))) a b) = FreeBefore p
read_back (node (inr (inr (inr (inr (inl p))))) a b) = FreeAfter p
read_back (node (inr (inr (inr (inr (inr (inl o)))))) a b) = Binary o (read_back a) (read_back b)
read_back (node (inr (inr (inr (inr (inr (inr (inl f))))))) a b) = Of f (read_back a)
read_back (node (inr (inr (inr (inr (inr (inr (inr (inl w)))))))) a b) = Spells (read_back a) w
read_back (node (inr (inr (inr (inr (inr (inr (inr (inr (inl t))))))))) a b) = Here
read_back (node (inr (inr (inr (inr (inr (inr (inr (inr (inr (inl t)))))))))) a b) = Not (read_back a)
read_back (node (inr (inr (inr (inr (inr (inr (inr (inr (inr (inr (inl t))))))))))) a b) = Negative (read_back a)
read_back (node (inr (inr (inr (inr (inr (inr (inr (inr (inr (inr (inr (inl t)))))))))))) a b) = Same (read_back a) (read_back b)
read_back (node (inr (inr (inr (inr (inr (inr (inr (inr (inr (inr (inr (inr (inl t))))))))))))) a b) = Outer (read_back a) (read_back b)
read_back (node (inr (inr (inr (inr (inr (inr (inr (inr (inr (inr (inr (inr (inr t))))))))))))) a b) = Inside (read_back a) (read_back b)

pub read_back-labelled : (e : Expression) → read_back (labelled e) ≡ e
read_back-labelled (Integer n) = refl
read_back-labelled (Truth b) = refl
read_back-labelled (Variable x) = refl
read_back-labelled (FreeBefore p) = refl
read_back-labelled (FreeAfter p) = refl
read_back-labelled (Binary o a b) = λ i. Binary o (read_back-labelled a i) (read_back-labelled b i)
read_back-labelled (Of f a) = ap (Of f) (read_back-labelled a)
read_back-labelled (Spells a w) = ap (λ t. Spells t w) (read_back-labelled a)
read_back-labelled Here = refl
read_back-labelled (Not a) = ap Not (read_back-labelled a)
read_back-labelled (Negative a) = ap Negative (read_back-labelled a)
read_back-labelled (Same a b) = λ i. Same (read_back-labelled a i) (read_back-labelled b i)
read_back-labelled (Outer a b) = λ i. Outer (read_back-labelled a i) (read_back-labelled b i)
read_back-labelled (Inside a b) = λ i. Inside (read_back-labelled a i) (read_back-labelled b i)

abbrev pub expression_code : Coded Expression
expression_code = code_by Labelled coded_labelled labelled read_back read_back-labelled
