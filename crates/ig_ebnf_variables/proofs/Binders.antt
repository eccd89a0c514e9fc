-- In what is lowered no more labels and lets stand than in the source.
use Rattle.std.proofs.Common.{◌≡◌, ℕ, ◌+◌, List, [], ◌∷◌, ◌++◌, ap, arith}
use Rattle.ig_grammar.specs.Symbol.{Symbol, Literal, OneOf, Call, Label, Guard, Let, Opt, Star, Plus, SepStar}
use Rattle.ig_grammar.specs.Symbol.{SepPlus, Group, Offside, Ignore, Align, Filtered, Seq, Entry}
use Rattle.ig_grammar.specs.Symbol.{Symbols, no_symbols, next_symbol}
use Rattle.ig_grammar.specs.Symbol.{gathered}
use Rattle.ig_grammar.specs.Visible.{Visible, binds}
use Rattle.std.proofs.lemmas.List.{map-append}
use Rattle.std.specs.Prelude.{◌≤◌}
use Rattle.ig_pass.specs.Binders.{binders, binders_of_symbols}
use Rattle.ig_ebnf_variables.specs.Lists.{count as added_count, elements, all_elements, new_symbol, new_element, new}
use Rattle.ig_ebnf_variables.specs.Lists.{new_symbols}

binders_both : (xs ys : List Symbol) →
    binders_of_symbols (gathered (xs ++ ys)) ≡ binders_of_symbols (gathered xs) + binders_of_symbols (gathered ys)
binders_both [] ys = omega arith
binders_both (x ∷ xs) ys = let below = binders_both xs ys in omega (arith, below)

module _ (of : List ℕ) where
  single_fewer : (x : Symbol) (v : Visible) (k : ℕ) → binders (new_symbol of v k x) ≤ binders x
  single_fewer (Literal w) v k = omega arith
  single_fewer (OneOf w) v k = omega arith
  single_fewer (Call m es) v k = omega arith
  single_fewer (Label m x) v k = let below = single_fewer x v k in omega (arith, below)
  single_fewer (Guard e) v k = omega arith
  single_fewer (Let m e) v k = omega arith
  single_fewer (Opt x) v k = omega arith
  single_fewer (Star x) v k = omega arith
  single_fewer (Plus x) v k = omega arith
  single_fewer (SepStar x s) v k = omega arith
  single_fewer (SepPlus x s) v k = omega arith
  single_fewer (Group ys) v k = omega arith
  single_fewer (Offside x) v k = omega arith
  single_fewer (Ignore x) v k = omega arith
  single_fewer (Align x) v k = omega arith
  single_fewer (Filtered x fs) v k = let below = single_fewer x v k in omega (arith, below)
  single_fewer (Seq xs) v k = omega arith
  single_fewer (Entry bs x) v k = omega arith

  one_fewer : (x : Symbol) (v : Visible) (k : ℕ) → binders (new_symbol of v k x) + 0 ≤ binders x
  one_fewer x v k = let below = single_fewer x v k in omega (arith, below)

  mutual
    fewer : (x : Symbol) (v : Visible) (k : ℕ) → binders_of_symbols (gathered (new of v k x)) ≤ binders x
    fewer (Literal w) v k = one_fewer (Literal w) v k
    fewer (OneOf w) v k = one_fewer (OneOf w) v k
    fewer (Call m es) v k = one_fewer (Call m es) v k
    fewer (Label m x) v k = one_fewer (Label m x) v k
    fewer (Guard e) v k = one_fewer (Guard e) v k
    fewer (Let m e) v k = one_fewer (Let m e) v k
    fewer (Opt x) v k = one_fewer (Opt x) v k
    fewer (Star x) v k = one_fewer (Star x) v k
    fewer (Plus x) v k = one_fewer (Plus x) v k
    fewer (SepStar x s) v k = one_fewer (SepStar x s) v k
    fewer (SepPlus x s) v k = one_fewer (SepPlus x s) v k
    fewer (Group ys) v k = one_fewer (Group ys) v k
    fewer (Offside x) v k = one_fewer (Offside x) v k
    fewer (Ignore x) v k = one_fewer (Ignore x) v k
    fewer (Align x) v k = one_fewer (Align x) v k
    fewer (Filtered x fs) v k = one_fewer (Filtered x fs) v k
    fewer (Seq xs) v k = all_fewer xs v k
    fewer (Entry bs x) v k = one_fewer (Entry bs x) v k

    -- no more labels and lets in an alternative than before
    pub all_fewer : (xs : Symbols) (v : Visible) (k : ℕ) →
        binders_of_symbols (gathered (new_symbols of v k xs)) ≤ binders_of_symbols xs
    all_fewer no_symbols v k = omega arith
    all_fewer (next_symbol x xs) v k =
        let u = v ++ binds v x in
        let first = fewer x v k in
        let rest = all_fewer xs u (k + added_count x) in
        let both = binders_both (new of v k x) (new_symbols of u (k + added_count x) xs) in
        let split : binders_of_symbols (gathered (new_symbols of v k (next_symbol x xs))) ≡ binders_of_symbols
        (gathered (new of v k x ++ new_symbols of u (k + added_count x) xs)) =
        ap (λ z. binders_of_symbols (gathered z))
        (map-append (new_element of) (elements v k x) (all_elements u (k + added_count x) xs)) in
        omega (arith, first, rest, both, split)
