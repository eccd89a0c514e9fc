-- Sums over the symbols in a symbol, by its form.
use Rattle.std.proofs.Common.{◌≡◌, ℕ, ◌+◌, ◌≤◌, List, [], ◌∷◌, ◌++◌, refl, arith}
use Rattle.std.specs.Prelude.{sum_by}
use Rattle.std.proofs.lemmas.List.Sums.{sum_by-cons, sum_by-append}
use Rattle.ig_grammar.specs.Symbol.{Symbol, Literal, OneOf, Call, Label, Guard, Let, Opt, Star, Plus, SepStar, SepPlus, Group, Offside, Ignore, Align, Filtered, Seq, Entry}
use Rattle.ig_grammar.specs.Symbol.{Symbols, no_symbols, next_symbol, Alternatives, no_alternatives, next_alternative}
use Rattle.ig_grammar.specs.Subterms.{subterms, subterms_of_symbols, subterms_of_alternatives}
use Rattle.ig_grammar.specs.Counts.{own_parts, own_alternatives, alternatives_among}
use Rattle.ig_grammar.specs.Laws.{inner_sum, symbols_sum, alternatives_sum, CountsByForm}

module _ (f : Symbol → ℕ) where
  counted_alone : (x : Symbol) → sum_by f (x ∷ []) ≡ f x + 0
  counted_alone x = sum_by-cons f x []

  counted_parted : (z x s : Symbol) → sum_by f (z ∷ subterms x ++ subterms s) ≡ f z + (sum_by f (subterms x) + sum_by f (subterms s))
  counted_parted z x s =
      let c = sum_by-cons f z (subterms x ++ subterms s) in
      let a = sum_by-append f (subterms x) (subterms s) in omega (arith, c, a)

  pub counted : (x : Symbol) → sum_by f (subterms x) ≡ f x + inner_sum f x
  counted (Literal w) = counted_alone (Literal w)
  counted (OneOf c) = counted_alone (OneOf c)
  counted (Call n es) = counted_alone (Call n es)
  counted (Label n x) = sum_by-cons f (Label n x) (subterms x)
  counted (Guard e) = counted_alone (Guard e)
  counted (Let n e) = counted_alone (Let n e)
  counted (Opt x) = sum_by-cons f (Opt x) (subterms x)
  counted (Star x) = sum_by-cons f (Star x) (subterms x)
  counted (Plus x) = sum_by-cons f (Plus x) (subterms x)
  counted (SepStar x s) = counted_parted (SepStar x s) x s
  counted (SepPlus x s) = counted_parted (SepPlus x s) x s
  counted (Group ys) = sum_by-cons f (Group ys) (subterms_of_alternatives ys)
  counted (Offside x) = sum_by-cons f (Offside x) (subterms x)
  counted (Ignore x) = sum_by-cons f (Ignore x) (subterms x)
  counted (Align x) = sum_by-cons f (Align x) (subterms x)
  counted (Filtered x fs) = sum_by-cons f (Filtered x fs) (subterms x)
  counted (Seq xs) = sum_by-cons f (Seq xs) (subterms_of_symbols xs)
  counted (Entry bs x) = sum_by-cons f (Entry bs x) (subterms x)

  pub symbols_counted : (xs : Symbols) → sum_by f (subterms_of_symbols xs) ≡ symbols_sum f xs
  symbols_counted no_symbols = refl
  symbols_counted (next_symbol x xs) = sum_by-append f (subterms x) (subterms_of_symbols xs)

  pub alternatives_counted : (ys : Alternatives) → sum_by f (subterms_of_alternatives ys) ≡ alternatives_sum f ys
  alternatives_counted no_alternatives = refl
  alternatives_counted (next_alternative xs ys) = sum_by-append f (subterms_of_symbols xs) (subterms_of_alternatives ys)

further : (xs : Symbols) (ys : Alternatives) →
    alternatives_among (next_alternative xs ys) ≡ sum_by own_alternatives (subterms_of_symbols xs) + alternatives_among ys + 1
further xs ys =
    let a = sum_by-append own_alternatives (subterms_of_symbols xs) (subterms_of_alternatives ys) in omega (arith, a)

some_part : (x : Symbol) → 1 ≤ own_parts x
some_part (Filtered x filters) = omega arith
some_part x = omega arith

pub counts : CountsByForm
counts =
    record {
      parts_of = counted own_parts;
      some_part = some_part;
      parts_among_symbols = symbols_counted own_parts;
      parts_among_alternatives = alternatives_counted own_parts;
      alternatives_of = counted own_alternatives;
      alternatives_of_group = λ ys. counted own_alternatives (Group ys);
      alternatives_of_symbols = symbols_counted own_alternatives;
      no_alternative = refl;
      further_alternative = further;
    }
