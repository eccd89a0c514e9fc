-- Laws of counts: what they say of a symbol, and of those directly inside it.
use Rattle.std.specs.Prelude.{◌≡◌, ℕ, ◌+◌, ◌≤◌, sum_by}
use Rattle.ig_grammar.specs.Symbol.{Symbol, Label, Opt, Star, Plus, SepStar, SepPlus, Group, Offside, Ignore, Align, Filtered, Seq, Entry}
use Rattle.ig_grammar.specs.Symbol.{Symbols, no_symbols, next_symbol, Alternatives, no_alternatives, next_alternative}
use Rattle.ig_grammar.specs.Subterms.{subterms, subterms_of_symbols, subterms_of_alternatives}
use Rattle.ig_grammar.specs.Counts.{own_parts, parts, parts_of_symbols, parts_of_alternatives}
use Rattle.ig_grammar.specs.Counts.{own_alternatives, alternatives_inside, alternatives_inside_symbols, alternatives_among}

-- the sum of a count over the symbols in those directly inside a symbol
abbrev pub inner_sum : (Symbol → ℕ) → Symbol → ℕ
inner_sum count (Label name x) = sum_by count (subterms x)
inner_sum count (Opt x) = sum_by count (subterms x)
inner_sum count (Star x) = sum_by count (subterms x)
inner_sum count (Plus x) = sum_by count (subterms x)
inner_sum count (SepStar x separator) = sum_by count (subterms x) + sum_by count (subterms separator)
inner_sum count (SepPlus x separator) = sum_by count (subterms x) + sum_by count (subterms separator)
inner_sum count (Group choices) = sum_by count (subterms_of_alternatives choices)
inner_sum count (Offside x) = sum_by count (subterms x)
inner_sum count (Ignore x) = sum_by count (subterms x)
inner_sum count (Align x) = sum_by count (subterms x)
inner_sum count (Filtered x filters) = sum_by count (subterms x)
inner_sum count (Seq xs) = sum_by count (subterms_of_symbols xs)
inner_sum count (Entry bindings x) = sum_by count (subterms x)
inner_sum count x = 0

abbrev pub symbols_sum : (Symbol → ℕ) → Symbols → ℕ
symbols_sum count no_symbols = 0
symbols_sum count (next_symbol x xs) = sum_by count (subterms x) + sum_by count (subterms_of_symbols xs)

abbrev pub alternatives_sum : (Symbol → ℕ) → Alternatives → ℕ
alternatives_sum count no_alternatives = 0
alternatives_sum count (next_alternative xs others) =
    sum_by count (subterms_of_symbols xs) + sum_by count (subterms_of_alternatives others)

-- a count over all symbols in a symbol is that of the symbol itself, and the sum over all symbols in those directly inside it
pub record CountsByForm : Type 0 where
  pub parts_of : (x : Symbol) → parts x ≡ own_parts x + inner_sum own_parts x
  pub some_part : (x : Symbol) → 1 ≤ own_parts x
  pub parts_among_symbols : (xs : Symbols) → parts_of_symbols xs ≡ symbols_sum own_parts xs
  pub parts_among_alternatives : (ys : Alternatives) → parts_of_alternatives ys ≡ alternatives_sum own_parts ys
  pub alternatives_of : (x : Symbol) → alternatives_inside x ≡ own_alternatives x + inner_sum own_alternatives x
  pub alternatives_of_group : (ys : Alternatives) → alternatives_inside (Group ys) ≡ alternatives_among ys
  pub alternatives_of_symbols : (xs : Symbols) → alternatives_inside_symbols xs ≡ symbols_sum own_alternatives xs
  pub no_alternative : alternatives_among no_alternatives ≡ 0
  pub further_alternative : (xs : Symbols) (ys : Alternatives) →
      alternatives_among (next_alternative xs ys) ≡ alternatives_inside_symbols xs + alternatives_among ys + 1
