-- How many labels and lets with names of the notation are in a symbol.
use Rattle.std.specs.Prelude.{◌≡◌, ℕ, ◌+◌, Bool, count_by}
use Rattle.std.proofs.Common.{cond}
use Rattle.ig_grammar.specs.Name.{is_name}
use Rattle.ig_grammar.specs.Symbol.{Symbol, Literal, OneOf, Call, Label, Guard, Let, Opt, Star, Plus, SepStar, SepPlus, Group, Offside, Ignore, Align, Filtered, Seq, Entry}
use Rattle.ig_grammar.specs.Symbol.{Symbols, no_symbols, next_symbol, Alternatives, no_alternatives, next_alternative}
use Rattle.ig_grammar.specs.Visible.{Visible, inside_sequence}
use Rattle.ig_grammar.specs.Condition.{binds_name}

abbrev pub one_if : Bool → ℕ
one_if b = cond b 1 0

-- itself counted
abbrev mutual
  pub binders : Symbol → ℕ
  binders (Literal word) = 0
  binders (OneOf class) = 0
  binders (Call name arguments) = 0
  binders (Label name x) = one_if (is_name name) + binders x
  binders (Guard e) = 0
  binders (Let name e) = one_if (is_name name)
  binders (Opt x) = binders x
  binders (Star x) = binders x
  binders (Plus x) = binders x
  binders (SepStar x s) = binders x + binders s
  binders (SepPlus x s) = binders x + binders s
  binders (Group xs) = binders_of_choices xs
  binders (Offside x) = binders x
  binders (Ignore x) = binders x
  binders (Align x) = binders x
  binders (Filtered x fs) = binders x
  binders (Seq xs) = binders_of_symbols xs
  binders (Entry bs x) = binders x

  pub binders_of_symbols : Symbols → ℕ
  binders_of_symbols no_symbols = 0
  binders_of_symbols (next_symbol x xs) = binders x + binders_of_symbols xs

  pub binders_of_choices : Alternatives → ℕ
  binders_of_choices no_alternatives = 0
  binders_of_choices (next_alternative xs others) = binders_of_symbols xs + binders_of_choices others

-- whatever is visible, so many occurrences among the symbols of an alternative bind a name of the notation
abbrev pub BindersAreCounted : Type 0
BindersAreCounted =
    (xs : Symbols) (v : Visible) → count_by (λ o. binds_name o.symbol) (inside_sequence v xs) ≡ binders_of_symbols xs
