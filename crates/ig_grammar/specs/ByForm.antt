-- A fact of all symbols in a symbol is one of the symbol itself, and of all symbols in those directly inside it. This stands here
-- with its proofs, since a clause ranges over no properties; nothing of it has to be believed.
use Rattle.std.specs.Prelude.{List, [], ◌∷◌, ◌++◌, All}
use Rattle.std.proofs.lemmas.List.Elements.{All-nil, All-cons, All-head, All-tail, All-append}
use Rattle.ig_text.proofs.Lists.{halves}
use Rattle.ig_grammar.specs.Symbol.{Symbol, Literal, OneOf, Call, Label, Guard, Let, Opt, Star, Plus, SepStar, SepPlus, Group, Offside, Ignore, Align, Filtered, Seq, Entry}
use Rattle.ig_grammar.specs.Symbol.{Symbols, no_symbols, next_symbol, Alternatives, no_alternatives, next_alternative}
use Rattle.ig_grammar.specs.Subterms.{subterms, subterms_of_symbols, subterms_of_alternatives}

-- a fact of each symbol in those directly inside a symbol
abbrev pub OfInner : (Symbol → Type 0) → Symbol → Type 0
OfInner P (Label name x) = All P (subterms x)
OfInner P (Opt x) = All P (subterms x)
OfInner P (Star x) = All P (subterms x)
OfInner P (Plus x) = All P (subterms x)
OfInner P (SepStar x separator) = All P (subterms x) × All P (subterms separator)
OfInner P (SepPlus x separator) = All P (subterms x) × All P (subterms separator)
OfInner P (Group choices) = All P (subterms_of_alternatives choices)
OfInner P (Offside x) = All P (subterms x)
OfInner P (Ignore x) = All P (subterms x)
OfInner P (Align x) = All P (subterms x)
OfInner P (Filtered x filters) = All P (subterms x)
OfInner P (Seq xs) = All P (subterms_of_symbols xs)
OfInner P (Entry bindings x) = All P (subterms x)
OfInner P x = Unit {0}

abbrev pub OfSymbols : (Symbol → Type 0) → Symbols → Type 0
OfSymbols P no_symbols = Unit {0}
OfSymbols P (next_symbol x xs) = All P (subterms x) × All P (subterms_of_symbols xs)

abbrev pub OfAlternatives : (Symbol → Type 0) → Alternatives → Type 0
OfAlternatives P no_alternatives = Unit {0}
OfAlternatives P (next_alternative xs others) = All P (subterms_of_symbols xs) × All P (subterms_of_alternatives others)

module _ (P : Symbol → Type 0) where
  pub symbols_hold : (xs : Symbols) → All P (subterms_of_symbols xs) → OfSymbols P xs
  symbols_hold no_symbols all = tt
  symbols_hold (next_symbol x xs) all = halves P (subterms x) (subterms_of_symbols xs) all

  pub symbols_hold_from : (xs : Symbols) → OfSymbols P xs → All P (subterms_of_symbols xs)
  symbols_hold_from no_symbols all = All-nil P
  symbols_hold_from (next_symbol x xs) all = All-append P (subterms x) (subterms_of_symbols xs) all.0 all.1

  pub alternatives_hold : (ys : Alternatives) → All P (subterms_of_alternatives ys) → OfAlternatives P ys
  alternatives_hold no_alternatives all = tt
  alternatives_hold (next_alternative xs ys) all = halves P (subterms_of_symbols xs) (subterms_of_alternatives ys) all

  pub alternatives_hold_from : (ys : Alternatives) → OfAlternatives P ys → All P (subterms_of_alternatives ys)
  alternatives_hold_from no_alternatives all = All-nil P
  alternatives_hold_from (next_alternative xs ys) all =
      All-append P (subterms_of_symbols xs) (subterms_of_alternatives ys) all.0 all.1

  split : (x : Symbol) (xs : List Symbol) → All P (x ∷ xs) → P x × All P xs
  split x xs all = (All-head P x xs all, All-tail P x xs all)

  parted : (z x s : Symbol) → All P (z ∷ subterms x ++ subterms s) → P z × All P (subterms x) × All P (subterms s)
  parted z x s all =
      let both = halves P (subterms x) (subterms s) (All-tail P z (subterms x ++ subterms s) all) in
      (All-head P z (subterms x ++ subterms s) all, both.0, both.1)

  alone : (x : Symbol) → All P (x ∷ []) → P x × Unit {0}
  alone x all = (All-head P x [] all, tt)

  pub holds : (x : Symbol) → All P (subterms x) → P x × OfInner P x
  holds (Literal w) all = alone (Literal w) all
  holds (OneOf c) all = alone (OneOf c) all
  holds (Call n es) all = alone (Call n es) all
  holds (Label n x) all = split (Label n x) (subterms x) all
  holds (Guard e) all = alone (Guard e) all
  holds (Let n e) all = alone (Let n e) all
  holds (Opt x) all = split (Opt x) (subterms x) all
  holds (Star x) all = split (Star x) (subterms x) all
  holds (Plus x) all = split (Plus x) (subterms x) all
  holds (SepStar x s) all = let p = parted (SepStar x s) x s all in (p.0, (p.1, p.2))
  holds (SepPlus x s) all = let p = parted (SepPlus x s) x s all in (p.0, (p.1, p.2))
  holds (Group ys) all = split (Group ys) (subterms_of_alternatives ys) all
  holds (Offside x) all = split (Offside x) (subterms x) all
  holds (Ignore x) all = split (Ignore x) (subterms x) all
  holds (Align x) all = split (Align x) (subterms x) all
  holds (Filtered x fs) all = split (Filtered x fs) (subterms x) all
  holds (Seq xs) all = split (Seq xs) (subterms_of_symbols xs) all
  holds (Entry bs x) all = split (Entry bs x) (subterms x) all

  pub holds_from : (x : Symbol) → P x → OfInner P x → All P (subterms x)
  holds_from (Literal w) p all = All-cons P (Literal w) [] p (All-nil P)
  holds_from (OneOf c) p all = All-cons P (OneOf c) [] p (All-nil P)
  holds_from (Call n es) p all = All-cons P (Call n es) [] p (All-nil P)
  holds_from (Label n x) p all = All-cons P (Label n x) (subterms x) p all
  holds_from (Guard e) p all = All-cons P (Guard e) [] p (All-nil P)
  holds_from (Let n e) p all = All-cons P (Let n e) [] p (All-nil P)
  holds_from (Opt x) p all = All-cons P (Opt x) (subterms x) p all
  holds_from (Star x) p all = All-cons P (Star x) (subterms x) p all
  holds_from (Plus x) p all = All-cons P (Plus x) (subterms x) p all
  holds_from (SepStar x s) p all =
      All-cons P (SepStar x s) (subterms x ++ subterms s) p (All-append P (subterms x) (subterms s) all.0 all.1)
  holds_from (SepPlus x s) p all =
      All-cons P (SepPlus x s) (subterms x ++ subterms s) p (All-append P (subterms x) (subterms s) all.0 all.1)
  holds_from (Group ys) p all = All-cons P (Group ys) (subterms_of_alternatives ys) p all
  holds_from (Offside x) p all = All-cons P (Offside x) (subterms x) p all
  holds_from (Ignore x) p all = All-cons P (Ignore x) (subterms x) p all
  holds_from (Align x) p all = All-cons P (Align x) (subterms x) p all
  holds_from (Filtered x fs) p all = All-cons P (Filtered x fs) (subterms x) p all
  holds_from (Seq xs) p all = All-cons P (Seq xs) (subterms_of_symbols xs) p all
  holds_from (Entry bs x) p all = All-cons P (Entry bs x) (subterms x) p all

  -- the two parts apart
  pub own_part : (x : Symbol) → All P (subterms x) → P x
  own_part x all = (holds x all).0

  pub inner_parts : (x : Symbol) → All P (subterms x) → OfInner P x
  inner_parts x all = (holds x all).1
