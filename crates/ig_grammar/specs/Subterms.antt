-- The symbols in a symbol, itself among them.
use Rattle.std.specs.Prelude.{ℕ, List, [], ◌∷◌, ◌++◌}
use Rattle.ig_grammar.specs.Symbol.{Symbol, Label, Let, Opt, Star, Plus, SepStar, SepPlus, Group, Offside, Ignore, Align, Filtered, Seq, Entry}
use Rattle.ig_grammar.specs.Symbol.{Symbols, no_symbols, next_symbol, Alternatives, no_alternatives, next_alternative}

-- the symbol and those inside it, in preorder
abbrev mutual
  pub subterms : Symbol → List Symbol
  subterms (Label name x) = Label name x ∷ subterms x
  subterms (Opt x) = Opt x ∷ subterms x
  subterms (Star x) = Star x ∷ subterms x
  subterms (Plus x) = Plus x ∷ subterms x
  subterms (SepStar x separator) = SepStar x separator ∷ subterms x ++ subterms separator
  subterms (SepPlus x separator) = SepPlus x separator ∷ subterms x ++ subterms separator
  subterms (Group choices) = Group choices ∷ subterms_of_alternatives choices
  subterms (Offside x) = Offside x ∷ subterms x
  subterms (Ignore x) = Ignore x ∷ subterms x
  subterms (Align x) = Align x ∷ subterms x
  subterms (Filtered x filters) = Filtered x filters ∷ subterms x
  subterms (Seq xs) = Seq xs ∷ subterms_of_symbols xs
  subterms (Entry bindings x) = Entry bindings x ∷ subterms x
  subterms x = x ∷ []

  pub subterms_of_symbols : Symbols → List Symbol
  subterms_of_symbols no_symbols = []
  subterms_of_symbols (next_symbol x xs) = subterms x ++ subterms_of_symbols xs

  pub subterms_of_alternatives : Alternatives → List Symbol
  subterms_of_alternatives no_alternatives = []
  subterms_of_alternatives (next_alternative xs others) = subterms_of_symbols xs ++ subterms_of_alternatives others

-- the names that a symbol binds for the symbols behind it, in order of binding
abbrev mutual
  pub bound_names : Symbol → List (List ℕ)
  bound_names (Label name x) = bound_names x ++ name ∷ []
  bound_names (Let name e) = name ∷ []
  bound_names (Offside x) = bound_names x
  bound_names (Ignore x) = bound_names x
  bound_names (Align x) = bound_names x
  bound_names (Filtered x filters) = bound_names x
  bound_names (Seq xs) = names_bound_by xs
  bound_names x = []

  pub names_bound_by : Symbols → List (List ℕ)
  names_bound_by no_symbols = []
  names_bound_by (next_symbol x xs) = bound_names x ++ names_bound_by xs
