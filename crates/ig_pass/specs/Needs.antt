-- What a symbol wants of the variables before it.
use Rattle.std.specs.Prelude.{◌≡◌, ℕ, Bool, true, false, not, ◌&&◌, ◌||◌, List, [], ◌∷◌, All, nat_eq}
use Rattle.ig_text.specs.Words.{is_word}
use Rattle.ig_expr.specs.Expression.{Expression, Integer, Truth, Here, Variable, Not, Negative, Binary, Of, Same, Spells, Outer, Inside, FreeBefore, FreeAfter}
use Rattle.ig_grammar.specs.Binding.{Binding}
use Rattle.ig_grammar.specs.Subterms.{subterms_of_alternatives}
use Rattle.ig_grammar.specs.Symbol.{Symbol, Literal, OneOf, Call, Label, Guard, Let, Opt, Star, Plus, SepStar, SepPlus, Group, Offside, Ignore, Align, Filtered, Seq, Entry}
use Rattle.ig_grammar.specs.Symbol.{Symbols, no_symbols, next_symbol, Alternatives, no_alternatives, next_alternative}
use Rattle.ig_pass.specs.Added.{dot, margin_name, first_name}

-- whether the expression names the variable
abbrev pub uses : List ℕ → Expression → Bool
uses n (Integer k) = false
uses n (Truth b) = false
uses n Here = false
uses n (Variable x) = is_word x n
uses n (Not a) = uses n a
uses n (Negative a) = uses n a
uses n (Binary op a b) = uses n a || uses n b
uses n (Of f a) = uses n a
uses n (Same a b) = uses n a || uses n b
uses n (Spells a word) = uses n a
uses n (Outer a b) = uses n a || uses n b
uses n (Inside a b) = uses n a || uses n b
uses n (FreeBefore pattern) = false
uses n (FreeAfter pattern) = false

abbrev pub any_uses : List ℕ → List Expression → Bool
any_uses n [] = false
any_uses n (e ∷ es) = uses n e || any_uses n es

abbrev pub bindings_use : List ℕ → List Binding → Bool
bindings_use n [] = false
bindings_use n (b ∷ bs) = uses n b.value || bindings_use n bs

abbrev pub is_bound : List ℕ → List Binding → Bool
is_bound n [] = false
is_bound n (b ∷ bs) = is_word b.name n || is_bound n bs

-- `.m` and `.f`
abbrev pub is_pair : List ℕ → Bool
is_pair n = is_word margin_name n || is_word first_name n

-- a name that a pass adds: it begins with a dot
abbrev pub is_added : List ℕ → Bool
is_added [] = false
is_added (c ∷ cs) = nat_eq c dot

-- what a symbol wants of the variables before it: those that it names, and the pair where a list, an option or a group is in it
abbrev mutual
  pub needs : List ℕ → Symbol → Bool
  needs n (Literal word) = false
  needs n (OneOf class) = false
  needs n (Call name arguments) = any_uses n arguments
  needs n (Label name x) = needs n x
  needs n (Guard e) = uses n e
  needs n (Let name e) = uses n e
  needs n (Opt x) = is_pair n || needs n x
  needs n (Star x) = is_pair n || needs n x
  needs n (Plus x) = is_pair n || needs n x
  needs n (SepStar x separator) = is_pair n || (needs n x || needs n separator)
  needs n (SepPlus x separator) = is_pair n || (needs n x || needs n separator)
  needs n (Group choices) = is_pair n || alternatives_need n choices
  needs n (Offside x) = needs n x
  needs n (Ignore x) = needs n x
  needs n (Align x) = needs n x
  needs n (Filtered x filters) = needs n x
  needs n (Seq xs) = symbols_need n xs
  needs n (Entry bindings x) = bindings_use n bindings || (not (is_bound n bindings) && needs n x)

  pub symbols_need : List ℕ → Symbols → Bool
  symbols_need n no_symbols = false
  symbols_need n (next_symbol x xs) = needs n x || symbols_need n xs

  pub alternatives_need : List ℕ → Alternatives → Bool
  alternatives_need n no_alternatives = false
  alternatives_need n (next_alternative xs others) = symbols_need n xs || alternatives_need n others

-- each binding is wanted inside, and no two have one name
abbrev pub AreWanted : (List ℕ → Bool) → List Binding → Type 0
AreWanted wanted [] = Unit {0}
AreWanted wanted (b ∷ bs) = (wanted b.name ≡ true) × (is_bound b.name bs ≡ false) × AreWanted wanted bs

-- the bindings of an entry are wanted by what it stands round
abbrev pub IsEntered : Symbol → Type 0
IsEntered (Entry bindings x) = AreWanted (λ n. needs n x) bindings
IsEntered x = Unit {0}

abbrev pub AlternativesAreEntered : Alternatives → Type 0
AlternativesAreEntered choices = All IsEntered (subterms_of_alternatives choices)
