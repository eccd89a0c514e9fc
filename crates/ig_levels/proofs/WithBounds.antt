-- Environments with bounds in them.
use Rattle.std.specs.Prelude.{◌≡◌, ◌≢◌, ℕ, Bool, true, false, List, [], ◌∷◌, ◌++◌, pos}
use Rattle.ig_text.specs.Input.{Input}
use Rattle.ig_expr.specs.Expression.{Expression, Integer, Truth, Here, Variable, Not, Negative, Binary, Of, Same, Spells, Outer, Inside, FreeBefore, FreeAfter}
use Rattle.ig_expr.specs.declared.value.Value.{Value}
use Rattle.ig_expr.specs.declared.value.Value.TheVariants as value
use Rattle.ig_grammar.specs.Binding.{Binding}
use Rattle.ig_meaning.specs.Environment.{Environment, HasValue}
use Rattle.ig_grammar.specs.declared.declaration.Param.{Param}
use Rattle.ig_grammar.specs.Symbol.{Symbol, Literal, OneOf, Call, Label, Guard, Let, Opt, Star, Plus, SepStar, SepPlus, Group, Offside, Ignore, Align, Filtered, Seq, Entry}
use Rattle.ig_grammar.specs.Symbol.{Symbols, no_symbols, next_symbol, Alternatives, no_alternatives, next_alternative}
use Rattle.ig_levels.specs.Levels.{Pair}
use Rattle.ig_pass.specs.Added.{left_name, right_name}

-- two bounds, or none
pub data Bounds : Type 0 where
  unbounded : Bounds
  bounded : (l r : ℕ) → Bounds

abbrev pub bounds_of : Bool → ℕ → ℕ → Bounds
bounds_of true l r = bounded l r
bounds_of false l r = unbounded

abbrev pub bound_values : Bounds → List Value
bound_values unbounded = []
bound_values (bounded l r) = value.Int (pos l) ∷ value.Int (pos r) ∷ []

abbrev pub bound_pairs : Bounds → Environment
bound_pairs unbounded = []
bound_pairs (bounded l r) = (left_name, value.Int (pos l)) ∷ (right_name, value.Int (pos r)) ∷ []

-- a name of the source: neither `.l` nor `.r`
pub record IsSource (name : List ℕ) : Type 0 where
  pub not_left : name ≢ left_name
  pub not_right : name ≢ right_name

-- the second environment is the first one with the bounds somewhere in it, behind names of the source
pub data Inserted (b : Bounds) : Environment → Environment → Type 0 where
  here : (rest env : Environment) → env ≡ bound_pairs b ++ rest → Inserted b rest env
  behind : (name : List ℕ) (v : Value) (rest env : Environment) → IsSource name → Inserted b rest env →
      Inserted b ((name, v) ∷ rest) ((name, v) ∷ env)

-- the two arguments have these values
pub record PairHas (text : Input) (env : Environment) (i : ℕ) (pair : Pair) (l r : ℕ) : Type 0 where
  pub left : HasValue text env i pair.left (value.Int (pos l))
  pub right : HasValue text env i pair.right (value.Int (pos r))

-- its variables are names of the source
abbrev pub OfSource : Expression → Type 0
OfSource (Integer n) = Unit {0}
OfSource (Truth b) = Unit {0}
OfSource Here = Unit {0}
OfSource (Variable x) = IsSource x
OfSource (Not a) = OfSource a
OfSource (Negative a) = OfSource a
OfSource (Binary op a b) = OfSource a × OfSource b
OfSource (Of f a) = OfSource a
OfSource (Same a b) = OfSource a × OfSource b
OfSource (Spells a word) = OfSource a
OfSource (Outer a b) = OfSource a × OfSource b
OfSource (Inside a b) = OfSource a × OfSource b
OfSource (FreeBefore pattern) = Unit {0}
OfSource (FreeAfter pattern) = Unit {0}

abbrev pub AllOfSource : List Expression → Type 0
AllOfSource [] = Unit {0}
AllOfSource (e ∷ es) = OfSource e × AllOfSource es

abbrev pub BindingsOfSource : List Binding → Type 0
BindingsOfSource [] = Unit {0}
BindingsOfSource (b ∷ bs) = IsSource b.name × OfSource b.value × BindingsOfSource bs

abbrev pub ParametersOfSource : List Param → Type 0
ParametersOfSource [] = Unit {0}
ParametersOfSource (p ∷ ps) = IsSource p.name × ParametersOfSource ps

-- every name that is bound or read in the symbol is of the source
abbrev mutual
  pub Clear : Symbol → Type 0
  Clear (Literal word) = Unit {0}
  Clear (OneOf class) = Unit {0}
  Clear (Call name arguments) = AllOfSource arguments
  Clear (Label name x) = IsSource name × Clear x
  Clear (Guard e) = OfSource e
  Clear (Let name e) = IsSource name × OfSource e
  Clear (Opt x) = Clear x
  Clear (Star x) = Clear x
  Clear (Plus x) = Clear x
  Clear (SepStar x separator) = Clear x × Clear separator
  Clear (SepPlus x separator) = Clear x × Clear separator
  Clear (Group choices) = AlternativesClear choices
  Clear (Offside x) = Clear x
  Clear (Ignore x) = Clear x
  Clear (Align x) = Clear x
  Clear (Filtered x filters) = Clear x
  Clear (Seq xs) = SymbolsClear xs
  Clear (Entry bindings x) = BindingsOfSource bindings × Clear x

  pub SymbolsClear : Symbols → Type 0
  SymbolsClear no_symbols = Unit {0}
  SymbolsClear (next_symbol x xs) = Clear x × SymbolsClear xs

  pub AlternativesClear : Alternatives → Type 0
  AlternativesClear no_alternatives = Unit {0}
  AlternativesClear (next_alternative xs others) = SymbolsClear xs × AlternativesClear others

abbrev pub AllClear : List Symbol → Type 0
AllClear [] = Unit {0}
AllClear (x ∷ xs) = Clear x × AllClear xs
