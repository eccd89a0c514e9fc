-- What each symbol of a grammar keeps to is kept by what the pass makes of it.
use Rattle.std.proofs.Common.{◌≡◌, ◌∙◌, ℕ, Bool, true, false, List, [], ◌∷◌, ◌++◌, cond, map, sym, pos}
use Rattle.std.specs.Prelude.{All, Contains, slice_get}
use Rattle.std.proofs.lemmas.Option.{slice_get-map}
use Rattle.std.proofs.lemmas.List.Elements.{All-nil, All-cons, All-head, All-tail}
use Rattle.ig_text.proofs.Lists.{at_from_contains, contains_from_at}
use Rattle.ig_text.proofs.Options.{mapped}
use Rattle.ig_expr.specs.Expression.{Expression, Integer, Variable, Binary}
use Rattle.ig_expr.specs.declared.operator.Op.TheVariants.{GreaterEqual}
use Rattle.ig_grammar.specs.Symbol.{Symbol, Guard}
use Rattle.ig_pass.specs.Added.{left_name, right_name}
use Rattle.ig_levels.specs.Levels.{Pair, no_pair, with_pair, is_left, is_right, pair_at, Place}

-- an added argument: a number, or the variable of a bound
pub data IsAddedArgument : Expression → Type 0 where
  number : (n : ℕ) → IsAddedArgument (Integer (pos n))
  left_variable : IsAddedArgument (Variable left_name)
  right_variable : IsAddedArgument (Variable right_name)

pub record IsAddedPair (p : Pair) : Type 0 where
  pub left : IsAddedArgument p.left
  pub right : IsAddedArgument p.right

pub no_pair_added : IsAddedPair no_pair
no_pair_added = record { left = number 0; right = number 0 }

pub pair_added : (p : Place) (first : Bool) (x : Symbol) (others : List Symbol) → IsAddedPair (pair_at p first x others)
pair_added p first x others = go (is_left p first x others) (is_right p first x others)
  where
    go : (l r : Bool) → IsAddedPair (cond l (record { left = Variable left_name; right = Integer (pos p.left) })
        (cond r (record { left = Integer (pos p.right); right = Variable right_name }) no_pair))
    go true r = record { left = left_variable; right = number p.left }
    go false true = record { left = number p.right; right = right_variable }
    go false false = no_pair_added

abbrev pub test : ℕ → List ℕ → Symbol
test level name = Guard (Binary GreaterEqual (Integer (pos level)) (Variable name))

-- what symbols kept to, what is made of them keeps to
pub record Keeps (levelled : List ℕ → Bool) (P Q : Symbol → Type 0) : Type 0 where
  pub symbol : (x : Symbol) (p : Pair) → IsAddedPair p → P x → Q (with_pair levelled p x)
  pub left_test : (level : ℕ) → Q (test level left_name)
  pub right_test : (level : ℕ) → Q (test level right_name)
