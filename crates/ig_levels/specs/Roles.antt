-- The arguments that a role gives, the pass's own rule, and the place of an alternative.
use Rattle.std.specs.Prelude.{ℕ, pos, Bool, List, ◌++◌}
use Rattle.ig_expr.specs.Expression.{Integer, Variable}
use Rattle.ig_grammar.specs.Symbol.{Symbol, Call, Label, Offside, Ignore, Align, Filtered, Entry}
use Rattle.ig_pass.specs.Added.{left_name, right_name}
use Rattle.ig_levels.specs.Levels.{Pair, no_pair, pair_arguments, Place}
use Rattle.ig_levels.specs.declared.symbols.Role.{Role}
use Rattle.ig_levels.specs.declared.symbols.Role.TheVariants.{Outside, LeftOperand, RightOperand}
use Rattle.ig_levels.specs.declared.operands.Bounds.{Bounds}

-- the two arguments that a role gives
abbrev pub pair_of : Role → Pair
pair_of Outside = no_pair
pair_of (LeftOperand bound) = record { left = Variable left_name; right = Integer (pos bound) }
pair_of (RightOperand bound) = record { left = Integer (pos bound); right = Variable right_name }

-- the pass's own rule: nothing is asked of a call, with its labels, marks, filters and entries
abbrev pub unasked : (List ℕ → Bool) → Symbol → Symbol
unasked levelled (Call name arguments) = Call name (arguments ++ pair_arguments (levelled name) no_pair)
unasked levelled (Label name x) = Label name (unasked levelled x)
unasked levelled (Offside x) = Offside (unasked levelled x)
unasked levelled (Ignore x) = Ignore (unasked levelled x)
unasked levelled (Align x) = Align (unasked levelled x)
unasked levelled (Filtered x filters) = Filtered (unasked levelled x) filters
unasked levelled (Entry bindings x) = Entry bindings (unasked levelled x)
unasked levelled x = x

-- the place of an alternative of the declaration of this name, with these bounds
abbrev pub place_of : Bounds → List ℕ → Place
place_of bounds own = record { active = bounds.levelled; own = own; left = bounds.left; right = bounds.right }
