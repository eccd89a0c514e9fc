-- Which variables are visible at a symbol, with the kinds of their values.
use Rattle.std.specs.Prelude.{ℕ, List, [], ◌∷◌, ◌++◌, map, Option, Some, None, if◌then◌else◌}
use Rattle.ig_expr.specs.Expression.{Expression}
use Rattle.ig_expr.specs.Kinds.{kind_in}
use Rattle.ig_text.specs.Words.{is_word}
use Rattle.ig_expr.specs.declared.kind.Kind.{Kind}
use Rattle.ig_expr.specs.declared.kind.Kind.TheVariants.{Span}
use Rattle.ig_grammar.specs.Binding.{Binding}
use Rattle.ig_grammar.specs.Symbol.{Symbol, Literal, OneOf, Call, Label, Guard, Let, Opt, Star, Plus, SepStar, SepPlus, Group, Offside, Ignore, Align, Filtered, Seq, Entry}
use Rattle.ig_grammar.specs.Symbol.{Symbols, no_symbols, next_symbol, Alternatives, no_alternatives, next_alternative}
use Rattle.ig_grammar.specs.declared.declaration.Param.{Param}

-- pairs of a name and the kind of its value, in order of binding
abbrev pub Visible : Type 0
Visible = List (List ℕ × Kind)

abbrev pub names : Visible → List (List ℕ)
names v = map (λ pair. pair.0) v

abbrev pub kinds : Visible → List Kind
kinds v = map (λ pair. pair.1) v

-- the kind of an expression at these variables, where it has one
abbrev pub kind_at : Visible → Expression → Option Kind
kind_at v e = kind_in (names v) (kinds v) e

-- a declaration's parameters are visible in each of its alternatives
abbrev pub parameters : List Param → Visible
parameters ps = map (λ p. (p.name, p.kind)) ps

-- a name whose expression has a kind is bound to it; one whose expression has none is not bound
abbrev pub bound : List ℕ → Option Kind → Visible
bound name None = []
bound name (Some kind) = (name, kind) ∷ []

-- what a symbol binds for the symbols to its right
abbrev mutual
  pub binds : Visible → Symbol → Visible
  binds v (Literal word) = []
  binds v (OneOf class) = []
  binds v (Call name arguments) = []
  -- a label binds a span, after what its symbol binds
  binds v (Label name x) = binds v x ++ (name, Span) ∷ []
  binds v (Guard e) = []
  binds v (Let name e) = bound name (kind_at v e)
  -- what options, lists and groups bind is seen only inside them
  binds v (Opt x) = []
  binds v (Star x) = []
  binds v (Plus x) = []
  binds v (SepStar x separator) = []
  binds v (SepPlus x separator) = []
  binds v (Group choices) = []
  -- marks and filters change nothing
  binds v (Offside x) = binds v x
  binds v (Ignore x) = binds v x
  binds v (Align x) = binds v x
  binds v (Filtered x filters) = binds v x
  -- the symbols of a sequence stand in place
  binds v (Seq xs) = all_bind v xs
  binds v (Entry bindings x) = []

  -- what symbols bind, each seeing what those before it bind
  pub all_bind : Visible → Symbols → Visible
  all_bind v no_symbols = []
  all_bind v (next_symbol x xs) = binds v x ++ all_bind (v ++ binds v x) xs

-- the kind in place of that of the same name, or at the end where the name is new; without a kind nothing changes
abbrev pub with_kind : Visible → List ℕ → Option Kind → Visible
with_kind v name None = v
with_kind [] name (Some kind) = (name, kind) ∷ []
with_kind (pair ∷ others) name (Some kind) =
    if is_word pair.0 name then (name, kind) ∷ others else pair ∷ with_kind others name (Some kind)

-- the variables with those of the bindings in place of the same names; the expressions see the outer variables
abbrev pub replaced : Visible → Visible → List Binding → Visible
replaced outer v [] = v
replaced outer v (b ∷ bs) = replaced outer (with_kind v b.name (kind_at outer b.value)) bs

-- a symbol where it stands: in a sequence at which these variables are visible
pub record Occurrence : Type 0 where
  pub visible : Visible
  pub symbol : Symbol

abbrev pub at : Visible → Symbol → Occurrence
at v x = record { visible = v; symbol = x }

-- the symbols inside a symbol, in preorder
abbrev mutual
  pub inside : Visible → Symbol → List Occurrence
  inside v (Literal word) = []
  inside v (OneOf class) = []
  inside v (Call name arguments) = []
  inside v (Label name x) = at v x ∷ inside v x
  inside v (Guard e) = []
  inside v (Let name e) = []
  inside v (Opt x) = at v x ∷ inside v x
  inside v (Star x) = at v x ∷ inside v x
  inside v (Plus x) = at v x ∷ inside v x
  -- an item and a separator don't see what the other binds
  inside v (SepStar x separator) = (at v x ∷ inside v x) ++ (at v separator ∷ inside v separator)
  inside v (SepPlus x separator) = (at v x ∷ inside v x) ++ (at v separator ∷ inside v separator)
  inside v (Group choices) = inside_choices v choices
  inside v (Offside x) = at v x ∷ inside v x
  inside v (Ignore x) = at v x ∷ inside v x
  inside v (Align x) = at v x ∷ inside v x
  inside v (Filtered x filters) = at v x ∷ inside v x
  inside v (Seq xs) = inside_sequence v xs
  inside v (Entry bindings x) = at (replaced v v bindings) x ∷ inside (replaced v v bindings) x

  -- the symbols of a sequence, and those inside them: each sees what those before it bind
  pub inside_sequence : Visible → Symbols → List Occurrence
  inside_sequence v no_symbols = []
  inside_sequence v (next_symbol x xs) = (at v x ∷ inside v x) ++ inside_sequence (v ++ binds v x) xs

  -- alternatives of a group don't see what the others bind
  pub inside_choices : Visible → Alternatives → List Occurrence
  inside_choices v no_alternatives = []
  inside_choices v (next_alternative xs others) = inside_sequence v xs ++ inside_choices v others
