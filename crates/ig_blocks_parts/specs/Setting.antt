-- What the pass adds, and to what.
use Rattle.std.specs.Prelude.{ℕ, Bool, true, false, List, [], ◌∷◌, ◌++◌, Option, pos, negsuc, zero}
use Rattle.ig_expr.specs.Expression.{Expression}
use Rattle.ig_expr.specs.Expression as expression
use Rattle.ig_expr.specs.declared.operator.Op.TheVariants.{Equal}
use Rattle.ig_expr.specs.declared.operator.Function.TheVariants.{Column}
use Rattle.ig_grammar.specs.Binding.{Binding}
use Rattle.ig_grammar.specs.Symbol.{Symbol, Guard, Entry, Seq, gathered}
use Rattle.ig_grammar.specs.declared.declaration.DeclKind.{DeclKind}

-- the three names that are added, the kind of the declaration of each name that is called, and the kinds of the
-- declarations that get the pair
pub record Setting : Type 0 where
  pub m : List ℕ
  pub f : List ℕ
  pub c : List ℕ
  pub kind_of : List ℕ → Option DeclKind
  pub paired : DeclKind → Bool

-- the pair of a symbol: none, as in a declaration without one; that which is handed down; that of a block; that of `ignore`
pub data Pair : Type 0 where
  lacking : Pair
  carried : Pair
  opened : (column start : Expression) → Pair
  cleared : Pair

abbrev pub zero_column : Expression
zero_column = expression.Integer (pos 0)

abbrev pub no_start : Expression
no_start = expression.Integer (negsuc zero)

-- the two expressions of a pair
abbrev pub m_of : Setting → Pair → Expression
m_of s lacking = zero_column
m_of s carried = expression.Variable s.m
m_of s (opened a b) = a
m_of s cleared = zero_column

abbrev pub f_of : Setting → Pair → Expression
f_of s lacking = no_start
f_of s carried = expression.Variable s.f
f_of s (opened a b) = b
f_of s cleared = no_start

-- the pair directly under a mark
abbrev pub opened_by : Setting → Pair → Pair
opened_by s p = opened (expression.Outer (m_of s p) (f_of s p)) expression.Here

abbrev pub cleared_by : Pair → Pair
cleared_by lacking = lacking
cleared_by carried = cleared
cleared_by (opened a b) = cleared
cleared_by cleared = cleared

-- the pair inside a list, an option or a group
abbrev pub inner : Pair → Pair
inner lacking = lacking
inner carried = carried
inner (opened a b) = carried
inner cleared = carried

abbrev pub two_bindings : Setting → Expression → Expression → List Binding
two_bindings s a b = record { name = s.m; value = a } ∷ record { name = s.f; value = b } ∷ []

-- the bindings of a pair that changes round a list, an option or a group
abbrev pub pair_bindings : Setting → Pair → List Binding
pair_bindings s lacking = []
pair_bindings s carried = []
pair_bindings s (opened a b) = two_bindings s a b
pair_bindings s cleared = two_bindings s zero_column no_start

abbrev pub column_here : Expression
column_here = expression.Of Column expression.Here

abbrev pub column_bindings : Setting → Bool → List Binding
column_bindings s false = []
column_bindings s true = record { name = s.c; value = column_here } ∷ []

-- the test before a token
abbrev pub guards : Setting → Pair → List Symbol
guards s lacking = []
guards s carried = Guard (expression.Inside (expression.Variable s.m) (expression.Variable s.f)) ∷ []
guards s (opened a b) = Guard (expression.Inside a b) ∷ []
guards s cleared = []

-- the test before an item of an aligned list
abbrev pub column_guards : Setting → Bool → List Symbol
column_guards s false = []
column_guards s true = Guard (expression.Binary Equal column_here (expression.Variable s.c)) ∷ []

-- what a call or a declaration of this kind gets besides
abbrev pub extra_by : {A : Type 0} → Bool → A → A → List A
extra_by false a b = []
extra_by true a b = a ∷ b ∷ []

abbrev pub extra : {A : Type 0} → Setting → DeclKind → A → A → List A
extra s kind a b = extra_by (s.paired kind) a b

abbrev pub pair_by : Bool → Pair
pair_by false = lacking
pair_by true = carried

-- the pair in a declaration of this kind
abbrev pub pair_for : Setting → DeclKind → Pair
pair_for s kind = pair_by (s.paired kind)

-- a symbol behind tests
abbrev pub wrapped : List Symbol → Symbol → Symbol
wrapped [] y = y
wrapped (g ∷ gs) y = Seq (gathered (g ∷ gs ++ y ∷ []))

-- a list, an option or a group with bindings, where there are any
abbrev pub entered : List Binding → Symbol → Symbol
entered [] y = y
entered (b ∷ bs) y = Entry (b ∷ bs) y
