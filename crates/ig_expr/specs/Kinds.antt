-- The kinds of expressions.
use Rattle.std.specs.Prelude.{ℕ, Bool, true, false, ◌&&◌, if◌then◌else◌, List, Option, Some, None}
use Rattle.ig_expr.specs.Expression as tree
use Rattle.ig_expr.specs.Expression.{Expression}
use Rattle.ig_expr.specs.Names.{look_up}
use Rattle.ig_expr.specs.declared.kind.Kind.{Kind}
use Rattle.ig_expr.specs.declared.kind.Kind.TheVariants as kind
use Rattle.ig_expr.specs.declared.value.Value.{Value}
use Rattle.ig_expr.specs.declared.value.Value.TheVariants as value
use Rattle.ig_expr.specs.declared.operator.Op.{Op}
use Rattle.ig_expr.specs.declared.operator.Op.TheVariants.{Add, Sub, Mul, Div, Mod, Less, LessEqual, Greater, GreaterEqual, Equal, NotEqual, And, Or}
use Rattle.ig_expr.specs.declared.operator.Function.{Function}
use Rattle.ig_expr.specs.declared.operator.Function.TheVariants.{Begin, End, Size, Column, Line, Number}

-- the kind of a value
abbrev pub kind_of_value : Value → Kind
kind_of_value (value.Int n) = kind.Int
kind_of_value (value.Bool b) = kind.Bool
kind_of_value (value.Span s) = kind.Span

-- whether two kinds are equal
abbrev pub is_kind : Kind → Kind → Bool
is_kind kind.Int kind.Int = true
is_kind kind.Bool kind.Bool = true
is_kind kind.Span kind.Span = true
is_kind _ _ = false

-- the kind `gives`, where an operand of the kind `takes` is there
abbrev pub of_one : Kind → Kind → Option Kind → Option Kind
of_one takes gives None = None
of_one takes gives (Some a) = if is_kind a takes then Some gives else None

-- the kind `gives`, where two operands of the kind `takes` are there
abbrev pub of_two : Kind → Kind → Option Kind → Option Kind → Option Kind
of_two takes gives None b = None
of_two takes gives (Some a) None = None
of_two takes gives (Some a) (Some b) = if is_kind a takes && is_kind b takes then Some gives else None

-- a truth value, where two operands of one kind are there
abbrev pub of_equals : Option Kind → Option Kind → Option Kind
of_equals None b = None
of_equals (Some a) None = None
of_equals (Some a) (Some b) = if is_kind a b then Some kind.Bool else None

-- the kind of what an operator gives at operands of these kinds
abbrev pub kind_of_operation : Op → Option Kind → Option Kind → Option Kind
kind_of_operation Add = of_two kind.Int kind.Int
kind_of_operation Sub = of_two kind.Int kind.Int
kind_of_operation Mul = of_two kind.Int kind.Int
kind_of_operation Div = of_two kind.Int kind.Int
kind_of_operation Mod = of_two kind.Int kind.Int
kind_of_operation Less = of_two kind.Int kind.Bool
kind_of_operation LessEqual = of_two kind.Int kind.Bool
kind_of_operation Greater = of_two kind.Int kind.Bool
kind_of_operation GreaterEqual = of_two kind.Int kind.Bool
kind_of_operation Equal = of_equals
kind_of_operation NotEqual = of_equals
kind_of_operation And = of_two kind.Bool kind.Bool
kind_of_operation Or = of_two kind.Bool kind.Bool

-- the kind that a function takes; each gives an integer
abbrev pub argument_of : Function → Kind
argument_of Begin = kind.Span
argument_of End = kind.Span
argument_of Size = kind.Span
argument_of Column = kind.Int
argument_of Line = kind.Int
argument_of Number = kind.Span

-- the kind of an expression; none where a variable isn't among the names or a part has the wrong kind
abbrev pub kind_in : List (List ℕ) → List Kind → Expression → Option Kind
kind_in names kinds (tree.Integer n) = Some kind.Int
kind_in names kinds (tree.Truth b) = Some kind.Bool
kind_in names kinds tree.Here = Some kind.Int
kind_in names kinds (tree.Variable x) = look_up names kinds x
kind_in names kinds (tree.Not a) = of_one kind.Bool kind.Bool (kind_in names kinds a)
kind_in names kinds (tree.Negative a) = of_one kind.Int kind.Int (kind_in names kinds a)
kind_in names kinds (tree.Binary op a b) = kind_of_operation op (kind_in names kinds a) (kind_in names kinds b)
kind_in names kinds (tree.Of f a) = of_one (argument_of f) kind.Int (kind_in names kinds a)
kind_in names kinds (tree.Same a b) = of_two kind.Span kind.Bool (kind_in names kinds a) (kind_in names kinds b)
kind_in names kinds (tree.Spells a word) = of_one kind.Span kind.Bool (kind_in names kinds a)
kind_in names kinds (tree.Outer a b) = of_two kind.Int kind.Int (kind_in names kinds a) (kind_in names kinds b)
kind_in names kinds (tree.Inside a b) = of_two kind.Int kind.Bool (kind_in names kinds a) (kind_in names kinds b)
kind_in names kinds (tree.FreeBefore pattern) = Some kind.Bool
kind_in names kinds (tree.FreeAfter pattern) = Some kind.Bool
