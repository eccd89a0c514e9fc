-- What is asked of the expressions of a symbol, and what is told of a symbol whatever stands around it.
use Rattle.std.specs.Prelude.{◌≡◌, ◌≢◌, ℕ, List, Contains, Option, Some, None, slice_get}
use Rattle.ig_expr.specs.Expression.{Expression}
use Rattle.ig_grammar.specs.Symbol.{Symbol}
use Rattle.ig_grammar.specs.Visible.{Visible, kind_at}
use Rattle.ig_grammar.specs.Condition.{SymbolMeets, NamesUnknown, IsInLexical}
use Rattle.ig_grammar.specs.declared.declaration.DeclKind.{DeclKind}
use Rattle.ig_grammar.specs.declared.declaration.Param.{Param}
use Rattle.ig_grammar.specs.declared.declaration.Decl.{Decl}
use Rattle.ig_scope.specs.Causes.{Tells}
use Rattle.ig_scope.specs.declared.cause.ScopeCause.{ScopeCause}
use Rattle.ig_scope.specs.declared.cause.ScopeCause.TheVariants.{MarkInLexical}

-- some expression names a variable that isn't visible
abbrev pub HasUnknown : Visible → List Expression → Type 0
HasUnknown v es = (e : Expression) × Contains es e × NamesUnknown v e

-- some expression has no kind
abbrev pub HasUnkinded : Visible → List Expression → Type 0
HasUnkinded v es = (e : Expression) × Contains es e × (kind_at v e ≡ None)

-- some argument hasn't the kind of its parameter
pub record IsMismatched (v : Visible) (es : List Expression) (ps : List Param) : Type 0 where
  pub place : ℕ
  pub argument : Expression
  pub parameter : Param
  pub argument_is : slice_get es place ≡ Some argument
  pub parameter_is : slice_get ps place ≡ Some parameter
  pub differ : kind_at v argument ≢ Some parameter.kind

-- of a symbol at which neither the declarations nor the kind of its own matter
abbrev pub TellsAnywhere : Visible → Symbol → Option ScopeCause → Type 0
TellsAnywhere v x result = (decls : List Decl) (within : DeclKind) → Tells (SymbolMeets decls within v x) result

-- of a mark in a declaration of this kind, which stands where it may
abbrev pub TellsMark : DeclKind → Option ScopeCause → Type 0
TellsMark kind None = IsInLexical kind → ⊥
TellsMark kind (Some cause) = (cause ≡ MarkInLexical) × IsInLexical kind
