-- What a checked grammar is, as contracts see it: a well-scoped grammar, and a shape for each of its declarations.
use Rattle.std.specs.Prelude.{◌≡◌, ◌≢◌, ℕ, ◌<◌, List, [], ◌∷◌, All, Contains, length, replicate, Option, Some, None, slice_get}
use Rattle.ig_expr.specs.Expression.{Expression}
use Rattle.ig_grammar.specs.Symbol.{Symbol, Call, Seq, listed}
use Rattle.ig_grammar.specs.Numbering.{alternatives}
use Rattle.ig_grammar.specs.Visible.{Occurrence}
use Rattle.ig_grammar.specs.Condition.{symbols_of}
use Rattle.ig_grammar.specs.declared.symbol.Alt.{Alt}
use Rattle.ig_grammar.specs.declared.declaration.Assoc.TheVariants.{Free}
use Rattle.ig_grammar.specs.declared.declaration.DeclKind.TheVariants.{Layout}
use Rattle.ig_grammar.specs.declared.declaration.Level.{Level}
use Rattle.ig_grammar.specs.declared.declaration.Decl.{Decl}
use Rattle.ig_grammar.specs.declared.grammar.Grammar.{Grammar}
use Rattle.ig_grammar.specs.declared.place.Shape.{Shape}
use Rattle.ig_grammar.specs.declared.place.Shape.TheVariants.{Rule, Group, Root}

pub record CheckedGrammar : Type 0 where
  pub grammar : Grammar
  pub shapes : List Shape

-- the shape `Rule` for each declaration
abbrev pub rules : Grammar → List Shape
rules g = replicate (length g.decls) Rule

-- the shapes that are given, or else the shape `Rule` for each declaration
abbrev pub given_or_rules : Grammar → Option (List Shape) → List Shape
given_or_rules g (Some shapes) = shapes
given_or_rules g None = rules g

-- how many alternatives a declaration of the shape may have
abbrev pub MayHave : Shape → ℕ → Type 0
MayHave Rule n = Unit {0}
MayHave Group n = Unit {0}
MayHave Root n = n ≡ 1
MayHave shape n = n ≡ 2

-- one level, neither `left` nor `right` nor `nonassoc`
abbrev pub IsOneFreeLevel : List Level → Type 0
IsOneFreeLevel [] = ⊥
IsOneFreeLevel (level ∷ []) = level.assoc ≡ Free
IsOneFreeLevel (level ∷ next ∷ others) = ⊥

abbrev pub IsCall : Symbol → Type 0
IsCall (Call name arguments) = Unit {0}
IsCall x = ⊥

-- a call, or a sequence of calls
abbrev pub IsOfCalls : Symbol → Type 0
IsOfCalls (Call name arguments) = Unit {0}
IsOfCalls (Seq xs) = All IsCall (listed xs)
IsOfCalls x = ⊥

-- the declaration is the start and no layout declaration, stands after each rule, and is called nowhere; each of its
-- symbols is a call or a sequence of calls
pub record IsRoot (g : Grammar) (shapes : List Shape) (before : ℕ) (decl : Decl) : Type 0 where
  pub start : g.start ≡ Some decl.name
  pub no_layout : decl.kind ≢ Layout
  pub after_rules : (k : ℕ) → slice_get shapes k ≡ Some Rule → k < before
  pub uncalled : (other : Decl) (a : Alt) (o : Occurrence) (arguments : List Expression) →
      Contains g.decls other → Contains (alternatives other.levels) a → Contains (symbols_of other a) o →
      o.symbol ≢ Call decl.name arguments
  pub calls : (a : Alt) → Contains (alternatives decl.levels) a → All IsOfCalls a.symbols

-- the declaration with so many before it is of the shape
pub record FitsShape (g : Grammar) (shapes : List Shape) (before : ℕ) (decl : Decl) (shape : Shape) : Type 0 where
  pub count : MayHave shape (length (alternatives decl.levels))
  pub level : shape ≢ Rule → IsOneFreeLevel decl.levels
  pub root : shape ≡ Root → IsRoot g shapes before decl

-- there are as many shapes as declarations, and each declaration is of its shape
pub record FitShapes (g : Grammar) (shapes : List Shape) : Type 0 where
  pub counted : length shapes ≡ length g.decls
  pub each : (before : ℕ) (decl : Decl) (shape : Shape) →
      slice_get g.decls before ≡ Some decl → slice_get shapes before ≡ Some shape → FitsShape g shapes before decl shape
