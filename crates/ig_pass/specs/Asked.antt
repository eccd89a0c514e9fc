-- What a symbol asks of the place where it stands, by its form: that no condition holds of it, said the other way about.
use Rattle.std.specs.Prelude.{◌≡◌, ℕ, List, [], ◌∷◌, ◌++◌, map, Contains, Option, Some}
use Rattle.ig_expr.specs.Expression.{Expression}
use Rattle.ig_expr.specs.Names.{look_up}
use Rattle.ig_expr.specs.declared.kind.Kind.{Kind}
use Rattle.ig_expr.specs.declared.kind.Kind.TheVariants.{Bool}
use Rattle.ig_grammar.specs.Condition.{Condition, SymbolMeets, IsListed, IsInLexical, declaration_of, variables}
use Rattle.ig_grammar.specs.Symbol.{Symbol, Call, Label, Guard, Let, Offside, Ignore, Align, Entry}
use Rattle.ig_grammar.specs.Visible.{Visible, names, kinds, kind_at}
use Rattle.ig_grammar.specs.declared.declaration.DeclKind.{DeclKind}
use Rattle.ig_grammar.specs.declared.declaration.DeclKind.TheVariants.{Syntax}
use Rattle.ig_grammar.specs.declared.declaration.Param.{Param}
use Rattle.ig_grammar.specs.declared.declaration.Decl.{Decl}

-- the expression has a kind, so that each of its variables is visible
abbrev pub IsKinded : Visible → Expression → Type 0
IsKinded v e = (k : Kind) × (kind_at v e ≡ Some k)

-- as many arguments as parameters, and each has the kind of its parameter
abbrev pub Fit : Visible → List Expression → List Param → Type 0
Fit v [] [] = Unit {0}
Fit v (e ∷ es) (p ∷ ps) = (kind_at v e ≡ Some p.kind) × Fit v es ps
Fit v es ps = ⊥

-- a declaration of the name is called with arguments that fit, and no syntax declaration from a lexical one
pub record Calls (decls : List Decl) (within : DeclKind) (v : Visible) (name : List ℕ) (arguments : List Expression) : Type 0 where
  pub callee : Decl
  pub declared : declaration_of decls name ≡ Some callee
  pub fit : Fit v arguments callee.params
  pub allowed : IsInLexical within → callee.kind ≡ Syntax → ⊥

abbrev pub IsNew : Visible → List ℕ → Type 0
IsNew v name = Contains (names v) name → ⊥

-- what a symbol asks in a declaration of this kind, where these variables are visible
abbrev pub Asks : List Decl → DeclKind → Visible → Symbol → Type 0
Asks decls within v (Call name arguments) = Calls decls within v name arguments
Asks decls within v (Label name x) = IsNew v name
Asks decls within v (Guard e) = kind_at v e ≡ Some Bool
Asks decls within v (Let name e) = IsNew v name × IsKinded v e
Asks decls within v (Offside x) = IsInLexical within → ⊥
Asks decls within v (Ignore x) = IsInLexical within → ⊥
Asks decls within v (Align x) = IsListed x × (IsInLexical within → ⊥)
Asks decls within v (Entry bindings x) = (e : Expression) → Contains (map (λ b. b.value) bindings) e → IsKinded v e
Asks decls within v x = Unit {0}

-- a symbol gets what it asks exactly where no condition holds of it
pub record SymbolsAsk : Type 0 where
  pub asks : (decls : List Decl) (within : DeclKind) (v : Visible) (x : Symbol) →
      ((c : Condition) → SymbolMeets decls within v x c → ⊥) → Asks decls within v x
  pub unmet : (decls : List Decl) (within : DeclKind) (v : Visible) (x : Symbol) → Asks decls within v x →
      (c : Condition) → SymbolMeets decls within v x c → ⊥

-- the kind of the variable, where it is visible
abbrev pub kind_of : Visible → List ℕ → Option Kind
kind_of v name = look_up (names v) (kinds v) name

-- what is asked elsewhere, where other variables are visible and calls get more arguments
pub record AsksElsewhere : Type 0 where
  -- an expression has the same kind where its variables have the same kinds
  pub same_kind : (v w : Visible) (e : Expression) →
      ((name : List ℕ) → Contains (variables e) name → kind_of w name ≡ kind_of v name) → kind_at w e ≡ kind_at v e
  -- a name is new where it was, if it has the same kind or none
  pub still_new : (v w : Visible) (name : List ℕ) → kind_of w name ≡ kind_of v name → IsNew v name → IsNew w name
  -- arguments fit where each has the same kind
  pub fit_still : (v w : Visible) (es : List Expression) (ps : List Param) →
      ((e : Expression) → Contains es e → kind_at w e ≡ kind_at v e) → Fit v es ps → Fit w es ps
  -- and with more arguments for more parameters
  pub fit_more : (v : Visible) (es ds : List Expression) (ps qs : List Param) → Fit v es ps → Fit v ds qs → Fit v (es ++ ds) (ps ++ qs)
