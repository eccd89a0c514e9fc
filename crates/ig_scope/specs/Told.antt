-- What is told of declarations and of the grammar: that no condition holds there, or the first fault.
use Rattle.std.specs.Prelude.{◌≡◌, ℕ, ◌+◌, ◌<◌, ◌⊎◌, List, length, Result, Ok, Err, Some, slice_get}
use Rattle.ig_grammar.specs.Condition.{Condition}
use Rattle.ig_grammar.specs.WellScoped.{IsLeast, IsFirst, IsWellScoped, DeclarationHas}
use Rattle.ig_grammar.specs.declared.declaration.Decl.{Decl}
use Rattle.ig_grammar.specs.declared.grammar.Grammar.{Grammar}
use Rattle.ig_scope.specs.Causes.{condition_of, NoneHolds}
use Rattle.ig_scope.specs.declared.head.Head.{Head}
use Rattle.ig_scope.specs.declared.fault.ScopeFault.{ScopeFault}
use Rattle.ig_scope.specs.declared.fault.ScopeFault.TheVariants.{Broken, Memory}

-- the condition is the first that holds at this pair of numbers, of which the first decides first
pub record FirstPair (Has : ℕ → ℕ → Condition → Type 0) (a s : ℕ) (c : Condition) : Type 0 where
  pub there : IsLeast (Has a s) c
  pub none_before : (b t : ℕ) (other : Condition) → (b < a) ⊎ ((b ≡ a) × (t < s)) → Has b t other → ⊥

module _ (decls : List Decl) (decl : Decl) where
  -- of the declaration, which has so many before it
  abbrev pub TellsDeclaration : ℕ → {T : Type 0} → Result T ScopeFault → Type 0
  TellsDeclaration index (Ok done) = (a symbol : ℕ) → NoneHolds (DeclarationHas decls index decl a symbol)
  TellsDeclaration index (Err (Broken cause place)) =
      (place.decl ≡ index + 1) × FirstPair (DeclarationHas decls index decl) place.alt place.symbol (condition_of cause)
  TellsDeclaration index (Err Memory) = Unit {0}

-- the same of a declaration where it stands
abbrev pub TellsHead : Head → {T : Type 0} → Result T ScopeFault → Type 0
TellsHead head = TellsDeclaration head.declarations.now head.decl.now head.before

-- no condition holds in the first declarations, so many
abbrev pub AreFree : List Decl → ℕ → Type 0
AreFree decls n =
    (k : ℕ) (decl : Decl) (a symbol : ℕ) (c : Condition) → k < n → slice_get decls k ≡ Some decl → DeclarationHas decls k decl a symbol c → ⊥

-- of all declarations
abbrev pub TellsDeclarations : List Decl → {T : Type 0} → Result T ScopeFault → Type 0
TellsDeclarations decls (Ok done) = AreFree decls (length decls)
TellsDeclarations decls (Err (Broken cause place)) =
    (index : ℕ) × (decl : Decl) × (slice_get decls index ≡ Some decl) × (place.decl ≡ index + 1) ×
    FirstPair (DeclarationHas decls index decl) place.alt place.symbol (condition_of cause) × AreFree decls index
TellsDeclarations decls (Err Memory) = Unit {0}

-- of the grammar: it is well scoped, or this is the first fault
abbrev pub TellsGrammar : Grammar → {T : Type 0} → Result T ScopeFault → Type 0
TellsGrammar g (Ok done) = IsWellScoped g
TellsGrammar g (Err (Broken cause place)) = IsFirst g place (condition_of cause)
TellsGrammar g (Err Memory) = Unit {0}

-- want of memory, or the first fault
abbrev pub TellsFault : Grammar → ScopeFault → Type 0
TellsFault g (Broken cause place) = IsFirst g place (condition_of cause)
TellsFault g Memory = Unit {0}
