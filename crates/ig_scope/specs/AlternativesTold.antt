-- What is told of symbols and alternatives: that no condition holds in what was looked at, or the first fault there.
use Rattle.std.specs.Prelude.{◌≡◌, ℕ, zero, suc, ◌+◌, ◌<◌, List, ◌∷◌, ◌++◌, All, length, Result, Ok, Err}
use Rattle.ig_grammar.specs.Symbol.{Symbol}
use Rattle.ig_grammar.specs.Numbering.{alternatives}
use Rattle.ig_grammar.specs.Visible.{Visible, Occurrence, at, inside}
use Rattle.ig_grammar.specs.Condition.{Condition, SymbolMeets}
use Rattle.ig_grammar.specs.WellScoped.{IsLeast, AlternativeHas}
use Rattle.ig_grammar.specs.declared.symbol.Alt.{Alt}
use Rattle.ig_grammar.specs.declared.declaration.DeclKind.{DeclKind}
use Rattle.ig_grammar.specs.declared.declaration.Decl.{Decl}
use Rattle.ig_scope.specs.Causes.{condition_of, NoneHolds}
use Rattle.ig_scope.specs.declared.numbered.Numbered.{Numbered}
use Rattle.ig_scope.specs.declared.places.Surroundings.{Surroundings}
use Rattle.ig_scope.specs.declared.cause.ScopeCause.{ScopeCause}
use Rattle.ig_scope.specs.declared.fault.ScopeFault.{ScopeFault}
use Rattle.ig_scope.specs.declared.fault.ScopeFault.TheVariants.{Broken, Memory}

-- the first that isn't free has so many before it
pub data FirstIn {X : Type 0} (IsFree IsCaught : X → Type 0) : List X → ℕ → Type 0 where
  here : (x : X) (xs : List X) → IsCaught x → FirstIn IsFree IsCaught (x ∷ xs) zero
  later : (x : X) (xs : List X) (n : ℕ) → IsFree x → FirstIn IsFree IsCaught xs n → FirstIn IsFree IsCaught (x ∷ xs) (suc n)

-- the condition is the first that holds at this number, and none holds at a lesser one
pub record FirstNumber (Has : ℕ → Condition → Type 0) (n : ℕ) (c : Condition) : Type 0 where
  pub there : IsLeast (Has n) c
  pub none_before : (m : ℕ) (other : Condition) → m < n → Has m other → ⊥

-- the symbol where it stands, and those inside it
abbrev pub from : Visible → Symbol → List Occurrence
from v x = at v x ∷ inside v x

module _ (decls : List Decl) (within : DeclKind) where
  abbrev pub SymbolFree : Occurrence → Type 0
  SymbolFree o = NoneHolds (SymbolMeets decls within o.visible o.symbol)

  abbrev pub SymbolCaught : Condition → Occurrence → Type 0
  SymbolCaught c o = IsLeast (SymbolMeets decls within o.visible o.symbol) c

  -- the fault at one of these symbols, of which so many stand before them
  abbrev pub StoppedAt : (decl alt before : ℕ) → List Occurrence → ScopeFault → Type 0
  StoppedAt decl alt before os (Broken cause place) =
      (k : ℕ) × (place ≡ record { decl = decl; alt = alt; symbol = before + k + 1 }) ×
      FirstIn SymbolFree (SymbolCaught (condition_of cause)) os k
  StoppedAt decl alt before os Memory = Unit {0}

-- the fault at the symbol that has so many before it
abbrev pub fault_at : Surroundings → ScopeCause → ℕ → ScopeFault
fault_at around cause before = Broken cause (record { decl = around.decl; alt = around.alt; symbol = before + 1 })

-- the symbols passed, which bind something; or the fault at one of them, of which so many stand before them
abbrev pub Walked : Surroundings → ℕ → List Occurrence → Visible → Visible → Visible → Result ℕ ScopeFault → Type 0
Walked around before os binding old new (Ok next) =
    (next ≡ before + length os) × All (SymbolFree around.declarations.now around.kind) os × (new ≡ old ++ binding)
Walked around before os binding old new (Err fault) =
    StoppedAt around.declarations.now around.kind around.decl around.alt before os fault

module _ (decls : List Decl) (decl : Decl) where
  abbrev pub AlternativeFree : Alt → Type 0
  AlternativeFree a = (symbol : ℕ) → NoneHolds (AlternativeHas decls decl a symbol)

  abbrev pub AlternativeCaught : ℕ → Condition → Alt → Type 0
  AlternativeCaught symbol c a = FirstNumber (AlternativeHas decls decl a) symbol c

module _ (decls : List Decl) (decl : Decl) (number : ℕ) where
  -- of an alternative of the declaration of this number
  abbrev pub OfAlternative : ℕ → Alt → {T : Type 0} → Result T ScopeFault → Type 0
  OfAlternative alt a (Ok done) = AlternativeFree decls decl a
  OfAlternative alt a (Err (Broken cause place)) =
      (place.decl ≡ number) × (place.alt ≡ alt) × AlternativeCaught decls decl place.symbol (condition_of cause) a
  OfAlternative alt a (Err Memory) = Unit {0}

  -- of alternatives that have so many before them, and how many stand before what comes next
  abbrev pub OfLevel : ℕ → List Alt → Result ℕ ScopeFault → Type 0
  OfLevel before alts (Ok next) = (next ≡ before + length alts) × All (AlternativeFree decls decl) alts
  OfLevel before alts (Err (Broken cause place)) =
      (k : ℕ) × (place.decl ≡ number) × (place.alt ≡ before + k + 1) ×
      FirstIn (AlternativeFree decls decl) (AlternativeCaught decls decl place.symbol (condition_of cause)) alts k
  OfLevel before alts (Err Memory) = Unit {0}

  -- of all alternatives
  abbrev pub OfAlternatives : {T : Type 0} → Result T ScopeFault → Type 0
  OfAlternatives (Ok done) = All (AlternativeFree decls decl) (alternatives decl.levels)
  OfAlternatives (Err (Broken cause place)) =
      (k : ℕ) × (place.decl ≡ number) × (place.alt ≡ k + 1) ×
      FirstIn (AlternativeFree decls decl) (AlternativeCaught decls decl place.symbol (condition_of cause))
      (alternatives decl.levels) k
  OfAlternatives (Err Memory) = Unit {0}

-- the same of a declaration with its number
abbrev pub TellsAlternative : Numbered → ℕ → Alt → {T : Type 0} → Result T ScopeFault → Type 0
TellsAlternative numbered = OfAlternative numbered.declarations.now numbered.decl.now numbered.number

abbrev pub TellsLevel : Numbered → ℕ → List Alt → Result ℕ ScopeFault → Type 0
TellsLevel numbered = OfLevel numbered.declarations.now numbered.decl.now numbered.number

abbrev pub TellsAlternatives : Numbered → {T : Type 0} → Result T ScopeFault → Type 0
TellsAlternatives numbered = OfAlternatives numbered.declarations.now numbered.decl.now numbered.number
