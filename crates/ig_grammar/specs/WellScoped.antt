-- Which grammars are well scoped, and which condition is told of one that isn't.
use Rattle.std.specs.Prelude.{◌≡◌, ℕ, zero, suc, ◌<◌, ◌≤◌, ◌⊎◌, List, Some, slice_get}
use Rattle.ig_grammar.specs.Condition.{Condition, number, case_number, symbols_of, SymbolMeets, AlternativeMeets, HeadMeets, StartMeets}
use Rattle.ig_grammar.specs.Numbering.{alternatives}
use Rattle.ig_grammar.specs.Visible.{Occurrence}
use Rattle.ig_grammar.specs.declared.place.Place.{Place}
use Rattle.ig_grammar.specs.declared.symbol.Alt.{Alt}
use Rattle.ig_grammar.specs.declared.declaration.Decl.{Decl}
use Rattle.ig_grammar.specs.declared.grammar.Grammar.{Grammar}

-- in an alternative: at the whole of it, which has number 0, or at a symbol, counted from 1 in preorder
abbrev pub AlternativeHas : List Decl → Decl → Alt → ℕ → Condition → Type 0
AlternativeHas decls decl alternative zero c = AlternativeMeets decl alternative c
AlternativeHas decls decl alternative (suc before) c =
    (o : Occurrence) × (slice_get (symbols_of decl alternative) before ≡ Some o) × SymbolMeets decls decl.kind o.visible o.symbol c

-- in a declaration with so many before it: at its head, which has the numbers 0 and 0, or in an alternative, counted
-- from 1 over all levels
abbrev pub DeclarationHas : List Decl → ℕ → Decl → ℕ → ℕ → Condition → Type 0
DeclarationHas decls index decl zero zero c = HeadMeets decls index decl c
DeclarationHas decls index decl zero (suc symbol) c = ⊥
DeclarationHas decls index decl (suc before) symbol c =
    (alternative : Alt) × (slice_get (alternatives decl.levels) before ≡ Some alternative) ×
    AlternativeHas decls decl alternative symbol c

-- in a grammar: at the start line, which has the numbers 0, 0 and 0, or in a declaration, counted from 1
abbrev pub GrammarHas : Grammar → ℕ → ℕ → ℕ → Condition → Type 0
GrammarHas g zero zero zero c = StartMeets g c
GrammarHas g zero zero (suc symbol) c = ⊥
GrammarHas g zero (suc alternative) symbol c = ⊥
GrammarHas g (suc before) alternative symbol c =
    (decl : Decl) × (slice_get g.decls before ≡ Some decl) × DeclarationHas g.decls before decl alternative symbol c

-- the condition holds at the place
abbrev pub Has : Grammar → Place → Condition → Type 0
Has g place c = GrammarHas g place.decl place.alt place.symbol c

-- no condition holds at any place
abbrev pub IsWellScoped : Grammar → Type 0
IsWellScoped g = (place : Place) (c : Condition) → Has g place c → ⊥

-- places go by declaration, then by alternative, then by symbol
abbrev pub IsBefore : Place → Place → Type 0
IsBefore p q =
    (p.decl < q.decl) ⊎ ((p.decl ≡ q.decl) × ((p.alt < q.alt) ⊎ ((p.alt ≡ q.alt) × (p.symbol < q.symbol))))

-- the condition holds, none of a lesser number does, and no earlier case of the same number
pub record IsLeast (Holds : Condition → Type 0) (c : Condition) : Type 0 where
  pub holds : Holds c
  pub least : (other : Condition) → Holds other → number c ≤ number other
  pub first_case : (other : Condition) → Holds other → number other ≡ number c → case_number c ≤ case_number other

-- the condition is the first by place, then by number
pub record IsFirst (g : Grammar) (place : Place) (c : Condition) : Type 0 where
  pub there : IsLeast (Has g place) c
  pub none_before : (earlier : Place) (other : Condition) → IsBefore earlier place → Has g earlier other → ⊥
