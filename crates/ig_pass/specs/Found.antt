-- Which declaration a name has, by the declarations in order, and where those stand that are found.
use Rattle.std.specs.Prelude.{◌≡◌, ℕ, List, ◌∷◌, Some, map, if◌then◌else◌, option_map, slice_get}
use Rattle.ig_text.specs.Words.{is_word}
use Rattle.ig_grammar.specs.Condition.{declaration_of}
use Rattle.ig_grammar.specs.Names.{AreDistinct, names}
use Rattle.ig_grammar.specs.WellScoped.{IsWellScoped}
use Rattle.ig_grammar.specs.declared.declaration.Decl.{Decl}
use Rattle.ig_grammar.specs.declared.grammar.Grammar.{Grammar}
use Rattle.ig_grammar.specs.Numbering.{layout_among}
use Rattle.ig_grammar.specs.declared.declaration.DeclKind.TheVariants.{Layout}

-- the layout nonterminal is declared, as one
abbrev pub HasLayout : List Decl → List ℕ → Type 0
HasLayout ds name = (k : ℕ) × (decl : Decl) × (slice_get ds k ≡ Some decl) × (decl.name ≡ name) × (decl.kind ≡ Layout)

pub record DeclarationsAreFound : Type 0 where
  -- the declaration of a name is the first one with that name
  pub first : (d : Decl) (ds : List Decl) (name : List ℕ) →
      declaration_of (d ∷ ds) name ≡ (if is_word d.name name then Some d else declaration_of ds name)
  -- where no two declarations have one name, each is that of its name
  pub itself : (ds : List Decl) → AreDistinct (names ds) → (k : ℕ) (decl : Decl) → slice_get ds k ≡ Some decl →
      declaration_of ds decl.name ≡ Some decl
  -- in a well-scoped grammar no two have one name
  pub distinct : (g : Grammar) → IsWellScoped g → AreDistinct (names g.decls)
  -- where each declaration is changed and keeps its name, that of a name is the changed one
  pub changed : (change : Decl → Decl) → ((d : Decl) → (change d).name ≡ d.name) → (ds : List Decl) (name : List ℕ) →
      declaration_of (map change ds) name ≡ option_map change (declaration_of ds name)
  -- a declaration that is found stands at a place, under its name
  pub place : (ds : List Decl) (name : List ℕ) (d : Decl) → declaration_of ds name ≡ Some d →
      (k : ℕ) × (slice_get ds k ≡ Some d) × (d.name ≡ name)
  -- and so does the layout nonterminal
  pub layout : (ds : List Decl) (name : List ℕ) → layout_among ds ≡ Some name → HasLayout ds name
