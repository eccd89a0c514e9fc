-- Which trees a grammar permits for a whole text.
use Rattle.std.specs.Prelude.{◌≡◌, ℕ, List, [], ◌∷◌, Option, Some, None, length}
use Rattle.ig_text.specs.Input.{Input}
use Rattle.ig_text.specs.declared.tag.Tag.TheVariants.{Root}
use Rattle.ig_text.specs.Tree.{Tree, Trees, Node}
use Rattle.ig_grammar.specs.Symbol.{Symbol, Call}
use Rattle.ig_grammar.specs.Numbering.{Levelled, Declares, IsAlternative, layout_among}
use Rattle.ig_meaning.specs.Derivation.{Covers}
use Rattle.ig_meaning.specs.Environment.{Environment}
use Rattle.ig_meaning.specs.Clean.{Clean}
use Rattle.ig_grammar.specs.declared.declaration.DeclKind.{DeclKind}
use Rattle.ig_grammar.specs.declared.declaration.DeclKind.TheVariants.{Syntax}
use Rattle.ig_grammar.specs.declared.declaration.Decl.{Decl}
use Rattle.ig_grammar.specs.declared.grammar.Grammar.{Grammar}
use Rattle.ig_grammar.specs.declared.place.Shape.{Shape}
use Rattle.ig_grammar.specs.declared.place.Shape.TheVariants as shape

-- the symbols, behind a call of the layout nonterminal where there is one
abbrev pub behind_layout : Option (List ℕ) → List Symbol → List Symbol
behind_layout None symbols = symbols
behind_layout (Some name) symbols = Call name [] ∷ symbols

-- the root alternative of a grammar, and the kind of declaration as which it is read
pub data IsRootAlternative (g : Grammar) (shapes : List Shape) : DeclKind → List Symbol → Type 0 where
  -- the call of the layout nonterminal where one is declared, then that of the start symbol, as in a syntax declaration
  written : (start : List ℕ) (symbols : List Symbol) → g.start ≡ Some start →
      ((d : ℕ) (decl : Decl) → Declares g shapes start d decl shape.Root → ⊥) →
      symbols ≡ behind_layout (layout_among g.decls) (Call start [] ∷ []) → IsRootAlternative g shapes Syntax symbols
  -- where the start stands for the root, its one alternative, read by its kind
  declared : (start : List ℕ) (d : ℕ) (decl : Decl) (a : Levelled) (kind : DeclKind) (symbols : List Symbol) →
      g.start ≡ Some start → Declares g shapes start d decl shape.Root → IsAlternative decl 1 a →
      kind ≡ decl.kind → symbols ≡ a.alternative.symbols → IsRootAlternative g shapes kind symbols

-- a permitted tree is a clean root over what the root alternative covers, the whole text
pub record Permitted (g : Grammar) (shapes : List Shape) (text : Input) (t : Tree) : Type 0 where
  pub kind : DeclKind
  pub symbols : List Symbol
  pub children : Trees
  pub after : Environment
  pub starts : List ℕ
  pub root : IsRootAlternative g shapes kind symbols
  pub covered : Covers g shapes text kind symbols [] 0 (length text.characters) children after starts
  pub whole : t ≡ Node Root 0 (length text.characters) children
  pub clean : Clean g t
