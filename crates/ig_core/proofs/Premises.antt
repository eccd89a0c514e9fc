-- What the trees of a core grammar rest on.
use Rattle.std.specs.Prelude.{◌≡◌, ◌≢◌, ℕ, ◌<◌, List, [], All, Contains, Some, None, length, slice_get}
use Rattle.ig_grammar.specs.Names.{names, AreDistinct}
use Rattle.ig_grammar.specs.Numbering.{alternatives, layout_among}
use Rattle.ig_meaning.specs.Laws.{HasNoOperators}
use Rattle.ig_grammar.specs.declared.grammar.Grammar.{Grammar}
use Rattle.ig_grammar.specs.declared.declaration.Decl.{Decl}
use Rattle.ig_grammar.specs.declared.symbol.Alt.{Alt}
use Rattle.ig_grammar.specs.declared.place.Shape.{Shape}
use Rattle.ig_grammar.specs.declared.place.Shape.TheVariants.{Rule, Root}
use Rattle.ig_pass.specs.Remaining.{Remains}

-- a name is that of a declaration that doesn't stand for the root, and has so many parameters
abbrev pub IsCalled : Grammar → List Shape → List ℕ → ℕ → Type 0
IsCalled g shapes name n =
    (k : ℕ) × (decl : Decl) × (shape : Shape) × (slice_get g.decls k ≡ Some decl) × (slice_get shapes k ≡ Some shape) ×
    (shape ≢ Root) × (decl.name ≡ name) × (length decl.params ≡ n)

-- what the last pass leaves, or a grammar as written with built forms alone
pub record HasCore (g : Grammar) (shapes : List Shape) : Type 0 where
  pub distinct : AreDistinct (names g.decls)
  pub counted : length shapes ≡ length g.decls
  -- no layout is declared, as where each declaration is plain
  pub no_layout : layout_among g.decls ≡ None
  pub free : (decl : Decl) → Contains g.decls decl → HasNoOperators decl.levels
  pub remains : (decl : Decl) (a : Alt) → Contains g.decls decl → Contains (alternatives decl.levels) a → All (Remains (IsCalled g shapes)) a.symbols
  -- the start is declared, and has no parameters
  pub started : (start : List ℕ) × (g.start ≡ Some start) × ((k : ℕ) × (decl : Decl) × (slice_get g.decls k ≡ Some decl) × (decl.name ≡ start) × (length decl.params ≡ 0))
  -- a declaration of the shape `Root` is the start and has one alternative, without parameters; it stands behind each rule
  pub rooted : (k : ℕ) (decl : Decl) → slice_get g.decls k ≡ Some decl → slice_get shapes k ≡ Some Root →
      (g.start ≡ Some decl.name) × (length (alternatives decl.levels) ≡ 1) × (decl.params ≡ [])
  pub after_rules : (k r : ℕ) → slice_get shapes k ≡ Some Rule → slice_get shapes r ≡ Some Root → k < r
