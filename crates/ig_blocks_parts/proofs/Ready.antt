-- What the proof that trees stay the same asks of a grammar in which a declaration stands for the root.
use Rattle.std.specs.Prelude.{◌≡◌, ℕ, List, length, Some, slice_get}
use Rattle.ig_grammar.specs.Symbol.{gathered}
use Rattle.ig_grammar.specs.Numbering.{Levelled, IsAlternative}
use Rattle.ig_grammar.specs.Names.{names, AreDistinct}
use Rattle.ig_grammar.specs.Standing.{SymbolsStandWell}
use Rattle.ig_grammar.specs.declared.declaration.DeclKind.TheVariants.{Layout}
use Rattle.ig_grammar.specs.declared.declaration.Decl.{Decl}
use Rattle.ig_grammar.specs.declared.grammar.Grammar.{Grammar}
use Rattle.ig_grammar.specs.declared.place.Shape.{Shape}
use Rattle.ig_grammar.specs.declared.place.Shape.TheVariants.{Root}
use Rattle.ig_blocks_parts.specs.Blocks.{setting_of}
use Rattle.ig_blocks_parts.proofs.Takes.{AreWritten}
use Rattle.ig_blocks_parts.proofs.Fitting.{AreFit}

-- well scoped, regular, with a root, and without the names that the pass adds
pub record IsReady (g : Grammar) (shapes : List Shape) : Type 0 where
  pub distinct : AreDistinct (names g.decls)
  pub as_many : length shapes ≡ length g.decls
  pub params : (n : ℕ) (d : Decl) → slice_get g.decls n ≡ Some d → AreWritten (setting_of g.decls shapes) d.params
  pub well : (n : ℕ) (d : Decl) (k : ℕ) (a : Levelled) → slice_get g.decls n ≡ Some d → IsAlternative d k a →
      SymbolsStandWell (gathered a.alternative.symbols)
  pub fit : (n : ℕ) (d : Decl) (k : ℕ) (a : Levelled) → slice_get g.decls n ≡ Some d → IsAlternative d k a →
      AreFit (setting_of g.decls shapes) d.kind (gathered a.alternative.symbols)
  -- the layout declaration doesn't stand for the root, and the start does
  pub layout_no_root : (n : ℕ) (d : Decl) → slice_get g.decls n ≡ Some d → d.kind ≡ Layout → slice_get shapes n ≡ Some Root → ⊥
  pub rooted : (start : List ℕ) × (n : ℕ) × (d : Decl) × (g.start ≡ Some start) × (slice_get g.decls n ≡ Some d) × (d.name ≡ start) ×
      (slice_get shapes n ≡ Some Root)
