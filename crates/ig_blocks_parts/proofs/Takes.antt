-- What the pass makes of declarations, as facts on two grammars, with what the proof takes from the crates below.
use Rattle.std.specs.Prelude.{◌≡◌, ℕ, false, List, [], ◌∷◌, ◌++◌, Some}
use Rattle.ig_blocks_parts.specs.Blocks.{int_param}
use Rattle.ig_grammar.specs.Symbol.{Symbol}
use Rattle.ig_meaning.specs.Inversion.{DerivationsInvert}
use Rattle.ig_meaning.specs.Laws.{SpansAreInOrder}
use Rattle.ig_meaning.specs.Permitted.{IsRootAlternative}
use Rattle.ig_grammar.specs.Numbering.{Levelled, Declares, IsAlternative, layout_among}
use Rattle.ig_grammar.specs.declared.declaration.DeclKind.{DeclKind}
use Rattle.ig_grammar.specs.declared.declaration.DeclKind.TheVariants.{Lexical, Layout}
use Rattle.ig_grammar.specs.declared.declaration.Decl.{Decl}
use Rattle.ig_grammar.specs.declared.declaration.Param.{Param}
use Rattle.ig_grammar.specs.declared.grammar.Grammar.{Grammar}
use Rattle.ig_grammar.specs.declared.place.Shape.{Shape}
use Rattle.ig_blocks_parts.specs.Setting.{Setting, extra, pair_for, lacking}
use Rattle.ig_blocks_parts.proofs.Reading.{IsWritten}
use Rattle.ig_blocks_parts.proofs.Lowered.{Covered}

abbrev pub AreWritten : Setting → List Param → Type 0
AreWritten s [] = Unit {0}
AreWritten s (p ∷ ps) = IsWritten s p.name × AreWritten s ps

-- an alternative of a declaration, and what becomes of it
pub record IsRemade (s : Setting) (decl other : Decl) (a b : Levelled) : Type 0 where
  pub kind : other.kind ≡ decl.kind
  pub params : other.params ≡ decl.params ++ extra s decl.kind (int_param s.m) (int_param s.f)
  pub written : AreWritten s decl.params
  pub symbols : Covered s decl.kind (pair_for s decl.kind) a.alternative.symbols b.alternative.symbols

pub record Takes (s : Setting) (g h : Grammar) (shapes others : List Shape) : Type 0 where
  pub kinds : (name : List ℕ) (kind : DeclKind) (d : ℕ) (decl : Decl) (shape : Shape) → s.kind_of name ≡ Some kind →
      Declares g shapes name d decl shape → decl.kind ≡ kind
  pub forth : (name : List ℕ) (kind : DeclKind) (d k : ℕ) (decl : Decl) (shape : Shape) (a : Levelled) → s.kind_of name ≡ Some kind →
      Declares g shapes name d decl shape → IsAlternative decl k a →
      (other : Decl) × (b : Levelled) × Declares h others name d other shape × IsAlternative other k b × IsRemade s decl other a b
  pub back : (name : List ℕ) (kind : DeclKind) (d k : ℕ) (other : Decl) (shape : Shape) (b : Levelled) → s.kind_of name ≡ Some kind →
      Declares h others name d other shape → IsAlternative other k b →
      (decl : Decl) × (a : Levelled) × Declares g shapes name d decl shape × IsAlternative decl k a × IsRemade s decl other a b
  pub layout : layout_among h.decls ≡ layout_among g.decls
  pub layout_kind : (name : List ℕ) → layout_among g.decls ≡ Some name → s.kind_of name ≡ Some Layout
  pub layout_unpaired : s.paired Layout ≡ false
  pub lexical_unpaired : s.paired Lexical ≡ false
  pub in_order : SpansAreInOrder
  pub inverts : DerivationsInvert

-- what becomes of the root alternative, which has no pair
pub record TakesRoot (s : Setting) (g h : Grammar) (shapes others : List Shape) : Type 0 where
  pub forth : (kind : DeclKind) (xs : List Symbol) → IsRootAlternative g shapes kind xs →
      (ys : List Symbol) × IsRootAlternative h others kind ys × Covered s kind lacking xs ys
  pub back : (kind : DeclKind) (ys : List Symbol) → IsRootAlternative h others kind ys →
      (xs : List Symbol) × IsRootAlternative g shapes kind xs × Covered s kind lacking xs ys
