-- What a grammar keeps when its root is written as a declaration.
use Rattle.std.specs.Prelude.{◌≡◌, ℕ, true, false, List, Contains, Some, slice_get}
use Rattle.ig_grammar.specs.Checked.{CheckedGrammar, FitShapes}
use Rattle.ig_grammar.specs.Numbering.{layout_among}
use Rattle.ig_grammar.specs.WellScoped.{IsWellScoped}
use Rattle.ig_grammar.specs.declared.declaration.DeclKind.TheVariants.{Plain, Syntax}
use Rattle.ig_grammar.specs.declared.declaration.Decl.{Decl}
use Rattle.ig_grammar.specs.declared.place.Shape.TheVariants.{Root}
use Rattle.ig_pass.specs.Added.{root_name, IsFresh}
use Rattle.ig_pass.specs.Remaining.{IsRemaining}
use Rattle.ig_pass.specs.Rooted.{has_root, rooted}
use Rattle.ig_pass.specs.SameTrees.{PermitSame}
use Rattle.ig_pass.specs.SameValues.{KeepsValues}
use Rattle.ig_pass.specs.Sound.{IsSound, IsFree, IsUnmarked, RootIsNamed}
use Rattle.ig_pass.specs.Unbound.{IsUnbound}

-- the declaration that stands for the root is the start
pub record RootAt (c : CheckedGrammar) : Type 0 where
  pub before : ℕ
  pub decl : Decl
  pub declared : slice_get c.grammar.decls before ≡ Some decl
  pub shaped : slice_get c.shapes before ≡ Some Root
  pub start : c.grammar.start ≡ Some decl.name

-- the other permits the same trees, with the same values, and is checked
pub record IsCheckedToo (c d : CheckedGrammar) : Type 0 where
  pub same : PermitSame c d
  pub values : KeepsValues c d
  pub scoped : IsWellScoped d.grammar
  pub fit : FitShapes d.grammar d.shapes

-- and is sound
pub record IsSoundToo (c d : CheckedGrammar) : Type 0 where
  pub same : PermitSame c d
  pub values : KeepsValues c d
  pub sound : IsSound d

-- what holds of a grammar holds of the other, in which a declaration stands for the root
pub record KeptByRoot (c d : CheckedGrammar) : Type 0 where
  pub has : has_root d.shapes ≡ true
  pub named : RootIsNamed c → RootIsNamed d
  pub free : IsFree c.grammar → IsFree d.grammar
  pub unmarked : IsUnmarked c.grammar → IsUnmarked d.grammar
  pub plain : (decl : Decl) → Contains d.grammar.decls decl → decl.kind ≡ Plain → Contains c.grammar.decls decl
  pub layout : layout_among d.grammar.decls ≡ layout_among c.grammar.decls
  pub unbound : (name : List ℕ) → IsUnbound c.grammar name → IsUnbound d.grammar name
  pub remaining : IsRemaining c.grammar → IsRemaining d.grammar

-- a sound grammar is sound with its root, and so is what a pass asks of it
pub record RootKeeps : Type 0 where
  pub stands : (c : CheckedGrammar) → FitShapes c.grammar c.shapes → has_root c.shapes ≡ true → RootAt c
  -- where no declaration stands for the root, none has its name
  pub checked : (c : CheckedGrammar) → IsWellScoped c.grammar → FitShapes c.grammar c.shapes →
      (has_root c.shapes ≡ false → IsFresh c.grammar root_name) → IsCheckedToo c (rooted Syntax c)
  pub sound : (c : CheckedGrammar) → IsSound c → IsSoundToo c (rooted Syntax c)
  pub kept : (c : CheckedGrammar) → FitShapes c.grammar c.shapes → KeptByRoot c (rooted Syntax c)
