-- The pass permits the same trees.
use Rattle.std.proofs.Common.{◌≡◌, ℕ, Bool, true, false, List, [], ◌∷◌, refl, sym, subst, map, if◌then◌else◌, arith}
use Rattle.std.specs.Prelude.{Contains}
use Rattle.ig_text.proofs.Lists.{at_from_contains, contains_from_at}
use Rattle.ig_grammar.specs.Checked.{CheckedGrammar}
use Rattle.ig_grammar.specs.declared.declaration.Decl.{Decl}
use Rattle.ig_grammar.specs.declared.declaration.Level.{Level}
use Rattle.ig_grammar.specs.declared.grammar.Grammar.{Grammar}
use Rattle.ig_grammar.specs.declared.place.Shape.{Shape}
use Rattle.ig_meaning.specs.Inversion.{DerivationsInvert}
use Rattle.ig_meaning.specs.Laws.{HasNoOperators, SpansAreInOrder, TreesWithoutOperatorsAreClean}
use Rattle.ig_pass.specs.Added.{AddedNamesAreNew}
use Rattle.ig_pass.specs.Found.{DeclarationsAreFound}
use Rattle.ig_pass.specs.Asked.{SymbolsAsk, AsksElsewhere}
use Rattle.ig_pass.specs.Passing.{ResultsAreReady}
use Rattle.ig_pass.specs.KeptByRoot.{RootAt, RootKeeps}
use Rattle.ig_pass.specs.Rooted.{is_root}
use Rattle.ig_pass.specs.SameTrees.{PermitSame, SameTreesIsAnEquivalence}
use Rattle.ig_pass.specs.SameValues.{KeepsValues}
use Rattle.ig_pass.specs.Sound.{IsFree}
use Rattle.ig_blocks_parts.specs.Setting.{Setting, Pair, lacking, pair_for}
use Rattle.ig_blocks_parts.specs.Blocks.{setting_of, level_by, declaration_by, root_by, lowered_declaration, lowered_declarations, lowered_grammar, lowered_of}
use Rattle.ig_blocks_parts.proofs.Reading.{AreApart}
use Rattle.ig_blocks_parts.proofs.Same.{same_trees, same_values}
use Rattle.ig_blocks_parts.proofs.Taking.{Zipped, zip_back, takes, takes_root}
use Rattle.ig_blocks_parts.proofs.Rooting.{IsPrepared}
use Rattle.ig_blocks_parts.proofs.Readiness.{ready}

-- what the proof takes from the crates below
pub record Given : Type 0 where
  pub in_order : SpansAreInOrder
  pub inverts : DerivationsInvert
  pub cleans : TreesWithoutOperatorsAreClean
  pub found : DeclarationsAreFound
  pub new : AddedNamesAreNew
  pub root : RootKeeps
  pub ask : SymbolsAsk
  pub elsewhere : AsksElsewhere
  pub passes : ResultsAreReady
  pub equivalence : SameTreesIsAnEquivalence

other_letters : (a b : ℕ) → 46 ∷ a ∷ [] ≡ 46 ∷ b ∷ [] → (a ≡ b → ⊥) → ⊥
other_letters a b e ne = let same : a ≡ b = cc in ne same

pub apart : (decls : List Decl) (shapes : List Shape) → AreApart (setting_of decls shapes)
apart decls shapes =
    record {
      m_f = λ e. other_letters 109 102 e (omega arith);
      m_c = λ e. other_letters 109 99 e (omega arith);
      f_c = λ e. other_letters 102 99 e (omega arith);
    }

-- the pair in a declaration
abbrev pub pair_at : Setting → Shape → Decl → Pair
pair_at s shape d = if is_root shape then lacking else pair_for s d.kind

pub levels_are : (s : Setting) (shape : Shape) (d : Decl) → (lowered_declaration s shape d).levels ≡ map (level_by s (pair_at s shape d)) d.levels
levels_are s shape d = go (is_root shape)
  where
    go : (b : Bool) → (if b then root_by s d else declaration_by s d).levels ≡ map (level_by s (if b then lacking else pair_for s d.kind)) d.levels
    go true = refl
    go false = refl

no_operators : (s : Setting) (p : Pair) (levels : List Level) → HasNoOperators levels → HasNoOperators (map (level_by s p) levels)
no_operators s p [] h = tt
no_operators s p (level ∷ []) h = h
no_operators s p (level ∷ next ∷ others) h = absurd h

-- a declaration of the lowered grammar, and that of which it is made
pub made_of : (s : Setting) (shapes : List Shape) (ds : List Decl) (decl : Decl) → Contains (lowered_declarations s shapes ds) decl →
    (n : ℕ) × Zipped s shapes ds n decl
made_of s shapes ds decl m = let at = at_from_contains (lowered_declarations s shapes ds) decl m in (at.0, zip_back s shapes ds at.0 decl at.1)

pub lowered_is_free : (g : Grammar) (shapes : List Shape) → IsFree g → IsFree (lowered_grammar g shapes)
lowered_is_free g shapes free decl m =
    let s = setting_of g.decls shapes in
    let z = made_of s shapes g.decls decl m in
    let d = z.1 in
    let levels : HasNoOperators (map (level_by s (pair_at s d.shape d.d)) d.d.levels) =
    no_operators s (pair_at s d.shape d.d) d.d.levels (free d.d (contains_from_at g.decls z.0 d.d d.has)) in
    subst (λ (q : Decl). HasNoOperators q.levels) d.made (subst HasNoOperators (sym (levels_are s d.shape d.d)) levels)

pub lowered_permits : Given → (c : CheckedGrammar) → IsPrepared c → RootAt c → PermitSame c (lowered_of c)
lowered_permits given c prepared at =
    let g = c.grammar in
    let shapes = c.shapes in
    let is = ready given.found c prepared given.ask at in
    record {
      same = λ text t.
          same_trees (setting_of g.decls shapes) g (lowered_grammar g shapes) shapes shapes text t (apart g.decls shapes)
          (takes given.in_order given.inverts g shapes is) (takes_root given.in_order given.inverts g shapes is)
          ((λ k. given.cleans (lowered_grammar g shapes) (lowered_is_free g shapes prepared.free) t), (λ k. given.cleans g prepared.free t));
    }

pub lowered_keeps_values : Given → (c : CheckedGrammar) → IsPrepared c → RootAt c → KeepsValues c (lowered_of c)
lowered_keeps_values given c prepared at =
    let g = c.grammar in
    let shapes = c.shapes in
    let is = ready given.found c prepared given.ask at in
    record {
      values = λ text t u.
          same_values (setting_of g.decls shapes) g (lowered_grammar g shapes) shapes shapes text t u (apart g.decls shapes)
          (takes given.in_order given.inverts g shapes is) (takes_root given.in_order given.inverts g shapes is);
    }
