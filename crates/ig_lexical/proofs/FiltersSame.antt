-- The filters pass permits the same trees.
use Rattle.std.proofs.Common.{◌≡◌, ◌∙◌, ℕ, suc, List, Some, None, refl, sym}
use Rattle.std.specs.Prelude.{Contains}
use Rattle.ig_text.specs.Input.{Input}
use Rattle.ig_text.specs.Tree.{Trees}
use Rattle.ig_expr.specs.Laws.{TestsLookFor}
use Rattle.ig_meaning.specs.Laws.{HasNoOperators, TreesWithoutOperatorsAreClean}
use Rattle.ig_grammar.specs.Numbering.{Declares, layout_among}
use Rattle.ig_grammar.specs.Checked.{CheckedGrammar}
use Rattle.ig_meaning.specs.Derivation.{Trails, layout, no_layout, outside}
use Rattle.ig_grammar.specs.declared.declaration.DeclKind.{DeclKind}
use Rattle.ig_grammar.specs.declared.declaration.DeclKind.TheVariants.{Syntax}
use Rattle.ig_grammar.specs.declared.declaration.Decl.{Decl}
use Rattle.ig_grammar.specs.declared.grammar.Grammar.{Grammar}
use Rattle.ig_grammar.specs.declared.place.Shape.{Shape}
use Rattle.ig_grammar.specs.declared.place.Shape.TheVariants as shape
use Rattle.ig_grammar.specs.Symbol.{gathered}
use Rattle.ig_pass.specs.SameTrees.{PermitSame, SameTreesIsAnEquivalence}
use Rattle.ig_pass.specs.Rewriting.{within, rewritten_grammar}
use Rattle.ig_pass.specs.Passing.{ResultsAreReady}
use Rattle.ig_pass.specs.Found.{DeclarationsAreFound}
use Rattle.ig_pass.specs.KeptByRoot.{RootAt, RootKeeps}
use Rattle.ig_pass.specs.Rooted.{rooted}
use Rattle.ig_pass.specs.Sound.{IsSound, IsFree}
use Rattle.ig_lexical.specs.Filters.{attached, attached_of, FiltersOf}
use Rattle.ig_lexical.proofs.Always.{always_symbols}
use Rattle.ig_lexical.proofs.Attaching.{attached_to, attached_from}
use Rattle.ig_lexical.proofs.Pass.{rewritten_permits, layout_rewritten}

tight : (g : Grammar) (shapes : List Shape) (text : Input) (c : DeclKind) → layout_among g.decls ≡ None → (e j : ℕ) (ts : Trees) → Trails g shapes text c e j ts → e ≡ j
tight g shapes text c none e j ts (layout name _ _ _ _ _ declared _) = absurd (cc)
tight g shapes text c none e j ts (no_layout _ _) = refl
tight g shapes text c none e j ts (outside _ _ _) = refl

-- a grammar with a root
pub with_root_same : TestsLookFor → TreesWithoutOperatorsAreClean → (c : CheckedGrammar) → layout_among c.grammar.decls ≡ None → ((decl : Decl) → Contains c.grammar.decls decl → HasNoOperators decl.levels) →
    ((start : List ℕ) → c.grammar.start ≡ Some start → (d : ℕ) × (decl : Decl) × Declares c.grammar c.shapes start d decl shape.Root) →
    PermitSame c (record { grammar = rewritten_grammar (λ decl. attached) c.grammar; shapes = c.shapes })
with_root_same looks cleans c none free root =
    record {
      same = λ text t.
          let unlaid : layout_among (rewritten_grammar (λ decl. attached) c.grammar).decls ≡ None = sym (layout_rewritten (λ decl. attached) c.grammar.decls) ∙ none in
          rewritten_permits (λ decl. attached) c.grammar c.shapes (λ x. Unit {0}) text
          (record {
            to = λ decl x env after i e j ts starts m q derived.
                attached_to looks (rewritten_grammar (λ decl. attached) c.grammar) c.shapes text decl.kind (tight (rewritten_grammar (λ decl. attached) c.grammar) c.shapes text decl.kind unlaid) (within attached x) env after i e j ts starts derived;
            from = λ decl x env after i e j ts starts m q derived.
                attached_from looks (rewritten_grammar (λ decl. attached) c.grammar) c.shapes text decl.kind (tight (rewritten_grammar (λ decl. attached) c.grammar) c.shapes text decl.kind unlaid) (within attached x) env after i e j ts starts derived;
          })
          (λ decl k a m n. always_symbols (gathered a.alternative.symbols)) cleans free root t;
    }

-- where a declaration stands for the root it is the start
pub root_start : (c : CheckedGrammar) → RootAt c → (start : List ℕ) → c.grammar.start ≡ Some start →
    (d : ℕ) × (decl : Decl) × Declares c.grammar c.shapes start d decl shape.Root
root_start c at start started = (
  suc at.before,
  at.decl,
  record {
    numbered = (at.before, refl, at.declared);
    shaped = (at.before, refl, at.shaped);
    named = let same : Some at.decl.name ≡ Some start = sym at.start ∙ started in cc;
  },
)

-- what the proof takes from the crates below
pub record Given : Type 0 where
  pub looks : TestsLookFor
  pub cleans : TreesWithoutOperatorsAreClean
  pub root : RootKeeps
  pub passes : ResultsAreReady
  pub found : DeclarationsAreFound
  pub equivalence : SameTreesIsAnEquivalence

-- where layout is called in the open, and no declaration has operators
pub filters_same : Given → (c : CheckedGrammar) → IsSound c → IsFree c.grammar → layout_among c.grammar.decls ≡ None → PermitSame c (FiltersOf c)
filters_same given c sound free none =
    let d = rooted Syntax c in
    let to = given.root.sound c sound in
    let kept = given.root.kept c sound.fit in
    given.equivalence.chained c d (attached_of d) to.same
    (with_root_same given.looks given.cleans d (kept.layout ∙ none) (kept.free free) (root_start d (given.root.stands d to.sound.fit kept.has)))
