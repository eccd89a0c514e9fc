-- The layout pass permits the same trees.
use Rattle.std.proofs.Common.{◌≡◌, ◌∙◌, ℕ, List, refl, sym, ap, subst}
use Rattle.std.specs.Prelude.{◌↔◌, Contains, slice_get}
use Rattle.ig_text.specs.Input.{Input}
use Rattle.ig_text.specs.Tree.{Tree}
use Rattle.ig_grammar.specs.Symbol.{Symbol}
use Rattle.ig_meaning.specs.Laws.{HasNoOperators, TreesWithoutOperatorsAreClean}
use Rattle.ig_pass.specs.Found.{DeclarationsAreFound}
use Rattle.ig_grammar.specs.Regular.{AlternativesHaveNoMark, OfEachLevel}
use Rattle.ig_grammar.specs.Numbering.{Levelled, by_level, Declares, IsAlternative, layout_among}
use Rattle.ig_meaning.specs.Permitted.{Permitted}
use Rattle.ig_grammar.specs.WellScoped.{IsWellScoped}
use Rattle.ig_grammar.specs.Checked.{CheckedGrammar}
use Rattle.ig_grammar.specs.declared.declaration.DeclKind.TheVariants.{Syntax}
use Rattle.ig_grammar.specs.declared.declaration.Decl.{Decl}
use Rattle.ig_grammar.specs.declared.grammar.Grammar.{Grammar}
use Rattle.ig_grammar.specs.declared.place.Shape.{Shape}
use Rattle.ig_grammar.specs.declared.place.Shape.TheVariants as shape
use Rattle.ig_pass.specs.SameTrees.{PermitSame, SameTreesIsAnEquivalence}
use Rattle.ig_pass.specs.Passing.{ResultsAreReady}
use Rattle.ig_pass.specs.KeptByRoot.{RootKeeps}
use Rattle.ig_pass.specs.Rooted.{rooted}
use Rattle.ig_pass.specs.Sound.{IsSound, IsFree, IsUnmarked}
use Rattle.ig_lexical.proofs.Instances.{LowInstances, AlternativeToo}
use Rattle.ig_lexical.proofs.Leaves.{SameEnv, AnyStarts}
use Rattle.ig_lexical.proofs.LayoutChain.{BecomesPlain}
use Rattle.ig_text.proofs.Lists.{contains_from_at, at_from_contains, mapped_at, from_map}
use Rattle.ig_lexical.proofs.Pass.{rewritten_by_level, levels_rewritten, free_rewritten}
use Rattle.ig_lexical.proofs.Permitting.{HasRoot, permitted_along}
use Rattle.ig_lexical.proofs.FiltersSame.{root_start}
use Rattle.ig_lexical.specs.Layout.{laid_in, laid_declaration, laid_grammar, laid_of, LayoutOf}
use Rattle.ig_lexical.proofs.Tight.{AnyName}
use Rattle.ig_lexical.proofs.LayingBack.{AnyKind}
use Rattle.ig_lexical.proofs.Unmarked.{everywhere}
use Rattle.ig_lexical.proofs.Sorting.{decided, all_plain, plain_tight, sort_of}
use Rattle.ig_lexical.proofs.Sides.{forward_covers, backward_covers}

-- what the proof takes from the crates below
pub record Given : Type 0 where
  pub cleans : TreesWithoutOperatorsAreClean
  pub found : DeclarationsAreFound
  pub root : RootKeeps
  pub passes : ResultsAreReady
  pub equivalence : SameTreesIsAnEquivalence

module _ (given : Given) (g : Grammar) (shapes : List Shape) (scoped : IsWellScoped g) (none : OfEachLevel AlternativesHaveNoMark g) (text : Input) where
  abbrev h : Grammar
  h = laid_grammar g

  abbrev own : Decl → Symbol → Symbol
  own decl = laid_in (layout_among g.decls) g.decls decl.kind

  there : (name : List ℕ) (d : ℕ) (decl : Decl) (s : Shape) → Declares g shapes name d decl s → Declares h shapes name d (laid_declaration g.decls decl) s
  there name d decl s a =
      record { numbered = (a.numbered.0, a.numbered.1, mapped_at (laid_declaration g.decls) g.decls a.numbered.0 decl a.numbered.2); shaped = a.shaped; named = a.named }

  numbered_there : (decl : Decl) (k : ℕ) (a : Levelled) → IsAlternative decl k a → IsAlternative (laid_declaration g.decls decl) k (rewritten_by_level (own decl) a)
  numbered_there decl k a n =
      (n.0, n.1, ap (λ xs. slice_get xs n.0) (levels_rewritten (own decl) decl.levels) ∙ mapped_at (rewritten_by_level (own decl)) (by_level decl.levels) n.0 a n.2)

  numbered_here : (decl : Decl) (k : ℕ) (b : Levelled) → IsAlternative (laid_declaration g.decls decl) k b → (a : Levelled) × IsAlternative decl k a × (b ≡ rewritten_by_level (own decl) a)
  numbered_here decl k b n =
      let r = from_map (rewritten_by_level (own decl)) (by_level decl.levels) n.0 b (ap (λ xs. slice_get xs n.0) (sym (levels_rewritten (own decl) decl.levels)) ∙ n.2) in
      (r.0, (n.0, n.1, r.1), r.2)

  forward_one : (n : ℕ) → LowInstances g shapes h shapes text SameEnv AnyStarts BecomesPlain AnyName n →
      (name : List ℕ) (d : ℕ) (decl : Decl) (s : Shape) (k : ℕ) (a : Levelled) → AnyName name → Declares g shapes name d decl s → IsAlternative decl k a →
      AlternativeToo g shapes h shapes text SameEnv AnyStarts BecomesPlain AnyName n name d decl s k a
  forward_one n known name d decl s k a named declares numbered =
      let among = contains_from_at g.decls declares.numbered.0 decl declares.numbered.2 in
      record {
        other = laid_declaration g.decls decl;
        by = rewritten_by_level (own decl) a;
        declares = there name d decl s declares;
        numbered = numbered_there decl k a numbered;
        kinds = refl;
        binds = λ vs env bound. (env, bound, refl);
        covers = forward_covers g shapes h shapes text (decided given.found g scoped shapes text h shapes) (plain_tight h shapes text) n known decl.kind (own decl) (sort_of g shapes text decl.kind)
            a.alternative.symbols (everywhere g none decl k a among numbered);
      }

  backward_one : (n : ℕ) → LowInstances h shapes g shapes text SameEnv AnyStarts AnyKind AnyName n →
      (name : List ℕ) (d : ℕ) (other : Decl) (s : Shape) (k : ℕ) (b : Levelled) → AnyName name → Declares h shapes name d other s → IsAlternative other k b →
      AlternativeToo h shapes g shapes text SameEnv AnyStarts AnyKind AnyName n name d other s k b
  backward_one n known name d other s k b named declares numbered =
      let r = from_map (laid_declaration g.decls) g.decls declares.numbered.0 other declares.numbered.2 in
      let among = contains_from_at g.decls declares.numbered.0 r.0 r.1 in
      let p = numbered_here r.0 k b (subst (λ z. IsAlternative z k b) r.2 numbered) in
      subst (λ z. AlternativeToo h shapes g shapes text SameEnv AnyStarts AnyKind AnyName n name d z s k b) (sym r.2)
      (subst (λ z. AlternativeToo h shapes g shapes text SameEnv AnyStarts AnyKind AnyName n name d (laid_declaration g.decls r.0) s k z) (sym p.2)
      (record {
        other = r.0;
        by = p.0;
        declares = record { numbered = (declares.numbered.0, declares.numbered.1, r.1); shaped = declares.shaped; named = ap (λ z. z.name) (sym r.2) ∙ declares.named };
        numbered = p.1;
        kinds = tt;
        binds = λ vs env bound. (env, bound, refl);
        covers = backward_covers g shapes h shapes text (decided given.found g scoped shapes text h shapes) (plain_tight h shapes text) n (all_plain g shapes text) known r.0.kind (own r.0) (sort_of g shapes text r.0.kind)
            p.0.alternative.symbols (everywhere g none r.0 k p.0 among p.1);
      }))

  module _ (free : (decl : Decl) → Contains g.decls decl → HasNoOperators decl.levels) (root : HasRoot g shapes) where
    free_there : (other : Decl) → Contains h.decls other → HasNoOperators other.levels
    free_there other m =
        let at = at_from_contains h.decls other m in let r = from_map (laid_declaration g.decls) g.decls at.0 other at.1 in
        subst (λ z. HasNoOperators z.levels) (sym r.2) (free_rewritten (own r.0) r.0.levels (free r.0 (contains_from_at g.decls at.0 r.0 r.1)))

    pub laid_permits : (t : Tree) → Permitted g shapes text t ↔ Permitted h shapes text t
    laid_permits t = (
      permitted_along g shapes h shapes text SameEnv AnyStarts BecomesPlain AnyName (λ t i j ks ms ts e. tt) forward_one refl refl (λ start e. tt) root t (λ k. given.cleans h free_there t),
      permitted_along h shapes g shapes text SameEnv AnyStarts AnyKind AnyName (λ t i j ks ms ts e. tt) backward_one refl refl (λ start e. tt)
          (λ start started. let r = root start started in (r.0, laid_declaration g.decls r.1, there start r.0 r.1 shape.Root r.2)) t (λ k. given.cleans g free t),
    )

-- a grammar with a root
pub with_root_same : Given → (c : CheckedGrammar) → IsWellScoped c.grammar → OfEachLevel AlternativesHaveNoMark c.grammar →
    ((decl : Decl) → Contains c.grammar.decls decl → HasNoOperators decl.levels) → HasRoot c.grammar c.shapes → PermitSame c (laid_of c)
with_root_same given c scoped none free root = record { same = λ text t. laid_permits given c.grammar c.shapes scoped none text free root t }

-- where no declaration has operators, and no mark is left
pub layout_same : Given → (c : CheckedGrammar) → IsSound c → IsFree c.grammar → IsUnmarked c.grammar → PermitSame c (LayoutOf c)
layout_same given c sound free none =
    let d = rooted Syntax c in
    let to = given.root.sound c sound in
    let kept = given.root.kept c sound.fit in
    given.equivalence.chained c d (laid_of d) to.same
    (with_root_same given d to.sound.scoped (kept.unmarked none) (kept.free free) (root_start d (given.root.stands d to.sound.fit kept.has)))
