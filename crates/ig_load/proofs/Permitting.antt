-- The grammar permits a tree for each chain.
use Rattle.std.proofs.Common.{◌≡◌, ℕ, zero, suc, List, [], ◌∷◌, ◌++◌, Some, length, slice_get, refl, sym, subst, arith}
use Rattle.std.specs.Prelude.{codes}
use Rattle.std.proofs.lemmas.List.{append-nil}
use Rattle.ig_text.specs.Input.{untabbed}
use Rattle.ig_text.specs.declared.tag.Tag.{Tag}
use Rattle.ig_text.specs.declared.tag.Tag.TheVariants.{Root}
use Rattle.ig_text.specs.Tree.{Tree, Trees, Node, none, one}
use Rattle.ig_grammar.specs.Numbering.{Levelled, as_written}
use Rattle.ig_grammar.specs.declared.declaration.Decl.{Decl}
use Rattle.ig_grammar.specs.declared.declaration.DeclKind.TheVariants.{Syntax}
use Rattle.ig_grammar.specs.declared.place.Shape.TheVariants as shape
use Rattle.ig_meaning.specs.Clean.{Applies, IsClean}
use Rattle.ig_meaning.specs.Derivation.{Covers, empty, symbol, call}
use Rattle.ig_meaning.specs.Environment.{no_values}
use Rattle.ig_meaning.specs.Permitted.{Permitted, IsRootAlternative, written}
use Rattle.ig_load.specs.Grammar.{LoadGrammar, expression}
use Rattle.ig_load.specs.Laws.{ChainsArePermitted}
use Rattle.ig_load.proofs.Chains.{Term, text, IsOrdered, HasLetters, term_of}
use Rattle.ig_load.proofs.Places.{stands_whole}
use Rattle.ig_load.proofs.Derived.{past, past_is, tree, IsDerived, derived}
use Rattle.ig_load.proofs.Spines.{clean}

no_rule : (tag : Tag) (decl : Decl) (a : Levelled) → tag ≡ Root → Applies LoadGrammar tag decl a → ⊥
no_rule tag decl a e h = let tagged = h.tagged in cc

clean_root : (ts : Trees) → IsClean LoadGrammar Root ts
clean_root ts =
    record {
      left = λ a b x other low us begins spine ends. absurd (no_rule Root begins.decl a refl begins.applies);
      right = λ a b x other low us ends spine begins. absurd (no_rule Root ends.decl a refl ends.applies);
    }

no_root : (k : ℕ) → slice_get (shape.Rule ∷ []) k ≡ Some shape.Root → ⊥
no_root zero e = cc
no_root (suc k) e = cc

root : IsRootAlternative LoadGrammar (as_written LoadGrammar) Syntax (expression ∷ [])
unfolding LoadGrammar
root = written (codes "E") (expression ∷ []) refl (λ d decl h. no_root h.shaped.0 h.shaped.2) refl

covered : (w : List ℕ) (j : ℕ) (t : Tree) (d : IsDerived w 0 j t) →
    Covers LoadGrammar (as_written LoadGrammar) (untabbed w) Syntax (expression ∷ []) [] 0 j (one t) [] (d.starts ++ [])
covered w j t d =
    symbol Syntax expression [] [] [] [] 0 j j j (one t) none (one t) d.starts [] (d.starts ++ [])
    (call Syntax Syntax (codes "E") [] [] [] 0 j t d.starts no_values d.instance (λ e. cc)) (empty Syntax [] j) refl refl

permitted : (t : Term) → IsOrdered t → HasLetters t →
    Permitted LoadGrammar (as_written LoadGrammar) (untabbed (text t)) (Node Root 0 (length (text t)) (one (tree 0 t)))
permitted t ordered lettered =
    let d = derived (text t) t 0 lettered (stands_whole (text t) (sym (append-nil (text t)))) in
    let long = past_is t 0 in
    let end : past 0 t ≡ length (text t) = omega arith in
    record {
      kind = Syntax;
      symbols = expression ∷ [];
      children = one (tree 0 t);
      after = [];
      starts = d.starts ++ [];
      root = root;
      covered =
          subst (λ (z : ℕ). Covers LoadGrammar (as_written LoadGrammar) (untabbed (text t)) Syntax (expression ∷ []) [] 0 z (one (tree 0 t)) [] (d.starts ++ []))
          end (covered (text t) (past 0 t) (tree 0 t) d);
      whole = refl;
      clean = (clean_root (one (tree 0 t)), (clean t 0 ordered, tt));
    }

pub chains_are_permitted : ChainsArePermitted
chains_are_permitted first steps fits fit =
    let t = term_of first steps fits fit in
    subst (λ (z : List ℕ). (u : Tree) × Permitted LoadGrammar (as_written LoadGrammar) (untabbed z) u) t.spelled
    (Node Root 0 (length (text t.term)) (one (tree 0 t.term)), permitted t.term t.ordered t.lettered)
