-- From alternatives to permitted trees, in one direction, for grammars whose start stands for the root.
use Rattle.std.proofs.Common.{◌≡◌, ◌∙◌, ℕ, ◌≤◌, List, [], refl, sym, subst, arith, length, Some}
use Rattle.ig_text.specs.Input.{Input}
use Rattle.ig_text.specs.declared.tag.Tag.{Tag}
use Rattle.ig_text.specs.Tree.{Tree, Trees, Node, one, greatest_height}
use Rattle.ig_grammar.specs.Symbol.{Symbol}
use Rattle.ig_meaning.specs.Environment.{Environment}
use Rattle.ig_grammar.specs.Numbering.{Levelled, Declares, IsAlternative}
use Rattle.ig_meaning.specs.Clean.{Clean}
use Rattle.ig_meaning.specs.Permitted.{IsRootAlternative, written, declared, Permitted}
use Rattle.ig_meaning.specs.Derivation.{Covers}
use Rattle.ig_grammar.specs.declared.declaration.DeclKind.{DeclKind}
use Rattle.ig_grammar.specs.declared.declaration.Decl.{Decl}
use Rattle.ig_grammar.specs.declared.grammar.Grammar.{Grammar}
use Rattle.ig_grammar.specs.declared.place.Shape.{Shape}
use Rattle.ig_grammar.specs.declared.place.Shape.TheVariants as shape
use Rattle.ig_lexical.proofs.Instances.{LowInstances, AlternativeToo, low_instances}

-- the start stands for the root
abbrev pub HasRoot : Grammar → List Shape → Type 0
HasRoot g shapes = (start : List ℕ) → g.start ≡ Some start → (d : ℕ) × (decl : Decl) × Declares g shapes start d decl shape.Root

module _ (g : Grammar) (shapes : List Shape) (h : Grammar) (forms : List Shape) (text : Input)
    (Meets : Environment → Environment → Type 0) (Gains : List ℕ → List ℕ → Trees → Type 0)
    (Kinds : DeclKind → DeclKind → Type 0) (Named : List ℕ → Type 0)
    (gains_node : (t : Tag) (i j : ℕ) (ks ms : List ℕ) (ts : Trees) → Gains ks ms ts → Gains ks ms (one (Node t i j ts)))
    (alternatives_too : (n : ℕ) → LowInstances g shapes h forms text Meets Gains Kinds Named n →
    (name : List ℕ) (d : ℕ) (decl : Decl) (s : Shape) (k : ℕ) (a : Levelled) → Named name → Declares g shapes name d decl s → IsAlternative decl k a →
    AlternativeToo g shapes h forms text Meets Gains Kinds Named n name d decl s k a) where
  pub permitted_along : Meets [] [] → g.start ≡ h.start → ((start : List ℕ) → g.start ≡ Some start → Named start) → HasRoot g shapes →
      (t : Tree) → (Clean g t → Clean h t) → Permitted g shapes text t → Permitted h forms text t
  permitted_along met same_start named root t cleaned p = go p.kind p.symbols p.root p.covered
    where
      go : (kind : DeclKind) (xs : List Symbol) → IsRootAlternative g shapes kind xs → Covers g shapes text kind xs [] 0 (length text.characters) p.children p.after p.starts → Permitted h forms text t
      go kind xs (written start _ started unrooted same) covered = let r = root start started in absurd (unrooted r.0 r.1 r.2)
      go kind xs (declared start d decl a _ _ started declares numbered same symbols) covered =
          let n = greatest_height p.children in
          let low : greatest_height p.children ≤ n = omega arith in
          let known = low_instances g shapes h forms text Meets Gains Kinds Named gains_node alternatives_too n in
          let too = alternatives_too n known start d decl shape.Root 1 a (named start started) declares numbered in
          let r = too.covers [] [] p.after 0 (length text.characters) p.children p.starts met low
          (subst (λ c. Covers g shapes text c a.alternative.symbols [] 0 (length text.characters) p.children p.after p.starts) same
          (subst (λ ys. Covers g shapes text kind ys [] 0 (length text.characters) p.children p.after p.starts) symbols covered)) in
          record {
            kind = too.other.kind;
            symbols = too.by.alternative.symbols;
            children = p.children;
            after = r.later;
            starts = r.exposes;
            root = declared start d too.other too.by too.other.kind too.by.alternative.symbols (sym same_start ∙ started) too.declares too.numbered refl refl;
            covered = r.covers;
            whole = p.whole;
            clean = cleaned p.clean;
          }
