-- What instances of one grammar cover those of the other cover too, by induction on the height of their trees.
use Rattle.std.proofs.Common.{◌≡◌, ℕ, zero, suc, ◌+◌, ◌≤◌, List, ◌++◌, refl, sym, subst, arith}
use Rattle.ig_text.specs.Input.{Input}
use Rattle.ig_text.specs.declared.tag.Tag.{Tag}
use Rattle.ig_text.specs.Tree.{Tree, Trees, Node, one, join, height, greatest_height}
use Rattle.ig_text.proofs.Trees.{joined_height}
use Rattle.ig_expr.specs.declared.value.Value.{Value}
use Rattle.ig_meaning.specs.Environment.{Environment, AreBound}
use Rattle.ig_grammar.specs.Numbering.{Levelled, Declares, IsAlternative, tag_of}
use Rattle.ig_meaning.specs.Derivation.{Covers, Instance}
use Rattle.ig_meaning.specs.Derivation.{alternative}
use Rattle.ig_grammar.specs.declared.declaration.DeclKind.{DeclKind}
use Rattle.ig_grammar.specs.declared.declaration.Decl.{Decl}
use Rattle.ig_grammar.specs.declared.grammar.Grammar.{Grammar}
use Rattle.ig_grammar.specs.declared.place.Shape.{Shape}
use Rattle.ig_lexical.proofs.Simulation as sim

-- trees no higher than n
abbrev pub Low : ℕ → List ℕ → Trees → Type 0
Low n starts ts = greatest_height ts ≤ n

pub low_first : (n : ℕ) (ks ls : List ℕ) (ts us : Trees) → Low n (ks ++ ls) (join ts us) → Low n ks ts
low_first n ks ls ts us l = let h = joined_height ts us in omega (arith, h, l)

pub low_others : (n : ℕ) (ks ls : List ℕ) (ts us : Trees) → Low n (ks ++ ls) (join ts us) → Low n ls us
low_others n ks ls ts us l = let h = joined_height ts us in omega (arith, h, l)

pub low_inside : (n : ℕ) (t : Tag) (i j : ℕ) (ks : List ℕ) (ts : Trees) → Low n ks (one (Node t i j ts)) → Low n ks ts
low_inside n t i j ks ts l = omega (arith, l)

module _ (g : Grammar) (shapes : List Shape) (h : Grammar) (forms : List Shape) (text : Input)
    (Meets : Environment → Environment → Type 0) (Gains : List ℕ → List ℕ → Trees → Type 0)
    (Kinds : DeclKind → DeclKind → Type 0) (Named : List ℕ → Type 0) where
  pub record InstanceDerived (name : List ℕ) (vs : List Value) (kind : DeclKind) (i e : ℕ) (t : Tree) (starts : List ℕ) : Type 0 where
    pub other : DeclKind
    pub exposes : List ℕ
    pub derives : Instance h forms text name vs other i e t exposes
    pub kinds : Kinds kind other
    pub gains : Gains starts exposes (one t)

  -- instances with trees no higher than n
  abbrev pub LowInstances : ℕ → Type 0
  LowInstances n = (name : List ℕ) (vs : List Value) (kind : DeclKind) (i e : ℕ) (t : Tree) (starts : List ℕ) → Named name →
      height t ≤ n → Instance g shapes text name vs kind i e t starts → InstanceDerived name vs kind i e t starts

  -- the alternative of the same number of the declaration of the same number and name
  pub record AlternativeToo (n : ℕ) (name : List ℕ) (d : ℕ) (decl : Decl) (shape : Shape) (k : ℕ) (a : Levelled) : Type 0 where
    pub other : Decl
    pub by : Levelled
    pub declares : Declares h forms name d other shape
    pub numbered : IsAlternative other k by
    pub kinds : Kinds decl.kind other.kind
    pub binds : (vs : List Value) (env : Environment) → AreBound decl.params vs env → (later : Environment) × AreBound other.params vs later × Meets env later
    pub covers : sim.CoversToo g shapes h forms text Meets (Low n) Gains decl.kind other.kind a.alternative.symbols by.alternative.symbols

  module _ (gains_node : (t : Tag) (i j : ℕ) (ks ms : List ℕ) (ts : Trees) → Gains ks ms ts → Gains ks ms (one (Node t i j ts)))
      (alternatives_too : (n : ℕ) → LowInstances n → (name : List ℕ) (d : ℕ) (decl : Decl) (shape : Shape) (k : ℕ) (a : Levelled) → Named name →
      Declares g shapes name d decl shape → IsAlternative decl k a → AlternativeToo n name d decl shape k a) where
    lifted : (n : ℕ) (ts : Trees) (t : Tree) (tag : Tag) (i e : ℕ) → t ≡ Node tag i e ts → height t ≤ suc n → greatest_height ts ≤ n
    lifted n ts t tag i e same low = let l : greatest_height ts + 1 ≤ suc n = subst (λ u. height u ≤ suc n) same low in omega (arith, l)

    lowest : (ts : Trees) (t : Tree) (tag : Tag) (i e : ℕ) → t ≡ Node tag i e ts → height t ≤ zero → ⊥
    lowest ts t tag i e same low = let l : greatest_height ts + 1 ≤ zero = subst (λ u. height u ≤ zero) same low in omega (arith, l)

    pub low_instances : (n : ℕ) → LowInstances n
    low_instances zero name vs kind i e t starts named low (alternative _ _ _ d k decl shape a env after _ _ ts _ _ declares numbered bound same covers tree) =
        absurd (lowest ts t (tag_of shape d k) i e tree low)
    low_instances (suc n) name vs kind i e t starts named low (alternative _ _ _ d k decl shape a env after _ _ ts _ _ declares numbered bound same covers tree) =
        let too = alternatives_too n (low_instances n) name d decl shape k a named declares numbered in
        let start = too.binds vs env bound in
        let r = too.covers env start.0 after i e ts starts start.2 (lifted n ts t (tag_of shape d k) i e tree low) (subst (λ c. Covers g shapes text c a.alternative.symbols env i e ts after starts) same covers) in
        record {
          other = too.other.kind;
          exposes = r.exposes;
          derives = alternative name vs too.other.kind d k too.other shape too.by start.0 r.later i e ts t r.exposes too.declares too.numbered start.1 refl r.covers tree;
          kinds = subst (λ c. Kinds c too.other.kind) (sym same) too.kinds;
          gains = subst (λ u. Gains starts r.exposes (one u)) (sym tree) (gains_node (tag_of shape d k) i e starts r.exposes ts r.gains);
        }
