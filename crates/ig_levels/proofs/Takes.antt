-- What the induction uses of two grammars.
use Rattle.std.specs.Prelude.{◌≡◌, ℕ, Bool, true, false, List, Some}
use Rattle.ig_text.specs.Tree.{Tree, Trees, more, one, join}
use Rattle.ig_grammar.specs.Symbol.{Symbol}
use Rattle.ig_grammar.specs.Numbering.{Levelled, Declares, IsAlternative, layout_among}
use Rattle.ig_grammar.specs.declared.declaration.DeclKind.{DeclKind}
use Rattle.ig_grammar.specs.declared.declaration.Decl.{Decl}
use Rattle.ig_grammar.specs.declared.grammar.Grammar.{Grammar}
use Rattle.ig_grammar.specs.declared.place.Shape.{Shape}
use Rattle.ig_grammar.specs.declared.place.Shape.TheVariants as shapes_of
use Rattle.ig_levels.specs.Levels.{is_levelled, lowered_declaration, Place, has_left, has_right}
use Rattle.ig_levels.proofs.WithBounds.{Bounds, unbounded, bounded, AllClear, ParametersOfSource}
use Rattle.ig_levels.specs.Spines.{AtLeast}

-- the declaration of the name in the source, whose lowered one is this
pub record DeclaredAs (g : Grammar) (shapes : List Shape) (levelled : List ℕ → Bool) (name : List ℕ) (d : ℕ) (lower : Decl) (shape : Shape) : Type 0 where
  pub decl : Decl
  pub declares : Declares g shapes name d decl shape
  pub same : lower ≡ lowered_declaration levelled decl

pub record Takes (g g' : Grammar) (shapes shapes' : List Shape) (levelled : List ℕ → Bool) : Type 0 where
  pub forth : (name : List ℕ) (d : ℕ) (decl : Decl) (shape : Shape) → Declares g shapes name d decl shape →
      Declares g' shapes' name d (lowered_declaration levelled decl) shape
  pub back : (name : List ℕ) (d : ℕ) (lower : Decl) (shape : Shape) → Declares g' shapes' name d lower shape →
      DeclaredAs g shapes levelled name d lower shape
  pub known : (name : List ℕ) (d : ℕ) (decl : Decl) (shape : Shape) → Declares g shapes name d decl shape → levelled name ≡ is_levelled decl.levels
  pub once : (name : List ℕ) (d e : ℕ) (decl other : Decl) (shape form : Shape) → Declares g shapes name d decl shape →
      Declares g shapes name e other form → decl ≡ other
  pub rules : (name : List ℕ) (d : ℕ) (decl : Decl) (shape : Shape) → Declares g shapes name d decl shape → is_levelled decl.levels ≡ true →
      shape ≡ shapes_of.Rule
  pub clear : (name : List ℕ) (d : ℕ) (decl : Decl) (shape : Shape) (k : ℕ) (a : Levelled) → Declares g shapes name d decl shape →
      IsAlternative decl k a → AllClear a.alternative.symbols
  pub parameters : (name : List ℕ) (d : ℕ) (decl : Decl) (shape : Shape) → Declares g shapes name d decl shape → ParametersOfSource decl.params
  pub layout : layout_among g'.decls ≡ layout_among g.decls
  pub layout_plain : (name : List ℕ) → layout_among g.decls ≡ Some name → levelled name ≡ false

abbrev pub left_of : Bounds → ℕ
left_of unbounded = 0
left_of (bounded l r) = l

abbrev pub right_of : Bounds → ℕ
right_of unbounded = 0
right_of (bounded l r) = r

-- operands stand only where there are bounds
abbrev pub Fits : Place → Bounds → Type 0
Fits p b = p.active ≡ true → (l : ℕ) × (r : ℕ) × (b ≡ bounded l r)

module _ (g : Grammar) (shapes : List Shape) where
  -- the declaration of an operand has the kind of the alternative
  abbrev pub OwnKind : Place → DeclKind → Type 0
  OwnKind p c = p.active ≡ true → (d : ℕ) (decl : Decl) (shape : Shape) → Declares g shapes p.own d decl shape → decl.kind ≡ c

-- what the trees of symbols keep to, as far as their operands are among them
module _ (g : Grammar) where
  pub record Wanted (p : Place) (b : Bounds) (first : Bool) (xs : List Symbol) (vs : Trees) : Type 0 where
    pub left : has_left p first xs ≡ true → (t : Tree) (us : Trees) → vs ≡ more t us → AtLeast g (left_of b) p.left t
    pub right : has_right p first xs ≡ true → (ts : Trees) (t : Tree) → vs ≡ join ts (one t) → AtLeast g p.right (right_of b) t

  -- of the trees of a symbol the first one
  pub record Handed (l r : ℕ) (ts : Trees) : Type 0 where
    pub first : (t : Tree) (us : Trees) → ts ≡ more t us → AtLeast g l r t
