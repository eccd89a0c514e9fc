-- What the proofs speak of: environments at names, symbols that may be lowered, and what the lowered grammar declares.
use Rattle.std.specs.Prelude.{◌≡◌, ◌≢◌, ℕ, Bool, true, false, ◌||◌, List, [], ◌∷◌, ◌++◌, Option, Some, None}
use Rattle.std.specs.Prelude.{is_some, slice_get, length, ◌≤◌, ◌<◌, ◌^◌}
use Rattle.ig_ebnf_variables.specs.Lists.{Element, Made, added, added_symbols, new_symbols, new_declaration, all_added}
use Rattle.ig_ebnf_variables.specs.Lists.{count_levels}
use Rattle.ig_expr.specs.Names.{look_up}
use Rattle.ig_expr.specs.declared.kind.Kind.{Kind}
use Rattle.ig_expr.specs.declared.value.Value.{Value}
use Rattle.ig_grammar.specs.Binding.{Binding}
use Rattle.ig_grammar.specs.Numbering.{Levelled, Declares, IsAlternative, layout_among, IsDeclaration, HasShape}
use Rattle.ig_grammar.specs.Symbol.{Symbol, Literal, OneOf, Call, Label, Guard, Let, Opt, Star, Plus, SepStar}
use Rattle.ig_grammar.specs.Symbol.{SepPlus, Group, Offside, Ignore, Align}
use Rattle.ig_grammar.specs.Symbol.{Filtered, Seq, Entry, Symbols, no_symbols, next_symbol, Alternatives}
use Rattle.ig_grammar.specs.Symbol.{no_alternatives, next_alternative, gathered}
use Rattle.ig_grammar.specs.Visible.{Visible, binds, replaced, parameters, kind_at}
use Rattle.ig_grammar.specs.declared.declaration.Decl.{Decl}
use Rattle.ig_grammar.specs.declared.declaration.DeclKind.{DeclKind}
use Rattle.ig_grammar.specs.declared.declaration.DeclKind.TheVariants.{Syntax}
use Rattle.ig_grammar.specs.declared.grammar.Grammar.{Grammar}
use Rattle.ig_grammar.specs.declared.place.Shape.{Shape}
use Rattle.ig_grammar.specs.declared.place.Shape.TheVariants.{Root}
use Rattle.ig_grammar.specs.Names.{AreDistinct, names as declared_names}
use Rattle.ig_meaning.specs.Laws.{HasNoOperators}
use Rattle.ig_meaning.specs.Environment.{Environment, names, values}
use Rattle.ig_pass.specs.Added.{AddedNamesAreNew, HasNoSign}
use Rattle.ig_pass.specs.Needs.{needs, is_bound}
use Rattle.ig_text.specs.Words.{is_word}

-- the name is visible
abbrev pub has : Visible → List ℕ → Bool
has [] n = false
has (pair ∷ v) n = is_word pair.0 n || has v n

-- the value of the name in the environment
abbrev pub find : Environment → List ℕ → Option Value
find env x = look_up (names env) (values env) x

-- exactly the visible names have values
pub record Binds (v : Visible) (env : Environment) : Type 0 where
  pub at : (n : List ℕ) → is_some (find env n) ≡ has v n

-- the same values at the wanted names
pub record Agree (wanted : List ℕ → Bool) (env env' : Environment) : Type 0 where
  pub at : (n : List ℕ) → wanted n ≡ true → find env n ≡ find env' n

-- names that had the same values still have
pub record Keeps (env env' after left : Environment) : Type 0 where
  pub at : (n : List ℕ) → find env n ≡ find env' n → find after n ≡ find left n

-- for which a declaration is added
abbrev pub IsForm : Symbol → Type 0
IsForm (Opt x) = Unit {0}
IsForm (Star x) = Unit {0}
IsForm (Plus x) = Unit {0}
IsForm (SepStar x separator) = Unit {0}
IsForm (SepPlus x separator) = Unit {0}
IsForm (Group choices) = Unit {0}
IsForm x = ⊥

-- for which one symbol stands
abbrev pub IsSingle : Symbol → Type 0
IsSingle (Seq xs) = ⊥
IsSingle x = Unit {0}

-- each binding has a kind and is wanted, and no two have one name
abbrev pub BindingsFit : Visible → (List ℕ → Bool) → List Binding → Type 0
BindingsFit v wanted [] = Unit {0}
BindingsFit v wanted (b ∷ bs) =
    ((k : Kind) × (kind_at v b.value ≡ Some k)) × (wanted b.name ≡ true) × (is_bound b.name bs ≡ false) ×
    BindingsFit v wanted bs

-- what the first binds is not wanted in the second
abbrev pub Apart : Visible → Symbol → Symbol → Type 0
Apart v s x = (n : List ℕ) → needs n x ≡ true → has (binds v s) n ≡ false

-- names that are called are such as may be, each let has a kind, labels and filters stand round one symbol, separators
-- bind nothing that items want, and entries stand round lists, options and groups
module _ (May : List ℕ → Type 0) where
  abbrev mutual
    pub Proper : Visible → Symbol → Type 0
    Proper v (Literal word) = Unit {0}
    Proper v (OneOf class) = Unit {0}
    Proper v (Call name arguments) = May name
    Proper v (Label name x) = IsSingle x × Proper v x
    Proper v (Guard e) = Unit {0}
    Proper v (Let name e) = (k : Kind) × (kind_at v e ≡ Some k)
    Proper v (Opt x) = Proper v x
    Proper v (Star x) = Proper v x
    Proper v (Plus x) = Proper v x
    Proper v (SepStar x separator) = Proper v x × Proper v separator × Apart v separator x
    Proper v (SepPlus x separator) = Proper v x × Proper v separator × Apart v separator x
    Proper v (Group choices) = AlternativesProper v choices
    Proper v (Offside x) = ⊥
    Proper v (Ignore x) = ⊥
    Proper v (Align x) = ⊥
    Proper v (Filtered x filters) = IsSingle x × Proper v x
    Proper v (Seq xs) = SymbolsProper v xs
    Proper v (Entry bindings x) =
        IsForm x × BindingsFit v (λ n. needs n x) bindings × Proper (replaced v v bindings) x

    pub SymbolsProper : Visible → Symbols → Type 0
    SymbolsProper v no_symbols = Unit {0}
    SymbolsProper v (next_symbol x xs) = Proper v x × SymbolsProper (v ++ binds v x) xs

    pub AlternativesProper : Visible → Alternatives → Type 0
    AlternativesProper v no_alternatives = Unit {0}
    AlternativesProper v (next_alternative xs others) = SymbolsProper v xs × AlternativesProper v others

-- in a declaration of the kind no layout stands behind tokens
abbrev pub Quiet : Grammar → DeclKind → Type 0
Quiet g c = c ≡ Syntax → layout_among g.decls ≡ None

-- in the lowered grammar each added declaration is declared
module _ (g' : Grammar) (shapes' : List Shape) where
  abbrev pub AllDeclared : List Made → Type 0
  AllDeclared [] = Unit {0}
  AllDeclared (m ∷ ms) = ((d : ℕ) × Declares g' shapes' m.decl.name d m.decl m.shape) × AllDeclared ms

  -- elements one after another, with what is visible at the first and behind the last
  module _ (May : List ℕ → Type 0) (of : List ℕ) where
    abbrev pub Ready : Visible → List Element → Visible → Type 0
    Ready v [] w = v ≡ w
    Ready v (e ∷ es) w =
        (e.v ≡ v) × IsSingle e.x × Proper May e.v e.x × AllDeclared (added of e.v e.k e.x) ×
        Ready (e.v ++ binds e.v e.x) es w

  -- an alternative of a declaration: where its numbers begin
  pub record Begins (May : List ℕ → Type 0) (decl : Decl) (a : Levelled) : Type 0 where
    pub k : ℕ
    pub proper : SymbolsProper May (parameters decl.params) (gathered a.alternative.symbols)
    pub present : AllDeclared (added_symbols decl.name (parameters decl.params) k (gathered a.alternative.symbols))

-- the declaration that was lowered to one
pub record DeclaredAs (g : Grammar) (shapes : List Shape) (name : List ℕ) (d : ℕ) (lower : Decl)
    (shape : Shape) : Type 0 where
  pub decl : Decl
  pub declares : Declares g shapes name d decl shape
  pub same : lower ≡ new_declaration decl

-- the alternative to which one was lowered
pub record NumberedTo (g' : Grammar) (shapes' : List Shape) (May : List ℕ → Type 0) (decl : Decl) (n : ℕ)
    (a : Levelled) : Type 0 where
  pub begins : Begins g' shapes' May decl a
  pub lower : Levelled
  pub numbered : IsAlternative (new_declaration decl) n lower
  pub same : lower.alternative.symbols ≡ new_symbols decl.name (parameters decl.params) begins.k
      (gathered a.alternative.symbols)

-- the alternative that was lowered to one
pub record NumberedFrom (g' : Grammar) (shapes' : List Shape) (May : List ℕ → Type 0) (decl : Decl) (n : ℕ)
    (lower : Levelled) : Type 0 where
  pub a : Levelled
  pub numbered : IsAlternative decl n a
  pub begins : Begins g' shapes' May decl a
  pub same : lower.alternative.symbols ≡ new_symbols decl.name (parameters decl.params) begins.k
      (gathered a.alternative.symbols)

-- how the declarations of the source and of the lowered grammar correspond
pub record Takes (g g' : Grammar) (shapes shapes' : List Shape) (May : List ℕ → Type 0) : Type 0 where
  pub forth : (name : List ℕ) (d : ℕ) (decl : Decl) (shape : Shape) → Declares g shapes name d decl shape →
      Declares g' shapes' name d (new_declaration decl) shape
  pub back : (name : List ℕ) (d : ℕ) (lower : Decl) (shape : Shape) → May name →
      Declares g' shapes' name d lower shape →
      DeclaredAs g shapes name d lower shape
  pub once : (name : List ℕ) (d e : ℕ) (decl other : Decl) (shape form : Shape) →
      Declares g' shapes' name d decl shape →
      Declares g' shapes' name e other form → (decl ≡ other) × (shape ≡ form)
  pub numbered_to : (name : List ℕ) (d : ℕ) (decl : Decl) (shape : Shape) → Declares g shapes name d decl shape →
      (n : ℕ) (a : Levelled) →
      IsAlternative decl n a → NumberedTo g' shapes' May decl n a
  pub numbered_from : (name : List ℕ) (d : ℕ) (decl : Decl) (shape : Shape) → Declares g shapes name d decl shape →
      (n : ℕ) (lower : Levelled) →
      IsAlternative (new_declaration decl) n lower → NumberedFrom g' shapes' May decl n lower
  pub quiet : (name : List ℕ) (d : ℕ) (decl : Decl) (shape : Shape) → Declares g shapes name d decl shape →
      Quiet g decl.kind
  pub layout : layout_among g'.decls ≡ layout_among g.decls

-- no declaration that is added has the name
pub record IsOld (g : Grammar) (name : List ℕ) : Type 0 where
  pub not_added : (n : ℕ) (x : Made) → slice_get (all_added g.decls) n ≡ Some x → x.decl.name ≢ name

-- numbers up to here tell added names apart
abbrev pub Small : ℕ → Type 0
Small n = (k : ℕ) → k ≤ n → k < 2 ^ 64

-- what is known of a grammar that is lowered
pub record MayBeLowered (g : Grammar) (shapes : List Shape) : Type 0 where
  pub distinct : AreDistinct (declared_names g.decls)
  pub lengths : length shapes ≡ length g.decls
  pub started : (start : List ℕ) × (g.start ≡ Some start) × IsOld g start
  pub rooted : (d : ℕ) (decl : Decl) → IsDeclaration g d decl → HasShape shapes d Root → g.start ≡ Some decl.name
  pub bare : (n : ℕ) (decl : Decl) → slice_get g.decls n ≡ Some decl → g.start ≡ Some decl.name → decl.params ≡ []
  pub no_layout : layout_among g.decls ≡ None
  pub free : (n : ℕ) (decl : Decl) → slice_get g.decls n ≡ Some decl → HasNoOperators decl.levels
  pub old : (n : ℕ) (decl : Decl) → slice_get g.decls n ≡ Some decl → IsOld g decl.name
  pub new : AddedNamesAreNew
  pub unsigned : (n : ℕ) (decl : Decl) → slice_get g.decls n ≡ Some decl → HasNoSign decl.name
  pub few : (n : ℕ) (decl : Decl) → slice_get g.decls n ≡ Some decl → Small (count_levels decl.levels)
  pub proper : (n : ℕ) (decl : Decl) (k : ℕ) (a : Levelled) → slice_get g.decls n ≡ Some decl →
      IsAlternative decl k a →
      SymbolsProper (IsOld g) (parameters decl.params) (gathered a.alternative.symbols)
