-- What a derivation of each form of symbol consists of: the rules of derivations, read from what is derived.
use Rattle.std.specs.Prelude.{◌≡◌, ℕ, List, [], ◌∷◌, ◌++◌, map}
use Rattle.std.specs.Prelude.{◌≢◌, ◌⊎◌, Some, None, true}
use Rattle.ig_text.specs.Input.{Input}
use Rattle.ig_text.specs.declared.tag.Tag.TheVariants as tag
use Rattle.ig_text.specs.Tree.{Tree, Trees, Leaf, Node, none, more, one, join}
use Rattle.ig_text.specs.Place.{Spells}
use Rattle.ig_text.specs.Pattern.{IsOneOf}
use Rattle.ig_expr.specs.declared.value.Value.{Value}
use Rattle.ig_expr.specs.declared.value.Value.TheVariants as value
use Rattle.ig_grammar.specs.Symbol.{Symbol, Literal, OneOf, Call, Label, Guard, Let, Opt, Star, Plus, SepStar, SepPlus, Group, Offside, Ignore, Align, Filtered, Seq, Entry}
use Rattle.ig_grammar.specs.Symbol.{Symbols, listed}
use Rattle.ig_meaning.specs.Environment.{Environment, HasValue, HaveValues, AreBound, replaced}
use Rattle.ig_grammar.specs.Numbering.{Levelled, Declares, IsAlternative, IsChoice, tag_of, layout_among}
use Rattle.ig_meaning.specs.Blocks.{IsOffside, AreAligned}
use Rattle.ig_meaning.specs.Filtering.{PassesAll}
use Rattle.ig_meaning.specs.Derivation.{exposed, span_value, Covers, Derives, Lists, Items, Instance, Trails}
use Rattle.ig_grammar.specs.declared.declaration.DeclKind.{DeclKind}
use Rattle.ig_grammar.specs.declared.declaration.DeclKind.TheVariants.{Syntax, Lexical}
use Rattle.ig_grammar.specs.declared.declaration.Decl.{Decl}
use Rattle.ig_grammar.specs.declared.grammar.Grammar.{Grammar}
use Rattle.ig_grammar.specs.declared.place.Shape.{Shape}

module _ (g : Grammar) (shapes : List Shape) (text : Input) where
  abbrev pub CoversBy : DeclKind → List Symbol → Environment → ℕ → ℕ → Trees → Environment → List ℕ → Type 0
  CoversBy c [] env i j vs after starts = (i ≡ j) × (vs ≡ none) × (after ≡ env) × (starts ≡ [])
  CoversBy c (x ∷ others) env i j vs after starts =
      (between : Environment) × (e : ℕ) × (h : ℕ) × (ts : Trees) × (us : Trees) × (ks : List ℕ) × (ls : List ℕ) ×
      Derives g shapes text c x env i e h ts between ks × Covers g shapes text c others between h j us after ls ×
      (vs ≡ join ts us) × (starts ≡ ks ++ ls)

  abbrev pub Called : DeclKind → List ℕ → List Value → ℕ → ℕ → ℕ → Trees → List ℕ → Type 0
  Called c name vs i e j ts starts =
      ((t : Tree) × (us : Trees) × (ks : List ℕ) × Instance g shapes text name vs Lexical i e t ks ×
      Trails g shapes text c e j us × (ts ≡ more t us) × (starts ≡ exposed c i)) ⊎
      ((t : Tree) × (kind : DeclKind) × Instance g shapes text name vs kind i j t starts × (kind ≢ Lexical) ×
      (e ≡ j) × (ts ≡ one t))

  abbrev pub Chosen : DeclKind → Symbol → Environment → ℕ → ℕ → Trees → List ℕ → Type 0
  Chosen c x env i j ts starts =
      ((i ≡ j) × (ts ≡ one (Node tag.Absent i i none)) × (starts ≡ [])) ⊎
      ((between : Environment) × (e : ℕ) × (us : Trees) × Derives g shapes text c x env i e j us between starts ×
      (ts ≡ one (Node tag.Present i j us)))

  abbrev pub Listed : DeclKind → Symbol → Environment → ℕ → ℕ → ℕ → Trees → Environment → List ℕ → Type 0
  Listed c x env i e j ts after starts =
      (t : Tree) × (items : List ℕ) × Lists g shapes text c x env i j t starts items ×
      (e ≡ j) × (ts ≡ one t) × (after ≡ env)

  abbrev pub DerivesBy : DeclKind → Symbol → Environment → ℕ → ℕ → ℕ → Trees → Environment → List ℕ → Type 0
  DerivesBy c (Literal word) env i e j ts after starts =
      (us : Trees) × Spells text word i e × Trails g shapes text c e j us ×
      (ts ≡ more (Leaf i e) us) × (starts ≡ exposed c i) × (after ≡ env)
  DerivesBy c (OneOf class) env i e j ts after starts =
      (us : Trees) × IsOneOf text class i e × Trails g shapes text c e j us ×
      (ts ≡ more (Leaf i e) us) × (starts ≡ exposed c i) × (after ≡ env)
  DerivesBy c (Call name arguments) env i e j ts after starts =
      (vs : List Value) × HaveValues text env i arguments vs × Called c name vs i e j ts starts × (after ≡ env)
  DerivesBy c (Label name x) env i e j ts after starts =
      (between : Environment) × Derives g shapes text c x env i e j ts between starts ×
      (after ≡ between ++ (name, span_value i e) ∷ [])
  DerivesBy c (Guard condition) env i e j ts after starts =
      HasValue text env i condition (value.Bool true) × (i ≡ e) × (i ≡ j) × (ts ≡ none) × (after ≡ env) × (starts ≡ [])
  DerivesBy c (Let name expression) env i e j ts after starts =
      (v : Value) × HasValue text env i expression v × (after ≡ env ++ (name, v) ∷ []) ×
      (i ≡ e) × (i ≡ j) × (ts ≡ none) × (starts ≡ [])
  DerivesBy c (Opt x) env i e j ts after starts = Chosen c x env i j ts starts × (e ≡ j) × (after ≡ env)
  DerivesBy c (Star x) env i e j ts after starts = Listed c (Star x) env i e j ts after starts
  DerivesBy c (Plus x) env i e j ts after starts = Listed c (Plus x) env i e j ts after starts
  DerivesBy c (SepStar x separator) env i e j ts after starts = Listed c (SepStar x separator) env i e j ts after starts
  DerivesBy c (SepPlus x separator) env i e j ts after starts = Listed c (SepPlus x separator) env i e j ts after starts
  DerivesBy c (Group choices) env i e j ts after starts =
      (k : ℕ) × (xs : Symbols) × (between : Environment) × (us : Trees) × IsChoice choices k xs ×
      Covers g shapes text c (listed xs) env i j us between starts × (ts ≡ one (Node (tag.GroupAlt k) i j us)) ×
      (e ≡ j) × (after ≡ env)
  DerivesBy c (Offside x) env i e j ts after starts =
      Derives g shapes text c x env i e j ts after starts × IsOffside text i starts
  DerivesBy c (Ignore x) env i e j ts after starts =
      (ks : List ℕ) × Derives g shapes text c x env i e j ts after ks × (starts ≡ [])
  DerivesBy c (Align x) env i e j ts after starts =
      (items : List ℕ) × Items g shapes text c x env i e j ts after starts items × AreAligned text items
  DerivesBy c (Filtered x filters) env i e j ts after starts =
      Derives g shapes text c x env i e j ts after starts × PassesAll text i e filters
  DerivesBy c (Seq xs) env i e j ts after starts =
      Covers g shapes text c (listed xs) env i j ts after starts × (e ≡ j)
  DerivesBy c (Entry bindings x) env i e j ts after starts =
      (vs : List Value) × (inside : Environment) × (between : Environment) × (f : ℕ) ×
      HaveValues text env i (map (λ b. b.value) bindings) vs × (inside ≡ replaced env bindings vs) ×
      Derives g shapes text c x inside i f j ts between starts × (e ≡ j) × (after ≡ env)

  -- a list with a last item
  abbrev pub Lengthened : DeclKind → Symbol → Symbol → Environment → ℕ → ℕ → Trees → List ℕ → List ℕ → Type 0
  Lengthened c list x env i j children starts items =
      (after : Environment) × (h : ℕ) × (e : ℕ) × (t : Tree) × (ts : Trees) × (ks : List ℕ) × (ls : List ℕ) × (ps : List ℕ) ×
      Lists g shapes text c list env i h t ks ps × Derives g shapes text c x env h e j ts after ls ×
      (children ≡ more t ts) × (starts ≡ ks ++ ls) × (items ≡ ps ++ h ∷ [])

  -- one item alone
  abbrev pub OfOneItem : DeclKind → Symbol → Environment → ℕ → ℕ → Tree → List ℕ → List ℕ → Type 0
  OfOneItem c x env i j t starts items =
      (after : Environment) × (e : ℕ) × (ts : Trees) × Derives g shapes text c x env i e j ts after starts ×
      (t ≡ Node tag.One i j ts) × (items ≡ i ∷ [])

  -- a list with a separator and a last item
  abbrev pub Separated : DeclKind → Symbol → Symbol → Environment → ℕ → ℕ → Tree → List ℕ → List ℕ → Type 0
  Separated c x separator env i j list starts items =
      (between : Environment) × (after : Environment) × (h : ℕ) × (f : ℕ) × (m : ℕ) × (e : ℕ) × (t : Tree) × (us : Trees) ×
      (ts : Trees) × (ks : List ℕ) × (ms : List ℕ) × (ls : List ℕ) × (ps : List ℕ) ×
      Lists g shapes text c (SepPlus x separator) env i h t ks ps ×
      Derives g shapes text c separator env h f m us between ms × Derives g shapes text c x env m e j ts after ls ×
      (list ≡ Node tag.More i j (more t (join us ts))) × (starts ≡ ks ++ ms ++ ls) × (items ≡ ps ++ m ∷ [])

  abbrev pub ListsBy : DeclKind → Symbol → Environment → ℕ → ℕ → Tree → List ℕ → List ℕ → Type 0
  ListsBy c (Star x) env i j t starts items =
      ((i ≡ j) × (t ≡ Node tag.Nil i i none) × (starts ≡ []) × (items ≡ [])) ⊎
      ((ts : Trees) × (t ≡ Node tag.Snoc i j ts) × Lengthened c (Star x) x env i j ts starts items)
  ListsBy c (Plus x) env i j t starts items =
      OfOneItem c x env i j t starts items ⊎
      ((ts : Trees) × (t ≡ Node tag.More i j ts) × Lengthened c (Plus x) x env i j ts starts items)
  ListsBy c (SepPlus x separator) env i j t starts items =
      OfOneItem c x env i j t starts items ⊎ Separated c x separator env i j t starts items
  ListsBy c (SepStar x separator) env i j t starts items =
      ((i ≡ j) × (t ≡ Node tag.Absent i i none) × (starts ≡ []) × (items ≡ [])) ⊎
      ((u : Tree) × Lists g shapes text c (SepPlus x separator) env i j u starts items × (t ≡ Node tag.Present i j (one u)))
  ListsBy c x env i j t starts items = ⊥

  abbrev pub ItemsBy : DeclKind → Symbol → Environment → ℕ → ℕ → ℕ → Trees → Environment → List ℕ → List ℕ → Type 0
  ItemsBy c (Filtered x filters) env i e j ts after starts items =
      Items g shapes text c x env i e j ts after starts items × PassesAll text i e filters
  ItemsBy c x env i e j ts after starts items =
      (t : Tree) × Lists g shapes text c x env i j t starts items × (e ≡ j) × (ts ≡ one t) × (after ≡ env)

  abbrev pub InstanceBy : List ℕ → List Value → DeclKind → ℕ → ℕ → Tree → List ℕ → Type 0
  InstanceBy name vs kind i e t starts =
      (d : ℕ) × (k : ℕ) × (decl : Decl) × (shape : Shape) × (a : Levelled) × (env : Environment) × (after : Environment) ×
      (ts : Trees) × Declares g shapes name d decl shape × IsAlternative decl k a × AreBound decl.params vs env ×
      (kind ≡ decl.kind) × Covers g shapes text kind a.alternative.symbols env i e ts after starts ×
      (t ≡ Node (tag_of shape d k) i e ts)

  abbrev pub TrailsBy : DeclKind → ℕ → ℕ → Trees → Type 0
  TrailsBy c e j ts =
      ((c ≡ Syntax) × (name : List ℕ) × (kind : DeclKind) × (t : Tree) × (starts : List ℕ) × (layout_among g.decls ≡ Some name) ×
      Instance g shapes text name [] kind e j t starts × (ts ≡ one t)) ⊎
      (((c ≡ Syntax → layout_among g.decls ≡ None)) × (e ≡ j) × (ts ≡ none))

  -- each derivation consists of what the rules of its form say
  pub record Inverts : Type 0 where
    pub covers : {c : DeclKind} {xs : List Symbol} {env after : Environment} {i j : ℕ} {vs : Trees} {starts : List ℕ} →
        Covers g shapes text c xs env i j vs after starts → CoversBy c xs env i j vs after starts
    pub derives : {c : DeclKind} {x : Symbol} {env after : Environment} {i e j : ℕ} {ts : Trees} {starts : List ℕ} →
        Derives g shapes text c x env i e j ts after starts → DerivesBy c x env i e j ts after starts
    pub lists : {c : DeclKind} {x : Symbol} {env : Environment} {i j : ℕ} {t : Tree} {starts items : List ℕ} →
        Lists g shapes text c x env i j t starts items → ListsBy c x env i j t starts items
    pub items : {c : DeclKind} {x : Symbol} {env after : Environment} {i e j : ℕ} {ts : Trees} {starts positions : List ℕ} →
        Items g shapes text c x env i e j ts after starts positions → ItemsBy c x env i e j ts after starts positions
    pub instance : {name : List ℕ} {vs : List Value} {kind : DeclKind} {i e : ℕ} {t : Tree} {starts : List ℕ} →
        Instance g shapes text name vs kind i e t starts → InstanceBy name vs kind i e t starts
    pub trails : {c : DeclKind} {e j : ℕ} {ts : Trees} →
        Trails g shapes text c e j ts → TrailsBy c e j ts

abbrev pub DerivationsInvert : Type 0
DerivationsInvert = (g : Grammar) (shapes : List Shape) (text : Input) → Inverts g shapes text
