-- The values that alternatives bind by labels and lets, and which tree with values a tree is.
use Rattle.std.specs.Prelude.{◌≡◌, ℕ, List, [], ◌∷◌, ◌++◌, map, length, drop, Some, None}
use Rattle.ig_text.specs.Input.{Input}
use Rattle.ig_text.specs.declared.class.Class.{Class}
use Rattle.ig_text.specs.declared.tag.Tag.{Tag}
use Rattle.ig_text.specs.declared.tag.Tag.TheVariants as tag
use Rattle.ig_text.specs.Tree as plain
use Rattle.ig_expr.specs.Expression.{Expression}
use Rattle.ig_expr.specs.declared.value.Value.{Value}
use Rattle.ig_expr.specs.ValuedTree.{Tree, Trees, Leaf, Node, none, more, one, join, bare_tree, bare_trees}
use Rattle.ig_grammar.specs.Binding.{Binding}
use Rattle.ig_grammar.specs.Symbol.{Symbol, Literal, OneOf, Call, Label, Guard, Let, Opt, Star, Plus, SepStar, SepPlus, Group, Offside, Ignore, Align, Filtered, Seq, Entry}
use Rattle.ig_grammar.specs.Symbol.{Symbols, Alternatives, listed}
use Rattle.ig_grammar.specs.Numbering.{Levelled, Declares, IsAlternative, IsChoice, tag_of, layout_among}
use Rattle.ig_meaning.specs.Environment.{Environment, values, HasValue, HaveValues, AreBound, replaced}
use Rattle.ig_meaning.specs.Derivation.{span_value}
use Rattle.ig_meaning.specs.Permitted.{IsRootAlternative}
use Rattle.ig_grammar.specs.declared.filter.Filter.{Filter}
use Rattle.ig_grammar.specs.declared.declaration.DeclKind.{DeclKind}
use Rattle.ig_grammar.specs.declared.declaration.DeclKind.TheVariants.{Syntax, Lexical}
use Rattle.ig_grammar.specs.declared.declaration.Decl.{Decl}
use Rattle.ig_grammar.specs.declared.grammar.Grammar.{Grammar}
use Rattle.ig_grammar.specs.declared.place.Shape.{Shape}

-- the values that symbols bound, which led from the first environment to the second
abbrev pub bound_between : Environment → Environment → List Value
bound_between before after = drop (length before) (values after)

-- a mark, or filters, round a symbol
pub data IsRound (x : Symbol) : Symbol → Type 0 where
  offside : IsRound x (Offside x)
  ignore : IsRound x (Ignore x)
  align : IsRound x (Align x)
  filtered : (filters : List Filter) → IsRound x (Filtered x filters)

-- an option, a list or a group has a node with this tag, whose children are the trees of these parts
pub data HasParts : Symbol → Tag → List Symbol → Type 0 where
  absent : (x : Symbol) → HasParts (Opt x) tag.Absent []
  present : (x : Symbol) → HasParts (Opt x) tag.Present (x ∷ [])
  nil : (x : Symbol) → HasParts (Star x) tag.Nil []
  snoc : (x : Symbol) → HasParts (Star x) tag.Snoc (Star x ∷ x ∷ [])
  one_item : (x : Symbol) → HasParts (Plus x) tag.One (x ∷ [])
  more_items : (x : Symbol) → HasParts (Plus x) tag.More (Plus x ∷ x ∷ [])
  first_item : (x separator : Symbol) → HasParts (SepPlus x separator) tag.One (x ∷ [])
  further_item : (x separator : Symbol) →
      HasParts (SepPlus x separator) tag.More (SepPlus x separator ∷ separator ∷ x ∷ [])
  no_item : (x separator : Symbol) → HasParts (SepStar x separator) tag.Absent []
  some_items : (x separator : Symbol) → HasParts (SepStar x separator) tag.Present (SepPlus x separator ∷ [])
  chosen : (choices : Alternatives) (k : ℕ) (xs : Symbols) → IsChoice choices k xs →
      HasParts (Group choices) (tag.GroupAlt k) (Seq xs ∷ [])

-- a grammar, with the shape of each of its declarations, and a text
module _ (g : Grammar) (shapes : List Shape) (text : Input) where
  mutual
    -- in a declaration of kind c these symbols, from an environment, have these trees from i to j, whose nodes have the
    -- values that are bound there, and leave an environment: each symbol starts from the one that those before it left
    pub data Bind : DeclKind → List Symbol → Environment → ℕ → ℕ → Trees → Environment → Type 0 where
      nothing : (c : DeclKind) (env : Environment) (i : ℕ) → Bind c [] env i i none env
      next : (c : DeclKind) (x : Symbol) (others : List Symbol) (env between after : Environment) (i e h j : ℕ)
          (ts us vs : Trees) → Binds c x env i e h ts between → Bind c others between h j us after → vs ≡ join ts us →
          Bind c (x ∷ others) env i j vs after

    -- the same of one symbol, whose own end is e
    pub data Binds : DeclKind → Symbol → Environment → ℕ → ℕ → ℕ → Trees → Environment → Type 0 where
      literal : (c : DeclKind) (word : List ℕ) (env : Environment) (i e j : ℕ) (us : Trees) → Behind c Lexical e j us →
          Binds c (Literal word) env i e j (more (Leaf i e) us) env
      one_of : (c : DeclKind) (class : Class) (env : Environment) (i e j : ℕ) (us : Trees) → Behind c Lexical e j us →
          Binds c (OneOf class) env i e j (more (Leaf i e) us) env
      -- the alternative inside a call binds in an environment of its own
      call : (c kind : DeclKind) (name : List ℕ) (arguments : List Expression) (vs : List Value) (env : Environment)
          (i e j : ℕ) (t : Tree) (us : Trees) → HaveValues text env i arguments vs → Within name vs kind i e t →
          Behind c kind e j us → Binds c (Call name arguments) env i e j (more t us) env
      -- a label binds the span of its symbol up to the own end, after what the symbol binds
      label : (c : DeclKind) (name : List ℕ) (x : Symbol) (env between after : Environment) (i e j : ℕ) (ts : Trees) →
          Binds c x env i e j ts between → after ≡ between ++ (name, span_value i e) ∷ [] →
          Binds c (Label name x) env i e j ts after
      guard : (c : DeclKind) (condition : Expression) (env : Environment) (i : ℕ) →
          Binds c (Guard condition) env i i i none env
      -- a let binds the value of its expression
      let_be : (c : DeclKind) (name : List ℕ) (expression : Expression) (v : Value) (env after : Environment) (i : ℕ) →
          HasValue text env i expression v → after ≡ env ++ (name, v) ∷ [] →
          Binds c (Let name expression) env i i i none after
      -- what the parts of an option, a list or a group bind, its node has, and nobody behind it sees
      node : (c : DeclKind) (x : Symbol) (form : Tag) (parts : List Symbol) (env : Environment) (i j : ℕ) (ts : Trees)
          (bound : List Value) → HasParts x form parts → BindApart c parts env i j ts bound →
          Binds c x env i j j (one (Node form bound i j ts)) env
      round : (c : DeclKind) (x y : Symbol) (env after : Environment) (i e j : ℕ) (ts : Trees) → IsRound x y →
          Binds c x env i e j ts after → Binds c y env i e j ts after
      sequence : (c : DeclKind) (xs : Symbols) (env after : Environment) (i j : ℕ) (ts : Trees) →
          Bind c (listed xs) env i j ts after → Binds c (Seq xs) env i j j ts after
      entry : (c : DeclKind) (bindings : List Binding) (x : Symbol) (vs : List Value) (env inside after : Environment)
          (i e j : ℕ) (ts : Trees) → HaveValues text env i (map (λ b. b.value) bindings) vs →
          inside ≡ replaced env bindings vs → Binds c x inside i e j ts after → Binds c (Entry bindings x) env i j j ts env

    -- the same of parts that all start from the environment in which the whole stands, and bind these values in order
    pub data BindApart : DeclKind → List Symbol → Environment → ℕ → ℕ → Trees → List Value → Type 0 where
      no_part : (c : DeclKind) (env : Environment) (i : ℕ) → BindApart c [] env i i none []
      next_part : (c : DeclKind) (x : Symbol) (others : List Symbol) (env after : Environment) (i e h j : ℕ)
          (ts us vs : Trees) (some bound : List Value) → Binds c x env i e h ts after →
          BindApart c others env h j us some → vs ≡ join ts us → bound ≡ bound_between env after ++ some →
          BindApart c (x ∷ others) env i j vs bound

    -- the node of the nonterminal of this name, whose declaration has this kind, given its arguments' values: it has what
    -- the symbols of its alternative bind behind the parameters
    pub data Within : List ℕ → List Value → DeclKind → ℕ → ℕ → Tree → Type 0 where
      alternative : (name : List ℕ) (vs : List Value) (kind : DeclKind) (d k : ℕ) (decl : Decl) (shape : Shape)
          (a : Levelled) (env after : Environment) (i e : ℕ) (ts : Trees) (t : Tree) →
          Declares g shapes name d decl shape → IsAlternative decl k a → AreBound decl.params vs env →
          kind ≡ decl.kind → Bind kind a.alternative.symbols env i e ts after →
          t ≡ Node (tag_of shape d k) (bound_between env after) i e ts → Within name vs kind i e t

    -- what stands, in a declaration of the first kind, behind a call of a nonterminal of the second kind; literals and
    -- classes count as lexical
    pub data Behind : DeclKind → DeclKind → ℕ → ℕ → Trees → Type 0 where
      layout : (name : List ℕ) (kind : DeclKind) (e j : ℕ) (t : Tree) → layout_among g.decls ≡ Some name →
          Within name [] kind e j t → Behind Syntax Lexical e j (one t)
      no_layout : (c kind : DeclKind) (e : ℕ) → (c ≡ Syntax → kind ≡ Lexical → layout_among g.decls ≡ None) →
          Behind c kind e e none

  -- the tree u is the tree t, with the values that each of its alternatives binds
  pub record Annotates (t : plain.Tree) (u : Tree) : Type 0 where
    pub kind : DeclKind
    pub symbols : List Symbol
    pub children : Trees
    pub after : Environment
    pub root : IsRootAlternative g shapes kind symbols
    pub binds : Bind kind symbols [] 0 (length text.characters) children after
    pub whole : u ≡ Node tag.Root (bound_between [] after) 0 (length text.characters) children
    pub same : bare_tree u ≡ t
