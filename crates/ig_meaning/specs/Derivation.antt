-- What the symbols of a grammar cover in a text, and with which trees.
use Rattle.std.specs.Prelude.{◌≡◌, ◌≢◌, ℕ, List, [], ◌∷◌, ◌++◌, map, Some, None, true}
use Rattle.ig_text.specs.Input.{Input}
use Rattle.ig_text.specs.declared.class.Class.{Class}
use Rattle.ig_text.specs.declared.tag.Tag.TheVariants as tag
use Rattle.ig_text.specs.Tree.{Tree, Trees, Leaf, Node, none, more, one, join}
use Rattle.ig_text.specs.Place.{Spells}
use Rattle.ig_text.specs.Pattern.{IsOneOf}
use Rattle.ig_expr.specs.Expression.{Expression}
use Rattle.ig_expr.specs.declared.value.Value.{Value}
use Rattle.ig_expr.specs.declared.value.Value.TheVariants as value
use Rattle.ig_grammar.specs.Binding.{Binding}
use Rattle.ig_grammar.specs.Symbol.{Symbol, Literal, OneOf, Call, Label, Guard, Let, Opt, Star, Plus, SepStar, SepPlus, Group, Offside, Ignore, Align, Filtered, Seq, Entry}
use Rattle.ig_grammar.specs.Symbol.{Symbols, Alternatives, listed}
use Rattle.ig_meaning.specs.Environment.{Environment, HasValue, HaveValues, AreBound, replaced}
use Rattle.ig_grammar.specs.Numbering.{Levelled, Declares, IsAlternative, IsChoice, tag_of, layout_among}
use Rattle.ig_meaning.specs.Blocks.{IsOffside, AreAligned}
use Rattle.ig_meaning.specs.Filtering.{PassesAll}
use Rattle.ig_grammar.specs.declared.filter.Filter.{Filter}
use Rattle.ig_grammar.specs.declared.declaration.DeclKind.{DeclKind}
use Rattle.ig_grammar.specs.declared.declaration.DeclKind.TheVariants.{Syntax, Lexical}
use Rattle.ig_grammar.specs.declared.declaration.Decl.{Decl}
use Rattle.ig_grammar.specs.declared.grammar.Grammar.{Grammar}
use Rattle.ig_grammar.specs.declared.place.Shape.{Shape}

-- a token of a syntax declaration exposes where it starts; a token of another one exposes nothing
abbrev pub exposed : DeclKind → ℕ → List ℕ
exposed Syntax i = i ∷ []
exposed kind i = []

-- the value of a label round a symbol whose own end is e
abbrev pub span_value : ℕ → ℕ → Value
span_value i e = value.Span (record { begin = i; end = e })

-- a grammar, with the shape of each of its declarations, and a text
module _ (g : Grammar) (shapes : List Shape) (text : Input) where
  mutual
    -- in a declaration of this kind the symbols, from an environment, cover the text from i to j with these trees;
    -- they leave an environment, and expose these starts of tokens
    pub data Covers : DeclKind → List Symbol → Environment → ℕ → ℕ → Trees → Environment → List ℕ → Type 0 where
      -- no symbols cover nothing
      empty : (c : DeclKind) (env : Environment) (i : ℕ) → Covers c [] env i i none env []
      -- a symbol covers i to h, and the others, from the environment that it left, cover h to j
      symbol : (c : DeclKind) (x : Symbol) (others : List Symbol) (env between after : Environment) (i e h j : ℕ)
          (ts us vs : Trees) (ks ls starts : List ℕ) →
          Derives c x env i e h ts between ks → Covers c others between h j us after ls →
          vs ≡ join ts us → starts ≡ ks ++ ls → Covers c (x ∷ others) env i j vs after starts

    -- one symbol covers the text from i to j, and e is its own end: the layout behind a token doesn't belong to the token,
    -- but to a list, an option, a group, a sequence, a symbol with an entry or a syntax call that the token ends
    pub data Derives : DeclKind → Symbol → Environment → ℕ → ℕ → ℕ → Trees → Environment → List ℕ → Type 0 where
      -- a literal is a token that covers its own spelling, with a leaf
      literal : (c : DeclKind) (word : List ℕ) (env : Environment) (i e j : ℕ) (us ts : Trees) (starts : List ℕ) →
          Spells text word i e → Trails c e j us → ts ≡ more (Leaf i e) us → starts ≡ exposed c i →
          Derives c (Literal word) env i e j ts env starts
      -- a class is a token that covers one of its characters, with a leaf
      one_of : (c : DeclKind) (class : Class) (env : Environment) (i e j : ℕ) (us ts : Trees) (starts : List ℕ) →
          IsOneOf text class i e → Trails c e j us → ts ≡ more (Leaf i e) us → starts ≡ exposed c i →
          Derives c (OneOf class) env i e j ts env starts
      -- a call of a lexical nonterminal is a token; its arguments are evaluated where it starts
      token : (c : DeclKind) (name : List ℕ) (arguments : List Expression) (vs : List Value) (env : Environment)
          (i e j : ℕ) (t : Tree) (us ts : Trees) (ks starts : List ℕ) →
          HaveValues text env i arguments vs → Instance name vs Lexical i e t ks → Trails c e j us →
          ts ≡ more t us → starts ≡ exposed c i → Derives c (Call name arguments) env i e j ts env starts
      -- any other call exposes what the alternative exposes
      call : (c kind : DeclKind) (name : List ℕ) (arguments : List Expression) (vs : List Value) (env : Environment)
          (i j : ℕ) (t : Tree) (starts : List ℕ) →
          HaveValues text env i arguments vs → Instance name vs kind i j t starts → kind ≢ Lexical →
          Derives c (Call name arguments) env i j j (one t) env starts
      -- a label binds the span of its symbol up to the own end, after what the symbol binds
      label : (c : DeclKind) (name : List ℕ) (x : Symbol) (env between after : Environment) (i e j : ℕ) (ts : Trees)
          (starts : List ℕ) →
          Derives c x env i e j ts between starts → after ≡ between ++ (name, span_value i e) ∷ [] →
          Derives c (Label name x) env i e j ts after starts
      -- a guard has the value true where it stands
      guard : (c : DeclKind) (condition : Expression) (env : Environment) (i : ℕ) →
          HasValue text env i condition (value.Bool true) → Derives c (Guard condition) env i i i none env []
      -- a let binds the value of its expression where it stands
      let_be : (c : DeclKind) (name : List ℕ) (expression : Expression) (v : Value) (env after : Environment) (i : ℕ) →
          HasValue text env i expression v → after ≡ env ++ (name, v) ∷ [] →
          Derives c (Let name expression) env i i i none after []
      -- an option covers nothing, or what its symbol covers
      absent : (c : DeclKind) (x : Symbol) (env : Environment) (i : ℕ) →
          Derives c (Opt x) env i i i (one (Node tag.Absent i i none)) env []
      present : (c : DeclKind) (x : Symbol) (env between : Environment) (i e j : ℕ) (ts : Trees) (starts : List ℕ) →
          Derives c x env i e j ts between starts →
          Derives c (Opt x) env i j j (one (Node tag.Present i j ts)) env starts
      -- a list covers what its items and separators cover, and binds nothing
      star : (c : DeclKind) (x : Symbol) (env : Environment) (i j : ℕ) (t : Tree) (starts items : List ℕ) →
          Lists c (Star x) env i j t starts items → Derives c (Star x) env i j j (one t) env starts
      plus : (c : DeclKind) (x : Symbol) (env : Environment) (i j : ℕ) (t : Tree) (starts items : List ℕ) →
          Lists c (Plus x) env i j t starts items → Derives c (Plus x) env i j j (one t) env starts
      sep_star : (c : DeclKind) (x separator : Symbol) (env : Environment) (i j : ℕ) (t : Tree) (starts items : List ℕ) →
          Lists c (SepStar x separator) env i j t starts items →
          Derives c (SepStar x separator) env i j j (one t) env starts
      sep_plus : (c : DeclKind) (x separator : Symbol) (env : Environment) (i j : ℕ) (t : Tree) (starts items : List ℕ) →
          Lists c (SepPlus x separator) env i j t starts items →
          Derives c (SepPlus x separator) env i j j (one t) env starts
      -- a group covers what one of its alternatives covers, and binds nothing
      group : (c : DeclKind) (choices : Alternatives) (k : ℕ) (xs : Symbols) (env between : Environment) (i j : ℕ)
          (ts : Trees) (starts : List ℕ) →
          IsChoice choices k xs → Covers c (listed xs) env i j ts between starts →
          Derives c (Group choices) env i j j (one (Node (tag.GroupAlt k) i j ts)) env starts
      -- a block: its tokens stand to the right of its start, or at it
      offside : (c : DeclKind) (x : Symbol) (env after : Environment) (i e j : ℕ) (ts : Trees) (starts : List ℕ) →
          Derives c x env i e j ts after starts → IsOffside text i starts →
          Derives c (Offside x) env i e j ts after starts
      -- `ignore` exposes nothing
      ignore : (c : DeclKind) (x : Symbol) (env after : Environment) (i e j : ℕ) (ts : Trees) (starts : List ℕ) →
          Derives c x env i e j ts after starts → Derives c (Ignore x) env i e j ts after []
      -- the items of an aligned list start in one column
      align : (c : DeclKind) (x : Symbol) (env after : Environment) (i e j : ℕ) (ts : Trees) (starts items : List ℕ) →
          Items c x env i e j ts after starts items → AreAligned text items →
          Derives c (Align x) env i e j ts after starts
      -- filters are asked of the symbol up to its own end
      filtered : (c : DeclKind) (x : Symbol) (filters : List Filter) (env after : Environment) (i e j : ℕ) (ts : Trees)
          (starts : List ℕ) →
          Derives c x env i e j ts after starts → PassesAll text i e filters →
          Derives c (Filtered x filters) env i e j ts after starts
      -- symbols in place, with what they bind
      sequence : (c : DeclKind) (xs : Symbols) (env after : Environment) (i j : ℕ) (ts : Trees) (starts : List ℕ) →
          Covers c (listed xs) env i j ts after starts → Derives c (Seq xs) env i j j ts after starts
      -- bindings that are evaluated where the symbol starts, and seen only inside it
      entry : (c : DeclKind) (bindings : List Binding) (x : Symbol) (vs : List Value) (env inside after : Environment)
          (i e j : ℕ) (ts : Trees) (starts : List ℕ) →
          HaveValues text env i (map (λ b. b.value) bindings) vs → inside ≡ replaced env bindings vs →
          Derives c x inside i e j ts after starts → Derives c (Entry bindings x) env i j j ts env starts

    -- a list covers the text from i to j with a tree; it exposes these starts of tokens, and its items start at these
    -- positions. Each part of it starts from the environment in which the whole list stands.
    pub data Lists : DeclKind → Symbol → Environment → ℕ → ℕ → Tree → List ℕ → List ℕ → Type 0 where
      -- `X*` is empty, or a list and an item
      nil : (c : DeclKind) (x : Symbol) (env : Environment) (i : ℕ) →
          Lists c (Star x) env i i (Node tag.Nil i i none) [] []
      snoc : (c : DeclKind) (x : Symbol) (env after : Environment) (i h e j : ℕ) (t : Tree) (ts : Trees)
          (ks ls starts ps items : List ℕ) →
          Lists c (Star x) env i h t ks ps → Derives c x env h e j ts after ls →
          starts ≡ ks ++ ls → items ≡ ps ++ h ∷ [] →
          Lists c (Star x) env i j (Node tag.Snoc i j (more t ts)) starts items
      -- `X+` is one item, or a list and an item
      one_item : (c : DeclKind) (x : Symbol) (env after : Environment) (i e j : ℕ) (ts : Trees) (starts : List ℕ) →
          Derives c x env i e j ts after starts →
          Lists c (Plus x) env i j (Node tag.One i j ts) starts (i ∷ [])
      more_items : (c : DeclKind) (x : Symbol) (env after : Environment) (i h e j : ℕ) (t : Tree) (ts : Trees)
          (ks ls starts ps items : List ℕ) →
          Lists c (Plus x) env i h t ks ps → Derives c x env h e j ts after ls →
          starts ≡ ks ++ ls → items ≡ ps ++ h ∷ [] →
          Lists c (Plus x) env i j (Node tag.More i j (more t ts)) starts items
      -- `{X S}+` is one item, or a list, a separator and an item
      first_item : (c : DeclKind) (x separator : Symbol) (env after : Environment) (i e j : ℕ) (ts : Trees)
          (starts : List ℕ) →
          Derives c x env i e j ts after starts →
          Lists c (SepPlus x separator) env i j (Node tag.One i j ts) starts (i ∷ [])
      further_item : (c : DeclKind) (x separator : Symbol) (env between after : Environment) (i h f m e j : ℕ) (t : Tree)
          (us ts vs : Trees) (ks ms ls starts ps items : List ℕ) →
          Lists c (SepPlus x separator) env i h t ks ps → Derives c separator env h f m us between ms →
          Derives c x env m e j ts after ls → vs ≡ join us ts → starts ≡ ks ++ ms ++ ls → items ≡ ps ++ m ∷ [] →
          Lists c (SepPlus x separator) env i j (Node tag.More i j (more t vs)) starts items
      -- `{X S}*` is empty, or a `{X S}+`
      no_item : (c : DeclKind) (x separator : Symbol) (env : Environment) (i : ℕ) →
          Lists c (SepStar x separator) env i i (Node tag.Absent i i none) [] []
      some_items : (c : DeclKind) (x separator : Symbol) (env : Environment) (i j : ℕ) (t : Tree) (starts items : List ℕ) →
          Lists c (SepPlus x separator) env i j t starts items →
          Lists c (SepStar x separator) env i j (Node tag.Present i j (one t)) starts items

    -- a list, with or without filters, is derived, and its items start at these positions
    pub data Items : DeclKind → Symbol → Environment → ℕ → ℕ → ℕ → Trees → Environment → List ℕ → List ℕ → Type 0 where
      bare : (c : DeclKind) (x : Symbol) (env : Environment) (i j : ℕ) (t : Tree) (starts items : List ℕ) →
          Lists c x env i j t starts items → Items c x env i j j (one t) env starts items
      with_filters : (c : DeclKind) (x : Symbol) (filters : List Filter) (env after : Environment) (i e j : ℕ) (ts : Trees)
          (starts items : List ℕ) →
          Items c x env i e j ts after starts items → PassesAll text i e filters →
          Items c (Filtered x filters) env i e j ts after starts items

    -- the nonterminal of this name, whose declaration has this kind, covers i to e with a tree, given its arguments' values
    pub data Instance : List ℕ → List Value → DeclKind → ℕ → ℕ → Tree → List ℕ → Type 0 where
      -- the symbols of an alternative cover it, from the parameters with these values
      alternative : (name : List ℕ) (vs : List Value) (kind : DeclKind) (d k : ℕ) (decl : Decl) (shape : Shape)
          (a : Levelled) (env after : Environment) (i e : ℕ) (ts : Trees) (t : Tree) (starts : List ℕ) →
          Declares g shapes name d decl shape → IsAlternative decl k a → AreBound decl.params vs env →
          kind ≡ decl.kind → Covers kind a.alternative.symbols env i e ts after starts →
          t ≡ Node (tag_of shape d k) i e ts → Instance name vs kind i e t starts

    -- what stands behind a token that ends at e, up to j
    pub data Trails : DeclKind → ℕ → ℕ → Trees → Type 0 where
      -- in a syntax declaration the layout nonterminal, where one is declared
      layout : (name : List ℕ) (kind : DeclKind) (e j : ℕ) (t : Tree) (starts : List ℕ) →
          layout_among g.decls ≡ Some name → Instance name [] kind e j t starts → Trails Syntax e j (one t)
      -- else nothing
      no_layout : (e : ℕ) → layout_among g.decls ≡ None → Trails Syntax e e none
      outside : (c : DeclKind) (e : ℕ) → c ≢ Syntax → Trails c e e none
