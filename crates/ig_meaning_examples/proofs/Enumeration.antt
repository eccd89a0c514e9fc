-- All derivations up to a height of their trees, from a position of a text on: a computed list, for grammars that stand
-- for no root of their own.
use Rattle.std.specs.Prelude.{ℕ, zero, suc, List, [], ◌∷◌, ◌++◌, map, flat_map, length, Option, Some, None, slice_get, Bool, true, false}
use Rattle.ig_text.specs.Input.{Input}
use Rattle.ig_text.specs.declared.pattern.Pattern.{Pattern}
use Rattle.ig_text.specs.declared.pattern.Pattern.TheVariants as pattern
use Rattle.ig_text.specs.declared.tag.Tag.{Tag}
use Rattle.ig_text.specs.declared.tag.Tag.TheVariants as tag
use Rattle.ig_text.specs.Tree.{Tree, Trees, Leaf, Node, none, more, one, join}
use Rattle.ig_expr.specs.Evaluation.{value_of}
use Rattle.ig_text.specs.Words.{is_word}
use Rattle.ig_expr.specs.declared.value.Value.{Value}
use Rattle.ig_grammar.specs.Symbol.{Symbol, Literal, OneOf, Call, Label, Guard, Let, Opt, Star, Plus, SepStar, SepPlus, Group, Offside, Ignore, Align, Filtered, Seq, Entry}
use Rattle.ig_grammar.specs.Symbol.{Symbols, no_symbols, next_symbol, Alternatives, no_alternatives, next_alternative, gathered}
use Rattle.ig_meaning.specs.Environment.{Environment, names, values, replaced}
use Rattle.ig_grammar.specs.Numbering.{by_level, tag_of, layout_among}
use Rattle.ig_meaning.specs.Derivation.{exposed, span_value}
use Rattle.ig_grammar.specs.declared.declaration.DeclKind.{DeclKind}
use Rattle.ig_grammar.specs.declared.declaration.DeclKind.TheVariants.{Syntax, Lexical}
use Rattle.ig_grammar.specs.declared.declaration.Decl.{Decl}
use Rattle.ig_grammar.specs.declared.grammar.Grammar.{Grammar}
use Rattle.ig_grammar.specs.declared.place.Shape.{Shape}
use Rattle.ig_meaning_examples.proofs.Members.{given, from, below}
use Rattle.ig_meaning_examples.proofs.Deciding.{values_at, bound_by, is_truth, ends_of, passes_all, are_right, are_aligned}

-- what a symbol covers from a position on: up to its own end, and with the layout behind it
pub record Outcome : Type 0 where
  pub own : ℕ
  pub end : ℕ
  pub trees : Trees
  pub after : Environment
  pub starts : List ℕ

-- what symbols cover
pub record Covering : Type 0 where
  pub end : ℕ
  pub trees : Trees
  pub after : Environment
  pub starts : List ℕ

-- what a list covers, and where its items start
pub record Listing : Type 0 where
  pub end : ℕ
  pub tree : Tree
  pub starts : List ℕ
  pub items : List ℕ

-- what a list, with or without filters, covers
pub record Itemised : Type 0 where
  pub own : ℕ
  pub end : ℕ
  pub trees : Trees
  pub after : Environment
  pub starts : List ℕ
  pub items : List ℕ

-- what a nonterminal covers
pub record Instanced : Type 0 where
  pub kind : DeclKind
  pub end : ℕ
  pub tree : Tree
  pub starts : List ℕ

-- what stands behind a token
pub record Trailing : Type 0 where
  pub end : ℕ
  pub trees : Trees

-- all that is covered with lower trees
pub record Lower : Type 0 where
  -- whether a node without children is low enough
  pub room : Bool
  pub covered : DeclKind → Symbols → Environment → ℕ → List Covering
  pub derived : DeclKind → Symbol → Environment → ℕ → List Outcome
  pub lists : DeclKind → Symbol → Environment → ℕ → List Listing

abbrev pub nothing : Lower
nothing = record { room = false; covered = λ c xs env i. []; derived = λ c x env i. []; lists = λ c x env i. [] }

-- a list of one item
abbrev pub single : ℕ → Outcome → Listing
single i o = record { end = o.end; tree = Node tag.One i o.end o.trees; starts = o.starts; items = i ∷ [] }

-- a list with one more item
abbrev pub extended : Tag → ℕ → Listing → Outcome → Listing
extended t i l o =
    record { end = o.end; tree = Node t i o.end (more l.tree o.trees); starts = l.starts ++ o.starts; items = l.items ++ l.end ∷ [] }

-- a list with a separator and one more item
abbrev pub separated : ℕ → Listing → Outcome → Outcome → Listing
separated i l p o =
    record { end = o.end; tree = Node tag.More i o.end (more l.tree (join p.trees o.trees)); starts = l.starts ++ p.starts ++ o.starts; items = l.items ++ p.end ∷ [] }

abbrev pub some_list : ℕ → Listing → Listing
some_list i l = record { end = l.end; tree = Node tag.Present i l.end (one l.tree); starts = l.starts; items = l.items }

abbrev pub of_listing : Environment → Listing → Outcome
of_listing env l = record { own = l.end; end = l.end; trees = one l.tree; after = env; starts = l.starts }

abbrev pub itemised : Environment → Listing → Itemised
itemised env l =
    record { own = l.end; end = l.end; trees = one l.tree; after = env; starts = l.starts; items = l.items }

abbrev pub of_items : Itemised → Outcome
of_items o = record { own = o.own; end = o.end; trees = o.trees; after = o.after; starts = o.starts }

abbrev pub present : ℕ → Environment → Outcome → Outcome
present i env o =
    record { own = o.end; end = o.end; trees = one (Node tag.Present i o.end o.trees); after = env; starts = o.starts }

abbrev pub grouped : ℕ → ℕ → Environment → Covering → Outcome
grouped k i env r =
    record { own = r.end; end = r.end; trees = one (Node (tag.GroupAlt k) i r.end r.trees); after = env; starts = r.starts }

abbrev pub still : ℕ → Trees → Environment → Outcome
still i ts env = record { own = i; end = i; trees = ts; after = env; starts = [] }

abbrev pub labelled : List ℕ → ℕ → Outcome → Outcome
labelled name i o =
    record { own = o.own; end = o.end; trees = o.trees; after = o.after ++ (name, span_value i o.own) ∷ []; starts = o.starts }

abbrev pub hidden : Outcome → Outcome
hidden o = record { own = o.own; end = o.end; trees = o.trees; after = o.after; starts = [] }

abbrev pub of_covering : Covering → Outcome
of_covering r = record { own = r.end; end = r.end; trees = r.trees; after = r.after; starts = r.starts }

-- whole, with the environment of before
abbrev pub entered : Environment → Outcome → Outcome
entered env o = record { own = o.end; end = o.end; trees = o.trees; after = env; starts = o.starts }

abbrev pub joined : Outcome → Covering → Covering
joined o r = record { end = r.end; trees = join o.trees r.trees; after = r.after; starts = o.starts ++ r.starts }

module _ (g : Grammar) (shapes : List Shape) (text : Input) (lower : Lower) where
  abbrev pub instanced : ℕ → ℕ → Decl → Shape → ℕ → Covering → Instanced
  instanced k j decl shape i r =
      record { kind = decl.kind; end = r.end; tree = Node (tag_of shape (suc k) (suc j)) i r.end r.trees; starts = r.starts }

  -- by each alternative of a declaration
  abbrev pub by_alternatives : ℕ → Decl → Shape → Environment → ℕ → List Instanced
  by_alternatives k decl shape env i =
      flat_map (λ j. from (slice_get (by_level decl.levels) j) (λ a. map (instanced k j decl shape i) (lower.covered decl.kind (gathered a.alternative.symbols) env i))) (below (length (by_level decl.levels)))

  -- by each declaration of the name
  abbrev pub instances : List ℕ → List Value → ℕ → List Instanced
  instances name vs i =
      flat_map (λ k. from (slice_get g.decls k) (λ decl. given (is_word decl.name name) (λ _. from (slice_get shapes k) (λ shape. from (bound_by decl.params vs) (λ env. by_alternatives k decl shape env i))))) (below (length g.decls))

  abbrev pub trailed : Option (List ℕ) → ℕ → List Trailing
  trailed None e = record { end = e; trees = none } ∷ []
  trailed (Some name) e = map (λ t. record { end = t.end; trees = one t.tree }) (instances name [] e)

  abbrev pub trails : DeclKind → ℕ → List Trailing
  trails Syntax e = trailed (layout_among g.decls) e
  trails c e = record { end = e; trees = none } ∷ []

  -- a token with this tree
  abbrev pub token : DeclKind → ℕ → ℕ → Tree → Environment → List Outcome
  token c i e t env =
      map (λ r. record { own = e; end = r.end; trees = more t r.trees; after = env; starts = exposed c i }) (trails c e)

  abbrev pub matched : DeclKind → Pattern → Environment → ℕ → List Outcome
  matched c p env i = flat_map (λ e. token c i e (Leaf i e) env) (ends_of text p i)

  abbrev pub called : DeclKind → ℕ → Environment → DeclKind → ℕ → Tree → List ℕ → List Outcome
  called c i env Lexical e t ks = token c i e t env
  called c i env kind e t ks = record { own = e; end = e; trees = one t; after = env; starts = ks } ∷ []

  abbrev pub lists : DeclKind → Symbol → Environment → ℕ → List Listing
  lists c (Star x) env i =
      given lower.room (λ _. record { end = i; tree = Node tag.Nil i i none; starts = []; items = [] } ∷ []) ++ flat_map (λ l. map (extended tag.Snoc i l) (lower.derived c x env l.end)) (lower.lists c (Star x) env i)
  lists c (Plus x) env i =
      map (single i) (lower.derived c x env i) ++ flat_map (λ l. map (extended tag.More i l) (lower.derived c x env l.end)) (lower.lists c (Plus x) env i)
  lists c (SepPlus x s) env i =
      map (single i) (lower.derived c x env i) ++ flat_map (λ l. flat_map (λ p. map (separated i l p) (lower.derived c x env p.end)) (lower.derived c s env l.end)) (lower.lists c (SepPlus x s) env i)
  lists c (SepStar x s) env i =
      given lower.room (λ _. record { end = i; tree = Node tag.Absent i i none; starts = []; items = [] } ∷ []) ++ map (some_list i) (lower.lists c (SepPlus x s) env i)
  lists c x env i = []

  abbrev pub items : DeclKind → Symbol → Environment → ℕ → List Itemised
  items c (Filtered x filters) env i =
      flat_map (λ o. given (passes_all text i o.own filters) (λ _. o ∷ [])) (items c x env i)
  items c x env i = map (itemised env) (lists c x env i)

  -- by each alternative of a group, numbered from k
  abbrev pub chosen : DeclKind → Alternatives → ℕ → Environment → ℕ → List Outcome
  chosen c no_alternatives k env i = []
  chosen c (next_alternative xs others) k env i =
      map (grouped k i env) (lower.covered c xs env i) ++ chosen c others (suc k) env i

  abbrev mutual
    pub covered : DeclKind → Symbols → Environment → ℕ → List Covering
    covered c no_symbols env i = record { end = i; trees = none; after = env; starts = [] } ∷ []
    covered c (next_symbol x xs) env i = flat_map (λ o. map (joined o) (covered c xs o.after o.end)) (derived c x env i)

    pub derived : DeclKind → Symbol → Environment → ℕ → List Outcome
    derived c (Literal word) env i = matched c (pattern.Literal word) env i
    derived c (OneOf class) env i = matched c (pattern.OneOf class) env i
    derived c (Call name arguments) env i =
        from (values_at text env i arguments) (λ vs. flat_map (λ t. called c i env t.kind t.end t.tree t.starts) (instances name vs i))
    derived c (Label name x) env i = map (labelled name i) (derived c x env i)
    derived c (Guard e) env i =
        from (value_of text (names env) (values env) i e) (λ v. given (is_truth v) (λ _. still i none env ∷ []))
    derived c (Let name e) env i =
        from (value_of text (names env) (values env) i e) (λ v. still i none (env ++ (name, v) ∷ []) ∷ [])
    derived c (Opt x) env i =
        given lower.room (λ _. still i (one (Node tag.Absent i i none)) env ∷ []) ++ map (present i env) (lower.derived c x env i)
    derived c (Star x) env i = map (of_listing env) (lists c (Star x) env i)
    derived c (Plus x) env i = map (of_listing env) (lists c (Plus x) env i)
    derived c (SepStar x s) env i = map (of_listing env) (lists c (SepStar x s) env i)
    derived c (SepPlus x s) env i = map (of_listing env) (lists c (SepPlus x s) env i)
    derived c (Group choices) env i = chosen c choices 1 env i
    derived c (Offside x) env i = flat_map (λ o. given (are_right text i o.starts) (λ _. o ∷ [])) (derived c x env i)
    derived c (Ignore x) env i = map hidden (derived c x env i)
    derived c (Align x) env i = flat_map (λ o. given (are_aligned text o.items) (λ _. of_items o ∷ [])) (items c x env i)
    derived c (Filtered x filters) env i =
        flat_map (λ o. given (passes_all text i o.own filters) (λ _. o ∷ [])) (derived c x env i)
    derived c (Seq xs) env i = map of_covering (covered c xs env i)
    derived c (Entry bindings x) env i =
        from (values_at text env i (map (λ b. b.value) bindings)) (λ vs. map (entered env) (derived c x (replaced env bindings vs) i))

module _ (g : Grammar) (shapes : List Shape) (text : Input) where
  -- what is covered with trees lower than the height
  abbrev pub before : ℕ → Lower
  before zero = nothing
  before (suc height) =
      record {
        room = true;
        covered = covered g shapes text (before height);
        derived = derived g shapes text (before height);
        lists = lists g shapes text (before height);
      }
