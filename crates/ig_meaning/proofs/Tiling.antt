-- The trees of a derivation stand side by side, and so do the children of each node: where all begin at the same
-- positions, and all have the same tags, they are equal.
use Rattle.std.proofs.Common.{◌≡◌, ℕ, List, refl, sym, ◌∙◌, subst}
use Rattle.ig_text.specs.Input.{Input}
use Rattle.ig_text.specs.Tree.{Tree, Trees, Leaf, Node, none, more, one, join}
use Rattle.ig_expr.specs.declared.value.Value.{Value}
use Rattle.ig_grammar.specs.Symbol.{Symbol}
use Rattle.ig_meaning.specs.Environment.{Environment}
use Rattle.ig_meaning.specs.Derivation.{Covers, Derives, Lists, Items, Instance, Trails}
use Rattle.ig_meaning.specs.Derivation.{empty, symbol, literal, one_of, token, call, label, guard, let_be, absent, present, star, plus, sep_star, sep_plus, group, offside, ignore, align, filtered, sequence, entry}
use Rattle.ig_meaning.specs.Derivation.{nil, snoc, one_item, more_items, first_item, further_item, no_item, some_items, bare, with_filters, alternative, layout, no_layout, outside}
use Rattle.ig_meaning.specs.Laws.{begin_of, end_of}
use Rattle.ig_text.specs.TagNumber.{number_of}
use Rattle.ig_grammar.specs.declared.declaration.DeclKind.{DeclKind}
use Rattle.ig_grammar.specs.declared.grammar.Grammar.{Grammar}
use Rattle.ig_grammar.specs.declared.place.Shape.{Shape}

abbrev mutual
  -- the children of each node stand side by side, over all of it
  pub IsTiled : Tree → Type 0
  IsTiled (Leaf i j) = Unit {0}
  IsTiled (Node tag i j ts) = AreTiles ts i j

  -- the trees stand side by side, from i to j
  pub AreTiles : Trees → ℕ → ℕ → Type 0
  AreTiles none i j = i ≡ j
  AreTiles (more t ts) i j = (begin_of t ≡ i) × IsTiled t × AreTiles ts (end_of t) j

abbrev mutual
  -- the same numbers of tags, and the same begins of all children
  pub AreClose : Tree → Tree → Type 0
  AreClose (Leaf i j) (Leaf k l) = Unit {0}
  AreClose (Leaf i j) (Node tag k l us) = ⊥
  AreClose (Node tag i j ts) (Leaf k l) = ⊥
  AreClose (Node tag i j ts) (Node other k l us) = (number_of tag ≡ number_of other) × AllClose ts us

  pub AllClose : Trees → Trees → Type 0
  AllClose none none = Unit {0}
  AllClose none (more u us) = ⊥
  AllClose (more t ts) none = ⊥
  AllClose (more t ts) (more u us) = (begin_of t ≡ begin_of u) × AreClose t u × AllClose ts us

abbrev mutual
  pub HaveSameTags : Tree → Tree → Type 0
  HaveSameTags (Leaf i j) (Leaf k l) = Unit {0}
  HaveSameTags (Leaf i j) (Node tag k l us) = ⊥
  HaveSameTags (Node tag i j ts) (Leaf k l) = ⊥
  HaveSameTags (Node tag i j ts) (Node other k l us) = (tag ≡ other) × AllSameTags ts us

  pub AllSameTags : Trees → Trees → Type 0
  AllSameTags none none = Unit {0}
  AllSameTags none (more u us) = ⊥
  AllSameTags (more t ts) none = ⊥
  AllSameTags (more t ts) (more u us) = HaveSameTags t u × AllSameTags ts us

next_begin : (ts us : Trees) (i k j : ℕ) → AreTiles ts i j → AreTiles us k j → AllClose ts us → i ≡ k
next_begin none none i k j a b close = a ∙ sym b
next_begin none (more u us) i k j a b close = absurd close
next_begin (more t ts) none i k j a b close = absurd close
next_begin (more t ts) (more u us) i k j a b close = sym a.0 ∙ close.0 ∙ b.0

mutual
  pub same_tree : (t u : Tree) → begin_of t ≡ begin_of u → end_of t ≡ end_of u → IsTiled t → IsTiled u → AreClose t u →
      HaveSameTags t u → t ≡ u
  same_tree (Leaf i j) (Leaf k l) begins ends a b close tags = λ z. Leaf (begins z) (ends z)
  same_tree (Leaf i j) (Node tag k l us) begins ends a b close tags = absurd close
  same_tree (Node tag i j ts) (Leaf k l) begins ends a b close tags = absurd close
  same_tree (Node tag i j ts) (Node other k l us) begins ends a b close tags =
      let children : ts ≡ us = same_trees ts us i j a (subst (λ z. AreTiles us z j) (sym begins) (subst (λ z. AreTiles us k z) (sym ends) b)) close.1 tags.1 in
      λ z. Node (tags.0 z) (begins z) (ends z) (children z)

  pub same_trees : (ts us : Trees) (i j : ℕ) → AreTiles ts i j → AreTiles us i j → AllClose ts us → AllSameTags ts us → ts ≡ us
  same_trees none none i j a b close tags = refl
  same_trees none (more u us) i j a b close tags = absurd close
  same_trees (more t ts) none i j a b close tags = absurd close
  same_trees (more t ts) (more u us) i j a b close tags =
      let ends : end_of t ≡ end_of u = next_begin ts us (end_of t) (end_of u) j a.2 b.2 close.2 in
      let first : t ≡ u = same_tree t u close.0 ends a.1 b.1 close.1 tags.0 in
      let others : ts ≡ us = same_trees ts us (end_of t) j a.2 (subst (λ z. AreTiles us z j) (sym ends) b.2) close.2 tags.1 in
      λ z. more (first z) (others z)

tiles_join : (ts us : Trees) (i h j : ℕ) → AreTiles ts i h → AreTiles us h j → AreTiles (join ts us) i j
tiles_join none us i h j a b = subst (λ z. AreTiles us z j) (sym a) b
tiles_join (more t ts) us i h j a b = (a.0, a.1, tiles_join ts us (end_of t) h j a.2 b)

-- a tree over i to j, whose children stand side by side
abbrev Tiles : Tree → ℕ → ℕ → Type 0
Tiles t i j = (begin_of t ≡ i) × (end_of t ≡ j) × IsTiled t

tile_before : (t : Tree) (us : Trees) (i e j : ℕ) → Tiles t i e → AreTiles us e j → AreTiles (more t us) i j
tile_before t us i e j a b = (a.0, a.2, subst (λ z. AreTiles us z j) (sym a.1) b)

tile_alone : (t : Tree) (i j : ℕ) → Tiles t i j → AreTiles (one t) i j
tile_alone t i j a = (a.0, a.2, a.1)

module _ (g : Grammar) (shapes : List Shape) (text : Input) where
  mutual
    pub covers_tiles : {c : DeclKind} {xs : List Symbol} {env after : Environment} {i j : ℕ} {vs : Trees} {starts : List ℕ} →
        Covers g shapes text c xs env i j vs after starts → AreTiles vs i j
    covers_tiles (empty c env i) = refl
    covers_tiles (symbol c x others env between after i e h j ts us vs ks ls starts first rest trees exposes) =
        subst (λ z. AreTiles z i j) (sym trees) (tiles_join ts us i h j (derives_tiles first) (covers_tiles rest))

    pub derives_tiles : {c : DeclKind} {x : Symbol} {env after : Environment} {i e j : ℕ} {ts : Trees} {starts : List ℕ} →
        Derives g shapes text c x env i e j ts after starts → AreTiles ts i j
    derives_tiles (literal c word env i e j us ts starts spells trails trees exposes) =
        subst (λ z. AreTiles z i j) (sym trees) (refl, tt, trails_tiles trails)
    derives_tiles (one_of c class env i e j us ts starts among trails trees exposes) =
        subst (λ z. AreTiles z i j) (sym trees) (refl, tt, trails_tiles trails)
    derives_tiles (token c name arguments vs env i e j t us ts ks starts have instance trails trees exposes) =
        subst (λ z. AreTiles z i j) (sym trees) (tile_before t us i e j (instance_tiles instance) (trails_tiles trails))
    derives_tiles (call c kind name arguments vs env i j t starts have instance other) = tile_alone t i j (instance_tiles instance)
    derives_tiles (label c name x env between after i e j ts starts inner bound) = derives_tiles inner
    derives_tiles (guard c condition env i holds) = refl
    derives_tiles (let_be c name expression v env after i has bound) = refl
    derives_tiles (absent c x env i) = (refl, refl, refl)
    derives_tiles (present c x env between i e j ts starts inner) = (refl, derives_tiles inner, refl)
    derives_tiles (star c x env i j t starts items list) = tile_alone t i j (lists_tiles list)
    derives_tiles (plus c x env i j t starts items list) = tile_alone t i j (lists_tiles list)
    derives_tiles (sep_star c x separator env i j t starts items list) = tile_alone t i j (lists_tiles list)
    derives_tiles (sep_plus c x separator env i j t starts items list) = tile_alone t i j (lists_tiles list)
    derives_tiles (group c choices k xs env between i j ts starts chosen inner) = (refl, covers_tiles inner, refl)
    derives_tiles (offside c x env after i e j ts starts inner right) = derives_tiles inner
    derives_tiles (ignore c x env after i e j ts starts inner) = derives_tiles inner
    derives_tiles (align c x env after i e j ts starts items inner column) = items_tiles inner
    derives_tiles (filtered c x filters env after i e j ts starts inner passes) = derives_tiles inner
    derives_tiles (sequence c xs env after i j ts starts inner) = covers_tiles inner
    derives_tiles (entry c bindings x vs env inside after i e j ts starts have renewed inner) = derives_tiles inner

    pub lists_tiles : {c : DeclKind} {x : Symbol} {env : Environment} {i j : ℕ} {t : Tree} {starts items : List ℕ} →
        Lists g shapes text c x env i j t starts items → Tiles t i j
    lists_tiles (nil c x env i) = (refl, refl, refl)
    lists_tiles (snoc c x env after i h e j t ts ks ls starts ps items list item exposes begins) =
        (refl, refl, tile_before t ts i h j (lists_tiles list) (derives_tiles item))
    lists_tiles (one_item c x env after i e j ts starts item) = (refl, refl, derives_tiles item)
    lists_tiles (more_items c x env after i h e j t ts ks ls starts ps items list item exposes begins) =
        (refl, refl, tile_before t ts i h j (lists_tiles list) (derives_tiles item))
    lists_tiles (first_item c x separator env after i e j ts starts item) = (refl, refl, derives_tiles item)
    lists_tiles (further_item c x separator env between after i h f m e j t us ts vs ks ms ls starts ps items list part item trees exposes begins) =
        (refl, refl, tile_before t vs i h j (lists_tiles list) (subst (λ z. AreTiles z h j) (sym trees) (tiles_join us ts h m j (derives_tiles part) (derives_tiles item))))
    lists_tiles (no_item c x separator env i) = (refl, refl, refl)
    lists_tiles (some_items c x separator env i j t starts items list) = (refl, refl, tile_alone t i j (lists_tiles list))

    items_tiles : {c : DeclKind} {x : Symbol} {env after : Environment} {i e j : ℕ} {ts : Trees} {starts items : List ℕ} →
        Items g shapes text c x env i e j ts after starts items → AreTiles ts i j
    items_tiles (bare c x env i j t starts items list) = tile_alone t i j (lists_tiles list)
    items_tiles (with_filters c x filters env after i e j ts starts items inner passes) = items_tiles inner

    pub instance_tiles : {name : List ℕ} {vs : List Value} {kind : DeclKind} {i e : ℕ} {t : Tree} {starts : List ℕ} →
        Instance g shapes text name vs kind i e t starts → Tiles t i e
    instance_tiles (alternative name vs kind d k decl shape a env after i e ts t starts declares numbered bound same covers tree) =
        subst (λ z. Tiles z i e) (sym tree) (refl, refl, covers_tiles covers)

    trails_tiles : {c : DeclKind} {e j : ℕ} {ts : Trees} → Trails g shapes text c e j ts → AreTiles ts e j
    trails_tiles (layout name kind e j t starts declared instance) = tile_alone t e j (instance_tiles instance)
    trails_tiles (no_layout e undeclared) = refl
    trails_tiles (outside c e other) = refl
