-- Where exposed starts lie, and where the items of a list start.
use Rattle.std.proofs.Common.{◌≡◌, ◌⊎◌, ◌≤◌, ℕ, List, [], ◌∷◌, ◌++◌, Contains, refl, sym, subst, inl, inr, arith}
use Rattle.std.proofs.lemmas.List.Elements.{Contains-append_left, Contains-append_right, Contains-append_cases}
use Rattle.ig_text.specs.Input.{Input}
use Rattle.ig_text.specs.Tree.{Tree, Trees}
use Rattle.ig_text.proofs.Lists.{it_is_in, contains_one}
use Rattle.ig_expr.specs.declared.value.Value.{Value}
use Rattle.ig_grammar.specs.Symbol.{Symbol, SepPlus}
use Rattle.ig_meaning.specs.Environment.{Environment}
use Rattle.ig_meaning.specs.Derivation.{exposed, Covers, Derives, Lists, Items, Instance}
use Rattle.ig_meaning.specs.Derivation.{empty, symbol, literal, one_of, token, call, label, guard, let_be, absent, present, star, plus, sep_star, sep_plus, group, offside, ignore, align, filtered, sequence, entry}
use Rattle.ig_meaning.specs.Derivation.{nil, snoc, one_item, more_items, first_item, further_item, no_item, some_items, bare, with_filters, alternative}
use Rattle.ig_grammar.specs.declared.declaration.DeclKind.{DeclKind}
use Rattle.ig_grammar.specs.declared.declaration.DeclKind.TheVariants.{Syntax, Lexical, Layout, Plain}
use Rattle.ig_grammar.specs.declared.grammar.Grammar.{Grammar}
use Rattle.ig_grammar.specs.declared.place.Shape.{Shape}
use Rattle.ig_meaning.specs.Laws.{SpansAreInOrder}

-- P holds of each member
abbrev pub Each : (ℕ → Type 0) → List ℕ → Type 0
Each P xs = (q : ℕ) → Contains xs q → P q

pub each_none : (P : ℕ → Type 0) → Each P []
each_none P q h = absurd (omega (arith, h.1))

pub each_one : (P : ℕ → Type 0) (i : ℕ) → P i → Each P (i ∷ [])
each_one P i p q h = subst P (sym (contains_one i q h)) p

pub each_join : (P : ℕ → Type 0) (xs ys zs : List ℕ) → zs ≡ xs ++ ys → Each P xs → Each P ys → Each P zs
each_join P xs ys zs e a b q h = go (Contains-append_cases xs ys q (subst (λ l. Contains l q) e h))
  where
    go : Contains xs q ⊎ Contains ys q → P q
    go (inl h) = a q h
    go (inr h) = b q h

pub each_left : (P : ℕ → Type 0) (xs ys zs : List ℕ) → zs ≡ xs ++ ys → Each P zs → Each P xs
each_left P xs ys zs e a q h = a q (subst (λ l. Contains l q) (sym e) (Contains-append_left xs ys q h))

pub each_right : (P : ℕ → Type 0) (xs ys zs : List ℕ) → zs ≡ xs ++ ys → Each P zs → Each P ys
each_right P xs ys zs e a q h = a q (subst (λ l. Contains l q) (sym e) (Contains-append_right xs ys q h))

pub each_more : (P Q : ℕ → Type 0) (xs : List ℕ) → ((q : ℕ) → P q → Q q) → Each P xs → Each Q xs
each_more P Q xs f a q h = f q (a q h)

abbrev After : ℕ → List ℕ → Type 0
After i xs = Each (λ q. i ≤ q) xs

after_later : (i h : ℕ) (xs : List ℕ) → i ≤ h → After h xs → After i xs
after_later i h xs le a q c = let l : h ≤ q = a q c in omega arith

after_join : (i h : ℕ) (xs ys zs : List ℕ) → zs ≡ xs ++ ys → i ≤ h → After i xs → After h ys → After i zs
after_join i h xs ys zs e le a b = each_join (λ q. i ≤ q) xs ys zs e a (after_later i h ys le b)

exposed_after : (c : DeclKind) (i : ℕ) (xs : List ℕ) → xs ≡ exposed c i → After i xs
exposed_after Syntax i xs e = subst (After i) (sym e) (each_one (λ q. i ≤ q) i (omega arith))
exposed_after Lexical i xs e = subst (After i) (sym e) (each_none (λ q. i ≤ q))
exposed_after Layout i xs e = subst (After i) (sym e) (each_none (λ q. i ≤ q))
exposed_after Plain i xs e = subst (After i) (sym e) (each_none (λ q. i ≤ q))

module _ (in_order : SpansAreInOrder) (g : Grammar) (shapes : List Shape) (text : Input) where
  begins : {c : DeclKind} {x : Symbol} {env after : Environment} {i e j : ℕ} {ts : Trees} {starts : List ℕ} →
      Derives g shapes text c x env i e j ts after starts → i ≤ j
  begins d = let w = in_order g shapes text in let o = w.derives d in omega (arith, o.begins, o.ends)

  list_begins : {c : DeclKind} {x : Symbol} {env : Environment} {i j : ℕ} {t : Tree} {starts items : List ℕ} →
      Lists g shapes text c x env i j t starts items → i ≤ j
  list_begins d = let w = in_order g shapes text in let o = w.lists d in omega (arith, o.begins, o.ends)

  mutual
    pub covers_after : {c : DeclKind} {xs : List Symbol} {env after : Environment} {i j : ℕ} {vs : Trees} {starts : List ℕ} →
        Covers g shapes text c xs env i j vs after starts → After i starts
    covers_after (empty c env i) = each_none (λ q. i ≤ q)
    covers_after (symbol c x others env between after i e h j ts us vs ks ls starts first rest trees exposes) =
        after_join i h ks ls starts exposes (begins first) (derives_after first) (covers_after rest)

    pub derives_after : {c : DeclKind} {x : Symbol} {env after : Environment} {i e j : ℕ} {ts : Trees} {starts : List ℕ} →
        Derives g shapes text c x env i e j ts after starts → After i starts
    derives_after (literal c word env i e j us ts starts spells trails trees exposes) = exposed_after c i starts exposes
    derives_after (one_of c class env i e j us ts starts among trails trees exposes) = exposed_after c i starts exposes
    derives_after (token c name arguments vs env i e j t us ts ks starts have instance trails trees exposes) =
        exposed_after c i starts exposes
    derives_after (call c kind name arguments vs env i j t starts have instance other) = instance_after instance
    derives_after (label c name x env between after i e j ts starts inner bound) = derives_after inner
    derives_after (guard c condition env i holds) = each_none (λ q. i ≤ q)
    derives_after (let_be c name expression v env after i has bound) = each_none (λ q. i ≤ q)
    derives_after (absent c x env i) = each_none (λ q. i ≤ q)
    derives_after (present c x env between i e j ts starts inner) = derives_after inner
    derives_after (star c x env i j t starts items list) = lists_after list
    derives_after (plus c x env i j t starts items list) = lists_after list
    derives_after (sep_star c x separator env i j t starts items list) = lists_after list
    derives_after (sep_plus c x separator env i j t starts items list) = lists_after list
    derives_after (group c choices k xs env between i j ts starts chosen inner) = covers_after inner
    derives_after (offside c x env after i e j ts starts inner right) = derives_after inner
    derives_after (ignore c x env after i e j ts starts inner) = each_none (λ q. i ≤ q)
    derives_after (align c x env after i e j ts starts items inner column) = items_after inner
    derives_after (filtered c x filters env after i e j ts starts inner passes) = derives_after inner
    derives_after (sequence c xs env after i j ts starts inner) = covers_after inner
    derives_after (entry c bindings x vs env inside after i e j ts starts have renewed inner) = derives_after inner

    pub lists_after : {c : DeclKind} {x : Symbol} {env : Environment} {i j : ℕ} {t : Tree} {starts items : List ℕ} →
        Lists g shapes text c x env i j t starts items → After i starts
    lists_after (nil c x env i) = each_none (λ q. i ≤ q)
    lists_after (snoc c x env after i h e j t ts ks ls starts ps items list item exposes begin) =
        after_join i h ks ls starts exposes (list_begins list) (lists_after list) (derives_after item)
    lists_after (one_item c x env after i e j ts starts item) = derives_after item
    lists_after (more_items c x env after i h e j t ts ks ls starts ps items list item exposes begin) =
        after_join i h ks ls starts exposes (list_begins list) (lists_after list) (derives_after item)
    lists_after (first_item c x separator env after i e j ts starts item) = derives_after item
    lists_after (further_item c x separator env between after i h f m e j t us ts vs ks ms ls starts ps items list part item trees exposes begin) =
        after_join i m (ks ++ ms) ls starts exposes (omega (arith, list_begins list, begins part))
        (after_join i h ks ms (ks ++ ms) refl (list_begins list) (lists_after list) (derives_after part)) (derives_after item)
    lists_after (no_item c x separator env i) = each_none (λ q. i ≤ q)
    lists_after (some_items c x separator env i j t starts items list) = lists_after list

    pub items_after : {c : DeclKind} {x : Symbol} {env after : Environment} {i e j : ℕ} {ts : Trees} {starts items : List ℕ} →
        Items g shapes text c x env i e j ts after starts items → After i starts
    items_after (bare c x env i j t starts items list) = lists_after list
    items_after (with_filters c x filters env after i e j ts starts items inner passes) = items_after inner

    pub instance_after : {name : List ℕ} {vs : List Value} {kind : DeclKind} {i e : ℕ} {t : Tree} {starts : List ℕ} →
        Instance g shapes text name vs kind i e t starts → After i starts
    instance_after (alternative name vs kind d k decl shape a env after i e ts t starts declares numbered bound same covers tree) =
        covers_after covers

  -- a list has no item, or one that starts where the list does
  abbrev Begins : ℕ → ℕ → List ℕ → Type 0
  Begins i j items = Contains items i ⊎ ((items ≡ []) × (i ≡ j))

  grown : (i h j : ℕ) (ps items : List ℕ) → items ≡ ps ++ h ∷ [] → Begins i h ps → Begins i j items
  grown i h j ps items e (inl b) = inl (subst (λ l. Contains l i) (sym e) (Contains-append_left ps (h ∷ []) i b))
  grown i h j ps items e (inr b) =
      inl (subst (λ l. Contains l i) (sym e) (Contains-append_right ps (h ∷ []) i (subst (λ z. Contains (z ∷ []) i) b.1 (it_is_in i))))

  separated : (i h m j : ℕ) (ps items : List ℕ) → items ≡ ps ++ m ∷ [] → Contains ps i → Contains items i
  separated i h m j ps items e b = subst (λ l. Contains l i) (sym e) (Contains-append_left ps (m ∷ []) i b)

  separated_begins : {c : DeclKind} {x separator : Symbol} {env : Environment} {i j : ℕ} {t : Tree} {starts items : List ℕ} →
      Lists g shapes text c (SepPlus x separator) env i j t starts items → Contains items i
  separated_begins (first_item c x separator env after i e j ts starts item) = it_is_in i
  separated_begins (further_item c x separator env between after i h f m e j t us ts vs ks ms ls starts ps items list part item trees exposes begin) =
      separated i h m j ps items begin (separated_begins list)

  pub items_begin : {c : DeclKind} {x : Symbol} {env : Environment} {i j : ℕ} {t : Tree} {starts items : List ℕ} →
      Lists g shapes text c x env i j t starts items → Begins i j items
  items_begin (nil c x env i) = inr (refl, refl)
  items_begin (snoc c x env after i h e j t ts ks ls starts ps items list item exposes begin) =
      grown i h j ps items begin (items_begin list)
  items_begin (one_item c x env after i e j ts starts item) = inl (it_is_in i)
  items_begin (more_items c x env after i h e j t ts ks ls starts ps items list item exposes begin) =
      grown i h j ps items begin (items_begin list)
  items_begin (first_item c x separator env after i e j ts starts item) = inl (it_is_in i)
  items_begin (further_item c x separator env between after i h f m e j t us ts vs ks ms ls starts ps items list part item trees exposes begin) =
      inl (separated i h m j ps items begin (separated_begins list))
  items_begin (no_item c x separator env i) = inr (refl, refl)
  items_begin (some_items c x separator env i j t starts items list) = items_begin list
