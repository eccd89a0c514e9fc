-- Each derivation is by a rule for its symbol.
use Rattle.std.proofs.Common.{ℕ, List, refl, inl, inr}
use Rattle.ig_text.specs.Input.{Input}
use Rattle.ig_text.specs.declared.tag.Tag.TheVariants as tag
use Rattle.ig_text.specs.Tree.{Tree, Trees, Node, none, more, one}
use Rattle.ig_expr.specs.declared.value.Value.{Value}
use Rattle.ig_grammar.specs.Symbol.{Symbol}
use Rattle.ig_meaning.specs.Environment.{Environment}
use Rattle.ig_meaning.specs.Derivation.{Covers, Derives, Lists, Items, Instance, Trails}
use Rattle.ig_meaning.specs.Derivation.{empty, symbol, literal, one_of, token, call, label, guard, let_be, absent, present, star, plus, sep_star, sep_plus, group, offside, ignore, align, filtered, sequence, entry}
use Rattle.ig_meaning.specs.Derivation.{nil, snoc, one_item, more_items, first_item, further_item, no_item, some_items, bare, with_filters, alternative, layout, no_layout, outside}
use Rattle.ig_grammar.specs.declared.declaration.DeclKind.{DeclKind}
use Rattle.ig_grammar.specs.declared.grammar.Grammar.{Grammar}
use Rattle.ig_grammar.specs.declared.place.Shape.{Shape}
use Rattle.ig_meaning.specs.Inversion.{CoversBy, DerivesBy, ListsBy, ItemsBy, InstanceBy, TrailsBy, DerivationsInvert}

module _ (g : Grammar) (shapes : List Shape) (text : Input) where
  pub covers_by : {c : DeclKind} {xs : List Symbol} {env after : Environment} {i j : ℕ} {vs : Trees} {starts : List ℕ} →
      Covers g shapes text c xs env i j vs after starts → CoversBy g shapes text c xs env i j vs after starts
  covers_by (empty c env i) = (refl, refl, refl, refl)
  covers_by (symbol c x others env between after i e h j ts us vs ks ls starts first rest trees exposes) =
      (between, e, h, ts, us, ks, ls, first, rest, trees, exposes)

  pub derives_by : {c : DeclKind} {x : Symbol} {env after : Environment} {i e j : ℕ} {ts : Trees} {starts : List ℕ} →
      Derives g shapes text c x env i e j ts after starts → DerivesBy g shapes text c x env i e j ts after starts
  derives_by (literal c word env i e j us ts starts spelled trails trees exposes) =
      (us, spelled, trails, trees, exposes, refl)
  derives_by (one_of c class env i e j us ts starts member trails trees exposes) =
      (us, member, trails, trees, exposes, refl)
  derives_by (token c name arguments vs env i e j t us ts ks starts have instance trails trees exposes) =
      (vs, have, inl (t, us, ks, instance, trails, trees, exposes), refl)
  derives_by (call c kind name arguments vs env i j t starts have instance other) =
      (vs, have, inr (t, kind, instance, other, refl, refl), refl)
  derives_by (label c name x env between after i e j ts starts inner bound) = (between, inner, bound)
  derives_by (guard c condition env i holds) = (holds, refl, refl, refl, refl, refl)
  derives_by (let_be c name expression v env after i has bound) = (v, has, bound, refl, refl, refl, refl)
  derives_by (absent c x env i) = (inl (refl, refl, refl), refl, refl)
  derives_by (present c x env between i e j ts starts inner) = (inr (between, e, ts, inner, refl), refl, refl)
  derives_by (star c x env i j t starts items list) = (t, items, list, refl, refl, refl)
  derives_by (plus c x env i j t starts items list) = (t, items, list, refl, refl, refl)
  derives_by (sep_star c x separator env i j t starts items list) = (t, items, list, refl, refl, refl)
  derives_by (sep_plus c x separator env i j t starts items list) = (t, items, list, refl, refl, refl)
  derives_by (group c choices k xs env between i j ts starts chosen inner) =
      (k, xs, between, ts, chosen, inner, refl, refl, refl)
  derives_by (offside c x env after i e j ts starts inner right) = (inner, right)
  derives_by (ignore c x env after i e j ts starts inner) = (starts, inner, refl)
  derives_by (align c x env after i e j ts starts items inner column) = (items, inner, column)
  derives_by (filtered c x filters env after i e j ts starts inner passes) = (inner, passes)
  derives_by (sequence c xs env after i j ts starts inner) = (inner, refl)
  derives_by (entry c bindings x vs env inside after i e j ts starts have renewed inner) =
      (vs, inside, after, e, have, renewed, inner, refl, refl)

  pub lists_by : {c : DeclKind} {x : Symbol} {env : Environment} {i j : ℕ} {t : Tree} {starts items : List ℕ} →
      Lists g shapes text c x env i j t starts items → ListsBy g shapes text c x env i j t starts items
  lists_by (nil c x env i) = inl (refl, refl, refl, refl)
  lists_by (snoc c x env after i h e j t ts ks ls starts ps items list item exposes begins) =
      inr (more t ts, refl, (after, h, e, t, ts, ks, ls, ps, list, item, refl, exposes, begins))
  lists_by (one_item c x env after i e j ts starts item) = inl (after, e, ts, item, refl, refl)
  lists_by (more_items c x env after i h e j t ts ks ls starts ps items list item exposes begins) =
      inr (more t ts, refl, (after, h, e, t, ts, ks, ls, ps, list, item, refl, exposes, begins))
  lists_by (first_item c x separator env after i e j ts starts item) = inl (after, e, ts, item, refl, refl)
  lists_by (further_item c x separator env between after i h f m e j t us ts vs ks ms ls starts ps items list parts item trees exposes begins) =
      inr (between, after, h, f, m, e, t, us, ts, ks, ms, ls, ps, list, parts, item, (λ k. Node tag.More i j (more t (trees k))), exposes, begins)
  lists_by (no_item c x separator env i) = inl (refl, refl, refl, refl)
  lists_by (some_items c x separator env i j t starts items list) = inr (t, list, refl)

  -- no list has the form of another symbol
  of_list : {c : DeclKind} {x : Symbol} {env : Environment} {i j : ℕ} {t : Tree} {starts items : List ℕ} →
      Lists g shapes text c x env i j t starts items → ItemsBy g shapes text c x env i j j (one t) env starts items
  of_list (nil c x env i) = (Node tag.Nil i i none, nil c x env i, refl, refl, refl)
  of_list (snoc c x env after i h e j t ts ks ls starts ps items list item exposes begins) =
      (Node tag.Snoc i j (more t ts), snoc c x env after i h e j t ts ks ls starts ps items list item exposes begins, refl, refl, refl)
  of_list (one_item c x env after i e j ts starts item) =
      (Node tag.One i j ts, one_item c x env after i e j ts starts item, refl, refl, refl)
  of_list (more_items c x env after i h e j t ts ks ls starts ps items list item exposes begins) =
      (Node tag.More i j (more t ts), more_items c x env after i h e j t ts ks ls starts ps items list item exposes begins, refl, refl, refl)
  of_list (first_item c x separator env after i e j ts starts item) =
      (Node tag.One i j ts, first_item c x separator env after i e j ts starts item, refl, refl, refl)
  of_list (further_item c x separator env between after i h f m e j t us ts vs ks ms ls starts ps items list parts item trees exposes begins) =
      (Node tag.More i j (more t vs), further_item c x separator env between after i h f m e j t us ts vs ks ms ls starts ps items list parts item trees exposes begins, refl, refl, refl)
  of_list (no_item c x separator env i) = (Node tag.Absent i i none, no_item c x separator env i, refl, refl, refl)
  of_list (some_items c x separator env i j t starts items list) =
      (Node tag.Present i j (one t), some_items c x separator env i j t starts items list, refl, refl, refl)

  pub items_by : {c : DeclKind} {x : Symbol} {env after : Environment} {i e j : ℕ} {ts : Trees} {starts items : List ℕ} →
      Items g shapes text c x env i e j ts after starts items → ItemsBy g shapes text c x env i e j ts after starts items
  items_by (bare c x env i j t starts items list) = of_list list
  items_by (with_filters c x filters env after i e j ts starts items inner passes) = (inner, passes)

  pub instance_by : {name : List ℕ} {vs : List Value} {kind : DeclKind} {i e : ℕ} {t : Tree} {starts : List ℕ} →
      Instance g shapes text name vs kind i e t starts → InstanceBy g shapes text name vs kind i e t starts
  instance_by (alternative name vs kind d k decl shape a env after i e ts t starts declares numbered bound same covers tree) =
      (d, k, decl, shape, a, env, after, ts, declares, numbered, bound, same, covers, tree)

  pub trails_by : {c : DeclKind} {e j : ℕ} {ts : Trees} → Trails g shapes text c e j ts → TrailsBy g shapes text c e j ts
  trails_by (layout name kind e j t starts declared instance) = inl (refl, name, kind, t, starts, declared, instance, refl)
  trails_by (no_layout e undeclared) = inr ((λ same. undeclared), refl, refl)
  trails_by (outside c e other) = inr ((λ same. absurd (other same)), refl, refl)

pub inverted : DerivationsInvert
inverted g shapes text =
    record {
      covers = covers_by g shapes text;
      derives = derives_by g shapes text;
      lists = lists_by g shapes text;
      items = items_by g shapes text;
      instance = instance_by g shapes text;
      trails = trails_by g shapes text;
    }
