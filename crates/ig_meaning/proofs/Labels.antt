-- The first tree of a symbol that may have a label has the symbol's own span.
use Rattle.std.proofs.Common.{◌≡◌, ℕ, List, [], ◌∷◌, ◌++◌, refl, sym, ◌∙◌, ap}
use Rattle.ig_text.specs.Input.{Input}
use Rattle.ig_text.specs.Tree.{Tree, Trees, Leaf, Node, none, more, one}
use Rattle.ig_text.specs.declared.tag.Tag.TheVariants as tag
use Rattle.ig_expr.specs.declared.value.Value.{Value}
use Rattle.ig_grammar.specs.Symbol.{Symbol, Label, Offside, Ignore, Align, Filtered, Entry}
use Rattle.ig_meaning.specs.Environment.{Environment}
use Rattle.ig_grammar.specs.Regular.{IsPlaced, MayHaveLabel, MayHaveMark, MayHaveFilters, MayHaveEntry}
use Rattle.ig_grammar.specs.Standing.{StandsWell}
use Rattle.ig_grammar.specs.Subterms.{subterms}
use Rattle.std.proofs.lemmas.List.Elements.{All-head, All-tail}
use Rattle.ig_meaning.specs.Derivation.{Derives, Lists, Items, Instance, span_value}
use Rattle.ig_meaning.specs.Derivation.{literal, one_of, token, call, label, guard, let_be, absent, present, star, plus, sep_star, sep_plus, group, offside, ignore, align, filtered, sequence, entry}
use Rattle.ig_meaning.specs.Derivation.{nil, snoc, one_item, more_items, first_item, further_item, no_item, some_items, bare, with_filters, alternative}
use Rattle.ig_meaning.specs.Laws.{begin_of, end_of, BindsFirstTree}
use Rattle.ig_grammar.specs.declared.declaration.DeclKind.{DeclKind}
use Rattle.ig_grammar.specs.declared.grammar.Grammar.{Grammar}
use Rattle.ig_grammar.specs.declared.place.Shape.{Shape}
use Rattle.ig_grammar.specs.Forms.{mark_of_filtered, label_of_marked}

-- the first of the trees covers i to e
pub record BeginsWith (i e : ℕ) (ts : Trees) : Type 0 where
  pub first : Tree
  pub others : Trees
  pub split : ts ≡ more first others
  pub begin : begin_of first ≡ i
  pub end : end_of first ≡ e

-- the tree covers i to j
abbrev pub HasSpan : ℕ → ℕ → Tree → Type 0
HasSpan i j t = (begin_of t ≡ i) × (end_of t ≡ j)

alone : (i j : ℕ) (t : Tree) → HasSpan i j t → BeginsWith i j (one t)
alone i j t span = record { first = t; others = none; split = refl; begin = span.0; end = span.1 }

module _ (g : Grammar) (shapes : List Shape) (text : Input) where
  of_list : {c : DeclKind} {x : Symbol} {env : Environment} {i j : ℕ} {t : Tree} {starts items : List ℕ} →
      Lists g shapes text c x env i j t starts items → HasSpan i j t
  of_list (nil c x env i) = (refl, refl)
  of_list (snoc c x env after i h e j t ts ks ls starts ps items list item exposes begins) = (refl, refl)
  of_list (one_item c x env after i e j ts starts item) = (refl, refl)
  of_list (more_items c x env after i h e j t ts ks ls starts ps items list item exposes begins) = (refl, refl)
  of_list (first_item c x separator env after i e j ts starts item) = (refl, refl)
  of_list (further_item c x separator env between after i h f m e j t us ts vs ks ms ls starts ps items list part item trees exposes begins) =
      (refl, refl)
  of_list (no_item c x separator env i) = (refl, refl)
  of_list (some_items c x separator env i j t starts items list) = (refl, refl)

  of_items : {c : DeclKind} {x : Symbol} {env after : Environment} {i e j : ℕ} {ts : Trees} {starts items : List ℕ} →
      Items g shapes text c x env i e j ts after starts items → BeginsWith i e ts
  of_items (bare c x env i j t starts items list) = alone i j t (of_list list)
  of_items (with_filters c x filters env after i e j ts starts items inner passes) = of_items inner

  of_instance : {name : List ℕ} {vs : List Value} {kind : DeclKind} {i e : ℕ} {t : Tree} {starts : List ℕ} →
      Instance g shapes text name vs kind i e t starts → HasSpan i e t
  of_instance (alternative name vs kind d k decl shape a env after i e ts t starts declares numbered bound same covers tree) =
      (ap begin_of tree, ap end_of tree)

  -- the one tree of a list, an option or a group covers all of it
  of_entry : {c : DeclKind} {x : Symbol} {env after : Environment} {i e j : ℕ} {ts : Trees} {starts : List ℕ} →
      MayHaveEntry x → Derives g shapes text c x env i e j ts after starts → BeginsWith i j ts
  of_entry may (absent c x env i) = alone i i (Node tag.Absent i i none) (refl, refl)
  of_entry may (present c x env between i e j ts starts inner) = alone i j (Node tag.Present i j ts) (refl, refl)
  of_entry may (star c x env i j t starts items list) = alone i j t (of_list list)
  of_entry may (plus c x env i j t starts items list) = alone i j t (of_list list)
  of_entry may (sep_star c x separator env i j t starts items list) = alone i j t (of_list list)
  of_entry may (sep_plus c x separator env i j t starts items list) = alone i j t (of_list list)
  of_entry may (group c choices k xs env between i j ts starts chosen inner) =
      alone i j (Node (tag.GroupAlt k) i j ts) (refl, refl)
  of_entry may other = absurd may

  pub of_symbol : {c : DeclKind} {x : Symbol} {env after : Environment} {i e j : ℕ} {ts : Trees} {starts : List ℕ} →
      MayHaveLabel x → StandsWell x → Derives g shapes text c x env i e j ts after starts → BeginsWith i e ts
  of_symbol may well (literal c word env i e j us ts starts spells trails trees exposes) =
      record { first = Leaf i e; others = us; split = trees; begin = refl; end = refl }
  of_symbol may well (one_of c class env i e j us ts starts among trails trees exposes) =
      record { first = Leaf i e; others = us; split = trees; begin = refl; end = refl }
  of_symbol may well (token c name arguments vs env i e j t us ts ks starts have instance trails trees exposes) =
      record { first = t; others = us; split = trees; begin = (of_instance instance).0; end = (of_instance instance).1 }
  of_symbol may well (call c kind name arguments vs env i j t starts have instance other) = alone i j t (of_instance instance)
  of_symbol may well (label c name x env between after i e j ts starts inner bound) = absurd may
  of_symbol may well (guard c condition env i holds) = absurd may
  of_symbol may well (let_be c name expression v env after i has bound) = absurd may
  of_symbol may well (absent c x env i) = alone i i (Node tag.Absent i i none) (refl, refl)
  of_symbol may well (present c x env between i e j ts starts inner) = alone i j (Node tag.Present i j ts) (refl, refl)
  of_symbol may well (star c x env i j t starts items list) = alone i j t (of_list list)
  of_symbol may well (plus c x env i j t starts items list) = alone i j t (of_list list)
  of_symbol may well (sep_star c x separator env i j t starts items list) = alone i j t (of_list list)
  of_symbol may well (sep_plus c x separator env i j t starts items list) = alone i j t (of_list list)
  of_symbol may well (group c choices k xs env between i j ts starts chosen inner) =
      alone i j (Node (tag.GroupAlt k) i j ts) (refl, refl)
  of_symbol may well (offside c x env after i e j ts starts inner right) =
      of_symbol (label_of_marked x (All-head IsPlaced (Offside x) (subterms x) well).1) (All-tail IsPlaced (Offside x) (subterms x) well) inner
  of_symbol may well (ignore c x env after i e j ts starts inner) =
      of_symbol (label_of_marked x (All-head IsPlaced (Ignore x) (subterms x) well).1) (All-tail IsPlaced (Ignore x) (subterms x) well) inner
  of_symbol may well (align c x env after i e j ts starts items inner column) = of_items inner
  of_symbol may well (filtered c x filters env after i e j ts starts inner passes) =
      of_symbol (label_of_marked x (mark_of_filtered x (All-head IsPlaced (Filtered x filters) (subterms x) well).1)) (All-tail IsPlaced (Filtered x filters) (subterms x) well) inner
  of_symbol may well (sequence c xs env after i j ts starts inner) = absurd may
  of_symbol may well (entry c bindings x vs env inside after i e j ts starts have renewed inner) =
      of_entry (All-head IsPlaced (Entry bindings x) (subterms x) well).1 inner

  bound_span : (name : List ℕ) (between after : Environment) (i e : ℕ) (ts : Trees) → BeginsWith i e ts →
      after ≡ between ++ (name, span_value i e) ∷ [] → BindsFirstTree name i e ts after
  bound_span name between after i e ts b bound =
      record {
        first = b.first;
        others = b.others;
        between = between;
        split = b.split;
        begin = b.begin;
        end = b.end;
        bound = bound ∙ (λ k. between ++ (name, span_value (sym b.begin k) (sym b.end k)) ∷ []);
      }

  pub of_label : {c : DeclKind} {name : List ℕ} {x : Symbol} {env after : Environment} {i e j : ℕ} {ts : Trees} {starts : List ℕ} →
      StandsWell (Label name x) → Derives g shapes text c (Label name x) env i e j ts after starts →
      BindsFirstTree name i e ts after
  of_label well (label c name x env between after i e j ts starts inner bound) =
      bound_span name between after i e ts (of_symbol (All-head IsPlaced (Label name x) (subterms x) well).1 (All-tail IsPlaced (Label name x) (subterms x) well) inner) bound
