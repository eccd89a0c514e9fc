-- Environments grow at their end, by the names that symbols bind.
use Rattle.std.proofs.Common.{◌≡◌, ℕ, List, [], ◌∷◌, ◌++◌, refl, sym, ◌∙◌, ap}
use Rattle.std.specs.List.{flat_map}
use Rattle.std.proofs.lemmas.List.{append-nil, append_assoc, map-append}
use Rattle.ig_text.specs.Input.{Input}
use Rattle.ig_text.specs.Tree.{Tree, Trees}
use Rattle.ig_expr.specs.declared.value.Value.{Value}
use Rattle.ig_grammar.specs.Symbol.{Symbol, Symbols, no_symbols, next_symbol, listed}
use Rattle.ig_grammar.specs.Subterms.{bound_names, names_bound_by}
use Rattle.ig_meaning.specs.Environment.{Environment}
use Rattle.ig_meaning.specs.Derivation.{span_value, Covers, Derives, Lists, Items}
use Rattle.ig_meaning.specs.Derivation.{empty, symbol, literal, one_of, token, call, label, guard, let_be, absent, present, star, plus, sep_star, sep_plus, group, offside, ignore, align, filtered, sequence, entry}
use Rattle.ig_meaning.specs.Derivation.{nil, snoc, one_item, more_items, first_item, further_item, no_item, some_items, bare, with_filters}
use Rattle.ig_meaning.specs.Laws.{GrowsBy, EnvironmentsGrow}
use Rattle.ig_grammar.specs.declared.declaration.DeclKind.{DeclKind}
use Rattle.ig_grammar.specs.declared.grammar.Grammar.{Grammar}
use Rattle.ig_grammar.specs.declared.place.Shape.{Shape}

pub still : (env : Environment) → GrowsBy [] env env
still env = record { more = []; grown = sym (append-nil env); named = refl }

pub by_one : (name : List ℕ) (v : Value) (env after : Environment) → after ≡ env ++ (name, v) ∷ [] → GrowsBy (name ∷ []) env after
by_one name v env after e = record { more = (name, v) ∷ []; grown = e; named = refl }

pub onward : (some others : List (List ℕ)) (env between after : Environment) → GrowsBy some env between → GrowsBy others between after →
    GrowsBy (some ++ others) env after
onward some others env between after p q =
    record {
      more = p.more ++ q.more;
      grown = q.grown ∙ ap (λ z. z ++ q.more) p.grown ∙ append_assoc env p.more q.more;
      named = map-append (λ pair. pair.0) p.more q.more ∙ (λ k. p.named k ++ q.named k);
    }

pub same_names : (xs : Symbols) → flat_map bound_names (listed xs) ≡ names_bound_by xs
same_names no_symbols = refl
same_names (next_symbol x xs) = ap (λ z. bound_names x ++ z) (same_names xs)

module _ (g : Grammar) (shapes : List Shape) (text : Input) where
  of_list : {c : DeclKind} {x : Symbol} {env : Environment} {i j : ℕ} {t : Tree} {starts items : List ℕ} →
      Lists g shapes text c x env i j t starts items → GrowsBy (bound_names x) env env
  of_list (nil c x env i) = still env
  of_list (snoc c x env after i h e j t ts ks ls starts ps items list item exposes begins) = still env
  of_list (one_item c x env after i e j ts starts item) = still env
  of_list (more_items c x env after i h e j t ts ks ls starts ps items list item exposes begins) = still env
  of_list (first_item c x separator env after i e j ts starts item) = still env
  of_list (further_item c x separator env between after i h f m e j t us ts vs ks ms ls starts ps items list part item trees exposes begins) =
      still env
  of_list (no_item c x separator env i) = still env
  of_list (some_items c x separator env i j t starts items list) = still env

  of_items : {c : DeclKind} {x : Symbol} {env after : Environment} {i e j : ℕ} {ts : Trees} {starts items : List ℕ} →
      Items g shapes text c x env i e j ts after starts items → GrowsBy (bound_names x) env after
  of_items (bare c x env i j t starts items list) = of_list list
  of_items (with_filters c x filters env after i e j ts starts items inner passes) = of_items inner

  mutual
    covers_grow : {c : DeclKind} {xs : List Symbol} {env after : Environment} {i j : ℕ} {vs : Trees} {starts : List ℕ} →
        Covers g shapes text c xs env i j vs after starts → GrowsBy (flat_map bound_names xs) env after
    covers_grow (empty c env i) = still env
    covers_grow (symbol c x others env between after i e h j ts us vs ks ls starts first rest trees exposes) =
        onward (bound_names x) (flat_map bound_names others) env between after (derives_grow first) (covers_grow rest)

    derives_grow : {c : DeclKind} {x : Symbol} {env after : Environment} {i e j : ℕ} {ts : Trees} {starts : List ℕ} →
        Derives g shapes text c x env i e j ts after starts → GrowsBy (bound_names x) env after
    derives_grow (literal c word env i e j us ts starts spells trails trees exposes) = still env
    derives_grow (one_of c class env i e j us ts starts among trails trees exposes) = still env
    derives_grow (token c name arguments vs env i e j t us ts ks starts have instance trails trees exposes) = still env
    derives_grow (call c kind name arguments vs env i j t starts have instance other) = still env
    derives_grow (label c name x env between after i e j ts starts inner bound) =
        onward (bound_names x) (name ∷ []) env between after (derives_grow inner) (by_one name (span_value i e) between after bound)
    derives_grow (guard c condition env i holds) = still env
    derives_grow (let_be c name expression v env after i has bound) = by_one name v env after bound
    derives_grow (absent c x env i) = still env
    derives_grow (present c x env between i e j ts starts inner) = still env
    derives_grow (star c x env i j t starts items list) = still env
    derives_grow (plus c x env i j t starts items list) = still env
    derives_grow (sep_star c x separator env i j t starts items list) = still env
    derives_grow (sep_plus c x separator env i j t starts items list) = still env
    derives_grow (group c choices k xs env between i j ts starts chosen inner) = still env
    derives_grow (offside c x env after i e j ts starts inner right) = derives_grow inner
    derives_grow (ignore c x env after i e j ts starts inner) = derives_grow inner
    derives_grow (align c x env after i e j ts starts items inner column) = of_items inner
    derives_grow (filtered c x filters env after i e j ts starts inner passes) = derives_grow inner
    derives_grow (sequence c xs env after i j ts starts inner) =
        let g = covers_grow inner in record { more = g.more; grown = g.grown; named = g.named ∙ same_names xs }
    derives_grow (entry c bindings x vs env inside after i e j ts starts have renewed inner) = still env

pub grow : EnvironmentsGrow
grow g shapes text = record { covers = covers_grow g shapes text; derives = derives_grow g shapes text }
