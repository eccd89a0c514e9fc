-- What a derivation covers is in order, and stays within the text.
use Rattle.std.proofs.Common.{◌≡◌, ℕ, ◌+◌, ◌<◌, List, length, arith}
use Rattle.std.proofs.lemmas.Option.{slice_get_within}
use Rattle.ig_text.specs.Input.{Input}
use Rattle.ig_text.specs.Tree.{Tree, Trees}
use Rattle.ig_text.specs.Place.{Spells}
use Rattle.ig_text.specs.Pattern.{IsOneOf}
use Rattle.ig_text.specs.declared.class.Class.{Class}
use Rattle.ig_expr.specs.declared.value.Value.{Value}
use Rattle.ig_grammar.specs.Symbol.{Symbol}
use Rattle.ig_meaning.specs.Environment.{Environment}
use Rattle.ig_meaning.specs.Derivation.{Covers, Derives, Lists, Items, Instance, Trails}
use Rattle.ig_meaning.specs.Derivation.{empty, symbol, literal, one_of, token, call, label, guard, let_be, absent, present, star, plus, sep_star, sep_plus, group, offside, ignore, align, filtered, sequence, entry}
use Rattle.ig_meaning.specs.Derivation.{nil, snoc, one_item, more_items, first_item, further_item, no_item, some_items, bare, with_filters, alternative, layout, no_layout, outside}
use Rattle.ig_meaning.specs.Laws.{IsInOrder, SpansAreInOrder}
use Rattle.ig_grammar.specs.declared.declaration.DeclKind.{DeclKind}
use Rattle.ig_grammar.specs.declared.grammar.Grammar.{Grammar}
use Rattle.ig_grammar.specs.declared.place.Shape.{Shape}

still : (n i : ℕ) → IsInOrder n i i i
still n i = record { begins = omega arith; ends = omega arith; within = λ h. h }

whole : (n i e j : ℕ) → IsInOrder n i e j → IsInOrder n i j j
whole n i e j a = record { begins = omega (arith, a.begins, a.ends); ends = omega arith; within = a.within }

joined : (n i e h j : ℕ) → IsInOrder n i e h → IsInOrder n h j j → IsInOrder n i j j
joined n i e h j a b =
    record { begins = omega (arith, a.begins, a.ends, b.begins); ends = omega arith; within = λ l. b.within (a.within l) }

trailed : (n i e j : ℕ) → IsInOrder n i e e → IsInOrder n e j j → IsInOrder n i e j
trailed n i e j a b = record { begins = a.begins; ends = b.begins; within = λ l. b.within (a.within l) }

spelled : (text : Input) (word : List ℕ) (i e : ℕ) → Spells text word i e → IsInOrder (length text.characters) i e e
spelled text word i e s = record { begins = s.onward; ends = omega arith; within = λ l. s.within }

member : (text : Input) (class : Class) (i e : ℕ) → IsOneOf text class i e → IsInOrder (length text.characters) i e e
member text class i e m =
    let here : i < length text.characters = slice_get_within text.characters i m.character m.there in
    let next : e ≡ i + 1 = m.next in
    record { begins = omega (arith, next); ends = omega arith; within = λ l. omega (arith, next, here) }

module _ (g : Grammar) (shapes : List Shape) (text : Input) where
  abbrev n : ℕ
  n = length text.characters

  mutual
    pub covers_in_order : {c : DeclKind} {xs : List Symbol} {env after : Environment} {i j : ℕ} {vs : Trees} {starts : List ℕ} →
        Covers g shapes text c xs env i j vs after starts → IsInOrder (length text.characters) i j j
    covers_in_order (empty c env i) = still n i
    covers_in_order (symbol c x others env between after i e h j ts us vs ks ls starts first rest trees exposes) =
        joined n i e h j (derives_in_order first) (covers_in_order rest)

    pub derives_in_order : {c : DeclKind} {x : Symbol} {env after : Environment} {i e j : ℕ} {ts : Trees} {starts : List ℕ} →
        Derives g shapes text c x env i e j ts after starts → IsInOrder (length text.characters) i e j
    derives_in_order (literal c word env i e j us ts starts spells trails trees exposes) =
        trailed n i e j (spelled text word i e spells) (trails_in_order trails)
    derives_in_order (one_of c class env i e j us ts starts among trails trees exposes) =
        trailed n i e j (member text class i e among) (trails_in_order trails)
    derives_in_order (token c name arguments vs env i e j t us ts ks starts have instance trails trees exposes) =
        trailed n i e j (instance_in_order instance) (trails_in_order trails)
    derives_in_order (call c kind name arguments vs env i j t starts have instance other) = instance_in_order instance
    derives_in_order (label c name x env between after i e j ts starts inner bound) = derives_in_order inner
    derives_in_order (guard c condition env i holds) = still n i
    derives_in_order (let_be c name expression v env after i has bound) = still n i
    derives_in_order (absent c x env i) = still n i
    derives_in_order (present c x env between i e j ts starts inner) = whole n i e j (derives_in_order inner)
    derives_in_order (star c x env i j t starts items list) = lists_in_order list
    derives_in_order (plus c x env i j t starts items list) = lists_in_order list
    derives_in_order (sep_star c x separator env i j t starts items list) = lists_in_order list
    derives_in_order (sep_plus c x separator env i j t starts items list) = lists_in_order list
    derives_in_order (group c choices k xs env between i j ts starts chosen inner) = covers_in_order inner
    derives_in_order (offside c x env after i e j ts starts inner right) = derives_in_order inner
    derives_in_order (ignore c x env after i e j ts starts inner) = derives_in_order inner
    derives_in_order (align c x env after i e j ts starts items inner column) = items_in_order inner
    derives_in_order (filtered c x filters env after i e j ts starts inner passes) = derives_in_order inner
    derives_in_order (sequence c xs env after i j ts starts inner) = covers_in_order inner
    derives_in_order (entry c bindings x vs env inside after i e j ts starts have renewed inner) =
        whole n i e j (derives_in_order inner)

    pub lists_in_order : {c : DeclKind} {x : Symbol} {env : Environment} {i j : ℕ} {t : Tree} {starts items : List ℕ} →
        Lists g shapes text c x env i j t starts items → IsInOrder (length text.characters) i j j
    lists_in_order (nil c x env i) = still n i
    lists_in_order (snoc c x env after i h e j t ts ks ls starts ps items list item exposes begins) =
        joined n i h h j (lists_in_order list) (whole n h e j (derives_in_order item))
    lists_in_order (one_item c x env after i e j ts starts item) = whole n i e j (derives_in_order item)
    lists_in_order (more_items c x env after i h e j t ts ks ls starts ps items list item exposes begins) =
        joined n i h h j (lists_in_order list) (whole n h e j (derives_in_order item))
    lists_in_order (first_item c x separator env after i e j ts starts item) = whole n i e j (derives_in_order item)
    lists_in_order (further_item c x separator env between after i h f m e j t us ts vs ks ms ls starts ps items list part item trees exposes begins) =
        joined n i h h j (lists_in_order list) (joined n h f m j (derives_in_order part) (whole n m e j (derives_in_order item)))
    lists_in_order (no_item c x separator env i) = still n i
    lists_in_order (some_items c x separator env i j t starts items list) = lists_in_order list

    pub items_in_order : {c : DeclKind} {x : Symbol} {env after : Environment} {i e j : ℕ} {ts : Trees} {starts items : List ℕ} →
        Items g shapes text c x env i e j ts after starts items → IsInOrder (length text.characters) i e j
    items_in_order (bare c x env i j t starts items list) = lists_in_order list
    items_in_order (with_filters c x filters env after i e j ts starts items inner passes) = items_in_order inner

    pub instance_in_order : {name : List ℕ} {vs : List Value} {kind : DeclKind} {i e : ℕ} {t : Tree} {starts : List ℕ} →
        Instance g shapes text name vs kind i e t starts → IsInOrder (length text.characters) i e e
    instance_in_order (alternative name vs kind d k decl shape a env after i e ts t starts declares numbered bound same covers tree) =
        covers_in_order covers

    pub trails_in_order : {c : DeclKind} {e j : ℕ} {ts : Trees} → Trails g shapes text c e j ts → IsInOrder (length text.characters) e j j
    trails_in_order (layout name kind e j t starts declared instance) = instance_in_order instance
    trails_in_order (no_layout e undeclared) = still n e
    trails_in_order (outside c e other) = still n e

pub in_order : SpansAreInOrder
in_order g shapes text =
    record {
      covers = covers_in_order g shapes text;
      derives = derives_in_order g shapes text;
      lists = lists_in_order g shapes text;
      items = items_in_order g shapes text;
      instance = instance_in_order g shapes text;
      trails = trails_in_order g shapes text;
    }
