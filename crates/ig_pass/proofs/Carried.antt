-- What is derived in one grammar is derived in another that has the called declarations, unchanged and in their places.
use Rattle.std.proofs.Common.{◌≡◌, ◌∙◌, ℕ, List, Some, sym}
use Rattle.ig_text.specs.Input.{Input}
use Rattle.ig_text.specs.Tree.{Tree, Trees}
use Rattle.ig_expr.specs.declared.value.Value.{Value}
use Rattle.ig_grammar.specs.Symbol.{Symbol}
use Rattle.ig_grammar.specs.Numbering.{Levelled, Declares, IsAlternative, layout_among}
use Rattle.ig_grammar.specs.declared.declaration.DeclKind.{DeclKind}
use Rattle.ig_grammar.specs.declared.declaration.Decl.{Decl}
use Rattle.ig_grammar.specs.declared.grammar.Grammar.{Grammar}
use Rattle.ig_grammar.specs.declared.place.Shape.{Shape}
use Rattle.ig_meaning.specs.Environment.{Environment}
use Rattle.ig_meaning.specs.Derivation.{Covers, Derives, Lists, Items, Instance, Trails}
use Rattle.ig_meaning.specs.Derivation.{empty, symbol, literal, one_of, token, call, label, guard, let_be, absent, present, star, plus, sep_star, sep_plus, group, offside, ignore, align, filtered, sequence, entry}
use Rattle.ig_meaning.specs.Derivation.{nil, snoc, one_item, more_items, first_item, further_item, no_item, some_items, bare, with_filters, alternative, layout, no_layout, outside}
use Rattle.ig_pass.proofs.CallsOnly.{CallsOnly, EachCallsOnly, each_listed, chosen}

module _ (g : Grammar) (shapes : List Shape) (other : Grammar) (forms : List Shape) (text : Input) (Named : List ℕ → Type 0)
    (moves : (name : List ℕ) (d : ℕ) (decl : Decl) (s : Shape) → Named name → Declares g shapes name d decl s → Declares other forms name d decl s)
    (calls : (name : List ℕ) (d : ℕ) (decl : Decl) (s : Shape) (k : ℕ) (a : Levelled) → Named name → Declares g shapes name d decl s →
    IsAlternative decl k a → EachCallsOnly Named a.alternative.symbols)
    (same_layout : layout_among g.decls ≡ layout_among other.decls)
    (layout_named : (name : List ℕ) → layout_among g.decls ≡ Some name → Named name) where
  mutual
    pub covers_too : {c : DeclKind} {xs : List Symbol} {env after : Environment} {i j : ℕ} {vs : Trees} {starts : List ℕ} →
        EachCallsOnly Named xs → Covers g shapes text c xs env i j vs after starts → Covers other forms text c xs env i j vs after starts
    covers_too n (empty c env i) = empty c env i
    covers_too n (symbol c x others env between after i e h j ts us vs ks ls starts first rest trees exposes) =
        symbol c x others env between after i e h j ts us vs ks ls starts (derives_too n.0 first) (covers_too n.1 rest) trees exposes

    pub derives_too : {c : DeclKind} {x : Symbol} {env after : Environment} {i e j : ℕ} {ts : Trees} {starts : List ℕ} →
        CallsOnly Named x → Derives g shapes text c x env i e j ts after starts → Derives other forms text c x env i e j ts after starts
    derives_too n (literal c word env i e j us ts starts spells trails trees exposes) =
        literal c word env i e j us ts starts spells (trails_too trails) trees exposes
    derives_too n (one_of c class env i e j us ts starts among trails trees exposes) =
        one_of c class env i e j us ts starts among (trails_too trails) trees exposes
    derives_too n (token c name arguments vs env i e j t us ts ks starts have instance trails trees exposes) =
        token c name arguments vs env i e j t us ts ks starts have (instance_too n instance) (trails_too trails) trees exposes
    derives_too n (call c kind name arguments vs env i j t starts have instance apart) =
        call c kind name arguments vs env i j t starts have (instance_too n instance) apart
    derives_too n (label c name x env between after i e j ts starts inner bound) =
        label c name x env between after i e j ts starts (derives_too n inner) bound
    derives_too n (guard c condition env i holds) = guard c condition env i holds
    derives_too n (let_be c name expression v env after i has bound) = let_be c name expression v env after i has bound
    derives_too n (absent c x env i) = absent c x env i
    derives_too n (present c x env between i e j ts starts inner) = present c x env between i e j ts starts (derives_too n inner)
    derives_too n (star c x env i j t starts items list) = star c x env i j t starts items (lists_too n list)
    derives_too n (plus c x env i j t starts items list) = plus c x env i j t starts items (lists_too n list)
    derives_too n (sep_star c x separator env i j t starts items list) = sep_star c x separator env i j t starts items (lists_too n list)
    derives_too n (sep_plus c x separator env i j t starts items list) = sep_plus c x separator env i j t starts items (lists_too n list)
    derives_too n (group c choices k xs env between i j ts starts choice inner) =
        group c choices k xs env between i j ts starts choice (covers_too (each_listed Named xs (chosen Named choices k xs choice n)) inner)
    derives_too n (offside c x env after i e j ts starts inner right) = offside c x env after i e j ts starts (derives_too n inner) right
    derives_too n (ignore c x env after i e j ts starts inner) = ignore c x env after i e j ts starts (derives_too n inner)
    derives_too n (align c x env after i e j ts starts items inner column) =
        align c x env after i e j ts starts items (items_too n inner) column
    derives_too n (filtered c x filters env after i e j ts starts inner passes) =
        filtered c x filters env after i e j ts starts (derives_too n inner) passes
    derives_too n (sequence c xs env after i j ts starts inner) =
        sequence c xs env after i j ts starts (covers_too (each_listed Named xs n) inner)
    derives_too n (entry c bindings x vs env inside after i e j ts starts have renewed inner) =
        entry c bindings x vs env inside after i e j ts starts have renewed (derives_too n inner)

    pub lists_too : {c : DeclKind} {x : Symbol} {env : Environment} {i j : ℕ} {t : Tree} {starts items : List ℕ} →
        CallsOnly Named x → Lists g shapes text c x env i j t starts items → Lists other forms text c x env i j t starts items
    lists_too n (nil c x env i) = nil c x env i
    lists_too n (snoc c x env after i h e j t ts ks ls starts ps items list item exposes begins) =
        snoc c x env after i h e j t ts ks ls starts ps items (lists_too n list) (derives_too n item) exposes begins
    lists_too n (one_item c x env after i e j ts starts item) = one_item c x env after i e j ts starts (derives_too n item)
    lists_too n (more_items c x env after i h e j t ts ks ls starts ps items list item exposes begins) =
        more_items c x env after i h e j t ts ks ls starts ps items (lists_too n list) (derives_too n item) exposes begins
    lists_too n (first_item c x separator env after i e j ts starts item) =
        first_item c x separator env after i e j ts starts (derives_too n.0 item)
    lists_too n (further_item c x separator env between after i h f m e j t us ts vs ks ms ls starts ps items list part item trees exposes begins) =
        further_item c x separator env between after i h f m e j t us ts vs ks ms ls starts ps items
        (lists_too n list) (derives_too n.1 part) (derives_too n.0 item) trees exposes begins
    lists_too n (no_item c x separator env i) = no_item c x separator env i
    lists_too n (some_items c x separator env i j t starts items list) =
        some_items c x separator env i j t starts items (lists_too n list)

    pub items_too : {c : DeclKind} {x : Symbol} {env after : Environment} {i e j : ℕ} {ts : Trees} {starts items : List ℕ} →
        CallsOnly Named x → Items g shapes text c x env i e j ts after starts items → Items other forms text c x env i e j ts after starts items
    items_too n (bare c x env i j t starts items list) = bare c x env i j t starts items (lists_too n list)
    items_too n (with_filters c x filters env after i e j ts starts items inner passes) =
        with_filters c x filters env after i e j ts starts items (items_too n inner) passes

    pub instance_too : {name : List ℕ} {vs : List Value} {kind : DeclKind} {i e : ℕ} {t : Tree} {starts : List ℕ} →
        Named name → Instance g shapes text name vs kind i e t starts → Instance other forms text name vs kind i e t starts
    instance_too n (alternative name vs kind d k decl shape a env after i e ts t starts declares numbered bound same covers tree) =
        alternative name vs kind d k decl shape a env after i e ts t starts (moves name d decl shape n declares) numbered bound same
        (covers_too (calls name d decl shape k a n declares numbered) covers) tree

    pub trails_too : {c : DeclKind} {e j : ℕ} {ts : Trees} → Trails g shapes text c e j ts → Trails other forms text c e j ts
    trails_too (layout name kind e j t starts declared instance) =
        layout name kind e j t starts (sym same_layout ∙ declared) (instance_too (layout_named name declared) instance)
    trails_too (no_layout e undeclared) = no_layout e (sym same_layout ∙ undeclared)
    trails_too (outside c e apart) = outside c e apart
