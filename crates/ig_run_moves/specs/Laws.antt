-- What comes of items, and what stored ones stand for.
use Rattle.std.specs.Prelude.{◌≡◌, ◌↔◌, ℕ, ◌<◌, List, length, Option, Some, None, slice_get}
use Rattle.ig_text.specs.Input.{Input}
use Rattle.ig_text.specs.declared.pattern.Pattern.{Pattern}
use Rattle.ig_expr.specs.Expression.{Expression}
use Rattle.ig_expr.specs.declared.value.Value.{Value}
use Rattle.ig_item.specs.Step.{Step, Test, Bind, Term, Call}
use Rattle.ig_item.specs.Items.{Item, Calls, IsComplete, Reachable, StandsBefore, first}
use Rattle.ig_item.specs.Tables.{instance_by, item_of, tables_by, HaveValues}
use Rattle.ig_item.specs.WellKinded.{NoneTwice, IsWellKinded}
use Rattle.ig_item.specs.declared.core_grammar.Nonterminal.{Nonterminal}
use Rattle.ig_item.specs.declared.items.Instance.{Instance}
use Rattle.ig_item.specs.declared.items.InstanceKey.{InstanceKey}
use Rattle.ig_item.specs.declared.items.Item as stored
use Rattle.ig_run_tables.specs.Extends.{Extends}
use Rattle.ig_run_moves.specs.Rules.{step_at, Stands, IsBehindTest, IsBehindBind, IsBehind, IsCallBy, Comes, NoItem, NoCall}
use Rattle.ig_run_moves.specs.Tables.{IsNamed, item_by, first_stored}

-- an item stands before the step that is looked up
abbrev pub StepsAreBehind : Type 0
StepsAreBehind =
    (core : List Nonterminal) (it : Item) (step : Step) →
    Stands core it step ↔ (step_at core it.instance.nonterminal it.alternative it.dot ≡ Some step)

-- a reachable item is complete exactly where there is no step behind its dot
abbrev pub EndsAreComplete : Type 0
EndsAreComplete =
    (core : List Nonterminal) (text : Input) (it : Item) → IsWellKinded core → Reachable core text it →
    IsComplete core it ↔ (step_at core it.instance.nonterminal it.alternative it.dot ≡ None)

-- what is called, with which label and which excluded patterns
pub record SameCall (i j : Instance) (l m : Option (List ℕ)) (e f : List Pattern) : Type 0 where
  pub callee : i ≡ j
  pub label : l ≡ m
  pub excluded : e ≡ f

-- an item calls one instance
abbrev pub CallsAreOne : Type 0
CallsAreOne =
    (core : List Nonterminal) (text : Input) (it : Item) (one other : Instance) (label second : Option (List ℕ))
    (excluded others : List Pattern) → Calls core text it one label excluded → Calls core text it other second others →
    SameCall one other label second excluded others

-- before a test an item passes to what is behind it, and nothing else comes of it
abbrev pub BeforeTests : Type 0
BeforeTests =
    (core : List Nonterminal) (text : Input) (it : Item) (names : List (List ℕ)) (e : Expression) →
    StandsBefore core it names (Test e) → Comes core text it (IsBehindTest text names e it) NoItem NoCall ⊥

-- before a bind, too
abbrev pub BeforeBinds : Type 0
BeforeBinds =
    (core : List Nonterminal) (text : Input) (it : Item) (names : List (List ℕ)) (name : List ℕ) (e : Expression) →
    StandsBefore core it names (Bind name e) → Comes core text it (IsBehindBind text names e it) NoItem NoCall ⊥

-- before a terminal it reads to what is behind it
abbrev pub BeforeTerminals : Type 0
BeforeTerminals =
    (core : List Nonterminal) (text : Input) (it : Item) (names : List (List ℕ)) (what : Pattern) (label : Option (List ℕ))
    (excluded : List Pattern) → StandsBefore core it names (Term what label excluded) →
    Comes core text it NoItem (IsBehind text what label excluded it) NoCall ⊥

-- before a call it calls what the arguments make
abbrev pub BeforeCalls : Type 0
BeforeCalls =
    (core : List Nonterminal) (text : Input) (it : Item) (names : List (List ℕ)) (callee : ℕ) (arguments : List Expression)
    (label : Option (List ℕ)) (excluded : List Pattern) → StandsBefore core it names (Call callee arguments label excluded) →
    Comes core text it NoItem NoItem (IsCallBy text names callee arguments label excluded it) ⊥

-- nothing comes of a complete item alone
abbrev pub CompleteItemsEnd : Type 0
CompleteItemsEnd =
    (core : List Nonterminal) (text : Input) (it : Item) → IsComplete core it →
    Comes core text it NoItem NoItem NoCall (IsComplete core it)

-- a stored item is named, and stands for the same
pub record StaysNamed (before after : List (List Value)) (keys more : List InstanceKey) (x : stored.Item) : Type 0 where
  pub named : IsNamed after more x
  pub same : item_by after more x ≡ item_by before keys x

-- a named item stays named as tables grow, and stands for the same
abbrev pub NamesAreKept : Type 0
NamesAreKept =
    (before after : List (List Value)) (keys more : List InstanceKey) (x : stored.Item) → Extends before after → Extends keys more →
    HaveValues before keys → IsNamed before keys x → StaysNamed before after keys more x

-- the values of a key are there, and it stands for the same instance
pub record StaysInstance (before after : List (List Value)) (key : InstanceKey) : Type 0 where
  pub there : key.env < length after
  pub same : instance_by after key ≡ instance_by before key

-- a key stands for the same instance as environments are added
abbrev pub InstancesAreKept : Type 0
InstancesAreKept =
    (before after : List (List Value)) (key : InstanceKey) → Extends before after → key.env < length before →
    StaysInstance before after key

-- where no environment stands twice, keys that stand for one instance are one
abbrev pub InstancesAreOne : Type 0
InstancesAreOne =
    (envs : List (List Value)) (x y : InstanceKey) → NoneTwice envs → x.env < length envs → y.env < length envs →
    instance_by envs x ≡ instance_by envs y → x ≡ y

-- where no environment and no key stands twice, named items that stand for one item are one
abbrev pub ItemsAreOne : Type 0
ItemsAreOne =
    (envs : List (List Value)) (keys : List InstanceKey) (x y : stored.Item) → NoneTwice envs → NoneTwice keys →
    HaveValues envs keys → IsNamed envs keys x → IsNamed envs keys y → item_by envs keys x ≡ item_by envs keys y → x ≡ y

-- the stored first item is named, and stands for the first item
pub record IsFirstNamed (envs : List (List Value)) (keys : List InstanceKey) (instance : ℕ) (key : InstanceKey) (a : ℕ) : Type 0 where
  pub named : IsNamed envs keys (first_stored instance key a)
  pub is : item_by envs keys (first_stored instance key a) ≡ first (instance_by envs key) a

-- the first items of an instance in the table are named
abbrev pub FirstsAreNamed : Type 0
FirstsAreNamed =
    (envs : List (List Value)) (keys : List InstanceKey) (instance : ℕ) (key : InstanceKey) (a : ℕ) → key.env < length envs →
    slice_get keys instance ≡ Some key → IsFirstNamed envs keys instance key a

-- a named item is what tables of these keys, environments and items tell
abbrev pub NamedItemsAreOfTables : Type 0
NamedItemsAreOfTables =
    (envs : List (List Value)) (keys : List InstanceKey) (items : List stored.Item) (x : stored.Item) → IsNamed envs keys x →
    item_of (tables_by keys envs items) x ≡ item_by envs keys x
