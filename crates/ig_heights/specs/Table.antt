-- The rules of a forest.
use Rattle.std.specs.Prelude.{◌≡◌, ◌↔◌, ◌⊎◌, ℕ, suc, ◌+◌, ◌<◌, ◌≤◌, List, [], ◌∷◌, ◌++◌, Option, length, get_or, set, slice_get, Some, None, Contains}
use Rattle.ig_forest_tables.specs.Forest.{Forest, Node, ItemNode}
use Rattle.ig_forest_tables.specs.declared.entry.Choice.{Choice}
use Rattle.ig_forest_tables.specs.declared.entry.Entry.{Entry}
use Rattle.ig_forest_tables.specs.declared.entry.Entry.TheVariants.{Begin, Pass, Take}
use Rattle.ig_forest_tables.specs.declared.entry.Child.TheVariants as child
use Rattle.ig_heights.specs.declared.rule.Rule.{Rule}
use Rattle.ig_heights.specs.declared.rule.Table.{Table}

-- a node has its own number, an item node one behind those of the nodes
abbrev pub bottom_of : Forest → ℕ
bottom_of f = length f.nodes + length f.items

-- an entry has trees as its previous item and its child have
abbrev pub entry_rule : (nodes bottom k : ℕ) → Entry → Rule
entry_rule nodes bottom k Begin = record { target = nodes + k; left = bottom; right = bottom }
entry_rule nodes bottom k (Pass prev) = record { target = nodes + k; left = nodes + prev; right = bottom }
entry_rule nodes bottom k (Take prev (child.Leaf span)) =
    record { target = nodes + k; left = nodes + prev; right = bottom }
entry_rule nodes bottom k (Take prev (child.Node v)) = record { target = nodes + k; left = nodes + prev; right = v }

-- an alternative has trees as its item has
abbrev pub choice_rule : (nodes bottom v : ℕ) → Choice → Rule
choice_rule nodes bottom v choice = record { target = v; left = nodes + choice.item; right = bottom }

abbrev pub choices_in : Option Node → List Choice
choices_in None = []
choices_in (Some node) = node.alternatives

abbrev pub entries_in : Option ItemNode → List Entry
entries_in None = []
entries_in (Some it) = it.entries

-- the rule of an entry of one of the first `items` item nodes, or of an alternative of one of the first `nodes` nodes
pub data IsRuleOf (f : Forest) (nodes items : ℕ) (rule : Rule) : Type 0 where
  entry : (k : ℕ) (it : ItemNode) (e : Entry) → k < items → slice_get f.items k ≡ Some it → Contains it.entries e →
      rule ≡ entry_rule (length f.nodes) (bottom_of f) k e → IsRuleOf f nodes items rule
  choice : (v : ℕ) (node : Node) (c : Choice) → v < nodes → slice_get f.nodes v ≡ Some node →
      Contains node.alternatives c → rule ≡ choice_rule (length f.nodes) (bottom_of f) v c → IsRuleOf f nodes items rule

-- a rule for each entry and each alternative: a part has trees where one of its rules gives some
pub record IsLeastTable (f : Forest) (table : Table) : Type 0 where
  pub nodes : table.nodes ≡ length f.nodes
  pub bottom : table.bottom ≡ bottom_of f
  pub parts : table.parts ≡ suc table.bottom
  pub sound : (rule : Rule) → Contains table.rules.items rule → IsRuleOf f (length f.nodes) (length f.items) rule
  pub whole : (rule : Rule) → IsRuleOf f (length f.nodes) (length f.items) rule → Contains table.rules.items rule

-- a part all of whose links are rules: it needs each of the others
pub data Chain (rules : List Rule) (bottom : ℕ) : ℕ → List ℕ → Type 0 where
  empty : (c : ℕ) → c ≡ bottom → Chain rules bottom c []
  link : (c last part : ℕ) (others : List ℕ) → Contains rules record { target = c; left = last; right = part } →
      Chain rules bottom last others → Chain rules bottom c (part ∷ others)

-- one of the rules makes the part of this other one
pub record IsSource (rules : List Rule) (part source : ℕ) : Type 0 where
  pub rule : Rule
  pub among : Contains rules rule
  pub target : rule.target ≡ part
  pub is : (source ≡ rule.left) ⊎ (source ≡ rule.right)

-- the part needs just those with P, and the bottom
pub record NeedsAll (rules : List Rule) (bottom part : ℕ) (P : ℕ → Type 0) : Type 0 where
  pub needs : List ℕ
  pub chain : Chain rules bottom part needs
  pub all : (p : ℕ) → P p → Contains needs p
  pub only : (p : ℕ) → Contains needs p → (p ≡ bottom) ⊎ P p

-- one rule for each part but the bottom: a part below the bottom needs the sources of all its rules
pub record IsWholeTable (least whole : Table) : Type 0 where
  pub nodes : whole.nodes ≡ least.nodes
  pub bottom : whole.bottom ≡ least.bottom
  pub distinct : (i j : ℕ) (r s : Rule) → slice_get whole.rules.items i ≡ Some r →
      slice_get whole.rules.items j ≡ Some s → r.target ≡ s.target → i ≡ j
  pub none_free : (r : Rule) → Contains whole.rules.items r → r.target ≡ whole.bottom → ⊥
  pub needs : (part : ℕ) → part < least.bottom →
      NeedsAll whole.rules.items whole.bottom part (IsSource least.rules.items part)

-- the links while the first rules are gone through: link j makes part `fresh` + j, and `last` has the end of each chain
pub record AreLinks (bottom : ℕ) (rules links : List Rule) (last : List ℕ) : Type 0 where
  pub long : length last ≡ bottom
  pub targets : (j : ℕ) (r : Rule) → slice_get links j ≡ Some r → r.target ≡ suc bottom + j
  pub fits : (r : Rule) → Contains links r → (r.left < suc bottom + length links) × (r.right ≤ bottom)
  pub ends : (part : ℕ) → part < bottom → get_or last part 0 < suc bottom + length links
  pub needs : (part : ℕ) → part < bottom → NeedsAll links bottom (get_or last part 0) (IsSource rules part)

-- one link was added
pub record Links (bottom end part : ℕ) (before after : List Rule) (new : ℕ) : Type 0 where
  pub after_is : after ≡ before ++ record { target = new; left = end; right = part } ∷ []
  pub new_is : new ≡ suc bottom + length before

-- both sources of the rule were added to the chain of its target, which is below the bottom
pub data Linked (bottom : ℕ) (rule : Rule) (links : List Rule) (last : List ℕ) (more : List Rule) (ends : List ℕ) :
    Type 0 where
  skip : bottom ≤ rule.target → more ≡ links → ends ≡ last → Linked bottom rule links last more ends
  both : (middle new : ℕ) (half : List Rule) → rule.target < bottom →
      Links bottom (get_or last rule.target 0) rule.left links half middle →
      Links bottom middle rule.right half more new →
      ends ≡ set last rule.target new → Linked bottom rule links last more ends

-- the last rules of the first parts stand behind the links
pub record AreLasts (bottom : ℕ) (links whole : List Rule) (last : List ℕ) (parts : ℕ) : Type 0 where
  pub long : length whole ≡ length links + parts
  pub before : (j : ℕ) (r : Rule) → slice_get links j ≡ Some r → slice_get whole j ≡ Some r
  pub lasts : (j : ℕ) (r : Rule) → slice_get whole j ≡ Some r →
      slice_get links j ≡ Some r ⊎ ((q : ℕ) × (j ≡ length links + q) × (q < parts) ×
      (r ≡ record { target = q; left = get_or last q 0; right = bottom }))
  pub here : (q : ℕ) → q < parts → Contains whole record { target = q; left = get_or last q 0; right = bottom }

-- exactly those with P are added
abbrev pub Adds : List Rule → List Rule → (Rule → Type 0) → Type 0
Adds before after P = (r : Rule) → Contains after r ↔ (Contains before r ⊎ P r)

-- the rule of one of these, by the function
pub record IsRuleBy {X : Type 0} (make : X → Rule) (xs : List X) (rule : Rule) : Type 0 where
  pub one : X
  pub among : Contains xs one
  pub is : rule ≡ make one

abbrev pub choices_at : Forest → ℕ → List Choice
choices_at f v = choices_in (slice_get f.nodes v)

abbrev pub entries_at : Forest → ℕ → List Entry
entries_at f k = entries_in (slice_get f.items k)
