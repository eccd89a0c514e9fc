-- What a forest unfolds to: trees, each with its cursor.
use Rattle.std.specs.Prelude.{◌≡◌, ◌⊎◌, ℕ, zero, suc, ◌<◌, List, [], ◌∷◌, ◌++◌, length, Some, slice_get}
use Rattle.ig_text.specs.declared.text.Span.{Span}
use Rattle.ig_text.specs.Tree.{Tree, Trees, Leaf, Node, none, one, join}
use Rattle.ig_forest_tables.specs.Forest as forest
use Rattle.ig_forest_tables.specs.Forest.{Forest, ItemNode, IsForest, PreviousAreBefore}
use Rattle.ig_forest_tables.specs.declared.entry.Choice.{Choice}
use Rattle.ig_forest_tables.specs.declared.entry.Entry.TheVariants.{Begin, Pass, Take}
use Rattle.ig_forest_tables.specs.declared.entry.Child.TheVariants as child

-- what a cursor notes of a choice, numbered from 0, among so many: nothing where there is but one
abbrev pub noted : (many choice : ℕ) → List ℕ
noted zero i = []
noted (suc zero) i = []
noted (suc (suc n)) i = i ∷ []

-- a part of a forest: a node, an alternative of a node, or an entry of an item node
pub data Part : Type 0 where
  TheNode : (v : ℕ) → Part
  TheAlternative : (v i : ℕ) → Part
  TheEntry : (k i : ℕ) → Part

module _ (f : Forest) where
  mutual
    -- the trees of a node, to a depth, each with its cursor
    pub data OfNode : ℕ → ℕ → List ℕ → Tree → Type 0 where
      choose : (v d i : ℕ) (node : forest.Node) (choice : Choice) (bs cs : List ℕ) (ts : Trees) (t : Tree) →
          slice_get f.nodes v ≡ Some node → slice_get node.alternatives i ≡ Some choice → OfItem choice.item d bs ts →
          cs ≡ noted (length node.alternatives) i ++ bs → t ≡ Node choice.tag node.span.begin node.span.end ts →
          OfNode v (suc d) cs t

    -- the lists of trees of an item node, to a depth, each with its cursor: that of the previous item, then the child's
    pub data OfItem : ℕ → ℕ → List ℕ → Trees → Type 0 where
      begin : (k d i : ℕ) (it : ItemNode) (cs : List ℕ) → slice_get f.items k ≡ Some it →
          slice_get it.entries i ≡ Some Begin → cs ≡ noted (length it.entries) i → OfItem k d cs none
      pass : (k d i prev : ℕ) (it : ItemNode) (bs cs : List ℕ) (ts : Trees) → slice_get f.items k ≡ Some it →
          slice_get it.entries i ≡ Some (Pass prev) → OfItem prev d bs ts → cs ≡ noted (length it.entries) i ++ bs →
          OfItem k d cs ts
      leaf : (k d i prev : ℕ) (it : ItemNode) (span : Span) (bs cs : List ℕ) (ts us : Trees) →
          slice_get f.items k ≡ Some it → slice_get it.entries i ≡ Some (Take prev (child.Leaf span)) →
          OfItem prev d bs ts → cs ≡ noted (length it.entries) i ++ bs → us ≡ join ts (one (Leaf span.begin span.end)) →
          OfItem k d cs us
      node : (k d i prev v : ℕ) (it : ItemNode) (ps bs cs : List ℕ) (ts us : Trees) (t : Tree) →
          slice_get f.items k ≡ Some it → slice_get it.entries i ≡ Some (Take prev (child.Node v)) →
          OfItem prev d ps ts → OfNode v d bs t → cs ≡ noted (length it.entries) i ++ (ps ++ bs) →
          us ≡ join ts (one t) → OfItem k d cs us

  -- the trees of the root, to a depth, each with its cursor
  abbrev pub Unfold : ℕ → List ℕ → Tree → Type 0
  Unfold d cs t = OfNode f.root d cs t

  -- the tree is among those of the root, to a depth
  abbrev pub Unfolds : ℕ → Tree → Type 0
  Unfolds d t = (cs : List ℕ) × Unfold d cs t

  -- which parts a tree uses where the forest unfolds to it
  abbrev mutual
    pub node_uses : {v d : ℕ} {cs : List ℕ} {t : Tree} → OfNode v d cs t → Part → Type 0
    node_uses (choose v d i n choice bs cs ts t at among of_item c is) part =
        (part ≡ TheNode v) ⊎ ((part ≡ TheAlternative v i) ⊎ item_uses of_item part)

    pub item_uses : {k d : ℕ} {cs : List ℕ} {ts : Trees} → OfItem k d cs ts → Part → Type 0
    item_uses (begin k d i it cs at among c) part = part ≡ TheEntry k i
    item_uses (pass k d i prev it bs cs ts at among of_prev c) part = (part ≡ TheEntry k i) ⊎ item_uses of_prev part
    item_uses (leaf k d i prev it span bs cs ts us at among of_prev c is) part =
        (part ≡ TheEntry k i) ⊎ item_uses of_prev part
    item_uses (node k d i prev v it ps bs cs ts us t at among of_prev of_node c is) part =
        (part ≡ TheEntry k i) ⊎ (item_uses of_prev part ⊎ node_uses of_node part)

  -- some tree of the root uses the part
  pub record IsUsed (part : Part) : Type 0 where
    pub depth : ℕ
    pub cursor : List ℕ
    pub tree : Tree
    pub unfolds : Unfold depth cursor tree
    pub uses : node_uses unfolds part

  -- each node, alternative and entry is used, and each item node has an entry
  pub record HasNoDeadPart : Type 0 where
    pub nodes : (v : ℕ) → v < length f.nodes → IsUsed (TheNode v)
    pub alternatives : (v i : ℕ) (node : forest.Node) → slice_get f.nodes v ≡ Some node → i < length node.alternatives →
        IsUsed (TheAlternative v i)
    pub items : (k : ℕ) (it : ItemNode) → slice_get f.items k ≡ Some it → 0 < length it.entries
    pub entries : (k i : ℕ) (it : ItemNode) → slice_get f.items k ≡ Some it → i < length it.entries →
        IsUsed (TheEntry k i)

  -- each node and each item node has trees, to some depth
  pub record HasTrees : Type 0 where
    pub nodes : (v : ℕ) → v < length f.nodes → (d : ℕ) × (cs : List ℕ) × (t : Tree) × OfNode v d cs t
    pub items : (k : ℕ) → k < length f.items → (d : ℕ) × (cs : List ℕ) × (ts : Trees) × OfItem k d cs ts

-- what each forest of the program keeps to: it is a forest, no part of it is dead, and items come behind the previous ones
pub record IsTrim (f : Forest) : Type 0 where
  pub forest : IsForest f
  pub alive : HasNoDeadPart f
  pub onward : PreviousAreBefore f
