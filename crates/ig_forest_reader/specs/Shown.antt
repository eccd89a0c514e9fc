-- What the functions of the reader promise one another; who reads the law and the contract of the reader need not read it.
use Rattle.std.specs.Prelude.{◌≡◌, ℕ, ◌<◌, List, [], ◌∷◌, ◌++◌, Option, Some, Ok, Err, Result, length, codes, encode_utf8_all, slice_get}
use Rattle.std.specs.List.{AllByRecursion}
use Rattle.std.specs.Fmt.{decimal}
use Rattle.std.specs.Cmp.Lexicographic.{slice_cmp}
use Rattle.std.specs.Ordering.{nat_cmp}
use Rattle.std.specs.BTreeMap.{BTreeMap, get_by}
use denote.Ref.{Bor}
use Rattle.ig_text.specs.Limits.{numbers_end}
use Rattle.ig_text.specs.Pairwise.{Each}
use Rattle.ig_text.specs.declared.tag.Tag.{Tag}
use Rattle.ig_expr.specs.declared.value.Value.{Value}
use Rattle.ig_item.specs.Core.{IsAlternative}
use Rattle.ig_item.specs.declared.core_grammar.Nonterminal.{Nonterminal}
use Rattle.ig_item.specs.declared.core_grammar.CoreAlt.{CoreAlt}
use Rattle.ig_show_texts.specs.Listed.{comma_separated, numbered_texts}
use Rattle.ig_show_texts.specs.ValueText.{places_text, value_text}
use Rattle.ig_forest_tables.specs.Forest.{Forest, Node, ItemNode}
use Rattle.ig_forest_tables.specs.StoredNodes.{StoredNode}
use Rattle.ig_forest_tables.specs.StoredItems.{StoredItem}
use Rattle.ig_forest_tables.specs.declared.node_rows.NodeRow.{NodeRow}
use Rattle.ig_forest_live.specs.declared.rows.ItemRow.{ItemRow}
use Rattle.ig_show_texts.specs.ForestText.{forest_text, head_text, item_line, item_text, node_line, node_text}
use Rattle.ig_forest_reader.specs.Runs.{Stops, IsChoice, NoItem}
use Rattle.ig_forest_reader.specs.Written.{HasFirstRoot, IsDraftOf, IsSmall, IsSmallTag, IsNamed, IsNodeOf, IsItemOf}
use Rattle.ig_forest_reader.specs.declared.fault.ForestFault.{ForestFault}
use Rattle.ig_forest_reader.specs.declared.names.NameTable.{NameTable}
use Rattle.ig_forest_reader.specs.declared.fault.ForestFault.TheVariants.{NotAForest, Memory}

-- what was read; where nothing was, that nothing could be, or want of memory
abbrev pub Reads : {A : Type 0} → (A → Type 0) → Type 0 → Result A ForestFault → Type 0
Reads P none (Ok x) = P x
Reads P none (Err NotAForest) = none
Reads P none (Err Memory) = Unit {0}

-- members with the property were added at the end, whose texts stand before the rest
pub record Added {A : Type 0} (P : A → Type 0) (texts : List A → List ℕ) (bytes rest : List ℕ) (old new : List A) : Type 0 where
  pub members : List A
  pub have : AllByRecursion P members
  pub is : new ≡ old ++ members
  pub spelled : bytes ≡ texts members ++ rest

-- what is in a list stays there
abbrev pub Keeps : {A : Type 0} → List A → List A → Type 0
Keeps {A} old new = (k : ℕ) (x : A) → slice_get old k ≡ Some x → slice_get new k ≡ Some x

-- the number at these bytes
abbrev pub number_at : BTreeMap (Bor (List ℕ)) ℕ → List ℕ → Option ℕ
number_at numbers bytes = get_by (λ k. slice_cmp nat_cmp bytes k.now) numbers

-- the numbers are found by the names of the core grammar, and are of nonterminals alone
pub record FindsNames (core : List Nonterminal) (numbers : BTreeMap (Bor (List ℕ)) ℕ) : Type 0 where
  pub finds : (n : ℕ) (nonterminal : Nonterminal) → slice_get core n ≡ Some nonterminal →
      number_at numbers (encode_utf8_all nonterminal.name) ≡ Some n
  pub there : (bytes : List ℕ) (n : ℕ) → number_at numbers bytes ≡ Some n → n < length core
  pub names : (bytes : List ℕ) (n : ℕ) (nonterminal : Nonterminal) → number_at numbers bytes ≡ Some n →
      slice_get core n ≡ Some nonterminal → bytes ≡ encode_utf8_all nonterminal.name

-- what the table has at these bytes
abbrev pub lookup : NameTable → List ℕ → Option ℕ
lookup index bytes = number_at index.numbers bytes

-- the table is one of the core grammar
pub record IsIndex (core : List Nonterminal) (index : NameTable) : Type 0 where
  pub same : index.nonterminals.now ≡ core
  pub numbers : FindsNames core index.numbers

-- some alternative of the nonterminal has the tag
pub record HasTag (core : List Nonterminal) (n : ℕ) (tag : Tag) : Type 0 where
  pub a : ℕ
  pub nonterminal : Nonterminal
  pub alternative : CoreAlt
  pub has : IsAlternative core n a nonterminal alternative
  pub is : tag ≡ alternative.tag
  pub small : IsSmallTag tag

-- values up to the bracket were read, and the bracket
pub record ValuesRead (close : ℕ) (bytes rest : List ℕ) (old new : List Value) : Type 0 where
  pub values : List Value
  pub small : AllByRecursion IsSmall values
  pub is : new ≡ old ++ values
  pub spelled : bytes ≡ comma_separated value_text values ++ close ∷ rest
  pub told : (xs : List Value) (us : List ℕ) → AllByRecursion IsSmall xs →
      bytes ≡ comma_separated value_text xs ++ close ∷ us → (values ≡ xs) × (rest ≡ us)

abbrev pub NoValues : ℕ → List ℕ → Type 0
NoValues close bytes =
    (xs : List Value) (us : List ℕ) → AllByRecursion IsSmall xs → bytes ≡ comma_separated value_text xs ++ close ∷ us → ⊥

-- the environment begins with the values
abbrev pub Begun : ItemNode → Type 0
Begun x = (bound : List Value) × (x.env ≡ x.values ++ bound)

-- an item of the core grammar, whose environment begins with its values
abbrev pub IsBegunItem : List Nonterminal → ItemNode → Type 0
IsBegunItem core x = IsItemOf core x × Begun x

-- the line has what the item's has
pub record SameItemLine (row : ItemRow) (values bound : List Value) (x : ItemNode) : Type 0 where
  pub nonterminal : row.nonterminal ≡ x.nonterminal
  pub same_values : values ≡ x.values
  pub env : values ++ bound ≡ x.env
  pub start : row.start ≡ x.start
  pub alternative : row.alternative ≡ x.alternative
  pub dot : row.dot ≡ x.dot
  pub position : row.position ≡ x.position

-- numbers of 32 bits
abbrev pub AreFew : ℕ → ℕ → ℕ → ℕ → Type 0
AreFew a d i j = (a < numbers_end) × (d < numbers_end) × (i < numbers_end) × (j < numbers_end)

-- `ALT DOT ENV i..j` with the end of the line, and what stands after it
abbrev pub place_line : ℕ → ℕ → List Value → ℕ → ℕ → List ℕ → List ℕ
place_line a d xs i j us =
    decimal a ++ (32 ∷ (decimal d ++ (32 ∷ (91 ∷ (comma_separated value_text xs ++ (93 ∷ (32 ∷ (places_text i j ++ (10 ∷ us)))))))))

-- the name of a nonterminal stands where the number of a line does, and what is before its values
pub record HeadRead (core : List Nonterminal) (what : List ℕ) (k : ℕ) (bytes rest : List ℕ) (n : ℕ) : Type 0 where
  pub there : n < length core
  pub name : List ℕ
  pub named : IsNamed core n name
  pub spelled : bytes ≡ what ++ (decimal k ++ (32 ∷ (encode_utf8_all name ++ (32 ∷ (40 ∷ rest)))))

-- the start of the line of number k was read: what it is of, the nonterminal, and values, which were added
pub record StartRead (core : List Nonterminal) (what : List ℕ) (k : ℕ) (bytes rest : List ℕ) (old new : List Value) (n : ℕ) :
    Type 0 where
  pub values : List Value
  pub small : AllByRecursion IsSmall values
  pub is : new ≡ old ++ values
  pub there : n < length core
  pub name : List ℕ
  pub named : IsNamed core n name
  pub spelled : bytes ≡ what ++ (head_text k name values ++ (32 ∷ rest))
  pub told : (m : ℕ) (name : List ℕ) (xs : List Value) (us : List ℕ) → k < numbers_end → IsNamed core m name →
      AllByRecursion IsSmall xs → bytes ≡ what ++ (head_text k name xs ++ (32 ∷ us)) →
      (n ≡ m) × (values ≡ xs) × (rest ≡ us)

abbrev pub NoStart : List Nonterminal → List ℕ → ℕ → List ℕ → Type 0
NoStart core what k bytes =
    (m : ℕ) (name : List ℕ) (xs : List Value) (us : List ℕ) → k < numbers_end → IsNamed core m name →
    AllByRecursion IsSmall xs → bytes ≡ what ++ (head_text k name xs ++ (32 ∷ us)) → ⊥

-- the line of node k was read, whose values are a place in the lists
pub record NodeLineRead (core : List Nonterminal) (lists : List (List Value)) (k : ℕ) (bytes rest : List ℕ) (row : NodeRow) :
    Type 0 where
  pub values : List Value
  pub small : AllByRecursion IsSmall values
  pub listed : slice_get lists row.values ≡ Some values
  pub there : row.nonterminal < length core
  pub begin : row.start < numbers_end
  pub end : row.end < numbers_end
  pub name : List ℕ
  pub named : IsNamed core row.nonterminal name
  pub spelled : bytes ≡
      codes "node " ++ (head_text k name values ++ (32 ∷ (places_text row.start row.end ++ (10 ∷ rest))))
  pub told : (x : Node) (us : List ℕ) → k < numbers_end → IsNodeOf core x → bytes ≡ node_line k x ++ us →
      (row.nonterminal ≡ x.nonterminal) × (values ≡ x.values) × (row.start ≡ x.span.begin) × (row.end ≡ x.span.end) ×
      (rest ≡ us)

abbrev pub NoNodeLine : List Nonterminal → ℕ → List ℕ → Type 0
NoNodeLine core k bytes =
    (x : Node) (us : List ℕ) → k < numbers_end → IsNodeOf core x → bytes ≡ node_line k x ++ us → ⊥

-- the rest of an item's line was read, after its values; its environment is a place in the lists, and begins with these
pub record PlaceRead (lists : List (List Value)) (bytes rest : List ℕ) (values : List Value) (row : ItemRow) : Type 0 where
  pub bound : List Value
  pub small : AllByRecursion IsSmall bound
  pub env : slice_get lists row.env ≡ Some (values ++ bound)
  pub start : row.start < numbers_end
  pub alternative : row.alternative < numbers_end
  pub dot : row.dot < numbers_end
  pub position : row.position < numbers_end
  pub spelled : bytes ≡ place_line row.alternative row.dot bound row.start row.position rest
  pub told : (a d i j : ℕ) (xs : List Value) (us : List ℕ) → AreFew a d i j → AllByRecursion IsSmall xs →
      bytes ≡ place_line a d xs i j us →
      (row.alternative ≡ a) × (row.dot ≡ d) × (bound ≡ xs) × (row.start ≡ i) × (row.position ≡ j) × (rest ≡ us)

abbrev pub NoPlace : List ℕ → Type 0
NoPlace bytes =
    (a d i j : ℕ) (xs : List Value) (us : List ℕ) → AreFew a d i j → AllByRecursion IsSmall xs →
    bytes ≡ place_line a d xs i j us → ⊥

-- the line of item k was read, whose values and environment are places in the lists
pub record ItemLineRead (core : List Nonterminal) (lists : List (List Value)) (k : ℕ) (bytes rest : List ℕ) (row : ItemRow) :
    Type 0 where
  pub values : List Value
  pub bound : List Value
  pub small : AllByRecursion IsSmall values
  pub bound_small : AllByRecursion IsSmall bound
  pub listed : slice_get lists row.values ≡ Some values
  pub env : slice_get lists row.env ≡ Some (values ++ bound)
  pub there : row.nonterminal < length core
  pub start : row.start < numbers_end
  pub alternative : row.alternative < numbers_end
  pub dot : row.dot < numbers_end
  pub position : row.position < numbers_end
  pub name : List ℕ
  pub named : IsNamed core row.nonterminal name
  pub spelled : bytes ≡
      codes "item " ++ (head_text k name values ++
      (32 ∷ place_line row.alternative row.dot bound row.start row.position rest))
  pub told : (x : ItemNode) (us : List ℕ) → k < numbers_end → IsBegunItem core x → bytes ≡ item_line k x ++ us →
      SameItemLine row values bound x × (rest ≡ us)

abbrev pub NoItemLine : List Nonterminal → ℕ → List ℕ → Type 0
NoItemLine core k bytes =
    (x : ItemNode) (us : List ℕ) → k < numbers_end → IsBegunItem core x → bytes ≡ item_line k x ++ us → ⊥

-- the rows show the node, and the item
pub record ShowsNode (lists : List (List Value)) (n : StoredNode) (x : Node) : Type 0 where
  pub nonterminal : n.row.nonterminal ≡ x.nonterminal
  pub values : slice_get lists n.row.values ≡ Some x.values
  pub begin : n.row.start ≡ x.span.begin
  pub end : n.row.end ≡ x.span.end
  pub alternatives : n.alternatives ≡ x.alternatives

pub record ShowsItem (lists : List (List Value)) (it : StoredItem) (x : ItemNode) : Type 0 where
  pub nonterminal : it.row.nonterminal ≡ x.nonterminal
  pub values : slice_get lists it.row.values ≡ Some x.values
  pub start : it.row.start ≡ x.start
  pub alternative : it.row.alternative ≡ x.alternative
  pub dot : it.row.dot ≡ x.dot
  pub env : slice_get lists it.row.env ≡ Some x.env
  pub position : it.row.position ≡ x.position
  pub entries : it.entries ≡ x.entries

-- parts with a number each: how they are stored, which ones are meant, how they print, and what stands at no end of one
module _ {S A : Type 0} (Shows : S → A → Type 0) (In : A → Type 0) (shown : ℕ → A → List ℕ) (Goes : ℕ → Type 0) where
  -- the one of number k was read, and added
  pub record PartRead (k : ℕ) (bytes rest : List ℕ) (old new : List S) : Type 0 where
    pub part : S
    pub it : A
    pub added : new ≡ old ++ part ∷ []
    pub shows : Shows part it
    pub meant : In it
    pub spelled : bytes ≡ shown k it ++ rest
    pub told : (x : A) (us : List ℕ) → k < numbers_end → In x → Stops Goes us → bytes ≡ shown k x ++ us →
        (it ≡ x) × (rest ≡ us)

  abbrev pub NoPart : ℕ → List ℕ → Type 0
  NoPart k bytes = (x : A) (us : List ℕ) → k < numbers_end → In x → Stops Goes us → bytes ≡ shown k x ++ us → ⊥

  -- so many were read
  pub record PartsRead (many : ℕ) (bytes rest : List ℕ) (parts : List S) : Type 0 where
    pub all : List A
    pub show : Each Shows parts all
    pub meant : AllByRecursion In all
    pub long : length all ≡ many
    pub spelled : bytes ≡ numbered_texts shown 0 all ++ rest
    pub told : (xs : List A) (us : List ℕ) → length xs ≡ many → AllByRecursion In xs → Stops Goes us →
        bytes ≡ numbered_texts shown 0 xs ++ us → (all ≡ xs) × (rest ≡ us)

  abbrev pub NoParts : ℕ → List ℕ → Type 0
  NoParts many bytes =
      (xs : List A) (us : List ℕ) → length xs ≡ many → AllByRecursion In xs → Stops Goes us →
      bytes ≡ numbered_texts shown 0 xs ++ us → ⊥

-- a node, nodes, an item and items of the core grammar
abbrev pub NodeRead : List Nonterminal → List (List Value) → ℕ → List ℕ → List ℕ → List StoredNode → List StoredNode → Type 0
NodeRead core lists = PartRead (ShowsNode lists) (IsNodeOf core) node_text IsChoice

abbrev pub NoNode : List Nonterminal → List (List Value) → ℕ → List ℕ → Type 0
NoNode core lists = NoPart (ShowsNode lists) (IsNodeOf core) node_text IsChoice

abbrev pub NodesRead : List Nonterminal → List (List Value) → ℕ → List ℕ → List ℕ → List StoredNode → Type 0
NodesRead core lists = PartsRead (ShowsNode lists) (IsNodeOf core) node_text IsChoice

abbrev pub NoNodes : List Nonterminal → List (List Value) → ℕ → List ℕ → Type 0
NoNodes core lists = NoParts (ShowsNode lists) (IsNodeOf core) node_text IsChoice

abbrev pub ItemRead : List Nonterminal → List (List Value) → ℕ → List ℕ → List ℕ → List StoredItem → List StoredItem → Type 0
ItemRead core lists = PartRead (ShowsItem lists) (IsBegunItem core) item_text NoItem

abbrev pub NoItemRead : List Nonterminal → List (List Value) → ℕ → List ℕ → Type 0
NoItemRead core lists = NoPart (ShowsItem lists) (IsBegunItem core) item_text NoItem

abbrev pub ItemsRead : List Nonterminal → List (List Value) → ℕ → List ℕ → List ℕ → List StoredItem → Type 0
ItemsRead core lists = PartsRead (ShowsItem lists) (IsBegunItem core) item_text NoItem

abbrev pub NoItems : List Nonterminal → List (List Value) → ℕ → List ℕ → Type 0
NoItems core lists = NoParts (ShowsItem lists) (IsBegunItem core) item_text NoItem

-- the row is there, and is one of nonterminal 0
pub record IsRootRow (rows : List NodeRow) (r : ℕ) : Type 0 where
  pub row : NodeRow
  pub there : slice_get rows r ≡ Some row
  pub of_root : row.nonterminal ≡ 0

-- the first such row
pub record IsFirstRoot (rows : List NodeRow) (r : ℕ) : Type 0 where
  pub root : IsRootRow rows r
  pub first : (k : ℕ) → k < r → IsRootRow rows k → ⊥

abbrev pub NoRoot : List NodeRow → Type 0
NoRoot rows = (k : ℕ) → IsRootRow rows k → ⊥

-- a draft of the core grammar was read, of which the bytes are the text, but for whether its parts fit one another
pub record TablesRead (core : List Nonterminal) (bytes : List ℕ) (f : Forest) : Type 0 where
  pub few_nodes : length f.nodes < numbers_end
  pub few_items : length f.items < numbers_end
  pub nodes : AllByRecursion (IsNodeOf core) f.nodes
  pub items : AllByRecursion (IsBegunItem core) f.items
  pub root : HasFirstRoot f
  pub spelled : bytes ≡ forest_text f
  pub told : (g : Forest) → IsDraftOf core g → bytes ≡ forest_text g → f ≡ g

abbrev pub NoForest : List Nonterminal → List ℕ → Type 0
NoForest core bytes = (g : Forest) → IsDraftOf core g → bytes ≡ forest_text g → ⊥
