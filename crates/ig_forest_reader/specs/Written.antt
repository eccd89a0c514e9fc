-- Which drafts a text can be of, and that a text is of one at most.
use Rattle.std.specs.Prelude.{◌≡◌, ℕ, ◌<◌, ◌++◌, ◌∷◌, List, length, All, Some, slice_get, option_map, encode_utf8_all}
use Rattle.std.specs.Int.Signed.{mag}
use Rattle.ig_text.specs.Limits.{numbers_end, integers_end}
use Rattle.ig_text.specs.declared.text.Span.{Span}
use Rattle.ig_text.specs.declared.tag.Tag.{Tag}
use Rattle.ig_text.specs.declared.tag.Tag.TheVariants.{Rule, Nil, Snoc, One, More, Absent, Present, GroupAlt, Root}
use Rattle.ig_expr.specs.declared.value.Value.{Value}
use Rattle.ig_expr.specs.declared.value.Value.TheVariants as value
use Rattle.ig_item.specs.Core.{IsAlternative}
use Rattle.ig_item.specs.declared.core_grammar.Nonterminal.{Nonterminal}
use Rattle.ig_item.specs.declared.core_grammar.CoreAlt.{CoreAlt}
use Rattle.std.specs.List.{AllByRecursion}
use Rattle.ig_show_texts.specs.Listed.{comma_separated}
use Rattle.ig_show_texts.specs.TagText.{tag_text}
use Rattle.ig_show_texts.specs.ValueText.{value_text}
use Rattle.ig_forest_tables.specs.Forest.{Forest, Node, ItemNode}
use Rattle.ig_show_texts.specs.ForestText.{forest_text}
use Rattle.ig_forest_tables.specs.declared.entry.Choice.{Choice}
use Rattle.ig_forest_tables.specs.declared.entry.Entry.{Entry}
use Rattle.ig_forest_tables.specs.declared.entry.Entry.TheVariants.{Begin, Pass, Take}
use Rattle.ig_forest_tables.specs.declared.entry.Child.{Child}
use Rattle.ig_forest_tables.specs.declared.entry.Child.TheVariants as child
use Rattle.ig_verify.specs.Sound.{IsDraft}

-- what is printed of a core grammar tells its parts: no name has a space or a line feed, names differ, and so do the tags of
-- a nonterminal, as they are printed
pub record TellsNames (core : List Nonterminal) : Type 0 where
  pub plain : (n : ℕ) (nonterminal : Nonterminal) → slice_get core n ≡ Some nonterminal →
      All (λ c. 32 < c) (encode_utf8_all nonterminal.name)
  pub differ : (m n : ℕ) (x y : Nonterminal) → slice_get core m ≡ Some x → slice_get core n ≡ Some y →
      encode_utf8_all x.name ≡ encode_utf8_all y.name → m ≡ n
  pub tags : (n a b : ℕ) (nonterminal other : Nonterminal) (x y : CoreAlt) → IsAlternative core n a nonterminal x →
      IsAlternative core n b other y → tag_text nonterminal.name x.tag ≡ tag_text nonterminal.name y.tag → x.tag ≡ y.tag

-- the numbers have the ranges that the program's have
pub record IsSmallSpan (span : Span) : Type 0 where
  pub begin : span.begin < numbers_end
  pub end : span.end < numbers_end

abbrev pub IsSmall : Value → Type 0
IsSmall (value.Int n) = mag n < integers_end
IsSmall (value.Bool b) = Unit {0}
IsSmall (value.Span span) = IsSmallSpan span

abbrev pub IsSmallChild : Child → Type 0
IsSmallChild (child.Leaf span) = IsSmallSpan span
IsSmallChild (child.Node v) = v < numbers_end

abbrev pub IsSmallEntry : Entry → Type 0
IsSmallEntry Begin = Unit {0}
IsSmallEntry (Pass prev) = prev < numbers_end
IsSmallEntry (Take prev (child.Leaf span)) = (prev < numbers_end) × IsSmallSpan span
IsSmallEntry (Take prev (child.Node v)) = (prev < numbers_end) × (v < numbers_end)

abbrev pub IsSmallTag : Tag → Type 0
IsSmallTag (Rule nonterminal k) = k < numbers_end
IsSmallTag (GroupAlt k) = k < numbers_end
IsSmallTag Nil = Unit {0}
IsSmallTag Snoc = Unit {0}
IsSmallTag One = Unit {0}
IsSmallTag More = Unit {0}
IsSmallTag Absent = Unit {0}
IsSmallTag Present = Unit {0}
IsSmallTag Root = Unit {0}

-- the nonterminal of that number has that name
abbrev pub IsNamed : List Nonterminal → ℕ → List ℕ → Type 0
IsNamed core n name = option_map (λ nonterminal. nonterminal.name) (slice_get core n) ≡ Some name

-- some alternative of the nonterminal has the tag
pub record IsTagOf (core : List Nonterminal) (n : ℕ) (choice : Choice) : Type 0 where
  pub a : ℕ
  pub nonterminal : Nonterminal
  pub alternative : CoreAlt
  pub has : IsAlternative core n a nonterminal alternative
  pub tag : choice.tag ≡ alternative.tag
  pub small : IsSmallTag choice.tag
  pub item : choice.item < numbers_end

pub record IsNodeOf (core : List Nonterminal) (node : Node) : Type 0 where
  pub named : IsNamed core node.nonterminal node.name
  pub values : All IsSmall node.values
  pub span : IsSmallSpan node.span
  pub tags : All (IsTagOf core node.nonterminal) node.alternatives

pub record IsItemOf (core : List Nonterminal) (it : ItemNode) : Type 0 where
  pub named : IsNamed core it.nonterminal it.name
  pub values : All IsSmall it.values
  pub env : All IsSmall it.env
  pub start : it.start < numbers_end
  pub alternative : it.alternative < numbers_end
  pub dot : it.dot < numbers_end
  pub position : it.position < numbers_end
  pub entries : All IsSmallEntry it.entries

-- the root is the first node of nonterminal 0
pub record HasFirstRoot (f : Forest) : Type 0 where
  pub node : Node
  pub there : slice_get f.nodes f.root ≡ Some node
  pub of_root : node.nonterminal ≡ 0
  pub first : (v : ℕ) (other : Node) → v < f.root → slice_get f.nodes v ≡ Some other → other.nonterminal ≡ 0 → ⊥

-- the draft can be written down with the names and tags of the core grammar
pub record IsDraftOf (core : List Nonterminal) (f : Forest) : Type 0 where
  pub draft : IsDraft f
  pub few_nodes : length f.nodes < numbers_end
  pub few_items : length f.items < numbers_end
  pub nodes : All (IsNodeOf core) f.nodes
  pub items : All (IsItemOf core) f.items
  pub root : HasFirstRoot f

-- a text is of one draft at most
abbrev pub TextsTellDrafts : Type 0
TextsTellDrafts =
    (core : List Nonterminal) (f g : Forest) → TellsNames core → IsDraftOf core f → IsDraftOf core g →
    forest_text f ≡ forest_text g → f ≡ g

-- the bracket after a list of values
pub data Closes : ℕ → Type 0 where
  round : (c : ℕ) → c ≡ 41 → Closes c
  square : (c : ℕ) → c ≡ 93 → Closes c

-- a list of values is told by its text and the bracket after it, whatever stands after that
abbrev pub ListsAreTold : Type 0
ListsAreTold =
    (close : ℕ) (xs ys : List Value) (us vs : List ℕ) → Closes close → AllByRecursion IsSmall xs → AllByRecursion IsSmall ys →
    comma_separated value_text xs ++ close ∷ us ≡ comma_separated value_text ys ++ close ∷ vs → (xs ≡ ys) × (us ≡ vs)
