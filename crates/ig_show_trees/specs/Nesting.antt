-- How a tree is written part by part. What is open is, for each node whose bracket isn't closed yet, innermost first,
-- the number of its children that are still to come.
use Rattle.std.specs.Prelude.{ℕ, zero, suc, List, [], ◌∷◌, ◌++◌, Option, None, Some, codes}
use Rattle.ig_text.specs.declared.tag.Tag.{Tag}
use Rattle.ig_text.specs.declared.text.Span.{Span}
use Rattle.ig_item.specs.declared.core_grammar.Nonterminal.{Nonterminal}
use Rattle.ig_forest.specs.declared.tree.Part.{Part}
use Rattle.ig_show_trees.specs.TreeText.{head_text}
use Rattle.ig_show_texts.specs.ValueText.{places_text}

-- the text of a part without its children
abbrev pub tagged_text : List Nonterminal → Option Tag → Span → List ℕ
tagged_text core None span = places_text span.begin span.end
tagged_text core (Some tag) span = head_text core tag span.begin span.end

abbrev pub part_text : List Nonterminal → Part → List ℕ
part_text core part = tagged_text core part.tag part.span

-- a node is open behind its own part
abbrev pub opened_by : Option Tag → ℕ → List ℕ → List ℕ
opened_by None n counts = counts
opened_by (Some tag) n counts = n ∷ counts

abbrev pub opened : Part → List ℕ → List ℕ
opened part counts = opened_by part.tag part.children counts

-- the brackets of nodes with no child to come, and the space before the next child
abbrev pub closing : List ℕ → List ℕ
closing [] = []
closing (zero ∷ counts) = codes ")" ++ closing counts
closing (suc n ∷ counts) = codes " "

-- what is open behind them
abbrev pub left_open : List ℕ → List ℕ
left_open [] = []
left_open (zero ∷ counts) = left_open counts
left_open (suc n ∷ counts) = n ∷ counts

-- what the parts add where so much is open
abbrev pub parts_text : List Nonterminal → List ℕ → List Part → List ℕ
parts_text core counts [] = []
parts_text core counts (part ∷ parts) =
    part_text core part ++ (closing (opened part counts) ++ parts_text core (left_open (opened part counts)) parts)
