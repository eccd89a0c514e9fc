-- The texts of what queries answer, as UTF-8, in lines.
use Rattle.std.specs.Prelude.{◌≡◌, ℕ, List, [], ◌∷◌, ◌++◌, Bool, true, false, Option, None, Some, slice_get, flat_map, codes, encode_utf8_all}
use Rattle.ig_text.specs.declared.text.Span.{Span}
use Rattle.ig_forest_tables.specs.Forest as forest
use Rattle.ig_forest_tables.specs.Forest.{Forest}
use Rattle.ig_text.specs.Lines.{line_end}
use Rattle.ig_show_trees.specs.ReportText.{IsPlace}
use Rattle.ig_show_texts.specs.ValueText.{span_text, values_text}
use Rattle.ig_show_trees.specs.declared.report.Report.{Report}

-- `NAME VALUES i..j`
abbrev pub key_line : forest.Node → List ℕ
key_line node =
    encode_utf8_all node.name ++ (codes " " ++ (values_text node.values ++ (codes " " ++ (span_text node.span ++ line_end))))

-- the line of a node, where it is there
abbrev pub line_if_there : Option forest.Node → List ℕ
line_if_there None = []
line_if_there (Some node) = key_line node

-- the lines of the nodes of these numbers
abbrev pub node_lines : Forest → List ℕ → List ℕ
node_lines f numbers = flat_map (λ v. line_if_there (slice_get f.nodes v)) numbers

-- whether there are ambiguous nodes, then a line for each of them
abbrev pub ambiguous_text : Forest → List ℕ → List ℕ
ambiguous_text f [] = codes "ambiguous no" ++ line_end
ambiguous_text f (v ∷ vs) = codes "ambiguous yes" ++ (line_end ++ node_lines f (v ∷ vs))

abbrev pub cyclic_text : Bool → List ℕ
cyclic_text true = codes "cyclic yes" ++ line_end
cyclic_text false = codes "cyclic no" ++ line_end

-- a line for each span
abbrev pub spans_text : List Span → List ℕ
spans_text = flat_map (λ span. span_text span ++ line_end)

-- `furthest at ` and the text of the report
pub record IsFurthestLine (report : Report) (bytes : List ℕ) : Type 0 where
  pub place : List ℕ
  pub is_place : IsPlace report place
  pub spelled : bytes ≡ codes "furthest at " ++ (place ++ line_end)
