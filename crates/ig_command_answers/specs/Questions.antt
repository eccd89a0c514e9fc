-- What is told where a question is asked: the spans that are wanted, and what a forest says.
use Rattle.std.specs.Prelude.{◌≡◌, ◌↔◌, ℕ, List, Bool, IsTrue, Contains, Option, None, Some, chars}
use Rattle.std.specs.List.Sorted.{IsStrictlySortedBy}
use Rattle.ig_text.specs.Input.{Input}
use Rattle.ig_text.specs.declared.text.Span.{Span}
use Rattle.ig_grammar.specs.Checked.{CheckedGrammar}
use Rattle.ig_grammar.specs.declared.grammar.Grammar.{Grammar}
use Rattle.ig_core.specs.Lowered.{CoreOf}
use Rattle.ig_forest_tables.specs.Forest.{Forest}
use Rattle.ig_heights.specs.Heights.{IsCyclic}
use Rattle.ig_query.specs.Ambiguity.{AreAmbiguous}
use Rattle.ig_query.specs.Report.{IsReport}
use Rattle.ig_query.specs.Spans.{AreSpansOf, span_cmp}
use Rattle.ig_parse.specs.Laws.{DeclaresSpan}
use Rattle.ig_show_trees.specs.QueryText.{ambiguous_text, cyclic_text, spans_text, IsFurthestLine}
use Rattle.ig_show_trees.specs.declared.report.Report.{Report}
use Rattle.ig_command.specs.Commands as asked
use Rattle.ig_command.specs.Commands.{Question}

-- the name is the one that is given, or that of the start symbol where none is
abbrev pub IsWanted : CheckedGrammar → Option (List ℕ) → List ℕ → Type 0
IsWanted c None name = c.grammar.start ≡ Some name
IsWanted c (Some given) name = name ≡ chars given

-- exactly the spans of the nodes of the declaration of that name in permitted trees, by their begin and then their end, each
-- once; there are none where no declaration has the name
pub record ArePermittedSpans (g : Grammar) (text : Input) (name : List ℕ) (found : List Span) : Type 0 where
  pub members : (span : Span) → Contains found span ↔ DeclaresSpan g text name span
  pub order : IsStrictlySortedBy span_cmp found

-- the text of the ambiguous nodes
pub record TellsAmbiguous (f : Forest) (out : List ℕ) : Type 0 where
  pub nodes : List ℕ
  pub are : AreAmbiguous f nodes
  pub text_is : out ≡ ambiguous_text f nodes

-- the text of whether the forest has no highest tree
pub record TellsCyclic (f : Forest) (out : List ℕ) : Type 0 where
  pub answer : Bool
  pub exact : IsTrue answer ↔ IsCyclic f
  pub text_is : out ≡ cyclic_text answer

-- the text of the spans of the declaration that is wanted
pub record TellsSpans (c : CheckedGrammar) (f : Forest) (given : Option (List ℕ)) (out : List ℕ) : Type 0 where
  pub name : List ℕ
  pub found : List Span
  pub wanted : IsWanted c given name
  pub are : AreSpansOf f name found
  pub text_is : out ≡ spans_text found

-- the line of the report
pub record TellsReport (c : CheckedGrammar) (text : Input) (out : List ℕ) : Type 0 where
  pub told : Report
  pub is : IsReport (CoreOf c) text told
  pub line : IsFurthestLine told out

-- the text of the answer to a question, by the forest, or by the grammar and the text
abbrev pub Tells : CheckedGrammar → Input → Forest → Question → List ℕ → Type 0
Tells c text f asked.ambiguous out = TellsAmbiguous f out
Tells c text f asked.cyclic out = TellsCyclic f out
Tells c text f (asked.spans given) out = TellsSpans c f given out
Tells c text f asked.report out = TellsReport c text out
