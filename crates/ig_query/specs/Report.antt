-- What the report of a core grammar and a text is.
use Rattle.std.specs.Prelude.{◌≡◌, ◌↔◌, List, Contains, IsTrue}
use Rattle.ig_text.specs.Input.{Input}
use Rattle.ig_text.specs.Lines.{line_of, column_of}
use Rattle.ig_text.specs.declared.pattern.Pattern.{Pattern}
use Rattle.ig_item.specs.Report.{IsFurthest, IsExpected, EndIsExpected}
use Rattle.ig_item.specs.declared.core_grammar.Nonterminal.{Nonterminal}
use Rattle.ig_show_trees.specs.declared.report.Report.{Report}

-- the furthest position, with its line and its column; exactly the patterns that are expected there; and whether the end is
pub record IsReport (core : List Nonterminal) (text : Input) (report : Report) : Type 0 where
  pub furthest : IsFurthest core text report.position
  pub line : report.line ≡ line_of text report.position
  pub column : report.column ≡ column_of text report.position
  pub expected : (what : Pattern) → Contains report.expected what ↔ IsExpected core text report.position what
  pub end : IsTrue report.end ↔ EndIsExpected core text report.position
