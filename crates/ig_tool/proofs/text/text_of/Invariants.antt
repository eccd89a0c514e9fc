use Rattle.std.proofs.Common.{◌≡◌, take}
use Rattle.ig_tool.specs.Playing.{TellsEnds}
use Rattle.ig_tool.proofs.text.text_of.Given as goal

-- the text of the answers so far, and their number
abbrev pub invariant-loop-answer : goal.invariant-loop-answer
invariant-loop-answer l = record {
  told : TellsEnds (take l.answer-index l.answers) l.text.items;
  count : l.before ≡ l.answer-index;
}
