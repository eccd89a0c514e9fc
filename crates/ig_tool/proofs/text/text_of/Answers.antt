use Rattle.std.proofs.Common.{◌+◌, ap}
use Rattle.ig_tool.specs.Text.{end_of}
use Rattle.ig_tool.proofs.Played.{told_more}
use Rattle.ig_tool.proofs.text.text_of.Goals as goal

pub loop-answer-preserved : goal.loop-answer-preserved
loop-answer-preserved c = record {
  told = told_more c.args.answers.now c.loop-answer.answer-index c.answer-item.result c.loop-answer.text.items c.push_end.new.text.items
      (end_of c.ending.result.status c.ending.result.out.now c.ending.result.note.now) (c.loop-answer.before + 1)
      c.loop-answer-test.true c.answer-item.is c.loop-answer.invariant.told c.ending.ensures
      (ap (λ n. n + 1) c.loop-answer.invariant.count) c.in_ok-push_end.ensures;
  count = ap (λ n. n + 1) c.loop-answer.invariant.count;
}
