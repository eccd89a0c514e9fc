use Rattle.ig_command_answers.proofs.answer.answer_text.Goals as goal

pub returns-in-Ambiguous : goal.returns-in-Ambiguous
returns-in-Ambiguous c = rw c.in-Ambiguous.is c.tell_ambiguous.ensures

pub returns-in-Cyclic : goal.returns-in-Cyclic
returns-in-Cyclic c = rw c.in-Cyclic.is c.tell_cyclic.ensures

pub returns-in-Spans : goal.returns-in-Spans
returns-in-Spans c = rw c.in-Spans.is (rw c.grammar.ensures at c.tell_spans.ensures)

pub returns-in-Report : goal.returns-in-Report
returns-in-Report c = rw c.in-Report.is c.tell_report.ensures
