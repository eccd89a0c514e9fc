use Rattle.ig_tool.proofs.Deciding.{answers_end}
use Rattle.ig_tool.proofs.BatchLaw.{batch_commands}
use Rattle.ig_tool.proofs.CompletenessLaw.{completeness}
use Rattle.ig_tool.proofs.Asked.{given}
use Rattle.ig_tool.proofs.GrammarLaw.{grammar_commands}
use Rattle.ig_tool.proofs.HeadlineLaw.{headline}
use Rattle.ig_tool.proofs.LoadLaw.{load_commands}
use Rattle.ig_tool.proofs.Named.{answers_outcome}
use Rattle.ig_tool.proofs.VerificationLaw.{certification, verification}
use Rattle.ig_tool.proofs.top_call.iguana.Goals as goal

pub returns-clause-answer : goal.returns-clause-answer
returns-clause-answer g c = λ told agree.
    answers_end _ _ _ _ c.decide-decided.result c.end.result (c.decide-decided.ensures.answer told agree) c.end.ensures

pub returns-clause-outcome : goal.returns-clause-outcome
returns-clause-outcome g c = λ told agree.
    answers_outcome _ _ _ _ _ (returns-clause-answer g c told agree)

pub returns-clause-headline : goal.returns-clause-headline
returns-clause-headline g c = λ told agree.
    headline (given c.one_reading.ensures c.texts_are_read_or_refused.ensures) _ _ _ _ _ (returns-clause-answer g c told agree)

pub returns-clause-completeness : goal.returns-clause-completeness
returns-clause-completeness g c = λ told agree.
    completeness (given c.one_reading.ensures c.texts_are_read_or_refused.ensures) _ _ _ _ _ (returns-clause-answer g c told agree)

pub returns-clause-grammar_commands : goal.returns-clause-grammar_commands
returns-clause-grammar_commands g c = λ told agree.
    grammar_commands (given c.one_reading.ensures c.texts_are_read_or_refused.ensures) _ _ _ _ _ (returns-clause-answer g c told agree)

pub returns-clause-verification : goal.returns-clause-verification
returns-clause-verification g c = λ told agree.
    verification (given c.one_reading.ensures c.texts_are_read_or_refused.ensures) _ _ _ _ _ (returns-clause-answer g c told agree)

pub returns-clause-certification : goal.returns-clause-certification
returns-clause-certification g c = λ told agree.
    certification (given c.one_reading.ensures c.texts_are_read_or_refused.ensures) _ _ _ _ _ (returns-clause-answer g c told agree)

pub returns-clause-loads : goal.returns-clause-loads
returns-clause-loads g c =
    load_commands _ _ _ _ _
    (returns-clause-answer g c (g.F.Shelf.state c.args.shelf.now).holds c.decide-decided.ensures.fetches.as_told)

pub returns-clause-batches : goal.returns-clause-batches
returns-clause-batches g c = λ told agree.
    batch_commands _ _ _ _ _ (returns-clause-answer g c told agree)

pub returns-clause-fetches : goal.returns-clause-fetches
returns-clause-fetches g c = c.decide-decided.ensures.fetches
