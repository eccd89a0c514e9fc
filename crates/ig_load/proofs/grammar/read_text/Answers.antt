use Rattle.ig_load.specs.Grammar.{LoadGrammar, load_text}
use Rattle.ig_load.proofs.Refusals.{no_read_fault}
use Rattle.ig_load.proofs.grammar.read_text.Goals as goal

pub returns-in-Ok : goal.returns-in-Ok
unfolding load_text
returns-in-Ok c =
    c.one_reading.ensures load_text c.in-Ok.grammar LoadGrammar c.in-Ok.ensures.ok c.load_text_reads.ensures.reading

pub unreachable-requires : goal.unreachable-requires
unfolding load_text
unreachable-requires c =
    let none = no_read_fault c.texts_are_read_or_refused.ensures c.load_text_reads.ensures _
    (rw c.in-Err-Syntax.field-0-is at c.in-Err-Syntax.ensures.fault) in cc

pub unreachable-requires-in-Err-TooLarge : goal.unreachable-requires-in-Err-TooLarge
unfolding load_text
unreachable-requires-in-Err-TooLarge c =
    let none = no_read_fault c.texts_are_read_or_refused.ensures c.load_text_reads.ensures _
    (rw c.in-Err-TooLarge.field-0-is at c.in-Err-TooLarge.ensures.fault) in cc
