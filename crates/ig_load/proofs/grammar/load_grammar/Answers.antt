use Rattle.std.proofs.Common.{sym, subst}
use Rattle.ig_grammar.specs.Regular.{IsRegular}
use Rattle.ig_load.proofs.Refusals.{not_broken, checked_is}
use Rattle.ig_load.proofs.Said.{regular}
use Rattle.ig_load.proofs.grammar.load_grammar.Goals as goal

pub check-requires : goal.check-requires
check-requires c =
    subst IsRegular (sym c.in_ok-grammar.ensures) (regular c.load_text_reads.ensures c.read_grammars_are_regular.ensures)

pub returns-in-Ok : goal.returns-in-Ok
returns-in-Ok c =
    checked_is c.in_ok-grammar.grammar c.in-Ok.checked c.in_ok-grammar.ensures c.in-Ok.ensures.grammar c.in-Ok.ensures.shapes

pub unreachable-requires : goal.unreachable-requires
unreachable-requires c =
    not_broken c.load_text_reads.ensures c.in_ok-grammar.grammar _ _ c.in_ok-grammar.ensures
    (rw c.in-Err-Broken.field-0-is at c.in-Err-Broken.ensures.broken)
