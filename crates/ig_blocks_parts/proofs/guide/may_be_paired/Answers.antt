use Rattle.std.proofs.Common.{ap, sym, true}
use Rattle.ig_blocks_parts.specs.Blocks.{paired_by}
use Rattle.ig_blocks_parts.proofs.guide.may_be_paired.Goals as goal

pub returns-in-Lexical : goal.returns-in-Lexical
returns-in-Lexical c = ap (paired_by true) (sym c.in-Lexical.is)

pub returns-in-Syntax : goal.returns-in-Syntax
returns-in-Syntax c = ap (paired_by true) (sym c.in-Syntax.is)

pub returns-in-Layout : goal.returns-in-Layout
returns-in-Layout c = ap (paired_by true) (sym c.in-Layout.is)

pub returns-in-Plain : goal.returns-in-Plain
returns-in-Plain c = ap (paired_by true) (sym c.in-Plain.is)
