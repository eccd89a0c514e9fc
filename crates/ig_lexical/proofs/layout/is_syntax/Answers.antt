use Rattle.std.proofs.Common.{ap, sym}
use Rattle.ig_lexical.specs.Layout.{is_syntax}
use Rattle.ig_lexical.proofs.layout.is_syntax.Goals as goal

pub returns-in-Syntax : goal.returns-in-Syntax
returns-in-Syntax c = ap is_syntax (sym c.in-Syntax.is)

pub returns-in-Lexical : goal.returns-in-Lexical
returns-in-Lexical c = ap is_syntax (sym c.in-Lexical.is)

pub returns-in-Layout : goal.returns-in-Layout
returns-in-Layout c = ap is_syntax (sym c.in-Layout.is)

pub returns-in-Plain : goal.returns-in-Plain
returns-in-Plain c = ap is_syntax (sym c.in-Plain.is)
