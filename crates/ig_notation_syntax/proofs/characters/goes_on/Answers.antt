use Rattle.std.proofs.Common.{sym, ap, ◌∙◌}
use Rattle.unicode_ident.specs.Ident.{is_xid_continue}
use Rattle.ig_notation_syntax.specs.Spelling.{begins}
use Rattle.ig_notation_syntax.proofs.characters.goes_on.Goals as goal

pub returns-in-Some : goal.returns-in-Some
returns-in-Some c = c.continues.ensures ∙ ap (begins is_xid_continue) (sym c.in-Some.ensures.spelled)
