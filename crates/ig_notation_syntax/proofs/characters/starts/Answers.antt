use Rattle.std.proofs.Common.{◌∙◌, sym, arith, ◌<◌}
use Rattle.std.proofs.lemmas.Bool.Decides.{nat_tests}
use Rattle.unicode_ident.proofs.IdentLemmas.{is_xid_start-ascii}
use Rattle.ig_notation_syntax.proofs.characters.starts.Goals as goal

pub returns-then-is_ascii : goal.returns-then-is_ascii
returns-then-is_ascii c =
    let e = c.is_ascii.ensures in
    let t = c.if-is_ascii.true in
    let h : c.args.c < 128 = grind (arith, nat_tests) in
    c.is_ascii_alphabetic.ensures.value ∙ sym (is_xid_start-ascii c.args.c h)
