use Rattle.std.proofs.Common.{◌≡◌, ◌∙◌, Bool, true, false, ◌||◌, ◌==◌, refl, sym, arith, ◌<◌}
use Rattle.std.proofs.lemmas.Bool.Decides.{nat_tests}
use Rattle.unicode_ident.proofs.IdentLemmas.{is_xid_continue-ascii}
use Rattle.ig_w3c_syntax.proofs.characters.continues.Goals as goal

either_yes : (r a b : Bool) → r ≡ a → r ≡ true → r ≡ (a || b)
either_yes r true b e t = e
either_yes r false b e t = cc

either_no : (r a b : Bool) → r ≡ a → r ≡ false → b ≡ (a || b)
either_no r true b e t = cc
either_no r false b e t = refl

pub returns-then-is_ascii_alphanumeric : goal.returns-then-is_ascii_alphanumeric
returns-then-is_ascii_alphanumeric c =
    let e = c.is_ascii.ensures in
    let t = c.if-is_ascii.true in
    let h : c.args.c < 128 = grind (arith, nat_tests) in
    either_yes c.is_ascii_alphanumeric.result _ (c.args.c == 95) c.is_ascii_alphanumeric.ensures.value
    c.if-is_ascii_alphanumeric.true ∙ sym (is_xid_continue-ascii c.args.c h)

pub returns-else-is_ascii_alphanumeric : goal.returns-else-is_ascii_alphanumeric
returns-else-is_ascii_alphanumeric c =
    let e = c.is_ascii.ensures in
    let t = c.if-is_ascii.true in
    let h : c.args.c < 128 = grind (arith, nat_tests) in
    either_no c.is_ascii_alphanumeric.result _ (c.args.c == 95) c.is_ascii_alphanumeric.ensures.value
    c.if-is_ascii_alphanumeric.false ∙ sym (is_xid_continue-ascii c.args.c h)
