use Rattle.std.proofs.Common.{◌≡◌, true, rules, ap, Some, ◌∙◌}
use Rattle.ig_turns.specs.Lists.{is_plain}
use Rattle.ig_turns.proofs.Naming.{named, not_utf8}
use Rattle.ig_turns.proofs.job_line.name_of.Goals as goal

pub returns-in_ok-from_str-in-Ok : goal.returns-in_ok-from_str-in-Ok
returns-in_ok-from_str-in-Ok c =
    let plain : is_plain c.args.bytes.now ≡ true = search rules in
    ap Some (c.in_ok-from_str-in-Ok.ensures.ok ∙ c.in-Ok.ensures.cases.0) ∙ named c.args.bytes.now plain c.in-Ok.ensures.cases.1

pub returns-in-Err : goal.returns-in-Err
returns-in-Err c = not_utf8 c.args.bytes.now c.in-Err.ensures.cases.0
