use Rattle.std.proofs.Common.{◌∙◌, ◌++◌, List, ℕ, ap}
use Rattle.ig_text.proofs.Booleans.{refuted}
use Rattle.ig_forest_reader.proofs.Behind.{too_short, split_there, split_told}
use Rattle.ig_forest_reader.proofs.fronts.read_behind.Goals as goal

pub returns-in_default-clause-told : goal.returns-in_default-clause-told
returns-in_default-clause-told c us e = absurd (too_short c.args.bytes.now c.args.text.now us c.split_at_checked.result c.split_at_checked.ensures.cases c.in_default.is e)

pub returns-then-is_text : goal.returns-then-is_text
returns-then-is_text c =
    let split = split_there c.args.bytes.now c.args.text.now c.split_at_checked.result _ c.split_at_checked.ensures.cases c.in-Some.is in
    record {
      told = λ us e. (split_told c.args.bytes.now c.args.text.now us c.in-Some.front.now c.in-Some.rest.now split e).1;
      exact = split.0 ∙ ap (λ (z : List ℕ). z ++ c.in-Some.rest.now) (c.is_text.ensures.0 c.if-is_text.true);
    }

pub returns-clause-told : goal.returns-clause-told
returns-clause-told c us e =
    let split = split_there c.args.bytes.now c.args.text.now c.split_at_checked.result _ c.split_at_checked.ensures.cases c.in-Some.is in
    absurd (refuted c.is_text.result c.is_text.ensures c.if-is_text.false (split_told c.args.bytes.now c.args.text.now us c.in-Some.front.now c.in-Some.rest.now split e).0)
