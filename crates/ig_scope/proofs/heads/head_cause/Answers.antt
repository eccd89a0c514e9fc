use Rattle.std.proofs.Common.{subst, sym}
use Rattle.ig_text.proofs.Booleans.{refuted}
use Rattle.ig_scope.specs.Heads.{HasRepeated}
use Rattle.ig_scope.proofs.HeadCauses.{head_duplicate, head_repeated, head_not_plain, head_limit}
use Rattle.ig_scope.proofs.heads.head_cause.Goals as goal

pub returns-then-is_declared : goal.returns-then-is_declared
returns-then-is_declared c = head_duplicate c.args.head.now (c.is_declared.ensures.0 c.if-is_declared.true)

pub returns-then-branch : goal.returns-then-branch
returns-then-branch c =
    head_repeated c.args.head.now (refuted c.is_declared.result c.is_declared.ensures c.if-is_declared.false)
    (subst HasRepeated c.as_slice.ensures (c.in_ok-has_repeated.ensures.0 c.if-branch.true))

pub returns-then-is_unplain_layout : goal.returns-then-is_unplain_layout
returns-then-is_unplain_layout c =
    let n = c.is_unplain_layout.ensures.0 c.if-is_unplain_layout.true in
    head_not_plain c.args.head.now (refuted c.is_declared.result c.is_declared.ensures c.if-is_declared.false)
    (λ h. refuted c.in_ok-has_repeated.field-0 c.in_ok-has_repeated.ensures c.if-branch.false (subst HasRepeated (sym c.as_slice.ensures) h)) n.0 n.1

pub returns : goal.returns
returns c =
    head_limit c.args.head.now (refuted c.is_declared.result c.is_declared.ensures c.if-is_declared.false)
    (λ h. refuted c.in_ok-has_repeated.field-0 c.in_ok-has_repeated.ensures c.if-branch.false (subst HasRepeated (sym c.as_slice.ensures) h))
    (λ k n. refuted c.is_unplain_layout.result c.is_unplain_layout.ensures c.if-is_unplain_layout.false (k, n))
    c.passed_limit.result c.passed_limit.ensures
