use Rattle.std.proofs.Common.{rules, sym, subst}
use Rattle.ig_item.specs.Parts.{ArePartsOf}
use Rattle.ig_item.proofs.PartLists.{parts_left, parts_more, lists_same, lists_more}
use Rattle.ig_item.proofs.environment_table.EnvironmentTable.push.Goals as goal

pub invariant_of-self : goal.invariant_of-self
invariant_of-self c = subst (λ z. ArePartsOf z c.self.inside.parts.items) (sym c.in_err-extend_from_slice.ensures.items) c.self.invariant

pub invariant_of-self-in_err-push : goal.invariant_of-self-in_err-push
invariant_of-self-in_err-push c =
    let kept = parts_left c.self.inside.values.items c.args.values.now c.self.inside.parts.items c.self.invariant in
    subst (λ z. ArePartsOf z c.push.new.self.items) (sym c.in_ok-extend_from_slice.ensures.items)
    (subst (ArePartsOf _) (sym c.in_err-push.ensures.items) kept)

pub returns-in_err-push-clause-err : goal.returns-in_err-push-clause-err
returns-in_err-push-clause-err c =
    let same =
    lists_same c.self.inside.values.items _ c.args.values.now c.self.inside.parts.items _ c.args.self.now c.self.invariant
    c.in_ok-extend_from_slice.ensures.items c.in_err-push.ensures.items c.self.view_is in
    search (rules, same)

pub invariant_of-self-2 : goal.invariant_of-self-2
invariant_of-self-2 c =
    parts_more c.self.inside.values.items _ c.args.values.now c.self.inside.parts.items _ c.in_ok-begin.begin c.in_ok-end.end
    c.self.invariant (search (rules, c.as_slice.ensures.value)) (search (rules, c.as_slice-2.ensures.value)) c.in_ok-extend_from_slice.ensures.items c.in_ok-push.ensures.items

pub returns-clause-ok : goal.returns-clause-ok
returns-clause-ok c =
    lists_more c.self.inside.values.items _ c.args.values.now c.self.inside.parts.items _ c.in_ok-begin.begin c.in_ok-end.end _
    c.self.invariant (search (rules, c.as_slice.ensures.value)) (search (rules, c.as_slice-2.ensures.value)) c.in_ok-extend_from_slice.ensures.items c.in_ok-push.ensures.items c.self.view_is
