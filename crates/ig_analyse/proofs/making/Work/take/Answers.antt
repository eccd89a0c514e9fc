use Rattle.std.proofs.Common.{[], length, Some, get_or, subst, sym, ◌∙◌, ap, arith}
use Rattle.std.proofs.lemmas.Option.{slice_get-get_or}
use Rattle.ig_analyse.specs.Rules.{IsUsing}
use Rattle.ig_analyse.proofs.Counting.{turn_begins, turn_ends, using_more, user_inside}
use Rattle.ig_analyse.proofs.making.Work.take.Goals as goal

pub loop-rule-init : goal.loop-rule-init
loop-rule-init c =
    let users = c.args.users.now.lists in
    turn_begins (length users) c.args.rules.now users c.requires.users c.requires.inside c.args.self.now c.args.turn
    c.args.number c.into_iter-rule-iterator.result c.requires.work c.requires.here
    (slice_get-get_or users c.args.number [] c.requires.number ∙
    ap Some (sym (c.into_iter-rule-iterator.ensures.into_iter_gives ∙ c.walk-rule-items.ensures ∙
    ap (λ k. get_or users k []) c.of.ensures)))

pub use_rule-requires-clause-number : goal.use_rule-requires-clause-number
use_rule-requires-clause-number c =
    user_inside c.args.rules.now (length c.args.users.now.lists) c.args.users.now.lists _ _ c.args.number _ _ c.requires.users
    (subst (IsUsing _ _ _ _ _ _) c.in-Some.ensures.steps c.loop-rule.invariant)

pub use_rule-requires-clause-left : goal.use_rule-requires-clause-left
use_rule-requires-clause-left c =
    let l = user_inside c.args.rules.now (length c.args.users.now.lists) c.args.users.now.lists _ _ c.args.number _ _ c.requires.users
    (subst (IsUsing _ _ _ _ _ _) c.in-Some.ensures.steps c.loop-rule.invariant) in
    let m = c.loop-rule.invariant.work.long in omega (arith, l, m)

pub loop-rule-preserved : goal.loop-rule-preserved
loop-rule-preserved c =
    using_more (length c.args.users.now.lists) c.args.rules.now c.args.users.now.lists c.requires.users c.requires.inside
    c.loop-rule.self c.use_rule.new.self _ c.args.number _ _
    (subst (IsUsing _ _ _ _ _ _) c.in-Some.ensures.steps c.loop-rule.invariant) c.in_ok-use_rule.ensures

pub returns : goal.returns
returns c =
    turn_ends (length c.args.users.now.lists) c.args.rules.now c.args.users.now.lists c.requires.users c.requires.inside
    c.args.self.now c.loop-rule.self c.args.turn c.args.number
    (subst (IsUsing _ _ _ _ _ _) c.in-None.ensures.steps.0 c.loop-rule.invariant) c.requires.here
