use Rattle.std.proofs.Common.{Contains, subst, ◌∙◌, ap, arith}
use Rattle.ig_analyse.specs.Rules.{added_users}
use Rattle.ig_analyse.proofs.Counting.{users_begin, users_go, users_end, read_member}
use Rattle.ig_analyse.proofs.making.users_of.Goals as goal

pub loop-number-init : goal.loop-number-init
loop-number-init c = users_begin c.args.count c.args.rules.now c.in_ok-users.users.lists c.in_ok-users.ensures

pub add_users-requires : goal.add_users-requires
add_users-requires c m among =
    let l = c.requires.callees c.loop-number.number m c.index-rules-number.result
    (read_member c.args.rules.now c.loop-number.number c.index-rules-number.result c.loop-number-test.true c.index-rules-number.is)
    (subst (λ z. Contains z m) c.as_slice.ensures among) in
    let s = c.loop-number.invariant.long in omega (arith, l, s)

pub loop-number-preserved : goal.loop-number-preserved
loop-number-preserved c =
    users_go c.args.count c.args.rules.now c.loop-number.users.lists c.add_users.new.users.lists c.loop-number.number
    c.index-rules-number.result c.loop-number.invariant
    (read_member c.args.rules.now c.loop-number.number c.index-rules-number.result c.loop-number-test.true c.index-rules-number.is)
    (c.in_ok-add_users.ensures ∙ ap (added_users c.loop-number.number c.loop-number.users.lists) c.as_slice.ensures)

pub returns : goal.returns
returns c =
    let l = c.loop-number-test.false in
    let m = c.loop-number.auto.number-end in
    users_end c.args.count c.args.rules.now c.loop-number.users.lists c.loop-number.number c.loop-number.invariant (omega (arith, l, m))
