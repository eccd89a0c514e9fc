use Rattle.std.proofs.Common.{refl, arith}
use Rattle.ig_scope.proofs.Repeats.{repeated_found, names_more, none_repeated, none_yet}
use Rattle.ig_scope.proofs.heads.repeats.Goals as goal

pub loop-param-init : goal.loop-param-init
loop-param-init c = none_yet c.args.names.now.keys c.args.params.now c.requires

pub loop-param-preserved : goal.loop-param-preserved
loop-param-preserved c =
    names_more c.loop-param.names.keys c.insert.new.self.keys c.args.params.now c.loop-param.param-index c.param-item.result c.as_chars.result
    c.in_ok-insert.field-0 c.loop-param-test.true c.param-item.is c.as_chars.ensures c.loop-param.invariant
    c.in_ok-insert.ensures.added c.if-not-branch.false c.in_ok-insert.ensures.keys

pub returns : goal.returns
returns c =
    none_repeated c.loop-param.names.keys c.args.params.now c.loop-param.param-index (λ l. let t = c.loop-param-test.false in let f : ⊥ = omega arith in f)
    c.loop-param.invariant

pub returns-then-not-branch : goal.returns-then-not-branch
returns-then-not-branch c =
    let r = repeated_found c.loop-param.names.keys c.args.params.now c.loop-param.param-index c.param-item.result c.as_chars.result.now c.in_ok-insert.field-0
    c.loop-param-test.true c.param-item.is c.as_chars.ensures c.loop-param.invariant c.in_ok-insert.ensures.added c.if-not-branch.true in
    ((λ _. r), (λ _. refl))
