use Rattle.std.proofs.Common.{arith, sym, subst, ◌<◌}
use Rattle.std.proofs.lemmas.Bool.{false≢true, ltb-true, lt-ltb}
use Rattle.ig_heights.proofs.heights.is_above.Goals as goal

pub returns-in-Some : goal.returns-in-Some
returns-in-Some c =
    let e = c.in-Some.ensures.lookup.3.1 0 in (
      λ t. subst (λ h. c.args.number < h) e (ltb-true c.args.number c.in-Some.height.now t),
      λ l. lt-ltb c.args.number c.in-Some.height.now (subst (λ h. c.args.number < h) (sym e) l),
    )

pub returns-in-None : goal.returns-in-None
returns-in-None c =
    let e = c.in-None.ensures.lookup.4 (omega arith) 0 in
    (λ t. absurd (false≢true t), λ l. absurd (omega (arith, e, l)))
