use Rattle.std.proofs.Common.{chars}
use Rattle.ig_w3c_syntax.proofs.Longest.{mapped, no_plain_set, no_negated_set, plain_set, negated_set}
use Rattle.ig_w3c_syntax.proofs.sets.set.Goals as goal

pub returns-in-Some : goal.returns-in-Some
returns-in-Some c =
    mapped c.class.result _ _ _ _ (no_negated_set (chars c.args.text.now) (chars c.in-Some.inside.now) c.in-Some.ensures.1)
    (λ p h. negated_set (chars c.args.text.now) (chars c.in-Some.inside.now) p.1.now p.0 c.in-Some.ensures.1 h) c.class.ensures

pub returns-in-None : goal.returns-in-None
returns-in-None c =
    mapped c.class-in-None.result _ _ _ _ (no_plain_set (chars c.args.text.now) c.in-None.ensures)
    (λ p h. plain_set (chars c.args.text.now) p.1.now p.0 c.in-None.ensures h) c.class-in-None.ensures
