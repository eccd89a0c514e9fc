use Rattle.std.proofs.lemmas.Bool.Decides.{Decides-eqb}
use Rattle.ig_query.proofs.furthest.is_end_at.Goals as goal

pub returns : goal.returns
returns c =
    let there = Decides-eqb c.args.item.now.position c.args.position in
    (λ t. (c.is_complete_root.ensures.0 c.if-not-is_complete_root.false, there.0 t), λ p. there.1 p.1)
