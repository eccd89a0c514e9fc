use Rattle.std.proofs.lemmas.Bool.Decides.{Decides-eqb}
use Rattle.ig_query.proofs.dots.is_at.Goals as goal

pub returns : goal.returns
returns c = Decides-eqb c.args.item.now.position c.args.position
