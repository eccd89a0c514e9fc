use Rattle.ig_parse.proofs.Alternatives.{alternatives_rise_by_tags}
use Rattle.ig_parse.proofs.laws.alternatives_rise_by_tags.Goals as goal

pub returns : goal.returns
returns c = alternatives_rise_by_tags c.tags_rise_in_cores.ensures
