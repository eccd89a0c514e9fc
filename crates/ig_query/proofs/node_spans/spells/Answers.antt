use Rattle.ig_query.proofs.Names.{spells_name}
use Rattle.ig_query.proofs.node_spans.spells.Goals as goal

pub returns : goal.returns
returns c =
    spells_name c.eq.result c.as_str.result.now c.args.text.now c.args.word.now c.eq.ensures c.as_str.ensures c.as_str.utf8 c.utf8.text
