use Rattle.ig_notation.proofs.Regularity.{read_regular}
use Rattle.ig_notation.proofs.laws.read_grammars_are_regular.Goals as goal

pub returns : goal.returns
returns c =
    read_regular c.tokens_are_few.ensures c.reads_are_regular.ensures c.reads_are_counted.ensures
