use Rattle.ig_forest_reader.proofs.NameIndex.{guessed_name}
use Rattle.ig_forest_reader.proofs.names.nonterminal_of.Goals as goal

pub returns-then-has_name : goal.returns-then-has_name
returns-then-has_name c core is =
    let it = c.has_name.ensures c.if-has_name.true in
    guessed_name core c.args.index.now c.guess_of-guess.result it.0 c.args.bytes.now is it.1 it.2
