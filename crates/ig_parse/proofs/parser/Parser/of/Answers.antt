use Rattle.ig_parse.proofs.parser.Parser.of.Goals as goal

-- direct, so that a body that fails here isn't searched
pub returns-clause-exact : goal.returns-clause-exact
returns-clause-exact c = tt
