use Rattle.ig_grammar.proofs.keywords.is_name.Goals as goal

pub returns-then-is_identifier : goal.returns-then-is_identifier
returns-then-is_identifier c = cc
