use Rattle.ig_command_sources.proofs.grammar_text.too_large.Goals as goal

pub returns-in-Bytes : goal.returns-in-Bytes
returns-in-Bytes c = rw c.in-Bytes.is c.refuse.ensures

pub returns-in-Number : goal.returns-in-Number
returns-in-Number c = rw c.in-Number.is c.refuse-in-Number.ensures

pub returns-in-Nesting : goal.returns-in-Nesting
returns-in-Nesting c = rw c.in-Nesting.is c.refuse-in-Nesting.ensures
