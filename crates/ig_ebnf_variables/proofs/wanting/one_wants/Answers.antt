use Rattle.ig_ebnf_variables.proofs.wanting.one_wants.Goals as goal

pub returns-then-item_wants : goal.returns-then-item_wants
returns-then-item_wants c = rw c.if-item_wants.true

pub returns : goal.returns
returns c = rw c.if-item_wants.false
