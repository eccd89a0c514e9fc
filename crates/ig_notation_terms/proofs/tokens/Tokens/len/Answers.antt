use Rattle.ig_notation_terms.proofs.Stored.{as_many}
use Rattle.ig_notation_terms.proofs.tokens.Tokens.len.Goals as goal

pub returns : goal.returns
returns c = as_many c.self.inside.placed.now c.args.self.now c.self.view_is
