use Rattle.ig_w3c.proofs.Outcomes.{has_tokens, token_fault, exits_with}
use Rattle.ig_w3c.proofs.source.read_short_w3c.Goals as goal

pub returns-in_err-found-clause-fault : goal.returns-in_err-found-clause-fault
returns-in_err-found-clause-fault c =
    exits_with _ _ _ c.from_residual.ensures.1 (token_fault _ _ c.requires c.in_err-found.ensures.fault)

pub read_tokens-requires : goal.read_tokens-requires
read_tokens-requires c = has_tokens _ _ _ c.requires c.in_ok-found.ensures.tokens c.as_slice.ensures.value
