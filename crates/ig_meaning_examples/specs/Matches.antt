-- What the worked grammars take from the laws of expressions; this file serves proofs alone.
use Rattle.ig_expr.specs.Laws.{MatchesAreDecided, MatchesHaveTheirWidth}

pub record MatchesAreKnown : Type 0 where
  pub decided : MatchesAreDecided
  pub width : MatchesHaveTheirWidth
