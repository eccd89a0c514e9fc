-- Why a text has no tokens.
use Rattle.std.specs.Prelude.{ℕ, List}
use Rattle.ig_notation_syntax.specs.Lexing.{Breaks}
use Rattle.ig_notation_syntax.specs.declared.token.TokenFault.{TokenFault}
use Rattle.ig_notation_syntax.specs.declared.token.TokenFault.TheVariants.{Broken, Memory}

-- when each refusal comes; want of memory may come at any time
abbrev pub IsFault : List ℕ → TokenFault → Type 0
IsFault text (Broken at) = Breaks 0 text at
IsFault text Memory = Unit {0}
