-- Why a text has no tokens.
use Rattle.std.specs.Prelude.{ℕ, List}
use Rattle.ig_notation_syntax.specs.declared.token.TokenFault.{TokenFault}
use Rattle.ig_notation_syntax.specs.declared.token.TokenFault.TheVariants.{Broken, Memory}
use Rattle.ig_notation_syntax.specs.Texts.{Breaks}
use Rattle.ig_w3c_syntax.specs.Spelling.{StandsFirst, IsSeparator}

-- when each refusal comes; want of memory may come at any time
abbrev pub IsFault : List ℕ → TokenFault → Type 0
IsFault text (Broken at) = Breaks StandsFirst IsSeparator 0 text at
IsFault text Memory = Unit {0}
