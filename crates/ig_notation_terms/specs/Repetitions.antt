-- The signs behind options and lists, and what they make of symbols.
use Rattle.ig_notation_syntax.specs.Token as token
use Rattle.ig_notation_syntax.specs.Token.{Token}
use Rattle.ig_grammar.specs.Symbol as tree
use Rattle.ig_notation_terms.specs.declared.repetitions.Repetition.{Repetition}
use Rattle.ig_notation_terms.specs.declared.repetitions.Repetition.TheVariants as repetitions
use Rattle.ig_notation_terms.specs.declared.repetitions.ListSign.{ListSign}
use Rattle.ig_notation_terms.specs.declared.repetitions.ListSign.TheVariants as lists

-- the token that an option's or a list's sign is, and what the sign makes of a symbol
abbrev pub repetition_token : Repetition → Token
repetition_token repetitions.Opt = token.Question
repetition_token repetitions.Star = token.Star
repetition_token repetitions.Plus = token.Plus

abbrev pub repeated_of : Repetition → tree.Symbol → tree.Symbol
repeated_of repetitions.Opt x = tree.Opt x
repeated_of repetitions.Star x = tree.Star x
repeated_of repetitions.Plus x = tree.Plus x

-- the same of a separated list
abbrev pub list_token : ListSign → Token
list_token lists.Star = token.Star
list_token lists.Plus = token.Plus

abbrev pub separated_of : ListSign → tree.Symbol → tree.Symbol → tree.Symbol
separated_of lists.Star x separator = tree.SepStar x separator
separated_of lists.Plus x separator = tree.SepPlus x separator
