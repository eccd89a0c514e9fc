-- A grammar that is read is regular.
use Rattle.std.proofs.Common.{◌<◌, List, length}
use Rattle.std.specs.Prelude.{All}
use Rattle.ig_text.specs.Limits.{numbers_end}
use Rattle.ig_notation_syntax.specs.Token.{Token}
use Rattle.ig_notation_syntax.specs.Rules.{FollowsRules}
use Rattle.ig_grammar.specs.Laws.{CountsByForm}
use Rattle.ig_grammar.specs.Regular.{IsRegular}
use Rattle.ig_grammar.specs.declared.grammar.Grammar.{Grammar}
use Rattle.ig_grammar.specs.Counts.{HasFewerThan}
use Rattle.ig_notation_syntax.specs.Written.{HasText}
use Rattle.ig_notation_syntax.proofs.Forms.{grammar_written}
use Rattle.ig_notation_syntax.proofs.Placing.{grammar_stands}
use Rattle.ig_notation_syntax.proofs.Counting.{grammar_counted}

regular : (tokens : List Token) (g : Grammar) → FollowsRules tokens g → All HasText tokens → HasFewerThan numbers_end g → IsRegular g
regular tokens g f h fewer =
    record {
      well = grammar_stands f h;
      unmarked = λ d in_grammar plain. absurd ((grammar_written f).1 d in_grammar plain);
      counted = fewer;
    }

pub grammar_regular : CountsByForm → (tokens : List Token) (g : Grammar) → FollowsRules tokens g → All HasText tokens → length tokens < numbers_end → IsRegular g
grammar_regular by_form tokens g f h less = regular tokens g f h (grammar_counted by_form numbers_end f less)
