use Rattle.std.specs.Str.Iter.{chars_rest}
use Rattle.ig_text.proofs.Spelling.{IsLeft}
use Rattle.ig_text.proofs.text.are_letters_of.Given as goal

abbrev pub invariant-loop-letter : goal.invariant-loop-letter
invariant-loop-letter l = IsLeft l.letters l.text (chars_rest l.rest) l.letter-index
