use Rattle.std.proofs.Common.{◌<◌, inr, arith, refl, subst, length, List, ℕ}
use Rattle.ig_text.specs.Limits.{most_characters}
use Rattle.ig_text.proofs.text.Text.of_str.Goals as goal

pub returns-then-len-gt-MOST_CHARACTERS-clause-fault :
    goal.returns-then-len-gt-MOST_CHARACTERS-clause-fault
returns-then-len-gt-MOST_CHARACTERS-clause-fault c =
    inr (c.utf8.text, subst (λ (z : List ℕ). most_characters < length z) c.in_ok-characters.ensures (omega arith))

pub returns-clause-text : goal.returns-clause-text
returns-clause-text c =
    record {
      utf8 = c.utf8.text;
      characters = c.in_ok-characters.ensures;
      tabs = refl;
      few_bytes = c.requires;
      few_characters = omega arith;
    }
