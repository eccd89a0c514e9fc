use Rattle.std.specs.Str.{chars}
use Rattle.ig_show.proofs.spelling.push_literal_character.Goals as goal

pub returns-in-34 : goal.returns-in-34
unfolding chars
returns-in-34 c = rw c.in-34.is c.push_text.ensures

pub returns-in-92 : goal.returns-in-92
unfolding chars
returns-in-92 c = rw c.in-92.is c.push_text-in-92.ensures

pub returns-in-10 : goal.returns-in-10
unfolding chars
returns-in-10 c = rw c.in-10.is c.push_text-in-10.ensures

pub returns-in-13 : goal.returns-in-13
unfolding chars
returns-in-13 c = rw c.in-13.is c.push_text-in-13.ensures

pub returns-in-9 : goal.returns-in-9
unfolding chars
returns-in-9 c = rw c.in-9.is c.push_text-in-9.ensures
