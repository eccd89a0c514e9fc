use Rattle.std.specs.Str.{chars}
use Rattle.ig_show.proofs.spelling.push_class_character.Goals as goal

pub returns-in-91 : goal.returns-in-91
unfolding chars
returns-in-91 c = rw c.in-91.is c.push_text.ensures

pub returns-in-93 : goal.returns-in-93
unfolding chars
returns-in-93 c = rw c.in-93.is c.push_text-in-93.ensures

pub returns-in-94 : goal.returns-in-94
unfolding chars
returns-in-94 c = rw c.in-94.is c.push_text-in-94.ensures

pub returns-in-45 : goal.returns-in-45
unfolding chars
returns-in-45 c = rw c.in-45.is c.push_text-in-45.ensures

pub returns-in-92 : goal.returns-in-92
unfolding chars
returns-in-92 c = rw c.in-92.is c.push_text-in-92.ensures

pub returns-in-10 : goal.returns-in-10
unfolding chars
returns-in-10 c = rw c.in-10.is c.push_text-in-10.ensures

pub returns-in-13 : goal.returns-in-13
unfolding chars
returns-in-13 c = rw c.in-13.is c.push_text-in-13.ensures

pub returns-in-9 : goal.returns-in-9
unfolding chars
returns-in-9 c = rw c.in-9.is c.push_text-in-9.ensures
