-- The number of a tag, by which trees of one symbol are ordered first.
use Rattle.std.specs.Prelude.{ℕ}
use Rattle.ig_text.specs.declared.tag.Tag.{Tag}
use Rattle.ig_text.specs.declared.tag.Tag.TheVariants.{Rule, Nil, Snoc, One, More, Absent, Present, GroupAlt, Root}

-- the number of a tag among those of one symbol
abbrev pub number_of : Tag → ℕ
number_of (Rule d k) = k
number_of Nil = 1
number_of Snoc = 2
number_of One = 1
number_of More = 2
number_of Absent = 1
number_of Present = 2
number_of (GroupAlt k) = k
number_of Root = 1
