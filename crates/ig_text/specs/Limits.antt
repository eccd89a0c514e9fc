-- The limits of texts and of numbers.
use Rattle.std.specs.Prelude.{ℕ, ◌^◌}

-- the most bytes that a text may have
abbrev pub most_bytes : ℕ
most_bytes = 4194304

-- the most characters that a text may have
abbrev pub most_characters : ℕ
most_characters = 1048576

-- the widest that tabs may be
abbrev pub most_tabs : ℕ
most_tabs = 16

-- numbers of 32 bits are below this; so are the numbers that things have, and how many there are of them
abbrev pub numbers_end : ℕ
numbers_end = 4294967296

-- integers of 64 bits are below this, and none is further below zero; the places of a list in memory are below it, too
abbrev pub integers_end : ℕ
integers_end = 2 ^ 63

-- numbers of 64 bits without a sign are below this
abbrev pub unsigned_end : ℕ
unsigned_end = 2 ^ 64
