-- Whether two symbols have one form. Where they do not, the type computes to the empty one, so that it needs no search.
use Rattle.std.specs.Prelude.{ℕ, T, eqb}
use Rattle.ig_grammar.specs.Symbol.{Symbol, Literal, OneOf, Call, Label, Guard, Let, Opt, Star, Plus, SepStar, SepPlus, Group, Offside, Ignore, Align, Filtered, Seq, Entry}

abbrev number : Symbol → ℕ
number (Literal word) = 0
number (OneOf class) = 1
number (Call name arguments) = 2
number (Label name x) = 3
number (Guard e) = 4
number (Let name e) = 5
number (Opt x) = 6
number (Star x) = 7
number (Plus x) = 8
number (SepStar x separator) = 9
number (SepPlus x separator) = 10
number (Group choices) = 11
number (Offside x) = 12
number (Ignore x) = 13
number (Align x) = 14
number (Filtered x filters) = 15
number (Seq xs) = 16
number (Entry bindings x) = 17

abbrev pub SameForm : Symbol → Symbol → Type 0
SameForm y x = T (eqb (number y) (number x))
