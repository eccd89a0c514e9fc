-- No token of the notation of the XML recommendation is a number in the own one.
use Rattle.std.proofs.Common.{List, [], ◌∷◌}
use Rattle.ig_w3c_syntax.specs.Token.{Token, Head, Name, Text, Code, OneOf, Bar, Open, Close, Question, Star, Plus, Minus}
use Rattle.ig_w3c_syntax.specs.Reading.{in_own_notation, within}
use Rattle.ig_verify_laws.proofs.Reading.{Few}

inside : (ts : List Token) → Few (within ts)
inside [] = (tt, tt)
inside (Head x ∷ ts) = (tt, (tt, (tt, (tt, inside ts))))
inside (Name x ∷ ts) = (tt, inside ts)
inside (Text word ∷ ts) = (tt, inside ts)
inside (Code c ∷ ts) = (tt, inside ts)
inside (OneOf class ∷ ts) = (tt, inside ts)
inside (Bar ∷ ts) = (tt, inside ts)
inside (Open ∷ ts) = (tt, inside ts)
inside (Close ∷ ts) = (tt, inside ts)
inside (Question ∷ ts) = (tt, inside ts)
inside (Star ∷ ts) = (tt, inside ts)
inside (Plus ∷ ts) = (tt, inside ts)
inside (Minus ∷ ts) = (tt, inside ts)

pub no_numbers : (ts : List Token) → Few (in_own_notation ts)
no_numbers (Head x ∷ ts) = (tt, (tt, (tt, (tt, (tt, (tt, inside ts))))))
no_numbers [] = inside []
no_numbers (Name x ∷ ts) = inside (Name x ∷ ts)
no_numbers (Text word ∷ ts) = inside (Text word ∷ ts)
no_numbers (Code c ∷ ts) = inside (Code c ∷ ts)
no_numbers (OneOf class ∷ ts) = inside (OneOf class ∷ ts)
no_numbers (Bar ∷ ts) = inside (Bar ∷ ts)
no_numbers (Open ∷ ts) = inside (Open ∷ ts)
no_numbers (Close ∷ ts) = inside (Close ∷ ts)
no_numbers (Question ∷ ts) = inside (Question ∷ ts)
no_numbers (Star ∷ ts) = inside (Star ∷ ts)
no_numbers (Plus ∷ ts) = inside (Plus ∷ ts)
no_numbers (Minus ∷ ts) = inside (Minus ∷ ts)
