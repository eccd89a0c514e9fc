-- What each token becomes in the own notation, as the functions that put it there promise; which fault of its reader may come.
use Rattle.std.specs.Prelude.{ℕ, List, [], ◌∷◌}
use Rattle.ig_notation_syntax.specs.Token as own
use Rattle.ig_notation_terms.specs.declared.fault.RuleFault.{RuleFault}
use Rattle.ig_notation_terms.specs.declared.fault.RuleFault.TheVariants.{Unexpected, Memory}
use Rattle.ig_w3c_syntax.specs.Token.{Token, Head, Name, Text, Code, OneOf, Bar, Open, Close, Question, Star, Plus, Minus}

abbrev pub own_token : Token → own.Token
own_token (Head x) = own.Name x
own_token (Name x) = own.Name x
own_token (Text word) = own.Literal word
own_token (Code c) = own.Literal (c ∷ [])
own_token (OneOf class) = own.OneOf class
own_token Bar = own.Bar
own_token Open = own.Open
own_token Close = own.Close
own_token Question = own.Question
own_token Star = own.Star
own_token Plus = own.Plus
own_token Minus = own.Backslash

-- a head ends the declaration before, and begins another one
abbrev pub put : Token → List own.Token
put (Head x) = own.Semicolon ∷ own.Lexical ∷ own.Name x ∷ own.Equals ∷ []
put t = own_token t ∷ []

-- the start line names the first rule; its `;` is that of the head
abbrev pub started : List Token → List own.Token
started (Head x ∷ ts) = own.Start ∷ own.Name x ∷ []
started ts = []

-- memory ran out
abbrev pub IsMemory : RuleFault → Type 0
IsMemory (Unexpected number) = ⊥
IsMemory Memory = Unit {0}
