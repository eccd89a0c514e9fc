-- Which grammar tokens of the W3C notation read as: the one as which the same rules read in the own notation. There the
-- start line names the first rule, each rule is a lexical declaration, and `- "t"` is the filter `\ "t"`.
use Rattle.std.specs.Prelude.{ℕ, List, [], ◌∷◌}
use Rattle.ig_notation_syntax.specs.Token as own
use Rattle.ig_notation_syntax.specs.Rules.{FollowsRules}
use Rattle.ig_grammar.specs.declared.grammar.Grammar.{Grammar}
use Rattle.ig_w3c_syntax.specs.Token.{Token, Head, Name, Text, Code, OneOf, Bar, Open, Close, Question, Star, Plus, Minus}
use Rattle.ig_w3c_syntax.specs.Rules.{KeepsRules}

-- the tokens behind the head of a rule; the next head ends it, and the end does
abbrev pub within : List Token → List own.Token
within [] = own.Semicolon ∷ []
within (Head x ∷ ts) = own.Semicolon ∷ own.Lexical ∷ own.Name x ∷ own.Equals ∷ within ts
within (Name x ∷ ts) = own.Name x ∷ within ts
within (Text word ∷ ts) = own.Literal word ∷ within ts
within (Code c ∷ ts) = own.Literal (c ∷ []) ∷ within ts
within (OneOf class ∷ ts) = own.OneOf class ∷ within ts
within (Bar ∷ ts) = own.Bar ∷ within ts
within (Open ∷ ts) = own.Open ∷ within ts
within (Close ∷ ts) = own.Close ∷ within ts
within (Question ∷ ts) = own.Question ∷ within ts
within (Star ∷ ts) = own.Star ∷ within ts
within (Plus ∷ ts) = own.Plus ∷ within ts
within (Minus ∷ ts) = own.Backslash ∷ within ts

-- the declarations that rules are
abbrev pub declared : List Token → List own.Token
declared [] = []
declared (Head x ∷ ts) = own.Lexical ∷ own.Name x ∷ own.Equals ∷ within ts
declared (t ∷ ts) = []

-- all tokens; the first is a head where they follow the rules
abbrev pub in_own_notation : List Token → List own.Token
in_own_notation (Head x ∷ ts) = own.Start ∷ own.Name x ∷ own.Semicolon ∷ own.Lexical ∷ own.Name x ∷ own.Equals ∷ within ts
in_own_notation ts = within ts

-- the tokens keep the rules, and read as the grammar
pub record ReadsAs (tokens : List Token) (g : Grammar) : Type 0 where
  pub keeps : KeepsRules tokens
  pub reading : FollowsRules (in_own_notation tokens) g
