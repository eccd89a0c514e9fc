-- The tokens of the notation, with what they mean.
use Rattle.std.specs.Prelude.{ℕ, List}
use Rattle.ig_text.specs.declared.class.Class.{Class}

pub data Token : Type 0 where
  -- a name, by its characters
  Name : List ℕ → Token
  -- a name with `(` directly after it
  Head : List ℕ → Token
  Number : ℕ → Token
  -- what a literal matches, each escape as the character that it stands for
  Literal : List ℕ → Token
  -- a class, its ranges in normal form
  OneOf : Class → Token
  -- the signs ; = | > : , ( ) { } ? * + - \ !>> !<< == != < <= >=
  Semicolon : Token
  Equals : Token
  Bar : Token
  Greater : Token
  Colon : Token
  Comma : Token
  Open : Token
  Close : Token
  OpenBrace : Token
  CloseBrace : Token
  Question : Token
  Star : Token
  Plus : Token
  Minus : Token
  Backslash : Token
  NotFollowedBy : Token
  NotPrecededBy : Token
  EqualTo : Token
  NotEqualTo : Token
  Less : Token
  AtMost : Token
  AtLeast : Token
  -- the keywords, which are no names
  Start : Token
  Syntax : Token
  Lexical : Token
  Layout : Token
  Left : Token
  Right : Token
  Nonassoc : Token
  Offside : Token
  Ignore : Token
  Align : Token
  When : Token
  Let : Token
  Here : Token
  True : Token
  False : Token
  And : Token
  Or : Token
  Not : Token
  Div : Token
  Mod : Token
  Int : Token
  Bool : Token
  Span : Token
  -- the last two are reserved: they stand in no rule
  Tabs : Token
  Return : Token
