-- How a canonical text spells each token.
use Rattle.std.specs.Prelude.{ℕ, zero, suc, ◌+◌, ◌/◌, ◌%◌, nat_lt, List, [], ◌∷◌, ◌++◌, Bool, if◌then◌else◌, ◌==◌, flat_map, codes}
use Rattle.ig_text.specs.declared.class.Class.{Class}
use Rattle.ig_text.specs.declared.class.Class.TheVariants.{Ranges, XidStart, XidContinue, Any}
use Rattle.ig_notation_syntax.specs.Token.{Token, Name, Head, Number, Literal, OneOf, Semicolon, Equals, Bar, Greater, Colon, Comma, Open, Close, OpenBrace, CloseBrace, Question, Star, Plus, Minus, Backslash, NotFollowedBy, NotPrecededBy, EqualTo, NotEqualTo, Less, AtMost, AtLeast, Start, Syntax, Lexical, Layout, Left, Right, Nonassoc, Offside, Ignore, Align, When, Let, Here, True, False, And, Or, Not, Div, Mod, Int, Bool as KindBool, Span, Tabs, Return}

-- the decimal digits of n, where it has at most so many
abbrev pub digits_within : ℕ → ℕ → List ℕ
digits_within zero n = []
digits_within (suc most) n = if nat_lt n 10 then (48 + n) ∷ [] else digits_within most (n / 10) ++ (48 + n % 10) ∷ []

-- a number in decimal; it has at most n + 1 digits
unfoldable pub numeral : ℕ → List ℕ
numeral n = digits_within (suc n) n

-- a backslash and a character
abbrev pub escape : ℕ → List ℕ
escape c = 92 ∷ c ∷ []

-- the line feed, the carriage return and the tab as `\n`, `\r` and `\t`; any other character in the way that is given
abbrev pub control_or : List ℕ → ℕ → List ℕ
control_or other c =
    if c == 10 then escape 110 else (if c == 13 then escape 114 else (if c == 9 then escape 116 else other))

-- a character of a literal: `"` and `\` have a backslash before them
abbrev pub literal_character : ℕ → List ℕ
literal_character c =
    if c == 34 then escape c else (if c == 92 then escape c else control_or (c ∷ []) c)

-- a character of a class: `[`, `]`, `^`, `-` and `\` have a backslash before them
abbrev pub class_character : ℕ → List ℕ
class_character c =
    if c == 91 then escape c else
    (if c == 93 then escape c else
    (if c == 94 then escape c else
    (if c == 45 then escape c else
    (if c == 92 then escape c else control_or (c ∷ []) c))))

-- a range of one character is that character; else its first, `-` and its last
abbrev pub range_spelling : ℕ × ℕ → List ℕ
range_spelling r = if r.0 == r.1 then class_character r.0 else class_character r.0 ++ 45 ∷ class_character r.1

abbrev pub negation : Bool → List ℕ
negation negated = if negated then 94 ∷ [] else []

-- the ranges between `[` and `]`, behind a `^` where they are negated; or the name of the class
abbrev pub class_spelling : Class → List ℕ
class_spelling (Ranges negated ranges) = 91 ∷ (negation negated ++ (flat_map range_spelling ranges ++ 93 ∷ []))
class_spelling XidStart = codes "$xid_start"
class_spelling XidContinue = codes "$xid_continue"
class_spelling Any = codes "$any"

-- the characters in quotes
abbrev pub literal_spelling : List ℕ → List ℕ
literal_spelling word = 34 ∷ (flat_map literal_character word ++ 34 ∷ [])

abbrev pub spelling : Token → List ℕ
spelling (Name x) = x
spelling (Head x) = x ++ codes "("
spelling (Number n) = numeral n
spelling (Literal word) = literal_spelling word
spelling (OneOf class) = class_spelling class
spelling Semicolon = codes ";"
spelling Equals = codes "="
spelling Bar = codes "|"
spelling Greater = codes ">"
spelling Colon = codes ":"
spelling Comma = codes ","
spelling Open = codes "("
spelling Close = codes ")"
spelling OpenBrace = codes "{"
spelling CloseBrace = codes "}"
spelling Question = codes "?"
spelling Star = codes "*"
spelling Plus = codes "+"
spelling Minus = codes "-"
spelling Backslash = 92 ∷ []
spelling NotFollowedBy = codes "!>>"
spelling NotPrecededBy = codes "!<<"
spelling EqualTo = codes "=="
spelling NotEqualTo = codes "!="
spelling Less = codes "<"
spelling AtMost = codes "<="
spelling AtLeast = codes ">="
spelling Start = codes "start"
spelling Syntax = codes "syntax"
spelling Lexical = codes "lexical"
spelling Layout = codes "layout"
spelling Left = codes "left"
spelling Right = codes "right"
spelling Nonassoc = codes "nonassoc"
spelling Offside = codes "offside"
spelling Ignore = codes "ignore"
spelling Align = codes "align"
spelling When = codes "when"
spelling Let = codes "let"
spelling Here = codes "here"
spelling True = codes "true"
spelling False = codes "false"
spelling And = codes "and"
spelling Or = codes "or"
spelling Not = codes "not"
spelling Div = codes "div"
spelling Mod = codes "mod"
spelling Int = codes "int"
spelling KindBool = codes "bool"
spelling Span = codes "span"
spelling Tabs = codes "tabs"
spelling Return = codes "return"
