-- A machine that reads tokens one by one. What is still wanted is a stack; a token takes the first want that it can
-- begin, and those above that one may lack. The machine stops at the first token that can't follow.
use Rattle.std.specs.Prelude.{ℕ, suc, List, [], ◌∷◌, ◌++◌, Bool, true, false, ◌&&◌, ◌||◌, if◌then◌else◌, codes}
use Rattle.std.specs.Prelude.{Option, Some, None}
use Rattle.ig_text.specs.Words.{is_word}
use Rattle.ig_notation_syntax.specs.Token.{Token, Name, Head, Number, Literal, OneOf, Semicolon, Equals, Bar, Greater, Colon, Comma, Open, Close, OpenBrace, CloseBrace, Question, Star, Plus, Minus, Backslash, NotFollowedBy, NotPrecededBy, EqualTo, NotEqualTo, Less, AtMost, AtLeast}
use Rattle.ig_notation_syntax.specs.Token.{Start, Syntax, Lexical, Layout, Left, Right, Nonassoc, Offside, Ignore, Align, When, Let, Here, True, False, And, Or, Not, Div, Mod, Int, Bool as BoolWord, Span, Tabs}

pub data Want : Type 0 where
  -- the parts that the rules name; of these the first three, the associativity and the alternative may lack
  grammar : Want
  body : Want
  declarations : Want
  associativity : Want
  alternative : Want
  declaration : Want
  parameter : Want
  symbol : Want
  marked : Want
  post : Want
  atom : Want
  expression : Want
  term : Want
  -- what may stand behind a part, and may lack
  parameters_rest : Want
  levels_rest : Want
  alternatives_rest : Want
  arguments_rest : Want
  operator_rest : Want
  filters : Want
  sign : Want
  -- behind a name that begins a symbol: a colon and what it labels, or the sign and the filters of a call
  name_rest : Want
  -- a token out of several
  heading : Want
  kind : Want
  pattern : Want
  list_sign : Want
  -- one token
  name : Want
  numeral : Want
  literal : Want
  semicolon : Want
  equals : Want
  colon : Want
  comma : Want
  open_bracket : Want
  close_bracket : Want
  close_brace : Want

abbrev pub may_lack : Want → Bool
may_lack grammar = true
may_lack body = true
may_lack declarations = true
may_lack associativity = true
may_lack alternative = true
may_lack parameters_rest = true
may_lack levels_rest = true
may_lack alternatives_rest = true
may_lack arguments_rest = true
may_lack operator_rest = true
may_lack filters = true
may_lack sign = true
may_lack name_rest = true
may_lack _ = false

-- rows, each with these wants behind it
abbrev pub before : List Want → Option (List Want) → Option (List Want)
before rest None = None
before rest (Some row) = Some (row ++ rest)

-- alternatives, a level and arguments, as what they begin with
abbrev pub alternatives_wants : List Want
alternatives_wants = alternative ∷ alternatives_rest ∷ []

abbrev pub level_wants : List Want
level_wants = associativity ∷ alternatives_wants

abbrev pub levels_wants : List Want
levels_wants = level_wants ++ levels_rest ∷ []

abbrev pub arguments_wants : List Want
arguments_wants = expression ∷ arguments_rest ∷ []

abbrev pub parameters_wants : List Want
parameters_wants = parameter ∷ parameters_rest ∷ []

-- the functions of one expression
abbrev pub is_function_name : List ℕ → Bool
is_function_name x =
    is_word x (codes "begin") || is_word x (codes "end") || is_word x (codes "size") || is_word x (codes "column") ||
    is_word x (codes "line") || is_word x (codes "number")

-- what is wanted behind the name of a function
abbrev pub after_function : List ℕ → Option (List Want)
after_function x =
    if is_function_name x then Some (expression ∷ close_bracket ∷ []) else
    if is_word x (codes "same") then Some (expression ∷ comma ∷ expression ∷ close_bracket ∷ []) else
    if is_word x (codes "spells") then Some (expression ∷ comma ∷ literal ∷ close_bracket ∷ []) else None

-- what is wanted behind the first token of a term, and of the other parts; None where it can't be the first
abbrev pub after_term : Token → Option (List Want)
after_term (Number n) = Some []
after_term True = Some []
after_term False = Some []
after_term Here = Some []
after_term (Name x) = Some []
after_term Open = Some (expression ∷ close_bracket ∷ [])
after_term (Head x) = after_function x
after_term _ = None

abbrev pub after_expression : Token → Option (List Want)
after_expression Not = Some (term ∷ [])
after_expression Minus = Some (term ∷ [])
after_expression t = before (operator_rest ∷ []) (after_term t)

abbrev pub after_operator_rest : Token → Option (List Want)
after_operator_rest Plus = Some (term ∷ [])
after_operator_rest Minus = Some (term ∷ [])
after_operator_rest Star = Some (term ∷ [])
after_operator_rest Div = Some (term ∷ [])
after_operator_rest Mod = Some (term ∷ [])
after_operator_rest Less = Some (term ∷ [])
after_operator_rest AtMost = Some (term ∷ [])
after_operator_rest Greater = Some (term ∷ [])
after_operator_rest AtLeast = Some (term ∷ [])
after_operator_rest EqualTo = Some (term ∷ [])
after_operator_rest NotEqualTo = Some (term ∷ [])
after_operator_rest And = Some (term ∷ [])
after_operator_rest Or = Some (term ∷ [])
after_operator_rest _ = None

abbrev pub after_arguments_rest : Token → Option (List Want)
after_arguments_rest Comma = Some arguments_wants
after_arguments_rest _ = None

abbrev pub after_atom : Token → Option (List Want)
after_atom (Literal word) = Some []
after_atom (OneOf class) = Some []
after_atom (Name x) = Some []
after_atom (Head x) = Some (arguments_wants ++ close_bracket ∷ [])
after_atom Open = Some (alternatives_wants ++ close_bracket ∷ [])
after_atom _ = None

abbrev pub after_sign : Token → Option (List Want)
after_sign Question = Some []
after_sign Star = Some []
after_sign Plus = Some []
after_sign _ = None

abbrev pub after_list_sign : Token → Option (List Want)
after_list_sign Star = Some []
after_list_sign Plus = Some []
after_list_sign _ = None

abbrev pub after_pattern : Token → Option (List Want)
after_pattern (Literal word) = Some []
after_pattern (OneOf class) = Some []
after_pattern _ = None

abbrev pub after_filters : Token → Option (List Want)
after_filters NotFollowedBy = Some (pattern ∷ filters ∷ [])
after_filters NotPrecededBy = Some (pattern ∷ filters ∷ [])
after_filters Backslash = Some (pattern ∷ filters ∷ [])
after_filters _ = None

abbrev pub after_post : Token → Option (List Want)
after_post OpenBrace = Some (marked ∷ marked ∷ close_brace ∷ list_sign ∷ filters ∷ [])
after_post t = before (sign ∷ filters ∷ []) (after_atom t)

abbrev pub after_marked : Token → Option (List Want)
after_marked Offside = Some (post ∷ [])
after_marked Ignore = Some (post ∷ [])
after_marked Align = Some (post ∷ [])
after_marked t = after_post t

abbrev pub after_symbol : Token → Option (List Want)
after_symbol When = Some (open_bracket ∷ expression ∷ close_bracket ∷ [])
after_symbol Let = Some (name ∷ equals ∷ open_bracket ∷ expression ∷ close_bracket ∷ [])
after_symbol (Name x) = Some (name_rest ∷ [])
after_symbol t = after_marked t

abbrev pub after_name_rest : Token → Option (List Want)
after_name_rest Colon = Some (marked ∷ [])
after_name_rest Question = Some (filters ∷ [])
after_name_rest Star = Some (filters ∷ [])
after_name_rest Plus = Some (filters ∷ [])
after_name_rest t = after_filters t

abbrev pub after_alternative : Token → Option (List Want)
after_alternative t = before (alternative ∷ []) (after_symbol t)

abbrev pub after_alternatives_rest : Token → Option (List Want)
after_alternatives_rest Bar = Some alternatives_wants
after_alternatives_rest _ = None

abbrev pub after_associativity : Token → Option (List Want)
after_associativity Left = Some []
after_associativity Right = Some []
after_associativity Nonassoc = Some []
after_associativity _ = None

abbrev pub after_levels_rest : Token → Option (List Want)
after_levels_rest Greater = Some levels_wants
after_levels_rest _ = None

abbrev pub after_kind : Token → Option (List Want)
after_kind Int = Some []
after_kind BoolWord = Some []
after_kind Span = Some []
after_kind _ = None

abbrev pub after_parameter : Token → Option (List Want)
after_parameter (Name x) = Some (colon ∷ kind ∷ [])
after_parameter _ = None

abbrev pub after_parameters_rest : Token → Option (List Want)
after_parameters_rest Comma = Some parameters_wants
after_parameters_rest _ = None

abbrev pub after_heading : Token → Option (List Want)
after_heading (Name x) = Some []
after_heading (Head x) = Some (parameters_wants ++ close_bracket ∷ [])
after_heading _ = None

-- what is wanted behind the kind of a declaration
abbrev pub declaration_wants : List Want
declaration_wants = heading ∷ equals ∷ levels_wants ++ semicolon ∷ []

abbrev pub after_declaration : Token → Option (List Want)
after_declaration Syntax = Some declaration_wants
after_declaration Lexical = Some declaration_wants
after_declaration Layout = Some declaration_wants
after_declaration _ = None

abbrev pub after_declarations : Token → Option (List Want)
after_declarations t = before (declarations ∷ []) (after_declaration t)

abbrev pub after_body : Token → Option (List Want)
after_body Tabs = Some (numeral ∷ semicolon ∷ declarations ∷ [])
after_body t = after_declarations t

abbrev pub after_grammar : Token → Option (List Want)
after_grammar Start = Some (name ∷ semicolon ∷ body ∷ [])
after_grammar t = after_body t

abbrev pub after_name : Token → Option (List Want)
after_name (Name x) = Some []
after_name _ = None

abbrev pub after_numeral : Token → Option (List Want)
after_numeral (Number n) = Some []
after_numeral _ = None

abbrev pub after_literal : Token → Option (List Want)
after_literal (Literal word) = Some []
after_literal _ = None

abbrev pub after_semicolon : Token → Option (List Want)
after_semicolon Semicolon = Some []
after_semicolon _ = None

abbrev pub after_equals : Token → Option (List Want)
after_equals Equals = Some []
after_equals _ = None

abbrev pub after_colon : Token → Option (List Want)
after_colon Colon = Some []
after_colon _ = None

abbrev pub after_comma : Token → Option (List Want)
after_comma Comma = Some []
after_comma _ = None

abbrev pub after_open_bracket : Token → Option (List Want)
after_open_bracket Open = Some []
after_open_bracket _ = None

abbrev pub after_close_bracket : Token → Option (List Want)
after_close_bracket Close = Some []
after_close_bracket _ = None

abbrev pub after_close_brace : Token → Option (List Want)
after_close_brace CloseBrace = Some []
after_close_brace _ = None

-- the table: what is wanted in place of the want, once this token is read
abbrev pub after : Want → Token → Option (List Want)
after grammar t = after_grammar t
after body t = after_body t
after declarations t = after_declarations t
after associativity t = after_associativity t
after alternative t = after_alternative t
after declaration t = after_declaration t
after parameter t = after_parameter t
after symbol t = after_symbol t
after marked t = after_marked t
after post t = after_post t
after atom t = after_atom t
after expression t = after_expression t
after term t = after_term t
after parameters_rest t = after_parameters_rest t
after levels_rest t = after_levels_rest t
after alternatives_rest t = after_alternatives_rest t
after arguments_rest t = after_arguments_rest t
after operator_rest t = after_operator_rest t
after filters t = after_filters t
after sign t = after_sign t
after name_rest t = after_name_rest t
after heading t = after_heading t
after kind t = after_kind t
after pattern t = after_pattern t
after list_sign t = after_list_sign t
after name t = after_name t
after numeral t = after_numeral t
after literal t = after_literal t
after semicolon t = after_semicolon t
after equals t = after_equals t
after colon t = after_colon t
after comma t = after_comma t
after open_bracket t = after_open_bracket t
after close_bracket t = after_close_bracket t
after close_brace t = after_close_brace t

-- the row before what is wanted behind; else what the token makes of that, if the want may lack
abbrev pub chosen : Option (List Want) → Bool → List Want → Option (List Want) → Option (List Want)
chosen (Some row) lacks behind past = Some (row ++ behind)
chosen None true behind past = past
chosen None false behind past = None

-- what a token makes of a stack; None where it can't follow
abbrev pub step : List Want → Token → Option (List Want)
step [] t = None
step (x ∷ behind) t = chosen (after x t) (may_lack x) behind (step behind t)

abbrev pub all_may_lack : List Want → Bool
all_may_lack [] = true
all_may_lack (x ∷ behind) = may_lack x && all_may_lack behind

-- the number n where there is no stack
abbrev pub go : ℕ → (List Want → Option ℕ) → Option (List Want) → Option ℕ
go n on None = Some n
go n on (Some stack) = on stack

-- From a stack and the number of the next token: the number of the token at which the machine stops, or that of all
-- tokens where they end too early; None where all is taken.
abbrev pub run : ℕ → List Want → List Token → Option ℕ
run n stack [] = if all_may_lack stack then None else Some n
run n stack (t ∷ tokens) = go n (λ next. run (suc n) next tokens) (step stack t)
