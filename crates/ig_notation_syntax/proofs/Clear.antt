-- Stacks in which one token of foresight decides: no token that takes a row of what may lack at the end of a want can
-- begin what stands behind that want.
use Rattle.std.proofs.Common.{◌≡◌, ℕ, List, [], ◌∷◌, ◌++◌, refl, sym, subst, Bool, true, false}
use Rattle.std.specs.Prelude.{Option, Some, None, codes}
use Rattle.std.proofs.lemmas.Bool.{cond_both}
use Rattle.std.proofs.lemmas.List.{append_assoc}
use Rattle.ig_text.specs.Words.{is_word}
use Rattle.ig_notation_syntax.specs.Token.{Token, Name, Head, Number, Literal, OneOf, Semicolon, Equals, Bar, Greater, Colon, Comma, Open, Close, OpenBrace, CloseBrace, Question, Star, Plus, Minus, Backslash, NotFollowedBy, NotPrecededBy, EqualTo, NotEqualTo, Less, AtMost, AtLeast}
use Rattle.ig_notation_syntax.specs.Token.{Start, Syntax, Lexical, Layout, Left, Right, Nonassoc, Offside, Ignore, Align, When, Let, Here, True, False, And, Or, Not, Div, Mod, Int, Bool as BoolWord, Span, Tabs}
use Rattle.ig_notation_syntax.specs.Machine.{Want, grammar, body, declarations, associativity, alternative, declaration, parameter, symbol, marked, post, atom, expression, term}
use Rattle.ig_notation_syntax.specs.Machine.{parameters_rest, levels_rest, alternatives_rest, arguments_rest, operator_rest, filters, sign, name_rest, heading, kind, pattern, list_sign}
use Rattle.ig_notation_syntax.specs.Machine.{name, numeral, literal, semicolon, equals, colon, comma, open_bracket, close_bracket, close_brace}
use Rattle.ig_notation_syntax.specs.Machine.{before, may_lack, is_function_name, after_function, after_term, after_expression, after_operator_rest, after_atom, after_post, after_marked, after_symbol, after_alternative, after_declaration, after_declarations, after_body, after_grammar, after, chosen, step}
use Rattle.ig_notation_syntax.specs.Machine.{levels_wants, declaration_wants}
use Rattle.ig_notation_syntax.proofs.Spans.{OnRow}

-- what may lack at the end of the want
abbrev pub ends : Want → List Want
ends grammar = grammar ∷ []
ends body = body ∷ []
ends declarations = declarations ∷ []
ends associativity = associativity ∷ []
ends alternative = alternative ∷ name_rest ∷ []
ends symbol = name_rest ∷ []
ends marked = sign ∷ filters ∷ []
ends post = sign ∷ filters ∷ []
ends expression = operator_rest ∷ []
ends parameters_rest = parameters_rest ∷ []
ends levels_rest = levels_rest ∷ associativity ∷ alternatives_rest ∷ alternative ∷ name_rest ∷ []
ends alternatives_rest = alternatives_rest ∷ alternative ∷ name_rest ∷ []
ends arguments_rest = arguments_rest ∷ operator_rest ∷ []
ends operator_rest = operator_rest ∷ []
ends filters = filters ∷ []
ends sign = sign ∷ []
ends name_rest = name_rest ∷ []
ends _ = []

abbrev pub some : Option (List Want) → Bool
some None = false
some (Some row) = true

-- the want bars the token behind it
abbrev pub Bars : Want → Token → Type 0
Bars x t = some (step (ends x) t) ≡ true

-- no token that the want bars can begin the stack
abbrev pub Clear : Want → List Want → Type 0
Clear x k = (t : Token) → Bars x t → step k t ≡ None

abbrev pub Good : List Want → Type 0
Good [] = Unit {0}
Good (x ∷ k) = Clear x k × Good k

-- a want that bars nothing
plain : (k : List Want) (t : Token) → false ≡ true → step k t ≡ None
plain k t h = cc

-- before a want whose rows the barred tokens don't take
chosen_none : (b : Bool) (k : List Want) (past : Option (List Want)) → (b ≡ true → past ≡ None) → chosen None b k past ≡ None
chosen_none true k past h = h refl
chosen_none false k past h = refl

-- the tokens that x bars take no row of y
abbrev pub Apart : Want → Want → Type 0
Apart x y = (t : Token) → Bars x t → after y t ≡ None

abbrev pub Within : Want → Want → Type 0
Within y x = (t : Token) → Bars y t → Bars x t

ahead : (x y : Want) (k : List Want) → Apart x y → (may_lack y ≡ true → Clear x k) → Clear x (y ∷ k)
ahead x y k apart h t b = rw (apart t b) (chosen_none (may_lack y) k (step k t) (λ e. h e t b))

firm : (x y : Want) (k : List Want) → Apart x y → may_lack y ≡ false → Clear x (y ∷ k)
firm x y k apart e = ahead x y k apart (λ h. cc)

past : (x y : Want) (k : List Want) → Apart x y → Clear x k → Clear x (y ∷ k)
past x y k apart h = ahead x y k apart (λ _. h)

narrower : (y x : Want) (k : List Want) → Within y x → Clear x k → Clear y k
narrower y x k within h t b = h t (within t b)

expression-close : Apart expression close_bracket
expression-close Close b = cc
expression-close _ b = cc

expression-comma : Apart expression comma
expression-comma Comma b = cc
expression-comma _ b = cc

expression-arguments : Apart expression arguments_rest
expression-arguments Comma b = cc
expression-arguments _ b = cc

arguments-close : Apart arguments_rest close_bracket
arguments-close Close b = cc
arguments-close _ b = cc

pub expression-in-arguments : Within expression arguments_rest
expression-in-arguments Comma b = cc
expression-in-arguments _ b = cc

parameters-close : Apart parameters_rest close_bracket
parameters-close Close b = cc
parameters-close _ b = cc

pub sign-filters : Apart sign filters
sign-filters Question b = cc
sign-filters _ b = cc

pub sign-in-post : Within sign post
sign-in-post Question b = cc
sign-in-post _ b = cc

pub filters-in-post : Within filters post
filters-in-post Question b = cc
filters-in-post _ b = cc

post-in-name : Within post name_rest
post-in-name Question b = cc
post-in-name _ b = cc

filters-in-name : Within filters name_rest
filters-in-name Question b = cc
filters-in-name _ b = cc

pub marked-marked : Apart marked marked
marked-marked Question b = cc
marked-marked _ b = cc

marked-brace : Apart marked close_brace
marked-brace CloseBrace b = cc
marked-brace _ b = cc

pub symbol-alternative : Apart symbol alternative
symbol-alternative Question b = cc
symbol-alternative _ b = cc

pub marked-in-symbol : Within marked symbol
marked-in-symbol Question b = cc
marked-in-symbol _ b = cc

pub symbol-in-alternative : Within symbol alternative
symbol-in-alternative Question b = cc
symbol-in-alternative _ b = cc

alternative-alternatives : Apart alternative alternatives_rest
alternative-alternatives Bar b = cc
alternative-alternatives _ b = cc

pub alternative-in-alternatives : Within alternative alternatives_rest
alternative-in-alternatives Bar b = cc
alternative-in-alternatives _ b = cc

alternatives-close : Apart alternatives_rest close_bracket
alternatives-close Close b = cc
alternatives-close _ b = cc

alternatives-levels : Apart alternatives_rest levels_rest
alternatives-levels Greater b = cc
alternatives-levels _ b = cc

pub alternatives-in-levels : Within alternatives_rest levels_rest
alternatives-in-levels Bar b = cc
alternatives-in-levels _ b = cc

pub associativity-alternative : Apart associativity alternative
associativity-alternative Left b = cc
associativity-alternative _ b = cc

pub associativity-alternatives : Apart associativity alternatives_rest
associativity-alternatives Left b = cc
associativity-alternatives _ b = cc

associativity-levels : Apart associativity levels_rest
associativity-levels Left b = cc
associativity-levels _ b = cc

pub associativity-in-levels : Within associativity levels_rest
associativity-in-levels Left b = cc
associativity-in-levels _ b = cc

levels-semicolon : Apart levels_rest semicolon
levels-semicolon Semicolon b = cc
levels-semicolon _ b = cc

declarations-in-body : Within declarations body
declarations-in-body Syntax b = cc
declarations-in-body _ b = cc

body-in-grammar : Within body grammar
body-in-grammar Syntax b = cc
body-in-grammar _ b = cc

-- each row keeps a stack good
before_good : (rest k : List Want) (o : Option (List Want)) → OnRow (λ row. Good (row ++ (rest ++ k))) o → OnRow (λ row. Good (row ++ k)) (before rest o)
before_good rest k None g = tt
before_good rest k (Some row) g = subst Good (sym (append_assoc row rest k)) g

closed : (k : List Want) → Good k → Good (expression ∷ close_bracket ∷ k)
closed k g = (firm expression close_bracket k expression-close refl, (plain k, g))

function_good : (k : List Want) → Good k → (x : List ℕ) → OnRow (λ row. Good (row ++ k)) (after_function x)
function_good k g x =
    cond_both (is_function_name x) _ _ (OnRow (λ row. Good (row ++ k)))
    (λ _. closed k g)
    (λ _. cond_both (is_word x (codes "same")) _ _ (OnRow (λ row. Good (row ++ k)))
    (λ _. (firm expression comma _ expression-comma refl, (λ t b. cc, closed k g)))
    (λ _. cond_both (is_word x (codes "spells")) _ _ (OnRow (λ row. Good (row ++ k)))
    (λ _. (firm expression comma _ expression-comma refl, (λ t b. cc, (λ t b. cc, (plain k, g)))))
    (λ _. tt)))

term_good : (k : List Want) → Good k → (t : Token) → OnRow (λ row. Good (row ++ k)) (after_term t)
term_good k g (Number n) = g
term_good k g True = g
term_good k g False = g
term_good k g Here = g
term_good k g (Name x) = g
term_good k g Open = closed k g
term_good k g (Head x) = function_good k g x
term_good k g _ = tt

expression_good : (k : List Want) → Clear expression k → Good k → (t : Token) → OnRow (λ row. Good (row ++ k)) (after_expression t)
expression_good k c g Not = (plain k, g)
expression_good k c g Minus = (plain k, g)
expression_good k c g t = before_good (operator_rest ∷ []) k (after_term t) (term_good (operator_rest ∷ k) (c, g) t)

operator_good : (k : List Want) → Good k → (t : Token) → OnRow (λ row. Good (row ++ k)) (after_operator_rest t)
operator_good k g Plus = (plain k, g)
operator_good k g Minus = (plain k, g)
operator_good k g Star = (plain k, g)
operator_good k g Div = (plain k, g)
operator_good k g Mod = (plain k, g)
operator_good k g Less = (plain k, g)
operator_good k g AtMost = (plain k, g)
operator_good k g Greater = (plain k, g)
operator_good k g AtLeast = (plain k, g)
operator_good k g EqualTo = (plain k, g)
operator_good k g NotEqualTo = (plain k, g)
operator_good k g And = (plain k, g)
operator_good k g Or = (plain k, g)
operator_good k g _ = tt

arguments_good : (k : List Want) → Clear arguments_rest k → Good k → Good (expression ∷ arguments_rest ∷ k)
arguments_good k c g =
    (past expression arguments_rest k expression-arguments (narrower expression arguments_rest k expression-in-arguments c), (c, g))

alternatives_good : (k : List Want) → Clear alternatives_rest k → Good k → Good (alternative ∷ alternatives_rest ∷ k)
alternatives_good k c g =
    (past alternative alternatives_rest k alternative-alternatives (narrower alternative alternatives_rest k alternative-in-alternatives c), (c, g))

atom_good : (k : List Want) → Good k → (t : Token) → OnRow (λ row. Good (row ++ k)) (after_atom t)
atom_good k g (Literal word) = g
atom_good k g (OneOf class) = g
atom_good k g (Name x) = g
atom_good k g (Head x) = arguments_good (close_bracket ∷ k) (firm arguments_rest close_bracket k arguments-close refl) (plain k, g)
atom_good k g Open = alternatives_good (close_bracket ∷ k) (firm alternatives_rest close_bracket k alternatives-close refl) (plain k, g)
atom_good k g _ = tt

filters_good : (k : List Want) → Clear filters k → Good k → (t : Token) → OnRow (λ row. Good (row ++ k)) (after filters t)
filters_good k c g NotFollowedBy = (λ t b. cc, (c, g))
filters_good k c g NotPrecededBy = (λ t b. cc, (c, g))
filters_good k c g Backslash = (λ t b. cc, (c, g))
filters_good k c g _ = tt

post_good : (k : List Want) → Clear post k → Good k → (t : Token) → OnRow (λ row. Good (row ++ k)) (after_post t)
post_good k c g OpenBrace = (
  firm marked marked _ marked-marked refl,
  (
    firm marked close_brace _ marked-brace refl,
    (λ t b. cc, (λ t b. cc, (narrower filters post k filters-in-post c, g))),
  ),
)
post_good k c g t =
    before_good (sign ∷ filters ∷ []) k (after_atom t)
    (atom_good (sign ∷ filters ∷ k)
    (past sign filters k sign-filters (narrower sign post k sign-in-post c), (narrower filters post k filters-in-post c, g)) t)

marked_good : (k : List Want) → Clear marked k → Good k → (t : Token) → OnRow (λ row. Good (row ++ k)) (after_marked t)
marked_good k c g Offside = (c, g)
marked_good k c g Ignore = (c, g)
marked_good k c g Align = (c, g)
marked_good k c g t = post_good k c g t

symbol_good : (k : List Want) → Clear symbol k → Good k → (t : Token) → OnRow (λ row. Good (row ++ k)) (after_symbol t)
symbol_good k c g When = (λ t b. cc, closed k g)
symbol_good k c g Let = (λ t b. cc, (λ t b. cc, (λ t b. cc, closed k g)))
symbol_good k c g (Name x) = (c, g)
symbol_good k c g t = marked_good k (narrower marked symbol k marked-in-symbol c) g t

name_good : (k : List Want) → Clear name_rest k → Good k → (t : Token) → OnRow (λ row. Good (row ++ k)) (after name_rest t)
name_good k c g Colon = (narrower marked name_rest k post-in-name c, g)
name_good k c g Question = (narrower filters name_rest k filters-in-name c, g)
name_good k c g Star = (narrower filters name_rest k filters-in-name c, g)
name_good k c g Plus = (narrower filters name_rest k filters-in-name c, g)
name_good k c g t = filters_good k (narrower filters name_rest k filters-in-name c) g t

alternative_good : (k : List Want) → Clear alternative k → Good k → (t : Token) → OnRow (λ row. Good (row ++ k)) (after_alternative t)
alternative_good k c g t =
    before_good (alternative ∷ []) k (after_symbol t)
    (symbol_good (alternative ∷ k) (past symbol alternative k symbol-alternative (narrower symbol alternative k symbol-in-alternative c)) (c, g) t)

levels_good : (k : List Want) → Clear levels_rest k → Good k → Good (levels_wants ++ k)
levels_good k c g = (
  past associativity alternative _ associativity-alternative
      (past associativity alternatives_rest _ associativity-alternatives
      (past associativity levels_rest k associativity-levels (narrower associativity levels_rest k associativity-in-levels c))),
  alternatives_good (levels_rest ∷ k)
      (past alternatives_rest levels_rest k alternatives-levels (narrower alternatives_rest levels_rest k alternatives-in-levels c))
      (c, g),
)

declared_good : (k : List Want) → Good k → Good (declaration_wants ++ k)
declared_good k g = (λ t b. cc, (λ t b. cc, levels_good (semicolon ∷ k) (firm levels_rest semicolon k levels-semicolon refl) (plain k, g)))

declaration_good : (k : List Want) → Good k → (t : Token) → OnRow (λ row. Good (row ++ k)) (after_declaration t)
declaration_good k g Syntax = declared_good k g
declaration_good k g Lexical = declared_good k g
declaration_good k g Layout = declared_good k g
declaration_good k g _ = tt

declarations_good : (k : List Want) → Clear declarations k → Good k → (t : Token) → OnRow (λ row. Good (row ++ k)) (after_declarations t)
declarations_good k c g t = before_good (declarations ∷ []) k (after_declaration t) (declaration_good (declarations ∷ k) (c, g) t)

body_good : (k : List Want) → Clear body k → Good k → (t : Token) → OnRow (λ row. Good (row ++ k)) (after_body t)
body_good k c g Tabs = (λ t b. cc, (λ t b. cc, (narrower declarations body k declarations-in-body c, g)))
body_good k c g t = declarations_good k (narrower declarations body k declarations-in-body c) g t

grammar_good : (k : List Want) → Clear grammar k → Good k → (t : Token) → OnRow (λ row. Good (row ++ k)) (after_grammar t)
grammar_good k c g Start = (λ t b. cc, (λ t b. cc, (narrower body grammar k body-in-grammar c, g)))
grammar_good k c g t = body_good k (narrower body grammar k body-in-grammar c) g t

row_good : (x : Want) (k : List Want) → Clear x k → Good k → (t : Token) → OnRow (λ row. Good (row ++ k)) (after x t)
row_good grammar k c g t = grammar_good k c g t
row_good body k c g t = body_good k c g t
row_good declarations k c g t = declarations_good k c g t
row_good alternative k c g t = alternative_good k c g t
row_good declaration k c g t = declaration_good k g t
row_good symbol k c g t = symbol_good k c g t
row_good marked k c g t = marked_good k c g t
row_good post k c g t = post_good k c g t
row_good atom k c g t = atom_good k g t
row_good expression k c g t = expression_good k c g t
row_good term k c g t = term_good k g t
row_good operator_rest k c g t = operator_good k g t
row_good filters k c g t = filters_good k c g t
row_good name_rest k c g t = name_good k c g t
row_good associativity k c g Left = g
row_good associativity k c g Right = g
row_good associativity k c g Nonassoc = g
row_good parameter k c g (Name x) = (λ t b. cc, (plain k, g))
row_good parameters_rest k c g Comma = (λ t b. cc, (c, g))
row_good levels_rest k c g Greater = levels_good k c g
row_good alternatives_rest k c g Bar = alternatives_good k c g
row_good arguments_rest k c g Comma = arguments_good k c g
row_good sign k c g Question = g
row_good sign k c g Star = g
row_good sign k c g Plus = g
row_good heading k c g (Name x) = g
row_good heading k c g (Head x) = (λ t b. cc, (firm parameters_rest close_bracket k parameters-close refl, (plain k, g)))
row_good kind k c g Int = g
row_good kind k c g BoolWord = g
row_good kind k c g Span = g
row_good pattern k c g (Literal x) = g
row_good pattern k c g (OneOf x) = g
row_good list_sign k c g Star = g
row_good list_sign k c g Plus = g
row_good name k c g (Name x) = g
row_good numeral k c g (Number n) = g
row_good literal k c g (Literal x) = g
row_good semicolon k c g Semicolon = g
row_good equals k c g Equals = g
row_good colon k c g Colon = g
row_good comma k c g Comma = g
row_good open_bracket k c g Open = g
row_good close_bracket k c g Close = g
row_good close_brace k c g CloseBrace = g
row_good _ k c g _ = tt

pub step_good : (k : List Want) (t : Token) → Good k → OnRow Good (step k t)
step_good [] t g = tt
step_good (x ∷ k) t g = choice (after x t) (may_lack x) (step k t) (row_good x k g.0 g.1 t) (step_good k t g.1)
  where
    choice : (o : Option (List Want)) (b : Bool) (past : Option (List Want)) → OnRow (λ row. Good (row ++ k)) o → OnRow Good past →
        OnRow Good (chosen o b k past)
    choice (Some row) b past h p = h
    choice None true past h p = p
    choice None false past h p = tt

-- what may lack bars the tokens of its rows
some_row : (o : Option (List Want)) (b : Bool) (k : List Want) (past : Option (List Want)) (row : List Want) → o ≡ Some row →
    some (chosen o b k past) ≡ true
some_row o b k past row e = rw e refl

pub barred : (x : Want) → may_lack x ≡ true → (t : Token) (row : List Want) → after x t ≡ Some row → Bars x t
barred grammar h t row e = some_row _ _ _ _ row e
barred body h t row e = some_row _ _ _ _ row e
barred declarations h t row e = some_row _ _ _ _ row e
barred associativity h t row e = some_row _ _ _ _ row e
barred alternative h t row e = some_row _ _ _ _ row e
barred parameters_rest h t row e = some_row _ _ _ _ row e
barred levels_rest h t row e = some_row _ _ _ _ row e
barred alternatives_rest h t row e = some_row _ _ _ _ row e
barred arguments_rest h t row e = some_row _ _ _ _ row e
barred operator_rest h t row e = some_row _ _ _ _ row e
barred filters h t row e = some_row _ _ _ _ row e
barred sign h t row e = some_row _ _ _ _ row e
barred name_rest h t row e = some_row _ _ _ _ row e
barred _ h t row e = absurd (cc)
