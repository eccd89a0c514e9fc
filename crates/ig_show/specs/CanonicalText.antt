-- The canonical text of a grammar. `x_pieces x ps` are the pieces of x, and then ps.
use Rattle.std.specs.Prelude.{ℕ, List, [], ◌∷◌, ◌++◌, Bool, Option, Some, None, if◌then◌else◌, codes, encode_utf8_all, ℤ}
use Rattle.ig_text.specs.declared.pattern.Pattern.{Pattern}
use Rattle.ig_expr.specs.Expression.{Expression, Integer, Truth, Variable, Negative, Binary, Of, Same, Spells, Outer, Inside, FreeBefore, FreeAfter}
use Rattle.ig_expr.specs.Expression as expression
use Rattle.ig_expr.specs.declared.kind.Kind.{Kind}
use Rattle.ig_expr.specs.declared.kind.Kind.TheVariants as kind
use Rattle.ig_notation_syntax.specs.Token.{Token, Name, Head, Semicolon, Equals, Bar, Greater, Colon, Comma, Open, Close, OpenBrace, CloseBrace, Question, Minus, When}
use Rattle.ig_notation_syntax.specs.Token as sign
use Rattle.ig_grammar.specs.Symbol.{Symbol, Symbols, no_symbols, next_symbol, Alternatives, no_alternatives, next_alternative}
use Rattle.ig_grammar.specs.Symbol as tree
use Rattle.ig_grammar.specs.Alternative.{gathered_alternatives}
use Rattle.ig_grammar.specs.Binding.{Binding}
use Rattle.ig_grammar.specs.Regular.{pattern_of}
use Rattle.ig_grammar.specs.declared.filter.Filter.{Filter}
use Rattle.ig_grammar.specs.declared.filter.Filter.TheVariants as filters
use Rattle.ig_grammar.specs.declared.declaration.Param.{Param}
use Rattle.ig_grammar.specs.declared.declaration.DeclKind.{DeclKind}
use Rattle.ig_grammar.specs.declared.declaration.DeclKind.TheVariants as decls
use Rattle.ig_grammar.specs.declared.declaration.Level.{Level}
use Rattle.ig_grammar.specs.declared.declaration.Decl.{Decl}
use Rattle.ig_grammar.specs.declared.grammar.Grammar.{Grammar}
use Rattle.ig_show.specs.Signs.{integer_pieces, operator_token, function_name, truth_token, pattern_token, associativity_pieces, has_operator}
use Rattle.ig_show.specs.Pieces.{Piece, blank, line_end, token, text, tokens}

-- each of a list, with the separator before it
abbrev pub separated : {A : Type 0} → List Piece → (A → List Piece → List Piece) → List A → List Piece → List Piece
separated separator shown [] ps = ps
separated separator shown (x ∷ xs) ps = separator ++ shown x (separated separator shown xs ps)

-- each of a list, with the separator between two
abbrev pub joined : {A : Type 0} → List Piece → (A → List Piece → List Piece) → List A → List Piece → List Piece
joined separator shown [] ps = ps
joined separator shown (x ∷ xs) ps = shown x (separated separator shown xs ps)

abbrev pub comma : List Piece
comma = token Comma ∷ blank ∷ []

-- a part of an expression stands in parentheses where it has an operator
abbrev pub as_part : Bool → (List Piece → List Piece) → List Piece → List Piece
as_part operator shown ps = if operator then token Open ∷ shown (token Close ∷ ps) else shown ps

-- two arguments, joined by `, `, and `)`
abbrev pub two_arguments : (List Piece → List Piece) → (List Piece → List Piece) → List Piece → List Piece
two_arguments first second ps = first (token Comma ∷ blank ∷ second (token Close ∷ ps))

-- an operator stands between spaces, `not` and `-` have one behind them, and arguments are joined by `, `
abbrev pub expression_pieces : Expression → List Piece → List Piece
expression_pieces (Integer n) ps = integer_pieces n ps
expression_pieces (Truth b) ps = token (truth_token b) ∷ ps
expression_pieces expression.Here ps = token sign.Here ∷ ps
expression_pieces (Variable x) ps = token (Name x) ∷ ps
expression_pieces (expression.Not a) ps = token sign.Not ∷ blank ∷ as_part (has_operator a) (expression_pieces a) ps
expression_pieces (Negative a) ps = token Minus ∷ blank ∷ as_part (has_operator a) (expression_pieces a) ps
expression_pieces (Binary o a b) ps =
    as_part (has_operator a) (expression_pieces a)
    (blank ∷ token (operator_token o) ∷ blank ∷ as_part (has_operator b) (expression_pieces b) ps)
expression_pieces (Of f a) ps = token (Head (function_name f)) ∷ expression_pieces a (token Close ∷ ps)
expression_pieces (Same a b) ps =
    token (Head (codes "same")) ∷ two_arguments (expression_pieces a) (expression_pieces b) ps
expression_pieces (Spells a word) ps =
    token (Head (codes "spells")) ∷ two_arguments (expression_pieces a) (λ qs. token (sign.Literal word) ∷ qs) ps
expression_pieces (Outer a b) ps =
    token (Head (codes "outer")) ∷ two_arguments (expression_pieces a) (expression_pieces b) ps
expression_pieces (Inside a b) ps =
    token (Head (codes "inside")) ∷ two_arguments (expression_pieces a) (expression_pieces b) ps
expression_pieces (FreeBefore p) ps = token (Head (codes "free_before")) ∷ token (pattern_token p) ∷ token Close ∷ ps
expression_pieces (FreeAfter p) ps = token (Head (codes "free_after")) ∷ token (pattern_token p) ∷ token Close ∷ ps

abbrev pub part_pieces : Expression → List Piece → List Piece
part_pieces e = as_part (has_operator e) (expression_pieces e)

-- a name, and the arguments in parentheses where there are any
abbrev pub call_pieces : List ℕ → List Expression → List Piece → List Piece
call_pieces name [] ps = token (Name name) ∷ ps
call_pieces name (e ∷ es) ps = token (Head name) ∷ joined comma expression_pieces (e ∷ es) (token Close ∷ ps)

abbrev pub filter_sign : Filter → Token
filter_sign (filters.NotFollowed p) = sign.NotFollowedBy
filter_sign (filters.NotPreceded p) = sign.NotPrecededBy
filter_sign (filters.Not p) = sign.Backslash

-- before each filter a space; the sign, a space and the pattern
abbrev pub filter_pieces : Filter → List Piece → List Piece
filter_pieces f ps = token (filter_sign f) ∷ blank ∷ token (pattern_token (pattern_of f)) ∷ ps

-- `when (e)` and `let x = (e)`
abbrev pub guard_pieces : Expression → List Piece → List Piece
guard_pieces e ps = token When ∷ blank ∷ token Open ∷ expression_pieces e (token Close ∷ ps)

abbrev pub let_pieces : List ℕ → Expression → List Piece → List Piece
let_pieces name e ps =
    token sign.Let ∷ blank ∷ token (Name name) ∷ blank ∷ token Equals ∷ blank ∷ token Open ∷
    expression_pieces e (token Close ∷ ps)

-- the bindings of an inner form, each with a space behind it
abbrev pub bindings_pieces : List Binding → List Piece → List Piece
bindings_pieces [] ps = ps
bindings_pieces (b ∷ bs) ps = let_pieces b.name b.value (blank ∷ bindings_pieces bs ps)

-- a list and its separator, in braces
abbrev pub braced : (List Piece → List Piece) → (List Piece → List Piece) → List Piece → List Piece
braced item separator ps = token OpenBrace ∷ item (blank ∷ separator (token CloseBrace ∷ ps))

abbrev mutual
  pub symbol_pieces : Symbol → List Piece → List Piece
  symbol_pieces (tree.Literal word) ps = token (sign.Literal word) ∷ ps
  symbol_pieces (tree.OneOf class) ps = token (sign.OneOf class) ∷ ps
  symbol_pieces (tree.Call name es) ps = call_pieces name es ps
  symbol_pieces (tree.Label name x) ps = token (Name name) ∷ token Colon ∷ blank ∷ symbol_pieces x ps
  symbol_pieces (tree.Guard e) ps = guard_pieces e ps
  symbol_pieces (tree.Let name e) ps = let_pieces name e ps
  symbol_pieces (tree.Opt x) ps = symbol_pieces x (token Question ∷ ps)
  symbol_pieces (tree.Star x) ps = symbol_pieces x (token sign.Star ∷ ps)
  symbol_pieces (tree.Plus x) ps = symbol_pieces x (token sign.Plus ∷ ps)
  symbol_pieces (tree.SepStar x separator) ps = braced (symbol_pieces x) (symbol_pieces separator) (token sign.Star ∷ ps)
  symbol_pieces (tree.SepPlus x separator) ps = braced (symbol_pieces x) (symbol_pieces separator) (token sign.Plus ∷ ps)
  symbol_pieces (tree.Group ys) ps = token Open ∷ alternatives_pieces ys (token Close ∷ ps)
  symbol_pieces (tree.Offside x) ps = token sign.Offside ∷ blank ∷ symbol_pieces x ps
  symbol_pieces (tree.Ignore x) ps = token sign.Ignore ∷ blank ∷ symbol_pieces x ps
  symbol_pieces (tree.Align x) ps = token sign.Align ∷ blank ∷ symbol_pieces x ps
  symbol_pieces (tree.Filtered x fs) ps = symbol_pieces x (separated (blank ∷ []) filter_pieces fs ps)
  symbol_pieces (tree.Seq xs) ps = alternative_pieces xs ps
  symbol_pieces (tree.Entry bs x) ps = bindings_pieces bs (symbol_pieces x ps)

  -- symbols, with a space between two; nothing where there are none
  pub alternative_pieces : Symbols → List Piece → List Piece
  alternative_pieces no_symbols ps = ps
  alternative_pieces (next_symbol x xs) ps = symbol_pieces x (further_symbols xs ps)

  pub further_symbols : Symbols → List Piece → List Piece
  further_symbols no_symbols ps = ps
  further_symbols (next_symbol x xs) ps = blank ∷ symbol_pieces x (further_symbols xs ps)

  -- alternatives, with ` | ` between two
  pub alternatives_pieces : Alternatives → List Piece → List Piece
  alternatives_pieces no_alternatives ps = ps
  alternatives_pieces (next_alternative xs ys) ps = alternative_pieces xs (further_alternatives ys ps)

  pub further_alternatives : Alternatives → List Piece → List Piece
  further_alternatives no_alternatives ps = ps
  further_alternatives (next_alternative xs ys) ps =
      blank ∷ token Bar ∷ blank ∷ alternative_pieces xs (further_alternatives ys ps)

abbrev pub level_pieces : Level → List Piece → List Piece
level_pieces level ps = associativity_pieces level.assoc (alternatives_pieces (gathered_alternatives level.alts) ps)

-- levels, with ` > ` between two
abbrev pub levels_pieces : List Level → List Piece → List Piece
levels_pieces = joined (blank ∷ token Greater ∷ blank ∷ []) level_pieces

abbrev pub kind_token : Kind → Token
kind_token kind.Int = sign.Int
kind_token kind.Bool = sign.Bool
kind_token kind.Span = sign.Span

-- `n: int`
abbrev pub parameter_pieces : Param → List Piece → List Piece
parameter_pieces p ps = token (Name p.name) ∷ token Colon ∷ blank ∷ token (kind_token p.kind) ∷ ps

-- the declared name, and the parameters in parentheses where there are any
abbrev pub head_pieces : List ℕ → List Param → List Piece → List Piece
head_pieces name [] ps = token (Name name) ∷ ps
head_pieces name (p ∷ params) ps = token (Head name) ∷ joined comma parameter_pieces (p ∷ params) (token Close ∷ ps)

-- a plain declaration stands in no grammar text
abbrev pub declaration_token : DeclKind → Token
declaration_token decls.Syntax = sign.Syntax
declaration_token decls.Lexical = sign.Lexical
declaration_token decls.Layout = sign.Layout
declaration_token decls.Plain = Name (codes "plain")

-- the kind, the name with its parameters, ` = `, the levels and `;`, all on one line
abbrev pub declaration_pieces : Decl → List Piece → List Piece
declaration_pieces d ps =
    token (declaration_token d.kind) ∷ blank ∷
    head_pieces d.name d.params
    (blank ∷ token Equals ∷ blank ∷ levels_pieces d.levels (token Semicolon ∷ line_end ∷ ps))

-- the line `start NAME;` where there is a start
abbrev pub start_pieces : Option (List ℕ) → List Piece → List Piece
start_pieces None ps = ps
start_pieces (Some name) ps = token sign.Start ∷ blank ∷ token (Name name) ∷ token Semicolon ∷ line_end ∷ ps

-- the line `tabs N;` where a width of tabs is said
abbrev pub tabs_pieces : Option ℤ → List Piece → List Piece
tabs_pieces None ps = ps
tabs_pieces (Some n) ps = token sign.Tabs ∷ blank ∷ integer_pieces n (token Semicolon ∷ line_end ∷ ps)

abbrev pub pieces_of : Grammar → List Piece
pieces_of g = start_pieces g.start (tabs_pieces g.tabs (separated [] declaration_pieces g.decls []))

-- the canonical text of a grammar, its tokens, and the canonical texts of expressions and patterns
abbrev pub text_of : Grammar → List ℕ
text_of g = text (pieces_of g)

abbrev pub tokens_of : Grammar → List Token
tokens_of g = tokens (pieces_of g)

abbrev pub expression_text : Expression → List ℕ
expression_text e = text (expression_pieces e [])

abbrev pub pattern_text : Pattern → List ℕ
pattern_text p = text (token (pattern_token p) ∷ [])

-- the canonical texts of expressions and patterns, as UTF-8
abbrev pub expression_bytes : Expression → List ℕ
expression_bytes e = encode_utf8_all (expression_text e)

abbrev pub pattern_bytes : Pattern → List ℕ
pattern_bytes p = encode_utf8_all (pattern_text p)
