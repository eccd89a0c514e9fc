-- The rules of the notation: which tokens read as which part of a grammar. In `ReadsX from rest x` the tokens from
-- `from` up to `rest` read as x.
use Rattle.std.specs.Prelude.{◌≡◌, ℕ, List, [], ◌∷◌, Some, None, pos, codes, true, false, Option, ℤ}
use Rattle.ig_text.specs.declared.class.Class.{Class}
use Rattle.ig_text.specs.declared.pattern.Pattern.{Pattern}
use Rattle.ig_text.specs.declared.pattern.Pattern.TheVariants as patterns
use Rattle.ig_expr.specs.Expression.{Expression, Integer, Truth, Variable, Negative, Binary, Of, Same, Spells}
use Rattle.ig_expr.specs.Expression as expression
use Rattle.ig_expr.specs.declared.operator.Op.{Op}
use Rattle.ig_expr.specs.declared.operator.Op.TheVariants as op
use Rattle.ig_expr.specs.declared.operator.Function.{Function}
use Rattle.ig_expr.specs.declared.operator.Function.TheVariants as functions
use Rattle.ig_expr.specs.declared.kind.Kind.{Kind}
use Rattle.ig_expr.specs.declared.kind.Kind.TheVariants as kind
use Rattle.ig_notation_syntax.specs.Token as token
use Rattle.ig_notation_syntax.specs.Token.{Token, Name, Head, Number, Semicolon, Equals, Bar, Greater, Colon, Comma, Open, Close, OpenBrace, CloseBrace, Question, Minus, When, Here}
use Rattle.ig_grammar.specs.Symbol as tree
use Rattle.ig_grammar.specs.Symbol.{Symbol, Symbols, no_symbols, next_symbol, Alternatives, no_alternatives, next_alternative}
use Rattle.ig_grammar.specs.Alternative.{gathered_alternatives}
use Rattle.ig_grammar.specs.declared.filter.Filter.{Filter}
use Rattle.ig_grammar.specs.declared.filter.Filter.TheVariants as filters
use Rattle.ig_grammar.specs.declared.symbol.Alt.{Alt}
use Rattle.ig_grammar.specs.declared.declaration.Param.{Param}
use Rattle.ig_grammar.specs.declared.declaration.Assoc.{Assoc}
use Rattle.ig_grammar.specs.declared.declaration.Assoc.TheVariants as assoc
use Rattle.ig_grammar.specs.declared.declaration.DeclKind.{DeclKind}
use Rattle.ig_grammar.specs.declared.declaration.DeclKind.TheVariants as decls
use Rattle.ig_grammar.specs.declared.declaration.Level.{Level}
use Rattle.ig_grammar.specs.declared.declaration.Decl.{Decl}
use Rattle.ig_grammar.specs.declared.grammar.Grammar.{Grammar}

-- the operators between two terms
pub data IsOperator : Token → Op → Type 0 where
  addition : IsOperator token.Plus op.Add
  subtraction : IsOperator Minus op.Sub
  multiplication : IsOperator token.Star op.Mul
  division : IsOperator token.Div op.Div
  remainder : IsOperator token.Mod op.Mod
  less : IsOperator token.Less op.Less
  less_equal : IsOperator token.AtMost op.LessEqual
  greater : IsOperator Greater op.Greater
  greater_equal : IsOperator token.AtLeast op.GreaterEqual
  equal : IsOperator token.EqualTo op.Equal
  not_equal : IsOperator token.NotEqualTo op.NotEqual
  conjunction : IsOperator token.And op.And
  disjunction : IsOperator token.Or op.Or

-- the functions of one expression, by their names
pub data IsFunction : List ℕ → Function → Type 0 where
  begin : IsFunction (codes "begin") functions.Begin
  end : IsFunction (codes "end") functions.End
  size : IsFunction (codes "size") functions.Size
  column : IsFunction (codes "column") functions.Column
  line : IsFunction (codes "line") functions.Line
  number_of : IsFunction (codes "number") functions.Number

mutual
  -- a term is a number, a truth value, the position, a variable, an expression in brackets, or a function of others
  pub data ReadsTerm : List Token → List Token → Expression → Type 0 where
    number : (n : ℕ) (r : List Token) → ReadsTerm (Number n ∷ r) r (Integer (pos n))
    truth : (r : List Token) → ReadsTerm (token.True ∷ r) r (Truth true)
    falsehood : (r : List Token) → ReadsTerm (token.False ∷ r) r (Truth false)
    here : (r : List Token) → ReadsTerm (Here ∷ r) r expression.Here
    variable : (x : List ℕ) (r : List Token) → ReadsTerm (Name x ∷ r) r (Variable x)
    in_brackets : (s r : List Token) (e : Expression) → ReadsExpression s (Close ∷ r) e → ReadsTerm (Open ∷ s) r e
    function : (name : List ℕ) (f : Function) (s r : List Token) (e : Expression) → IsFunction name f →
        ReadsExpression s (Close ∷ r) e → ReadsTerm (Head name ∷ s) r (Of f e)
    same : (name : List ℕ) (s m r : List Token) (a b : Expression) → name ≡ codes "same" →
        ReadsExpression s (Comma ∷ m) a → ReadsExpression m (Close ∷ r) b → ReadsTerm (Head name ∷ s) r (Same a b)
    spells : (name : List ℕ) (s r : List Token) (a : Expression) (word : List ℕ) → name ≡ codes "spells" →
        ReadsExpression s (Comma ∷ token.Literal word ∷ Close ∷ r) a → ReadsTerm (Head name ∷ s) r (Spells a word)

  -- an expression is a term, two terms with an operator between them, or a term behind `not` or `-`
  pub data ReadsExpression : List Token → List Token → Expression → Type 0 where
    alone : (s r : List Token) (e : Expression) → ReadsTerm s r e → ReadsExpression s r e
    binary : (t : Token) (o : Op) (s m r : List Token) (a b : Expression) → IsOperator t o → ReadsTerm s (t ∷ m) a →
        ReadsTerm m r b → ReadsExpression s r (Binary o a b)
    opposite : (s r : List Token) (a : Expression) → ReadsTerm s r a → ReadsExpression (token.Not ∷ s) r (expression.Not a)
    negative : (s r : List Token) (a : Expression) → ReadsTerm s r a → ReadsExpression (Minus ∷ s) r (Negative a)

-- arguments are one expression or more, with `,` between them
pub data ReadsArguments : List Token → List Token → List Expression → Type 0 where
  last_argument : (s r : List Token) (e : Expression) → ReadsExpression s r e → ReadsArguments s r (e ∷ [])
  further_argument : (s m r : List Token) (e : Expression) (es : List Expression) → ReadsExpression s (Comma ∷ m) e →
      ReadsArguments m r es → ReadsArguments s r (e ∷ es)

-- a filter's pattern is a literal or a class
pub data IsPattern : Token → Pattern → Type 0 where
  literal_pattern : (word : List ℕ) → IsPattern (token.Literal word) (patterns.Literal word)
  class_pattern : (c : Class) → IsPattern (token.OneOf c) (patterns.OneOf c)

-- a filter is its sign and a pattern
pub data IsFilter : Token → Pattern → Filter → Type 0 where
  not_followed : (p : Pattern) → IsFilter token.NotFollowedBy p (filters.NotFollowed p)
  not_preceded : (p : Pattern) → IsFilter token.NotPrecededBy p (filters.NotPreceded p)
  excluded : (p : Pattern) → IsFilter token.Backslash p (filters.Not p)

pub data ReadsFilters : List Token → List Token → List Filter → Type 0 where
  no_filter : (r : List Token) → ReadsFilters r r []
  next_filter : (sign t : Token) (p : Pattern) (f : Filter) (s r : List Token) (fs : List Filter) → IsFilter sign p f →
      IsPattern t p → ReadsFilters s r fs → ReadsFilters (sign ∷ t ∷ s) r (f ∷ fs)

-- a sign behind an atom makes it an option or a list; without one it stays what it is
pub data ReadsSign : List Token → List Token → Symbol → Symbol → Type 0 where
  once : (r : List Token) (x : Symbol) → ReadsSign r r x x
  option : (r : List Token) (x : Symbol) → ReadsSign (Question ∷ r) r x (tree.Opt x)
  star : (r : List Token) (x : Symbol) → ReadsSign (token.Star ∷ r) r x (tree.Star x)
  plus : (r : List Token) (x : Symbol) → ReadsSign (token.Plus ∷ r) r x (tree.Plus x)

-- the sign behind a separated list
pub data IsSeparated : Token → Symbol → Symbol → Symbol → Type 0 where
  separated_star : (x separator : Symbol) → IsSeparated token.Star x separator (tree.SepStar x separator)
  separated_plus : (x separator : Symbol) → IsSeparated token.Plus x separator (tree.SepPlus x separator)

-- the symbol with its filters, where it has any
abbrev pub filtered : Symbol → List Filter → Symbol
filtered x [] = x
filtered x (f ∷ fs) = tree.Filtered x (f ∷ fs)

mutual
  -- a symbol is a guard, a let, or a marked symbol with a label or without
  pub data ReadsSymbol : List Token → List Token → Symbol → Type 0 where
    guard : (s r : List Token) (e : Expression) → ReadsExpression s (Close ∷ r) e → ReadsSymbol (When ∷ Open ∷ s) r (tree.Guard e)
    let_be : (name : List ℕ) (s r : List Token) (e : Expression) → ReadsExpression s (Close ∷ r) e →
        ReadsSymbol (token.Let ∷ Name name ∷ Equals ∷ Open ∷ s) r (tree.Let name e)
    labelled : (name : List ℕ) (s r : List Token) (x : Symbol) → ReadsMarked s r x →
        ReadsSymbol (Name name ∷ Colon ∷ s) r (tree.Label name x)
    unlabelled : (s r : List Token) (x : Symbol) → ReadsMarked s r x → ReadsSymbol s r x

  -- a mark stands round the whole of what follows, its filters included
  pub data ReadsMarked : List Token → List Token → Symbol → Type 0 where
    offside : (s r : List Token) (x : Symbol) → ReadsPost s r x → ReadsMarked (token.Offside ∷ s) r (tree.Offside x)
    ignore : (s r : List Token) (x : Symbol) → ReadsPost s r x → ReadsMarked (token.Ignore ∷ s) r (tree.Ignore x)
    align : (s r : List Token) (x : Symbol) → ReadsPost s r x → ReadsMarked (token.Align ∷ s) r (tree.Align x)
    unmarked : (s r : List Token) (x : Symbol) → ReadsPost s r x → ReadsMarked s r x

  -- an atom with its sign, or a separated list; then filters
  pub data ReadsPost : List Token → List Token → Symbol → Type 0 where
    atom : (s m q r : List Token) (x y z : Symbol) (fs : List Filter) → ReadsAtom s m x → ReadsSign m q x y →
        ReadsFilters q r fs → z ≡ filtered y fs → ReadsPost s r z
    separated : (t : Token) (s m q r : List Token) (x separator y z : Symbol) (fs : List Filter) → ReadsMarked s m x →
        ReadsMarked m (CloseBrace ∷ t ∷ q) separator → IsSeparated t x separator y → ReadsFilters q r fs →
        z ≡ filtered y fs → ReadsPost (OpenBrace ∷ s) r z

  -- a literal, a class, a call with arguments or without, or a group
  pub data ReadsAtom : List Token → List Token → Symbol → Type 0 where
    literal : (word : List ℕ) (r : List Token) → ReadsAtom (token.Literal word ∷ r) r (tree.Literal word)
    class : (c : Class) (r : List Token) → ReadsAtom (token.OneOf c ∷ r) r (tree.OneOf c)
    bare_call : (name : List ℕ) (r : List Token) → ReadsAtom (Name name ∷ r) r (tree.Call name [])
    call : (name : List ℕ) (s r : List Token) (es : List Expression) → ReadsArguments s (Close ∷ r) es →
        ReadsAtom (Head name ∷ s) r (tree.Call name es)
    group : (s r : List Token) (ys : Alternatives) → ReadsAlternatives s (Close ∷ r) ys → ReadsAtom (Open ∷ s) r (tree.Group ys)

  -- alternatives are one or more, with `|` between them
  pub data ReadsAlternatives : List Token → List Token → Alternatives → Type 0 where
    last_alternative : (s r : List Token) (xs : Symbols) → ReadsAlternative s r xs →
        ReadsAlternatives s r (next_alternative xs no_alternatives)
    further_alternative : (s m r : List Token) (xs : Symbols) (ys : Alternatives) → ReadsAlternative s (Bar ∷ m) xs →
        ReadsAlternatives m r ys → ReadsAlternatives s r (next_alternative xs ys)

  -- an alternative is any number of symbols
  pub data ReadsAlternative : List Token → List Token → Symbols → Type 0 where
    no_symbol : (r : List Token) → ReadsAlternative r r no_symbols
    further_symbol : (s m r : List Token) (x : Symbol) (xs : Symbols) → ReadsSymbol s m x → ReadsAlternative m r xs →
        ReadsAlternative s r (next_symbol x xs)

pub data ReadsAssociativity : List Token → List Token → Assoc → Type 0 where
  free : (r : List Token) → ReadsAssociativity r r assoc.Free
  left : (r : List Token) → ReadsAssociativity (token.Left ∷ r) r assoc.Left
  right : (r : List Token) → ReadsAssociativity (token.Right ∷ r) r assoc.Right
  nonassoc : (r : List Token) → ReadsAssociativity (token.Nonassoc ∷ r) r assoc.Nonassoc

-- a level is its associativity, where it has one, and its alternatives
pub data ReadsLevel : List Token → List Token → Level → Type 0 where
  level : (s m r : List Token) (a : Assoc) (alts : List Alt) (ys : Alternatives) → ReadsAssociativity s m a →
      ReadsAlternatives m r ys → ys ≡ gathered_alternatives alts → ReadsLevel s r (record { assoc = a; alts = alts })

-- levels are one or more, with `>` between them
pub data ReadsLevels : List Token → List Token → List Level → Type 0 where
  last_level : (s r : List Token) (level : Level) → ReadsLevel s r level → ReadsLevels s r (level ∷ [])
  further_level : (s m r : List Token) (level : Level) (levels : List Level) → ReadsLevel s (Greater ∷ m) level →
      ReadsLevels m r levels → ReadsLevels s r (level ∷ levels)

pub data IsKind : Token → Kind → Type 0 where
  int : IsKind token.Int kind.Int
  bool : IsKind token.Bool kind.Bool
  span : IsKind token.Span kind.Span

-- parameters are one or more, each a name and its kind, with `,` between them
pub data ReadsParameters : List Token → List Token → List Param → Type 0 where
  last_parameter : (name : List ℕ) (t : Token) (k : Kind) (r : List Token) → IsKind t k →
      ReadsParameters (Name name ∷ Colon ∷ t ∷ r) r (record { name = name; kind = k } ∷ [])
  further_parameter : (name : List ℕ) (t : Token) (k : Kind) (s r : List Token) (ps : List Param) → IsKind t k →
      ReadsParameters s r ps → ReadsParameters (Name name ∷ Colon ∷ t ∷ Comma ∷ s) r (record { name = name; kind = k } ∷ ps)

pub data IsDeclKind : Token → DeclKind → Type 0 where
  syntax : IsDeclKind token.Syntax decls.Syntax
  lexical : IsDeclKind token.Lexical decls.Lexical
  layout : IsDeclKind token.Layout decls.Layout

-- a declaration is its kind, its name with parameters or without, and its levels
pub data ReadsDeclaration : List Token → List Token → Decl → Type 0 where
  without_parameters : (t : Token) (k : DeclKind) (name : List ℕ) (s r : List Token) (levels : List Level) → IsDeclKind t k →
      ReadsLevels s (Semicolon ∷ r) levels →
      ReadsDeclaration (t ∷ Name name ∷ Equals ∷ s) r (record { kind = k; name = name; params = []; levels = levels })
  with_parameters : (t : Token) (k : DeclKind) (name : List ℕ) (s m r : List Token) (ps : List Param) (levels : List Level) →
      IsDeclKind t k → ReadsParameters s (Close ∷ Equals ∷ m) ps → ReadsLevels m (Semicolon ∷ r) levels →
      ReadsDeclaration (t ∷ Head name ∷ s) r (record { kind = k; name = name; params = ps; levels = levels })

-- all tokens read as declarations
pub data ReadsDeclarations : List Token → List Decl → Type 0 where
  no_declaration : ReadsDeclarations [] []
  further_declaration : (s m : List Token) (d : Decl) (ds : List Decl) → ReadsDeclaration s m d → ReadsDeclarations m ds →
      ReadsDeclarations s (d ∷ ds)

-- all tokens read as the line of a width of tabs or none, and declarations
pub data ReadsBody : List Token → Option ℤ → List Decl → Type 0 where
  with_tabs : (n : ℕ) (s : List Token) (ds : List Decl) → ReadsDeclarations s ds →
      ReadsBody (token.Tabs ∷ Number n ∷ Semicolon ∷ s) (Some (pos n)) ds
  without_tabs : (s : List Token) (ds : List Decl) → ReadsDeclarations s ds → ReadsBody s None ds

-- all tokens follow the rules and read as the grammar: a start line or none, then the line of a width of tabs or none, and
-- declarations
pub data FollowsRules : List Token → Grammar → Type 0 where
  with_start : (name : List ℕ) (s : List Token) (tabs : Option ℤ) (ds : List Decl) → ReadsBody s tabs ds →
      FollowsRules (token.Start ∷ Name name ∷ Semicolon ∷ s) (record { start = Some name; tabs = tabs; decls = ds })
  without_start : (s : List Token) (tabs : Option ℤ) (ds : List Decl) → ReadsBody s tabs ds →
      FollowsRules s (record { start = None; tabs = tabs; decls = ds })
