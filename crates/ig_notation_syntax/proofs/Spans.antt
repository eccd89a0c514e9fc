-- What each want permits by the rules, and so what a stack permits.
use Rattle.std.proofs.Common.{ℕ, List, [], ◌∷◌, ◌++◌}
use Rattle.std.specs.Prelude.{Option, Some, None}
use Rattle.ig_expr.specs.Expression.{Expression}
use Rattle.ig_expr.specs.declared.operator.Op.{Op}
use Rattle.ig_expr.specs.declared.kind.Kind.{Kind}
use Rattle.ig_text.specs.declared.pattern.Pattern.{Pattern}
use Rattle.ig_notation_syntax.specs.Token.{Token, Name, Head, Literal, Semicolon, Equals, Bar, Greater, Colon, Comma, Open, Close, CloseBrace, Start, Tabs, Number}
use Rattle.ig_grammar.specs.Symbol.{Symbol, Symbols, Alternatives}
use Rattle.ig_grammar.specs.declared.filter.Filter.{Filter}
use Rattle.ig_grammar.specs.declared.declaration.Param.{Param}
use Rattle.ig_grammar.specs.declared.declaration.Assoc.{Assoc}
use Rattle.ig_grammar.specs.declared.declaration.Level.{Level}
use Rattle.ig_grammar.specs.declared.declaration.Decl.{Decl}
use Rattle.ig_notation_syntax.specs.Rules.{IsOperator, IsKind, IsPattern, IsSeparated, ReadsTerm, ReadsExpression, ReadsArguments, ReadsFilters, ReadsSign}
use Rattle.ig_notation_syntax.specs.Rules.{ReadsSymbol, ReadsMarked, ReadsPost, ReadsAtom, ReadsAlternatives, ReadsAlternative, ReadsAssociativity, ReadsLevels, ReadsParameters, ReadsDeclaration}
use Rattle.ig_notation_syntax.specs.Machine.{Want, grammar, body, declarations, associativity, alternative, declaration, parameter, symbol, marked, post, atom, expression, term}
use Rattle.ig_notation_syntax.specs.Machine.{parameters_rest, levels_rest, alternatives_rest, arguments_rest, operator_rest, filters, sign, name_rest, heading, kind, pattern, list_sign}
use Rattle.ig_notation_syntax.specs.Machine.{name, numeral, literal, semicolon, equals, colon, comma, open_bracket, close_bracket, close_brace}

-- the tokens from the first list up to the second are what the want permits
pub data Spans : Want → List Token → List Token → Type 0 where
  with_start : (x : List ℕ) (s r : List Token) → Spans body s r → Spans grammar (Start ∷ Name x ∷ Semicolon ∷ s) r
  without_start : (s r : List Token) → Spans body s r → Spans grammar s r
  with_tabs : (n : ℕ) (s r : List Token) → Spans declarations s r → Spans body (Tabs ∷ Number n ∷ Semicolon ∷ s) r
  without_tabs : (s r : List Token) → Spans declarations s r → Spans body s r
  no_declaration : (r : List Token) → Spans declarations r r
  further_declaration : (s m r : List Token) (d : Decl) → ReadsDeclaration s m d → Spans declarations m r → Spans declarations s r
  of_associativity : (s r : List Token) (a : Assoc) → ReadsAssociativity s r a → Spans associativity s r
  of_alternative : (s r : List Token) (xs : Symbols) → ReadsAlternative s r xs → Spans alternative s r
  of_declaration : (s r : List Token) (d : Decl) → ReadsDeclaration s r d → Spans declaration s r
  of_parameter : (x : List ℕ) (t : Token) (k : Kind) (r : List Token) → IsKind t k → Spans parameter (Name x ∷ Colon ∷ t ∷ r) r
  of_symbol : (s r : List Token) (x : Symbol) → ReadsSymbol s r x → Spans symbol s r
  of_marked : (s r : List Token) (x : Symbol) → ReadsMarked s r x → Spans marked s r
  of_post : (s r : List Token) (x : Symbol) → ReadsPost s r x → Spans post s r
  of_atom : (s r : List Token) (x : Symbol) → ReadsAtom s r x → Spans atom s r
  of_expression : (s r : List Token) (e : Expression) → ReadsExpression s r e → Spans expression s r
  of_term : (s r : List Token) (e : Expression) → ReadsTerm s r e → Spans term s r
  no_parameter : (r : List Token) → Spans parameters_rest r r
  of_parameters : (s r : List Token) (ps : List Param) → ReadsParameters s r ps → Spans parameters_rest (Comma ∷ s) r
  no_level : (r : List Token) → Spans levels_rest r r
  of_levels : (s r : List Token) (levels : List Level) → ReadsLevels s r levels → Spans levels_rest (Greater ∷ s) r
  no_alternative : (r : List Token) → Spans alternatives_rest r r
  of_alternatives : (s r : List Token) (ys : Alternatives) → ReadsAlternatives s r ys → Spans alternatives_rest (Bar ∷ s) r
  no_argument : (r : List Token) → Spans arguments_rest r r
  of_arguments : (s r : List Token) (es : List Expression) → ReadsArguments s r es → Spans arguments_rest (Comma ∷ s) r
  no_operator : (r : List Token) → Spans operator_rest r r
  of_operator : (t : Token) (o : Op) (s r : List Token) (e : Expression) → IsOperator t o → ReadsTerm s r e → Spans operator_rest (t ∷ s) r
  of_filters : (s r : List Token) (fs : List Filter) → ReadsFilters s r fs → Spans filters s r
  of_sign : (s r : List Token) → ((x : Symbol) → (y : Symbol) × ReadsSign s r x y) → Spans sign s r
  of_label : (s r : List Token) (x : Symbol) → ReadsMarked s r x → Spans name_rest (Colon ∷ s) r
  of_call : (s m r : List Token) → Spans sign s m → Spans filters m r → Spans name_rest s r
  of_heading : (x : List ℕ) (r : List Token) → Spans heading (Name x ∷ r) r
  of_heading_with : (x : List ℕ) (s r : List Token) (ps : List Param) → ReadsParameters s (Close ∷ r) ps → Spans heading (Head x ∷ s) r
  of_kind : (t : Token) (k : Kind) (r : List Token) → IsKind t k → Spans kind (t ∷ r) r
  of_pattern : (t : Token) (p : Pattern) (r : List Token) → IsPattern t p → Spans pattern (t ∷ r) r
  of_list_sign : (t : Token) (r : List Token) → ((x y : Symbol) → (z : Symbol) × IsSeparated t x y z) → Spans list_sign (t ∷ r) r
  of_name : (x : List ℕ) (r : List Token) → Spans name (Name x ∷ r) r
  of_numeral : (n : ℕ) (r : List Token) → Spans numeral (Number n ∷ r) r
  of_literal : (x : List ℕ) (r : List Token) → Spans literal (Literal x ∷ r) r
  of_semicolon : (r : List Token) → Spans semicolon (Semicolon ∷ r) r
  of_equals : (r : List Token) → Spans equals (Equals ∷ r) r
  of_colon : (r : List Token) → Spans colon (Colon ∷ r) r
  of_comma : (r : List Token) → Spans comma (Comma ∷ r) r
  of_open : (r : List Token) → Spans open_bracket (Open ∷ r) r
  of_close : (r : List Token) → Spans close_bracket (Close ∷ r) r
  of_close_brace : (r : List Token) → Spans close_brace (CloseBrace ∷ r) r

-- the tokens from the first list up to the second are what the stack permits, want by want
pub data Chain : List Want → List Token → List Token → Type 0 where
  done : (r : List Token) → Chain [] r r
  link : {x : Want} {k : List Want} {s m r : List Token} → Spans x s m → Chain k m r → Chain (x ∷ k) s r

pub chain_join : {k l : List Want} {s m r : List Token} → Chain k s m → Chain l m r → Chain (k ++ l) s r
chain_join (done r) b = b
chain_join (link first others) b = link first (chain_join others b)

-- where a chain of two stacks is cut
pub record Cut (k l : List Want) (s r : List Token) : Type 0 where
  pub middle : List Token
  pub front : Chain k s middle
  pub back : Chain l middle r

longer : {x : Want} {k l : List Want} {s m r : List Token} → Spans x s m → Cut k l m r → Cut (x ∷ k) l s r
longer first c = record { middle = c.middle; front = link first c.front; back = c.back }

pub chain_cut : (k l : List Want) {s r : List Token} → Chain (k ++ l) s r → Cut k l s r
chain_cut [] l {s} c = record { middle = s; front = done s; back = c }
chain_cut (x ∷ k) l (link first others) = longer first (chain_cut k l others)

-- what holds of a row of the table, if there is one
abbrev pub OnRow : (List Want → Type 0) → Option (List Want) → Type 0
OnRow P None = Unit {0}
OnRow P (Some row) = P row

-- what a row permits, P permits
abbrev pub Permits : (List Token → List Token → Type 0) → List Want → Type 0
Permits P row = (s r : List Token) → Chain row s r → P s r
