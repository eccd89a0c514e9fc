-- What the table and the machine make of a token is by the rules: declarations, and then any stack.
use Rattle.std.proofs.Common.{◌≡◌, ℕ, List, [], ◌∷◌, refl, sym, ap, Bool, true, false}
use Rattle.std.specs.Prelude.{Option, Some, None}
use Rattle.ig_expr.specs.declared.kind.Kind.{Kind}
use Rattle.ig_expr.specs.declared.kind.Kind.TheVariants as kinds
use Rattle.ig_notation_syntax.specs.Token.{Token, Name, Head, Literal, Semicolon, Equals, Greater, Colon, Comma, Open, Close, CloseBrace, Start, Tabs, Number, Syntax, Lexical, Layout, Left, Right, Nonassoc, Int, Bool as BoolWord, Span}
use Rattle.ig_grammar.specs.Symbol.{Symbols, no_symbols, next_symbol, Alternatives, no_alternatives, next_alternative, listed, gathered}
use Rattle.ig_grammar.specs.Alternative.{gathered_alternatives}
use Rattle.ig_grammar.specs.declared.symbol.Alt.{Alt}
use Rattle.ig_grammar.specs.declared.declaration.Param.{Param}
use Rattle.ig_grammar.specs.declared.declaration.Assoc.{Assoc}
use Rattle.ig_grammar.specs.declared.declaration.DeclKind.{DeclKind}
use Rattle.ig_grammar.specs.declared.declaration.DeclKind.TheVariants as decls
use Rattle.ig_grammar.specs.declared.declaration.Level.{Level}
use Rattle.ig_grammar.specs.Gathered.{gathered_listed}
use Rattle.ig_notation_syntax.specs.Rules as rule
use Rattle.ig_notation_syntax.specs.Rules.{IsKind, IsDeclKind, ReadsAlternatives, ReadsAssociativity, ReadsLevel, ReadsLevels, ReadsParameters, ReadsDeclaration}
use Rattle.ig_notation_syntax.specs.Machine.{Want, grammar, body, declarations, associativity, alternative, declaration, parameter, symbol, marked, post, atom, expression, term}
use Rattle.ig_notation_syntax.specs.Machine.{parameters_rest, levels_rest, alternatives_rest, arguments_rest, operator_rest, filters, sign, name_rest, heading, kind, pattern, list_sign}
use Rattle.ig_notation_syntax.specs.Machine.{name, numeral, literal, semicolon, equals, colon, comma, open_bracket, close_bracket, close_brace}
use Rattle.ig_notation_syntax.specs.Machine.{may_lack, after, after_declaration, after_declarations, after_body, chosen, step}
use Rattle.ig_notation_syntax.specs.Machine.{levels_wants, parameters_wants, declaration_wants}
use Rattle.ig_notation_syntax.proofs.Spans.{Spans, Chain, done, link, Cut, chain_cut, chain_join, OnRow, Permits}
use Rattle.ig_notation_syntax.proofs.Spans as span
use Rattle.ig_notation_syntax.proofs.Back.{before_permits, weaker, alternatives_of, term_back, expression_back, operator_back, arguments_back, sign_back, list_sign_back, pattern_back, filters_back}
use Rattle.ig_notation_syntax.proofs.Back.{alternatives_back, atom_back, post_back, marked_back, symbol_back, name_back, alternative_back}

-- alternatives as a list, and back
abbrev pub alternatives_list : Alternatives → List Alt
alternatives_list no_alternatives = []
alternatives_list (next_alternative xs ys) = record { symbols = listed xs } ∷ alternatives_list ys

pub gathered-alternatives_list : (ys : Alternatives) → ys ≡ gathered_alternatives (alternatives_list ys)
gathered-alternatives_list no_alternatives = refl
gathered-alternatives_list (next_alternative xs ys) =
    λ i. next_alternative (sym (gathered_listed xs) i) (gathered-alternatives_list ys i)

-- levels
level_of : (s m r : List Token) (a : Assoc) → ReadsAssociativity s m a → (ys : Alternatives) → ReadsAlternatives m r ys →
    ReadsLevel s r (record { assoc = a; alts = alternatives_list ys })
level_of s m r a d ys e = rule.level s m r a (alternatives_list ys) ys d e (gathered-alternatives_list ys)

levels_by : (s m r : List Token) (l : Level) → ReadsLevel s m l → Spans levels_rest m r → (ls : List Level) × ReadsLevels s r ls
levels_by s m r l d (span.no_level q) = (l ∷ [], rule.last_level s q l d)
levels_by s m r l d (span.of_levels q p ls e) = (l ∷ ls, rule.further_level s q p l ls d e)

pub levels_of : {s r : List Token} → Chain levels_wants s r → (ls : List Level) × ReadsLevels s r ls
levels_of {s} {r} (link (span.of_associativity i n a d) (link x (link y (link {s = o} rest (done q))))) =
    let ys : (ys : Alternatives) × ReadsAlternatives n o ys = alternatives_of (link x (link y (done o))) in
    levels_by i o q _ (level_of i n o a d ys.0 ys.1) rest

levels_back : (t : Token) → OnRow (Permits (λ s r. Spans levels_rest (t ∷ s) r)) (after levels_rest t)
levels_back Greater = λ s r c. span.of_levels s r (levels_of c).0 (levels_of c).1
levels_back _ = tt

associativity_alone : (t : Token) (a : Assoc) → ((r : List Token) → ReadsAssociativity (t ∷ r) r a) →
    Permits (λ s r. Spans associativity (t ∷ s) r) []
associativity_alone t a f i j (done r) = span.of_associativity (t ∷ r) r a (f r)

associativity_back : (t : Token) → OnRow (Permits (λ s r. Spans associativity (t ∷ s) r)) (after associativity t)
associativity_back Left = associativity_alone Left _ rule.left
associativity_back Right = associativity_alone Right _ rule.right
associativity_back Nonassoc = associativity_alone Nonassoc _ rule.nonassoc
associativity_back _ = tt

-- parameters
parameters_by : (s m r : List Token) → Spans parameter s m → Spans parameters_rest m r → (ps : List Param) × ReadsParameters s r ps
parameters_by s m r (span.of_parameter x t k q is) (span.no_parameter p) = (record { name = x; kind = k } ∷ [], rule.last_parameter x t k p is)
parameters_by s m r (span.of_parameter x t k q is) (span.of_parameters p n ps d) =
    (record { name = x; kind = k } ∷ ps, rule.further_parameter x t k p n ps is d)

pub parameters_of : {s r : List Token} → Chain parameters_wants s r → (ps : List Param) × ReadsParameters s r ps
parameters_of {s} {r} (link {m = m} a (link b (done q))) = parameters_by s m q a b

parameters_back : (t : Token) → OnRow (Permits (λ s r. Spans parameters_rest (t ∷ s) r)) (after parameters_rest t)
parameters_back Comma = λ s r c. span.of_parameters s r (parameters_of c).0 (parameters_of c).1
parameters_back _ = tt

kind_alone : (t : Token) (k : Kind) → IsKind t k → Permits (λ s r. Spans kind (t ∷ s) r) []
kind_alone t k is i j (done r) = span.of_kind t k r is

kind_back : (t : Token) → OnRow (Permits (λ s r. Spans kind (t ∷ s) r)) (after kind t)
kind_back Int = kind_alone Int kinds.Int rule.int
kind_back BoolWord = kind_alone BoolWord kinds.Bool rule.bool
kind_back Span = kind_alone Span kinds.Span rule.span
kind_back _ = tt

parameter_named : (x : List ℕ) → Permits (λ s r. Spans parameter (Name x ∷ s) r) (colon ∷ kind ∷ [])
parameter_named x i j (link (span.of_colon p) (link (span.of_kind t k q is) (done r))) = span.of_parameter x t k r is

parameter_back : (t : Token) → OnRow (Permits (λ s r. Spans parameter (t ∷ s) r)) (after parameter t)
parameter_back (Name x) = parameter_named x
parameter_back _ = tt

-- declarations
heading_alone : (x : List ℕ) → Permits (λ s r. Spans heading (Name x ∷ s) r) []
heading_alone x i j (done r) = span.of_heading x r

heading_with : (x : List ℕ) → Permits (λ s r. Spans heading (Head x ∷ s) r) (parameter ∷ parameters_rest ∷ close_bracket ∷ [])
heading_with x i j (link {m = m} a (link b (link (span.of_close q) (done r)))) =
    let ps : (ps : List Param) × ReadsParameters i (Close ∷ r) ps = parameters_by i m (Close ∷ r) a b in
    span.of_heading_with x i r ps.0 ps.1

heading_back : (t : Token) → OnRow (Permits (λ s r. Spans heading (t ∷ s) r)) (after heading t)
heading_back (Name x) = heading_alone x
heading_back (Head x) = heading_with x
heading_back _ = tt

headed : (t : Token) (k : DeclKind) → IsDeclKind t k → (s m r : List Token) → Spans heading s (Equals ∷ m) →
    (ls : List Level) → ReadsLevels m (Semicolon ∷ r) ls → Spans declaration (t ∷ s) r
headed t k is s m r (span.of_heading x q) ls d = span.of_declaration _ r _ (rule.without_parameters t k x m r ls is d)
headed t k is s m r (span.of_heading_with x p q ps e) ls d =
    span.of_declaration _ r _ (rule.with_parameters t k x p m r ps ls is e d)

levels_then : (m r : List Token) → Cut levels_wants (semicolon ∷ []) m r → (ls : List Level) × ReadsLevels m (Semicolon ∷ r) ls
levels_then m r c = ended (levels_of c.front) c.back
  where
    ended : {n : List Token} → (ls : List Level) × ReadsLevels m n ls → Chain (semicolon ∷ []) n r → (ls : List Level) × ReadsLevels m (Semicolon ∷ r) ls
    ended ls (link (span.of_semicolon q) (done p)) = ls

declared : (t : Token) (k : DeclKind) → IsDeclKind t k → Permits (λ s r. Spans declaration (t ∷ s) r) declaration_wants
declared t k is s r (link a (link (span.of_equals m) c)) =
    let ls : (ls : List Level) × ReadsLevels m (Semicolon ∷ r) ls = levels_then m r (chain_cut levels_wants (semicolon ∷ []) c) in
    headed t k is s m r a ls.0 ls.1

declaration_back : (t : Token) → OnRow (Permits (λ s r. Spans declaration (t ∷ s) r)) (after_declaration t)
declaration_back Syntax = declared Syntax decls.Syntax rule.syntax
declaration_back Lexical = declared Lexical decls.Lexical rule.lexical
declaration_back Layout = declared Layout decls.Layout rule.layout
declaration_back _ = tt

more_declarations : (i n j : List Token) → Spans declaration i n → Chain (declarations ∷ []) n j → Spans declarations i j
more_declarations i n j (span.of_declaration s m d e) (link rest (done r)) = span.further_declaration s m r d e rest

declarations_back : (t : Token) → OnRow (Permits (λ s r. Spans declarations (t ∷ s) r)) (after_declarations t)
declarations_back t = before_permits (λ s r. Spans declaration (t ∷ s) r) (λ s r. Spans declarations (t ∷ s) r) (declarations ∷ [])
    (after_declaration t) (declaration_back t) (λ s m r. more_declarations (t ∷ s) m r)

widened : Permits (λ s r. Spans body (Tabs ∷ s) r) (numeral ∷ semicolon ∷ declarations ∷ [])
widened i j (link (span.of_numeral n p) (link (span.of_semicolon s) (link rest (done r)))) = span.with_tabs n s r rest

body_back : (t : Token) → OnRow (Permits (λ s r. Spans body (t ∷ s) r)) (after body t)
body_back Tabs = widened
body_back t = weaker (λ s r. Spans declarations (t ∷ s) r) (λ s r. Spans body (t ∷ s) r) (after_declarations t)
    (λ s r. span.without_tabs (t ∷ s) r) (declarations_back t)

started : Permits (λ s r. Spans grammar (Start ∷ s) r) (name ∷ semicolon ∷ body ∷ [])
started i j (link (span.of_name x p) (link (span.of_semicolon s) (link rest (done r)))) = span.with_start x s r rest

grammar_back : (t : Token) → OnRow (Permits (λ s r. Spans grammar (t ∷ s) r)) (after grammar t)
grammar_back Start = started
grammar_back t = weaker (λ s r. Spans body (t ∷ s) r) (λ s r. Spans grammar (t ∷ s) r) (after_body t)
    (λ s r. span.without_start (t ∷ s) r) (body_back t)

-- single tokens
alone : (x : Want) (t : Token) → ((r : List Token) → Spans x (t ∷ r) r) → Permits (λ s r. Spans x (t ∷ s) r) []
alone x t f i j (done r) = f r

-- each row of the table
pub row_back : (x : Want) (t : Token) → OnRow (Permits (λ s r. Spans x (t ∷ s) r)) (after x t)
row_back grammar t = grammar_back t
row_back body t = body_back t
row_back declarations t = declarations_back t
row_back associativity t = associativity_back t
row_back alternative t = alternative_back t
row_back declaration t = declaration_back t
row_back parameter t = parameter_back t
row_back symbol t = symbol_back t
row_back marked t = marked_back t
row_back post t = post_back t
row_back atom t = atom_back t
row_back expression t = expression_back t
row_back term t = term_back t
row_back parameters_rest t = parameters_back t
row_back levels_rest t = levels_back t
row_back alternatives_rest t = alternatives_back t
row_back arguments_rest t = arguments_back t
row_back operator_rest t = operator_back t
row_back filters t = filters_back t
row_back sign t = sign_back t
row_back name_rest t = name_back t
row_back heading t = heading_back t
row_back kind t = kind_back t
row_back pattern t = pattern_back t
row_back list_sign t = list_sign_back t
row_back name (Name x) = alone name (Name x) (span.of_name x)
row_back numeral (Number n) = alone numeral (Number n) (span.of_numeral n)
row_back literal (Literal x) = alone literal (Literal x) (span.of_literal x)
row_back semicolon Semicolon = alone semicolon Semicolon span.of_semicolon
row_back equals Equals = alone equals Equals span.of_equals
row_back colon Colon = alone colon Colon span.of_colon
row_back comma Comma = alone comma Comma span.of_comma
row_back open_bracket Open = alone open_bracket Open span.of_open
row_back close_bracket Close = alone close_bracket Close span.of_close
row_back close_brace CloseBrace = alone close_brace CloseBrace span.of_close_brace
row_back _ _ = tt

-- what may lack permits nothing
pub lacks : (x : Want) → may_lack x ≡ true → (r : List Token) → Spans x r r
lacks grammar e r = span.without_start r r (span.without_tabs r r (span.no_declaration r))
lacks body e r = span.without_tabs r r (span.no_declaration r)
lacks declarations e r = span.no_declaration r
lacks associativity e r = span.of_associativity r r _ (rule.free r)
lacks alternative e r = span.of_alternative r r _ (rule.no_symbol r)
lacks parameters_rest e r = span.no_parameter r
lacks levels_rest e r = span.no_level r
lacks alternatives_rest e r = span.no_alternative r
lacks arguments_rest e r = span.no_argument r
lacks operator_rest e r = span.no_operator r
lacks filters e r = span.of_filters r r _ (rule.no_filter r)
lacks sign e r = span.of_sign r r (λ x. (x, rule.once r x))
lacks name_rest e r = span.of_call r r r (span.of_sign r r (λ x. (x, rule.once r x))) (span.of_filters r r _ (rule.no_filter r))
lacks _ e r = absurd (cc)

-- what a token makes of a stack
pub step_back : (k : List Want) (t : Token) → OnRow (Permits (λ s r. Chain k (t ∷ s) r)) (step k t)
step_back [] t = tt
step_back (x ∷ k) t = choice (after x t) (may_lack x) (step k t) (row_back x t) (lacks x) (step_back k t)
  where
    choice : (o : Option (List Want)) (b : Bool) (past : Option (List Want)) → OnRow (Permits (λ s r. Spans x (t ∷ s) r)) o →
        (b ≡ true → (r : List Token) → Spans x r r) → OnRow (Permits (λ s r. Chain k (t ∷ s) r)) past →
        OnRow (Permits (λ s r. Chain (x ∷ k) (t ∷ s) r)) (chosen o b k past)
    choice (Some row) b past h l p = λ s r c. let d : Cut row k s r = chain_cut row k c in link (h s d.middle d.front) d.back
    choice None true None h l p = tt
    choice None true (Some j) h l p = λ s r c. link (l refl (t ∷ s)) (p s r c)
    choice None false past h l p = tt
