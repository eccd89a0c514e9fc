-- In a canonical text what stands behind a token never goes on with it.
use Rattle.std.proofs.Common.{refl, List, [], ◌∷◌, ◌++◌, ℕ, IsTrue, Bool, true, false}
use Rattle.std.specs.Prelude.{ℤ, pos, negsuc, Some, None, Option}
use Rattle.ig_text.specs.declared.pattern.Pattern.{Pattern}
use Rattle.ig_text.specs.declared.pattern.Pattern.TheVariants as patterns
use Rattle.ig_expr.specs.Expression.{Expression, Integer, Truth, Variable, Negative, Binary, Of, Same, Spells, Outer, Inside, FreeBefore, FreeAfter}
use Rattle.ig_expr.specs.Expression as expression
use Rattle.ig_expr.specs.declared.operator.Op.{Op}
use Rattle.ig_expr.specs.declared.operator.Op.TheVariants as op
use Rattle.ig_expr.specs.declared.kind.Kind.{Kind}
use Rattle.ig_expr.specs.declared.kind.Kind.TheVariants as kind
use Rattle.ig_notation_syntax.specs.Token.{Token, Name, Head, Number, OneOf, Semicolon, Equals, Bar, Greater, Colon, Comma, Open, Close, CloseBrace, Question}
use Rattle.ig_notation_syntax.specs.Token as sign
use Rattle.ig_grammar.specs.Symbol.{Symbol, Symbols, no_symbols, next_symbol, Alternatives, no_alternatives, next_alternative}
use Rattle.ig_grammar.specs.Symbol as tree
use Rattle.ig_grammar.specs.Alternative.{gathered_alternatives}
use Rattle.ig_grammar.specs.Binding.{Binding}
use Rattle.ig_grammar.specs.declared.filter.Filter.{Filter}
use Rattle.ig_grammar.specs.declared.filter.Filter.TheVariants as filters
use Rattle.ig_grammar.specs.declared.declaration.Param.{Param}
use Rattle.ig_grammar.specs.declared.declaration.Assoc.{Assoc}
use Rattle.ig_grammar.specs.declared.declaration.Assoc.TheVariants as assoc
use Rattle.ig_grammar.specs.declared.declaration.DeclKind.{DeclKind}
use Rattle.ig_grammar.specs.declared.declaration.DeclKind.TheVariants as decls
use Rattle.ig_grammar.specs.declared.declaration.Level.{Level}
use Rattle.ig_grammar.specs.declared.declaration.Decl.{Decl}
use Rattle.ig_grammar.specs.declared.grammar.Grammar.{Grammar}
use Rattle.ig_show.specs.Pieces.{Piece, blank, line_end, token}
use Rattle.ig_show.specs.Signs.{associativity_pieces, integer_pieces, has_operator, operator_token, pattern_token}
use Rattle.ig_show.specs.CanonicalText.{expression_pieces, as_part, separated, joined, comma, call_pieces, filter_pieces, let_pieces, bindings_pieces, symbol_pieces, alternative_pieces, further_symbols, alternatives_pieces, further_alternatives, level_pieces, levels_pieces, parameter_pieces, kind_token, head_pieces, declaration_pieces, declaration_token, start_pieces, tabs_pieces, pieces_of}

-- the token begins with a character that ends a word or a number
abbrev pub ends_word : Token → Bool
ends_word Semicolon = true
ends_word Close = true
ends_word Comma = true
ends_word CloseBrace = true
ends_word Question = true
ends_word sign.Star = true
ends_word sign.Plus = true
ends_word Colon = true
ends_word t = false

-- so do the pieces
abbrev pub parted : List Piece → Bool
parted [] = true
parted (blank ∷ ps) = true
parted (line_end ∷ ps) = true
parted (token t ∷ ps) = ends_word t

abbrev pub spaced : List Piece → Bool
spaced [] = false
spaced (blank ∷ ps) = true
spaced (line_end ∷ ps) = false
spaced (token t ∷ ps) = false

-- what has to stand behind a token so that it ends there
pub data Need : Type 0 where
  nothing : Need
  parting : Need
  space : Need

abbrev pub need : Token → Need
need (Head x) = nothing
need (sign.Literal word) = nothing
need Semicolon = nothing
need Equals = space
need Bar = nothing
need Greater = space
need Colon = nothing
need Comma = nothing
need Open = nothing
need Close = nothing
need sign.OpenBrace = nothing
need CloseBrace = nothing
need Question = nothing
need sign.Star = nothing
need sign.Plus = nothing
need sign.Minus = nothing
need sign.Backslash = nothing
need sign.NotFollowedBy = nothing
need sign.NotPrecededBy = nothing
need sign.EqualTo = nothing
need sign.NotEqualTo = nothing
need sign.Less = space
need sign.AtMost = nothing
need sign.AtLeast = nothing
need t = parting

abbrev pub has : Need → List Piece → Bool
has nothing ps = true
has parting ps = parted ps
has space ps = spaced ps

abbrev pub may_touch : Token → List Piece → Bool
may_touch t ps = has (need t) ps

-- each token ends where the next piece begins
abbrev pub Apart : List Piece → Type 0
Apart [] = Unit {0}
Apart (blank ∷ ps) = Apart ps
Apart (line_end ∷ ps) = Apart ps
Apart (token t ∷ ps) = IsTrue (may_touch t ps) × Apart ps

-- the separator, and what stands behind it
record Separates (separator : List Piece) : Type 0 where
  parts : (ps : List Piece) → IsTrue (parted (separator ++ ps))
  apart : (ps : List Piece) → Apart ps → Apart (separator ++ ps)

separated_parts : {A : Type 0} {separator : List Piece} (shown : A → List Piece → List Piece) → Separates separator →
    (xs : List A) (ps : List Piece) → IsTrue (parted ps) → IsTrue (parted (separated separator shown xs ps))
separated_parts shown s [] ps h = h
separated_parts {A} {separator} shown s (x ∷ xs) ps h = s.parts (shown x (separated separator shown xs ps))

separated_apart : {A : Type 0} {separator : List Piece} (shown : A → List Piece → List Piece) → Separates separator →
    ((x : A) (ps : List Piece) → IsTrue (parted ps) → Apart ps → Apart (shown x ps)) →
    (xs : List A) (ps : List Piece) → IsTrue (parted ps) → Apart ps → Apart (separated separator shown xs ps)
separated_apart shown s one [] ps h a = a
separated_apart {A} {separator} shown s one (x ∷ xs) ps h a =
    s.apart (shown x (separated separator shown xs ps))
    (one x (separated separator shown xs ps) (separated_parts shown s xs ps h) (separated_apart shown s one xs ps h a))

joined_apart : {A : Type 0} {separator : List Piece} (shown : A → List Piece → List Piece) → Separates separator →
    ((x : A) (ps : List Piece) → IsTrue (parted ps) → Apart ps → Apart (shown x ps)) →
    (xs : List A) (ps : List Piece) → IsTrue (parted ps) → Apart ps → Apart (joined separator shown xs ps)
joined_apart shown s one [] ps h a = a
joined_apart {A} {separator} shown s one (x ∷ xs) ps h a =
    one x (separated separator shown xs ps) (separated_parts shown s xs ps h) (separated_apart shown s one xs ps h a)

comma_separates : Separates comma
comma_separates = record { parts = λ ps. refl; apart = λ ps a. (refl, a) }

space_separates : Separates (blank ∷ [])
space_separates = record { parts = λ ps. refl; apart = λ ps a. a }

greater_separates : Separates (blank ∷ token Greater ∷ blank ∷ [])
greater_separates = record { parts = λ ps. refl; apart = λ ps a. (refl, a) }

operator_touches : (o : Op) (ps : List Piece) → IsTrue (may_touch (operator_token o) (blank ∷ ps))
operator_touches op.Add ps = refl
operator_touches op.Sub ps = refl
operator_touches op.Mul ps = refl
operator_touches op.Div ps = refl
operator_touches op.Mod ps = refl
operator_touches op.Less ps = refl
operator_touches op.LessEqual ps = refl
operator_touches op.Greater ps = refl
operator_touches op.GreaterEqual ps = refl
operator_touches op.Equal ps = refl
operator_touches op.NotEqual ps = refl
operator_touches op.And ps = refl
operator_touches op.Or ps = refl

pattern_touches : (p : Pattern) (ps : List Piece) → IsTrue (parted ps) → IsTrue (may_touch (pattern_token p) ps)
pattern_touches (patterns.Literal word) ps h = refl
pattern_touches (patterns.OneOf class) ps h = h

part_apart : (operator : Bool) (shown : List Piece → List Piece) →
    ((ps : List Piece) → IsTrue (parted ps) → Apart ps → Apart (shown ps)) →
    (ps : List Piece) → IsTrue (parted ps) → Apart ps → Apart (as_part operator shown ps)
part_apart true shown one ps h a = (refl, one (token Close ∷ ps) refl (refl, a))
part_apart false shown one ps h a = one ps h a

integer_apart : (z : ℤ) (ps : List Piece) → IsTrue (parted ps) → Apart ps → Apart (integer_pieces z ps)
integer_apart (pos n) ps h a = (h, a)
integer_apart (negsuc n) ps h a = (refl, (h, a))

truth_apart : (b : Bool) (ps : List Piece) → IsTrue (parted ps) → Apart ps → Apart (expression_pieces (Truth b) ps)
truth_apart true ps h a = (h, a)
truth_apart false ps h a = (h, a)

expression_apart : (e : Expression) (ps : List Piece) → IsTrue (parted ps) → Apart ps → Apart (expression_pieces e ps)
expression_apart (Integer n) ps h a = integer_apart n ps h a
expression_apart (Truth b) ps h a = truth_apart b ps h a
expression_apart expression.Here ps h a = (h, a)
expression_apart (Variable x) ps h a = (h, a)
expression_apart (expression.Not e) ps h a =
    (refl, part_apart (has_operator e) (expression_pieces e) (λ qs. expression_apart e qs) ps h a)
expression_apart (Negative e) ps h a =
    (refl, part_apart (has_operator e) (expression_pieces e) (λ qs. expression_apart e qs) ps h a)
expression_apart (Binary o e f) ps h a =
    let second : List Piece = as_part (has_operator f) (expression_pieces f) ps in
    part_apart (has_operator e) (expression_pieces e) (λ qs. expression_apart e qs)
    (blank ∷ token (operator_token o) ∷ blank ∷ second) refl
    (operator_touches o second, part_apart (has_operator f) (expression_pieces f) (λ qs. expression_apart f qs) ps h a)
expression_apart (Of f e) ps h a = (refl, expression_apart e (token Close ∷ ps) refl (refl, a))
expression_apart (Same e f) ps h a =
    (refl, expression_apart e (token Comma ∷ blank ∷ expression_pieces f (token Close ∷ ps)) refl (refl, expression_apart f (token Close ∷ ps) refl (refl, a)))
expression_apart (Spells e word) ps h a =
    (refl, expression_apart e (token Comma ∷ blank ∷ token (sign.Literal word) ∷ token Close ∷ ps) refl (refl, (refl, (refl, a))))
expression_apart (Outer e f) ps h a =
    (refl, expression_apart e (token Comma ∷ blank ∷ expression_pieces f (token Close ∷ ps)) refl (refl, expression_apart f (token Close ∷ ps) refl (refl, a)))
expression_apart (Inside e f) ps h a =
    (refl, expression_apart e (token Comma ∷ blank ∷ expression_pieces f (token Close ∷ ps)) refl (refl, expression_apart f (token Close ∷ ps) refl (refl, a)))
expression_apart (FreeBefore p) ps h a = (refl, (pattern_touches p (token Close ∷ ps) refl, (refl, a)))
expression_apart (FreeAfter p) ps h a = (refl, (pattern_touches p (token Close ∷ ps) refl, (refl, a)))

call_apart : (name : List ℕ) (es : List Expression) (ps : List Piece) → IsTrue (parted ps) → Apart ps → Apart (call_pieces name es ps)
call_apart name [] ps h a = (h, a)
call_apart name (e ∷ es) ps h a =
    (refl, joined_apart expression_pieces comma_separates expression_apart (e ∷ es) (token Close ∷ ps) refl (refl, a))

filter_apart : (f : Filter) (ps : List Piece) → IsTrue (parted ps) → Apart ps → Apart (filter_pieces f ps)
filter_apart (filters.NotFollowed p) ps h a = (refl, (pattern_touches p ps h, a))
filter_apart (filters.NotPreceded p) ps h a = (refl, (pattern_touches p ps h, a))
filter_apart (filters.Not p) ps h a = (refl, (pattern_touches p ps h, a))

let_apart : (name : List ℕ) (e : Expression) (ps : List Piece) → Apart ps → Apart (let_pieces name e ps)
let_apart name e ps a = (refl, (refl, (refl, (refl, expression_apart e (token Close ∷ ps) refl (refl, a)))))

bindings_apart : (bs : List Binding) (ps : List Piece) → Apart ps → Apart (bindings_pieces bs ps)
bindings_apart [] ps a = a
bindings_apart (b ∷ bs) ps a = let_apart b.name b.value (blank ∷ bindings_pieces bs ps) (bindings_apart bs ps a)

symbols_part : (xs : Symbols) (ps : List Piece) → IsTrue (parted ps) → IsTrue (parted (further_symbols xs ps))
symbols_part no_symbols ps h = h
symbols_part (next_symbol x xs) ps h = refl

alternatives_part : (ys : Alternatives) (ps : List Piece) → IsTrue (parted ps) → IsTrue (parted (further_alternatives ys ps))
alternatives_part no_alternatives ps h = h
alternatives_part (next_alternative xs ys) ps h = refl

mutual
  symbol_apart : (x : Symbol) (ps : List Piece) → IsTrue (parted ps) → Apart ps → Apart (symbol_pieces x ps)
  symbol_apart (tree.Literal word) ps h a = (refl, a)
  symbol_apart (tree.OneOf class) ps h a = (h, a)
  symbol_apart (tree.Call name es) ps h a = call_apart name es ps h a
  symbol_apart (tree.Label name x) ps h a = (refl, (refl, symbol_apart x ps h a))
  symbol_apart (tree.Guard e) ps h a = (refl, (refl, expression_apart e (token Close ∷ ps) refl (refl, a)))
  symbol_apart (tree.Let name e) ps h a = let_apart name e ps a
  symbol_apart (tree.Opt x) ps h a = symbol_apart x (token Question ∷ ps) refl (refl, a)
  symbol_apart (tree.Star x) ps h a = symbol_apart x (token sign.Star ∷ ps) refl (refl, a)
  symbol_apart (tree.Plus x) ps h a = symbol_apart x (token sign.Plus ∷ ps) refl (refl, a)
  symbol_apart (tree.SepStar x s) ps h a =
      let last : List Piece = token CloseBrace ∷ token sign.Star ∷ ps in
      (refl, symbol_apart x (blank ∷ symbol_pieces s last) refl (symbol_apart s last refl (refl, (refl, a))))
  symbol_apart (tree.SepPlus x s) ps h a =
      let last : List Piece = token CloseBrace ∷ token sign.Plus ∷ ps in
      (refl, symbol_apart x (blank ∷ symbol_pieces s last) refl (symbol_apart s last refl (refl, (refl, a))))
  symbol_apart (tree.Group ys) ps h a = (refl, alternatives_apart ys (token Close ∷ ps) refl (refl, a))
  symbol_apart (tree.Offside x) ps h a = (refl, symbol_apart x ps h a)
  symbol_apart (tree.Ignore x) ps h a = (refl, symbol_apart x ps h a)
  symbol_apart (tree.Align x) ps h a = (refl, symbol_apart x ps h a)
  symbol_apart (tree.Filtered x fs) ps h a =
      symbol_apart x (separated (blank ∷ []) filter_pieces fs ps) (separated_parts filter_pieces space_separates fs ps h)
      (separated_apart filter_pieces space_separates filter_apart fs ps h a)
  symbol_apart (tree.Seq xs) ps h a = alternative_apart xs ps h a
  symbol_apart (tree.Entry bs x) ps h a = bindings_apart bs (symbol_pieces x ps) (symbol_apart x ps h a)

  alternative_apart : (xs : Symbols) (ps : List Piece) → IsTrue (parted ps) → Apart ps → Apart (alternative_pieces xs ps)
  alternative_apart no_symbols ps h a = a
  alternative_apart (next_symbol x xs) ps h a =
      symbol_apart x (further_symbols xs ps) (symbols_part xs ps h) (symbols_apart xs ps h a)

  symbols_apart : (xs : Symbols) (ps : List Piece) → IsTrue (parted ps) → Apart ps → Apart (further_symbols xs ps)
  symbols_apart no_symbols ps h a = a
  symbols_apart (next_symbol x xs) ps h a =
      symbol_apart x (further_symbols xs ps) (symbols_part xs ps h) (symbols_apart xs ps h a)

  alternatives_apart : (ys : Alternatives) (ps : List Piece) → IsTrue (parted ps) → Apart ps → Apart (alternatives_pieces ys ps)
  alternatives_apart no_alternatives ps h a = a
  alternatives_apart (next_alternative xs ys) ps h a =
      alternative_apart xs (further_alternatives ys ps) (alternatives_part ys ps h) (others_apart ys ps h a)

  others_apart : (ys : Alternatives) (ps : List Piece) → IsTrue (parted ps) → Apart ps → Apart (further_alternatives ys ps)
  others_apart no_alternatives ps h a = a
  others_apart (next_alternative xs ys) ps h a =
      (refl, alternative_apart xs (further_alternatives ys ps) (alternatives_part ys ps h) (others_apart ys ps h a))

associativity_apart : (s : Assoc) (ps : List Piece) → Apart ps → Apart (associativity_pieces s ps)
associativity_apart assoc.Free ps a = a
associativity_apart assoc.Left ps a = (refl, a)
associativity_apart assoc.Right ps a = (refl, a)
associativity_apart assoc.Nonassoc ps a = (refl, a)

level_apart : (l : Level) (ps : List Piece) → IsTrue (parted ps) → Apart ps → Apart (level_pieces l ps)
level_apart l ps h a =
    associativity_apart l.assoc (alternatives_pieces (gathered_alternatives l.alts) ps)
    (alternatives_apart (gathered_alternatives l.alts) ps h a)

kind_touches : (k : Kind) (ps : List Piece) → IsTrue (parted ps) → IsTrue (may_touch (kind_token k) ps)
kind_touches kind.Int ps h = h
kind_touches kind.Bool ps h = h
kind_touches kind.Span ps h = h

parameter_apart : (p : Param) (ps : List Piece) → IsTrue (parted ps) → Apart ps → Apart (parameter_pieces p ps)
parameter_apart p ps h a = (refl, (refl, (kind_touches p.kind ps h, a)))

head_apart : (name : List ℕ) (params : List Param) (ps : List Piece) → Apart ps → Apart (head_pieces name params (blank ∷ ps))
head_apart name [] ps a = (refl, a)
head_apart name (p ∷ params) ps a =
    (refl, joined_apart parameter_pieces comma_separates parameter_apart (p ∷ params) (token Close ∷ blank ∷ ps) refl (refl, a))

declaration_touches : (k : DeclKind) (ps : List Piece) → IsTrue (may_touch (declaration_token k) (blank ∷ ps))
declaration_touches decls.Syntax ps = refl
declaration_touches decls.Lexical ps = refl
declaration_touches decls.Layout ps = refl
declaration_touches decls.Plain ps = refl

declaration_apart : (d : Decl) (ps : List Piece) → Apart ps → Apart (declaration_pieces d ps)
declaration_apart d ps a =
    let last : List Piece = token Semicolon ∷ line_end ∷ ps in
    let body : Apart (levels_pieces d.levels last) =
    joined_apart level_pieces greater_separates level_apart d.levels last refl (refl, a) in (
      declaration_touches d.kind (head_pieces d.name d.params (blank ∷ token Equals ∷ blank ∷ levels_pieces d.levels last)),
      head_apart d.name d.params (token Equals ∷ blank ∷ levels_pieces d.levels last) (refl, body),
    )

declarations_apart : (ds : List Decl) → Apart (separated [] declaration_pieces ds [])
declarations_apart [] = tt
declarations_apart (d ∷ ds) = declaration_apart d (separated [] declaration_pieces ds []) (declarations_apart ds)

start_apart : (start : Option (List ℕ)) (ps : List Piece) → Apart ps → Apart (start_pieces start ps)
start_apart None ps a = a
start_apart (Some name) ps a = (refl, (refl, (refl, a)))

tabs_apart : (tabs : Option ℤ) (ps : List Piece) → Apart ps → Apart (tabs_pieces tabs ps)
tabs_apart None ps a = a
tabs_apart (Some n) ps a = (refl, integer_apart n (token Semicolon ∷ line_end ∷ ps) refl (refl, a))

pub grammar_apart : (g : Grammar) → Apart (pieces_of g)
grammar_apart g =
    start_apart g.start (tabs_pieces g.tabs (separated [] declaration_pieces g.decls []))
    (tabs_apart g.tabs (separated [] declaration_pieces g.decls []) (declarations_apart g.decls))
