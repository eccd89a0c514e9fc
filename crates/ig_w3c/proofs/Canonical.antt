-- The tokens of a printed text are, in the own notation, those of the canonical text.
use Rattle.std.proofs.Common.{◌≡◌, ◌∙◌, ℕ, List, [], ◌∷◌, Bool, true, false, if◌then◌else◌, refl, sym, ap}
use Rattle.ig_notation_syntax.specs.Token as own
use Rattle.ig_grammar.specs.Symbol as tree
use Rattle.ig_grammar.specs.Symbol.{Symbol, Symbols, no_symbols, next_symbol, Alternatives, no_alternatives, next_alternative}
use Rattle.ig_grammar.specs.Alternative.{gathered_alternatives}
use Rattle.ig_grammar.specs.declared.declaration.Decl.{Decl}
use Rattle.ig_grammar.specs.declared.grammar.Grammar.{Grammar}
use Rattle.ig_show.specs.Pieces.{Piece, blank, line_end, token, tokens}
use Rattle.ig_show.specs.CanonicalText.{symbol_pieces, alternative_pieces, further_symbols, alternatives_pieces, further_alternatives, declaration_pieces, separated, tokens_of}
use Rattle.ig_w3c_syntax.specs.Token.{Token, Head, Text, Code, Bar, Open, Close, Question, Star, Plus, Minus}
use Rattle.ig_w3c_syntax.specs.Reading.{within, in_own_notation}
use Rattle.ig_w3c_syntax.specs.RuleForms as form
use Rattle.ig_w3c.specs.Text.{is_printed}
use Rattle.ig_w3c.proofs.Shown.{literal_token, symbol_tokens, symbols_tokens, alternatives_tokens, further_tokens, level_tokens, rule_tokens}

-- the tokens behind a symbol are those of the pieces behind it
abbrev Same : List Token → List Piece → Type 0
Same ts ps = within ts ≡ tokens ps

printed_same : (b : Bool) (c : ℕ) (ts : List Token) → within ((if b then Text (c ∷ []) else Code c) ∷ ts) ≡ own.Literal (c ∷ []) ∷ within ts
printed_same true c ts = refl
printed_same false c ts = refl

literal_same : (word : List ℕ) (ts : List Token) → within (literal_token word ∷ ts) ≡ own.Literal word ∷ within ts
literal_same [] ts = refl
literal_same (c ∷ []) ts = printed_same (is_printed c) c ts
literal_same (c ∷ d ∷ word) ts = refl

mutual
  atom_same : {x : Symbol} → form.IsAtom x → (ts : List Token) (ps : List Piece) → Same ts ps → Same (symbol_tokens x ts) (symbol_pieces x ps)
  atom_same (form.literal word l) ts ps e = literal_same word ts ∙ ap (λ z. own.Literal word ∷ z) e
  atom_same (form.set class s) ts ps e = ap (λ z. own.OneOf class ∷ z) e
  atom_same (form.name x n) ts ps e = ap (λ z. own.Name x ∷ z) e
  atom_same (form.group ys a) ts ps e =
      ap (λ z. own.Open ∷ z) (alternatives_same a (Close ∷ ts) (token own.Close ∷ ps) (ap (λ z. own.Close ∷ z) e))

  repeated_same : {x : Symbol} → form.IsRepeated x → (ts : List Token) (ps : List Piece) → Same ts ps → Same (symbol_tokens x ts) (symbol_pieces x ps)
  repeated_same (form.once x a) ts ps e = atom_same a ts ps e
  repeated_same (form.option x a) ts ps e = atom_same a (Question ∷ ts) (token own.Question ∷ ps) (ap (λ z. own.Question ∷ z) e)
  repeated_same (form.star x a) ts ps e = atom_same a (Star ∷ ts) (token own.Star ∷ ps) (ap (λ z. own.Star ∷ z) e)
  repeated_same (form.plus x a) ts ps e = atom_same a (Plus ∷ ts) (token own.Plus ∷ ps) (ap (λ z. own.Plus ∷ z) e)

  item_same : {x : Symbol} → form.IsItem x → (ts : List Token) (ps : List Piece) → Same ts ps → Same (symbol_tokens x ts) (symbol_pieces x ps)
  item_same (form.whole x r) ts ps e = repeated_same r ts ps e
  item_same (form.excluding x word r w) ts ps e =
      repeated_same r (Minus ∷ Text word ∷ ts) (blank ∷ token own.Backslash ∷ blank ∷ token (own.Literal word) ∷ ps)
      (ap (λ z. own.Backslash ∷ own.Literal word ∷ z) e)

  alternative_same : {xs : Symbols} → form.IsAlternative xs → (ts : List Token) (ps : List Piece) → Same ts ps →
      Same (symbols_tokens xs ts) (alternative_pieces xs ps) × Same (symbols_tokens xs ts) (further_symbols xs ps)
  alternative_same (form.last_item x i) ts ps e = let h = item_same i ts ps e in (h, h)
  alternative_same (form.further_item x y xs i a) ts ps e =
      let k = alternative_same a ts ps e in
      let h = item_same i (symbols_tokens (next_symbol y xs) ts) (further_symbols (next_symbol y xs) ps) k.1 in (h, h)

  alternatives_same : {ys : Alternatives} → form.AreAlternatives ys → (ts : List Token) (ps : List Piece) → Same ts ps →
      Same (alternatives_tokens ys ts) (alternatives_pieces ys ps)
  alternatives_same (form.last_alternative xs a) ts ps e = (alternative_same a ts ps e).0
  alternatives_same (form.further_alternative xs zs ys a b) ts ps e =
      let k = alternatives_same b ts ps e in
      (alternative_same a (Bar ∷ alternatives_tokens (next_alternative zs ys) ts) (further_alternatives (next_alternative zs ys) ps)
      (ap (λ z. own.Bar ∷ z) k)).0

rules_same : {ds : List Decl} → form.AreRules ds → within (rule_tokens ds) ≡ own.Semicolon ∷ tokens (separated [] declaration_pieces ds [])
rules_same form.no_rule = refl
rules_same (form.next_rule _ ds (form.rule x alts n a) more) =
    let ps : List Piece = separated [] declaration_pieces ds [] in
    ap (λ z. own.Semicolon ∷ own.Lexical ∷ own.Name x ∷ own.Equals ∷ z)
    (alternatives_same a (rule_tokens ds) (token own.Semicolon ∷ line_end ∷ ps) (rules_same more))

-- the start line names the first rule
begin_same : (x : List ℕ) (ts : List Token) → in_own_notation (Head x ∷ ts) ≡ own.Start ∷ own.Name x ∷ within (Head x ∷ ts)
begin_same x ts = refl

pub grammar_same : {g : Grammar} → form.IsOfRules g → in_own_notation (rule_tokens g.decls) ≡ tokens_of g
grammar_same (form.rules d ds r) =
    begin_same d.name (level_tokens d.levels (rule_tokens ds)) ∙ ap (λ z. own.Start ∷ own.Name d.name ∷ z) (rules_same r)
