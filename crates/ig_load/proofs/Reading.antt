-- The text of the grammar reads as the grammar.
use Rattle.std.proofs.Common.{◌≡◌, ℕ, ◌+◌, ◌<◌, ◌≤◌, List, [], ◌∷◌, ◌++◌, Bool, true, false, length, refl, sym, ◌∙◌, ap, subst, arith, lit<, lit≤}
use Rattle.std.specs.Prelude.{codes}
use Rattle.std.specs.List.{list_all}
use Rattle.std.specs.Str.{IsAscii}
use Rattle.std.proofs.lemmas.List.Elements.{All-nil, All-cons}
use Rattle.std.proofs.lemmas.Str.{chars-IsAscii, IsUtf8-from_ascii}
use Rattle.std.proofs.lemmas.Bool.{and_parts}
use Rattle.unicode_ident.proofs.IdentLemmas.{is_xid_start-ascii, is_xid_continue-ascii}
use Rattle.ig_text.specs.declared.class.Class.TheVariants.{Ranges}
use Rattle.ig_text.proofs.Characters.{ascii_at}
use Rattle.ig_grammar.specs.Symbol.{Symbol, Symbols, no_symbols, next_symbol, no_alternatives, next_alternative, Literal}
use Rattle.ig_grammar.specs.Symbol as tree
use Rattle.ig_grammar.specs.declared.declaration.Assoc.{Assoc}
use Rattle.ig_grammar.specs.declared.declaration.Assoc.TheVariants as assoc
use Rattle.ig_grammar.specs.declared.declaration.DeclKind.TheVariants as kind
use Rattle.ig_notation_syntax.specs.Token as token
use Rattle.ig_notation_syntax.specs.Token.{Token}
use Rattle.ig_notation_syntax.specs.Spelling.{IsToken, signs, keywords, blanks, is_one_of, blank}
use Rattle.ig_notation_syntax.specs.Spelling as spelling
use Rattle.ig_notation_syntax.specs.Lexing.{Lexes}
use Rattle.ig_notation_syntax.specs.Texts.{bytes, nothing, a_separator, a_token}
use Rattle.ig_notation_syntax.specs.Rules.{FollowsRules, ReadsSymbol, ReadsAlternative, ReadsLevel, ReadsLevels}
use Rattle.ig_notation_syntax.specs.Rules as rules
use Rattle.ig_notation_syntax.specs.Notation.{most_bytes}
use Rattle.ig_notation_syntax.specs.TokenLaws.{EndedTokensAreLongest, ends}
use Rattle.ig_notation_terms.specs.Limits.{NumberFits, NumbersFit, IsShallow, opened, open_behind}
use Rattle.ig_notation.specs.Outcome.{IsRead, unplaced}
use Rattle.ig_load.specs.Grammar.{LoadGrammar, load_text, levels, operand, operation, expression}
use Rattle.ig_load.specs.Laws.{LoadTextReads}
use Rattle.ig_load.proofs.Scoped.{well_scoped}

-- the text from a byte on has these tokens
pub record HasTokensAt (at : ℕ) (text : List ℕ) (ts : List Token) : Type 0 where
  pub placed : List (Token × ℕ)
  pub lexes : Lexes at text placed
  pub are : unplaced placed ≡ ts

-- from whichever byte on
pub record Has (text : List ℕ) (ts : List Token) : Type 0 where
  pub from : (at : ℕ) → HasTokensAt at text ts

no_token : Has [] []
no_token = record { from = λ at. record { placed = []; lexes = nothing at [] refl; are = refl } }

behind_blank : (c : ℕ) {rest : List ℕ} {ts : List Token} → is_one_of blanks c ≡ true → Has rest ts → Has (c ∷ rest) ts
behind_blank c {rest = rest} {ts = ts} h more =
    record {
      from = λ at.
          let next = more.from (at + bytes (c ∷ [])) in
          record {
            placed = next.placed;
            lexes = a_separator at (at + bytes (c ∷ [])) (c ∷ rest) (c ∷ []) rest next.placed (blank c rest h) refl refl next.lexes;
            are = next.are;
          };
    }

module _ (law : EndedTokensAreLongest) where
  behind_token : (front : List ℕ) (t : Token) {rest : List ℕ} {ts : List Token} → IsToken front t → ends t rest ≡ true → Has rest ts →
      Has (front ++ rest) (t ∷ ts)
  behind_token front t {rest = rest} {ts = ts} is ended more =
      record {
        from = λ at.
            let next = more.from (at + bytes front) in
            record {
              placed = (t, at) ∷ next.placed;
              lexes =
                  a_token at (at + bytes front) (front ++ rest) front rest t next.placed (law front rest t is ended) refl refl
                  next.lexes;
              are = ap (λ (z : List Token). t ∷ z) next.are;
            };
      }

  -- a token and then a space
  spaced : (front : List ℕ) (t : Token) {rest : List ℕ} {ts : List Token} → IsToken front t → ends t (32 ∷ rest) ≡ true → Has rest ts →
      Has (front ++ 32 ∷ rest) (t ∷ ts)
  spaced front t is ended more = behind_token front t is ended (behind_blank 32 refl more)

  e_is_name : IsToken (codes "E") (token.Name (codes "E"))
  e_is_name = spelling.name (codes "E") (rw (is_xid_start-ascii 69 (lit< tt)) refl)

  -- the nonterminal, and a space or a semicolon
  name_then : (c : ℕ) {rest : List ℕ} {ts : List Token} → ends (token.Name (codes "E")) (c ∷ []) ≡ true → Has (c ∷ rest) ts →
      Has (69 ∷ c ∷ rest) (token.Name (codes "E") ∷ ts)
  name_then c {rest = rest} h more = behind_token (codes "E") (token.Name (codes "E")) e_is_name h more

  spaced_name : {rest : List ℕ} {ts : List Token} → Has rest ts → Has (69 ∷ 32 ∷ rest) (token.Name (codes "E") ∷ ts)
  spaced_name more = name_then 32 (rw (is_xid_continue-ascii 32 (lit< tt)) refl) (behind_blank 32 refl more)

  -- a literal of one character, and a space
  spaced_literal : (c : ℕ) {rest : List ℕ} {ts : List Token} → is_one_of (10 ∷ spelling.literal_signs) c ≡ false → Has rest ts →
      Has (34 ∷ c ∷ 34 ∷ 32 ∷ rest) (token.Literal (c ∷ []) ∷ ts)
  spaced_literal c h more =
      spaced (34 ∷ c ∷ 34 ∷ []) (token.Literal (c ∷ []))
      (spelling.literal (c ∷ []) (34 ∷ c ∷ 34 ∷ []) c [] (spelling.letter (c ∷ []) [] (c ∷ []) c [] (spelling.bare c h) spelling.no_letter refl) refl)
      refl more

  -- an operator between two expressions, up to the second one
  operator_text : (c : ℕ) {rest : List ℕ} {ts : List Token} → is_one_of (10 ∷ spelling.literal_signs) c ≡ false → Has rest ts →
      Has (69 ∷ 32 ∷ 34 ∷ c ∷ 34 ∷ 32 ∷ rest) (token.Name (codes "E") ∷ token.Literal (c ∷ []) ∷ ts)
  operator_text c h more = spaced_name (spaced_literal c h more)

  class_text : {rest : List ℕ} {ts : List Token} → Has rest ts →
      Has (91 ∷ 97 ∷ 45 ∷ 122 ∷ 93 ∷ 32 ∷ rest) (token.OneOf (Ranges false ((97, 122) ∷ [])) ∷ ts)
  class_text more =
      spaced (91 ∷ 97 ∷ 45 ∷ 122 ∷ 93 ∷ []) (token.OneOf (Ranges false ((97, 122) ∷ [])))
      (spelling.ranges (97 ∷ 45 ∷ 122 ∷ []) (91 ∷ 97 ∷ 45 ∷ 122 ∷ 93 ∷ []) (97, 122) []
      (spelling.two_characters (97 ∷ []) (122 ∷ []) [] (97 ∷ 45 ∷ 122 ∷ []) 97 122 [] (spelling.bare 97 refl) (spelling.bare 122 refl)
      (lit≤ tt) spelling.no_range refl)
      refl)
      refl more

  spaced_greater : {rest : List ℕ} {ts : List Token} → Has rest ts → Has (62 ∷ 32 ∷ rest) (token.Greater ∷ ts)
  unfolding signs
  spaced_greater more = spaced (codes ">") token.Greater (spelling.sign (codes ">") token.Greater refl) refl more

  spaced_left : {rest : List ℕ} {ts : List Token} → Has rest ts → Has (codes "left " ++ rest) (token.Left ∷ ts)
  unfolding keywords
  spaced_left more =
      spaced (codes "left") token.Left (spelling.keyword (codes "left") token.Left refl) (rw (is_xid_continue-ascii 32 (lit< tt)) refl) more

  -- a semicolon at the end of a line
  end_of_line : {rest : List ℕ} {ts : List Token} → Has rest ts → Has (69 ∷ 59 ∷ 10 ∷ rest) (token.Name (codes "E") ∷ token.Semicolon ∷ ts)
  unfolding signs
  end_of_line more =
      name_then 59 (rw (is_xid_continue-ascii 59 (lit< tt)) refl)
      (behind_token (codes ";") token.Semicolon (spelling.sign (codes ";") token.Semicolon refl) refl (behind_blank 10 refl more))

  -- `start E;` and `syntax E = `
  heads : {rest : List ℕ} {ts : List Token} → Has rest ts →
      Has (codes "start E;\nsyntax E = " ++ rest)
      (token.Start ∷ token.Name (codes "E") ∷ token.Semicolon ∷ token.Syntax ∷ token.Name (codes "E") ∷ token.Equals ∷ ts)
  unfolding keywords signs
  heads more =
      spaced (codes "start") token.Start (spelling.keyword (codes "start") token.Start refl) (rw (is_xid_continue-ascii 32 (lit< tt)) refl)
      (end_of_line
      (spaced (codes "syntax") token.Syntax (spelling.keyword (codes "syntax") token.Syntax refl) (rw (is_xid_continue-ascii 32 (lit< tt)) refl)
      (spaced_name (spaced (codes "=") token.Equals (spelling.sign (codes "=") token.Equals refl) refl more))))

  spaced_bar : {rest : List ℕ} {ts : List Token} → Has rest ts → Has (124 ∷ 32 ∷ rest) (token.Bar ∷ ts)
  unfolding signs
  spaced_bar more = spaced (codes "|") token.Bar (spelling.sign (codes "|") token.Bar refl) refl more

-- an operator between two expressions, and what stands behind
abbrev binary : ℕ → List Token → List Token
binary c r = token.Name (codes "E") ∷ token.Literal (c ∷ []) ∷ token.Name (codes "E") ∷ r

abbrev sums : List Token
sums = token.Left ∷ binary 43 (token.Bar ∷ binary 45 (token.Semicolon ∷ []))

abbrev products : List Token
products = token.Left ∷ binary 42 (token.Greater ∷ sums)

abbrev powers : List Token
powers = binary 94 (token.Greater ∷ products)

abbrev body : List Token
body = token.OneOf (Ranges false ((97, 122) ∷ [])) ∷ token.Greater ∷ powers

abbrev tokens : List Token
tokens = token.Start ∷ token.Name (codes "E") ∷ token.Semicolon ∷ token.Syntax ∷ token.Name (codes "E") ∷ token.Equals ∷ body

text_has_tokens : EndedTokensAreLongest → Has load_text tokens
unfolding load_text
text_has_tokens law =
    heads law (class_text law (spaced_greater law (operator_text law 94 refl (spaced_name law (spaced_greater law
    (spaced_left law (operator_text law 42 refl (spaced_name law (spaced_greater law
    (spaced_left law (operator_text law 43 refl (spaced_name law (spaced_bar law
    (operator_text law 45 refl (end_of_line law no_token)))))))))))))))

reads_expression : (r : List Token) → ReadsSymbol (token.Name (codes "E") ∷ r) r expression
reads_expression r =
    rules.unlabelled (token.Name (codes "E") ∷ r) r expression
    (rules.unmarked (token.Name (codes "E") ∷ r) r expression
    (rules.atom (token.Name (codes "E") ∷ r) r r r expression expression expression [] (rules.bare_call (codes "E") r)
    (rules.once r expression) (rules.no_filter r) refl))

reads_literal : (c : ℕ) (r : List Token) → ReadsSymbol (token.Literal (c ∷ []) ∷ r) r (Literal (c ∷ []))
reads_literal c r =
    rules.unlabelled (token.Literal (c ∷ []) ∷ r) r (Literal (c ∷ []))
    (rules.unmarked (token.Literal (c ∷ []) ∷ r) r (Literal (c ∷ []))
    (rules.atom (token.Literal (c ∷ []) ∷ r) r r r (Literal (c ∷ [])) (Literal (c ∷ [])) (Literal (c ∷ [])) []
    (rules.literal (c ∷ []) r) (rules.once r (Literal (c ∷ []))) (rules.no_filter r) refl))

abbrev letter_class : Symbol
letter_class = tree.OneOf (Ranges false ((97, 122) ∷ []))

reads_class : (r : List Token) → ReadsSymbol (token.OneOf (Ranges false ((97, 122) ∷ [])) ∷ r) r letter_class
reads_class r =
    rules.unlabelled (token.OneOf (Ranges false ((97, 122) ∷ [])) ∷ r) r letter_class
    (rules.unmarked (token.OneOf (Ranges false ((97, 122) ∷ [])) ∷ r) r letter_class
    (rules.atom (token.OneOf (Ranges false ((97, 122) ∷ [])) ∷ r) r r r letter_class letter_class letter_class []
    (rules.class (Ranges false ((97, 122) ∷ [])) r) (rules.once r letter_class) (rules.no_filter r) refl))

abbrev around : ℕ → Symbols
around c = next_symbol expression (next_symbol (Literal (c ∷ [])) (next_symbol expression no_symbols))

reads_binary : (c : ℕ) (r : List Token) → ReadsAlternative (binary c r) r (around c)
reads_binary c r =
    rules.further_symbol (binary c r) (token.Literal (c ∷ []) ∷ token.Name (codes "E") ∷ r) r expression
    (next_symbol (Literal (c ∷ [])) (next_symbol expression no_symbols)) (reads_expression (token.Literal (c ∷ []) ∷ token.Name (codes "E") ∷ r))
    (rules.further_symbol (token.Literal (c ∷ []) ∷ token.Name (codes "E") ∷ r) (token.Name (codes "E") ∷ r) r (Literal (c ∷ []))
    (next_symbol expression no_symbols) (reads_literal c (token.Name (codes "E") ∷ r))
    (rules.further_symbol (token.Name (codes "E") ∷ r) r r expression no_symbols (reads_expression r) (rules.no_symbol r)))

-- a level of one operator
reads_level : (c : ℕ) (s r : List Token) (a : Assoc) → rules.ReadsAssociativity s (binary c r) a →
    ReadsLevel s r (record { assoc = a; alts = operation c ∷ [] })
reads_level c s r a associativity =
    rules.level s (binary c r) r a (operation c ∷ []) (next_alternative (around c) no_alternatives) associativity
    (rules.last_alternative (binary c r) r (around c) (reads_binary c r)) refl

reads_sums : ReadsLevel sums (token.Semicolon ∷ []) (record { assoc = assoc.Left; alts = operation 43 ∷ operation 45 ∷ [] })
reads_sums =
    let r = token.Semicolon ∷ [] in
    rules.level sums (binary 43 (token.Bar ∷ binary 45 r)) r assoc.Left (operation 43 ∷ operation 45 ∷ [])
    (next_alternative (around 43) (next_alternative (around 45) no_alternatives)) (rules.left (binary 43 (token.Bar ∷ binary 45 r)))
    (rules.further_alternative (binary 43 (token.Bar ∷ binary 45 r)) (binary 45 r) r (around 43) (next_alternative (around 45) no_alternatives)
    (reads_binary 43 (token.Bar ∷ binary 45 r)) (rules.last_alternative (binary 45 r) r (around 45) (reads_binary 45 r)))
    refl

reads_operand : ReadsLevel body (token.Greater ∷ powers) (record { assoc = assoc.Free; alts = operand ∷ [] })
reads_operand =
    let r = token.Greater ∷ powers in
    rules.level body body r assoc.Free (operand ∷ []) (next_alternative (next_symbol letter_class no_symbols) no_alternatives) (rules.free body)
    (rules.last_alternative body r (next_symbol letter_class no_symbols)
    (rules.further_symbol body r r letter_class no_symbols (reads_class r) (rules.no_symbol r)))
    refl

reads_levels : ReadsLevels body (token.Semicolon ∷ []) levels
reads_levels =
    rules.further_level body powers (token.Semicolon ∷ []) _ _ reads_operand
    (rules.further_level powers products (token.Semicolon ∷ []) _ _
    (reads_level 94 powers (token.Greater ∷ products) assoc.Free (rules.free powers))
    (rules.further_level products sums (token.Semicolon ∷ []) _ _
    (reads_level 42 products (token.Greater ∷ sums) assoc.Left (rules.left (binary 42 (token.Greater ∷ sums))))
    (rules.last_level sums (token.Semicolon ∷ []) _ reads_sums)))

follows : FollowsRules tokens LoadGrammar
unfolding LoadGrammar
follows =
    rules.with_start (codes "E") (token.Syntax ∷ token.Name (codes "E") ∷ token.Equals ∷ body) _ _
    (rules.without_tabs (token.Syntax ∷ token.Name (codes "E") ∷ token.Equals ∷ body) _
    (rules.further_declaration (token.Syntax ∷ token.Name (codes "E") ∷ token.Equals ∷ body) [] _ []
    (rules.without_parameters token.Syntax kind.Syntax (codes "E") body [] levels rules.syntax reads_levels) rules.no_declaration))

-- tokens that are neither numbers nor brackets
abbrev plain : Token → Bool
plain (token.Number n) = false
plain (token.Head x) = false
plain token.Open = false
plain token.Close = false
plain token.OpenBrace = false
plain token.CloseBrace = false
plain t = true

number_fits : (t : Token) → plain t ≡ true → NumberFits t
number_fits (token.Number n) e = cc
number_fits t e = tt

numbers_fit : (ts : List Token) → list_all plain ts ≡ true → NumbersFit ts
numbers_fit [] e = All-nil NumberFits
numbers_fit (t ∷ ts) e =
    let parts = and_parts (plain t) (list_all plain ts) e in
    All-cons NumberFits t ts (number_fits t parts.0) (numbers_fit ts parts.1)

stays : (n : ℕ) (t : Token) → plain t ≡ true → opened n t ≡ n
stays n (token.Head x) e = cc
stays n token.Open e = cc
stays n token.Close e = cc
stays n token.OpenBrace e = cc
stays n token.CloseBrace e = cc
stays n t e = refl

open_stays : (front rest : List Token) (n : ℕ) → list_all plain (front ++ rest) ≡ true → open_behind n front ≡ n
open_stays [] rest n e = refl
open_stays (t ∷ front) rest n e =
    let parts = and_parts (plain t) (list_all plain (front ++ rest)) e in
    ap (λ (k : ℕ). open_behind k front) (stays n t parts.0) ∙ open_stays front rest n parts.1

shallow : (ts : List Token) → list_all plain ts ≡ true → IsShallow ts
shallow ts e front rest parts =
    let none = open_stays front rest 0 (ap (list_all plain) (sym parts) ∙ e) in omega arith

text_is_ascii : IsAscii load_text
unfolding load_text
text_is_ascii = ascii_at load_text refl

text_is_short : length load_text ≤ most_bytes
unfolding load_text
text_is_short = lit≤ tt

reading : EndedTokensAreLongest → IsRead load_text LoadGrammar
reading law =
    let lexed = (text_has_tokens law).from 0 in
    record {
      tokens = lexed.placed;
      are_tokens = record {
        bytes = text_is_short;
        lexed = subst (λ (z : List ℕ). Lexes 0 z lexed.placed) (sym (chars-IsAscii load_text text_is_ascii)) lexed.lexes;
      };
      numbers = subst NumbersFit (sym lexed.are) (numbers_fit tokens refl);
      shallow = subst IsShallow (sym lexed.are) (shallow tokens refl);
      follows = subst (λ (z : List Token). FollowsRules z LoadGrammar) (sym lexed.are) follows;
    }

pub load_text_reads : EndedTokensAreLongest → LoadTextReads
load_text_reads law =
    record { utf8 = IsUtf8-from_ascii load_text text_is_ascii; reading = reading law; scoped = well_scoped }
