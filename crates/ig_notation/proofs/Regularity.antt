-- A grammar that is read is regular, its names are names, and it has no more declarations than its text has bytes.
use Rattle.std.proofs.Common.{◌≡◌, ℕ, suc, ◌≤◌, List, Bool, true, false, Some, refl, subst, arith, length}
use Rattle.std.specs.Prelude.{chars, IsUtf8, All}
use Rattle.std.proofs.lemmas.List.{length-map}
use Rattle.std.proofs.lemmas.List.Elements.{All-nil, All-cons}
use Rattle.std.proofs.lemmas.Str.{encodes-chars, length-le-encodes}
use Rattle.ig_text.proofs.Tables.{all_rows, found_row}
use Rattle.ig_text.specs.Words.{is_word}
use Rattle.ig_notation_syntax.specs.Token as token
use Rattle.ig_notation_syntax.specs.Token.{Token}
use Rattle.ig_notation_syntax.specs.Spelling.{entry, signs, keywords, IsToken, name, head, number, literal, ranges, other_ranges, named_class, sign, keyword}
use Rattle.ig_notation_syntax.specs.Lexing.{Lexes}
use Rattle.ig_notation_syntax.specs.Texts.{nothing, a_separator, a_token}
use Rattle.ig_grammar.specs.declared.grammar.Grammar.{Grammar}
use Rattle.ig_notation_syntax.specs.Notation.{most_bytes}
use Rattle.ig_notation_syntax.specs.TokenLaws.{TokensAreFew}
use Rattle.ig_notation_syntax.specs.Written.{HasText}
use Rattle.ig_notation_syntax.specs.Names.{HasName}
use Rattle.ig_notation_syntax.specs.RuleLaws.{ReadsAreCounted, ReadsAreNamed, ReadsAreRegular}
use Rattle.ig_notation.specs.Outcome.{IsRead, unplaced, ReadGrammarsAreRegular, ReadNamesAreNames}

-- no sign and no keyword is a literal
abbrev is_bare : Token → Bool
is_bare (token.Literal word) = false
is_bare t = true

bare_text : (t : Token) → is_bare t ≡ true → HasText t
bare_text (token.Literal word) e = absurd (cc)
bare_text t e = tt

bare_signs : all_rows (λ w t. is_bare t) signs ≡ true
unfolding signs
bare_signs = refl

sign_text : (cs : List ℕ) (t : Token) → entry signs cs ≡ Some t → HasText t
sign_text cs t e = bare_text t (found_row (λ w. is_word w cs) (λ w u. is_bare u) signs t bare_signs e).passes

bare_keywords : all_rows (λ w t. is_bare t) keywords ≡ true
unfolding keywords
bare_keywords = refl

keyword_text : (cs : List ℕ) (t : Token) → entry keywords cs ≡ Some t → HasText t
keyword_text cs t e = bare_text t (found_row (λ w. is_word w cs) (λ w u. is_bare u) keywords t bare_keywords e).passes

-- a literal has at least one character
token_text : {front : List ℕ} {t : Token} → IsToken front t → HasText t
token_text (name cs n) = tt
token_text (head cs whole n p) = tt
token_text (number cs n) = tt
token_text (literal inside whole c text s p) = λ e. cc
token_text (ranges inside whole pair pairs s p) = tt
token_text (other_ranges inside whole pair pairs s p) = tt
token_text (named_class cs class e) = tt
token_text (sign cs t e) = sign_text cs t e
token_text (keyword cs t e) = keyword_text cs t e

lexed_text : {at : ℕ} {text : List ℕ} {placed : List (Token × ℕ)} → Lexes at text placed → All HasText (unplaced placed)
lexed_text (nothing at text e) = All-nil HasText
lexed_text (a_separator at n text front rest placed s p i later) = lexed_text later
lexed_text (a_token at n text front rest t placed l p i later) =
    All-cons HasText t (unplaced placed) (token_text l.stands.spelled_so) (lexed_text later)

-- a name has only the form of one
abbrev is_nameless : Token → Bool
is_nameless (token.Name x) = false
is_nameless (token.Head x) = false
is_nameless t = true

no_name : (t : Token) → is_nameless t ≡ true → HasName t
no_name (token.Name x) e = absurd (cc)
no_name (token.Head x) e = absurd (cc)
no_name t e = tt

nameless_signs : all_rows (λ w t. is_nameless t) signs ≡ true
unfolding signs
nameless_signs = refl

sign_name : (cs : List ℕ) (t : Token) → entry signs cs ≡ Some t → HasName t
sign_name cs t e = no_name t (found_row (λ w. is_word w cs) (λ w u. is_nameless u) signs t nameless_signs e).passes

nameless_keywords : all_rows (λ w t. is_nameless t) keywords ≡ true
unfolding keywords
nameless_keywords = refl

keyword_name : (cs : List ℕ) (t : Token) → entry keywords cs ≡ Some t → HasName t
keyword_name cs t e = no_name t (found_row (λ w. is_word w cs) (λ w u. is_nameless u) keywords t nameless_keywords e).passes

token_name : {front : List ℕ} {t : Token} → IsToken front t → HasName t
token_name (name cs n) = n
token_name (head cs whole n p) = n
token_name (number cs n) = tt
token_name (literal inside whole c text s p) = tt
token_name (ranges inside whole pair pairs s p) = tt
token_name (other_ranges inside whole pair pairs s p) = tt
token_name (named_class cs class e) = tt
token_name (sign cs t e) = sign_name cs t e
token_name (keyword cs t e) = keyword_name cs t e

lexed_names : {at : ℕ} {text : List ℕ} {placed : List (Token × ℕ)} → Lexes at text placed → All HasName (unplaced placed)
lexed_names (nothing at text e) = All-nil HasName
lexed_names (a_separator at n text front rest placed s p i later) = lexed_names later
lexed_names (a_token at n text front rest t placed l p i later) =
    All-cons HasName t (unplaced placed) (token_name l.stands.spelled_so) (lexed_names later)

pub read_named : ReadsAreNamed → ReadNamesAreNames
read_named named source g read = named (unplaced read.tokens) g read.follows (lexed_names read.are_tokens.lexed)

-- there are no more tokens than bytes
few_tokens : TokensAreFew → (source : List ℕ) (g : Grammar) → IsUtf8 source → (read : IsRead source g) → length (unplaced read.tokens) ≤ most_bytes
few_tokens few_of source g utf8 read =
    let few : length read.tokens ≤ length (chars source) = few_of 0 (chars source) read.tokens read.are_tokens.lexed in
    let same : length (unplaced read.tokens) ≡ length read.tokens = length-map read.tokens (λ p. p.0) in
    let short = length-le-encodes (chars source) in
    let bytes : length (chars source) ≤ length source =
    subst (λ (z : List ℕ). length (chars source) ≤ length z) (encodes-chars source utf8) short in
    let within : length source ≤ most_bytes = read.are_tokens.bytes in
    omega arith

pub read_regular : TokensAreFew → ReadsAreRegular → ReadsAreCounted → ReadGrammarsAreRegular
read_regular few_of regular counted source g utf8 read =
    let few = few_tokens few_of source g utf8 read in (
      regular (unplaced read.tokens) g read.follows (lexed_text read.are_tokens.lexed) (omega arith),
      counted (unplaced read.tokens) g (suc most_bytes) read.follows (omega arith),
    )
