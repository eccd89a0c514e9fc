-- Pieces that are apart, and whose tokens have spellings, have these tokens.
use Rattle.std.proofs.Common.{◌≡◌, ap, refl, ℕ, ◌+◌, List, [], ◌∷◌, true, false, not, ◌==◌, map, lit<}
use Rattle.unicode_ident.specs.Ident.{is_xid_continue}
use Rattle.unicode_ident.proofs.IdentLemmas.{is_xid_continue-ascii}
use Rattle.ig_text.specs.declared.class.Class.TheVariants as class
use Rattle.ig_notation_syntax.specs.Token as token
use Rattle.ig_notation_syntax.specs.Token.{Token}
use Rattle.ig_notation_syntax.specs.Spelling.{begins}
use Rattle.ig_notation_syntax.specs.Spelling as table
use Rattle.ig_notation_syntax.specs.Texts as lexing
use Rattle.ig_notation_syntax.specs.Lexing.{Lexes}
use Rattle.ig_notation_syntax.specs.Texts.{bytes}
use Rattle.ig_notation_syntax.specs.TokenLaws.{ends, EndedTokensAreLongest}
use Rattle.ig_show.specs.Pieces as pieces
use Rattle.ig_show.specs.Pieces.{Piece, blank, line_end, text, tokens}
use Rattle.ig_show.specs.Spelling.{spelling}
use Rattle.ig_show.proofs.Apart.{parted, spaced, ends_word, need, has, Apart}
use Rattle.ig_show.proofs.Written.{AllSpelled}

-- parted pieces begin with a character that goes on with no word, and opens no bracket
part_ends : (t : Token) (ps : List Piece) → ends_word t ≡ true → (begins is_xid_continue (text (pieces.token t ∷ ps)) ≡ false) × (begins (λ c. c == 40) (text (pieces.token t ∷ ps)) ≡ false)
part_ends token.Semicolon ps h = (is_xid_continue-ascii 59 (lit< tt), refl)
part_ends token.Close ps h = (is_xid_continue-ascii 41 (lit< tt), refl)
part_ends token.Comma ps h = (is_xid_continue-ascii 44 (lit< tt), refl)
part_ends token.CloseBrace ps h = (is_xid_continue-ascii 125 (lit< tt), refl)
part_ends token.Question ps h = (is_xid_continue-ascii 63 (lit< tt), refl)
part_ends token.Star ps h = (is_xid_continue-ascii 42 (lit< tt), refl)
part_ends token.Plus ps h = (is_xid_continue-ascii 43 (lit< tt), refl)
part_ends token.Colon ps h = (is_xid_continue-ascii 58 (lit< tt), refl)
part_ends t ps h = absurd (cc)

word_ends : (ps : List Piece) → parted ps ≡ true → (begins is_xid_continue (text ps) ≡ false) × (begins (λ c. c == 40) (text ps) ≡ false)
word_ends [] h = (refl, refl)
word_ends (blank ∷ ps) h = (is_xid_continue-ascii 32 (lit< tt), refl)
word_ends (line_end ∷ ps) h = (is_xid_continue-ascii 10 (lit< tt), refl)
word_ends (pieces.token t ∷ ps) h = part_ends t ps h

-- a space behind a sign makes it no longer
space_ends : (ps : List Piece) → spaced ps ≡ true → not (begins (λ c. c == 61) (text ps)) ≡ true
space_ends [] h = absurd (cc)
space_ends (blank ∷ ps) h = refl
space_ends (line_end ∷ ps) h = absurd (cc)
space_ends (pieces.token t ∷ ps) h = absurd (cc)

-- what stands behind a token makes it no longer
ended : (t : Token) (ps : List Piece) → has (need t) ps ≡ true → ends t (text ps) ≡ true
ended (token.Name x) ps h = let k = word_ends ps h in rw (k.0, k.1) refl
ended (token.Head x) ps h = refl
ended (token.Literal word) ps h = refl
ended (token.OneOf (class.Ranges negated ranges)) ps h = refl
ended token.Semicolon ps h = refl
ended token.Equals ps h = space_ends ps h
ended token.Bar ps h = refl
ended token.Greater ps h = space_ends ps h
ended token.Colon ps h = refl
ended token.Comma ps h = refl
ended token.Open ps h = refl
ended token.Close ps h = refl
ended token.OpenBrace ps h = refl
ended token.CloseBrace ps h = refl
ended token.Question ps h = refl
ended token.Star ps h = refl
ended token.Plus ps h = refl
ended token.Minus ps h = refl
ended token.Backslash ps h = refl
ended token.NotFollowedBy ps h = refl
ended token.NotPrecededBy ps h = refl
ended token.EqualTo ps h = refl
ended token.NotEqualTo ps h = refl
ended token.Less ps h = space_ends ps h
ended token.AtMost ps h = refl
ended token.AtLeast ps h = refl
ended t ps h = rw (word_ends ps h).0 refl

-- the tokens of pieces, each with the byte at which it begins
abbrev pub placed : ℕ → List Piece → List (Token × ℕ)
placed at [] = []
placed at (blank ∷ ps) = placed (at + bytes (32 ∷ [])) ps
placed at (line_end ∷ ps) = placed (at + bytes (10 ∷ [])) ps
placed at (pieces.token t ∷ ps) = (t, at) ∷ placed (at + bytes (spelling t)) ps

pub lexes : EndedTokensAreLongest → (at : ℕ) (ps : List Piece) → Apart ps → AllSpelled (tokens ps) → Lexes at (text ps) (placed at ps)
lexes longest at [] a s = lexing.nothing at [] refl
lexes longest at (blank ∷ ps) a s =
    lexing.a_separator at (at + bytes (32 ∷ [])) _ (32 ∷ []) (text ps) _ (table.blank 32 (text ps) refl) refl refl
    (lexes longest (at + bytes (32 ∷ [])) ps a s)
lexes longest at (line_end ∷ ps) a s =
    lexing.a_separator at (at + bytes (10 ∷ [])) _ (10 ∷ []) (text ps) _ (table.blank 10 (text ps) refl) refl refl
    (lexes longest (at + bytes (10 ∷ [])) ps a s)
lexes longest at (pieces.token t ∷ ps) a s =
    lexing.a_token at (at + bytes (spelling t)) _ (spelling t) (text ps) t _
    (longest (spelling t) (text ps) t s.0 (ended t ps a.0)) refl refl
    (lexes longest (at + bytes (spelling t)) ps a.1 s.1)

pub placed_tokens : (at : ℕ) (ps : List Piece) → map (λ p. p.0) (placed at ps) ≡ tokens ps
placed_tokens at [] = refl
placed_tokens at (blank ∷ ps) = placed_tokens (at + bytes (32 ∷ [])) ps
placed_tokens at (line_end ∷ ps) = placed_tokens (at + bytes (10 ∷ [])) ps
placed_tokens at (pieces.token t ∷ ps) = ap (λ z. t ∷ z) (placed_tokens (at + bytes (spelling t)) ps)
