-- How far a text has been read.
use Rattle.std.proofs.Common.{◌≡◌, ◌∙◌, ℕ, ◌+◌, ◌-◌, ◌<◌, ◌≤◌, List, [], ◌∷◌, ◌++◌, length, chars, IsUtf8, encode_utf8_all, refl, sym, ap, subst, arith, append_assoc, append-nil, length-append}
use Rattle.std.proofs.lemmas.List.{map-append}
use Rattle.std.proofs.lemmas.Str.{encodes-chars, encodes-append}
use Rattle.ig_w3c_syntax.specs.Token.{Token}
use Rattle.ig_w3c_syntax.specs.Spelling.{IsSeparator, StandsFirst}
use Rattle.ig_notation_syntax.specs.Texts.{bytes, IsLongest, IsBroken, Lexes, nothing, a_separator, a_token, Breaks, here, past_separator, past_token}
use Rattle.ig_w3c_syntax.specs.View.{token_of, placed_of, tokens_of}
use Rattle.ig_w3c_syntax.specs.declared.token.Placed.{Placed}
use Rattle.ig_w3c_syntax.proofs.Determined.{shorter_rest}
use Rattle.ig_w3c_syntax.proofs.Fronts.{separator_front, token_front}

-- the tokens so far, and those of the rest, are those of the source
pub record IsRead (source rest : List ℕ) (tokens : List Placed) : Type 0 where
  pub within : length rest ≤ length source
  pub lexes : (ts : List (Token × ℕ)) → Lexes StandsFirst IsSeparator (length source - length rest) (chars rest) ts →
      Lexes StandsFirst IsSeparator 0 (chars source) (tokens_of tokens ++ ts)
  pub breaks : (b : ℕ) → Breaks StandsFirst IsSeparator (length source - length rest) (chars rest) b → Breaks StandsFirst IsSeparator 0 (chars source) b

pub read_begin : (source : List ℕ) (tokens : List Placed) → tokens ≡ [] → IsRead source source tokens
read_begin source tokens e =
    let z : length source - length source ≡ 0 = omega arith in
    record {
      within = omega arith;
      lexes = λ ts l. rw e (subst (λ (n : ℕ). Lexes StandsFirst IsSeparator n (chars source) ts) z l);
      breaks = λ b l. subst (λ (n : ℕ). Breaks StandsFirst IsSeparator n (chars source) b) z l;
    }

bytes_parts : (text rest front : List ℕ) → IsUtf8 text → IsUtf8 rest → chars text ≡ front ++ chars rest →
    length text ≡ bytes front + length rest
bytes_parts text rest front u v e =
    let p : text ≡ encode_utf8_all front ++ rest =
    sym (encodes-chars text u) ∙ ap encode_utf8_all e ∙ encodes-append front (chars rest) ∙
    ap (λ (z : List ℕ). encode_utf8_all front ++ z) (encodes-chars rest v) in
    ap length p ∙ length-append (encode_utf8_all front) rest

pub read_separator : (source rest behind : List ℕ) (tokens : List Placed) → IsRead source rest tokens → IsUtf8 rest → IsUtf8 behind →
    IsSeparator (chars rest) (chars behind) → IsRead source behind tokens
read_separator source rest behind tokens r u v e =
    let s = e in
    let f = separator_front s in
    let l = bytes_parts rest behind f.front u v f.parts in
    let w = r.within in
    let n : length source - length behind ≡ length source - length rest + bytes f.front = omega arith in
    record {
      within = omega arith;
      lexes =
          λ ts k.
          r.lexes ts
          (a_separator (length source - length rest) (length source - length behind) (chars rest) f.front (chars behind) ts s f.parts n k);
      breaks =
          λ b k.
          r.breaks b
          (past_separator (length source - length rest) (length source - length behind) (chars rest) f.front (chars behind) b s f.parts n k);
    }

one_more : (tokens new : List Placed) (p : Placed) (ts : List (Token × ℕ)) → new ≡ tokens ++ p ∷ [] →
    tokens_of tokens ++ placed_of p ∷ ts ≡ tokens_of new ++ ts
one_more tokens new p ts e =
    sym (ap (λ (z : List Placed). tokens_of z ++ ts) e ∙ ap (λ (z : List (Token × ℕ)). z ++ ts) (map-append placed_of tokens (p ∷ [])) ∙
    append_assoc (tokens_of tokens) (placed_of p ∷ []) ts)

pub read_token : (source rest behind : List ℕ) (tokens new : List Placed) (p : Placed) → IsRead source rest tokens → IsUtf8 rest →
    IsUtf8 behind → IsLongest StandsFirst (chars rest) (token_of p.token) (chars behind) → p.at ≡ length source - length rest →
    new ≡ tokens ++ p ∷ [] → IsRead source behind new
read_token source rest behind tokens new p r u v e a g =
    let s = e in
    let f = token_front s.stands in
    let l = bytes_parts rest behind f.front u v f.parts in
    let w = r.within in
    let n : length source - length behind ≡ length source - length rest + bytes f.front = omega arith in
    record {
      within = omega arith;
      lexes =
          λ ts k.
          subst (Lexes StandsFirst IsSeparator 0 (chars source)) (one_more tokens new p ts g)
          (r.lexes (placed_of p ∷ ts)
          (subst (λ (z : ℕ). Lexes StandsFirst IsSeparator (length source - length rest) (chars rest) ((token_of p.token, z) ∷ ts)) (sym a)
          (a_token (length source - length rest) (length source - length behind) (chars rest) f.front (chars behind) (token_of p.token)
          ts s f.parts n k)));
      breaks =
          λ b k.
          r.breaks b
          (past_token (length source - length rest) (length source - length behind) (chars rest) f.front (chars behind)
          (token_of p.token) b s f.parts n k);
    }

pub read_all : (source rest : List ℕ) (tokens : List Placed) → IsRead source rest tokens → chars rest ≡ [] →
    Lexes StandsFirst IsSeparator 0 (chars source) (tokens_of tokens)
read_all source rest tokens r e =
    subst (Lexes StandsFirst IsSeparator 0 (chars source)) (append-nil (tokens_of tokens))
    (r.lexes [] (nothing (length source - length rest) (chars rest) e))

pub read_broken : (source rest : List ℕ) (tokens : List Placed) (at : ℕ) → IsRead source rest tokens → IsBroken StandsFirst IsSeparator (chars rest) →
    at ≡ length source - length rest → Breaks StandsFirst IsSeparator 0 (chars source) at
read_broken source rest tokens at r e a =
    subst (Breaks StandsFirst IsSeparator 0 (chars source)) (sym a)
    (r.breaks (length source - length rest) (here (length source - length rest) (chars rest) e))

pub shorter_separator : (rest behind : List ℕ) → IsSeparator rest behind → length behind < length rest
shorter_separator rest behind e = shorter_rest rest behind (separator_front e)

pub shorter_token : (rest behind : List ℕ) (t : Token) → IsLongest StandsFirst rest t behind → length behind < length rest
shorter_token rest behind t e = shorter_rest rest behind (token_front e.stands)
