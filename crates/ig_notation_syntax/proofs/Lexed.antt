-- A text has one list of tokens, or breaks at one place.
use Rattle.std.proofs.Common.{◌≡◌, ◌∙◌, ℕ, zero, suc, ◌+◌, ◌-◌, ◌<◌, ◌≤◌, ◌⊎◌, inl, inr, List, [], ◌∷◌, ◌++◌, length, chars, IsUtf8, encode_utf8_all, refl, sym, ap, subst, arith, append_assoc, append-nil, length-append}
use Rattle.std.proofs.lemmas.List.{append_cancel_right, map-append}
use Rattle.std.proofs.lemmas.Str.{encodes-chars, encodes-append}
use Rattle.ig_notation_syntax.specs.Token.{Token}
use Rattle.ig_notation_syntax.specs.Scanner as scanner
use Rattle.ig_notation_syntax.specs.Scanner.{Next, next, ended, separator, broken}
use Rattle.ig_notation_syntax.specs.Spelling.{IsSeparator, IsLongest}
use Rattle.ig_notation_syntax.specs.Lexing.{Lexes, Breaks}
use Rattle.ig_notation_syntax.specs.Texts.{bytes, nothing, a_separator, a_token, here, past_separator, past_token}
use Rattle.ig_notation_syntax.specs.TokenLaws.{TokensAreSingle, BreakIsSingle, LexesOrBreaks, NeverBoth, TokensAreFew}
use Rattle.ig_notation_syntax.specs.View.{token_of, placed_of, tokens_of}
use Rattle.ig_notation_syntax.specs.declared.token.Placed.{Placed}
use Rattle.ig_notation_syntax.proofs.Sound.{IsSound, next_sound}
use Rattle.ig_notation_syntax.proofs.Complete.{separator_read}
use Rattle.ig_notation_syntax.proofs.Longest.{shorter_rest, separator_front, token_front, is_separator, is_longest, is_broken, longest_read, broken_read}

-- two ways to say where a rest begins
same_place : (at n m : ℕ) (text front other rest : List ℕ) → text ≡ front ++ rest → text ≡ other ++ rest → n ≡ at + bytes front →
    m ≡ at + bytes other → m ≡ n
same_place at n m text front other rest p q e f =
    let s : front ≡ other = append_cancel_right front other rest (sym p ∙ q) in
    f ∙ ap (λ (z : List ℕ). at + bytes z) (sym s) ∙ sym e

-- what a list of tokens is where a text begins with a separator
behind_separator : {at : ℕ} {text : List ℕ} {us : List (Token × ℕ)} → Lexes at text us → (n : ℕ) (front rest : List ℕ) →
    next text ≡ separator rest → text ≡ front ++ rest → n ≡ at + bytes front → Lexes n rest us
behind_separator (nothing at text e) n front rest h p q = let x : next text ≡ ended = ap next e in absurd (cc)
behind_separator (a_token at m text other r t us e o f l) n front rest h p q = let x = longest_read e in absurd (cc)
behind_separator (a_separator at m text other r us e o f l) n front rest h p q =
    let x = separator_read e in
    let s : r ≡ rest = cc in
    let k = same_place at n m text front other rest p (o ∙ ap (λ (z : List ℕ). other ++ z) s) q f in
    subst (λ (z : ℕ). Lexes z rest us) k (subst (λ (z : List ℕ). Lexes m z us) s l)

pub record BehindToken (n : ℕ) (rest : List ℕ) (t : Token) (at : ℕ) (us : List (Token × ℕ)) : Type 0 where
  pub others : List (Token × ℕ)
  pub parts : us ≡ (t, at) ∷ others
  pub lexes : Lexes n rest others

behind_token : {at : ℕ} {text : List ℕ} {us : List (Token × ℕ)} → Lexes at text us → (n : ℕ) (front rest : List ℕ) (t : Token) →
    next text ≡ scanner.token t rest → text ≡ front ++ rest → n ≡ at + bytes front → BehindToken n rest t at us
behind_token (nothing at text e) n front rest t h p q = let x : next text ≡ ended = ap next e in absurd (cc)
behind_token (a_separator at m text other r us e o f l) n front rest t h p q = let x = separator_read e in absurd (cc)
behind_token (a_token at m text other r u us e o f l) n front rest t h p q =
    let x = longest_read e in
    let s : r ≡ rest = cc in
    let v : u ≡ t = cc in
    let k = same_place at n m text front other rest p (o ∙ ap (λ (z : List ℕ). other ++ z) s) q f in
    record {
      others = us;
      parts = ap (λ (z : Token). (z, at) ∷ us) v;
      lexes = subst (λ (z : ℕ). Lexes z rest us) k (subst (λ (z : List ℕ). Lexes m z us) s l);
    }

none_behind : {at : ℕ} {text : List ℕ} {us : List (Token × ℕ)} → Lexes at text us → next text ≡ ended → us ≡ []
none_behind (nothing at text e) h = refl
none_behind (a_separator at m text other r us e o f l) h = let x = separator_read e in absurd (cc)
none_behind (a_token at m text other r u us e o f l) h = let x = longest_read e in absurd (cc)

one_list : {at : ℕ} {text : List ℕ} {ts : List (Token × ℕ)} → Lexes at text ts → (us : List (Token × ℕ)) → Lexes at text us → ts ≡ us
one_list (nothing at text e) us u = sym (none_behind u (ap next e))
one_list (a_separator at n text front rest ts e p q l) us u = one_list l us (behind_separator u n front rest (separator_read e) p q)
one_list (a_token at n text front rest t ts e p q l) us u =
    let b = behind_token u n front rest t (longest_read e) p q in
    ap (λ (z : List (Token × ℕ)). (t, at) ∷ z) (one_list l b.others b.lexes) ∙ sym b.parts

pub tokens_are_single : TokensAreSingle
tokens_are_single at text ts us l u = one_list l us u

-- where a text breaks that begins with a separator or a token
breaks_behind_separator : {at : ℕ} {text : List ℕ} {b : ℕ} → Breaks at text b → (n : ℕ) (front rest : List ℕ) →
    next text ≡ separator rest → text ≡ front ++ rest → n ≡ at + bytes front → Breaks n rest b
breaks_behind_separator (here at text e) n front rest h p q = let x = broken_read e in absurd (cc)
breaks_behind_separator (past_token at m text other r t b e o f l) n front rest h p q = let x = longest_read e in absurd (cc)
breaks_behind_separator (past_separator at m text other r b e o f l) n front rest h p q =
    let x = separator_read e in
    let s : r ≡ rest = cc in
    let k = same_place at n m text front other rest p (o ∙ ap (λ (z : List ℕ). other ++ z) s) q f in
    subst (λ (z : ℕ). Breaks z rest b) k (subst (λ (z : List ℕ). Breaks m z b) s l)

breaks_behind_token : {at : ℕ} {text : List ℕ} {b : ℕ} → Breaks at text b → (n : ℕ) (front rest : List ℕ) (t : Token) →
    next text ≡ scanner.token t rest → text ≡ front ++ rest → n ≡ at + bytes front → Breaks n rest b
breaks_behind_token (here at text e) n front rest t h p q = let x = broken_read e in absurd (cc)
breaks_behind_token (past_separator at m text other r b e o f l) n front rest t h p q = let x = separator_read e in absurd (cc)
breaks_behind_token (past_token at m text other r u b e o f l) n front rest t h p q =
    let x = longest_read e in
    let s : r ≡ rest = cc in
    let k = same_place at n m text front other rest p (o ∙ ap (λ (z : List ℕ). other ++ z) s) q f in
    subst (λ (z : ℕ). Breaks z rest b) k (subst (λ (z : List ℕ). Breaks m z b) s l)

breaks_here : {at : ℕ} {text : List ℕ} {b : ℕ} → Breaks at text b → next text ≡ broken → at ≡ b
breaks_here (here at text e) h = refl
breaks_here (past_separator at m text other r b e o f l) h = let x = separator_read e in absurd (cc)
breaks_here (past_token at m text other r u b e o f l) h = let x = longest_read e in absurd (cc)

never_ended : {at : ℕ} {text : List ℕ} {b : ℕ} → Breaks at text b → next text ≡ ended → ⊥
never_ended (here at text e) h = let x = broken_read e in cc
never_ended (past_separator at m text other r b e o f l) h = let x = separator_read e in cc
never_ended (past_token at m text other r u b e o f l) h = let x = longest_read e in cc

one_break : {at : ℕ} {text : List ℕ} {a : ℕ} → Breaks at text a → (b : ℕ) → Breaks at text b → a ≡ b
one_break (here at text e) b u = breaks_here u (broken_read e)
one_break (past_separator at n text front rest a e p q l) b u = one_break l b (breaks_behind_separator u n front rest (separator_read e) p q)
one_break (past_token at n text front rest t a e p q l) b u = one_break l b (breaks_behind_token u n front rest t (longest_read e) p q)

pub break_is_single : BreakIsSingle
break_is_single at text a b u v = one_break u b v

not_both : {at : ℕ} {text : List ℕ} {ts : List (Token × ℕ)} → Lexes at text ts → (b : ℕ) → Breaks at text b → ⊥
not_both (nothing at text e) b u = never_ended u (ap next e)
not_both (a_separator at n text front rest ts e p q l) b u = not_both l b (breaks_behind_separator u n front rest (separator_read e) p q)
not_both (a_token at n text front rest t ts e p q l) b u = not_both l b (breaks_behind_token u n front rest t (longest_read e) p q)

pub never_both : NeverBoth
never_both at text ts b l u = not_both l b u

-- a text has tokens or breaks, by its length
abbrev Either : ℕ → List ℕ → Type 0
Either at text = ((ts : List (Token × ℕ)) × Lexes at text ts) ⊎ ((b : ℕ) × Breaks at text b)

with_separator : (at n : ℕ) (text front rest : List ℕ) → IsSeparator text rest → text ≡ front ++ rest → n ≡ at + bytes front →
    Either n rest → Either at text
with_separator at n text front rest e p q (inl s) = inl (s.0, a_separator at n text front rest s.0 e p q s.1)
with_separator at n text front rest e p q (inr s) = inr (s.0, past_separator at n text front rest s.0 e p q s.1)

with_token : (at n : ℕ) (text front rest : List ℕ) (t : Token) → IsLongest text t rest → text ≡ front ++ rest →
    n ≡ at + bytes front → Either n rest → Either at text
with_token at n text front rest t e p q (inl s) = inl ((t, at) ∷ s.0, a_token at n text front rest t s.0 e p q s.1)
with_token at n text front rest t e p q (inr s) = inr (s.0, past_token at n text front rest t s.0 e p q s.1)

by_next : (at : ℕ) (text : List ℕ) (n : Next) → next text ≡ n →
    ((rest : List ℕ) → length rest < length text → (m : ℕ) → Either m rest) → Either at text
by_next at text ended e ih = inl ([], nothing at text (subst (IsSound text) e (next_sound text)))
by_next at text (separator rest) e ih =
    let s = is_separator text rest e in
    let f = separator_front s in
    with_separator at (at + bytes f.front) text f.front rest s f.parts refl (ih rest (shorter_rest text rest f) (at + bytes f.front))
by_next at text (scanner.token t rest) e ih =
    let s = is_longest text rest t e in
    let f = token_front s in
    with_token at (at + bytes f.front) text f.front rest t s f.parts refl
    (ih rest (shorter_rest text rest f) (at + bytes f.front))
by_next at text broken e ih = inr (at, here at text (is_broken text e))

by_length : (n : ℕ) (text : List ℕ) → length text < n → (at : ℕ) → Either at text
by_length zero text h at = absurd (omega arith)
by_length (suc n) text h at = by_next at text (next text) refl (λ rest l. by_length n rest (omega arith))

pub lexes_or_breaks : LexesOrBreaks
lexes_or_breaks at text = by_length (suc (length text)) text (omega arith) at

-- there are no more tokens than characters
few_tokens : {at : ℕ} {text : List ℕ} {ts : List (Token × ℕ)} → Lexes at text ts → length ts ≤ length text
few_tokens (nothing at text e) = omega arith
few_tokens (a_separator at n text front rest ts e p q l) =
    let less = shorter_rest text rest (separator_front e) in let few = few_tokens l in omega arith
few_tokens (a_token at n text front rest t ts e p q l) =
    let less = shorter_rest text rest (token_front e) in let few = few_tokens l in omega arith

pub tokens_are_few : TokensAreFew
tokens_are_few at text ts l = few_tokens l

-- the tokens so far, and those of the rest, are those of the source
pub record IsRead (source rest : List ℕ) (tokens : List Placed) : Type 0 where
  pub within : length rest ≤ length source
  pub lexes : (ts : List (Token × ℕ)) → Lexes (length source - length rest) (chars rest) ts →
      Lexes 0 (chars source) (tokens_of tokens ++ ts)
  pub breaks : (b : ℕ) → Breaks (length source - length rest) (chars rest) b → Breaks 0 (chars source) b

pub read_begin : (source : List ℕ) (tokens : List Placed) → tokens ≡ [] → IsRead source source tokens
read_begin source tokens e =
    let z : length source - length source ≡ 0 = omega arith in
    record {
      within = omega arith;
      lexes = λ ts l. rw e (subst (λ (n : ℕ). Lexes n (chars source) ts) z l);
      breaks = λ b l. subst (λ (n : ℕ). Breaks n (chars source) b) z l;
    }

bytes_parts : (text rest front : List ℕ) → IsUtf8 text → IsUtf8 rest → chars text ≡ front ++ chars rest →
    length text ≡ bytes front + length rest
bytes_parts text rest front u v e =
    let p : text ≡ encode_utf8_all front ++ rest =
    sym (encodes-chars text u) ∙ ap encode_utf8_all e ∙ encodes-append front (chars rest) ∙
    ap (λ (z : List ℕ). encode_utf8_all front ++ z) (encodes-chars rest v) in
    ap length p ∙ length-append (encode_utf8_all front) rest

pub read_separator : (source rest behind : List ℕ) (tokens : List Placed) → IsRead source rest tokens → IsUtf8 rest → IsUtf8 behind →
    next (chars rest) ≡ separator (chars behind) → IsRead source behind tokens
read_separator source rest behind tokens r u v e =
    let s = is_separator (chars rest) (chars behind) e in
    let f = separator_front s in
    let l = bytes_parts rest behind f.front u v f.parts in
    let w = r.within in
    let n : length source - length behind ≡ length source - length rest + bytes f.front = omega arith in
    record {
      within = omega arith;
      lexes =
          λ ts k.
          r.lexes ts
          (a_separator (length source - length rest) (length source - length behind) (chars rest) f.front (chars behind) ts s f.parts n k);
      breaks =
          λ b k.
          r.breaks b
          (past_separator (length source - length rest) (length source - length behind) (chars rest) f.front (chars behind) b s f.parts n k);
    }

one_more : (tokens new : List Placed) (p : Placed) (ts : List (Token × ℕ)) → new ≡ tokens ++ p ∷ [] →
    tokens_of tokens ++ placed_of p ∷ ts ≡ tokens_of new ++ ts
one_more tokens new p ts e =
    sym (ap (λ (z : List Placed). tokens_of z ++ ts) e ∙ ap (λ (z : List (Token × ℕ)). z ++ ts) (map-append placed_of tokens (p ∷ [])) ∙
    append_assoc (tokens_of tokens) (placed_of p ∷ []) ts)

pub read_token : (source rest behind : List ℕ) (tokens new : List Placed) (p : Placed) → IsRead source rest tokens → IsUtf8 rest →
    IsUtf8 behind → next (chars rest) ≡ scanner.token (token_of p.token) (chars behind) → p.at ≡ length source - length rest →
    new ≡ tokens ++ p ∷ [] → IsRead source behind new
read_token source rest behind tokens new p r u v e a g =
    let s = is_longest (chars rest) (chars behind) (token_of p.token) e in
    let f = token_front s in
    let l = bytes_parts rest behind f.front u v f.parts in
    let w = r.within in
    let n : length source - length behind ≡ length source - length rest + bytes f.front = omega arith in
    record {
      within = omega arith;
      lexes =
          λ ts k.
          subst (Lexes 0 (chars source)) (one_more tokens new p ts g)
          (r.lexes (placed_of p ∷ ts)
          (subst (λ (z : ℕ). Lexes (length source - length rest) (chars rest) ((token_of p.token, z) ∷ ts)) (sym a)
          (a_token (length source - length rest) (length source - length behind) (chars rest) f.front (chars behind) (token_of p.token)
          ts s f.parts n k)));
      breaks =
          λ b k.
          r.breaks b
          (past_token (length source - length rest) (length source - length behind) (chars rest) f.front (chars behind)
          (token_of p.token) b s f.parts n k);
    }

pub read_all : (source rest : List ℕ) (tokens : List Placed) → IsRead source rest tokens → chars rest ≡ [] →
    Lexes 0 (chars source) (tokens_of tokens)
read_all source rest tokens r e =
    subst (Lexes 0 (chars source)) (append-nil (tokens_of tokens))
    (r.lexes [] (nothing (length source - length rest) (chars rest) e))

pub read_broken : (source rest : List ℕ) (tokens : List Placed) (at : ℕ) → IsRead source rest tokens → next (chars rest) ≡ broken →
    at ≡ length source - length rest → Breaks 0 (chars source) at
read_broken source rest tokens at r e a =
    subst (Breaks 0 (chars source)) (sym a)
    (r.breaks (length source - length rest) (here (length source - length rest) (chars rest) (is_broken (chars rest) e)))

pub shorter_separator : (rest behind : List ℕ) → next rest ≡ separator behind → length behind < length rest
shorter_separator rest behind e = shorter_rest rest behind (separator_front (is_separator rest behind e))

pub shorter_token : (rest behind : List ℕ) (t : Token) → next rest ≡ scanner.token t behind → length behind < length rest
shorter_token rest behind t e = shorter_rest rest behind (token_front (is_longest rest behind t e))
