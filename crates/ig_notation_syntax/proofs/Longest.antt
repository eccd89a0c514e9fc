-- What stands first is the longest token of the table.
use Rattle.std.proofs.Common.{◌≡◌, ℕ, ◌<◌, ◌⊎◌, inl, inr, List, [], ◌∷◌, ◌++◌, length, refl, ap, subst, arith, length-append}
use Rattle.ig_notation_syntax.specs.Token.{Token}
use Rattle.ig_notation_syntax.specs.Spelling.{signs, keywords, entry, IsToken, StandsFirst, IsSeparator, IsLongest, IsNumeral, nought, digits}
use Rattle.ig_notation_syntax.specs.Spelling as spelling
use Rattle.ig_notation_syntax.specs.Lexing.{IsBroken}
use Rattle.ig_notation_syntax.specs.Scanner as scanner
use Rattle.ig_notation_syntax.specs.Scanner.{Next, next, ended, separator, broken}
use Rattle.ig_notation_syntax.specs.TokenLaws.{IsNext, LongestTokenIsNext}
use Rattle.ig_notation_syntax.proofs.Named.{IsWord, word, name_word}
use Rattle.ig_notation_syntax.proofs.Sound.{IsSound, next_sound}
use Rattle.ig_notation_syntax.proofs.Complete.{Covers, next_covers, separator_read}
use Rattle.ig_notation_syntax.proofs.Entries.{keyword_word, sign_text}

is_next : (text : List ℕ) (n : Next) → IsSound text n → ((u : Token) (more : List ℕ) → StandsFirst text u more → Covers n u more) →
    ((more : List ℕ) → IsSeparator text more → n ≡ separator more) → (text ≡ [] → n ≡ ended) → IsNext text n
is_next text ended s c d e = s
is_next text (separator rest) s c d e = (s, c)
is_next text (scanner.token t rest) s c d e = (record { stands = s; longest = c }, λ more p. let q = d more p in cc)
is_next text broken s c d e =
    record { no_end = λ p. let q = e p in cc; no_separator = λ more p. let q = d more p in cc; no_token = c }

pub longest_is_next : LongestTokenIsNext
longest_is_next text =
    is_next text (next text) (next_sound text) (next_covers text) (λ more s. separator_read s) (λ e. ap next e)

-- tokens and separators have characters
some_word : {w : List ℕ} → IsWord w → 0 < length w
some_word (word c cs h k) = omega arith

some_numeral : {w : List ℕ} → IsNumeral w → 0 < length w
some_numeral nought = omega arith
some_numeral (digits c cs d n all) = omega arith

pub some_token : {front : List ℕ} {t : Token} → IsToken front t → 0 < length front
some_token (spelling.name cs n) = some_word (name_word cs n)
some_token (spelling.head cs whole n e) = rw (e, length-append) (omega arith)
some_token (spelling.number cs i) = some_numeral i
some_token (spelling.literal inside whole c t s e) = rw e (omega arith)
some_token (spelling.ranges inside whole p ps s e) = rw e (omega arith)
some_token (spelling.other_ranges inside whole p ps s e) = rw e (omega arith)
some_token (spelling.named_class cs c h) = omega arith
some_token (spelling.sign cs t h) = let s = sign_text cs t h in rw s.parts (omega arith)
some_token (spelling.keyword cs t h) = some_word (keyword_word cs t h)

-- the front of a text that isn't its rest
pub record Front (text rest : List ℕ) : Type 0 where
  pub front : List ℕ
  pub parts : text ≡ front ++ rest
  pub some : 0 < length front

pub separator_front : {text rest : List ℕ} → IsSeparator text rest → Front text rest
separator_front (spelling.blank c rest h) = record { front = c ∷ []; parts = refl; some = omega arith }
separator_front (spelling.comment line rest text h e p) =
    record { front = 47 ∷ 47 ∷ line; parts = p; some = omega arith }

pub token_front : {text rest : List ℕ} {t : Token} → IsLongest text t rest → Front text rest
token_front l =
    record { front = l.stands.front; parts = l.stands.parts; some = some_token l.stands.spelled_so }

pub shorter_rest : (text rest : List ℕ) → Front text rest → length rest < length text
shorter_rest text rest f =
    let l = f.some in rw (f.parts, length-append) (omega arith)

-- and the other way: what the scanner finds, by the spellings alone
pub is_separator : (text rest : List ℕ) → next text ≡ separator rest → IsSeparator text rest
is_separator text rest e = (subst (IsNext text) e (longest_is_next text)).0

pub is_longest : (text rest : List ℕ) (t : Token) → next text ≡ scanner.token t rest → IsLongest text t rest
is_longest text rest t e = (subst (IsNext text) e (longest_is_next text)).0

pub is_broken : (text : List ℕ) → next text ≡ broken → IsBroken text
is_broken text e = subst (IsNext text) e (longest_is_next text)

none_first : (rest : List ℕ) (t : Token) → StandsFirst [] t rest → ⊥
none_first rest t s =
    let some = some_token s.spelled_so in
    let l : 0 ≡ length (s.front ++ rest) = ap length s.parts in
    let m = length-append s.front rest in omega arith

longest_found : (text rest : List ℕ) (t : Token) (n : Next) → IsLongest text t rest → Covers n t rest → IsSound text n →
    n ≡ scanner.token t rest
longest_found text rest t ended l c s = absurd c
longest_found text rest t (separator more) l c s = absurd c
longest_found text rest t (scanner.token u more) l (inr c) s = rw (c.0, c.1) refl
longest_found text rest t (scanner.token u more) l (inl c) s = go (l.longest u more s)
  where
    go : (length rest < length more) ⊎ ((u ≡ t) × (more ≡ rest)) → scanner.token u more ≡ scanner.token t rest
    go (inl d) = absurd (omega arith)
    go (inr d) = rw (d.0, d.1) refl
longest_found text rest t broken l c s = absurd c

pub longest_read : {text rest : List ℕ} {t : Token} → IsLongest text t rest → next text ≡ scanner.token t rest
longest_read {text} {rest} {t} l =
    longest_found text rest t (next text) l (next_covers text t rest l.stands) (next_sound text)

broken_found : (text : List ℕ) (n : Next) → IsBroken text → IsSound text n → n ≡ broken
broken_found text ended b s = absurd (b.no_end s)
broken_found text (separator rest) b s = absurd (b.no_separator rest s)
broken_found text (scanner.token t rest) b s = absurd (b.no_token t rest s)
broken_found text broken b s = refl

pub broken_read : {text : List ℕ} → IsBroken text → next text ≡ broken
broken_read {text} b = broken_found text (next text) b (next_sound text)
