-- Names of the notation and those that passes add have no character up to 32, and so no byte.
use Rattle.std.proofs.Common.{◌≡◌, ◌∙◌, ℕ, zero, suc, ◌+◌, ◌/◌, ◌%◌, ◌<◌, ◌≤◌, List, [], ◌∷◌, Bool, true, false, ltb, ◌&&◌, ◌||◌, All, if◌then◌else◌, refl, sym, ap, arith, lit<}
use Rattle.std.specs.Prelude.{decimal, encode_utf8_all, nat_lt, ◌==◌, ◌⊎◌}
use Rattle.std.specs.Char.{encode_utf8, is_ascii_alphanumeric}
use Rattle.std.specs.Fmt.{digits, digit_glyph, digits_onto}
use Rattle.std.specs.List.{list_all}
use Rattle.std.proofs.Common.{inl, inr}
use Rattle.std.proofs.lemmas.Bool.{ltb-false, ltb-true}
use Rattle.std.proofs.lemmas.List.Elements.{All-nil, All-cons, All-append, All-head, All-tail}
use Rattle.unicode_ident.specs.Ident.{is_xid_start, is_xid_continue}
use Rattle.unicode_ident.proofs.IdentLemmas.{is_xid_continue-ascii, is_xid_start-is_xid_continue}
use Rattle.ig_grammar.specs.Name.{is_name, is_identifier}
use Rattle.ig_pass.specs.Added.{added_name, number_sign, root_name}
use Rattle.ig_verify_laws.proofs.Encoding.{by_three}

-- beyond the space and the characters before it
abbrev pub IsBeyond : ℕ → Type 0
IsBeyond c = 32 < c

abbrev pub IsPlain : List ℕ → Type 0
IsPlain name = All IsBeyond name

-- a test that fails at each number below n
abbrev fails_below : (ℕ → Bool) → ℕ → Bool
fails_below p zero = true
fails_below p (suc n) = if p n then false else fails_below p n

last_or_less : (c n : ℕ) → c < suc n → (c ≡ n) ⊎ (c < n)
last_or_less c n h = go (ltb c n) refl
  where
    go : (b : Bool) → ltb c n ≡ b → (c ≡ n) ⊎ (c < n)
    go true t = inr (ltb-true c n t)
    go false t = let le = ltb-false c n t in inl (omega (arith, le, h))

fails_at : (p : ℕ → Bool) (n c : ℕ) (b : Bool) → p n ≡ b → (if b then false else fails_below p n) ≡ true →
    (fails_below p n ≡ true → c < n → p c ≡ false) → (c ≡ n) ⊎ (c < n) → p c ≡ false
fails_at p n c true at e less h = absurd (cc)
fails_at p n c false at e less (inl same) = ap p same ∙ at
fails_at p n c false at e less (inr below) = less e below

fails : (p : ℕ → Bool) (n c : ℕ) → fails_below p n ≡ true → c < n → p c ≡ false
fails p zero c e h = absurd (omega (arith, h))
fails p (suc n) c e h = fails_at p n c (p n) refl e (fails p n c) (last_or_less c n h)

-- what goes on with an identifier is beyond
continues_beyond : (c : ℕ) → is_xid_continue c ≡ true → 32 < c
continues_beyond c e = go (ltb 32 c) refl
  where
    go : (b : Bool) → ltb 32 c ≡ b → 32 < c
    go true t = ltb-true 32 c t
    go false t =
        let low : c ≤ 32 = ltb-false 32 c t in
        let less : c < 33 = omega (arith, low) in
        let not : (is_ascii_alphanumeric c || (c == 95)) ≡ false =
        fails (λ x. is_ascii_alphanumeric x || (x == 95)) 33 c refl less in
        let never : true ≡ false = sym e ∙ is_xid_continue-ascii c (omega (arith, less)) ∙ not in absurd (cc)

both_true : (a b : Bool) → (a && b) ≡ true → (a ≡ true) × (b ≡ true)
both_true true true e = (refl, refl)
both_true true false e = absurd (cc)
both_true false b e = absurd (cc)

all_beyond : (cs : List ℕ) → list_all is_xid_continue cs ≡ true → IsPlain cs
all_beyond [] e = All-nil IsBeyond
all_beyond (c ∷ cs) e =
    let both = both_true (is_xid_continue c) (list_all is_xid_continue cs) e in
    All-cons IsBeyond c cs (continues_beyond c both.0) (all_beyond cs both.1)

pub name_plain : (name : List ℕ) → is_name name ≡ true → IsPlain name
name_plain [] e = All-nil IsBeyond
name_plain (c ∷ cs) e =
    let identifier = (both_true (is_identifier (c ∷ cs)) _ e).0 in
    let both = both_true (is_xid_start c) (list_all is_xid_continue cs) identifier in
    All-cons IsBeyond c cs (continues_beyond c (is_xid_start-is_xid_continue c both.0)) (all_beyond cs both.1)

pub root_plain : IsPlain root_name
root_plain =
    All-cons IsBeyond 36 (114 ∷ 111 ∷ 111 ∷ 116 ∷ []) (lit< tt)
    (All-cons IsBeyond 114 (111 ∷ 111 ∷ 116 ∷ []) (lit< tt)
    (All-cons IsBeyond 111 (111 ∷ 116 ∷ []) (lit< tt)
    (All-cons IsBeyond 111 (116 ∷ []) (lit< tt) (All-cons IsBeyond 116 [] (lit< tt) (All-nil IsBeyond)))))

-- digits are beyond
glyph_beyond : (d : ℕ) → 32 < digit_glyph false d
glyph_beyond d = go (nat_lt d 10)
  where
    go : (b : Bool) → 32 < (if b then 48 + d else 87 + d)
    go true = omega arith
    go false = omega arith

either_plain : (b : Bool) (xs ys : List ℕ) → IsPlain xs → IsPlain ys → IsPlain (if b then xs else ys)
either_plain true xs ys h l = h
either_plain false xs ys h l = l

digits_beyond : (k n : ℕ) (acc : List ℕ) → IsPlain acc → IsPlain (digits_onto k 10 false n acc)
digits_beyond zero n acc all = all
digits_beyond (suc k) n acc all =
    let glyph = digit_glyph false (n % 10) in
    let more = All-cons IsBeyond glyph acc (glyph_beyond (n % 10)) all in
    either_plain (n / 10 == 0) (glyph ∷ acc) (digits_onto k 10 false (n / 10) (glyph ∷ acc)) more
    (digits_beyond k (n / 10) (glyph ∷ acc) more)

decimal_plain : (n : ℕ) → IsPlain (decimal n)
unfolding digits
decimal_plain n = digits_beyond 64 n [] (All-nil IsBeyond)

pub added_plain : (name : List ℕ) (k : ℕ) → IsPlain name → IsPlain (added_name name k)
added_plain name k all =
    All-append IsBeyond name (number_sign ∷ decimal k) all
    (All-cons IsBeyond number_sign (decimal k) (lit< tt) (decimal_plain k))

-- the bytes of a character beyond are beyond
bytes_beyond : (c : ℕ) → 32 < c → IsPlain (encode_utf8 c)
unfolding encode_utf8
bytes_beyond c h =
    let last = All-cons IsBeyond (128 + c % 64) [] (omega arith) (All-nil IsBeyond) in
    let last_two = All-cons IsBeyond (128 + (c / 64) % 64) ((128 + c % 64) ∷ []) (omega arith) last in
    let last_three =
    All-cons IsBeyond (128 + (c / 4096) % 64) ((128 + (c / 64) % 64) ∷ (128 + c % 64) ∷ []) (omega arith) last_two in
    by_three IsPlain (ltb c 128) (ltb c 2048) (ltb c 65536) _ _ _ _
    (λ e. All-cons IsBeyond c [] h (All-nil IsBeyond))
    (λ e. All-cons IsBeyond (192 + c / 64) ((128 + c % 64) ∷ []) (omega arith) last)
    (λ e. All-cons IsBeyond (224 + c / 4096) ((128 + (c / 64) % 64) ∷ (128 + c % 64) ∷ []) (omega arith) last_two)
    (All-cons IsBeyond (240 + c / 262144)
    ((128 + (c / 4096) % 64) ∷ (128 + (c / 64) % 64) ∷ (128 + c % 64) ∷ []) (omega arith) last_three)

pub encoded_plain : (name : List ℕ) → IsPlain name → IsPlain (encode_utf8_all name)
encoded_plain [] all = All-nil IsBeyond
encoded_plain (c ∷ cs) all =
    All-append IsBeyond (encode_utf8 c) (encode_utf8_all cs) (bytes_beyond c (All-head IsBeyond c cs all))
    (encoded_plain cs (All-tail IsBeyond c cs all))
