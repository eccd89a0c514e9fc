-- Which token a first character begins.
use Rattle.std.proofs.Common.{◌≡◌, ◌∙◌, ℕ, ◌<◌, ◌≤◌, List, ◌∷◌, Bool, true, false, ◌==◌, refl, arith, lit<}
use Rattle.std.specs.Char.{is_ascii_alphabetic}
use Rattle.std.proofs.lemmas.Bool.Decides.{nat_tests}
use Rattle.unicode_ident.specs.Ident.{is_xid_start}
use Rattle.unicode_ident.proofs.IdentLemmas.{is_xid_start-ascii}
use Rattle.ig_text.specs.Words.{is_digit}
use Rattle.ig_notation_syntax.specs.Spelling.{is_one_of, blanks}
use Rattle.ig_notation_syntax.specs.Scanner.{next, word_token, numeral, literal_token, class_token, named_class, sign_token, separator}
use Rattle.ig_notation_syntax.proofs.Entries.{SignStart}

blank_small : (c : ℕ) → is_one_of blanks c ≡ true → c < 33
blank_small c h = grind (arith, nat_tests)

small_letter : (c : ℕ) → c < 48 → is_ascii_alphabetic c ≡ false
small_letter c h = grind (arith, nat_tests)

no_start : (c : ℕ) → c < 48 → is_xid_start c ≡ false
no_start c h = is_xid_start-ascii c (omega arith) ∙ small_letter c h

start_no_blank : (c : ℕ) (b : Bool) → is_xid_start c ≡ true → is_one_of blanks c ≡ b → b ≡ false
start_no_blank c false h e = refl
start_no_blank c true h e =
    let s = blank_small c e in
    let n = no_start c (omega arith) in cc

start_no_slash : (c : ℕ) (b : Bool) → is_xid_start c ≡ true → (c == 47) ≡ b → b ≡ false
start_no_slash c false h e = refl
start_no_slash c true h e =
    let s : c < 48 = grind (arith, nat_tests) in
    let n = no_start c s in cc

pub next_word : (c : ℕ) (cs : List ℕ) → is_xid_start c ≡ true → next (c ∷ cs) ≡ word_token (c ∷ cs)
next_word c cs h =
    let a : is_one_of blanks c ≡ false = start_no_blank c (is_one_of blanks c) h refl in
    let b : (c == 47) ≡ false = start_no_slash c (c == 47) h refl in rw (a, b, h) refl

digit_range : (c : ℕ) → is_digit c ≡ true → (48 ≤ c) × (c ≤ 57)
digit_range c h = (grind (arith, nat_tests), grind (arith, nat_tests))

digit_letter : (c : ℕ) → 48 ≤ c → c ≤ 57 → is_ascii_alphabetic c ≡ false
digit_letter c h k = grind (arith, nat_tests)

digit_blank : (c : ℕ) → 48 ≤ c → c ≤ 57 → is_one_of blanks c ≡ false
digit_blank c h k = grind (arith, nat_tests)

digit_slash : (c : ℕ) → 48 ≤ c → c ≤ 57 → (c == 47) ≡ false
digit_slash c h k = grind (arith, nat_tests)

pub next_digit : (c : ℕ) (cs : List ℕ) → is_digit c ≡ true → next (c ∷ cs) ≡ numeral c cs
next_digit c cs h =
    let r = digit_range c h in
    let a = digit_blank c r.0 r.1 in
    let b = digit_slash c r.0 r.1 in
    let d : is_xid_start c ≡ false = is_xid_start-ascii c (omega (arith, r.1)) ∙ digit_letter c r.0 r.1 in rw (a, b, d, h) refl

pub next_quote : (cs : List ℕ) → next (34 ∷ cs) ≡ literal_token cs
next_quote cs = let d = no_start 34 (lit< tt) in rw d refl

pub next_dollar : (cs : List ℕ) → next (36 ∷ cs) ≡ named_class cs
next_dollar cs = let d = no_start 36 (lit< tt) in rw d refl

pub next_bracket : (cs : List ℕ) → next (91 ∷ cs) ≡ class_token cs
next_bracket cs = let d : is_xid_start 91 ≡ false = is_xid_start-ascii 91 (lit< tt) in rw d refl

pub next_sign : (c : ℕ) (cs : List ℕ) → SignStart c → next (c ∷ cs) ≡ sign_token (c ∷ cs)
next_sign c cs s = rw (s.no_blank, s.no_slash, s.no_start, s.no_digit, s.no_quote, s.no_bracket, s.no_dollar) refl

pub next_blank : (c : ℕ) (cs : List ℕ) → is_one_of blanks c ≡ true → next (c ∷ cs) ≡ separator cs
next_blank c cs h = rw h refl
