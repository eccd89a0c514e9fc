-- What the tables of the notation have in common.
use Rattle.std.proofs.Common.{◌≡◌, ◌∙◌, ℕ, ◌<◌, ◌≤◌, List, [], ◌∷◌, Bool, true, false, not, ◌&&◌, ◌||◌, ◌==◌, nat_lt, nat_le, Some, length, refl, subst, arith}
use Rattle.std.proofs.lemmas.Bool.{and_parts, or_parts, not-true}
use Rattle.std.specs.Char.{is_ascii_alphabetic, is_ascii_alphanumeric}
use Rattle.std.specs.List.{list_all}
use Rattle.std.proofs.lemmas.Slice.Eq.{bytes_eq-Decides}
use Rattle.std.proofs.lemmas.Bool.Decides.{nat_tests}
use Rattle.unicode_ident.specs.Ident.{is_xid_start, is_xid_continue}
use Rattle.unicode_ident.proofs.IdentLemmas.{is_xid_start-ascii, is_xid_continue-ascii, is_xid_start-is_xid_continue}
use Rattle.ig_text.specs.declared.class.Class.{Class}
use Rattle.ig_text.specs.declared.class.Class.TheVariants as class
use Rattle.ig_text.proofs.Tables.{all_rows, found_row}
use Rattle.ig_text.specs.Words.{is_word, is_digit}
use Rattle.ig_notation_syntax.specs.Token as token
use Rattle.ig_notation_syntax.specs.Token.{Token}
use Rattle.ig_notation_syntax.specs.Spelling.{entry, signs, keywords, named_classes, is_one_of, blanks, begins, may_precede}
use Rattle.ig_notation_syntax.proofs.Named.{IsWord, word}

-- what holds of all rows holds of the one that is found
pub entry_all : {A : Type 0} (test : List ℕ → A → Bool) (table : List (List ℕ × A)) (text : List ℕ) (y : A) →
    all_rows test table ≡ true → entry table text ≡ Some y → test text y ≡ true
entry_all test table text y a h =
    let row = found_row (λ w. is_word w text) test table y a h in
    let same : row.key ≡ text = (bytes_eq-Decides row.key text).0 row.found in
    subst (λ (z : List ℕ). test z y ≡ true) same row.passes

-- behind which tokens anything may stand
abbrev pub is_free : Token → Bool
is_free (token.Number n) = false
is_free (token.OneOf c) = false
is_free t = true

pub free : (t : Token) (rest : List ℕ) → is_free t ≡ true → may_precede t rest ≡ true
free (token.Number n) rest h = absurd (cc)
free (token.OneOf c) rest h = absurd (cc)
free t rest h = refl

pub keyword_free : (text rest : List ℕ) (t : Token) → entry keywords text ≡ Some t → may_precede t rest ≡ true
unfolding keywords
keyword_free text rest t h = free t rest (entry_all (λ w u. is_free u) keywords text t refl h)

pub sign_free : (text rest : List ℕ) (t : Token) → entry signs text ≡ Some t → may_precede t rest ≡ true
unfolding signs
sign_free text rest t h = free t rest (entry_all (λ w u. is_free u) signs text t refl h)

-- a class with a name has no ranges
abbrev is_named : Class → Bool
is_named (class.Ranges n r) = false
is_named c = true

named_precedes : (c : Class) (rest : List ℕ) → is_named c ≡ true → may_precede (token.OneOf c) rest ≡ not (begins is_xid_continue rest)
named_precedes (class.Ranges n r) rest h = absurd (cc)
named_precedes class.Any rest h = refl
named_precedes class.XidStart rest h = refl
named_precedes class.XidContinue rest h = refl

pub named_class_precedes : (text rest : List ℕ) (c : Class) → entry named_classes text ≡ Some c →
    may_precede (token.OneOf c) rest ≡ not (begins is_xid_continue rest)
unfolding named_classes
named_class_precedes text rest c h = named_precedes c rest (entry_all (λ w u. is_named u) named_classes text c refl h)

-- words of ASCII characters
abbrev is_letter : ℕ → Bool
is_letter c = nat_lt c 128 && is_ascii_alphabetic c

abbrev is_joining : ℕ → Bool
is_joining c = nat_lt c 128 && (is_ascii_alphanumeric c || (c == 95))

abbrev is_ascii_word : List ℕ → Bool
is_ascii_word [] = false
is_ascii_word (c ∷ cs) = is_letter c && list_all is_joining cs

below : (c : ℕ) → nat_lt c 128 ≡ true → c < 128
below c h = grind (arith, nat_tests)

letter_starts : (c : ℕ) → is_letter c ≡ true → is_xid_start c ≡ true
letter_starts c h =
    let k = and_parts (nat_lt c 128) (is_ascii_alphabetic c) h in is_xid_start-ascii c (below c k.0) ∙ k.1

joining_continues : (c : ℕ) → is_joining c ≡ true → is_xid_continue c ≡ true
joining_continues c h =
    let k = and_parts (nat_lt c 128) (is_ascii_alphanumeric c || (c == 95)) h in is_xid_continue-ascii c (below c k.0) ∙ k.1

all_continue : (cs : List ℕ) → list_all is_joining cs ≡ true → list_all is_xid_continue cs ≡ true
all_continue [] h = refl
all_continue (c ∷ cs) h =
    let k = and_parts (is_joining c) (list_all is_joining cs) h in rw (joining_continues c k.0) (all_continue cs k.1)

ascii_word : (cs : List ℕ) → is_ascii_word cs ≡ true → IsWord cs
ascii_word [] h = absurd (cc)
ascii_word (c ∷ cs) h =
    let k = and_parts (is_letter c) (list_all is_joining cs) h in word c cs (letter_starts c k.0) (all_continue cs k.1)

pub keyword_word : (text : List ℕ) (t : Token) → entry keywords text ≡ Some t → IsWord text
unfolding keywords
keyword_word text t h = ascii_word text (entry_all (λ w u. is_ascii_word w) keywords text t refl h)

pub class_name_continues : (text : List ℕ) (c : Class) → entry named_classes text ≡ Some c → list_all is_xid_continue text ≡ true
unfolding named_classes
class_name_continues text c h = all_continue text (entry_all (λ w u. list_all is_joining w) named_classes text c refl h)

pub word_continues : {cs : List ℕ} → IsWord cs → list_all is_xid_continue cs ≡ true
word_continues (word c cs h k) = rw (is_xid_start-is_xid_continue c h) k

-- a sign has one to three characters, and none begins as anything else does
abbrev is_sign_start : ℕ → Bool
is_sign_start c =
    nat_lt c 128 && (not (is_ascii_alphabetic c) && (not (is_digit c) && (not (is_one_of blanks c) && not (is_one_of (47 ∷ 34 ∷ 91 ∷ 36 ∷ []) c))))

abbrev is_sign : List ℕ → Bool
is_sign [] = false
is_sign (c ∷ cs) = is_sign_start c && nat_le (length cs) 2

sign_test : (text : List ℕ) (t : Token) → entry signs text ≡ Some t → is_sign text ≡ true
unfolding signs
sign_test text t h = entry_all (λ w u. is_sign w) signs text t refl h

-- the first character of a sign
pub record SignStart (c : ℕ) : Type 0 where
  pub no_blank : is_one_of blanks c ≡ false
  pub no_slash : (c == 47) ≡ false
  pub no_start : is_xid_start c ≡ false
  pub no_digit : is_digit c ≡ false
  pub no_quote : (c == 34) ≡ false
  pub no_bracket : (c == 91) ≡ false
  pub no_dollar : (c == 36) ≡ false

other : (c k : ℕ) → c < 128 → (k == c) ≡ false → (c == k) ≡ false
other c k h e = grind (arith, nat_tests)

sign_start : (c : ℕ) → is_sign_start c ≡ true → SignStart c
sign_start c h =
    let small = and_parts (nat_lt c 128) _ h in
    let letter = and_parts (not (is_ascii_alphabetic c)) _ small.1 in
    let digit = and_parts (not (is_digit c)) _ letter.1 in
    let blank = and_parts (not (is_one_of blanks c)) (not (is_one_of (47 ∷ 34 ∷ 91 ∷ 36 ∷ []) c)) digit.1 in
    let n = below c small.0 in
    let special = or_parts (47 == c) _ (not-true (is_one_of (47 ∷ 34 ∷ 91 ∷ 36 ∷ []) c) blank.1) in
    let quote = or_parts (34 == c) _ special.1 in
    let bracket = or_parts (91 == c) _ quote.1 in
    let dollar = or_parts (36 == c) false bracket.1 in
    record {
      no_blank = not-true (is_one_of blanks c) blank.0;
      no_slash = other c 47 n special.0;
      no_start = is_xid_start-ascii c n ∙ not-true (is_ascii_alphabetic c) letter.0;
      no_digit = not-true (is_digit c) digit.0;
      no_quote = other c 34 n quote.0;
      no_bracket = other c 91 n bracket.0;
      no_dollar = other c 36 n dollar.0;
    }

pub record IsSignText (text : List ℕ) : Type 0 where
  pub first : ℕ
  pub others : List ℕ
  pub parts : text ≡ first ∷ others
  pub start : SignStart first
  pub few : length others ≤ 2

sign_parts : (text : List ℕ) → is_sign text ≡ true → IsSignText text
sign_parts [] h = absurd (cc)
sign_parts (c ∷ cs) h =
    let k = and_parts (is_sign_start c) (nat_le (length cs) 2) h in
    record {
      first = c;
      others = cs;
      parts = refl;
      start = sign_start c k.0;
      few = let e = k.1 in grind (arith, nat_tests);
    }

pub sign_text : (text : List ℕ) (t : Token) → entry signs text ≡ Some t → IsSignText text
sign_text text t h = sign_parts text (sign_test text t h)
