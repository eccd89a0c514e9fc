-- With which characters tokens and separators begin.
use Rattle.std.proofs.Common.{◌≡◌, ◌∙◌, ℕ, ◌<◌, List, [], ◌∷◌, ◌++◌, Bool, true, false, not, ◌&&◌, ◌||◌, ◌==◌, Option, Some, None, refl, sym, ap, subst, arith, lit<, if◌then◌else◌}
use Rattle.std.specs.Map.{lookup}
use Rattle.std.specs.Char.{is_ascii_alphabetic}
use Rattle.std.proofs.lemmas.Bool.{and_parts, or_parts, not-true}
use Rattle.std.proofs.lemmas.Bool.Decides.{nat_tests}
use Rattle.unicode_ident.specs.Ident.{is_xid_start, is_xid_continue}
use Rattle.unicode_ident.proofs.IdentLemmas.{is_xid_start-ascii}
use Rattle.ig_grammar.specs.Name.{is_name, is_identifier, is_keyword}
use Rattle.ig_text.specs.Class.{is_in_class}
use Rattle.ig_text.specs.declared.class.Class.TheVariants.{XidContinue}
use Rattle.std.specs.List.{list_all}
use Rattle.ig_notation_syntax.specs.Spelling.{is_one_of, blanks, begins}
use Rattle.ig_w3c_syntax.specs.Token.{Token}
use Rattle.ig_w3c_syntax.specs.Spelling.{IsSeparator, blank, comment, behind_comment, StandsFirst, name, head, string, character, set, other_set, sign, quotes, signs, code, begins_code, character_of}
use Rattle.ig_w3c_syntax.proofs.OneList.{Given}

-- the first characters of separators, and those of tokens but names
abbrev pub of_separators : List ℕ
of_separators = 32 ∷ 9 ∷ 13 ∷ 10 ∷ 47 ∷ []

abbrev pub of_tokens : List ℕ
of_tokens = 34 ∷ 39 ∷ 35 ∷ 91 ∷ 124 ∷ 40 ∷ 41 ∷ 63 ∷ 42 ∷ 43 ∷ 45 ∷ []

abbrev pub may_begin : ℕ → Bool
may_begin c = is_xid_start c || is_one_of of_tokens c

pub record BeginsWith (text : List ℕ) (p : ℕ → Bool) : Type 0 where
  pub first : ℕ
  pub rest : List ℕ
  pub parts : text ≡ first ∷ rest
  pub fits : p first ≡ true

either_true : (a b : Bool) → a ≡ true → (a || b) ≡ true
either_true a b e = rw e refl

other_true : (a b : Bool) → b ≡ true → (a || b) ≡ true
other_true true b e = refl
other_true false b e = e

blank_begins : (c : ℕ) → is_one_of blanks c ≡ true → is_one_of of_separators c ≡ true
blank_begins c h = grind (arith, nat_tests)

pub separator_begins : {text rest : List ℕ} → IsSeparator text rest → BeginsWith text (is_one_of of_separators)
separator_begins (blank c rest h) = record { first = c; rest = rest; parts = refl; fits = blank_begins c h }
separator_begins (comment inside rest h) = record { first = 47; rest = 42 ∷ inside; parts = refl; fits = refl }

name_begins : (text cs rest : List ℕ) → is_name cs ≡ true → text ≡ cs ++ rest → BeginsWith text may_begin
name_begins text [] rest h e = absurd (cc)
name_begins text (c ∷ cs) rest h e =
    let i = (and_parts (is_identifier (c ∷ cs)) (not (is_keyword (c ∷ cs))) h).0 in
    let s = (and_parts (is_xid_start c) (list_all (is_in_class XidContinue) cs) i).0 in
    record { first = c; rest = cs ++ rest; parts = e; fits = either_true (is_xid_start c) (is_one_of of_tokens c) s }

code_begins_so : (text rest : List ℕ) (c : ℕ) (b : Bool) → begins_code text ≡ b → code text ≡ Some (c, rest) → b ≡ true
code_begins_so text rest c true e h = refl
code_begins_so text rest c false e h = let k : code text ≡ None = rw e refl in absurd (cc)

hash_first : (text : List ℕ) → begins_code text ≡ true → BeginsWith text may_begin
hash_first [] h = absurd (cc)
hash_first (a ∷ []) h = absurd (cc)
hash_first (a ∷ b ∷ cs) h =
    let e = (and_parts (a == 35) _ h).0 in
    let k : is_one_of of_tokens a ≡ true = grind (arith, nat_tests) in
    record { first = a; rest = b ∷ cs; parts = refl; fits = other_true (is_xid_start a) (is_one_of of_tokens a) k }

abbrev pub of_signs : List ℕ
of_signs = 124 ∷ 40 ∷ 41 ∷ 63 ∷ 42 ∷ 43 ∷ 45 ∷ []

row_fits : (c : ℕ) (t u : Token) (d : ℕ) (rows : List (ℕ × Token)) (b : Bool) → (d == c) ≡ b → lookup (λ e. e == c) ((d, t) ∷ rows) ≡ Some u →
    (lookup (λ e. e == c) rows ≡ Some u → is_one_of of_signs c ≡ true) → is_one_of of_signs d ≡ true → is_one_of of_signs c ≡ true
row_fits c t u d rows true e h k l = let x : d ≡ c = grind (arith, nat_tests) in subst (λ z. is_one_of of_signs z ≡ true) x l
row_fits c t u d rows false e h k l = k (subst (λ z. (if z then Some t else lookup (λ e. e == c) rows) ≡ Some u) e h)

all_fit : (rows : List (ℕ × Token)) (c : ℕ) (u : Token) → list_all (λ r. is_one_of of_signs r.0) rows ≡ true →
    lookup (λ e. e == c) rows ≡ Some u → is_one_of of_signs c ≡ true
all_fit [] c u all h = absurd (cc)
all_fit (r ∷ rows) c u all h =
    let p = and_parts (is_one_of of_signs r.0) (list_all (λ r. is_one_of of_signs r.0) rows) all in
    row_fits c r.1 u r.0 rows (r.0 == c) refl h (all_fit rows c u p.1) p.0

pub sign_begins : (c : ℕ) (t : Token) → lookup (λ d. d == c) signs ≡ Some t → is_one_of of_signs c ≡ true
sign_begins c t h = all_fit signs c t refl h

sign_is_token : (c : ℕ) → is_one_of of_signs c ≡ true → is_one_of of_tokens c ≡ true
sign_is_token c h = grind (arith, nat_tests)

-- the first character of a name, and of a code
pub name_first : (c : ℕ) (cs ds rest : List ℕ) → is_name ds ≡ true → c ∷ cs ≡ ds ++ rest → is_xid_start c ≡ true
name_first c cs [] rest h e = absurd (cc)
name_first c cs (d ∷ ds) rest h e =
    let i = (and_parts (is_identifier (d ∷ ds)) (not (is_keyword (d ∷ ds))) h).0 in
    let s = (and_parts (is_xid_start d) (list_all (is_in_class XidContinue) ds) i).0 in
    let x : d ≡ c = cc in subst (λ z. is_xid_start z ≡ true) x s

hash_head : (c : ℕ) (cs : List ℕ) → begins_code (c ∷ cs) ≡ true → c ≡ 35
hash_head c [] h = absurd (cc)
hash_head c (d ∷ ds) h = let e = (and_parts (c == 35) _ h).0 in grind (arith, nat_tests)

pub hash_is_first : (c : ℕ) (cs rest : List ℕ) (d : ℕ) → code (c ∷ cs) ≡ Some (d, rest) → c ≡ 35
hash_is_first c cs rest d h = hash_head c cs (code_begins_so (c ∷ cs) rest d (begins_code (c ∷ cs)) refl h)

pub token_begins : {text rest : List ℕ} {t : Token} → StandsFirst text t rest → BeginsWith text may_begin
token_begins (name text cs rest h k e) = name_begins text cs rest h e
token_begins (head text cs behind rest h k e s) = name_begins text cs behind h e
token_begins (string quote c cs inside rest q all e) =
    let k : is_one_of of_tokens quote ≡ true = grind (arith, nat_tests) in
    record { first = quote; rest = inside; parts = refl; fits = other_true (is_xid_start quote) (is_one_of of_tokens quote) k }
token_begins (character text rest c h) = hash_first text (code_begins_so text rest c (begins_code text) refl h)
token_begins (set inside rest p ps b a) = record { first = 91; rest = inside; parts = refl; fits = other_true (is_xid_start 91) _ refl }
token_begins (other_set inside rest p ps a) =
    record { first = 91; rest = 94 ∷ inside; parts = refl; fits = other_true (is_xid_start 91) _ refl }
token_begins (sign c t rest h) =
    record { first = c; rest = rest; parts = refl; fits = other_true (is_xid_start c) (is_one_of of_tokens c) (sign_is_token c (sign_begins c t h)) }

-- no character is both
never_letter : (c : ℕ) → is_one_of of_separators c ≡ true → is_xid_start c ≡ false
never_letter c h =
    let n : c < 128 = grind (arith, nat_tests) in
    let a : is_ascii_alphabetic c ≡ false = grind (arith, nat_tests) in is_xid_start-ascii c n ∙ a

pub never_both : (c : ℕ) → is_one_of of_separators c ≡ true → may_begin c ≡ true → ⊥
never_both c h k =
    let n = never_letter c h in
    let m : is_one_of of_tokens c ≡ false = grind (arith, nat_tests) in
    let both : may_begin c ≡ false = rw (n, m) refl in cc

-- one separator
separator_by : {text b : List ℕ} → IsSeparator text b → (c : ℕ) (rest : List ℕ) → text ≡ c ∷ rest → is_one_of blanks c ≡ true → b ≡ rest
separator_by (blank d more h) c rest e k = cc
separator_by (comment inside more h) c rest e k =
    let x : 47 ≡ c = cc in let f : is_one_of blanks 47 ≡ true = subst (λ z. is_one_of blanks z ≡ true) (sym x) k in absurd (cc)

comment_by : {text b : List ℕ} → IsSeparator text b → (inside rest : List ℕ) → text ≡ 47 ∷ 42 ∷ inside → behind_comment inside ≡ Some rest → b ≡ rest
comment_by (blank d more h) inside rest e k =
    let x : d ≡ 47 = cc in let f : is_one_of blanks 47 ≡ true = subst (λ z. is_one_of blanks z ≡ true) x h in absurd (cc)
comment_by (comment other more h) inside rest e k =
    let x : other ≡ inside = cc in let f : Some more ≡ Some rest = sym h ∙ ap behind_comment x ∙ k in cc

pub one_separator : {text a : List ℕ} → IsSeparator text a → (b : List ℕ) → IsSeparator text b → a ≡ b
one_separator (blank c rest h) b s = sym (separator_by s c rest refl h)
one_separator (comment inside rest h) b s = sym (comment_by s inside rest refl h)

clash : (text : List ℕ) → BeginsWith text (is_one_of of_separators) → BeginsWith text may_begin → ⊥
clash text s t =
    let e : s.first ≡ t.first = cc in never_both t.first (subst (λ z. is_one_of of_separators z ≡ true) e s.fits) t.fits

pub given : Given StandsFirst IsSeparator
given = record {
  one_separator = λ text a b s t. one_separator s b t;
  apart = λ text a b t s f. clash text (separator_begins s) (token_begins f);
  some_separator = λ a s. let b = separator_begins s in let p = b.parts in absurd (cc);
  some_token = λ t a s. let b = token_begins s in let p = b.parts in absurd (cc);
}
