-- Which forms the tokens of a text have.
use Rattle.std.proofs.Common.{◌≡◌, ◌≢◌, ◌∙◌, ℕ, suc, ◌+◌, ◌<◌, ◌≤◌, List, [], ◌∷◌, ◌++◌, Bool, true, false, cond, ◌&&◌, ◌==◌, Option, Some, None, length, drop, map, refl, sym, ap, subst, arith, length-append}
use Rattle.std.specs.Prelude.{All}
use Rattle.std.specs.List.{list_all}
use Rattle.std.specs.Map.{lookup}
use Rattle.std.proofs.lemmas.Bool.{and_parts}
use Rattle.std.proofs.lemmas.List.Folds.{list_all-append}
use Rattle.std.proofs.lemmas.List.Elements.{All-nil, All-cons}
use Rattle.ig_text.proofs.Tables.{all_rows, found_row}
use Rattle.ig_text.specs.Ranges.{normal_form, NoneFalls}
use Rattle.ig_text.specs.declared.class.Class.TheVariants.{Ranges}
use Rattle.ig_grammar.specs.Name.{is_name}
use Rattle.ig_notation_syntax.specs.Spelling.{is_one_of}
use Rattle.ig_notation_syntax.specs.Texts.{Lexes, nothing, a_separator, a_token}
use Rattle.ig_w3c_syntax.specs.Token.{Token, Head, Name, Text, Code, OneOf, Bar, Open, Close, Question, Star, Plus, Minus}
use Rattle.ig_w3c_syntax.specs.Spelling.{IsSeparator, AreSeparators, StandsFirst, name, head, string, character, set, other_set, sign, signs, IsPart, alone, range, AreParts, no_part, next_part, element, code, bare, begins_code, run, past, is_hexadecimal, hexadecimal, is_character, character_of}
use Rattle.ig_w3c_syntax.specs.TokenForms.{least, least_of, IsString, HasCharacters, IsSet, HasForm}
use Rattle.ig_w3c_syntax.specs.TokenLaws.{TokensAreFew, TokensHaveForms}
use Rattle.ig_w3c_syntax.proofs.Determined.{Front, shorter_rest, separators_within, separator_shorter, chosen_code, bare_rest}
use Rattle.ig_w3c_syntax.proofs.Longest.{parts_rise}
use Rattle.ig_w3c_syntax.proofs.Fronts.{token_front, separator_front, element_suffix, part_suffix}

-- how long tokens are
name_some : (cs : List ℕ) → is_name cs ≡ true → 0 < length cs
name_some [] n = absurd (cc)
name_some (c ∷ cs) n = omega arith

head_long : (text cs behind rest : List ℕ) → is_name cs ≡ true → text ≡ cs ++ behind → AreSeparators behind (58 ∷ 58 ∷ 61 ∷ rest) →
    4 + length rest ≤ length text
head_long text cs behind rest n e s =
    let a = name_some cs n in
    let b = separators_within s in
    let d : length text ≡ length cs + length behind = ap length e ∙ length-append cs behind in omega arith

token_long : {text rest : List ℕ} {t : Token} → StandsFirst text t rest → least t ≡ 1 → least t + length rest ≤ length text
token_long {text} {rest} {t} s e = let l = shorter_rest text rest (token_front s) in omega arith

-- the signs are neither heads, nor tokens that a form is asked of
abbrev is_sign : Token → Bool
is_sign Bar = true
is_sign Open = true
is_sign Close = true
is_sign Question = true
is_sign Star = true
is_sign Plus = true
is_sign Minus = true
is_sign t = false

all_signs : all_rows (λ d t. is_sign t) signs ≡ true
all_signs = refl

sign_is : (c : ℕ) (t : Token) → lookup (λ d. d == c) signs ≡ Some t → is_sign t ≡ true
sign_is c t e = (found_row (λ d. d == c) (λ d u. is_sign u) signs t all_signs e).passes

sign_least : (t : Token) → is_sign t ≡ true → least t ≡ 1
sign_least (Head x) e = absurd (cc)
sign_least t e = refl

sign_form : (valid : Type 0) (t : Token) → is_sign t ≡ true → HasForm valid t
sign_form valid (Head x) e = absurd (cc)
sign_form valid (Name x) e = absurd (cc)
sign_form valid (Text x) e = absurd (cc)
sign_form valid (Code x) e = absurd (cc)
sign_form valid (OneOf x) e = absurd (cc)
sign_form valid t e = tt

pub long : {text rest : List ℕ} {t : Token} → StandsFirst text t rest → least t + length rest ≤ length text
long (name text cs rest n b e) = token_long (name text cs rest n b e) refl
long (head text cs behind rest n b e s) = head_long text cs behind rest n e s
long (string q c cs inside rest k all e) = token_long (string q c cs inside rest k all e) refl
long (character text rest c h) = token_long (character text rest c h) refl
long (set inside rest p ps b a) = token_long (set inside rest p ps b a) refl
long (other_set inside rest p ps a) = token_long (other_set inside rest p ps a) refl
long (sign c t rest h) = token_long (sign c t rest h) (sign_least t (sign_is c t h))

few : {at : ℕ} {text : List ℕ} {ts : List (Token × ℕ)} → Lexes StandsFirst IsSeparator at text ts → least_of ts ≤ length text
few (nothing at text e) = omega arith
few (a_separator at n text front rest ts s p q l) =
    let a = few l in let b = shorter_rest text rest (separator_front s) in omega arith
few (a_token at n text front rest t ts s p q l) =
    let a = few l in let b = long s.stands in omega arith

pub tokens_are_few : TokensAreFew
tokens_are_few at text ts l = few l

-- characters of what stands behind
abbrev Valid : List ℕ → Type 0
Valid cs = list_all is_character cs ≡ true

valid_behind : (front rest text : List ℕ) → text ≡ front ++ rest → Valid text → Valid rest
valid_behind front rest text e v =
    (and_parts (list_all is_character front) (list_all is_character rest)
    (sym (list_all-append is_character front rest) ∙ ap (list_all is_character) (sym e) ∙ v)).1

valid_front : (front rest text : List ℕ) → text ≡ front ++ rest → Valid text → Valid front
valid_front front rest text e v =
    (and_parts (list_all is_character front) (list_all is_character rest)
    (sym (list_all-append is_character front rest) ∙ ap (list_all is_character) (sym e) ∙ v)).0

-- the ends of parts
abbrev first_of : Option (ℕ × List ℕ) → ℕ
first_of None = 0
first_of (Some p) = p.0

chosen_character : (b : Bool) (n c : ℕ) (m rest : List ℕ) → is_character n ≡ b → cond {A = Option (ℕ × List ℕ)} b (Some (n, m)) None ≡ Some (c, rest) → is_character c ≡ true
chosen_character true n c m rest h e = let p : n ≡ c = ap first_of e in subst (λ z. is_character z ≡ true) p h
chosen_character false n c m rest h e = absurd (cc)

by_code : (b : Bool) (n c : ℕ) (m rest : List ℕ) → cond b (character_of n m) None ≡ Some (c, rest) → is_character c ≡ true
by_code true n c m rest e = chosen_character (is_character n) n c m rest refl e
by_code false n c m rest e = absurd (cc)

code_is : (text rest : List ℕ) (c : ℕ) → code text ≡ Some (c, rest) → is_character c ≡ true
code_is text rest c e =
    by_code (begins_code text) (hexadecimal 0 (run is_hexadecimal (drop 2 text))) c (past is_hexadecimal (drop 2 text)) rest e

by_bare : (b : Bool) (c d : ℕ) (cs rest : List ℕ) → cond {A = Option (ℕ × List ℕ)} b None (Some (c, cs)) ≡ Some (d, rest) → c ≡ d
by_bare true c d cs rest e = absurd (cc)
by_bare false c d cs rest e = ap first_of e

bare_is : (text rest : List ℕ) (c : ℕ) → bare text ≡ Some (c, rest) → Valid text → is_character c ≡ true
bare_is [] rest c e v = absurd (cc)
bare_is (d ∷ ds) rest c e v =
    let p : d ≡ c = by_bare (is_one_of (93 ∷ 10 ∷ []) d) d c ds rest e in
    subst (λ z. is_character z ≡ true) p (and_parts (is_character d) (list_all is_character ds) v).0

either_is : (b : Bool) (text rest : List ℕ) (c : ℕ) → cond b (code text) (bare text) ≡ Some (c, rest) → Valid text → is_character c ≡ true
either_is true text rest c e v = code_is text rest c e
either_is false text rest c e v = bare_is text rest c e v

element_is : (text rest : List ℕ) (c : ℕ) → element text ≡ Some (c, rest) → Valid text → is_character c ≡ true
element_is text rest c e v = either_is (begins_code text) text rest c e v

element_behind : (text rest : List ℕ) (c : ℕ) → element text ≡ Some (c, rest) → Valid text → Valid rest
element_behind text rest c e v = let s = element_suffix text rest c e in valid_behind s.0 rest text s.1 v

drop_valid : (cs : List ℕ) → Valid cs → Valid (drop 1 cs)
drop_valid [] v = refl
drop_valid (c ∷ cs) v = (and_parts (is_character c) (list_all is_character cs) v).1

part_ends : {text rest : List ℕ} {p : ℕ × ℕ} → IsPart text p rest → Valid text → HasCharacters p
part_ends (alone text rest a e j) v = let h = element_is text rest a e v in (h, h)
part_ends (range text more rest a b e j g l) v =
    (element_is text more a e v, element_is (drop 1 more) rest b g (drop_valid more (element_behind text more a e v)))

parts_end : {text rest : List ℕ} {ps : List (ℕ × ℕ)} → AreParts text ps rest → Valid text → All HasCharacters ps
parts_end (no_part rest) v = All-nil HasCharacters
parts_end (next_part text more rest p ps s a) v =
    let f = part_suffix s in
    All-cons HasCharacters p ps (part_ends s v) (parts_end a (valid_behind f.0 more text f.1 v))

form : {text rest : List ℕ} {t : Token} → StandsFirst text t rest → (valid : Type 0) → (valid → Valid text) → HasForm valid t
form (name text cs rest n b e) valid v = n
form (head text cs behind rest n b e s) valid v = n
form (string q c cs inside rest k all e) valid v =
    record {
      quote = q;
      is_quote = k;
      inside = all;
      some = λ x. cc;
      characters = λ x. valid_front (c ∷ cs) (q ∷ rest) inside e (drop_valid (q ∷ inside) (v x));
    }
form (character text rest c h) valid v = code_is text rest c h
form (set inside rest p ps b a) valid v =
    record { negated = false; first = p; others = ps; class_is = refl; rise = parts_rise a; ends = λ x. parts_end a (drop_valid (91 ∷ inside) (v x)) }
form (other_set inside rest p ps a) valid v =
    record {
      negated = true;
      first = p;
      others = ps;
      class_is = refl;
      rise = parts_rise a;
      ends = λ x. parts_end a (drop_valid (94 ∷ inside) (drop_valid (91 ∷ 94 ∷ inside) (v x)));
    }
form (sign c t rest h) valid v = sign_form valid t (sign_is c t h)

forms : {at : ℕ} {text : List ℕ} {ts : List (Token × ℕ)} → Lexes StandsFirst IsSeparator at text ts → (valid : Type 0) →
    (valid → Valid text) → All (HasForm valid) (map (λ p. p.0) ts)
forms (nothing at text e) valid v = All-nil (HasForm valid)
forms (a_separator at n text front rest ts s p q l) valid v = forms l valid (λ x. valid_behind front rest text p (v x))
forms (a_token at n text front rest t ts s p q l) valid v =
    All-cons (HasForm valid) t (map (λ p. p.0) ts) (form s.stands valid v) (forms l valid (λ x. valid_behind front rest text p (v x)))

pub tokens_have_forms : TokensHaveForms
tokens_have_forms at text ts l = forms l (list_all is_character text ≡ true) (λ v. v)
