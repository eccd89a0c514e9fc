-- What the table says stands first is read, or a longer token is.
use Rattle.std.proofs.Common.{◌≡◌, ◌∙◌, ℕ, ◌<◌, ◌≤◌, ◌⊎◌, inl, inr, List, [], ◌∷◌, ◌++◌, Bool, true, false, cond, not, ◌==◌, Option, Some, None, option_map, length, take, drop, refl, sym, ap, subst, arith, lit<, append_assoc, append-nil, length-append, length-drop}
use Rattle.std.specs.Prelude.{unwrap_or}
use Rattle.std.specs.Char.{is_ascii_alphanumeric}
use Rattle.std.proofs.lemmas.List.{take_at, drop_at, take_all, drop_all}
use Rattle.std.proofs.lemmas.Bool.Decides.{nat_tests}
use Rattle.std.proofs.lemmas.Bool.{not-true}
use Rattle.unicode_ident.specs.Ident.{is_xid_continue}
use Rattle.unicode_ident.proofs.IdentLemmas.{is_xid_continue-ascii}
use Rattle.ig_text.proofs.Lists.{closed_text}
use Rattle.ig_text.proofs.Booleans.{rest_false}
use Rattle.ig_text.specs.Ranges.{normal_form}
use Rattle.ig_text.specs.declared.class.Class.{Class}
use Rattle.ig_text.specs.declared.class.Class.TheVariants as class
use Rattle.ig_text.specs.Words.{is_digit}
use Rattle.ig_expr.specs.Reading.{spelled}
use Rattle.ig_notation_syntax.specs.Token as token
use Rattle.ig_notation_syntax.specs.Token.{Token}
use Rattle.ig_notation_syntax.specs.Spelling.{entry, signs, keywords, named_classes, is_one_of, blanks, class_signs, begins, may_precede, IsNumeral, nought, digits, IsLetter, bare, escaped, IsToken, StandsFirst, IsSeparator, blank, EndsLine, SpellsText, SpellsRanges, one_character, two_characters}
use Rattle.ig_notation_syntax.specs.Spelling as spelling
use Rattle.ig_notation_syntax.specs.Scanner as scanner
use Rattle.ig_notation_syntax.specs.Scanner.{Next, next, run, past, word_token, keyword_or_name, name_token, numeral, number_token, literal_token, class_token, named_class, named_token, sign_token, sign_of, comment, separator, ended, broken, body, closed, literal_of, not_empty, text_of, class_of, class_with, ranges_of, between}
use Rattle.ig_notation_syntax.proofs.Named.{IsWord, word, name_word, name_entry}
use Rattle.ig_notation_syntax.proofs.Runs.{run_front, past_front, run_none, past_none, past_shorter, line_all, line_ends}
use Rattle.ig_notation_syntax.proofs.Spelled.{text_read, text_body, body_more, no_member}
use Rattle.ig_notation_syntax.proofs.SpelledRanges.{ranges_read, ranges_body}
use Rattle.ig_notation_syntax.proofs.Entries.{keyword_word, class_name_continues, word_continues, named_class_precedes, sign_text, IsSignText}
use Rattle.ig_notation_syntax.proofs.Dispatch.{next_word, next_digit, next_quote, next_dollar, next_bracket, next_sign, next_blank}

-- a token is read that is longer, or this one
abbrev pub Covers : Next → Token → List ℕ → Type 0
Covers ended u more = ⊥
Covers (separator rest) u more = ⊥
Covers (scanner.token t rest) u more = (length rest < length more) ⊎ ((u ≡ t) × (more ≡ rest))
Covers broken u more = ⊥

-- words
name_shorter : (w rest : List ℕ) (u : Token) (more : List ℕ) → length rest < length more → Covers (name_token w rest) u more
name_shorter w [] u more h = inl h
name_shorter w (c ∷ cs) u more h =
    elim (c == 40) as (λ v. Covers (cond v (scanner.token (token.Head w) cs) (scanner.token (token.Name w) (c ∷ cs))) u more) [
      | true ↦ inl (omega arith)
      | false ↦ inl h
    ]

word_shorter : (r : Option Token) (w rest : List ℕ) (u : Token) (more : List ℕ) → length rest < length more →
    Covers (keyword_or_name r w rest) u more
word_shorter (Some t) w rest u more h = inl h
word_shorter None w rest u more h = name_shorter w rest u more h

abbrev pub read_word : List ℕ → List ℕ → Next
read_word w rest = keyword_or_name (entry keywords w) w rest

pub next_of_word : {w : List ℕ} → IsWord w → (rest : List ℕ) →
    next (w ++ rest) ≡ read_word (run is_xid_continue (w ++ rest)) (past is_xid_continue (w ++ rest))
next_of_word (word c cs h k) rest = next_word c (cs ++ rest) h

-- a word that no character continues is read whole
pub word_read : (w rest : List ℕ) → IsWord w → begins is_xid_continue rest ≡ false → next (w ++ rest) ≡ read_word w rest
word_read w rest i h =
    let all = word_continues i in
    let p : past is_xid_continue (w ++ rest) ≡ rest =
    past_front is_xid_continue w rest all ∙ past_none is_xid_continue rest h in
    let r : run is_xid_continue (w ++ rest) ≡ w =
    run_front is_xid_continue w rest all ∙ ap (λ (z : List ℕ). w ++ z) (run_none is_xid_continue rest h) ∙ append-nil w in
    next_of_word i rest ∙ ap (λ (z : List ℕ). read_word z (past is_xid_continue (w ++ rest))) r ∙ ap (read_word w) p

pub keyword_read : (w rest : List ℕ) (t : Token) → entry keywords w ≡ Some t → begins is_xid_continue rest ≡ false →
    next (w ++ rest) ≡ scanner.token t rest
keyword_read w rest t h k = word_read w rest (keyword_word w t h) k ∙ rw h refl

no_head : (w rest : List ℕ) → begins (λ c. c == 40) rest ≡ false → name_token w rest ≡ scanner.token (token.Name w) rest
no_head w [] h = refl
no_head w (c ∷ cs) h = rw h refl

pub name_read : (w rest : List ℕ) → IsWord w → entry keywords w ≡ None → begins is_xid_continue rest ≡ false →
    begins (λ c. c == 40) rest ≡ false → next (w ++ rest) ≡ scanner.token (token.Name w) rest
name_read w rest i h k b = word_read w rest i k ∙ rw h (no_head w rest b)

word_covers : (w rest : List ℕ) (u : Token) (b : Bool) → IsWord w → begins is_xid_continue rest ≡ b → Covers (read_word w rest) u rest →
    Covers (next (w ++ rest)) u rest
word_covers w rest u true i h c =
    let all = word_continues i in
    let p : past is_xid_continue (w ++ rest) ≡ past is_xid_continue rest = past_front is_xid_continue w rest all in
    subst (λ (z : Next). Covers z u rest) (sym (next_of_word i rest))
    (word_shorter (entry keywords (run is_xid_continue (w ++ rest))) (run is_xid_continue (w ++ rest))
    (past is_xid_continue (w ++ rest)) u rest (rw p (past_shorter is_xid_continue rest h)))
word_covers w rest u false i h c = subst (λ (z : Next). Covers z u rest) (sym (word_read w rest i h)) c

name_covers : (w rest : List ℕ) → entry keywords w ≡ None → Covers (read_word w rest) (token.Name w) rest
name_covers w [] h = rw h (inr (refl, refl))
name_covers w (c ∷ cs) h =
    rw h (elim (c == 40) as
    (λ v. Covers (cond v (scanner.token (token.Head w) cs) (scanner.token (token.Name w) (c ∷ cs))) (token.Name w) (c ∷ cs)) [
      | true ↦ inl (omega arith)
      | false ↦ inr (refl, refl)
    ])

keyword_covers : (w rest : List ℕ) (t : Token) → entry keywords w ≡ Some t → Covers (read_word w rest) t rest
keyword_covers w rest t h = rw h (inr (refl, refl))

-- the bracket of a head ends its name
pub head_read : (w rest : List ℕ) → IsWord w → entry keywords w ≡ None → next (w ++ 40 ∷ rest) ≡ scanner.token (token.Head w) rest
head_read w rest i h =
    let n : is_xid_continue 40 ≡ false = is_xid_continue-ascii 40 (lit< tt) in word_read w (40 ∷ rest) i n ∙ rw h refl

-- numbers
digit_continues : (c : ℕ) → is_digit c ≡ true → is_xid_continue c ≡ true
digit_continues c h =
    let n : c < 128 = grind (arith, nat_tests) in
    let a : is_ascii_alphanumeric c ≡ true = grind (arith, nat_tests) in is_xid_continue-ascii c n ∙ rw a refl

no_digit : (rest : List ℕ) → begins is_xid_continue rest ≡ false → begins is_digit rest ≡ false
no_digit [] h = refl
no_digit (c ∷ cs) h = go (is_digit c) refl
  where
    go : (b : Bool) → is_digit c ≡ b → b ≡ false
    go false e = refl
    go true e = let k = digit_continues c e in cc

number_here : (w rest : List ℕ) → begins is_xid_continue rest ≡ false →
    number_token w rest ≡ scanner.token (token.Number (spelled 0 w)) rest
number_here w rest h = rw h refl

differs : (c : ℕ) → (c ≡ 48 → ⊥) → (c == 48) ≡ false
differs c h = grind (arith, nat_tests)

pub number_read : {w : List ℕ} → IsNumeral w → (rest : List ℕ) → begins is_xid_continue rest ≡ false →
    next (w ++ rest) ≡ scanner.token (token.Number (spelled 0 w)) rest
number_read nought rest h = next_digit 48 rest refl ∙ number_here (48 ∷ []) rest h
number_read (digits c cs d n all) rest h =
    let k = no_digit rest h in
    let p : past is_digit (cs ++ rest) ≡ rest = past_front is_digit cs rest all ∙ past_none is_digit rest k in
    let r : run is_digit (cs ++ rest) ≡ cs =
    run_front is_digit cs rest all ∙ ap (λ (z : List ℕ). cs ++ z) (run_none is_digit rest k) ∙ append-nil cs in
    let e : numeral c (cs ++ rest) ≡ number_token (c ∷ cs) rest = rw (differs c n, r, p) refl in
    next_digit c (cs ++ rest) d ∙ e ∙ number_here (c ∷ cs) rest h

-- tokens that are closed
pub literal_read : (inside rest : List ℕ) (c : ℕ) (t : List ℕ) → SpellsText inside (c ∷ t) →
    next (34 ∷ (inside ++ 34 ∷ rest)) ≡ scanner.token (token.Literal (c ∷ t)) rest
literal_read inside rest c t s =
    let r = text_read s in
    let b : body 34 false (inside ++ 34 ∷ rest) ≡ Some (inside, rest) = text_body inside false (c ∷ t) rest r in
    let e : literal_token (inside ++ 34 ∷ rest) ≡ scanner.token (token.Literal (c ∷ t)) rest = rw (b, r) refl in
    next_quote (inside ++ 34 ∷ rest) ∙ e

-- no range begins with `^`
pub record BeginsRange (inside : List ℕ) : Type 0 where
  pub first : ℕ
  pub others : List ℕ
  pub parts : inside ≡ first ∷ others
  pub no_caret : (first == 94) ≡ false

letter_begins : (first : List ℕ) (c : ℕ) (more inside : List ℕ) → IsLetter class_signs first c → inside ≡ first ++ more → BeginsRange inside
letter_begins first c more inside (bare d k) e =
    record {
      first = c;
      others = more;
      parts = e;
      no_caret = no_member class_signs 94 c refl (rest_false (10 == c) (is_one_of class_signs c) k);
    }
letter_begins first c more inside (escaped d x k) e =
    record { first = 92; others = d ∷ more; parts = e; no_caret = refl }

range_begins : {inside : List ℕ} {ps : List (ℕ × ℕ)} → SpellsRanges inside ps → (p : ℕ × ℕ) (qs : List (ℕ × ℕ)) → ps ≡ p ∷ qs →
    BeginsRange inside
range_begins spelling.no_range p qs e = absurd (cc)
range_begins (one_character first more inside c ps l s f) p qs e = letter_begins first c more inside l f
range_begins (two_characters first last more inside c d ps k l h s f) p qs e =
    letter_begins first c (45 ∷ (last ++ more)) inside k f

plain_class : (inside : List ℕ) → BeginsRange inside → class_of inside ≡ class_with false (ranges_of false between inside)
plain_class inside b = rw (b.parts, b.no_caret) refl

pub class_read : (inside rest : List ℕ) (p : ℕ × ℕ) (ps : List (ℕ × ℕ)) → SpellsRanges inside (p ∷ ps) →
    next (91 ∷ (inside ++ 93 ∷ rest)) ≡ scanner.token (token.OneOf (class.Ranges false (normal_form (p ∷ ps)))) rest
class_read inside rest p ps s =
    let r = ranges_read s in
    let b : body 93 false (inside ++ 93 ∷ rest) ≡ Some (inside, rest) = ranges_body inside rest false between (p ∷ ps) r in
    let c : class_of inside ≡ class_with false (ranges_of false between inside) = plain_class inside (range_begins s p ps refl) in
    let d : class_of inside ≡ Some (class.Ranges false (normal_form (p ∷ ps))) = c ∙ ap (class_with false) r in
    let e : class_token (inside ++ 93 ∷ rest) ≡ scanner.token (token.OneOf (class.Ranges false (normal_form (p ∷ ps)))) rest =
    rw (b, d) refl in
    next_bracket (inside ++ 93 ∷ rest) ∙ e

pub negated_read : (inside rest : List ℕ) (p : ℕ × ℕ) (ps : List (ℕ × ℕ)) → SpellsRanges inside (p ∷ ps) →
    next (91 ∷ 94 ∷ (inside ++ 93 ∷ rest)) ≡ scanner.token (token.OneOf (class.Ranges true (normal_form (p ∷ ps)))) rest
negated_read inside rest p ps s =
    let r = ranges_read s in
    let b : body 93 false (94 ∷ (inside ++ 93 ∷ rest)) ≡ Some (94 ∷ inside, rest) =
    body_more 93 false false 94 inside rest refl refl (ranges_body inside rest false between (p ∷ ps) r) in
    let d : class_of (94 ∷ inside) ≡ Some (class.Ranges true (normal_form (p ∷ ps))) = ap (class_with true) r in
    let e : class_token (94 ∷ (inside ++ 93 ∷ rest)) ≡ scanner.token (token.OneOf (class.Ranges true (normal_form (p ∷ ps)))) rest =
    rw (b, d) refl in
    next_bracket (94 ∷ (inside ++ 93 ∷ rest)) ∙ e

-- classes with names
pub named_read : (cs rest : List ℕ) (c : Class) → entry named_classes cs ≡ Some c → begins is_xid_continue rest ≡ false →
    next (36 ∷ (cs ++ rest)) ≡ scanner.token (token.OneOf c) rest
named_read cs rest c h k =
    let all = class_name_continues cs c h in
    let p : past is_xid_continue (cs ++ rest) ≡ rest =
    past_front is_xid_continue cs rest all ∙ past_none is_xid_continue rest k in
    let r : run is_xid_continue (cs ++ rest) ≡ cs =
    run_front is_xid_continue cs rest all ∙ ap (λ (z : List ℕ). cs ++ z) (run_none is_xid_continue rest k) ∙ append-nil cs in
    let e : named_class (cs ++ rest) ≡ scanner.token (token.OneOf c) rest = rw (r, p, h) refl in
    next_dollar (cs ++ rest) ∙ e

-- signs
abbrev Cut : ℕ → List ℕ → List ℕ → Type 0
Cut n cs rest = (length (drop n (cs ++ rest)) < length rest) ⊎ ((take n (cs ++ rest) ≡ cs) × (drop n (cs ++ rest) ≡ rest))

cut_longer : (n : ℕ) (cs rest : List ℕ) → length cs < n → Cut n cs rest
cut_longer n cs [] h =
    let e : cs ++ [] ≡ cs = append-nil cs in
    inr (rw e (take_all n cs (omega arith)), rw e (drop_all n cs (omega arith)))
cut_longer n cs (c ∷ rest) h =
    let l = length-drop n (cs ++ c ∷ rest) in
    let m = length-append cs (c ∷ rest) in inl (omega (arith, l, m))

cut_same : (n : ℕ) (cs rest : List ℕ) → n ≡ length cs → Cut n cs rest
cut_same n cs rest e = inr (take_at cs rest n (sym e), drop_at cs rest n (sym e))

cut : (n : ℕ) (cs rest : List ℕ) → length cs ≤ n → Cut n cs rest
cut n cs rest h = go (n == length cs) refl
  where
    go : (b : Bool) → (n == length cs) ≡ b → Cut n cs rest
    go true e = cut_same n cs rest (grind (arith, nat_tests))
    go false e = cut_longer n cs rest (grind (arith, nat_tests))

sign_cut : (n : ℕ) (cs rest : List ℕ) (t : Token) (r : Option Token) (other : Next) → entry signs cs ≡ Some t →
    entry signs (take n (cs ++ rest)) ≡ r → Cut n cs rest →
    (length cs < n → Covers other t rest) → length cs ≤ n →
    Covers (unwrap_or (option_map (λ u. scanner.token u (drop n (cs ++ rest))) r) other) t rest
sign_cut n cs rest t (Some u) other h e (inl s) o l = inl s
sign_cut n cs rest t (Some u) other h e (inr s) o l =
    let q : Some t ≡ Some u = sym h ∙ ap (entry signs) (sym s.0) ∙ e in
    let p : t ≡ u = cc in inr (p, sym s.1)
sign_cut n cs rest t None other h e s o l = o (go (n == length cs) refl)
  where
    go : (b : Bool) → (n == length cs) ≡ b → length cs < n
    go true f =
        let p : n ≡ length cs = grind (arith, nat_tests) in
        let q : Some t ≡ None = sym h ∙ ap (entry signs) (sym (take_at cs rest n (sym p))) ∙ e in absurd (cc)
    go false f = grind (arith, nat_tests)

one_sign : (n : ℕ) (cs rest : List ℕ) (t : Token) (other : Next) → entry signs cs ≡ Some t → length cs ≤ n →
    (length cs < n → Covers other t rest) → Covers (unwrap_or (sign_of n (cs ++ rest)) other) t rest
one_sign n cs rest t other h l o =
    sign_cut n cs rest t (entry signs (take n (cs ++ rest))) other h refl (cut n cs rest l) o l

sign_covers : (cs rest : List ℕ) (t : Token) → entry signs cs ≡ Some t → IsSignText cs → Covers (next (cs ++ rest)) t rest
sign_covers cs rest t h s =
    let few : length cs ≤ 3 = rw s.parts (omega (arith, s.few)) in
    let some : 0 < length cs = rw s.parts (omega arith) in
    let read : Covers (sign_token (cs ++ rest)) t rest =
    one_sign 3 cs rest t (unwrap_or (sign_of 2 (cs ++ rest)) (unwrap_or (sign_of 1 (cs ++ rest)) broken)) h few
    (λ a. one_sign 2 cs rest t (unwrap_or (sign_of 1 (cs ++ rest)) broken) h (omega arith)
    (λ b. one_sign 1 cs rest t broken h (omega arith) (λ d. omega arith))) in
    let e : next (cs ++ rest) ≡ sign_token (cs ++ rest) =
    rw s.parts (next_sign s.first (s.others ++ rest) s.start) in
    subst (λ (z : Next). Covers z t rest) (sym e) read

equal_covers : (n : Next) (t : Token) (rest : List ℕ) → n ≡ scanner.token t rest → Covers n t rest
equal_covers n t rest e = rw e (inr (refl, refl))

-- each token of the table
pub token_covers : {front : List ℕ} {u : Token} → IsToken front u → (rest : List ℕ) → may_precede u rest ≡ true →
    Covers (next (front ++ rest)) u rest
token_covers (spelling.name cs n) rest f =
    word_covers cs rest (token.Name cs) (begins is_xid_continue rest) (name_word cs n) refl
    (name_covers cs rest (name_entry cs n))
token_covers (spelling.head cs whole n e) rest f =
    rw e (subst (λ (z : List ℕ). Covers (next z) (token.Head cs) rest) (sym (append_assoc cs (40 ∷ []) rest)) (equal_covers (next (cs ++ 40 ∷ rest)) (token.Head cs) rest (head_read cs rest (name_word cs n) (name_entry cs n))))
token_covers (spelling.number cs i) rest f =
    equal_covers (next (cs ++ rest)) (token.Number (spelled 0 cs)) rest
    (number_read i rest (not-true (begins is_xid_continue rest) f))
token_covers (spelling.literal inside whole c t s e) rest f =
    rw e (equal_covers (next ((34 ∷ (inside ++ 34 ∷ [])) ++ rest)) (token.Literal (c ∷ t)) rest
    (ap next (closed_text (34 ∷ []) 34 inside rest) ∙ literal_read inside rest c t s))
token_covers (spelling.ranges inside whole p ps s e) rest f =
    rw e (equal_covers (next ((91 ∷ (inside ++ 93 ∷ [])) ++ rest)) (token.OneOf (class.Ranges false (normal_form (p ∷ ps)))) rest
    (ap next (closed_text (91 ∷ []) 93 inside rest) ∙ class_read inside rest p ps s))
token_covers (spelling.other_ranges inside whole p ps s e) rest f =
    rw e (equal_covers (next ((91 ∷ 94 ∷ (inside ++ 93 ∷ [])) ++ rest)) (token.OneOf (class.Ranges true (normal_form (p ∷ ps)))) rest
    (ap next (closed_text (91 ∷ 94 ∷ []) 93 inside rest) ∙ negated_read inside rest p ps s))
token_covers (spelling.named_class cs c h) rest f =
    equal_covers (next (36 ∷ (cs ++ rest))) (token.OneOf c) rest
    (named_read cs rest c h (not-true (begins is_xid_continue rest) (sym (named_class_precedes cs rest c h) ∙ f)))
token_covers (spelling.sign cs t h) rest f = sign_covers cs rest t h (sign_text cs t h)
token_covers (spelling.keyword cs t h) rest f =
    word_covers cs rest t (begins is_xid_continue rest) (keyword_word cs t h) refl (keyword_covers cs rest t h)

pub next_covers : (text : List ℕ) (u : Token) (rest : List ℕ) → StandsFirst text u rest → Covers (next text) u rest
next_covers text u rest s =
    subst (λ (z : List ℕ). Covers (next z) u rest) (sym s.parts) (token_covers s.spelled_so rest s.free)

-- each separator
pub separator_read : {text rest : List ℕ} → IsSeparator text rest → next text ≡ separator rest
separator_read (blank c rest h) = next_blank c rest h
separator_read (spelling.comment line rest text h e p) =
    let a = line_all line h in
    let b = line_ends rest e in
    let q : past (λ d. not (d == 10)) (line ++ rest) ≡ rest =
    past_front (λ d. not (d == 10)) line rest a ∙ past_none (λ d. not (d == 10)) rest b in
    ap next p ∙ ap separator q
