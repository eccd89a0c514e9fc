-- What is read is spelled as the table says.
use Rattle.std.proofs.Common.{◌≡◌, ◌∙◌, ℕ, List, [], ◌∷◌, ◌++◌, Bool, true, false, cond, not, ◌==◌, Option, Some, None, option_map, take, drop, refl, sym, ap, subst, arith, append_assoc}
use Rattle.std.specs.Prelude.{unwrap_or}
use Rattle.std.proofs.lemmas.List.{take-append-drop}
use Rattle.std.proofs.lemmas.Bool.Decides.{nat_tests}
use Rattle.unicode_ident.specs.Ident.{is_xid_start, is_xid_continue}
use Rattle.unicode_ident.proofs.IdentLemmas.{is_xid_start-is_xid_continue}
use Rattle.ig_text.specs.declared.class.Class.{Class}
use Rattle.ig_text.specs.Words.{is_digit}
use Rattle.ig_text.proofs.Numbers.{same_number}
use Rattle.ig_expr.specs.Reading.{spelled}
use Rattle.ig_notation_syntax.specs.Token as token
use Rattle.ig_notation_syntax.specs.Token.{Token}
use Rattle.ig_notation_syntax.specs.Spelling.{entry, signs, keywords, named_classes, is_one_of, blanks, begins, may_precede, IsNumeral, nought, digits, IsToken, StandsFirst, IsSeparator, blank, EndsLine, SpellsText, SpellsRanges}
use Rattle.ig_notation_syntax.specs.Spelling as spelling
use Rattle.ig_notation_syntax.specs.Scanner as scanner
use Rattle.ig_notation_syntax.specs.Scanner.{Next, next, run, past, word_token, keyword_or_name, name_token, numeral, number_token, literal_token, class_token, named_class, named_token, sign_token, sign_of, comment, separator, ended, broken, body, closed, literal_of, not_empty, text_of, class_of, class_with, ranges_of, between}
use Rattle.ig_notation_syntax.proofs.Named.{IsWord, word, named}
use Rattle.ig_notation_syntax.proofs.Runs.{all_run, past_begins, all_line, ends_line}
use Rattle.ig_notation_syntax.proofs.Reading.{run_past}
use Rattle.ig_notation_syntax.proofs.Spelled.{body_parts, text_spelled}
use Rattle.ig_notation_syntax.proofs.SpelledRanges.{ranges_spelled}
use Rattle.ig_notation_syntax.proofs.Entries.{keyword_free, sign_free, named_class_precedes}

-- what stands first is as it was read
abbrev pub IsSound : List ℕ → Next → Type 0
IsSound text ended = text ≡ []
IsSound text (separator rest) = IsSeparator text rest
IsSound text (scanner.token t rest) = StandsFirst text t rest
IsSound text broken = Unit {0}

either : (text : List ℕ) (b : Bool) (x y : Next) → (b ≡ true → IsSound text x) → (b ≡ false → IsSound text y) →
    IsSound text (cond b x y)
either text true x y h k = h refl
either text false x y h k = k refl

-- words
name_sound : (text w rest : List ℕ) → text ≡ w ++ rest → IsWord w → entry keywords w ≡ None → IsSound text (name_token w rest)
name_sound text w [] e i n =
    record { front = w; parts = e; spelled_so = spelling.name w (named w i n); free = refl }
name_sound text w (c ∷ cs) e i n =
    either text (c == 40) (scanner.token (token.Head w) cs) (scanner.token (token.Name w) (c ∷ cs)) (
    λ h.
    let p : c ≡ 40 = same_number c 40 h in
    record {
      front = w ++ 40 ∷ [];
      parts =
          e ∙ ap (λ (z : ℕ). w ++ z ∷ cs) p ∙ sym (append_assoc w (40 ∷ []) cs);
      spelled_so = spelling.head w (w ++ 40 ∷ []) (named w i n) refl;
      free = refl;
    }
    ) (λ h. record { front = w; parts = e; spelled_so = spelling.name w (named w i n); free = refl })

keyword_sound : (text w rest : List ℕ) (r : Option Token) → text ≡ w ++ rest → IsWord w → entry keywords w ≡ r →
    IsSound text (keyword_or_name r w rest)
keyword_sound text w rest None e i h = name_sound text w rest e i h
keyword_sound text w rest (Some t) e i h =
    record { front = w; parts = e; spelled_so = spelling.keyword w t h; free = keyword_free w rest t h }

run_word : (c : ℕ) (cs : List ℕ) → is_xid_start c ≡ true → IsWord (run is_xid_continue (c ∷ cs))
run_word c cs h =
    let k = is_xid_start-is_xid_continue c h in rw k (word c (run is_xid_continue cs) h (all_run is_xid_continue cs))

word_sound : (c : ℕ) (cs : List ℕ) → is_xid_start c ≡ true → IsSound (c ∷ cs) (word_token (c ∷ cs))
word_sound c cs h =
    keyword_sound (c ∷ cs) (run is_xid_continue (c ∷ cs)) (past is_xid_continue (c ∷ cs)) (entry keywords (run is_xid_continue (c ∷ cs)))
    (sym (run_past is_xid_continue (c ∷ cs))) (run_word c cs h) refl

-- numbers
number_sound : (text w rest : List ℕ) → text ≡ w ++ rest → IsNumeral w → IsSound text (number_token w rest)
number_sound text w rest e i =
    either text (begins is_xid_continue rest) broken (scanner.token (token.Number (spelled 0 w)) rest) (λ h. tt)
    (λ h. record { front = w; parts = e; spelled_so = spelling.number w i; free = rw h refl })

other_number : (c k : ℕ) → (c == k) ≡ false → c ≡ k → ⊥
other_number c k h e = grind (arith, nat_tests)

numeral_sound : (c : ℕ) (cs : List ℕ) → is_digit c ≡ true → IsSound (c ∷ cs) (numeral c cs)
numeral_sound c cs h =
    either (c ∷ cs) (c == 48) (number_token (c ∷ []) cs) (number_token (c ∷ run is_digit cs) (past is_digit cs)) (
    λ e.
    let p : c ≡ 48 = same_number c 48 e in
    number_sound (c ∷ cs) (c ∷ []) cs refl (subst (λ (z : ℕ). IsNumeral (z ∷ [])) (sym p) nought)
    ) (
    λ e.
    number_sound (c ∷ cs) (c ∷ run is_digit cs) (past is_digit cs)
    (ap (λ (z : List ℕ). c ∷ z) (sym (run_past is_digit cs)))
    (digits c (run is_digit cs) h (other_number c 48 e) (all_run is_digit cs))
    )

-- tokens that are closed
closed_parts : (front : List ℕ) (stop : ℕ) (cs inside rest : List ℕ) → cs ≡ inside ++ stop ∷ rest →
    front ++ cs ≡ (front ++ (inside ++ stop ∷ [])) ++ rest
closed_parts front stop cs inside rest e =
    ap (λ (z : List ℕ). front ++ z) (e ∙ sym (append_assoc inside (stop ∷ []) rest)) ∙
    sym (append_assoc front (inside ++ stop ∷ []) rest)

literal_inside : (text cs inside rest : List ℕ) (r : Option (List ℕ)) → text ≡ 34 ∷ cs → cs ≡ inside ++ 34 ∷ rest →
    text_of false inside ≡ r → IsSound text (unwrap_or (option_map (λ x. scanner.token (token.Literal x) rest) (not_empty r)) broken)
literal_inside text cs inside rest None e f h = tt
literal_inside text cs inside rest (Some []) e f h = tt
literal_inside text cs inside rest (Some (c ∷ t)) e f h =
    record {
      front = 34 ∷ (inside ++ 34 ∷ []);
      parts = e ∙ closed_parts (34 ∷ []) 34 cs inside rest f;
      spelled_so = spelling.literal inside (34 ∷ (inside ++ 34 ∷ [])) c t (text_spelled inside false (c ∷ t) h) refl;
      free = refl;
    }

literal_body : (text cs : List ℕ) (r : Option (List ℕ × List ℕ)) → text ≡ 34 ∷ cs → body 34 false cs ≡ r →
    IsSound text (closed literal_of token.Literal r)
literal_body text cs None e h = tt
literal_body text cs (Some parts) e h =
    literal_inside text cs parts.0 parts.1 (text_of false parts.0) e (body_parts 34 cs false parts.0 parts.1 h) refl

literal_sound : (c : ℕ) (cs : List ℕ) → (c == 34) ≡ true → IsSound (c ∷ cs) (literal_token cs)
literal_sound c cs h =
    literal_body (c ∷ cs) cs (body 34 false cs) (ap (λ (z : ℕ). z ∷ cs) (same_number c 34 h)) refl

class_inside : (text cs inside rest : List ℕ) (r : Option (List (ℕ × ℕ))) → text ≡ 91 ∷ cs → cs ≡ inside ++ 93 ∷ rest →
    ranges_of false between inside ≡ r →
    IsSound text (unwrap_or (option_map (λ x. scanner.token (token.OneOf x) rest) (class_with false r)) broken)
class_inside text cs inside rest None e f h = tt
class_inside text cs inside rest (Some []) e f h = tt
class_inside text cs inside rest (Some (p ∷ ps)) e f h =
    record {
      front = 91 ∷ (inside ++ 93 ∷ []);
      parts = e ∙ closed_parts (91 ∷ []) 93 cs inside rest f;
      spelled_so = spelling.ranges inside (91 ∷ (inside ++ 93 ∷ [])) p ps (ranges_spelled inside false between (p ∷ ps) h) refl;
      free = refl;
    }

negated_inside : (text cs inside rest : List ℕ) (r : Option (List (ℕ × ℕ))) → text ≡ 91 ∷ 94 ∷ cs → cs ≡ inside ++ 93 ∷ rest →
    ranges_of false between inside ≡ r →
    IsSound text (unwrap_or (option_map (λ x. scanner.token (token.OneOf x) rest) (class_with true r)) broken)
negated_inside text cs inside rest None e f h = tt
negated_inside text cs inside rest (Some []) e f h = tt
negated_inside text cs inside rest (Some (p ∷ ps)) e f h =
    record {
      front = 91 ∷ 94 ∷ (inside ++ 93 ∷ []);
      parts = e ∙ closed_parts (91 ∷ 94 ∷ []) 93 cs inside rest f;
      spelled_so =
          spelling.other_ranges inside (91 ∷ 94 ∷ (inside ++ 93 ∷ [])) p ps (ranges_spelled inside false between (p ∷ ps) h) refl;
      free = refl;
    }

class_either : (text cs inside rest : List ℕ) → text ≡ 91 ∷ cs → cs ≡ inside ++ 93 ∷ rest →
    IsSound text (unwrap_or (option_map (λ x. scanner.token (token.OneOf x) rest) (class_of inside)) broken)
class_either text cs [] rest e f = tt
class_either text cs (c ∷ inside) rest e f = go (c == 94) refl
  where
    go : (b : Bool) → (c == 94) ≡ b →
        IsSound text (unwrap_or (option_map (λ x. scanner.token (token.OneOf x) rest)
        (cond b (class_with true (ranges_of false between inside)) (class_with false (ranges_of false between (c ∷ inside))))) broken)
    go true h =
        let p : c ≡ 94 = same_number c 94 h in
        negated_inside text (inside ++ 93 ∷ rest) inside rest (ranges_of false between inside)
        (e ∙ ap (λ (z : List ℕ). 91 ∷ z) f ∙ ap (λ (z : ℕ). 91 ∷ z ∷ (inside ++ 93 ∷ rest)) p) refl refl
    go false h = class_inside text cs (c ∷ inside) rest (ranges_of false between (c ∷ inside)) e f refl

class_body : (text cs : List ℕ) (r : Option (List ℕ × List ℕ)) → text ≡ 91 ∷ cs → body 93 false cs ≡ r →
    IsSound text (closed class_of token.OneOf r)
class_body text cs None e h = tt
class_body text cs (Some parts) e h =
    class_either text cs parts.0 parts.1 e (body_parts 93 cs false parts.0 parts.1 h)

class_sound : (c : ℕ) (cs : List ℕ) → (c == 91) ≡ true → IsSound (c ∷ cs) (class_token cs)
class_sound c cs h = class_body (c ∷ cs) cs (body 93 false cs) (ap (λ (z : ℕ). z ∷ cs) (same_number c 91 h)) refl

-- classes with names
named_found : (text w rest : List ℕ) (r : Option Class) → text ≡ 36 ∷ (w ++ rest) → begins is_xid_continue rest ≡ false →
    entry named_classes w ≡ r → IsSound text (named_token r rest)
named_found text w rest None e f h = tt
named_found text w rest (Some c) e f h =
    record {
      front = 36 ∷ w;
      parts = e;
      spelled_so = spelling.named_class w c h;
      free = named_class_precedes w rest c h ∙ ap not f;
    }

named_sound : (c : ℕ) (cs : List ℕ) → (c == 36) ≡ true → IsSound (c ∷ cs) (named_class cs)
named_sound c cs h =
    let p : c ≡ 36 = same_number c 36 h in
    named_found (c ∷ cs) (run is_xid_continue cs) (past is_xid_continue cs) (entry named_classes (run is_xid_continue cs))
    (ap (λ (z : ℕ). z ∷ cs) p ∙ ap (λ (z : List ℕ). 36 ∷ z) (sym (run_past is_xid_continue cs)))
    (past_begins is_xid_continue cs) refl

-- signs
cut_sound : (n : ℕ) (text : List ℕ) (r : Option Token) (other : Next) → entry signs (take n text) ≡ r → IsSound text other →
    IsSound text (unwrap_or (option_map (λ t. scanner.token t (drop n text)) r) other)
cut_sound n text None other h o = o
cut_sound n text (Some t) other h o =
    record {
      front = take n text;
      parts = sym (take-append-drop n text);
      spelled_so = spelling.sign (take n text) t h;
      free = sign_free (take n text) (drop n text) t h;
    }

sign_sound : (text : List ℕ) → IsSound text (sign_token text)
sign_sound text =
    cut_sound 3 text (entry signs (take 3 text)) (unwrap_or (sign_of 2 text) (unwrap_or (sign_of 1 text) broken)) refl
    (cut_sound 2 text (entry signs (take 2 text)) (unwrap_or (sign_of 1 text) broken) refl
    (cut_sound 1 text (entry signs (take 1 text)) broken refl tt))

-- separators
comment_sound : (c : ℕ) (cs : List ℕ) → (c == 47) ≡ true → IsSound (c ∷ cs) (comment cs)
comment_sound c [] h = tt
comment_sound c (d ∷ ds) h =
    either (c ∷ d ∷ ds) (d == 47) (separator (past (λ e. not (e == 10)) ds)) broken (
    λ k.
    let p : c ≡ 47 = same_number c 47 h in
    let q : d ≡ 47 = same_number d 47 k in
    spelling.comment (run (λ e. not (e == 10)) ds) (past (λ e. not (e == 10)) ds) (c ∷ d ∷ ds)
    (all_line (run (λ e. not (e == 10)) ds) (all_run (λ e. not (e == 10)) ds))
    (ends_line (past (λ e. not (e == 10)) ds) (past_begins (λ e. not (e == 10)) ds))
    (rw (p, q) (ap (λ (z : List ℕ). 47 ∷ 47 ∷ z) (sym (run_past (λ e. not (e == 10)) ds))))
    ) (λ k. tt)

pub next_sound : (text : List ℕ) → IsSound text (next text)
next_sound [] = refl
next_sound (c ∷ cs) =
    either (c ∷ cs) (is_one_of blanks c) _ _ (λ h. blank c cs h) (λ a.
    either (c ∷ cs) (c == 47) _ _ (comment_sound c cs) (λ b.
    either (c ∷ cs) (is_xid_start c) _ _ (word_sound c cs) (λ d.
    either (c ∷ cs) (is_digit c) _ _ (numeral_sound c cs) (λ e.
    either (c ∷ cs) (c == 34) _ _ (literal_sound c cs) (λ f.
    either (c ∷ cs) (c == 91) _ _ (class_sound c cs) (λ g.
    either (c ∷ cs) (c == 36) _ _ (named_sound c cs) (λ h. sign_sound (c ∷ cs))))))))
