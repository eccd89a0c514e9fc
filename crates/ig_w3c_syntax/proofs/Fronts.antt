-- Tokens and separators are fronts of the text.
use Rattle.std.proofs.Common.{◌≡◌, ◌∙◌, ℕ, suc, ◌+◌, ◌<◌, ◌≤◌, List, [], ◌∷◌, ◌++◌, Bool, true, false, cond, ◌&&◌, ◌==◌, Option, Some, None, length, drop, refl, sym, ap, subst, arith, append_assoc}
use Rattle.ig_notation_syntax.specs.Spelling.{is_one_of, begins}
use Rattle.ig_grammar.specs.Name.{is_name}
use Rattle.ig_w3c_syntax.specs.Token.{Token}
use Rattle.ig_w3c_syntax.specs.Spelling.{IsSeparator, blank, comment, behind_comment, AreSeparators, no_separator, next_separator, IsPart, alone, range, AreParts, no_part, next_part, element, joins, run, past, is_hexadecimal, hexadecimal, is_character, character_of, begins_code, code, bare, StandsFirst, name, head, string, character, set, other_set, sign}
use Rattle.ig_w3c_syntax.proofs.Reading.{run_past}
use Rattle.ig_w3c_syntax.proofs.Determined.{Front, chosen_code, bare_rest}

abbrev pub Suffix : List ℕ → List ℕ → Type 0
Suffix text rest = (front : List ℕ) × (text ≡ front ++ rest)

suffix_after : (text more rest : List ℕ) → Suffix text more → Suffix more rest → Suffix text rest
suffix_after text more rest s r = (s.0 ++ r.0, s.1 ∙ ap (λ z. s.0 ++ z) r.1 ∙ sym (append_assoc s.0 r.0 rest))

suffix_cons : (c : ℕ) (cs rest : List ℕ) → Suffix cs rest → Suffix (c ∷ cs) rest
suffix_cons c cs rest s = (c ∷ s.0, ap (λ z. c ∷ z) s.1)

front_cons : (c : ℕ) (cs rest : List ℕ) → Suffix cs rest → Front (c ∷ cs) rest
front_cons c cs rest s = record { front = c ∷ s.0; parts = ap (λ z. c ∷ z) s.1; some = omega arith }

suffix_of : (text rest : List ℕ) → Front text rest → Suffix text rest
suffix_of text rest f = (f.front, f.parts)

none : (text : List ℕ) → Suffix text text
none text = ([], refl)

drop_suffix : (cs : List ℕ) → Suffix cs (drop 1 cs)
drop_suffix [] = ([], refl)
drop_suffix (c ∷ cs) = (c ∷ [], refl)

comment_by : (c : ℕ) (cs rest : List ℕ) (b : Bool) → cond b (Some (drop 1 cs)) (behind_comment cs) ≡ Some rest →
    (behind_comment cs ≡ Some rest → Suffix cs rest) → Suffix (c ∷ cs) rest
comment_by c cs rest true e h = let p : drop 1 cs ≡ rest = cc in subst (Suffix (c ∷ cs)) p (suffix_cons c cs (drop 1 cs) (drop_suffix cs))
comment_by c cs rest false e h = suffix_cons c cs rest (h e)

comment_suffix : (cs rest : List ℕ) → behind_comment cs ≡ Some rest → Suffix cs rest
comment_suffix [] rest e = absurd (cc)
comment_suffix (c ∷ cs) rest e = comment_by c cs rest _ e (comment_suffix cs rest)

pub separator_front : {text rest : List ℕ} → IsSeparator text rest → Front text rest
separator_front (blank c rest h) = front_cons c rest rest (none rest)
separator_front (comment inside rest h) = front_cons 47 (42 ∷ inside) rest (suffix_cons 42 inside rest (comment_suffix inside rest h))

separators_suffix : {text rest : List ℕ} → AreSeparators text rest → Suffix text rest
separators_suffix (no_separator text) = none text
separators_suffix (next_separator text more rest s r) = suffix_after text more rest (suffix_of text more (separator_front s)) (separators_suffix r)

past_suffix : (p : ℕ → Bool) (cs : List ℕ) → Suffix cs (past p cs)
past_suffix p cs = (run p cs, sym (run_past p cs))

code_front : (text rest : List ℕ) (c : ℕ) → code text ≡ Some (c, rest) → Front text rest
code_front [] rest c e = absurd (cc)
code_front (a ∷ []) rest c e = absurd (cc)
code_front (a ∷ b ∷ cs) rest c e =
    let p : past is_hexadecimal cs ≡ rest = chosen_code (begins_code (a ∷ b ∷ cs)) (hexadecimal 0 (run is_hexadecimal cs)) c (past is_hexadecimal cs) rest e in
    front_cons a (b ∷ cs) rest (suffix_cons b cs rest (subst (Suffix cs) p (past_suffix is_hexadecimal cs)))

bare_front : (text rest : List ℕ) (c : ℕ) → bare text ≡ Some (c, rest) → Front text rest
bare_front [] rest c e = absurd (cc)
bare_front (d ∷ ds) rest c e =
    let p : ds ≡ rest = bare_rest (is_one_of (93 ∷ 10 ∷ []) d) d c ds rest e in subst (Front (d ∷ ds)) p (front_cons d ds ds (none ds))

either_front : (b : Bool) (text rest : List ℕ) (c : ℕ) → cond b (code text) (bare text) ≡ Some (c, rest) → Front text rest
either_front true text rest c e = code_front text rest c e
either_front false text rest c e = bare_front text rest c e

pub element_suffix : (text rest : List ℕ) (c : ℕ) → element text ≡ Some (c, rest) → Suffix text rest
element_suffix text rest c e = suffix_of text rest (either_front (begins_code text) text rest c e)

pub part_suffix : {text rest : List ℕ} {p : ℕ × ℕ} → IsPart text p rest → Suffix text rest
part_suffix (alone text rest a e j) = element_suffix text rest a e
part_suffix (range text more rest a b e j g l) =
    suffix_after text more rest (element_suffix text more a e) (suffix_after more (drop 1 more) rest (drop_suffix more) (element_suffix (drop 1 more) rest b g))

parts_suffix : {text rest : List ℕ} {ps : List (ℕ × ℕ)} → AreParts text ps rest → Suffix text rest
parts_suffix (no_part rest) = suffix_cons 93 rest rest (none rest)
parts_suffix (next_part text more rest p ps s a) = suffix_after text more rest (part_suffix s) (parts_suffix a)

name_front : (text cs rest more : List ℕ) → is_name cs ≡ true → text ≡ cs ++ more → Suffix more rest → Front text rest
name_front text [] rest more n e s = absurd (cc)
name_front text (c ∷ cs) rest more n e s =
    subst (λ z. Front z rest) (sym e) (front_cons c (cs ++ more) rest (suffix_after (cs ++ more) more rest (cs, refl) s))

pub token_front : {text rest : List ℕ} {t : Token} → StandsFirst text t rest → Front text rest
token_front (name text cs rest n b e) = name_front text cs rest rest n e (none rest)
token_front (head text cs behind rest n b e s) =
    name_front text cs rest behind n e
    (suffix_after behind (58 ∷ 58 ∷ 61 ∷ rest) rest (separators_suffix s) (58 ∷ 58 ∷ 61 ∷ [], refl))
token_front (string q c cs inside rest k all e) =
    front_cons q inside rest (suffix_after inside (q ∷ rest) rest (c ∷ cs, e) (q ∷ [], refl))
token_front (character text rest c h) = code_front text rest c h
token_front (set inside rest p ps b a) = front_cons 91 inside rest (parts_suffix a)
token_front (other_set inside rest p ps a) = front_cons 91 (94 ∷ inside) rest (suffix_cons 94 inside rest (parts_suffix a))
token_front (sign c t rest h) = front_cons c rest rest (none rest)
