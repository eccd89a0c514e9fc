-- What the characters of literals and classes stand for, by the table and as they are read.
use Rattle.std.proofs.Common.{◌≡◌, ◌∙◌, ℕ, List, [], ◌∷◌, ◌++◌, Bool, true, false, cond, not, ◌&&◌, ◌==◌, Option, Some, None, option_map, refl, sym, ap, subst, arith}
use Rattle.std.proofs.lemmas.Bool.Decides.{nat_tests}
use Rattle.std.proofs.lemmas.Option.{same_Some}
use Rattle.ig_text.proofs.Numbers.{same_number}
use Rattle.ig_text.proofs.Booleans.{rest_false}
use Rattle.ig_notation_syntax.specs.Spelling.{is_one_of, literal_signs, escape, IsLetter, bare, escaped, SpellsText, no_letter}
use Rattle.ig_notation_syntax.specs.Spelling as spelling
use Rattle.ig_notation_syntax.specs.Scanner as scanner
use Rattle.ig_notation_syntax.specs.Scanner.{letter, text_of, text_behind, backslash, stands_for, body, with_first}

-- the characters that a letter takes, one or two
abbrev pub taken : Bool → ℕ → List ℕ
taken true c = 92 ∷ c ∷ []
taken false c = c ∷ []

-- what stands there, the first half of an escape included
abbrev pub whole : Bool → List ℕ → List ℕ
whole true cs = 92 ∷ cs
whole false cs = cs

-- a letter that is read is one of the table
letter_escaped : (special : List ℕ) (c d : ℕ) (r : Option ℕ) → escape special c ≡ r → option_map stands_for r ≡ Some (stands_for d) →
    IsLetter special (92 ∷ c ∷ []) d
letter_escaped special c d None e h = absurd (cc)
letter_escaped special c d (Some x) e h =
    let p : x ≡ d = let q = same_Some (stands_for x) (stands_for d) h in cc in
    escaped c d (e ∙ ap Some p)

letter_bare : (special : List ℕ) (c d : ℕ) (b r : Bool) → (c == 92) ≡ b → is_one_of (10 ∷ special) c ≡ r →
    cond b (Some backslash) (cond r None (Some (stands_for c))) ≡ Some (stands_for d) → IsLetter special (c ∷ []) d
letter_bare special c d true r e f h = absurd (cc)
letter_bare special c d false true e f h = absurd (cc)
letter_bare special c d false false e f h =
    let p : c ≡ d = let q = same_Some (stands_for c) (stands_for d) h in cc in
    subst (λ (z : ℕ). IsLetter special (c ∷ []) z) p (bare c f)

pub letter_is : (special : List ℕ) (e : Bool) (c d : ℕ) → letter special e c ≡ Some (stands_for d) → IsLetter special (taken e c) d
letter_is special true c d h = letter_escaped special c d (escape special c) refl h
letter_is special false c d h = letter_bare special c d (c == 92) (is_one_of (10 ∷ special) c) refl refl h

half_escaped : (r : Option ℕ) → option_map stands_for r ≡ Some backslash → ⊥
half_escaped None h = cc
half_escaped (Some x) h = cc

half_bare : (c : ℕ) (b r : Bool) → (c == 92) ≡ b → cond b (Some backslash) (cond r None (Some (stands_for c))) ≡ Some backslash →
    c ≡ 92
half_bare c true r e h = same_number c 92 e
half_bare c false true e h = absurd (cc)
half_bare c false false e h = absurd (cc)

-- and the first half of an escape is a backslash
pub half_is : (special : List ℕ) (e : Bool) (c : ℕ) → letter special e c ≡ Some backslash → (e ≡ false) × (c ≡ 92)
half_is special true c h = absurd (half_escaped (escape special c) h)
half_is special false c h = (refl, half_bare c (c == 92) (is_one_of (10 ∷ special) c) refl h)

-- a text that is read is spelled so
spelled_behind : (e : Bool) (c : ℕ) (cs text : List ℕ) (l : Option scanner.Letter) → letter literal_signs e c ≡ l →
    ((t : List ℕ) → text_of true cs ≡ Some t → SpellsText (whole true cs) t) →
    ((t : List ℕ) → text_of false cs ≡ Some t → SpellsText (whole false cs) t) →
    text_behind l (λ e. text_of e cs) ≡ Some text → SpellsText (whole e (c ∷ cs)) text
spelled_behind e c cs text None k half full h = absurd (cc)
spelled_behind e c cs text (Some backslash) k half full h =
    let p = half_is literal_signs e c k in
    subst (λ (z : Bool). SpellsText (whole z (c ∷ cs)) text) (sym p.0)
    (subst (λ (z : ℕ). SpellsText (z ∷ cs) text) (sym p.1) (half text h))
spelled_behind e c cs text (Some (stands_for d)) k half full h = go (text_of false cs) refl h
  where
    parts : (b : Bool) → whole b (c ∷ cs) ≡ taken b c ++ cs
    parts true = refl
    parts false = refl

    go : (r : Option (List ℕ)) → text_of false cs ≡ r → option_map (λ t. d ∷ t) r ≡ Some text → SpellsText (whole e (c ∷ cs)) text
    go None f g = absurd (cc)
    go (Some t) f g =
        subst (SpellsText (whole e (c ∷ cs))) (same_Some (d ∷ t) text g)
        (spelling.letter (taken e c) cs (whole e (c ∷ cs)) d t (letter_is literal_signs e c d k) (full t f) (parts e))

pub text_spelled : (cs : List ℕ) (e : Bool) (text : List ℕ) → text_of e cs ≡ Some text → SpellsText (whole e cs) text
text_spelled [] true text h = absurd (cc)
text_spelled [] false text h = subst (SpellsText []) (same_Some [] text h) no_letter
text_spelled (c ∷ cs) e text h =
    spelled_behind e c cs text (letter literal_signs e c) refl (text_spelled cs true) (text_spelled cs false) h

-- a letter of the table is read so
not_backslash : (special : List ℕ) (c : ℕ) → is_one_of special 92 ≡ true → is_one_of (10 ∷ special) c ≡ false → (c == 92) ≡ false
not_backslash special c h k = go (c == 92) refl
  where
    go : (b : Bool) → (c == 92) ≡ b → b ≡ false
    go false e = refl
    go true e =
        let p : c ≡ 92 = same_number c 92 e in
        let q : is_one_of special 92 ≡ false =
        subst (λ (z : ℕ). is_one_of special z ≡ false) p (rest_false (10 == c) (is_one_of special c) k) in cc

pub bare_read : (special : List ℕ) (c : ℕ) → is_one_of special 92 ≡ true → is_one_of (10 ∷ special) c ≡ false →
    letter special false c ≡ Some (stands_for c)
bare_read special c h k = rw (not_backslash special c h k, k) refl

pub escaped_read : (special : List ℕ) (c d : ℕ) → escape special c ≡ Some d → letter special true c ≡ Some (stands_for d)
escaped_read special c d e = rw e refl

letter_read : (first : List ℕ) (d : ℕ) (more : List ℕ) → IsLetter literal_signs first d →
    text_of false (first ++ more) ≡ option_map (λ t. d ∷ t) (text_of false more)
letter_read first d more (bare c k) =
    let p = bare_read literal_signs d refl k in rw p refl
letter_read first d more (escaped c x k) =
    let p = escaped_read literal_signs c d k in rw p refl

pub text_read : {inside text : List ℕ} → SpellsText inside text → text_of false inside ≡ Some text
text_read no_letter = refl
text_read (spelling.letter first more inside c text l s e) =
    let p = text_read s in
    ap (text_of false) e ∙ letter_read first c more l ∙ ap (option_map (λ t. c ∷ t)) p

-- a body whose letters are read ends at its stop
abbrev pub rest_body : ℕ → Bool → List ℕ → List ℕ → Type 0
rest_body stop e cs rest = body stop e (cs ++ stop ∷ rest) ≡ Some (cs, rest)

pub body_ends : (stop : ℕ) (rest : List ℕ) → rest_body stop false [] rest
body_ends stop rest = let h : (stop == stop) ≡ true = grind (arith, nat_tests) in rw h refl

pub body_more : (stop : ℕ) (e f : Bool) (c : ℕ) (cs rest : List ℕ) → (not e && (c == stop)) ≡ false → (not e && (c == 92)) ≡ f →
    rest_body stop f cs rest → rest_body stop e (c ∷ cs) rest
body_more stop e f c cs rest h k b = rw (h, k, b) refl

-- and what is cut are these parts
same_parts : (a b : List ℕ) (parts : List ℕ × List ℕ) → parts ≡ (a, b) → (parts.0 ≡ a) × (parts.1 ≡ b)
same_parts a b parts e = (ap (λ (z : List ℕ × List ℕ). z.0) e, ap (λ (z : List ℕ × List ℕ). z.1) e)

cut_parts : (stop c : ℕ) (cs inside rest : List ℕ) (b : Bool) (r : Option (List ℕ × List ℕ)) → (b ≡ true → c ≡ stop) →
    ((a d : List ℕ) → r ≡ Some (a, d) → cs ≡ a ++ stop ∷ d) →
    cond b (Some ([], cs)) (option_map (with_first c) r) ≡ Some (inside, rest) → c ∷ cs ≡ inside ++ stop ∷ rest
cut_parts stop c cs inside rest true r h k e =
    let p = same_parts inside rest ([], cs) (same_Some _ (inside, rest) e) in
    let q : c ≡ stop = h refl in rw (q, p.1, ← p.0) refl
cut_parts stop c cs inside rest false None h k e = absurd (cc)
cut_parts stop c cs inside rest false (Some parts) h k e =
    let p = same_parts inside rest (with_first c parts) (same_Some _ (inside, rest) e) in
    let q = k parts.0 parts.1 refl in rw (← p.0, ← p.1) (ap (λ (z : List ℕ). c ∷ z) q)

stops : (stop c : ℕ) (e : Bool) → (not e && (c == stop)) ≡ true → c ≡ stop
stops stop c true h = absurd (cc)
stops stop c false h = same_number c stop h

pub body_parts : (stop : ℕ) (cs : List ℕ) (e : Bool) (inside rest : List ℕ) → body stop e cs ≡ Some (inside, rest) →
    cs ≡ inside ++ stop ∷ rest
body_parts stop [] e inside rest h = absurd (cc)
body_parts stop (c ∷ cs) e inside rest h =
    cut_parts stop c cs inside rest (not e && (c == stop)) (body stop (not e && (c == 92)) cs) (stops stop c e)
    (λ a d q. body_parts stop cs (not e && (c == 92)) a d q) h

-- whether a letter is the first half of an escape
abbrev pub half : scanner.Letter → Bool
half backslash = true
half (stands_for d) = false

pub no_member : (special : List ℕ) (stop c : ℕ) → is_one_of special stop ≡ true → is_one_of special c ≡ false → (c == stop) ≡ false
no_member special stop c h k = go (c == stop) refl
  where
    go : (b : Bool) → (c == stop) ≡ b → b ≡ false
    go false e = refl
    go true e =
        let p : c ≡ stop = same_number c stop e in
        let q : is_one_of special stop ≡ false = subst (λ (z : ℕ). is_one_of special z ≡ false) p k in cc

facts_escaped : (r : Option ℕ) (l : scanner.Letter) → option_map stands_for r ≡ Some l → false ≡ half l
facts_escaped None l h = absurd (cc)
facts_escaped (Some x) l h = ap half (same_Some (stands_for x) l h)

facts_bare : (special : List ℕ) (stop c : ℕ) (b r : Bool) (l : scanner.Letter) → is_one_of special stop ≡ true → (92 == stop) ≡ false →
    (c == 92) ≡ b → is_one_of (10 ∷ special) c ≡ r →
    cond b (Some backslash) (cond r None (Some (stands_for c))) ≡ Some l → ((c == stop) ≡ false) × ((c == 92) ≡ half l)
facts_bare special stop c true r l h n e f g =
    let p : c ≡ 92 = same_number c 92 e in
    (subst (λ (z : ℕ). (z == stop) ≡ false) (sym p) n, e ∙ ap half (same_Some backslash l g))
facts_bare special stop c false true l h n e f g = absurd (cc)
facts_bare special stop c false false l h n e f g =
    (no_member special stop c h (rest_false (10 == c) (is_one_of special c) f), e ∙ ap half (same_Some (stands_for c) l g))

-- a letter doesn't close its token, and says whether the next one is escaped
pub letter_facts : (special : List ℕ) (stop : ℕ) (e : Bool) (c : ℕ) (l : scanner.Letter) → is_one_of special stop ≡ true →
    (92 == stop) ≡ false → letter special e c ≡ Some l → ((not e && (c == stop)) ≡ false) × ((not e && (c == 92)) ≡ half l)
letter_facts special stop true c l h n k = (refl, facts_escaped (escape special c) l k)
letter_facts special stop false c l h n k = facts_bare special stop c (c == 92) (is_one_of (10 ∷ special) c) l h n refl refl k

text_body_behind : (e : Bool) (c : ℕ) (cs rest text : List ℕ) (l : Option scanner.Letter) → letter literal_signs e c ≡ l →
    ((f : Bool) (t : List ℕ) → text_of f cs ≡ Some t → rest_body 34 f cs rest) → text_behind l (λ e. text_of e cs) ≡ Some text →
    rest_body 34 e (c ∷ cs) rest
text_body_behind e c cs rest text None k ih h = absurd (cc)
text_body_behind e c cs rest text (Some backslash) k ih h =
    let f = letter_facts literal_signs 34 e c backslash refl refl k in body_more 34 e true c cs rest f.0 f.1 (ih true text h)
text_body_behind e c cs rest text (Some (stands_for d)) k ih h =
    let f = letter_facts literal_signs 34 e c (stands_for d) refl refl k in
    let p = behind_put (text_of false cs) h in body_more 34 e false c cs rest f.0 f.1 (ih false p.0 p.1)
  where
    behind_put : (r : Option (List ℕ)) → option_map (λ t. d ∷ t) r ≡ Some text → (t : List ℕ) × (r ≡ Some t)
    behind_put None q = absurd (cc)
    behind_put (Some t) q = (t, refl)

pub text_body : (cs : List ℕ) (e : Bool) (text rest : List ℕ) → text_of e cs ≡ Some text → rest_body 34 e cs rest
text_body [] true text rest h = absurd (cc)
text_body [] false text rest h = body_ends 34 rest
text_body (c ∷ cs) e text rest h =
    text_body_behind e c cs rest text (letter literal_signs e c) refl (λ f t q. text_body cs f t rest q) h
