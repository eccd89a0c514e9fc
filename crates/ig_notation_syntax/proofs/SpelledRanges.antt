-- The ranges of classes, by the table and as they are read.
use Rattle.std.proofs.Common.{◌≡◌, ◌∙◌, ℕ, ◌≤◌, List, [], ◌∷◌, ◌++◌, Bool, true, false, cond, not, ◌&&◌, ◌==◌, nat_le, Option, Some, None, option_map, option_and_then, refl, sym, ap, subst, arith}
use Rattle.std.proofs.lemmas.Bool.Decides.{nat_tests}
use Rattle.std.proofs.lemmas.Option.{same_Some}
use Rattle.ig_text.proofs.Numbers.{same_number}
use Rattle.ig_text.proofs.Booleans.{rest_false}
use Rattle.ig_notation_syntax.specs.Spelling.{is_one_of, class_signs, IsLetter, bare, escaped, SpellsRanges, no_range, one_character, two_characters}
use Rattle.ig_notation_syntax.specs.Scanner as scanner
use Rattle.ig_notation_syntax.specs.Scanner.{letter, backslash, stands_for, body, ranges_of, ranges_behind, class_step, dash, character, placed, with_range, between, behind_character, behind_dash}
use Rattle.ig_notation_syntax.proofs.Spelled.{taken, whole, letter_is, half_is, bare_read, escaped_read, rest_body, body_ends, body_more, letter_facts, no_member}

-- what the characters behind a place make of those before it
abbrev pub Standing : scanner.Place → List ℕ → List (ℕ × ℕ) → Type 0
Standing between cs ps = SpellsRanges cs ps
Standing (behind_character a) cs ps = (first : List ℕ) → IsLetter class_signs first a → SpellsRanges (first ++ cs) ps
Standing (behind_dash a) cs ps = (first : List ℕ) → IsLetter class_signs first a → SpellsRanges (first ++ 45 ∷ cs) ps

pub put_none : (r : Option (List (ℕ × ℕ))) (ps : List (ℕ × ℕ)) → option_map (with_range None) r ≡ Some ps → r ≡ Some ps
put_none None ps h = absurd (cc)
put_none (Some qs) ps h = h

pub put_one : (x : ℕ × ℕ) (r : Option (List (ℕ × ℕ))) (ps : List (ℕ × ℕ)) → option_map (with_range (Some x)) r ≡ Some ps →
    (qs : List (ℕ × ℕ)) × (r ≡ Some qs) × (x ∷ qs ≡ ps)
put_one x None ps h = absurd (cc)
put_one x (Some qs) ps h = (qs, refl, same_Some (x ∷ qs) ps h)

pub put_is : (r : Option (List (ℕ × ℕ))) → option_map (with_range None) r ≡ r
put_is None = refl
put_is (Some qs) = refl

abbrev Rest : List ℕ → Type 0
Rest cs = (e : Bool) (p : scanner.Place) (ps : List (ℕ × ℕ)) → ranges_of e p cs ≡ Some ps → Standing p (whole e cs) ps

abbrev Behind : List ℕ → scanner.ClassStep → List (ℕ × ℕ) → Type 0
Behind cs s ps = option_map (with_range s.range) (ranges_of s.is_escaped s.place cs) ≡ Some ps

dash_stands : (cs : List ℕ) (p : scanner.Place) (s : scanner.ClassStep) (ps : List (ℕ × ℕ)) → Rest cs → dash p ≡ Some s →
    Behind cs s ps → Standing p (45 ∷ cs) ps
dash_stands cs between s ps ih e h = absurd (cc)
dash_stands cs (behind_dash a) s ps ih e h = absurd (cc)
dash_stands cs (behind_character a) s ps ih e h =
    let g = subst (λ (z : scanner.ClassStep). Behind cs z ps) (sym (same_Some _ s e)) h in
    ih false (behind_dash a) ps (put_none (ranges_of false (behind_dash a) cs) ps g)

parts : (e : Bool) (c : ℕ) (cs : List ℕ) → whole e (c ∷ cs) ≡ taken e c ++ cs
parts true c cs = refl
parts false c cs = refl

dash_range : (first last more : List ℕ) (a d : ℕ) (ps : List (ℕ × ℕ)) (all : List ℕ) → all ≡ last ++ more → IsLetter class_signs first a →
    IsLetter class_signs last d → a ≤ d → SpellsRanges more ps → SpellsRanges (first ++ 45 ∷ all) ((a, d) ∷ ps)
dash_range first last more a d ps all e k l h s =
    two_characters first last more (first ++ 45 ∷ all) a d ps k l h s (ap (λ (z : List ℕ). first ++ 45 ∷ z) e)

character_stands : (e : Bool) (c d : ℕ) (cs : List ℕ) (p : scanner.Place) (s : scanner.ClassStep) (ps : List (ℕ × ℕ)) → Rest cs →
    IsLetter class_signs (taken e c) d → character p d ≡ Some s → Behind cs s ps → Standing p (whole e (c ∷ cs)) ps
character_stands e c d cs between s ps ih l k h =
    let g = subst (λ (z : scanner.ClassStep). Behind cs z ps) (sym (same_Some _ s k)) h in
    let r = ih false (behind_character d) ps (put_none (ranges_of false (behind_character d) cs) ps g) in
    subst (λ (z : List ℕ). SpellsRanges z ps) (sym (parts e c cs)) (r (taken e c) l)
character_stands e c d cs (behind_character a) s ps ih l k h =
    let g = subst (λ (z : scanner.ClassStep). Behind cs z ps) (sym (same_Some _ s k)) h in
    let q = put_one (a, a) (ranges_of false (behind_character d) cs) ps g in
    let r = ih false (behind_character d) q.0 q.1 in
    λ first m.
    subst (SpellsRanges (first ++ whole e (c ∷ cs))) q.2
    (one_character first (taken e c ++ cs) (first ++ whole e (c ∷ cs)) a q.0 m (r (taken e c) l)
    (ap (λ (z : List ℕ). first ++ z) (parts e c cs)))
character_stands e c d cs (behind_dash a) s ps ih l k h = go (nat_le a d) refl k
  where
    go : (b : Bool) → nat_le a d ≡ b →
        cond b (Some (record { is_escaped = false; place = between; range = Some (a, d) })) None ≡ Some s →
        Standing (behind_dash a) (whole e (c ∷ cs)) ps
    go false n f = absurd (cc)
    go true n f =
        let g = subst (λ (z : scanner.ClassStep). Behind cs z ps) (sym (same_Some _ s f)) h in
        let q = put_one (a, d) (ranges_of false between cs) ps g in
        let r = ih false between q.0 q.1 in
        let o : a ≤ d = grind (arith, nat_tests) in
        λ first m.
        subst (SpellsRanges (first ++ 45 ∷ whole e (c ∷ cs))) q.2
        (dash_range first (taken e c) cs a d q.0 (whole e (c ∷ cs)) (parts e c cs) m l o r)

half_stands : (e : Bool) (c : ℕ) (cs : List ℕ) (p : scanner.Place) (s : scanner.ClassStep) (ps : List (ℕ × ℕ)) → Rest cs →
    letter class_signs e c ≡ Some backslash → placed p backslash ≡ Some s → Behind cs s ps → Standing p (whole e (c ∷ cs)) ps
half_stands e c cs p s ps ih l k h =
    let i = half_is class_signs e c l in
    let g = subst (λ (z : scanner.ClassStep). Behind cs z ps) (sym (same_Some _ s k)) h in
    let r : Standing p (92 ∷ cs) ps = ih true p ps (put_none (ranges_of true p cs) ps g) in
    subst (λ (z : Bool). Standing p (whole z (c ∷ cs)) ps) (sym i.0)
    (subst (λ (z : ℕ). Standing p (z ∷ cs) ps) (sym i.1) r)

letter_stands : (e : Bool) (c : ℕ) (cs : List ℕ) (p : scanner.Place) (l : Option scanner.Letter) (s : scanner.ClassStep) (ps : List (ℕ × ℕ)) →
    Rest cs → letter class_signs e c ≡ l → option_and_then (placed p) l ≡ Some s → Behind cs s ps → Standing p (whole e (c ∷ cs)) ps
letter_stands e c cs p None s ps ih k f h = absurd (cc)
letter_stands e c cs p (Some backslash) s ps ih k f h = half_stands e c cs p s ps ih k f h
letter_stands e c cs p (Some (stands_for d)) s ps ih k f h =
    character_stands e c d cs p s ps ih (letter_is class_signs e c d k) f h

is_dash : (e : Bool) (c : ℕ) → (not e && (c == 45)) ≡ true → (e ≡ false) × (c ≡ 45)
is_dash true c h = absurd (cc)
is_dash false c h = (refl, same_number c 45 h)

step_stands : (e : Bool) (c : ℕ) (cs : List ℕ) (p : scanner.Place) (b : Bool) (s : scanner.ClassStep) (ps : List (ℕ × ℕ)) → Rest cs →
    (not e && (c == 45)) ≡ b → cond b (dash p) (option_and_then (placed p) (letter class_signs e c)) ≡ Some s → Behind cs s ps →
    Standing p (whole e (c ∷ cs)) ps
step_stands e c cs p true s ps ih k f h =
    let i = is_dash e c k in
    subst (λ (z : Bool). Standing p (whole z (c ∷ cs)) ps) (sym i.0)
    (subst (λ (z : ℕ). Standing p (z ∷ cs) ps) (sym i.1) (dash_stands cs p s ps ih f h))
step_stands e c cs p false s ps ih k f h = letter_stands e c cs p (letter class_signs e c) s ps ih refl f h

behind_stands : (e : Bool) (c : ℕ) (cs : List ℕ) (p : scanner.Place) (r : Option scanner.ClassStep) (ps : List (ℕ × ℕ)) → Rest cs →
    class_step e p c ≡ r → ranges_behind r (λ e p. ranges_of e p cs) ≡ Some ps → Standing p (whole e (c ∷ cs)) ps
behind_stands e c cs p None ps ih k h = absurd (cc)
behind_stands e c cs p (Some s) ps ih k h = step_stands e c cs p (not e && (c == 45)) s ps ih refl k h

-- ranges that are read are spelled so
pub ranges_spelled : (cs : List ℕ) (e : Bool) (p : scanner.Place) (ps : List (ℕ × ℕ)) → ranges_of e p cs ≡ Some ps →
    Standing p (whole e cs) ps
ranges_spelled [] true p ps h = absurd (cc)
ranges_spelled [] false between ps h = subst (SpellsRanges []) (same_Some [] ps h) no_range
ranges_spelled [] false (behind_character a) ps h =
    λ first l.
    subst (SpellsRanges (first ++ [])) (same_Some ((a, a) ∷ []) ps h) (one_character first [] (first ++ []) a [] l no_range refl)
ranges_spelled [] false (behind_dash a) ps h = absurd (cc)
ranges_spelled (c ∷ cs) e p ps h =
    behind_stands e c cs p (class_step e p c) ps (λ f q qs. ranges_spelled cs f q qs) refl h

-- a letter of the table is read so
pub character_read : (first : List ℕ) (d : ℕ) (more : List ℕ) (p : scanner.Place) → IsLetter class_signs first d →
    ranges_of false p (first ++ more) ≡ ranges_behind (character p d) (λ e q. ranges_of e q more)
character_read first d more p (bare c k) =
    let n : (d == 45) ≡ false = no_member class_signs 45 d refl (rest_false (10 == d) (is_one_of class_signs d) k) in
    let l = bare_read class_signs d refl k in rw (n, l) refl
character_read first d more p (escaped c x k) =
    let l = escaped_read class_signs c d k in
    let step : ranges_of true p (c ∷ more) ≡ ranges_behind (character p d) (λ e q. ranges_of e q more) = rw l refl in
    put_is (ranges_of true p (c ∷ more)) ∙ step

-- behind a character one range more ends
longer_letter : (a c : ℕ) (cs : List ℕ) (l : Option scanner.Letter) (ps : List (ℕ × ℕ)) →
    ((qs : List (ℕ × ℕ)) → ranges_of true between cs ≡ Some qs → ranges_of true (behind_character a) cs ≡ Some ((a, a) ∷ qs)) →
    ranges_behind (option_and_then (placed between) l) (λ e p. ranges_of e p cs) ≡ Some ps →
    ranges_behind (option_and_then (placed (behind_character a)) l) (λ e p. ranges_of e p cs) ≡ Some ((a, a) ∷ ps)
longer_letter a c cs None ps ih h = absurd (cc)
longer_letter a c cs (Some backslash) ps ih h =
    let q = ih ps (put_none (ranges_of true between cs) ps h) in rw q refl
longer_letter a c cs (Some (stands_for d)) ps ih h =
    let q = put_none (ranges_of false (behind_character d) cs) ps h in rw q refl

longer_step : (a c : ℕ) (cs : List ℕ) (b : Bool) (l : Option scanner.Letter) (ps : List (ℕ × ℕ)) →
    ((qs : List (ℕ × ℕ)) → ranges_of true between cs ≡ Some qs → ranges_of true (behind_character a) cs ≡ Some ((a, a) ∷ qs)) →
    ranges_behind (cond b (dash between) (option_and_then (placed between) l)) (λ e p. ranges_of e p cs) ≡ Some ps →
    ranges_behind (cond b (dash (behind_character a)) (option_and_then (placed (behind_character a)) l)) (λ e p. ranges_of e p cs) ≡
    Some ((a, a) ∷ ps)
longer_step a c cs true l ps ih h = absurd (cc)
longer_step a c cs false l ps ih h = longer_letter a c cs l ps ih h

pub longer : (cs : List ℕ) (e : Bool) (a : ℕ) (ps : List (ℕ × ℕ)) → ranges_of e between cs ≡ Some ps →
    ranges_of e (behind_character a) cs ≡ Some ((a, a) ∷ ps)
longer [] true a ps h = absurd (cc)
longer [] false a ps h = ap (λ (z : List (ℕ × ℕ)). Some ((a, a) ∷ z)) (same_Some [] ps h)
longer (c ∷ cs) e a ps h =
    longer_step a c cs (not e && (c == 45)) (letter class_signs e c) ps (λ qs q. longer cs true a qs q) h

-- ranges of the table are read so
pub ranges_read : {inside : List ℕ} {ps : List (ℕ × ℕ)} → SpellsRanges inside ps → ranges_of false between inside ≡ Some ps
ranges_read no_range = refl
ranges_read (one_character first more inside c ps l s e) =
    let p = ranges_read s in
    ap (ranges_of false between) e ∙ character_read first c more between l ∙ put_is (ranges_of false (behind_character c) more) ∙
    longer more false c ps p
ranges_read (two_characters first last more inside c d ps k l h s e) =
    let p = ranges_read s in
    let o : nat_le c d ≡ true = grind (arith, nat_tests) in
    let last_read : ranges_of false (behind_dash c) (last ++ more) ≡ Some ((c, d) ∷ ps) =
    character_read last d more (behind_dash c) l ∙ rw (o, p) refl in
    ap (ranges_of false between) e ∙ character_read first c (45 ∷ (last ++ more)) between k ∙
    put_is (ranges_of false (behind_character c) (45 ∷ (last ++ more))) ∙
    put_is (ranges_of false (behind_dash c) (last ++ more)) ∙ last_read

-- what is read as ranges ends at its bracket
abbrev RestBody : List ℕ → List ℕ → Type 0
RestBody cs rest = (e : Bool) (p : scanner.Place) (ps : List (ℕ × ℕ)) → ranges_of e p cs ≡ Some ps → rest_body 93 e cs rest

some_rest : (range : Option (ℕ × ℕ)) (r : Option (List (ℕ × ℕ))) (ps : List (ℕ × ℕ)) → option_map (with_range range) r ≡ Some ps →
    (qs : List (ℕ × ℕ)) × (r ≡ Some qs)
some_rest range None ps h = absurd (cc)
some_rest range (Some qs) ps h = (qs, refl)

-- a step that isn't a dash says by its letter whether an escape is open
step_escaped : (p : scanner.Place) (d : ℕ) (s : scanner.ClassStep) → character p d ≡ Some s → s.is_escaped ≡ false
step_escaped between d s e = ap (λ (z : scanner.ClassStep). z.is_escaped) (sym (same_Some _ s e))
step_escaped (behind_character a) d s e = ap (λ (z : scanner.ClassStep). z.is_escaped) (sym (same_Some _ s e))
step_escaped (behind_dash a) d s e = go (nat_le a d) e
  where
    go : (b : Bool) → cond b (Some (record { is_escaped = false; place = between; range = Some (a, d) })) None ≡ Some s →
        s.is_escaped ≡ false
    go true f = ap (λ (z : scanner.ClassStep). z.is_escaped) (sym (same_Some _ s f))
    go false f = absurd (cc)

dash_escaped : (p : scanner.Place) (s : scanner.ClassStep) → dash p ≡ Some s → s.is_escaped ≡ false
dash_escaped between s e = absurd (cc)
dash_escaped (behind_dash a) s e = absurd (cc)
dash_escaped (behind_character a) s e = ap (λ (z : scanner.ClassStep). z.is_escaped) (sym (same_Some _ s e))

letter_body : (e : Bool) (c : ℕ) (cs rest : List ℕ) (p : scanner.Place) (l : Option scanner.Letter) (s : scanner.ClassStep) (ps : List (ℕ × ℕ)) →
    RestBody cs rest → letter class_signs e c ≡ l → option_and_then (placed p) l ≡ Some s → Behind cs s ps →
    rest_body 93 e (c ∷ cs) rest
letter_body e c cs rest p None s ps ih k f h = absurd (cc)
letter_body e c cs rest p (Some backslash) s ps ih k f h =
    let g = subst (λ (z : scanner.ClassStep). Behind cs z ps) (sym (same_Some _ s f)) h in
    let q = some_rest None (ranges_of true p cs) ps g in
    let t = letter_facts class_signs 93 e c backslash refl refl k in body_more 93 e true c cs rest t.0 t.1 (ih true p q.0 q.1)
letter_body e c cs rest p (Some (stands_for d)) s ps ih k f h =
    let q = some_rest s.range (ranges_of s.is_escaped s.place cs) ps h in
    let t = letter_facts class_signs 93 e c (stands_for d) refl refl k in
    let b = ih s.is_escaped s.place q.0 q.1 in
    body_more 93 e false c cs rest t.0 t.1 (subst (λ (z : Bool). rest_body 93 z cs rest) (step_escaped p d s f) b)

step_body : (e : Bool) (c : ℕ) (cs rest : List ℕ) (p : scanner.Place) (b : Bool) (s : scanner.ClassStep) (ps : List (ℕ × ℕ)) →
    RestBody cs rest → (not e && (c == 45)) ≡ b → cond b (dash p) (option_and_then (placed p) (letter class_signs e c)) ≡ Some s →
    Behind cs s ps → rest_body 93 e (c ∷ cs) rest
step_body e c cs rest p true s ps ih k f h =
    let i = is_dash e c k in
    let q = some_rest s.range (ranges_of s.is_escaped s.place cs) ps h in
    let b = subst (λ (z : Bool). rest_body 93 z cs rest) (dash_escaped p s f) (ih s.is_escaped s.place q.0 q.1) in
    subst (λ (z : Bool). rest_body 93 z (c ∷ cs) rest) (sym i.0)
    (subst (λ (z : ℕ). rest_body 93 false (z ∷ cs) rest) (sym i.1) (body_more 93 false false 45 cs rest refl refl b))
step_body e c cs rest p false s ps ih k f h = letter_body e c cs rest p (letter class_signs e c) s ps ih refl f h

behind_body : (e : Bool) (c : ℕ) (cs rest : List ℕ) (p : scanner.Place) (r : Option scanner.ClassStep) (ps : List (ℕ × ℕ)) →
    RestBody cs rest → class_step e p c ≡ r → ranges_behind r (λ e p. ranges_of e p cs) ≡ Some ps → rest_body 93 e (c ∷ cs) rest
behind_body e c cs rest p None ps ih k h = absurd (cc)
behind_body e c cs rest p (Some s) ps ih k h = step_body e c cs rest p (not e && (c == 45)) s ps ih refl k h

pub ranges_body : (cs rest : List ℕ) (e : Bool) (p : scanner.Place) (ps : List (ℕ × ℕ)) → ranges_of e p cs ≡ Some ps →
    rest_body 93 e cs rest
ranges_body [] rest true p ps h = absurd (cc)
ranges_body [] rest false p ps h = body_ends 93 rest
ranges_body (c ∷ cs) rest e p ps h =
    behind_body e c cs rest p (class_step e p c) ps (λ f q qs. ranges_body cs rest f q qs) refl h
