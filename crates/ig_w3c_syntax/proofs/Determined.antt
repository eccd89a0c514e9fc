-- What stands first in a text is determined by the text.
use Rattle.std.proofs.Common.{append_assoc, append-nil, ◌*◌, ◌≡◌, ◌∙◌, ℕ, suc, ◌+◌, ◌<◌, ◌≤◌, ◌⊎◌, inl, inr, List, [], ◌∷◌, ◌++◌, Bool, true, false, cond, not, ◌&&◌, ◌==◌, Option, Some, None, length, drop, refl, sym, ap, subst, arith, length-append}
use Rattle.std.proofs.lemmas.Bool.Decides.{nat_tests}
use Rattle.std.proofs.lemmas.Bool.{and_parts}
use Rattle.ig_notation_syntax.specs.Spelling.{is_one_of, begins, blanks}
use Rattle.ig_w3c_syntax.specs.Spelling.{IsSeparator, blank, comment, behind_comment, AreSeparators, no_separator, next_separator, IsPart, alone, range, AreParts, no_part, next_part, element, joins, run, past, is_hexadecimal, hexadecimal, digit_value, is_character, character_of, begins_code, code, bare}
use Rattle.ig_w3c_syntax.specs.Steps.{NoSeparator}
use Rattle.ig_w3c_syntax.proofs.Firsts.{one_separator, separator_begins, of_separators}

-- separators
past_from : {text b : List ℕ} → AreSeparators text b → NoSeparator text → text ≡ b
past_from (no_separator text) n = refl
past_from (next_separator text more rest s r) n = absurd (n more s)

past_behind : {text b : List ℕ} → AreSeparators text b → (more : List ℕ) → IsSeparator text more → NoSeparator b → AreSeparators more b
past_behind (no_separator text) more s n = absurd (n more s)
past_behind (next_separator text other rest o r) more s n = subst (λ z. AreSeparators z rest) (one_separator o more s) r

pub past_single : {text a : List ℕ} → AreSeparators text a → (b : List ℕ) → AreSeparators text b → NoSeparator a → NoSeparator b → a ≡ b
past_single (no_separator text) b s n m = past_from s n
past_single (next_separator text more rest s r) b t n m = past_single r b (past_behind t more s m) n m

pub colon_free : (rest : List ℕ) → NoSeparator (58 ∷ rest)
colon_free rest more s =
    let b = separator_begins s in
    let e : b.first ≡ 58 = let p = b.parts in cc in
    let f : is_one_of of_separators 58 ≡ true = subst (λ z. is_one_of of_separators z ≡ true) e b.fits in absurd (cc)

rest_shorter : (c : ℕ) (cs rest : List ℕ) (b : Bool) → cond b (Some (drop 1 cs)) (behind_comment cs) ≡ Some rest →
    (behind_comment cs ≡ Some rest → length rest ≤ length cs) → length rest ≤ suc (length cs)
rest_shorter c [] rest true e h = let p : [] ≡ rest = cc in subst (λ z. length z ≤ 1) p (omega arith)
rest_shorter c (d ∷ ds) rest true e h = let p : ds ≡ rest = cc in subst (λ z. length z ≤ suc (suc (length ds))) p (omega arith)
rest_shorter c cs rest false e h = let l = h e in omega arith

pub comment_shorter : (cs rest : List ℕ) → behind_comment cs ≡ Some rest → length rest ≤ length cs
comment_shorter [] rest e = absurd (cc)
comment_shorter (c ∷ cs) rest e = rest_shorter c cs rest _ e (comment_shorter cs rest)

pub separator_shorter : {text rest : List ℕ} → IsSeparator text rest → length rest < length text
separator_shorter (blank c rest h) = omega arith
separator_shorter (comment inside rest h) = let l = comment_shorter inside rest h in omega arith

pub separators_within : {text rest : List ℕ} → AreSeparators text rest → length rest ≤ length text
separators_within (no_separator text) = omega arith
separators_within (next_separator text more rest s r) = let l = separator_shorter s in let m = separators_within r in omega arith

-- sets
pub closing_none : (rest : List ℕ) → element (93 ∷ rest) ≡ None
closing_none [] = refl
closing_none (c ∷ cs) = refl

-- the parts of a pair that is there
abbrev number_of : Option (ℕ × List ℕ) → ℕ
number_of None = 0
number_of (Some p) = p.0

abbrev rest_of : Option (ℕ × List ℕ) → List ℕ
rest_of None = []
rest_of (Some p) = p.1

pub some_pair : (r : Option (ℕ × List ℕ)) (a b : ℕ) (m n : List ℕ) → r ≡ Some (a, m) → r ≡ Some (b, n) → (a ≡ b) × (m ≡ n)
some_pair r a b m n e f = (ap number_of (sym e ∙ f), ap rest_of (sym e ∙ f))

pub none_some : (r : Option (ℕ × List ℕ)) (a : ℕ) (m : List ℕ) → r ≡ None → r ≡ Some (a, m) → ⊥
none_some r a m e f = cc

part_alone : {text n : List ℕ} {q : ℕ × ℕ} → IsPart text q n → (a : ℕ) (m : List ℕ) → element text ≡ Some (a, m) → joins m ≡ false → (q ≡ (a, a)) × (n ≡ m)
part_alone (alone text rest b e j) a m f k = let p = some_pair (element text) b a rest m e f in (ap (λ z. (z, z)) p.0, p.1)
part_alone (range text more rest b c e j g l) a m f k =
    let p = some_pair (element text) b a more m e f in let x : true ≡ false = sym j ∙ ap joins p.1 ∙ k in absurd (cc)

part_range : {text n : List ℕ} {q : ℕ × ℕ} → IsPart text q n → (a b : ℕ) (m r : List ℕ) → element text ≡ Some (a, m) → joins m ≡ true →
    element (drop 1 m) ≡ Some (b, r) → (q ≡ (a, b)) × (n ≡ r)
part_range (alone text rest c e j) a b m r f k g =
    let p = some_pair (element text) c a rest m e f in let x : false ≡ true = sym j ∙ ap joins p.1 ∙ k in absurd (cc)
part_range (range text more rest c d e j h l) a b m r f k g =
    let p = some_pair (element text) c a more m e f in
    let q = some_pair (element (drop 1 more)) d b rest r h (ap (λ z. element (drop 1 z)) p.1 ∙ g) in (rw (p.0, q.0) refl, q.1)

pub part_single : {text m : List ℕ} {p : ℕ × ℕ} → IsPart text p m → (q : ℕ × ℕ) (n : List ℕ) → IsPart text q n → (q ≡ p) × (n ≡ m)
part_single (alone text rest a e j) q n s = part_alone s a rest e j
part_single (range text more rest a b e j g l) q n s = part_range s a b more rest e j g

no_part_closes : {text n : List ℕ} {q : ℕ × ℕ} → IsPart text q n → (rest : List ℕ) → text ≡ 93 ∷ rest → ⊥
no_part_closes (alone text r a e j) rest p = none_some (element text) a r (ap element p ∙ closing_none rest) e
no_part_closes (range text more r a b e j g l) rest p = none_some (element text) a more (ap element p ∙ closing_none rest) e

pub part_closes : (rest n : List ℕ) (q : ℕ × ℕ) → IsPart (93 ∷ rest) q n → ⊥
part_closes rest n q s = no_part_closes s rest refl

-- parts behind a first one, and none
pub parts_behind : {text n : List ℕ} {qs : List (ℕ × ℕ)} → AreParts text qs n → (p : ℕ × ℕ) (m : List ℕ) → IsPart text p m →
    (others : List (ℕ × ℕ)) × (qs ≡ p ∷ others) × AreParts m others n
parts_behind (no_part rest) p m s = absurd (part_closes rest m p s)
parts_behind (next_part text more rest q qs t r) p m s =
    let e = part_single s q more t in (qs, ap (λ z. z ∷ qs) e.0, subst (λ z. AreParts z qs rest) e.1 r)

pub parts_closed : {text n : List ℕ} {qs : List (ℕ × ℕ)} → AreParts text qs n → (rest : List ℕ) → text ≡ 93 ∷ rest → (qs ≡ []) × (n ≡ rest)
parts_closed (no_part r) rest e = (refl, cc)
parts_closed (next_part text more r q qs t s) rest e = absurd (no_part_closes t rest e)

pub parts_single : {text m : List ℕ} {ps : List (ℕ × ℕ)} → AreParts text ps m → (qs : List (ℕ × ℕ)) (n : List ℕ) → AreParts text qs n → (qs ≡ ps) × (n ≡ m)
parts_single (no_part rest) qs n t = parts_closed t rest refl
parts_single (next_part text more rest p ps s r) qs n t =
    let b = parts_behind t p more s in
    let e = parts_single r b.0 n b.2 in (b.1 ∙ ap (λ z. p ∷ z) e.0, e.1)

-- a part takes characters
past_within : (p : ℕ → Bool) (cs : List ℕ) → length (past p cs) ≤ length cs
past_within p [] = omega arith
past_within p (c ∷ cs) =
    elim (p c) as (λ v. length (cond v (past p cs) (c ∷ cs)) ≤ suc (length cs)) [
      | true ↦ omega (arith, past_within p cs)
      | false ↦ omega arith
    ]

chosen_rest : (b : Bool) (n c : ℕ) (m rest : List ℕ) → cond {A = Option (ℕ × List ℕ)} b (Some (n, m)) None ≡ Some (c, rest) → m ≡ rest
chosen_rest true n c m rest e = ap rest_of e
chosen_rest false n c m rest e = absurd (cc)

pub chosen_code : (b : Bool) (n c : ℕ) (m rest : List ℕ) → cond b (character_of n m) None ≡ Some (c, rest) → m ≡ rest
chosen_code true n c m rest e = chosen_rest (is_character n) n c m rest e
chosen_code false n c m rest e = absurd (cc)

pub code_shorter : (text rest : List ℕ) (c : ℕ) → code text ≡ Some (c, rest) → length rest < length text
code_shorter [] rest c e = absurd (cc)
code_shorter (a ∷ []) rest c e = absurd (cc)
code_shorter (a ∷ b ∷ cs) rest c e =
    let p : past is_hexadecimal cs ≡ rest = chosen_code (begins_code (a ∷ b ∷ cs)) (hexadecimal 0 (run is_hexadecimal cs)) c (past is_hexadecimal cs) rest e in
    let l : length (past is_hexadecimal cs) ≤ length cs = past_within is_hexadecimal cs in
    subst (λ z. length z < suc (suc (length cs))) p (omega arith)

pub bare_rest : (b : Bool) (c d : ℕ) (cs rest : List ℕ) → cond {A = Option (ℕ × List ℕ)} b None (Some (c, cs)) ≡ Some (d, rest) → cs ≡ rest
bare_rest true c d cs rest e = absurd (cc)
bare_rest false c d cs rest e = ap rest_of e

bare_shorter : (text rest : List ℕ) (c : ℕ) → bare text ≡ Some (c, rest) → length rest < length text
bare_shorter [] rest c e = absurd (cc)
bare_shorter (d ∷ ds) rest c e =
    let p : ds ≡ rest = bare_rest (is_one_of (93 ∷ 10 ∷ []) d) d c ds rest e in subst (λ z. length z < suc (length ds)) p (omega arith)

either_shorter : (b : Bool) (text rest : List ℕ) (c : ℕ) → cond b (code text) (bare text) ≡ Some (c, rest) → length rest < length text
either_shorter true text rest c e = code_shorter text rest c e
either_shorter false text rest c e = bare_shorter text rest c e

pub element_shorter : (text rest : List ℕ) (c : ℕ) → element text ≡ Some (c, rest) → length rest < length text
element_shorter text rest c e = either_shorter (begins_code text) text rest c e

drop_within : (cs : List ℕ) → length (drop 1 cs) ≤ length cs
drop_within [] = omega arith
drop_within (c ∷ cs) = omega arith

pub part_shorter : {text rest : List ℕ} {p : ℕ × ℕ} → IsPart text p rest → length rest < length text
part_shorter (alone text rest a e j) = element_shorter text rest a e
part_shorter (range text more rest a b e j g l) =
    let x = element_shorter text more a e in
    let y = element_shorter (drop 1 more) rest b g in
    let z = drop_within more in omega arith

-- separators so far
pub record LeadsTo (text rest : List ℕ) : Type 0 where
  pub behind : (a : List ℕ) → AreSeparators rest a → AreSeparators text a

pub leads_here : (text : List ℕ) → LeadsTo text text
leads_here text = record { behind = λ a s. s }

pub leads_on : (text rest more : List ℕ) → LeadsTo text rest → IsSeparator rest more → LeadsTo text more
leads_on text rest more l s = record { behind = λ a t. l.behind a (next_separator rest more a s t) }

pub no_head : (text gap : List ℕ) → AreSeparators text gap → NoSeparator gap → ((more : List ℕ) → gap ≡ 58 ∷ 58 ∷ 61 ∷ more → ⊥) →
    (more : List ℕ) → AreSeparators text (58 ∷ 58 ∷ 61 ∷ more) → ⊥
no_head text gap s n f more t = f more (past_single s (58 ∷ 58 ∷ 61 ∷ more) t n (colon_free (58 ∷ 61 ∷ more)))

-- comments
comment_by_test : (c : ℕ) (ds : List ℕ) (b : Bool) → ((c == 42) && begins (λ d. d == 47) ds) ≡ b → ((more : List ℕ) → c ∷ ds ≡ 42 ∷ 47 ∷ more → ⊥) → b ≡ false
comment_by_test c ds false e n = refl
comment_by_test c [] true e n = let x = (and_parts (c == 42) false e).1 in absurd (cc)
comment_by_test c (d ∷ ds) true e n =
    let p = and_parts (c == 42) (d == 47) e in
    let x : c ≡ 42 = let q = p.0 in grind (arith, nat_tests) in
    let y : d ≡ 47 = let q = p.1 in grind (arith, nat_tests) in absurd (n ds (rw (x, y) refl))

pub comment_goes_on : (cs ds : List ℕ) (c : ℕ) → cs ≡ c ∷ ds → ((more : List ℕ) → cs ≡ 42 ∷ 47 ∷ more → ⊥) → behind_comment ds ≡ behind_comment cs
comment_goes_on cs ds c e n =
    let f : ((c == 42) && begins (λ d. d == 47) ds) ≡ false = comment_by_test c ds _ refl (λ more p. n more (e ∙ p)) in
    rw e (rw f refl)

pub comment_ends : (cs more : List ℕ) → cs ≡ 42 ∷ 47 ∷ more → behind_comment cs ≡ Some more
comment_ends cs more e = rw e refl

pub comment_never : (cs : List ℕ) → cs ≡ [] → behind_comment cs ≡ None
comment_never cs e = rw e refl

-- the parts of a set so far
pub record PartsSoFar (text rest : List ℕ) (parts : List (ℕ × ℕ)) : Type 0 where
  pub forth : (ps : List (ℕ × ℕ)) (more : List ℕ) → AreParts rest ps more → AreParts text (parts ++ ps) more
  pub back : (qs : List (ℕ × ℕ)) (more : List ℕ) → AreParts text qs more → (ps : List (ℕ × ℕ)) × AreParts rest ps more

pub no_parts_yet : (text : List ℕ) (parts : List (ℕ × ℕ)) → parts ≡ [] → PartsSoFar text text parts
no_parts_yet text parts e = record { forth = λ ps more a. subst (λ z. AreParts text (z ++ ps) more) (sym e) a; back = λ qs more a. (qs, a) }

pub one_part_more : (text rest after : List ℕ) (old new : List (ℕ × ℕ)) (p : ℕ × ℕ) → PartsSoFar text rest old → IsPart rest p after →
    new ≡ old ++ p ∷ [] → PartsSoFar text after new
one_part_more text rest after old new p s h e = record {
  forth = λ ps more a.
      subst (λ z. AreParts text z more) (sym (append_assoc old (p ∷ []) ps) ∙ ap (λ z. z ++ ps) (sym e)) (s.forth (p ∷ ps) more (next_part rest after more p ps h a));
  back = λ qs more a. let b = s.back qs more a in let c = parts_behind b.1 p after h in (c.0, c.2);
}

pub all_parts : (text rest after : List ℕ) (parts : List (ℕ × ℕ)) → PartsSoFar text rest parts → rest ≡ 93 ∷ after → AreParts text parts after
all_parts text rest after parts s e =
    subst (λ z. AreParts text z after) (append-nil parts) (s.forth [] after (subst (λ z. AreParts z [] after) (sym e) (no_part after)))

neither : {rest more : List ℕ} {ps : List (ℕ × ℕ)} → AreParts rest ps more → ((p : ℕ × ℕ) (after : List ℕ) → IsPart rest p after → ⊥) →
    ((after : List ℕ) → rest ≡ 93 ∷ after → ⊥) → ⊥
neither (no_part rest) n m = m rest refl
neither (next_part text more rest p ps s a) n m = n p more s

pub never_parts : (text rest : List ℕ) (parts : List (ℕ × ℕ)) → PartsSoFar text rest parts → ((p : ℕ × ℕ) (after : List ℕ) → IsPart rest p after → ⊥) →
    ((after : List ℕ) → rest ≡ 93 ∷ after → ⊥) → (qs : List (ℕ × ℕ)) (more : List ℕ) → AreParts text qs more → ⊥
never_parts text rest parts s n m qs more a = let b = s.back qs more a in neither b.1 n m

-- hexadecimal numbers grow
pub grows : (n : ℕ) (cs : List ℕ) → n ≤ hexadecimal n cs
grows n [] = omega arith
grows n (c ∷ cs) = let g = grows (16 * n + digit_value c) cs in omega arith

pub too_large : (n m : ℕ) (cs ds : List ℕ) (c : ℕ) → cs ≡ c ∷ ds → 1114111 < 16 * n + digit_value c → hexadecimal n cs ≡ m → 1114111 < m
too_large n m cs ds c e l h =
    let g = grows (16 * n + digit_value c) ds in
    let k : hexadecimal (16 * n + digit_value c) ds ≡ m = ap (hexadecimal n) (sym e) ∙ h in omega arith

pub next_number : (n k : ℕ) (cs ds : List ℕ) (c : ℕ) → cs ≡ c ∷ ds → k ≡ 16 * n + digit_value c → hexadecimal k ds ≡ hexadecimal n cs
next_number n k cs ds c e h = rw (e, h) refl

pub last_number : (n : ℕ) (cs : List ℕ) → cs ≡ [] → n ≡ hexadecimal n cs
last_number n cs e = rw e refl

-- the front of a text that isn't its rest
pub record Front (text rest : List ℕ) : Type 0 where
  pub front : List ℕ
  pub parts : text ≡ front ++ rest
  pub some : 0 < length front

pub shorter_rest : (text rest : List ℕ) → Front text rest → length rest < length text
shorter_rest text rest f =
    let l = f.some in rw (f.parts, length-append) (omega arith)

-- no separator, and no part of a set
no_rest : (r : Option (List ℕ)) (m : List ℕ) → r ≡ None → r ≡ Some m → ⊥
no_rest r m e f = cc

separator_never : {text more : List ℕ} → IsSeparator text more → (c : ℕ) (cs inside : List ℕ) → text ≡ c ∷ cs → is_one_of blanks c ≡ false →
    text ≡ 47 ∷ 42 ∷ inside → behind_comment inside ≡ None → ⊥
separator_never (blank d rest h) c cs inside e b f g =
    let x : d ≡ c = cc in let y : is_one_of blanks c ≡ true = subst (λ z. is_one_of blanks z ≡ true) x h in let z : true ≡ false = sym y ∙ b in cc
separator_never (comment other rest h) c cs inside e b f g =
    let x : other ≡ inside = cc in no_rest (behind_comment inside) rest g (subst (λ z. behind_comment z ≡ Some rest) x h)

pub no_comment : (text cs inside : List ℕ) (c : ℕ) → text ≡ c ∷ cs → is_one_of blanks c ≡ false → text ≡ 47 ∷ 42 ∷ inside → behind_comment inside ≡ None →
    NoSeparator text
no_comment text cs inside c e b f g more s = separator_never s c cs inside e b f g

separator_unbegun : {text more : List ℕ} → IsSeparator text more → (c : ℕ) (cs : List ℕ) → text ≡ c ∷ cs → is_one_of blanks c ≡ false →
    ((inside : List ℕ) → text ≡ 47 ∷ 42 ∷ inside → ⊥) → ⊥
separator_unbegun (blank d rest h) c cs e b n =
    let x : d ≡ c = cc in let y : is_one_of blanks c ≡ true = subst (λ z. is_one_of blanks z ≡ true) x h in let z : true ≡ false = sym y ∙ b in cc
separator_unbegun (comment other rest h) c cs e b n = n other refl

pub no_slash : (text cs : List ℕ) (c : ℕ) → text ≡ c ∷ cs → is_one_of blanks c ≡ false → ((inside : List ℕ) → text ≡ 47 ∷ 42 ∷ inside → ⊥) → NoSeparator text
no_slash text cs c e b n more s = separator_unbegun s c cs e b n

part_unended : {text n : List ℕ} {q : ℕ × ℕ} → IsPart text q n → (a : ℕ) (m : List ℕ) → element text ≡ Some (a, m) → joins m ≡ true → element (drop 1 m) ≡ None → ⊥
part_unended (alone text rest b e j) a m f k g =
    let p = some_pair (element text) b a rest m e f in let x : false ≡ true = sym j ∙ ap joins p.1 ∙ k in cc
part_unended (range text more rest b c e j h l) a m f k g =
    let p = some_pair (element text) b a more m e f in
    none_some (element (drop 1 more)) c rest (ap (λ z. element (drop 1 z)) p.1 ∙ g) h

pub no_end : (text more behind : List ℕ) (a : ℕ) → element text ≡ Some (a, more) → joins more ≡ true → behind ≡ drop 1 more → element behind ≡ None →
    (p : ℕ × ℕ) (n : List ℕ) → IsPart text p n → ⊥
no_end text more behind a e j d g p n s = part_unended s a more e j (ap element (sym d) ∙ g)

part_falling : {text n : List ℕ} {q : ℕ × ℕ} → IsPart text q n → (a b : ℕ) (m r : List ℕ) → element text ≡ Some (a, m) → joins m ≡ true →
    element (drop 1 m) ≡ Some (b, r) → b < a → ⊥
part_falling (alone text rest c e j) a b m r f k g l =
    let p = some_pair (element text) c a rest m e f in let x : false ≡ true = sym j ∙ ap joins p.1 ∙ k in cc
part_falling (range text more rest c d e j h o) a b m r f k g l =
    let p = some_pair (element text) c a more m e f in
    let q = some_pair (element (drop 1 more)) d b rest r h (ap (λ z. element (drop 1 z)) p.1 ∙ g) in
    let x = p.0 in let y = q.0 in omega arith

pub falls : (text more behind rest : List ℕ) (a b : ℕ) → element text ≡ Some (a, more) → joins more ≡ true → behind ≡ drop 1 more →
    element behind ≡ Some (b, rest) → b < a → (p : ℕ × ℕ) (n : List ℕ) → IsPart text p n → ⊥
falls text more behind rest a b e j d g l p n s = part_falling s a b more rest e j (ap element (sym d) ∙ g) l

pub rises : (text more behind rest : List ℕ) (a b : ℕ) → element text ≡ Some (a, more) → joins more ≡ true → behind ≡ drop 1 more →
    element behind ≡ Some (b, rest) → a ≤ b → IsPart text (a, b) rest
rises text more behind rest a b e j d g l = range text more rest a b e j (ap element (sym d) ∙ g) l

-- the end of a head
pub same_behind : (text a b : List ℕ) (c : ℕ) → text ≡ c ∷ a → text ≡ c ∷ b → a ≡ b
same_behind text a b c e f = cc

pub whole_head : (text gap second third rest : List ℕ) → AreSeparators text gap → gap ≡ 58 ∷ second → second ≡ 58 ∷ third → third ≡ 61 ∷ rest →
    AreSeparators text (58 ∷ 58 ∷ 61 ∷ rest)
whole_head text gap second third rest s e f g = subst (AreSeparators text) (e ∙ ap (λ z. 58 ∷ z) (f ∙ ap (λ z. 58 ∷ z) g)) s
