-- What is found first is the longest token there.
use Rattle.std.proofs.Common.{◌≡◌, ◌≢◌, ◌∙◌, ℕ, suc, ◌<◌, ◌≤◌, ◌⊎◌, inl, inr, List, [], ◌∷◌, ◌++◌, Bool, true, false, cond, not, ◌&&◌, ◌==◌, Option, Some, None, length, refl, sym, ap, subst, arith}
use Rattle.std.specs.Map.{lookup}
use Rattle.std.specs.List.{list_all, All}
use Rattle.std.proofs.lemmas.Bool.Decides.{nat_tests}
use Rattle.std.proofs.lemmas.List.Elements.{All-nil, All-cons}
use Rattle.unicode_ident.specs.Ident.{is_xid_start, is_xid_continue}
use Rattle.ig_text.specs.Ranges.{normal_form, NoneFalls}
use Rattle.ig_text.specs.declared.class.Class.{Class}
use Rattle.ig_text.specs.declared.class.Class.TheVariants.{Ranges}
use Rattle.ig_grammar.specs.Name.{is_name, is_identifier, is_keyword}
use Rattle.ig_notation_syntax.specs.Spelling.{is_one_of, begins}
use Rattle.ig_w3c_syntax.specs.Token as token
use Rattle.ig_w3c_syntax.specs.Token.{Token}
use Rattle.ig_notation_syntax.specs.Texts.{IsLongest, IsBroken}
use Rattle.ig_w3c_syntax.specs.Spelling as spelling
use Rattle.ig_w3c_syntax.specs.Spelling.{IsSeparator, AreSeparators, StandsFirst, AreParts, no_part, next_part, IsPart, alone, range, quotes, signs, code, is_inside, run, past}
use Rattle.std.specs.Prelude.{Result, Ok, Err, IfOk, MatchOption, chars}
use Rattle.ig_w3c_syntax.specs.Steps.{NoSeparator, NoHead, BeginsWord, BeginsHash, NoClass, HasClass, NoSet, HasSet}
use Rattle.ig_w3c_syntax.specs.TokenLaws.{EndsThere, StandingTokensAreLongest}
use Rattle.ig_w3c_syntax.proofs.Firsts.{name_first, sign_begins, hash_is_first}
use Rattle.ig_w3c_syntax.proofs.Reading.{run_past}
use Rattle.ig_w3c_syntax.proofs.Runs.{front_is, name_all, run_identifier, all_run, past_begins}
use Rattle.ig_w3c_syntax.proofs.Determined.{past_single, colon_free, separators_within, parts_single, some_pair, none_some}
use Rattle.ig_w3c_syntax.proofs.Found.{Kind, letter, quote, hash, bracket, other, kind, letter_kind, hash_kind, other_kind, quote_is, hash_is, bracket_is, Found, found_kind, IsWord, a_name, a_head, IsString, is_string, IsSet, plain, negated}

-- nothing stands first in a text that begins with c
broken_by : (text cs : List ℕ) (c : ℕ) (k : Kind) → text ≡ c ∷ cs → kind c ≡ k → NoSeparator text →
    ((t : Token) (rest : List ℕ) → Found k c cs t rest → ⊥) → IsBroken StandsFirst IsSeparator text
broken_by text cs c k e h n f = record {
  no_end = λ p. let x : [] ≡ c ∷ cs = sym p ∙ e in absurd (cc);
  no_separator = n;
  no_token = λ t rest s. f t rest (found_kind s c cs k e h);
}

longest_by : (text cs rest : List ℕ) (c : ℕ) (k : Kind) (t : Token) → text ≡ c ∷ cs → kind c ≡ k → StandsFirst text t rest →
    ((u : Token) (more : List ℕ) → Found k c cs u more → (length rest < length more) ⊎ ((u ≡ t) × (more ≡ rest))) →
    IsLongest StandsFirst text t rest
longest_by text cs rest c k t e h s f = record { stands = s; longest = λ u more r. f u more (found_kind r c cs k e h) }

-- words
word_kind : (text : List ℕ) (w : BeginsWord text) → kind w.first ≡ letter
word_kind text w = rw w.letter refl

abbrev IsHere : List ℕ → Token → List ℕ → Type 0
IsHere text t more = (is_name (run is_xid_continue text) ≡ true) ×
    (((t ≡ token.Name (run is_xid_continue text)) × (more ≡ past is_xid_continue text)) ⊎
    ((t ≡ token.Head (run is_xid_continue text)) × AreSeparators (past is_xid_continue text) (58 ∷ 58 ∷ 61 ∷ more)))

word_here : {text more : List ℕ} {t : Token} → IsWord text t more → IsHere text t more
word_here {text} (a_name cs rest n b e) =
    let f = front_is is_xid_continue text cs rest e (name_all cs n) b in
    (subst (λ z. is_name z ≡ true) f.0 n, inl (ap token.Name f.0, f.1))
word_here {text} (a_head cs behind rest n b e s) =
    let f = front_is is_xid_continue text cs behind e (name_all cs n) b in
    (subst (λ z. is_name z ≡ true) f.0 n, inr (ap token.Head f.0, subst (λ z. AreSeparators z (58 ∷ 58 ∷ 61 ∷ rest)) f.1 s))

run_name : (text : List ℕ) (w : BeginsWord text) → is_keyword (run is_xid_continue text) ≡ false → is_name (run is_xid_continue text) ≡ true
run_name text w h =
    let i : is_identifier (run is_xid_continue text) ≡ true =
    ap (λ z. is_identifier (run is_xid_continue z)) w.parts ∙ run_identifier w.first w.others w.letter in
    rw (i, h) refl

keyword_broken : (text : List ℕ) → is_keyword (run is_xid_continue text) ≡ true → is_name (run is_xid_continue text) ≡ true → ⊥
keyword_broken text h n =
    go (is_identifier (run is_xid_continue text)) (is_keyword (run is_xid_continue text)) n h
  where
    go : (a b : Bool) → (a && not b) ≡ true → b ≡ true → ⊥
    go true true e f = cc
    go true false e f = cc
    go false true e f = cc
    go false false e f = cc

pub word_broken : (text front : List ℕ) → BeginsWord text → front ≡ run is_xid_continue text → is_keyword front ≡ true → IsBroken StandsFirst IsSeparator text
word_broken text front w e h =
    let k : is_keyword (run is_xid_continue text) ≡ true = subst (λ z. is_keyword z ≡ true) e h in
    broken_by text w.others w.first letter w.parts (word_kind text w) w.no_separator
    (λ t rest f. keyword_broken text k (word_here (subst (λ z. IsWord z t rest) (sym w.parts) f)).0)

name_or_longer : (text rest : List ℕ) (u : Token) (more : List ℕ) → NoHead (past is_xid_continue text) → rest ≡ past is_xid_continue text →
    ((u ≡ token.Name (run is_xid_continue text)) × (more ≡ past is_xid_continue text)) ⊎
    ((u ≡ token.Head (run is_xid_continue text)) × AreSeparators (past is_xid_continue text) (58 ∷ 58 ∷ 61 ∷ more)) →
    (length rest < length more) ⊎ ((u ≡ token.Name (run is_xid_continue text)) × (more ≡ rest))
name_or_longer text rest u more n e (inl a) = inr (a.0, a.1 ∙ sym e)
name_or_longer text rest u more n e (inr b) = absurd (n more b.1)

pub name_longest : (text front rest : List ℕ) → BeginsWord text → front ≡ run is_xid_continue text → rest ≡ past is_xid_continue text → is_keyword front ≡ false →
    NoHead rest → IsLongest StandsFirst text (token.Name front) rest
name_longest text front rest w e f h n =
    let i = run_name text w (subst (λ z. is_keyword z ≡ false) e h) in
    let b : begins is_xid_continue rest ≡ false = subst (λ z. begins is_xid_continue z ≡ false) (sym f) (past_begins is_xid_continue text) in
    let p : text ≡ front ++ rest = sym (run_past is_xid_continue text) ∙ ap (λ z. z ++ past is_xid_continue text) (sym e) ∙ ap (λ z. front ++ z) (sym f) in
    longest_by text w.others rest w.first letter (token.Name front) w.parts (word_kind text w)
    (spelling.name text front rest (subst (λ z. is_name z ≡ true) (sym e) i) b p)
    (λ u more g. subst (λ z. (length rest < length more) ⊎ ((u ≡ token.Name z) × (more ≡ rest))) (sym e)
    (name_or_longer text rest u more (subst NoHead f n) f (word_here (subst (λ z. IsWord z u more) (sym w.parts) g)).1))

head_or_longer : (text rest : List ℕ) (u : Token) (more : List ℕ) → AreSeparators (past is_xid_continue text) (58 ∷ 58 ∷ 61 ∷ rest) →
    ((u ≡ token.Name (run is_xid_continue text)) × (more ≡ past is_xid_continue text)) ⊎
    ((u ≡ token.Head (run is_xid_continue text)) × AreSeparators (past is_xid_continue text) (58 ∷ 58 ∷ 61 ∷ more)) →
    (length rest < length more) ⊎ ((u ≡ token.Head (run is_xid_continue text)) × (more ≡ rest))
head_or_longer text rest u more s (inl a) =
    let l : suc (suc (suc (length rest))) ≤ length (past is_xid_continue text) = separators_within s in
    let m : length more ≡ length (past is_xid_continue text) = ap length a.1 in inl (omega arith)
head_or_longer text rest u more s (inr b) =
    let x : 58 ∷ 58 ∷ 61 ∷ more ≡ 58 ∷ 58 ∷ 61 ∷ rest = past_single b.1 (58 ∷ 58 ∷ 61 ∷ rest) s (colon_free (58 ∷ 61 ∷ more)) (colon_free (58 ∷ 61 ∷ rest)) in
    inr (b.0, cc)

pub head_longest : (text front behind rest : List ℕ) → BeginsWord text → front ≡ run is_xid_continue text → behind ≡ past is_xid_continue text →
    is_keyword front ≡ false → AreSeparators behind (58 ∷ 58 ∷ 61 ∷ rest) → IsLongest StandsFirst text (token.Head front) rest
head_longest text front behind rest w e f h s =
    let i = run_name text w (subst (λ z. is_keyword z ≡ false) e h) in
    let b : begins is_xid_continue behind ≡ false = subst (λ z. begins is_xid_continue z ≡ false) (sym f) (past_begins is_xid_continue text) in
    let p : text ≡ front ++ behind = sym (run_past is_xid_continue text) ∙ ap (λ z. z ++ past is_xid_continue text) (sym e) ∙ ap (λ z. front ++ z) (sym f) in
    longest_by text w.others rest w.first letter (token.Head front) w.parts (word_kind text w)
    (spelling.head text front behind rest (subst (λ z. is_name z ≡ true) (sym e) i) b p s)
    (λ u more g. subst (λ z. (length rest < length more) ⊎ ((u ≡ token.Head z) × (more ≡ rest))) (sym e)
    (head_or_longer text rest u more (subst (λ z. AreSeparators z (58 ∷ 58 ∷ 61 ∷ rest)) f s)
    (word_here (subst (λ z. IsWord z u more) (sym w.parts) g)).1))

-- strings
pub record Quoted (text : List ℕ) (q : ℕ) (after : List ℕ) : Type 0 where
  pub parts : text ≡ q ∷ after
  pub quote : is_one_of quotes q ≡ true
  pub no_separator : NoSeparator text

string_here : {inside more : List ℕ} {q : ℕ} {t : Token} → IsString q inside t more →
    (t ≡ token.Text (run (is_inside q) inside)) × (past (is_inside q) inside ≡ q ∷ more) × (run (is_inside q) inside ≢ [])
string_here {inside} {more} {q} (is_string d ds rest all e) =
    let stop : begins (is_inside q) (q ∷ rest) ≡ false = let x : (q == q) ≡ true = grind (arith, nat_tests) in rw x refl in
    let f = front_is (is_inside q) inside (d ∷ ds) (q ∷ rest) e all stop in
    (ap token.Text f.0, sym f.1, λ p. let x : d ∷ ds ≡ [] = f.0 ∙ p in absurd (cc))

quote_kind : (text after : List ℕ) (q : ℕ) → Quoted text q after → kind q ≡ quote
quote_kind text after q w = quote_is q w.quote

pub string_broken : (text after front : List ℕ) (q : ℕ) → Quoted text q after → front ≡ run (is_inside q) after → front ≡ [] → IsBroken StandsFirst IsSeparator text
string_broken text after front q w e n =
    broken_by text after q quote w.parts (quote_kind text after q w) w.no_separator (λ t rest f. (string_here f).2 (sym e ∙ n))

pub string_open : (text after rest : List ℕ) (q : ℕ) → Quoted text q after → rest ≡ past (is_inside q) after → ((more : List ℕ) → rest ≡ q ∷ more → ⊥) →
    IsBroken StandsFirst IsSeparator text
string_open text after rest q w e n =
    broken_by text after q quote w.parts (quote_kind text after q w) w.no_separator (λ t more f. n more (e ∙ (string_here f).1))

stands_string : (text after front rest : List ℕ) (q : ℕ) → Quoted text q after → front ≢ [] → list_all (is_inside q) front ≡ true →
    after ≡ front ++ q ∷ rest → StandsFirst text (token.Text front) rest
stands_string text after [] rest q w n all e = absurd (n refl)
stands_string text after (d ∷ ds) rest q w n all e =
    subst (λ z. StandsFirst z (token.Text (d ∷ ds)) rest) (sym w.parts) (spelling.string q d ds after rest w.quote all e)

pub string_longest : (text after front behind rest : List ℕ) (q : ℕ) → Quoted text q after → front ≡ run (is_inside q) after →
    behind ≡ past (is_inside q) after → front ≢ [] → behind ≡ q ∷ rest → IsLongest StandsFirst text (token.Text front) rest
string_longest text after front behind rest q w e f n h =
    let p : after ≡ front ++ q ∷ rest =
    sym (run_past (is_inside q) after) ∙ ap (λ z. z ++ past (is_inside q) after) (sym e) ∙ ap (λ z. front ++ z) (sym f ∙ h) in
    let all : list_all (is_inside q) front ≡ true = subst (λ z. list_all (is_inside q) z ≡ true) (sym e) (all_run (is_inside q) after) in
    longest_by text after rest q quote (token.Text front) w.parts (quote_kind text after q w) (stands_string text after front rest q w n all p)
    (λ u more g.
    let s = string_here g in
    let x : q ∷ more ≡ q ∷ rest = sym s.1 ∙ sym f ∙ h in inr (s.0 ∙ ap token.Text (sym e), cc))

-- codes
pub code_broken : (text : List ℕ) → BeginsHash text → code text ≡ None → IsBroken StandsFirst IsSeparator text
code_broken text w e =
    broken_by text w.after 35 hash w.parts hash_is w.no_separator
    (λ t rest f. none_some (code text) f.0 rest e (ap code w.parts ∙ f.2))

pub code_longest : (text rest : List ℕ) (c : ℕ) → BeginsHash text → code text ≡ Some (c, rest) → IsLongest StandsFirst text (token.Code c) rest
code_longest text rest c w e =
    longest_by text w.after rest 35 hash (token.Code c) w.parts hash_is (spelling.character text rest c e)
    (λ u more f.
    let x = some_pair (code text) f.0 c more rest (ap code w.parts ∙ f.2) e in inr (f.1 ∙ ap token.Code x.0, x.1))

-- sets
set_plain : {inside more : List ℕ} {u : Token} → IsSet inside u more → (p : ℕ × ℕ) (ps : List (ℕ × ℕ)) (rest : List ℕ) →
    begins (λ c. c == 94) inside ≡ false → AreParts inside (p ∷ ps) rest → (u ≡ token.OneOf (Ranges false (normal_form (p ∷ ps)))) × (more ≡ rest)
set_plain (plain q qs more b a) p ps rest c d =
    let e = parts_single d (q ∷ qs) more a in (ap (λ z. token.OneOf (Ranges false (normal_form z))) e.0, e.1)
set_plain (negated inside q qs more e a) p ps rest c d =
    let x : true ≡ false = ap (begins (λ c. c == 94)) (sym e) ∙ c in absurd (cc)

set_negated : {inside more : List ℕ} {u : Token} → IsSet inside u more → (within : List ℕ) (p : ℕ × ℕ) (ps : List (ℕ × ℕ)) (rest : List ℕ) →
    inside ≡ 94 ∷ within → AreParts within (p ∷ ps) rest → (u ≡ token.OneOf (Ranges true (normal_form (p ∷ ps)))) × (more ≡ rest)
set_negated (plain q qs more b a) within p ps rest c d =
    let x : true ≡ false = ap (begins (λ c. c == 94)) (sym c) ∙ b in absurd (cc)
set_negated (negated besides q qs more e a) within p ps rest c d =
    let x : besides ≡ within = cc in
    let f = parts_single d (q ∷ qs) more (subst (λ z. AreParts z (q ∷ qs) more) x a) in
    (ap (λ z. token.OneOf (Ranges true (normal_form z))) f.0, f.1)

pub set_single : {inside rest : List ℕ} {t : Token} → IsSet inside t rest → (u : Token) (more : List ℕ) → IsSet inside u more → (u ≡ t) × (more ≡ rest)
set_single (plain p ps rest b a) u more s = set_plain s p ps rest b a
set_single (negated within p ps rest e a) u more s = set_negated s within p ps rest e a

pub set_longest : (text inside rest : List ℕ) (t : Token) → text ≡ 91 ∷ inside → StandsFirst (91 ∷ inside) t rest → IsLongest StandsFirst text t rest
set_longest text inside rest t e s =
    let a = found_kind s 91 inside bracket refl bracket_is in
    longest_by text inside rest 91 bracket t e bracket_is (subst (λ z. StandsFirst z t rest) (sym e) s)
    (λ u more f. inr (set_single a u more f))

set_token : {inside rest : List ℕ} {t : Token} → IsSet inside t rest → (c : Class) × StandsFirst (91 ∷ inside) (token.OneOf c) rest
set_token {inside} (plain p ps rest b a) = (Ranges false (normal_form (p ∷ ps)), spelling.set inside rest p ps b a)
set_token (negated more p ps rest e a) = (
  Ranges true (normal_form (p ∷ ps)),
  subst (λ z. StandsFirst (91 ∷ z) (token.OneOf (Ranges true (normal_form (p ∷ ps)))) rest) (sym e) (spelling.other_set more rest p ps a),
)

pub set_broken : (text inside : List ℕ) → text ≡ 91 ∷ inside → NoSeparator text → ((c : Class) (more : List ℕ) → StandsFirst (91 ∷ inside) (token.OneOf c) more → ⊥) →
    IsBroken StandsFirst IsSeparator text
set_broken text inside e n f =
    broken_by text inside 91 bracket e bracket_is n (λ t rest g. let s = set_token g in f s.0 rest s.1)

-- signs
pub sign_broken : (text after : List ℕ) (c : ℕ) → text ≡ c ∷ after → NoSeparator text → kind c ≡ other → lookup (λ d. d == c) signs ≡ None →
    IsBroken StandsFirst IsSeparator text
sign_broken text after c e n k h = broken_by text after c other e k n (λ t rest f. let x : None ≡ Some t = sym h ∙ f.0 in cc)

same_sign : (t u : Token) → Some t ≡ Some u → u ≡ t
same_sign t u e = cc

pub sign_longest : (text after : List ℕ) (c : ℕ) (t : Token) → text ≡ c ∷ after → kind c ≡ other → lookup (λ d. d == c) signs ≡ Some t →
    IsLongest StandsFirst text t after
sign_longest text after c t e k h =
    longest_by text after after c other t e k (subst (λ z. StandsFirst z t after) (sym e) (spelling.sign c t after h))
    (λ u more f. inr (same_sign t u (sym h ∙ f.0), f.1))

-- whatever stands first is the longest token there, unless it is the name of a head
standing_name : (text cs rest : List ℕ) → is_name cs ≡ true → begins is_xid_continue rest ≡ false → text ≡ cs ++ rest → NoHead rest →
    IsLongest StandsFirst text (token.Name cs) rest
standing_name text [] rest n b e h = absurd (cc)
standing_name text (c ∷ ds) rest n b e h =
    let f = front_is is_xid_continue text (c ∷ ds) rest e (name_all (c ∷ ds) n) b in
    longest_by text (ds ++ rest) rest c letter (token.Name (c ∷ ds)) e (sym (letter_kind c (name_first c (ds ++ rest) (c ∷ ds) rest n refl)))
    (spelling.name text (c ∷ ds) rest n b e)
    (λ u more g. subst (λ z. (length rest < length more) ⊎ ((u ≡ token.Name z) × (more ≡ rest))) (sym f.0)
    (name_or_longer text rest u more (subst NoHead f.1 h) f.1 (word_here (subst (λ z. IsWord z u more) (sym e) g)).1))

standing_head : (text cs behind rest : List ℕ) → is_name cs ≡ true → begins is_xid_continue behind ≡ false → text ≡ cs ++ behind →
    AreSeparators behind (58 ∷ 58 ∷ 61 ∷ rest) → IsLongest StandsFirst text (token.Head cs) rest
standing_head text [] behind rest n b e s = absurd (cc)
standing_head text (c ∷ ds) behind rest n b e s =
    let f = front_is is_xid_continue text (c ∷ ds) behind e (name_all (c ∷ ds) n) b in
    longest_by text (ds ++ behind) rest c letter (token.Head (c ∷ ds)) e (sym (letter_kind c (name_first c (ds ++ behind) (c ∷ ds) behind n refl)))
    (spelling.head text (c ∷ ds) behind rest n b e s)
    (λ u more g. subst (λ z. (length rest < length more) ⊎ ((u ≡ token.Head z) × (more ≡ rest))) (sym f.0)
    (head_or_longer text rest u more (subst (λ z. AreSeparators z (58 ∷ 58 ∷ 61 ∷ rest)) f.1 s)
    (word_here (subst (λ z. IsWord z u more) (sym e) g)).1))

standing_string : (q c : ℕ) (cs inside rest : List ℕ) → is_one_of quotes q ≡ true → list_all (is_inside q) (c ∷ cs) ≡ true →
    inside ≡ (c ∷ cs) ++ q ∷ rest → IsLongest StandsFirst (q ∷ inside) (token.Text (c ∷ cs)) rest
standing_string q c cs inside rest k all e =
    let a = string_here (is_string c cs rest all e) in
    longest_by (q ∷ inside) inside rest q quote (token.Text (c ∷ cs)) refl (quote_is q k) (spelling.string q c cs inside rest k all e)
    (λ u more g.
    let b = string_here g in
    let x : q ∷ more ≡ q ∷ rest = sym b.1 ∙ a.1 in inr (b.0 ∙ sym a.0, cc))

standing_code : (text rest : List ℕ) (c : ℕ) → code text ≡ Some (c, rest) → IsLongest StandsFirst text (token.Code c) rest
standing_code [] rest c h = absurd (cc)
standing_code (d ∷ ds) rest c h =
    longest_by (d ∷ ds) ds rest d hash (token.Code c) refl (sym (hash_kind d (hash_is_first d ds rest c h))) (spelling.character (d ∷ ds) rest c h)
    (λ u more f. let x = some_pair (code (d ∷ ds)) f.0 c more rest f.2 h in inr (f.1 ∙ ap token.Code x.0, x.1))

standing : {text rest : List ℕ} {t : Token} → StandsFirst text t rest → EndsThere t rest → IsLongest StandsFirst text t rest
standing (spelling.name text cs rest n b e) m = standing_name text cs rest n b e m
standing (spelling.head text cs behind rest n b e s) m = standing_head text cs behind rest n b e s
standing (spelling.string q c cs inside rest k all e) m = standing_string q c cs inside rest k all e
standing (spelling.character text rest c h) m = standing_code text rest c h
standing (spelling.set inside rest p ps b a) m = set_longest (91 ∷ inside) inside rest _ refl (spelling.set inside rest p ps b a)
standing (spelling.other_set inside rest p ps a) m = set_longest (91 ∷ 94 ∷ inside) (94 ∷ inside) rest _ refl (spelling.other_set inside rest p ps a)
standing (spelling.sign c t rest h) m = sign_longest (c ∷ rest) rest c t refl (sym (other_kind c (sign_begins c t h))) h

pub standing_tokens_are_longest : StandingTokensAreLongest
standing_tokens_are_longest text rest t s m = standing s m

-- no range of a set falls
part_rises : {text rest : List ℕ} {p : ℕ × ℕ} → IsPart text p rest → p.0 ≤ p.1
part_rises (alone text rest a e j) = omega arith
part_rises (range text more rest a b e j g l) = l

pub parts_rise : {text rest : List ℕ} {ps : List (ℕ × ℕ)} → AreParts text ps rest → NoneFalls ps
parts_rise (no_part rest) = All-nil (λ r. r.0 ≤ r.1)
parts_rise (next_part text more rest p ps s a) = All-cons (λ r. r.0 ≤ r.1) p ps (part_rises s) (parts_rise a)

-- classes and sets
pub mapped : {A E : Type 0} (r : Result (Option A) E) (N M : Type 0) (P Q : A → Type 0) → (N → M) → ((a : A) → P a → Q a) →
    IfOk r (λ o. MatchOption o N P) → IfOk r (λ o. MatchOption o M Q)
mapped (Ok None) N M P Q f g h = f h
mapped (Ok (Some a)) N M P Q f g h = g a h
mapped (Err e) N M P Q f g h = tt

pub not_first : (text : List ℕ) → ((more : List ℕ) → text ≡ 94 ∷ more → ⊥) → begins (λ c. c == 94) text ≡ false
not_first [] n = refl
not_first (c ∷ cs) n = go (c == 94) refl
  where
    go : (b : Bool) → (c == 94) ≡ b → (c == 94) ≡ false
    go false e = e
    go true e = let x : c ≡ 94 = grind (arith, nat_tests) in absurd (n cs (ap (λ z. z ∷ cs) x))

plain_never : {inside rest : List ℕ} {t : Token} → IsSet inside t rest → begins (λ c. c == 94) inside ≡ false → NoClass inside → ⊥
plain_never (plain p ps rest b a) e n = n p ps rest a
plain_never (negated more p ps rest f a) e n = let x : true ≡ false = ap (begins (λ c. c == 94)) (sym f) ∙ e in cc

negated_never : {inside rest : List ℕ} {t : Token} → IsSet inside t rest → (within : List ℕ) → inside ≡ 94 ∷ within → NoClass within → ⊥
negated_never (plain p ps rest b a) within e n = let x : true ≡ false = ap (begins (λ c. c == 94)) (sym e) ∙ b in cc
negated_never (negated more p ps rest f a) within e n =
    let x : more ≡ within = cc in n p ps rest (subst (λ z. AreParts z (p ∷ ps) rest) x a)

pub no_plain_set : (text : List ℕ) → ((more : List ℕ) → text ≡ 94 ∷ more → ⊥) → NoClass text → NoSet text
no_plain_set text n f class more s = plain_never (found_kind s 91 text bracket refl bracket_is) (not_first text n) f

pub no_negated_set : (text inside : List ℕ) → text ≡ 94 ∷ inside → NoClass inside → NoSet text
no_negated_set text inside e f class more s = negated_never (found_kind s 91 text bracket refl bracket_is) inside e f

pub plain_set : (text rest : List ℕ) (c : Class) → ((more : List ℕ) → text ≡ 94 ∷ more → ⊥) → HasClass false text c rest → HasSet text c rest
plain_set text rest c n h = (
  h.whole,
  subst (λ z. StandsFirst (91 ∷ text) (token.OneOf z) (chars rest)) (sym h.class_is)
      (spelling.set text (chars rest) h.first h.others (not_first text n) h.parts),
)

pub negated_set : (text inside rest : List ℕ) (c : Class) → text ≡ 94 ∷ inside → HasClass true inside c rest → HasSet text c rest
negated_set text inside rest c e h = (
  h.whole,
  subst (λ z. StandsFirst (91 ∷ z) (token.OneOf c) (chars rest)) (sym e)
      (subst (λ z. StandsFirst (91 ∷ 94 ∷ inside) (token.OneOf z) (chars rest)) (sym h.class_is)
      (spelling.other_set inside (chars rest) h.first h.others h.parts)),
)

pub no_class : (inside rest : List ℕ) (qs : List (ℕ × ℕ)) → AreParts inside qs rest → qs ≡ [] → NoClass inside
no_class inside rest qs a e p ps more b =
    let f = parts_single a (p ∷ ps) more b in let x : p ∷ ps ≡ [] = f.0 ∙ e in absurd (cc)
