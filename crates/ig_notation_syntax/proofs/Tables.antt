-- Tables of words.
use Rattle.std.proofs.Common.{◌≡◌, ◌∙◌, ℕ, List, [], ◌∷◌, Bool, true, false, cond, ◌&&◌, ◌==◌, Option, Some, None, option_map, map, length, chars, IsUtf8, refl, sym, ap, subst, arith}
use Rattle.std.proofs.lemmas.Bool.{and_parts}
use Rattle.std.proofs.lemmas.Slice.Eq.{bytes_eq-Decides}
use Rattle.std.proofs.lemmas.Bool.Decides.{nat_tests}
use Rattle.ig_text.specs.Words.{is_word}
use Rattle.ig_text.proofs.Characters.{ascii, word_of_chars}
use Rattle.ig_notation_syntax.specs.Token as token
use Rattle.std.specs.Map.{lookup}
use Rattle.unicode_ident.specs.Ident.{is_xid_continue}
use Rattle.ig_text.specs.declared.class.Class.{Class}
use Rattle.ig_notation_syntax.specs.Spelling.{entry, keywords, named_classes, signs}
use Rattle.ig_notation_syntax.specs.Scanner as scanner
use Rattle.ig_notation_syntax.specs.Scanner.{run, past, named_class, named_token, sign_token}
use Rattle.ig_notation_syntax.specs.Steps.{single_sign, single_signs, exclamation, with_equals}

abbrev pub all_ascii : {A : Type 0} → List (List ℕ × A) → Bool
all_ascii [] = true
all_ascii (row ∷ rows) = ascii row.0 && all_ascii rows

pub entry_of_chars : {A : Type 0} (table : List (List ℕ × A)) (text : List ℕ) → all_ascii table ≡ true → IsUtf8 text →
    entry table text ≡ entry table (chars text)
entry_of_chars [] text a u = refl
entry_of_chars (row ∷ rows) text a u =
    let p = and_parts (ascii row.0) (all_ascii rows) a in
    rw (word_of_chars row.0 text p.0 u, entry_of_chars rows text p.1 u) refl

-- the rows whose words have n characters
abbrev pub of_length : {A : Type 0} → ℕ → List (List ℕ × A) → List (List ℕ × A)
of_length n [] = []
of_length n (row ∷ rows) = cond (length row.0 == n) (row ∷ of_length n rows) (of_length n rows)

other_length : (w text : List ℕ) (n : ℕ) → (length w == n) ≡ false → length text ≡ n → is_word w text ≡ false
other_length w text n e l = go (is_word w text) refl
  where
    go : (b : Bool) → is_word w text ≡ b → b ≡ false
    go false h = refl
    go true h =
        let p : w ≡ text = (bytes_eq-Decides w text).0 h in
        let q : length w ≡ n = ap length p ∙ l in grind (arith, nat_tests)

one_row : {A : Type 0} (n : ℕ) (row : List ℕ × A) (rows : List (List ℕ × A)) (text : List ℕ) (b : Bool) → length text ≡ n →
    (length row.0 == n) ≡ b → entry (of_length n rows) text ≡ entry rows text →
    entry (cond b (row ∷ of_length n rows) (of_length n rows)) text ≡ entry (row ∷ rows) text
one_row n row rows text true l e rest = ap (cond (is_word row.0 text) (Some row.1)) rest
one_row n row rows text false l e rest = let o = other_length row.0 text n e l in rw o rest

pub entry_by_length : {A : Type 0} (n : ℕ) (table : List (List ℕ × A)) (text : List ℕ) → length text ≡ n →
    entry (of_length n table) text ≡ entry table text
entry_by_length n [] text l = refl
entry_by_length n (row ∷ rows) text l = one_row n row rows text (length row.0 == n) l refl (entry_by_length n rows text l)

abbrev pub none_of_length : {A : Type 0} → ℕ → List (List ℕ × A) → Type 0
none_of_length n [] = Unit {0}
none_of_length n (row ∷ rows) = (length row.0 ≡ n → ⊥) × none_of_length n rows

no_row : {A : Type 0} (w text : List ℕ) (x : A) (r : Option A) (b : Bool) → (length w ≡ length text → ⊥) → is_word w text ≡ b → r ≡ None →
    cond b (Some x) r ≡ None
no_row w text x r true h e k = absurd (h (ap length ((bytes_eq-Decides w text).0 e)))
no_row w text x r false h e k = k

pub entry_none : {A : Type 0} (table : List (List ℕ × A)) (text : List ℕ) → none_of_length (length text) table → entry table text ≡ None
entry_none [] text h = refl
entry_none (row ∷ rows) text h = no_row row.0 text row.1 (entry rows text) (is_word row.0 text) h.0 refl (entry_none rows text h.1)

one_mapped : {A B : Type 0} (f : A → B) (x : A) (r : Option A) (s : Option B) (b : Bool) → option_map f r ≡ s →
    option_map f (cond b (Some x) r) ≡ cond b (Some (f x)) s
one_mapped f x r s true e = refl
one_mapped f x r s false e = e

pub entry_mapped : {A B : Type 0} (f : A → B) (table : List (List ℕ × A)) (text : List ℕ) →
    option_map f (entry table text) ≡ entry (map (λ row. (row.0, f row.1)) table) text
entry_mapped f [] text = refl
entry_mapped f (row ∷ rows) text =
    one_mapped f row.1 (entry rows text) (entry (map (λ row. (row.0, f row.1)) rows) text) (is_word row.0 text)
    (entry_mapped f rows text)

pub keyword_none : (text : List ℕ) → (length text ≡ 2 → ⊥) → (length text ≡ 3 → ⊥) → (length text ≡ 4 → ⊥) →
    (length text ≡ 5 → ⊥) → (length text ≡ 6 → ⊥) → (length text ≡ 7 → ⊥) → (length text ≡ 8 → ⊥) → IsUtf8 text →
    None ≡ entry keywords (chars text)
unfolding keywords
keyword_none text two three four five six seven eight u =
    sym (entry_none keywords text (λ e. five (sym e), (λ e. six (sym e), (λ e. seven (sym e), (λ e. six (sym e), (λ e. four (sym e), (λ e. five (sym e), (λ e. eight (sym e), (λ e. seven (sym e), (λ e. six (sym e), (λ e. five (sym e), (λ e. four (sym e), (λ e. three (sym e), (λ e. four (sym e), (λ e. four (sym e), (λ e. five (sym e), (λ e. three (sym e), (λ e. two (sym e), (λ e. three (sym e), (λ e. three (sym e), (λ e. three (sym e), (λ e. three (sym e), (λ e. four (sym e), (λ e. four (sym e), (λ e. four (sym e), (λ e. six (sym e), tt)))))))))))))))))))))))))) ∙ entry_of_chars keywords text refl u

pub keyword_of_length : (n : ℕ) (table : List (List ℕ × token.Token)) (text : List ℕ) (r : Option token.Token) → table ≡ of_length n keywords →
    length text ≡ n → IsUtf8 text → r ≡ entry table text → r ≡ entry keywords (chars text)
unfolding keywords
keyword_of_length n table text r e l u h =
    h ∙ ap (λ (z : List (List ℕ × token.Token)). entry z text) e ∙ entry_by_length n keywords text l ∙
    entry_of_chars keywords text refl u

pub class_named_is : (table : List (List ℕ × token.Token)) (text : List ℕ) (r : Option token.Token) →
    table ≡ map (λ row. (row.0, token.OneOf row.1)) named_classes → IsUtf8 text → r ≡ entry table text →
    r ≡ option_map token.OneOf (entry named_classes (chars text))
unfolding named_classes
class_named_is table text r e u h =
    h ∙ ap (λ (z : List (List ℕ × token.Token)). entry z text) e ∙ sym (entry_mapped token.OneOf named_classes text) ∙
    ap (option_map token.OneOf) (entry_of_chars named_classes text refl u)

pub named_is : (r : Option Class) (t : token.Token) (rest : List ℕ) → Some t ≡ option_map token.OneOf r →
    named_token r rest ≡ scanner.token t rest
named_is None t rest e = cc
named_is (Some class) t rest e = let p : t ≡ token.OneOf class = cc in rw p refl

pub named_class_is : (cs front rest : List ℕ) (t : token.Token) → front ≡ run is_xid_continue cs → rest ≡ past is_xid_continue cs →
    Some t ≡ option_map token.OneOf (entry named_classes front) → named_class cs ≡ scanner.token t rest
named_class_is cs front rest t e f h =
    rw (← e, ← f) (named_is (entry named_classes front) t rest h)

-- signs of one character
abbrev Each : (ℕ → token.Token → Type 0) → List (ℕ × token.Token) → Type 0
Each P [] = Unit {0}
Each P (row ∷ rows) = P row.0 row.1 × Each P rows

found : (P : ℕ → token.Token → Type 0) (rows : List (ℕ × token.Token)) (c : ℕ) (t : token.Token) → Each P rows →
    lookup (λ d. d == c) rows ≡ Some t → P c t
found P [] c t a e = cc
found P (row ∷ rows) c t a e = go (row.0 == c) refl (found P rows c t a.1)
  where
    go : (b : Bool) → (row.0 == c) ≡ b → (lookup (λ d. d == c) rows ≡ Some t → P c t) → P c t
    go true h rest =
        let q : cond (row.0 == c) (Some row.1) (lookup (λ d. d == c) rows) ≡ Some row.1 = rw h refl in
        let s : row.1 ≡ t = let v : Some row.1 ≡ Some t = sym q ∙ e in cc in
        let k : row.0 ≡ c = grind (arith, nat_tests) in
        subst (λ (z : ℕ). P z t) k (subst (λ (z : token.Token). P row.0 z) s a.0)
    go false h rest =
        let q : cond (row.0 == c) (Some row.1) (lookup (λ d. d == c) rows) ≡ lookup (λ d. d == c) rows = rw h refl in
        rest (sym q ∙ e)

abbrev Reads : ℕ → token.Token → Type 0
Reads c t = (cs : List ℕ) → sign_token (c ∷ cs) ≡ scanner.token t cs

alone : (c : ℕ) (t : token.Token) → entry signs (c ∷ []) ≡ Some t → ((x : ℕ) → entry signs (c ∷ x ∷ []) ≡ None) →
    ((x y : ℕ) → entry signs (c ∷ x ∷ y ∷ []) ≡ None) → Reads c t
alone c t a b d [] = rw a refl
alone c t a b d (x ∷ []) = rw (b x, a) refl
alone c t a b d (x ∷ y ∷ cs) = rw (d x y, b x, a) refl

all_read : Each Reads single_signs
unfolding single_signs signs
all_read = (alone 59 token.Semicolon refl (λ x. refl) (λ x y. refl), (alone 124 token.Bar refl (λ x. refl) (λ x y. refl), (alone 58 token.Colon refl (λ x. refl) (λ x y. refl), (alone 44 token.Comma refl (λ x. refl) (λ x y. refl), (alone 40 token.Open refl (λ x. refl) (λ x y. refl), (alone 41 token.Close refl (λ x. refl) (λ x y. refl), (alone 123 token.OpenBrace refl (λ x. refl) (λ x y. refl), (alone 125 token.CloseBrace refl (λ x. refl) (λ x y. refl), (alone 63 token.Question refl (λ x. refl) (λ x y. refl), (alone 42 token.Star refl (λ x. refl) (λ x y. refl), (alone 43 token.Plus refl (λ x. refl) (λ x y. refl), (alone 45 token.Minus refl (λ x. refl) (λ x y. refl), (alone 92 token.Backslash refl (λ x. refl) (λ x y. refl), tt)))))))))))))

pub single_reads : (c : ℕ) (t : token.Token) (cs : List ℕ) → Some t ≡ single_sign c → sign_token (c ∷ cs) ≡ scanner.token t cs
single_reads c t cs e = found Reads single_signs c t all_read (sym e) cs

-- signs that begin with `!`
pub exclamation_reads : (cs : List ℕ) → sign_token (33 ∷ cs) ≡ exclamation cs
unfolding signs
exclamation_reads [] = refl
exclamation_reads (x ∷ []) = grind (arith, nat_tests)
exclamation_reads (x ∷ y ∷ cs) = grind (arith, nat_tests)

-- signs that are longer where `=` stands behind them
pub equals_reads : (cs : List ℕ) → sign_token (61 ∷ cs) ≡ with_equals token.Equals token.EqualTo cs
unfolding signs
equals_reads [] = refl
equals_reads (x ∷ []) = grind (arith, nat_tests)
equals_reads (x ∷ y ∷ cs) = grind (arith, nat_tests)

pub greater_reads : (cs : List ℕ) → sign_token (62 ∷ cs) ≡ with_equals token.Greater token.AtLeast cs
unfolding signs
greater_reads [] = refl
greater_reads (x ∷ []) = grind (arith, nat_tests)
greater_reads (x ∷ y ∷ cs) = grind (arith, nat_tests)

pub less_reads : (cs : List ℕ) → sign_token (60 ∷ cs) ≡ with_equals token.Less token.AtMost cs
unfolding signs
less_reads [] = refl
less_reads (x ∷ []) = grind (arith, nat_tests)
less_reads (x ∷ y ∷ cs) = grind (arith, nat_tests)
