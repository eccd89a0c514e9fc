-- Names, by the keywords of the table and by the characters of a word.
use Rattle.std.proofs.Common.{◌≡◌, ◌∙◌, ℕ, List, [], ◌∷◌, Bool, true, false, cond, not, ◌&&◌, ◌||◌, Option, Some, None, refl, sym, ap, subst}
use Rattle.std.specs.Prelude.{map}
use Rattle.std.specs.List.{list_all, list_any}
use Rattle.std.proofs.lemmas.Bool.{and_parts, not-true}
use Rattle.std.proofs.lemmas.Bool.Decides.{same_from_decides}
use Rattle.std.proofs.lemmas.Slice.Eq.{bytes_eq-Decides}
use Rattle.unicode_ident.specs.Ident.{is_xid_start, is_xid_continue}
use Rattle.ig_text.specs.declared.class.Class.TheVariants.{XidContinue}
use Rattle.ig_text.specs.Class.{is_in_class}
use Rattle.ig_text.specs.Words.{is_word}
use Rattle.ig_grammar.specs.Name.{is_name, is_identifier, is_keyword, keywords as words}
use Rattle.ig_notation_syntax.specs.Spelling.{entry, keywords}

-- the words of the table
listed_words : map (λ row. row.0) keywords ≡ words
unfolding keywords
listed_words = refl

-- a word is an XID_Start character and then XID_Continue characters
pub data IsWord : List ℕ → Type 0 where
  word : (c : ℕ) (cs : List ℕ) → is_xid_start c ≡ true → list_all is_xid_continue cs ≡ true → IsWord (c ∷ cs)

goes_on : (cs : List ℕ) → list_all (is_in_class XidContinue) cs ≡ list_all is_xid_continue cs
goes_on [] = refl
goes_on (c ∷ cs) = ap (λ z. is_xid_continue c && z) (goes_on cs)

identifier_word : (cs : List ℕ) → is_identifier cs ≡ true → IsWord cs
identifier_word [] h = absurd (cc)
identifier_word (c ∷ cs) h =
    let parts = and_parts (is_xid_start c) (list_all (is_in_class XidContinue) cs) h in
    word c cs parts.0 (sym (goes_on cs) ∙ parts.1)

word_identifier : {cs : List ℕ} → IsWord cs → is_identifier cs ≡ true
word_identifier (word c cs h k) = rw (h, goes_on cs, k) refl

turned : (w text : List ℕ) → is_word w text ≡ is_word text w
turned w text =
    same_from_decides {P = w ≡ text} (is_word w text) (is_word text w) (bytes_eq-Decides w text) (
      λ e. sym ((bytes_eq-Decides text w).0 e),
      λ e. (bytes_eq-Decides text w).1 (sym e),
    )

-- a word that isn't among the words of a table has no entry there, and the other way about
one_none : {A : Type 0} (text w : List ℕ) (x : A) (rest : Option A) (more b : Bool) → is_word text w ≡ b → (b || more) ≡ false →
    (more ≡ false → rest ≡ None) → cond (is_word w text) (Some x) rest ≡ None
one_none text w x rest more true e h k = absurd (cc)
one_none text w x rest more false e h k = rw (turned w text, e) (k h)

none_listed : {A : Type 0} (rows : List (List ℕ × A)) (text : List ℕ) →
    list_any (is_word text) (map (λ row. row.0) rows) ≡ false → entry rows text ≡ None
none_listed [] text h = refl
none_listed (row ∷ rows) text h =
    one_none text row.0 row.1 (entry rows text) (list_any (is_word text) (map (λ r. r.0) rows)) (is_word text row.0) refl h
    (none_listed rows text)

one_unlisted : {A : Type 0} (text w : List ℕ) (x : A) (rest : Option A) (more b : Bool) → is_word text w ≡ b →
    cond (is_word w text) (Some x) rest ≡ None → (rest ≡ None → more ≡ false) → (b || more) ≡ false
one_unlisted text w x rest more true e h k = let f : cond (is_word w text) (Some x) rest ≡ Some x = rw (turned w text, e) refl in absurd (cc)
one_unlisted text w x rest more false e h k =
    let f : cond (is_word w text) (Some x) rest ≡ rest = rw (turned w text, e) refl in k (sym f ∙ h)

none_unlisted : {A : Type 0} (rows : List (List ℕ × A)) (text : List ℕ) → entry rows text ≡ None →
    list_any (is_word text) (map (λ row. row.0) rows) ≡ false
none_unlisted [] text h = refl
none_unlisted (row ∷ rows) text h =
    one_unlisted text row.0 row.1 (entry rows text) (list_any (is_word text) (map (λ r. r.0) rows)) (is_word text row.0) refl h
    (none_unlisted rows text)

-- what a name is by the table of tokens
pub name_word : (cs : List ℕ) → is_name cs ≡ true → IsWord cs
name_word cs h = identifier_word cs (and_parts (is_identifier cs) (not (is_keyword cs)) h).0

pub name_entry : (cs : List ℕ) → is_name cs ≡ true → entry keywords cs ≡ None
name_entry cs h =
    let free = not-true (is_keyword cs) (and_parts (is_identifier cs) (not (is_keyword cs)) h).1 in
    none_listed keywords cs (subst (λ ws. list_any (is_word cs) ws ≡ false) (sym listed_words) free)

pub named : (cs : List ℕ) → IsWord cs → entry keywords cs ≡ None → is_name cs ≡ true
named cs w h =
    let free : is_keyword cs ≡ false =
    subst (λ ws. list_any (is_word cs) ws ≡ false) listed_words (none_unlisted keywords cs h) in
    rw (word_identifier w, free) refl
