-- A token is the longest where what stands behind it makes none longer.
use Rattle.std.proofs.Common.{◌≡◌, ◌∙◌, ap, refl, sym, subst, ℕ, List, [], ◌∷◌, ◌++◌, Bool, true, false, cond, not, ◌==◌, Option, Some, None, append_assoc, arith}
use Rattle.std.proofs.lemmas.Bool.{and_parts, not-true}
use Rattle.std.proofs.lemmas.Bool.Decides.{nat_tests}
use Rattle.std.proofs.lemmas.Slice.Eq.{bytes_eq-Decides}
use Rattle.unicode_ident.specs.Ident.{is_xid_continue}
use Rattle.ig_text.proofs.Lists.{closed_text}
use Rattle.ig_text.specs.Words.{is_word}
use Rattle.ig_notation_syntax.specs.Token as token
use Rattle.ig_notation_syntax.specs.Token.{Token}
use Rattle.ig_notation_syntax.specs.Spelling.{IsToken, IsLongest, entry, signs, keywords, named_classes, begins, may_precede}
use Rattle.ig_notation_syntax.specs.Spelling as table
use Rattle.ig_notation_syntax.specs.Scanner as scanner
use Rattle.ig_notation_syntax.specs.Scanner.{next, sign_token}
use Rattle.ig_notation_syntax.specs.Steps.{single_signs}
use Rattle.ig_notation_syntax.specs.TokenLaws.{ends, EndedTokensAreLongest}
use Rattle.ig_notation_syntax.proofs.Named.{name_word, name_entry}
use Rattle.ig_notation_syntax.proofs.Entries.{entry_all, sign_text, named_class_precedes}
use Rattle.ig_notation_syntax.proofs.Dispatch.{next_sign}
use Rattle.ig_notation_syntax.proofs.Tables.{single_reads}
use Rattle.ig_notation_syntax.proofs.Complete.{name_read, keyword_read, head_read, number_read, literal_read, class_read, negated_read, named_read}
use Rattle.ig_notation_syntax.proofs.Longest.{is_longest}

-- what holds of each row holds of the one that is found
abbrev Each : {A : Type 0} → (List ℕ → A → Type 0) → List (List ℕ × A) → Type 0
Each P [] = Unit {0}
Each P (row ∷ rows) = P row.0 row.1 × Each P rows

found_row : {A : Type 0} (P : List ℕ → A → Type 0) (w text : List ℕ) (x y : A) (r : Option A) (b : Bool) → is_word w text ≡ b →
    P w x → (r ≡ Some y → P text y) → cond b (Some x) r ≡ Some y → P text y
found_row P w text x y r true e t k h =
    let p : w ≡ text = (bytes_eq-Decides w text).0 e in
    let q : x ≡ y = let s : Some x ≡ Some y = h in cc in
    subst (λ z. P z y) p (subst (P w) q t)
found_row P w text x y r false e t k h = k h

found : {A : Type 0} (P : List ℕ → A → Type 0) (rows : List (List ℕ × A)) (text : List ℕ) (y : A) → Each P rows →
    entry rows text ≡ Some y → P text y
found P [] text y a h = absurd (cc)
found P (row ∷ rows) text y a h =
    found_row P row.0 text row.1 y (entry rows text) (is_word row.0 text) refl a.0 (found P rows text y a.1) h

-- signs
abbrev IsRead : List ℕ → Token → Type 0
IsRead cs t = (rest : List ℕ) → ends t rest ≡ true → sign_token (cs ++ rest) ≡ scanner.token t rest

three : (a b c : ℕ) (t : Token) (s : List ℕ) → entry signs (a ∷ b ∷ c ∷ []) ≡ Some t →
    sign_token (a ∷ b ∷ c ∷ s) ≡ scanner.token t s
three a b c t s h = rw h refl

two : (a b : ℕ) (t : Token) (s : List ℕ) → entry signs (a ∷ b ∷ []) ≡ Some t →
    ((c : ℕ) → entry signs (a ∷ b ∷ c ∷ []) ≡ None) → sign_token (a ∷ b ∷ s) ≡ scanner.token t s
two a b t [] h n = rw h refl
two a b t (c ∷ s) h n = rw (n c, h) refl

-- a sign that `=` makes longer
before_another : (a : ℕ) (t : Token) (s : List ℕ) → entry signs (a ∷ []) ≡ Some t →
    ((c : ℕ) → (c == 61) ≡ false → entry signs (a ∷ c ∷ []) ≡ None) →
    ((c d : ℕ) → (c == 61) ≡ false → entry signs (a ∷ c ∷ d ∷ []) ≡ None) → not (begins (λ c. c == 61) s) ≡ true →
    sign_token (a ∷ s) ≡ scanner.token t s
before_another a t [] h n m k = rw h refl
before_another a t (c ∷ []) h n m k = rw (n c (not-true (c == 61) k), h) refl
before_another a t (c ∷ d ∷ s) h n m k = rw (m c d (not-true (c == 61) k), n c (not-true (c == 61) k), h) refl

turned : (c : ℕ) → (c == 61) ≡ false → (61 == c) ≡ false
turned c h = grind (arith, nat_tests)

no_equals : (c : ℕ) → (c == 61) ≡ false → entry signs (61 ∷ c ∷ []) ≡ None
unfolding signs
no_equals c h = rw (turned c h) refl

no_equals_longer : (c d : ℕ) → (c == 61) ≡ false → entry signs (61 ∷ c ∷ d ∷ []) ≡ None
unfolding signs
no_equals_longer c d h = rw (turned c h) refl

no_greater : (c : ℕ) → (c == 61) ≡ false → entry signs (62 ∷ c ∷ []) ≡ None
unfolding signs
no_greater c h = rw (turned c h) refl

no_greater_longer : (c d : ℕ) → (c == 61) ≡ false → entry signs (62 ∷ c ∷ d ∷ []) ≡ None
unfolding signs
no_greater_longer c d h = rw (turned c h) refl

no_less : (c : ℕ) → (c == 61) ≡ false → entry signs (60 ∷ c ∷ []) ≡ None
unfolding signs
no_less c h = rw (turned c h) refl

no_less_longer : (c d : ℕ) → (c == 61) ≡ false → entry signs (60 ∷ c ∷ d ∷ []) ≡ None
unfolding signs
no_less_longer c d h = rw (turned c h) refl

each_read : Each IsRead signs
unfolding signs single_signs
each_read = (
  λ s h. single_reads 59 token.Semicolon s refl,
  (
    λ s h. before_another 61 token.Equals s refl no_equals no_equals_longer h,
    (
      λ s h. single_reads 124 token.Bar s refl,
      (
        λ s h. before_another 62 token.Greater s refl no_greater no_greater_longer h,
        (
          λ s h. single_reads 58 token.Colon s refl,
          (
            λ s h. single_reads 44 token.Comma s refl,
            (
              λ s h. single_reads 40 token.Open s refl,
              (
                λ s h. single_reads 41 token.Close s refl,
                (
                  λ s h. single_reads 123 token.OpenBrace s refl,
                  (
                    λ s h. single_reads 125 token.CloseBrace s refl,
                    (
                      λ s h. single_reads 63 token.Question s refl,
                      (
                        λ s h. single_reads 42 token.Star s refl,
                        (
                          λ s h. single_reads 43 token.Plus s refl,
                          (
                            λ s h. single_reads 45 token.Minus s refl,
                            (
                              λ s h. single_reads 92 token.Backslash s refl,
                              (
                                λ s h. three 33 62 62 token.NotFollowedBy s refl,
                                (
                                  λ s h. three 33 60 60 token.NotPrecededBy s refl,
                                  (
                                    λ s h. two 61 61 token.EqualTo s refl (λ c. refl),
                                    (
                                      λ s h. two 33 61 token.NotEqualTo s refl (λ c. refl),
                                      (
                                        λ s h. before_another 60 token.Less s refl no_less no_less_longer h,
                                        (
                                          λ s h. two 60 61 token.AtMost s refl (λ c. refl),
                                          (λ s h. two 62 61 token.AtLeast s refl (λ c. refl), tt),
                                        ),
                                      ),
                                    ),
                                  ),
                                ),
                              ),
                            ),
                          ),
                        ),
                      ),
                    ),
                  ),
                ),
              ),
            ),
          ),
        ),
      ),
    ),
  ),
)

sign_read : (cs rest : List ℕ) (t : Token) → entry signs cs ≡ Some t → ends t rest ≡ true → next (cs ++ rest) ≡ scanner.token t rest
sign_read cs rest t h e =
    let s = sign_text cs t h in
    let n : next (cs ++ rest) ≡ sign_token (cs ++ rest) = rw s.parts (next_sign s.first (s.others ++ rest) s.start) in
    n ∙ found IsRead signs cs t each_read h rest e

-- keywords end where words do
abbrev ends_as_word : Token → Bool
ends_as_word (token.Name x) = false
ends_as_word (token.Head x) = false
ends_as_word (token.Number n) = false
ends_as_word (token.Literal word) = false
ends_as_word (token.OneOf c) = false
ends_as_word token.Semicolon = false
ends_as_word token.Equals = false
ends_as_word token.Bar = false
ends_as_word token.Greater = false
ends_as_word token.Colon = false
ends_as_word token.Comma = false
ends_as_word token.Open = false
ends_as_word token.Close = false
ends_as_word token.OpenBrace = false
ends_as_word token.CloseBrace = false
ends_as_word token.Question = false
ends_as_word token.Star = false
ends_as_word token.Plus = false
ends_as_word token.Minus = false
ends_as_word token.Backslash = false
ends_as_word token.NotFollowedBy = false
ends_as_word token.NotPrecededBy = false
ends_as_word token.EqualTo = false
ends_as_word token.NotEqualTo = false
ends_as_word token.Less = false
ends_as_word token.AtMost = false
ends_as_word token.AtLeast = false
ends_as_word t = true

word_ended : (t : Token) (rest : List ℕ) → ends_as_word t ≡ true → ends t rest ≡ true → begins is_xid_continue rest ≡ false
word_ended (token.Name x) rest h e = absurd (cc)
word_ended (token.Head x) rest h e = absurd (cc)
word_ended (token.Number n) rest h e = absurd (cc)
word_ended (token.Literal word) rest h e = absurd (cc)
word_ended (token.OneOf c) rest h e = absurd (cc)
word_ended token.Semicolon rest h e = absurd (cc)
word_ended token.Equals rest h e = absurd (cc)
word_ended token.Bar rest h e = absurd (cc)
word_ended token.Greater rest h e = absurd (cc)
word_ended token.Colon rest h e = absurd (cc)
word_ended token.Comma rest h e = absurd (cc)
word_ended token.Open rest h e = absurd (cc)
word_ended token.Close rest h e = absurd (cc)
word_ended token.OpenBrace rest h e = absurd (cc)
word_ended token.CloseBrace rest h e = absurd (cc)
word_ended token.Question rest h e = absurd (cc)
word_ended token.Star rest h e = absurd (cc)
word_ended token.Plus rest h e = absurd (cc)
word_ended token.Minus rest h e = absurd (cc)
word_ended token.Backslash rest h e = absurd (cc)
word_ended token.NotFollowedBy rest h e = absurd (cc)
word_ended token.NotPrecededBy rest h e = absurd (cc)
word_ended token.EqualTo rest h e = absurd (cc)
word_ended token.NotEqualTo rest h e = absurd (cc)
word_ended token.Less rest h e = absurd (cc)
word_ended token.AtMost rest h e = absurd (cc)
word_ended token.AtLeast rest h e = absurd (cc)
word_ended t rest h e = not-true (begins is_xid_continue rest) e

keyword_ends : (cs : List ℕ) (t : Token) → entry keywords cs ≡ Some t → ends_as_word t ≡ true
unfolding keywords
keyword_ends cs t h = entry_all (λ w u. ends_as_word u) keywords cs t refl h

-- the scanner finds the token
ended_read : {front : List ℕ} {t : Token} → IsToken front t → (rest : List ℕ) → ends t rest ≡ true →
    next (front ++ rest) ≡ scanner.token t rest
ended_read (table.name cs n) rest e =
    let k = and_parts (not (begins is_xid_continue rest)) (not (begins (λ c. c == 40) rest)) e in
    name_read cs rest (name_word cs n) (name_entry cs n) (not-true (begins is_xid_continue rest) k.0) (not-true (begins (λ c. c == 40) rest) k.1)
ended_read (table.head cs whole n f) rest e =
    ap (λ (z : List ℕ). next (z ++ rest)) f ∙ ap next (append_assoc cs (40 ∷ []) rest) ∙ head_read cs rest (name_word cs n) (name_entry cs n)
ended_read (table.number cs i) rest e = number_read i rest (not-true (begins is_xid_continue rest) e)
ended_read (table.literal inside whole c text s f) rest e =
    ap (λ (z : List ℕ). next (z ++ rest)) f ∙ ap next (closed_text (34 ∷ []) 34 inside rest) ∙ literal_read inside rest c text s
ended_read (table.ranges inside whole p ps s f) rest e =
    ap (λ (z : List ℕ). next (z ++ rest)) f ∙ ap next (closed_text (91 ∷ []) 93 inside rest) ∙ class_read inside rest p ps s
ended_read (table.other_ranges inside whole p ps s f) rest e =
    ap (λ (z : List ℕ). next (z ++ rest)) f ∙ ap next (closed_text (91 ∷ 94 ∷ []) 93 inside rest) ∙
    negated_read inside rest p ps s
ended_read (table.named_class cs c k) rest e =
    named_read cs rest c k (not-true (begins is_xid_continue rest) (sym (named_class_precedes cs rest c k) ∙ e))
ended_read (table.sign cs t k) rest e = sign_read cs rest t k e
ended_read (table.keyword cs t k) rest e = keyword_read cs rest t k (word_ended t rest (keyword_ends cs t k) e)

pub ended_tokens_are_longest : EndedTokensAreLongest
ended_tokens_are_longest front rest t i e = is_longest (front ++ rest) rest t (ended_read i rest e)
