-- A token has its canonical spelling by the table of tokens, where it has any.
use Rattle.std.proofs.Common.{◌≡◌, ◌∙◌, sym, subst, refl, ℕ, ◌+◌, ◌≤◌, List, [], ◌∷◌, ◌++◌, Bool, true, false, cond, ◌==◌, Some, arith, append_assoc, nat_le}
use Rattle.std.proofs.lemmas.List.Elements.{All-cons, All-nil, All-head}
use Rattle.std.specs.Prelude.{codes, flat_map}
use Rattle.std.proofs.lemmas.Bool.Decides.{nat_tests}
use Rattle.ig_text.specs.Ranges.{IsNormalFrom, NoneFalls, NormalFormIsNormal, NormalRangesStay, normal_form, is_among}
use Rattle.ig_text.specs.declared.class.Class.{Class}
use Rattle.ig_text.specs.declared.class.Class.TheVariants as class
use Rattle.ig_text.specs.Words.{is_word}
use Rattle.ig_expr.specs.Reading.{spelled}
use Rattle.ig_notation_syntax.specs.Token as token
use Rattle.ig_notation_syntax.specs.Token.{Token}
use Rattle.ig_notation_syntax.specs.Spelling.{IsToken, entry, signs, keywords, named_classes, is_one_of, literal_signs, class_signs, IsLetter, SpellsText, SpellsRanges}
use Rattle.ig_notation_syntax.specs.Spelling as table
use Rattle.ig_text.proofs.Tables.{found_row}
use Rattle.ig_text.proofs.Numbers.{same_number}
use Rattle.ig_show.specs.SpellingLaws.{IsSpelled, is_fixed, FixedTokensAreSpelled, TokensAreSpelled}
use Rattle.ig_show.specs.Spelling.{spelling, numeral, literal_character, class_character, range_spelling, control_or, escape}
use Rattle.ig_show.proofs.Numerals.{spells_numeral}

pub fixed : FixedTokensAreSpelled
unfolding signs keywords
fixed (token.Name x) h = absurd (cc)
fixed (token.Head x) h = absurd (cc)
fixed (token.Number n) h = absurd (cc)
fixed (token.Literal word) h = absurd (cc)
fixed (token.OneOf c) h = absurd (cc)
fixed token.Semicolon h = table.sign (codes ";") token.Semicolon refl
fixed token.Equals h = table.sign (codes "=") token.Equals refl
fixed token.Bar h = table.sign (codes "|") token.Bar refl
fixed token.Greater h = table.sign (codes ">") token.Greater refl
fixed token.Colon h = table.sign (codes ":") token.Colon refl
fixed token.Comma h = table.sign (codes ",") token.Comma refl
fixed token.Open h = table.sign (codes "(") token.Open refl
fixed token.Close h = table.sign (codes ")") token.Close refl
fixed token.OpenBrace h = table.sign (codes "{") token.OpenBrace refl
fixed token.CloseBrace h = table.sign (codes "}") token.CloseBrace refl
fixed token.Question h = table.sign (codes "?") token.Question refl
fixed token.Star h = table.sign (codes "*") token.Star refl
fixed token.Plus h = table.sign (codes "+") token.Plus refl
fixed token.Minus h = table.sign (codes "-") token.Minus refl
fixed token.Backslash h = table.sign (92 ∷ []) token.Backslash refl
fixed token.NotFollowedBy h = table.sign (codes "!>>") token.NotFollowedBy refl
fixed token.NotPrecededBy h = table.sign (codes "!<<") token.NotPrecededBy refl
fixed token.EqualTo h = table.sign (codes "==") token.EqualTo refl
fixed token.NotEqualTo h = table.sign (codes "!=") token.NotEqualTo refl
fixed token.Less h = table.sign (codes "<") token.Less refl
fixed token.AtMost h = table.sign (codes "<=") token.AtMost refl
fixed token.AtLeast h = table.sign (codes ">=") token.AtLeast refl
fixed token.Start h = table.keyword (codes "start") token.Start refl
fixed token.Syntax h = table.keyword (codes "syntax") token.Syntax refl
fixed token.Lexical h = table.keyword (codes "lexical") token.Lexical refl
fixed token.Layout h = table.keyword (codes "layout") token.Layout refl
fixed token.Left h = table.keyword (codes "left") token.Left refl
fixed token.Right h = table.keyword (codes "right") token.Right refl
fixed token.Nonassoc h = table.keyword (codes "nonassoc") token.Nonassoc refl
fixed token.Offside h = table.keyword (codes "offside") token.Offside refl
fixed token.Ignore h = table.keyword (codes "ignore") token.Ignore refl
fixed token.Align h = table.keyword (codes "align") token.Align refl
fixed token.When h = table.keyword (codes "when") token.When refl
fixed token.Let h = table.keyword (codes "let") token.Let refl
fixed token.Here h = table.keyword (codes "here") token.Here refl
fixed token.True h = table.keyword (codes "true") token.True refl
fixed token.False h = table.keyword (codes "false") token.False refl
fixed token.And h = table.keyword (codes "and") token.And refl
fixed token.Or h = table.keyword (codes "or") token.Or refl
fixed token.Not h = table.keyword (codes "not") token.Not refl
fixed token.Div h = table.keyword (codes "div") token.Div refl
fixed token.Mod h = table.keyword (codes "mod") token.Mod refl
fixed token.Int h = table.keyword (codes "int") token.Int refl
fixed token.Bool h = table.keyword (codes "bool") token.Bool refl
fixed token.Span h = table.keyword (codes "span") token.Span refl
fixed token.Tabs h = table.keyword (codes "tabs") token.Tabs refl
fixed token.Return h = table.keyword (codes "return") token.Return refl

pub number_spelled : (n : ℕ) → IsSpelled (token.Number n)
number_spelled n =
    subst (λ z. IsToken (numeral n) (token.Number z)) (spells_numeral n).value (table.number (numeral n) (spells_numeral n).is_numeral)

-- characters of a literal
control_spelled : (special : List ℕ) (c : ℕ) → is_one_of special c ≡ false →
    table.escape special 110 ≡ Some 10 → table.escape special 114 ≡ Some 13 → table.escape special 116 ≡ Some 9 →
    IsLetter special (control_or (c ∷ []) c) c
control_spelled special c h lf cr tab = lines (c == 10) refl
  where
    tabs : (b : Bool) → (c == 9) ≡ b → (c == 10) ≡ false → IsLetter special (cond b (escape 116) (c ∷ [])) c
    tabs true e n = subst (IsLetter special (escape 116)) (sym (same_number c 9 e)) (table.escaped 116 9 tab)
    tabs false e n = table.bare c (plain n h)
      where
        plain : (c == 10) ≡ false → is_one_of special c ≡ false → is_one_of (10 ∷ special) c ≡ false
        plain a b = let k : (10 == c) ≡ false = grind (arith, nat_tests) in rw (k, b) refl

    returns : (b : Bool) → (c == 13) ≡ b → (c == 10) ≡ false → IsLetter special (cond b (escape 114) (cond (c == 9) (escape 116) (c ∷ []))) c
    returns true e n = subst (IsLetter special (escape 114)) (sym (same_number c 13 e)) (table.escaped 114 13 cr)
    returns false e n = tabs (c == 9) refl n

    lines : (b : Bool) → (c == 10) ≡ b → IsLetter special (cond b (escape 110) (cond (c == 13) (escape 114) (cond (c == 9) (escape 116) (c ∷ [])))) c
    lines true e = subst (IsLetter special (escape 110)) (sym (same_number c 10 e)) (table.escaped 110 10 lf)
    lines false e = returns (c == 13) refl e

-- a character that stands for itself behind a backslash
escape_spelled : (special : List ℕ) (c k : ℕ) → (c == k) ≡ true → table.escape special k ≡ Some k → IsLetter special (escape c) c
escape_spelled special c k e h =
    subst (λ z. IsLetter special (escape z) z) (sym (same_number c k e)) (table.escaped k k h)

differ : (c k : ℕ) → (c == k) ≡ false → (k == c) ≡ false
differ c k h = grind (arith, nat_tests)

literal_letter : (c : ℕ) → IsLetter literal_signs (literal_character c) c
literal_letter c = quotes (c == 34) refl
  where
    slashes : (b : Bool) → (c == 92) ≡ b → (c == 34) ≡ false → IsLetter literal_signs (cond b (escape c) (control_or (c ∷ []) c)) c
    slashes true e n = escape_spelled literal_signs c 92 e refl
    slashes false e n = control_spelled literal_signs c (rw (differ c 34 n, differ c 92 e) refl) refl refl refl

    quotes : (b : Bool) → (c == 34) ≡ b → IsLetter literal_signs (cond b (escape c) (cond (c == 92) (escape c) (control_or (c ∷ []) c))) c
    quotes true e = escape_spelled literal_signs c 34 e refl
    quotes false e = slashes (c == 92) refl e

text_spelled : (word : List ℕ) → SpellsText (flat_map literal_character word) word
text_spelled [] = table.no_letter
text_spelled (c ∷ cs) =
    table.letter (literal_character c) (flat_map literal_character cs) _ c cs (literal_letter c) (text_spelled cs) refl

class_letter : (c : ℕ) → IsLetter class_signs (class_character c) c
class_letter c = opens (c == 91) refl
  where
    slashes : (b : Bool) → (c == 92) ≡ b → (c == 91) ≡ false → (c == 93) ≡ false → (c == 94) ≡ false → (c == 45) ≡ false →
        IsLetter class_signs (cond b (escape c) (control_or (c ∷ []) c)) c
    slashes true e p q r s = escape_spelled class_signs c 92 e refl
    slashes false e p q r s =
        control_spelled class_signs c (rw (differ c 91 p, differ c 93 q, differ c 94 r, differ c 45 s, differ c 92 e) refl) refl refl refl

    dashes : (b : Bool) → (c == 45) ≡ b → (c == 91) ≡ false → (c == 93) ≡ false → (c == 94) ≡ false →
        IsLetter class_signs (cond b (escape c) (cond (c == 92) (escape c) (control_or (c ∷ []) c))) c
    dashes true e p q r = escape_spelled class_signs c 45 e refl
    dashes false e p q r = slashes (c == 92) refl p q r e

    carets : (b : Bool) → (c == 94) ≡ b → (c == 91) ≡ false → (c == 93) ≡ false →
        IsLetter class_signs (cond b (escape c) (cond (c == 45) (escape c) (cond (c == 92) (escape c) (control_or (c ∷ []) c)))) c
    carets true e p q = escape_spelled class_signs c 94 e refl
    carets false e p q = dashes (c == 45) refl p q e

    closes : (b : Bool) → (c == 93) ≡ b → (c == 91) ≡ false →
        IsLetter class_signs (cond b (escape c) (cond (c == 94) (escape c) (cond (c == 45) (escape c) (cond (c == 92) (escape c) (control_or (c ∷ []) c))))) c
    closes true e p = escape_spelled class_signs c 93 e refl
    closes false e p = carets (c == 94) refl p e

    opens : (b : Bool) → (c == 91) ≡ b →
        IsLetter class_signs (cond b (escape c) (cond (c == 93) (escape c) (cond (c == 94) (escape c) (cond (c == 45) (escape c) (cond (c == 92) (escape c) (control_or (c ∷ []) c)))))) c
    opens true e = escape_spelled class_signs c 91 e refl
    opens false e = closes (c == 93) refl e

one_range : (r : ℕ × ℕ) (rs : List (ℕ × ℕ)) → r.0 ≤ r.1 → (b : Bool) → (r.0 == r.1) ≡ b → SpellsRanges (flat_map range_spelling rs) rs →
    SpellsRanges (cond b (class_character r.0) (class_character r.0 ++ 45 ∷ class_character r.1) ++ flat_map range_spelling rs) (r ∷ rs)
one_range r rs h true e s =
    subst (λ z. SpellsRanges (class_character r.0 ++ flat_map range_spelling rs) ((r.0, z) ∷ rs)) (same_number r.0 r.1 e)
    (table.one_character (class_character r.0) (flat_map range_spelling rs) _ r.0 rs (class_letter r.0) s refl)
one_range r rs h false e s =
    table.two_characters (class_character r.0) (class_character r.1) (flat_map range_spelling rs) _ r.0 r.1 rs (class_letter r.0) (class_letter r.1) h s
    (append_assoc (class_character r.0) (45 ∷ class_character r.1) (flat_map range_spelling rs))

ranges_spelled : (low : ℕ) (rs : List (ℕ × ℕ)) → IsNormalFrom low rs → SpellsRanges (flat_map range_spelling rs) rs
ranges_spelled low [] n = table.no_range
ranges_spelled low (r ∷ rs) n = one_range r rs n.1 (r.0 == r.1) refl (ranges_spelled (r.1 + 2) rs n.2)

-- ranges in normal form, of which there are some
class_spelled : NormalRangesStay → (negated : Bool) (r : ℕ × ℕ) (rs : List (ℕ × ℕ)) → IsNormalFrom 0 (r ∷ rs) → IsSpelled (token.OneOf (class.Ranges negated (r ∷ rs)))
class_spelled ranges_stay false r rs n =
    subst (λ z. IsToken (spelling (token.OneOf (class.Ranges false (r ∷ rs)))) (token.OneOf (class.Ranges false z))) (ranges_stay (r ∷ rs) n)
    (table.ranges (flat_map range_spelling (r ∷ rs)) _ r rs (ranges_spelled 0 (r ∷ rs) n) refl)
class_spelled ranges_stay true r rs n =
    subst (λ z. IsToken (spelling (token.OneOf (class.Ranges true (r ∷ rs)))) (token.OneOf (class.Ranges true z))) (ranges_stay (r ∷ rs) n)
    (table.other_ranges (flat_map range_spelling (r ∷ rs)) _ r rs (ranges_spelled 0 (r ∷ rs) n) refl)

-- pairs that are spelled don't fall, and their normal form is not empty
none_fall : {inside : List ℕ} {ps : List (ℕ × ℕ)} → SpellsRanges inside ps → NoneFalls ps
none_fall table.no_range = All-nil (λ r. r.0 ≤ r.1)
none_fall (table.one_character first more inside c ps l s e) = All-cons (λ r. r.0 ≤ r.1) (c, c) ps (omega arith) (none_fall s)
none_fall (table.two_characters first last more inside c d ps l m h s e) = All-cons (λ r. r.0 ≤ r.1) (c, d) ps h (none_fall s)

among_first : (p : ℕ × ℕ) (ps : List (ℕ × ℕ)) → p.0 ≤ p.1 → is_among (p ∷ ps) p.0 ≡ true
among_first p ps h =
    let a : nat_le p.0 p.0 ≡ true = grind (arith, nat_tests) in
    let b : nat_le p.0 p.1 ≡ true = grind (arith, nat_tests) in rw (a, b) refl

some_ranges : NormalRangesStay → (negated : Bool) (c : ℕ) (rs : List (ℕ × ℕ)) → is_among rs c ≡ true → IsNormalFrom 0 rs → IsSpelled (token.OneOf (class.Ranges negated rs))
some_ranges ranges_stay negated c [] h n = absurd (cc)
some_ranges ranges_stay negated c (r ∷ rs) h n = class_spelled ranges_stay negated r rs n

ranges_canonical : NormalFormIsNormal → NormalRangesStay → (negated : Bool) {inside : List ℕ} (p : ℕ × ℕ) (ps : List (ℕ × ℕ)) → SpellsRanges inside (p ∷ ps) →
    IsSpelled (token.OneOf (class.Ranges negated (normal_form (p ∷ ps))))
ranges_canonical form_is_normal ranges_stay negated p ps s =
    let falls = none_fall s in
    let form = form_is_normal (p ∷ ps) falls in
    let first : p.0 ≤ p.1 = All-head (λ r. r.0 ≤ r.1) p ps falls in
    some_ranges ranges_stay negated p.0 (normal_form (p ∷ ps)) (form.members p.0 ∙ among_first p ps first) form.normal

abbrev is_named : Class → Bool
is_named (class.Ranges negated rs) = false
is_named class.XidStart = true
is_named class.XidContinue = true
is_named class.Any = true

named_spelled : (c : Class) → is_named c ≡ true → IsSpelled (token.OneOf c)
unfolding named_classes
named_spelled (class.Ranges negated rs) h = absurd (cc)
named_spelled class.XidStart h = table.named_class (codes "xid_start") class.XidStart refl
named_spelled class.XidContinue h = table.named_class (codes "xid_continue") class.XidContinue refl
named_spelled class.Any h = table.named_class (codes "any") class.Any refl

class_is_named : (cs : List ℕ) (c : Class) → entry named_classes cs ≡ Some c → is_named c ≡ true
unfolding named_classes
class_is_named cs c h = (found_row (λ w. is_word w cs) (λ w u. is_named u) named_classes c refl h).passes

sign_is_fixed : (cs : List ℕ) (t : Token) → entry signs cs ≡ Some t → is_fixed t ≡ true
unfolding signs
sign_is_fixed cs t h = (found_row (λ w. is_word w cs) (λ w u. is_fixed u) signs t refl h).passes

keyword_is_fixed : (cs : List ℕ) (t : Token) → entry keywords cs ≡ Some t → is_fixed t ≡ true
unfolding keywords
keyword_is_fixed cs t h = (found_row (λ w. is_word w cs) (λ w u. is_fixed u) keywords t refl h).passes

-- a token that is spelled in any way is spelled so
pub canonical : NormalFormIsNormal → NormalRangesStay → TokensAreSpelled
canonical form_is_normal ranges_stay front u (table.name cs n) = table.name cs n
canonical form_is_normal ranges_stay front u (table.head cs whole n e) = table.head cs (cs ++ 40 ∷ []) n refl
canonical form_is_normal ranges_stay front u (table.number cs i) = number_spelled (spelled 0 cs)
canonical form_is_normal ranges_stay front u (table.literal inside whole c cs s e) = table.literal (flat_map literal_character (c ∷ cs)) _ c cs (text_spelled (c ∷ cs)) refl
canonical form_is_normal ranges_stay front u (table.ranges inside whole p ps s e) = ranges_canonical form_is_normal ranges_stay false p ps s
canonical form_is_normal ranges_stay front u (table.other_ranges inside whole p ps s e) = ranges_canonical form_is_normal ranges_stay true p ps s
canonical form_is_normal ranges_stay front u (table.named_class cs c h) = named_spelled c (class_is_named cs c h)
canonical form_is_normal ranges_stay front u (table.sign cs t h) = fixed t (sign_is_fixed cs t h)
canonical form_is_normal ranges_stay front u (table.keyword cs t h) = fixed t (keyword_is_fixed cs t h)
