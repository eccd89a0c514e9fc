-- Which token stands first, by the first character.
use Rattle.std.proofs.Common.{◌≡◌, ◌∙◌, ℕ, ◌<◌, ◌≤◌, ◌⊎◌, inl, inr, List, [], ◌∷◌, ◌++◌, Bool, true, false, cond, not, ◌&&◌, ◌||◌, ◌==◌, Option, Some, None, length, refl, sym, ap, subst, arith, if◌then◌else◌}
use Rattle.std.specs.Map.{lookup}
use Rattle.std.specs.List.{list_all}
use Rattle.std.specs.Char.{is_ascii_alphabetic}
use Rattle.std.proofs.lemmas.Bool.Decides.{nat_tests}
use Rattle.unicode_ident.specs.Ident.{is_xid_start, is_xid_continue}
use Rattle.unicode_ident.proofs.IdentLemmas.{is_xid_start-ascii}
use Rattle.ig_text.specs.Ranges.{normal_form}
use Rattle.ig_text.specs.declared.class.Class.TheVariants.{Ranges}
use Rattle.ig_grammar.specs.Name.{is_name}
use Rattle.ig_notation_syntax.specs.Spelling.{is_one_of, begins}
use Rattle.ig_w3c_syntax.specs.Token as token
use Rattle.ig_w3c_syntax.specs.Token.{Token}
use Rattle.ig_w3c_syntax.specs.Spelling as spelling
use Rattle.ig_w3c_syntax.specs.Spelling.{AreSeparators, AreParts, StandsFirst, quotes, signs, code, is_inside}
use Rattle.ig_w3c_syntax.proofs.Firsts.{BeginsWith, of_tokens, name_first, sign_begins, hash_is_first}

-- the kinds of first characters
pub data Kind : Type 0 where
  letter : Kind
  quote : Kind
  hash : Kind
  bracket : Kind
  other : Kind

abbrev pub by_sign : ℕ → Kind
by_sign c = if is_one_of quotes c then quote else (if c == 35 then hash else (if c == 91 then bracket else other))

abbrev pub kind : ℕ → Kind
kind c = if is_xid_start c then letter else by_sign c

-- a word, and how it stands
pub data IsWord (text : List ℕ) : Token → List ℕ → Type 0 where
  a_name : (cs rest : List ℕ) → is_name cs ≡ true → begins is_xid_continue rest ≡ false → text ≡ cs ++ rest → IsWord text (token.Name cs) rest
  a_head : (cs behind rest : List ℕ) → is_name cs ≡ true → begins is_xid_continue behind ≡ false → text ≡ cs ++ behind →
      AreSeparators behind (58 ∷ 58 ∷ 61 ∷ rest) → IsWord text (token.Head cs) rest

pub data IsString (q : ℕ) (inside : List ℕ) : Token → List ℕ → Type 0 where
  is_string : (d : ℕ) (ds rest : List ℕ) → list_all (is_inside q) (d ∷ ds) ≡ true → inside ≡ (d ∷ ds) ++ q ∷ rest → IsString q inside (token.Text (d ∷ ds)) rest

pub data IsSet (inside : List ℕ) : Token → List ℕ → Type 0 where
  plain : (p : ℕ × ℕ) (ps : List (ℕ × ℕ)) (rest : List ℕ) → begins (λ c. c == 94) inside ≡ false → AreParts inside (p ∷ ps) rest →
      IsSet inside (token.OneOf (Ranges false (normal_form (p ∷ ps)))) rest
  negated : (more : List ℕ) (p : ℕ × ℕ) (ps : List (ℕ × ℕ)) (rest : List ℕ) → inside ≡ 94 ∷ more → AreParts more (p ∷ ps) rest →
      IsSet inside (token.OneOf (Ranges true (normal_form (p ∷ ps)))) rest

-- what stands first in a text that begins with c
abbrev pub Found : Kind → ℕ → List ℕ → Token → List ℕ → Type 0
Found letter c cs t rest = IsWord (c ∷ cs) t rest
Found quote c cs t rest = IsString c cs t rest
Found hash c cs t rest = (d : ℕ) × (t ≡ token.Code d) × (code (c ∷ cs) ≡ Some (d, rest))
Found bracket c cs t rest = IsSet cs t rest
Found other c cs t rest = (lookup (λ d. d == c) signs ≡ Some t) × (rest ≡ cs)

pub letter_kind : (c : ℕ) → is_xid_start c ≡ true → letter ≡ kind c
letter_kind c h = rw h refl

no_letter : (c : ℕ) → is_one_of of_tokens c ≡ true → is_xid_start c ≡ false
no_letter c h =
    let n : c < 128 = grind (arith, nat_tests) in
    let a : is_ascii_alphabetic c ≡ false = grind (arith, nat_tests) in is_xid_start-ascii c n ∙ a

quote_kind : (c : ℕ) → is_one_of quotes c ≡ true → quote ≡ kind c
quote_kind c h =
    let k : is_one_of of_tokens c ≡ true = grind (arith, nat_tests) in rw (no_letter c k, h) refl

pub hash_kind : (c : ℕ) → c ≡ 35 → hash ≡ kind c
hash_kind c h = rw (h, no_letter 35 refl) refl

pub other_kind : (c : ℕ) → is_one_of (124 ∷ 40 ∷ 41 ∷ 63 ∷ 42 ∷ 43 ∷ 45 ∷ []) c ≡ true → other ≡ kind c
other_kind c h =
    let k : is_one_of of_tokens c ≡ true = grind (arith, nat_tests) in
    let q : is_one_of quotes c ≡ false = grind (arith, nat_tests) in
    let x : (c == 35) ≡ false = grind (arith, nat_tests) in
    let y : (c == 91) ≡ false = grind (arith, nat_tests) in rw (no_letter c k, q, x, y) refl

bracket_kind : kind 91 ≡ bracket
bracket_kind = rw (no_letter 91 refl) refl

moved : (k l : Kind) (c : ℕ) (cs : List ℕ) (t : Token) (rest : List ℕ) → k ≡ l → Found k c cs t rest → Found l c cs t rest
moved k l c cs t rest e f = subst (λ z. Found z c cs t rest) e f

pub found : {text rest : List ℕ} {t : Token} → StandsFirst text t rest → (c : ℕ) (cs : List ℕ) → text ≡ c ∷ cs → Found (kind c) c cs t rest
found (spelling.name text ds rest n b e) c cs p =
    moved letter (kind c) c cs (token.Name ds) rest (letter_kind c (name_first c cs ds rest n (sym p ∙ e))) (a_name ds rest n b (sym p ∙ e))
found (spelling.head text ds behind rest n b e s) c cs p =
    moved letter (kind c) c cs (token.Head ds) rest (letter_kind c (name_first c cs ds behind n (sym p ∙ e))) (a_head ds behind rest n b (sym p ∙ e) s)
found (spelling.string q d ds inside rest h all e) c cs p =
    let x : q ≡ c = cc in
    let y : inside ≡ cs = cc in
    let k : quote ≡ kind c = subst (λ z. quote ≡ kind z) x (quote_kind q h) in
    moved quote (kind c) c cs (token.Text (d ∷ ds)) rest k
    (is_string d ds rest (subst (λ z. list_all (is_inside z) (d ∷ ds) ≡ true) x all) (sym y ∙ e ∙ ap (λ z. (d ∷ ds) ++ z ∷ rest) x))
found (spelling.character text rest d h) c cs p =
    let k : code (c ∷ cs) ≡ Some (d, rest) = ap code (sym p) ∙ h in
    moved hash (kind c) c cs (token.Code d) rest (hash_kind c (hash_is_first c cs rest d k)) (d, refl, k)
found (spelling.set inside rest q qs b a) c cs p =
    let x : 91 ≡ c = cc in
    let y : inside ≡ cs = cc in
    let t : Token = token.OneOf (Ranges false (normal_form (q ∷ qs))) in
    moved bracket (kind c) c cs t rest (subst (λ z. bracket ≡ kind z) x (sym bracket_kind))
    (subst (λ z. IsSet z t rest) y (plain q qs rest b a))
found (spelling.other_set inside rest q qs a) c cs p =
    let x : 91 ≡ c = cc in
    let y : 94 ∷ inside ≡ cs = cc in
    moved bracket (kind c) c cs (token.OneOf (Ranges true (normal_form (q ∷ qs)))) rest (subst (λ z. bracket ≡ kind z) x (sym bracket_kind)) (negated inside q qs rest (sym y) a)
found (spelling.sign d t rest h) c cs p =
    let x : d ≡ c = cc in
    let y : rest ≡ cs = cc in
    moved other (kind c) c cs t rest (subst (λ z. other ≡ kind z) x (other_kind d (sign_begins d t h)))
    (subst (λ z. lookup (λ e. e == z) signs ≡ Some t) x h, y)

pub found_kind : {text rest : List ℕ} {t : Token} → StandsFirst text t rest → (c : ℕ) (cs : List ℕ) (k : Kind) → text ≡ c ∷ cs → kind c ≡ k → Found k c cs t rest
found_kind {text} {rest} {t} s c cs k p e = moved (kind c) k c cs t rest e (found s c cs p)

pub quote_is : (c : ℕ) → is_one_of quotes c ≡ true → kind c ≡ quote
quote_is c h = sym (quote_kind c h)

pub hash_is : kind 35 ≡ hash
hash_is = sym (hash_kind 35 refl)

pub bracket_is : kind 91 ≡ bracket
bracket_is = bracket_kind

-- a character of no other kind
pub other_is : (c : ℕ) → is_xid_start c ≡ false → is_one_of quotes c ≡ false → (c == 35) ≡ false → (c == 91) ≡ false → kind c ≡ other
other_is c a b d e = rw (a, b, d, e) refl
