-- Tokens that are put into those of the own notation one by one.
use Rattle.std.proofs.Common.{◌≡◌, ◌∙◌, ℕ, ◌+◌, ◌<◌, ◌≤◌, List, [], ◌∷◌, ◌++◌, length, drop, map, refl, sym, ap, subst, append_assoc, arith}
use Rattle.std.specs.Prelude.{All}
use Rattle.std.proofs.lemmas.List.{at_drop_more, drop_all}
use Rattle.std.proofs.lemmas.List.Elements.{All-nil, All-cons, All-append, All-head, All-tail}
use Rattle.std.proofs.Math.ListN.{get_or}
use Rattle.ig_notation_syntax.specs.Token as own
use Rattle.ig_notation_terms.specs.Limits.{NumberFits, NumbersFit}
use Rattle.ig_w3c_syntax.specs.Token.{Token, Head, Name, Text, Code, OneOf, Bar, Open, Close, Question, Star, Plus, Minus}
use Rattle.ig_w3c_syntax.specs.View.{token_of, meanings}
use Rattle.ig_w3c_syntax.specs.declared.token.Placed.{Placed}
use Rattle.ig_w3c_syntax.specs.Reading.{within, in_own_notation}
use Rattle.ig_w3c.specs.Steps.{own_token, put, started}

within_put : (t : Token) (ts : List Token) → put t ++ within ts ≡ within (t ∷ ts)
within_put (Head x) ts = refl
within_put (Name x) ts = refl
within_put (Text x) ts = refl
within_put (Code x) ts = refl
within_put (OneOf x) ts = refl
within_put Bar ts = refl
within_put Open ts = refl
within_put Close ts = refl
within_put Question ts = refl
within_put Star ts = refl
within_put Plus ts = refl
within_put Minus ts = refl

started_within : (ts : List Token) → started ts ++ within ts ≡ in_own_notation ts
started_within [] = refl
started_within (Head x ∷ ts) = refl
started_within (Name x ∷ ts) = refl
started_within (Text x ∷ ts) = refl
started_within (Code x ∷ ts) = refl
started_within (OneOf x ∷ ts) = refl
started_within (Bar ∷ ts) = refl
started_within (Open ∷ ts) = refl
started_within (Close ∷ ts) = refl
started_within (Question ∷ ts) = refl
started_within (Star ∷ ts) = refl
started_within (Plus ∷ ts) = refl
started_within (Minus ∷ ts) = refl

-- the tokens so far, and those of the rest
pub put_none : (tokens : List Placed) (old new : List own.Token) → old ≡ [] → new ≡ old ++ started (meanings tokens) →
    new ++ within (meanings tokens) ≡ in_own_notation (meanings tokens)
put_none tokens old new e f = rw (f, e) (started_within (meanings tokens))

pub put_more : (tokens : List Placed) (i : ℕ) (d p : Placed) (old new whole : List own.Token) → p ≡ get_or tokens i d → i < length tokens →
    old ++ within (meanings (drop i tokens)) ≡ whole → new ≡ old ++ put (token_of p.token) →
    new ++ within (meanings (drop (i + 1) tokens)) ≡ whole
put_more tokens i d p old new whole e h w f =
    let rest = meanings (drop (i + 1) tokens) in
    let here : within (meanings (drop i tokens)) ≡ within (token_of p.token ∷ rest) =
    at_drop_more (λ z. within (meanings z)) tokens i d h ∙ ap (λ z. within (meanings (z ∷ drop (i + 1) tokens))) (sym e) in
    ap (λ z. z ++ within rest) f ∙ append_assoc old (put (token_of p.token)) (within rest) ∙
    ap (λ z. old ++ z) (within_put (token_of p.token) rest ∙ sym here) ∙ w

pub put_all : (tokens : List Placed) (i : ℕ) (old new whole : List own.Token) → length tokens ≤ i →
    old ++ within (meanings (drop i tokens)) ≡ whole → new ≡ old ++ own.Semicolon ∷ [] → new ≡ whole
put_all tokens i old new whole h w f =
    f ∙ ap (λ z. old ++ within (meanings z)) (sym (drop_all i tokens h)) ∙ w

-- what holds of the tokens that every text has, and of what each token becomes, holds of all
pub record Holds (P : own.Token → Type 0) (Q : Token → Type 0) : Type 0 where
  pub start : P own.Start
  pub semicolon : P own.Semicolon
  pub lexical : P own.Lexical
  pub equals : P own.Equals
  pub each : (t : Token) → Q t → P (own_token t)

module _ (P : own.Token → Type 0) (Q : Token → Type 0) (holds : Holds P Q) where
  one : (t : Token) (ts : List Token) → All Q (t ∷ ts) → All P (within ts) → All P (own_token t ∷ within ts)
  one t ts h k = All-cons P (own_token t) (within ts) (holds.each t (All-head Q t ts h)) k

  within_holds : (ts : List Token) → All Q ts → All P (within ts)
  within_holds [] h = All-cons P own.Semicolon [] holds.semicolon (All-nil P)
  within_holds (Head x ∷ ts) h =
      All-cons P own.Semicolon (own.Lexical ∷ own.Name x ∷ own.Equals ∷ within ts) holds.semicolon
      (All-cons P own.Lexical (own.Name x ∷ own.Equals ∷ within ts) holds.lexical
      (All-cons P (own.Name x) (own.Equals ∷ within ts) (holds.each (Head x) (All-head Q (Head x) ts h))
      (All-cons P own.Equals (within ts) holds.equals (within_holds ts (All-tail Q (Head x) ts h)))))
  within_holds (Name x ∷ ts) h = one (Name x) ts h (within_holds ts (All-tail Q (Name x) ts h))
  within_holds (Text x ∷ ts) h = one (Text x) ts h (within_holds ts (All-tail Q (Text x) ts h))
  within_holds (Code x ∷ ts) h = one (Code x) ts h (within_holds ts (All-tail Q (Code x) ts h))
  within_holds (OneOf x ∷ ts) h = one (OneOf x) ts h (within_holds ts (All-tail Q (OneOf x) ts h))
  within_holds (Bar ∷ ts) h = one Bar ts h (within_holds ts (All-tail Q Bar ts h))
  within_holds (Open ∷ ts) h = one Open ts h (within_holds ts (All-tail Q Open ts h))
  within_holds (Close ∷ ts) h = one Close ts h (within_holds ts (All-tail Q Close ts h))
  within_holds (Question ∷ ts) h = one Question ts h (within_holds ts (All-tail Q Question ts h))
  within_holds (Star ∷ ts) h = one Star ts h (within_holds ts (All-tail Q Star ts h))
  within_holds (Plus ∷ ts) h = one Plus ts h (within_holds ts (All-tail Q Plus ts h))
  within_holds (Minus ∷ ts) h = one Minus ts h (within_holds ts (All-tail Q Minus ts h))

  started_holds : (ts : List Token) → All Q ts → All P (started ts)
  started_holds [] h = All-nil P
  started_holds (Head x ∷ ts) h =
      All-cons P own.Start (own.Name x ∷ []) holds.start
      (All-cons P (own.Name x) [] (holds.each (Head x) (All-head Q (Head x) ts h)) (All-nil P))
  started_holds (Name x ∷ ts) h = All-nil P
  started_holds (Text x ∷ ts) h = All-nil P
  started_holds (Code x ∷ ts) h = All-nil P
  started_holds (OneOf x ∷ ts) h = All-nil P
  started_holds (Bar ∷ ts) h = All-nil P
  started_holds (Open ∷ ts) h = All-nil P
  started_holds (Close ∷ ts) h = All-nil P
  started_holds (Question ∷ ts) h = All-nil P
  started_holds (Star ∷ ts) h = All-nil P
  started_holds (Plus ∷ ts) h = All-nil P
  started_holds (Minus ∷ ts) h = All-nil P

  pub own_holds : (ts : List Token) → All Q ts → All P (in_own_notation ts)
  own_holds ts h = subst (All P) (started_within ts) (All-append P (started ts) (within ts) (started_holds ts h) (within_holds ts h))

-- no token is a number
each_fits : (t : Token) → Unit {0} → NumberFits (own_token t)
each_fits (Head x) h = tt
each_fits (Name x) h = tt
each_fits (Text x) h = tt
each_fits (Code x) h = tt
each_fits (OneOf x) h = tt
each_fits Bar h = tt
each_fits Open h = tt
each_fits Close h = tt
each_fits Question h = tt
each_fits Star h = tt
each_fits Plus h = tt
each_fits Minus h = tt

nothing_asked : (ts : List Token) → All (λ t. Unit {0}) ts
nothing_asked [] = All-nil (λ (t : Token). Unit {0})
nothing_asked (t ∷ ts) = All-cons (λ (t : Token). Unit {0}) t ts tt (nothing_asked ts)

pub own_fits : (ts : List Token) → NumbersFit (in_own_notation ts)
own_fits ts =
    own_holds NumberFits (λ t. Unit {0}) (record { start = tt; semicolon = tt; lexical = tt; equals = tt; each = each_fits }) ts (nothing_asked ts)
