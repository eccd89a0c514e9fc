-- The limits of tokens, token by token, and the byte of a token.
use Rattle.std.proofs.Common.{◌≡◌, ◌↔◌, Bool, true, false, ℕ, zero, suc, ◌+◌, ◌≤◌, ◌<◌, List, [], ◌∷◌, ◌++◌, length, drop, get_or, refl, sym, ap, subst, arith}
use Rattle.std.specs.Prelude.{IsTrue}
use Rattle.std.proofs.lemmas.Bool.Decides.{not_from_Decides}
use Rattle.std.proofs.lemmas.List.{drop_more, drop_all}
use Rattle.std.proofs.lemmas.List.Elements.{All-nil, All-cons, All-head, All-tail}
use Rattle.ig_text.specs.Limits.{integers_end}
use Rattle.ig_notation_syntax.specs.Token.{Token, Number}
use Rattle.ig_notation_syntax.specs.View.{token_of, tokens_of}
use Rattle.ig_notation_syntax.specs.declared.token.Placed.{Placed}
use Rattle.ig_notation_terms.specs.Limits.{meanings, byte_of, most_open, NumberFits, NumbersFit, opened, open_behind, IsShallowFrom, IsShallow}

-- the tokens from a number on
pub there : (placed : List Placed) (i : ℕ) (d : Placed) → i < length placed →
    meanings (drop i placed) ≡ token_of (get_or placed i d).token ∷ meanings (drop (i + 1) placed)
there placed i d l = ap meanings (drop_more placed i d l)

pub past : (placed : List Placed) (i : ℕ) → length placed ≤ i → meanings (drop i placed) ≡ []
past placed i l = ap meanings (drop_all i placed l)

-- what a test says
untrue : (P : Type 0) → (P → ⊥) → IsTrue false ↔ P
untrue P f = (λ t. let e : false ≡ true = t in absurd (cc), λ p. absurd (f p))

found_true : (P : Type 0) → P → IsTrue true ↔ P
found_true P p = (λ t. p, λ q. refl)

-- numbers
pub too_large : (n : ℕ) → integers_end ≤ n → IsTrue false ↔ NumberFits (Number n)
too_large n l = untrue (n < integers_end) (λ f. omega arith)

-- all numbers fit exactly where the others do
pub record Fitting (all others : List Token) : Type 0 where
  pub back : NumbersFit others → NumbersFit all
  pub forth : NumbersFit all → NumbersFit others

pub one_misfit : (all others u : List Token) (t : Token) (b : Bool) → Fitting all others → others ≡ t ∷ u → (IsTrue b ↔ NumberFits t) →
    b ≡ false → IsTrue false ↔ NumbersFit all
one_misfit all others u t b o e h f =
    untrue (NumbersFit all) (λ a. not_from_Decides b h f (All-head NumberFits t u (subst NumbersFit e (o.forth a))))

pub one_fits : (all others u : List Token) (t : Token) (b : Bool) → Fitting all others → others ≡ t ∷ u → (IsTrue b ↔ NumberFits t) →
    b ≡ true → Fitting all u
one_fits all others u t b o e h f = record {
  back = λ a. o.back (subst NumbersFit (sym e) (All-cons NumberFits t u (h.0 f) a));
  forth = λ a. All-tail NumberFits t u (subst NumbersFit e (o.forth a));
}

pub all_fit : (all others : List Token) → Fitting all others → others ≡ [] → IsTrue true ↔ NumbersFit all
all_fit all others o e = found_true (NumbersFit all) (o.back (subst NumbersFit (sym e) (All-nil NumberFits)))

-- n brackets are open before the others, and all tokens are shallow exactly where these are
pub record Open (all others : List Token) (n : ℕ) : Type 0 where
  pub few : n ≤ most_open
  pub back : IsShallowFrom n others → IsShallow all
  pub forth : IsShallow all → IsShallowFrom n others

pub open_at_start : (all : List Token) → Open all all 0
open_at_start all = record { few = omega arith; back = λ f. f; forth = λ f. f }

shallow_end : (n : ℕ) → n ≤ most_open → (front rest : List Token) → [] ≡ front ++ rest → open_behind n front ≤ most_open
shallow_end n l [] rest e = l
shallow_end n l (x ∷ xs) rest e = absurd (cc)

shallow_next : (n : ℕ) (t : Token) (u : List Token) → IsShallowFrom n (t ∷ u) → IsShallowFrom (opened n t) u
shallow_next n t u f = λ front rest e. f (t ∷ front) rest (ap (λ z. t ∷ z) e)

shallow_before : (n : ℕ) (t : Token) (u : List Token) → n ≤ most_open → IsShallowFrom (opened n t) u →
    (front rest : List Token) → t ∷ u ≡ front ++ rest → open_behind n front ≤ most_open
shallow_before n t u l f [] rest e = l
shallow_before n t u l f (x ∷ xs) rest e =
    let same : t ≡ x = cc in
    let others : u ≡ xs ++ rest = cc in
    subst (λ z. open_behind (opened n z) xs ≤ most_open) same (f xs rest others)

pub too_many : (all others u : List Token) (t : Token) (n m : ℕ) → Open all others n → others ≡ t ∷ u → m ≡ opened n t → most_open < m →
    IsTrue false ↔ IsShallow all
too_many all others u t n m o e h l =
    untrue (IsShallow all)
    (λ f. let k : opened n t ≤ most_open = shallow_next n t u (subst (IsShallowFrom n) e (o.forth f)) [] u refl in omega (arith, h))

pub one_opened : (all others u : List Token) (t : Token) (n m : ℕ) → Open all others n → others ≡ t ∷ u → m ≡ opened n t → m ≤ most_open →
    Open all u m
one_opened all others u t n m o e h l = record {
  few = l;
  back = λ f. o.back (subst (IsShallowFrom n) (sym e) (shallow_before n t u o.few (subst (λ z. IsShallowFrom z u) h f)));
  forth = λ f. subst (λ z. IsShallowFrom z u) (sym h) (shallow_next n t u (subst (IsShallowFrom n) e (o.forth f)));
}

pub all_shallow : (all others : List Token) (n : ℕ) → Open all others n → others ≡ [] → IsTrue true ↔ IsShallow all
all_shallow all others n o e = found_true (IsShallow all) (o.back (subst (IsShallowFrom n) (sym e) (shallow_end n o.few)))

-- the byte of a token
pub byte_there : (end : ℕ) (placed : List Placed) (i : ℕ) (p : Placed) → i < length placed → ((d : Placed) → p ≡ get_or placed i d) →
    p.at ≡ byte_of end (tokens_of placed) i
byte_there end [] i p l e = absurd (omega arith)
byte_there end (q ∷ qs) zero p l e = ap (λ z. z.at) (e q)
byte_there end (q ∷ qs) (suc i) p l e = byte_there end qs i p (omega arith) e

pub byte_past : (end : ℕ) (placed : List Placed) (i : ℕ) → length placed ≤ i → end ≡ byte_of end (tokens_of placed) i
byte_past end [] i l = refl
byte_past end (q ∷ qs) zero l = absurd (omega arith)
byte_past end (q ∷ qs) (suc i) l = byte_past end qs i (omega arith)
