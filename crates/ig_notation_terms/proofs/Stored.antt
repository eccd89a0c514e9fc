-- Tokens as they are stored, and as contracts see them.
use Rattle.std.proofs.Common.{◌≡◌, ℕ, zero, suc, ◌+◌, ◌≤◌, ◌<◌, List, [], ◌∷◌, length, drop, refl, sym, ap, subst, arith, get_or}
use Rattle.std.proofs.lemmas.List.{length-map}
use Rattle.ig_notation_syntax.specs.Token.{Token}
use Rattle.ig_notation_syntax.specs.View.{token_of}
use Rattle.ig_notation_syntax.specs.declared.token.Placed.{Placed}
use Rattle.ig_notation_terms.specs.Limits.{meanings}
use Rattle.ig_notation_terms.specs.Readers.{IsPlace, Stands}
use Rattle.ig_notation_terms.specs.Steps.{further}

-- the token of a number
placed_there : (placed : List Placed) (i : ℕ) (p : Placed) → i < length placed → ((d : Placed) → p ≡ get_or placed i d) →
    drop i (meanings placed) ≡ token_of p.token ∷ drop (i + 1) (meanings placed)
placed_there [] i p l e = absurd (omega arith)
placed_there (q ∷ qs) zero p l e = ap (λ z. token_of z.token ∷ meanings qs) (sym (e q))
placed_there (q ∷ qs) (suc i) p l e =
    further (token_of p.token) (token_of q.token) (meanings qs) i (placed_there qs i p (omega arith) e)

within_meanings : (placed : List Placed) (i : ℕ) → i < length placed → i < length (meanings placed)
within_meanings placed i l = rw (length-map placed (λ p. token_of p.token)) l

stands : (placed : List Placed) (i : ℕ) (p : Placed) → i < length placed → IsPlace i → ((d : Placed) → p ≡ get_or placed i d) →
    Stands (meanings placed) i (token_of p.token)
stands placed i p l f e = record {
  there = placed_there placed i p l e;
  within = within_meanings placed i l;
  place = f;
}

-- behind the last token
behind_all : (placed : List Placed) (i : ℕ) → length placed ≤ i → drop i (meanings placed) ≡ []
behind_all [] zero l = refl
behind_all [] (suc i) l = refl
behind_all (p ∷ placed) zero l = absurd (omega arith)
behind_all (p ∷ placed) (suc i) l = behind_all placed i (omega arith)

-- tokens as contracts see them
pub seen : (placed : List Placed) (T : List Token) (i : ℕ) (p : Placed) → meanings placed ≡ T → i < length placed → IsPlace i →
    ((d : Placed) → p ≡ get_or placed i d) → Stands T i (token_of p.token)
seen placed T i p e l f g = subst (λ z. Stands z i (token_of p.token)) e (stands placed i p l f g)

pub seen_past : (placed : List Placed) (T : List Token) (i : ℕ) → meanings placed ≡ T → length placed ≤ i → drop i T ≡ []
seen_past placed T i e l = subst (λ z. drop i z ≡ []) e (behind_all placed i l)

pub as_many : (placed : List Placed) (T : List Token) → meanings placed ≡ T → length placed ≡ length T
as_many placed T e = subst (λ z. length placed ≡ length z) e (sym (length-map placed (λ p. token_of p.token)))
