-- In each notation of which a separator is no token, and ends at one place, a text has one list of tokens, or breaks at one
-- place.
use Rattle.std.proofs.Common.{◌≡◌, ◌∙◌, ℕ, ◌+◌, ◌<◌, ◌⊎◌, inl, inr, List, [], ◌∷◌, ◌++◌, length, refl, sym, ap, subst, arith}
use Rattle.std.proofs.lemmas.List.{append_cancel_right}
use Rattle.ig_notation_syntax.specs.Texts.{bytes, IsLongest, IsBroken, Lexes, nothing, a_separator, a_token, Breaks, here, past_separator, past_token}

pub record Given {Token : Type 0} (First : List ℕ → Token → List ℕ → Type 0) (Separates : List ℕ → List ℕ → Type 0) : Type 0 where
  pub one_separator : (text a b : List ℕ) → Separates text a → Separates text b → a ≡ b
  pub apart : (text a b : List ℕ) (t : Token) → Separates text a → First text t b → ⊥
  pub some_separator : (a : List ℕ) → Separates [] a → ⊥
  pub some_token : (t : Token) (a : List ℕ) → First [] t a → ⊥

-- two longest tokens are one
pub one_longest : {Token : Type 0} (First : List ℕ → Token → List ℕ → Type 0) (text a b : List ℕ) (t u : Token) → IsLongest First text t a →
    IsLongest First text u b → (u ≡ t) × (b ≡ a)
one_longest First text a b t u l m = go (l.longest u b m.stands) (m.longest t a l.stands)
  where
    go : (length a < length b) ⊎ ((u ≡ t) × (b ≡ a)) → (length b < length a) ⊎ ((t ≡ u) × (a ≡ b)) → (u ≡ t) × (b ≡ a)
    go (inr e) s = e
    go (inl h) (inr e) = (sym e.0, sym e.1)
    go (inl h) (inl k) = absurd (omega arith)

same_place : (at n m : ℕ) (text front other rest : List ℕ) → text ≡ front ++ rest → text ≡ other ++ rest → n ≡ at + bytes front →
    m ≡ at + bytes other → m ≡ n
same_place at n m text front other rest p q e f =
    let s : front ≡ other = append_cancel_right front other rest (sym p ∙ q) in
    f ∙ ap (λ (z : List ℕ). at + bytes z) (sym s) ∙ sym e

module _ {Token : Type 0} (First : List ℕ → Token → List ℕ → Type 0) (Separates : List ℕ → List ℕ → Type 0) (given : Given First Separates) where
  none_separates : {text a : List ℕ} → Separates text a → text ≡ [] → ⊥
  none_separates {text} {a} s e = given.some_separator a (subst (λ z. Separates z a) e s)

  none_longest : {text a : List ℕ} {t : Token} → IsLongest First text t a → text ≡ [] → ⊥
  none_longest {text} {a} {t} l e = given.some_token t a (subst (λ z. First z t a) e l.stands)

  behind_separator : {at : ℕ} {text : List ℕ} {us : List (Token × ℕ)} → Lexes First Separates at text us → (n : ℕ) (front rest : List ℕ) →
      Separates text rest → text ≡ front ++ rest → n ≡ at + bytes front → Lexes First Separates n rest us
  behind_separator (nothing at text e) n front rest h p q = absurd (none_separates h e)
  behind_separator (a_token at m text other r t us e o f l) n front rest h p q = absurd (given.apart text rest r t h e.stands)
  behind_separator (a_separator at m text other r us e o f l) n front rest h p q =
      let s : r ≡ rest = given.one_separator text r rest e h in
      let k = same_place at n m text front other rest p (o ∙ ap (λ (z : List ℕ). other ++ z) s) q f in
      subst (λ (z : ℕ). Lexes First Separates z rest us) k (subst (λ (z : List ℕ). Lexes First Separates m z us) s l)

  record BehindToken (n : ℕ) (rest : List ℕ) (t : Token) (at : ℕ) (us : List (Token × ℕ)) : Type 0 where
    pub others : List (Token × ℕ)
    pub parts : us ≡ (t, at) ∷ others
    pub lexes : Lexes First Separates n rest others

  behind_token : {at : ℕ} {text : List ℕ} {us : List (Token × ℕ)} → Lexes First Separates at text us → (n : ℕ) (front rest : List ℕ) (t : Token) →
      IsLongest First text t rest → text ≡ front ++ rest → n ≡ at + bytes front → BehindToken n rest t at us
  behind_token (nothing at text e) n front rest t h p q = absurd (none_longest h e)
  behind_token (a_separator at m text other r us e o f l) n front rest t h p q = absurd (given.apart text r rest t e h.stands)
  behind_token (a_token at m text other r u us e o f l) n front rest t h p q =
      let x = one_longest First text rest r t u h e in
      let k = same_place at n m text front other rest p (o ∙ ap (λ (z : List ℕ). other ++ z) x.1) q f in
      record {
        others = us;
        parts = ap (λ (z : Token). (z, at) ∷ us) x.0;
        lexes = subst (λ (z : ℕ). Lexes First Separates z rest us) k (subst (λ (z : List ℕ). Lexes First Separates m z us) x.1 l);
      }

  none_behind : {at : ℕ} {text : List ℕ} {us : List (Token × ℕ)} → Lexes First Separates at text us → text ≡ [] → us ≡ []
  none_behind (nothing at text e) h = refl
  none_behind (a_separator at m text other r us e o f l) h = absurd (none_separates e h)
  none_behind (a_token at m text other r u us e o f l) h = absurd (none_longest e h)

  pub one_list : {at : ℕ} {text : List ℕ} {ts : List (Token × ℕ)} → Lexes First Separates at text ts → (us : List (Token × ℕ)) →
      Lexes First Separates at text us → ts ≡ us
  one_list (nothing at text e) us u = sym (none_behind u e)
  one_list (a_separator at n text front rest ts e p q l) us u = one_list l us (behind_separator u n front rest e p q)
  one_list (a_token at n text front rest t ts e p q l) us u =
      let b = behind_token u n front rest t e p q in
      ap (λ (z : List (Token × ℕ)). (t, at) ∷ z) (one_list l b.others b.lexes) ∙ sym b.parts

  breaks_behind_separator : {at : ℕ} {text : List ℕ} {b : ℕ} → Breaks First Separates at text b → (n : ℕ) (front rest : List ℕ) →
      Separates text rest → text ≡ front ++ rest → n ≡ at + bytes front → Breaks First Separates n rest b
  breaks_behind_separator (here at text e) n front rest h p q = absurd (e.no_separator rest h)
  breaks_behind_separator (past_token at m text other r t b e o f l) n front rest h p q = absurd (given.apart text rest r t h e.stands)
  breaks_behind_separator (past_separator at m text other r b e o f l) n front rest h p q =
      let s : r ≡ rest = given.one_separator text r rest e h in
      let k = same_place at n m text front other rest p (o ∙ ap (λ (z : List ℕ). other ++ z) s) q f in
      subst (λ (z : ℕ). Breaks First Separates z rest b) k (subst (λ (z : List ℕ). Breaks First Separates m z b) s l)

  breaks_behind_token : {at : ℕ} {text : List ℕ} {b : ℕ} → Breaks First Separates at text b → (n : ℕ) (front rest : List ℕ) (t : Token) →
      IsLongest First text t rest → text ≡ front ++ rest → n ≡ at + bytes front → Breaks First Separates n rest b
  breaks_behind_token (here at text e) n front rest t h p q = absurd (e.no_token t rest h.stands)
  breaks_behind_token (past_separator at m text other r b e o f l) n front rest t h p q = absurd (given.apart text r rest t e h.stands)
  breaks_behind_token (past_token at m text other r u b e o f l) n front rest t h p q =
      let x = one_longest First text rest r t u h e in
      let k = same_place at n m text front other rest p (o ∙ ap (λ (z : List ℕ). other ++ z) x.1) q f in
      subst (λ (z : ℕ). Breaks First Separates z rest b) k (subst (λ (z : List ℕ). Breaks First Separates m z b) x.1 l)

  breaks_here : {at : ℕ} {text : List ℕ} {b : ℕ} → Breaks First Separates at text b → IsBroken First Separates text → at ≡ b
  breaks_here (here at text e) h = refl
  breaks_here (past_separator at m text other r b e o f l) h = absurd (h.no_separator r e)
  breaks_here (past_token at m text other r u b e o f l) h = absurd (h.no_token u r e.stands)

  pub one_break : {at : ℕ} {text : List ℕ} {a : ℕ} → Breaks First Separates at text a → (b : ℕ) → Breaks First Separates at text b → a ≡ b
  one_break (here at text e) b u = breaks_here u e
  one_break (past_separator at n text front rest a e p q l) b u = one_break l b (breaks_behind_separator u n front rest e p q)
  one_break (past_token at n text front rest t a e p q l) b u = one_break l b (breaks_behind_token u n front rest t e p q)

  never_ended : {at : ℕ} {text : List ℕ} {b : ℕ} → Breaks First Separates at text b → text ≡ [] → ⊥
  never_ended (here at text e) h = e.no_end h
  never_ended (past_separator at m text other r b e o f l) h = none_separates e h
  never_ended (past_token at m text other r u b e o f l) h = none_longest e h

  pub not_both : {at : ℕ} {text : List ℕ} {ts : List (Token × ℕ)} → Lexes First Separates at text ts → (b : ℕ) →
      Breaks First Separates at text b → ⊥
  not_both (nothing at text e) b u = never_ended u e
  not_both (a_separator at n text front rest ts e p q l) b u = not_both l b (breaks_behind_separator u n front rest e p q)
  not_both (a_token at n text front rest t ts e p q l) b u = not_both l b (breaks_behind_token u n front rest t e p q)
