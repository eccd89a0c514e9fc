-- Walks along a sequence, and along the alternatives of a group: a member after those before it.
use Rattle.std.proofs.Common.{◌≡◌, ℕ, zero, suc, ◌<◌, ◌+◌, List, [], ◌∷◌, ◌++◌, length, take, get_or, map, sym, ◌∙◌, ap, subst, arith, length-append, Result, Ok, Err}
use Rattle.std.specs.Result.{IsErrAnd}
use Rattle.std.proofs.lemmas.List.{append-nil, map_more, map-append}
use Rattle.ig_grammar.specs.Symbol as tree
use Rattle.ig_grammar.specs.Symbol.{gathered}
use Rattle.ig_grammar.specs.Alternative.{gathered_alternatives}
use Rattle.ig_grammar.specs.Visible.{Visible, inside_sequence, inside_choices, binds, all_bind}
use Rattle.ig_grammar.specs.declared.symbol.Alt.{Alt}
use Rattle.ig_scope.specs.AlternativePlaces.{HaveNumbers}
use Rattle.ig_scope.specs.AlternativesTold.{Walked, from}
use Rattle.ig_scope.specs.declared.places.Surroundings.{Surroundings}
use Rattle.ig_scope.specs.declared.fault.ScopeFault.{ScopeFault}
use Rattle.ig_scope.proofs.Sequences.{inside_append, inside_push, all_bind_push, choices_append, choices_push}
use Rattle.ig_text.specs.Limits.{numbers_end}
use Rattle.ig_text.proofs.Options.{passed_on}
use Rattle.ig_scope.proofs.Walks.{walked_then, walked_cut}

-- a list in front of a member, the member, and those behind it
pub record Splits {X : Type 0} (all front : List X) (x : X) : Type 0 where
  pub rest : List X
  pub whole : all ≡ (front ++ x ∷ []) ++ rest

pub split_at : {X : Type 0} (xs : List X) (i : ℕ) (x : X) → i < length xs → x ≡ get_or xs i x → Splits xs (take i xs) x
split_at [] i x l e = let f : ⊥ = omega arith in absurd f
split_at (y ∷ xs) zero x l e = record { rest = xs; whole = ap (λ z. z ∷ xs) (sym e) }
split_at (y ∷ xs) (suc i) x l e = let h = split_at xs i x (omega arith) e in record { rest = h.rest; whole = ap (λ z. y ∷ z) h.whole }

pub split_map : {X Y : Type 0} (f : X → Y) (xs : List X) (ys : List Y) (i : ℕ) (x : X) → map f xs ≡ ys → i < length xs → x ≡ get_or xs i x →
    Splits ys (map f (take i xs)) (f x)
split_map f xs ys i x m l e =
    let h = split_at xs i x l e in
    record {
      rest = map f h.rest;
      whole = sym m ∙ ap (map f) h.whole ∙ map-append f (take i xs ++ x ∷ []) h.rest ∙ ap (λ z. z ++ map f h.rest) (map-append f (take i xs) (x ∷ []));
    }

pub more_mapped : {X Y : Type 0} (f : X → Y) (xs : List X) (i : ℕ) (x : X) → i < length xs → x ≡ get_or xs i x →
    map f (take (i + 1) xs) ≡ map f (take i xs) ++ f x ∷ []
more_mapped f xs i x l e = map_more f xs i x l ∙ ap (λ z. map f (take i xs) ++ f z ∷ []) (sym e)

longer : {X : Type 0} (all xs ys zs : List X) (n m before : ℕ) → all ≡ (xs ++ ys) ++ zs → n ≡ before + length xs → before + length all < m → n + length ys < m
longer all xs ys zs n m before e p l =
    let a : length all ≡ length (xs ++ ys) + length zs = ap length e ∙ length-append (xs ++ ys) zs in
    let b = length-append xs ys in omega arith

module _ (around : Surroundings) (before : ℕ) (v : Visible) where
  -- of a sequence, the front and the member behind it
  pub sequence_step : (front : List tree.Symbol) (x : tree.Symbol) (mid new : Visible) (next : ℕ) (r : Result ℕ ScopeFault) →
      Walked around before (inside_sequence v (gathered front)) (all_bind v (gathered front)) v mid (Ok next) →
      Walked around next (from mid x) (binds mid x) mid new r →
      Walked around before (inside_sequence v (gathered (front ++ x ∷ []))) (all_bind v (gathered (front ++ x ∷ []))) v new r
  sequence_step front x mid new next r g h =
      subst (λ z. Walked around before z (all_bind v (gathered (front ++ x ∷ []))) v new r) (sym (inside_push v front x))
      (subst (λ z. Walked around before (inside_sequence v (gathered front) ++ from (v ++ all_bind v (gathered front)) x) z v new r) (sym (all_bind_push v front x))
      (walked_then around before next (inside_sequence v (gathered front)) (from (v ++ all_bind v (gathered front)) x)
      (all_bind v (gathered front)) (binds (v ++ all_bind v (gathered front)) x) v mid new r g
      (subst (λ z. Walked around next (from z x) (binds z x) mid new r) g.2 h)))

  pub sequence_stop : (all front : List tree.Symbol) (x : tree.Symbol) (mid new : Visible) (next : ℕ) (fault : ScopeFault) (r : Result ℕ ScopeFault) →
      IsErrAnd r (λ f. f ≡ fault) → Splits all front x →
      Walked around before (inside_sequence v (gathered front)) (all_bind v (gathered front)) v mid (Ok next) →
      Walked around next (from mid x) (binds mid x) mid new (Err fault) →
      Walked around before (inside_sequence v (gathered all)) (all_bind v (gathered all)) v new r
  sequence_stop all front x mid new next fault r p s g h =
      subst (λ z. Walked around before (inside_sequence v (gathered all)) (all_bind v (gathered all)) v new z) (sym (passed_on r fault p))
      (subst (λ z. Walked around before z (all_bind v (gathered all)) v new (Err fault))
      (sym (ap (λ z. inside_sequence v (gathered z)) s.whole ∙ inside_append v (front ++ x ∷ []) s.rest))
      (walked_cut around before (inside_sequence v (gathered (front ++ x ∷ []))) _ (all_bind v (gathered (front ++ x ∷ []))) (all_bind v (gathered all)) v new new fault
      (sequence_step front x mid new next (Err fault) g h)))

  pub sequence_fits : (all front : List tree.Symbol) (x : tree.Symbol) (mid : Visible) (next : ℕ) → Splits all front x →
      Walked around before (inside_sequence v (gathered front)) (all_bind v (gathered front)) v mid (Ok next) →
      HaveNumbers before (inside_sequence v (gathered all)) → HaveNumbers next (from mid x)
  sequence_fits all front x mid next s g l =
      longer (inside_sequence v (gathered all)) (inside_sequence v (gathered front)) (from mid x)
      (inside_sequence (v ++ all_bind v (gathered (front ++ x ∷ []))) (gathered s.rest)) next numbers_end before
      (ap (λ z. inside_sequence v (gathered z)) s.whole ∙ inside_append v (front ++ x ∷ []) s.rest ∙
      ap (λ z. z ++ inside_sequence (v ++ all_bind v (gathered (front ++ x ∷ []))) (gathered s.rest))
      (inside_push v front x ∙ ap (λ z. inside_sequence v (gathered front) ++ from z x) (sym g.2)))
      g.0 l

  -- of a group, the front and the member behind it
  pub choices_step : (front : List Alt) (x : Alt) (mid new : Visible) (b : Visible) (next : ℕ) (r : Result ℕ ScopeFault) →
      Walked around before (inside_choices v (gathered_alternatives front)) [] v mid (Ok next) →
      Walked around next (inside_sequence mid (gathered x.symbols)) b mid new r →
      Walked around before (inside_choices v (gathered_alternatives (front ++ x ∷ []))) b v new r
  choices_step front x mid new b next r g h =
      subst (λ z. Walked around before z b v new r) (sym (choices_push v front x))
      (walked_then around before next (inside_choices v (gathered_alternatives front)) (inside_sequence v (gathered x.symbols))
      [] b v mid new r g
      (subst (λ z. Walked around next (inside_sequence z (gathered x.symbols)) b mid new r) (g.2 ∙ append-nil v) h))

  pub choices_stop : (all front : List Alt) (x : Alt) (mid new b : Visible) (next : ℕ) (fault : ScopeFault) (r : Result ℕ ScopeFault) →
      IsErrAnd r (λ f. f ≡ fault) → Splits all front x →
      Walked around before (inside_choices v (gathered_alternatives front)) [] v mid (Ok next) →
      Walked around next (inside_sequence mid (gathered x.symbols)) b mid new (Err fault) →
      Walked around before (inside_choices v (gathered_alternatives all)) [] v new r
  choices_stop all front x mid new b next fault r p s g h =
      subst (λ z. Walked around before (inside_choices v (gathered_alternatives all)) [] v new z) (sym (passed_on r fault p))
      (subst (λ z. Walked around before z [] v new (Err fault))
      (sym (ap (λ z. inside_choices v (gathered_alternatives z)) s.whole ∙ choices_append v (front ++ x ∷ []) s.rest))
      (walked_cut around before (inside_choices v (gathered_alternatives (front ++ x ∷ []))) _ b [] v new new fault
      (choices_step front x mid new b next (Err fault) g h)))

  pub choices_fits : (all front : List Alt) (x : Alt) (mid : Visible) (next : ℕ) → Splits all front x →
      Walked around before (inside_choices v (gathered_alternatives front)) [] v mid (Ok next) →
      HaveNumbers before (inside_choices v (gathered_alternatives all)) → HaveNumbers next (inside_sequence mid (gathered x.symbols))
  choices_fits all front x mid next s g l =
      longer (inside_choices v (gathered_alternatives all)) (inside_choices v (gathered_alternatives front)) (inside_sequence mid (gathered x.symbols))
      (inside_choices v (gathered_alternatives s.rest)) next numbers_end before
      (ap (λ z. inside_choices v (gathered_alternatives z)) s.whole ∙ choices_append v (front ++ x ∷ []) s.rest ∙
      ap (λ z. z ++ inside_choices v (gathered_alternatives s.rest))
      (choices_push v front x ∙ ap (λ z. inside_choices v (gathered_alternatives front) ++ inside_sequence z (gathered x.symbols)) (sym (g.2 ∙ append-nil v))))
      g.0 l
