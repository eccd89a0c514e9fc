-- Which names are called where only the forms that remain are left.
use Rattle.std.proofs.Common.{◌≡◌, ℕ, List, [], ◌∷◌, ◌++◌, subst}
use Rattle.ig_expr.specs.Expression.{Expression}
use Rattle.ig_grammar.specs.Symbol.{Symbol, Literal, OneOf, Call, Label, Guard, Let, Opt, Star, Plus, SepStar}
use Rattle.ig_grammar.specs.Symbol.{SepPlus, Group, Offside, Ignore, Align}
use Rattle.ig_grammar.specs.Symbol.{Filtered, Seq, Entry, gathered}
use Rattle.ig_grammar.specs.Visible.{Visible, at, binds, inside, inside_sequence}
use Rattle.ig_pass.specs.Remaining.{IsTerm, IsExcluding, Remains}
use Rattle.ig_ebnf_variables.proofs.Remaining.{Calls, AllRemain}
use Rattle.ig_ebnf_variables.proofs.Occurrences.{OfAll, of_both}

module _ (May : List ℕ → Type 0) where
  -- where the symbol is a call, the name may be called
  abbrev pub MayCall : Visible → Symbol → Type 0
  MayCall v x = (name : List ℕ) (es : List Expression) → x ≡ Call name es → May name

  same_call : (m name : List ℕ) (es args : List Expression) → May m → Call m es ≡ Call name args → May name
  same_call m name es args h e = let same : m ≡ name = cc in subst May same h

  term_calls : (x : Symbol) (w : Visible) → IsTerm (Calls May) x → OfAll MayCall (at w x ∷ inside w x)
  term_calls (Literal word) w h = (λ name args e. absurd (cc), tt)
  term_calls (OneOf class) w h = (λ name args e. absurd (cc), tt)
  term_calls (Call m es) w h = (λ name args e. same_call m name es args h e, tt)
  term_calls (Label m x) w h = absurd h
  term_calls (Guard e) w h = absurd h
  term_calls (Let m e) w h = absurd h
  term_calls (Opt x) w h = absurd h
  term_calls (Star x) w h = absurd h
  term_calls (Plus x) w h = absurd h
  term_calls (SepStar x s) w h = absurd h
  term_calls (SepPlus x s) w h = absurd h
  term_calls (Group ys) w h = absurd h
  term_calls (Offside x) w h = absurd h
  term_calls (Ignore x) w h = absurd h
  term_calls (Align x) w h = absurd h
  term_calls (Filtered x fs) w h = absurd h
  term_calls (Seq xs) w h = absurd h
  term_calls (Entry bs x) w h = absurd h

  excluding_calls : (x : Symbol) (w : Visible) → IsExcluding (Calls May) x → OfAll MayCall (at w x ∷ inside w x)
  excluding_calls (Literal word) w h = (λ name args e. absurd (cc), tt)
  excluding_calls (OneOf class) w h = (λ name args e. absurd (cc), tt)
  excluding_calls (Call m es) w h = (λ name args e. same_call m name es args h e, tt)
  excluding_calls (Label m x) w h = absurd h
  excluding_calls (Guard e) w h = absurd h
  excluding_calls (Let m e) w h = absurd h
  excluding_calls (Opt x) w h = absurd h
  excluding_calls (Star x) w h = absurd h
  excluding_calls (Plus x) w h = absurd h
  excluding_calls (SepStar x s) w h = absurd h
  excluding_calls (SepPlus x s) w h = absurd h
  excluding_calls (Group ys) w h = absurd h
  excluding_calls (Offside x) w h = absurd h
  excluding_calls (Ignore x) w h = absurd h
  excluding_calls (Align x) w h = absurd h
  excluding_calls (Filtered x fs) w h = (λ name args e. absurd (cc), term_calls x w h.1)
  excluding_calls (Seq xs) w h = absurd h
  excluding_calls (Entry bs x) w h = absurd h

  remaining_calls : (x : Symbol) (w : Visible) → Remains (Calls May) x → OfAll MayCall (at w x ∷ inside w x)
  remaining_calls (Literal word) w h = (λ name args e. absurd (cc), tt)
  remaining_calls (OneOf class) w h = (λ name args e. absurd (cc), tt)
  remaining_calls (Call m es) w h = (λ name args e. same_call m name es args h e, tt)
  remaining_calls (Label m x) w h = (λ name args e. absurd (cc), excluding_calls x w h)
  remaining_calls (Guard e) w h = (λ name args e. absurd (cc), tt)
  remaining_calls (Let m e) w h = (λ name args e. absurd (cc), tt)
  remaining_calls (Opt x) w h = absurd h
  remaining_calls (Star x) w h = absurd h
  remaining_calls (Plus x) w h = absurd h
  remaining_calls (SepStar x s) w h = absurd h
  remaining_calls (SepPlus x s) w h = absurd h
  remaining_calls (Group ys) w h = absurd h
  remaining_calls (Offside x) w h = absurd h
  remaining_calls (Ignore x) w h = absurd h
  remaining_calls (Align x) w h = absurd h
  remaining_calls (Filtered x fs) w h = (λ name args e. absurd (cc), term_calls x w h.1)
  remaining_calls (Seq xs) w h = absurd h
  remaining_calls (Entry bs x) w h = absurd h

  pub all_calls : (xs : List Symbol) (w : Visible) → AllRemain May xs →
      OfAll MayCall (inside_sequence w (gathered xs))
  all_calls [] w h = tt
  all_calls (x ∷ xs) w h =
      of_both MayCall (at w x ∷ inside w x) (inside_sequence (w ++ binds w x) (gathered xs)) (remaining_calls x w h.0)
      (all_calls xs (w ++ binds w x) h.1)
