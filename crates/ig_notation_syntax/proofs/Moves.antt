-- Moves of the machine, for the readers of parts: what it does at a token, at the end, and with wants that come to the
-- same.
use Rattle.std.proofs.Common.{◌≡◌, ℕ, suc, List, [], ◌∷◌, ◌++◌, refl, ap, Bool, true, false}
use Rattle.std.specs.Prelude.{Option, Some, None}
use Rattle.std.proofs.lemmas.List.{append_assoc}
use Rattle.ig_notation_syntax.specs.Token.{Token, Name, Colon, Question, Star, Plus, Minus, OpenBrace, Start, Tabs, Offside, Ignore, Align, When, Let, Not}
use Rattle.ig_notation_syntax.specs.Machine.{Want, grammar, body, declarations, declaration, alternative, symbol, marked, post, atom, expression, term, operator_rest, filters, sign, name_rest}
use Rattle.ig_notation_syntax.specs.Machine.{before, may_lack, after, after_symbol, after_declaration, chosen, step, go, run}

-- a token that the stack takes, and one that it doesn't
pub run_takes : (n : ℕ) (k j : List Want) (t : Token) (u : List Token) → step k t ≡ Some j → run n k (t ∷ u) ≡ run (suc n) j u
run_takes n k j t u e = ap (λ o. go n (λ next. run (suc n) next u) o) e

pub run_stuck : (n : ℕ) (k : List Want) (t : Token) (u : List Token) → step k t ≡ None → run n k (t ∷ u) ≡ Some n
run_stuck n k t u e = ap (λ o. go n (λ next. run (suc n) next u) o) e

-- what may lack, before a token that takes none of its rows, and at the end
step_past : (o : Option (List Want)) (b : Bool) (k : List Want) (past : Option (List Want)) → o ≡ None → b ≡ true → chosen o b k past ≡ past
step_past o b k past e f = rw (e, f) refl

pub step_lacks : (x : Want) (k : List Want) (t : Token) → may_lack x ≡ true → after x t ≡ None → step (x ∷ k) t ≡ step k t
step_lacks x k t e f = step_past (after x t) (may_lack x) k (step k t) f e

-- stacks that do the same at a token do the same on it and what is behind it
pub run_same : (n : ℕ) (k j : List Want) (t : Token) (u : List Token) → step k t ≡ step j t → run n k (t ∷ u) ≡ run n j (t ∷ u)
run_same n k j t u e = ap (λ o. go n (λ next. run (suc n) next u) o) e

pub run_lacks : (n : ℕ) (x : Want) (k : List Want) (t : Token) (u : List Token) → may_lack x ≡ true → after x t ≡ None →
    run n (x ∷ k) (t ∷ u) ≡ run n k (t ∷ u)
run_lacks n x k t u e f = run_same n (x ∷ k) k t u (step_lacks x k t e f)

pub run_lacks_at_end : (n : ℕ) (x : Want) (k : List Want) → may_lack x ≡ true → run n (x ∷ k) [] ≡ run n k []
run_lacks_at_end n x k e = rw e refl

-- what may not lack stops the machine at the end, and at a token that takes none of its rows
pub run_wants_at_end : (n : ℕ) (x : Want) (k : List Want) → may_lack x ≡ false → run n (x ∷ k) [] ≡ Some n
run_wants_at_end n x k e = rw e refl

step_wants : (o : Option (List Want)) (b : Bool) (k : List Want) (past : Option (List Want)) → o ≡ None → b ≡ false → chosen o b k past ≡ None
step_wants o b k past e f = rw (e, f) refl

pub run_wants : (n : ℕ) (x : Want) (k : List Want) (t : Token) (u : List Token) → may_lack x ≡ false → after x t ≡ None →
    run n (x ∷ k) (t ∷ u) ≡ Some n
run_wants n x k t u e f = run_stuck n (x ∷ k) t u (step_wants (after x t) (may_lack x) k (step k t) f e)

-- rows with more behind them
chosen_before : (o : Option (List Want)) (rest k : List Want) (a b : Option (List Want)) →
    chosen (before rest o) false k a ≡ chosen o false (rest ++ k) b
chosen_before None rest k a b = refl
chosen_before (Some row) rest k a b = ap Some (append_assoc row rest k)

-- wants that come to others at a token
pub expression_at : (k : List Want) (t : Token) → (t ≡ Not → ⊥) → (t ≡ Minus → ⊥) → step (expression ∷ k) t ≡ step (term ∷ operator_rest ∷ k) t
expression_at k Not h i = absurd (h refl)
expression_at k Minus h i = absurd (i refl)
expression_at k t h i = chosen_before (after term t) (operator_rest ∷ []) k (step k t) (step (operator_rest ∷ k) t)

pub post_at : (k : List Want) (t : Token) → (t ≡ OpenBrace → ⊥) → step (post ∷ k) t ≡ step (atom ∷ sign ∷ filters ∷ k) t
post_at k OpenBrace h = absurd (h refl)
post_at k t h = chosen_before (after atom t) (sign ∷ filters ∷ []) k (step k t) (step (sign ∷ filters ∷ k) t)

pub marked_at : (k : List Want) (t : Token) → (t ≡ Offside → ⊥) → (t ≡ Ignore → ⊥) → (t ≡ Align → ⊥) → step (marked ∷ k) t ≡ step (post ∷ k) t
marked_at k Offside f g h = absurd (f refl)
marked_at k Ignore f g h = absurd (g refl)
marked_at k Align f g h = absurd (h refl)
marked_at k t f g h = refl

pub symbol_at : (k : List Want) (t : Token) → (t ≡ When → ⊥) → (t ≡ Let → ⊥) → ((x : List ℕ) → t ≡ Name x → ⊥) →
    step (symbol ∷ k) t ≡ step (marked ∷ k) t
symbol_at k When f g h = absurd (f refl)
symbol_at k Let f g h = absurd (g refl)
symbol_at k (Name x) f g h = absurd (h x refl)
symbol_at k t f g h = refl

pub name_rest_at : (k : List Want) (t : Token) → (t ≡ Colon → ⊥) → step (name_rest ∷ k) t ≡ step (sign ∷ filters ∷ k) t
name_rest_at k Colon h = absurd (h refl)
name_rest_at k Question h = refl
name_rest_at k Star h = refl
name_rest_at k Plus h = refl
name_rest_at k t h = refl

-- a symbol in an alternative, and a declaration among others
more_of : (o : Option (List Want)) (row rest k : List Want) (b : Bool) (a c : Option (List Want)) → o ≡ Some row →
    chosen (before rest o) b k a ≡ chosen o false (rest ++ k) c
more_of o row rest k b a c e = rw e (ap Some (append_assoc row rest k))

pub alternative_at : (k : List Want) (t : Token) (row : List Want) → after_symbol t ≡ Some row →
    step (alternative ∷ k) t ≡ step (symbol ∷ alternative ∷ k) t
alternative_at k t row e = more_of (after_symbol t) row (alternative ∷ []) k true (step k t) (step (alternative ∷ k) t) e

pub declarations_at : (k : List Want) (t : Token) (row : List Want) → after_declaration t ≡ Some row →
    step (declarations ∷ k) t ≡ step (declaration ∷ declarations ∷ k) t
declarations_at k t row e = more_of (after_declaration t) row (declarations ∷ []) k true (step k t) (step (declarations ∷ k) t) e

pub body_at : (k : List Want) (t : Token) → (t ≡ Tabs → ⊥) → step (body ∷ k) t ≡ step (declarations ∷ k) t
body_at k Tabs h = absurd (h refl)
body_at k t h = refl

pub grammar_at : (k : List Want) (t : Token) → (t ≡ Start → ⊥) → step (grammar ∷ k) t ≡ step (body ∷ k) t
grammar_at k Start h = absurd (h refl)
grammar_at k t h = refl
