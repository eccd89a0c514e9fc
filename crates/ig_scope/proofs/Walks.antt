-- Walks over symbols, one after the other.
use Rattle.std.proofs.Common.{◌≡◌, ℕ, zero, ◌+◌, List, [], ◌∷◌, ◌++◌, length, take, refl, sym, ◌∙◌, ap, subst, arith, append_assoc, length-append, Result, Ok, Err}
use Rattle.std.specs.Result.{IsErrAnd}
use Rattle.ig_grammar.specs.Symbol.{Symbol}
use Rattle.std.proofs.lemmas.List.{append-nil}
use Rattle.std.proofs.lemmas.List.Elements.{All-append, All-cons, All-nil}
use Rattle.ig_text.proofs.Options.{passed_on}
use Rattle.ig_grammar.specs.Visible.{Visible, Occurrence, at, inside, binds}
use Rattle.ig_grammar.specs.Condition.{SymbolMeets}
use Rattle.ig_grammar.specs.WellScoped.{IsLeast}
use Rattle.ig_scope.specs.Causes.{condition_of}
use Rattle.ig_scope.specs.AlternativesTold.{here, SymbolFree, SymbolCaught, Walked, fault_at, from}
use Rattle.ig_scope.specs.declared.places.Surroundings.{Surroundings}
use Rattle.ig_scope.specs.declared.cause.ScopeCause.{ScopeCause}
use Rattle.ig_scope.specs.declared.fault.ScopeFault.{ScopeFault}
use Rattle.ig_scope.specs.declared.fault.ScopeFault.TheVariants.{Broken, Memory}
use Rattle.ig_scope.specs.Firsts.{first_left, first_right}

take_front : (xs ys : Visible) → take (length xs) (xs ++ ys) ≡ xs
take_front [] ys = refl
take_front (x ∷ xs) ys = ap (λ z. x ∷ z) (take_front xs ys)

module _ (around : Surroundings) where
  -- nothing passed
  pub walked_none : (before : ℕ) (old : Visible) → Walked around before [] [] old old (Ok before)
  walked_none before old = (omega arith, All-nil (SymbolFree around.declarations.now around.kind), sym (append-nil old))

  -- a symbol itself passed
  pub walked_itself : (before : ℕ) (o : Occurrence) (old : Visible) → SymbolFree around.declarations.now around.kind o →
      Walked around before (o ∷ []) [] old old (Ok (before + 1))
  walked_itself before o old f =
      (refl, All-cons (SymbolFree around.declarations.now around.kind) o [] f (All-nil (SymbolFree around.declarations.now around.kind)), sym (append-nil old))

  -- the fault is at a symbol itself
  pub walked_fault : (before : ℕ) (o : Occurrence) (os : List Occurrence) (binding old new : Visible) (cause : ScopeCause) (fault : ScopeFault) →
      IsLeast (SymbolMeets around.declarations.now around.kind o.visible o.symbol) (condition_of cause) →
      fault ≡ fault_at around cause before →
      Walked around before (o ∷ os) binding old new (Err fault)
  walked_fault before o os binding old new cause fault h e =
      subst (λ f. Walked around before (o ∷ os) binding old new (Err f)) (sym e)
      (zero, ap (λ n. record { decl = around.decl; alt = around.alt; symbol = n }) (let z : before + 1 ≡ before + 0 + 1 = omega arith in z), here o os h)

  -- a fault among the first symbols
  pub walked_cut : (before : ℕ) (os others : List Occurrence) (b c old mid new : Visible) (fault : ScopeFault) →
      Walked around before os b old mid (Err fault) → Walked around before (os ++ others) c old new (Err fault)
  walked_cut before os others b c old mid new (Broken cause place) h =
      (h.0, h.1, first_left (SymbolFree around.declarations.now around.kind) (SymbolCaught around.declarations.now around.kind (condition_of cause)) os others h.0 h.2)
  walked_cut before os others b c old mid new Memory h = tt

  -- symbols after symbols that were passed
  pub walked_then : (before next : ℕ) (os others : List Occurrence) (b c old mid new : Visible) (r : Result ℕ ScopeFault) →
      Walked around before os b old mid (Ok next) → Walked around next others c mid new r →
      Walked around before (os ++ others) (b ++ c) old new r
  walked_then before next os others b c old mid new (Ok n) g h = (
    (let e = g.0 in let f = h.0 in let l = length-append os others in omega arith),
    All-append (SymbolFree around.declarations.now around.kind) os others g.1 h.1,
    h.2 ∙ ap (λ z. z ++ c) g.2 ∙ append_assoc old b c,
  )
  walked_then before next os others b c old mid new (Err (Broken cause place)) g h = (
    length os + h.0,
    h.1 ∙ ap (λ n. record { decl = around.decl; alt = around.alt; symbol = n })
        (let e = g.0 in let z : next + h.0 + 1 ≡ before + (length os + h.0) + 1 = omega arith in z),
    first_right (SymbolFree around.declarations.now around.kind) (SymbolCaught around.declarations.now around.kind (condition_of cause)) os others h.0 (length os + h.0) g.1 h.2 refl,
  )
  walked_then before next os others b c old mid new (Err Memory) g h = tt

  -- what was bound is cut off again
  pub walked_apart : (before next : ℕ) (os : List Occurrence) (b old new cut : Visible) →
      Walked around before os b old new (Ok next) → cut ≡ take (length old) new →
      Walked around before os [] old cut (Ok next)
  walked_apart before next os b old new cut h e =
      (h.0, h.1, e ∙ ap (take (length old)) h.2 ∙ take_front old b ∙ sym (append-nil old))

  -- one more is bound
  pub walked_bound : (before next : ℕ) (os : List Occurrence) (b c old new more : Visible) →
      Walked around before os b old new (Ok next) → more ≡ new ++ c →
      Walked around before os (b ++ c) old more (Ok next)
  walked_bound before next os b c old new more h e = (h.0, h.1, e ∙ ap (λ z. z ++ c) h.2 ∙ append_assoc old b c)

  -- other variables were bound inside, and those outside are as before
  pub walked_aside : (before : ℕ) (os : List Occurrence) (b old inner new : Visible) (r : Result ℕ ScopeFault) →
      Walked around before os b inner new r → Walked around before os [] old old r
  walked_aside before os b old inner new (Ok n) h = (h.0, h.1, sym (append-nil old))
  walked_aside before os b old inner new (Err (Broken cause place)) h = h
  walked_aside before os b old inner new (Err Memory) h = tt

  -- a symbol itself was passed, and then those inside it
  pub walked_inside : (before : ℕ) (o : Occurrence) (os : List Occurrence) (b old new : Visible) (r : Result ℕ ScopeFault) →
      SymbolFree around.declarations.now around.kind o → Walked around (before + 1) os b old new r →
      Walked around before (o ∷ os) b old new r
  walked_inside before o os b old new r f h =
      walked_then before (before + 1) (o ∷ []) os [] b old old new r (walked_itself before o old f) h

  -- a symbol of a form was passed itself, and then those inside it
  pub walked_form : (before : ℕ) (old new : Visible) (s y : Symbol) (os : List Occurrence) (b : Visible) (r : Result ℕ ScopeFault) →
      s ≡ y → inside old y ≡ os → binds old y ≡ b → SymbolFree around.declarations.now around.kind (at old s) →
      Walked around (before + 1) os b old new r →
      Walked around before (from old s) (binds old s) old new r
  walked_form before old new s y os b r e i k f h =
      subst (λ z. Walked around before (at old s ∷ inside old z) (binds old z) old new r) (sym e)
      (walked_inside before (at old s) (inside old y) (binds old y) old new r f
      (subst (λ z. Walked around (before + 1) z (binds old y) old new r) (sym i)
      (subst (λ z. Walked around (before + 1) os z old new r) (sym k) h)))

  -- after a fault nothing is said of what is bound
  pub walked_stopped : (before : ℕ) (os : List Occurrence) (b c old mid new : Visible) (fault : ScopeFault) →
      Walked around before os b old mid (Err fault) → Walked around before os c old new (Err fault)
  walked_stopped before os b c old mid new (Broken cause place) h = h
  walked_stopped before os b c old mid new Memory h = tt

  -- the same, where the fault is passed on
  pub walked_form_stopped : (before : ℕ) (old mid new : Visible) (s y : Symbol) (os others : List Occurrence) (b : Visible) (fault : ScopeFault)
      (r : Result ℕ ScopeFault) → IsErrAnd r (λ f. f ≡ fault) →
      s ≡ y → inside old y ≡ os ++ others → SymbolFree around.declarations.now around.kind (at old s) →
      Walked around (before + 1) os b old mid (Err fault) →
      Walked around before (from old s) (binds old s) old new r
  walked_form_stopped before old mid new s y os others b fault r p e i f h =
      subst (λ z. Walked around before (from old s) (binds old s) old new z) (sym (passed_on r fault p))
      (walked_form before old new s y (os ++ others) (binds old y) (Err fault) e i refl f
      (walked_cut (before + 1) os others b (binds old y) old mid new fault h))

  -- an item and a separator, which bind nothing
  pub walked_pair : (before next : ℕ) (old mid new : Visible) (x y : Symbol) (r : Result ℕ ScopeFault) →
      Walked around before (from old x) [] old mid (Ok next) →
      Walked around next (from mid y) [] mid new r →
      Walked around before (from old x ++ from old y) [] old new r
  walked_pair before next old mid new x y r g h =
      walked_then before next (from old x) (from old y) [] [] old mid new r g
      (subst (λ z. Walked around next (from z y) [] mid new r) (g.2 ∙ append-nil old) h)
