-- What the machine does with single tokens, and how what readers promise is put together. A clause ranges over no properties
-- of tokens, so these facts stand here with their proofs, and not as laws; nothing of this file has to be believed.
use Rattle.std.proofs.Common.{◌≡◌, ℕ, zero, suc, ◌+◌, ◌≤◌, ◌<◌, List, [], ◌∷◌, ◌++◌, length, drop, refl, sym, ap, subst, ◌∙◌, Bool, true, false, arith, get_or, append_assoc, add-one}
use Rattle.std.specs.Prelude.{All, Result, Ok, Err, IfErr, Option, Some, None, ◌&&◌, if◌then◌else◌}
use Rattle.std.specs.Result.{IsErrAnd}
use Rattle.ig_notation_syntax.specs.Token.{Token}
use Rattle.ig_notation_syntax.specs.View.{token_of}
use Rattle.ig_notation_syntax.specs.declared.token.Token.{Token as Stored}
use Rattle.ig_notation_syntax.specs.Machine.{Want, may_lack, all_may_lack, after, before, chosen, step, go, run}
use Rattle.ig_notation_syntax.specs.Reading.{Goes}
use Rattle.ig_notation_terms.specs.declared.fault.RuleFault.{RuleFault}
use Rattle.ig_notation_terms.specs.declared.fault.RuleFault.TheVariants.{Unexpected, Memory}
use Rattle.ig_notation_terms.specs.Readers.{Stands, Takes, Misses, at_end, at_token, MissesAt, EndsAt, StopsAt, Runs, Finds, Behind, After}

-- one number farther
pub further : (t u : Token) (T : List Token) (i : ℕ) → drop i T ≡ t ∷ drop (i + 1) T → drop (suc i) (u ∷ T) ≡ t ∷ drop (suc i + 1) (u ∷ T)
further t u T i e = rw add-one (rw add-one at e)

-- a token that the want begins with, and none where it may lack
step_taken : (w : Want) (row behind : List Want) (t : Token) (u : List Token) (n : ℕ) → after w t ≡ Some row →
    run n (w ∷ behind) (t ∷ u) ≡ run (n + 1) (row ++ behind) u
step_taken w row behind t u n e = rw (e, add-one) refl

pub taken : (w : Want) (row : List Want) (t : Token) (T : List Token) (i : ℕ) → Stands T i t → after w t ≡ Some row → Runs (w ∷ []) row T i (i + 1)
taken w row t T i s e =
    record {
      go_on = λ behind. subst (λ z. run i (w ∷ behind) z ≡ run (i + 1) (row ++ behind) (drop (i + 1) T)) (sym s.there)
          (step_taken w row behind t (drop (i + 1) T) i e);
    }

end_passed : (b : Bool) (n : ℕ) (k : List Want) → b ≡ true → (if b && all_may_lack k then None else Some n) ≡ (if all_may_lack k then None else Some n)
end_passed b n k e = rw e refl

step_passed : (w : Want) (behind : List Want) (t : Token) (u : List Token) (n : ℕ) → after w t ≡ None → may_lack w ≡ true →
    run n (w ∷ behind) (t ∷ u) ≡ run n behind (t ∷ u)
step_passed w behind t u n e f = rw (e, f) refl

pub passed : (w : Want) (T : List Token) (i : ℕ) → may_lack w ≡ true → Misses w T i → Runs (w ∷ []) [] T i i
passed w T i f (at_end e) =
    record { go_on = λ behind. subst (λ z. run i (w ∷ behind) z ≡ run i behind z) (sym e) (end_passed (may_lack w) i behind f) }
passed w T i f (at_token t s e) =
    record {
      go_on = λ behind. subst (λ z. run i (w ∷ behind) z ≡ run i behind z) (sym s.there)
          (step_passed w behind t (drop (i + 1) T) i e f);
    }

-- the machine stops where the want may not lack
end_stops : (b : Bool) (n : ℕ) (k : List Want) → b ≡ false → (if b && all_may_lack k then None else Some n) ≡ Some n
end_stops b n k e = rw e refl

step_stops : (w : Want) (behind : List Want) (t : Token) (u : List Token) (n : ℕ) → after w t ≡ None → may_lack w ≡ false →
    run n (w ∷ behind) (t ∷ u) ≡ Some n
step_stops w behind t u n e f = rw (e, f) refl

stopped : (w : Want) (T : List Token) (i : ℕ) → may_lack w ≡ false → Misses w T i → (behind : List Want) → run i (w ∷ behind) (drop i T) ≡ Some i
stopped w T i f (at_end e) behind = subst (λ z. run i (w ∷ behind) z ≡ Some i) (sym e) (end_stops (may_lack w) i behind f)
stopped w T i f (at_token t s e) behind =
    subst (λ z. run i (w ∷ behind) z ≡ Some i) (sym s.there) (step_stops w behind t (drop (i + 1) T) i e f)

pub stops_here : (w : Want) (more : List Want) (T : List Token) (i : ℕ) → may_lack w ≡ false → Misses w T i → StopsAt (w ∷ more) T i (Unexpected i)
stops_here w more T i f m = record { stops = λ behind. stopped w T i f m (more ++ behind) }

pub missed : (w : Want) (more : List Want) (T : List Token) (i : ℕ) (e : RuleFault) → may_lack w ≡ false → MissesAt w T i e → StopsAt (w ∷ more) T i e
missed w more T i e f m = subst (λ z. StopsAt (w ∷ more) T i z) (sym m.is_fault) (stops_here w more T i f m.misses)

pub ended : (w : Want) (T : List Token) (i : ℕ) (e : RuleFault) → EndsAt T i e → MissesAt w T i e
ended w T i e h = record { misses = at_end h.ended; is_fault = h.is_fault }

pub memory : (a : List Want) (T : List Token) (i : ℕ) (e : RuleFault) → e ≡ Memory → StopsAt a T i e
memory a T i e h = subst (λ z. StopsAt a T i z) (sym h) tt

-- runs one after the other
pub front : (a b c : List Want) (T : List Token) (i j : ℕ) → Runs a b T i j → Runs (a ++ c) (b ++ c) T i j
front a b c T i j r =
    record {
      go_on = λ behind.
          ap (λ z. run i z (drop i T)) (append_assoc a c behind) ∙ r.go_on (c ++ behind) ∙
          sym (ap (λ z. run j z (drop j T)) (append_assoc b c behind));
    }

pub joined : (a b c : List Want) (T : List Token) (i j k : ℕ) → Runs a b T i j → Runs b c T j k → Runs a c T i k
joined a b c T i j k r s = record { go_on = λ behind. r.go_on behind ∙ s.go_on behind }

pub in_row : (a b c : List Want) (T : List Token) (i j k : ℕ) → Runs a [] T i j → Runs b c T j k → Runs (a ++ b) c T i k
in_row a b c T i j k r s = joined (a ++ b) b c T i j k (front a [] b T i j r) s

stop_map : (a b : List Want) (T : List Token) (i j : ℕ) → Runs a b T i j → (e : RuleFault) → StopsAt b T j e → StopsAt a T i e
stop_map a b T i j r (Unexpected n) s = record { stops = λ behind. r.go_on behind ∙ s.stops behind }
stop_map a b T i j r Memory s = tt

pub stop_later : (a b : List Want) (T : List Token) (i j : ℕ) (e : RuleFault) → Runs a b T i j → StopsAt b T j e → StopsAt a T i e
stop_later a b T i j e r s = stop_map a b T i j r e s

stop_more : (a c : List Want) (T : List Token) (i : ℕ) (e : RuleFault) → StopsAt a T i e → StopsAt (a ++ c) T i e
stop_more a c T i (Unexpected n) s =
    record { stops = λ behind. ap (λ z. run i z (drop i T)) (append_assoc a c behind) ∙ s.stops (c ++ behind) }
stop_more a c T i Memory s = tt

pub stop_first : (a c : List Want) (T : List Token) (i : ℕ) (e : RuleFault) → StopsAt a T i e → StopsAt (a ++ c) T i e
stop_first a c T i e s = stop_more a c T i e s

-- a part as its run
pub runs_of : {V : Type 0} (R : List Token → List Token → V → Type 0) (a b : List Want) (T : List Token) (i j : ℕ) (v : V) →
    Goes V R a b T i j v → Runs a b T i j
runs_of R a b T i j v g = record { go_on = g.runs }

pub stop_past : {V : Type 0} (R : List Token → List Token → V → Type 0) (a b : List Want) (T : List Token) (i j : ℕ) (v : V) (e : RuleFault) →
    Goes V R a [] T i j v → StopsAt b T j e → StopsAt (a ++ b) T i e
stop_past R a b T i j v e g s = stop_later (a ++ b) b T i j e (front a [] b T i j (runs_of R a [] T i j v g)) s

pub stop_token : (w : Want) (row : List Want) (t : Token) (T : List Token) (i : ℕ) (e : RuleFault) → Stands T i t → after w t ≡ Some row →
    StopsAt row T (i + 1) e → StopsAt (w ∷ []) T i e
stop_token w row t T i e h f s = stop_later (w ∷ []) row T i (i + 1) e (taken w row t T i h f) s

-- a sign that is wanted, and a stop behind it
stop_behind : (w : Want) (t : Token) (more : List Want) (T : List Token) (i j : ℕ) (e : RuleFault) → Stands T i t → j ≡ i + 1 → after w t ≡ Some [] →
    StopsAt more T j e → StopsAt (w ∷ more) T i e
stop_behind w t more T i j e h n f s =
    stop_later (w ∷ more) more T i j e
    (front (w ∷ []) [] more T i j (subst (λ z. Runs (w ∷ []) [] T i z) (sym n) (taken w [] t T i h f))) s

pub stop_sign : (w : Want) (t : Token) (more : List Want) (T : List Token) (i j : ℕ) (e : RuleFault) → Takes t T i j → after w t ≡ Some [] →
    StopsAt more T j e → StopsAt (w ∷ more) T i e
stop_sign w t more T i j e h f s = stop_behind w t more T i j e h.stands h.next f s

pub stop_next : (w : Want) (t : Token) (more : List Want) (T : List Token) (i : ℕ) (e : RuleFault) → Stands T i t → after w t ≡ Some [] →
    StopsAt more T (i + 1) e → StopsAt (w ∷ more) T i e
stop_next w t more T i e h f s = stop_behind w t more T i (i + 1) e h refl f s

pub stop_end : (w : Want) (more : List Want) (T : List Token) (i : ℕ) (e : RuleFault) → may_lack w ≡ false → EndsAt T i e → StopsAt (w ∷ more) T i e
stop_end w more T i e f h = missed w more T i e f (ended w T i e h)

-- a token, then a part
pub by_token : {V W : Type 0} (P : List Token → List Token → V → Type 0) (Q : List Token → List Token → W → Type 0) (w : Want) (row p : List Want)
    (t : Token) (T : List Token) (i j : ℕ) (v : V) (x : W) → Stands T i t → after w t ≡ Some row →
    ((s r : List Token) → Q s r x → P (t ∷ s) r v) → Goes W Q row p T (i + 1) j x → Goes V P (w ∷ []) p T i j v
by_token P Q w row p t T i j v x h f reads g =
    let o : i + 1 ≤ j = g.onward in
    record {
      reading = subst (λ z. P z (drop j T) v) (sym h.there) (reads (drop (i + 1) T) (drop j T) g.reading);
      within = g.within;
      onward = omega arith;
      runs = (joined (w ∷ []) row p T i (i + 1) j (taken w row t T i h f) (runs_of Q row p T (i + 1) j x g)).go_on;
    }

-- a part that is said to stand behind a token
pub behind : {V : Type 0} (P : List Token → List Token → V → Type 0) (w : Want) (row p : List Want) (t : Token) (T : List Token) (i j : ℕ) (v : V) →
    Stands T i t → after w t ≡ Some row → Goes V (Behind t P) row p T (i + 1) j v → Goes V P (w ∷ []) p T i j v
behind P w row p t T i j v h f g = by_token P (Behind t P) w row p t T i j v v h f (λ s r x. x) g

pub farther : {V : Type 0} (P : List Token → List Token → V → Type 0) (a b : List Want) (T : List Token) (i j : ℕ) (v : V) →
    Goes V P a b T (i + 1) j v → i < j
farther P a b T i j v g = let l : i + 1 ≤ j = g.onward in omega arith

-- a token alone
pub by_itself : {V : Type 0} (P : List Token → List Token → V → Type 0) (w : Want) (row : List Want) (t : Token) (T : List Token) (i : ℕ) (v : V) →
    Stands T i t → after w t ≡ Some row → ((r : List Token) → P (t ∷ r) r v) → Goes V P (w ∷ []) row T i (i + 1) v
by_itself P w row t T i v h f reads =
    let l : i < length T = h.within in
    record {
      reading = subst (λ z. P z (drop (i + 1) T) v) (sym h.there) (reads (drop (i + 1) T));
      within = omega arith;
      onward = omega arith;
      runs = (taken w row t T i h f).go_on;
    }

-- a part and then another
pub in_turn : {A B C : Type 0} (P : List Token → List Token → A → Type 0) (Q : List Token → List Token → B → Type 0) (R : List Token → List Token → C → Type 0)
    (a b p : List Want) (T : List Token) (i j k : ℕ) (x : A) (y : B) (z : C) → Goes A P a [] T i j x → Goes B Q b p T j k y →
    ((s m r : List Token) → P s m x → Q m r y → R s r z) → Goes C R (a ++ b) p T i k z
in_turn P Q R a b p T i j k x y z g h reads =
    let l : i ≤ j = g.onward in
    let m : j ≤ k = h.onward in
    record {
      reading = reads (drop i T) (drop j T) (drop k T) g.reading h.reading;
      within = h.within;
      onward = omega arith;
      runs = (in_row a b p T i j k (runs_of P a [] T i j x g) (runs_of Q b p T j k y h)).go_on;
    }

-- the same part, otherwise wanted and read
pub otherwise : {V W : Type 0} (P : List Token → List Token → V → Type 0) (Q : List Token → List Token → W → Type 0) (a b p q : List Want)
    (T : List Token) (i j : ℕ) (v : V) (x : W) → Runs a b T i i → Runs p q T j j → Goes W Q b p T i j x →
    ((s r : List Token) → Q s r x → P s r v) → Goes V P a q T i j v
otherwise P Q a b p q T i j v x f l g reads = record {
  reading = reads (drop i T) (drop j T) g.reading;
  within = g.within;
  onward = g.onward;
  runs = (joined a b q T i i j f (joined b p q T i j j (runs_of Q b p T i j x g) l)).go_on;
}

pub the_same : (a : List Want) (T : List Token) (i : ℕ) → Runs a a T i i
the_same a T i = record { go_on = λ behind. refl }

-- nothing at all
pub nothing : {V : Type 0} (P : List Token → List Token → V → Type 0) (a b : List Want) (T : List Token) (i : ℕ) (v : V) → i ≤ length T →
    ((s : List Token) → P s s v) → Runs a b T i i → Goes V P a b T i i v
nothing P a b T i v l reads r = record {
  reading = reads (drop i T);
  within = l;
  onward = omega arith;
  runs = r.go_on;
}

-- one token as a part
abbrev pub ReadsToken : List Token → List Token → Token → Type 0
ReadsToken from rest t = from ≡ t ∷ rest

pub the_token : (w : Want) (t : Token) (T : List Token) (i : ℕ) → Stands T i t → after w t ≡ Some [] → Goes Token ReadsToken (w ∷ []) [] T i (i + 1) t
the_token w t T i h f = by_itself ReadsToken w [] t T i t h f (λ r. refl)

pub the_sign : (w : Want) (t : Token) (T : List Token) (i j : ℕ) → Takes t T i j → after w t ≡ Some [] → Goes Token ReadsToken (w ∷ []) [] T i j t
the_sign w t T i j h f = subst (λ z. Goes Token ReadsToken (w ∷ []) [] T i z t) (sym h.next) (the_token w t T i h.stands f)

-- two wants that begin alike with what stands there
pub alike_at : (a b : List Want) (t : Token) (T : List Token) (i : ℕ) → Stands T i t →
    ((n : ℕ) (behind : List Want) (u : List Token) → run n (a ++ behind) (t ∷ u) ≡ run n (b ++ behind) (t ∷ u)) → Runs a b T i i
alike_at a b t T i h f =
    record { go_on = λ behind. subst (λ z. run i (a ++ behind) z ≡ run i (b ++ behind) z) (sym h.there) (f i behind (drop (i + 1) T)) }

-- a token as it is stored
pub found_at : (P : Token → Type 0) (T : List Token) (i : ℕ) (a b : Stored) → Stands T i (token_of a) → a ≡ b → P (token_of b) → Finds P T i
found_at P T i a b h e f = record { found = token_of b; stands = subst (λ z. Stands T i (token_of z)) e h; fits = f }

pub stands_as : (T : List Token) (i : ℕ) (a b : Stored) → Stands T i (token_of a) → a ≡ b → Stands T i (token_of b)
stands_as T i a b h e = subst (λ z. Stands T i (token_of z)) e h

-- a want whose rows are those of another, each with some more behind
pub row_more : (rest behind row : List Want) (n : ℕ) (u : List Token) → run n ((row ++ rest) ++ behind) u ≡ run n (row ++ (rest ++ behind)) u
row_more rest behind row n u = rw (append_assoc row rest behind) refl

go_alike : (o : Option (List Want)) (rest behind : List Want) (past other : Option (List Want)) (n : ℕ) (u : List Token) →
    go n (λ next. run (suc n) next u) (chosen (before rest o) false behind past) ≡
    go n (λ next. run (suc n) next u) (chosen o false (rest ++ behind) other)
go_alike None rest behind past other n u = refl
go_alike (Some row) rest behind past other n u = row_more rest behind row (suc n) u

run_alike : (w v : Want) (rest behind : List Want) (t : Token) (u : List Token) (n : ℕ) → may_lack w ≡ false → may_lack v ≡ false →
    after w t ≡ before rest (after v t) → run n (w ∷ behind) (t ∷ u) ≡ run n (v ∷ (rest ++ behind)) (t ∷ u)
run_alike w v rest behind t u n f g e =
    rw (e, f, g) (go_alike (after v t) rest behind (step behind t) (step (rest ++ behind) t) n u)

pub rows_alike : (w v : Want) (rest : List Want) (t : Token) (T : List Token) (i : ℕ) → may_lack w ≡ false → may_lack v ≡ false →
    after w t ≡ before rest (after v t) → Stands T i t → Runs (w ∷ []) (v ∷ rest) T i i
rows_alike w v rest t T i f g e h = alike_at (w ∷ []) (v ∷ rest) t T i h (λ n behind u. run_alike w v rest behind t u n f g e)

same_row : (w v : Want) (behind : List Want) (t : Token) (u : List Token) (n : ℕ) → may_lack w ≡ may_lack v → after w t ≡ after v t →
    run n (w ∷ behind) (t ∷ u) ≡ run n (v ∷ behind) (t ∷ u)
same_row w v behind t u n f e = rw (e, f) refl

pub rows_same : (w v : Want) (t : Token) (T : List Token) (i : ℕ) → may_lack w ≡ may_lack v → after w t ≡ after v t → Stands T i t →
    Runs (w ∷ []) (v ∷ []) T i i
rows_same w v t T i f e h = alike_at (w ∷ []) (v ∷ []) t T i h (λ n behind u. same_row w v behind t u n f e)

-- a part behind which nothing of the next want stands
pub and_none : {V W : Type 0} (P : List Token → List Token → V → Type 0) (R : List Token → List Token → W → Type 0) (a : List Want) (w : Want)
    (T : List Token) (i j : ℕ) (v : V) (x : W) → Goes V P a [] T i j v → may_lack w ≡ true → Misses w T j →
    ((s r : List Token) → P s r v → R s r x) → Goes W R (a ++ w ∷ []) [] T i j x
and_none P R a w T i j v x g f m reads = record {
  reading = reads (drop i T) (drop j T) g.reading;
  within = g.within;
  onward = g.onward;
  runs = (in_row a (w ∷ []) [] T i j j (runs_of P a [] T i j v g) (passed w T j f m)).go_on;
}

-- the exit of a `?`
pub exits : {X : Type 0} (r : Result X RuleFault) (e : RuleFault) (Q : RuleFault → Type 0) → IsErrAnd r (λ y. y ≡ e) → Q e → IfErr r Q
exits (Ok x) e Q h q = tt
exits (Err y) e Q h q = subst Q (sym h) q

-- another want that does the same here
pub relay : {V : Type 0} (P : List Token → List Token → V → Type 0) (a b p : List Want) (T : List Token) (i j : ℕ) (v : V) → Runs a b T i i →
    Goes V P b p T i j v → Goes V P a p T i j v
relay P a b p T i j v r g = otherwise P P a b p p T i j v v r (the_same p T j) g (λ s m h. h)

-- what is read, read as another part
pub reread : {V W : Type 0} (P : List Token → List Token → V → Type 0) (Q : List Token → List Token → W → Type 0) (a p : List Want)
    (T : List Token) (i j : ℕ) (v : V) (x : W) → Goes W Q a p T i j x → ((s r : List Token) → Q s r x → P s r v) → Goes V P a p T i j v
reread P Q a p T i j v x g reads = otherwise P Q a a p p T i j v x (the_same a T i) (the_same p T j) g reads

-- a part behind a token, and one before it
pub token_then : {V : Type 0} (R : List Token → List Token → V → Type 0) (w : Want) (t : Token) (a p : List Want) (T : List Token) (i k : ℕ) (v : V) →
    after w t ≡ Some [] → Stands T i t → Goes V R a p T (i + 1) k v → Goes V (After t R) (w ∷ a) p T i k v
token_then R w t a p T i k v e h g =
    in_turn ReadsToken R (After t R) (w ∷ []) a p T i (i + 1) k t v v (the_token w t T i h e) g
    (λ s m r x y. record { middle = m; is = x; part = y })

pub sign_then : {V : Type 0} (R : List Token → List Token → V → Type 0) (w : Want) (t : Token) (a p : List Want) (T : List Token) (i j k : ℕ) (v : V) →
    after w t ≡ Some [] → Takes t T i j → Goes V R a p T j k v → Goes V (After t R) (w ∷ a) p T i k v
sign_then R w t a p T i j k v e h g =
    in_turn ReadsToken R (After t R) (w ∷ []) a p T i j k t v v (the_sign w t T i j h e) g
    (λ s m r x y. record { middle = m; is = x; part = y })

pub then_sign : {V : Type 0} (R : List Token → List Token → V → Type 0) (w : Want) (t : Token) (a : List Want) (T : List Token) (i j k : ℕ) (v : V) →
    Goes V R a [] T i j v → Takes t T j k → after w t ≡ Some [] → Goes V (λ s r x. R s (t ∷ r) x) (a ++ w ∷ []) [] T i k v
then_sign R w t a T i j k v g h e =
    in_turn R ReadsToken (λ s r x. R s (t ∷ r) x) a (w ∷ []) [] T i j k v t v g (the_sign w t T j k h e)
    (λ s m r x y. subst (λ z. R s z v) y x)

-- what holds of each token holds of one that stands somewhere
read_there : (T rest : List Token) (i : ℕ) (t : Token) → drop i T ≡ t ∷ rest → get_or T i t ≡ t
read_there [] rest zero t e = absurd (cc)
read_there [] rest (suc i) t e = absurd (cc)
read_there (u ∷ T) rest zero t e = cc
read_there (u ∷ T) rest (suc i) t e = read_there T rest i t e

pub each_there : (P : Token → Type 0) (T : List Token) (i : ℕ) (t : Token) → All P T → Stands T i t → P t
each_there P T i t a h = subst P (read_there T (drop (i + 1) T) i t h.there) (a i t h.within)

-- some token stands before the end
pub some_there : (T : List Token) (i : ℕ) → i < length T → (t : Token) × (drop i T ≡ t ∷ drop (i + 1) T)
some_there [] i l = absurd (omega arith)
some_there (t ∷ T) zero l = (t, refl)
some_there (t ∷ T) (suc i) l = let h = some_there T i (omega arith) in (h.0, further h.0 t T i h.1)
