-- The machine takes exactly the tokens that keep the rules, and stops where they stop following them.
use Rattle.std.proofs.Common.{◌≡◌, ℕ, zero, suc, ◌+◌, List, [], ◌∷◌, ◌++◌, length, refl, sym, ap, subst, ◌∙◌, arith}
use Rattle.std.specs.Prelude.{Option, Some, None}
use Rattle.ig_w3c_syntax.specs.Token.{Token, Head, Name, Text, Code, OneOf, Bar, Open, Close, Question, Star, Plus, Minus}
use Rattle.ig_notation_syntax.specs.Stops.{Stops}
use Rattle.ig_w3c_syntax.specs.Rules.{IsSign, once, option, star, plus, IsExclusion, nothing, excluded, IsAtom, name, string as text, code, set, group, IsItem, item as an_item, IsAlternative, last_item, further_item, IsAlternatives, last_alternative, further_alternative, AreRules, no_rule, next_rule, KeepsRules, rules}
use Rattle.ig_w3c_syntax.specs.Machine.{step, stop, go, run}
use Rattle.ig_w3c_syntax.specs.declared.machine.At.{At}
use Rattle.ig_w3c_syntax.specs.declared.machine.State.{State}
use Rattle.ig_w3c_syntax.specs.declared.machine.State.TheVariants.{Begin as begin, Item as item, Excluded as string, BehindAtom as behind_atom, BehindSign as behind_sign, BehindItem as behind_item}
use Rattle.ig_w3c_syntax.specs.RuleLaws.{AreOfGrammar, KeptRulesRead, RunKeeps, RunStops}

-- from the state on all tokens are taken
abbrev pub Accepts : State → ℕ → List Token → Type 0
Accepts state n ts = (k : ℕ) → run k state n ts ≡ None

-- behind an atom, its sign or its item, and also where an item must come
pub record Behind (n : ℕ) (ts : List Token) : Type 0 where
  pub atom : Accepts behind_atom n ts
  pub sign : Accepts behind_sign n ts
  pub whole : Accepts behind_item n ts

pub record Starts (n : ℕ) (ts : List Token) : Type 0 where
  pub fresh : Accepts item n ts
  pub behind : Behind n ts

exclusion_runs : {q r : List Token} → IsExclusion q r → (n : ℕ) → Behind n r → Accepts behind_atom n q × Accepts behind_sign n q
exclusion_runs (nothing r) n b = (b.atom, b.sign)
exclusion_runs (excluded word r) n b = (λ k. b.whole (suc (suc k)), λ k. b.whole (suc (suc k)))

sign_runs : {m q : List Token} → IsSign m q → (n : ℕ) → Accepts behind_atom n q × Accepts behind_sign n q → Accepts behind_atom n m
sign_runs (once r) n h = h.0
sign_runs (option r) n h = λ k. h.1 (suc k)
sign_runs (star r) n h = λ k. h.1 (suc k)
sign_runs (plus r) n h = λ k. h.1 (suc k)

mutual
  atom_runs : {s m : List Token} → IsAtom s m → (n : ℕ) → Accepts behind_atom n m → Starts n s
  atom_runs (name x r) n h =
      record { fresh = λ k. h (suc k); behind = record { atom = λ k. h (suc k); sign = λ k. h (suc k); whole = λ k. h (suc k) } }
  atom_runs (text word r) n h =
      record { fresh = λ k. h (suc k); behind = record { atom = λ k. h (suc k); sign = λ k. h (suc k); whole = λ k. h (suc k) } }
  atom_runs (code c r) n h =
      record { fresh = λ k. h (suc k); behind = record { atom = λ k. h (suc k); sign = λ k. h (suc k); whole = λ k. h (suc k) } }
  atom_runs (set class r) n h =
      record { fresh = λ k. h (suc k); behind = record { atom = λ k. h (suc k); sign = λ k. h (suc k); whole = λ k. h (suc k) } }
  atom_runs (group s r a) n h =
      let close : Behind (suc n) (Close ∷ r) = record { atom = λ k. h (suc k); sign = λ k. h (suc k); whole = λ k. h (suc k) } in
      let g : Accepts item (suc n) s = (alternatives_run a (suc n) close).fresh in
      record { fresh = λ k. g (suc k); behind = record { atom = λ k. g (suc k); sign = λ k. g (suc k); whole = λ k. g (suc k) } }

  item_runs : {s r : List Token} → IsItem s r → (n : ℕ) → Behind n r → Starts n s
  item_runs (an_item s m q r a b c) n h = atom_runs a n (sign_runs b n (exclusion_runs c n h))

  alternative_runs : {s r : List Token} → IsAlternative s r → (n : ℕ) → Behind n r → Starts n s
  alternative_runs (last_item s r i) n h = item_runs i n h
  alternative_runs (further_item s m r i a) n h = item_runs i n (alternative_runs a n h).behind

  alternatives_run : {s r : List Token} → IsAlternatives s r → (n : ℕ) → Behind n r → Starts n s
  alternatives_run (last_alternative s r a) n h = alternative_runs a n h
  alternatives_run (further_alternative s m r a b) n h =
      let g : Accepts item n m = (alternatives_run b n h).fresh in
      alternative_runs a n (record { atom = λ k. g (suc k); sign = λ k. g (suc k); whole = λ k. g (suc k) })

rules_run : {m : List Token} → AreRules m → Behind 0 m
rules_run no_rule = record { atom = λ k. refl; sign = λ k. refl; whole = λ k. refl }
rules_run (next_rule x s m a more) =
    let g : Accepts item 0 s = (alternatives_run a 0 (rules_run more)).fresh in
    record { atom = λ k. g (suc k); sign = λ k. g (suc k); whole = λ k. g (suc k) }

pub kept_run : {ts : List Token} → KeepsRules ts → Accepts begin 0 ts
kept_run (rules x s r) = λ k. (rules_run r).whole k

-- the other way: what stands behind alternatives with n brackets open
abbrev pub Closing : ℕ → List Token → Type 0
Closing zero m = AreRules m
Closing (suc n) m = (r : List Token) × (m ≡ Close ∷ r) × (e : List Token) × ((f : List Token) → IsAtom f r → IsAlternatives f e) × Closing n e

pub record Signed (f s : List Token) : Type 0 where
  pub middle : List Token
  pub atom : IsAtom f middle
  pub sign : IsSign middle s

-- what the tokens from a state on complete, whatever stands before them
pub record Completes (n : ℕ) (P : List Token → Type 0) : Type 0 where
  pub end : List Token
  pub parts : (f : List Token) → P f → IsAlternatives f end
  pub closing : Closing n end

abbrev pub Sound : State → ℕ → List Token → Type 0
Sound begin n s = Unit {0}
Sound item n s = Completes n (λ f. f ≡ s)
Sound string n s = Completes n (λ f. Signed f (Minus ∷ s))
Sound behind_atom n s = Completes n (λ f. IsAtom f s)
Sound behind_sign n s = Completes n (λ f. Signed f s)
Sound behind_item n s = Completes n (λ f. IsItem f s)

-- as one behind another
instead : (n : ℕ) (P Q : List Token → Type 0) → ((f : List Token) → Q f → P f) → Completes n P → Completes n Q
instead n P Q h c = record { end = c.end; parts = λ f q. c.parts f (h f q); closing = c.closing }

prepended : {f s m : List Token} → IsItem f s → IsAlternatives s m → IsAlternatives f m
prepended {f} i (last_alternative s r a) = last_alternative f r (further_item f s r i a)
prepended {f} i (further_alternative s q r a b) = further_alternative f q r (further_item f s (Bar ∷ q) i a) b

behind_from_item : (n : ℕ) (s : List Token) → Sound item n s → Sound behind_item n s
behind_from_item n s c = record { end = c.end; parts = λ f i. prepended i (c.parts s refl); closing = c.closing }

sign_from_behind : (n : ℕ) (s : List Token) → Sound behind_item n s → Sound behind_sign n s
sign_from_behind n s c = instead n (λ f. IsItem f s) (λ f. Signed f s) (λ f q. an_item f q.middle s s q.atom q.sign (nothing s)) c

atom_from_sign : (n : ℕ) (s : List Token) → Sound behind_sign n s → Sound behind_atom n s
atom_from_sign n s c =
    instead n (λ f. Signed f s) (λ f. IsAtom f s) (λ f a. record { middle = s; atom = a; sign = once s }) c

single : (n : ℕ) (s : List Token) → Closing n s → Sound behind_item n s
single n s c = record { end = s; parts = λ f i. last_alternative f s (last_item f s i); closing = c }

an_atom : (n : ℕ) (s r : List Token) → IsAtom s r → Sound behind_atom n r → Sound item n s
an_atom n s r a c = instead n (λ f. IsAtom f r) (λ f. f ≡ s) (λ f e. subst (λ z. IsAtom z r) (sym e) a) c

a_group : (n : ℕ) (s : List Token) → Sound item (suc n) s → Sound item n (Open ∷ s)
a_group n s c =
    let d = c.closing in
    let a : IsAtom (Open ∷ s) d.0 = group s d.0 (subst (λ z. IsAlternatives s z) d.1 (c.parts s refl)) in
    record { end = d.2; parts = λ f e. subst (λ z. IsAlternatives z d.2) (sym e) (d.3 (Open ∷ s) a); closing = d.4 }

a_sign : (n : ℕ) (t : Token) (s : List Token) → IsSign (t ∷ s) s → Sound behind_sign n s → Sound behind_atom n (t ∷ s)
a_sign n t s i c = instead n (λ f. Signed f s) (λ f. IsAtom f (t ∷ s)) (λ f a. record { middle = t ∷ s; atom = a; sign = i }) c

-- from the tokens behind the first
abbrev pub All_sound : List Token → Type 0
All_sound ts = (q : State) (n k : ℕ) → run k q n ts ≡ None → Sound q n ts

item_sound : (t : Token) (ts : List Token) (n k : ℕ) → All_sound ts → run k item n (t ∷ ts) ≡ None → Sound item n (t ∷ ts)
item_sound (Name x) ts n k ih h = an_atom n (Name x ∷ ts) ts (name x ts) (ih behind_atom n (suc k) h)
item_sound (Text word) ts n k ih h = an_atom n (Text word ∷ ts) ts (text word ts) (ih behind_atom n (suc k) h)
item_sound (Code c) ts n k ih h = an_atom n (Code c ∷ ts) ts (code c ts) (ih behind_atom n (suc k) h)
item_sound (OneOf class) ts n k ih h = an_atom n (OneOf class ∷ ts) ts (set class ts) (ih behind_atom n (suc k) h)
item_sound Open ts n k ih h = a_group n ts (ih item (suc n) (suc k) h)
item_sound t ts n k ih h = absurd (cc)

head_sound : (x : List ℕ) (ts : List Token) (n k : ℕ) → All_sound ts → run k behind_item n (Head x ∷ ts) ≡ None → Sound behind_item n (Head x ∷ ts)
head_sound x ts zero k ih h =
    let c : Sound item 0 ts = ih item 0 (suc k) h in single 0 (Head x ∷ ts) (next_rule x ts c.end (c.parts ts refl) c.closing)
head_sound x ts (suc n) k ih h = absurd (cc)

close_sound : (ts : List Token) (n k : ℕ) → All_sound ts → run k behind_item n (Close ∷ ts) ≡ None → Sound behind_item n (Close ∷ ts)
close_sound ts zero k ih h = absurd (cc)
close_sound ts (suc n) k ih h =
    let c : Sound behind_atom n ts = ih behind_atom n (suc k) h in
    single (suc n) (Close ∷ ts) (ts, refl, c.end, c.parts, c.closing)

bar_sound : (ts : List Token) (n : ℕ) → Sound item n ts → Sound behind_item n (Bar ∷ ts)
bar_sound ts n c = record {
  end = c.end;
  parts = λ f i. further_alternative f ts c.end (last_item f (Bar ∷ ts) i) (c.parts ts refl);
  closing = c.closing;
}

behind_sound : (t : Token) (ts : List Token) (n k : ℕ) → All_sound ts → run k behind_item n (t ∷ ts) ≡ None → Sound behind_item n (t ∷ ts)
behind_sound (Head x) ts n k ih h = head_sound x ts n k ih h
behind_sound Close ts n k ih h = close_sound ts n k ih h
behind_sound Bar ts n k ih h = bar_sound ts n (ih item n (suc k) h)
behind_sound t ts n k ih h = behind_from_item n (t ∷ ts) (item_sound t ts n k ih h)

sign_sound : (t : Token) (ts : List Token) (n k : ℕ) → All_sound ts → run k behind_sign n (t ∷ ts) ≡ None → Sound behind_sign n (t ∷ ts)
sign_sound Minus ts n k ih h = ih string n (suc k) h
sign_sound t ts n k ih h = sign_from_behind n (t ∷ ts) (behind_sound t ts n k ih h)

atom_sound : (t : Token) (ts : List Token) (n k : ℕ) → All_sound ts → run k behind_atom n (t ∷ ts) ≡ None → Sound behind_atom n (t ∷ ts)
atom_sound Question ts n k ih h = a_sign n Question ts (option ts) (ih behind_sign n (suc k) h)
atom_sound Star ts n k ih h = a_sign n Star ts (star ts) (ih behind_sign n (suc k) h)
atom_sound Plus ts n k ih h = a_sign n Plus ts (plus ts) (ih behind_sign n (suc k) h)
atom_sound t ts n k ih h = atom_from_sign n (t ∷ ts) (sign_sound t ts n k ih h)

string_sound : (t : Token) (ts : List Token) (n k : ℕ) → All_sound ts → run k string n (t ∷ ts) ≡ None → Sound string n (t ∷ ts)
string_sound (Text word) ts n k ih h =
    let c : Sound behind_item n ts = ih behind_item n (suc k) h in
    instead n (λ f. IsItem f ts) (λ f. Signed f (Minus ∷ Text word ∷ ts))
    (λ f q. an_item f q.middle (Minus ∷ Text word ∷ ts) ts q.atom q.sign (excluded word ts)) c
string_sound t ts n k ih h = absurd (cc)

end_sound : (q : State) (n k : ℕ) → stop k q n ≡ None → Sound q n []
end_sound begin n k h = tt
end_sound item n k h = absurd (cc)
end_sound string n k h = absurd (cc)
end_sound behind_atom zero k h = atom_from_sign 0 [] (sign_from_behind 0 [] (single 0 [] no_rule))
end_sound behind_sign zero k h = sign_from_behind 0 [] (single 0 [] no_rule)
end_sound behind_item zero k h = single 0 [] no_rule
end_sound q (suc n) k h = absurd (cc)

more_sound : (t : Token) (ts : List Token) → All_sound ts → All_sound (t ∷ ts)
more_sound t ts ih begin n k h = tt
more_sound t ts ih item n k h = item_sound t ts n k ih h
more_sound t ts ih string n k h = string_sound t ts n k ih h
more_sound t ts ih behind_atom n k h = atom_sound t ts n k ih h
more_sound t ts ih behind_sign n k h = sign_sound t ts n k ih h
more_sound t ts ih behind_item n k h = behind_sound t ts n k ih h

pub all_sound : (ts : List Token) → All_sound ts
all_sound [] = end_sound'
  where
    end_sound' : All_sound []
    end_sound' q n k h = end_sound q n k h
all_sound (t ∷ ts) = more_sound t ts (all_sound ts)

pub run_keeps : RunKeeps
run_keeps [] h = absurd (cc)
run_keeps (Head x ∷ ts) h =
    let c : Sound item 0 ts = all_sound ts item 0 1 h in rules x ts (next_rule x ts c.end (c.parts ts refl) c.closing)
run_keeps (t ∷ ts) h = absurd (cc)

-- what the machine still takes from any state on
abbrev closing_tokens : ℕ → List Token
closing_tokens zero = []
closing_tokens (suc n) = Close ∷ closing_tokens n

closed : (n : ℕ) → Behind n (closing_tokens n)
closed zero = record { atom = λ k. refl; sign = λ k. refl; whole = λ k. refl }
closed (suc n) =
    let h = (closed n).atom in record { atom = λ k. h (suc k); sign = λ k. h (suc k); whole = λ k. h (suc k) }

completed : (q : State) (n : ℕ) → (more : List Token) × Accepts q n more
completed begin n = (Head [] ∷ Name [] ∷ closing_tokens n, λ k. (closed n).atom (suc (suc k)))
completed item n = (Name [] ∷ closing_tokens n, λ k. (closed n).atom (suc k))
completed string n = (Text [] ∷ closing_tokens n, λ k. (closed n).whole (suc k))
completed behind_atom n = (closing_tokens n, (closed n).atom)
completed behind_sign n = (closing_tokens n, (closed n).sign)
completed behind_item n = (closing_tokens n, (closed n).whole)

-- where the machine stops
pub record Halts (j k : ℕ) (q : State) (n : ℕ) (ts : List Token) : Type 0 where
  pub taken : List Token
  pub left : List Token
  pub parts : ts ≡ taken ++ left
  pub counted : k ≡ j + length taken
  pub more : List Token
  pub before : Accepts q n (taken ++ more)
  pub not_with : (t : Token) (others behind : List Token) (i : ℕ) → left ≡ t ∷ others → run i q n (taken ++ t ∷ behind) ≡ None → ⊥

stops_there : (q : State) (n j k : ℕ) → stop j q n ≡ Some k → k ≡ j
stops_there begin n j k h = cc
stops_there item n j k h = cc
stops_there string n j k h = cc
stops_there behind_atom zero j k h = absurd (cc)
stops_there behind_atom (suc n) j k h = cc
stops_there behind_sign zero j k h = absurd (cc)
stops_there behind_sign (suc n) j k h = cc
stops_there behind_item zero j k h = absurd (cc)
stops_there behind_item (suc n) j k h = cc

halts_here : (q : State) (n j : ℕ) (t : Token) (ts : List Token) → step q n t ≡ None → Halts j j q n (t ∷ ts)
halts_here q n j t ts e =
    let c = completed q n in record {
      taken = [];
      left = t ∷ ts;
      parts = refl;
      counted = omega arith;
      more = c.0;
      before = c.1;
      not_with = λ u others behind i p h.
          let s : t ≡ u = cc in
          let f : step q n u ≡ None = subst (λ z. step q n z ≡ None) s e in
          let g : run i q n (u ∷ behind) ≡ Some i = rw f refl in cc;
    }

halts_later : (q : State) (n j k : ℕ) (t : Token) (ts : List Token) (a : At) → step q n t ≡ Some a →
    Halts (suc j) k a.state a.brackets ts → Halts j k q n (t ∷ ts)
halts_later q n j k t ts a e h =
    let c : k ≡ suc j + length h.taken = h.counted in record {
      taken = t ∷ h.taken;
      left = h.left;
      parts = ap (λ z. t ∷ z) h.parts;
      counted = omega arith;
      more = h.more;
      before = λ i. rw e (h.before (suc i));
      not_with = λ u others behind i p f. h.not_with u others behind (suc i) p (rw e at f);
    }

halts_by : (q : State) (n j k : ℕ) (t : Token) (ts : List Token) (s : Option At) → step q n t ≡ s →
    go j (λ next m. run (suc j) next m ts) s ≡ Some k →
    ((p : State) (m i : ℕ) → run i p m ts ≡ Some k → Halts i k p m ts) → Halts j k q n (t ∷ ts)
halts_by q n j k t ts None e h ih = let x : j ≡ k = cc in subst (λ z. Halts j z q n (t ∷ ts)) x (halts_here q n j t ts e)
halts_by q n j k t ts (Some a) e h ih = halts_later q n j k t ts a e (ih a.state a.brackets (suc j) h)

pub halts : (ts : List Token) (k : ℕ) (q : State) (n j : ℕ) → run j q n ts ≡ Some k → Halts j k q n ts
halts [] k q n j h =
    let c = completed q n in
    let e = stops_there q n j k h in record {
      taken = [];
      left = [];
      parts = refl;
      counted = omega arith;
      more = c.0;
      before = c.1;
      not_with = λ t others behind i p f. absurd (cc);
    }
halts (t ∷ ts) k q n j h = halts_by q n j k t ts (step q n t) refl h (halts ts k)

pub run_stops : KeptRulesRead → RunStops
run_stops kept tokens k h =
    let x = halts tokens k begin 0 0 h in record {
      taken = x.taken;
      left = x.left;
      parts = x.parts;
      counted = let e : k ≡ 0 + length x.taken = x.counted in omega arith;
      before = (x.more, kept (x.taken ++ x.more) (run_keeps (x.taken ++ x.more) (x.before 0)));
      not_with = λ t others more p f. x.not_with t others more 0 p (kept_run f.1.keeps 0);
      not_all = λ f. let r = kept_run f.1.keeps 0 in cc;
    }
