-- What comes of jobs that are played, and its text.
use Rattle.std.proofs.Common.{◌≡◌, ℕ, suc, ◌+◌, ◌<◌, List, [], ◌∷◌, ◌++◌, map, refl, sym, ◌∙◌, ap, subst, arith, length, take, get_or, add-zero, Result, Ok, Err, Vec, Global}
use Rattle.std.specs.Prelude.{IfOk}
use Rattle.std.specs.List.{AllZip, zip}
use Rattle.std.specs.declared.alloc.AllocError.{AllocError}
use Rattle.std.proofs.lemmas.List.{append_assoc, length-map, length-take-le, map-append, take_more}
use Rattle.std.proofs.lemmas.Slice.Zip.{AllZip-long, all_zipped_more, firsts-zip}
use Rattle.std.proofs.lemmas.List.{append-nil}
use Rattle.ig_grammar.specs.Checked.{CheckedGrammar}
use Rattle.ig_command_jobs.specs.Question.{Question}
use Rattle.ig_tool.specs.Text.{End, batch_text, end_text}
use Rattle.ig_tool.specs.Playing.{Asks, EndsAs, GivesEnd, PlaysOut, TellsEnds}
use Rattle.ig_tool.specs.declared.loading.Loaded.{Loaded}

-- what comes of the questions is what comes of the jobs
module _ (grammars : List CheckedGrammar) (budget : ℕ) where
  given_ends : (ls : List Loaded) (questions : List Question) (ends : List End) → AllZip (Asks grammars budget) ls questions →
      AllZip EndsAs questions ends → AllZip (GivesEnd grammars budget) ls ends
  given_ends [] [] [] a e = tt
  given_ends [] [] (end ∷ ends) a e = absurd e
  given_ends [] (q ∷ questions) ends a e = absurd a
  given_ends (l ∷ ls) [] ends a e = absurd a
  given_ends (l ∷ ls) (q ∷ questions) [] a e = absurd e
  given_ends (l ∷ ls) (q ∷ questions) (end ∷ ends) a e = ((q, a.0, e.0), given_ends ls questions ends a.1 e.1)

  pub plays_out : (ls : List Loaded) (questions : List Question) (text : List ℕ) → AllZip (Asks grammars budget) ls questions →
      TellsEnds questions text → PlaysOut grammars budget ls text
  plays_out ls questions text a h = (h.0, given_ends ls questions h.0 a h.1, h.2)

-- as many jobs as were loaded
pub as_many : {J : Type 0} (outcome : J → Question) (grammars : List CheckedGrammar) (budget : ℕ) (ls : List Loaded) (jobs : List J) →
    AllZip (Asks grammars budget) ls (map outcome jobs) → length jobs ≡ length ls
as_many outcome grammars budget ls jobs h =
    sym (length-map jobs outcome) ∙ AllZip-long (Asks grammars budget) ls (map outcome jobs) h

-- the text of one more end
batch_more : (k : ℕ) (ends : List End) (end : End) →
    batch_text k (ends ++ end ∷ []) ≡ batch_text k ends ++ end_text (k + length ends) end
batch_more k [] end = append-nil (end_text k end) ∙ ap (λ (z : ℕ). end_text z end) (sym (add-zero k))
batch_more k (first ∷ ends) end =
    let count : (k + 1) + length ends ≡ k + suc (length ends) = omega arith in
    ap (λ (z : List ℕ). end_text k first ++ z) (batch_more (k + 1) ends end) ∙
    sym (append_assoc (end_text k first) (batch_text (k + 1) ends) (end_text ((k + 1) + length ends) end)) ∙
    ap (λ (z : ℕ). (end_text k first ++ batch_text (k + 1) ends) ++ end_text z end) count

-- no question yet
pub none_told : TellsEnds [] []
none_told = ([], tt, refl)

-- one more question
pub one_told : (questions : List Question) (text longer : List ℕ) (question : Question) (end : End) (number : ℕ) → TellsEnds questions text →
    EndsAs question end → number ≡ length questions + 1 → longer ≡ text ++ end_text number end →
    TellsEnds (questions ++ question ∷ []) longer
one_told questions text longer question end number h is n e =
    let count : number ≡ 1 + length h.0 =
    let same = AllZip-long EndsAs questions h.0 h.1 in omega (arith, same, n) in (
      h.0 ++ end ∷ [],
      all_zipped_more EndsAs questions h.0 question end h.1 is,
      e ∙ (λ i. h.2 i ++ end_text (count i) end) ∙ sym (batch_more 1 h.0 end),
    )

-- one element more
module _ {X : Type 0} (xs : List X) (i : ℕ) (x : X) (within : i < length xs) (read : x ≡ get_or xs i x) where
  one_more : take (i + 1) xs ≡ take i xs ++ x ∷ []
  one_more = take_more xs i x within ∙ ap (λ (z : X). take i xs ++ z ∷ []) (sym read)

-- one more job that was loaded
pub jobs_more : {J : Type 0} (outcome : J → Question) (grammars : List CheckedGrammar) (budget : ℕ) (ls : List Loaded) (i : ℕ) (l : Loaded)
    (jobs more : List J) (job : J) → i < length ls → l ≡ get_or ls i l → more ≡ jobs ++ job ∷ [] →
    AllZip (Asks grammars budget) (take i ls) (map outcome jobs) → Asks grammars budget l (outcome job) →
    AllZip (Asks grammars budget) (take (i + 1) ls) (map outcome more)
jobs_more {J} outcome grammars budget ls i l jobs more job within read e h is =
    let first = one_more ls i l within read in
    let second : map outcome more ≡ map outcome jobs ++ outcome job ∷ [] =
    ap (λ (z : List J). map outcome z) e ∙ map-append outcome jobs (job ∷ []) in
    subst (λ (z : List Loaded). AllZip (Asks grammars budget) z (map outcome more)) (sym first)
    (subst (AllZip (Asks grammars budget) (take i ls ++ l ∷ [])) (sym second)
    (all_zipped_more (Asks grammars budget) (take i ls) (map outcome jobs) l (outcome job) h is))

-- one more answer
pub told_more : (questions : List Question) (i : ℕ) (question : Question) (text longer : List ℕ) (end : End) (number : ℕ) →
    i < length questions → question ≡ get_or questions i question → TellsEnds (take i questions) text → EndsAs question end →
    number ≡ i + 1 → longer ≡ text ++ end_text number end → TellsEnds (take (i + 1) questions) longer
told_more questions i question text longer end number within read h is n e =
    let long : length (take i questions) ≡ i = length-take-le i questions (omega arith) in
    let count : number ≡ length (take i questions) + 1 = omega arith in
    subst (λ (z : List Question). TellsEnds z longer) (sym (one_more questions i question within read))
    (one_told (take i questions) text longer question end number h is count e)

-- so it is, where memory doesn't run out
pub plays_all : (r : Result (Vec ℕ Global) AllocError) (read grammars : List CheckedGrammar) (budget : ℕ) (taken ls : List Loaded)
    (questions : List Question) → read ≡ grammars → taken ≡ ls → AllZip (Asks read budget) taken questions →
    IfOk r (λ text. TellsEnds questions text.items) → IfOk r (λ text. PlaysOut grammars budget ls text.items)
plays_all (Ok text) read grammars budget taken ls questions e d asks h =
    plays_out grammars budget ls questions text.items
    (subst (λ (z : List CheckedGrammar). AllZip (Asks z budget) ls questions) e
    (subst (λ (z : List Loaded). AllZip (Asks read budget) z questions) d asks))
    h
plays_all (Err error) read grammars budget taken ls questions e d asks h = tt

-- the first parts of pairs that a list of pairs has
map_firsts : {X Y Z : Type 0} (f : X → Y) (h : X → Z) (xs : List X) → map (λ (p : Y × Z). p.0) (map (λ x. (f x, h x)) xs) ≡ map f xs
map_firsts f h [] = refl
map_firsts f h (x ∷ xs) = ap (λ z. f x ∷ z) (map_firsts f h xs)

pub firsts_are : {X Y Z : Type 0} (f : X → Y) (h : X → Z) (xs : List X) (ks : List Y) (vs : List Z) → map (λ x. (f x, h x)) xs ≡ zip ks vs →
    length vs ≡ length ks → map f xs ≡ ks
firsts_are {X} {Y} {Z} f h xs ks vs e long =
    sym (map_firsts f h xs) ∙ (ap (map (λ (p : Y × Z). p.0)) e ∙ firsts-zip ks vs long)
