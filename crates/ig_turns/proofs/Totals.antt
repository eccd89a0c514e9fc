-- What is left of a list of jobs, before a round and after it.
use Rattle.std.proofs.Common.{◌≡◌, ◌≢◌, ℕ, zero, suc, ◌+◌, ◌<◌, ◌≤◌, ◌==◌, Bool, true, false, nat_le, List, [], ◌∷◌, ◌++◌, length, slice_get, get_or, Some, if◌then◌else◌, All, refl, ap, ◌∙◌, arith}
use Rattle.std.specs.Option.{IsSomeAnd}
use Rattle.std.proofs.lemmas.List.Quantifiers.{position-Some}
use Rattle.std.proofs.lemmas.List.Elements.{All-cons, All-nil}
use Rattle.std.proofs.lemmas.Bool.{leb-true, eqb-false}
use Rattle.std.proofs.lemmas.Option.{slice_get_within}
use Rattle.ig_turns.specs.declared.turns.Turn.{Turn}
use Rattle.ig_turns.specs.Played.{Played}
use Rattle.ig_turns.specs.Turns.{first_stray, events_of, EachPlayed}
use Rattle.ig_turns.specs.Rounds.{total}
use Rattle.ig_turns.proofs.Places.{events_more}

module _ {J : Type 0} (left : J → ℕ) where
  -- nothing is left exactly where each job is finished
  pub none_left : (jobs : List J) → ((k : ℕ) → k < length jobs → IsSomeAnd (slice_get jobs k) (λ x. left x ≡ 0)) → total left jobs ≡ 0
  none_left [] h = refl
  none_left (job ∷ jobs) h =
      let here : left job ≡ 0 = h 0 (omega arith) in
      let more = none_left jobs (λ k within. h (suc k) (omega (arith, within))) in
      omega (arith, here, more)

  pub is_finished_at : (jobs : List J) (k : ℕ) → total left jobs ≡ 0 → k < length jobs → IsSomeAnd (slice_get jobs k) (λ x. left x ≡ 0)
  is_finished_at [] k e within = absurd (omega (arith, within))
  is_finished_at (job ∷ jobs) zero e within = omega (arith, e)
  is_finished_at (job ∷ jobs) (suc k) e within = is_finished_at jobs k (omega (arith, e)) (omega (arith, within))

  pub all_finished : (jobs : List J) → total left jobs ≡ 0 → All (λ job. left job ≡ 0) jobs
  all_finished [] e = All-nil (λ job. left job ≡ 0)
  all_finished (job ∷ jobs) e = All-cons (λ job. left job ≡ 0) job jobs (omega (arith, e)) (all_finished jobs (omega (arith, e)))

  -- where each job goes on, less is left, unless nothing was
  pub record Goes (x y : J) : Type 0 where
    pub no_more : left y ≤ left x
    pub less : left x ≢ 0 → left y < left x

  pub record Fell (old new : List J) : Type 0 where
    pub no_more : total left new ≤ total left old
    pub less : total left old ≢ 0 → total left new < total left old

  pub all_fell : (old new : List J) → length new ≡ length old →
      ((k : ℕ) (x y : J) → slice_get old k ≡ Some x → slice_get new k ≡ Some y → Goes x y) → Fell old new
  all_fell [] [] same goes = record { no_more = omega arith; less = λ h. absurd (h refl) }
  all_fell [] (y ∷ ys) same goes = absurd (omega (arith, same))
  all_fell (x ∷ xs) [] same goes = absurd (omega (arith, same))
  all_fell (x ∷ xs) (y ∷ ys) same goes =
      let here = goes 0 x y refl refl in
      let more = all_fell xs ys (omega (arith, same)) (λ k. goes (suc k)) in
      record {
        no_more = let a = here.no_more in let b = more.no_more in omega (arith, a, b);
        less = λ h. grind (arith, h, here, more);
      }

-- a job that plays an event goes on
pub goes_on : {J : Type 0} (taken left : J → ℕ) (events : ℕ) (x y : J) → 0 < events → Played taken left events x y → Goes left x y
goes_on taken left events x y some p = record {
  no_more = let a = p.rises in let b = p.falls in omega (arith, a, b);
  less = λ h. grind (arith, some, h, p);
}

pub round_fell : {J : Type 0} (taken left : J → ℕ) (round : List Turn) (old new : List J) → length new ≡ length old →
    ((job : ℕ) → job < length old → 0 < events_of job round) → EachPlayed taken left round old new → Fell left old new
round_fell taken left round old new same each played =
    all_fell left old new same (λ k x y before after. goes_on taken left (events_of k round) x y (each k (slice_get_within old k x before)) (played k x y before after))

-- where each turn names a job, there is no stray
pub no_stray : (count : ℕ) (turns : List Turn) → All (λ turn. turn.job < count) turns → (at : ℕ) → first_stray count turns ≡ Some at → ⊥
no_stray count turns named at e =
    let d : Turn = record { job = 0; events = 0 } in
    let found = position-Some (λ turn. nat_le count turn.job) turns at d e in
    let within : (get_or turns at d).job < count = named at d found.0 in
    let past = leb-true count (get_or turns at d).job found.1 in
    omega (arith, within, past)

-- a turn for one job more
pub each_more : (events count : ℕ) (round : List Turn) → ((job : ℕ) → job < count → events ≤ events_of job round) →
    (job : ℕ) → job < count + 1 → events ≤ events_of job (round ++ (record { job = count; events = events }) ∷ [])
each_more events count round each job within = go (count == job) refl
  where
    more : events_of job (round ++ (record { job = count; events = events }) ∷ []) ≡ events_of job round + (if count == job then events else 0)
    more = events_more job round (record { job = count; events = events })

    go : (b : Bool) → (count == job) ≡ b → events ≤ events_of job (round ++ (record { job = count; events = events }) ∷ [])
    go true e =
        let h : events_of job (round ++ (record { job = count; events = events }) ∷ []) ≡ events_of job round + events =
        more ∙ ap (λ b. events_of job round + (if b then events else 0)) e in
        omega (arith, h)
    go false e =
        let h : events_of job (round ++ (record { job = count; events = events }) ∷ []) ≡ events_of job round + 0 =
        more ∙ ap (λ b. events_of job round + (if b then events else 0)) e in
        let apart : count ≢ job = eqb-false count job e in
        let before = each job (omega (arith, within, apart)) in
        omega (arith, h, before)
