-- The text of a list reads as its jobs.
use Rattle.std.proofs.Common.{◌≡◌, ℕ, suc, ◌+◌, ◌<◌, ◌≤◌, ◌||◌, ◌&&◌, Bool, true, false, not, List, [], ◌∷◌, ◌++◌, length, take, drop, Some, None, Ok, Err, cond, refl, ap, ◌∙◌, arith}
use Rattle.std.proofs.lemmas.Bool.{and_parts, and_from, not-true, le-leb, lt-ltb}
use Rattle.std.proofs.lemmas.List.{take_at}
use Rattle.std.proofs.lemmas.List.Splits.{slice_split_at, length-slice_split}
use Rattle.std.specs.List.{list_any, slice_split, position_or_len, AllByRecursion}
use Rattle.ig_turns.specs.Lists.{Job, is_plain, is_name, is_space, job_of, job_at, job_before, jobs_from, is_line_feed, most_jobs}
use Rattle.ig_turns.specs.Laws.{line_of, text_of, IsWritable}
use Rattle.ig_turns.proofs.Reading.{more_lines}

-- a name has no space
no_space : (name : List ℕ) → is_name name ≡ true → list_any is_space name ≡ false
no_space [] e = refl
no_space (c ∷ cs) e = not-true (list_any is_space (c ∷ cs)) (and_parts _ _ (and_parts (is_plain (c ∷ cs)) _ e).0).1

-- the first space stands after the grammar's name
space_at : (xs ys : List ℕ) → list_any is_space xs ≡ false → position_or_len is_space (xs ++ 32 ∷ ys) ≡ length xs
space_at [] ys e = refl
space_at (x ∷ xs) ys e = by_test (is_space x) (list_any is_space xs) (position_or_len is_space (xs ++ 32 ∷ ys)) (length xs) e (space_at xs ys)
  where
    by_test : (b d : Bool) (k n : ℕ) → (b || d) ≡ false → (d ≡ false → k ≡ n) → cond (not b) (1 + k) 0 ≡ suc n
    by_test true d k n f h = absurd (cc)
    by_test false d k n f h = let same = h f in omega (arith, same)

drop_next : (xs ys : List ℕ) → drop (suc (length xs)) (xs ++ 32 ∷ ys) ≡ ys
drop_next [] ys = refl
drop_next (x ∷ xs) ys = drop_next xs ys

drop_after : (xs ys : List ℕ) → drop (length xs + 1) (xs ++ 32 ∷ ys) ≡ ys
drop_after xs ys =
    let next : length xs + 1 ≡ suc (length xs) = omega arith in
    ap (λ n. drop n (xs ++ 32 ∷ ys)) next ∙ drop_next xs ys

-- the line of a job is its line
line_is : (job : Job) → IsWritable job → job_of (line_of job) ≡ Some job
line_is job w =
    ap (λ k. cond (is_name (take k line) && is_name (drop (k + 1) line)) (Some (record { grammar = take k line; input = drop (k + 1) line })) None) at
    ∙ ((λ i. cond (is_name (front i) && is_name (back i)) (Some (record { grammar = front i; input = back i })) None)
    ∙ ap (λ b. cond b (Some job) None) (and_from (is_name job.grammar) (is_name job.input) w.grammar w.input))
  where
    line : List ℕ
    line = line_of job

    at : position_or_len is_space line ≡ length job.grammar
    at = space_at job.grammar job.input (no_space job.grammar w.grammar)

    front : take (length job.grammar) line ≡ job.grammar
    front = take_at job.grammar (32 ∷ job.input) (length job.grammar) refl

    back : drop (length job.grammar + 1) line ≡ job.input
    back = drop_after job.grammar job.input

at_number : (number : ℕ) (job : Job) → IsWritable job → number ≤ most_jobs → job_at number (line_of job) ≡ Some job
at_number number job w few = ap (λ b. cond b (job_of (line_of job)) None) (le-leb number most_jobs few) ∙ line_is job w

pub written_from : (number : ℕ) (jobs : List Job) → AllByRecursion IsWritable jobs → 1 < number + length jobs → number + length jobs ≤ most_jobs + 1 →
    jobs_from number (slice_split is_line_feed (text_of jobs)) ≡ Ok jobs
written_from number [] all some few = ap (λ b. cond b (Ok []) (Err number)) (lt-ltb 1 number (omega (arith, some)))
written_from number (job ∷ jobs) all some few =
    let parts = length-slice_split is_line_feed (text_of jobs) in
    ap (jobs_from number) (slice_split_at is_line_feed (line_of job) 10 (text_of jobs) all.0.one_line refl)
    ∙ (more_lines number (line_of job) (slice_split is_line_feed (text_of jobs)) (omega (arith, parts))
    ∙ (ap (λ o. job_before number o (jobs_from (number + 1) (slice_split is_line_feed (text_of jobs)))) (at_number number job all.0 (omega (arith, few)))
    ∙ ap (job_before number (Some job)) (written_from (number + 1) jobs all.1 (omega (arith, some)) (omega (arith, few)))))
