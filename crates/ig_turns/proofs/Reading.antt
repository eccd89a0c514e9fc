-- A list is read line by line.
use Rattle.std.proofs.Common.{◌≡◌, ℕ, ◌+◌, ◌<◌, ◌≤◌, Bool, true, false, List, [], ◌∷◌, ◌++◌, length, take, drop, nat_lt, nat_le, Some, None, Result, Ok, Err, cond, refl, sym, ap, ◌∙◌, subst, arith}
use Rattle.std.proofs.lemmas.Bool.{ltb-false, leb-true}
use Rattle.std.proofs.lemmas.List.{append-nil, append_assoc}
use Rattle.std.proofs.lemmas.List.Quantifiers.{position-Some}
use Rattle.std.proofs.lemmas.List.Sums.{position_or_len_is, fails_before_first}
use Rattle.std.proofs.lemmas.List.Splits.{slice_split_first, slice_split_none, length-slice_split}
use Rattle.std.specs.List.{slice_split, position_or_len, position}
use Rattle.ig_turns.specs.Lists.{Job, job_of, job_at, job_before, jobs_from, is_line_feed, is_end, most_jobs}

-- jobs before others
abbrev pub jobs_after : List Job → Result (List Job) ℕ → Result (List Job) ℕ
jobs_after jobs (Ok others) = Ok (jobs ++ others)
jobs_after jobs (Err wrong) = Err wrong

-- before the first place that passes, and after it
pub cut_at : (p : ℕ → Bool) (xs : List ℕ) (at : ℕ) → position p xs ≡ Some at →
    slice_split p xs ≡ take at xs ∷ slice_split p (drop (at + 1) xs)
cut_at p xs at e =
    let found = position-Some p xs at 0 e in
    let is : position_or_len p xs ≡ at = position_or_len_is p xs at 0 (omega (arith, found.0)) found.2 (λ _. found.1) in
    subst (λ k. slice_split p xs ≡ take k xs ∷ slice_split p (drop (k + 1) xs)) is
    (slice_split_first p xs 0 (omega (arith, is, found.0)))

-- where none passes
pub uncut : (p : ℕ → Bool) (xs : List ℕ) → position p xs ≡ None → slice_split p xs ≡ xs ∷ []
uncut p xs e = slice_split_none p xs (λ k d within. fails_before_first p xs k d (go (nat_lt (position_or_len p xs) (length xs)) refl e k within))
  where
    go : (b : Bool) → nat_lt (position_or_len p xs) (length xs) ≡ b → cond b (Some (position_or_len p xs)) None ≡ None →
        (k : ℕ) → k < length xs → k < position_or_len p xs
    go true h f k within = absurd (cc)
    go false h f k within = let past = ltb-false (position_or_len p xs) (length xs) h in omega (arith, past, within)

-- a line before others
pub more_lines : (number : ℕ) (line : List ℕ) (parts : List (List ℕ)) → 0 < length parts →
    jobs_from number (line ∷ parts) ≡ job_before number (job_at number line) (jobs_from (number + 1) parts)
more_lines number line [] h = absurd (omega (arith, h))
more_lines number line (next ∷ others) h = refl

pub first_line : (number end : ℕ) (rest : List ℕ) → position is_line_feed rest ≡ Some end →
    jobs_from number (slice_split is_line_feed rest) ≡
    job_before number (job_at number (take end rest)) (jobs_from (number + 1) (slice_split is_line_feed (drop (end + 1) rest)))
first_line number end rest e =
    let some = length-slice_split is_line_feed (drop (end + 1) rest) in
    ap (jobs_from number) (cut_at is_line_feed rest end e) ∙ more_lines number (take end rest) _ (omega (arith, some))

-- the first line is wrong
pub wrong_line : (told : Result (List Job) ℕ) (jobs : List Job) (number end : ℕ) (rest : List ℕ) →
    told ≡ jobs_after jobs (jobs_from number (slice_split is_line_feed rest)) → position is_line_feed rest ≡ Some end →
    job_at number (take end rest) ≡ None → told ≡ Err number
wrong_line told jobs number end rest h e none =
    h ∙ ap (jobs_after jobs) (first_line number end rest e
    ∙ ap (λ o. job_before number o (jobs_from (number + 1) (slice_split is_line_feed (drop (end + 1) rest)))) none)

-- the first line is a job's
pub right_line : (told : Result (List Job) ℕ) (jobs : List Job) (number end : ℕ) (rest : List ℕ) (job : Job) →
    told ≡ jobs_after jobs (jobs_from number (slice_split is_line_feed rest)) → position is_line_feed rest ≡ Some end →
    job_at number (take end rest) ≡ Some job →
    told ≡ jobs_after (jobs ++ job ∷ []) (jobs_from (number + 1) (slice_split is_line_feed (drop (end + 1) rest)))
right_line told jobs number end rest job h e some =
    h ∙ (ap (jobs_after jobs) (first_line number end rest e
    ∙ ap (λ o. job_before number o (jobs_from (number + 1) (slice_split is_line_feed (drop (end + 1) rest)))) some)
    ∙ joined (jobs_from (number + 1) (slice_split is_line_feed (drop (end + 1) rest))))
  where
    joined : (r : Result (List Job) ℕ) → jobs_after jobs (job_before number (Some job) r) ≡ jobs_after (jobs ++ job ∷ []) r
    joined (Ok others) = ap Ok (sym (append_assoc jobs (job ∷ []) others))
    joined (Err wrong) = refl

-- what stands after the last line feed
last_part : (told : Result (List Job) ℕ) (jobs : List Job) (number : ℕ) (rest : List ℕ) →
    told ≡ jobs_after jobs (jobs_from number (slice_split is_line_feed rest)) → position is_line_feed rest ≡ None →
    told ≡ jobs_after jobs (cond (is_end number rest) (Ok []) (Err number))
last_part told jobs number rest h e = h ∙ ap (λ parts. jobs_after jobs (jobs_from number parts)) (uncut is_line_feed rest e)

pub at_end : (told : Result (List Job) ℕ) (jobs : List Job) (number : ℕ) (rest : List ℕ) →
    told ≡ jobs_after jobs (jobs_from number (slice_split is_line_feed rest)) → position is_line_feed rest ≡ None →
    is_end number rest ≡ true → told ≡ Ok jobs
at_end told jobs number rest h e ends =
    last_part told jobs number rest h e ∙ (ap (λ b. jobs_after jobs (cond b (Ok []) (Err number))) ends ∙ ap Ok (append-nil jobs))

pub not_at_end : (told : Result (List Job) ℕ) (jobs : List Job) (number : ℕ) (rest : List ℕ) →
    told ≡ jobs_after jobs (jobs_from number (slice_split is_line_feed rest)) → position is_line_feed rest ≡ None →
    is_end number rest ≡ false → told ≡ Err number
not_at_end told jobs number rest h e ends =
    last_part told jobs number rest h e ∙ ap (λ b. jobs_after jobs (cond b (Ok []) (Err number))) ends

-- after a line that is a job's
pub next_line : (told : Result (List Job) ℕ) (jobs more : List Job) (lines all end : ℕ) (rest others : List ℕ) (job : Job) →
    told ≡ jobs_after jobs (jobs_from (lines + 1) (slice_split is_line_feed rest)) → position is_line_feed rest ≡ Some end →
    job_at (lines + 1) (take end rest) ≡ Some job → more ≡ jobs ++ job ∷ [] → all ≡ lines + 1 → others ≡ drop (end + 1) rest →
    told ≡ jobs_after more (jobs_from (all + 1) (slice_split is_line_feed others))
next_line told jobs more lines all end rest others job h e some grown counted left =
    right_line told jobs (lines + 1) end rest job h e some
    ∙ (λ i. jobs_after (sym grown i) (jobs_from (sym counted i + 1) (slice_split is_line_feed (sym left i))))

-- a line after the last that may be there is none
pub few_lines : (number : ℕ) (line : List ℕ) (job : Job) → job_at number line ≡ Some job → number ≤ most_jobs
few_lines number line job e = go (nat_le number most_jobs) refl e
  where
    go : (b : Bool) → nat_le number most_jobs ≡ b → cond b (job_of line) None ≡ Some job → number ≤ most_jobs
    go true h f = leb-true number most_jobs h
    go false h f = absurd (cc)
