-- Which bytes are the text of a list of jobs, and which line of other bytes is the first wrong one.
use Rattle.std.specs.Prelude.{ℕ, ◌+◌, ◌==◌, nat_le, nat_lt, Bool, false, not, ◌&&◌, List, [], ◌∷◌, Option, Some, None, Result, Ok, Err, if◌then◌else◌}
use Rattle.std.specs.List.{list_any, before_first, after_first, slice_split}
use Rattle.std.specs.Str.{is_utf8}

-- the names of the files of a job
pub record Job : Type 0 where
  pub grammar : List ℕ
  pub input : List ℕ

-- a list has 1 to so many jobs
abbrev pub most_jobs : ℕ
most_jobs = 64

abbrev pub is_line_feed : ℕ → Bool
is_line_feed c = c == 10

abbrev pub is_space : ℕ → Bool
is_space c = c == 32

-- it isn't empty, doesn't begin with `-` and has no space
abbrev pub is_plain : List ℕ → Bool
is_plain [] = false
is_plain (c ∷ cs) = not (c == 45) && not (list_any is_space (c ∷ cs))

-- and is UTF-8
abbrev pub is_name : List ℕ → Bool
is_name name = is_plain name && is_utf8 name

-- a line is two names with one space between them
abbrev pub job_of : List ℕ → Option Job
job_of line =
    if is_name (before_first is_space line) && is_name (after_first is_space line)
    then Some (record { grammar = before_first is_space line; input = after_first is_space line })
    else None

-- the same of the line of that number; each line is wrong after the last that may be there
abbrev pub job_at : ℕ → List ℕ → Option Job
job_at number line = if nat_le number most_jobs then job_of line else None

-- nothing, after one line at least
abbrev pub is_end : ℕ → List ℕ → Bool
is_end number [] = nat_lt 1 number
is_end number (c ∷ cs) = false

-- a job before others; where there is none, the line of that number is the first wrong one
abbrev pub job_before : ℕ → Option Job → Result (List Job) ℕ → Result (List Job) ℕ
job_before number None others = Err number
job_before number (Some job) (Ok jobs) = Ok (job ∷ jobs)
job_before number (Some job) (Err wrong) = Err wrong

-- the jobs of the lines, of which the first has that number, and the last part is what stands after the last line feed; or the
-- number of the first wrong line
abbrev pub jobs_from : ℕ → List (List ℕ) → Result (List Job) ℕ
jobs_from number [] = Err number
jobs_from number (last ∷ []) = if is_end number last then Ok [] else Err number
jobs_from number (line ∷ next ∷ others) = job_before number (job_at number line) (jobs_from (number + 1) (next ∷ others))

-- the jobs of the list that the bytes are the text of, or the number of their first wrong line, from 1
abbrev pub reading : List ℕ → Result (List Job) ℕ
reading bytes = jobs_from 1 (slice_split is_line_feed bytes)
