-- What is written is read.
use Rattle.std.specs.Prelude.{◌≡◌, ◌≢◌, ℕ, ◌≤◌, true, false, List, [], ◌∷◌, ◌++◌, length, Ok}
use Rattle.std.specs.List.{All, AllByRecursion}
use Rattle.ig_turns.specs.Lists.{Job, is_name, is_line_feed, most_jobs, reading}

-- the line of a job, without its line feed
abbrev pub line_of : Job → List ℕ
line_of job = job.grammar ++ 32 ∷ job.input

-- the text of a list
abbrev pub text_of : List Job → List ℕ
text_of [] = []
text_of (job ∷ jobs) = line_of job ++ 10 ∷ text_of jobs

-- two names of which neither has a line feed
pub record IsWritable (job : Job) : Type 0 where
  pub grammar : is_name job.grammar ≡ true
  pub input : is_name job.input ≡ true
  pub one_line : All (λ c. is_line_feed c ≡ false) (line_of job)

abbrev pub WrittenListsAreRead : Type 0
WrittenListsAreRead = (jobs : List Job) → AllByRecursion IsWritable jobs → jobs ≢ [] → length jobs ≤ most_jobs → reading (text_of jobs) ≡ Ok jobs
