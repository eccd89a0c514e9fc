-- What out gets of a batch.
use Rattle.std.specs.Prelude.{ℕ, ◌+◌, List, [], ◌∷◌, ◌++◌, length, codes}
use Rattle.std.specs.Fmt.{decimal}
use Rattle.ig_text.specs.Lines.{line_end}
use Rattle.ig_command_endings.specs.Numbers.{number_of}
use Rattle.ig_command_endings.specs.declared.status.Status.{Status}

-- how a job ended: its status, its text for out and its line for notes
pub record End : Type 0 where
  pub status : Status
  pub out : List ℕ
  pub note : List ℕ

abbrev pub end_of : Status → List ℕ → List ℕ → End
end_of s out note = record { status = s; out = out; note = note }

-- the line before them, with the number of the job, the number of the status and how many bytes there are of each
abbrev pub end_line : ℕ → End → List ℕ
end_line number end =
    codes "job " ++ (decimal number ++
    (codes " status " ++ (decimal (number_of end.status) ++
    (codes " out " ++ (decimal (length end.out) ++
    (codes " notes " ++ (decimal (length end.note) ++ line_end)))))))

-- what out gets of one job
abbrev pub end_text : ℕ → End → List ℕ
end_text number end = end_line number end ++ (end.out ++ end.note)

-- what out gets of jobs that ended so, of which the first has that number
abbrev pub batch_text : ℕ → List End → List ℕ
batch_text number [] = []
batch_text number (end ∷ ends) = end_text number end ++ batch_text (number + 1) ends
