-- What comes of the files that a command names: a grammar, an input, or where it stops.
use Rattle.std.specs.Prelude.{◌≡◌, ◌≢◌, ℕ, ◌<◌, ◌≤◌, List, length, map, Option, Some, None, Result, Ok, Err, Vec}
use Rattle.std.specs.declared.alloc.Global.{Global}
use Rattle.ig_text.specs.Decoding.{IsDecoded, IsFaulty}
use Rattle.ig_text.specs.declared.text.Text.{Text}
use Rattle.ig_text.specs.declared.text.TextFault.{TextFault}
use Rattle.ig_text.specs.declared.text.TextFault.TheVariants as text_fault
use Rattle.ig_command.specs.declared.command.Notation.{Notation}
use Rattle.ig_turns.specs.Lists.{Job, reading}
use Rattle.ig_turns.specs.Reads.{stored_job}
use Rattle.ig_turns.specs.declared.job_list.Names.{Names}
use Rattle.ig_notation_syntax.specs.Notation.{most_bytes}
use Rattle.ig_outside.specs.Counts.{Rose}
use Rattle.ig_outside.specs.States.{ShelfState}
use Rattle.ig_outside.specs.Told.{Told, silent, nothing, bytes}
use Rattle.ig_grammar.specs.Checked.{CheckedGrammar}
use Rattle.ig_core.specs.Notation.{unchanged}
use Rattle.ig_command_endings.specs.Change.{Change, Stood}
use Rattle.ig_command_endings.specs.Notes.{bad_list_note, cannot_read_note, grammar_note, input_note, long_forest_note, long_list_note}
use Rattle.ig_command_endings.specs.declared.status.Status.{Status}
use Rattle.ig_command_endings.specs.declared.status.Status.TheVariants as status
use Rattle.ig_command_endings.specs.declared.stop.Stop.{Stop}
use Rattle.ig_command_endings.specs.declared.stop.Stop.TheVariants as halt
use Rattle.ig_command_sources.specs.Accepted.{IsTextOf}
use Rattle.ig_command_sources.specs.Refusals.{IsRefused}

-- the bytes that a fetch may give, by what the shelf tells: what it holds, or any bytes where it
-- doesn't tell
abbrev pub MayGive : Told → List ℕ → Type 0
MayGive silent xs = Unit {0}
MayGive nothing xs = ⊥
MayGive (bytes held) xs = xs ≡ held

-- the bytes are refused as a grammar text in this notation, and the note says why
pub record IsNoGrammar (n : Notation) (xs : List ℕ) (s : Status) (note : List ℕ) : Type 0 where
  pub text : List ℕ
  pub refused : IsRefused n xs text
  pub status_is : s ≡ status.Grammar
  pub note_is : note ≡ grammar_note text

-- the bytes are a text of the grammar in this notation, as it is written
pub record IsWrittenIn (n : Notation) (xs : List ℕ) (c : CheckedGrammar) : Type 0 where
  pub text : IsTextOf n xs c.grammar
  pub as_it_is : c ≡ unchanged c.grammar

-- the bytes are a text of the grammar, or refused
abbrev pub ReadsGrammar : Notation → List ℕ → Result CheckedGrammar Stop → Type 0
ReadsGrammar n xs (Ok checked) = IsWrittenIn n xs checked
ReadsGrammar n xs (Err (halt.Note s line)) = IsNoGrammar n xs s line.items
ReadsGrammar n xs (Err halt.Memory) = Unit {0}

-- why an input is refused
pub record IsNoInput (xs : List ℕ) (s : Status) (note : List ℕ) : Type 0 where
  pub fault : TextFault
  pub faulty : IsFaulty xs fault
  pub cause : fault ≢ text_fault.Memory
  pub status_is : s ≡ status.Input
  pub note_is : note ≡ input_note fault

-- the bytes are the text, with tabs of this width, or none
abbrev pub ReadsInput : ℕ → List ℕ → Result Text Stop → Type 0
ReadsInput tabs xs (Ok text) = IsDecoded tabs xs text
ReadsInput tabs xs (Err (halt.Note s line)) = IsNoInput xs s line.items
ReadsInput tabs xs (Err halt.Memory) = Unit {0}

-- how many bytes the text of a forest may have
abbrev pub most_forest_bytes : ℕ
most_forest_bytes = 268435456

-- the bytes are too many for the text of a forest
pub record IsLongForest (xs : List ℕ) (s : Status) (note : List ℕ) : Type 0 where
  pub many : most_forest_bytes < length xs
  pub status_is : s ≡ status.NotForest
  pub note_is : note ≡ long_forest_note

-- how many bytes the text of a list of jobs may have
abbrev pub most_list_bytes : ℕ
most_list_bytes = 65536

-- the bytes are the text of a list of these jobs
pub record IsListOf (xs : List ℕ) (jobs : List Job) : Type 0 where
  pub few : length xs ≤ most_list_bytes
  pub reading_is : reading xs ≡ Ok jobs

-- the bytes are refused as a list of jobs with this note
pub data IsBadList (xs : List ℕ) : List ℕ → Type 0 where
  -- there are too many
  too_long : most_list_bytes < length xs → IsBadList xs long_list_note
  -- this line is the first wrong one
  wrong : (line : ℕ) → length xs ≤ most_list_bytes → reading xs ≡ Err line → IsBadList xs (bad_list_note line)

-- and with this status
pub record IsNoList (xs : List ℕ) (s : Status) (note : List ℕ) : Type 0 where
  pub bad : IsBadList xs note
  pub status_is : s ≡ status.BadList

-- the bytes are the text of a list of the jobs, or of none
abbrev pub ReadsList : List ℕ → Result (Vec Names Global) Stop → Type 0
ReadsList xs (Ok jobs) = IsListOf xs (map stored_job jobs.items)
ReadsList xs (Err (halt.Note s line)) = IsNoList xs s line.items
ReadsList xs (Err halt.Memory) = Unit {0}

-- why a file that was to be fetched gave nothing, by what the shelf tells of it and its counts of
-- faults; `Refused` says which bytes are refused with a status and a line
pub data StopsAt (told : Told) (name : List ℕ) (old new : ℕ) (Refused : List ℕ → Status → List ℕ → Type 0) : Status → List ℕ → Type 0 where
  missing : (s : Status) (note : List ℕ) → new ≡ old → told ≡ nothing → s ≡ status.ReadFault →
      note ≡ cannot_read_note name → StopsAt told name old new Refused s note
  unread : (s : Status) (note : List ℕ) → Rose old new → s ≡ status.ReadFault → note ≡ cannot_read_note name →
      StopsAt told name old new Refused s note
  refused : (s : Status) (note xs : List ℕ) → new ≡ old → MayGive told xs → Refused xs s note →
      StopsAt told name old new Refused s note

-- where such a file stops the command
abbrev pub StopsFile : Told → List ℕ → ℕ → ℕ → (List ℕ → Status → List ℕ → Type 0) → Stop → Type 0
StopsFile told name old new Refused (halt.Note s line) = StopsAt told name old new Refused s line.items
StopsFile told name old new Refused halt.Memory = Stood old new

-- a file that is to be a grammar text in this notation
abbrev pub GivesGrammar : Notation → Told → List ℕ → ℕ → ℕ → Result CheckedGrammar Stop → Type 0
GivesGrammar n told name old new (Ok checked) =
    (new ≡ old) × ((xs : List ℕ) × MayGive told xs × IsWrittenIn n xs checked)
GivesGrammar n told name old new (Err stop) = StopsFile told name old new (IsNoGrammar n) stop

-- no bytes are refused
abbrev pub RefusesNone : List ℕ → Status → List ℕ → Type 0
RefusesNone xs s note = ⊥

-- the bytes of a file that is to be a grammar text; none where there are too many
abbrev pub GivesGrammarText : Told → List ℕ → ℕ → ℕ → Result (Option (Vec ℕ Global)) Stop → Type 0
GivesGrammarText told name old new (Ok (Some text)) =
    (new ≡ old) × MayGive told text.items × (length text.items ≤ most_bytes)
GivesGrammarText told name old new (Ok None) = (new ≡ old) × ((xs : List ℕ) × MayGive told xs × (most_bytes < length xs))
GivesGrammarText told name old new (Err stop) = StopsFile told name old new RefusesNone stop

-- a file that is to be a list of jobs
abbrev pub GivesList : Told → List ℕ → ℕ → ℕ → Result (Vec Names Global) Stop → Type 0
GivesList told name old new (Ok jobs) =
    (new ≡ old) × ((xs : List ℕ) × MayGive told xs × IsListOf xs (map stored_job jobs.items))
GivesList told name old new (Err stop) = StopsFile told name old new IsNoList stop

-- a file that is to be an input, with tabs of this width
abbrev pub GivesInput : ℕ → Told → List ℕ → ℕ → ℕ → Result Text Stop → Type 0
GivesInput tabs told name old new (Ok text) = (new ≡ old) × ((xs : List ℕ) × MayGive told xs × IsDecoded tabs xs text)
GivesInput tabs told name old new (Err stop) = StopsFile told name old new IsNoInput stop

-- the bytes of a file that is to be the text of a forest
abbrev pub GivesForest : Told → List ℕ → ℕ → ℕ → Result (Vec ℕ Global) Stop → Type 0
GivesForest told name old new (Ok text) =
    (new ≡ old) × MayGive told text.items × (length text.items ≤ most_forest_bytes)
GivesForest told name old new (Err stop) = StopsFile told name old new IsLongForest stop

-- what is loaded from the shelf under the name
abbrev pub LoadsGrammar : Notation → Change ShelfState → List ℕ → Result CheckedGrammar Stop → Type 0
LoadsGrammar n shelf name = GivesGrammar n (shelf.before.holds name) name shelf.before.faults shelf.after.faults

abbrev pub LoadsGrammarText : Change ShelfState → List ℕ → Result (Option (Vec ℕ Global)) Stop → Type 0
LoadsGrammarText shelf name = GivesGrammarText (shelf.before.holds name) name shelf.before.faults shelf.after.faults

abbrev pub LoadsList : Change ShelfState → List ℕ → Result (Vec Names Global) Stop → Type 0
LoadsList shelf name = GivesList (shelf.before.holds name) name shelf.before.faults shelf.after.faults

abbrev pub LoadsInput : ℕ → Change ShelfState → List ℕ → Result Text Stop → Type 0
LoadsInput tabs shelf name = GivesInput tabs (shelf.before.holds name) name shelf.before.faults shelf.after.faults

abbrev pub LoadsForest : Change ShelfState → List ℕ → Result (Vec ℕ Global) Stop → Type 0
LoadsForest shelf name = GivesForest (shelf.before.holds name) name shelf.before.faults shelf.after.faults
