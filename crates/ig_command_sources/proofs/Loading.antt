-- What a fetch and its reading come to, by what the shelf tells.
use Rattle.std.proofs.Common.{◌≡◌, ℕ, ◌+◌, ◌<◌, ◌≤◌, List, length, replicate, inl, inr, sym, subst, refl, arith, Some, None, Result, Ok, Err, Vec, Global}
use Rattle.std.proofs.Math.ListN.{length-replicate}
use Rattle.ig_text.specs.Input.{Input, with_width}
use Rattle.ig_text.specs.Decoding.{IsDecoded}
use Rattle.ig_text.specs.Limits as text
use Rattle.ig_command.specs.declared.command.Notation.{Notation}
use Rattle.ig_notation_syntax.specs.Notation.{most_bytes}
use Rattle.ig_text.specs.declared.text.Text.{Text}
use Rattle.ig_text.specs.declared.text.TextFault.TheVariants as text_fault
use Rattle.ig_outside.specs.Counts.{Rose}
use Rattle.ig_outside.specs.Told.{Told, silent, nothing, bytes}
use Rattle.ig_outside.specs.Fetch.{AnswersFetch}
use Rattle.ig_outside.specs.declared.shelf.FetchFault.TheVariants as fetch
use Rattle.ig_grammar.specs.Checked.{CheckedGrammar}
use Rattle.ig_notation.specs.declared.fault.Large.TheVariants as large
use Rattle.ig_command_sources.specs.Refusals.{large_text, too_many}
use Rattle.ig_command_endings.specs.declared.stop.Stop.{Stop}
use Rattle.ig_command_endings.specs.declared.stop.Stop.TheVariants as halt
use Rattle.ig_turns.specs.Lists.{reading}
use Rattle.ig_turns.specs.declared.job_list.Names.{Names}
use Rattle.ig_command_endings.specs.Notes.{bad_list_note, long_forest_note, long_list_note}
use Rattle.ig_command_endings.specs.Stops.{IsCannotRead, RefusesWith, IsTooLong, StopsWith}
use Rattle.ig_command_endings.specs.declared.status.Status.{Status}
use Rattle.ig_command_endings.specs.declared.status.Status.TheVariants as status
use Rattle.ig_command_sources.specs.Sources.{MayGive, missing, unread, refused, ReadsGrammar, ReadsInput, ReadsList, GivesGrammar, GivesGrammarText, GivesInput, GivesForest, GivesList, RefusesNone, StopsAt, StopsFile, most_forest_bytes, most_list_bytes}
use Rattle.ig_command_sources.specs.Sources.{IsBadList, too_long, wrong}

-- the shelf may give what it gave
pub given : (told : Told) (most : ℕ) (v : Vec ℕ Global) → AnswersFetch told most (Ok v) → MayGive told v.items
given silent most v h = tt
given nothing most v h = h
given (bytes xs) most v h = h.0

-- and no more than were asked for
pub given_few : (told : Told) (most : ℕ) (v : Vec ℕ Global) → AnswersFetch told most (Ok v) → length v.items ≤ most
given_few silent most v h = h
given_few nothing most v h = absurd h
given_few (bytes xs) most v h = subst (λ (z : List ℕ). length z ≤ most) (sym h.0) h.1

-- where more bytes than asked for are held, the shelf may give some that are more
pub given_long : (told : Told) (most : ℕ) → AnswersFetch told most (Err fetch.Long) →
    (xs : List ℕ) × (MayGive told xs × (most < length xs))
given_long silent most h = (replicate (most + 1) 0, (tt, omega (arith, length-replicate {A = ℕ} (most + 1) 0)))
given_long nothing most h = absurd h
given_long (bytes xs) most h = (xs, (refl, h))

missing_is_told : (told : Told) (most : ℕ) → AnswersFetch told most (Err fetch.Missing) → told ≡ nothing
missing_is_told silent most h = absurd h
missing_is_told nothing most h = refl
missing_is_told (bytes xs) most h = absurd h

-- the bytes of a grammar text
pub text_given : (told : Told) (name : List ℕ) (old new : ℕ) (v : Vec ℕ Global) → AnswersFetch told most_bytes (Ok v) →
    new ≡ old → GivesGrammarText told name old new (Ok (Some v))
text_given told name old new v a e = (e, given told most_bytes v a, given_few told most_bytes v a)

pub text_long : (told : Told) (name : List ℕ) (old new : ℕ) → AnswersFetch told most_bytes (Err fetch.Long) → new ≡ old →
    GivesGrammarText told name old new (Ok None)
text_long told name old new a e = let long = given_long told most_bytes a in (e, (long.0, long.1.0, long.1.1))

-- and what they are read as
pub grammar_given : (n : Notation) (told : Told) (name xs : List ℕ) (old new : ℕ) (v : Vec ℕ Global) (r : Result CheckedGrammar Stop) →
    GivesGrammarText told name old new (Ok (Some v)) → xs ≡ v.items → ReadsGrammar n xs r → GivesGrammar n told name old new r
grammar_given n told name xs old new v (Ok checked) g i h = (g.0, (xs, subst (MayGive told) (sym i) g.1, h))
grammar_given n told name xs old new v (Err (halt.Note s line)) g i h =
    refused s line.items xs g.0 (subst (MayGive told) (sym i) g.1) h
grammar_given n told name xs old new v (Err halt.Memory) g i h = inl g.0

pub grammar_long : (n : Notation) (told : Told) (name : List ℕ) (old new : ℕ) (stop : Stop) →
    GivesGrammarText told name old new (Ok None) → RefusesWith (large_text large.Bytes) stop → GivesGrammar n told name old new (Err stop)
grammar_long n told name old new (halt.Note s line) g h =
    refused s line.items g.1.0 g.0 g.1.1
    (record { text = large_text large.Bytes; refused = too_many g.1.2; status_is = h.0; note_is = h.1 })
grammar_long n told name old new halt.Memory g h = inl g.0

-- the file can't be read
module _ (told : Told) (name : List ℕ) (old new : ℕ) (Refused : List ℕ → Status → List ℕ → Type 0) where
  pub file_unread : (stop : Stop) → Rose old new → IsCannotRead name stop → StopsFile told name old new Refused stop
  file_unread (halt.Note s line) rose h = unread s line.items rose h.0 h.1
  file_unread halt.Memory rose h = inr rose

  pub file_missing : (most : ℕ) (stop : Stop) → AnswersFetch told most (Err fetch.Missing) → new ≡ old → IsCannotRead name stop →
      StopsFile told name old new Refused stop
  file_missing most (halt.Note s line) a e h = missing s line.items e (missing_is_told told most a) h.0 h.1
  file_missing most halt.Memory a e h = inl e

-- a file of which no bytes are refused
unread_alone : (told : Told) (name : List ℕ) (old new : ℕ) (Refused : List ℕ → Status → List ℕ → Type 0) (s : Status) (note : List ℕ) →
    StopsAt told name old new RefusesNone s note → StopsAt told name old new Refused s note
unread_alone told name old new Refused _ _ (missing s note e is status_is note_is) = missing s note e is status_is note_is
unread_alone told name old new Refused _ _ (unread s note rose status_is note_is) = unread s note rose status_is note_is
unread_alone told name old new Refused _ _ (refused s note xs e may h) = absurd h

pub not_fetched : (told : Told) (name : List ℕ) (old new : ℕ) (Refused : List ℕ → Status → List ℕ → Type 0) (stop : Stop) →
    StopsFile told name old new RefusesNone stop → StopsFile told name old new Refused stop
not_fetched told name old new Refused (halt.Note s line) h = unread_alone told name old new Refused s line.items h
not_fetched told name old new Refused halt.Memory h = h

-- an input with tabs of another width
pub widened : (tabs : ℕ) (xs : List ℕ) (decoded wide : Input) → IsDecoded 1 xs decoded → wide ≡ with_width tabs decoded →
    IsDecoded tabs xs wide
widened tabs xs decoded wide d e =
    subst (IsDecoded tabs xs) (sym e)
    (record { utf8 = d.utf8; characters = d.characters; tabs = refl; few_bytes = d.few_bytes; few_characters = d.few_characters })

pub input_given : (tabs : ℕ) (told : Told) (name xs : List ℕ) (most old new : ℕ) (v : Vec ℕ Global) (r : Result Text Stop) →
    AnswersFetch told most (Ok v) → new ≡ old → xs ≡ v.items → ReadsInput tabs xs r → GivesInput tabs told name old new r
input_given tabs told name xs most old new v (Ok text) a e i h = (e, (xs, subst (MayGive told) (sym i) (given told most v a), h))
input_given tabs told name xs most old new v (Err (halt.Note s line)) a e i h =
    refused s line.items xs e (subst (MayGive told) (sym i) (given told most v a)) h
input_given tabs told name xs most old new v (Err halt.Memory) a e i h = inl e

pub input_long : (tabs : ℕ) (told : Told) (name : List ℕ) (old new : ℕ) (stop : Stop) →
    AnswersFetch told text.most_bytes (Err fetch.Long) → new ≡ old → IsTooLong stop → GivesInput tabs told name old new (Err stop)
input_long tabs told name old new (halt.Note s line) a e h =
    let long = given_long told text.most_bytes a in
    refused s line.items long.0 e long.1.0
    (record { fault = text_fault.TooLong; faulty = inl long.1.1; cause = λ i. cc; status_is = h.0; note_is = h.1 })
input_long tabs told name old new halt.Memory a e h = inl e

pub forest_given : (told : Told) (name : List ℕ) (old new : ℕ) (v : Vec ℕ Global) → AnswersFetch told most_forest_bytes (Ok v) →
    new ≡ old → GivesForest told name old new (Ok v)
forest_given told name old new v a e = (e, given told most_forest_bytes v a, given_few told most_forest_bytes v a)

pub forest_long : (told : Told) (name : List ℕ) (old new : ℕ) (stop : Stop) →
    AnswersFetch told most_forest_bytes (Err fetch.Long) → new ≡ old → StopsWith status.NotForest long_forest_note stop →
    GivesForest told name old new (Err stop)
forest_long told name old new (halt.Note s line) a e h =
    let long = given_long told most_forest_bytes a in
    refused s line.items long.0 e long.1.0 (record { many = long.1.1; status_is = h.0; note_is = h.1 })
forest_long told name old new halt.Memory a e h = inl e

-- a line of a list is wrong
pub list_refused : (xs : List ℕ) (line : ℕ) (stop : Stop) → length xs ≤ most_list_bytes → reading xs ≡ Err line →
    StopsWith status.BadList (bad_list_note line) stop → ReadsList xs (Err stop)
list_refused xs line (halt.Note s note) few e h =
    record { bad = subst (IsBadList xs) (sym h.1) (wrong line few e); status_is = h.0 }
list_refused xs line halt.Memory few e h = tt

pub list_given : (told : Told) (name xs : List ℕ) (most old new : ℕ) (v : Vec ℕ Global) (r : Result (Vec Names Global) Stop) →
    AnswersFetch told most (Ok v) → new ≡ old → xs ≡ v.items → ReadsList xs r → GivesList told name old new r
list_given told name xs most old new v (Ok jobs) a e i h = (e, (xs, subst (MayGive told) (sym i) (given told most v a), h))
list_given told name xs most old new v (Err (halt.Note s line)) a e i h =
    refused s line.items xs e (subst (MayGive told) (sym i) (given told most v a)) h
list_given told name xs most old new v (Err halt.Memory) a e i h = inl e

pub list_long : (told : Told) (name : List ℕ) (old new : ℕ) (stop : Stop) → AnswersFetch told most_list_bytes (Err fetch.Long) →
    new ≡ old → StopsWith status.BadList long_list_note stop → GivesList told name old new (Err stop)
list_long told name old new (halt.Note s line) a e h =
    let long = given_long told most_list_bytes a in
    refused s line.items long.0 e long.1.0
    (record { bad = subst (IsBadList long.0) (sym h.1) (too_long long.1.1); status_is = h.0 })
list_long told name old new halt.Memory a e h = inl e
