-- Commands that name files, and what is read of files of which the shelf tells.
use Rattle.std.proofs.Common.{◌≡◌, ◌≢◌, ℕ, List, [], inl, inr, refl, sym, ◌∙◌, ap, subst, Option, Some, None, ◌<◌, ◌≤◌, length, arith}
use Rattle.std.proofs.lemmas.List.{append-nil}
use Rattle.std.specs.Prelude.{chars}
use Rattle.std.specs.Io.KnownBytes.{Appends}
use Rattle.std.proofs.lemmas.Option.{same_Some}
use Rattle.ig_text.specs.Input.{Input}
use Rattle.ig_text.specs.Decoding.{IsDecoded, IsFaulty}
use Rattle.ig_text.specs.Limits.{most_bytes, most_characters}
use Rattle.ig_text.specs.declared.text.TextFault.{TextFault}
use Rattle.ig_text.specs.declared.text.TextFault.TheVariants as text_fault
use Rattle.ig_outside.specs.States.{ShelfState, SinkState}
use Rattle.ig_outside.specs.Told.{Told, silent, nothing, bytes}
use Rattle.ig_text.proofs.Options.{one_value}
use Rattle.ig_grammar.specs.Tabs.{tab_width}
use Rattle.ig_grammar.specs.declared.grammar.Grammar.{Grammar}
use Rattle.ig_grammar.specs.WellScoped.{IsFirst}
use Rattle.ig_notation.specs.Outcome as own
use Rattle.ig_w3c.specs.Outcome as w3c
use Rattle.ig_notation_syntax.specs.Notation.{most_bytes as most_grammar_bytes}
use Rattle.ig_command.specs.declared.command.Notation.{Notation}
use Rattle.ig_command.specs.declared.command.Notation.TheVariants as notation
use Rattle.ig_command_sources.specs.Laws.{OneReading, ReadOrRefused}
use Rattle.ig_notation.specs.declared.fault.Large.TheVariants as large
use Rattle.ig_notation.specs.declared.fault.ReadFault.TheVariants as read
use Rattle.ig_item.specs.Core.{dots}
use Rattle.ig_item.specs.Limits.{most_dots}
use Rattle.ig_core.specs.Lowered.{CoreOf}
use Rattle.ig_core.specs.Notation.{unchanged}
use Rattle.ig_command.specs.Commands.{Request, Source, request_of, check, show, core, forest, trees, query, load, batch, verify, analyse, grammar_file, input_file, IsCommand}
use Rattle.ig_command_jobs.specs.Jobs.{Job, print, list, ask, request_for, task_request}
use Rattle.ig_command_jobs.specs.declared.job.Task.{Task}
use Rattle.ig_command_jobs.specs.declared.job.Task.TheVariants as task
use Rattle.ig_command_sources.specs.Accepted.{IsAccepted, IsReadFaultIn}
use Rattle.ig_command_sources.specs.Refusals.{IsRefused, too_many, not_utf8, not_grammar, too_large, not_scoped, too_many_dots}
use Rattle.ig_command_sources.specs.Sources.{MayGive}
use Rattle.ig_command_endings.specs.Change.{Change, Got, Untouched}
use Rattle.ig_tool.specs.Headline.{Asks}
use Rattle.ig_tool.specs.Outcome.{HasFiles, HasGrammar}

-- the words are one command at most
pub same_request : (words : List (List ℕ)) (r q : Request) → IsCommand words r → IsCommand words q → r ≡ q
same_request words r q a b = one_value (request_of words) r q a b

-- what the reader's laws say
pub record Laws : Type 0 where
  pub only_reading : OneReading
  pub not_both : ReadOrRefused

pub given : OneReading → ReadOrRefused → Laws
given one apart = record { only_reading = one; not_both = apart }

too_many_read : (n : Notation) (xs : List ℕ) → most_grammar_bytes < length xs → IsReadFaultIn n xs (read.TooLarge large.Bytes)
too_many_read notation.Own xs more = own.too_many_bytes more
too_many_read notation.W3c xs more = w3c.too_many_bytes more

-- bytes that are accepted aren't refused
accepted_or_refused : (laws : Laws) (n : Notation) (xs text : List ℕ) (g : Grammar) → IsAccepted n xs g → IsRefused n xs text → ⊥
accepted_or_refused laws n xs text g a (too_many more) =
    let none = laws.not_both n xs g (read.TooLarge large.Bytes) a.text.reading (too_many_read n xs more) in cc
accepted_or_refused laws n xs text g a (not_utf8 at few bad valid) = bad a.text.utf8
accepted_or_refused laws n xs text g a (not_grammar at utf8 fault) = let none = laws.not_both n xs g (read.Syntax at) a.text.reading fault in cc
accepted_or_refused laws n xs text g a (too_large which utf8 fault) =
    let none = laws.not_both n xs g (read.TooLarge which) a.text.reading fault in cc
accepted_or_refused laws n xs text g a (not_scoped h place c utf8 reading first) =
    a.text.scoped place c
    (subst (λ (z : Grammar). IsFirst z place c) (laws.only_reading n xs h g reading a.text.reading) first).there.holds
accepted_or_refused laws n xs text g a (too_many_dots h is more) =
    let same = laws.only_reading n xs h g is.reading a.text.reading in
    let P : Grammar → Type 0 = λ z. most_dots < dots (CoreOf (unchanged z)) in
    let few = a.few_dots in
    let many = subst P same more in
    omega arith

pub gives_held : (told : Told) (xs ys : List ℕ) → told ≡ bytes xs → MayGive told ys → ys ≡ xs
gives_held silent xs ys e h = cc
gives_held nothing xs ys e h = cc
gives_held (bytes zs) xs ys e h = let same : zs ≡ xs = cc in h ∙ same

-- bytes that are a text have no fault
not_faulty : (width : ℕ) (ys : List ℕ) (text : Input) (fault : TextFault) → IsDecoded width ys text → IsFaulty ys fault →
    fault ≢ text_fault.Memory → ⊥
not_faulty width ys text (text_fault.NotUtf8 at) d f c = f.not_utf8 d.utf8
not_faulty width ys text text_fault.TooLong d (inl f) c = let few : length ys ≤ most_bytes = d.few_bytes in omega arith
not_faulty width ys text text_fault.TooLong d (inr f) c =
    let few : length (chars ys) ≤ most_characters = subst (λ (z : List ℕ). length z ≤ most_characters) d.characters d.few_characters in
    let more : most_characters < length (chars ys) = f.1 in
    omega arith
not_faulty width ys text text_fault.Memory d f c = c refl

-- a sink that got nothing got the empty text
nothing_added : (told : Option (List ℕ)) → Appends told told []
nothing_added None = tt
nothing_added (Some xs) = sym (append-nil xs)

pub got_none : (sink : Change SinkState) → Untouched sink → Got sink []
got_none sink u =
    record { told = subst (λ z. Appends sink.before.got z []) (sym u.told) (nothing_added sink.before.got); calm = u.calm }

-- what is asked for: a task with a grammar, a job, a load, a batch, or a check of a forest
pub data Sort : Type 0 where
  of_grammar : Sort
  of_job : Sort
  of_load : Sort
  of_batch : Sort
  of_check : Sort

abbrev pub sort_of : Request → Sort
sort_of (check file) = of_grammar
sort_of (show file) = of_grammar
sort_of (core file) = of_grammar
sort_of (forest file input budget) = of_job
sort_of (trees file input budget listing) = of_job
sort_of (query file input budget question) = of_job
sort_of (load size number budget) = of_load
sort_of (batch file budget turn) = of_batch
sort_of (verify file input text) = of_check
sort_of (analyse file) = of_grammar

pub sort_of_task : (t : Task) (file : Source) → sort_of (task_request t file) ≡ of_grammar
sort_of_task task.Check file = refl
sort_of_task task.Show file = refl
sort_of_task task.Core file = refl
sort_of_task task.Analyse file = refl

pub sort_of_job : (job : Job) (file : Source) (input : List ℕ) (budget : ℕ) → sort_of (request_for job file input budget) ≡ of_job
sort_of_job print file input budget = refl
sort_of_job (list listing) file input budget = refl
sort_of_job (ask question) file input budget = refl

-- the words ask for one sort of work
pub one_sort : (words : List (List ℕ)) (r q : Request) (m n : Sort) → IsCommand words r → IsCommand words q → sort_of r ≡ m →
    sort_of q ≡ n → m ≡ n
one_sort words r q m n a b e f = sym e ∙ ap sort_of (same_request words r q a b) ∙ f

-- where the shelf tells that it holds the grammar, and it is accepted, it is what was read
module _ (laws : Laws) (words : List (List ℕ)) (shelf : ShelfState) (request : Request) (asked : IsCommand words request)
    (file : Source) (named : grammar_file request ≡ Some file) (xs : List ℕ) (held : shelf.holds file.name ≡ bytes xs)
    (g : Grammar) (accepted : IsAccepted file.written xs g) where
  same_file : (r : Request) (f : Source) → IsCommand words r → grammar_file r ≡ Some f → f ≡ file
  same_file r f command e =
      let same : Some f ≡ Some file = sym e ∙ ap grammar_file (same_request words r request command asked) ∙ named in
      same_Some f file same

  told_here : (r : Request) (f : Source) → IsCommand words r → grammar_file r ≡ Some f → shelf.holds f.name ≡ bytes xs
  told_here r f command e = ap (λ (z : Source). shelf.holds z.name) (same_file r f command e) ∙ held

  given_here : (r : Request) (f : Source) (ys : List ℕ) → IsCommand words r → grammar_file r ≡ Some f →
      MayGive (shelf.holds f.name) ys → ys ≡ xs
  given_here r f ys command e gives = gives_held (shelf.holds f.name) xs ys (told_here r f command e) gives

  pub not_missing : (r : Request) (f : Source) → IsCommand words r → grammar_file r ≡ Some f → shelf.holds f.name ≡ nothing → ⊥
  not_missing r f command e n = let told = told_here r f command e in cc

  pub not_refused : (r : Request) (f : Source) (ys text : List ℕ) → IsCommand words r → grammar_file r ≡ Some f →
      MayGive (shelf.holds f.name) ys → IsRefused f.written ys text → ⊥
  not_refused r f ys text command e gives refused =
      accepted_or_refused laws file.written xs text g accepted
      (subst (λ (z : Source). IsRefused z.written xs text) (same_file r f command e)
      (subst (λ (z : List ℕ). IsRefused f.written z text) (given_here r f ys command e gives) refused))

  pub grammar_is : (r : Request) (h : Grammar) → IsCommand words r → HasGrammar shelf r h → h ≡ g
  grammar_is r h command has =
      laws.only_reading file.written xs h g
      (subst (λ (z : Source). IsAccepted z.written xs h) (same_file r has.file command has.named)
      (subst (λ (z : List ℕ). IsAccepted has.file.written z h) (given_here r has.file has.bytes command has.named has.gives)
      has.accepted)).text.reading
      accepted.text.reading

-- where the shelf tells that it holds the grammar and the input, these are what was read
module _ (laws : Laws) (words : List (List ℕ)) (shelf : ShelfState) (request : Request) (g : Grammar) (input : Input)
    (asked : Asks words shelf request g input) where
  told_input : (r : Request) (f : List ℕ) → IsCommand words r → input_file r ≡ Some f → shelf.holds f ≡ bytes asked.input_bytes
  told_input r f command e =
      let same : Some f ≡ Some asked.input_name =
      sym e ∙ ap input_file (same_request words r request command asked.command) ∙ asked.names_input in
      ap shelf.holds (same_Some f asked.input_name same) ∙ asked.holds_input

  given_input : (r : Request) (f ys : List ℕ) → IsCommand words r → input_file r ≡ Some f → MayGive (shelf.holds f) ys →
      ys ≡ asked.input_bytes
  given_input r f ys command e gives = gives_held (shelf.holds f) asked.input_bytes ys (told_input r f command e) gives

  pub no_missing_grammar : (r : Request) (f : Source) → IsCommand words r → grammar_file r ≡ Some f →
      shelf.holds f.name ≡ nothing → ⊥
  no_missing_grammar =
      not_missing laws words shelf request asked.command asked.grammar asked.names_grammar asked.grammar_bytes asked.holds_grammar g
      asked.accepted

  pub no_refused_grammar : (r : Request) (f : Source) (ys text : List ℕ) → IsCommand words r → grammar_file r ≡ Some f →
      MayGive (shelf.holds f.name) ys → IsRefused f.written ys text → ⊥
  no_refused_grammar =
      not_refused laws words shelf request asked.command asked.grammar asked.names_grammar asked.grammar_bytes asked.holds_grammar g
      asked.accepted

  pub no_missing_input : (r : Request) (f : List ℕ) → IsCommand words r → input_file r ≡ Some f → shelf.holds f ≡ nothing → ⊥
  no_missing_input r f command e n = let told = told_input r f command e in cc

  pub no_refused_input : (r : Request) (f ys : List ℕ) (fault : TextFault) → IsCommand words r → input_file r ≡ Some f →
      MayGive (shelf.holds f) ys → IsFaulty ys fault → fault ≢ text_fault.Memory → ⊥
  no_refused_input r f ys fault command e gives faulty cause =
      not_faulty (tab_width g.tabs) asked.input_bytes input fault asked.decoded
      (subst (λ (z : List ℕ). IsFaulty z fault) (given_input r f ys command e gives) faulty) cause

  pub same_grammar : (r : Request) (h : Grammar) (text : Input) → HasFiles words shelf r h text → h ≡ g
  same_grammar r h text files =
      grammar_is laws words shelf request asked.command asked.grammar asked.names_grammar asked.grammar_bytes asked.holds_grammar g
      asked.accepted r h files.command files.of_grammar

  pub same_input : (r : Request) (h : Grammar) (text : Input) → HasFiles words shelf r h text → text ≡ input
  same_input r h text files =
      let letters : text.characters ≡ input.characters =
      files.of_input.decoded.characters ∙
      (ap chars (given_input r files.of_input.name files.of_input.bytes files.command files.of_input.named files.of_input.gives) ∙
      sym asked.decoded.characters) in
      let width : text.tabs ≡ input.tabs =
      files.of_input.decoded.tabs ∙ ap (λ (z : Grammar). tab_width z.tabs) (same_grammar r h text files) ∙ sym asked.decoded.tabs in
      ap (λ z. record { characters = z; tabs = text.tabs }) letters ∙ ap (λ z. record { characters = input.characters; tabs = z }) width
