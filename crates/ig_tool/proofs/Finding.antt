-- What the files of one job come to.
use Rattle.std.proofs.Common.{◌≡◌, ℕ, List, [], ◌∷◌, refl, sym, ◌∙◌, ap, subst, Some, None, Result, Ok, Err, Vec, Global, slice_get, inl}
use Rattle.std.specs.Result.{IsErrAnd}
use Rattle.ig_text.specs.Decoding.{IsDecoded}
use Rattle.ig_text.proofs.Options.{passed_on}
use Rattle.ig_outside.specs.States.{ShelfState}
use Rattle.ig_outside.specs.Told.{Told}
use Rattle.ig_turns.specs.Lists.{Job}
use Rattle.ig_grammar.specs.Tabs.{tab_width}
use Rattle.ig_notation.specs.declared.fault.Large.TheVariants.{Bytes}
use Rattle.ig_command_endings.specs.Change.{Fetched, IsCalm, change}
use Rattle.ig_command_endings.specs.Stops.{RefusesWith}
use Rattle.ig_command_endings.specs.declared.status.Status.{Status}
use Rattle.ig_command_endings.specs.declared.status.Status.TheVariants as status
use Rattle.ig_command_endings.specs.declared.stop.Stop.{Stop}
use Rattle.ig_command_endings.specs.declared.stop.Stop.TheVariants as halt
use Rattle.ig_command_sources.specs.Refusals as refusals
use Rattle.ig_command_sources.specs.Refusals.{large_text}
use Rattle.ig_command_sources.specs.Sources as sources
use Rattle.ig_command_sources.specs.Sources.{GivesGrammarText, GivesInput, IsNoInput, MayGive, RefusesNone, StopsAt, StopsFile}
use Rattle.ig_tool.specs.Batch.{missing, unread}
use Rattle.ig_tool.specs.Files.{at_grammar, at_input, by_grammar, by_input, one_more, two_more}
use Rattle.ig_tool.specs.Loading.{Accepts, FindsGrammar, FindsInput, IsAt, LoadsJob, PlacesGrammar, StopsLoading, grammars_of, refused_input, refused_text}
use Rattle.ig_tool.specs.declared.grammars.Kept.{Kept}
use Rattle.ig_tool.specs.declared.grammars.Found.{Found}
use Rattle.ig_tool.specs.declared.grammars.Found.TheVariants as found
use Rattle.ig_tool.specs.declared.loading.Loaded.{Loaded}
use Rattle.ig_tool.specs.declared.loading.Loaded.TheVariants as loaded
use Rattle.ig_tool.proofs.Fetching.{fetched_behind, rose_behind, stood_behind}

-- bytes that are refused are an answer
pub places_none : (kept : List Kept) (xs : List ℕ) (stop : Stop) (r : Result Found Stop) → Accepts xs (Err stop) → r ≡ refused_text stop →
    PlacesGrammar kept xs r
places_none kept xs (halt.Note s line) r h e = subst (PlacesGrammar kept xs) (sym e) h
places_none kept xs halt.Memory r h e = subst (PlacesGrammar kept xs) (sym e) tt

-- and so are too many
pub finds_long : (kept : List Kept) (told : Told) (name : List ℕ) (old new : ℕ) (stop : Stop) (r : Result Found Stop) →
    GivesGrammarText told name old new (Ok None) → RefusesWith (large_text Bytes) stop → r ≡ refused_text stop →
    FindsGrammar kept told name old new r
finds_long kept told name old new (halt.Note s line) r h why e =
    subst (FindsGrammar kept told name old new) (sym e)
    (h.0, (h.1.0, h.1.1, record { text = large_text Bytes; refused = refusals.too_many h.1.2; status_is = why.0; note_is = why.1 }))
finds_long kept told name old new halt.Memory r h why e = subst (FindsGrammar kept told name old new) (sym e) (inl h.0)

-- the bytes of a file come to what they come to
pub finds_placed : (kept : List Kept) (told : Told) (name : List ℕ) (old new : ℕ) (text : Vec ℕ Global) (r : Result Found Stop) →
    GivesGrammarText told name old new (Ok (Some text)) → PlacesGrammar kept text.items r → FindsGrammar kept told name old new r
finds_placed kept told name old new text (Ok (found.At at)) h is = (h.0, (text.items, h.1, is))
finds_placed kept told name old new text (Ok (found.Refused s note)) h is = (h.0, (text.items, h.1, is))
finds_placed kept told name old new text (Err (halt.Note s line)) h is = absurd is
finds_placed kept told name old new text (Err halt.Memory) h is = inl h.0

-- an error that is passed on
pub finds_passed : (kept : List Kept) (told : Told) (name : List ℕ) (old new : ℕ) (r : Result Found Stop) (stop : Stop) →
    IsErrAnd r (λ f. f ≡ stop) → StopsFile told name old new RefusesNone stop → FindsGrammar kept told name old new r
finds_passed kept told name old new r stop e h = subst (FindsGrammar kept told name old new) (sym (passed_on r stop e)) h

module _ (shelf : ShelfState) (new : ShelfState) (job : Job) where
  at_first : (s : Status) (line : Vec ℕ Global) → Fetched (change shelf new) 1 →
      StopsAt (shelf.holds job.grammar) job.grammar shelf.faults new.faults RefusesNone s line.items →
      StopsLoading (change shelf new) (job ∷ []) (halt.Note s line)
  at_first s line counted (sources.missing t note e n p q) =
      (p, (job.grammar, q, (1, missing e (at_grammar job [] n), counted)))
  at_first s line counted (sources.unread t note rose p q) =
      (p, (job.grammar, q, (1, unread rose (at_grammar job [] tt), counted)))
  at_first s line counted (sources.refused t note xs e gives why) = absurd why

  -- the grammar can't be read
  grammar_stops : (stop : Stop) → Fetched (change shelf new) 1 →
      StopsFile (shelf.holds job.grammar) job.grammar shelf.faults new.faults RefusesNone stop →
      StopsLoading (change shelf new) (job ∷ []) stop
  grammar_stops (halt.Note s line) counted h = at_first s line counted h
  grammar_stops halt.Memory counted h = (1, one_more job [], counted, h)

  -- the grammar is refused
  pub grammar_refused : (kept : List Kept) (s : Status) (note : Vec ℕ Global) (name : List ℕ) → name ≡ job.grammar →
      Fetched (change shelf new) 1 →
      FindsGrammar kept (shelf.holds name) name shelf.faults new.faults (Ok (found.Refused s note)) →
      LoadsJob (change shelf new) kept job (Ok (loaded.Refused s note))
  grammar_refused kept s note name named counted h =
      let why = h.1.2 in
      let gives = subst (λ (z : List ℕ). MayGive (shelf.holds z) h.1.0) named h.1.1 in
      (h.0, (1, rw (why.status_is, why.note_is) (by_grammar h.1.0 why.text gives why.refused), counted))

-- the grammar was found, and the shelf tells the same
module _ (old mid new : ShelfState) (job : Job) (kept : List Kept) (at : ℕ) (calm : IsCalm (change old mid))
    (first : Fetched (change old mid) 1) (second : Fetched (change mid new) 1)
    (same : (name : List ℕ) → mid.holds name ≡ old.holds name) (xs first_name : List ℕ) (named : first_name ≡ job.grammar)
    (told : MayGive (old.holds first_name) xs) (is : IsAt kept xs at) (tabs : ℕ) (width : tabs ≡ tab_width is.grammar.tabs) where
  gives : MayGive (old.holds job.grammar) xs
  gives = subst (λ (z : List ℕ). MayGive (old.holds z) xs) named told

  counted : Fetched (change old new) 2
  counted = fetched_behind old mid new 1 1 first second

  at_second : (s : Status) (line : Vec ℕ Global) →
      StopsAt (mid.holds job.input) job.input mid.faults new.faults RefusesNone s line.items →
      StopsLoading (change old new) (job ∷ []) (halt.Note s line)
  at_second s line (sources.missing t note e n p q) = (
    p,
    (job.input, q, (2, missing (e ∙ calm) (at_input job [] xs is.grammar gives is.accepted (sym (same job.input) ∙ n)), counted)),
  )
  at_second s line (sources.unread t note rose p q) = (
    p,
    (job.input, q, (2, unread (rose_behind old mid new calm rose) (at_input job [] xs is.grammar gives is.accepted tt), counted)),
  )
  at_second s line (sources.refused t note ys e give why) = absurd why

  stops_at_second : (stop : Stop) → StopsFile (mid.holds job.input) job.input mid.faults new.faults RefusesNone stop →
      StopsLoading (change old new) (job ∷ []) stop
  stops_at_second (halt.Note s line) h = at_second s line h
  stops_at_second halt.Memory h = (2, two_more job [] xs is.grammar gives is.accepted, counted, stood_behind old mid new calm h)

  given_before : (ys : List ℕ) → MayGive (mid.holds job.input) ys → MayGive (old.holds job.input) ys
  given_before ys h = subst (λ (z : Told). MayGive z ys) (same job.input) h

  loads_job : (r : Result Loaded Stop) → FindsInput tabs at (mid.holds job.input) job.input mid.faults new.faults r →
      LoadsJob (change old new) kept job r
  loads_job (Ok (loaded.Accepted place input)) h = (
    h.0 ∙ calm,
    (
      2,
      (
        refl,
        (
          is.grammar,
          record {
            grammar_bytes = xs;
            gives_grammar = gives;
            accepted = is.accepted;
            input_bytes = h.2.0;
            gives_input = given_before h.2.0 h.2.1;
            decoded = subst (λ (z : ℕ). IsDecoded z h.2.0 input) width h.2.2;
          },
          ap (slice_get (grammars_of kept)) h.1 ∙ is.there,
        ),
      ),
      counted,
    ),
  )
  loads_job (Ok (loaded.Refused s note)) h =
      let why = h.1.2 in (
        h.0 ∙ calm,
        (
          2,
          rw (why.status_is, why.note_is)
              (by_input xs h.1.0 is.grammar why.fault gives is.accepted (given_before h.1.0 h.1.1) why.faulty why.cause),
          counted,
        ),
      )
  loads_job (Err stop) h = stops_at_second stop h

  pub loads_named : (name : List ℕ) (r : Result Loaded Stop) → name ≡ job.input →
      FindsInput tabs at (mid.holds name) name mid.faults new.faults r → LoadsJob (change old new) kept job r
  loads_named name r e h =
      loads_job r (subst (λ (z : List ℕ). FindsInput tabs at (mid.holds z) z mid.faults new.faults r) e h)

-- an input that is refused is an answer, and one that can't be read isn't
finds_refused : (tabs at : ℕ) (told : Told) (name : List ℕ) (old new : ℕ) (s : Status) (line : Vec ℕ Global) →
    StopsAt told name old new IsNoInput s line.items → FindsInput tabs at told name old new (refused_input (halt.Note s line))
finds_refused tabs at told name old new s line (sources.missing t note e n p q) =
    subst (λ z. FindsInput tabs at told name old new (refused_input (halt.Note z line))) (sym p)
    (sources.missing status.ReadFault line.items e n refl q)
finds_refused tabs at told name old new s line (sources.unread t note rose p q) =
    subst (λ z. FindsInput tabs at told name old new (refused_input (halt.Note z line))) (sym p)
    (sources.unread status.ReadFault line.items rose refl q)
finds_refused tabs at told name old new s line (sources.refused t note xs e gives why) =
    subst (λ z. FindsInput tabs at told name old new (refused_input (halt.Note z line))) (sym why.status_is)
    (e, (xs, gives, (let P : Status → Type 0 = λ z. IsNoInput xs z line.items in subst P why.status_is why)))

pub finds_no_input : (tabs at : ℕ) (told : Told) (name : List ℕ) (old new : ℕ) (stop : Stop) (r : Result Loaded Stop) →
    GivesInput tabs told name old new (Err stop) → r ≡ refused_input stop → FindsInput tabs at told name old new r
finds_no_input tabs at told name old new (halt.Note s line) r h e =
    subst (FindsInput tabs at told name old new) (sym e) (finds_refused tabs at told name old new s line h)
finds_no_input tabs at told name old new halt.Memory r h e = subst (FindsInput tabs at told name old new) (sym e) h

-- an error of the grammar that is passed on
pub stops_passed : (old new : ShelfState) (job : Job) (kept : List Kept) (name : List ℕ) (r : Result Loaded Stop) (stop : Stop) →
    name ≡ job.grammar → IsErrAnd r (λ f. f ≡ stop) → Fetched (change old new) 1 →
    StopsFile (old.holds name) name old.faults new.faults RefusesNone stop → LoadsJob (change old new) kept job r
stops_passed old new job kept name r stop named e counted h =
    subst (LoadsJob (change old new) kept job) (sym (passed_on r stop e))
    (grammar_stops old new job stop counted
    (subst (λ (z : List ℕ). StopsFile (old.holds z) z old.faults new.faults RefusesNone stop) named h))
