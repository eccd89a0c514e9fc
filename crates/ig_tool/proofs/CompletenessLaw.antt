-- Completeness, from the main theorem.
use Rattle.std.proofs.Common.{◌≡◌, ℕ, List, [], ◌⊎◌, inl, inr, refl, sym, ◌∙◌, subst, Option, Some}
use Rattle.std.proofs.lemmas.Option.{same_Some}
use Rattle.ig_text.specs.Input.{Input}
use Rattle.ig_text.specs.Tree.{Tree}
use Rattle.ig_outside.specs.States.{ShelfState, SinkState}
use Rattle.ig_grammar.specs.Checked.{CheckedGrammar}
use Rattle.ig_grammar.specs.declared.grammar.Grammar.{Grammar}
use Rattle.ig_core.specs.Notation.{unchanged}
use Rattle.ig_forest_tables.specs.Forest.{Forest}
use Rattle.ig_parse.specs.Parses.{IsParsed, IsOver, IsForestOf}
use Rattle.ig_command_endings.specs.declared.status.Status.{Status}
use Rattle.ig_command_endings.specs.declared.status.Status.TheVariants as status
use Rattle.ig_command_jobs.specs.Jobs.{Job}
use Rattle.ig_command_endings.specs.Change.{Change, Got, Untouched}
use Rattle.ig_command_jobs.specs.Listing.{IsBounded, IsNoCursor, Begins, at_first, at_cursor}
use Rattle.ig_command_jobs.specs.Finishes.{Finishes, printed, depth_needed, bad_cursor, listed, told_ambiguous, told_cyclic, told_spans, told_report}
use Rattle.ig_tool.specs.Outcome.{Answers}
use Rattle.ig_command_jobs.specs.Outcome.{Outcome, over_budget, no_parse, parsed}
use Rattle.ig_tool.specs.Headline.{Says, IsLawful, Completeness, GotText}
use Rattle.ig_tool.proofs.Asked.{Laws}
use Rattle.ig_tool.proofs.HeadlineLaw.{headline}

-- the word behind which a listing begins is the text of a cursor
not_lost : (c : CheckedGrammar) (input : Input) (f : Forest) (depth : Option ℕ) (after : Option (List ℕ)) (last : Option Tree) (word : List ℕ) →
    after ≡ Some word → IsNoCursor c input f depth word → Begins c input f depth after last → ⊥
not_lost c input f depth after last word e none at_first = cc
not_lost c input f depth after last word e none (at_cursor given cursor t is) =
    none (record { cursor = cursor; tree = t }) (record { eligible = is.eligible; text_is = sym (same_Some given word e) ∙ is.text_is })

-- what comes of a lawful job is a text
finishes_lawful : (c : CheckedGrammar) (input : Input) (f : Forest) (job : Job) (s : Status) (text note : List ℕ) →
    IsForestOf c input f → IsLawful c input job → Finishes c input f job s text note → (s ≡ status.Done) × (note ≡ [])
finishes_lawful c input f job s text note is lawful printed = (refl, refl)
finishes_lawful c input f job s text note is lawful (depth_needed listing without none) =
    absurd (subst (λ (z : Option ℕ). IsBounded c input z) without lawful.0 none)
finishes_lawful c input f job s text note is lawful (bad_cursor listing word bounded given lost) =
    let begins = lawful.1 f is in absurd (not_lost c input f listing.depth listing.after begins.0 word given lost begins.1)
finishes_lawful c input f job s text note is lawful (listed listing last trees bounded begins listing_is) = (refl, refl)
finishes_lawful c input f job s text note is lawful (told_ambiguous nodes are exact) = (refl, refl)
finishes_lawful c input f job s text note is lawful (told_cyclic answer exact) = (refl, refl)
finishes_lawful c input f job s text note is lawful (told_spans given name found wanted are) = (refl, refl)
finishes_lawful c input f job s text note is lawful (told_report report line told is_line) = (refl, refl)

module _ (g : Grammar) (input : Input) (budget : ℕ) (job : Job) (few : IsOver (unchanged g) input budget → ⊥)
    (some : IsParsed (unchanged g) input) (lawful : IsLawful (unchanged g) input job) (out notes : Change SinkState) where
  -- the outcome is that text
  outcome_done : (s : Status) (text note : List ℕ) → Outcome g input budget job s text note → Got out text → Got notes note →
      (s ≡ status.Done) × GotText g input budget job out notes
  outcome_done s text note (over_budget more) got quiet = absurd (few more)
  outcome_done s text note (no_parse line enough none told) got quiet = absurd (none some.0 some.1)
  outcome_done s text note (parsed f t made line has finishes) got quiet =
      let done = finishes_lawful (unchanged g) input f job s text note has.is lawful finishes in (
        done.0,
        record {
          forest = f;
          is = has;
          text = text;
          finishes =
              subst (λ (z : Status). Finishes (unchanged g) input f job z text []) done.0
              (subst (λ (z : List ℕ). Finishes (unchanged g) input f job s text z) done.1 finishes);
          got = got;
          quiet = subst (Got notes) done.1 quiet;
        },
      )

  said : (s : Status) → Says g input budget job out notes s →
      ((s ≡ status.NoMemory) × Untouched out) ⊎ ((s ≡ status.Done) × GotText g input budget job out notes)
  said s (inl lacking) = inl lacking
  said s (inr x) = inr (outcome_done s x.0 x.1.0 x.1.1.0 x.1.1.1 x.1.1.2)

pub completeness : (laws : Laws) (words : List (List ℕ)) (shelf : Change ShelfState) (out notes : Change SinkState) (s : Status) →
    Answers words shelf out notes s → Completeness words shelf out notes s
completeness laws words shelf out notes s answers grammar input_name g input budget job asked calm a b few some lawful =
    said g input budget job few some lawful out notes s
    (headline laws words shelf out notes s answers grammar input_name g input budget job asked calm a b)
