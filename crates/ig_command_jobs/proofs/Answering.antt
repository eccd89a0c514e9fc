-- What the answer to a question is of permitted trees.
use Rattle.std.proofs.Common.{◌≢◌, ◌≡◌, ◌↔◌, ℕ, List, [], ◌∷◌, Contains, IsTrue, Option, Result, Ok, Err, Vec, Global, refl, sym, subst, arith}
use Rattle.ig_text.specs.Input.{Input}
use Rattle.ig_text.proofs.Lists.{none_in_nil}
use Rattle.ig_grammar.specs.Checked.{CheckedGrammar}
use Rattle.ig_item.specs.WellKinded.{IsWellKinded}
use Rattle.ig_core.specs.Lowered.{CoreOf}
use Rattle.ig_core.specs.Notation.{unchanged}
use Rattle.ig_forest_tables.specs.Forest.{Forest}
use Rattle.ig_forest_tables.specs.Unfold.{IsTrim}
use Rattle.ig_heights.specs.Laws.{DepthsAreHeights}
use Rattle.ig_query.specs.Ambiguity.{AreAmbiguous, IsAmbiguous}
use Rattle.ig_parse.specs.Laws.{AmbiguityIsTwoPermitted, CyclicIsWithoutHighest, HasNoHighest, PermitsTwo, SpansAreOfDeclarations}
use Rattle.ig_parse.specs.Parses.{IsForestOf}
use Rattle.ig_command_endings.specs.declared.stop.Stop.{Stop}
use Rattle.ig_command_endings.specs.declared.stop.Stop.TheVariants as halt
use Rattle.ig_command_endings.specs.declared.status.Status.TheVariants as status
use Rattle.ig_command.specs.Commands as asked
use Rattle.ig_command.specs.Commands.{Question}
use Rattle.ig_command_jobs.specs.Jobs.{ask}
use Rattle.ig_command_answers.specs.Questions.{TellsAmbiguous, TellsCyclic, TellsSpans, Tells}
use Rattle.ig_command_jobs.specs.Finishes.{Finishes, told_ambiguous, told_cyclic, told_spans, told_report}
use Rattle.ig_command_jobs.specs.Pages.{GivesAnswer}
use Rattle.ig_command_jobs.specs.Texts.{FinishesJob}

-- the laws of queries
pub record Laws : Type 0 where
  pub heights : DepthsAreHeights
  pub two : AmbiguityIsTwoPermitted
  pub unbounded : CyclicIsWithoutHighest
  pub spans : SpansAreOfDeclarations

-- the first of the ambiguous nodes
first : (f : Forest) (nodes : List ℕ) → AreAmbiguous f nodes → nodes ≢ [] → IsAmbiguous f
first f [] are some = absurd (some refl)
first f (v ∷ vs) are some = (v, (are.members v).0 (0, omega arith, refl))

module _ (laws : Laws) (c : CheckedGrammar) (text : Input) (f : Forest) (is : IsForestOf c text f) (trim : IsTrim f)
    (well : IsWellKinded (CoreOf c)) (as_it_is : c ≡ unchanged c.grammar) where
  some_exactly : (nodes : List ℕ) → AreAmbiguous f nodes → (nodes ≢ []) ↔ PermitsTwo c text
  some_exactly nodes are =
      let both = laws.two c text f trim is in (
        λ some. both.0 (first f nodes are some),
        λ p e.
            let node = both.1 p in
            none_in_nil node.0 (subst (λ (z : List ℕ). Contains z node.0) e ((are.members node.0).1 node.1)),
      )

  ambiguous : (out : List ℕ) → TellsAmbiguous f out → Finishes c text f (ask asked.ambiguous) status.Done out []
  ambiguous out told =
      subst (λ (z : List ℕ). Finishes c text f (ask asked.ambiguous) status.Done z []) (sym told.text_is)
      (told_ambiguous told.nodes told.are (some_exactly told.nodes told.are))

  cyclic : (out : List ℕ) → TellsCyclic f out → Finishes c text f (ask asked.cyclic) status.Done out []
  cyclic out told =
      let both = laws.unbounded c text f is in
      let exact : IsTrue told.answer ↔ HasNoHighest c text =
      (λ yes. both.0 (told.exact.0 yes), λ none. told.exact.1 (both.1 none)) in
      subst (λ (z : List ℕ). Finishes c text f (ask asked.cyclic) status.Done z []) (sym told.text_is)
      (told_cyclic told.answer exact)

  spans : (given : Option (List ℕ)) (out : List ℕ) → TellsSpans c f given out →
      Finishes c text f (ask (asked.spans given)) status.Done out []
  spans given out told =
      let kinded = subst (λ (z : CheckedGrammar). IsWellKinded (CoreOf z)) as_it_is well in
      let forest = subst (λ (z : CheckedGrammar). IsForestOf z text f) as_it_is is in
      subst (λ (z : List ℕ). Finishes c text f (ask (asked.spans given)) status.Done z []) (sym told.text_is)
      (told_spans given told.name told.found told.wanted
      (record {
        members = λ span.
            let both = laws.spans c.grammar text f told.name span kinded forest in (
              λ has. both.0 ((told.are.members span).0 has),
              λ declares. (told.are.members span).1 (both.1 declares),
            );
        order = told.are.order;
      }))

  finishes : (question : Question) (out : List ℕ) → Tells c text f question out →
      Finishes c text f (ask question) status.Done out []
  finishes asked.ambiguous out told = ambiguous out told
  finishes asked.cyclic out told = cyclic out told
  finishes (asked.spans given) out told = spans given out told
  finishes asked.report out told = told_report told.told out told.is told.line

  pub finishes_question : (question : Question) (r : Result (Vec ℕ Global) Stop) → GivesAnswer c text f question r →
      FinishesJob c text f (ask question) r
  finishes_question question (Ok out) told = finishes question out.items told
  finishes_question question (Err (halt.Note s line)) told = absurd told
  finishes_question question (Err halt.Memory) told = tt
