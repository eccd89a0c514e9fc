-- Notes that are put, and the note on a budget.
use Rattle.std.proofs.Common.{ℕ, List, ◌≡◌, ◌++◌, inl, inr, refl, ap, ◌∙◌, Ok, Err}
use Rattle.std.proofs.lemmas.List.{append_assoc}
use Rattle.std.specs.Prelude.{codes}
use Rattle.std.specs.Fmt.{decimal}
use Rattle.ig_outside.specs.Put.{AnswersPut, CausesPut}
use Rattle.ig_outside.specs.States.{SinkState}
use Rattle.ig_outside.specs.declared.sink.SinkFault.{SinkFault}
use Rattle.ig_outside.specs.declared.sink.SinkFault.TheVariants.{Failed}
use Rattle.ig_text.specs.Lines.{line_end}
use Rattle.ig_command_endings.specs.Change.{change}
use Rattle.ig_command_endings.specs.Stops.{IsStop, IsOverBudget, WritesNote}
use Rattle.ig_command_endings.specs.declared.status.Status.{Status}
use Rattle.ig_command_endings.specs.declared.status.Status.TheVariants as status
use Rattle.ig_command_endings.specs.declared.stop.Stop.{Stop}
use Rattle.ig_command_endings.specs.declared.stop.Stop.TheVariants as halt

-- what notes answer to a line
module _ (s : Status) (line : List ℕ) (before after : SinkState) where
  pub note_put : (u : Unit {0}) → AnswersPut before.got after.got line (Ok u) → CausesPut before.faults after.faults (Ok u) →
      WritesNote s line (change before after) s
  note_put u told calm = inl (refl, record { told = told; calm = calm })

  pub note_refused : (fault : SinkFault) → AnswersPut before.got after.got line (Err fault) →
      CausesPut before.faults after.faults (Err fault) → WritesNote s line (change before after) status.WriteFault
  note_refused Failed told rose = inr (refl, record { told = told; rose = rose })

-- the line says how many items the budget allows
pub over_budget_said : (budget : ℕ) (items : List ℕ) (stop : Stop) → items ≡ decimal budget ++ codes " items" →
    IsStop status.Budget (codes "budget: more than ") items stop → IsOverBudget budget stop
over_budget_said budget items (halt.Note s line) e h = (
  h.0,
  h.1 ∙ ap (λ (z : List ℕ). (codes "budget: more than " ++ z) ++ line_end) e ∙
      ap (λ (z : List ℕ). codes "budget: more than " ++ z) (append_assoc (decimal budget) (codes " items") line_end),
)
over_budget_said budget items halt.Memory e h = tt
