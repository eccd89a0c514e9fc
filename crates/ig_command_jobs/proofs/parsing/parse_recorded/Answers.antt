use Rattle.std.proofs.Common.{refl, sym, subst}
use Rattle.ig_core.specs.Lowered.{CoreOf}
use Rattle.ig_item.specs.WellKinded.{IsWellKinded}
use Rattle.ig_parse.specs.Parses.{AreReachable, IsParsed, IsForestOf, IsUnparsed}
use Rattle.ig_command_jobs.specs.Jobs.{stored_job}
use Rattle.ig_command_jobs.proofs.Parsed.{finishes_job, printable, parses_forest, parses_none, recorded_reachable}
use Rattle.ig_command_jobs.proofs.parsing.parse_recorded.Goals as goal

pub report-requires : goal.report-requires
report-requires c =
    record {
      reachable = subst (AreReachable c.args.parser.now c.args.input.now) (sym c.items.ensures.items)
          (recorded_reachable c.args.parser.now c.args.input.now c.args.recorded c.requires.core c.requires.text c.items.ensures.recorded);
    }

pub returns-in_default : goal.returns-in_default
returns-in_default c =
    λ budget few.
    parses_none c.args.parser.now c.args.input.now budget (stored_job c.args.job) c.in_ok-report.report
    c.unparsed.result few
    (subst (IsUnparsed c.args.parser.now) c.requires.text (rw c.in_default.is at c.in_ok-forest.ensures)) c.in_ok-report.ensures
    c.unparsed.ensures

pub finish-requires-clause-reachable : goal.finish-requires-clause-reachable
finish-requires-clause-reachable c =
    subst (AreReachable c.args.parser.now c.args.input.now) (sym c.into_items.ensures.items)
    (recorded_reachable c.args.parser.now c.args.input.now c.args.recorded c.requires.core c.requires.text c.into_items.ensures.recorded)

pub finish-requires-clause-printable : goal.finish-requires-clause-printable
finish-requires-clause-printable c =
    let has : IsParsed c.args.parser.now c.args.input.now × IsForestOf c.args.parser.now c.args.input.now c.in-Some.forest =
    subst (λ z. IsParsed c.args.parser.now z × IsForestOf c.args.parser.now z c.in-Some.forest) c.requires.text
    (rw c.in-Some.is at c.in_ok-forest.ensures) in
    printable (CoreOf c.args.parser.now) c.args.parser.now c.args.input.now c.in-Some.forest refl
    (rw c.core-core.ensures at c.nonterminals-nonterminals.ensures.well_kinded) has.1.reduced
    c.tags_name_nonterminals.ensures c.cursors_are_short.ensures

pub returns : goal.returns
returns c =
    λ budget few.
    let has : IsParsed c.args.parser.now c.args.input.now × IsForestOf c.args.parser.now c.args.input.now c.in-Some.forest =
    subst (λ z. IsParsed c.args.parser.now z × IsForestOf c.args.parser.now z c.in-Some.forest) c.requires.text
    (rw c.in-Some.is at c.in_ok-forest.ensures) in
    let well : IsWellKinded (CoreOf c.args.parser.now) =
    rw c.core-core.ensures at c.nonterminals-nonterminals.ensures.well_kinded in
    parses_forest c.args.parser.now c.args.input.now budget (stored_job c.args.job) c.in-Some.forest c.finish.result
    (record { suffices = few; parsed = has.0; is = has.1 })
    (finishes_job
    (record {
      heights = c.depths_are_heights.ensures;
      two = c.ambiguity_is_two_permitted.ensures;
      unbounded = c.cyclic_is_without_highest.ensures;
      spans = c.spans_are_of_declarations.ensures;
    })
    c.args.parser.now c.args.input.now c.in-Some.forest has.1 c.root-root.ensures.trim well c.requires.as_it_is
    (stored_job c.args.job)
    c.finish.result c.finish.ensures)
