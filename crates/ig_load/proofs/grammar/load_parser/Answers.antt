use Rattle.std.proofs.Common.{◌∙◌, sym, subst, arith}
use Rattle.ig_core.specs.Lowered.{IsBuildable}
use Rattle.ig_load.proofs.Dots.{few_dots}
use Rattle.ig_load.proofs.Said.{buildable}
use Rattle.ig_load.proofs.grammar.load_parser.Goals as goal

pub of-requires : goal.of-requires
of-requires c =
    record {
      buildable =
          subst IsBuildable (sym c.requires)
          (buildable c.load_text_reads.ensures c.read_grammars_are_regular.ensures c.notation_is_buildable.ensures);
    }

pub returns-in-Ok : goal.returns-in-Ok
returns-in-Ok c = c.in-Ok.ensures.same ∙ c.requires

pub unreachable-requires : goal.unreachable-requires
unreachable-requires c =
    let many = rw c.requires at (c.in-Err-TooManyDots.ensures.exact c.in-Err-TooManyDots.field-0-is) in
    let few = few_dots in
    omega arith
