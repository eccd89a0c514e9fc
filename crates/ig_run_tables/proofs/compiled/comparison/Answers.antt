use Rattle.std.proofs.Common.{Some, int_lt, sym, ap, ◌∙◌, w64}
use Rattle.std.proofs.lemmas.Int.{to_z-of_z}
use Rattle.ig_run_tables.specs.Compiled.{comparison}
use Rattle.ig_run_tables.proofs.compiled.comparison.Goals as goal

pub returns-in-Less : goal.returns-in-Less
returns-in-Less c =
    (λ i. Some (int_lt (to_z-of_z w64 c.args.a c.ranges.a i) (to_z-of_z w64 c.args.b c.ranges.b i))) ∙
    sym (ap (λ o. comparison o c.args.a c.args.b) c.in-Less.is)
