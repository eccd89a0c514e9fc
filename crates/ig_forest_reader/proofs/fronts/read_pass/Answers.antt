use Rattle.std.proofs.Common.{ap}
use Rattle.ig_forest_tables.specs.declared.entry.Entry.TheVariants.{Pass}
use Rattle.ig_forest_reader.proofs.Leading.{some_is, none_read, some_read}
use Rattle.ig_forest_reader.proofs.Spelled.{pass_spelled}
use Rattle.ig_forest_reader.proofs.fronts.read_pass.Goals as goal

pub returns-in_default : goal.returns-in_default
returns-in_default c =
    record {
      small = tt;
      exact = tt;
      told = λ i us small e.
          none_read _ _ (c.read_last_number.ensures.told i us small e) c.in_default.is;
    }

pub returns : goal.returns
returns c =
    record {
      small = some_is _ _ _ c.read_last_number.ensures.small c.in-Some.is;
      exact = pass_spelled c.args.bytes.now c.in-Some.rest.now c.in-Some.prev (some_is _ _ _ c.read_last_number.ensures.exact c.in-Some.is);
      told = λ i us small e.
          let read = some_read _ _ _ (c.read_last_number.ensures.told i us small e) c.in-Some.is in
          (ap Pass read.0, read.1);
    }
