use Rattle.std.proofs.Common.{◌∙◌, ◌++◌, ℕ, ap}
use Rattle.std.specs.Fmt.{decimal}
use Rattle.ig_text.proofs.Booleans.{refuted}
use Rattle.ig_forest_reader.proofs.Leading.{none_read, some_read, some_is}
use Rattle.ig_forest_reader.proofs.fronts.read_behind_number.Goals as goal

pub returns-in_default : goal.returns-in_default
returns-in_default c =
    record {
      exact = tt;
      told = λ us few stops e. none_read _ _ (c.read_number.ensures.told c.args.number us few stops e) c.in_default.is;
    }

pub returns-then-is_same : goal.returns-then-is_same
returns-then-is_same c =
    record {
      exact =
          some_is _ _ _ c.read_number.ensures.exact c.in-Some.is ∙
          ap (λ (n : ℕ). decimal n ++ c.in-Some.rest.now) (c.is_same.ensures.0 c.if-is_same.true);
      told = λ us few stops e. (some_read _ _ _ (c.read_number.ensures.told c.args.number us few stops e) c.in-Some.is).1;
    }

pub returns : goal.returns
returns c =
    record {
      exact = tt;
      told = λ us few stops e.
          let read = some_read _ _ _ (c.read_number.ensures.told c.args.number us few stops e) c.in-Some.is in
          absurd (refuted c.is_same.result c.is_same.ensures c.if-is_same.false read.0);
    }
