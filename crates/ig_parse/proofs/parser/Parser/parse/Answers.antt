use Rattle.std.proofs.Common.{Some, sym, subst}
use Rattle.ig_parse.specs.Parses.{AreReachable, HasItems, HasNone, IsUnparsed, MayHaveForest}
use Rattle.ig_parse.proofs.parser.Parser.parse.Goals as goal

pub report-requires : goal.report-requires
report-requires c =
    let items : HasItems c.args.self.now c.args.text.now c.args.budget c.in_ok-recorded.recorded = c.in_ok-recorded.ensures in
    record { reachable = subst (AreReachable c.args.self.now c.args.text.now) (sym c.items.ensures.items) items.reachable }

pub returns-in-Some-clause-parses : goal.returns-in-Some-clause-parses
returns-in-Some-clause-parses c =
    let items : HasItems c.args.self.now c.args.text.now c.args.budget c.in_ok-recorded.recorded = c.in_ok-recorded.ensures in
    let has =
    subst (λ t. MayHaveForest c.args.self.now t (Some c.in-Some.forest)) items.text_is (rw c.in-Some.is at c.in_ok-forest.ensures) in
    record { suffices = items.suffices; parsed = has.0; is = has.1 }

pub returns-clause-parses : goal.returns-clause-parses
returns-clause-parses c =
    let items : HasItems c.args.self.now c.args.text.now c.args.budget c.in_ok-recorded.recorded = c.in_ok-recorded.ensures in
    subst (HasNone c.args.self.now c.args.text.now c.args.budget) (sym c.no_parse.ensures) (
      items.suffices,
      subst (IsUnparsed c.args.self.now) items.text_is (rw c.in-None.is at c.in_ok-forest.ensures),
      c.in_ok-report-in-None.ensures,
    )
