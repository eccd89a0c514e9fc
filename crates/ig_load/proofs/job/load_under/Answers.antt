use Rattle.std.proofs.Common.{sym, subst}
use Rattle.ig_load.specs.Summary.{IsSummaryOf}
use Rattle.ig_parse.specs.Parses.{AreReachable, IsParsed}
use Rattle.ig_load.proofs.Summaries.{parsed, loaded}
use Rattle.ig_load.proofs.job.load_under.Goals as goal

pub summarize-requires : goal.summarize-requires
summarize-requires c =
    let text = sym c.in_ok-recorded.ensures.text_is in
    record {
      own = c.in_ok-recorded.ensures.core;
      reachable = subst (λ z. AreReachable c.in_ok-parser.parser z c.in_ok-recorded.recorded.tables) text c.in_ok-recorded.ensures.reachable;
      once = c.in_ok-recorded.ensures.once;
      parsed =
          subst (IsParsed c.in_ok-parser.parser) text
          (parsed c.args.size c.args.number c.args.budget c.in_ok-parser.parser c.in_ok-input.input c.in_ok-parser.ensures
          c.in_ok-input.ensures (c.load_inputs_are_permitted.ensures c.args.size c.args.number));
    }

pub returns : goal.returns
returns c =
    loaded c.args.size c.args.number c.args.budget c.in_ok-parser.parser c.in_ok-input.input c.in_ok-parser.ensures
    c.in_ok-input.ensures c.in_ok-summary.summary c.in_ok-recorded.ensures.suffices
    (subst (λ z. IsSummaryOf c.in_ok-parser.parser z c.in_ok-summary.summary) c.in_ok-recorded.ensures.text_is c.in_ok-summary.ensures)
