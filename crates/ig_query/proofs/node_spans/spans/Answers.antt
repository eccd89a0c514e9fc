use Rattle.std.proofs.Common.{sym, subst}
use Rattle.std.specs.Prelude.{chars}
use Rattle.ig_text.specs.contracts.text.SpanPartialEq.TheImpl as span_eq
use Rattle.ig_text.specs.contracts.text.SpanOrd.TheImpl.Laws as span_laws
use Rattle.ig_query.specs.Spans.{AreSpansOf}
use Rattle.ig_query.proofs.Spanning.{are_spans}
use Rattle.ig_query.proofs.node_spans.spans.Goals as goal

pub returns : goal.returns
returns c =
    subst (AreSpansOf c.args.forest.now (chars c.args.name.now)) (sym c.from_vec.ensures)
    (are_spans c.args.forest.now (chars c.args.name.now) (span_eq.eq-value).it span_laws.matches_eq-law c.in_ok-spans.spans.items
    c.sort_unstable.new.self.items c.dedup.new.self.items c.in_ok-spans.ensures c.sort_unstable.ensures.permutation
    c.sort_unstable.ensures.sorted c.dedup.ensures.filtered)
