use Rattle.std.proofs.Common.{◌∙◌, ap, length}
use Rattle.ig_load.proofs.Summaries.{summary_is}
use Rattle.ig_load.proofs.job.summarize.Goals as goal

pub unreachable-requires : goal.unreachable-requires
unreachable-requires c =
    let none = rw c.in_default.is at c.in_ok-forest.ensures in none c.requires.parsed.0 c.requires.parsed.1

pub returns : goal.returns
returns c =
    let has = rw c.in-Some.is at c.in_ok-forest.ensures in
    summary_is c.args.parser.now c.args.recorded.now.text c.in-Some.forest has.1 c.args.recorded.now.tables c.in_ok-heights.heights _
    c.requires.reachable c.requires.once c.root-root.ensures.trim c.ambiguity_is_two_permitted.ensures
    c.cyclic_is_without_highest.ensures c.in_ok-heights.ensures (c.summary_of.ensures.items ∙ ap (λ t. length t.items) c.items.ensures.items)
    c.summary_of.ensures.nodes c.summary_of.ensures.ambiguous c.summary_of.ensures.cyclic
