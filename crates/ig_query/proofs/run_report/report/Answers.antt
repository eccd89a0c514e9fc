use Rattle.std.proofs.Common.{◌∙◌, ap}
use Rattle.std.specs.List.{filter_map}
use Rattle.ig_item.specs.Tables.{items_of}
use Rattle.ig_query.specs.CodeReport.{pattern_at}
use Rattle.ig_query.proofs.Reporting.{furthest_within, is_report}
use Rattle.ig_query.proofs.run_report.report.Goals as goal

pub line_of-requires : goal.line_of-requires
line_of-requires c =
    furthest_within c.args.core.now c.args.text.now (items_of c.args.items.now) c.requires.reachable c.items_are_in_text.ensures
    c.furthest-position.result c.furthest-position.ensures

pub column_of-requires : goal.column_of-requires
column_of-requires c =
    furthest_within c.args.core.now c.args.text.now (items_of c.args.items.now) c.requires.reachable c.items_are_in_text.ensures
    c.furthest-position.result c.furthest-position.ensures

pub returns : goal.returns
returns c =
    is_report c.args.core.now c.args.text.now (items_of c.args.items.now) c.requires.reachable c.behind_is_looked_up.ensures _
    c.in_ok-dots.dots.keys c.furthest-position.ensures c.line_of.ensures c.column_of.ensures c.in_ok-dots.ensures
    (c.in_ok-patterns_of.ensures ∙ ap (filter_map (pattern_at c.args.core.now)) c.as_slice.ensures.keys) c.ends_at.ensures
