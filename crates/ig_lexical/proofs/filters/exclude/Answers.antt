use Rattle.std.proofs.Common.{◌∙◌, ap}
use Rattle.ig_lexical.specs.Filters.{exclusions, with_filters}
use Rattle.ig_lexical.proofs.filters.exclude.Goals as goal

pub returns-in-Ok : goal.returns-in-Ok
returns-in-Ok c =
    c.with_filters.ensures ∙ ap (with_filters c.args.inner) (c.in-Ok.ensures ∙ ap exclusions c.as_slice.ensures)
