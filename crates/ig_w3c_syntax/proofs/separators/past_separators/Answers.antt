use Rattle.std.proofs.Common.{chars}
use Rattle.ig_w3c_syntax.specs.Spelling.{no_separator}
use Rattle.ig_w3c_syntax.proofs.Determined.{leads_here, leads_on, separator_shorter}
use Rattle.ig_w3c_syntax.proofs.separators.past_separators.Goals as goal

pub loop-after-init : goal.loop-after-init
loop-after-init c = (c.utf8.text, leads_here (chars c.args.text.now))

pub loop-after-smaller : goal.loop-after-smaller
loop-after-smaller c = separator_shorter c.in-Some.ensures.1

pub loop-after-preserved : goal.loop-after-preserved
loop-after-preserved c = (
  c.in-Some.ensures.0,
  leads_on (chars c.args.text.now) (chars c.loop-after.rest.now) (chars c.in-Some.after.now) c.loop-after.invariant.1 c.in-Some.ensures.1,
)

pub returns : goal.returns
returns c = record {
  whole = c.loop-after.invariant.0;
  separators = c.loop-after.invariant.1.behind (chars c.loop-after.rest.now) (no_separator (chars c.loop-after.rest.now));
  all = c.in_default.ensures;
}
