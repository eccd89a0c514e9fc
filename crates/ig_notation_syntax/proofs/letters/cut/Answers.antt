use Rattle.ig_notation_syntax.proofs.Reading.{shorter, open_begin, open_more, open_behind, cut_here, cut_never}
use Rattle.ig_notation_syntax.proofs.letters.cut.Goals as goal

pub loop-c-init : goal.loop-c-init
loop-c-init c = (c.utf8.text, open_begin c.args.stop c.args.text.now)

pub loop-c-smaller : goal.loop-c-smaller
loop-c-smaller c = shorter c.loop-c.rest.now c.in-Some.c c.in-Some.after.now c.in-Some.ensures

pub loop-c-preserved : goal.loop-c-preserved
loop-c-preserved c = (
  c.in-Some.ensures.whole,
  open_more c.args.stop c.args.text.now c.loop-c.rest.now c.in-Some.after.now c.in-Some.c c.loop-c.is_escaped
      c.closes.result c.opens_escape-is_escaped.result c.loop-c.invariant.1 c.in-Some.ensures c.closes.ensures c.if-closes.false
      c.opens_escape-is_escaped.ensures,
)

pub front-requires : goal.front-requires
front-requires c =
    open_behind c.args.stop c.args.text.now c.loop-c.rest.now c.loop-c.is_escaped c.utf8.text c.loop-c.invariant.0
    c.loop-c.invariant.1

pub returns-then-closes : goal.returns-then-closes
returns-then-closes c =
    cut_here c.args.stop c.args.text.now c.loop-c.rest.now c.front.result.now c.in-Some.after.now c.in-Some.c
    c.loop-c.is_escaped c.closes.result c.loop-c.invariant.1 c.in-Some.ensures c.closes.ensures c.if-closes.true
    c.front.ensures.text c.front.ensures.parts

pub returns : goal.returns
returns c =
    cut_never c.args.stop c.args.text.now c.loop-c.rest.now c.loop-c.is_escaped c.loop-c.invariant.1 c.in_default.ensures
