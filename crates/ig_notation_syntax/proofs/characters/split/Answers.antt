use Rattle.std.proofs.Common.{◌≡◌, ◌∙◌, sym, refl, chars}
use Rattle.ig_notation_syntax.specs.Scanner.{past}
use Rattle.ig_notation_syntax.specs.Steps.{belongs}
use Rattle.ig_notation_syntax.proofs.Reading.{shorter, past_more, past_stops, past_ends, run_behind, split_is}
use Rattle.ig_notation_syntax.proofs.characters.split.Goals as goal
use Rattle.ig_notation_syntax.proofs.characters.split.Goals.{in-Some+then-not-belongs, in_default}

pub loop-c-init : goal.loop-c-init
loop-c-init c = (c.utf8.text, refl)

pub loop-c-smaller : goal.loop-c-smaller
loop-c-smaller c = shorter c.loop-c.rest.now c.in-Some.c c.in-Some.after.now c.in-Some.ensures

pub loop-c-preserved : goal.loop-c-preserved
loop-c-preserved c =
    let b = c.in-Some.ensures in (
      b.whole,
      c.loop-c.invariant.1 ∙
          past_more (belongs c.args.run) (chars c.loop-c.rest.now) (chars c.in-Some.after.now) c.in-Some.c b.spelled
          (sym c.belongs.ensures ∙ c.if-not-belongs.false),
    )

pub front-requires : goal.front-requires
front-requires c =
    let stops : past (belongs c.args.run) (chars c.loop-c.rest.now) ≡ chars c.loop-c.rest.now = elim c.match-first.branch [
      | in-Some+then-not-belongs w ↦
          past_stops (belongs c.args.run) (chars c.loop-c.rest.now) (chars w.in-Some.after.now) w.in-Some.c
          w.in-Some.ensures.spelled (sym w.belongs.ensures ∙ w.if-not-belongs.true)
      | in_default w ↦ past_ends (belongs c.args.run) (chars c.loop-c.rest.now) w.in_default.ensures
    ] in
    run_behind (belongs c.args.run) c.args.text.now c.loop-c.rest.now c.utf8.text c.loop-c.invariant.0
    (c.loop-c.invariant.1 ∙ stops)

pub returns : goal.returns
returns c =
    let stops : past (belongs c.args.run) (chars c.loop-c.rest.now) ≡ chars c.loop-c.rest.now = elim c.match-first.branch [
      | in-Some+then-not-belongs w ↦
          past_stops (belongs c.args.run) (chars c.loop-c.rest.now) (chars w.in-Some.after.now) w.in-Some.c
          w.in-Some.ensures.spelled (sym w.belongs.ensures ∙ w.if-not-belongs.true)
      | in_default w ↦ past_ends (belongs c.args.run) (chars c.loop-c.rest.now) w.in_default.ensures
    ] in
    split_is c.args.run c.args.text.now c.front.result.now c.loop-c.rest.now c.front.ensures.text c.loop-c.invariant.0
    c.front.ensures.parts (c.loop-c.invariant.1 ∙ stops)
