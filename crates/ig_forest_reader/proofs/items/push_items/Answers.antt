use Rattle.std.proofs.Common.{arith}
use Rattle.ig_show_texts.specs.ForestText.{item_text}
use Rattle.ig_forest_reader.specs.Runs.{NoItem}
use Rattle.ig_forest_reader.specs.Shown.{IsBegunItem, ShowsItem}
use Rattle.ig_forest_reader.proofs.Composing.{read_ok, failed_on, no_ok}
use Rattle.ig_forest_reader.proofs.PartsRead.{none_so_far, all_read, no_more, one_more, so_far_kept}
use Rattle.ig_forest_reader.proofs.TellingForests.{item_stops}
use Rattle.ig_forest_reader.proofs.Whole.{still_shown_item}
use Rattle.ig_forest_reader.proofs.items.push_items.Goals as goal

pub loop-number-init : goal.loop-number-init
loop-number-init c = (
  λ k x e. e,
  λ core tells is. none_so_far (ShowsItem c.args.lists.now) (IsBegunItem core) item_text NoItem c.args.many c.args.bytes.now c.args.items.now c.requires.none,
)

pub returns-in_err-rest : goal.returns-in_err-rest
returns-in_err-rest c =
    record {
      keeps = no_ok _ c.from_residual.result _ c.from_residual.ensures.1;
      read = λ core tells is.
          failed_on _ _ _ _ c.read_item.result c.in_err-rest.field-0.0 c.from_residual.result (c.read_item.ensures.read core tells is)
          c.in_err-rest.was c.from_residual.ensures.1
          (no_more (ShowsItem c.loop-number.lists) (IsBegunItem core) item_text NoItem item_stops c.loop-number.number c.args.many c.args.bytes.now
          c.loop-number.rest.now c.loop-number.items c.loop-number-test.true c.ranges.many.fits (c.loop-number.invariant.1 core tells is));
    }

pub loop-number-preserved : goal.loop-number-preserved
loop-number-preserved c = (
  λ k x e. c.in_ok-rest.ensures.keeps k x (c.loop-number.invariant.0 k x e),
  λ core tells is.
      one_more (ShowsItem c.read_item.new.lists) (IsBegunItem core) item_text NoItem item_stops c.loop-number.number c.args.many
      c.args.bytes.now c.loop-number.rest.now c.in_ok-rest.rest.now c.loop-number.items _ c.loop-number-test.true c.ranges.many.fits
      (so_far_kept (ShowsItem c.loop-number.lists) (ShowsItem c.read_item.new.lists) (IsBegunItem core) item_text NoItem c.loop-number.number
      c.args.many c.args.bytes.now c.loop-number.rest.now c.loop-number.items (still_shown_item c.loop-number.lists c.read_item.new.lists c.in_ok-rest.ensures.keeps)
      (c.loop-number.invariant.1 core tells is))
      (read_ok _ _ _ _ (c.read_item.ensures.read core tells is) c.in_ok-rest.was),
)

pub returns : goal.returns
returns c =
    record {
      keeps = c.loop-number.invariant.0;
      read = λ core tells is.
          all_read (ShowsItem c.loop-number.lists) (IsBegunItem core) item_text NoItem c.args.many c.loop-number.number c.args.bytes.now c.loop-number.rest.now
          c.loop-number.items (grind (arith, c.loop-number-test.false, c.loop-number.auto.number-end)) (c.loop-number.invariant.1 core tells is);
    }
