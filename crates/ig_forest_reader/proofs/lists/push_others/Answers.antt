use Rattle.std.proofs.Common.{◌∙◌, ℕ, List, ◌++◌, ◌+◌, length, sym, ap, subst, arith}
use Rattle.std.specs.Prelude.{codes}
use Rattle.ig_show_texts.specs.ValueText.{value_text}
use Rattle.ig_expr.specs.declared.value.Value.{Value}
use Rattle.ig_forest_reader.specs.Written.{IsSmall}
use Rattle.ig_forest_reader.proofs.Leading.{none_read, some_read, some_is}
use Rattle.ig_forest_reader.proofs.LinesLeft.{none_added, one_added}
use Rattle.ig_forest_reader.proofs.ValuesLeft.{Left, others, start_left, end_left, full_left, next_left, step_left, stops_others}
use Rattle.ig_forest_reader.proofs.lists.push_others.Goals as goal

pub loop-init : goal.loop-init
loop-init c = (
  none_added IsSmall (λ y. codes "," ++ value_text y) c.args.bytes.now c.args.out.now.items,
  λ xs us small s t e. start_left xs us c.args.bytes.now c.args.out.now.items small e,
)

pub returns-in_default : goal.returns-in_default
returns-in_default c =
    record {
      added = c.loop.invariant.0;
      told = λ xs us small s t e.
          end_left us c.loop.rest.now c.loop.out.items (c.args.out.now.items ++ xs) c.loop.counter (length c.args.bytes.now)
          (c.loop.invariant.1 xs us small s t e) (λ cs is. none_read _ _ (c.read_behind.ensures.told cs is) c.in_default.is);
    }

pub returns-in_default-read_value : goal.returns-in_default-read_value
returns-in_default-read_value c =
    record {
      added = c.loop.invariant.0;
      told = λ xs us small s t e.
          let x = next_left us c.loop.rest.now c.in-Some.behind.now c.loop.out.items (c.args.out.now.items ++ xs) c.loop.counter (length c.args.bytes.now)
          (c.loop.invariant.1 xs us small s t e) t (some_is _ _ _ c.read_behind.ensures.exact c.in-Some.is) in
          absurd (none_read _ _ (c.read_value.ensures.told x.y (others x.ys ++ us) x.small (stops_others x.ys us s) x.here) c.in_default-read_value.is);
    }

pub loop-preserved : goal.loop-preserved
loop-preserved c = (
  one_added IsSmall (λ y. codes "," ++ value_text y) c.args.bytes.now c.loop.rest.now c.in-Some-read_value.after.now c.args.out.now.items
      c.loop.out.items _ c.in-Some-read_value.value c.loop.invariant.0
      (some_is _ _ _ c.read_value.ensures.small c.in-Some-read_value.is)
      (some_is _ _ _ c.read_behind.ensures.exact c.in-Some.is ∙
      ap (λ (z : List ℕ). codes "," ++ z) (some_is _ _ _ c.read_value.ensures.exact c.in-Some-read_value.is))
      c.in_ok-push.ensures.items,
  λ xs us small s t e.
      let x = next_left us c.loop.rest.now c.in-Some.behind.now c.loop.out.items (c.args.out.now.items ++ xs) c.loop.counter (length c.args.bytes.now)
      (c.loop.invariant.1 xs us small s t e) t (some_is _ _ _ c.read_behind.ensures.exact c.in-Some.is) in
      let read = some_read _ _ _ (c.read_value.ensures.told x.y (others x.ys ++ us) x.small (stops_others x.ys us s) x.here) c.in-Some-read_value.is in
      subst (λ (out : List Value). Left us c.in-Some-read_value.after.now out (c.args.out.now.items ++ xs) (c.loop.counter + 1) (length c.args.bytes.now))
      (sym c.in_ok-push.ensures.items)
      (step_left us c.in-Some.behind.now c.in-Some-read_value.after c.loop.out.items (c.args.out.now.items ++ xs) c.loop.counter
      (length c.args.bytes.now) c.in-Some-read_value.value x read.0 read.1),
)

pub returns : goal.returns
returns c =
    record {
      added = c.loop.invariant.0;
      told = λ xs us small s t e.
          full_left us c.loop.rest.now c.loop.out.items (c.args.out.now.items ++ xs) (length c.args.bytes.now)
          (subst (λ (n : ℕ). Left us c.loop.rest.now c.loop.out.items (c.args.out.now.items ++ xs) n (length c.args.bytes.now))
          (grind (arith, c.loop-test.false, c.loop.auto.counter-end)) (c.loop.invariant.1 xs us small s t e));
    }
