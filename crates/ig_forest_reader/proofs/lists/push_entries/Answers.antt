use Rattle.std.proofs.Common.{ℕ, List, ◌++◌, ◌+◌, length, sym, subst, arith}
use Rattle.ig_show_texts.specs.ForestText.{entry_text}
use Rattle.ig_forest_tables.specs.declared.entry.Entry.{Entry}
use Rattle.ig_forest_reader.specs.Runs.{NoItem}
use Rattle.ig_forest_reader.specs.Written.{IsSmallEntry}
use Rattle.ig_forest_reader.proofs.Leading.{some_is}
use Rattle.ig_forest_reader.proofs.LinesLeft.{Left, start_left, step_left, end_left, full_left, none_left, told_true, told_false, none_added, one_added}
use Rattle.ig_forest_reader.proofs.TellingForests.{entry_begins}
use Rattle.ig_forest_reader.proofs.lists.push_entries.Goals as goal

pub loop-init : goal.loop-init
loop-init c = (
  none_added IsSmallEntry entry_text c.args.bytes.now c.args.out.now.items,
  λ xs us small s e. start_left NoItem IsSmallEntry entry_text entry_begins xs us c.args.bytes.now c.args.out.now.items small e,
)

pub returns-then-is_item : goal.returns-then-is_item
returns-then-is_item c =
    record {
      added = c.loop.invariant.0;
      told = λ xs us small s e.
          end_left NoItem IsSmallEntry entry_text entry_begins us c.loop.rest.now c.loop.out.items (c.args.out.now.items ++ xs) c.loop.counter (length c.args.bytes.now)
          (c.loop.invariant.1 xs us small s e) (told_true _ _ _ c.is_item.ensures c.if-is_item.true);
    }

pub returns-in_default : goal.returns-in_default
returns-in_default c =
    record {
      added = c.loop.invariant.0;
      told = λ xs us small s e.
          absurd (none_left NoItem IsSmallEntry entry_text entry_begins us c.loop.rest.now c.loop.out.items (c.args.out.now.items ++ xs) c.loop.counter (length c.args.bytes.now)
          c.read_entry.result (c.loop.invariant.1 xs us small s e) s (told_false _ _ _ c.is_item.ensures c.if-is_item.false)
          c.read_entry.ensures.told c.in_default.is);
    }

pub loop-preserved : goal.loop-preserved
loop-preserved c = (
  one_added IsSmallEntry entry_text c.args.bytes.now c.loop.rest.now c.in-Some.behind.now c.args.out.now.items c.loop.out.items _
      c.in-Some.entry c.loop.invariant.0 (some_is _ _ _ c.read_entry.ensures.small c.in-Some.is)
      (some_is _ _ _ c.read_entry.ensures.exact c.in-Some.is) c.in_ok-push.ensures.items,
  λ xs us small s e.
      subst (λ (out : List Entry). Left IsSmallEntry entry_text us c.in-Some.behind.now out (c.args.out.now.items ++ xs) (c.loop.counter + 1) (length c.args.bytes.now))
      (sym c.in_ok-push.ensures.items)
      (step_left NoItem IsSmallEntry entry_text entry_begins us c.loop.rest.now c.loop.out.items (c.args.out.now.items ++ xs) c.loop.counter (length c.args.bytes.now)
      c.read_entry.result c.in-Some.entry c.in-Some.behind (c.loop.invariant.1 xs us small s e) s
      (told_false _ _ _ c.is_item.ensures c.if-is_item.false) c.read_entry.ensures.told c.in-Some.is),
)

pub returns : goal.returns
returns c =
    record {
      added = c.loop.invariant.0;
      told = λ xs us small s e.
          full_left IsSmallEntry entry_text us c.loop.rest.now c.loop.out.items (c.args.out.now.items ++ xs) (length c.args.bytes.now)
          (subst (λ (n : ℕ). Left IsSmallEntry entry_text us c.loop.rest.now c.loop.out.items (c.args.out.now.items ++ xs) n (length c.args.bytes.now))
          (grind (arith, c.loop-test.false, c.loop.auto.counter-end)) (c.loop.invariant.1 xs us small s e));
    }
