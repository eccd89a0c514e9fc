use Rattle.std.proofs.Common.{ℕ, List, ◌++◌, ◌+◌, length, sym, subst, arith}
use Rattle.ig_show_texts.specs.ForestText.{choice_text}
use Rattle.ig_forest_tables.specs.declared.entry.Choice.{Choice}
use Rattle.ig_forest_reader.specs.Runs.{IsChoice}
use Rattle.ig_forest_reader.specs.Written.{IsTagOf}
use Rattle.ig_forest_reader.proofs.Leading.{some_is}
use Rattle.ig_forest_reader.proofs.LinesLeft.{Left, start_left, step_left, end_left, full_left, none_left, told_true, told_false, none_added, one_added}
use Rattle.ig_forest_reader.proofs.TellingForests.{choice_begins}
use Rattle.ig_forest_reader.proofs.tags.push_choices.Goals as goal

pub loop-init : goal.loop-init
loop-init c = (
  λ name named. none_added (IsTagOf c.args.core.now c.args.nonterminal) (choice_text name) c.args.bytes.now c.args.out.now.items,
  λ name xs us named small s e. start_left IsChoice (IsTagOf c.args.core.now c.args.nonterminal) (choice_text name) (choice_begins name) xs us c.args.bytes.now c.args.out.now.items small e,
)

pub returns-then-not-is_choice : goal.returns-then-not-is_choice
returns-then-not-is_choice c =
    record {
      added = c.loop.invariant.0;
      told = λ name xs us named small s e.
          end_left IsChoice (IsTagOf c.args.core.now c.args.nonterminal) (choice_text name) (choice_begins name) us c.loop.rest.now c.loop.out.items (c.args.out.now.items ++ xs) c.loop.counter (length c.args.bytes.now)
          (c.loop.invariant.1 name xs us named small s e) (told_false _ _ _ c.is_choice.ensures c.if-not-is_choice.true);
    }

pub returns-in_default : goal.returns-in_default
returns-in_default c =
    record {
      added = c.loop.invariant.0;
      told = λ name xs us named small s e.
          absurd (none_left IsChoice (IsTagOf c.args.core.now c.args.nonterminal) (choice_text name) (choice_begins name) us c.loop.rest.now c.loop.out.items (c.args.out.now.items ++ xs) c.loop.counter (length c.args.bytes.now)
          c.read_choice.result (c.loop.invariant.1 name xs us named small s e) s (told_true _ _ _ c.is_choice.ensures c.if-not-is_choice.false)
          (λ x vs q f. c.read_choice.ensures.told name x vs named q f) c.in_default.is);
    }

pub loop-preserved : goal.loop-preserved
loop-preserved c = (
  λ name named.
      one_added (IsTagOf c.args.core.now c.args.nonterminal) (choice_text name) c.args.bytes.now c.loop.rest.now c.in-Some.behind.now
      c.args.out.now.items c.loop.out.items _ c.in-Some.choice (c.loop.invariant.0 name named)
      (some_is _ _ _ c.read_choice.ensures.small c.in-Some.is) (some_is _ _ _ (c.read_choice.ensures.exact name named) c.in-Some.is)
      c.in_ok-push.ensures.items,
  λ name xs us named small s e.
      subst (λ (out : List Choice). Left (IsTagOf c.args.core.now c.args.nonterminal) (choice_text name) us c.in-Some.behind.now out (c.args.out.now.items ++ xs) (c.loop.counter + 1) (length c.args.bytes.now))
      (sym c.in_ok-push.ensures.items)
      (step_left IsChoice (IsTagOf c.args.core.now c.args.nonterminal) (choice_text name) (choice_begins name) us c.loop.rest.now c.loop.out.items (c.args.out.now.items ++ xs) c.loop.counter (length c.args.bytes.now)
      c.read_choice.result c.in-Some.choice c.in-Some.behind (c.loop.invariant.1 name xs us named small s e) s
      (told_true _ _ _ c.is_choice.ensures c.if-not-is_choice.false) (λ x vs q f. c.read_choice.ensures.told name x vs named q f) c.in-Some.is),
)

pub returns : goal.returns
returns c =
    record {
      added = c.loop.invariant.0;
      told = λ name xs us named small s e.
          full_left (IsTagOf c.args.core.now c.args.nonterminal) (choice_text name) us c.loop.rest.now c.loop.out.items (c.args.out.now.items ++ xs) (length c.args.bytes.now)
          (subst (λ (n : ℕ). Left (IsTagOf c.args.core.now c.args.nonterminal) (choice_text name) us c.loop.rest.now c.loop.out.items (c.args.out.now.items ++ xs) n (length c.args.bytes.now))
          (grind (arith, c.loop-test.false, c.loop.auto.counter-end)) (c.loop.invariant.1 name xs us named small s e));
    }
