use Rattle.std.proofs.Common.{ap, subst, sym, ◌∙◌}
use Rattle.ig_grammar.specs.Checked.{CheckedGrammar}
use Rattle.ig_grammar.specs.declared.grammar.Grammar.{Grammar}
use Rattle.ig_command_jobs.specs.Tasks.{IsSayable}
use Rattle.ig_command_jobs.proofs.Tasked.{says_ok, shows, shows_core, says_facts}
use Rattle.ig_command_jobs.proofs.tasks.do_task.Goals as goal

pub returns-in-Check : goal.returns-in-Check
returns-in-Check c = rw c.in-Check.is (says_ok c.args.parser.now.grammar c.args.notation c.say_ok.result c.say_ok.ensures)

pub show-requires : goal.show-requires
show-requires c =
    subst (λ (z : Grammar). IsSayable c.args.notation z)
    (sym (c.grammar-in-Show.ensures.same ∙ ap (λ (z : CheckedGrammar). z.grammar) c.grammar.ensures)) c.requires.sayable

pub returns-in-Show : goal.returns-in-Show
returns-in-Show c =
    rw c.in-Show.is
    (shows c.args.parser.now.grammar c.args.notation c.grammar-in-Show.result.now c.show.result
    (c.grammar-in-Show.ensures.same ∙ ap (λ (z : CheckedGrammar). z.grammar) c.grammar.ensures) c.show.ensures)

pub returns-in-Core : goal.returns-in-Core
returns-in-Core c =
    rw c.in-Core.is
    (shows_core c.args.parser.now.grammar c.args.notation c.args.parser.now c.requires.as_it_is c.shown_core.result c.shown_core.ensures)

pub returns-in-Analyse : goal.returns-in-Analyse
returns-in-Analyse c =
    rw c.in-Analyse.is
    (says_facts c.args.parser.now.grammar c.args.notation c.args.parser.now c.requires.as_it_is c.facts.result c.facts.ensures)
