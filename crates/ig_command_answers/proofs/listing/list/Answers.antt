use Rattle.std.proofs.Common.{subst, sym}
use Rattle.ig_text.proofs.Options.{passed_on}
use Rattle.ig_command.specs.Commands.{stored_listing}
use Rattle.ig_command_answers.specs.Pages.{Lists}
use Rattle.ig_command_answers.proofs.listing.list.Goals as goal
use Rattle.ig_command_answers.proofs.Starting.{lists_lost, lists_made, start_named}

pub returns-in_default : goal.returns-in_default
returns-in_default c = c.in_default.ensures

pub returns-in_err-walker : goal.returns-in_err-walker
returns-in_err-walker c =
    subst (Lists c.args.core.now c.args.forest.now (stored_listing c.args.listing))
    (sym (passed_on c.from_residual-in_err-walker.result c.in_err-walker.field-0.0 c.from_residual-in_err-walker.ensures.1))
    (lists_lost c.args.core.now c.args.forest.now (stored_listing c.args.listing) c.in-Some.depth c.in_err-walker.field-0.0
    c.in-Some.ensures c.in_err-walker.ensures)

pub list_trees-requires : goal.list_trees-requires
list_trees-requires c =
    record {
      named = start_named c.args.core.now c.args.forest.now c.in-Some.depth _ c.in_ok-walker.walker c.in_ok-walker.ensures
          c.requires.printable.named;
    }

pub returns : goal.returns
returns c =
    lists_made c.args.core.now c.args.forest.now (stored_listing c.args.listing) c.in-Some.depth c.in_ok-walker.walker
    c.in_ok-text.text c.in-Some.ensures c.in_ok-walker.ensures c.in_ok-text.ensures
