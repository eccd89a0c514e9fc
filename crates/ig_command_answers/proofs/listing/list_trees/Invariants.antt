use Rattle.std.proofs.Common.{string_bytes}
use Rattle.ig_command_answers.proofs.Pages.{Paged}
use Rattle.ig_command_answers.proofs.listing.list_trees.Given as goal

abbrev pub invariant-loop-listed : goal.invariant-loop-listed
invariant-loop-listed l = Paged l.initial.walker l.walker l.core (string_bytes l.text) l._listed
