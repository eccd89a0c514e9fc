use Rattle.ig_command_jobs.proofs.tasks.show.Goals as goal

pub returns-in-Own : goal.returns-in-Own
returns-in-Own c = rw c.in-Own.is c.show_in_own.ensures

pub show_in_w3c-requires : goal.show_in_w3c-requires
show_in_w3c-requires c = rw c.in-W3c.is at c.requires

pub returns-in-W3c : goal.returns-in-W3c
returns-in-W3c c = rw c.in-W3c.is c.show_in_w3c.ensures
