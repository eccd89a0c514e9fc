use Rattle.ig_run_laws.proofs.Forms.{tests_pass, binds_pass, terminals_take_leaves, callers_meet_pops, none_is_called, ends_meet_edges}
use Rattle.ig_run_laws.proofs.laws.steps_are_followed.Goals as goal

pub returns-clause-test : goal.returns-clause-test
returns-clause-test c = tests_pass

pub returns-clause-bind : goal.returns-clause-bind
returns-clause-bind c = binds_pass

pub returns-clause-terminal : goal.returns-clause-terminal
returns-clause-terminal c = terminals_take_leaves

pub returns-clause-call : goal.returns-clause-call
returns-clause-call c = callers_meet_pops

pub returns-clause-no_call : goal.returns-clause-no_call
returns-clause-no_call c = none_is_called

pub returns-clause-end : goal.returns-clause-end
returns-clause-end c = ends_meet_edges
