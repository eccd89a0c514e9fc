-- The laws of the crates below that a run rests on.
use Rattle.ig_run_moves.specs.Laws.{NamesAreKept, InstancesAreKept, InstancesAreOne, ItemsAreOne, FirstsAreNamed, CallsAreOne, BeforeTests, BeforeBinds, BeforeTerminals, BeforeCalls, CompleteItemsEnd, StepsAreBehind, EndsAreComplete}
use Rattle.ig_run_laws.specs.Laws.{EventsKeep, EndsKeep, TestsPass, BindsPass, TerminalsTakeLeaves, CallersMeetPops, NoneIsCalled, EndsMeetEdges, FirstsAreNew, FirstsAreRecorded, FirstReturnsAreNew, BeginsAreOne, StepsComeOnce, ReturnsComeByNodes, RefusedBudgetsAreExceeded, RunsBegin}

-- what stored items stand for, and what comes of one
pub record Tables : Type 0 where
  pub names_are_kept : NamesAreKept
  pub instances_are_kept : InstancesAreKept
  pub instances_are_one : InstancesAreOne
  pub items_are_one : ItemsAreOne
  pub firsts_are_named : FirstsAreNamed
  pub calls_are_one : CallsAreOne
  pub before_calls : BeforeCalls
  pub before_tests : BeforeTests
  pub before_binds : BeforeBinds
  pub before_terminals : BeforeTerminals
  pub complete_items_end : CompleteItemsEnd
  pub steps_are_behind : StepsAreBehind
  pub ends_are_complete : EndsAreComplete

-- what an event does
pub record Runs : Type 0 where
  pub runs_begin : RunsBegin
  pub events_keep : EventsKeep
  pub ends_keep : EndsKeep
  pub tests_pass : TestsPass
  pub binds_pass : BindsPass
  pub terminals_take_leaves : TerminalsTakeLeaves
  pub callers_meet_pops : CallersMeetPops
  pub none_is_called : NoneIsCalled
  pub ends_meet_edges : EndsMeetEdges
  pub firsts_are_new : FirstsAreNew
  pub firsts_are_recorded : FirstsAreRecorded
  pub steps_come_once : StepsComeOnce
  pub first_returns_are_new : FirstReturnsAreNew
  pub begins_are_one : BeginsAreOne
  pub returns_come_by_nodes : ReturnsComeByNodes
  pub refused_budgets_are_exceeded : RefusedBudgetsAreExceeded

pub record Given : Type 0 where
  pub tables : Tables
  pub runs : Runs
