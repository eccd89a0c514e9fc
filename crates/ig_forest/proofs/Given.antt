-- The laws of items on which those of the reduced forest rest.
use Rattle.ig_item.specs.Laws.{ReachableIsClosed, ItemsAreInText, ItemsByTrees, InstanceTrees, AlternativesBegin, StandsBeforeOne, AlternativesAreOne, EnvironmentsFit, EnvironmentsGrow, StepsLeaveInTurn, StepsLeaveEnvironments}
use Rattle.ig_expr.specs.TreeOrder.{LastChildStartsDecide}

pub record Given : Type 0 where
  pub closed : ReachableIsClosed
  pub in_text : ItemsAreInText
  pub items_by_trees : ItemsByTrees
  pub instance_trees : InstanceTrees
  pub alternatives_begin : AlternativesBegin
  pub before_one : StandsBeforeOne
  pub alternatives_one : AlternativesAreOne

-- and those on which the order of trees with values rests
pub record GivenValues : Type 0 where
  pub given : Given
  pub fit : EnvironmentsFit
  pub grow : EnvironmentsGrow
  pub in_turn : StepsLeaveInTurn
  pub environments : StepsLeaveEnvironments
  pub last_child : LastChildStartsDecide
