use Rattle.ig_show_texts.specs.ForestText.{node_text}
use Rattle.ig_forest_reader.specs.Runs.{IsChoice}
use Rattle.ig_forest_reader.specs.Shown.{ShowsNode}
use Rattle.ig_forest_reader.specs.Written.{IsNodeOf}
use Rattle.ig_forest_reader.proofs.PartsRead.{SoFar}
use Rattle.ig_forest_reader.proofs.nodes.push_nodes.Given as goal

abbrev pub invariant-loop-number : goal.invariant-loop-number
invariant-loop-number l = SoFar (ShowsNode l.lists) (IsNodeOf l.core) node_text IsChoice l.number l.many l.fn.bytes l.rest l.nodes
