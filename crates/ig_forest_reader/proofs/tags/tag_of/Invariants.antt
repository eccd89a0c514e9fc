use Rattle.ig_forest_reader.proofs.TagsTold.{NoneBelow}
use Rattle.ig_forest_reader.proofs.tags.tag_of.Given as goal

abbrev pub invariant-loop-place : goal.invariant-loop-place
invariant-loop-place l = NoneBelow l.core l.nonterminal l.name l.bytes l.place
