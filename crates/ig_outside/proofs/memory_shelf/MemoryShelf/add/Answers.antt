use Rattle.std.proofs.Common.{arith, rules}
use Rattle.std.proofs.lemmas.Map.Text.{text_keys}
use Rattle.ig_outside.proofs.memory_shelf.MemoryShelf.add.Goals as goal

pub returns-clause-ok : goal.returns-clause-ok
returns-clause-ok c = record {
  here = search rules;
  others = λ n apart. grind (arith, text_keys);
}
