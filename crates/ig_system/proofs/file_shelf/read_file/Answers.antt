use Rattle.ig_system.proofs.ReadParts.{opened}
use Rattle.ig_system.proofs.file_shelf.read_file.Goals as goal

pub returns-in-Some : goal.returns-in-Some
returns-in-Some g c = opened _ _ _ c.read_all.result c.in-Some.ensures c.read_all.ensures
