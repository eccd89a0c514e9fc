use Rattle.std.proofs.Common.{rules}
use Rattle.ig_scope.proofs.room.room_of.Goals as goal

pub returns-then-is_name : goal.returns-then-is_name
returns-then-is_name c = search rules
