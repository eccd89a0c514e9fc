use Rattle.ig_w3c.proofs.Characters.{read_readings}
use Rattle.ig_w3c.proofs.laws.read_grammars_have_readings.Goals as goal

pub returns : goal.returns
returns c = read_readings
