use Rattle.ig_w3c_syntax.specs.Reading.{in_own_notation}
use Rattle.ig_w3c_syntax.proofs.rule_laws.one_reading.Goals as goal

pub returns : goal.returns
returns c tokens g h r s = c.one_reading.ensures (in_own_notation tokens) g h r.reading s.reading
