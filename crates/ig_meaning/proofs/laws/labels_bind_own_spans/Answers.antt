use Rattle.ig_meaning.proofs.Labels.{of_label}
use Rattle.ig_meaning.proofs.laws.labels_bind_own_spans.Goals as goal

pub returns : goal.returns
returns k = λ g shapes text c name x env after i e j ts starts well derived. of_label g shapes text well derived
