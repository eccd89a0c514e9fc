use Rattle.ig_command.proofs.rows.query.Goals as goal

pub returns : goal.returns
returns c = c.forest_with.ensures
