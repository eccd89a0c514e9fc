use Rattle.ig_engine.proofs.laws.laws.Goals as goal

pub returns : goal.returns
returns c = record { tables = c.of_tables.ensures; runs = c.of_runs.ensures }
