use Rattle.ig_meaning_examples.proofs.matches_are_known.Goals as goal

pub returns : goal.returns
returns c = record { decided = c.matches_are_decided.ensures; width = c.matches_have_their_width.ensures }
