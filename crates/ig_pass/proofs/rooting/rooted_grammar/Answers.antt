use Rattle.ig_pass.proofs.rooting.rooted_grammar.Goals as goal

pub returns : goal.returns
returns c = λ k. record { start = c.in_ok-start.ensures k; tabs = c.args.grammar.now.tabs; decls = c.in_ok-decls.ensures k }
