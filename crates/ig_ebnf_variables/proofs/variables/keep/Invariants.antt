use Rattle.std.proofs.Common.{◌≡◌, ◌++◌, ◌&&◌, not, drop}
use Rattle.std.specs.Prelude.{if◌then◌else◌}
use Rattle.ig_grammar.specs.View.{symbol_of}
use Rattle.ig_grammar.specs.Visible.{parameters}
use Rattle.ig_pass.specs.Needs.{needs, is_added}
use Rattle.ig_ebnf_variables.specs.Lists.{keep}
use Rattle.ig_ebnf_variables.proofs.variables.keep.Given as goal

abbrev pub invariant-loop-place : goal.invariant-loop-place
invariant-loop-place l =
    parameters l.params ++ keep (λ n. (if l.added then is_added n else not (is_added n)) && needs n (symbol_of l.symbol)) (drop l.place l.variables) ≡
    parameters l.initial.params ++ keep (λ n. (if l.added then is_added n else not (is_added n)) && needs n (symbol_of l.symbol)) l.variables
