use Rattle.std.proofs.Common.{◌≡◌, sym, ◌∙◌, ap, subst, arith, ◌<◌}
use Rattle.std.specs.Prelude.{count_by}
use Rattle.ig_grammar.specs.Name.{is_name}
use Rattle.ig_grammar.specs.Condition.{most_parameters, named_parameters}
use Rattle.ig_scope.proofs.HeadCauses.{limit_nonterminals, limit_parameters, limit_none}
use Rattle.ig_scope.proofs.heads.passed_limit.Goals as goal

pub returns-then-head-eq-MOST_NONTERMINALS : goal.returns-then-head-eq-MOST_NONTERMINALS
returns-then-head-eq-MOST_NONTERMINALS c =
    limit_nonterminals c.args.head.now (sym c.is_name.ensures ∙ c.if-not-is_name.false) c.if-head-eq-MOST_NONTERMINALS.true

pub returns-then-count_named-gt-MOST_PARAMETERS : goal.returns-then-count_named-gt-MOST_PARAMETERS
returns-then-count_named-gt-MOST_PARAMETERS c =
    limit_parameters c.args.head.now (sym c.is_name.ensures ∙ c.if-not-is_name.false) c.if-head-eq-MOST_NONTERMINALS.false
    (subst (λ n. most_parameters < n) (c.count_named.ensures ∙ ap (λ ps. count_by (λ p. is_name p.name) ps) c.as_slice.ensures) c.if-count_named-gt-MOST_PARAMETERS.true)

pub returns : goal.returns
returns c =
    limit_none c.args.head.now c.if-head-eq-MOST_NONTERMINALS.false
    (λ l. let n : c.count_named.result ≡ named_parameters c.args.head.now.decl.now =
    c.count_named.ensures ∙ ap (λ ps. count_by (λ p. is_name p.name) ps) c.as_slice.ensures in let f : ⊥ = omega arith in f)
