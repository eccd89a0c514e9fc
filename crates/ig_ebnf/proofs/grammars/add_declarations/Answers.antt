use Rattle.std.proofs.Common.{◌+◌, ◌∙◌, ap, drop, sym, ◌++◌}
use Rattle.std.proofs.lemmas.List.{drop_more}
use Rattle.ig_ebnf_variables.specs.Lists.{all_added, added_by}
use Rattle.ig_ebnf.proofs.CodeOfGrowth.{leads_on}
use Rattle.ig_ebnf.proofs.grammars.add_declarations.Goals as goal

pub loop-decl-preserved : goal.loop-decl-preserved
loop-decl-preserved c =
    leads_on c.args.all.now c.loop-decl.all c.add_levels.new.all _ _ _ _ c.loop-decl.invariant
    (ap all_added (drop_more c.args.decls.now c.loop-decl.decl-index c.decl-item.result c.loop-decl-test.true) ∙
    ap (λ d. added_by d ++ all_added (drop (c.loop-decl.decl-index + 1) c.args.decls.now)) (sym c.decl-item.is))
    c.in_ok-add_levels.ensures
