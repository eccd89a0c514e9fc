use Rattle.std.proofs.Common.{◌∙◌, ◌+◌, refl, ap, sym, subst, arith, List, length}
use Rattle.ig_grammar.specs.declared.declaration.Decl.{Decl}
use Rattle.ig_grammar.specs.Names.{AreDistinct, names}
use Rattle.ig_item.specs.WellKinded.{IsWellKinded}
use Rattle.std.specs.Prelude.{Contains}
use Rattle.ig_grammar.specs.declared.grammar.Grammar.{Grammar}
use Rattle.ig_core.proofs.Whole.{few_root, few_each, built_whole}
use Rattle.ig_core.proofs.builder.build_core.Goals as goal

abbrev declarations : Grammar → List Decl
declarations g = g.decls

pub number_names-requires-clause-distinct : goal.number_names-requires-clause-distinct
number_names-requires-clause-distinct c =
    subst (λ (z : List Decl). AreDistinct (names z)) (sym (c.as_slice-decls.ensures ∙ ap declarations c.grammar.ensures.same))
    (c.declarations_are_found.ensures.distinct c.args.lowered.now.grammar c.grammar.ensures.scoped)

pub overflow_add-missing : goal.overflow_add-missing
overflow_add-missing c =
    let b = ap length (c.as_slice-decls.ensures ∙ ap declarations c.grammar.ensures.same) in
    let d = c.count-missing.ensures.few in
    let e = c.requires.few in
    omega arith

pub build_root-requires-clause-few : goal.build_root-requires-clause-few
build_root-requires-clause-few c = few_root c.args.lowered.now.grammar c.args.lowered.now.shapes c.requires.few_dots

pub add_nonterminals-requires-clause-few_alternatives : goal.add_nonterminals-requires-clause-few_alternatives
add_nonterminals-requires-clause-few_alternatives c =
    λ decl among.
    few_each c.args.lowered.now.grammar c.args.lowered.now.shapes c.grammar.ensures.fit c.requires.few_dots decl
    (subst (λ (z : List Decl). Contains z decl) (c.as_slice-decls.ensures ∙ ap declarations c.grammar.ensures.same) among)

pub of-requires : goal.of-requires
of-requires c =
    subst IsWellKinded
    (sym (built_whole c.args.lowered.now.grammar c.args.lowered.now.shapes c.as_slice-decls.result.now c.in_ok-numbers.numbers c.count-missing.result
    (c.count-missing.result + 1) c.in_ok-root.root c.new-built.result.items c.push.new.self.items c.add_nonterminals.new.built.items c.from_vec.result
    (c.as_slice-decls.ensures ∙ ap declarations c.grammar.ensures.same) c.in_ok-numbers.ensures c.count-missing.ensures.counted refl c.in_ok-root.ensures c.new-built.ensures.items c.in_ok-push.ensures.items
    c.in_ok-add_nonterminals.ensures c.from_vec.ensures))
    (c.cores_are_well_kinded.ensures c.args.lowered.now.grammar c.args.lowered.now.shapes
    (record { scoped = c.grammar.ensures.scoped; fit = c.grammar.ensures.fit; remaining = c.requires.remaining })
    c.requires.few c.requires.few_dots)

pub returns : goal.returns
returns c =
    built_whole c.args.lowered.now.grammar c.args.lowered.now.shapes c.as_slice-decls.result.now c.in_ok-numbers.numbers c.count-missing.result
    (c.count-missing.result + 1) c.in_ok-root.root c.new-built.result.items c.push.new.self.items c.add_nonterminals.new.built.items c.of.result
    (c.as_slice-decls.ensures ∙ ap declarations c.grammar.ensures.same) c.in_ok-numbers.ensures c.count-missing.ensures.counted refl c.in_ok-root.ensures c.new-built.ensures.items c.in_ok-push.ensures.items
    c.in_ok-add_nonterminals.ensures (c.of.ensures ∙ c.from_vec.ensures)
