use Rattle.std.proofs.Common.{List, subst, sym, ◌∙◌}
use Rattle.ig_item.specs.declared.core_grammar.Nonterminal.{Nonterminal}
use Rattle.ig_forest_reader.specs.Written.{IsDraftOf, TellsNames}
use Rattle.ig_command_jobs.specs.Verifying.{VerifiesDraft}
use Rattle.ig_command_jobs.proofs.Verified.{tells_names, verifies_draft, verifies_none}
use Rattle.ig_command_jobs.proofs.verifying.verify_text.Goals as goal

pub read_forest-requires : goal.read_forest-requires
read_forest-requires c =
    subst TellsNames (sym c.core-core.ensures) (tells_names c.args.parser.now c.requires.taken c.read_cores_tell_names.ensures)

pub returns-in-Err-NotAForest : goal.returns-in-Err-NotAForest
returns-in-Err-NotAForest c =
    verifies_none c.args.parser.now c.args.input.now c.args.bytes.items
    (record {
      taken = c.requires.taken;
      few = c.requires.few;
      well = rw c.core-core.ensures at c.nonterminals-nonterminals.ensures.well_kinded;
      limits = c.len-characters.ensures.limits;
      certified = c.reduced_forests_are_certified.ensures;
      permitted = c.verified_trees_are_permitted.ensures;
    })
    c.no_forest.result
    (λ f draft text. c.in-Err-NotAForest.ensures.refused c.in-Err-NotAForest.field-0-is f
    (subst (λ (z : List Nonterminal). IsDraftOf z f) (sym c.core-core.ensures) draft) (c.as_slice.ensures.value ∙ text))
    c.no_forest.ensures

pub returns : goal.returns
returns c =
    verifies_draft c.args.parser.now c.args.input.now c.args.bytes.items
    (record {
      taken = c.requires.taken;
      few = c.requires.few;
      well = rw c.core-core.ensures at c.nonterminals-nonterminals.ensures.well_kinded;
      limits = c.len-characters.ensures.limits;
      certified = c.reduced_forests_are_certified.ensures;
      permitted = c.verified_trees_are_permitted.ensures;
    })
    c.in-Ok.draft c.verify_draft.result
    (record {
      draft = subst (λ (z : List Nonterminal). IsDraftOf z c.in-Ok.draft) c.core-core.ensures c.in-Ok.ensures.read.0;
      text_is = sym c.as_slice.ensures.value ∙ c.in-Ok.ensures.read.1;
    })
    (subst (λ (z : List Nonterminal). VerifiesDraft z c.args.input.now c.in-Ok.draft c.verify_draft.result) c.core-core.ensures
    c.verify_draft.ensures)
