use Rattle.std.proofs.Common.{◌≡◌, IfOk, refl, subst}
use Rattle.ig_blocks_parts.specs.ColumnCode.{setting_by}
use Rattle.ig_blocks.proofs.Declaring.{grammar_is}
use Rattle.ig_blocks.proofs.lowering.lower_grammar.Goals as goal

pub returns : goal.returns
returns c =
    subst (λ z. IfOk c.with_start.result (λ r. r ≡ z))
    (grammar_is c.args.checked.now.grammar c.grammar-grammar.result.now c.args.checked.now.shapes c.as_slice.result.now c.as_slice-2.result.now (setting_by c.in_ok-guide.guide)
    (record { start = c.grammar-grammar.result.now.start; tabs = c.grammar-grammar.result.now.tabs; decls = c.in_ok-decls.field-0 })
    c.grammar-grammar.ensures.same c.as_slice.ensures c.as_slice-2.ensures c.in_ok-guide.ensures refl refl c.in_ok-decls.ensures) c.with_start.ensures
