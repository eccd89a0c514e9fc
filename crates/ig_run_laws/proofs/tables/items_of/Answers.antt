use Rattle.std.proofs.Common.{◌≡◌, ◌∙◌, ◌<◌, length, sym, subst, arith}
use Rattle.ig_item.specs.Tables.{AreTables, tables_by}
use Rattle.ig_run_laws.proofs.Tabled.{are_tables}
use Rattle.ig_run_laws.proofs.tables.items_of.Goals as goal

pub of-requires-clause-values : goal.of-requires-clause-values
of-requires-clause-values c =
    let same : c.in_ok-table.table ≡ c.args.envs.now.keys = c.in_ok-table.ensures ∙ c.as_slice-envs.ensures.keys in
    λ key m. subst (λ z. key.env < length z) (sym same) (c.requires.values key m)

pub of-requires-clause-tables : goal.of-requires-clause-tables
of-requires-clause-tables c =
    let same : c.in_ok-table.table ≡ c.args.envs.now.keys = c.in_ok-table.ensures ∙ c.as_slice-envs.ensures.keys in
    let envs = c.in_ok-number.ensures.fits in
    let keys = c.in_ok-number-2.ensures.fits in
    let items = c.in_ok-number-3.ensures.fits in
    let many_keys = c.len.ensures in
    let many_items = c.len-2.ensures in
    let shown = c.as_slice-envs.ensures.keys in
    subst (λ z. AreTables (tables_by c.args.keys.items z c.args.items.items)) (sym same)
    (are_tables c.args.keys.items c.args.envs.now.keys c.args.items.items c.requires.instances c.requires.environments
    (omega (arith, keys, many_keys)) (subst (λ z. length z < _) shown envs) (omega (arith, items, many_items)))
