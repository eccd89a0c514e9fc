use Rattle.std.proofs.Common.{◌≡◌, ◌∙◌, ap, sym, subst, w64, arith, rules}
use Rattle.std.proofs.lemmas.Int.{to_z-of_z}
use Rattle.std.specs.Prelude.{pos, unsigned_abs, FitsSigned}
use Rattle.ig_text.specs.Lines.{column_of}
use Rattle.ig_text.proofs.StopTable.{column_few}
use Rattle.ig_query.proofs.Reporting.{column_number}
use Rattle.ig_query.proofs.run_report.column_of.Goals as goal

pub overflow_cast-result : goal.overflow_cast-result
overflow_cast-result c =
    let fits : FitsSigned w64 c.from.result = search rules in
    let is : c.in-Some.column ≡ pos (column_of c.args.text.now c.args.position) =
    column_number c.args.text.now c.args.position _ c.in-Some.column c.column.result
    (to_z-of_z w64 c.from.result fits ∙ c.from.ensures) c.column.ensures c.in-Some.is in
    let limits = c.len-characters.ensures.limits in
    let small = column_few c.args.text.now c.args.position limits.width c.requires in
    let few = limits.few in
    let held : FitsSigned w64 c.in-Some.column =
    subst (FitsSigned w64) (sym is) (record { sfits = omega (arith, small, few) }) in
    let number : c.unsigned_abs.result ≡ column_of c.args.text.now c.args.position =
    c.unsigned_abs.ensures.value ∙ ap unsigned_abs (to_z-of_z w64 c.in-Some.column held ∙ is) in
    omega (arith, number, small, few)

pub returns : goal.returns
returns c =
    let fits : FitsSigned w64 c.from.result = search rules in
    let is : c.in-Some.column ≡ pos (column_of c.args.text.now c.args.position) =
    column_number c.args.text.now c.args.position _ c.in-Some.column c.column.result
    (to_z-of_z w64 c.from.result fits ∙ c.from.ensures) c.column.ensures c.in-Some.is in
    let limits = c.len-characters.ensures.limits in
    let small = column_few c.args.text.now c.args.position limits.width c.requires in
    let few = limits.few in
    let held : FitsSigned w64 c.in-Some.column =
    subst (FitsSigned w64) (sym is) (record { sfits = omega (arith, small, few) }) in
    c.unsigned_abs.ensures.value ∙ ap unsigned_abs (to_z-of_z w64 c.in-Some.column held ∙ is)
