use Rattle.std.proofs.Common.{◌∙◌, [], ◌∷◌, subst}
use Rattle.std.specs.Prelude.{OnOk}
use Rattle.ig_grammar.specs.declared.place.Shape.TheVariants as shape
use Rattle.ig_pass.specs.Added.{added_name}
use Rattle.ig_ebnf_variables.specs.Lists.{made, new}
use Rattle.ig_ebnf.specs.Made.{Grows}
use Rattle.ig_ebnf.proofs.made.push_option.Goals as goal

pub returns : goal.returns
returns c =
    let of = c.args.of.now in
    let v = c.args.variables.now in
    let one = c.in_ok-one.ensures ∙ (λ i. new of v (c.in_ok-inside.ensures.number i) (c.as_symbol.ensures i)) in
    subst (λ m. OnOk c.push_two.result (Grows c.args.all.now c.push_two.new.all (m ∷ [])))
    (λ i. made (added_name of c.args.k) (c.in_ok-params.ensures i) shape.Opt (c.new-none.ensures i ∷ one i ∷ []))
    c.push_two.ensures
