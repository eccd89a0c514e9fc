use Rattle.std.proofs.Common.{◌∙◌, [], ◌∷◌, subst}
use Rattle.std.specs.Prelude.{OnOk}
use Rattle.ig_grammar.specs.Symbol.{Call}
use Rattle.ig_grammar.specs.declared.place.Shape.TheVariants as shape
use Rattle.ig_pass.specs.Added.{added_name}
use Rattle.ig_ebnf_variables.specs.Lists.{made, arguments}
use Rattle.ig_ebnf.specs.Made.{Grows}
use Rattle.ig_ebnf.proofs.made.push_sep_star.Goals as goal

pub returns : goal.returns
returns c =
    let of = c.args.of.now in
    let more = c.in_ok-more.ensures ∙
    (λ i. Call (added_name of (c.in_ok-next.ensures.number i)) (arguments [] (c.in_ok-params.ensures i)) ∷ []) in
    subst (λ m. OnOk c.push_two.result (Grows c.args.all.now c.push_two.new.all (m ∷ [])))
    (λ i. made (added_name of c.args.k) (c.in_ok-params.ensures i) shape.SepStar (c.new-none.ensures i ∷ more i ∷ []))
    c.push_two.ensures
