use Rattle.std.proofs.Common.{sym, ◌∙◌, ap, Some}
use Rattle.ig_text.proofs.Options.{on_ok_same}
use Rattle.ig_text.proofs.Zips.{firsts_of}
use Rattle.ig_expr.specs.Names.{place_of}
use Rattle.ig_grammar.specs.Visible.{with_kind}
use Rattle.ig_grammar.proofs.NamePlaces.{with_kind_placed, with_kind_new}
use Rattle.ig_grammar.proofs.variables.Variables.replace.Goals as goal

pub returns-in-Some : goal.returns-in-Some
returns-in-Some c =
    with_kind_placed c.self.inside.names.items c.self.inside.kinds.items c.args.name.now c.args.kind c.in-Some.place c.self.invariant
    (ap (λ z. place_of z c.args.name.now) (sym c.as_slice.ensures.value) ∙ sym c.place_of.ensures ∙ c.in-Some.is) ∙
    ap (λ v. with_kind v c.args.name.now (Some c.args.kind)) c.self.view_is

pub returns-in-None : goal.returns-in-None
returns-in-None c =
    let n = firsts_of c.args.self.now c.self.inside.names.items c.self.inside.kinds.items c.self.view_is c.self.invariant in
    let e = with_kind_new c.args.self.now c.args.name.now c.args.kind
    (ap (λ z. place_of z c.args.name.now) (n ∙ sym c.as_slice.ensures.value) ∙ sym c.place_of.ensures ∙ c.in-None.is) in
    on_ok_same c.bind.result _ _ _ c.bind.ensures.ok (sym e)
