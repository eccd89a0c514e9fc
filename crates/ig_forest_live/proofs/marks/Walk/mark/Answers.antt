use Rattle.std.proofs.Common.{Some, sym, ap, ◌∙◌, refl}
use Rattle.std.proofs.lemmas.Option.{slice_get-get_or}
use Rattle.ig_forest_live.proofs.CodeWalk.{marked_now}
use Rattle.ig_forest_live.proofs.marks.Walk.mark.Goals as goal

pub returns : goal.returns
returns c =
    marked_now c.args.self.now _ c.args.number c.args.mark c.index.result.now c.requires.found c.requires.number
    (slice_get-get_or c.args.self.now.marks.items c.args.number _ c.requires.number ∙ ap Some (sym c.index.ensures))
    (sym c.is_live.ensures ∙ c.if-is_live.false) c.requires.mark refl c.in_ok-push.ensures.items
