use Rattle.std.proofs.Common.{sym, ◌∙◌, ◌+◌, take, subst}
use Rattle.std.proofs.lemmas.List.{take_all}
use Rattle.ig_grammar.specs.Tables.{HasPlaces}
use Rattle.ig_grammar.proofs.FirstPlaces.{places_kept, places_grown}
use Rattle.ig_grammar.proofs.declarations.Declarations.new.Goals as goal
use Rattle.ig_grammar.proofs.declarations.Declarations.new.Goals.{then-not-contains_key+in_ok-insert, else-not-contains_key}

pub loop-place-preserved : goal.loop-place-preserved
loop-place-preserved c =
    let d = c.index-decls-place.result in
    let i = c.loop-place.place in
    elim c.if-not-contains_key.branch [
      | then-not-contains_key+in_ok-insert w ↦
          subst (λ table. HasPlaces table (take (i + 1) c.args.decls.now)) (sym w.places-is)
          (places_grown c.loop-place.places w.insert.new.self c.args.decls.now i d c.as_chars-name.result.now
          c.loop-place-test.true c.index-decls-place.is c.as_chars-name.ensures c.loop-place.invariant
          (sym c.contains_key.ensures ∙ w.if-not-contains_key.true) w.in_ok-insert.ensures.updates)
      | else-not-contains_key w ↦
          subst (λ table. HasPlaces table (take (i + 1) c.args.decls.now)) (sym w.places-is)
          (places_kept c.loop-place.places c.args.decls.now i d c.as_chars-name.result.now
          c.loop-place-test.true c.index-decls-place.is c.as_chars-name.ensures c.loop-place.invariant
          (sym c.contains_key.ensures ∙ w.if-not-contains_key.false))
    ]

pub invariant_of-result : goal.invariant_of-result
invariant_of-result c = subst (HasPlaces c.loop-place.places) (take_all c.loop-place.place c.args.decls.now c.loop-place-test.false) c.loop-place.invariant
