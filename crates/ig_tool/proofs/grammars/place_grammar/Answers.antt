use Rattle.std.proofs.Common.{All, subst, sym}
use Rattle.std.proofs.lemmas.List.Elements.{All-push}
use Rattle.ig_tool.specs.Loading.{IsKept}
use Rattle.ig_tool.proofs.Kept.{added_at, found_at}
use Rattle.ig_tool.proofs.Finding.{places_none}
use Rattle.ig_tool.proofs.grammars.place_grammar.Goals as goal

pub returns-in-Some-clause-answer : goal.returns-in-Some-clause-answer
returns-in-Some-clause-answer c =
    found_at c.args.kept.now.items c.as_slice.result.now c.args.bytes.items c.as_slice-2.result.now c.in-Some.at
    c.as_slice.ensures.value c.as_slice-2.ensures.value c.requires.kept c.in-Some.ensures

pub returns-in_ok-at-in-Ok-clause-answer : goal.returns-in_ok-at-in-Ok-clause-answer
returns-in_ok-at-in-Ok-clause-answer c =
    added_at c.args.kept.now.items c.add.new.kept.items c.in-Ok.new c.args.bytes.items c.in_ok-at-in-Ok.at c.in_ok-at-in-Ok.ensures.items
    c.in_ok-at-in-Ok.ensures.place c.in-Ok.ensures.0 c.in-Ok.ensures.1

pub returns-in-Err-clause-answer : goal.returns-in-Err-clause-answer
returns-in-Err-clause-answer c =
    places_none c.args.kept.now.items c.args.bytes.items c.in-Err.stop c.refused.result c.in-Err.ensures c.refused.ensures

pub returns-in_ok-at-in-Ok-clause-kept : goal.returns-in_ok-at-in-Ok-clause-kept
returns-in_ok-at-in-Ok-clause-kept c =
    subst (All IsKept) (sym c.in_ok-at-in-Ok.ensures.items) (All-push IsKept c.args.kept.now.items c.in-Ok.new c.requires.kept c.in-Ok.ensures.0)
