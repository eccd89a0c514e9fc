use Rattle.std.proofs.Common.{◌≡◌, ◌++◌, drop}
use Rattle.std.specs.Prelude.{flat_map}
use Rattle.ig_show_texts.specs.ForestText.{choice_text}
use Rattle.ig_show_texts.proofs.forest_text.push_choices.Given as goal

abbrev pub invariant-loop-choice : goal.invariant-loop-choice
invariant-loop-choice l =
    l.out.items ++ flat_map (choice_text l.name) (drop l.choice-index l.choices) ≡
    l.fn.out.items ++ flat_map (choice_text l.name) l.choices
