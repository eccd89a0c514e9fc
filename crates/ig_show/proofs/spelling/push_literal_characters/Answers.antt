use Rattle.std.specs.Prelude.{flat_map}
use Rattle.ig_show.specs.Spelling.{literal_character}
use Rattle.ig_show.specs.Steps.{all_left, less_left, none_left}
use Rattle.ig_show.proofs.spelling.push_literal_characters.Goals as goal

pub loop-character-init : goal.loop-character-init
loop-character-init c = all_left (flat_map literal_character c.args.characters.now)

pub loop-character-preserved : goal.loop-character-preserved
loop-character-preserved c =
    less_left literal_character c.args.characters.now c.loop-character.character-index c.character-item.result c.character-item.result c.character-item.is c.loop-character-test.true c.loop-character.invariant c.in_ok-push_literal_character.ensures

pub returns : goal.returns
returns c = none_left literal_character c.args.characters.now c.loop-character.character-index c.loop-character-test.false c.loop-character.invariant
