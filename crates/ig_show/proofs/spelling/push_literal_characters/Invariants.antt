use Rattle.std.proofs.Common.{drop}
use Rattle.std.specs.Prelude.{flat_map, string_bytes}
use Rattle.ig_show.specs.Spelling.{literal_character}
use Rattle.ig_show.specs.Steps.{Left}
use Rattle.ig_show.proofs.spelling.push_literal_characters.Given as goal

abbrev pub invariant-loop-character : goal.invariant-loop-character
invariant-loop-character l =
    Left (string_bytes l.fn.out) (string_bytes l.out) (flat_map literal_character l.characters) (flat_map literal_character (drop l.character-index l.characters))
