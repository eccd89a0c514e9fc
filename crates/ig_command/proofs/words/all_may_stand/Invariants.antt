use Rattle.std.proofs.Common.{◌≡◌, drop, map}
use Rattle.std.specs.Prelude.{string_bytes}
use Rattle.std.specs.List.{list_all}
use Rattle.ig_command.specs.Rows.{may_stand}
use Rattle.ig_command.proofs.words.all_may_stand.Given as goal

abbrev pub invariant-loop-word : goal.invariant-loop-word
invariant-loop-word l =
    list_all may_stand (map string_bytes (drop l.word-index l.words)) ≡ list_all may_stand (map string_bytes l.words)
