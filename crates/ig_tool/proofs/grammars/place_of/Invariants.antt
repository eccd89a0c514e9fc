use Rattle.std.proofs.Common.{◌≡◌, All, take}
use Rattle.ig_tool.specs.declared.grammars.Kept.{Kept}
use Rattle.ig_tool.proofs.grammars.place_of.Given as goal

-- none of those before was read from the bytes
abbrev pub invariant-loop-at : goal.invariant-loop-at
invariant-loop-at l = All (λ (k : Kept). k.bytes.items ≡ l.bytes → ⊥) (take l.at l.kept)
