-- Alternatives of the lowered grammar, and those of which they are made.
use Rattle.std.proofs.Common.{◌≡◌, ℕ, zero, suc, List, [], ◌∷◌, map, Some, inl, inr}
use Rattle.std.specs.Prelude.{◌⊎◌, Contains, slice_get}
use Rattle.std.proofs.lemmas.List.Elements.{Contains-append_cases}
use Rattle.ig_grammar.specs.Numbering.{alternatives}
use Rattle.ig_grammar.specs.declared.declaration.Level.{Level}
use Rattle.ig_grammar.specs.declared.symbol.Alt.{Alt}
use Rattle.ig_blocks_parts.specs.Setting.{Setting, Pair}
use Rattle.ig_blocks_parts.specs.Blocks.{alternative_by, level_by}
use Rattle.ig_text.proofs.Lists.{contains_first, contains_later}
use Rattle.ig_text.proofs.Lists.{at_from_contains, contains_from_at, none_in_nil, unmapped_in}

-- an alternative of lowered levels is made of one of a level
pub made_alternative : (s : Setting) (p : Pair) (levels : List Level) (b : Alt) → Contains (alternatives (map (level_by s p) levels)) b →
    (level : Level) × (a : Alt) × Contains levels level × Contains level.alts a × (alternative_by s p a ≡ b)
made_alternative s p [] b m = absurd (none_in_nil b m)
made_alternative s p (level ∷ levels) b m =
    go (Contains-append_cases (map (alternative_by s p) level.alts) (alternatives (map (level_by s p) levels)) b m) (λ n. made_alternative s p levels b n)
  where
    go : Contains (map (alternative_by s p) level.alts) b ⊎ Contains (alternatives (map (level_by s p) levels)) b →
        (Contains (alternatives (map (level_by s p) levels)) b → (l : Level) × (a : Alt) × Contains levels l × Contains l.alts a × (alternative_by s p a ≡ b)) →
        (l : Level) × (a : Alt) × Contains (level ∷ levels) l × Contains l.alts a × (alternative_by s p a ≡ b)
    go (inl n) later = let r = unmapped_in (alternative_by s p) level.alts b n in (level, r.0, contains_first level levels, r.1, r.2)
    go (inr n) later = let r = later n in (r.0, r.1, contains_later level levels r.0 r.2, r.3, r.4)
