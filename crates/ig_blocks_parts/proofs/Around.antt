-- What a pair says of all blocks around a position.
use Rattle.std.proofs.Common.{◌≡◌, ◌⊎◌, ◌<◌, ◌≤◌, ℕ, List, [], ◌∷◌, All, arith}
use Rattle.std.proofs.lemmas.List.Elements.{All-nil, All-cons, All-head, All-tail}
use Rattle.ig_text.specs.Input.{Input}
use Rattle.ig_text.specs.Lines.{column_of}
use Rattle.ig_blocks_parts.specs.Allowed.{IsBefore, Allows, innermost, inner_column, AreAround}
use Rattle.ig_blocks_parts.specs.Laws.{PairsTellOfBlocks}
use Rattle.ig_blocks_parts.proofs.Columns.{all_allowed, block_allows, allows_block, inside_allows, allows_inside}

abbrev Asks : Input → ℕ → ℕ → Type 0
Asks text q i = (q ≡ i) ⊎ (column_of text i < column_of text q)

around_before : (blocks : List ℕ) (q : ℕ) → AreAround blocks q → IsBefore (innermost blocks) q
around_before [] q a = omega arith
around_before (i ∷ outer) q a = a.0

around_later : (blocks : List ℕ) (i q : ℕ) → i ≤ q → AreAround blocks i → AreAround blocks q
around_later [] i q le a = tt
around_later (j ∷ outer) i q le a = (omega (arith, le, a.0), a.1)

each_asks : (text : Input) (blocks : List ℕ) (q : ℕ) → AreAround blocks q → Allows text (inner_column text blocks) (innermost blocks) q → All (Asks text q) blocks
each_asks text [] q around allows = All-nil (Asks text q)
each_asks text (i ∷ outer) q around allows =
    let both = block_allows text (inner_column text outer) (innermost outer) i q (around_before outer i around.1) around.0 allows in
    All-cons (Asks text q) i outer both.1 (each_asks text outer q (around_later outer i q around.0 around.1) both.0)

all_ask : (text : Input) (blocks : List ℕ) (q : ℕ) → AreAround blocks q → All (Asks text q) blocks → Allows text (inner_column text blocks) (innermost blocks) q
all_ask text [] q around asks = all_allowed text q
all_ask text (i ∷ outer) q around asks =
    allows_block text (inner_column text outer) (innermost outer) i q (around_before outer i around.1) around.0
    (all_ask text outer q (around_later outer i q around.0 around.1) (All-tail (Asks text q) i outer asks))
    (All-head (Asks text q) i outer asks)

pub pairs_tell : PairsTellOfBlocks
pairs_tell text blocks q within around = (
  (λ e. each_asks text blocks q around (inside_allows text (inner_column text blocks) (innermost blocks) q (around_before blocks q around) within e)),
  (λ a. allows_inside text (inner_column text blocks) (innermost blocks) q (around_before blocks q around) within (all_ask text blocks q around a)),
)
