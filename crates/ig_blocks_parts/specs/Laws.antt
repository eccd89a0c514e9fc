-- What the blocks pass keeps, and what a pair of a column and a start says of all blocks around a position.
use Rattle.std.specs.Prelude.{◌≡◌, ◌⊎◌, ◌↔◌, ℕ, ◌<◌, ◌≤◌, pos, true, List, All, Contains, Some, length, map}
use Rattle.ig_text.specs.Input.{Input}
use Rattle.ig_text.specs.Lines.{column_of}
use Rattle.ig_expr.specs.Blocks.{inside}
use Rattle.ig_expr.specs.declared.value.Value.TheVariants as value
use Rattle.ig_grammar.specs.Alternative.{gathered_alternatives}
use Rattle.ig_grammar.specs.Checked.{CheckedGrammar}
use Rattle.ig_grammar.specs.Symbol.{Symbol, gathered}
use Rattle.ig_grammar.specs.declared.declaration.DeclKind.TheVariants.{Plain}
use Rattle.ig_grammar.specs.declared.declaration.Decl.{Decl}
use Rattle.ig_grammar.specs.declared.grammar.Grammar.{Grammar}
use Rattle.ig_grammar.specs.declared.symbol.Alt.{Alt}
use Rattle.ig_pass.specs.Added.{margin_name, first_name, column_name}
use Rattle.ig_pass.specs.Counts.{Multiplies}
use Rattle.ig_pass.specs.SameTrees.{PermitSame}
use Rattle.ig_pass.specs.SameValues.{KeepsValues}
use Rattle.ig_pass.specs.Sound.{IsSound, IsFree, IsUnmarked}
use Rattle.ig_pass.specs.Unbound.{IsUnbound}
use Rattle.ig_blocks_parts.specs.Allowed.{start_value, innermost, inner_column, AreAround}
use Rattle.ig_blocks_parts.specs.Setting.{Setting, Pair}
use Rattle.ig_blocks_parts.specs.Body.{sequence_of, choices_of}
use Rattle.ig_blocks_parts.specs.Blocks.{alternative_by, symbols_by, BlocksOf}

-- without marks the grammar permits the same trees, with the same values, and is as sound as it was
pub record KeptByBlocks (c : CheckedGrammar) : Type 0 where
  pub same : PermitSame c (BlocksOf c)
  pub values : KeepsValues c (BlocksOf c)
  pub sound : IsSound (BlocksOf c)
  pub free : IsFree (BlocksOf c).grammar
  pub unmarked : IsUnmarked (BlocksOf c).grammar

-- where some declaration is plain, no mark is left, as in every regular grammar
abbrev pub PlainIsUnmarked : Grammar → Type 0
PlainIsUnmarked g = (decl : Decl) → Contains g.decls decl → decl.kind ≡ Plain → IsUnmarked g

-- where levels are gone, and the names that the pass adds are new
abbrev pub BlocksKeep : Type 0
BlocksKeep =
    (c : CheckedGrammar) → IsSound c → IsFree c.grammar → IsUnbound c.grammar margin_name →
    IsUnbound c.grammar first_name → IsUnbound c.grammar column_name → PlainIsUnmarked c.grammar → KeptByBlocks c

-- one bound on all counts grows fivefold at most, with two for the root
abbrev pub BlocksMultiply : Type 0
BlocksMultiply = (c : CheckedGrammar) → Multiplies 5 c.grammar (BlocksOf c).grammar

-- by the pair inside these blocks, the test before a token is true exactly where each of them allows it
abbrev pub PairsTellOfBlocks : Type 0
PairsTellOfBlocks =
    (text : Input) (blocks : List ℕ) (q : ℕ) → q ≤ length text.characters → AreAround blocks q →
    ((inside text q (value.Int (pos (inner_column text blocks))) (value.Int (start_value (innermost blocks))) ≡
    Some (value.Bool true)) ↔ All (λ i. (q ≡ i) ⊎ (column_of text i < column_of text q)) blocks)

-- what becomes of symbols and alternatives as they are stored is, gathered, what becomes of them in a sequence or a group
pub record AreGathered (s : Setting) (p : Pair) : Type 0 where
  pub symbols : (xs : List Symbol) → gathered (symbols_by s p xs) ≡ sequence_of s p (gathered xs)
  pub choices : (ys : List Alt) →
      gathered_alternatives (map (alternative_by s p) ys) ≡ choices_of s p (gathered_alternatives ys)

abbrev pub AllAreGathered : Type 0
AllAreGathered = (s : Setting) (p : Pair) → AreGathered s p
