-- Behind each pass the grammar is regular, where it has few declarations, levels, alternatives and symbols before.
use Rattle.std.proofs.Common.{ℕ, ◌+◌, ◌*◌, ◌<◌, ◌≤◌, List, [], ◌∷◌, arith}
use Rattle.std.specs.Prelude.{All}
use Rattle.std.proofs.lemmas.List.Elements.{All-head, All-tail}
use Rattle.ig_text.specs.Limits.{numbers_end}
use Rattle.ig_grammar.specs.Checked.{CheckedGrammar}
use Rattle.ig_grammar.specs.ByForm.{holds_from, symbols_hold_from}
use Rattle.ig_grammar.specs.Regular.{AlternativesStandWell, OfEachLevel, IsNoMark, IsRegular}
use Rattle.ig_grammar.specs.Standing.{HasNoMark, SymbolsHaveNoMark}
use Rattle.ig_grammar.specs.Symbol.{Symbol, Literal, OneOf, Call, Label, Guard, Let, Filtered, gathered}
use Rattle.ig_grammar.specs.declared.grammar.Grammar.{Grammar}
use Rattle.ig_grammar.specs.Counts.{HasFewerThan}
use Rattle.ig_pass.specs.EachLevel.{of_each_level}
use Rattle.ig_pass.specs.Remaining.{IsRemaining, IsTerm, IsExcluding, Remains}
use Rattle.ig_pass.specs.Sound.{IsUnmarked}
use Rattle.ig_levels.specs.Levels.{LevelsOf}
use Rattle.ig_levels.specs.Laws.{LevelsMultiply}
use Rattle.ig_blocks_parts.specs.Blocks.{BlocksOf}
use Rattle.ig_blocks_parts.specs.Laws.{BlocksMultiply, PlainIsUnmarked}
use Rattle.ig_lexical.specs.Layout.{LayoutOf}
use Rattle.ig_lexical.specs.Laws.{LayoutMultiplies, FiltersMultiply}
use Rattle.ig_ebnf_variables.specs.Lists.{HasFewLists}
use Rattle.ig_ebnf_variables.specs.Laws.{ListsAreFew, ListsMultiply}
use Rattle.ig_core.specs.Laws.{ArePassed, AreRegular, PassesInTurn, PassesAreRegular}
use Rattle.ig_core.specs.Limits.{counts_before_passes}
use Rattle.ig_core.specs.Lowered.{BeforeLists, IsNumbered, Lowered}

-- how much each pass adds, and how few lists few symbols have
pub record Multiply : Type 0 where
  pub levels : LevelsMultiply
  pub blocks : BlocksMultiply
  pub layout : LayoutMultiplies
  pub filters : FiltersMultiply
  pub lists : ListsMultiply
  pub few_lists : ListsAreFew

-- fewer than so many are fewer than more
with_more : (m n : ℕ) (g : Grammar) → m ≤ n → HasFewerThan m g → HasFewerThan n g
with_more m n g h few =
    let a : _ < m = few.declarations in
    let b : _ < m = few.levels in
    let c : _ < m = few.alternatives in
    let d : _ < m = few.symbols in
    record {
      declarations = omega (arith, h, a);
      levels = omega (arith, h, b);
      alternatives = omega (arith, h, c);
      symbols = omega (arith, h, d);
    }

-- the forms that remain have no mark
term_unmarked : (May : List ℕ → ℕ → Type 0) (x : Symbol) → IsTerm May x → HasNoMark x
term_unmarked May (Literal word) h = holds_from IsNoMark (Literal word) tt tt
term_unmarked May (OneOf class) h = holds_from IsNoMark (OneOf class) tt tt
term_unmarked May (Call name arguments) h = holds_from IsNoMark (Call name arguments) tt tt
term_unmarked May x h = absurd h

excluding_unmarked : (May : List ℕ → ℕ → Type 0) (x : Symbol) → IsExcluding May x → HasNoMark x
excluding_unmarked May (Filtered x filters) h = holds_from IsNoMark (Filtered x filters) tt (term_unmarked May x h.1)
excluding_unmarked May x h = term_unmarked May x h

remaining_unmarked : (May : List ℕ → ℕ → Type 0) (x : Symbol) → Remains May x → HasNoMark x
remaining_unmarked May (Label name x) h = holds_from IsNoMark (Label name x) tt (excluding_unmarked May x h)
remaining_unmarked May (Guard e) h = holds_from IsNoMark (Guard e) tt tt
remaining_unmarked May (Let name e) h = holds_from IsNoMark (Let name e) tt tt
remaining_unmarked May x h = excluding_unmarked May x h

symbols_unmarked : (May : List ℕ → ℕ → Type 0) (xs : List Symbol) → All (Remains May) xs → SymbolsHaveNoMark (gathered xs)
symbols_unmarked May [] h = symbols_hold_from IsNoMark (gathered []) tt
symbols_unmarked May (x ∷ xs) h =
    symbols_hold_from IsNoMark (gathered (x ∷ xs))
    (remaining_unmarked May x (All-head (Remains May) x xs h), symbols_unmarked May xs (All-tail (Remains May) x xs h))

remaining_is_unmarked : (g : Grammar) → IsRemaining g → IsUnmarked g
remaining_is_unmarked g remaining =
    of_each_level IsNoMark g (λ decl a d m. symbols_unmarked (λ name n. Unit {0}) a.symbols (remaining.forms decl a d m))

-- with so many before the passes, fewer than so many behind each
abbrev behind_levels : ℕ
behind_levels = 3 * (counts_before_passes + 2)

abbrev behind_blocks : ℕ
behind_blocks = 5 * (behind_levels + 2)

abbrev behind_layout : ℕ
behind_layout = 3 * (behind_blocks + 2)

abbrev behind_filters : ℕ
behind_filters = 2 * (behind_layout + 2)

abbrev behind_lists : ℕ
behind_lists = 3 * (behind_filters + 2)

regular : (g : Grammar) (n : ℕ) → n ≤ numbers_end → OfEachLevel AlternativesStandWell g → PlainIsUnmarked g → HasFewerThan n g → IsRegular g
regular g n h well unmarked few = record { well = well; unmarked = unmarked; counted = with_more n numbers_end g h few }

-- no mark is left, in plain declarations neither
nowhere_marked : (g : Grammar) → IsUnmarked g → PlainIsUnmarked g
nowhere_marked g unmarked decl among plain = unmarked

-- fewer lists than numbers for names
numbered : ListsAreFew → (g : Grammar) → HasFewerThan behind_filters g → HasFewLists g
numbered law g few decl among = let h : _ < 2 * behind_filters = law g behind_filters few decl among in omega (arith, h)

behind : Multiply → (c : CheckedGrammar) → ArePassed c →
    HasFewerThan counts_before_passes c.grammar → AreRegular c
unfolding BeforeLists Lowered
behind law c at few =
    let levels = law.levels c counts_before_passes few in
    let blocks = law.blocks (LevelsOf c) behind_levels levels in
    let layout = law.layout (BlocksOf (LevelsOf c)) behind_blocks blocks in
    let filters = law.filters (LayoutOf (BlocksOf (LevelsOf c))) behind_layout layout in
    let lists = law.lists (BeforeLists c) at.filters.sound.well at.filters.unmarked behind_filters filters in
    let named : IsNumbered c = record { few_lists = numbered law.few_lists (BeforeLists c).grammar filters } in
    let last = at.lists named in
    record {
      levels = regular (LevelsOf c).grammar behind_levels (omega arith) at.levels.sound.well at.plain levels;
      blocks =
          regular (BlocksOf (LevelsOf c)).grammar behind_blocks (omega arith) at.blocks.sound.well
          (nowhere_marked (BlocksOf (LevelsOf c)).grammar at.blocks.unmarked) blocks;
      layout =
          regular (LayoutOf (BlocksOf (LevelsOf c))).grammar behind_layout (omega arith) at.layout.sound.well
          (nowhere_marked (LayoutOf (BlocksOf (LevelsOf c))).grammar at.layout.unmarked) layout;
      filters =
          regular (BeforeLists c).grammar behind_filters (omega arith) at.filters.sound.well
          (nowhere_marked (BeforeLists c).grammar at.filters.unmarked) filters;
      numbered = named;
      lists =
          regular (Lowered c).grammar behind_lists (omega arith) last.well
          (nowhere_marked (Lowered c).grammar (remaining_is_unmarked (Lowered c).grammar last.remaining)) lists;
    }

-- where the counts are small
pub passes_are_regular : Multiply → PassesInTurn → PassesAreRegular
passes_are_regular law turn c can few = behind law c (turn c can) few
