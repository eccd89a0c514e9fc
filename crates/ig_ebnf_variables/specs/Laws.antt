-- What the lists pass keeps, and how much it adds.
use Rattle.std.specs.Prelude.{◌≡◌, ℕ, ◌*◌, ◌<◌, List, Contains, None, map, true, false}
use Rattle.ig_grammar.specs.Numbering.{layout_among}
use Rattle.ig_grammar.specs.Alternative.{gathered_alternatives}
use Rattle.ig_grammar.specs.Checked.{CheckedGrammar, FitShapes}
use Rattle.ig_grammar.specs.Regular.{AlternativesStandWell, OfEachLevel}
use Rattle.ig_grammar.specs.Counts.{HasFewerThan}
use Rattle.ig_grammar.specs.WellScoped.{IsWellScoped}
use Rattle.ig_grammar.specs.Visible.{Visible}
use Rattle.ig_grammar.specs.declared.declaration.Decl.{Decl}
use Rattle.ig_grammar.specs.declared.grammar.Grammar.{Grammar}
use Rattle.ig_grammar.specs.declared.symbol.Alt.{Alt}
use Rattle.ig_pass.specs.Counts.{Multiplies}
use Rattle.ig_pass.specs.SameTrees.{PermitSame}
use Rattle.ig_pass.specs.SameValues.{KeepsValues}
use Rattle.ig_pass.specs.Added.{root_name, IsFresh}
use Rattle.ig_pass.specs.Rooted.{has_root}
use Rattle.ig_pass.specs.Sound.{IsSound, IsFree, IsUnmarked, HasExclusionsAlone, RootIsNamed}
use Rattle.ig_pass.specs.Remaining.{IsRemaining}
use Rattle.ig_ebnf_variables.specs.Lists.{HasFewLists, ListsOf, count_levels, lowered}
use Rattle.ig_ebnf_variables.specs.Lists.{alts_of, count_alternatives, count_alts, new_alternatives, new_alts, added_alternatives, added_alts}

-- the same trees, with the same values, and a checked grammar of the forms that remain, with a declaration that stands for the root
pub record KeptByLists (c : CheckedGrammar) : Type 0 where
  pub same : PermitSame c (ListsOf c)
  pub values : KeepsValues c (ListsOf c)
  pub scoped : IsWellScoped (ListsOf c).grammar
  pub fit : FitShapes (ListsOf c).grammar (ListsOf c).shapes
  -- each symbol stands where it may, and each literal has a character
  pub well : OfEachLevel AlternativesStandWell (ListsOf c).grammar
  pub remaining : IsRemaining (ListsOf c).grammar
  pub root_named : RootIsNamed (ListsOf c)
  pub rooted : has_root (ListsOf c).shapes ≡ true

-- where no layout is declared, no declaration has operators, no mark is left, of filters only exclusions are, and
-- numbers tell added names apart
abbrev pub ListsKeep : Type 0
ListsKeep =
    (c : CheckedGrammar) → IsSound c → IsFree c.grammar → IsUnmarked c.grammar → layout_among c.grammar.decls ≡ None →
    HasExclusionsAlone c.grammar → HasFewLists c.grammar → KeptByLists c

-- before the root is added: the same trees, with the same values, and a checked grammar, to which the root may be added
pub record KeptByLowering (c : CheckedGrammar) : Type 0 where
  pub same : PermitSame c (lowered c)
  pub values : KeepsValues c (lowered c)
  pub scoped : IsWellScoped (lowered c).grammar
  pub fit : FitShapes (lowered c).grammar (lowered c).shapes
  pub fresh : has_root (lowered c).shapes ≡ false → IsFresh (lowered c).grammar root_name

abbrev pub LoweringKeeps : Type 0
LoweringKeeps =
    (c : CheckedGrammar) → IsSound c → IsFree c.grammar → IsUnmarked c.grammar → layout_among c.grammar.decls ≡ None →
    HasExclusionsAlone c.grammar → HasFewLists c.grammar → KeptByLowering c

-- where symbols stand well and no mark is left, one bound on all counts grows threefold at most, but for the root
abbrev pub ListsMultiply : Type 0
ListsMultiply =
    (c : CheckedGrammar) → OfEachLevel AlternativesStandWell c.grammar → IsUnmarked c.grammar →
    Multiplies 3 c.grammar (ListsOf c).grammar

-- few symbols have few lists: two declarations are added for each symbol at most
abbrev pub ListsAreFew : Type 0
ListsAreFew =
    (g : Grammar) (most : ℕ) → HasFewerThan most g → (decl : Decl) → Contains g.decls decl →
    count_levels decl.levels < 2 * most

-- the alternatives of a group are lowered as those of a level are
pub record IsGathered (ys : List Alt) : Type 0 where
  pub stored : alts_of (map (λ (a : Alt). a.symbols) ys) ≡ ys
  pub counted : count_alternatives (gathered_alternatives ys) ≡ count_alts ys
  pub lowered : (of : List ℕ) (v : Visible) (k : ℕ) →
      map (λ (a : Alt). a.symbols) (new_alts of v k ys) ≡ new_alternatives of v k (gathered_alternatives ys)
  pub added : (of : List ℕ) (v : Visible) (k : ℕ) → added_alternatives of v k (gathered_alternatives ys) ≡ added_alts of v k ys

abbrev pub GroupsAreGathered : Type 0
GroupsAreGathered = (ys : List Alt) → IsGathered ys
