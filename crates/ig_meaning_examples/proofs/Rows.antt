-- The trees of the worked grammars, computed.
use Rattle.std.proofs.Common.{◌≡◌, List, [], ◌∷◌, refl}
use Rattle.std.specs.Prelude.{codes, pos}
use Rattle.ig_text.specs.Input.{Input, untabbed}
use Rattle.ig_text.specs.Tree.{Tree}
use Rattle.ig_meaning_examples.specs.Matches.{MatchesAreKnown}
use Rattle.ig_grammar.specs.Numbering.{Levelled}
use Rattle.ig_grammar.specs.declared.declaration.Assoc.TheVariants.{Free}
use Rattle.ig_grammar.specs.declared.declaration.DeclKind.{DeclKind}
use Rattle.ig_grammar.specs.declared.declaration.DeclKind.TheVariants.{Syntax, Plain}
use Rattle.ig_grammar.specs.declared.declaration.Decl.{Decl}
use Rattle.ig_meaning_examples.specs.Exactly.{PermitsExactly}
use Rattle.ig_meaning_examples.specs.Notation.{plain, rule}
use Rattle.ig_meaning_examples.specs.Nullable as nullable_rows
use Rattle.ig_meaning_examples.specs.Nullable.{EmptyPairsArePermitted, HiddenLeftRecursionIsPermitted}
use Rattle.ig_meaning_examples.specs.Operators as operators_rows
use Rattle.ig_meaning_examples.specs.Operators.{LevelsBind, SpinesAreWhole, ComparisonsStandAlone}
use Rattle.ig_meaning_examples.specs.Levels as levels_rows
use Rattle.ig_meaning_examples.specs.Levels.{OperatorsGroupToTheRight, LabelledCallsAreOperands, FilteredCallsAreNoOperands, BracketsAreClean, SingleCallsAreNoOperands}
use Rattle.ig_meaning_examples.specs.Data as data_rows
use Rattle.ig_meaning_examples.specs.Data.{NamesAreCompared, LettersAreCounted}
use Rattle.ig_meaning_examples.specs.Bindings as bindings_rows
use Rattle.ig_meaning_examples.specs.Bindings.{LetsStandBehindLayout, GroupsKeepTheirBindings, GuardsWantAValue}
use Rattle.ig_meaning_examples.specs.Layout as layout_rows
use Rattle.ig_meaning_examples.specs.Layout.{OptionsHaveLayout, CallsOfLayoutAreNoTokens, LexicalStartsHaveLayout, LayoutMayStart, LabelsBindOwnEnds}
use Rattle.ig_meaning_examples.specs.Filters as filters_rows
use Rattle.ig_meaning_examples.specs.Filters.{FiltersAreAskedAtOwnEnds, FiltersLookBack, NegatedClassesExclude}
use Rattle.ig_meaning_examples.specs.Keyword as keyword_rows
use Rattle.ig_meaning_examples.specs.Keyword.{KeywordsAreExcluded}
use Rattle.ig_meaning_examples.specs.Columns as columns_rows
use Rattle.ig_meaning_examples.specs.Columns.{SeparatorsAreFree, AlignedListsHaveFilters, BlocksSeeAllTokens}
use Rattle.ig_meaning_examples.specs.Blocks as blocks_rows
use Rattle.ig_meaning_examples.specs.Blocks.{DeclarationsAreBlocks, NestedBlocksAreAsked, GreaterColumnsCount, TokensUnderBlocksAreSeen}
use Rattle.ig_meaning_examples.specs.Widths as widths_rows
use Rattle.ig_meaning_examples.specs.Widths.{TabsGoOnToStops, BlocksSeeTabs, ListsSeeTabs}
use Rattle.ig_meaning_examples.specs.Passes as passes_rows
use Rattle.ig_meaning_examples.specs.Passes.{SequencesStandInPlace, EntriesBindInside, RootsAreReadByTheirKind, ShapesGiveTags}
use Rattle.ig_meaning_examples.proofs.Roots.{IsOnlyRoot, declared_root, rootless_root, written_symbols}
use Rattle.ig_meaning_examples.proofs.Exactness.{trees_up_to, exactly, by_computing}

module _ (known : MatchesAreKnown) where
  -- the declaration that stands for the root
  abbrev root_declaration : DeclKind → Decl
  root_declaration kind = rule kind (codes "$root") (plain (codes "W") ∷ plain (codes "L") ∷ [])

  abbrev root_alternative : Levelled
  root_alternative =
      record { alternative = record { symbols = plain (codes "W") ∷ plain (codes "L") ∷ [] }; level = 1; assoc = Free }

  only_root : (kind : DeclKind) → IsOnlyRoot (passes_rows.rooted kind) passes_rows.rooted_shapes kind root_alternative.alternative.symbols
  only_root kind =
      declared_root (passes_rows.rooted kind) passes_rows.rooted_shapes (codes "$root") 3 (root_declaration kind) root_alternative refl (record { numbered = (2, refl, refl); shaped = (2, refl, refl); named = refl }) (0, refl, refl) refl

  rooted : (kind : DeclKind) (text : Input) (trees : List Tree) →
      trees_up_to (passes_rows.rooted kind) passes_rows.rooted_shapes text kind root_alternative.alternative.symbols 8 ≡ trees →
      PermitsExactly (passes_rows.rooted kind) passes_rows.rooted_shapes text 8 trees
  rooted kind text trees computed =
      exactly (passes_rows.rooted kind) passes_rows.rooted_shapes text kind root_alternative.alternative.symbols known (only_root kind) 8 trees computed

  -- the first declaration stands for itself, and the others for forms
  only_first : IsOnlyRoot passes_rows.forms passes_rows.form_shapes Syntax (written_symbols passes_rows.forms (codes "S"))
  only_first = rootless_root passes_rows.forms passes_rows.form_shapes (codes "S") refl refl

  formed : (text : Input) (trees : List Tree) →
      trees_up_to passes_rows.forms passes_rows.form_shapes text Syntax (written_symbols passes_rows.forms (codes "S")) 8 ≡ trees →
      PermitsExactly passes_rows.forms passes_rows.form_shapes text 8 trees
  formed text trees computed =
      exactly passes_rows.forms passes_rows.form_shapes text Syntax (written_symbols passes_rows.forms (codes "S")) known only_first 8 trees computed

  pub empty_pairs_are_permitted : EmptyPairsArePermitted
  empty_pairs_are_permitted =
      record {
        up_to_1 = by_computing known nullable_rows.pairs (codes "S") refl [] 1 _ refl;
        up_to_2 = by_computing known nullable_rows.pairs (codes "S") refl [] 2 _ refl;
        up_to_3 = by_computing known nullable_rows.pairs (codes "S") refl [] 3 _ refl;
      }

  pub hidden_left_recursion_is_permitted : HiddenLeftRecursionIsPermitted
  hidden_left_recursion_is_permitted =
      record {
        two_letters = by_computing known nullable_rows.hidden (codes "S") refl (codes "yxx") 6 _ refl;
        wrong_order = by_computing known nullable_rows.hidden (codes "S") refl (codes "xy") 6 _ refl;
      }

  pub levels_bind : LevelsBind
  levels_bind =
      record {
        differences = by_computing known (operators_rows.grammar_of operators_rows.arithmetic) (codes "E") refl (codes "1-2-3") 6 _ refl;
        sum_of_product = by_computing known (operators_rows.grammar_of operators_rows.arithmetic) (codes "E") refl (codes "1+2*3") 6 _ refl;
        cut_off = by_computing known (operators_rows.grammar_of operators_rows.arithmetic) (codes "E") refl (codes "1-") 6 _ refl;
      }

  pub spines_are_whole : SpinesAreWhole
  spines_are_whole =
      record {
        sign_last = by_computing known (operators_rows.grammar_of operators_rows.with_sign) (codes "E") refl (codes "a*-b+c") 6 _ refl;
        suffixes = by_computing known (operators_rows.grammar_of operators_rows.with_suffixes) (codes "E") refl (codes "a*a?!") 6 _ refl;
      }

  pub comparisons_stand_alone : ComparisonsStandAlone
  comparisons_stand_alone =
      record {
        alone = by_computing known (operators_rows.grammar_of operators_rows.comparison) (codes "E") refl (codes "a<b") 6 _ refl;
        in_a_row = by_computing known (operators_rows.grammar_of operators_rows.comparison) (codes "E") refl (codes "a<b<c") 6 _ refl;
      }

  pub operators_group_to_the_right : OperatorsGroupToTheRight
  operators_group_to_the_right =
      record {
        powers = by_computing known levels_rows.to_the_right (codes "E") refl (codes "a^b^c") 8 _ refl;
      }

  pub labelled_calls_are_operands : LabelledCallsAreOperands
  labelled_calls_are_operands =
      record {
        labelled = by_computing known levels_rows.with_labels (codes "E") refl (codes "a+a+a") 8 _ refl;
      }

  pub filtered_calls_are_no_operands : FilteredCallsAreNoOperands
  filtered_calls_are_no_operands =
      record {
        both = by_computing known levels_rows.with_filter (codes "E") refl (codes "a+a+a") 8 _ refl;
      }

  pub brackets_are_clean : BracketsAreClean
  brackets_are_clean =
      record {
        inside = by_computing known levels_rows.with_brackets (codes "E") refl (codes "(a+a+a)") 8 _ refl;
      }

  pub single_calls_are_no_operands : SingleCallsAreNoOperands
  single_calls_are_no_operands =
      record {
        sums = by_computing known levels_rows.with_arguments (codes "S") refl (codes "a+a") 8 _ refl;
      }

  pub names_are_compared : NamesAreCompared
  names_are_compared =
      record {
        same_name = by_computing known data_rows.elements (codes "El") refl (codes "<a></a>") 8 _ refl;
        other_name = by_computing known data_rows.elements (codes "El") refl (codes "<a></b>") 8 _ refl;
      }

  pub letters_are_counted : LettersAreCounted
  letters_are_counted =
      record {
        three = by_computing known data_rows.counted (codes "S") refl (codes "{3}abc") 8 _ refl;
        too_many = by_computing known data_rows.counted (codes "S") refl (codes "{2}abc") 8 _ refl;
      }

  pub lets_stand_behind_layout : LetsStandBehindLayout
  lets_stand_behind_layout =
      record {
        behind = by_computing known bindings_rows.bound (codes "S") refl (codes "a b") 8 _ refl;
      }

  pub groups_keep_their_bindings : GroupsKeepTheirBindings
  groups_keep_their_bindings =
      record {
        outside = by_computing known bindings_rows.labelled (codes "S") refl (codes "aaa") 8 _ refl;
      }

  pub guards_want_a_value : GuardsWantAValue
  guards_want_a_value =
      record {
        no_value = by_computing known bindings_rows.divided (codes "S") refl [] 8 _ refl;
      }

  pub options_have_layout : OptionsHaveLayout
  options_have_layout =
      record {
        present = by_computing known layout_rows.optional (codes "S") refl (codes "a b c") 8 _ refl;
        absent = by_computing known layout_rows.optional (codes "S") refl (codes "ac") 8 _ refl;
      }

  pub calls_of_layout_are_no_tokens : CallsOfLayoutAreNoTokens
  calls_of_layout_are_no_tokens =
      record {
        either = by_computing known layout_rows.called (codes "S") refl (codes "a\n-b") 8 _ refl;
      }

  pub lexical_starts_have_layout : LexicalStartsHaveLayout
  lexical_starts_have_layout =
      record {
        both_sides = by_computing known layout_rows.lexical_start (codes "L") refl (codes " a ") 8 _ refl;
      }

  pub layout_may_start : LayoutMayStart
  layout_may_start =
      record {
        two = by_computing known layout_rows.layout_start (codes "W") refl (codes " ") 8 _ refl;
      }

  pub labels_bind_own_ends : LabelsBindOwnEnds
  labels_bind_own_ends =
      record {
        own_ends = by_computing known layout_rows.labelled (codes "S") refl (codes "a b ") 8 _ refl;
      }

  pub filters_are_asked_at_own_ends : FiltersAreAskedAtOwnEnds
  filters_are_asked_at_own_ends =
      record {
        token = by_computing known filters_rows.token_filtered (codes "S") refl (codes "a b") 12 _ refl;
        in_group = by_computing known filters_rows.group_filtered (codes "S") refl (codes "a b") 12 _ refl;
      }

  pub filters_look_back : FiltersLookBack
  filters_look_back =
      record {
        refused = by_computing known filters_rows.preceded (codes "S") refl (codes "ab") 12 _ refl;
        passed = by_computing known filters_rows.preceded (codes "S") refl (codes "cb") 12 _ refl;
      }

  pub negated_classes_exclude : NegatedClassesExclude
  negated_classes_exclude =
      record {
        other = by_computing known filters_rows.negated (codes "S") refl (codes "b") 12 _ refl;
        excluded = by_computing known filters_rows.negated (codes "S") refl (codes "a") 12 _ refl;
      }

  pub keywords_are_excluded : KeywordsAreExcluded
  keywords_are_excluded =
      record {
        longer = by_computing known keyword_rows.grammar (codes "S") refl (codes "iff") 8 _ refl;
        keyword = by_computing known keyword_rows.grammar (codes "S") refl (codes "if") 8 _ refl;
      }

  pub separators_are_free : SeparatorsAreFree
  separators_are_free =
      record {
        one_column = by_computing known columns_rows.separated (codes "P") refl (codes "a\n ,\nb") 12 _ refl;
        two_columns = by_computing known columns_rows.separated (codes "P") refl (codes "a,\n b") 12 _ refl;
        no_items = by_computing known columns_rows.separated (codes "P") refl [] 12 _ refl;
      }

  pub aligned_lists_have_filters : AlignedListsHaveFilters
  aligned_lists_have_filters =
      record {
        all_in_first = by_computing known columns_rows.two_lists (codes "S") refl (codes "a\na\n") 12 _ refl;
      }

  pub blocks_see_all_tokens : BlocksSeeAllTokens
  blocks_see_all_tokens =
      record {
        option = by_computing known columns_rows.with_option (codes "S") refl (codes " x\ny") 12 _ refl;
        list = by_computing known columns_rows.with_list (codes "S") refl (codes " x\na") 12 _ refl;
        list_right = by_computing known columns_rows.with_list (codes "S") refl (codes " x\n  a\n  a") 12 _ refl;
        separator = by_computing known columns_rows.with_separators (codes "S") refl (codes " a\n,\n  a") 12 _ refl;
        separator_right = by_computing known columns_rows.with_separators (codes "S") refl (codes " a\n  ,\n  a") 12 _ refl;
        ignored = by_computing known columns_rows.with_ignored (codes "S") refl (codes "a\nb") 12 _ refl;
        ignored_right = by_computing known columns_rows.with_ignored (codes "S") refl (codes "a\n b") 12 _ refl;
      }

  pub declarations_are_blocks : DeclarationsAreBlocks
  declarations_are_blocks =
      record {
        two_blocks = by_computing known blocks_rows.declarations (codes "P") refl (codes "a = b\n  c\nd = e\n") 13 _ refl;
        no_block = by_computing known blocks_rows.declarations (codes "P") refl (codes "a = b\nc\n") 13 _ refl;
      }

  pub nested_blocks_are_asked : NestedBlocksAreAsked
  nested_blocks_are_asked =
      record {
        empty = by_computing known blocks_rows.nested (codes "S") refl (codes "a\n") 10 _ refl;
        right = by_computing known blocks_rows.nested (codes "S") refl (codes "a\n !") 10 _ refl;
        left = by_computing known blocks_rows.nested (codes "S") refl (codes "a\n!") 10 _ refl;
      }

  pub greater_columns_count : GreaterColumnsCount
  greater_columns_count =
      record {
        right = by_computing known (blocks_rows.block blocks_rows.ignoring) (codes "S") refl (codes "    a\n b\n   c\n     d") 13 _ refl;
        below = by_computing known (blocks_rows.block blocks_rows.ignoring) (codes "S") refl (codes "    a\n b\n   c\n    d") 13 _ refl;
      }

  pub tokens_under_blocks_are_seen : TokensUnderBlocksAreSeen
  tokens_under_blocks_are_seen =
      record {
        own_lines = by_computing known (blocks_rows.block blocks_rows.token_block) (codes "S") refl (codes " a\n  b\n  c") 9 _ refl;
        one_line = by_computing known (blocks_rows.block blocks_rows.token_block) (codes "S") refl (codes " a b\n  c") 9 _ refl;
        second_left = by_computing known (blocks_rows.block blocks_rows.token_block) (codes "S") refl (codes " a\n b c") 9 _ refl;
        third_left = by_computing known (blocks_rows.block blocks_rows.token_block) (codes "S") refl (codes " a\n  b\n c") 9 _ refl;
      }

  pub sequences_stand_in_place : SequencesStandInPlace
  sequences_stand_in_place =
      record {
        binds = by_computing known passes_rows.in_place (codes "S") refl (codes "a b") 8 _ refl;
        ends = by_computing known passes_rows.labelled_sequence (codes "S") refl (codes "a b") 8 _ refl;
      }

  pub entries_bind_inside : EntriesBindInside
  entries_bind_inside =
      record {
        inside = by_computing known passes_rows.entered (codes "S") refl (codes "a") 8 _ refl;
        nothing = by_computing known passes_rows.entered (codes "S") refl [] 8 _ refl;
      }

  pub roots_are_read_by_their_kind : RootsAreReadByTheirKind
  roots_are_read_by_their_kind =
      record {
        plain_root = rooted Plain (untabbed (codes " a")) _ refl;
        no_layout_behind = rooted Plain (untabbed (codes " a ")) _ refl;
        syntax_root = rooted Syntax (untabbed (codes " a ")) _ refl;
      }

  pub shapes_give_tags : ShapesGiveTags
  shapes_give_tags =
      record {
        tags = formed (untabbed (codes "abccd,df")) _ refl;
        other_tags = formed (untabbed (codes "cdd,de")) _ refl;
      }

  pub tabs_go_on_to_stops : TabsGoOnToStops
  tabs_go_on_to_stops =
      record {
        first = by_computing known widths_rows.maybe_tab (codes "S") refl (codes "\ta") 8 _ refl;
        no_tab = by_computing known widths_rows.maybe_tab (codes "S") refl (codes "a") 8 _ refl;
        within = by_computing known (widths_rows.ends_in (pos 4) (codes "ab\tc") (pos 6)) (codes "S") refl (codes "ab\tc") 8 _ refl;
        at_stop = by_computing known (widths_rows.ends_in (pos 4) (codes "abcd\tc") (pos 10)) (codes "S") refl (codes "abcd\tc") 8 _ refl;
        second_line = by_computing known (widths_rows.ends_in (pos 8) (codes "a\n\tb") (pos 10)) (codes "S") refl (codes "a\n\tb") 8 _ refl;
        two = by_computing known (widths_rows.ends_in (pos 3) (codes "\t\t") (pos 7)) (codes "S") refl (codes "\t\t") 8 _ refl;
      }

  pub blocks_see_tabs : BlocksSeeTabs
  blocks_see_tabs =
      record {
        behind_tab = by_computing known widths_rows.tabbed_block (codes "S") refl (codes "\ta\n\t b") 12 _ refl;
        behind_blanks = by_computing known widths_rows.tabbed_block (codes "S") refl (codes "\ta\n     b") 14 _ refl;
        in_its_column = by_computing known widths_rows.tabbed_block (codes "S") refl (codes "\ta\n    b") 14 _ refl;
      }

  pub lists_see_tabs : ListsSeeTabs
  lists_see_tabs =
      record {
        one_column = by_computing known widths_rows.tabbed_declarations (codes "P") refl (codes "\ta = b\n    c = d") 16 _ refl;
        two_columns = by_computing known widths_rows.tabbed_declarations (codes "P") refl (codes "\ta = b\n   c = d") 16 _ refl;
      }
