-- What the code holds as a pair and as a setting.
use Rattle.std.specs.Prelude.{ℕ, List, Option, encode_utf8_all}
use Rattle.std.specs.BTreeMap.{BTreeMap, get_by}
use Rattle.std.specs.Cmp.Lexicographic.{slice_cmp}
use Rattle.std.specs.Ordering.{nat_cmp}
use denote.Ref.{Bor}
use Rattle.ig_expr.specs.View.{expression_of}
use Rattle.ig_expr.specs.Expression.{Expression}
use Rattle.ig_grammar.specs.Binding.{Binding}
use Rattle.ig_grammar.specs.declared.declaration.DeclKind.{DeclKind}
use Rattle.ig_blocks_parts.specs.Setting as setting
use Rattle.ig_blocks_parts.specs.Setting.{Setting}
use Rattle.ig_blocks_parts.specs.Blocks.{paired_by}
use Rattle.ig_blocks_parts.specs.declared.guide.Guide.{Guide}
use Rattle.ig_blocks_parts.specs.declared.pairs.Pair.{Pair}
use Rattle.ig_blocks_parts.specs.declared.pairs.Pair.TheVariants.{Lacking, Carried, Opened, Cleared}

abbrev pub pair_of : Pair → setting.Pair
pair_of Lacking = setting.lacking
pair_of Carried = setting.carried
pair_of (Opened column start) = setting.opened (expression_of column) (expression_of start)
pair_of Cleared = setting.cleared

-- the kind that the table has at a name
abbrev pub kind_by : BTreeMap (Bor (List ℕ)) DeclKind → List ℕ → Option DeclKind
kind_by kinds name = get_by (λ k. slice_cmp nat_cmp (encode_utf8_all name) k.now) kinds

abbrev pub setting_by : Guide → Setting
setting_by guide =
    record {
      m = guide.margin;
      f = guide.first;
      c = guide.column;
      kind_of = kind_by guide.kinds;
      paired = paired_by guide.marked;
    }

abbrev pub bound_to : List ℕ → Expression → Binding
bound_to name value = record { name = name; value = value }
