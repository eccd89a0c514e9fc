use Rattle.std.proofs.Common.{◌++◌, ◌∷◌, ◌∙◌, [], List, slice_get, ap, sym, subst}
use Rattle.ig_expr.specs.declared.value.Value.{Value}
use Rattle.ig_forest_reader.specs.Shown.{Keeps}
use Rattle.ig_forest_reader.proofs.Growing.{added_at, keeps_more}
use Rattle.ig_forest_reader.proofs.tables.push_list.Goals as goal

pub returns : goal.returns
returns c =
    record {
      there =
          ap (λ (z : List (List Value)). slice_get z c.in_ok-next.next) c.in_ok-push.ensures.ok ∙
          ap (slice_get (c.args.lists.now ++ c.args.values.now ∷ [])) (c.in_ok-next.ensures.number ∙ c.len.ensures) ∙
          added_at c.args.lists.now c.args.values.now;
      keeps = subst (Keeps c.args.lists.now) (sym c.in_ok-push.ensures.ok) (keeps_more c.args.lists.now (c.args.values.now ∷ []));
    }
