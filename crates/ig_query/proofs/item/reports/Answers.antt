use Rattle.std.proofs.Common.{⊎_elim, inr, refl, sym, ◌∙◌}
use Rattle.ig_item.specs.Tables.{item_of}
use Rattle.ig_query.proofs.LookedUp.{reports_some, never_expects}
use Rattle.ig_query.proofs.item.reports.Goals as goal

pub returns-then-is_some : goal.returns-then-is_some
returns-then-is_some c = (
  λ t.
      reports_some c.behind_is_looked_up.ensures c.args.core.now (item_of c.args.items.now c.args.item.now) c.dot_of.result c.dot_of.ensures
      c.pattern_at.result c.pattern_at.ensures (sym c.is_some.ensures ∙ c.if-is_some.true),
  λ r. refl,
)

pub returns : goal.returns
returns c = (
  λ t. inr (c.is_complete_root.ensures.0 t),
  λ r.
      ⊎_elim
      (λ e.
      absurd
      (never_expects c.behind_is_looked_up.ensures c.args.core.now (item_of c.args.items.now c.args.item.now) c.dot_of.result c.dot_of.ensures
      c.pattern_at.result c.pattern_at.ensures (sym c.is_some.ensures ∙ c.if-is_some.false) e.0 e.1))
      (λ h. c.is_complete_root.ensures.1 h) r,
)
