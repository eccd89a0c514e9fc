use Rattle.ig_item.proofs.PartLists.{part_within, values_got}
use Rattle.ig_item.proofs.environment_table.EnvironmentTable.get.Goals as goal

pub values_of-requires : goal.values_of-requires
values_of-requires c =
    part_within c.self.inside.values.items _ c.self.inside.parts.items _ c.args.k c.in_ok-part.part c.self.invariant
    c.as_slice-2.ensures.value c.as_slice.ensures.value c.in_ok-part.ensures

pub returns : goal.returns
returns c =
    values_got c.self.inside.values.items _ _ c.self.inside.parts.items _ c.args.k c.in_ok-part.part _
    c.as_slice-2.ensures.value c.as_slice.ensures.value c.in_ok-part.ensures c.values_of.ensures c.self.view_is
