use Rattle.std.proofs.Common.{refl}
use Rattle.ig_lexical.specs.Layout.{LayoutOf}
use Rattle.ig_core.proofs.InTurn.{at_levels, at_blocks, at_filters, lowered_by, numbered_by}
use Rattle.ig_core.proofs.lowering.lower.Goals as goal

pub lower_blocks-made-requires-clause-free : goal.lower_blocks-made-requires-clause-free
lower_blocks-made-requires-clause-free c =
    (at_levels c.args.checked.now (c.passes_in_turn.ensures c.args.checked.now c.requires)
    c.in_ok-level.level c.in_ok-level.ensures).free

pub lower_blocks-made-requires-clause-margin : goal.lower_blocks-made-requires-clause-margin
lower_blocks-made-requires-clause-margin c =
    (at_levels c.args.checked.now (c.passes_in_turn.ensures c.args.checked.now c.requires)
    c.in_ok-level.level c.in_ok-level.ensures).margin

pub lower_blocks-made-requires-clause-first : goal.lower_blocks-made-requires-clause-first
lower_blocks-made-requires-clause-first c =
    (at_levels c.args.checked.now (c.passes_in_turn.ensures c.args.checked.now c.requires)
    c.in_ok-level.level c.in_ok-level.ensures).first

pub lower_blocks-made-requires-clause-column : goal.lower_blocks-made-requires-clause-column
lower_blocks-made-requires-clause-column c =
    (at_levels c.args.checked.now (c.passes_in_turn.ensures c.args.checked.now c.requires)
    c.in_ok-level.level c.in_ok-level.ensures).column

pub lower_blocks-made-requires-clause-plain : goal.lower_blocks-made-requires-clause-plain
lower_blocks-made-requires-clause-plain c =
    (at_levels c.args.checked.now (c.passes_in_turn.ensures c.args.checked.now c.requires)
    c.in_ok-level.level c.in_ok-level.ensures).plain

pub open_layout-made-requires-clause-sound : goal.open_layout-made-requires-clause-sound
open_layout-made-requires-clause-sound c =
    (at_blocks c.args.checked.now (c.passes_in_turn.ensures c.args.checked.now c.requires)
    c.in_ok-level.level c.in_ok-unblocked.unblocked c.in_ok-level.ensures c.in_ok-unblocked.ensures).sound

pub open_layout-made-requires-clause-free : goal.open_layout-made-requires-clause-free
open_layout-made-requires-clause-free c =
    (at_blocks c.args.checked.now (c.passes_in_turn.ensures c.args.checked.now c.requires)
    c.in_ok-level.level c.in_ok-unblocked.unblocked c.in_ok-level.ensures c.in_ok-unblocked.ensures).free

pub open_layout-made-requires-clause-unmarked : goal.open_layout-made-requires-clause-unmarked
open_layout-made-requires-clause-unmarked c =
    (at_blocks c.args.checked.now (c.passes_in_turn.ensures c.args.checked.now c.requires)
    c.in_ok-level.level c.in_ok-unblocked.unblocked c.in_ok-level.ensures c.in_ok-unblocked.ensures).unmarked

pub lower_ebnf-made-requires-clause-sound : goal.lower_ebnf-made-requires-clause-sound
lower_ebnf-made-requires-clause-sound c =
    (at_filters c.args.checked.now (c.passes_in_turn.ensures c.args.checked.now c.requires)
    c.in_ok-level.level c.in_ok-unblocked.unblocked (LayoutOf c.in_ok-unblocked.unblocked) c.in_ok-guarded.guarded
    c.in_ok-level.ensures c.in_ok-unblocked.ensures refl c.in_ok-guarded.ensures).sound

pub lower_ebnf-made-requires-clause-free : goal.lower_ebnf-made-requires-clause-free
lower_ebnf-made-requires-clause-free c =
    (at_filters c.args.checked.now (c.passes_in_turn.ensures c.args.checked.now c.requires)
    c.in_ok-level.level c.in_ok-unblocked.unblocked (LayoutOf c.in_ok-unblocked.unblocked) c.in_ok-guarded.guarded
    c.in_ok-level.ensures c.in_ok-unblocked.ensures refl c.in_ok-guarded.ensures).free

pub lower_ebnf-made-requires-clause-unmarked : goal.lower_ebnf-made-requires-clause-unmarked
lower_ebnf-made-requires-clause-unmarked c =
    (at_filters c.args.checked.now (c.passes_in_turn.ensures c.args.checked.now c.requires)
    c.in_ok-level.level c.in_ok-unblocked.unblocked (LayoutOf c.in_ok-unblocked.unblocked) c.in_ok-guarded.guarded
    c.in_ok-level.ensures c.in_ok-unblocked.ensures refl c.in_ok-guarded.ensures).unmarked

pub lower_ebnf-made-requires-clause-no_layout : goal.lower_ebnf-made-requires-clause-no_layout
lower_ebnf-made-requires-clause-no_layout c =
    (at_filters c.args.checked.now (c.passes_in_turn.ensures c.args.checked.now c.requires)
    c.in_ok-level.level c.in_ok-unblocked.unblocked (LayoutOf c.in_ok-unblocked.unblocked) c.in_ok-guarded.guarded
    c.in_ok-level.ensures c.in_ok-unblocked.ensures refl c.in_ok-guarded.ensures).no_layout

pub lower_ebnf-made-requires-clause-excluding : goal.lower_ebnf-made-requires-clause-excluding
lower_ebnf-made-requires-clause-excluding c =
    (at_filters c.args.checked.now (c.passes_in_turn.ensures c.args.checked.now c.requires)
    c.in_ok-level.level c.in_ok-unblocked.unblocked (LayoutOf c.in_ok-unblocked.unblocked) c.in_ok-guarded.guarded
    c.in_ok-level.ensures c.in_ok-unblocked.ensures refl c.in_ok-guarded.ensures).excluding

pub returns-clause-lowered : goal.returns-clause-lowered
returns-clause-lowered c =
    lowered_by c.args.checked.now c.in_ok-guarded.guarded
    (at_filters c.args.checked.now (c.passes_in_turn.ensures c.args.checked.now c.requires)
    c.in_ok-level.level c.in_ok-unblocked.unblocked (LayoutOf c.in_ok-unblocked.unblocked) c.in_ok-guarded.guarded
    c.in_ok-level.ensures c.in_ok-unblocked.ensures refl c.in_ok-guarded.ensures).is
    (λ x. x) c.lower_ebnf-made.result c.lower_ebnf-made.ensures.lists

pub returns-clause-numbered : goal.returns-clause-numbered
returns-clause-numbered c =
    numbered_by c.args.checked.now c.in_ok-guarded.guarded
    (at_filters c.args.checked.now (c.passes_in_turn.ensures c.args.checked.now c.requires)
    c.in_ok-level.level c.in_ok-unblocked.unblocked (LayoutOf c.in_ok-unblocked.unblocked) c.in_ok-guarded.guarded
    c.in_ok-level.ensures c.in_ok-unblocked.ensures refl c.in_ok-guarded.ensures).is
    c.lower_ebnf-made.result c.lower_ebnf-made.ensures.few
