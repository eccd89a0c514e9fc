use Rattle.std.proofs.Common.{arith}
use Rattle.ig_grammar.specs.View.{symbol_of}
use Rattle.ig_grammar.specs.CodingMembers.{node_below, choice_below}
use Rattle.ig_ebnf.proofs.CodeOfGrowth.{on_ok_then, option_adds, star_adds, plus_adds, sep_star_adds, group_adds}
use Rattle.ig_ebnf.proofs.growing.+growing.Goals as goal

pub add_each-add-requires : goal.add_each-add-requires
add_each-add-requires t c =
    let n = node_below c.as_slice-symbol-items.result.now c.args.symbols.now c.loop-symbol.symbol-index
    c.symbol-item.result c.as_slice-symbol-items.ensures c.loop-symbol-test.true c.symbol-item.is in
    omega arith

pub add_alternatives-add_each-requires : goal.add_alternatives-add_each-requires
add_alternatives-add_each-requires t c =
    let n = choice_below c.as_slice-alternative-items.result.now c.args.alternatives.now
    c.loop-alternative.alternative-index c.alternative-item.result c.as_slice-alternative-items.ensures
    c.loop-alternative-test.true c.alternative-item.is in
    omega arith

pub add-returns-in_ok-successor-in-Opt : goal.add-returns-in_ok-successor-in-Opt
add-returns-in_ok-successor-in-Opt t c =
    on_ok_then c.add-in-Opt.result c.args.all.now c.push_option.new.all c.add-in-Opt.new.all _ _ _
    c.in_ok-push_option-in-Opt.ensures c.add-in-Opt.ensures
    (option_adds c.args.of.now c.args.variables.now c.args.k c.args.symbol.now c.in_ok-successor-in-Opt.field-0
    c.in-Opt.inner (symbol_of c.as_symbol-in-Opt.result.now) c.in-Opt.is
    c.in_ok-successor-in-Opt.ensures.number c.as_symbol-in-Opt.ensures)

pub add-returns-in_ok-successor-in-Star : goal.add-returns-in_ok-successor-in-Star
add-returns-in_ok-successor-in-Star t c =
    on_ok_then c.add-in-Star.result c.args.all.now c.push_star.new.all c.add-in-Star.new.all _ _ _
    c.in_ok-push_star-in-Star.ensures c.add-in-Star.ensures
    (star_adds c.args.of.now c.args.variables.now c.args.k c.args.symbol.now c.in_ok-successor-in-Star.field-0
    c.in-Star.inner (symbol_of c.as_symbol-in-Star.result.now) c.in-Star.is
    c.in_ok-successor-in-Star.ensures.number c.as_symbol-in-Star.ensures)

pub add-returns-in_ok-successor-in-Plus : goal.add-returns-in_ok-successor-in-Plus
add-returns-in_ok-successor-in-Plus t c =
    on_ok_then c.add-in-Plus.result c.args.all.now c.push_plus.new.all c.add-in-Plus.new.all _ _ _
    c.in_ok-push_plus-in-Plus.ensures c.add-in-Plus.ensures
    (plus_adds c.args.of.now c.args.variables.now c.args.k c.args.symbol.now c.in_ok-successor-in-Plus.field-0
    c.in-Plus.inner (symbol_of c.as_symbol-in-Plus.result.now) c.in-Plus.is
    c.in_ok-successor-in-Plus.ensures.number c.as_symbol-in-Plus.ensures)

pub add-returns-in_ok-successor-in-SepStar : goal.add-returns-in_ok-successor-in-SepStar
add-returns-in_ok-successor-in-SepStar t c =
    on_ok_then c.add_separated.result c.args.all.now c.push_sep_star.new.all c.add_separated.new.all _ _ _
    c.in_ok-push_sep_star-in-SepStar.ensures c.add_separated.ensures
    (sep_star_adds c.args.of.now c.args.variables.now c.args.k c.args.symbol.now c.in_ok-successor-in-SepStar.field-0
    c.in-SepStar.item c.in-SepStar.separator c.in-SepStar.is
    c.in_ok-successor-in-SepStar.ensures.number)

pub add-returns-in_ok-successor-in-Group : goal.add-returns-in_ok-successor-in-Group
add-returns-in_ok-successor-in-Group t c =
    on_ok_then c.add_alternatives.result c.args.all.now c.push_group.new.all c.add_alternatives.new.all _ _ _
    c.in_ok-push_group-in-Group.ensures c.add_alternatives.ensures
    (group_adds c.args.of.now c.args.variables.now c.args.k c.args.symbol.now c.in_ok-successor-in-Group.field-0
    c.in-Group.choices (c.groups_are_gathered.ensures _) c.in-Group.is c.in_ok-successor-in-Group.ensures.number)
