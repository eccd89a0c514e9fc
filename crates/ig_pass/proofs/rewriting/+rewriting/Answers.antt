use Rattle.std.proofs.Common.{◌∙◌, refl, sym, ap, ap₂, arith}
use Rattle.ig_grammar.specs.Symbol as tree
use Rattle.ig_grammar.specs.View.{symbol_of}
use Rattle.ig_pass.specs.Rewriting.{within}
use Rattle.ig_grammar.specs.CodingMembers.{choice_below, node_below}
use Rattle.ig_pass.proofs.Gathering.{copied, formed, sequence_within, group_within}
use Rattle.ig_pass.proofs.rewriting.+rewriting.Goals as goal

pub rewritten_alternatives-rewritten_sequence-requires : goal.rewritten_alternatives-rewritten_sequence-requires
rewritten_alternatives-rewritten_sequence-requires g t c κs rest =
    let n = choice_below c.as_slice-choice-items.result.now c.args.choices.now c.loop-choice.choice-index
    c.choice-item.result c.as_slice-choice-items.ensures c.loop-choice-test.true c.choice-item.is in
    (omega arith, rest)

pub rewritten_sequence-rewrite_symbol-requires : goal.rewritten_sequence-rewrite_symbol-requires
rewritten_sequence-rewrite_symbol-requires g t c κs rest =
    let n = node_below c.as_slice-symbol-items.result.now c.args.symbols.now c.loop-symbol.symbol-index c.symbol-item.result c.as_slice-symbol-items.ensures c.loop-symbol-test.true c.symbol-item.is in
    (omega arith, rest)

pub symbol_within-returns-in_ok-rewritten_alternatives-in-Group : goal.symbol_within-returns-in_ok-rewritten_alternatives-in-Group
symbol_within-returns-in_ok-rewritten_alternatives-in-Group g t c =
    group_within _ _ _ _ c.in-Group.is c.in_ok-rewritten_alternatives-in-Group.ensures

pub symbol_within-returns-in_ok-rewritten_sequence-in-Seq : goal.symbol_within-returns-in_ok-rewritten_sequence-in-Seq
symbol_within-returns-in_ok-rewritten_sequence-in-Seq g t c =
    sequence_within _ _ _ _ c.in-Seq.is c.in_ok-rewritten_sequence-in-Seq.ensures

pub symbol_within-returns-in-Literal : goal.symbol_within-returns-in-Literal
symbol_within-returns-in-Literal g t c =
    copied (g.O.OwnRule.rule c.args.own.now c.args.decl.now) c.copy.result c.args.symbol.now _ c.in-Literal.is c.copy.ensures refl

pub symbol_within-returns-in-Class : goal.symbol_within-returns-in-Class
symbol_within-returns-in-Class g t c =
    copied (g.O.OwnRule.rule c.args.own.now c.args.decl.now) c.copy-in-Class.result c.args.symbol.now _ c.in-Class.is c.copy-in-Class.ensures refl

pub symbol_within-returns-in-Call : goal.symbol_within-returns-in-Call
symbol_within-returns-in-Call g t c =
    copied (g.O.OwnRule.rule c.args.own.now c.args.decl.now) c.copy-in-Call.result c.args.symbol.now _ c.in-Call.is c.copy-in-Call.ensures refl

pub symbol_within-returns-in-Guard : goal.symbol_within-returns-in-Guard
symbol_within-returns-in-Guard g t c =
    copied (g.O.OwnRule.rule c.args.own.now c.args.decl.now) c.copy-in-Guard.result c.args.symbol.now _ c.in-Guard.is c.copy-in-Guard.ensures refl

pub symbol_within-returns-in-Let : goal.symbol_within-returns-in-Let
symbol_within-returns-in-Let g t c =
    copied (g.O.OwnRule.rule c.args.own.now c.args.decl.now) c.copy-in-Let.result c.args.symbol.now _ c.in-Let.is c.copy-in-Let.ensures refl

pub symbol_within-returns-in_ok-inner_within-in-Label : goal.symbol_within-returns-in_ok-inner_within-in-Label
symbol_within-returns-in_ok-inner_within-in-Label g t c =
    formed (g.O.OwnRule.rule c.args.own.now c.args.decl.now) c.labelled.result c.args.symbol.now _ _ c.in-Label.is c.labelled.ensures (ap (tree.Label c.in-Label.name) c.in_ok-inner_within-in-Label.ensures)

pub symbol_within-returns-in_ok-rewritten_inner-in-Opt : goal.symbol_within-returns-in_ok-rewritten_inner-in-Opt
symbol_within-returns-in_ok-rewritten_inner-in-Opt g t c =
    ap tree.Opt c.in_ok-rewritten_inner-in-Opt.ensures ∙ sym (ap (λ z. within (g.O.OwnRule.rule c.args.own.now c.args.decl.now) (symbol_of z)) c.in-Opt.is)

pub symbol_within-returns-in_ok-rewritten_inner-in-Star : goal.symbol_within-returns-in_ok-rewritten_inner-in-Star
symbol_within-returns-in_ok-rewritten_inner-in-Star g t c =
    ap tree.Star c.in_ok-rewritten_inner-in-Star.ensures ∙ sym (ap (λ z. within (g.O.OwnRule.rule c.args.own.now c.args.decl.now) (symbol_of z)) c.in-Star.is)

pub symbol_within-returns-in_ok-rewritten_inner-in-Plus : goal.symbol_within-returns-in_ok-rewritten_inner-in-Plus
symbol_within-returns-in_ok-rewritten_inner-in-Plus g t c =
    ap tree.Plus c.in_ok-rewritten_inner-in-Plus.ensures ∙ sym (ap (λ z. within (g.O.OwnRule.rule c.args.own.now c.args.decl.now) (symbol_of z)) c.in-Plus.is)

pub symbol_within-returns-in-Ok : goal.symbol_within-returns-in-Ok
symbol_within-returns-in-Ok g t c =
    c.separated.ensures ∙ ap₂ tree.SepStar c.in_ok-inner-in-SepStar.ensures c.in-Ok.ensures ∙ sym (ap (λ z. within (g.O.OwnRule.rule c.args.own.now c.args.decl.now) (symbol_of z)) c.in-SepStar.is)

pub symbol_within-returns-in-Ok-rewritten_inner : goal.symbol_within-returns-in-Ok-rewritten_inner
symbol_within-returns-in-Ok-rewritten_inner g t c =
    ap₂ tree.SepPlus c.in_ok-inner-in-SepPlus.ensures c.in-Ok-rewritten_inner.ensures ∙ sym (ap (λ z. within (g.O.OwnRule.rule c.args.own.now c.args.decl.now) (symbol_of z)) c.in-SepPlus.is)

pub symbol_within-returns-in_ok-inner_within-in-Offside : goal.symbol_within-returns-in_ok-inner_within-in-Offside
symbol_within-returns-in_ok-inner_within-in-Offside g t c =
    ap tree.Offside c.in_ok-inner_within-in-Offside.ensures ∙ sym (ap (λ z. within (g.O.OwnRule.rule c.args.own.now c.args.decl.now) (symbol_of z)) c.in-Offside.is)

pub symbol_within-returns-in_ok-inner_within-in-Ignore : goal.symbol_within-returns-in_ok-inner_within-in-Ignore
symbol_within-returns-in_ok-inner_within-in-Ignore g t c =
    ap tree.Ignore c.in_ok-inner_within-in-Ignore.ensures ∙ sym (ap (λ z. within (g.O.OwnRule.rule c.args.own.now c.args.decl.now) (symbol_of z)) c.in-Ignore.is)

pub symbol_within-returns-in_ok-inner_within-in-Align : goal.symbol_within-returns-in_ok-inner_within-in-Align
symbol_within-returns-in_ok-inner_within-in-Align g t c =
    ap tree.Align c.in_ok-inner_within-in-Align.ensures ∙ sym (ap (λ z. within (g.O.OwnRule.rule c.args.own.now c.args.decl.now) (symbol_of z)) c.in-Align.is)

pub symbol_within-returns-in_ok-inner_within-in-Filtered : goal.symbol_within-returns-in_ok-inner_within-in-Filtered
symbol_within-returns-in_ok-inner_within-in-Filtered g t c =
    formed (g.O.OwnRule.rule c.args.own.now c.args.decl.now) c.filtered.result c.args.symbol.now _ _ c.in-Filtered.is c.filtered.ensures (ap (λ z. tree.Filtered z c.in-Filtered.filters) c.in_ok-inner_within-in-Filtered.ensures)

pub symbol_within-returns-in_ok-inner_within-in-Entry : goal.symbol_within-returns-in_ok-inner_within-in-Entry
symbol_within-returns-in_ok-inner_within-in-Entry g t c =
    formed (g.O.OwnRule.rule c.args.own.now c.args.decl.now) c.entered.result c.args.symbol.now _ _ c.in-Entry.is c.entered.ensures (ap (tree.Entry c.in-Entry.bindings) c.in_ok-inner_within-in-Entry.ensures)
