use Rattle.std.proofs.Common.{sym, ap, subst, Some}
use Rattle.ig_text.proofs.Booleans.{refuted}
use Rattle.ig_grammar.specs.View.{symbol_of}
use Rattle.ig_grammar.specs.Condition.{SymbolMeets, IsListed}
use Rattle.ig_scope.specs.Causes.{Tells}
use Rattle.ig_scope.specs.declared.cause.ScopeCause.TheVariants.{AlignNotList}
use Rattle.ig_scope.proofs.SymbolCauses.{tells_offside, tells_ignore, tells_align, align_unlisted}
use Rattle.ig_scope.proofs.symbols.symbol_cause.Goals as goal

pub returns-in-Label : goal.returns-in-Label
returns-in-Label c =
    subst (λ z. Tells (SymbolMeets c.args.declarations.now c.args.within c.args.variables.now z) c.label_cause.result) (sym (ap symbol_of c.in-Label.is))
    (c.label_cause.ensures c.in-Label.field-1 c.args.declarations.now c.args.within)

pub returns-in-Guard : goal.returns-in-Guard
returns-in-Guard c =
    subst (λ z. Tells (SymbolMeets c.args.declarations.now c.args.within c.args.variables.now z) c.guard_cause.result) (sym (ap symbol_of c.in-Guard.is))
    (c.guard_cause.ensures c.args.declarations.now c.args.within)

pub returns-in-Let : goal.returns-in-Let
returns-in-Let c =
    subst (λ z. Tells (SymbolMeets c.args.declarations.now c.args.within c.args.variables.now z) c.let_cause.result) (sym (ap symbol_of c.in-Let.is))
    (c.let_cause.ensures c.args.declarations.now c.args.within)

pub returns-in-Offside : goal.returns-in-Offside
returns-in-Offside c =
    subst (λ z. Tells (SymbolMeets c.args.declarations.now c.args.within c.args.variables.now z) c.mark_cause.result) (sym (ap symbol_of c.in-Offside.is))
    (tells_offside c.args.declarations.now c.args.within c.args.variables.now c.in-Offside.field-0 c.mark_cause.result c.mark_cause.ensures)

pub returns-in-Ignore : goal.returns-in-Ignore
returns-in-Ignore c =
    subst (λ z. Tells (SymbolMeets c.args.declarations.now c.args.within c.args.variables.now z) c.mark_cause-in-Ignore.result) (sym (ap symbol_of c.in-Ignore.is))
    (tells_ignore c.args.declarations.now c.args.within c.args.variables.now c.in-Ignore.field-0 c.mark_cause-in-Ignore.result c.mark_cause-in-Ignore.ensures)

pub returns-then-is_listed : goal.returns-then-is_listed
returns-then-is_listed c =
    subst (λ z. Tells (SymbolMeets c.args.declarations.now c.args.within c.args.variables.now z) c.mark_cause-then-is_listed.result) (sym (ap symbol_of c.in-Align.is))
    (tells_align c.args.declarations.now c.args.within c.args.variables.now c.in-Align.inner c.mark_cause-then-is_listed.result (subst IsListed c.as_symbol.ensures (c.is_listed.ensures.0 c.if-is_listed.true)) c.mark_cause-then-is_listed.ensures)

pub returns-else-is_listed : goal.returns-else-is_listed
returns-else-is_listed c =
    subst (λ z. Tells (SymbolMeets c.args.declarations.now c.args.within c.args.variables.now z) (Some AlignNotList)) (sym (ap symbol_of c.in-Align.is))
    (align_unlisted c.args.declarations.now c.args.within c.args.variables.now c.in-Align.inner (λ h. refuted c.is_listed.result c.is_listed.ensures c.if-is_listed.false (subst IsListed (sym c.as_symbol.ensures) h)))

pub returns-in-Entry : goal.returns-in-Entry
returns-in-Entry c =
    subst (λ z. Tells (SymbolMeets c.args.declarations.now c.args.within c.args.variables.now z) c.entry_cause.result) (sym (ap symbol_of c.in-Entry.is))
    (c.entry_cause.ensures c.in-Entry.field-1 c.args.declarations.now c.args.within)
