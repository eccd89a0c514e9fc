use Rattle.std.proofs.Common.{subst, sym, ◌++◌}
use Rattle.std.specs.Prelude.{◌≤◌, codes, length, IsUtf8}
use Rattle.std.specs.Fmt.{decimal}
use Rattle.ig_notation_syntax.specs.Notation.{most_bytes}
use Rattle.ig_command_sources.specs.Refusals.{not_utf8}
use Rattle.ig_command_sources.proofs.GrammarTexts.{refused_as, written_in, refused_syntax, refused_large, refused_scope}
use Rattle.ig_command_sources.proofs.grammar_text.read_grammar.Goals as goal

pub returns-in-Err : goal.returns-in-Err
returns-in-Err c =
    refused_as c.args.notation c.args.bytes.now (codes "not UTF-8 at byte " ++ decimal c.valid_up_to.result) c.refuse_at.result c.refuse_at.ensures
    (not_utf8 c.valid_up_to.result c.requires c.in-Err.ensures.cases.0 (rw c.valid_up_to.ensures c.in-Err.ensures.cases.1))

pub read_in-requires : goal.read_in-requires
read_in-requires c = subst (λ z. length z ≤ most_bytes) (sym c.in-Ok.ensures.cases.0) c.requires

pub check-requires : goal.check-requires
check-requires c =
    let same = c.in-Ok.ensures.cases.0 in
    (c.read_grammars_are_regular.ensures c.args.notation c.in-Ok.source.now c.in-Ok-read_in.grammar (subst IsUtf8 (sym same) c.in-Ok.ensures.cases.1) c.in-Ok-read_in.ensures.ok).0

pub returns-in-Err-Syntax : goal.returns-in-Err-Syntax
returns-in-Err-Syntax c =
    refused_syntax c.args.notation c.args.bytes.now c.in-Ok.source.now c.in-Ok.ensures.cases.0 c.in-Ok.ensures.cases.1 c.in-Err-Syntax.at
    c.refuse_at-in-Err-Syntax.result c.refuse_at-in-Err-Syntax.ensures (rw c.in-Err-Syntax.field-0-is at c.in-Err-Syntax.ensures.fault)

pub returns-in-Err-TooLarge : goal.returns-in-Err-TooLarge
returns-in-Err-TooLarge c =
    refused_large c.args.notation c.args.bytes.now c.in-Ok.source.now c.in-Ok.ensures.cases.0 c.in-Ok.ensures.cases.1 c.in-Err-TooLarge.which
    c.too_large.result c.too_large.ensures
    (rw c.in-Err-TooLarge.field-0-is at c.in-Err-TooLarge.ensures.fault)

pub returns-in-Err-Broken : goal.returns-in-Err-Broken
returns-in-Err-Broken c =
    refused_scope c.args.notation c.args.bytes.now c.in-Ok.source.now c.in-Ok.ensures.cases.0 c.in-Ok.ensures.cases.1 c.in-Ok-read_in.grammar
    c.in-Err-Broken.place c.in-Err-Broken.cause c.not_scoped.result c.not_scoped.ensures c.in-Ok-read_in.ensures.ok
    (rw c.in-Err-Broken.field-0-is at c.in-Err-Broken.ensures.broken)

pub returns-in-Ok-check : goal.returns-in-Ok-check
returns-in-Ok-check c =
    written_in c.args.notation c.args.bytes.now c.in-Ok.source.now c.in-Ok.ensures.cases.0 c.in-Ok.ensures.cases.1 c.in-Ok-read_in.grammar
    c.in-Ok-check.checked c.in-Ok-read_in.ensures.ok c.in-Ok-check.ensures.grammar c.in-Ok-check.ensures.shapes c.in-Ok-check.ensures.scoped
