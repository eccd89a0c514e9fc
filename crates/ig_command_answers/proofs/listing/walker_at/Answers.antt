use Rattle.std.proofs.Common.{List, Option, ℕ, Err, ap, sym, subst}
use Rattle.std.specs.Option.{option_copied}
use Rattle.ig_text.proofs.Options.{passed_on}
use Rattle.ig_forest.specs.Cursors.{IsShortCursor}
use Rattle.ig_command_answers.specs.Faults.{fault_of_cursor, fault_of_walk}
use Rattle.ig_command_answers.specs.Pages.{Starts}
use Rattle.ig_command_answers.proofs.listing.walker_at.Goals as goal
use Rattle.ig_command_answers.proofs.Starting.{starts_first, starts_behind, starts_unread, starts_unwalked}

pub returns-in_default : goal.returns-in_default
returns-in_default c =
    rw c.in_default.is (starts_first c.args.forest.now c.args.depth c.first.result c.first.ensures)

pub returns-in_err-cursor : goal.returns-in_err-cursor
returns-in_err-cursor c =
    let is = passed_on c.from_residual.result (fault_of_cursor c.in_err-cursor.field-0.0) c.from_residual.ensures.1 in
    subst (Starts c.args.forest.now c.args.depth (option_copied c.args.after)) (sym is)
    (subst (λ (z : Option (List ℕ)). Starts c.args.forest.now c.args.depth z (Err (fault_of_cursor c.in_err-cursor.field-0.0)))
    (sym (ap option_copied c.in-Some.is))
    (starts_unread c.args.forest.now c.args.depth c.in-Some.word.now c.requires.short c.in_err-cursor.field-0.0 c.in_err-cursor.ensures.refused))

pub returns-in_err-walker : goal.returns-in_err-walker
returns-in_err-walker c =
    let is = passed_on c.from_residual-in_err-walker.result (fault_of_walk c.in_err-walker.field-0.0) c.from_residual-in_err-walker.ensures.1 in
    subst (Starts c.args.forest.now c.args.depth (option_copied c.args.after)) (sym is)
    (subst (λ (z : Option (List ℕ)). Starts c.args.forest.now c.args.depth z (Err (fault_of_walk c.in_err-walker.field-0.0)))
    (sym (ap option_copied c.in-Some.is))
    (starts_unwalked c.args.forest.now c.args.depth c.in-Some.word.now c.requires.short c.in_err-walker.field-0.0
    c.cursor_texts_differ.ensures c.in_ok-cursor.cursor (subst IsShortCursor c.as_slice.ensures c.numbers_are_short.ensures)
    c.in_ok-cursor.ensures.read c.in_err-walker.ensures.refused))

pub returns : goal.returns
returns c =
    rw c.in-Some.is
    (starts_behind c.args.forest.now c.args.depth c.in-Some.word.now c.in_ok-cursor.cursor c.in_ok-walker.walker
    c.in_ok-cursor.ensures.read c.in_ok-walker.ensures.there c.in_ok-walker.ensures.behind)
