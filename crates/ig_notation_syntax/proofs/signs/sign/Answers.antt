use Rattle.std.proofs.Common.{sym, subst, chars}
use Rattle.ig_notation_syntax.specs.Scanner.{Next}
use Rattle.ig_notation_syntax.specs.View.{token_of}
use Rattle.ig_notation_syntax.specs.Steps.{Gives}
use Rattle.ig_notation_syntax.proofs.Tables.{single_reads, exclamation_reads, equals_reads, greater_reads, less_reads}
use Rattle.ig_notation_syntax.proofs.signs.sign.Goals as goal

pub returns-in-Some : goal.returns-in-Some
returns-in-Some c = (
  c.utf8.after,
  single_reads c.args.c (token_of c.in-Some.token) (chars c.args.after.now) (rw c.in-Some.is at c.single.ensures),
)

pub returns-in-33 : goal.returns-in-33
returns-in-33 c =
    rw c.in-33.is
    (subst (λ (z : Next). Gives z c.exclamation.result) (sym (exclamation_reads (chars c.args.after.now))) c.exclamation.ensures)

pub returns-in-61 : goal.returns-in-61
returns-in-61 c =
    rw c.in-61.is
    (subst (λ (z : Next). Gives z c.with_equals.result) (sym (equals_reads (chars c.args.after.now))) c.with_equals.ensures)

pub returns-in-62 : goal.returns-in-62
returns-in-62 c =
    rw c.in-62.is
    (subst (λ (z : Next). Gives z c.with_equals-in-62.result) (sym (greater_reads (chars c.args.after.now))) c.with_equals-in-62.ensures)

pub returns-in-60 : goal.returns-in-60
returns-in-60 c =
    rw c.in-60.is
    (subst (λ (z : Next). Gives z c.with_equals-in-60.result) (sym (less_reads (chars c.args.after.now))) c.with_equals-in-60.ensures)
