use Rattle.std.proofs.Common.{◌∙◌, None, map, ap, sym, subst}
use Rattle.std.specs.Prelude.{string_bytes}
use Rattle.ig_command.specs.Rows.{Answers, row_of}
use Rattle.ig_command.specs.Words.{parts_of}
use Rattle.ig_command.proofs.Requests.{matched, not_matched, not_standing, orders, reads}
use Rattle.ig_command.proofs.command.command_of.Goals as goal

pub returns-in-None-clause-reads : goal.returns-in-None-clause-reads
returns-in-None-clause-reads c =
    reads (map string_bytes c.args.words.now) (string_bytes c.in-Some.name.now) (map string_bytes c.in-Some.others.now) None
    (ap (map string_bytes) c.in-Some.ensures.cases.0)
    (sym (not_matched (string_bytes c.in-Some.name.now) (map string_bytes c.in-Some.others.now) c.in-Some-row_named.row
    (ap row_of (sym c.as_str.ensures.value) ∙ sym c.in-Some-row_named.ensures)
    (subst (Answers c.in-Some-row_named.row (parts_of (map string_bytes c.in-Some.others.now))) c.in-None.is c.in_ok-matches.ensures)))

pub returns-then-not-all_may_stand-clause-reads : goal.returns-then-not-all_may_stand-clause-reads
returns-then-not-all_may_stand-clause-reads c =
    reads (map string_bytes c.args.words.now) (string_bytes c.in-Some.name.now) (map string_bytes c.in-Some.others.now) None
    (ap (map string_bytes) c.in-Some.ensures.cases.0)
    (sym (not_standing (string_bytes c.in-Some.name.now) (map string_bytes c.in-Some.others.now) c.in-Some-row_named.row
    (ap row_of (sym c.as_str.ensures.value) ∙ sym c.in-Some-row_named.ensures)
    (sym c.all_may_stand.ensures ∙ c.if-not-all_may_stand.true)))

pub returns-in-Some-2-clause-reads : goal.returns-in-Some-2-clause-reads
returns-in-Some-2-clause-reads c =
    reads (map string_bytes c.args.words.now) (string_bytes c.in-Some.name.now) (map string_bytes c.in-Some.others.now) c.command_in.result
    (ap (map string_bytes) c.in-Some.ensures.cases.0)
    (c.command_in.ensures.request ∙
    matched (string_bytes c.in-Some.name.now) (map string_bytes c.in-Some.others.now) c.in-Some-row_named.row c.in-Some-2.matches
    (ap row_of (sym c.as_str.ensures.value) ∙ sym c.in-Some-row_named.ensures)
    (subst (Answers c.in-Some-row_named.row (parts_of (map string_bytes c.in-Some.others.now))) c.in-Some-2.is c.in_ok-matches.ensures))

pub returns-in-Some-2-clause-order : goal.returns-in-Some-2-clause-order
returns-in-Some-2-clause-order c =
    orders (map string_bytes c.args.words.now) (string_bytes c.in-Some.name.now) (map string_bytes c.in-Some.others.now)
    c.in-Some-row_named.row c.in-Some-2.matches c.command_in.result (ap (map string_bytes) c.in-Some.ensures.cases.0)
    (subst (Answers c.in-Some-row_named.row (parts_of (map string_bytes c.in-Some.others.now))) c.in-Some-2.is c.in_ok-matches.ensures)
    c.command_in.ensures.order
