use Rattle.std.proofs.Common.{◌<◌, length, subst, sym}
use Rattle.std.specs.Prelude.{IsTrue, ◌↔◌}
use Rattle.ig_text.proofs.Emptiness.{is_nothing}
use Rattle.ig_text.proofs.Booleans.{refuted}
use Rattle.ig_grammar.specs.Condition.{levels}
use Rattle.ig_scope.specs.Heads.{HaveAssociativity}
use Rattle.ig_scope.proofs.HeadCauses.{plain_told, not_plain_second, not_plain_last}
use Rattle.ig_scope.proofs.heads.is_not_plain.Goals as goal

pub returns-then-head : goal.returns-then-head
returns-then-head c = not_plain_second c.args.head.now c.if-head.true

pub returns-then-are_many : goal.returns-then-are_many
returns-then-are_many c =
    plain_told c.args.head.now (levels (subst (λ z. 1 < length z) c.as_slice-levels.ensures (c.are_many.ensures.0 c.if-are_many.true)))

pub returns : goal.returns
returns c =
    not_plain_last c.args.head.now c.have_associativity.result
    (subst (λ z. IsTrue c.have_associativity.result ↔ HaveAssociativity z) c.as_slice-levels.ensures c.have_associativity.ensures) c.if-head.false
    (is_nothing c.as_slice.result.now c.args.head.now.decl.now.params c.is_empty.result c.is_empty.ensures c.if-not-is_empty.false c.as_slice.ensures)
    (λ l. refuted c.are_many.result c.are_many.ensures c.if-are_many.false (subst (λ z. 1 < length z) (sym c.as_slice-levels.ensures) l))
