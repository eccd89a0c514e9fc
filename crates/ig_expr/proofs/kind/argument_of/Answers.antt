use Rattle.std.proofs.Common.{inl, inr, sym, ap}
use Rattle.ig_expr.specs.Kinds.{argument_of}
use Rattle.ig_expr.proofs.kind.argument_of.Goals as goal

pub returns-in-Begin : goal.returns-in-Begin
returns-in-Begin c =
    elim c.in-Begin.is [
      | inl e ↦ sym (ap argument_of e)
      | inr r ↦
          elim r [
            | inl e ↦ sym (ap argument_of e)
            | inr s ↦ elim s [ inl e ↦ sym (ap argument_of e) | inr e ↦ sym (ap argument_of e) ]
          ]
    ]

pub returns-in-Column : goal.returns-in-Column
returns-in-Column c = elim c.in-Column.is [ inl e ↦ sym (ap argument_of e) | inr e ↦ sym (ap argument_of e) ]
