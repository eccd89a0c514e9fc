use Rattle.std.proofs.Common.{◌∷◌, ◌++◌, [], refl, ◌∙◌, ap}
use Rattle.ig_analyse.specs.declared.making.Work.{Work}
use Rattle.ig_analyse.proofs.Counting.{false_not_true}
use Rattle.ig_analyse.proofs.Going.{ok_by}
use Rattle.ig_analyse.proofs.making.Work.begin_rule.Goals as goal

pub returns-then-not-is_empty : goal.returns-then-not-is_empty
returns-then-not-is_empty c =
    let mid : Work = record { left = c.push.new.self; marks = c.args.self.now.marks; found = c.args.self.now.found } in
    record {
      mid = mid;
      left = c.in_ok-push.ensures.items ∙ ap (λ z. c.args.self.now.left.items ++ z ∷ []) c.len.ensures;
      marks = refl;
      found = refl;
      spent = λ none. absurd (false_not_true (c.if-not-is_empty.ensures.1 none));
      not_spent = λ some. refl;
    }

pub returns : goal.returns
returns c =
    let mid : Work = record { left = c.push.new.self; marks = c.args.self.now.marks; found = c.args.self.now.found } in
    ok_by c.mark.result
    (λ m. record {
      mid = mid;
      left = c.in_ok-push.ensures.items ∙ ap (λ z. c.args.self.now.left.items ++ z ∷ []) c.len.ensures;
      marks = refl;
      found = refl;
      spent = λ none. m;
      not_spent = λ some. absurd (some (c.if-not-is_empty.ensures.0 refl));
    })
    c.mark.ensures
