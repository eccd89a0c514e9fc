use Rattle.std.proofs.Common.{◌≡◌, ◌-◌, get_or, set, refl, ◌∙◌, ap, arith}
use Rattle.std.specs.Vec.{with_item}
use Rattle.std.proofs.lemmas.List.{get_or_default}
use Rattle.std.proofs.lemmas.Option.{slice_get-get_or}
use Rattle.ig_text.proofs.Lists.{get_within}
use Rattle.ig_analyse.proofs.Going.{ok_by}
use Rattle.ig_analyse.proofs.making.Work.use_rule.Goals as goal

pub returns-then-left-gt0 : goal.returns-then-left-gt0
returns-then-left-gt0 c =
    let x = get_within c.args.rules.now c.args.number c.requires.number in
    let less : c.saturating_sub-left.result ≡ get_or c.args.self.now.left.items c.args.number 0 - 1 =
    c.saturating_sub-left.ensures ∙
    ap (λ z. z - 1) (c.index.ensures ∙ get_or_default c.args.self.now.left.items c.args.number c.index.result.now 0 c.requires.left) in
    let more = c.if-left-gt0.true in
    record {
      rule = x.0;
      there = x.1;
      mid = record {
        left = with_item c.args.self.now.left c.args.number c.saturating_sub-left.result;
        marks = c.args.self.now.marks;
        found = c.args.self.now.found;
      };
      less = ap (set c.args.self.now.left.items c.args.number) less;
      marks = refl;
      found = refl;
      spent = λ none. absurd (omega (arith, none, less, more));
      not_spent = λ some. refl;
    }

pub mark-requires : goal.mark-requires
mark-requires c =
    c.requires.head (get_or c.args.rules.now c.args.number c.index-rules-number.result)
    (slice_get-get_or c.args.rules.now c.args.number c.index-rules-number.result c.requires.number)

pub returns : goal.returns
returns c =
    let less : c.saturating_sub-left.result ≡ get_or c.args.self.now.left.items c.args.number 0 - 1 =
    c.saturating_sub-left.ensures ∙
    ap (λ z. z - 1) (c.index.ensures ∙ get_or_default c.args.self.now.left.items c.args.number c.index.result.now 0 c.requires.left) in
    let few = c.if-left-gt0.false in
    ok_by c.mark.result
    (λ m. record {
      rule = get_or c.args.rules.now c.args.number c.index-rules-number.result;
      there = slice_get-get_or c.args.rules.now c.args.number c.index-rules-number.result c.requires.number;
      mid = record {
        left = with_item c.args.self.now.left c.args.number c.saturating_sub-left.result;
        marks = c.args.self.now.marks;
        found = c.args.self.now.found;
      };
      less = ap (set c.args.self.now.left.items c.args.number) less;
      marks = refl;
      found = refl;
      spent = λ none. m;
      not_spent = λ some. absurd (some (omega (arith, less, few)));
    })
    c.mark.ensures
