-- Which rules fire, by the three heights that were read.
use Rattle.std.proofs.Common.{◌≡◌, ◌↔◌, ℕ, ◌<◌, ◌≤◌, Bool, true, leb, ltb, IsTrue, List, length, get_or, sym, ◌∙◌, subst}
use Rattle.std.proofs.lemmas.Bool.{leb-true, ltb-true, lt-ltb}
use Rattle.std.proofs.lemmas.Option.{same_Some, slice_get-get_or}
use Rattle.ig_heights.specs.Fits.{FitsRule}
use Rattle.ig_heights.specs.Rules.{height_at}
use Rattle.ig_heights.specs.Work.{Fires}
use Rattle.ig_heights.specs.declared.rule.Rule.{Rule}
use Rattle.ig_heights.specs.declared.work.Work.{Work}

-- the height that is read is that of the part
read : (heights : List ℕ) (part h : ℕ) → part < length heights → h ≡ get_or heights part h → h ≡ height_at heights part
read heights part h within is =
    is ∙
    same_Some (get_or heights part h) (get_or heights part 0)
    (sym (slice_get-get_or heights part h within) ∙ slice_get-get_or heights part 0 within)

-- where both sources have heights up to that of the round
pub fires_then : (nodes l r t : ℕ) (rule : Rule) (work : Work) (value : Bool) → FitsRule (length work.heights.items) rule →
    l ≡ get_or work.heights.items rule.left l → l ≤ work.height → r ≡ get_or work.heights.items rule.right r →
    value ≡ leb r work.height → value ≡ true → t ≡ get_or work.heights.items rule.target t →
    IsTrue (ltb nodes t) ↔ Fires nodes rule work
fires_then nodes l r t rule work value fits l_is left r_is value_is holds t_is =
    let t_same = read work.heights.items rule.target t fits.target t_is in (
      λ b. record {
        left = subst (λ h. h ≤ work.height) (read work.heights.items rule.left l fits.left l_is) left;
        right =
            subst (λ h. h ≤ work.height) (read work.heights.items rule.right r fits.right r_is)
            (leb-true r work.height (sym value_is ∙ holds));
        target = subst (λ h. nodes < h) t_same (ltb-true nodes t b);
      },
      λ f. lt-ltb nodes t (subst (λ h. nodes < h) (sym t_same) f.target),
    )
