use Rattle.std.proofs.Common.{◌≡◌, List, [], ◌∷◌, ◌++◌, reverse, ap, sym, ◌∙◌, vec_items}
use Rattle.std.proofs.lemmas.List.{reverse-append}
use Rattle.ig_walker.specs.Behind.{listed}
use Rattle.ig_walker.specs.declared.goal.Behind.{Behind}
use Rattle.ig_walker.specs.declared.goal.Behind.TheVariants.{Two}
use Rattle.ig_walker.specs.declared.goal.Goal.{Goal}
use Rattle.ig_walker.proofs.stack.push_behind.Goals as goal

-- the first of two goals lies on top
two_pushed : (old mid new : List Goal) (behind : Behind) (a b : Goal) → behind ≡ Two a b → mid ≡ old ++ b ∷ [] → new ≡ mid ++ a ∷ [] →
    reverse new ≡ listed behind ++ reverse old
two_pushed old mid new behind a b is m n =
    ap reverse n ∙ reverse-append mid (a ∷ []) ∙ ap (λ z. a ∷ reverse z) m ∙ ap (λ z. a ∷ z) (reverse-append old (b ∷ [])) ∙ ap (λ z. listed z ++ reverse old) (sym is)

pub returns-in_ok-push-in-Two-2 : goal.returns-in_ok-push-in-Two-2
returns-in_ok-push-in-Two-2 c =
    two_pushed (vec_items c.args.pending.now) _ _ c.args.behind c.in-Two.first c.in-Two.second c.in-Two.is c.in_ok-push-in-Two.ensures.items
    c.in_ok-push-in-Two-2.ensures.items
