-- An item that is added at the end of a list.
use Rattle.std.proofs.Common.{◌≡◌, List, [], ◌∷◌, ◌++◌, subst, sym, Contains}
use Rattle.std.proofs.lemmas.List.Elements.{Contains-append_right}
use Rattle.ig_text.proofs.Differing.{pushed_differ}
use Rattle.ig_text.proofs.Lists.{contains_one, it_is_in}
use Rattle.ig_item.specs.WellKinded.{NoneTwice}
use Rattle.ig_item.specs.declared.items.Item.{Item}
use Rattle.ig_plain.specs.Tables.{AddsOnly}

pub added_only : (xs ys : List Item) (x : Item) → ys ≡ xs ++ x ∷ [] → AddsOnly xs ys x
added_only xs ys x is = record { extends = record { more = x ∷ []; is = is }; only = λ y c. contains_one x y c }

pub added_there : (xs ys : List Item) (x : Item) → ys ≡ xs ++ x ∷ [] → Contains ys x
added_there xs ys x is = subst (λ (z : List Item). Contains z x) (sym is) (Contains-append_right xs (x ∷ []) x (it_is_in x))

pub added_once : (xs ys : List Item) (x : Item) → ys ≡ xs ++ x ∷ [] → (Contains xs x → ⊥) → NoneTwice xs → NoneTwice ys
added_once xs ys x is none once =
    subst NoneTwice (sym is) (pushed_differ xs x once none)
