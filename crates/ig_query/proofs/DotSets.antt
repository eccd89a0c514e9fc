-- What adding to a set of dots makes of its members.
use Rattle.std.proofs.Common.{◌≡◌, ◌↔◌, ◌⊎◌, ⊎_elim, inl, List, [], ◌∷◌, ◌++◌, Bool, true, false, Contains, if◌then◌else◌, refl, sym, ap, ◌∙◌, subst}
use Rattle.std.specs.Bool.{Decides}
use Rattle.std.specs.List.{list_any}
use Rattle.std.proofs.lemmas.Bool.Decides.{Decides-eqb, Decides-and, Decides-like}
use Rattle.std.proofs.lemmas.Map.Views.{Contains-from_any}
use Rattle.std.proofs.lemmas.List.Elements.{Contains-push}
use Rattle.indexmap.specs.IndexSet.{insert_key}
use Rattle.ig_text.proofs.Lists.{in_pushed}
use Rattle.ig_query.specs.contracts.dots.DotPartialEq.TheImpl as dot_impl
use Rattle.ig_query.specs.declared.dots.Dot.{Dot}
use Rattle.ig_query.proofs.Through.{old_in}

abbrev pub dot_eq : Dot → Dot → Bool
dot_eq = dot_impl.eq-value.it

same_dot : (x y : Dot) → (x.nonterminal ≡ y.nonterminal) × ((x.alternative ≡ y.alternative) × (x.dot ≡ y.dot)) → x ≡ y
same_dot x y p = λ i. record { nonterminal = p.0 i; alternative = p.1.0 i; dot = p.1.1 i }

pub dot_eq-decides : (x y : Dot) → Decides (dot_eq x y) (x ≡ y)
dot_eq-decides x y =
    Decides-like _ (same_dot x y)
    (λ e. (ap (λ (z : Dot). z.nonterminal) e, (ap (λ (z : Dot). z.alternative) e, ap (λ (z : Dot). z.dot) e)))
    (Decides-and _ _ (Decides-eqb x.nonterminal y.nonterminal)
    (Decides-and _ _ (Decides-eqb x.alternative y.alternative) (Decides-eqb x.dot y.dot)))

pub dot_added : (before after : List Dot) (x : Dot) → after ≡ insert_key dot_eq before x → (d : Dot) →
    Contains after d ↔ (Contains before d ⊎ (d ≡ x))
dot_added before after x e d = by (list_any (dot_eq x) before) refl
  where
    to : (zs : List Dot) → after ≡ zs → Contains zs d → Contains after d
    to zs is c = subst (λ (v : List Dot). Contains v d) (sym is) c

    from : (zs : List Dot) → after ≡ zs → Contains after d → Contains zs d
    from zs is c = subst (λ (v : List Dot). Contains v d) is c

    by : (b : Bool) → list_any (dot_eq x) before ≡ b → Contains after d ↔ (Contains before d ⊎ (d ≡ x))
    by true t =
        let is : after ≡ before = e ∙ ap (λ b. if b then before else before ++ x ∷ []) t in (
          λ c. inl (from before is c),
          λ h.
              to before is
              (⊎_elim (λ c. c)
              (λ same. subst (Contains before) (sym same) (Contains-from_any (λ y z. (dot_eq-decides y z).0) x before t)) h),
        )
    by false t =
        let is : after ≡ before ++ x ∷ [] = e ∙ ap (λ b. if b then before else before ++ x ∷ []) t in (
          λ c. in_pushed before x d (from (before ++ x ∷ []) is c),
          λ h. to (before ++ x ∷ []) is (⊎_elim (λ c. old_in before x d c) (λ same. subst (Contains (before ++ x ∷ [])) (sym same) (Contains-push before x)) h),
        )
