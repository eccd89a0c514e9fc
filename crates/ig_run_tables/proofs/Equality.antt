-- `==` tells items and instances apart.
use Rattle.std.proofs.Common.{◌≡◌, Bool, ap}
use Rattle.std.specs.Bool.{Decides}
use Rattle.std.proofs.lemmas.Bool.Decides.{Decides-eqb, Decides-and, Decides-like}
use Rattle.ig_item.specs.declared.items.Item.{Item}
use Rattle.ig_item.specs.declared.items.InstanceKey.{InstanceKey}
use Rattle.ig_item.specs.contracts.items.ItemPartialEq.TheImpl as item_impl
use Rattle.ig_item.specs.contracts.items.InstanceKeyPartialEq.TheImpl as key_impl

abbrev pub item_eq : Item → Item → Bool
item_eq = item_impl.eq-value.it

abbrev pub key_eq : InstanceKey → InstanceKey → Bool
key_eq = key_impl.eq-value.it

same_key : (x y : InstanceKey) → (x.nonterminal ≡ y.nonterminal) × ((x.env ≡ y.env) × (x.start ≡ y.start)) → x ≡ y
same_key x y p = λ i. record { nonterminal = p.0 i; env = p.1.0 i; start = p.1.1 i }

pub key_eq-decides : (x y : InstanceKey) → Decides (key_eq x y) (x ≡ y)
key_eq-decides x y =
    Decides-like _ (same_key x y)
    (λ e. (ap (λ (z : InstanceKey). z.nonterminal) e, (ap (λ (z : InstanceKey). z.env) e, ap (λ (z : InstanceKey). z.start) e)))
    (Decides-and _ _ (Decides-eqb x.nonterminal y.nonterminal) (Decides-and _ _ (Decides-eqb x.env y.env) (Decides-eqb x.start y.start)))

same_item : (x y : Item) →
    (x.instance ≡ y.instance) × ((x.alternative ≡ y.alternative) × ((x.dot ≡ y.dot) × ((x.env ≡ y.env) × (x.position ≡ y.position)))) →
    x ≡ y
same_item x y p =
    λ i. record { instance = p.0 i; alternative = p.1.0 i; dot = p.1.1.0 i; env = p.1.1.1.0 i; position = p.1.1.1.1 i }

pub item_eq-decides : (x y : Item) → Decides (item_eq x y) (x ≡ y)
item_eq-decides x y =
    Decides-like _ (same_item x y)
    (λ e. (
      ap (λ (z : Item). z.instance) e,
      (
        ap (λ (z : Item). z.alternative) e,
        (ap (λ (z : Item). z.dot) e, (ap (λ (z : Item). z.env) e, ap (λ (z : Item). z.position) e)),
      ),
    ))
    (Decides-and _ _ (Decides-eqb x.instance y.instance) (Decides-and _ _ (Decides-eqb x.alternative y.alternative)
    (Decides-and _ _ (Decides-eqb x.dot y.dot)
    (Decides-and _ _ (Decides-eqb x.env y.env) (Decides-eqb x.position y.position)))))
