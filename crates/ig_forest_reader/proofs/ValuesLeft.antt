-- The values that are left to be read, each after a comma.
use Rattle.std.proofs.Common.{◌≡◌, ℕ, suc, ◌+◌, ◌≤◌, ◌++◌, List, [], ◌∷◌, Bor, refl, sym, ap, ◌∙◌, length, arith}
use Rattle.std.specs.Prelude.{flat_map, codes}
use Rattle.std.specs.List.{AllByRecursion}
use Rattle.std.proofs.lemmas.List.{append_assoc, append-nil, length-append, append_cancel_left}
use Rattle.ig_expr.specs.declared.value.Value.{Value}
use Rattle.ig_show_texts.specs.ValueText.{value_text}
use Rattle.ig_forest_reader.specs.Runs.{Stops, at, IsInner, IsComma}
use Rattle.ig_forest_reader.specs.Written.{IsSmall}

abbrev pub others : List Value → List ℕ
others xs = flat_map (λ y. codes "," ++ value_text y) xs

pub record Left (us rest : List ℕ) (out whole : List Value) (n many : ℕ) : Type 0 where
  pub ys : List Value
  pub small : AllByRecursion IsSmall ys
  pub here : rest ≡ others ys ++ us
  pub sum : out ++ ys ≡ whole
  pub few : length ys + n ≤ many

joined : (y : Value) (ys : List Value) (us : List ℕ) → others (y ∷ ys) ++ us ≡ 44 ∷ (value_text y ++ (others ys ++ us))
joined y ys us = ap (λ (z : List ℕ). 44 ∷ z) (append_assoc (value_text y) (others ys) us)

others_long : (xs : List Value) (us : List ℕ) → length xs ≤ length (others xs ++ us)
others_long [] us = omega arith
others_long (x ∷ xs) us =
    let rest = others_long xs us in
    let e : length (others (x ∷ xs) ++ us) ≡ suc (length (value_text x) + length (others xs ++ us)) =
    ap length (joined x xs us) ∙ ap suc (length-append (value_text x) (others xs ++ us)) in
    omega (arith, rest, e)

pub start_left : (xs : List Value) (us bytes : List ℕ) (out : List Value) → AllByRecursion IsSmall xs →
    bytes ≡ others xs ++ us → Left us bytes out (out ++ xs) 0 (length bytes)
start_left xs us bytes out small e =
    let long = others_long xs us in
    let same = ap length e in
    record { ys = xs; small = small; here = e; sum = refl; few = omega (arith, long, same) }

pub stops_others : (ys : List Value) (us : List ℕ) → Stops IsInner us → Stops IsInner (others ys ++ us)
stops_others [] us s = s
stops_others (y ∷ ys) us s = at 44 _ (λ p. omega (arith, p.0))

at_end_of : (us rest : List ℕ) (out whole ys : List Value) → rest ≡ others ys ++ us → out ++ ys ≡ whole →
    ((cs : List ℕ) → rest ≡ 44 ∷ cs → ⊥) → (rest ≡ us) × (out ≡ whole)
at_end_of us rest out whole [] e sum none = (e, sym (append-nil out) ∙ sum)
at_end_of us rest out whole (y ∷ ys) e sum none = absurd (none (value_text y ++ (others ys ++ us)) (e ∙ joined y ys us))

pub end_left : (us rest : List ℕ) (out whole : List Value) (n many : ℕ) → Left us rest out whole n many →
    ((cs : List ℕ) → rest ≡ 44 ∷ cs → ⊥) → (rest ≡ us) × (out ≡ whole)
end_left us rest out whole n many l none = at_end_of us rest out whole l.ys l.here l.sum none

at_last : (us rest : List ℕ) (out whole ys : List Value) (many : ℕ) → rest ≡ others ys ++ us → out ++ ys ≡ whole →
    length ys + many ≤ many → (rest ≡ us) × (out ≡ whole)
at_last us rest out whole [] many e sum few = (e, sym (append-nil out) ∙ sum)
at_last us rest out whole (y ∷ ys) many e sum few = absurd (omega (arith, few))

pub full_left : (us rest : List ℕ) (out whole : List Value) (many : ℕ) → Left us rest out whole many many →
    (rest ≡ us) × (out ≡ whole)
full_left us rest out whole many l = at_last us rest out whole l.ys many l.here l.sum l.few

-- a comma stands in front, so a value is left
pub record Next (us behind : List ℕ) (out whole : List Value) (n many : ℕ) : Type 0 where
  pub y : Value
  pub ys : List Value
  pub small : IsSmall y
  pub others_small : AllByRecursion IsSmall ys
  pub here : behind ≡ value_text y ++ (others ys ++ us)
  pub sum : out ++ (y ∷ ys) ≡ whole
  pub few : suc (length ys) + n ≤ many

no_comma : (us cs : List ℕ) → Stops IsComma us → us ≡ 44 ∷ cs → ⊥
no_comma [] cs s e = cc
no_comma (u ∷ us) cs (at _ _ not) e = not (let h : u ≡ 44 = cc in h)

next_of : (us rest behind : List ℕ) (out whole ys : List Value) (n many : ℕ) → AllByRecursion IsSmall ys →
    rest ≡ others ys ++ us → out ++ ys ≡ whole → length ys + n ≤ many → Stops IsComma us → rest ≡ 44 ∷ behind →
    Next us behind out whole n many
next_of us rest behind out whole [] n many small e sum few s is = absurd (no_comma us behind s (sym e ∙ is))
next_of us rest behind out whole (y ∷ ys) n many small e sum few s is =
    record {
      y = y;
      ys = ys;
      small = small.0;
      others_small = small.1;
      here = append_cancel_left (44 ∷ []) behind (value_text y ++ (others ys ++ us)) (sym is ∙ e ∙ joined y ys us);
      sum = sum;
      few = omega (arith, few);
    }

pub next_left : (us rest behind : List ℕ) (out whole : List Value) (n many : ℕ) → Left us rest out whole n many →
    Stops IsComma us → rest ≡ 44 ∷ behind → Next us behind out whole n many
next_left us rest behind out whole n many l s is = next_of us rest behind out whole l.ys n many l.small l.here l.sum l.few s is

pub step_left : (us behind : List ℕ) (after : Bor (List ℕ)) (out whole : List Value) (n many : ℕ) (value : Value)
    (x : Next us behind out whole n many) → value ≡ x.y → after.now ≡ others x.ys ++ us →
    Left us after.now (out ++ value ∷ []) whole (n + 1) many
step_left us behind after out whole n many value x same here =
    let few = x.few in
    record {
      ys = x.ys;
      small = x.others_small;
      here = here;
      sum = append_assoc out (value ∷ []) x.ys ∙ ap (λ (z : Value). out ++ (z ∷ x.ys)) same ∙ x.sum;
      few = omega (arith, few);
    }
