-- Lists of values in brackets.
use Rattle.std.proofs.Common.{◌≡◌, ℕ, ◌++◌, List, [], ◌∷◌, Result, Ok, Err, sym, ap, ◌∙◌, subst, arith}
use Rattle.std.specs.Prelude.{codes, flat_map}
use Rattle.std.specs.Result.{IsErrAnd}
use Rattle.std.specs.List.{AllByRecursion}
use Rattle.std.proofs.lemmas.List.{append_assoc, append-nil, append_cancel_left}
use Rattle.ig_expr.specs.declared.value.Value.{Value}
use Rattle.ig_show_texts.specs.Listed.{comma_separated}
use Rattle.ig_show_texts.specs.ValueText.{value_text}
use Rattle.ig_forest_reader.specs.Runs.{Stops, at, IsInner, IsComma}
use Rattle.ig_forest_reader.specs.Shown.{Added, NoValues, Reads, ValuesRead}
use Rattle.ig_forest_reader.specs.declared.fault.ForestFault.{ForestFault}
use Rattle.ig_forest_reader.specs.declared.fault.ForestFault.TheVariants.{NotAForest, Memory}
use Rattle.ig_forest_reader.specs.Written.{Closes, round, square, IsSmall}
use Rattle.ig_forest_reader.proofs.Spelled.{first_spelled}
use Rattle.ig_forest_reader.proofs.Telling.{lists_told}

pub closes_inner : (close : ℕ) (us : List ℕ) → Closes close → Stops IsInner (close ∷ us)
closes_inner close us (round _ is) = at close us (λ p. omega (arith, p.0, is))
closes_inner close us (square _ is) = at close us (λ p. p.1 is)

pub closes_comma : (close : ℕ) (us : List ℕ) → Closes close → Stops IsComma (close ∷ us)
closes_comma close us (round _ is) = at close us (λ p. omega (arith, p, is))
closes_comma close us (square _ is) = at close us (λ p. omega (arith, p, is))

-- no values were read, but the bracket
pub none_read_up : (close : ℕ) (bytes rest : List ℕ) (old : List Value) → Closes close → bytes ≡ close ∷ rest →
    ValuesRead close bytes rest old old
none_read_up close bytes rest old closes is =
    record {
      values = [];
      small = tt;
      is = sym (append-nil old);
      spelled = is;
      told = λ xs us small e. lists_told close [] xs rest us closes tt small (sym is ∙ e);
    }

-- a first value was added, and others after it
pub first_added : (bytes behind rest : List ℕ) (old out new : List Value) (x : Value) → IsSmall x → bytes ≡ value_text x ++ behind →
    out ≡ old ++ x ∷ [] → Added IsSmall (flat_map (λ y. codes "," ++ value_text y)) behind rest out new →
    Added IsSmall (comma_separated value_text) bytes rest old new
first_added bytes behind rest old out new x small e is added =
    record {
      members = x ∷ added.members;
      have = (small, added.have);
      is = added.is ∙ ap (λ (z : List Value). z ++ added.members) is ∙ append_assoc old (x ∷ []) added.members;
      spelled = first_spelled bytes behind rest x added.members e added.spelled;
    }

-- what a first value and others give
abbrev pub FirstTold : List ℕ → List ℕ → List Value → List Value → Type 0
FirstTold bytes rest old new =
    (x : Value) (xs : List Value) (us : List ℕ) → IsSmall x → AllByRecursion IsSmall xs → Stops IsInner us → Stops IsComma us →
    bytes ≡ comma_separated value_text (x ∷ xs) ++ us → (rest ≡ us) × (new ≡ old ++ x ∷ xs)

abbrev pub NoFirst : List ℕ → Type 0
NoFirst bytes =
    (x : Value) (xs : List Value) (us : List ℕ) → IsSmall x → AllByRecursion IsSmall xs → Stops IsInner us → Stops IsComma us →
    bytes ≡ comma_separated value_text (x ∷ xs) ++ us → ⊥

pub no_values : (close : ℕ) (bytes : List ℕ) → Closes close → ((rest : List ℕ) → bytes ≡ close ∷ rest → ⊥) → NoFirst bytes →
    NoValues close bytes
no_values close bytes closes bracket first [] us small e = bracket us e
no_values close bytes closes bracket first (x ∷ xs) us small e =
    first x xs (close ∷ us) small.0 small.1 (closes_inner close us closes) (closes_comma close us closes) e

pub no_bracket : (close : ℕ) (bytes behind : List ℕ) (old new : List Value) → Closes close →
    ((rest : List ℕ) → bytes ≡ close ∷ rest → ⊥) → FirstTold bytes behind old new →
    ((rest : List ℕ) → behind ≡ close ∷ rest → ⊥) → NoValues close bytes
no_bracket close bytes behind old new closes bracket told last [] us small e = bracket us e
no_bracket close bytes behind old new closes bracket told last (x ∷ xs) us small e =
    last us (told x xs (close ∷ us) small.0 small.1 (closes_inner close us closes) (closes_comma close us closes) e).0

pub values_read_up : (close : ℕ) (bytes behind rest : List ℕ) (old new : List Value) → Closes close →
    ((us : List ℕ) → bytes ≡ close ∷ us → ⊥) → Added IsSmall (comma_separated value_text) bytes behind old new →
    FirstTold bytes behind old new → behind ≡ close ∷ rest →
    ValuesRead close bytes rest old new
values_read_up close bytes behind rest old new closes bracket added told is =
    record {
      values = added.members;
      small = added.have;
      is = added.is;
      spelled = added.spelled ∙ ap (λ (z : List ℕ). comma_separated value_text added.members ++ z) is;
      told = whole;
    }
  where
    whole : (xs : List Value) (us : List ℕ) → AllByRecursion IsSmall xs → bytes ≡ comma_separated value_text xs ++ close ∷ us →
        (added.members ≡ xs) × (rest ≡ us)
    whole [] us small e = absurd (bracket us e)
    whole (x ∷ xs) us small e =
        let read = told x xs (close ∷ us) small.0 small.1 (closes_inner close us closes) (closes_comma close us closes) e in
        (append_cancel_left old added.members (x ∷ xs) (sym added.is ∙ read.1), append_cancel_left (close ∷ []) rest us (sym is ∙ read.0))

-- where a first value isn't read, no values are
pub failed_first : {A B : Type 0} (P : Value → List Value → List ℕ → A → Type 0) (Q : B → Type 0) (close : ℕ) (bytes : List ℕ)
    (r : Result A ForestFault) (e : ForestFault) (s : Result B ForestFault) → Closes close →
    ((rest : List ℕ) → bytes ≡ close ∷ rest → ⊥) →
    ((x : Value) (xs : List Value) (us : List ℕ) → IsSmall x → AllByRecursion IsSmall xs → Stops IsInner us → Stops IsComma us →
    bytes ≡ comma_separated value_text (x ∷ xs) ++ us → Reads (P x xs us) ⊥ r) → r ≡ Err e → IsErrAnd s (λ f. f ≡ e) →
    Reads Q (NoValues close bytes) s
failed_first P Q close bytes r e (Ok x) closes bracket told is handed = absurd (handed)
failed_first {A = A} P Q close bytes r NotAForest (Err g) closes bracket told is handed =
    subst (λ (z : ForestFault). Reads Q (NoValues close bytes) (Err z)) (sym handed)
    (no_values close bytes closes bracket
    (λ x xs us p q s t f. subst (λ (o : Result A ForestFault). Reads (P x xs us) ⊥ o) is (told x xs us p q s t f)))
failed_first P Q close bytes r Memory (Err g) closes bracket told is handed =
    subst (λ (z : ForestFault). Reads Q (NoValues close bytes) (Err z)) (sym handed) tt
