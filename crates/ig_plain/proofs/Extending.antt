-- Lists that grow at their end.
use Rattle.std.proofs.Common.{◌≡◌, List, [], ◌++◌, sym, ◌∙◌}
use Rattle.std.proofs.lemmas.List.{append-nil}
use Rattle.ig_run_tables.specs.Extends.{Extends}

module _ {X : Type 0} where
  abbrev pub extends_itself : (xs : List X) → Extends xs xs
  extends_itself xs = record { more = []; is = sym (append-nil xs) }

  abbrev pub extends_by : (xs ys zs : List X) → ys ≡ xs ++ zs → Extends xs ys
  extends_by xs ys zs e = record { more = zs; is = e }

  abbrev pub extends_same : (xs ys : List X) → ys ≡ xs → Extends xs ys
  extends_same xs ys e = record { more = []; is = e ∙ sym (append-nil xs) }
