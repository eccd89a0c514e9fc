-- Calls of a shelf one after another.
use Rattle.std.proofs.Common.{◌≡◌, ℕ, zero, suc, ◌+◌, List, sym, ◌∙◌, ap, subst, arith, zero-add}
use Rattle.ig_outside.specs.Counts.{Rose, risen}
use Rattle.ig_outside.specs.States.{ShelfState}
use Rattle.ig_outside.specs.Told.{Told}
use Rattle.ig_command_endings.specs.Change.{Fetched, IsCalm, Stood, change, raised}

raised_behind : (k j n : ℕ) → raised j (raised k n) ≡ raised (k + j) n
raised_behind zero j n = ap (λ z. raised z n) (sym (zero-add j))
raised_behind (suc k) j n =
    let next : suc (k + j) ≡ suc k + j = omega arith in
    raised_behind k j (risen n) ∙ ap (λ z. raised z n) next

-- what a shelf tells is a function of the name
pub same_holds : (f h : List ℕ → Told) → ((n : List ℕ) → f n ≡ h n) → f ≡ h
same_holds f h e = λ i n. e n i

module _ (old mid new : ShelfState) where
  pub fetched_behind : (k j : ℕ) → Fetched (change old mid) k → Fetched (change mid new) j → Fetched (change old new) (k + j)
  fetched_behind k j a b = b ∙ ap (raised j) a ∙ raised_behind k j old.fetches

  pub calm_behind : IsCalm (change old mid) → IsCalm (change mid new) → IsCalm (change old new)
  calm_behind a b = b ∙ a

  pub stood_behind : IsCalm (change old mid) → Stood mid.faults new.faults → Stood old.faults new.faults
  stood_behind a s = subst (λ z. Stood z new.faults) a s

  pub rose_behind : IsCalm (change old mid) → Rose mid.faults new.faults → Rose old.faults new.faults
  rose_behind a r = subst (λ z. Rose z new.faults) a r
