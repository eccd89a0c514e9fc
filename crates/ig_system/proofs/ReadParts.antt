-- What a fetch answers, where its file was opened.
use Rattle.std.proofs.Common.{ℕ, ◌≤◌, List, length, Option, None, Some, Result, Ok, Err, Vec, Global, sym, subst}
use Rattle.ig_outside.specs.Fetch.{AnswersFetch}
use Rattle.ig_outside.specs.Told.{silent, bytes}
use Rattle.ig_outside.specs.declared.shelf.FetchFault.{FetchFault}
use Rattle.ig_outside.specs.declared.shelf.FetchFault.TheVariants.{Failed, Long, Memory, Missing}
use Rattle.ig_system.specs.Reading.{told_by, Begins}

-- what is answered of known bytes may be answered where nothing is told
untold : (xs : List ℕ) (most : ℕ) (r : Result (Vec ℕ Global) FetchFault) → AnswersFetch (bytes xs) most r → AnswersFetch silent most r
untold xs most (Ok v) h = subst (λ (z : List ℕ). length z ≤ most) (sym h.0) h.1
untold xs most (Err Failed) h = tt
untold xs most (Err Long) h = tt
untold xs most (Err Memory) h = tt
untold xs most (Err Missing) h = h

pub opened : (content left : Option (List ℕ)) (most : ℕ) (r : Result (Vec ℕ Global) FetchFault) → Begins content left →
    AnswersFetch (told_by left) most r → AnswersFetch (told_by content) most r
opened None None most r b h = h
opened None (Some xs) most r b h = untold xs most r h
opened (Some xs) left most r b h = subst (λ z. AnswersFetch (told_by z) most r) b h
