-- Texts of lists, as UTF-8.
use Rattle.std.specs.Prelude.{ℕ, suc, List, [], ◌∷◌, ◌++◌, flat_map, codes}

-- the texts of the members, with a comma between two
abbrev pub comma_separated : {A : Type 0} → (A → List ℕ) → List A → List ℕ
comma_separated shown [] = []
comma_separated shown (x ∷ xs) = shown x ++ flat_map (λ y. codes "," ++ shown y) xs

-- the texts of the members, which are numbered from k on
abbrev pub numbered_texts : {A : Type 0} → (ℕ → A → List ℕ) → ℕ → List A → List ℕ
numbered_texts shown k [] = []
numbered_texts shown k (x ∷ xs) = shown k x ++ numbered_texts shown (suc k) xs
