-- The first declaration of a name.
use Rattle.std.proofs.Common.{◌≡◌, ◌∙◌, ℕ, suc, List, [], ◌∷◌, Some, None, Bool, true, false, refl, ap, inl, inr}
use Rattle.std.specs.Prelude.{◌⊎◌, slice_get, if◌then◌else◌}
use Rattle.std.specs.Cmp.Lexicographic.{bytes_decides}
use Rattle.ig_text.specs.Words.{is_word}
use Rattle.ig_text.proofs.Positions.{beside-cons}
use Rattle.ig_grammar.specs.Condition.{declaration_of}
use Rattle.ig_grammar.specs.Names.{names}
use Rattle.ig_grammar.specs.declared.declaration.Decl.{Decl}

-- a name has no declaration, or one that stands at a place
abbrev pub NoneOrThere : List Decl → List ℕ → Type 0
NoneOrThere ds name =
    (declaration_of ds name ≡ None) ⊎ ((k : ℕ) × (d : Decl) × (declaration_of ds name ≡ Some d) × (slice_get ds k ≡ Some d) × (d.name ≡ name))

pub declared_named : (ds : List Decl) (name : List ℕ) → NoneOrThere ds name
declared_named [] name = inl refl
declared_named (d ∷ ds) name = go (is_word d.name name) refl (declared_named ds name)
  where
    first : (b : Bool) → is_word d.name name ≡ b → declaration_of (d ∷ ds) name ≡ (if b then Some d else declaration_of ds name)
    first b is = beside-cons (λ n. is_word n name) d.name (names ds) d ds ∙ ap (λ z. if z then Some d else declaration_of ds name) is

    go : (b : Bool) → is_word d.name name ≡ b → NoneOrThere ds name → NoneOrThere (d ∷ ds) name
    go true is others = inr (0, d, first true is, refl, (bytes_decides d.name name).0 is)
    go false is (inl e) = inl (first false is ∙ e)
    go false is (inr h) = inr (suc h.0, h.1, first false is ∙ h.2, h.3, h.4)
