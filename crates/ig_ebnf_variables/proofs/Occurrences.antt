-- What holds of each occurrence; and that its symbol gets what it asks.
use Rattle.std.proofs.Common.{◌≡◌, ℕ, zero, suc, List, [], ◌∷◌, ◌++◌, refl, subst, Some}
use Rattle.std.specs.Prelude.{slice_get}
use Rattle.std.proofs.lemmas.Option.{same_Some}
use Rattle.ig_grammar.specs.Symbol.{Symbol}
use Rattle.ig_grammar.specs.Visible.{Visible, Occurrence}
use Rattle.ig_pass.specs.Asked.{Asks}
use Rattle.ig_grammar.specs.declared.declaration.DeclKind.{DeclKind}
use Rattle.ig_grammar.specs.declared.grammar.Grammar.{Grammar}

module _ (N : Visible → Symbol → Type 0) where
  abbrev pub OfAll : List Occurrence → Type 0
  OfAll [] = Unit {0}
  OfAll (o ∷ os) = N o.visible o.symbol × OfAll os

  pub of_first : (os us : List Occurrence) → OfAll (os ++ us) → OfAll os
  of_first [] us h = tt
  of_first (o ∷ os) us h = (h.0, of_first os us h.1)

  pub of_second : (os us : List Occurrence) → OfAll (os ++ us) → OfAll us
  of_second [] us h = h
  of_second (o ∷ os) us h = of_second os us h.1

  pub of_both : (os us : List Occurrence) → OfAll os → OfAll us → OfAll (os ++ us)
  of_both [] us h i = i
  of_both (o ∷ os) us h i = (h.0, of_both os us h.1 i)

  pub of_all : (os : List Occurrence) → ((n : ℕ) (o : Occurrence) → slice_get os n ≡ Some o → N o.visible o.symbol) →
      OfAll os
  of_all [] each = tt
  of_all (o ∷ os) each = (each 0 o refl, of_all os (λ n u e. each (suc n) u e))

  pub of_at : (os : List Occurrence) → OfAll os → (n : ℕ) (o : Occurrence) → slice_get os n ≡ Some o →
      N o.visible o.symbol
  of_at [] h n o e = absurd (cc)
  of_at (p ∷ os) h zero o e = subst (λ (z : Occurrence). N z.visible z.symbol) (same_Some p o e) h.0
  of_at (p ∷ os) h (suc n) o e = of_at os h.1 n o e

module _ (g : Grammar) (within : DeclKind) where
  -- the symbol gets what it asks
  abbrev pub Calm : Visible → Symbol → Type 0
  Calm v x = Asks g.decls within v x

  abbrev pub AllCalm : List Occurrence → Type 0
  AllCalm = OfAll Calm
