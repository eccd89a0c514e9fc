-- The declaration that is added for a list, an option or a group, and how it is added.
use Rattle.std.specs.Prelude.{◌≡◌, ℕ, suc, ◌+◌, List, [], ◌∷◌, ◌++◌}
use Rattle.ig_grammar.specs.Symbol.{Symbol}
use Rattle.ig_grammar.specs.Visible.{Visible}
use Rattle.ig_grammar.specs.declared.place.Shape.TheVariants as shape
use Rattle.ig_pass.specs.Added.{added_name}
use Rattle.ig_pass.specs.Needs.{needs}
use Rattle.ig_ebnf_variables.specs.Lists.{Made, made, decls_of, forms_of, params_for, entering, new, count}
use Rattle.ig_ebnf.specs.declared.made.Lowered.{Lowered}

-- these stand behind what stood there
pub record Grows (before after : Lowered) (ms : List Made) : Type 0 where
  pub decls : after.decls ≡ before.decls ++ decls_of ms
  pub shapes : after.shapes ≡ before.shapes ++ forms_of ms

-- what stands for a list or an option, as the k-th declaration that is added for the declaration of this name
module _ (of : List ℕ) where
  -- the call of the k-th one, with what the whole wants
  abbrev pub call_of : Visible → ℕ → Symbol → Symbol
  call_of v k whole = entering of k [] v (λ n. needs n whole)

  abbrev pub option_made : Visible → ℕ → Symbol → Symbol → Made
  option_made v k whole x = made (added_name of k) (params_for v (λ n. needs n whole)) shape.Opt ([] ∷ new of v (suc k) x ∷ [])

  abbrev pub star_made : Visible → ℕ → Symbol → Symbol → Made
  star_made v k whole x =
      made (added_name of k) (params_for v (λ n. needs n whole)) shape.Star ([] ∷ (call_of v k whole ∷ new of v (suc k) x) ∷ [])

  abbrev pub plus_made : Visible → ℕ → Symbol → Symbol → Made
  plus_made v k whole x =
      made (added_name of k) (params_for v (λ n. needs n whole)) shape.Plus
      (new of v (suc k) x ∷ (call_of v k whole ∷ new of v (suc k) x) ∷ [])

  abbrev pub sep_star_made : Visible → ℕ → Symbol → Made
  sep_star_made v k whole =
      made (added_name of k) (params_for v (λ n. needs n whole)) shape.SepStar ([] ∷ (call_of v (suc k) whole ∷ []) ∷ [])

  abbrev pub sep_plus_made : Visible → ℕ → Symbol → Symbol → Symbol → Made
  sep_plus_made v k whole x separator =
      made (added_name of k) (params_for v (λ n. needs n whole)) shape.SepPlus
      (new of v (suc k) x ∷ (call_of v k whole ∷ (new of v (suc k + count x) separator ++ new of v (suc k) x)) ∷ [])
