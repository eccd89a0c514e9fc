-- A declaration and its shape, as they are pushed.
use Rattle.std.proofs.Common.{◌≡◌, ◌∙◌, ℕ, suc, ◌+◌, List, [], ◌∷◌, ◌++◌, Result, Ok, Err, map, refl, sym, ap, append_assoc}
use Rattle.std.specs.Prelude.{OnOk}
use Rattle.std.proofs.lemmas.List.{map-append}
use Rattle.ig_grammar.specs.Symbol as tree
use Rattle.ig_grammar.specs.View.{symbol_of}
use Rattle.ig_grammar.specs.Visible.{Visible, parameters}
use Rattle.ig_grammar.specs.declared.symbol.Symbol.{Symbol as Stored}
use Rattle.ig_grammar.specs.declared.symbol.Symbol.TheVariants.{Opt, Star, Plus, SepStar, Group}
use Rattle.ig_grammar.specs.declared.symbol.Alt.{Alt}
use Rattle.ig_grammar.specs.declared.declaration.Assoc.TheVariants.{Free}
use Rattle.ig_grammar.specs.declared.declaration.DeclKind.TheVariants.{Plain}
use Rattle.ig_grammar.specs.declared.declaration.Level.{Level}
use Rattle.ig_grammar.specs.declared.declaration.Param.{Param}
use Rattle.ig_grammar.specs.declared.place.Shape.{Shape}
use Rattle.ig_grammar.specs.declared.place.Shape.TheVariants as shape
use Rattle.ig_pass.specs.Added.{added_name}
use Rattle.ig_pass.specs.Needs.{needs}
use Rattle.ig_ebnf_variables.specs.Laws.{IsGathered}
use Rattle.ig_ebnf_variables.specs.Lists.{Made, made, alts_of, params_of, decls_of, forms_of, params_for, count, added, added_alts, new_alts}
use Rattle.ig_ebnf.specs.Made.{Grows, option_made, star_made, plus_made, sep_star_made, sep_plus_made}
use Rattle.ig_ebnf.specs.declared.made.Lowered.{Lowered}

-- parameters as the program has them
params_forth : (ps : List Param) → params_of (parameters ps) ≡ ps
params_forth [] = refl
params_forth (p ∷ ps) = ap (λ z. p ∷ z) (params_forth ps)

-- a declaration and its shape, pushed
pub on_ok_pushed : {E : Type 0} (r : Result (Unit {0}) E) (before after : Lowered) (name word : List ℕ)
    (params kept : List Param) (s : Shape) (alts : List Alt)
    (levels : List Level) → IsGathered alts → word ≡ name → kept ≡ params → levels ≡ record { assoc = Free; alts = alts } ∷ [] →
    after.decls ≡ before.decls ++ record { kind = Plain; name = word; params = kept; levels = levels } ∷ [] →
    OnOk r (after.shapes ≡ before.shapes ++ s ∷ []) →
    OnOk r (Grows before after (made name (parameters params) s (map (λ (a : Alt). a.symbols) alts) ∷ []))
on_ok_pushed (Err f) before after name word params kept s alts levels gathers n p l d h = tt
on_ok_pushed (Ok u) before after name word params kept s alts levels gathers n p l d h =
    let one : levels ≡ record { assoc = Free; alts = alts_of (map (λ (a : Alt). a.symbols) alts) } ∷ [] =
    l ∙ ap (λ z. record { assoc = Free; alts = z } ∷ []) (sym gathers.stored) in
    let all : kept ≡ params_of (parameters params) = p ∙ sym (params_forth params) in
    record {
      decls = d ∙ (λ i. before.decls ++ record { kind = Plain; name = n i; params = all i; levels = one i } ∷ []);
      shapes = h;
    }
