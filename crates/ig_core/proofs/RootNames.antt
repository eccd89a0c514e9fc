-- The name of the root.
use Rattle.std.proofs.Common.{◌≡◌, ℕ, suc, List, [], ◌∷◌, Some, refl, ap}
use Rattle.std.specs.Prelude.{slice_get, option_map}
use Rattle.std.specs.Option.{unwrap_or}
use Rattle.ig_grammar.specs.declared.grammar.Grammar.{Grammar}
use Rattle.ig_grammar.specs.declared.declaration.Decl.{Decl}
use Rattle.ig_grammar.specs.declared.place.Shape.{Shape}
use Rattle.ig_grammar.specs.declared.place.Shape.TheVariants.{Root}
use Rattle.ig_pass.specs.Added.{root_name}
use Rattle.ig_core.specs.CoreOf.{root_among, written_root, core_of}

abbrev NamesRoot : List Decl → List Shape → Type 0
NamesRoot decls shapes =
    (k : ℕ) (decl : Decl) → slice_get decls k ≡ Some decl → slice_get shapes k ≡ Some Root → decl.name ≡ root_name

named : (g : Grammar) (decls : List Decl) (shapes : List Shape) → NamesRoot decls shapes →
    (unwrap_or (root_among decls shapes) (written_root g)).name ≡ root_name
named g [] shapes h = refl
named g (d ∷ ds) [] h = refl
named g (d ∷ ds) (Root ∷ shapes) h = h 0 d refl refl
named g (d ∷ ds) (s ∷ shapes) h = named g ds shapes (λ k decl e f. h (suc k) decl e f)

pub root_named : (g : Grammar) (shapes : List Shape) → NamesRoot g.decls shapes →
    option_map (λ nonterminal. nonterminal.name) (slice_get (core_of g shapes) 0) ≡ Some root_name
root_named g shapes h = ap Some (named g g.decls shapes h)
