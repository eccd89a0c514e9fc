-- The alternatives of a declaration without levels are those of its levels, in order.
use Rattle.std.proofs.Common.{◌≡◌, ◌∙◌, ℕ, Bool, List, [], ◌∷◌, Some, map, length, refl, sym, ap}
use Rattle.std.specs.Prelude.{slice_get}
use Rattle.std.proofs.lemmas.List.{length-map, append-nil}
use Rattle.std.proofs.lemmas.Option.{slice_get-map}
use Rattle.ig_text.proofs.Options.{mapped}
use Rattle.ig_grammar.specs.Numbering.{Levelled, by_level, alternatives}
use Rattle.ig_grammar.specs.declared.symbol.Alt.{Alt}
use Rattle.ig_grammar.specs.declared.declaration.Level.{Level}
use Rattle.ig_grammar.specs.declared.declaration.Decl.{Decl}
use Rattle.ig_levels.specs.Levels.{lowered_alternative, lowered_declaration, one_level}
use Rattle.ig_pass.specs.EachLevel.{alternatives_by_level}

in_one : (levels : List Level) (f : Levelled → Alt) (alts : List Alt) → alts ≡ map f (by_level levels) → alternatives (one_level levels alts) ≡ map f (by_level levels)
in_one [] f alts e = refl
in_one (level ∷ others) f alts e = append-nil alts ∙ e

module _ (levelled : List ℕ → Bool) (decl : Decl) where
  pub lowered_alternatives : alternatives (lowered_declaration levelled decl).levels ≡ map (lowered_alternative levelled decl) (by_level decl.levels)
  lowered_alternatives = in_one decl.levels (lowered_alternative levelled decl) _ refl

  pub as_many : length (alternatives (lowered_declaration levelled decl).levels) ≡ length (alternatives decl.levels)
  as_many =
      ap length lowered_alternatives ∙ length-map (by_level decl.levels) (lowered_alternative levelled decl) ∙
      sym (length-map (by_level decl.levels) (λ a. a.alternative)) ∙ ap length (alternatives_by_level decl.levels)

  -- the alternative that was lowered
  pub alternative_before : (k : ℕ) (b : Alt) → slice_get (alternatives (lowered_declaration levelled decl).levels) k ≡ Some b →
      (a : Levelled) × (slice_get (by_level decl.levels) k ≡ Some a) × (b ≡ lowered_alternative levelled decl a)
  alternative_before k b e =
      mapped (lowered_alternative levelled decl) (slice_get (by_level decl.levels) k) b
      (sym (slice_get-map (lowered_alternative levelled decl) (by_level decl.levels) k) ∙ sym (ap (λ xs. slice_get xs k) lowered_alternatives) ∙ e)
