-- Which declaration a name has before and behind the pass.
use Rattle.std.proofs.Common.{◌≡◌, ◌∙◌, ℕ, suc, List, [], ◌∷◌, Bool, true, false, Some, None, length, refl, ap, inl, inr, arith}
use Rattle.std.specs.Prelude.{◌⊎◌, slice_get}
use Rattle.std.specs.Cmp.Lexicographic.{bytes_decides}
use Rattle.ig_text.specs.Words.{is_word}
use Rattle.ig_grammar.specs.Condition.{declaration_of}
use Rattle.ig_grammar.specs.declared.declaration.Decl.{Decl}
use Rattle.ig_grammar.specs.declared.place.Shape.{Shape}
use Rattle.ig_pass.specs.Found.{DeclarationsAreFound}
use Rattle.ig_blocks_parts.specs.Setting.{Setting}
use Rattle.ig_blocks_parts.specs.Blocks.{lowered_declaration, lowered_declarations}
use Rattle.ig_blocks_parts.proofs.Looking.{if_true, if_false}
use Rattle.ig_blocks_parts.proofs.Taking.{name_kept}

pub record Undeclared (s : Setting) (ds : List Decl) (shapes : List Shape) (name : List ℕ) : Type 0 where
  pub before : declaration_of ds name ≡ None
  pub after : declaration_of (lowered_declarations s shapes ds) name ≡ None

pub record Declared (s : Setting) (ds : List Decl) (shapes : List Shape) (name : List ℕ) : Type 0 where
  pub n : ℕ
  pub d : Decl
  pub shape : Shape
  pub at : slice_get ds n ≡ Some d
  pub shaped : slice_get shapes n ≡ Some shape
  pub named : d.name ≡ name
  pub before : declaration_of ds name ≡ Some d
  pub after : declaration_of (lowered_declarations s shapes ds) name ≡ Some (lowered_declaration s shape d)

module _ (found : DeclarationsAreFound) (s : Setting) where
  pub declared_by : (ds : List Decl) (shapes : List Shape) (name : List ℕ) → length shapes ≡ length ds →
      Undeclared s ds shapes name ⊎ Declared s ds shapes name
  declared_by [] [] name e = inl (record { before = refl; after = refl })
  declared_by [] (shape ∷ shapes) name e = absurd (omega (arith, e))
  declared_by (d ∷ ds) [] name e = absurd (omega (arith, e))
  declared_by (d ∷ ds) (shape ∷ shapes) name e = go (is_word d.name name) refl (declared_by ds shapes name (omega (arith, e)))
    where
      same : (lowered_declaration s shape d).name ≡ d.name
      same = name_kept s shape d

      first : (b : Bool) → is_word d.name name ≡ b → is_word (lowered_declaration s shape d).name name ≡ b
      first b t = ap (λ z. is_word z name) same ∙ t

      go : (b : Bool) → is_word d.name name ≡ b → Undeclared s ds shapes name ⊎ Declared s ds shapes name →
          Undeclared s (d ∷ ds) (shape ∷ shapes) name ⊎ Declared s (d ∷ ds) (shape ∷ shapes) name
      go true t r =
          inr (record {
            n = 0;
            d = d;
            shape = shape;
            at = refl;
            shaped = refl;
            named = (bytes_decides d.name name).0 t;
            before = found.first d ds name ∙ if_true (is_word d.name name) (Some d) (declaration_of ds name) t;
            after = found.first (lowered_declaration s shape d) (lowered_declarations s shapes ds) name ∙
                if_true (is_word (lowered_declaration s shape d).name name) (Some (lowered_declaration s shape d)) (declaration_of (lowered_declarations s shapes ds) name) (first true t);
          })
      go false t (inl r) =
          inl (record {
            before = found.first d ds name ∙ if_false (is_word d.name name) (Some d) (declaration_of ds name) t ∙ r.before;
            after = found.first (lowered_declaration s shape d) (lowered_declarations s shapes ds) name ∙
                if_false (is_word (lowered_declaration s shape d).name name) (Some (lowered_declaration s shape d)) (declaration_of (lowered_declarations s shapes ds) name) (first false t) ∙ r.after;
          })
      go false t (inr r) =
          inr (record {
            n = suc r.n;
            d = r.d;
            shape = r.shape;
            at = r.at;
            shaped = r.shaped;
            named = r.named;
            before = found.first d ds name ∙ if_false (is_word d.name name) (Some d) (declaration_of ds name) t ∙ r.before;
            after = found.first (lowered_declaration s shape d) (lowered_declarations s shapes ds) name ∙
                if_false (is_word (lowered_declaration s shape d).name name) (Some (lowered_declaration s shape d)) (declaration_of (lowered_declarations s shapes ds) name) (first false t) ∙ r.after;
          })
