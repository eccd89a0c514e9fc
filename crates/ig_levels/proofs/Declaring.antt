-- The pass's grammar has what the induction uses.
use Rattle.std.proofs.Common.{◌≡◌, ℕ, suc, Bool, false, List, [], ◌∷◌, map, refl, sym, ◌∙◌, ap, Some}
use Rattle.std.specs.Prelude.{slice_get, option_map}
use Rattle.std.proofs.lemmas.Option.{slice_get-map, same_Some}
use Rattle.ig_grammar.specs.Numbering.{Declares, layout_among, name_of_layout}
use Rattle.ig_grammar.specs.declared.declaration.Decl.{Decl}
use Rattle.ig_grammar.specs.declared.grammar.Grammar.{Grammar}
use Rattle.ig_grammar.specs.declared.place.Shape.{Shape}
use Rattle.ig_levels.specs.Levels.{names_levelled, is_levelled, lowered_declaration, lowered_grammar}
use Rattle.ig_levels.proofs.Premises.{Lowerable}
use Rattle.ig_text.proofs.Options.{mapped}
use Rattle.ig_text.proofs.Lists.{mapped_at}
use Rattle.ig_levels.proofs.Takes.{Takes, DeclaredAs}

pub same_layout : (levelled : List ℕ → Bool) (ds : List Decl) → layout_among (map (lowered_declaration levelled) ds) ≡ layout_among ds
same_layout levelled [] = refl
same_layout levelled (d ∷ ds) = ap (name_of_layout d.kind d.name) (same_layout levelled ds)

module _ (g : Grammar) (shapes : List Shape) (may : Lowerable g shapes) where
  abbrev levelled : List ℕ → Bool
  levelled = names_levelled g.decls

  forth : (name : List ℕ) (d : ℕ) (decl : Decl) (shape : Shape) → Declares g shapes name d decl shape →
      Declares (lowered_grammar g) shapes name d (lowered_declaration levelled decl) shape
  forth name d decl shape declares =
      let at = declares.numbered in
      record {
        numbered = (at.0, at.1, slice_get-map (lowered_declaration levelled) g.decls at.0 ∙ ap (option_map (lowered_declaration levelled)) at.2);
        shaped = declares.shaped;
        named = declares.named;
      }

  back : (name : List ℕ) (d : ℕ) (lower : Decl) (shape : Shape) → Declares (lowered_grammar g) shapes name d lower shape →
      DeclaredAs g shapes levelled name d lower shape
  back name d lower shape declares =
      let at = declares.numbered in
      let from = mapped (lowered_declaration levelled) (slice_get g.decls at.0) lower (sym (slice_get-map (lowered_declaration levelled) g.decls at.0) ∙ at.2) in
      record {
        decl = from.0;
        declares = record {
          numbered = (at.0, at.1, from.1);
          shaped = declares.shaped;
          named = sym (ap (λ (z : Decl). z.name) from.2) ∙ declares.named;
        };
        same = from.2;
      }

  known : (name : List ℕ) (d : ℕ) (decl : Decl) (shape : Shape) → Declares g shapes name d decl shape → levelled name ≡ is_levelled decl.levels
  known name d decl shape declares =
      ap levelled (sym declares.named) ∙ may.known declares.numbered.0 decl declares.numbered.2

  once : (name : List ℕ) (d e : ℕ) (decl other : Decl) (shape form : Shape) → Declares g shapes name d decl shape →
      Declares g shapes name e other form → decl ≡ other
  once name d e decl other shape form a b =
      let places : a.numbered.0 ≡ b.numbered.0 =
      may.distinct a.numbered.0 b.numbered.0 name (mapped_at (λ (z : Decl). z.name) g.decls a.numbered.0 decl a.numbered.2 ∙ ap Some a.named)
      (mapped_at (λ (z : Decl). z.name) g.decls b.numbered.0 other b.numbered.2 ∙ ap Some b.named) in
      same_Some decl other (sym a.numbered.2 ∙ ap (slice_get g.decls) places ∙ b.numbered.2)

  plain_layout : (name : List ℕ) → layout_among g.decls ≡ Some name → levelled name ≡ false
  plain_layout name h =
      let at = may.layout name h in
      ap levelled (sym at.3) ∙ may.known at.0 at.1 at.2 ∙ may.plain_layout (suc at.0) at.1 (at.0, refl, at.2) at.4

  pub takes_of : Takes g (lowered_grammar g) shapes shapes (names_levelled g.decls)
  takes_of =
      record {
        forth = forth;
        back = back;
        known = known;
        once = once;
        rules = λ name d decl shape declares. may.rules d decl shape declares.numbered declares.shaped;
        clear = λ name d decl shape k a declares. may.clear d decl k a declares.numbered;
        parameters = λ name d decl shape declares. may.parameters d decl declares.numbered;
        layout = same_layout levelled g.decls;
        layout_plain = plain_layout;
      }
