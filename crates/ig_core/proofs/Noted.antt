-- A grammar that the notation can say is buildable.
use Rattle.std.proofs.Common.{◌≡◌, ◌∙◌, ℕ, List, [], ◌∷◌, All, Contains, Some, slice_get, false, true, refl, sym, subst}
use Rattle.std.proofs.lemmas.List.{length-map}
use Rattle.std.proofs.lemmas.List.Elements.{All-weaker, All-contains}
use Rattle.ig_text.proofs.Lists.{unmapped_at, unmapped_in}
use Rattle.ig_grammar.specs.Name.{is_name, IsName}
use Rattle.ig_grammar.specs.Names.{names}
use Rattle.ig_grammar.specs.Numbering.{as_written}
use Rattle.ig_grammar.specs.Alternative.{gathered_alternatives}
use Rattle.ig_grammar.specs.Subterms.{subterms_of_alternatives}
use Rattle.ig_grammar.specs.Symbol.{Symbol, Entry}
use Rattle.ig_grammar.specs.Checked.{FitsShape}
use Rattle.ig_grammar.specs.declared.declaration.Param.{Param}
use Rattle.ig_grammar.specs.declared.declaration.Decl.{Decl}
use Rattle.ig_grammar.specs.declared.grammar.Grammar.{Grammar}
use Rattle.ig_grammar.specs.declared.place.Shape.{Shape}
use Rattle.ig_grammar.specs.declared.place.Shape.TheVariants.{Rule}
use Rattle.ig_pass.specs.Added.{AddedNamesAreNew, dot, root_name}
use Rattle.ig_pass.specs.Needs.{IsEntered}
use Rattle.ig_pass.specs.Sound.{IsSound}
use Rattle.ig_pass.specs.Unbound.{IsUnbound, LacksName, own_variables}
use Rattle.ig_core.specs.Notation.{IsSaid, IsOfNotation, unchanged}
use Rattle.ig_core.specs.Laws.{NotationIsBuildable}

no_name : (word : List ℕ) → is_name word ≡ false → IsName word → ⊥
no_name word other is = let both : false ≡ true = sym other ∙ is in cc

lacks_all : (name : List ℕ) → is_name name ≡ false → (words : List (List ℕ)) → All IsName words → Contains words name → ⊥
lacks_all name other words all here = no_name name other (All-contains IsName words name all here)

said_lacks : (name : List ℕ) → is_name name ≡ false → (x : Symbol) → IsSaid x → LacksName name x
said_lacks name other (Entry bindings x) said = absurd said
said_lacks name other x said = lacks_all name other (own_variables x) said

said_entered : (x : Symbol) → IsSaid x → IsEntered x
said_entered (Entry bindings x) said = absurd said
said_entered x said = tt

-- each declaration stands for itself
is_rule : (g : Grammar) (k : ℕ) (shape : Shape) → slice_get (as_written g) k ≡ Some shape → shape ≡ Rule
is_rule g k shape at = sym (unmapped_at (λ (decl : Decl). Rule) g.decls k shape at).2

module _ (new : AddedNamesAreNew) (g : Grammar) (said : IsOfNotation g) where
  unbound : (name : List ℕ) → is_name name ≡ false → IsUnbound g name
  unbound name other =
      record {
        parameters = λ decl among here.
            let p = unmapped_in (λ (p : Param). p.name) decl.params name here in
            let is : IsName p.0.name = All-contains (λ (p : Param). IsName p.name) decl.params p.0 (said.parameters decl among) p.1 in
            no_name name other (subst IsName p.2 is);
        symbols = λ decl level among inside.
            All-weaker IsSaid (LacksName name) (said_lacks name other)
            (subterms_of_alternatives (gathered_alternatives level.alts)) (said.within decl level among inside);
      }

  dotted : (after : List ℕ) → IsUnbound g (dot ∷ after)
  dotted after = unbound (dot ∷ after) (new.dotted [] after)

  declared : (word : List ℕ) → Contains (names g.decls) word → IsName word
  declared word here =
      let d = unmapped_in (λ (d : Decl). d.name) g.decls word here in subst IsName d.2 (said.declared d.0 d.1)

  fits : (k : ℕ) (decl : Decl) (shape : Shape) → slice_get g.decls k ≡ Some decl → slice_get (as_written g) k ≡ Some shape →
      FitsShape g (as_written g) k decl shape
  fits k decl shape at shape_at =
      subst (FitsShape g (as_written g) k decl) (sym (is_rule g k shape shape_at))
      (record { count = tt; level = λ other. absurd (other refl); root = λ e. cc })

  sound : IsSound (unchanged g)
  sound =
      record {
        scoped = said.scoped;
        fit = record { counted = length-map g.decls (λ decl. Rule); each = fits };
        well = said.well;
        entered = λ decl level among inside.
            All-weaker IsSaid IsEntered said_entered (subterms_of_alternatives (gathered_alternatives level.alts))
            (said.within decl level among inside);
        fresh = λ here. absurd (new.fresh g root_name declared new.root here);
        root_named = λ k decl at root_at. let e = is_rule g k _ root_at in cc;
        root_calls = λ k decl a at root_at. let e = is_rule g k _ root_at in cc;
        unsigned = λ decl among. new.unsigned decl.name (said.declared decl among);
      }

pub notation_buildable : AddedNamesAreNew → NotationIsBuildable
notation_buildable new g said =
    record {
      sound = sound new g said;
      plain = λ decl among is. absurd (said.kinds decl among is);
      left = dotted new g said (108 ∷ []);
      right = dotted new g said (114 ∷ []);
      margin = dotted new g said (109 ∷ []);
      first = dotted new g said (102 ∷ []);
      column = dotted new g said (99 ∷ []);
    }
