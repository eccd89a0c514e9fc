-- Declarations that are added one after another.
use Rattle.std.proofs.Common.{◌≡◌, ◌∙◌, ℕ, suc, ◌+◌, List, ◌∷◌, ◌++◌, Result, Ok, Err, map, sym, ap, append_assoc}
use Rattle.std.specs.Prelude.{OnOk}
use Rattle.std.proofs.lemmas.List.{map-append}
use Rattle.ig_grammar.specs.Symbol as tree
use Rattle.ig_grammar.specs.View.{symbol_of}
use Rattle.ig_grammar.specs.Visible.{Visible}
use Rattle.ig_grammar.specs.declared.symbol.Symbol.{Symbol as Stored}
use Rattle.ig_grammar.specs.declared.symbol.Symbol.TheVariants.{Opt, Star, Plus, SepStar, Group}
use Rattle.ig_grammar.specs.declared.symbol.Alt.{Alt}
use Rattle.ig_grammar.specs.declared.place.Shape.TheVariants as shape
use Rattle.ig_pass.specs.Added.{added_name}
use Rattle.ig_pass.specs.Needs.{needs}
use Rattle.ig_ebnf_variables.specs.Laws.{IsGathered}
use Rattle.ig_ebnf_variables.specs.Lists.{Made, made, decls_of, forms_of, params_for, count, added, added_alts, new_alts}
use Rattle.ig_ebnf.specs.Made.{Grows, option_made, star_made, plus_made, sep_star_made, sep_plus_made}
use Rattle.ig_ebnf.specs.declared.made.Lowered.{Lowered}

-- those that are still to be added
pub record Leads (before : Lowered) (ms : List Made) (after : Lowered) (rest : List Made) : Type 0 where
  pub decls : after.decls ++ decls_of rest ≡ before.decls ++ decls_of ms
  pub shapes : after.shapes ++ forms_of rest ≡ before.shapes ++ forms_of ms

-- the first of them are added
pub leads_on : (before mid after : Lowered) (ms all xs rest : List Made) → Leads before ms mid all → all ≡ xs ++ rest →
    Grows mid after xs →
    Leads before ms after rest
leads_on before mid after ms all xs rest l e g =
    record {
      decls = ap (λ z. z ++ decls_of rest) g.decls ∙ append_assoc mid.decls (decls_of xs) (decls_of rest) ∙
          ap (λ z. mid.decls ++ z) (sym (map-append (λ (m : Made). m.decl) xs rest)) ∙
          ap (λ z. mid.decls ++ decls_of z) (sym e) ∙ l.decls;
      shapes = ap (λ z. z ++ forms_of rest) g.shapes ∙ append_assoc mid.shapes (forms_of xs) (forms_of rest) ∙
          ap (λ z. mid.shapes ++ z) (sym (map-append (λ (m : Made). m.shape) xs rest)) ∙
          ap (λ z. mid.shapes ++ forms_of z) (sym e) ∙ l.shapes;
    }

-- the declarations of two lists, one behind the other
pub grows_then : (before mid after : Lowered) (xs ys ms : List Made) → Grows before mid xs → Grows mid after ys →
    ms ≡ xs ++ ys →
    Grows before after ms
grows_then before mid after xs ys ms g h e =
    record {
      decls = h.decls ∙ ap (λ z. z ++ decls_of ys) g.decls ∙ append_assoc before.decls (decls_of xs) (decls_of ys) ∙
          ap (λ z. before.decls ++ z) (sym (map-append (λ (m : Made). m.decl) xs ys)) ∙
          ap (λ z. before.decls ++ decls_of z) (sym e);
      shapes = h.shapes ∙ ap (λ z. z ++ forms_of ys) g.shapes ∙ append_assoc before.shapes (forms_of xs) (forms_of ys) ∙
          ap (λ z. before.shapes ++ z) (sym (map-append (λ (m : Made). m.shape) xs ys)) ∙
          ap (λ z. before.shapes ++ forms_of z) (sym e);
    }

pub on_ok_then : {E : Type 0} (r : Result (Unit {0}) E) (before mid after : Lowered) (xs ys ms : List Made) →
    Grows before mid xs →
    OnOk r (Grows mid after ys) → ms ≡ xs ++ ys → OnOk r (Grows before after ms)
on_ok_then (Ok u) before mid after xs ys ms g h e = grows_then before mid after xs ys ms g h e
on_ok_then (Err f) before mid after xs ys ms g h e = tt

-- what is added for a form: its own declaration, and those of what stands inside it
module _ (of : List ℕ) (v : Visible) (k : ℕ) (x : Stored) (n : ℕ) where
  pub option_adds : (y z : tree.Symbol) → x ≡ Opt y → n ≡ suc k → z ≡ y →
      added of v k (symbol_of x) ≡ option_made of v k (symbol_of x) y ∷ added of v n z
  option_adds y z e f g =
      ap (λ s. added of v k (symbol_of s)) e ∙ (λ i. option_made of v k (symbol_of (sym e i)) y ∷ added of v
      (sym f i) (sym g i))

  pub star_adds : (y z : tree.Symbol) → x ≡ Star y → n ≡ suc k → z ≡ y →
      added of v k (symbol_of x) ≡ star_made of v k (symbol_of x) y ∷ added of v n z
  star_adds y z e f g =
      ap (λ s. added of v k (symbol_of s)) e ∙ (λ i. star_made of v k (symbol_of (sym e i)) y ∷ added of v (sym f i)
      (sym g i))

  pub plus_adds : (y z : tree.Symbol) → x ≡ Plus y → n ≡ suc k → z ≡ y →
      added of v k (symbol_of x) ≡ plus_made of v k (symbol_of x) y ∷ added of v n z
  plus_adds y z e f g =
      ap (λ s. added of v k (symbol_of s)) e ∙ (λ i. plus_made of v k (symbol_of (sym e i)) y ∷ added of v (sym f i)
      (sym g i))

  -- a separated list that isn't empty, and what stands inside it
  abbrev pub separated : ℕ → Stored → tree.Symbol → tree.Symbol → List Made
  separated j s y separator =
      sep_plus_made of v j (symbol_of s) y separator ∷ (added of v (suc j) y ++ added of v (suc j + count y) separator)

  pub sep_star_adds : (y separator : tree.Symbol) → x ≡ SepStar y separator → n ≡ suc k →
      added of v k (symbol_of x) ≡ sep_star_made of v k (symbol_of x) ∷ separated n x y separator
  sep_star_adds y separator e f =
      ap (λ s. added of v k (symbol_of s)) e ∙ (λ i. sep_star_made of v k (symbol_of (sym e i)) ∷ separated (sym f i)
      (sym e i) y separator)

  pub group_adds : (choices : List Alt) → IsGathered choices → x ≡ Group choices → n ≡ suc k →
      added of v k (symbol_of x) ≡
      made (added_name of k) (params_for v (λ m. needs m (symbol_of x))) shape.Group
      (map (λ (a : Alt). a.symbols) (new_alts of v (suc k) choices)) ∷ added_alts of v n choices
  group_adds choices gathers e f =
      ap (λ s. added of v k (symbol_of s)) e ∙
      (λ i. made (added_name of k) (params_for v (λ m. needs m (symbol_of (sym e i)))) shape.Group
      (sym (gathers.lowered of v (suc k)) i) ∷
      (gathers.added of v (suc k) ∙ ap (λ j. added_alts of v j choices) (sym f)) i)
