-- The parts of an option, a list or a group are an alternative of the declaration that is added for it.
use Rattle.std.proofs.Common.{◌≡◌, ℕ, suc, ◌+◌, Bool, true, false, List, [], ◌∷◌, ◌++◌, refl, sym, ◌∙◌, ap}
use Rattle.std.proofs.Common.{Some}
use Rattle.std.specs.Prelude.{◌||◌, slice_get}
use Rattle.std.proofs.lemmas.List.{append-nil}
use Rattle.std.proofs.lemmas.Bool.{or_left, or_right}
use Rattle.std.proofs.Math.Bool.{or-false}
use Rattle.ig_text.specs.Input.{untabbed}
use Rattle.ig_text.specs.declared.tag.Tag.{Tag}
use Rattle.ig_text.specs.declared.tag.Tag.TheVariants as tag
use Rattle.ig_ebnf_variables.proofs.AddedInstances.{chosen_to}
use Rattle.ig_ebnf_variables.proofs.Definitions.{has, AllDeclared, IsForm, IsSingle, Proper}
use Rattle.ig_ebnf_variables.proofs.Elements.{declared_first, declared_second}
use Rattle.ig_ebnf_variables.specs.Lists.{count, element, elements, made, new, new_alternatives, new_symbol, new_symbols}
use Rattle.ig_ebnf_variables.specs.Lists.{params_for, sep_plus_alternatives, added}
use Rattle.ig_grammar.specs.Numbering.{Declares, tag_of}
use Rattle.ig_grammar.specs.Symbol.{Symbol, Label, Let, Opt, Star, Plus, SepStar, SepPlus, Offside, Ignore}
use Rattle.ig_grammar.specs.Symbol.{Align, Filtered, Seq}
use Rattle.ig_grammar.specs.Visible.{Visible, binds}
use Rattle.ig_grammar.specs.declared.grammar.Grammar.{Grammar}
use Rattle.ig_grammar.specs.declared.place.Shape.{Shape}
use Rattle.ig_grammar.specs.declared.place.Shape.TheVariants as shape
use Rattle.ig_meaning.specs.Annotated as a
use Rattle.ig_meaning.specs.Annotated.{HasParts}
use Rattle.ig_pass.specs.Added.{added_name}
use Rattle.ig_pass.specs.Needs.{needs, alternatives_need, is_pair}

-- a symbol that is no sequence is its one element
pub lone_element : (v : Visible) (k : ℕ) (x : Symbol) → IsSingle x → elements v k x ≡ element v k x ∷ []
lone_element v k (Seq xs) single = absurd single
lone_element v k x single = refl

-- options, lists and groups bind nothing
pub form_binds : (v : Visible) (x : Symbol) → IsForm x → binds v x ≡ []
form_binds v (Label name x) form = absurd form
form_binds v (Let name e) form = absurd form
form_binds v (Offside x) form = absurd form
form_binds v (Ignore x) form = absurd form
form_binds v (Align x) form = absurd form
form_binds v (Filtered x filters) form = absurd form
form_binds v (Seq xs) form = absurd form
form_binds v x form = refl

-- what has parts is an option, a list or a group
pub parts_form : {x : Symbol} {form : Tag} {parts : List Symbol} → HasParts x form parts → IsForm x
parts_form (a.absent x) = tt
parts_form (a.present x) = tt
parts_form (a.nil x) = tt
parts_form (a.snoc x) = tt
parts_form (a.one_item x) = tt
parts_form (a.more_items x) = tt
parts_form (a.first_item x separator) = tt
parts_form (a.further_item x separator) = tt
parts_form (a.no_item x separator) = tt
parts_form (a.some_items x separator) = tt
parts_form (a.chosen choices k xs choice) = tt

-- what some of the parts want
abbrev pub parts_need : List ℕ → List Symbol → Bool
parts_need n [] = false
parts_need n (x ∷ xs) = needs n x || parts_need n xs

-- what follows from each of two follows from either
or_either : (a b c : Bool) → (a ≡ true → c ≡ true) → (b ≡ true → c ≡ true) → (a || b) ≡ true → c ≡ true
or_either true b c f g e = f refl
or_either false b c f g e = g e

module _ (g' : Grammar) (shapes' : List Shape) (May : List ℕ → Type 0) (of : List ℕ) (v : Visible) where
  -- parts with the numbers of what is added for them, each of which may be lowered, and binds nothing that those behind
  -- it want
  abbrev pub Fit : List Symbol → List ℕ → Type 0
  Fit [] ks = Unit {0}
  Fit (x ∷ xs) [] = ⊥
  Fit (x ∷ xs) (k ∷ ks) =
      Proper May v x × AllDeclared g' shapes' (added of v k x) ×
      ((n : List ℕ) → parts_need n xs ≡ true → has (binds v x) n ≡ false) × Fit xs ks

  -- what stands for the parts
  abbrev pub new_parts : List Symbol → List ℕ → List Symbol
  new_parts [] ks = []
  new_parts (x ∷ xs) [] = []
  new_parts (x ∷ xs) (k ∷ ks) = new of v k x ++ new_parts xs ks

  -- the alternative, of a declaration that is added for the symbol, in which the parts stand
  pub record PartsMade (k : ℕ) (x : Symbol) (form : Tag) (parts : List Symbol) : Type 0 where
    pub of_shape : Shape
    pub alts : List (List Symbol)
    pub declared : (d : ℕ) × Declares g' shapes' (added_name of k) d
        (made (added_name of k) (params_for v (λ n. needs n x)) of_shape alts).decl of_shape
    pub n : ℕ
    pub symbols : List Symbol
    pub at : slice_get alts n ≡ Some symbols
    pub tagged : tag_of of_shape declared.0 (suc n) ≡ form
    pub ks : List ℕ
    pub whole : symbols ≡ new_parts parts ks
    pub fit : Fit parts ks
    pub wanted : (m : List ℕ) → parts_need m parts ≡ true → needs m x ≡ true

  -- where there are no parts nothing is wanted
  nothing_wanted : (w : Bool) → false ≡ true → w ≡ true
  nothing_wanted w e = absurd (cc)

  -- an item is wanted with its list
  item_wanted : (w b : Bool) → (b || false) ≡ true → (w || b) ≡ true
  item_wanted w b e = or_right w b (sym (or-false b) ∙ e)

  -- a part alone fits
  alone_fit : (k : ℕ) (x : Symbol) → Proper May v x → AllDeclared g' shapes' (added of v k x) → Fit (x ∷ []) (k ∷ [])
  alone_fit k x p all = (p, all, (λ n e. absurd (cc)), tt)

  -- the parts of each form stand in an alternative of what is added for it
  pub parts_made : {x : Symbol} {form : Tag} {parts : List Symbol} → HasParts x form parts → (k : ℕ) → Proper May v x →
      AllDeclared g' shapes' (added of v k x) → PartsMade k x form parts
  parts_made (a.absent x) k p all =
      record {
        of_shape = shape.Opt;
        alts = [] ∷ new of v (suc k) x ∷ [];
        declared = all.0;
        n = 0;
        symbols = [];
        at = refl;
        tagged = refl;
        ks = [];
        whole = refl;
        fit = tt;
        wanted = λ m. nothing_wanted (needs m (Opt x));
      }
  parts_made (a.present x) k p all =
      record {
        of_shape = shape.Opt;
        alts = [] ∷ new of v (suc k) x ∷ [];
        declared = all.0;
        n = 1;
        symbols = new of v (suc k) x;
        at = refl;
        tagged = refl;
        ks = suc k ∷ [];
        whole = sym (append-nil (new of v (suc k) x));
        fit = alone_fit (suc k) x p all.1;
        wanted = λ m. item_wanted (is_pair m) (needs m x);
      }
  parts_made (a.nil x) k p all =
      record {
        of_shape = shape.Star;
        alts = [] ∷ (new_symbol of v k (Star x) ∷ new of v (suc k) x) ∷ [];
        declared = all.0;
        n = 0;
        symbols = [];
        at = refl;
        tagged = refl;
        ks = [];
        whole = refl;
        fit = tt;
        wanted = λ m. nothing_wanted (needs m (Star x));
      }
  parts_made (a.snoc x) k p all =
      record {
        of_shape = shape.Star;
        alts = [] ∷ (new_symbol of v k (Star x) ∷ new of v (suc k) x) ∷ [];
        declared = all.0;
        n = 1;
        symbols = new_symbol of v k (Star x) ∷ new of v (suc k) x;
        at = refl;
        tagged = refl;
        ks = k ∷ suc k ∷ [];
        whole = ap (λ z. new_symbol of v k (Star x) ∷ z) (sym (append-nil (new of v (suc k) x)));
        fit = (p, all, (λ n e. refl), alone_fit (suc k) x p all.1);
        wanted = λ m.
            or_either (needs m (Star x)) (needs m x || false) (needs m (Star x)) (λ e. e)
            (item_wanted (is_pair m) (needs m x));
      }
  parts_made (a.one_item x) k p all =
      record {
        of_shape = shape.Plus;
        alts = new of v (suc k) x ∷ (new_symbol of v k (Plus x) ∷ new of v (suc k) x) ∷ [];
        declared = all.0;
        n = 0;
        symbols = new of v (suc k) x;
        at = refl;
        tagged = refl;
        ks = suc k ∷ [];
        whole = sym (append-nil (new of v (suc k) x));
        fit = alone_fit (suc k) x p all.1;
        wanted = λ m. item_wanted (is_pair m) (needs m x);
      }
  parts_made (a.more_items x) k p all =
      record {
        of_shape = shape.Plus;
        alts = new of v (suc k) x ∷ (new_symbol of v k (Plus x) ∷ new of v (suc k) x) ∷ [];
        declared = all.0;
        n = 1;
        symbols = new_symbol of v k (Plus x) ∷ new of v (suc k) x;
        at = refl;
        tagged = refl;
        ks = k ∷ suc k ∷ [];
        whole = ap (λ z. new_symbol of v k (Plus x) ∷ z) (sym (append-nil (new of v (suc k) x)));
        fit = (p, all, (λ n e. refl), alone_fit (suc k) x p all.1);
        wanted = λ m.
            or_either (needs m (Plus x)) (needs m x || false) (needs m (Plus x)) (λ e. e)
            (item_wanted (is_pair m) (needs m x));
      }
  parts_made (a.first_item x separator) k p all =
      record {
        of_shape = shape.SepPlus;
        alts = sep_plus_alternatives of v k x separator;
        declared = all.0;
        n = 0;
        symbols = new of v (suc k) x;
        at = refl;
        tagged = refl;
        ks = suc k ∷ [];
        whole = sym (append-nil (new of v (suc k) x));
        fit =
            alone_fit (suc k) x p.0
            (declared_first g' shapes' May (added of v (suc k) x) (added of v (suc k + count x) separator) all.1);
        wanted = λ m e.
            or_right (is_pair m) (needs m x || needs m separator)
            (or_left (needs m x) (needs m separator) (sym (or-false (needs m x)) ∙ e));
      }
  parts_made (a.further_item x separator) k p all =
      let here = declared_first g' shapes' May (added of v (suc k) x) (added of v (suc k + count x) separator) all.1 in
      let there = declared_second g' shapes' May (added of v (suc k) x) (added of v (suc k + count x) separator) all.1 in
      record {
        of_shape = shape.SepPlus;
        alts = sep_plus_alternatives of v k x separator;
        declared = all.0;
        n = 1;
        symbols =
            new_symbol of v k (SepPlus x separator) ∷ (new of v (suc k + count x) separator ++ new of v (suc k) x);
        at = refl;
        tagged = refl;
        ks = k ∷ (suc k + count x) ∷ suc k ∷ [];
        whole =
            ap (λ z. new_symbol of v k (SepPlus x separator) ∷ (new of v (suc k + count x) separator ++ z))
            (sym (append-nil (new of v (suc k) x)));
        fit = (
          p,
          all,
          (λ n e. refl),
          (p.1, there, (λ n e. p.2 n (sym (or-false (needs n x)) ∙ e)), alone_fit (suc k) x p.0 here),
        );
        wanted = λ m.
            let w = needs m (SepPlus x separator) in
            let items = needs m x || needs m separator in
            or_either w (needs m separator || (needs m x || false)) w (λ e. e)
            (or_either (needs m separator) (needs m x || false) w
            (λ e. or_right (is_pair m) items (or_right (needs m x) (needs m separator) e))
            (λ e.
            or_right (is_pair m) items (or_left (needs m x) (needs m separator) (sym (or-false (needs m x)) ∙ e))));
      }
  parts_made (a.no_item x separator) k p all =
      record {
        of_shape = shape.SepStar;
        alts = [] ∷ (new_symbol of v (suc k) (SepPlus x separator) ∷ []) ∷ [];
        declared = all.0;
        n = 0;
        symbols = [];
        at = refl;
        tagged = refl;
        ks = [];
        whole = refl;
        fit = tt;
        wanted = λ m. nothing_wanted (needs m (SepStar x separator));
      }
  parts_made (a.some_items x separator) k p all =
      record {
        of_shape = shape.SepStar;
        alts = [] ∷ (new_symbol of v (suc k) (SepPlus x separator) ∷ []) ∷ [];
        declared = all.0;
        n = 1;
        symbols = new_symbol of v (suc k) (SepPlus x separator) ∷ [];
        at = refl;
        tagged = refl;
        ks = suc k ∷ [];
        whole = refl;
        fit = alone_fit (suc k) (SepPlus x separator) p all.1;
        wanted = λ m e. sym (or-false (needs m (SepPlus x separator))) ∙ e;
      }
  parts_made (a.chosen choices k2 xs chosen) k p all =
      let at = chosen_to g' shapes' (untabbed []) May of v choices (suc k) chosen.0 xs chosen.2 p all.1 in
      record {
        of_shape = shape.Group;
        alts = new_alternatives of v (suc k) choices;
        declared = all.0;
        n = chosen.0;
        symbols = new_symbols of v at.k2 xs;
        at = at.at;
        tagged = ap tag.GroupAlt (sym chosen.1);
        ks = at.k2 ∷ [];
        whole = sym (append-nil (new_symbols of v at.k2 xs));
        fit = alone_fit at.k2 (Seq xs) at.proper at.present;
        wanted = λ m e.
            or_right (is_pair m) (alternatives_need m choices)
            (at.needed m (sym (or-false (needs m (Seq xs))) ∙ e));
      }
