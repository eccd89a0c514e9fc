-- Facts on lowered symbols.
use Rattle.std.proofs.Common.{◌≡◌, ℕ, suc, Bool, true, false, List, [], ◌∷◌, map, refl, sym, ◌∙◌, ap, subst, cond, Some}
use Rattle.std.specs.Prelude.{◌&&◌, not, slice_get, option_map, pos}
use Rattle.std.proofs.lemmas.Option.{slice_get-map}
use Rattle.std.proofs.lemmas.List.{append-nil}
use Rattle.std.proofs.Math.Bool.{and-false}
use Rattle.ig_text.specs.Input.{Input}
use Rattle.ig_text.specs.Tree.{Trees, none, more, join}
use Rattle.ig_expr.specs.Expression.{Expression}
use Rattle.ig_expr.specs.declared.value.Value.TheVariants as value
use Rattle.ig_grammar.specs.Binding.{Binding}
use Rattle.ig_grammar.specs.Symbol.{Symbol, Symbols, no_symbols, next_symbol, Alternatives, no_alternatives, next_alternative, listed}
use Rattle.ig_meaning.specs.Environment.{Environment}
use Rattle.ig_grammar.specs.Numbering.{Levelled, by_level, IsAlternative, IsChoice, choice}
use Rattle.ig_meaning.specs.Clean.{AllClean}
use Rattle.ig_grammar.specs.declared.symbol.Alt.{Alt}
use Rattle.ig_grammar.specs.declared.declaration.Assoc.TheVariants.{Free}
use Rattle.ig_grammar.specs.declared.declaration.Level.{Level}
use Rattle.ig_grammar.specs.declared.declaration.Decl.{Decl}
use Rattle.ig_grammar.specs.declared.grammar.Grammar.{Grammar}
use Rattle.ig_levels.specs.Levels.{no_pair, with_pair, in_symbols, in_alternatives, lowered, lowered_alternative, lowered_declaration, one_level, is_test, is_operand, only_tests, Place, elsewhere, is_left, is_right, pair_at}
use Rattle.ig_pass.specs.Added.{left_name, right_name}
use Rattle.ig_levels.proofs.WithBounds.{Bounds, bounded, Inserted, PairHas, SymbolsClear, AlternativesClear, AllClear, BindingsOfSource, AllOfSource}
use Rattle.ig_levels.proofs.Takes.{Fits, left_of, right_of, Wanted}
use Rattle.ig_text.proofs.Options.{mapped}
use Rattle.ig_text.proofs.Lists.{map_twice}
use Rattle.ig_text.proofs.Booleans.{first_true, rest_true}
use Rattle.ig_levels.proofs.Idle.{idle_wanted}
use Rattle.ig_levels.proofs.Inserting.{left_found, right_found, find}

pub nothing_wanted : (g : Grammar) (b : Bounds) (first : Bool) (xs : List Symbol) (vs : Trees) → Wanted g elsewhere b first xs vs
nothing_wanted g b first xs vs = idle_wanted g elsewhere refl b first xs vs

no_pair_elsewhere : (first : Bool) (x : Symbol) (xs : List Symbol) → pair_at elsewhere first x xs ≡ no_pair
no_pair_elsewhere first x xs = rw (and-false (is_operand [] x)) refl

module _ (levelled : List ℕ → Bool) where
  pub listed_lowered : (first : Bool) (xs : Symbols) → lowered levelled elsewhere first (listed xs) ≡ listed (in_symbols levelled xs)
  listed_lowered first no_symbols = refl
  listed_lowered first (next_symbol x xs) =
      λ z. with_pair levelled (no_pair_elsewhere first x (listed xs) z) x ∷ listed_lowered (first && is_test x) xs z

  pub choice_lowered : (choices : Alternatives) (n : ℕ) → choice (in_alternatives levelled choices) n ≡ option_map (in_symbols levelled) (choice choices n)
  choice_lowered no_alternatives n = refl
  choice_lowered (next_alternative xs others) ℕ.zero = refl
  choice_lowered (next_alternative xs others) (suc n) = choice_lowered others n

  pub chosen_to : (choices : Alternatives) (k : ℕ) (xs : Symbols) → IsChoice choices k xs → IsChoice (in_alternatives levelled choices) k (in_symbols levelled xs)
  chosen_to choices k xs chosen = (chosen.0, chosen.1, choice_lowered choices chosen.0 ∙ ap (option_map (in_symbols levelled)) chosen.2)

  abbrev pub flat : Decl → Levelled → Levelled
  flat decl a = record { alternative = lowered_alternative levelled decl a; level = 1; assoc = Free }

  abbrev free_alternative : Alt → Levelled
  free_alternative alt = record { alternative = alt; level = 1; assoc = Free }

  in_one_level : (levels : List Level) (alts : List Alt) (f : Levelled → Alt) → alts ≡ map f (by_level levels) →
      by_level (one_level levels alts) ≡ map (λ a. record { alternative = f a; level = 1; assoc = Free }) (by_level levels)
  in_one_level [] alts f same = refl
  in_one_level (level ∷ levels) alts f same =
      append-nil (map free_alternative alts) ∙ ap (map free_alternative) same ∙ map_twice f free_alternative (by_level (level ∷ levels))

  pub alternative_to : (decl : Decl) (k : ℕ) (a : Levelled) → IsAlternative decl k a → IsAlternative (lowered_declaration levelled decl) k (flat decl a)
  alternative_to decl k a numbered = (
    numbered.0,
    numbered.1,
    ap (λ xs. slice_get xs numbered.0) (in_one_level decl.levels _ (lowered_alternative levelled decl) refl) ∙
        slice_get-map (flat decl) (by_level decl.levels) numbered.0 ∙
        ap (option_map (flat decl)) numbered.2,
  )

  pub record AlternativeFrom (decl : Decl) (k : ℕ) (lower : Levelled) : Type 0 where
    pub a : Levelled
    pub numbered : IsAlternative decl k a
    pub same : lower ≡ flat decl a

  pub alternative_from : (decl : Decl) (k : ℕ) (lower : Levelled) → IsAlternative (lowered_declaration levelled decl) k lower → AlternativeFrom decl k lower
  alternative_from decl k lower numbered =
      let there : option_map (flat decl) (slice_get (by_level decl.levels) numbered.0) ≡ Some lower =
      sym (ap (λ xs. slice_get xs numbered.0) (in_one_level decl.levels _ (lowered_alternative levelled decl) refl) ∙
      slice_get-map (flat decl) (by_level decl.levels) numbered.0) ∙ numbered.2 in
      let from = mapped (flat decl) (slice_get (by_level decl.levels) numbered.0) lower there in
      record { a = from.0; numbered = (numbered.0, numbered.1, from.1); same = from.2 }

  pub record ChoiceFrom (choices : Alternatives) (k : ℕ) (ys : Symbols) : Type 0 where
    pub xs : Symbols
    pub chosen : IsChoice choices k xs
    pub same : ys ≡ in_symbols levelled xs

  pub chosen_from : (choices : Alternatives) (k : ℕ) (ys : Symbols) → IsChoice (in_alternatives levelled choices) k ys → ChoiceFrom choices k ys
  chosen_from choices k ys chosen =
      let from = mapped (in_symbols levelled) (choice choices chosen.0) ys (sym (choice_lowered choices chosen.0) ∙ chosen.2) in
      record { xs = from.0; chosen = (chosen.0, chosen.1, from.1); same = from.2 }

pub clear_listed : (xs : Symbols) → SymbolsClear xs → AllClear (listed xs)
clear_listed no_symbols w = tt
clear_listed (next_symbol x xs) w = (w.0, clear_listed xs w.1)

pub clear_choice : (choices : Alternatives) (n : ℕ) (xs : Symbols) → AlternativesClear choices → choice choices n ≡ Some xs → SymbolsClear xs
clear_choice no_alternatives n xs w e = absurd (cc)
clear_choice (next_alternative ys others) ℕ.zero xs w e = let same : ys ≡ xs = cc in subst (SymbolsClear) same w.0
clear_choice (next_alternative ys others) (suc n) xs w e = clear_choice others n xs w.1 e

pub bindings_of_source : (bs : List Binding) → BindingsOfSource bs → AllOfSource (map (λ b. b.value) bs)
bindings_of_source [] s = tt
bindings_of_source (b ∷ bs) s = (s.1, bindings_of_source bs s.2)

module _ (g : Grammar) where
  pub clean_parts : (ts us : Trees) → AllClean g (join ts us) → AllClean g ts × AllClean g us
  clean_parts none us c = (tt, c)
  clean_parts (more t ts) us c = let below = clean_parts ts us c.1 in ((c.0, below.0), below.1)

  pub clean_join : (ts us : Trees) → AllClean g ts → AllClean g us → AllClean g (join ts us)
  clean_join none us c d = d
  clean_join (more t ts) us c d = (c.0, clean_join ts us c.1 d)

pub no_pair_has : (text : Input) (env : Environment) (i : ℕ) → PairHas text env i no_pair 0 0
no_pair_has text env i = record { left = refl; right = refl }

-- the arguments of an operand have the bounds as values
pub pair_has : (text : Input) {b : Bounds} {env env' : Environment} → Inserted b env env' → (p : Place) → Fits p b → (first : Bool) (x : Symbol) (others : List Symbol) (i : ℕ)
    (g : Grammar) → PairHas text env' i (pair_at p first x others) (cond (is_left p first x others) (left_of b) (cond (is_right p first x others) p.right 0))
    (cond (is_left p first x others) p.left (cond (is_right p first x others) (right_of b) 0))
pair_has text {b = b} {env = env} {env' = env'} ins p fits first x others i g = go (is_left p first x others) refl (is_right p first x others) refl
  where
    left_there : (l r : ℕ) → b ≡ bounded l r → find env' left_name ≡ Some (value.Int (pos (left_of b)))
    left_there l r same = left_found ins l r same ∙ (λ z. Some (value.Int (pos (left_of (sym same z)))))

    right_there : (l r : ℕ) → b ≡ bounded l r → find env' right_name ≡ Some (value.Int (pos (right_of b)))
    right_there l r same = right_found ins l r same ∙ (λ z. Some (value.Int (pos (right_of (sym same z)))))

    go : (m : Bool) → is_left p first x others ≡ m → (n : Bool) → is_right p first x others ≡ n →
        PairHas text env' i
        (cond m (record { left = Rattle.ig_expr.specs.Expression.Variable left_name; right = Rattle.ig_expr.specs.Expression.Integer (pos p.left) })
        (cond n (record { left = Rattle.ig_expr.specs.Expression.Integer (pos p.right); right = Rattle.ig_expr.specs.Expression.Variable right_name }) no_pair))
        (cond m (left_of b) (cond n p.right 0)) (cond m p.left (cond n (right_of b) 0))
    go true l n r =
        let active = first_true p.active (first && not (only_tests others)) (rest_true (is_operand p.own x) (p.active && (first && not (only_tests others))) l) in
        let at = fits active in
        record { left = left_there at.0 at.1 at.2; right = refl }
    go false l true r =
        let active = first_true p.active (not first && only_tests others) (rest_true (is_operand p.own x) (p.active && (not first && only_tests others)) r) in
        let at = fits active in
        record { left = refl; right = right_there at.0 at.1 at.2 }
    go false l false r = record { left = refl; right = refl }
