-- Of which form is what the pass makes of a symbol, and what it binds.
use Rattle.std.proofs.Common.{◌≡◌, ◌∙◌, Bool, true, false, List, [], ◌∷◌, ◌++◌, Option, Some, None, refl, sym, ap, ap₂, subst}
use Rattle.std.specs.Prelude.{All}
use Rattle.std.proofs.lemmas.List.{append-nil}
use Rattle.ig_grammar.specs.Binding.{Binding}
use Rattle.ig_grammar.specs.Regular.{MayHaveLabel, MayHaveFilters, MayHaveSign, MayBeSeparated, MayHaveEntry, IsPlaced}
use Rattle.ig_grammar.specs.Subterms.{subterms, bound_names, names_bound_by}
use Rattle.ig_grammar.specs.Symbol.{Symbol, Literal, OneOf, Call, Label, Guard, Let, Opt, Star, Plus, SepStar, SepPlus, Group, Offside, Ignore, Align, Filtered, Seq, Entry}
use Rattle.ig_grammar.specs.Symbol.{Symbols, no_symbols, next_symbol, gathered}
use Rattle.ig_grammar.specs.declared.declaration.DeclKind.{DeclKind}
use Rattle.ig_grammar.specs.declared.declaration.DeclKind.TheVariants.{Syntax, Lexical, Layout, Plain}
use Rattle.ig_blocks_parts.specs.Setting.{Setting, Pair, lacking, carried, opened, cleared, opened_by, cleared_by, inner, pair_bindings, column_bindings, guards, column_guards, wrapped, entered}
use Rattle.ig_blocks_parts.specs.Body.{call_tests, tests_of, body_of, sequence_of}
use Rattle.ig_grammar.specs.Forms.{label_of_marked, sign_of_filtered, separated_of_label}
use Rattle.ig_grammar.specs.ByForm.{own_part, inner_parts}

entered_label : (bs : List Binding) (y : Symbol) → MayHaveLabel y → MayHaveLabel (entered bs y)
entered_label [] y h = h
entered_label (b ∷ bs) y h = tt

entered_filters : (bs : List Binding) (y : Symbol) → MayHaveFilters y → MayHaveFilters (entered bs y)
entered_filters [] y h = h
entered_filters (b ∷ bs) y h = tt

module _ (s : Setting) where
  pub label_form : (x : Symbol) (al : Bool) (p : Pair) → All IsPlaced (subterms x) → MayHaveLabel x → MayHaveLabel (body_of s al p x)
  label_form (Literal word) al p all h = tt
  label_form (OneOf class) al p all h = tt
  label_form (Call name arguments) al p all h = tt
  label_form (Label name x) al p all h = absurd h
  label_form (Guard e) al p all h = absurd h
  label_form (Let name e) al p all h = absurd h
  label_form (Opt x) al p all h = entered_label (pair_bindings s p ++ column_bindings s false) _ tt
  label_form (Star x) al p all h = entered_label (pair_bindings s p ++ column_bindings s al) _ tt
  label_form (Plus x) al p all h = entered_label (pair_bindings s p ++ column_bindings s al) _ tt
  label_form (SepStar x separator) al p all h = entered_label (pair_bindings s p ++ column_bindings s al) _ tt
  label_form (SepPlus x separator) al p all h = entered_label (pair_bindings s p ++ column_bindings s al) _ tt
  label_form (Group choices) al p all h = entered_label (pair_bindings s p ++ column_bindings s false) _ tt
  label_form (Offside x) al p all h =
      let own = own_part IsPlaced (Offside x) all in label_form x al (opened_by s p) (inner_parts IsPlaced (Offside x) all) (label_of_marked x own.1)
  label_form (Ignore x) al p all h =
      let own = own_part IsPlaced (Ignore x) all in label_form x al (cleared_by p) (inner_parts IsPlaced (Ignore x) all) (label_of_marked x own.1)
  label_form (Align x) al p all h =
      let own = own_part IsPlaced (Align x) all in label_form x true p (inner_parts IsPlaced (Align x) all) (label_of_marked x own.1)
  label_form (Filtered x filters) al p all h = tt
  label_form (Seq xs) al p all h = absurd h
  label_form (Entry bindings x) al p all h = tt

  pub filters_form : (x : Symbol) (al : Bool) (p : Pair) → MayHaveFilters x → MayHaveFilters (body_of s al p x)
  filters_form (Literal word) al p h = tt
  filters_form (OneOf class) al p h = tt
  filters_form (Call name arguments) al p h = tt
  filters_form (Opt x) al p h = entered_filters (pair_bindings s p ++ column_bindings s false) _ tt
  filters_form (Star x) al p h = entered_filters (pair_bindings s p ++ column_bindings s al) _ tt
  filters_form (Plus x) al p h = entered_filters (pair_bindings s p ++ column_bindings s al) _ tt
  filters_form (SepStar x separator) al p h = entered_filters (pair_bindings s p ++ column_bindings s al) _ tt
  filters_form (SepPlus x separator) al p h = entered_filters (pair_bindings s p ++ column_bindings s al) _ tt
  filters_form (Group choices) al p h = entered_filters (pair_bindings s p ++ column_bindings s false) _ tt
  filters_form (Entry bindings x) al p h = tt
  filters_form x al p h = absurd h

  pub sign_form : (x : Symbol) (al : Bool) (p : Pair) → MayHaveSign x → MayHaveSign (body_of s al p x)
  sign_form (Seq xs) al p h = tt
  sign_form x al p h = sign_of_filtered (body_of s al p x) (filters_form x al p h)

  pub separated_form : (x : Symbol) (al : Bool) (p : Pair) → All IsPlaced (subterms x) → MayBeSeparated x → MayBeSeparated (body_of s al p x)
  separated_form (Seq xs) al p all h = tt
  separated_form x al p all h = separated_of_label (body_of s al p x) (label_form x al p all h)

  no_bindings : (p : Pair) → pair_bindings s (inner p) ++ column_bindings s false ≡ []
  no_bindings lacking = refl
  no_bindings carried = refl
  no_bindings (opened a b) = refl
  no_bindings cleared = refl

  entry_at : (p : Pair) (y : Symbol) → MayHaveEntry y → MayHaveEntry (entered (pair_bindings s (inner p) ++ column_bindings s false) y)
  entry_at p y h = subst (λ bs. MayHaveEntry (entered bs y)) (sym (no_bindings p)) h

  pub entry_form : (x : Symbol) (p : Pair) → MayHaveEntry x → MayHaveEntry (body_of s false (inner p) x)
  entry_form (Opt x) p h = entry_at p _ tt
  entry_form (Star x) p h = entry_at p _ tt
  entry_form (Plus x) p h = entry_at p _ tt
  entry_form (SepStar x separator) p h = entry_at p _ tt
  entry_form (SepPlus x separator) p h = entry_at p _ tt
  entry_form (Group choices) p h = entry_at p _ tt
  entry_form x p h = absurd h

  -- tests
  abbrev pub AreTests : List Symbol → Type 0
  AreTests [] = Unit {0}
  AreTests (Guard e ∷ gs) = AreTests gs
  AreTests (x ∷ gs) = ⊥

  guards_test : (p : Pair) → AreTests (guards s p)
  guards_test lacking = tt
  guards_test carried = tt
  guards_test (opened a b) = tt
  guards_test cleared = tt

  call_test : (p : Pair) (kind : Option DeclKind) → AreTests (call_tests s p kind)
  call_test p (Some Lexical) = guards_test p
  call_test p (Some Syntax) = tt
  call_test p (Some Layout) = tt
  call_test p (Some Plain) = tt
  call_test p None = tt

  pub tests_are : (x : Symbol) (p : Pair) → AreTests (tests_of s p x)
  tests_are (Literal word) p = guards_test p
  tests_are (OneOf class) p = guards_test p
  tests_are (Call name arguments) p = call_test p (s.kind_of name)
  tests_are (Label name x) p = tests_are x p
  tests_are (Offside x) p = tests_are x (opened_by s p)
  tests_are (Ignore x) p = tests_are x (cleared_by p)
  tests_are (Filtered x filters) p = tests_are x p
  tests_are x p = tt

  pub column_tests_are : (al : Bool) (gs : List Symbol) → AreTests gs → AreTests (column_guards s al ++ gs)
  column_tests_are false gs t = t
  column_tests_are true gs t = t

  pub wrapped_sign : (gs : List Symbol) (y : Symbol) → MayHaveSign y → MayHaveSign (wrapped gs y)
  wrapped_sign [] y h = h
  wrapped_sign (g ∷ gs) y h = tt

  pub wrapped_separated : (gs : List Symbol) (y : Symbol) → MayBeSeparated y → MayBeSeparated (wrapped gs y)
  wrapped_separated [] y h = h
  wrapped_separated (g ∷ gs) y h = tt

  behind_tests : (gs : List Symbol) (y : Symbol) → AreTests gs → names_bound_by (gathered (gs ++ y ∷ [])) ≡ bound_names y
  behind_tests [] y t = append-nil (bound_names y)
  behind_tests (Guard e ∷ gs) y t = behind_tests gs y t
  behind_tests (x ∷ gs) y t = absurd t

  pub wrapped_bound : (gs : List Symbol) (y : Symbol) → AreTests gs → bound_names (wrapped gs y) ≡ bound_names y
  wrapped_bound [] y t = refl
  wrapped_bound (g ∷ gs) y t = behind_tests (g ∷ gs) y t

  entered_bound : (bs : List Binding) (y : Symbol) → bound_names y ≡ [] → bound_names (entered bs y) ≡ []
  entered_bound [] y e = e
  entered_bound (b ∷ bs) y e = refl

  mutual
    -- the same names are bound
    pub bound_kept : (x : Symbol) (al : Bool) (p : Pair) → bound_names (body_of s al p x) ≡ bound_names x
    bound_kept (Literal word) al p = refl
    bound_kept (OneOf class) al p = refl
    bound_kept (Call name arguments) al p = refl
    bound_kept (Label name x) al p = ap (λ ns. ns ++ name ∷ []) (bound_kept x false p)
    bound_kept (Guard e) al p = refl
    bound_kept (Let name e) al p = refl
    bound_kept (Opt x) al p = entered_bound (pair_bindings s p ++ column_bindings s false) _ refl
    bound_kept (Star x) al p = entered_bound (pair_bindings s p ++ column_bindings s al) _ refl
    bound_kept (Plus x) al p = entered_bound (pair_bindings s p ++ column_bindings s al) _ refl
    bound_kept (SepStar x separator) al p = entered_bound (pair_bindings s p ++ column_bindings s al) _ refl
    bound_kept (SepPlus x separator) al p = entered_bound (pair_bindings s p ++ column_bindings s al) _ refl
    bound_kept (Group choices) al p = entered_bound (pair_bindings s p ++ column_bindings s false) _ refl
    bound_kept (Offside x) al p = bound_kept x al (opened_by s p)
    bound_kept (Ignore x) al p = bound_kept x al (cleared_by p)
    bound_kept (Align x) al p = bound_kept x true p
    bound_kept (Filtered x filters) al p = bound_kept x al p
    bound_kept (Seq xs) al p = symbols_bound xs p
    bound_kept (Entry bindings x) al p = refl

    symbols_bound : (xs : Symbols) (p : Pair) → names_bound_by (sequence_of s p xs) ≡ names_bound_by xs
    symbols_bound no_symbols p = refl
    symbols_bound (next_symbol x xs) p =
        ap₂ (λ a b. a ++ b) (wrapped_bound (tests_of s p x) (body_of s false p x) (tests_are x p) ∙ bound_kept x false p) (symbols_bound xs p)
