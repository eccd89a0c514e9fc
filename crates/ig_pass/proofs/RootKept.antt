-- A sound grammar stays sound with a declaration that stands for the root, and keeps what passes ask of it.
use Rattle.std.proofs.Common.{◌≡◌, ◌⊎◌, ◌∙◌, ℕ, suc, ◌<◌, Bool, true, false, List, [], ◌∷◌, ◌++◌, Some, cond, length, map, refl, sym, ap, subst, arith, inl, inr}
use Rattle.std.specs.Prelude.{All, Contains, slice_get, if◌then◌else◌}
use Rattle.std.proofs.lemmas.Option.{slice_get_within}
use Rattle.std.proofs.lemmas.List.Elements.{Contains-push_cases}
use Rattle.ig_text.proofs.Lists.{contains_one, none_in_nil, place_cases, get_within}
use Rattle.ig_grammar.specs.Checked.{CheckedGrammar, FitShapes, IsCall}
use Rattle.ig_grammar.specs.Numbering.{layout_among, alternatives}
use Rattle.ig_grammar.specs.Regular.{IsPlaced}
use Rattle.ig_grammar.specs.Symbol.{Symbol, Call}
use Rattle.ig_grammar.specs.WellScoped.{IsWellScoped}
use Rattle.ig_grammar.specs.declared.symbol.Alt.{Alt}
use Rattle.ig_grammar.specs.declared.declaration.DeclKind.TheVariants.{Syntax}
use Rattle.ig_grammar.specs.declared.declaration.Decl.{Decl}
use Rattle.ig_grammar.specs.declared.place.Shape.{Shape}
use Rattle.ig_grammar.specs.declared.place.Shape.TheVariants.{Root}
use Rattle.ig_meaning.specs.Laws.{HasNoOperators}
use Rattle.ig_pass.specs.Added.{root_name, AddedNamesAreNew, IsFresh, HasNoSign}
use Rattle.ig_pass.specs.KeptByRoot.{RootAt, IsCheckedToo, IsSoundToo, KeptByRoot, RootKeeps}
use Rattle.ig_pass.specs.Needs.{IsEntered}
use Rattle.ig_pass.specs.Remaining.{IsRemaining, Remains}
use Rattle.ig_pass.specs.Rooted.{root_symbols, root_declaration, is_root, has_root, with_root, rooted, RootedIsTheSame}
use Rattle.ig_pass.specs.SameTrees.{SameTreesIsAnEquivalence}
use Rattle.ig_pass.specs.Sound.{IsSound, IsFree, RootIsNamed, RootHasCallsAlone}
use Rattle.ig_pass.specs.Unbound.{IsUnbound, LacksName}
use Rattle.ig_pass.proofs.RootCalls.{no_root_shape, layout_kept}
use Rattle.ig_pass.proofs.RootShaped.{all_calls, each_symbol, calls_are_placed, plain_before, rooted_is_unmarked}

has_added : (shapes : List Shape) → has_root (shapes ++ Root ∷ []) ≡ true
has_added [] = refl
has_added (s ∷ shapes) = go (is_root s) (has_added shapes)
  where
    go : (b : Bool) → has_root (shapes ++ Root ∷ []) ≡ true → cond b true (has_root (shapes ++ Root ∷ [])) ≡ true
    go true e = refl
    go false e = e

root_shape : (s : Shape) → is_root s ≡ true → s ≡ Root
root_shape Root e = refl
root_shape s e = absurd (cc)

root_among : (shapes : List Shape) → has_root shapes ≡ true → (k : ℕ) × (slice_get shapes k ≡ Some Root)
root_among [] e = absurd (cc)
root_among (s ∷ shapes) e = go (is_root s) refl e (root_among shapes)
  where
    go : (b : Bool) → is_root s ≡ b → cond b true (has_root shapes) ≡ true → (has_root shapes ≡ true → (k : ℕ) × (slice_get shapes k ≡ Some Root)) →
        (k : ℕ) × (slice_get (s ∷ shapes) k ≡ Some Root)
    go true is h rest = (0, ap Some (root_shape s is))
    go false is h rest = let at = rest h in (suc at.0, at.1)

stands : (c : CheckedGrammar) → FitShapes c.grammar c.shapes → has_root c.shapes ≡ true → RootAt c
stands c fit has =
    let at = root_among c.shapes has in
    let within : at.0 < length c.grammar.decls = subst (λ n. at.0 < n) fit.counted (slice_get_within c.shapes at.0 Root at.1) in
    let there = get_within c.grammar.decls at.0 within in
    record {
      before = at.0;
      decl = there.0;
      declared = there.1;
      shaped = at.1;
      start = ((fit.each at.0 there.0 Root there.1 at.1).root refl).start;
    }

module _ (c : CheckedGrammar) (counted : length c.shapes ≡ length c.grammar.decls) (rootless : has_root c.shapes ≡ false) where
  abbrev r : Decl
  r = root_declaration Syntax c.grammar

  abbrev d : CheckedGrammar
  d = with_root Syntax c

  only_root : (before : ℕ) (decl : Decl) → slice_get d.grammar.decls before ≡ Some decl → slice_get d.shapes before ≡ Some Root → r ≡ decl
  only_root before decl e f = go (place_cases c.grammar.decls r decl before e) (place_cases c.shapes Root Root before f)
    where
      go : (slice_get c.grammar.decls before ≡ Some decl) ⊎ ((before ≡ length c.grammar.decls) × (r ≡ decl)) →
          (slice_get c.shapes before ≡ Some Root) ⊎ ((before ≡ length c.shapes) × (Root ≡ Root)) → r ≡ decl
      go (inr a) q = a.1
      go (inl a) (inl b) = absurd (no_root_shape c.shapes before rootless b)
      go (inl a) (inr b) = let l = slice_get_within c.grammar.decls before decl a in let m = b.0 in absurd (omega (arith, l, m, counted))

  named : RootIsNamed d
  named before decl e f = ap (λ (z : Decl). z.name) (sym (only_root before decl e f))

  -- what holds of each call without arguments holds of each symbol of the root
  of_root : (P : Symbol → Type 0) → ((name : List ℕ) → P (Call name [])) → (decl : Decl) (a : Alt) → r ≡ decl → Contains (alternatives decl.levels) a → All P a.symbols
  of_root P calls decl a same has =
      let only = contains_one (record { symbols = root_symbols c.grammar }) a (subst (λ (z : Decl). Contains (alternatives z.levels) a) (sym same) has) in
      subst (λ (z : Alt). All P z.symbols) (sym only) (all_calls P calls (layout_among c.grammar.decls) c.grammar.start)

  calls_alone : RootHasCallsAlone d
  calls_alone before decl a e f kind has = of_root IsCall (λ name. tt) decl a (only_root before decl e f) has

  unsigned : AddedNamesAreNew → ((decl : Decl) → Contains c.grammar.decls decl → HasNoSign decl.name) →
      (decl : Decl) → Contains d.grammar.decls decl → HasNoSign decl.name
  unsigned new source decl among = go (Contains-push_cases c.grammar.decls r decl among)
    where
      go : Contains c.grammar.decls decl ⊎ (r ≡ decl) → HasNoSign decl.name
      go (inl m) = source decl m
      go (inr same) = subst (λ (z : Decl). HasNoSign z.name) same new.root_unsigned

  free : IsFree c.grammar → IsFree d.grammar
  free source decl among = go (Contains-push_cases c.grammar.decls r decl among)
    where
      go : Contains c.grammar.decls decl ⊎ (r ≡ decl) → HasNoOperators decl.levels
      go (inl m) = source decl m
      go (inr same) = subst (λ (z : Decl). HasNoOperators z.levels) same refl

  unbound : (name : List ℕ) → IsUnbound c.grammar name → IsUnbound d.grammar name
  unbound name source =
      record {
        parameters = λ decl among. parameters decl (Contains-push_cases c.grammar.decls r decl among);
        symbols = each_symbol (LacksName name) (λ called h. none_in_nil name h) c.grammar source.symbols;
      }
    where
      parameters : (decl : Decl) → Contains c.grammar.decls decl ⊎ (r ≡ decl) → Contains (map (λ p. p.name) decl.params) name → ⊥
      parameters decl (inl m) h = source.parameters decl m h
      parameters decl (inr same) h = none_in_nil name (subst (λ (z : Decl). Contains (map (λ p. p.name) z.params) name) (sym same) h)

  same_layout : layout_among d.grammar.decls ≡ layout_among c.grammar.decls
  same_layout = sym (layout_kept c.grammar.decls r refl)

  remaining : IsRemaining c.grammar → IsRemaining d.grammar
  remaining source =
      record {
        no_layout = same_layout ∙ source.no_layout;
        free = free source.free;
        forms = λ decl a among has. forms decl a has (Contains-push_cases c.grammar.decls r decl among);
      }
    where
      forms : (decl : Decl) (a : Alt) → Contains (alternatives decl.levels) a → Contains c.grammar.decls decl ⊎ (r ≡ decl) →
          All (Remains (λ name n. Unit {0})) a.symbols
      forms decl a has (inl among) = source.forms decl a among has
      forms decl a has (inr same) = of_root (Remains (λ name n. Unit {0})) (λ name. tt) decl a same has

  kept : KeptByRoot c d
  kept =
      record {
        has = has_added c.shapes;
        named = λ source. named;
        free = free;
        unmarked = rooted_is_unmarked c.grammar;
        plain = plain_before c.grammar;
        layout = same_layout;
        unbound = unbound;
        remaining = remaining;
      }

  sound : AddedNamesAreNew → IsSound c → IsCheckedToo c d → IsSound d
  sound new source checked =
      record {
        scoped = checked.scoped;
        fit = checked.fit;
        well = each_symbol IsPlaced calls_are_placed c.grammar source.well;
        entered = each_symbol IsEntered (λ name. tt) c.grammar source.entered;
        fresh = λ m. has_added c.shapes;
        root_named = named;
        root_calls = calls_alone;
        unsigned = unsigned new source.unsigned;
      }

module _ (new : AddedNamesAreNew) (rooting : RootedIsTheSame) (equivalence : SameTreesIsAnEquivalence) where
  checked : (c : CheckedGrammar) → IsWellScoped c.grammar → FitShapes c.grammar c.shapes → (has_root c.shapes ≡ false → IsFresh c.grammar root_name) →
      IsCheckedToo c (rooted Syntax c)
  checked c scoped fit fresh = go (has_root c.shapes) refl
    where
      go : (b : Bool) → has_root c.shapes ≡ b → IsCheckedToo c (if b then c else with_root Syntax c)
      go true e = record { same = equivalence.itself c; values = equivalence.own_values c; scoped = scoped; fit = fit }
      go false e = let adds = rooting c scoped fit e (fresh e) in record { same = adds.same; values = adds.values; scoped = adds.scoped; fit = adds.fit }

  all_kept : (c : CheckedGrammar) → FitShapes c.grammar c.shapes → KeptByRoot c (rooted Syntax c)
  all_kept c fit = go (has_root c.shapes) refl
    where
      go : (b : Bool) → has_root c.shapes ≡ b → KeptByRoot c (if b then c else with_root Syntax c)
      go true e =
          record {
            has = e;
            named = λ h. h;
            free = λ h. h;
            unmarked = λ h. h;
            plain = λ decl h plain. h;
            layout = refl;
            unbound = λ name h. h;
            remaining = λ h. h;
          }
      go false e = kept c fit.counted e

  all_sound : (c : CheckedGrammar) → IsSound c → IsSoundToo c (rooted Syntax c)
  all_sound c source = go (has_root c.shapes) refl
    where
      go : (b : Bool) → has_root c.shapes ≡ b → IsSoundToo c (if b then c else with_root Syntax c)
      go true e = record { same = equivalence.itself c; values = equivalence.own_values c; sound = source }
      go false e =
          let adds = rooting c source.scoped source.fit e (λ m. let t : false ≡ true = sym e ∙ source.fresh m in cc) in
          record { same = adds.same; values = adds.values; sound = sound c source.fit.counted e new source (record { same = adds.same; values = adds.values; scoped = adds.scoped; fit = adds.fit }) }

  pub root_keeps : RootKeeps
  root_keeps = record { stands = stands; checked = checked; sound = all_sound; kept = all_kept }
