-- What a symbol of the source gets, what is made of it gets, too.
use Rattle.std.proofs.Common.{◌≡◌, ◌⊎◌, inl, inr, ℕ, Bool, true, false, List, [], ◌∷◌, ◌++◌, map, sym, ◌∙◌, ap, subst, Some}
use Rattle.std.specs.Prelude.{Contains, option_map}
use Rattle.ig_expr.specs.Expression.{Expression}
use Rattle.ig_grammar.specs.Binding.{Binding}
use Rattle.ig_grammar.specs.Symbol.{Symbol, Call, Label, Guard, Let, Star, Plus, SepStar, SepPlus, Offside, Ignore, Align, Filtered, Entry}
use Rattle.ig_grammar.specs.Visible.{Visible}
use Rattle.ig_grammar.specs.Condition.{IsListed, declaration_of}
use Rattle.ig_grammar.specs.declared.declaration.DeclKind.{DeclKind}
use Rattle.ig_grammar.specs.declared.declaration.Decl.{Decl}
use Rattle.ig_levels.specs.Levels.{Pair, no_pair, with_pair, pair_arguments, lowered_declaration, added_parameters, is_levelled}
use Rattle.ig_levels.proofs.WithBounds.{IsSource, OfSource, AllOfSource, BindingsOfSource}
use Rattle.ig_levels.proofs.Kinded.{InsertedKinds, PairFits}
use Rattle.ig_levels.proofs.WithBounds.{Clear}
use Rattle.ig_text.proofs.Lists.{none_in_nil, in_rest}
use Rattle.ig_pass.specs.Asked.{IsNew, IsKinded, Fit, Calls, Asks, AsksElsewhere}
use Rattle.ig_levels.proofs.Kinding.{same_found, same_kind}

each_of_source : (es : List Expression) (e : Expression) → AllOfSource es → Contains es e → OfSource e
each_of_source [] e s h = absurd (none_in_nil e h)
each_of_source (x ∷ xs) e s h = go (in_rest x xs e h) (each_of_source xs e s.1)
  where
    go : (x ≡ e) ⊎ Contains xs e → (Contains xs e → OfSource e) → OfSource e
    go (inl same) below = subst OfSource same s.0
    go (inr i) below = below i

bindings_source : (bs : List Binding) → BindingsOfSource bs → AllOfSource (map (λ b. b.value) bs)
bindings_source [] s = tt
bindings_source (b ∷ bs) s = (s.1, bindings_source bs s.2)

-- the pair fits the parameters that a levelled declaration gets
pair_fit : (w : Visible) (b : Bool) (p : Pair) → PairFits w p → Fit w (pair_arguments b p) (added_parameters b)
pair_fit w true p fits = (fits.left_kind, (fits.right_kind, tt))
pair_fit w false p fits = tt

module _ (levelled : List ℕ → Bool) where
  listed_kept : (x : Symbol) → IsListed x → IsListed (with_pair levelled no_pair x)
  listed_kept (Star x) is = tt
  listed_kept (Plus x) is = tt
  listed_kept (SepStar x separator) is = tt
  listed_kept (SepPlus x separator) is = tt
  listed_kept (Filtered x filters) is = listed_kept x is
  listed_kept x is = absurd is

module _ (elsewhere : AsksElsewhere) (levelled : List ℕ → Bool) (decls lower : List Decl) (k : DeclKind)
    (declared : (name : List ℕ) → declaration_of lower name ≡ option_map (lowered_declaration levelled) (declaration_of decls name))
    (known : (name : List ℕ) (callee : Decl) → declaration_of decls name ≡ Some callee → levelled name ≡ is_levelled callee.levels)
    {m : Bool} (v w : Visible) (ins : InsertedKinds m v w) where
  still_new : (name : List ℕ) → IsSource name → IsNew v name → IsNew w name
  still_new name s new = elsewhere.still_new v w name (same_found ins name s) new

  kinded : (e : Expression) → OfSource e → IsKinded v e → IsKinded w e
  kinded e s has = (has.0, same_kind e ins s ∙ has.1)

  call_asks : (name : List ℕ) (arguments : List Expression) (p : Pair) → PairFits w p → AllOfSource arguments → Calls decls k v name arguments →
      Calls lower k w name (arguments ++ pair_arguments (levelled name) p)
  call_asks name arguments p fits source asks =
      let d = asks.callee in
      record {
        callee = lowered_declaration levelled d;
        declared = declared name ∙ ap (option_map (lowered_declaration levelled)) asks.declared;
        fit = subst (λ b. Fit w (arguments ++ pair_arguments b p) (lowered_declaration levelled d).params) (sym (known name d asks.declared))
            (elsewhere.fit_more w arguments (pair_arguments (is_levelled d.levels) p) d.params (added_parameters (is_levelled d.levels))
            (elsewhere.fit_still v w arguments d.params (λ e among. same_kind e ins (each_of_source arguments e source among)) asks.fit)
            (pair_fit w (is_levelled d.levels) p fits));
        allowed = asks.allowed;
      }

  pub asks_there : (x : Symbol) (p : Pair) → PairFits w p → Clear x → Asks decls k v x → Asks lower k w (with_pair levelled p x)
  asks_there (Call name arguments) p fits clear asks = call_asks name arguments p fits clear asks
  asks_there (Label name x) p fits clear asks = still_new name clear.0 asks
  asks_there (Guard e) p fits clear asks = same_kind e ins clear ∙ asks
  asks_there (Let name e) p fits clear asks = (still_new name clear.0 asks.0, kinded e clear.1 asks.1)
  asks_there (Offside x) p fits clear asks = asks
  asks_there (Ignore x) p fits clear asks = asks
  asks_there (Align x) p fits clear asks = (listed_kept levelled x asks.0, asks.1)
  asks_there (Entry bindings x) p fits clear asks =
      λ e among. kinded e (each_of_source (map (λ b. b.value) bindings) e (bindings_source bindings clear.0) among) (asks e among)
  asks_there x p fits clear asks = tt
