-- The shapes of a grammar fit it without levels.
use Rattle.std.proofs.Common.{◌≡◌, ◌⊎◌, ◌∙◌, ℕ, suc, Bool, true, false, List, [], ◌∷◌, ◌++◌, Some, refl, sym, ap, subst, inl, inr}
use Rattle.std.specs.Prelude.{◌≢◌, ◌&&◌, All, Contains, slice_get}
use Rattle.std.proofs.lemmas.Option.{slice_get-map}
use Rattle.std.proofs.lemmas.List.{length-map}
use Rattle.std.proofs.lemmas.List.Elements.{All-nil, All-cons, All-head, All-tail}
use Rattle.ig_text.proofs.Lists.{contains_from_at, at_from_contains}
use Rattle.ig_text.proofs.Options.{mapped}
use Rattle.ig_expr.specs.Expression.{Expression}
use Rattle.ig_grammar.specs.Symbol.{Symbol, Literal, OneOf, Call, Label, Guard, Let, Opt, Star, Plus, SepStar, SepPlus, Group, Offside, Ignore, Align, Filtered, Seq, Entry}
use Rattle.ig_grammar.specs.Symbol.{Symbols, no_symbols, next_symbol, listed}
use Rattle.ig_grammar.specs.Visible.{Occurrence, parameters}
use Rattle.ig_grammar.specs.Condition.{symbols_of}
use Rattle.ig_grammar.specs.Numbering.{Levelled, by_level, alternatives}
use Rattle.ig_grammar.specs.Checked.{FitShapes, FitsShape, IsRoot, IsCall, IsOfCalls, IsOneFreeLevel, MayHave}
use Rattle.ig_grammar.specs.declared.symbol.Alt.{Alt}
use Rattle.ig_grammar.specs.declared.declaration.Level.{Level}
use Rattle.ig_grammar.specs.declared.declaration.Decl.{Decl}
use Rattle.ig_grammar.specs.declared.grammar.Grammar.{Grammar}
use Rattle.ig_grammar.specs.declared.place.Shape.{Shape}
use Rattle.ig_grammar.specs.declared.place.Shape.TheVariants as shape
use Rattle.ig_levels.specs.Levels.{Pair, no_pair, with_pair, in_symbols, pair_at, lowered, is_test, Place, place_in, is_levelled, names_levelled, added_parameters, one_level, lowered_alternative, lowered_declaration, lowered_grammar}
use Rattle.ig_levels.proofs.Alternatives.{alternative_before, as_many}
use Rattle.ig_pass.specs.EachLevel.{alternative_at}
use Rattle.ig_levels.proofs.Idle.{no_tests}
use Rattle.ig_levels.proofs.Partners.{IsTest, Partner, occurs}
use Rattle.ig_levels.proofs.Premises.{Lowerable, one_free}

-- a call that is made of a symbol is one of the same name
call_before : (levelled : List ℕ → Bool) (x : Symbol) (p : Pair) (name : List ℕ) (arguments : List Expression) → with_pair levelled p x ≡ Call name arguments →
    (before : List Expression) × (x ≡ Call name before)
call_before levelled (Literal word) p name arguments e = absurd (cc)
call_before levelled (OneOf class) p name arguments e = absurd (cc)
call_before levelled (Call called given) p name arguments e = (given, let same : called ≡ name = cc in ap (λ z. Call z given) same)
call_before levelled (Label bound x) p name arguments e = absurd (cc)
call_before levelled (Guard condition) p name arguments e = absurd (cc)
call_before levelled (Let bound value) p name arguments e = absurd (cc)
call_before levelled (Opt x) p name arguments e = absurd (cc)
call_before levelled (Star x) p name arguments e = absurd (cc)
call_before levelled (Plus x) p name arguments e = absurd (cc)
call_before levelled (SepStar x separator) p name arguments e = absurd (cc)
call_before levelled (SepPlus x separator) p name arguments e = absurd (cc)
call_before levelled (Group choices) p name arguments e = absurd (cc)
call_before levelled (Offside x) p name arguments e = absurd (cc)
call_before levelled (Ignore x) p name arguments e = absurd (cc)
call_before levelled (Align x) p name arguments e = absurd (cc)
call_before levelled (Filtered x filters) p name arguments e = absurd (cc)
call_before levelled (Seq xs) p name arguments e = absurd (cc)
call_before levelled (Entry bindings x) p name arguments e = absurd (cc)

still_a_call : (levelled : List ℕ → Bool) (x : Symbol) (p : Pair) → IsCall x → IsCall (with_pair levelled p x)
still_a_call levelled (Call name arguments) p h = tt
still_a_call levelled x p h = absurd h

calls_listed : (levelled : List ℕ → Bool) (xs : Symbols) → All IsCall (listed xs) → All IsCall (listed (in_symbols levelled xs))
calls_listed levelled no_symbols a = All-nil IsCall
calls_listed levelled (next_symbol x xs) a =
    All-cons IsCall (with_pair levelled no_pair x) (listed (in_symbols levelled xs)) (still_a_call levelled x no_pair (All-head IsCall x (listed xs) a))
    (calls_listed levelled xs (All-tail IsCall x (listed xs) a))

still_of_calls : (levelled : List ℕ → Bool) (x : Symbol) (p : Pair) → IsOfCalls x → IsOfCalls (with_pair levelled p x)
still_of_calls levelled (Call name arguments) p h = tt
still_of_calls levelled (Seq xs) p h = calls_listed levelled xs h
still_of_calls levelled x p h = absurd h

all_lowered : (levelled : List ℕ → Bool) (P : Symbol → Type 0) → ((x : Symbol) (p : Pair) → P x → P (with_pair levelled p x)) → (p : Place) (first : Bool) (xs : List Symbol) →
    All P xs → All P (lowered levelled p first xs)
all_lowered levelled P f p first [] a = All-nil P
all_lowered levelled P f p first (x ∷ xs) a =
    All-cons P _ _ (f x (pair_at p first x xs) (All-head P x xs a)) (all_lowered levelled P f p (first && is_test x) xs (All-tail P x xs a))

one_free_still : (levels : List Level) (alts : List Alt) → IsOneFreeLevel levels → IsOneFreeLevel (one_level levels alts)
one_free_still [] alts f = f
one_free_still (level ∷ []) alts f = refl
one_free_still (level ∷ next ∷ others) alts f = refl

module _ (g : Grammar) (shapes : List Shape) (may : Lowerable g shapes) (fit : FitShapes g shapes) where
  abbrev levelled : List ℕ → Bool
  levelled = names_levelled g.decls

  abbrev turn : Decl → Decl
  turn = lowered_declaration levelled

  abbrev h : Grammar
  h = lowered_grammar g

  -- an alternative of a declaration that stands for the root
  of_root : (P : Symbol → Type 0) → ((x : Symbol) (p : Pair) → P x → P (with_pair levelled p x)) → (decl : Decl) → is_levelled decl.levels ≡ false →
      ((a : Alt) → Contains (alternatives decl.levels) a → All P a.symbols) → (a : Alt) → Contains (alternatives (turn decl).levels) a → All P a.symbols
  of_root P f decl plain source b has =
      let k = at_from_contains (alternatives (turn decl).levels) b has in
      let s = alternative_before levelled decl k.0 b k.1 in
      let a = s.0 in
      let m = contains_from_at (alternatives decl.levels) k.0 a.alternative (alternative_at decl.levels k.0 a s.1) in
      subst (λ (z : Alt). All P z.symbols) (sym s.2)
      (subst (λ (z : List Symbol). All P z) (sym (no_tests levelled (place_in decl a) plain a.level a.alternative.symbols))
      (all_lowered levelled P f (place_in decl a) true a.alternative.symbols (source a.alternative m)))

  module _ (before : ℕ) (decl : Decl) (plain : is_levelled decl.levels ≡ false) (root : IsRoot g shapes before decl) where
    uncalled_there : (other : Decl) (b k : ℕ) (a : Levelled) → slice_get g.decls b ≡ Some other → slice_get (by_level other.levels) k ≡ Some a →
        (o : Occurrence) → Contains (symbols_of (turn other) (lowered_alternative levelled other a)) o → (arguments : List Expression) → o.symbol ≢ Call decl.name arguments
    uncalled_there other b k a e f o among arguments is =
        go (occurs levelled other a (may.parameters (suc b) other (b, refl, e)) (may.clear (suc b) other (suc k) a (b, refl, e) (k, refl, f)) o among)
      where
        go : IsTest (is_levelled other.levels) (parameters (other.params ++ added_parameters (is_levelled other.levels))) o ⊎ Partner levelled (is_levelled other.levels) (symbols_of other a.alternative) o → ⊥
        go (inl t) = let guard = ap (λ (z : Occurrence). z.symbol) (sym t.same) ∙ is in cc
        go (inr p) =
            let called = call_before levelled p.x p.pair decl.name arguments (sym p.same ∙ is) in
            root.uncalled other a.alternative (record { visible = p.v; symbol = p.x }) called.0 (contains_from_at g.decls b other e)
            (contains_from_at (alternatives other.levels) k a.alternative (alternative_at other.levels k a f)) p.there called.1

    uncalled : (other : Decl) (a : Alt) (o : Occurrence) (arguments : List Expression) → Contains h.decls other → Contains (alternatives other.levels) a →
        Contains (symbols_of other a) o → o.symbol ≢ Call decl.name arguments
    uncalled other a o arguments among has occurring =
        let b = at_from_contains h.decls other among in
        let r = mapped turn (slice_get g.decls b.0) other (sym (slice_get-map turn g.decls b.0) ∙ b.1) in
        let k = at_from_contains (alternatives other.levels) a has in
        let s = alternative_before levelled r.0 k.0 a (subst (λ (z : Decl). slice_get (alternatives z.levels) k.0 ≡ Some a) r.2 k.1) in
        uncalled_there r.0 b.0 k.0 s.0 r.1 s.1 o
        (subst (λ (z : Alt). Contains (symbols_of (turn r.0) z) o) s.2 (subst (λ (z : Decl). Contains (symbols_of z a) o) r.2 occurring)) arguments

    root_kept : IsRoot h shapes before (turn decl)
    root_kept =
        record {
          start = root.start;
          no_layout = root.no_layout;
          after_rules = root.after_rules;
          uncalled = uncalled;
          calls = of_root IsOfCalls (still_of_calls levelled) decl plain root.calls;
        }

  each : (before : ℕ) (other : Decl) (s : Shape) → slice_get h.decls before ≡ Some other → slice_get shapes before ≡ Some s → FitsShape h shapes before other s
  each before other s e f =
      let r = mapped turn (slice_get g.decls before) other (sym (slice_get-map turn g.decls before) ∙ e) in
      let q = fit.each before r.0 s r.1 f in
      subst (λ z. FitsShape h shapes before z s) (sym r.2)
      (record {
        count = subst (MayHave s) (sym (as_many levelled r.0)) q.count;
        level = λ n. one_free_still r.0.levels _ (q.level n);
        root = λ t. root_kept before r.0 (one_free r.0.levels (q.level (λ rule. let e : shape.Root ≡ shape.Rule = sym t ∙ rule in cc))) (q.root t);
      })

  pub lowered_fits : FitShapes h shapes
  lowered_fits = record { counted = fit.counted ∙ sym (length-map g.decls turn); each = each }

  pub root_calls_kept : (before : ℕ) (other : Decl) (b : Alt) → slice_get h.decls before ≡ Some other → slice_get shapes before ≡ Some shape.Root →
      ((decl : Decl) (a : Alt) → slice_get g.decls before ≡ Some decl → other.kind ≡ decl.kind → Contains (alternatives decl.levels) a → All IsCall a.symbols) →
      Contains (alternatives other.levels) b → All IsCall b.symbols
  root_calls_kept before other b e f source has =
      let r = mapped turn (slice_get g.decls before) other (sym (slice_get-map turn g.decls before) ∙ e) in
      let plain : is_levelled r.0.levels ≡ false = one_free r.0.levels ((fit.each before r.0 shape.Root r.1 f).level (λ rule. cc)) in
      of_root IsCall (still_a_call levelled) r.0 plain (λ a. source r.0 a r.1 (ap (λ (z : Decl). z.kind) r.2)) b
      (subst (λ (z : Decl). Contains (alternatives z.levels) b) r.2 has)
