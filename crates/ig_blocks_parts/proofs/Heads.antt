-- The symbols that the pass writes are sound, each where it stands.
use Rattle.std.proofs.Common.{◌≡◌, ◌≢◌, ◌∙◌, ℕ, Bool, true, false, List, [], ◌∷◌, ◌++◌, map, Option, Some, None, refl, sym, ap, ap₂, subst, append_assoc}
use Rattle.std.specs.Prelude.{All, slice_get}
use Rattle.std.specs.List.{flat_map}
use Rattle.std.proofs.lemmas.List.{append-nil}
use Rattle.std.proofs.lemmas.List.Elements.{All-nil}
use Rattle.ig_text.specs.declared.pattern.Pattern.{Pattern}
use Rattle.ig_expr.specs.Expression.{Expression, patterns_in}
use Rattle.ig_expr.specs.Expression as expression
use Rattle.ig_expr.specs.Kinds.{of_equals}
use Rattle.ig_expr.specs.declared.kind.Kind.TheVariants as kind
use Rattle.ig_expr.specs.declared.operator.Op.TheVariants.{Equal}
use Rattle.ig_text.specs.Pattern.{HasNoEmptyLiteral}
use Rattle.ig_grammar.specs.Binding.{Binding}
use Rattle.ig_grammar.specs.Regular.{IsPlaced, IsNoMark, MayHaveEntry}
use Rattle.ig_grammar.specs.Visible.{Visible, binds, all_bind, replaced, kind_at}
use Rattle.ig_grammar.specs.Symbol.{Symbol, Literal, OneOf, Call, Label, Guard, Offside, Ignore, Align, Filtered, Seq, Entry}
use Rattle.ig_grammar.specs.Symbol.{gathered}
use Rattle.ig_grammar.specs.declared.declaration.DeclKind.{DeclKind}
use Rattle.ig_grammar.specs.declared.declaration.DeclKind.TheVariants.{Syntax, Lexical, Layout, Plain}
use Rattle.ig_grammar.specs.declared.declaration.Decl.{Decl}
use Rattle.ig_grammar.specs.declared.grammar.Grammar.{Grammar}
use Rattle.ig_grammar.specs.declared.place.Shape.{Shape}
use Rattle.ig_grammar.specs.declared.place.Shape.TheVariants as shape
use Rattle.ig_pass.specs.Added.{margin_name, first_name, column_name}
use Rattle.ig_pass.specs.Needs.{needs, AreWanted, IsEntered}
use Rattle.ig_blocks_parts.specs.Setting.{Setting, Pair, lacking, carried, opened, cleared, m_of, f_of, opened_by, cleared_by, pair_bindings, column_bindings, column_here, guards, column_guards, wrapped, entered, extra_by}
use Rattle.ig_blocks_parts.specs.Body.{call_tests, tests_of}
use Rattle.ig_blocks_parts.specs.Blocks.{setting_of}
use Rattle.ig_pass.specs.Throughout.{Placed, PlacedSymbols}
use Rattle.ig_pass.specs.Asked.{Asks}
use Rattle.ig_blocks_parts.proofs.Meeting.{IsQuiet, quiet_asks, inside_kind, box_kinded}
use Rattle.ig_blocks_parts.proofs.Sights.{IsPair, no_pair, handed_pair, opened_pair, cleared_pair, HasColumn, pair_cleared}

no_literal : (ps : List Pattern) → ps ≡ [] → All HasNoEmptyLiteral ps
no_literal ps e = subst (All HasNoEmptyLiteral) (sym e) (All-nil HasNoEmptyLiteral)

-- no pattern is in a pair
module _ (s : Setting) (w : Visible) where
  pub pair_plain : (p : Pair) → IsPair s w p → (patterns_in (m_of s p) ≡ []) × (patterns_in (f_of s p) ≡ [])
  pair_plain lacking no_pair = (refl, refl)
  pair_plain carried (handed_pair a b) = (refl, refl)
  pair_plain p2 (opened_pair p i) = let r = pair_plain p i in (ap₂ (λ x y. x ++ y) r.0 r.1, refl)
  pair_plain cleared cleared_pair = (refl, refl)

  pub extra_plain : (b : Bool) (p : Pair) → IsPair s w p → flat_map patterns_in (extra_by b (m_of s p) (f_of s p)) ≡ []
  extra_plain false p i = refl
  extra_plain true p i = let r = pair_plain p i in ap₂ (λ x y. x ++ (y ++ [])) r.0 r.1

  pub bindings_plain : (p : Pair) (al : Bool) → IsPair s w p → flat_map patterns_in (map (λ b. b.value) (pair_bindings s p ++ column_bindings s al)) ≡ []
  bindings_plain lacking false i = refl
  bindings_plain lacking true i = refl
  bindings_plain carried false i = refl
  bindings_plain carried true i = refl
  bindings_plain (opened a b) false i = let r = pair_plain (opened a b) i in ap₂ (λ x y. x ++ (y ++ [])) r.0 r.1
  bindings_plain (opened a b) true i = let r = pair_plain (opened a b) i in ap₂ (λ x y. x ++ (y ++ [])) r.0 r.1
  bindings_plain cleared false i = refl
  bindings_plain cleared true i = refl

pub flat_join : (es ds : List Expression) → flat_map patterns_in (es ++ ds) ≡ flat_map patterns_in es ++ flat_map patterns_in ds
flat_join [] ds = refl
flat_join (e ∷ es) ds = ap (λ z. patterns_in e ++ z) (flat_join es ds) ∙ sym (append_assoc (patterns_in e) (flat_map patterns_in es) (flat_map patterns_in ds))

-- a symbol of the lowered grammar
pub record IsSoundAt (g : Grammar) (shapes : List Shape) (decls : List Decl) (c : DeclKind) (w : Visible) (y : Symbol) : Type 0 where
  pub asks : Asks decls c w y
  pub unmarked : IsNoMark y
  pub uncalled : (n : ℕ) (decl : Decl) (arguments : List Expression) → slice_get g.decls n ≡ Some decl → slice_get shapes n ≡ Some shape.Root →
      y ≢ Call decl.name arguments
  pub placed : IsPlaced y
  pub entered : IsEntered y

quiet_entered : (y : Symbol) → IsQuiet y → IsEntered y
quiet_entered (Entry bindings x) q = absurd q
quiet_entered x q = tt

quiet_unmarked : (y : Symbol) → IsQuiet y → IsNoMark y
quiet_unmarked (Offside x) q = absurd q
quiet_unmarked (Ignore x) q = absurd q
quiet_unmarked (Align x) q = absurd q
quiet_unmarked x q = tt

module _ (g : Grammar) (shapes : List Shape) (decls : List Decl) (c : DeclKind) where
  abbrev Sound : Visible → Symbol → Type 0
  Sound = IsSoundAt g shapes decls c

  pub quiet_sound : (w : Visible) (y : Symbol) → IsQuiet y → IsPlaced y → Sound w y
  quiet_sound w y q placed =
      record {
        asks = quiet_asks decls c w y q;
        unmarked = quiet_unmarked y q;
        uncalled = λ n decl arguments at root e. subst IsQuiet e q;
        placed = placed;
        entered = quiet_entered y q;
      }

  abbrev s : Setting
  s = setting_of g.decls shapes

  pub test_sound : (w : Visible) (e : Expression) → kind_at w e ≡ Some kind.Bool → patterns_in e ≡ [] → Sound w (Guard e)
  test_sound w e kinded plain =
      record {
        asks = kinded;
        unmarked = tt;
        uncalled = λ n decl arguments at root f. cc;
        placed = (no_literal (patterns_in e ++ []) (append-nil (patterns_in e) ∙ plain), tt);
        entered = tt;
      }

  -- tests, each of which is sound
  abbrev pub SoundTests : Visible → List Symbol → Type 0
  SoundTests w [] = Unit {0}
  SoundTests w (Guard e ∷ gs) = Sound w (Guard e) × SoundTests w gs
  SoundTests w (x ∷ gs) = ⊥

  inside_sound : (w : Visible) (p : Pair) → IsPair s w p → Sound w (Guard (expression.Inside (m_of s p) (f_of s p)))
  inside_sound w p i =
      let r = pair_plain s w p i in
      test_sound w (expression.Inside (m_of s p) (f_of s p)) (inside_kind s w p i) (ap₂ (λ x y. x ++ y) r.0 r.1)

  guards_sound : (w : Visible) (p : Pair) → IsPair s w p → SoundTests w (guards s p)
  guards_sound w lacking i = tt
  guards_sound w carried i = (inside_sound w carried i, tt)
  guards_sound w (opened a b) i = (inside_sound w (opened a b) i, tt)
  guards_sound w cleared i = tt

  call_sound : (w : Visible) (p : Pair) (kind : Option DeclKind) → IsPair s w p → SoundTests w (call_tests s p kind)
  call_sound w p (Some Lexical) i = guards_sound w p i
  call_sound w p (Some Syntax) i = tt
  call_sound w p (Some Layout) i = tt
  call_sound w p (Some Plain) i = tt
  call_sound w p None i = tt

  pub tests_sound : (w : Visible) (x : Symbol) (p : Pair) → IsPair s w p → SoundTests w (tests_of s p x)
  tests_sound w (Literal word) p i = guards_sound w p i
  tests_sound w (OneOf class) p i = guards_sound w p i
  tests_sound w (Call name arguments) p i = call_sound w p (s.kind_of name) i
  tests_sound w (Label name x) p i = tests_sound w x p i
  tests_sound w (Offside x) p i = tests_sound w x (opened_by s p) (opened_pair p i)
  tests_sound w (Ignore x) p i = tests_sound w x (cleared_by p) (pair_cleared s w p)
  tests_sound w (Filtered x filters) p i = tests_sound w x p i
  tests_sound w x p i = tt

  pub column_sound : (w : Visible) (al : Bool) (gs : List Symbol) → HasColumn s al w → SoundTests w gs → SoundTests w (column_guards s al ++ gs)
  column_sound w false gs h t = t
  column_sound w true gs h t = (
    test_sound w (expression.Binary Equal column_here (expression.Variable s.c))
        (ap (of_equals (Some kind.Int)) h) refl,
    t,
  )

  behind_placed : (w : Visible) (gs : List Symbol) (y : Symbol) → SoundTests w gs → Placed Sound y w → PlacedSymbols Sound (gathered (gs ++ y ∷ [])) w
  behind_placed w [] y t p = (p, tt)
  behind_placed w (Guard e ∷ gs) y t p = (t.0, subst (PlacedSymbols Sound (gathered (gs ++ y ∷ []))) (sym (append-nil w)) (behind_placed w gs y t.1 p))
  behind_placed w (x ∷ gs) y t p = absurd t

  behind_binds : (w : Visible) (gs : List Symbol) (y : Symbol) → SoundTests w gs → all_bind w (gathered (gs ++ y ∷ [])) ≡ binds w y
  behind_binds w [] y t = append-nil (binds w y)
  behind_binds w (Guard e ∷ gs) y t = ap (λ z. all_bind z (gathered (gs ++ y ∷ []))) (append-nil w) ∙ behind_binds w gs y t.1
  behind_binds w (x ∷ gs) y t = absurd t

  -- behind tests
  pub wrapped_sound : (w : Visible) (gs : List Symbol) (y : Symbol) → SoundTests w gs → Placed Sound y w → Placed Sound (wrapped gs y) w
  wrapped_sound w [] y t p = p
  wrapped_sound w (x ∷ gs) y t p = (quiet_sound w (Seq (gathered (x ∷ gs ++ y ∷ []))) tt (All-nil HasNoEmptyLiteral, tt), behind_placed w (x ∷ gs) y t p)

  pub wrapped_binds : (w : Visible) (gs : List Symbol) (y : Symbol) → SoundTests w gs → binds w (wrapped gs y) ≡ binds w y
  wrapped_binds w [] y t = refl
  wrapped_binds w (x ∷ gs) y t = behind_binds w (x ∷ gs) y t

  -- inside bindings
  pub entered_sound : (w : Visible) (bs : List Binding) (y : Symbol) → Sound w (Entry bs y) → Placed Sound y (replaced w w bs) → Placed Sound (entered bs y) w
  entered_sound w [] y h p = p
  entered_sound w (b ∷ bs) y h p = (h, p)

  pub entered_binds : (w : Visible) (bs : List Binding) (y : Symbol) → binds w y ≡ [] → binds w (entered bs y) ≡ []
  entered_binds w [] y e = e
  entered_binds w (b ∷ bs) y e = refl

  -- the bindings of a box are wanted by the list, the option or the group in it
  wanted : (p : Pair) (al : Bool) (y : Symbol) → needs margin_name y ≡ true → needs first_name y ≡ true → (al ≡ true → needs column_name y ≡ true) →
      AreWanted (λ n. needs n y) (pair_bindings s p ++ column_bindings s al)
  wanted lacking false y m f k = tt
  wanted lacking true y m f k = (k refl, refl, tt)
  wanted carried false y m f k = tt
  wanted carried true y m f k = (k refl, refl, tt)
  wanted (opened a b) false y m f k = (m, refl, (f, refl, tt))
  wanted (opened a b) true y m f k = (m, refl, (f, refl, (k refl, refl, tt)))
  wanted cleared false y m f k = (m, refl, (f, refl, tt))
  wanted cleared true y m f k = (m, refl, (f, refl, (k refl, refl, tt)))

  pub box_sound : (w : Visible) (p : Pair) (al : Bool) (y : Symbol) → IsPair s w p → MayHaveEntry y → needs margin_name y ≡ true → needs first_name y ≡ true →
      (al ≡ true → needs column_name y ≡ true) → Sound w (Entry (pair_bindings s p ++ column_bindings s al) y)
  box_sound w p al y i round m f k =
      record {
        asks = box_kinded s w p al i;
        unmarked = tt;
        uncalled = λ n decl arguments at root e. cc;
        placed = (no_literal _ (bindings_plain s w p al i), round);
        entered = wanted p al y m f k;
      }
