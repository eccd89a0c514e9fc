-- What the pass makes of a sound symbol is sound, and binds the same.
use Rattle.std.proofs.Common.{◌≡◌, ◌∙◌, ℕ, Bool, true, false, List, [], ◌∷◌, ◌++◌, map, length, Option, None, ◌||◌, Some, refl, sym, ap, subst}
use Rattle.std.specs.Prelude.{All, slice_get}
use Rattle.std.specs.List.{flat_map}
use Rattle.std.proofs.lemmas.List.{map-append, append-nil}
use Rattle.std.proofs.lemmas.List.Elements.{All-nil}
use Rattle.std.proofs.lemmas.List.Elements.{All-weaker}
use Rattle.ig_expr.specs.Expression.{Expression, patterns_in}
use Rattle.ig_expr.specs.declared.kind.Kind.TheVariants.{Span}
use Rattle.ig_text.specs.Pattern.{HasNoEmptyLiteral}
use Rattle.ig_grammar.specs.Binding.{Binding}
use Rattle.ig_grammar.specs.Regular.{IsPlaced, FitsRound, MayHaveSign, MayHaveEntry, BindsNothing}
use Rattle.ig_grammar.specs.Subterms.{subterms, subterms_of_symbols, subterms_of_alternatives}
use Rattle.ig_grammar.specs.Visible.{Visible, binds, all_bind, replaced, bound}
use Rattle.ig_grammar.specs.Symbol.{Symbol, Literal, OneOf, Call, Label, Guard, Let, Opt, Star, Plus, SepStar, SepPlus, Group, Offside, Ignore, Align, Filtered, Seq, Entry}
use Rattle.ig_grammar.specs.Symbol.{Symbols, no_symbols, next_symbol, Alternatives, no_alternatives, next_alternative}
use Rattle.ig_grammar.specs.declared.declaration.DeclKind.{DeclKind}
use Rattle.ig_grammar.specs.declared.declaration.Decl.{Decl}
use Rattle.ig_grammar.specs.declared.grammar.Grammar.{Grammar}
use Rattle.ig_grammar.specs.declared.place.Shape.{Shape}
use Rattle.ig_pass.specs.Added.{margin_name, first_name, column_name}
use Rattle.ig_pass.specs.Asked.{IsNew, IsKinded, AsksElsewhere}
use Rattle.ig_pass.specs.Found.{DeclarationsAreFound}
use Rattle.ig_pass.specs.Needs.{is_pair, needs, alternatives_need, AreWanted, IsEntered}
use Rattle.ig_blocks_parts.specs.Setting.{Setting, Pair, lacking, carried, opened, cleared, opened_by, cleared_by, inner, pair_bindings, column_bindings, column_guards, extra, m_of, f_of, wrapped}
use Rattle.ig_blocks_parts.specs.Body.{tests_of, arguments_of, body_of, sequence_of, choices_of}
use Rattle.ig_blocks_parts.specs.Blocks.{setting_of, lowered_declarations}
use Rattle.ig_blocks_parts.proofs.Reading.{AreApart, BindingsRead, IsWritten, Reads}
use Rattle.ig_text.proofs.Lists.{contains_first}
use Rattle.ig_grammar.specs.ByForm.{own_part, inner_parts, symbols_hold, alternatives_hold}
use Rattle.ig_pass.specs.Throughout.{Placed, PlacedSymbols, PlacedChoices}
use Rattle.ig_blocks_parts.proofs.Suiting.{IsGood, LacksAdded, binder_written, read_in, arguments_read, entry_read}
use Rattle.ig_blocks_parts.proofs.MadeForms.{label_form, filters_form, sign_form, separated_form, entry_form, tests_are, column_tests_are, wrapped_sign, wrapped_separated, wrapped_bound, bound_kept}
use Rattle.ig_blocks_parts.proofs.Sights.{SeeSame, Sight, IsPair, opened_pair, pair_cleared, sight_joined, HasColumn, kind_same}
use Rattle.ig_blocks_parts.proofs.Boxing.{box_sight, entry_sight}
use Rattle.ig_blocks_parts.proofs.Wanting.{needs_kept, pair_unbound, unbound_more}
use Rattle.ig_blocks_parts.proofs.Meeting.{AllKinded, both_kinded, pair_kinded}
use Rattle.ig_blocks_parts.proofs.Calling.{call_asks, arguments_are}
use Rattle.ig_blocks_parts.proofs.Heads.{IsSoundAt, quiet_sound, tests_sound, column_sound, wrapped_sound, wrapped_binds, entered_sound, entered_binds, box_sound, flat_join, extra_plain, bindings_plain}

-- a list, an option or a group wants the pair
pair_wanted : (n : List ℕ) → is_pair n ≡ true → (y : Symbol) → MayHaveEntry y → needs n y ≡ true
pair_wanted n e (Opt x) h = ap (λ z. z || needs n x) e
pair_wanted n e (Star x) h = ap (λ z. z || needs n x) e
pair_wanted n e (Plus x) h = ap (λ z. z || needs n x) e
pair_wanted n e (SepStar x separator) h = ap (λ z. z || (needs n x || needs n separator)) e
pair_wanted n e (SepPlus x separator) h = ap (λ z. z || (needs n x || needs n separator)) e
pair_wanted n e (Group choices) h = ap (λ z. z || alternatives_need n choices) e
pair_wanted n e y h = absurd h

module _ (elsewhere : AsksElsewhere) (found : DeclarationsAreFound) (g : Grammar) (shapes : List Shape) (counted : length shapes ≡ length g.decls)
    (place : (n k : ℕ) (d e : Decl) → slice_get g.decls n ≡ Some d → slice_get g.decls k ≡ Some e → d.name ≡ e.name → n ≡ k)
    (apart : AreApart (setting_of g.decls shapes)) (c : DeclKind) where
  abbrev s : Setting
  s = setting_of g.decls shapes

  abbrev lowered : List Decl
  lowered = lowered_declarations s shapes g.decls

  abbrev Good : Visible → Symbol → Type 0
  Good = IsGood g shapes c

  abbrev Sound : Visible → Symbol → Type 0
  Sound = IsSoundAt g shapes lowered c

  -- what is known of each symbol of the source
  abbrev pub Info : Symbol → Type 0
  Info x = LacksAdded s x × IsPlaced x × IsEntered x

  all_placed : (x : Symbol) → All Info (subterms x) → All IsPlaced (subterms x)
  all_placed x all = All-weaker Info IsPlaced (λ y i. i.1) (subterms x) all

  round_of : (x : Symbol) → All Info (subterms x) → FitsRound x
  round_of x all = let own = own_part Info x all in own.1.1

  lacks_of : (x : Symbol) → All Info (subterms x) → LacksAdded s x
  lacks_of x all = let own = own_part Info x all in own.0

  -- an item with its tests binds nothing
  item_bound : (x : Symbol) (al : Bool) (p : Pair) → BindsNothing x → BindsNothing (wrapped (column_guards s al ++ tests_of s p x) (body_of s false p x))
  item_bound x al p e =
      wrapped_bound s (column_guards s al ++ tests_of s p x) (body_of s false p x) (column_tests_are s al (tests_of s p x) (tests_are s x p)) ∙ bound_kept s x false p ∙ e

  item_sign : (x : Symbol) (al : Bool) (p : Pair) → MayHaveSign x → MayHaveSign (wrapped (column_guards s al ++ tests_of s p x) (body_of s false p x))
  item_sign x al p h = wrapped_sign s (column_guards s al ++ tests_of s p x) (body_of s false p x) (sign_form s x false p h)

  -- a list of one symbol wants the column where it is aligned
  item_wants : (x : Symbol) (p : Pair) (al : Bool) → al ≡ true → needs column_name (wrapped (column_guards s al ++ tests_of s p x) (body_of s false p x)) ≡ true
  item_wants x p true e = refl
  item_wants x p false e = absurd (cc)

  -- a symbol alone, with its tests
  item_sound : (x : Symbol) (al : Bool) (p : Pair) (w : Visible) → IsPair s w p → HasColumn s al w → Placed Sound (body_of s false p x) w →
      Placed Sound (wrapped (column_guards s al ++ tests_of s p x) (body_of s false p x)) w
  item_sound x al p w i h placed =
      wrapped_sound g shapes lowered c w (column_guards s al ++ tests_of s p x) (body_of s false p x)
      (column_sound g shapes lowered c w al (tests_of s p x) h (tests_sound g shapes lowered c w x p i)) placed

  arguments_plain : (p : Pair) (w : Visible) → IsPair s w p → (name : List ℕ) (arguments : List Expression) → IsPlaced (Call name arguments) →
      IsPlaced (Call name (arguments_of s p (s.kind_of name) arguments))
  arguments_plain p w i name arguments placed = ((go (s.kind_of name)), tt)
    where
      by : (kind : DeclKind) → All HasNoEmptyLiteral (flat_map patterns_in (arguments_of s p (Some kind) arguments))
      by kind =
          subst (λ z. All HasNoEmptyLiteral (flat_map patterns_in z)) (arguments_are s p kind arguments refl)
          (subst (All HasNoEmptyLiteral) (sym (flat_join arguments (extra s kind (m_of s p) (f_of s p)) ∙ ap (λ z. flat_map patterns_in arguments ++ z) (extra_plain s w (s.paired kind) p i) ∙ append-nil (flat_map patterns_in arguments))) placed.0)

      go : (o : Option DeclKind) → All HasNoEmptyLiteral (flat_map patterns_in (arguments_of s p o arguments))
      go None = placed.0
      go (Some kind) = by kind

  -- a head with expressions of its own
  call_sound : (name : List ℕ) (arguments : List Expression) (p : Pair) (v w : Visible) → Sight s p v w → Good v (Call name arguments) → Info (Call name arguments) →
      Sound w (Call name (arguments_of s p (s.kind_of name) arguments))
  call_sound name arguments p v w sight good info =
      record {
        asks = call_asks elsewhere found g shapes counted place c p v w sight.seen sight.pair name arguments (arguments_read s name arguments info.0) good;
        unmarked = tt;
        uncalled = λ n decl others at root e. good.uncalled n decl arguments at root (call_named name decl.name (arguments_of s p (s.kind_of name) arguments) others arguments e);
        placed = arguments_plain p w sight.pair name arguments info.1;
        entered = tt;
      }
    where
      call_named : (a d : List ℕ) (xs ys zs : List Expression) → Call a xs ≡ Call d ys → Call a zs ≡ Call d zs
      call_named a d xs ys zs e = let same : a ≡ d = cc in ap (λ z. Call z zs) same

  still_new : (name : List ℕ) (v w : Visible) → SeeSame s v w → IsWritten s name → IsNew v name → IsNew w name
  still_new name v w seen written new = elsewhere.still_new v w name (sym (seen.same name written)) new

  kinded_still : (v w : Visible) → SeeSame s v w → (e : Expression) → Reads s e → IsKinded v e → IsKinded w e
  kinded_still v w seen e read kinded = (kinded.0, sym (kind_same s v w seen e read) ∙ kinded.1)

  guard_sound : (e : Expression) (p : Pair) (v w : Visible) → Sight s p v w → Good v (Guard e) → Info (Guard e) → Sound w (Guard e)
  guard_sound e p v w sight good info =
      record {
        asks = sym (kind_same s v w sight.seen e (read_in s (Guard e) e info.0 (contains_first e []))) ∙ good.asks;
        unmarked = tt;
        uncalled = λ n decl arguments at root f. cc;
        placed = info.1;
        entered = tt;
      }

  let_sound : (name : List ℕ) (e : Expression) (p : Pair) (v w : Visible) → Sight s p v w → Good v (Let name e) → Info (Let name e) → Sound w (Let name e)
  let_sound name e p v w sight good info =
      record {
        asks = (
          still_new name v w sight.seen (binder_written s (Let name e) name info.0 (contains_first name [])) good.asks.0,
          kinded_still v w sight.seen e (read_in s (Let name e) e info.0 (contains_first e [])) good.asks.1,
        );
        unmarked = tt;
        uncalled = λ n decl arguments at root f. cc;
        placed = info.1;
        entered = tt;
      }

  label_sound : (name : List ℕ) (x : Symbol) (p : Pair) (v w : Visible) → Sight s p v w → Good v (Label name x) → All Info (subterms (Label name x)) →
      Sound w (Label name (body_of s false p x))
  label_sound name x p v w sight good all =
      record {
        asks = still_new name v w sight.seen (binder_written s (Label name x) name (lacks_of (Label name x) all) (contains_first name [])) good.asks;
        unmarked = tt;
        uncalled = λ n decl arguments at root f. cc;
        placed = (All-nil HasNoEmptyLiteral, label_form s x false p (all_placed x (inner_parts Info (Label name x) all)) (round_of (Label name x) all));
        entered = tt;
      }

  wanted_kept : (bs : List Binding) (x : Symbol) (p : Pair) → BindingsRead s bs → AreWanted (λ n. needs n x) bs → needs margin_name (body_of s false (inner p) x) ≡ true →
      needs first_name (body_of s false (inner p) x) ≡ true → AreWanted (λ n. needs n (body_of s false (inner p) x)) (bs ++ pair_bindings s p)
  wanted_kept [] x lacking read w m f = tt
  wanted_kept [] x carried read w m f = tt
  wanted_kept [] x (opened a b) read w m f = (m, refl, (f, refl, tt))
  wanted_kept [] x cleared read w m f = (m, refl, (f, refl, tt))
  wanted_kept (b ∷ bs) x p read w m f = (
    needs_kept s b.name read.0.0 x false (inner p) w.0,
    unbound_more b.name bs (pair_bindings s p) (pair_unbound s b.name read.0.0 p) ∙ w.1,
    wanted_kept bs x p read.1 w.2 m f,
  )

  entry_wants : (n : List ℕ) → is_pair n ≡ true → (x : Symbol) (p : Pair) → MayHaveEntry (body_of s false (inner p) x) → needs n (body_of s false (inner p) x) ≡ true
  entry_wants n e x p h = pair_wanted n e (body_of s false (inner p) x) h

  entry_sound : (bs : List Binding) (x : Symbol) (p : Pair) (v w : Visible) → Sight s p v w → Good v (Entry bs x) → All Info (subterms (Entry bs x)) →
      Sound w (Entry (bs ++ pair_bindings s p) (body_of s false (inner p) x))
  entry_sound bs x p v w sight good all =
      let own = own_part Info (Entry bs x) all in
      let read = entry_read s bs x own.0 in
      let form = entry_form s x p own.1.1 in
      record {
        asks = subst (AllKinded w) (sym (map-append (λ b. b.value) bs (pair_bindings s p)))
            (both_kinded w (map (λ b. b.value) bs) (map (λ b. b.value) (pair_bindings s p))
            (λ e m. kinded_still v w sight.seen e (read_in s (Entry bs x) e own.0 m) (good.asks e m))
            (pair_kinded s w p sight.pair));
        unmarked = tt;
        uncalled = λ n decl arguments at root f. cc;
        placed = (plain own.1.0, form);
        entered = wanted_kept bs x p read own.2 (entry_wants margin_name refl x p form) (entry_wants first_name refl x p form);
      }
    where
      plain : All HasNoEmptyLiteral (flat_map patterns_in (map (λ b. b.value) bs)) → All HasNoEmptyLiteral (flat_map patterns_in (map (λ b. b.value) (bs ++ pair_bindings s p)))
      plain a =
          subst (All HasNoEmptyLiteral)
          (sym (ap (flat_map patterns_in) (map-append (λ b. b.value) bs (pair_bindings s p)) ∙ flat_join (map (λ b. b.value) bs) (map (λ b. b.value) (pair_bindings s p)) ∙
          ap (λ z. flat_map patterns_in (map (λ b. b.value) bs) ++ z) (ap (λ z. flat_map patterns_in (map (λ b. b.value) z)) (sym (append-nil (pair_bindings s p))) ∙ bindings_plain s w p false sight.pair) ∙
          append-nil (flat_map patterns_in (map (λ b. b.value) bs)))) a

  mutual
    pub sounds : (x : Symbol) (al : Bool) (p : Pair) (v w : Visible) → Sight s p v w → Placed Good x v → All Info (subterms x) →
        Placed Sound (body_of s al p x) w × (binds w (body_of s al p x) ≡ binds v x)
    sounds (Literal word) al p v w sight good all =
        let own = own_part Info (Literal word) all in (quiet_sound g shapes lowered c w (Literal word) tt own.1, refl)
    sounds (OneOf class) al p v w sight good all =
        let own = own_part Info (OneOf class) all in (quiet_sound g shapes lowered c w (OneOf class) tt own.1, refl)
    sounds (Call name arguments) al p v w sight good all = (call_sound name arguments p v w sight good (own_part Info (Call name arguments) all), refl)
    sounds (Label name x) al p v w sight good all =
        let r = sounds x false p v w sight good.1 (inner_parts Info (Label name x) all) in
        ((label_sound name x p v w sight good.0 all, r.0), ap (λ z. z ++ (name, Span) ∷ []) r.1)
    sounds (Guard e) al p v w sight good all = (guard_sound e p v w sight good (own_part Info (Guard e) all), refl)
    sounds (Let name e) al p v w sight good all =
        let own = own_part Info (Let name e) all in
        (let_sound name e p v w sight good own, ap (bound name) (sym (kind_same s v w sight.seen e (read_in s (Let name e) e own.0 (contains_first e [])))))
    sounds (Opt x) al p v w sight good all =
        let b = box_sight s apart false p v w sight in
        let inside = replaced w w (pair_bindings s p ++ column_bindings s false) in
        let round = round_of (Opt x) all in
        let r = sounds x false (inner p) v inside b.0 good.1 (inner_parts Info (Opt x) all) in
        let placed = quiet_sound g shapes lowered c inside (Opt (wrapped (column_guards s false ++ tests_of s (inner p) x) (body_of s false (inner p) x))) tt (All-nil HasNoEmptyLiteral, (item_sign x false (inner p) round.0, item_bound x false (inner p) round.1)) in (
          entered_sound g shapes lowered c w (pair_bindings s p ++ column_bindings s false) (Opt (wrapped (column_guards s false ++ tests_of s (inner p) x) (body_of s false (inner p) x)))
              (box_sound g shapes lowered c w p false (Opt (wrapped (column_guards s false ++ tests_of s (inner p) x) (body_of s false (inner p) x))) sight.pair tt refl refl (λ e. absurd (cc)))
              (placed, item_sound x false (inner p) inside b.0.pair tt r.0),
          entered_binds g shapes lowered c w (pair_bindings s p ++ column_bindings s false) (Opt (wrapped (column_guards s false ++ tests_of s (inner p) x) (body_of s false (inner p) x))) refl,
        )
    sounds (Star x) al p v w sight good all =
        let b = box_sight s apart al p v w sight in
        let inside = replaced w w (pair_bindings s p ++ column_bindings s al) in
        let round = round_of (Star x) all in
        let r = sounds x false (inner p) v inside b.0 good.1 (inner_parts Info (Star x) all) in
        let placed = quiet_sound g shapes lowered c inside (Star (wrapped (column_guards s al ++ tests_of s (inner p) x) (body_of s false (inner p) x))) tt (All-nil HasNoEmptyLiteral, (item_sign x al (inner p) round.0, item_bound x al (inner p) round.1)) in (
          entered_sound g shapes lowered c w (pair_bindings s p ++ column_bindings s al) (Star (wrapped (column_guards s al ++ tests_of s (inner p) x) (body_of s false (inner p) x)))
              (box_sound g shapes lowered c w p al (Star (wrapped (column_guards s al ++ tests_of s (inner p) x) (body_of s false (inner p) x))) sight.pair tt refl refl (λ e. item_wants x (inner p) al e))
              (placed, item_sound x al (inner p) inside b.0.pair b.1 r.0),
          entered_binds g shapes lowered c w (pair_bindings s p ++ column_bindings s al) (Star (wrapped (column_guards s al ++ tests_of s (inner p) x) (body_of s false (inner p) x))) refl,
        )
    sounds (Plus x) al p v w sight good all =
        let b = box_sight s apart al p v w sight in
        let inside = replaced w w (pair_bindings s p ++ column_bindings s al) in
        let round = round_of (Plus x) all in
        let r = sounds x false (inner p) v inside b.0 good.1 (inner_parts Info (Plus x) all) in
        let placed = quiet_sound g shapes lowered c inside (Plus (wrapped (column_guards s al ++ tests_of s (inner p) x) (body_of s false (inner p) x))) tt (All-nil HasNoEmptyLiteral, (item_sign x al (inner p) round.0, item_bound x al (inner p) round.1)) in (
          entered_sound g shapes lowered c w (pair_bindings s p ++ column_bindings s al) (Plus (wrapped (column_guards s al ++ tests_of s (inner p) x) (body_of s false (inner p) x)))
              (box_sound g shapes lowered c w p al (Plus (wrapped (column_guards s al ++ tests_of s (inner p) x) (body_of s false (inner p) x))) sight.pair tt refl refl (λ e. item_wants x (inner p) al e))
              (placed, item_sound x al (inner p) inside b.0.pair b.1 r.0),
          entered_binds g shapes lowered c w (pair_bindings s p ++ column_bindings s al) (Plus (wrapped (column_guards s al ++ tests_of s (inner p) x) (body_of s false (inner p) x))) refl,
        )
    sounds (SepStar x separator) al p v w sight good all =
        let b = box_sight s apart al p v w sight in
        let inside = replaced w w (pair_bindings s p ++ column_bindings s al) in
        let round = round_of (SepStar x separator) all in
        let parts = inner_parts Info (SepStar x separator) all in
        let r = sounds x false (inner p) v inside b.0 good.1 parts.0 in
        let q = sounds separator false (inner p) v inside b.0 good.2 parts.1 in
        let placed = quiet_sound g shapes lowered c inside (SepStar (wrapped (column_guards s al ++ tests_of s (inner p) x) (body_of s false (inner p) x)) (wrapped (tests_of s (inner p) separator) (body_of s false (inner p) separator))) tt (
          All-nil HasNoEmptyLiteral,
          (
            wrapped_separated s (column_guards s al ++ tests_of s (inner p) x) (body_of s false (inner p) x) (separated_form s x false (inner p) (all_placed x parts.0) round.0),
            wrapped_separated s (tests_of s (inner p) separator) (body_of s false (inner p) separator) (separated_form s separator false (inner p) (all_placed separator parts.1) round.1),
            item_bound x al (inner p) round.2,
            item_bound separator false (inner p) round.3,
          ),
        ) in (
          entered_sound g shapes lowered c w (pair_bindings s p ++ column_bindings s al) (SepStar (wrapped (column_guards s al ++ tests_of s (inner p) x) (body_of s false (inner p) x)) (wrapped (tests_of s (inner p) separator) (body_of s false (inner p) separator)))
              (box_sound g shapes lowered c w p al (SepStar (wrapped (column_guards s al ++ tests_of s (inner p) x) (body_of s false (inner p) x)) (wrapped (tests_of s (inner p) separator) (body_of s false (inner p) separator))) sight.pair tt refl refl (λ e. ap (λ z. z || needs column_name (wrapped (tests_of s (inner p) separator) (body_of s false (inner p) separator))) (item_wants x (inner p) al e)))
              (placed, item_sound x al (inner p) inside b.0.pair b.1 r.0, item_sound separator false (inner p) inside b.0.pair tt q.0),
          entered_binds g shapes lowered c w (pair_bindings s p ++ column_bindings s al) (SepStar (wrapped (column_guards s al ++ tests_of s (inner p) x) (body_of s false (inner p) x)) (wrapped (tests_of s (inner p) separator) (body_of s false (inner p) separator))) refl,
        )
    sounds (SepPlus x separator) al p v w sight good all =
        let b = box_sight s apart al p v w sight in
        let inside = replaced w w (pair_bindings s p ++ column_bindings s al) in
        let round = round_of (SepPlus x separator) all in
        let parts = inner_parts Info (SepPlus x separator) all in
        let r = sounds x false (inner p) v inside b.0 good.1 parts.0 in
        let q = sounds separator false (inner p) v inside b.0 good.2 parts.1 in
        let placed = quiet_sound g shapes lowered c inside (SepPlus (wrapped (column_guards s al ++ tests_of s (inner p) x) (body_of s false (inner p) x)) (wrapped (tests_of s (inner p) separator) (body_of s false (inner p) separator))) tt (
          All-nil HasNoEmptyLiteral,
          (
            wrapped_separated s (column_guards s al ++ tests_of s (inner p) x) (body_of s false (inner p) x) (separated_form s x false (inner p) (all_placed x parts.0) round.0),
            wrapped_separated s (tests_of s (inner p) separator) (body_of s false (inner p) separator) (separated_form s separator false (inner p) (all_placed separator parts.1) round.1),
            item_bound x al (inner p) round.2,
            item_bound separator false (inner p) round.3,
          ),
        ) in (
          entered_sound g shapes lowered c w (pair_bindings s p ++ column_bindings s al) (SepPlus (wrapped (column_guards s al ++ tests_of s (inner p) x) (body_of s false (inner p) x)) (wrapped (tests_of s (inner p) separator) (body_of s false (inner p) separator)))
              (box_sound g shapes lowered c w p al (SepPlus (wrapped (column_guards s al ++ tests_of s (inner p) x) (body_of s false (inner p) x)) (wrapped (tests_of s (inner p) separator) (body_of s false (inner p) separator))) sight.pair tt refl refl (λ e. ap (λ z. z || needs column_name (wrapped (tests_of s (inner p) separator) (body_of s false (inner p) separator))) (item_wants x (inner p) al e)))
              (placed, item_sound x al (inner p) inside b.0.pair b.1 r.0, item_sound separator false (inner p) inside b.0.pair tt q.0),
          entered_binds g shapes lowered c w (pair_bindings s p ++ column_bindings s al) (SepPlus (wrapped (column_guards s al ++ tests_of s (inner p) x) (body_of s false (inner p) x)) (wrapped (tests_of s (inner p) separator) (body_of s false (inner p) separator))) refl,
        )
    sounds (Group choices) al p v w sight good all =
        let b = box_sight s apart false p v w sight in
        let inside = replaced w w (pair_bindings s p ++ column_bindings s false) in
        let r = choices_sound choices (inner p) v inside b.0 good.1 (inner_parts Info (Group choices) all) in (
          entered_sound g shapes lowered c w (pair_bindings s p ++ column_bindings s false) (Group (choices_of s (inner p) choices))
              (box_sound g shapes lowered c w p false (Group (choices_of s (inner p) choices)) sight.pair tt refl refl (λ e. absurd (cc)))
              (quiet_sound g shapes lowered c inside (Group (choices_of s (inner p) choices)) tt (All-nil HasNoEmptyLiteral, tt), r),
          entered_binds g shapes lowered c w (pair_bindings s p ++ column_bindings s false) (Group (choices_of s (inner p) choices)) refl,
        )
    sounds (Offside x) al p v w sight good all =
        sounds x al (opened_by s p) v w (record { seen = sight.seen; pair = opened_pair p sight.pair }) good.1 (inner_parts Info (Offside x) all)
    sounds (Ignore x) al p v w sight good all =
        sounds x al (cleared_by p) v w (record { seen = sight.seen; pair = pair_cleared s w p }) good.1 (inner_parts Info (Ignore x) all)
    sounds (Align x) al p v w sight good all = sounds x true p v w sight good.1 (inner_parts Info (Align x) all)
    sounds (Filtered x filters) al p v w sight good all =
        let own = own_part Info (Filtered x filters) all in
        let r = sounds x al p v w sight good.1 (inner_parts Info (Filtered x filters) all) in
        ((quiet_sound g shapes lowered c w (Filtered (body_of s al p x) filters) tt (own.1.0, filters_form s x al p own.1.1), r.0), r.1)
    sounds (Seq xs) al p v w sight good all =
        let r = symbols_sound xs p v w sight good.1 (inner_parts Info (Seq xs) all) in
        ((quiet_sound g shapes lowered c w (Seq (sequence_of s p xs)) tt (All-nil HasNoEmptyLiteral, tt), r.0), r.1)
    sounds (Entry bindings x) al p v w sight good all =
        let own = own_part Info (Entry bindings x) all in
        let there = entry_sight s apart p v w bindings (entry_read s bindings x own.0) sight in
        let r = sounds x false (inner p) (replaced v v bindings) (replaced w w (bindings ++ pair_bindings s p)) there good.1 (inner_parts Info (Entry bindings x) all) in
        ((entry_sound bindings x p v w sight good.0 all, r.0), refl)

    pub symbols_sound : (xs : Symbols) (p : Pair) (v w : Visible) → Sight s p v w → PlacedSymbols Good xs v → All Info (subterms_of_symbols xs) →
        PlacedSymbols Sound (sequence_of s p xs) w × (all_bind w (sequence_of s p xs) ≡ all_bind v xs)
    symbols_sound no_symbols p v w sight good all = (tt, refl)
    symbols_sound (next_symbol x xs) p v w sight good all =
        let parts = symbols_hold Info (next_symbol x xs) all in
        let r = sounds x false p v w sight good.0 parts.0 in
        let tests = tests_sound g shapes lowered c w x p sight.pair in
        let same : binds w (wrapped (tests_of s p x) (body_of s false p x)) ≡ binds v x = wrapped_binds g shapes lowered c w (tests_of s p x) (body_of s false p x) tests ∙ r.1 in
        let q = symbols_sound xs p (v ++ binds v x) (w ++ binds v x) (sight_joined s p v w (binds v x) sight) good.1 parts.1 in (
          (
            wrapped_sound g shapes lowered c w (tests_of s p x) (body_of s false p x) tests r.0,
            subst (λ z. PlacedSymbols Sound (sequence_of s p xs) (w ++ z)) (sym same) q.0,
          ),
          ap (λ z. z ++ all_bind (w ++ z) (sequence_of s p xs)) same ∙ ap (λ z. binds v x ++ z) q.1,
        )

    choices_sound : (xs : Alternatives) (p : Pair) (v w : Visible) → Sight s p v w → PlacedChoices Good xs v → All Info (subterms_of_alternatives xs) →
        PlacedChoices Sound (choices_of s p xs) w
    choices_sound no_alternatives p v w sight good all = tt
    choices_sound (next_alternative xs others) p v w sight good all =
        let parts = alternatives_hold Info (next_alternative xs others) all in
        let r = symbols_sound xs p v w sight good.0 parts.0 in
        (r.0, choices_sound others p v w sight good.1 parts.1)
