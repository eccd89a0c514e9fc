-- What the pass makes of a symbol is what the relation says.
use Rattle.std.proofs.Common.{◌≡◌, ◌≢◌, ◌⊎◌, ℕ, Bool, true, false, List, [], ◌++◌, Some, refl, sym, ap, subst, inl, inr}
use Rattle.ig_expr.specs.Expression.{Expression}
use Rattle.ig_grammar.specs.Symbol.{Symbol, Literal, OneOf, Call, Label, Guard, Let, Opt, Star, Plus, SepStar, SepPlus, Group, Offside, Ignore, Align, Filtered, Seq, Entry}
use Rattle.ig_grammar.specs.Symbol.{Symbols, no_symbols, next_symbol, listed, Alternatives, no_alternatives, next_alternative}
use Rattle.ig_grammar.specs.ByForm.{OfInner, own_part, inner_parts, symbols_hold, alternatives_hold}
use Rattle.ig_grammar.specs.Regular.{IsPlaced, FitsRound, AlternativesStandWell, MayHaveMark, MayHaveEntry}
use Rattle.ig_grammar.specs.Standing.{StandsWell, SymbolsStandWell}
use Rattle.ig_grammar.specs.declared.declaration.DeclKind.{DeclKind}
use Rattle.ig_grammar.specs.declared.declaration.DeclKind.TheVariants.{Syntax, Lexical, Layout, Plain}
use Rattle.ig_blocks_parts.specs.Setting.{Setting, Pair, lacking, carried, opened, cleared, opened_by, cleared_by, inner, pair_bindings, column_bindings, guards, entered}
use Rattle.ig_blocks_parts.proofs.Reading.{IsSteady, IsProper, bare, pair_in, is_aligned}
use Rattle.ig_blocks_parts.proofs.Lowered as low
use Rattle.ig_blocks_parts.proofs.Lowered.{Lowered, Item, Covered, Choices, IsHanded}
use Rattle.ig_blocks_parts.specs.Body.{call_tests, tests_of, arguments_of, body_of, sequence_of, choices_of}
use Rattle.ig_grammar.specs.Condition.{IsListed}
use Rattle.ig_grammar.specs.Forms.{mark_of_filtered}
use Rattle.ig_blocks_parts.proofs.Fitting.{IsFit, AreFit, AreFitChoices, Suits}

-- where a symbol can stand: under a pair that is handed down, or where a mark may stand round it
abbrev CanStand : Pair → Symbol → Type 0
CanStand p x = IsSteady p ⊎ MayHaveMark x

steady_inner : (p : Pair) → IsSteady (inner p)
steady_inner lacking = tt
steady_inner carried = tt
steady_inner (opened a b) = tt
steady_inner cleared = tt

module _ (s : Setting) (c : DeclKind) where
  -- what a symbol stands directly round, and what it has inside
  round : (x : Symbol) → StandsWell x → FitsRound x
  round x well = let own = own_part IsPlaced x well in own.1

  inside : (x : Symbol) → StandsWell x → OfInner IsPlaced x
  inside = inner_parts IsPlaced

  suits_inner : (p : Pair) → Suits s c p → Suits s c (inner p)
  suits_inner p (inl h) = inl h
  suits_inner p (inr h) = inr (ap inner h)

  suits_cleared : (p : Pair) → Suits s c p → Suits s c (cleared_by p)
  suits_cleared p (inl h) = inl h
  suits_cleared p (inr h) = inr (ap cleared_by h)

  proper : (p : Pair) → Suits s c p → IsProper c p
  proper lacking h = tt
  proper carried (inl h) = h.0
  proper carried (inr h) = absurd (cc)
  proper (opened a b) (inl h) = h.0
  proper (opened a b) (inr h) = absurd (cc)
  proper cleared h = tt

  unpaired_syntax : (p : Pair) → Suits s c p → s.paired Syntax ≡ false → p ≡ lacking
  unpaired_syntax p (inl h) e = absurd (cc)
  unpaired_syntax p (inr h) e = h

  handed : (kind : DeclKind) (p : Pair) → Suits s c p → IsHanded s kind p
  handed kind p h = go (s.paired kind) refl
    where
      plain : (kind : DeclKind) → (kind ≢ Syntax) → (b : Bool) → s.paired Syntax ≡ b → ((s.paired Syntax ≡ true) × (kind ≢ Syntax)) ⊎ (p ≡ lacking)
      plain kind ne true e = inl (e, ne)
      plain kind ne false e = inr (unpaired_syntax p h e)

      other : (kind : DeclKind) → s.paired kind ≡ false → ((s.paired Syntax ≡ true) × (kind ≢ Syntax)) ⊎ (p ≡ lacking)
      other Syntax e = inr (unpaired_syntax p h e)
      other Lexical e = plain Lexical (λ z. cc) (s.paired Syntax) refl
      other Layout e = plain Layout (λ z. cc) (s.paired Syntax) refl
      other Plain e = plain Plain (λ z. cc) (s.paired Syntax) refl

      go : (b : Bool) → s.paired kind ≡ b → IsHanded s kind p
      go true e = inl e
      go false e = inr (e, other kind e)

  -- a call
  call_lowered : (p : Pair) (name : List ℕ) (arguments : List Expression) → Suits s c p → IsFit s c (Call name arguments) →
      Lowered s c false p (Call name arguments) (call_tests s p (s.kind_of name)) (Call name (arguments_of s p (s.kind_of name) arguments))
  call_lowered p name arguments h fit =
      subst (λ z. Lowered s c false p (Call name arguments) (call_tests s p z) (Call name (arguments_of s p z arguments))) (sym fit.0.1) (go fit.0.0 fit.0.1 fit.0.2)
    where
      go : (kind : DeclKind) → s.kind_of name ≡ Some kind → (s.paired Syntax ≡ true → kind ≡ Syntax → c ≡ Syntax) →
          Lowered s c false p (Call name arguments) (call_tests s p (Some kind)) (Call name (arguments_of s p (Some kind) arguments))
      go Lexical known into = low.token p name arguments (guards s p) known fit.1 (proper p h) refl
      go Syntax known into = low.call p name arguments _ Syntax known (λ z. cc) into (handed Syntax p h) fit.1 refl
      go Layout known into = low.call p name arguments _ Layout known (λ z. cc) into (handed Layout p h) fit.1 refl
      go Plain known into = low.call p name arguments _ Plain known (λ z. cc) into (handed Plain p h) fit.1 refl

  opt_lowered : (p : Pair) (x y : Symbol) → Item s c false (inner p) x y →
      Lowered s c false p (Opt x) [] (entered (pair_bindings s p ++ column_bindings s false) (Opt y))
  opt_lowered lacking x y it = low.opt_in lacking x y tt it
  opt_lowered carried x y it = low.opt_in carried x y tt it
  opt_lowered (opened a b) x y it = low.opt_box (opened a b) _ x y it refl
  opt_lowered cleared x y it = low.opt_box cleared _ x y it refl

  star_false : (p : Pair) (x y : Symbol) → Item s c false (inner p) x y →
      Lowered s c false p (Star x) [] (entered (pair_bindings s p ++ column_bindings s false) (Star y))
  star_false lacking x y it = low.star_in lacking x y tt it
  star_false carried x y it = low.star_in carried x y tt it
  star_false (opened a b) x y it = low.star_box false (opened a b) _ x y it refl
  star_false cleared x y it = low.star_box false cleared _ x y it refl

  star_true : (p : Pair) (x y : Symbol) → Item s c true (inner p) x y →
      Lowered s c true p (Star x) [] (entered (pair_bindings s p ++ column_bindings s true) (Star y))
  star_true lacking x y it = low.star_box true lacking _ x y it refl
  star_true carried x y it = low.star_box true carried _ x y it refl
  star_true (opened a b) x y it = low.star_box true (opened a b) _ x y it refl
  star_true cleared x y it = low.star_box true cleared _ x y it refl

  plus_false : (p : Pair) (x y : Symbol) → Item s c false (inner p) x y →
      Lowered s c false p (Plus x) [] (entered (pair_bindings s p ++ column_bindings s false) (Plus y))
  plus_false lacking x y it = low.plus_in lacking x y tt it
  plus_false carried x y it = low.plus_in carried x y tt it
  plus_false (opened a b) x y it = low.plus_box false (opened a b) _ x y it refl
  plus_false cleared x y it = low.plus_box false cleared _ x y it refl

  plus_true : (p : Pair) (x y : Symbol) → Item s c true (inner p) x y →
      Lowered s c true p (Plus x) [] (entered (pair_bindings s p ++ column_bindings s true) (Plus y))
  plus_true lacking x y it = low.plus_box true lacking _ x y it refl
  plus_true carried x y it = low.plus_box true carried _ x y it refl
  plus_true (opened a b) x y it = low.plus_box true (opened a b) _ x y it refl
  plus_true cleared x y it = low.plus_box true cleared _ x y it refl

  sep_star_false : (p : Pair) (x y separator other : Symbol) → Item s c false (inner p) x y → Item s c false (inner p) separator other →
      Lowered s c false p (SepStar x separator) [] (entered (pair_bindings s p ++ column_bindings s false) (SepStar y other))
  sep_star_false lacking x y separator other it it2 = low.sep_star_in lacking x y separator other tt it it2
  sep_star_false carried x y separator other it it2 = low.sep_star_in carried x y separator other tt it it2
  sep_star_false (opened a b) x y separator other it it2 = low.sep_star_box false (opened a b) _ x y separator other it it2 refl
  sep_star_false cleared x y separator other it it2 = low.sep_star_box false cleared _ x y separator other it it2 refl

  sep_star_true : (p : Pair) (x y separator other : Symbol) → Item s c true (inner p) x y → Item s c false (inner p) separator other →
      Lowered s c true p (SepStar x separator) [] (entered (pair_bindings s p ++ column_bindings s true) (SepStar y other))
  sep_star_true lacking x y separator other it it2 = low.sep_star_box true lacking _ x y separator other it it2 refl
  sep_star_true carried x y separator other it it2 = low.sep_star_box true carried _ x y separator other it it2 refl
  sep_star_true (opened a b) x y separator other it it2 = low.sep_star_box true (opened a b) _ x y separator other it it2 refl
  sep_star_true cleared x y separator other it it2 = low.sep_star_box true cleared _ x y separator other it it2 refl

  sep_plus_false : (p : Pair) (x y separator other : Symbol) → Item s c false (inner p) x y → Item s c false (inner p) separator other →
      Lowered s c false p (SepPlus x separator) [] (entered (pair_bindings s p ++ column_bindings s false) (SepPlus y other))
  sep_plus_false lacking x y separator other it it2 = low.sep_plus_in lacking x y separator other tt it it2
  sep_plus_false carried x y separator other it it2 = low.sep_plus_in carried x y separator other tt it it2
  sep_plus_false (opened a b) x y separator other it it2 = low.sep_plus_box false (opened a b) _ x y separator other it it2 refl
  sep_plus_false cleared x y separator other it it2 = low.sep_plus_box false cleared _ x y separator other it it2 refl

  sep_plus_true : (p : Pair) (x y separator other : Symbol) → Item s c true (inner p) x y → Item s c false (inner p) separator other →
      Lowered s c true p (SepPlus x separator) [] (entered (pair_bindings s p ++ column_bindings s true) (SepPlus y other))
  sep_plus_true lacking x y separator other it it2 = low.sep_plus_box true lacking _ x y separator other it it2 refl
  sep_plus_true carried x y separator other it it2 = low.sep_plus_box true carried _ x y separator other it it2 refl
  sep_plus_true (opened a b) x y separator other it it2 = low.sep_plus_box true (opened a b) _ x y separator other it it2 refl
  sep_plus_true cleared x y separator other it it2 = low.sep_plus_box true cleared _ x y separator other it it2 refl

  group_lowered : (p : Pair) (cs ds : Alternatives) → Choices s c (inner p) cs ds →
      Lowered s c false p (Group cs) [] (entered (pair_bindings s p ++ column_bindings s false) (Group ds))
  group_lowered lacking cs ds ch = low.group_in lacking cs ds tt ch
  group_lowered carried cs ds ch = low.group_in carried cs ds tt ch
  group_lowered (opened a b) cs ds ch = low.group_box (opened a b) _ cs ds ch refl
  group_lowered cleared cs ds ch = low.group_box cleared _ cs ds ch refl

  no_tests : (p : Pair) (x : Symbol) → MayHaveEntry x → tests_of s p x ≡ []
  no_tests p (Opt x) h = refl
  no_tests p (Star x) h = refl
  no_tests p (Plus x) h = refl
  no_tests p (SepStar x separator) h = refl
  no_tests p (SepPlus x separator) h = refl
  no_tests p (Group choices) h = refl
  no_tests p x h = absurd h

  mutual
    pub lowers : (x : Symbol) (p : Pair) → Suits s c p → CanStand p x → StandsWell x → IsFit s c x →
        Lowered s c (is_aligned x) (pair_in s p x) (bare x) (tests_of s p x) (body_of s false p x)
    lowers (Literal word) p h can well fit = low.literal p word (guards s p) (proper p h) refl
    lowers (OneOf class) p h can well fit = low.one_of p class (guards s p) (proper p h) refl
    lowers (Call name arguments) p h can well fit = call_lowered p name arguments h fit
    lowers (Label name x) p h (inl steady) well fit =
        low.label p name x (body_of s false p x) (tests_of s p x) fit.0 (low.placed p x (body_of s false p x) (tests_of s p x) (lowers x p h (inl steady) (inside (Label name x) well) fit.1))
    lowers (Label name x) p h (inr can) well fit = absurd can
    lowers (Guard e) p h can well fit = low.guard p e fit
    lowers (Let name e) p h can well fit = low.let_be p name e fit.0 fit.1
    lowers (Opt x) p h can well fit =
        opt_lowered p x _ (low.item false (inner p) x (body_of s false (inner p) x) _ (tests_of s (inner p) x) (lowers x (inner p) (suits_inner p h) (inl (steady_inner p)) (inside (Opt x) well) fit) refl)
    lowers (Star x) p h can well fit =
        star_false p x _ (low.item false (inner p) x (body_of s false (inner p) x) _ (tests_of s (inner p) x) (lowers x (inner p) (suits_inner p h) (inl (steady_inner p)) (inside (Star x) well) fit) refl)
    lowers (Plus x) p h can well fit =
        plus_false p x _ (low.item false (inner p) x (body_of s false (inner p) x) _ (tests_of s (inner p) x) (lowers x (inner p) (suits_inner p h) (inl (steady_inner p)) (inside (Plus x) well) fit) refl)
    lowers (SepStar x separator) p h can well fit =
        sep_star_false p x _ separator _
        (low.item false (inner p) x (body_of s false (inner p) x) _ (tests_of s (inner p) x) (lowers x (inner p) (suits_inner p h) (inl (steady_inner p)) (inside (SepStar x separator) well).0 fit.0) refl)
        (low.item false (inner p) separator (body_of s false (inner p) separator) _ (tests_of s (inner p) separator) (lowers separator (inner p) (suits_inner p h) (inl (steady_inner p)) (inside (SepStar x separator) well).1 fit.1) refl)
    lowers (SepPlus x separator) p h can well fit =
        sep_plus_false p x _ separator _
        (low.item false (inner p) x (body_of s false (inner p) x) _ (tests_of s (inner p) x) (lowers x (inner p) (suits_inner p h) (inl (steady_inner p)) (inside (SepPlus x separator) well).0 fit.0) refl)
        (low.item false (inner p) separator (body_of s false (inner p) separator) _ (tests_of s (inner p) separator) (lowers separator (inner p) (suits_inner p h) (inl (steady_inner p)) (inside (SepPlus x separator) well).1 fit.1) refl)
    lowers (Group choices) p h can well fit = group_lowered p choices (choices_of s (inner p) choices) (lowers_choices choices (inner p) (suits_inner p h) (steady_inner p) (inside (Group choices) well) fit)
    lowers (Offside x) p h can well fit = lowers x (opened_by s p) (inl (fit.0, fit.1)) (inr (round (Offside x) well)) (inside (Offside x) well) fit.2
    lowers (Ignore x) p h can well fit = lowers x (cleared_by p) (suits_cleared p h) (inr (round (Ignore x) well)) (inside (Ignore x) well) fit
    lowers (Align x) p h can well fit = lowers_list x p h fit.0 (inside (Align x) well) fit.1
    lowers (Filtered x filters) p h can well fit =
        low.filtered p x (body_of s false p x) filters (tests_of s p x)
        (low.placed p x (body_of s false p x) (tests_of s p x) (lowers x p h (inr (mark_of_filtered x (round (Filtered x filters) well))) (inside (Filtered x filters) well) fit))
    lowers (Seq xs) p h (inl steady) well fit = low.seq p xs (sequence_of s p xs) steady (lowers_sequence xs p h steady (inside (Seq xs) well) fit)
    lowers (Seq xs) p h (inr can) well fit = absurd can
    lowers (Entry bindings x) p h can well fit =
        low.entry p bindings (bindings ++ pair_bindings s p) x (body_of s false (inner p) x) fit.0
        (low.placed (inner p) x (body_of s false (inner p) x) []
        (subst (λ z. Lowered s c (is_aligned x) (pair_in s (inner p) x) (bare x) z (body_of s false (inner p) x)) (no_tests (inner p) x (round (Entry bindings x) well))
        (lowers x (inner p) (suits_inner p h) (inl (steady_inner p)) (inside (Entry bindings x) well) fit.1)))
        refl

    lowers_list : (x : Symbol) (p : Pair) → Suits s c p → IsListed x → StandsWell x → IsFit s c x → Lowered s c true p x [] (body_of s true p x)
    lowers_list (Star x) p h list well fit =
        star_true p x _ (low.item true (inner p) x (body_of s false (inner p) x) _ (tests_of s (inner p) x) (lowers x (inner p) (suits_inner p h) (inl (steady_inner p)) (inside (Star x) well) fit) refl)
    lowers_list (Plus x) p h list well fit =
        plus_true p x _ (low.item true (inner p) x (body_of s false (inner p) x) _ (tests_of s (inner p) x) (lowers x (inner p) (suits_inner p h) (inl (steady_inner p)) (inside (Plus x) well) fit) refl)
    lowers_list (SepStar x separator) p h list well fit =
        sep_star_true p x _ separator _
        (low.item true (inner p) x (body_of s false (inner p) x) _ (tests_of s (inner p) x) (lowers x (inner p) (suits_inner p h) (inl (steady_inner p)) (inside (SepStar x separator) well).0 fit.0) refl)
        (low.item false (inner p) separator (body_of s false (inner p) separator) _ (tests_of s (inner p) separator) (lowers separator (inner p) (suits_inner p h) (inl (steady_inner p)) (inside (SepStar x separator) well).1 fit.1) refl)
    lowers_list (SepPlus x separator) p h list well fit =
        sep_plus_true p x _ separator _
        (low.item true (inner p) x (body_of s false (inner p) x) _ (tests_of s (inner p) x) (lowers x (inner p) (suits_inner p h) (inl (steady_inner p)) (inside (SepPlus x separator) well).0 fit.0) refl)
        (low.item false (inner p) separator (body_of s false (inner p) separator) _ (tests_of s (inner p) separator) (lowers separator (inner p) (suits_inner p h) (inl (steady_inner p)) (inside (SepPlus x separator) well).1 fit.1) refl)
    lowers_list (Filtered x filters) p h list well fit = low.filtered_list p x (body_of s true p x) filters [] (lowers_list x p h list (inside (Filtered x filters) well) fit)
    lowers_list x p h list well fit = absurd list

    pub lowers_sequence : (xs : Symbols) (p : Pair) → Suits s c p → IsSteady p → SymbolsStandWell xs → AreFit s c xs →
        Covered s c p (listed xs) (listed (sequence_of s p xs))
    lowers_sequence no_symbols p h steady well fit = low.nothing p
    lowers_sequence (next_symbol x xs) p h steady well fit =
        low.next p x _ (listed xs) (listed (sequence_of s p xs))
        (low.item false p x (body_of s false p x) _ (tests_of s p x) (lowers x p h (inl steady) (symbols_hold IsPlaced (next_symbol x xs) well).0 fit.0) refl)
        (lowers_sequence xs p h steady (symbols_hold IsPlaced (next_symbol x xs) well).1 fit.1)

    lowers_choices : (choices : Alternatives) (p : Pair) → Suits s c p → IsSteady p → AlternativesStandWell choices → AreFitChoices s c choices →
        Choices s c p choices (choices_of s p choices)
    lowers_choices no_alternatives p h steady well fit = low.no_choices p
    lowers_choices (next_alternative xs others) p h steady well fit =
        low.next_choice p xs (sequence_of s p xs) others (choices_of s p others) (lowers_sequence xs p h steady (alternatives_hold IsPlaced (next_alternative xs others) well).0 fit.0) (lowers_choices others p h steady (alternatives_hold IsPlaced (next_alternative xs others) well).1 fit.1)
