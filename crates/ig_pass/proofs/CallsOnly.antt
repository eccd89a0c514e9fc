-- Symbols all of whose calls, at whatever depth, are of certain names.
use Rattle.std.proofs.Common.{◌≡◌, ℕ, suc, List, [], ◌∷◌, ◌++◌, Some, subst}
use Rattle.std.specs.Prelude.{Contains}
use Rattle.std.proofs.lemmas.List.Elements.{Contains-append_left, Contains-append_right, Contains-push}
use Rattle.ig_grammar.specs.Symbol.{Symbol, Literal, OneOf, Call, Label, Guard, Let, Opt, Star, Plus, SepStar, SepPlus, Group, Offside, Ignore, Align, Filtered, Seq, Entry}
use Rattle.ig_grammar.specs.Symbol.{Symbols, no_symbols, next_symbol, Alternatives, no_alternatives, next_alternative, gathered, listed}
use Rattle.ig_grammar.specs.Numbering.{IsChoice, choice}
use Rattle.ig_grammar.specs.Visible.{Visible, Occurrence, at, inside, inside_sequence, inside_choices, binds, replaced}

-- what the symbol itself calls is named
abbrev pub IsCallOf : (List ℕ → Type 0) → Symbol → Type 0
IsCallOf Named (Call name arguments) = Named name
IsCallOf Named x = Unit {0}

module _ (Named : List ℕ → Type 0) where
  -- whatever is called in it is named
  abbrev mutual
    pub CallsOnly : Symbol → Type 0
    CallsOnly (Literal word) = Unit {0}
    CallsOnly (OneOf class) = Unit {0}
    CallsOnly (Call name arguments) = Named name
    CallsOnly (Label name x) = CallsOnly x
    CallsOnly (Guard e) = Unit {0}
    CallsOnly (Let name e) = Unit {0}
    CallsOnly (Opt x) = CallsOnly x
    CallsOnly (Star x) = CallsOnly x
    CallsOnly (Plus x) = CallsOnly x
    CallsOnly (SepStar x separator) = CallsOnly x × CallsOnly separator
    CallsOnly (SepPlus x separator) = CallsOnly x × CallsOnly separator
    CallsOnly (Group choices) = ChoicesCallOnly choices
    CallsOnly (Offside x) = CallsOnly x
    CallsOnly (Ignore x) = CallsOnly x
    CallsOnly (Align x) = CallsOnly x
    CallsOnly (Filtered x filters) = CallsOnly x
    CallsOnly (Seq xs) = SymbolsCallOnly xs
    CallsOnly (Entry bindings x) = CallsOnly x

    pub SymbolsCallOnly : Symbols → Type 0
    SymbolsCallOnly no_symbols = Unit {0}
    SymbolsCallOnly (next_symbol x xs) = CallsOnly x × SymbolsCallOnly xs

    pub ChoicesCallOnly : Alternatives → Type 0
    ChoicesCallOnly no_alternatives = Unit {0}
    ChoicesCallOnly (next_alternative xs others) = SymbolsCallOnly xs × ChoicesCallOnly others

  abbrev pub EachCallsOnly : List Symbol → Type 0
  EachCallsOnly [] = Unit {0}
  EachCallsOnly (x ∷ xs) = CallsOnly x × EachCallsOnly xs

  pub each_listed : (xs : Symbols) → SymbolsCallOnly xs → EachCallsOnly (listed xs)
  each_listed no_symbols n = tt
  each_listed (next_symbol x xs) n = (n.0, each_listed xs n.1)

  pub each_gathered : (xs : List Symbol) → SymbolsCallOnly (gathered xs) → EachCallsOnly xs
  each_gathered [] n = tt
  each_gathered (x ∷ xs) n = (n.0, each_gathered xs n.1)

  chosen_at : (choices : Alternatives) (before : ℕ) (xs : Symbols) → choice choices before ≡ Some xs → ChoicesCallOnly choices → SymbolsCallOnly xs
  chosen_at no_alternatives before xs e n = absurd (cc)
  chosen_at (next_alternative ys others) ℕ.zero xs e n = let same : ys ≡ xs = cc in subst SymbolsCallOnly same n.0
  chosen_at (next_alternative ys others) (suc before) xs e n = chosen_at others before xs e n.1

  pub chosen : (choices : Alternatives) (k : ℕ) (xs : Symbols) → IsChoice choices k xs → ChoicesCallOnly choices → SymbolsCallOnly xs
  chosen choices k xs c n = chosen_at choices c.0 xs c.2 n

  -- each of these occurrences calls what is named
  abbrev pub EveryCall : List Occurrence → Type 0
  EveryCall os = (o : Occurrence) → Contains os o → IsCallOf Named o.symbol

  first_every : (os ps : List Occurrence) → EveryCall (os ++ ps) → EveryCall os
  first_every os ps f o m = f o (Contains-append_left os ps o m)

  others_every : (os ps : List Occurrence) → EveryCall (os ++ ps) → EveryCall ps
  others_every os ps f o m = f o (Contains-append_right os ps o m)

  head_every : (o : Occurrence) (os : List Occurrence) → EveryCall (o ∷ os) → IsCallOf Named o.symbol
  head_every o os f = f o (Contains-append_left (o ∷ []) os o (Contains-push [] o))

  tail_every : (o : Occurrence) (os : List Occurrence) → EveryCall (o ∷ os) → EveryCall os
  tail_every o os f p m = f p (Contains-append_right (o ∷ []) os p m)

  mutual
    -- at an occurrence and at all inside it
    pub from_here : (x : Symbol) (v : Visible) → EveryCall (at v x ∷ inside v x) → CallsOnly x
    from_here (Literal word) v f = tt
    from_here (OneOf class) v f = tt
    from_here (Call name arguments) v f = head_every (at v (Call name arguments)) [] f
    from_here (Label name x) v f = from_here x v (tail_every (at v (Label name x)) (at v x ∷ inside v x) f)
    from_here (Guard e) v f = tt
    from_here (Let name e) v f = tt
    from_here (Opt x) v f = from_here x v (tail_every (at v (Opt x)) (at v x ∷ inside v x) f)
    from_here (Star x) v f = from_here x v (tail_every (at v (Star x)) (at v x ∷ inside v x) f)
    from_here (Plus x) v f = from_here x v (tail_every (at v (Plus x)) (at v x ∷ inside v x) f)
    from_here (SepStar x s) v f =
        let both = tail_every (at v (SepStar x s)) ((at v x ∷ inside v x) ++ (at v s ∷ inside v s)) f in
        (from_here x v (first_every (at v x ∷ inside v x) (at v s ∷ inside v s) both), from_here s v (others_every (at v x ∷ inside v x) (at v s ∷ inside v s) both))
    from_here (SepPlus x s) v f =
        let both = tail_every (at v (SepPlus x s)) ((at v x ∷ inside v x) ++ (at v s ∷ inside v s)) f in
        (from_here x v (first_every (at v x ∷ inside v x) (at v s ∷ inside v s) both), from_here s v (others_every (at v x ∷ inside v x) (at v s ∷ inside v s) both))
    from_here (Group choices) v f = from_choices choices v (tail_every (at v (Group choices)) (inside_choices v choices) f)
    from_here (Offside x) v f = from_here x v (tail_every (at v (Offside x)) (at v x ∷ inside v x) f)
    from_here (Ignore x) v f = from_here x v (tail_every (at v (Ignore x)) (at v x ∷ inside v x) f)
    from_here (Align x) v f = from_here x v (tail_every (at v (Align x)) (at v x ∷ inside v x) f)
    from_here (Filtered x filters) v f = from_here x v (tail_every (at v (Filtered x filters)) (at v x ∷ inside v x) f)
    from_here (Seq xs) v f = from_symbols xs v (tail_every (at v (Seq xs)) (inside_sequence v xs) f)
    from_here (Entry bs x) v f =
        from_here x (replaced v v bs) (tail_every (at v (Entry bs x)) (at (replaced v v bs) x ∷ inside (replaced v v bs) x) f)

    pub from_symbols : (xs : Symbols) (v : Visible) → EveryCall (inside_sequence v xs) → SymbolsCallOnly xs
    from_symbols no_symbols v f = tt
    from_symbols (next_symbol x xs) v f = (
      from_here x v (first_every (at v x ∷ inside v x) (inside_sequence (v ++ binds v x) xs) f),
      from_symbols xs (v ++ binds v x) (others_every (at v x ∷ inside v x) (inside_sequence (v ++ binds v x) xs) f),
    )

    pub from_choices : (xs : Alternatives) (v : Visible) → EveryCall (inside_choices v xs) → ChoicesCallOnly xs
    from_choices no_alternatives v f = tt
    from_choices (next_alternative xs others) v f = (
      from_symbols xs v (first_every (inside_sequence v xs) (inside_choices v others) f),
      from_choices others v (others_every (inside_sequence v xs) (inside_choices v others) f),
    )
