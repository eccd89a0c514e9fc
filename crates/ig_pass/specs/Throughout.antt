-- What holds of each symbol at the variables that are visible there. A clause ranges over no properties of symbols, so that
-- this is the same as what holds of each occurrence stands here with its proof, and not as a law of src/laws.rt; nothing
-- of this file has to be believed.
use Rattle.std.proofs.Common.{◌≡◌, List, [], ◌∷◌, ◌++◌, subst, inl, inr, arith}
use Rattle.std.specs.Prelude.{Contains, ◌⊎◌}
use Rattle.std.proofs.lemmas.List.Elements.{Contains-append_left, Contains-append_right, Contains-append_cases, Contains-push, Contains-push_cases}
use Rattle.ig_grammar.specs.Symbol.{Symbol, Literal, OneOf, Call, Label, Guard, Let, Opt, Star, Plus, SepStar, SepPlus, Group, Offside, Ignore, Align, Filtered, Seq, Entry}
use Rattle.ig_grammar.specs.Symbol.{Symbols, no_symbols, next_symbol, Alternatives, no_alternatives, next_alternative}
use Rattle.ig_grammar.specs.Visible.{Visible, Occurrence, at, inside, inside_sequence, inside_choices, binds, replaced}

-- N holds of a symbol, and of each symbol inside it, at what is visible there
module _ (N : Visible → Symbol → Type 0) where
  abbrev mutual
    pub Placed : Symbol → Visible → Type 0
    Placed (Literal word) v = N v (Literal word)
    Placed (OneOf class) v = N v (OneOf class)
    Placed (Call name arguments) v = N v (Call name arguments)
    Placed (Label name x) v = N v (Label name x) × Placed x v
    Placed (Guard e) v = N v (Guard e)
    Placed (Let name e) v = N v (Let name e)
    Placed (Opt x) v = N v (Opt x) × Placed x v
    Placed (Star x) v = N v (Star x) × Placed x v
    Placed (Plus x) v = N v (Plus x) × Placed x v
    Placed (SepStar x s) v = N v (SepStar x s) × Placed x v × Placed s v
    Placed (SepPlus x s) v = N v (SepPlus x s) × Placed x v × Placed s v
    Placed (Group choices) v = N v (Group choices) × PlacedChoices choices v
    Placed (Offside x) v = N v (Offside x) × Placed x v
    Placed (Ignore x) v = N v (Ignore x) × Placed x v
    Placed (Align x) v = N v (Align x) × Placed x v
    Placed (Filtered x filters) v = N v (Filtered x filters) × Placed x v
    Placed (Seq xs) v = N v (Seq xs) × PlacedSymbols xs v
    Placed (Entry bs x) v = N v (Entry bs x) × Placed x (replaced v v bs)

    pub PlacedSymbols : Symbols → Visible → Type 0
    PlacedSymbols no_symbols v = Unit {0}
    PlacedSymbols (next_symbol x xs) v = Placed x v × PlacedSymbols xs (v ++ binds v x)

    pub PlacedChoices : Alternatives → Visible → Type 0
    PlacedChoices no_alternatives v = Unit {0}
    PlacedChoices (next_alternative xs others) v = PlacedSymbols xs v × PlacedChoices others v

module _ (N : Visible → Symbol → Type 0) where
  abbrev Every : List Occurrence → Type 0
  Every os = (o : Occurrence) → Contains os o → N o.visible o.symbol

  first_every : (os ps : List Occurrence) → Every (os ++ ps) → Every os
  first_every os ps f o m = f o (Contains-append_left os ps o m)

  others_every : (os ps : List Occurrence) → Every (os ++ ps) → Every ps
  others_every os ps f o m = f o (Contains-append_right os ps o m)

  head_every : (o : Occurrence) (os : List Occurrence) → Every (o ∷ os) → N o.visible o.symbol
  head_every o os f = f o (Contains-append_left (o ∷ []) os o (Contains-push [] o))

  tail_every : (o : Occurrence) (os : List Occurrence) → Every (o ∷ os) → Every os
  tail_every o os f p m = f p (Contains-append_right (o ∷ []) os p m)

  -- what holds of each occurrence is placed
  mutual
    pub placed : (x : Symbol) (v : Visible) → N v x → Every (inside v x) → Placed N x v
    placed (Literal word) v n f = n
    placed (OneOf class) v n f = n
    placed (Call name arguments) v n f = n
    placed (Label name x) v n f = (n, placed x v (head_every (at v x) (inside v x) f) (tail_every (at v x) (inside v x) f))
    placed (Guard e) v n f = n
    placed (Let name e) v n f = n
    placed (Opt x) v n f = (n, placed x v (head_every (at v x) (inside v x) f) (tail_every (at v x) (inside v x) f))
    placed (Star x) v n f = (n, placed x v (head_every (at v x) (inside v x) f) (tail_every (at v x) (inside v x) f))
    placed (Plus x) v n f = (n, placed x v (head_every (at v x) (inside v x) f) (tail_every (at v x) (inside v x) f))
    placed (SepStar x s) v n f =
        let a = first_every (at v x ∷ inside v x) (at v s ∷ inside v s) f in let b = others_every (at v x ∷ inside v x) (at v s ∷ inside v s) f in
        (n, placed x v (head_every (at v x) (inside v x) a) (tail_every (at v x) (inside v x) a), placed s v (head_every (at v s) (inside v s) b) (tail_every (at v s) (inside v s) b))
    placed (SepPlus x s) v n f =
        let a = first_every (at v x ∷ inside v x) (at v s ∷ inside v s) f in let b = others_every (at v x ∷ inside v x) (at v s ∷ inside v s) f in
        (n, placed x v (head_every (at v x) (inside v x) a) (tail_every (at v x) (inside v x) a), placed s v (head_every (at v s) (inside v s) b) (tail_every (at v s) (inside v s) b))
    placed (Group choices) v n f = (n, placed_choices choices v f)
    placed (Offside x) v n f = (n, placed x v (head_every (at v x) (inside v x) f) (tail_every (at v x) (inside v x) f))
    placed (Ignore x) v n f = (n, placed x v (head_every (at v x) (inside v x) f) (tail_every (at v x) (inside v x) f))
    placed (Align x) v n f = (n, placed x v (head_every (at v x) (inside v x) f) (tail_every (at v x) (inside v x) f))
    placed (Filtered x filters) v n f = (n, placed x v (head_every (at v x) (inside v x) f) (tail_every (at v x) (inside v x) f))
    placed (Seq xs) v n f = (n, placed_symbols xs v f)
    placed (Entry bs x) v n f =
        (n, placed x (replaced v v bs) (head_every (at (replaced v v bs) x) (inside (replaced v v bs) x) f) (tail_every (at (replaced v v bs) x) (inside (replaced v v bs) x) f))

    pub placed_symbols : (xs : Symbols) (v : Visible) → Every (inside_sequence v xs) → PlacedSymbols N xs v
    placed_symbols no_symbols v f = tt
    placed_symbols (next_symbol x xs) v f =
        let a = first_every (at v x ∷ inside v x) (inside_sequence (v ++ binds v x) xs) f in (
          placed x v (head_every (at v x) (inside v x) a) (tail_every (at v x) (inside v x) a),
          placed_symbols xs (v ++ binds v x) (others_every (at v x ∷ inside v x) (inside_sequence (v ++ binds v x) xs) f),
        )

    pub placed_choices : (xs : Alternatives) (v : Visible) → Every (inside_choices v xs) → PlacedChoices N xs v
    placed_choices no_alternatives v f = tt
    placed_choices (next_alternative xs others) v f =
        (placed_symbols xs v (first_every (inside_sequence v xs) (inside_choices v others) f), placed_choices others v (others_every (inside_sequence v xs) (inside_choices v others) f))

  no_occurrence : (o : Occurrence) → Contains [] o → N o.visible o.symbol
  no_occurrence o m = let l = m.1 in absurd (omega (arith, l))

  cons_every : (o : Occurrence) (os : List Occurrence) → N o.visible o.symbol → Every os → Every (o ∷ os)
  cons_every o os n f p m = go (Contains-append_cases (o ∷ []) os p m)
    where
      here : Contains [] p ⊎ (o ≡ p) → N p.visible p.symbol
      here (inl c) = no_occurrence p c
      here (inr e) = subst (λ q. N q.visible q.symbol) e n

      go : Contains (o ∷ []) p ⊎ Contains os p → N p.visible p.symbol
      go (inl c) = here (Contains-push_cases [] o p c)
      go (inr c) = f p c

  both_every : (os ps : List Occurrence) → Every os → Every ps → Every (os ++ ps)
  both_every os ps f h p m = go (Contains-append_cases os ps p m)
    where
      go : Contains os p ⊎ Contains ps p → N p.visible p.symbol
      go (inl c) = f p c
      go (inr c) = h p c

  -- and what is placed holds of each occurrence
  mutual
    pub of_placed : (x : Symbol) (v : Visible) → Placed N x v → Every (at v x ∷ inside v x)
    of_placed (Literal word) v p = cons_every (at v (Literal word)) [] p no_occurrence
    of_placed (OneOf class) v p = cons_every (at v (OneOf class)) [] p no_occurrence
    of_placed (Call name arguments) v p = cons_every (at v (Call name arguments)) [] p no_occurrence
    of_placed (Label name x) v p = cons_every (at v (Label name x)) (at v x ∷ inside v x) p.0 (of_placed x v p.1)
    of_placed (Guard e) v p = cons_every (at v (Guard e)) [] p no_occurrence
    of_placed (Let name e) v p = cons_every (at v (Let name e)) [] p no_occurrence
    of_placed (Opt x) v p = cons_every (at v (Opt x)) (at v x ∷ inside v x) p.0 (of_placed x v p.1)
    of_placed (Star x) v p = cons_every (at v (Star x)) (at v x ∷ inside v x) p.0 (of_placed x v p.1)
    of_placed (Plus x) v p = cons_every (at v (Plus x)) (at v x ∷ inside v x) p.0 (of_placed x v p.1)
    of_placed (SepStar x s) v p =
        cons_every (at v (SepStar x s)) (inside v (SepStar x s)) p.0 (both_every (at v x ∷ inside v x) (at v s ∷ inside v s) (of_placed x v p.1) (of_placed s v p.2))
    of_placed (SepPlus x s) v p =
        cons_every (at v (SepPlus x s)) (inside v (SepPlus x s)) p.0 (both_every (at v x ∷ inside v x) (at v s ∷ inside v s) (of_placed x v p.1) (of_placed s v p.2))
    of_placed (Group choices) v p = cons_every (at v (Group choices)) (inside_choices v choices) p.0 (of_placed_choices choices v p.1)
    of_placed (Offside x) v p = cons_every (at v (Offside x)) (at v x ∷ inside v x) p.0 (of_placed x v p.1)
    of_placed (Ignore x) v p = cons_every (at v (Ignore x)) (at v x ∷ inside v x) p.0 (of_placed x v p.1)
    of_placed (Align x) v p = cons_every (at v (Align x)) (at v x ∷ inside v x) p.0 (of_placed x v p.1)
    of_placed (Filtered x filters) v p = cons_every (at v (Filtered x filters)) (at v x ∷ inside v x) p.0 (of_placed x v p.1)
    of_placed (Seq xs) v p = cons_every (at v (Seq xs)) (inside_sequence v xs) p.0 (of_placed_symbols xs v p.1)
    of_placed (Entry bs x) v p =
        cons_every (at v (Entry bs x)) (inside v (Entry bs x)) p.0 (of_placed x (replaced v v bs) p.1)

    pub of_placed_symbols : (xs : Symbols) (v : Visible) → PlacedSymbols N xs v → Every (inside_sequence v xs)
    of_placed_symbols no_symbols v p = no_occurrence
    of_placed_symbols (next_symbol x xs) v p =
        both_every (at v x ∷ inside v x) (inside_sequence (v ++ binds v x) xs) (of_placed x v p.0) (of_placed_symbols xs (v ++ binds v x) p.1)

    pub of_placed_choices : (xs : Alternatives) (v : Visible) → PlacedChoices N xs v → Every (inside_choices v xs)
    of_placed_choices no_alternatives v p = no_occurrence
    of_placed_choices (next_alternative xs others) v p =
        both_every (inside_sequence v xs) (inside_choices v others) (of_placed_symbols xs v p.0) (of_placed_choices others v p.1)
