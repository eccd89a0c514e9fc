-- What holds of each symbol in the alternatives of each level is what holds of each symbol of each alternative, wherever
-- it stands. A clause ranges over no properties of symbols, so that this stands here with its proof, and not as a law of
-- src/laws.rt; nothing of this file has to be believed.
use Rattle.std.proofs.Common.{◌≡◌, ◌∙◌, ℕ, ◌+◌, List, [], ◌∷◌, ◌++◌, map, length, Some, refl, sym, ap, ap₂, subst, inl, inr}
use Rattle.std.specs.Prelude.{All, Contains, ◌⊎◌, option_map, slice_get}
use Rattle.std.proofs.lemmas.List.{map-append, map-id}
use Rattle.std.proofs.lemmas.List.Elements.{All-append, All-contains, All-nil, All-cons, Contains-append_left, Contains-append_right, Contains-append_cases}
use Rattle.ig_text.proofs.Lists.{halves, map_twice, at_from_contains, contains_from_at, contains_first, contains_later, contains_one, none_in_nil}
use Rattle.std.proofs.lemmas.Option.{slice_get-map}
use Rattle.ig_grammar.specs.Alternative.{gathered_alternatives}
use Rattle.ig_grammar.specs.Symbol.{Symbol, Literal, OneOf, Call, Label, Guard, Let, Opt, Star, Plus, SepStar, SepPlus, Group, Offside, Ignore, Align, Filtered, Seq, Entry}
use Rattle.ig_grammar.specs.Symbol.{Symbols, no_symbols, next_symbol, Alternatives, no_alternatives, next_alternative, gathered}
use Rattle.ig_grammar.specs.Subterms.{subterms, subterms_of_symbols, subterms_of_alternatives}
use Rattle.ig_grammar.specs.Visible.{Visible, Occurrence, at, inside, inside_sequence, inside_choices, binds, replaced}
use Rattle.ig_grammar.specs.Numbering.{Levelled, by_level, IsAlternative, alternatives}
use Rattle.ig_grammar.specs.Regular.{OfEachLevel}
use Rattle.ig_grammar.specs.declared.symbol.Alt.{Alt}
use Rattle.ig_grammar.specs.declared.declaration.Level.{Level}
use Rattle.ig_grammar.specs.declared.declaration.Decl.{Decl}
use Rattle.ig_grammar.specs.declared.grammar.Grammar.{Grammar}

abbrev symbols_at : List Occurrence → List Symbol
symbols_at os = map (λ o. o.symbol) os

both_at : (os ps : List Occurrence) (xs ys : List Symbol) → symbols_at os ≡ xs → symbols_at ps ≡ ys → symbols_at (os ++ ps) ≡ xs ++ ys
both_at os ps xs ys e f = map-append (λ o. o.symbol) os ps ∙ ap₂ (λ a b. a ++ b) e f

-- the symbols that stand inside are the subterms, whatever is visible
mutual
  pub symbols_are : (x : Symbol) (v : Visible) → symbols_at (at v x ∷ inside v x) ≡ subterms x
  symbols_are (Literal word) v = refl
  symbols_are (OneOf class) v = refl
  symbols_are (Call name arguments) v = refl
  symbols_are (Label name x) v = ap (λ z. Label name x ∷ z) (symbols_are x v)
  symbols_are (Guard e) v = refl
  symbols_are (Let name e) v = refl
  symbols_are (Opt x) v = ap (λ z. Opt x ∷ z) (symbols_are x v)
  symbols_are (Star x) v = ap (λ z. Star x ∷ z) (symbols_are x v)
  symbols_are (Plus x) v = ap (λ z. Plus x ∷ z) (symbols_are x v)
  symbols_are (SepStar x s) v =
      ap (λ z. SepStar x s ∷ z) (both_at (at v x ∷ inside v x) (at v s ∷ inside v s) (subterms x) (subterms s) (symbols_are x v) (symbols_are s v))
  symbols_are (SepPlus x s) v =
      ap (λ z. SepPlus x s ∷ z) (both_at (at v x ∷ inside v x) (at v s ∷ inside v s) (subterms x) (subterms s) (symbols_are x v) (symbols_are s v))
  symbols_are (Group xs) v = ap (λ z. Group xs ∷ z) (choices_are xs v)
  symbols_are (Offside x) v = ap (λ z. Offside x ∷ z) (symbols_are x v)
  symbols_are (Ignore x) v = ap (λ z. Ignore x ∷ z) (symbols_are x v)
  symbols_are (Align x) v = ap (λ z. Align x ∷ z) (symbols_are x v)
  symbols_are (Filtered x fs) v = ap (λ z. Filtered x fs ∷ z) (symbols_are x v)
  symbols_are (Seq xs) v = ap (λ z. Seq xs ∷ z) (sequence_is xs v)
  symbols_are (Entry bs x) v = ap (λ z. Entry bs x ∷ z) (symbols_are x (replaced v v bs))

  pub sequence_is : (xs : Symbols) (v : Visible) → symbols_at (inside_sequence v xs) ≡ subterms_of_symbols xs
  sequence_is no_symbols v = refl
  sequence_is (next_symbol x xs) v =
      both_at (at v x ∷ inside v x) (inside_sequence (v ++ binds v x) xs) (subterms x) (subterms_of_symbols xs) (symbols_are x v)
      (sequence_is xs (v ++ binds v x))

  choices_are : (xs : Alternatives) (v : Visible) → symbols_at (inside_choices v xs) ≡ subterms_of_alternatives xs
  choices_are no_alternatives v = refl
  choices_are (next_alternative xs others) v =
      both_at (inside_sequence v xs) (inside_choices v others) (subterms_of_symbols xs) (subterms_of_alternatives others) (sequence_is xs v) (choices_are others v)

-- an alternative stands in a level
pub level_of : (levels : List Level) (a : Alt) → Contains (alternatives levels) a → (level : Level) × Contains levels level × Contains level.alts a
level_of [] a m = absurd (none_in_nil a m)
level_of (level ∷ others) a m = go (Contains-append_cases level.alts (alternatives others) a m) (level_of others a)
  where
    go : Contains level.alts a ⊎ Contains (alternatives others) a →
        (Contains (alternatives others) a → (l : Level) × Contains others l × Contains l.alts a) → (l : Level) × Contains (level ∷ others) l × Contains l.alts a
    go (inl c) rest = (level, contains_first level others, c)
    go (inr c) rest = let r = rest c in (r.0, contains_later level others r.0 r.1, r.2)

pub in_levels : (levels : List Level) (level : Level) (a : Alt) → Contains levels level → Contains level.alts a → Contains (alternatives levels) a
in_levels [] level a l m = absurd (none_in_nil level l)
in_levels (first ∷ others) level a l m = go (Contains-append_cases (first ∷ []) others level l) (λ h. in_levels others level a h m)
  where
    go : Contains (first ∷ []) level ⊎ Contains others level → (Contains others level → Contains (alternatives others) a) → Contains (alternatives (first ∷ others)) a
    go (inl c) rest =
        Contains-append_left first.alts (alternatives others) a (subst (λ (z : Level). Contains z.alts a) (contains_one first level c) m)
    go (inr c) rest = Contains-append_right first.alts (alternatives others) a (rest c)

pub alternatives_by_level : (levels : List Level) → map (λ a. a.alternative) (by_level levels) ≡ alternatives levels
alternatives_by_level [] = refl
alternatives_by_level (level ∷ others) =
    let f : Alt → Levelled = λ a. record { alternative = a; level = length others + 1; assoc = level.assoc } in
    map-append (λ a. a.alternative) (map f level.alts) (by_level others) ∙
    ap₂ (λ x y. x ++ y) (map_twice f (λ a. a.alternative) level.alts ∙ map-id level.alts) (alternatives_by_level others)

-- an alternative has the same place with its level and without
pub alternative_at : (levels : List Level) (k : ℕ) (a : Levelled) → slice_get (by_level levels) k ≡ Some a →
    slice_get (alternatives levels) k ≡ Some a.alternative
alternative_at levels k a h =
    ap (λ xs. slice_get xs k) (sym (alternatives_by_level levels)) ∙ slice_get-map (λ a. a.alternative) (by_level levels) k ∙
    ap (option_map (λ a. a.alternative)) h

module _ (P : Symbol → Type 0) where
  -- where all subterms have it, each symbol has it where it stands
  pub at_occurrence : (xs : Symbols) (v : Visible) → All P (subterms_of_symbols xs) → (o : Occurrence) → Contains (inside_sequence v xs) o → P o.symbol
  at_occurrence xs v all o m =
      let k = at_from_contains (inside_sequence v xs) o m in
      All-contains P (subterms_of_symbols xs) o.symbol all
      (subst (λ ys. Contains ys o.symbol) (sequence_is xs v)
      (contains_from_at (symbols_at (inside_sequence v xs)) k.0 o.symbol
      (slice_get-map (λ z. z.symbol) (inside_sequence v xs) k.0 ∙ ap (option_map (λ z. z.symbol)) k.1)))

  -- and the other way about
  pub from_occurrences : (xs : Symbols) (v : Visible) → ((o : Occurrence) → Contains (inside_sequence v xs) o → P o.symbol) → All P (subterms_of_symbols xs)
  from_occurrences xs v f = subst (All P) (sequence_is xs v) (each (inside_sequence v xs) f)
    where
      each : (os : List Occurrence) → ((o : Occurrence) → Contains os o → P o.symbol) → All P (symbols_at os)
      each [] h = All-nil P
      each (o ∷ os) h = All-cons P o.symbol (symbols_at os) (h o (contains_first o os)) (each os (λ p m. h p (contains_later o os p m)))

  of_alternative : (alts : List Alt) (a : Alt) → All P (subterms_of_alternatives (gathered_alternatives alts)) → Contains alts a →
      All P (subterms_of_symbols (gathered a.symbols))
  of_alternative [] a all m = absurd (none_in_nil a m)
  of_alternative (b ∷ others) a all m =
      let first = subterms_of_symbols (gathered b.symbols) in let rest = subterms_of_alternatives (gathered_alternatives others) in
      let parts = halves P first rest all in
      go (Contains-append_cases (b ∷ []) others a m) parts.0 (λ c. of_alternative others a parts.1 c)
    where
      go : Contains (b ∷ []) a ⊎ Contains others a → All P (subterms_of_symbols (gathered b.symbols)) →
          (Contains others a → All P (subterms_of_symbols (gathered a.symbols))) → All P (subterms_of_symbols (gathered a.symbols))
      go (inl c) here later = subst (λ (z : Alt). All P (subterms_of_symbols (gathered z.symbols))) (sym (contains_one b a c)) here
      go (inr c) here later = later c

  of_alternatives : (alts : List Alt) → ((a : Alt) → Contains alts a → All P (subterms_of_symbols (gathered a.symbols))) →
      All P (subterms_of_alternatives (gathered_alternatives alts))
  of_alternatives [] f = All-nil P
  of_alternatives (b ∷ others) f =
      All-append P (subterms_of_symbols (gathered b.symbols)) (subterms_of_alternatives (gathered_alternatives others)) (f b (contains_first b others))
      (of_alternatives others (λ a m. f a (contains_later b others a m)))

  -- where the alternatives of each level have it, each alternative has it
  pub in_alternative : (g : Grammar) → OfEachLevel (λ choices. All P (subterms_of_alternatives choices)) g → (decl : Decl) (a : Alt) →
      Contains g.decls decl → Contains (alternatives decl.levels) a → All P (subterms_of_symbols (gathered a.symbols))
  in_alternative g each decl a d m = let r = level_of decl.levels a m in of_alternative r.0.alts a (each decl r.0 d r.1) r.2

  -- and the other way about
  pub of_each_level : (g : Grammar) →
      ((decl : Decl) (a : Alt) → Contains g.decls decl → Contains (alternatives decl.levels) a → All P (subterms_of_symbols (gathered a.symbols))) →
      OfEachLevel (λ choices. All P (subterms_of_alternatives choices)) g
  of_each_level g each decl level d l = of_alternatives level.alts (λ a m. each decl a d (in_levels decl.levels level a l m))

  -- so it holds in each alternative by its number
  pub everywhere : (g : Grammar) → OfEachLevel (λ choices. All P (subterms_of_alternatives choices)) g → (n k : ℕ) (decl : Decl) (a : Levelled) →
      slice_get g.decls n ≡ Some decl → IsAlternative decl k a → All P (subterms_of_symbols (gathered a.alternative.symbols))
  everywhere g each n k decl a at numbered =
      in_alternative g each decl a.alternative (contains_from_at g.decls n decl at)
      (contains_from_at (alternatives decl.levels) numbered.0 a.alternative (alternative_at decl.levels numbered.0 a numbered.2))
