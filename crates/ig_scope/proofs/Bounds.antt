-- The numbers of places in a regular grammar fit in 32 bits.
use Rattle.std.proofs.Common.{inl, inr, ◌≡◌, ℕ, zero, suc, ◌<◌, ◌≤◌, ◌+◌, List, [], ◌∷◌, ◌++◌, length, get_or, refl, ap, arith, length-append}
use Rattle.std.specs.Prelude.{Contains, sum_by}
use Rattle.std.proofs.lemmas.List.Sums.{sum_by-cons, sum_by-append, sum_by-le-sum_by}
use Rattle.std.proofs.lemmas.List.Elements.{Contains-append_cases}
use Rattle.std.proofs.lemmas.List.Concat.{length-flat_map}
use Rattle.ig_grammar.specs.Numbering.{alternatives}
use Rattle.ig_grammar.specs.Symbol.{Symbol, Literal, OneOf, Call, Label, Guard, Let, Opt, Star, Plus, SepStar, SepPlus, Group, Offside, Ignore, Align, Filtered, Seq, Entry}
use Rattle.ig_grammar.specs.Symbol.{Symbols, no_symbols, next_symbol, Alternatives, no_alternatives, next_alternative, gathered}
use Rattle.ig_grammar.specs.Alternative.{gathered_alternatives}
use Rattle.ig_grammar.specs.Subterms.{subterms, subterms_of_symbols, subterms_of_alternatives}
use Rattle.ig_grammar.specs.Regular.{IsRegular}
use Rattle.ig_grammar.specs.Counts.{own_parts, parts_of_symbols, parts_of_alternatives, alternatives_among, number_of_alternatives}
use Rattle.ig_grammar.specs.Visible.{Visible, inside_sequence, inside_choices, binds, replaced, parameters}
use Rattle.ig_grammar.specs.declared.symbol.Alt.{Alt}
use Rattle.ig_grammar.specs.declared.declaration.Level.{Level}
use Rattle.ig_grammar.specs.declared.declaration.Decl.{Decl}
use Rattle.ig_grammar.specs.declared.grammar.Grammar.{Grammar}
use Rattle.ig_grammar.specs.Laws.{CountsByForm}
use Rattle.ig_scope.specs.Places.{AreNumbered}
use Rattle.ig_scope.specs.AlternativesTold.{from}

-- as many occurrences as symbols
mutual
  as_many : (v : Visible) (x : Symbol) → length (from v x) ≡ length (subterms x)
  as_many v (Literal word) = refl
  as_many v (OneOf class) = refl
  as_many v (Call name arguments) = refl
  as_many v (Label name x) = ap suc (as_many v x)
  as_many v (Guard e) = refl
  as_many v (Let name e) = refl
  as_many v (Opt x) = ap suc (as_many v x)
  as_many v (Star x) = ap suc (as_many v x)
  as_many v (Plus x) = ap suc (as_many v x)
  as_many v (SepStar x s) =
      let l = length-append (from v x) (from v s) in let r = length-append (subterms x) (subterms s) in
      let h = as_many v x in let k = as_many v s in omega arith
  as_many v (SepPlus x s) =
      let l = length-append (from v x) (from v s) in let r = length-append (subterms x) (subterms s) in
      let h = as_many v x in let k = as_many v s in omega arith
  as_many v (Group choices) = ap suc (as_many_in_choices v choices)
  as_many v (Offside x) = ap suc (as_many v x)
  as_many v (Ignore x) = ap suc (as_many v x)
  as_many v (Align x) = ap suc (as_many v x)
  as_many v (Filtered x filters) = ap suc (as_many v x)
  as_many v (Seq xs) = ap suc (as_many_in_sequence v xs)
  as_many v (Entry bindings x) = ap suc (as_many (replaced v v bindings) x)

  as_many_in_sequence : (v : Visible) (xs : Symbols) → length (inside_sequence v xs) ≡ length (subterms_of_symbols xs)
  as_many_in_sequence v no_symbols = refl
  as_many_in_sequence v (next_symbol x xs) =
      let l = length-append (from v x) (inside_sequence (v ++ binds v x) xs) in
      let r = length-append (subterms x) (subterms_of_symbols xs) in
      let h = as_many v x in let k = as_many_in_sequence (v ++ binds v x) xs in omega arith

  as_many_in_choices : (v : Visible) (ys : Alternatives) → length (inside_choices v ys) ≡ length (subterms_of_alternatives ys)
  as_many_in_choices v no_alternatives = refl
  as_many_in_choices v (next_alternative xs ys) =
      let l = length-append (inside_sequence v xs) (inside_choices v ys) in
      let r = length-append (subterms_of_symbols xs) (subterms_of_alternatives ys) in
      let h = as_many_in_sequence v xs in let k = as_many_in_choices v ys in omega arith

fewer_symbols : CountsByForm → (xs : List Symbol) → length xs ≤ sum_by own_parts xs
fewer_symbols law [] = omega arith
fewer_symbols law (x ∷ xs) =
    let s = sum_by-cons own_parts x xs in let h = fewer_symbols law xs in let o = law.some_part x in omega arith

sequence_parts : CountsByForm → (v : Visible) (xs : Symbols) → length (inside_sequence v xs) ≤ parts_of_symbols xs
sequence_parts law v xs =
    let e = as_many_in_sequence v xs in let f = fewer_symbols law (subterms_of_symbols xs) in omega arith

member_sum : {X : Type 0} (f : X → ℕ) (xs : List X) (x : X) → Contains xs x → f x ≤ sum_by f xs
member_sum f [] x m = let l = m.1 in let z : ⊥ = omega arith in absurd z
member_sum f (y ∷ xs) x m = go m.0 m.1 m.2 (member_sum f xs x)
  where
    go : (k : ℕ) → k < length (y ∷ xs) → get_or (y ∷ xs) k x ≡ x → (Contains xs x → f x ≤ sum_by f xs) → f x ≤ sum_by f (y ∷ xs)
    go zero l e h = let s = sum_by-cons f y xs in let z : f y ≡ f x = ap f e in omega arith
    go (suc k) l e h = let s = sum_by-cons f y xs in let z = h (k, omega arith, e) in omega arith

numbered : (alts : List Alt) → number_of_alternatives (gathered_alternatives alts) ≡ length alts
numbered [] = refl
numbered (a ∷ alts) = let h = numbered alts in omega arith

fewer : (alts : List Alt) → length alts ≤ alternatives_among (gathered_alternatives alts)
fewer alts = let e = numbered alts in omega arith

parts_at : (alts : List Alt) (a : Alt) → Contains alts a → parts_of_symbols (gathered a.symbols) ≤ parts_of_alternatives (gathered_alternatives alts)
parts_at [] a m = let l = m.1 in let z : ⊥ = omega arith in absurd z
parts_at (b ∷ alts) a m = go m.0 m.1 m.2 (parts_at alts a)
  where
    parts_more : parts_of_alternatives (gathered_alternatives (b ∷ alts)) ≡
        parts_of_symbols (gathered b.symbols) + parts_of_alternatives (gathered_alternatives alts)
    parts_more = sum_by-append own_parts (subterms_of_symbols (gathered b.symbols)) (subterms_of_alternatives (gathered_alternatives alts))

    go : (k : ℕ) → k < length (b ∷ alts) → get_or (b ∷ alts) k a ≡ a → (Contains alts a → parts_of_symbols (gathered a.symbols) ≤ parts_of_alternatives (gathered_alternatives alts)) →
        parts_of_symbols (gathered a.symbols) ≤ parts_of_alternatives (gathered_alternatives (b ∷ alts))
    go zero l e h =
        let z : parts_of_symbols (gathered b.symbols) ≡ parts_of_symbols (gathered a.symbols) = ap (λ (y : Alt). parts_of_symbols (gathered y.symbols)) e in
        let s = parts_more in omega arith
    go (suc k) l e h = let z = h (k, omega arith, e) in let s = parts_more in omega arith

parts_among : (levels : List Level) (a : Alt) → Contains (alternatives levels) a →
    parts_of_symbols (gathered a.symbols) ≤ sum_by (λ level. parts_of_alternatives (gathered_alternatives level.alts)) levels
parts_among [] a m = let l = m.1 in let z : ⊥ = omega arith in absurd z
parts_among (level ∷ levels) a m =
    let s = sum_by-cons (λ (l : Level). parts_of_alternatives (gathered_alternatives l.alts)) level levels in
    elim (Contains-append_cases level.alts (alternatives levels) a m) [
      | inl x ↦ (let h = parts_at level.alts a x in omega arith)
      | inr x ↦ (let h = parts_among levels a x in omega arith)
    ]

pub are_numbered : CountsByForm → (g : Grammar) → IsRegular g → AreNumbered g.decls
are_numbered law g r = record {
  declarations = r.counted.declarations;
  alternatives = λ decl m.
      let n = member_sum (λ (d : Decl). sum_by (λ level. alternatives_among (gathered_alternatives level.alts)) d.levels) g.decls decl m in
      let a = r.counted.alternatives in
      let l = length-flat_map (λ (level : Level). level.alts) decl.levels in
      let s = sum_by-le-sum_by (λ (level : Level). length level.alts) (λ (level : Level). alternatives_among (gathered_alternatives level.alts)) decl.levels (λ level. fewer level.alts) in
      omega arith;
  symbols = λ decl m a k.
      let n = member_sum (λ (d : Decl). sum_by (λ level. parts_of_alternatives (gathered_alternatives level.alts)) d.levels) g.decls decl m in
      let p = r.counted.symbols in
      let q = parts_among decl.levels a k in
      let s = sequence_parts law (parameters decl.params) (gathered a.symbols) in
      omega arith;
}
