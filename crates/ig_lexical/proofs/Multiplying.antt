-- How much the passes for layout and for filters add to a symbol, and so to a grammar.
use Rattle.std.proofs.Common.{◌≡◌, ℕ, ◌+◌, ◌≤◌, Bool, true, false, List, [], ◌∷◌, ◌++◌, Option, Some, None, length, map, refl, arith}
use Rattle.std.specs.Prelude.{if◌then◌else◌}
use Rattle.ig_expr.specs.Expression.{Expression}
use Rattle.ig_grammar.specs.Symbol.{Symbol, Call, Label, Guard, Filtered, Seq, Entry, Symbols, no_symbols, next_symbol, gathered}
use Rattle.ig_grammar.specs.Laws.{CountsByForm, inner_sum}
use Rattle.ig_grammar.specs.Numbering.{layout_among}
use Rattle.ig_grammar.specs.Counts.{own_parts, own_alternatives, parts, parts_of_symbols, alternatives_inside, alternatives_inside_symbols}
use Rattle.ig_grammar.specs.declared.declaration.DeclKind.{DeclKind}
use Rattle.ig_grammar.specs.declared.declaration.DeclKind.TheVariants.{Syntax, Lexical, Layout, Plain}
use Rattle.ig_grammar.specs.declared.declaration.Decl.{Decl}
use Rattle.ig_grammar.specs.declared.filter.Filter.{Filter}
use Rattle.ig_grammar.specs.declared.filter.Filter.TheVariants.{NotFollowed, NotPreceded, Not}
use Rattle.ig_pass.specs.Counts.{CountsGrow}
use Rattle.ig_pass.specs.Rewriting.{rewritten_declaration}
use Rattle.ig_pass.specs.Rooted.{rooted}
use Rattle.ig_lexical.specs.Filters.{FiltersOf, befores, afters, exclusions, with_filters, guarded, attached}
use Rattle.ig_lexical.specs.Laws.{LayoutMultiplies, FiltersMultiply}
use Rattle.ig_lexical.specs.Layout.{LayoutOf, is_token, then_layout, laid_inside, laid, laid_in, laid_declaration}

-- a symbol, and what stands in its place: so many parts more at most, and no more alternatives
record Adds (n : ℕ) (x y : Symbol) : Type 0 where
  parts_added : parts y ≤ parts x + n
  no_alternatives : alternatives_inside y ≤ alternatives_inside x

nothing : (n : ℕ) (x : Symbol) → Adds n x x
nothing n x = record { parts_added = omega arith; no_alternatives = omega arith }

-- each filter becomes one before, one behind, or an exclusion
filters_parted : (fs : List Filter) → length (befores fs) + length (afters fs) + length (exclusions fs) ≡ length fs
filters_parted [] = refl
filters_parted (NotFollowed pattern ∷ fs) = let h = filters_parted fs in omega (arith, h)
filters_parted (NotPreceded pattern ∷ fs) = let h = filters_parted fs in omega (arith, h)
filters_parted (Not pattern ∷ fs) = let h = filters_parted fs in omega (arith, h)

module _ (by_form : CountsByForm) where
  -- what is added inside a symbol is added to it
  around : (n : ℕ) (x y : Symbol) → own_parts y ≡ own_parts x → own_alternatives y ≡ own_alternatives x →
      inner_sum own_parts y ≤ inner_sum own_parts x + n → inner_sum own_alternatives y ≤ inner_sum own_alternatives x → Adds n x y
  around n x y e f h i =
      let a : parts x ≡ own_parts x + inner_sum own_parts x = by_form.parts_of x in
      let b : parts y ≡ own_parts y + inner_sum own_parts y = by_form.parts_of y in
      let c : alternatives_inside x ≡ own_alternatives x + inner_sum own_alternatives x = by_form.alternatives_of x in
      let d : alternatives_inside y ≡ own_alternatives y + inner_sum own_alternatives y = by_form.alternatives_of y in
      record { parts_added = omega (arith, a, b, e, h); no_alternatives = omega (arith, c, d, f, i) }

  first_parts : (x : Symbol) (xs : Symbols) → parts_of_symbols (next_symbol x xs) ≡ parts x + parts_of_symbols xs
  first_parts x xs = by_form.parts_among_symbols (next_symbol x xs)

  first_alternatives : (x : Symbol) (xs : Symbols) → alternatives_inside_symbols (next_symbol x xs) ≡ alternatives_inside x + alternatives_inside_symbols xs
  first_alternatives x xs = by_form.alternatives_of_symbols (next_symbol x xs)

  -- layout behind a token: a sequence, and the call
  layout_behind : (layout : List ℕ) (x : Symbol) → Adds 2 x (then_layout layout x)
  layout_behind layout x =
      let s : parts (then_layout layout x) ≡ 1 + parts_of_symbols (next_symbol x (next_symbol (Call layout []) no_symbols)) = by_form.parts_of (then_layout layout x) in
      let a : parts_of_symbols (next_symbol x (next_symbol (Call layout []) no_symbols)) ≡ parts x + parts_of_symbols (next_symbol (Call layout []) no_symbols) = first_parts x (next_symbol (Call layout []) no_symbols) in
      let t : alternatives_inside (then_layout layout x) ≡ 0 + alternatives_inside_symbols (next_symbol x (next_symbol (Call layout []) no_symbols)) = by_form.alternatives_of (then_layout layout x) in
      let b : alternatives_inside_symbols (next_symbol x (next_symbol (Call layout []) no_symbols)) ≡ alternatives_inside x + alternatives_inside_symbols (next_symbol (Call layout []) no_symbols) = first_alternatives x (next_symbol (Call layout []) no_symbols) in
      record { parts_added = omega (arith, s, a); no_alternatives = omega (arith, t, b) }

  module _ (decls : List Decl) (layout : List ℕ) where
    either : (b : Bool) (x y : Symbol) → Adds 2 x y → Adds 2 x (if b then then_layout layout x else y)
    either true x y h = layout_behind layout x
    either false x y h = h

    laid_within : (x : Symbol) → Adds 2 x (laid_inside decls layout x)
    laid_within (Label name x) =
        let h : Adds 2 x (laid_inside decls layout x) = laid_within x in around 2 (Label name x) (Label name (laid_inside decls layout x)) refl refl h.parts_added h.no_alternatives
    laid_within (Filtered x fs) =
        let h : Adds 2 x (laid_inside decls layout x) = laid_within x in
        around 2 (Filtered x fs) (Filtered (laid_inside decls layout x) fs) refl refl h.parts_added h.no_alternatives
    laid_within (Entry bs x) =
        let h : Adds 2 x (if is_token decls x then then_layout layout x else laid_inside decls layout x) = either (is_token decls x) x (laid_inside decls layout x) (laid_within x) in
        around 2 (Entry bs x) (Entry bs (if is_token decls x then then_layout layout x else laid_inside decls layout x)) refl refl h.parts_added h.no_alternatives
    laid_within x = nothing 2 x

    laid_adds : (x : Symbol) → Adds 2 x (laid decls layout x)
    laid_adds x = either (is_token decls x) x (laid_inside decls layout x) (laid_within x)

  laid_in_adds : (layout : Option (List ℕ)) (decls : List Decl) (kind : DeclKind) (x : Symbol) → Adds 2 x (laid_in layout decls kind x)
  laid_in_adds None decls kind x = nothing 2 x
  laid_in_adds (Some layout) decls Syntax x = laid_adds decls layout x
  laid_in_adds (Some layout) decls Lexical x = nothing 2 x
  laid_in_adds (Some layout) decls Layout x = nothing 2 x
  laid_in_adds (Some layout) decls Plain x = nothing 2 x

  guard_parts : (e : Expression) → parts (Guard e) ≡ 1 + 0
  guard_parts e = by_form.parts_of (Guard e)

  guard_alternatives : (e : Expression) → alternatives_inside (Guard e) ≡ 0 + 0
  guard_alternatives e = by_form.alternatives_of (Guard e)

  guards_parts : (es : List Expression) → parts_of_symbols (gathered (map Guard es)) ≡ length es
  guards_parts [] = refl
  guards_parts (e ∷ es) =
      let a = first_parts (Guard e) (gathered (map Guard es)) in let g = guard_parts e in let h = guards_parts es in omega (arith, a, g, h)

  guards_alternatives : (es : List Expression) → alternatives_inside_symbols (gathered (map Guard es)) ≡ 0
  guards_alternatives [] = refl
  guards_alternatives (e ∷ es) =
      let a = first_alternatives (Guard e) (gathered (map Guard es)) in let g = guard_alternatives e in let h = guards_alternatives es in omega (arith, a, g, h)

  behind_guards_parts : (es : List Expression) (xs : List Symbol) → parts_of_symbols (gathered (map Guard es ++ xs)) ≡ length es + parts_of_symbols (gathered xs)
  behind_guards_parts [] xs = omega arith
  behind_guards_parts (e ∷ es) xs =
      let a = first_parts (Guard e) (gathered (map Guard es ++ xs)) in let g = guard_parts e in let h = behind_guards_parts es xs in omega (arith, a, g, h)

  behind_guards_alternatives : (es : List Expression) (xs : List Symbol) → alternatives_inside_symbols (gathered (map Guard es ++ xs)) ≡ alternatives_inside_symbols (gathered xs)
  behind_guards_alternatives [] xs = refl
  behind_guards_alternatives (e ∷ es) xs =
      let a = first_alternatives (Guard e) (gathered (map Guard es ++ xs)) in let g = guard_alternatives e in let h = behind_guards_alternatives es xs in omega (arith, a, g, h)

  -- the sequence, and each guard
  sequence_adds : (before after : List Expression) (x : Symbol) → Adds (length before + length after + 1) x (Seq (gathered (map Guard before ++ x ∷ map Guard after)))
  sequence_adds before after x =
      let s : parts (Seq (gathered (map Guard before ++ x ∷ map Guard after))) ≡ 1 + parts_of_symbols (gathered (map Guard before ++ x ∷ map Guard after)) =
      by_form.parts_of (Seq (gathered (map Guard before ++ x ∷ map Guard after))) in
      let t : alternatives_inside (Seq (gathered (map Guard before ++ x ∷ map Guard after))) ≡ 0 + alternatives_inside_symbols (gathered (map Guard before ++ x ∷ map Guard after)) =
      by_form.alternatives_of (Seq (gathered (map Guard before ++ x ∷ map Guard after))) in
      let a = behind_guards_parts before (x ∷ map Guard after) in let b = first_parts x (gathered (map Guard after)) in let c = guards_parts after in
      let i = behind_guards_alternatives before (x ∷ map Guard after) in let j = first_alternatives x (gathered (map Guard after)) in let k = guards_alternatives after in
      record { parts_added = omega (arith, s, a, b, c); no_alternatives = omega (arith, t, i, j, k) }

  guards_add : (before after : List Expression) (x : Symbol) → Adds (length before + length after + 1) x (guarded before after x)
  guards_add [] [] x = nothing _ x
  guards_add [] (e ∷ es) x = sequence_adds [] (e ∷ es) x
  guards_add (e ∷ es) after x = sequence_adds (e ∷ es) after x

  filters_add : (x : Symbol) (fs : List Filter) → Adds (length fs + 1) x (with_filters x fs)
  filters_add x [] = nothing _ x
  filters_add x (f ∷ fs) =
      let a : parts (Filtered x (f ∷ fs)) ≡ (length (f ∷ fs) + 1) + parts x = by_form.parts_of (Filtered x (f ∷ fs)) in
      let b : alternatives_inside (Filtered x (f ∷ fs)) ≡ 0 + alternatives_inside x = by_form.alternatives_of (Filtered x (f ∷ fs)) in
      record { parts_added = omega (arith, a); no_alternatives = omega (arith, b) }

  -- filters that became guards: the sequence alone is added
  attached_adds : (x : Symbol) → Adds 1 x (attached x)
  attached_adds (Label name (Filtered x fs)) =
      let p = filters_parted fs in
      let g : Adds (length (befores fs) + length (afters fs) + 1) (Label name (with_filters x (exclusions fs))) (attached (Label name (Filtered x fs))) =
      guards_add (befores fs) (afters fs) (Label name (with_filters x (exclusions fs))) in
      let f : Adds (length (exclusions fs) + 1) x (with_filters x (exclusions fs)) = filters_add x (exclusions fs) in
      let k : parts (Label name (Filtered x fs)) ≡ 1 + parts (Filtered x fs) = by_form.parts_of (Label name (Filtered x fs)) in
      let l : parts (Filtered x fs) ≡ (length fs + 1) + parts x = by_form.parts_of (Filtered x fs) in
      let m : parts (Label name (with_filters x (exclusions fs))) ≡ 1 + parts (with_filters x (exclusions fs)) = by_form.parts_of (Label name (with_filters x (exclusions fs))) in
      let q : alternatives_inside (Label name (Filtered x fs)) ≡ 0 + alternatives_inside (Filtered x fs) = by_form.alternatives_of (Label name (Filtered x fs)) in
      let r : alternatives_inside (Filtered x fs) ≡ 0 + alternatives_inside x = by_form.alternatives_of (Filtered x fs) in
      let s : alternatives_inside (Label name (with_filters x (exclusions fs))) ≡ 0 + alternatives_inside (with_filters x (exclusions fs)) =
      by_form.alternatives_of (Label name (with_filters x (exclusions fs))) in
      let a = g.parts_added in let b = f.parts_added in let c = g.no_alternatives in let d = f.no_alternatives in
      record { parts_added = omega (arith, p, k, l, m, a, b); no_alternatives = omega (arith, q, r, s, c, d) }
  attached_adds (Filtered x fs) =
      let p = filters_parted fs in
      let g : Adds (length (befores fs) + length (afters fs) + 1) (with_filters x (exclusions fs)) (attached (Filtered x fs)) =
      guards_add (befores fs) (afters fs) (with_filters x (exclusions fs)) in
      let f : Adds (length (exclusions fs) + 1) x (with_filters x (exclusions fs)) = filters_add x (exclusions fs) in
      let l : parts (Filtered x fs) ≡ (length fs + 1) + parts x = by_form.parts_of (Filtered x fs) in
      let r : alternatives_inside (Filtered x fs) ≡ 0 + alternatives_inside x = by_form.alternatives_of (Filtered x fs) in
      let a = g.parts_added in let b = f.parts_added in let c = g.no_alternatives in let d = f.no_alternatives in
      record { parts_added = omega (arith, p, l, a, b); no_alternatives = omega (arith, r, c, d) }
  attached_adds x = nothing 1 x

  module _ (grow : CountsGrow) where
    pub layout_multiplied : LayoutMultiplies
    layout_multiplied c most fewer =
        grow.declarations 3 (most + 2) (rooted Syntax c).grammar (LayoutOf c).grammar (laid_declaration (rooted Syntax c).grammar.decls) (omega arith) refl
        (λ decl.
        grow.rewritings 2 (laid_in (layout_among (rooted Syntax c).grammar.decls) (rooted Syntax c).grammar.decls decl.kind)
        (λ x. (laid_in_adds (layout_among (rooted Syntax c).grammar.decls) (rooted Syntax c).grammar.decls decl.kind x).parts_added)
        (λ x. (laid_in_adds (layout_among (rooted Syntax c).grammar.decls) (rooted Syntax c).grammar.decls decl.kind x).no_alternatives) decl.levels)
        (grow.root c most fewer)

    pub filters_multiplied : FiltersMultiply
    filters_multiplied c most fewer =
        grow.declarations 2 (most + 2) (rooted Syntax c).grammar (FiltersOf c).grammar (rewritten_declaration (λ decl. attached)) (omega arith) refl
        (λ decl. grow.rewritings 1 attached (λ x. (attached_adds x).parts_added) (λ x. (attached_adds x).no_alternatives) decl.levels) (grow.root c most fewer)
