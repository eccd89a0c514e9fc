-- A grammar that is read has no more declarations, levels, alternatives and symbols than tokens.
use Rattle.std.proofs.Common.{◌≡◌, ℕ, suc, ◌+◌, ◌≤◌, ◌<◌, List, [], ◌∷◌, length, refl, sym, subst, arith}
use Rattle.std.specs.Prelude.{sum_by, Option, ℤ}
use Rattle.std.proofs.lemmas.List.Sums.{sum_by-cons}
use Rattle.ig_notation_syntax.specs.Token as token
use Rattle.ig_notation_syntax.specs.Token.{Token, Close, CloseBrace, Bar, Greater, Semicolon, Equals}
use Rattle.ig_grammar.specs.Symbol as tree
use Rattle.ig_grammar.specs.Symbol.{Symbol, Symbols, no_symbols, next_symbol, Alternatives, no_alternatives, next_alternative}
use Rattle.ig_grammar.specs.Laws.{CountsByForm}
use Rattle.ig_grammar.specs.Alternative.{gathered_alternatives}
use Rattle.ig_grammar.specs.Counts.{alternatives_inside, alternatives_inside_symbols, alternatives_among, parts, parts_of_symbols, parts_of_alternatives, HasFewerThan}
use Rattle.ig_grammar.specs.declared.filter.Filter.{Filter}
use Rattle.ig_grammar.specs.declared.declaration.Level.{Level}
use Rattle.ig_grammar.specs.declared.declaration.Decl.{Decl}
use Rattle.ig_grammar.specs.declared.grammar.Grammar.{Grammar}
use Rattle.ig_notation_syntax.specs.Rules as rule
use Rattle.ig_notation_syntax.specs.Rules.{IsSeparated, ReadsExpression, ReadsArguments, ReadsFilters, ReadsSign, filtered, ReadsSymbol, ReadsMarked, ReadsPost, ReadsAtom, ReadsAlternatives, ReadsAlternative}
use Rattle.ig_notation_syntax.specs.Rules.{ReadsAssociativity, ReadsLevel, ReadsLevels, ReadsParameters, ReadsDeclaration, ReadsDeclarations, ReadsBody, FollowsRules}
use Rattle.ig_notation_syntax.proofs.Tails.{shorter, expression_tail, arguments_tail, associativity_tail, parameters_tail}

-- between two lists of tokens lie at least as many tokens as the parts and as the alternatives, but for so many
record Within (extra parts alternatives : ℕ) (s r : List Token) : Type 0 where
  parts_fit : parts + length r ≤ length s
  alternatives_fit : alternatives + length r ≤ length s + extra

-- levels
abbrev level_parts : Level → ℕ
level_parts l = parts_of_alternatives (gathered_alternatives l.alts)

abbrev level_alternatives : Level → ℕ
level_alternatives l = alternatives_among (gathered_alternatives l.alts)

-- the sums over levels, and their number
record LevelsFit (extra number parts alternatives : ℕ) (s r : List Token) : Type 0 where
  number_fits : number + length r ≤ length s + extra
  all : Within extra parts alternatives s r

-- declarations with so many levels, parts and alternatives, and at least one token for each
abbrev decl_levels : Decl → ℕ
decl_levels d = length d.levels

abbrev decl_parts : Decl → ℕ
decl_parts d = sum_by level_parts d.levels

abbrev decl_alternatives : Decl → ℕ
decl_alternatives d = sum_by level_alternatives d.levels

record DeclFits (number levels parts alternatives : ℕ) (s r : List Token) : Type 0 where
  numbered : number + length r ≤ length s
  levelled : levels + length r ≤ length s
  all : Within 0 parts alternatives s r

-- by the counts of a symbol and of those directly inside it
module _ (by_form : CountsByForm) where
  filters_fit : {s r : List Token} {fs : List Filter} → ReadsFilters s r fs → length fs + length fs + length r ≤ length s
  filters_fit (rule.no_filter r) = omega arith
  filters_fit (rule.next_filter t u p f s r fs is ist d) =
      let h : length fs + length fs + length r ≤ length s = filters_fit d in omega (arith, h)

  sign_fits : {s r : List Token} {x y : Symbol} → ReadsSign s r x y →
      (parts y + length r ≤ parts x + length s) × (alternatives_inside y ≡ alternatives_inside x) × (length r ≤ length s)
  sign_fits (rule.once r x) = (omega arith, refl, omega arith)
  sign_fits (rule.option r x) =
      let p : parts (tree.Opt x) ≡ 1 + parts x = by_form.parts_of (tree.Opt x) in
      let q : alternatives_inside (tree.Opt x) ≡ 0 + alternatives_inside x = by_form.alternatives_of (tree.Opt x) in
      (omega arith, omega arith, omega arith)
  sign_fits (rule.star r x) =
      let p : parts (tree.Star x) ≡ 1 + parts x = by_form.parts_of (tree.Star x) in
      let q : alternatives_inside (tree.Star x) ≡ 0 + alternatives_inside x = by_form.alternatives_of (tree.Star x) in
      (omega arith, omega arith, omega arith)
  sign_fits (rule.plus r x) =
      let p : parts (tree.Plus x) ≡ 1 + parts x = by_form.parts_of (tree.Plus x) in
      let q : alternatives_inside (tree.Plus x) ≡ 0 + alternatives_inside x = by_form.alternatives_of (tree.Plus x) in
      (omega arith, omega arith, omega arith)

  filtered_inside : (x : Symbol) (fs : List Filter) → alternatives_inside (filtered x fs) ≡ alternatives_inside x
  filtered_inside x [] = refl
  filtered_inside x (f ∷ fs) =
      let q : alternatives_inside (tree.Filtered x (f ∷ fs)) ≡ 0 + alternatives_inside x =
      by_form.alternatives_of (tree.Filtered x (f ∷ fs)) in
      omega arith

  filtered_parts : (x : Symbol) (fs : List Filter) → parts (filtered x fs) ≤ parts x + (length fs + length fs)
  filtered_parts x [] = omega arith
  filtered_parts x (f ∷ fs) =
      let p : parts (tree.Filtered x (f ∷ fs)) ≡ (length (f ∷ fs) + 1) + parts x = by_form.parts_of (tree.Filtered x (f ∷ fs)) in
      omega arith

  separated_fits : {t : Token} {x y z : Symbol} → IsSeparated t x y z →
      (parts z ≡ parts x + parts y + 1) × (alternatives_inside z ≡ alternatives_inside x + alternatives_inside y)
  separated_fits (rule.separated_star x y) =
      let p : parts (tree.SepStar x y) ≡ 1 + (parts x + parts y) = by_form.parts_of (tree.SepStar x y) in
      let q : alternatives_inside (tree.SepStar x y) ≡ 0 + (alternatives_inside x + alternatives_inside y) =
      by_form.alternatives_of (tree.SepStar x y) in
      (omega arith, omega arith)
  separated_fits (rule.separated_plus x y) =
      let p : parts (tree.SepPlus x y) ≡ 1 + (parts x + parts y) = by_form.parts_of (tree.SepPlus x y) in
      let q : alternatives_inside (tree.SepPlus x y) ≡ 0 + (alternatives_inside x + alternatives_inside y) =
      by_form.alternatives_of (tree.SepPlus x y) in
      (omega arith, omega arith)

  -- a symbol with its filters
  with_filters : (x z : Symbol) (fs : List Filter) (s q r : List Token) → z ≡ filtered x fs → Within 0 (parts x) (alternatives_inside x) s q →
      ReadsFilters q r fs → Within 0 (parts z) (alternatives_inside z) s r
  with_filters x z fs s q r e w d =
      let h : length fs + length fs + length r ≤ length q = filters_fit d in
      let a : parts (filtered x fs) ≤ parts x + (length fs + length fs) = filtered_parts x fs in
      let b : alternatives_inside (filtered x fs) ≡ alternatives_inside x = filtered_inside x fs in
      let p : parts x + length q ≤ length s = w.parts_fit in
      let i : alternatives_inside x + length q ≤ length s + 0 = w.alternatives_fit in
      subst (λ y. Within 0 (parts y) (alternatives_inside y) s r) (sym e)
      (record { parts_fit = omega (arith, h, a, p); alternatives_fit = omega (arith, h, b, i) })

  -- one part more, and at least one token more
  one_more : (x y : Symbol) (t : Token) (s r : List Token) → parts y ≡ 1 + parts x → alternatives_inside y ≡ 0 + alternatives_inside x →
      Within 0 (parts x) (alternatives_inside x) s r → Within 0 (parts y) (alternatives_inside y) (t ∷ s) r
  one_more x y t s r p q w =
      let a : parts x + length r ≤ length s = w.parts_fit in
      let b : alternatives_inside x + length r ≤ length s + 0 = w.alternatives_fit in
      record { parts_fit = omega (arith, a, p); alternatives_fit = omega (arith, b, q) }

  alone : (x : Symbol) (s r : List Token) → parts x ≡ 1 + 0 → alternatives_inside x ≡ 0 + 0 → length r < length s →
      Within 0 (parts x) (alternatives_inside x) s r
  alone x s r p q h = record { parts_fit = omega (arith, h, p); alternatives_fit = omega (arith, h, q) }

  mutual
    symbol_fits : {s r : List Token} {x : Symbol} → ReadsSymbol s r x → Within 0 (parts x) (alternatives_inside x) s r
    symbol_fits (rule.guard s r e d) =
        let h : length (Close ∷ r) ≤ length s = shorter (expression_tail d) in
        alone (tree.Guard e) _ r (by_form.parts_of (tree.Guard e)) (by_form.alternatives_of (tree.Guard e)) (omega (arith, h))
    symbol_fits (rule.let_be n s r e d) =
        let h : length (Close ∷ r) ≤ length s = shorter (expression_tail d) in
        alone (tree.Let n e) _ r (by_form.parts_of (tree.Let n e)) (by_form.alternatives_of (tree.Let n e)) (omega (arith, h))
    symbol_fits (rule.labelled n s r x d) =
        let p : parts (tree.Label n x) ≡ 1 + parts x = by_form.parts_of (tree.Label n x) in
        let q : alternatives_inside (tree.Label n x) ≡ 0 + alternatives_inside x = by_form.alternatives_of (tree.Label n x) in
        let w : Within 0 (parts x) (alternatives_inside x) s r = marked_fits d in
        let a : parts x + length r ≤ length s = w.parts_fit in
        let b : alternatives_inside x + length r ≤ length s + 0 = w.alternatives_fit in
        record { parts_fit = omega (arith, a, p); alternatives_fit = omega (arith, b, q) }
    symbol_fits (rule.unlabelled s r x d) = marked_fits d

    marked_fits : {s r : List Token} {x : Symbol} → ReadsMarked s r x → Within 0 (parts x) (alternatives_inside x) s r
    marked_fits (rule.offside s r x d) =
        one_more x (tree.Offside x) token.Offside s r (by_form.parts_of (tree.Offside x)) (by_form.alternatives_of (tree.Offside x)) (post_fits d)
    marked_fits (rule.ignore s r x d) =
        one_more x (tree.Ignore x) token.Ignore s r (by_form.parts_of (tree.Ignore x)) (by_form.alternatives_of (tree.Ignore x)) (post_fits d)
    marked_fits (rule.align s r x d) =
        one_more x (tree.Align x) token.Align s r (by_form.parts_of (tree.Align x)) (by_form.alternatives_of (tree.Align x)) (post_fits d)
    marked_fits (rule.unmarked s r x d) = post_fits d

    post_fits : {s r : List Token} {x : Symbol} → ReadsPost s r x → Within 0 (parts x) (alternatives_inside x) s r
    post_fits (rule.atom s m q r x y z fs d e f h) =
        let w : Within 0 (parts x) (alternatives_inside x) s m = atom_fits d in
        let a : parts x + length m ≤ length s = w.parts_fit in
        let b : alternatives_inside x + length m ≤ length s + 0 = w.alternatives_fit in
        let i : parts y + length q ≤ parts x + length m = (sign_fits e).0 in
        let j : alternatives_inside y ≡ alternatives_inside x = (sign_fits e).1 in
        let k : length q ≤ length m = (sign_fits e).2 in
        with_filters y z fs s q r h (record { parts_fit = omega (arith, a, i); alternatives_fit = omega (arith, b, j, k) }) f
    post_fits (rule.separated t s m q r x y z o fs d e is f h) =
        let w : Within 0 (parts x) (alternatives_inside x) s m = marked_fits d in
        let v : Within 0 (parts y) (alternatives_inside y) m (CloseBrace ∷ t ∷ q) = marked_fits e in
        let a : parts x + length m ≤ length s = w.parts_fit in
        let b : alternatives_inside x + length m ≤ length s + 0 = w.alternatives_fit in
        let i : parts y + length (CloseBrace ∷ t ∷ q) ≤ length m = v.parts_fit in
        let j : alternatives_inside y + length (CloseBrace ∷ t ∷ q) ≤ length m + 0 = v.alternatives_fit in
        let k : parts z ≡ parts x + parts y + 1 = (separated_fits is).0 in
        let l : alternatives_inside z ≡ alternatives_inside x + alternatives_inside y = (separated_fits is).1 in
        with_filters z o fs (token.OpenBrace ∷ s) q r h
        (record { parts_fit = omega (arith, a, i, k); alternatives_fit = omega (arith, b, j, l) }) f

    atom_fits : {s r : List Token} {x : Symbol} → ReadsAtom s r x → Within 0 (parts x) (alternatives_inside x) s r
    atom_fits (rule.literal w r) =
        alone (tree.Literal w) _ r (by_form.parts_of (tree.Literal w)) (by_form.alternatives_of (tree.Literal w)) (omega arith)
    atom_fits (rule.class c r) =
        alone (tree.OneOf c) _ r (by_form.parts_of (tree.OneOf c)) (by_form.alternatives_of (tree.OneOf c)) (omega arith)
    atom_fits (rule.bare_call n r) =
        alone (tree.Call n []) _ r (by_form.parts_of (tree.Call n [])) (by_form.alternatives_of (tree.Call n [])) (omega arith)
    atom_fits (rule.call n s r es d) =
        let h : length (Close ∷ r) ≤ length s = shorter (arguments_tail d) in
        alone (tree.Call n es) _ r (by_form.parts_of (tree.Call n es)) (by_form.alternatives_of (tree.Call n es)) (omega (arith, h))
    atom_fits (rule.group s r ys d) =
        let p : parts (tree.Group ys) ≡ 1 + parts_of_alternatives ys = by_form.parts_of (tree.Group ys) in
        let q = by_form.alternatives_of_group ys in
        let w : Within 1 (parts_of_alternatives ys) (alternatives_among ys) s (Close ∷ r) = alternatives_fit d in
        let a : parts_of_alternatives ys + length (Close ∷ r) ≤ length s = w.parts_fit in
        let b : alternatives_among ys + length (Close ∷ r) ≤ length s + 1 = w.alternatives_fit in
        record { parts_fit = omega (arith, a, p); alternatives_fit = omega (arith, b, q) }

    alternatives_fit : {s r : List Token} {ys : Alternatives} → ReadsAlternatives s r ys → Within 1 (parts_of_alternatives ys) (alternatives_among ys) s r
    alternatives_fit (rule.last_alternative s r xs d) =
        let p : parts_of_alternatives (next_alternative xs no_alternatives) ≡ parts_of_symbols xs + parts_of_alternatives no_alternatives =
        by_form.parts_among_alternatives (next_alternative xs no_alternatives) in
        let none : parts_of_alternatives no_alternatives ≡ 0 = by_form.parts_among_alternatives no_alternatives in
        let q = by_form.further_alternative xs no_alternatives in
        let nothing = by_form.no_alternative in
        let w : Within 0 (parts_of_symbols xs) (alternatives_inside_symbols xs) s r = alternative_fits d in
        let a : parts_of_symbols xs + length r ≤ length s = w.parts_fit in
        let b : alternatives_inside_symbols xs + length r ≤ length s + 0 = w.alternatives_fit in
        record { parts_fit = omega (arith, a, p, none); alternatives_fit = omega (arith, b, q, nothing) }
    alternatives_fit (rule.further_alternative s m r xs ys d e) =
        let p : parts_of_alternatives (next_alternative xs ys) ≡ parts_of_symbols xs + parts_of_alternatives ys =
        by_form.parts_among_alternatives (next_alternative xs ys) in
        let q = by_form.further_alternative xs ys in
        let w : Within 0 (parts_of_symbols xs) (alternatives_inside_symbols xs) s (Bar ∷ m) = alternative_fits d in
        let v : Within 1 (parts_of_alternatives ys) (alternatives_among ys) m r = alternatives_fit e in
        let a : parts_of_symbols xs + length (Bar ∷ m) ≤ length s = w.parts_fit in
        let b : alternatives_inside_symbols xs + length (Bar ∷ m) ≤ length s + 0 = w.alternatives_fit in
        let i : parts_of_alternatives ys + length r ≤ length m = v.parts_fit in
        let j : alternatives_among ys + length r ≤ length m + 1 = v.alternatives_fit in
        record { parts_fit = omega (arith, a, i, p); alternatives_fit = omega (arith, b, j, q) }

    alternative_fits : {s r : List Token} {xs : Symbols} → ReadsAlternative s r xs → Within 0 (parts_of_symbols xs) (alternatives_inside_symbols xs) s r
    alternative_fits (rule.no_symbol r) =
        let p : parts_of_symbols no_symbols ≡ 0 = by_form.parts_among_symbols no_symbols in
        let q : alternatives_inside_symbols no_symbols ≡ 0 = by_form.alternatives_of_symbols no_symbols in
        record { parts_fit = omega arith; alternatives_fit = omega arith }
    alternative_fits (rule.further_symbol s m r x xs d e) =
        let p : parts_of_symbols (next_symbol x xs) ≡ parts x + parts_of_symbols xs =
        by_form.parts_among_symbols (next_symbol x xs) in
        let q : alternatives_inside_symbols (next_symbol x xs) ≡ alternatives_inside x + alternatives_inside_symbols xs =
        by_form.alternatives_of_symbols (next_symbol x xs) in
        let w : Within 0 (parts x) (alternatives_inside x) s m = symbol_fits d in
        let v : Within 0 (parts_of_symbols xs) (alternatives_inside_symbols xs) m r = alternative_fits e in
        let a : parts x + length m ≤ length s = w.parts_fit in
        let b : alternatives_inside x + length m ≤ length s + 0 = w.alternatives_fit in
        let i : parts_of_symbols xs + length r ≤ length m = v.parts_fit in
        let j : alternatives_inside_symbols xs + length r ≤ length m + 0 = v.alternatives_fit in
        record { parts_fit = omega (arith, a, i, p); alternatives_fit = omega (arith, b, j, q) }

  level_fits : {s r : List Token} {l : Level} → ReadsLevel s r l → Within 1 (level_parts l) (level_alternatives l) s r
  level_fits (rule.level s m r a alts ys d e h) =
      let k : length m ≤ length s = shorter (associativity_tail d) in
      let w : Within 1 (parts_of_alternatives ys) (alternatives_among ys) m r = alternatives_fit e in
      let p : parts_of_alternatives ys + length r ≤ length m = w.parts_fit in
      let q : alternatives_among ys + length r ≤ length m + 1 = w.alternatives_fit in
      subst (λ z. Within 1 (parts_of_alternatives z) (alternatives_among z) s r) h
      (record { parts_fit = omega (arith, k, p); alternatives_fit = omega (arith, k, q) })

  levels_fit : {s r : List Token} {ls : List Level} → ReadsLevels s r ls →
      LevelsFit 1 (length ls) (sum_by level_parts ls) (sum_by level_alternatives ls) s r
  levels_fit (rule.last_level s r l d) =
      let w : Within 1 (level_parts l) (level_alternatives l) s r = level_fits d in
      let a : level_parts l + length r ≤ length s = w.parts_fit in
      let b : level_alternatives l + length r ≤ length s + 1 = w.alternatives_fit in
      let p : sum_by level_parts (l ∷ []) ≡ level_parts l + sum_by level_parts [] = sum_by-cons level_parts l [] in
      let q : sum_by level_alternatives (l ∷ []) ≡ level_alternatives l + sum_by level_alternatives [] = sum_by-cons level_alternatives l [] in
      record {
        number_fits = omega (arith, a);
        all = record { parts_fit = omega (arith, a, p); alternatives_fit = omega (arith, b, q) };
      }
  levels_fit (rule.further_level s m r l ls d e) =
      let w : Within 1 (level_parts l) (level_alternatives l) s (Greater ∷ m) = level_fits d in
      let v : LevelsFit 1 (length ls) (sum_by level_parts ls) (sum_by level_alternatives ls) m r = levels_fit e in
      let a : level_parts l + length (Greater ∷ m) ≤ length s = w.parts_fit in
      let b : level_alternatives l + length (Greater ∷ m) ≤ length s + 1 = w.alternatives_fit in
      let n : length ls + length r ≤ length m + 1 = v.number_fits in
      let i : sum_by level_parts ls + length r ≤ length m = v.all.parts_fit in
      let j : sum_by level_alternatives ls + length r ≤ length m + 1 = v.all.alternatives_fit in
      let p : sum_by level_parts (l ∷ ls) ≡ level_parts l + sum_by level_parts ls = sum_by-cons level_parts l ls in
      let q : sum_by level_alternatives (l ∷ ls) ≡ level_alternatives l + sum_by level_alternatives ls = sum_by-cons level_alternatives l ls in
      record {
        number_fits = omega (arith, a, n);
        all = record { parts_fit = omega (arith, a, i, p); alternatives_fit = omega (arith, b, j, q) };
      }

  declared_fits : (t : Token) (ls : List Level) (s m r : List Token) → suc (length m) ≤ length s →
      LevelsFit 1 (length ls) (sum_by level_parts ls) (sum_by level_alternatives ls) m (Semicolon ∷ r) →
      DeclFits 1 (length ls) (sum_by level_parts ls) (sum_by level_alternatives ls) s r
  declared_fits t ls s m r h w =
      let n : length ls + length (Semicolon ∷ r) ≤ length m + 1 = w.number_fits in
      let a : sum_by level_parts ls + length (Semicolon ∷ r) ≤ length m = w.all.parts_fit in
      let b : sum_by level_alternatives ls + length (Semicolon ∷ r) ≤ length m + 1 = w.all.alternatives_fit in
      record {
        numbered = omega (arith, h, a);
        levelled = omega (arith, h, n);
        all = record { parts_fit = omega (arith, h, a); alternatives_fit = omega (arith, h, b) };
      }

  declaration_fits : {s r : List Token} {d : Decl} → ReadsDeclaration s r d →
      DeclFits 1 (decl_levels d) (decl_parts d) (decl_alternatives d) s r
  declaration_fits (rule.without_parameters t k x s r ls is d) = declared_fits t ls _ s r (omega arith) (levels_fit d)
  declaration_fits (rule.with_parameters t k x s m r ps ls is d e) =
      let h : length (Close ∷ Equals ∷ m) ≤ length s = shorter (parameters_tail d) in
      declared_fits t ls _ m r (omega (arith, h)) (levels_fit e)

  declarations_fit : {s : List Token} {ds : List Decl} → ReadsDeclarations s ds →
      DeclFits (length ds) (sum_by decl_levels ds) (sum_by decl_parts ds) (sum_by decl_alternatives ds) s []
  declarations_fit rule.no_declaration =
      record { numbered = omega arith; levelled = omega arith; all = record { parts_fit = omega arith; alternatives_fit = omega arith } }
  declarations_fit (rule.further_declaration s m d ds e f) =
      let w : DeclFits 1 (decl_levels d) (decl_parts d) (decl_alternatives d) s m = declaration_fits e in
      let v : DeclFits (length ds) (sum_by decl_levels ds) (sum_by decl_parts ds) (sum_by decl_alternatives ds) m [] = declarations_fit f in
      let a : 1 + length m ≤ length s = w.numbered in
      let b : decl_levels d + length m ≤ length s = w.levelled in
      let c : decl_parts d + length m ≤ length s = w.all.parts_fit in
      let g : decl_alternatives d + length m ≤ length s + 0 = w.all.alternatives_fit in
      let h : length ds + length {A = Token} [] ≤ length m = v.numbered in
      let i : sum_by decl_levels ds + length {A = Token} [] ≤ length m = v.levelled in
      let j : sum_by decl_parts ds + length {A = Token} [] ≤ length m = v.all.parts_fit in
      let k : sum_by decl_alternatives ds + length {A = Token} [] ≤ length m + 0 = v.all.alternatives_fit in
      let l : sum_by decl_levels (d ∷ ds) ≡ decl_levels d + sum_by decl_levels ds = sum_by-cons decl_levels d ds in
      let o : sum_by decl_parts (d ∷ ds) ≡ decl_parts d + sum_by decl_parts ds = sum_by-cons decl_parts d ds in
      let p : sum_by decl_alternatives (d ∷ ds) ≡ decl_alternatives d + sum_by decl_alternatives ds = sum_by-cons decl_alternatives d ds in
      record {
        numbered = omega (arith, a, h);
        levelled = omega (arith, b, i, l);
        all = record { parts_fit = omega (arith, c, j, o); alternatives_fit = omega (arith, g, k, p) };
      }

  fewer : (g : Grammar) (most : ℕ) (s tokens : List Token) → length s ≤ length tokens → length tokens < most →
      DeclFits (length g.decls) (sum_by decl_levels g.decls) (sum_by decl_parts g.decls) (sum_by decl_alternatives g.decls) s [] →
      HasFewerThan most g
  fewer g most s tokens h less w =
      let a : length g.decls + length {A = Token} [] ≤ length s = w.numbered in
      let b : sum_by decl_levels g.decls + length {A = Token} [] ≤ length s = w.levelled in
      let c : sum_by decl_parts g.decls + length {A = Token} [] ≤ length s = w.all.parts_fit in
      let d : sum_by decl_alternatives g.decls + length {A = Token} [] ≤ length s + 0 = w.all.alternatives_fit in
      record {
        declarations = omega (arith, h, less, a);
        levels = omega (arith, h, less, b);
        alternatives = omega (arith, h, less, d);
        symbols = omega (arith, h, less, c);
      }

  -- the declarations of a body, in the tokens behind the line of a width of tabs
  body_fits : {s : List Token} {tabs : Option ℤ} {ds : List Decl} → ReadsBody s tabs ds →
      (m : List Token) × (length m ≤ length s) ×
      DeclFits (length ds) (sum_by decl_levels ds) (sum_by decl_parts ds) (sum_by decl_alternatives ds) m []
  body_fits (rule.with_tabs n s ds d) = (s, omega arith, declarations_fit d)
  body_fits (rule.without_tabs s ds d) = (s, omega arith, declarations_fit d)

  pub grammar_counted : {tokens : List Token} {g : Grammar} (most : ℕ) → FollowsRules tokens g → length tokens < most → HasFewerThan most g
  grammar_counted {g = g} most (rule.with_start x s tabs ds d) less =
      let b = body_fits d in
      fewer g most b.0 (token.Start ∷ token.Name x ∷ Semicolon ∷ s) (omega (arith, b.1)) less b.2
  grammar_counted {g = g} most (rule.without_start s tabs ds d) less = let b = body_fits d in fewer g most b.0 s b.1 less b.2
