-- How many symbols and alternatives stand in place of a symbol, and in the declarations that are added for it.
use Rattle.std.proofs.Common.{◌≡◌, ◌∙◌, ℕ, suc, ◌+◌, ◌*◌, ◌≤◌, List, [], ◌∷◌, ◌++◌, length, map, refl, ap, subst, arith}
use Rattle.std.specs.Prelude.{All}
use Rattle.std.proofs.lemmas.List.{map-append}
use Rattle.std.proofs.lemmas.List.Elements.{All-head, All-tail}
use Rattle.ig_text.proofs.Lists.{halves}
use Rattle.ig_grammar.specs.Laws.{CountsByForm}
use Rattle.ig_grammar.specs.Regular.{FitsRound, IsNoMark}
use Rattle.ig_grammar.specs.Counts.{alternatives_among, alternatives_inside}
use Rattle.ig_grammar.specs.Counts.{alternatives_inside_symbols, parts, parts_of_symbols, parts_of_alternatives}
use Rattle.ig_grammar.specs.Subterms.{subterms, subterms_of_symbols, subterms_of_alternatives}
use Rattle.ig_grammar.specs.Symbol.{Symbol, Literal, OneOf, Call, Label, Guard, Let, Opt, Star, Plus, SepStar}
use Rattle.ig_grammar.specs.Symbol.{SepPlus, Group, Offside, Ignore, Align}
use Rattle.ig_grammar.specs.Symbol.{Filtered, Seq, Entry, Symbols, no_symbols, next_symbol, Alternatives}
use Rattle.ig_grammar.specs.Symbol.{no_alternatives, next_alternative}
use Rattle.ig_grammar.specs.Visible.{Visible, binds, replaced}
use Rattle.ig_pass.specs.Counts.{alternatives_of_levels, parts_of_levels}
use Rattle.ig_ebnf_variables.specs.Lists.{added, added_alternatives, added_symbols, all_elements, count, count_symbols}
use Rattle.ig_ebnf_variables.specs.Lists.{elements, new, new_alternatives, new_element, new_symbol, new_symbols}
use Rattle.ig_ebnf_variables.specs.Lists.{sep_plus_alternatives}
use Rattle.ig_ebnf_variables.proofs.Counting.{total, total_joined, made_alternatives, made_parts, level_alternatives, level_parts, level_of}
use Rattle.ig_ebnf_variables.proofs.Definitions.{IsSingle}
use Rattle.ig_ebnf_variables.proofs.ProperSymbols.{may_filters, may_label}
use Rattle.ig_ebnf_variables.proofs.ValuedParts.{lone_element}

-- for p symbols with a alternatives in them stand n symbols with i alternatives in them, and the added declarations have
-- u alternatives and w symbols; so much of what they may have is left
pub record Fits (left over p a i n u w : ℕ) : Type 0 where
  pub standing : i ≡ 0
  pub alternatives : u + left ≤ 2 * p + a
  -- an item stands twice, a separator once
  pub twice : w + 2 * n ≤ 3 * p
  pub once : w + n + over ≤ 3 * p

nothing : Fits 0 0 0 0 0 0 0 0
nothing =
    record { standing = refl; alternatives = omega arith; twice = omega arith; once = omega arith }

leaf : {p a : ℕ} → p ≡ 1 + 0 → a ≡ 0 + 0 → Fits 2 1 p a (a + 0) (p + 0) 0 0
leaf one none =
    record {
      standing = omega (arith, none);
      alternatives = omega (arith, one, none);
      twice = omega (arith, one);
      once = omega (arith, one);
    }

-- labels and filters
wrapped : (m : ℕ) (x y : Symbol) {p q a b u w : ℕ} → Fits 2 1 p a (alternatives_inside x + 0) (parts x + 0) u w →
    q ≡ (m + 1) + p → b ≡ 0 + a → alternatives_inside y ≡ 0 + alternatives_inside x → parts y ≡ (m + 1) + parts x →
    Fits 2 1 q b (alternatives_inside y + 0) (parts y + 0) u w
wrapped m x y h q_is b_is j_is o_is =
    let s = h.standing in
    let a = h.alternatives in
    let t = h.twice in
    let l = h.once in
    record {
      standing = omega (arith, s, j_is);
      alternatives = omega (arith, a, q_is, b_is);
      twice = omega (arith, t, q_is, o_is);
      once = omega (arith, l, q_is, o_is);
    }

sequence : {p q a b i n u w : ℕ} → Fits 0 0 p a i n u w → q ≡ 1 + p → b ≡ 0 + a → Fits 2 1 q b i n u w
sequence h q_is b_is =
    let a = h.alternatives in
    let t = h.twice in
    let l = h.once in
    record {
      standing = h.standing;
      alternatives = omega (arith, a, q_is, b_is);
      twice = omega (arith, t, q_is);
      once = omega (arith, l, q_is);
    }

-- options and lists, for which calls stand
listed : {p q a b i n u w y z : ℕ} → Fits 2 1 p a i n u w → q ≡ 1 + p → b ≡ 0 + a → y ≤ 2 + u → z ≤ 2 * n + 1 + w →
    Fits 2 1 q b 0 1 y z
listed h q_is b_is y_fits z_fits =
    let a = h.alternatives in
    let t = h.twice in
    record {
      standing = refl;
      alternatives = omega (arith, a, q_is, b_is, y_fits);
      twice = omega (arith, t, q_is, z_fits);
      once = omega (arith, t, q_is, z_fits);
    }

separated : {p q r a b c i j n o u v w x y z : ℕ} → Fits 2 1 p a i n u w → Fits 2 1 q b j o v x → r ≡ 1 + (p + q) →
    c ≡ 0 + (a + b) → y ≤ 4 + (u + v) → z ≤ 2 * n + o + 2 + (w + x) → Fits 2 1 r c 0 1 y z
separated h k r_is c_is y_fits z_fits =
    let a = h.alternatives in
    let b = k.alternatives in
    let t = h.twice in
    let l = k.once in
    record {
      standing = refl;
      alternatives = omega (arith, a, b, r_is, c_is, y_fits);
      twice = omega (arith, t, l, r_is, z_fits);
      once = omega (arith, t, l, r_is, z_fits);
    }

grouped : {g p q a b i n u w y z : ℕ} → Fits g 0 p a i n u w → q ≡ 1 + p → b ≡ a → y ≤ g + u → z ≤ n + w →
    Fits 2 1 q b 0 1 y z
grouped h q_is b_is y_fits z_fits =
    let a = h.alternatives in
    let l = h.once in
    record {
      standing = refl;
      alternatives = omega (arith, a, q_is, b_is, y_fits);
      twice = omega (arith, l, q_is, z_fits);
      once = omega (arith, l, q_is, z_fits);
    }

-- a symbol, and those behind it
both : {p q r a b c i j k n o m u v y w x z : ℕ} → Fits 2 1 p a i n u w → Fits 0 0 q b j o v x → r ≡ p + q → c ≡ a + b →
    k ≡ i + j → m ≡ n + o → y ≡ u + v → z ≡ w + x → Fits 0 0 r c k m y z
both h l r_is c_is k_is m_is y_is z_is =
    let s = h.standing in
    let t = l.standing in
    let a = h.alternatives in
    let b = l.alternatives in
    let c = h.twice in
    let d = l.twice in
    let e = h.once in
    let f = l.once in
    record {
      standing = omega (arith, s, t, k_is);
      alternatives = omega (arith, a, b, r_is, c_is, y_is);
      twice = omega (arith, c, d, r_is, m_is, z_is);
      once = omega (arith, e, f, r_is, m_is, z_is);
    }

-- an alternative, and those behind it
choice : {g p q r a b c i j n o u v y w x z : ℕ} → Fits 0 0 p a i n u w → Fits g 0 q b j o v x → r ≡ p + q →
    c ≡ a + b + 1 → y ≡ u + v → z ≡ w + x → Fits (suc g) 0 r c (i + j) (n + o) y z
choice h l r_is c_is y_is z_is =
    let s = h.standing in
    let t = l.standing in
    let a = h.alternatives in
    let b = l.alternatives in
    let c = h.twice in
    let d = l.twice in
    let e = h.once in
    let f = l.once in
    record {
      standing = omega (arith, s, t);
      alternatives = omega (arith, a, b, r_is, c_is, y_is);
      twice = omega (arith, c, d, r_is, z_is);
      once = omega (arith, e, f, r_is, z_is);
    }

-- it stands round what it may, and is no mark
abbrev pub IsCounted : Symbol → Type 0
IsCounted x = FitsRound x × IsNoMark x

module _ (by_form : CountsByForm) (of : List ℕ) where
  abbrev Standing : Symbol → Visible → ℕ → List Symbol → Type 0
  Standing x v k xs =
      Fits 2 1 (parts x) (alternatives_inside x) (total alternatives_inside xs) (total parts xs)
      (total made_alternatives (added of v k x)) (total made_parts (added of v k x))

  -- where one symbol stands for it
  alone : (x : Symbol) (v : Visible) (k : ℕ) → IsSingle x → Standing x v k (new of v k x) →
      Standing x v k (new_symbol of v k x ∷ [])
  alone x v k single h = subst (Standing x v k) (ap (map (new_element of)) (lone_element v k x single)) h

  -- a list with separators, from one item on
  list_alternatives : (x s : Symbol) (v : Visible) (k : ℕ) → total alternatives_inside (new of v (suc k) x) ≡ 0 →
      total alternatives_inside (new of v (suc k + count x) s) ≡ 0 →
      alternatives_of_levels (level_of (sep_plus_alternatives of v k x s)) ≡ 2
  list_alternatives x s v k none nor =
      let a = level_alternatives by_form (sep_plus_alternatives of v k x s) in
      let b = total_joined alternatives_inside (new of v (suc k + count x) s) (new of v (suc k) x) in
      omega (arith, a, b, none, nor)

  list_parts : (x s : Symbol) (v : Visible) (k : ℕ) →
      parts_of_levels (level_of (sep_plus_alternatives of v k x s)) ≡
      2 * total parts (new of v (suc k) x) + total parts (new of v (suc k + count x) s) + 1
  list_parts x s v k =
      let a = level_parts by_form (sep_plus_alternatives of v k x s) in
      let b = total_joined parts (new of v (suc k + count x) s) (new of v (suc k) x) in
      omega (arith, a, b)

  mutual
    symbol_fits : (x : Symbol) (v : Visible) (k : ℕ) → All IsCounted (subterms x) → Standing x v k (new of v k x)
    symbol_fits (Literal m) v k h = leaf (by_form.parts_of (Literal m)) (by_form.alternatives_of (Literal m))
    symbol_fits (OneOf m) v k h = leaf (by_form.parts_of (OneOf m)) (by_form.alternatives_of (OneOf m))
    symbol_fits (Call m es) v k h = leaf (by_form.parts_of (Call m es)) (by_form.alternatives_of (Call m es))
    symbol_fits (Guard e) v k h = leaf (by_form.parts_of (Guard e)) (by_form.alternatives_of (Guard e))
    symbol_fits (Let m e) v k h = leaf (by_form.parts_of (Let m e)) (by_form.alternatives_of (Let m e))
    symbol_fits (Label m x) v k h =
        let y = new_symbol of v k x in
        wrapped 0 y (Label m y)
        (alone x v k (may_label x (All-head IsCounted (Label m x) (subterms x) h).0)
        (symbol_fits x v k (All-tail IsCounted (Label m x) (subterms x) h)))
        (by_form.parts_of (Label m x)) (by_form.alternatives_of (Label m x)) (by_form.alternatives_of (Label m y))
        (by_form.parts_of (Label m y))
    symbol_fits (Filtered x fs) v k h =
        let y = new_symbol of v k x in
        wrapped (length fs) y (Filtered y fs)
        (alone x v k (may_filters x (All-head IsCounted (Filtered x fs) (subterms x) h).0)
        (symbol_fits x v k (All-tail IsCounted (Filtered x fs) (subterms x) h)))
        (by_form.parts_of (Filtered x fs)) (by_form.alternatives_of (Filtered x fs))
        (by_form.alternatives_of (Filtered y fs)) (by_form.parts_of (Filtered y fs))
    symbol_fits (Offside x) v k h = absurd (All-head IsCounted (Offside x) (subterms x) h).1
    symbol_fits (Ignore x) v k h = absurd (All-head IsCounted (Ignore x) (subterms x) h).1
    symbol_fits (Align x) v k h = absurd (All-head IsCounted (Align x) (subterms x) h).1
    symbol_fits (Seq xs) v k h =
        sequence (symbols_fit xs v k (All-tail IsCounted (Seq xs) (subterms_of_symbols xs) h))
        (by_form.parts_of (Seq xs)) (by_form.alternatives_of (Seq xs))
    symbol_fits (Entry bs x) v k h =
        listed (symbol_fits x (replaced v v bs) k (All-tail IsCounted (Entry bs x) (subterms x) h))
        (by_form.parts_of (Entry bs x)) (by_form.alternatives_of (Entry bs x)) (omega arith) (omega arith)
    symbol_fits (Opt x) v k h =
        let w = symbol_fits x v (suc k) (All-tail IsCounted (Opt x) (subterms x) h) in
        let s = w.standing in
        let cs = [] ∷ new of v (suc k) x ∷ [] in
        let a = level_alternatives by_form cs in
        let p = level_parts by_form cs in
        listed w (by_form.parts_of (Opt x)) (by_form.alternatives_of (Opt x)) (omega (arith, a, s))
        (omega (arith, p))
    symbol_fits (Star x) v k h =
        let w = symbol_fits x v (suc k) (All-tail IsCounted (Star x) (subterms x) h) in
        let s = w.standing in
        let cs = [] ∷ (new_symbol of v k (Star x) ∷ new of v (suc k) x) ∷ [] in
        let a = level_alternatives by_form cs in
        let p = level_parts by_form cs in
        listed w (by_form.parts_of (Star x)) (by_form.alternatives_of (Star x)) (omega (arith, a, s))
        (omega (arith, p))
    symbol_fits (Plus x) v k h =
        let w = symbol_fits x v (suc k) (All-tail IsCounted (Plus x) (subterms x) h) in
        let s = w.standing in
        let cs = new of v (suc k) x ∷ (new_symbol of v k (Plus x) ∷ new of v (suc k) x) ∷ [] in
        let a = level_alternatives by_form cs in
        let p = level_parts by_form cs in
        listed w (by_form.parts_of (Plus x)) (by_form.alternatives_of (Plus x)) (omega (arith, a, s))
        (omega (arith, p))
    symbol_fits (SepPlus x s) v k h =
        let premises =
        halves IsCounted (subterms x) (subterms s)
        (All-tail IsCounted (SepPlus x s) (subterms x ++ subterms s) h) in
        let l = suc k + count x in
        let w = symbol_fits x v (suc k) premises.0 in
        let z = symbol_fits s v l premises.1 in
        let a = list_alternatives x s v k w.standing z.standing in
        let p = list_parts x s v k in
        let b = total_joined made_alternatives (added of v (suc k) x) (added of v l s) in
        let q = total_joined made_parts (added of v (suc k) x) (added of v l s) in
        separated w z (by_form.parts_of (SepPlus x s)) (by_form.alternatives_of (SepPlus x s)) (omega (arith, a, b))
        (omega (arith, p, q))
    symbol_fits (SepStar x s) v k h =
        let premises =
        halves IsCounted (subterms x) (subterms s)
        (All-tail IsCounted (SepStar x s) (subterms x ++ subterms s) h) in
        let l = suc (suc k) + count x in
        let w = symbol_fits x v (suc (suc k)) premises.0 in
        let z = symbol_fits s v l premises.1 in
        let cs = [] ∷ (new_symbol of v (suc k) (SepPlus x s) ∷ []) ∷ [] in
        let a = list_alternatives x s v (suc k) w.standing z.standing in
        let p = list_parts x s v (suc k) in
        let b = total_joined made_alternatives (added of v (suc (suc k)) x) (added of v l s) in
        let q = total_joined made_parts (added of v (suc (suc k)) x) (added of v l s) in
        let c = level_alternatives by_form cs in
        let r = level_parts by_form cs in
        separated w z (by_form.parts_of (SepStar x s)) (by_form.alternatives_of (SepStar x s))
        (omega (arith, a, b, c)) (omega (arith, p, q, r))
    symbol_fits (Group ys) v k h =
        let w = choices_fit ys v (suc k) (All-tail IsCounted (Group ys) (subterms_of_alternatives ys) h) in
        let s = w.standing in
        let a = level_alternatives by_form (new_alternatives of v (suc k) ys) in
        let p = level_parts by_form (new_alternatives of v (suc k) ys) in
        grouped w (by_form.parts_of (Group ys)) (by_form.alternatives_of_group ys) (omega (arith, a, s))
        (omega (arith, p))

    symbols_fit : (xs : Symbols) (v : Visible) (k : ℕ) → All IsCounted (subterms_of_symbols xs) →
        Fits 0 0 (parts_of_symbols xs) (alternatives_inside_symbols xs)
        (total alternatives_inside (new_symbols of v k xs)) (total parts (new_symbols of v k xs))
        (total made_alternatives (added_symbols of v k xs)) (total made_parts (added_symbols of v k xs))
    symbols_fit no_symbols v k h = nothing
    symbols_fit (next_symbol x xs) v k h =
        let premises = halves IsCounted (subterms x) (subterms_of_symbols xs) h in
        let u = v ++ binds v x in
        let l = k + count x in
        let stand = map-append (new_element of) (elements v k x) (all_elements u l xs) in
        both (symbol_fits x v k premises.0) (symbols_fit xs u l premises.1)
        (by_form.parts_among_symbols (next_symbol x xs)) (by_form.alternatives_of_symbols (next_symbol x xs))
        (ap (total alternatives_inside) stand ∙
        total_joined alternatives_inside (new of v k x) (new_symbols of u l xs))
        (ap (total parts) stand ∙ total_joined parts (new of v k x) (new_symbols of u l xs))
        (total_joined made_alternatives (added of v k x) (added_symbols of u l xs))
        (total_joined made_parts (added of v k x) (added_symbols of u l xs))

    pub choices_fit : (ys : Alternatives) (v : Visible) (k : ℕ) → All IsCounted (subterms_of_alternatives ys) →
        Fits (length (new_alternatives of v k ys)) 0 (parts_of_alternatives ys) (alternatives_among ys)
        (total (total alternatives_inside) (new_alternatives of v k ys))
        (total (total parts) (new_alternatives of v k ys)) (total made_alternatives (added_alternatives of v k ys))
        (total made_parts (added_alternatives of v k ys))
    choices_fit no_alternatives v k h = nothing
    choices_fit (next_alternative xs ys) v k h =
        let premises = halves IsCounted (subterms_of_symbols xs) (subterms_of_alternatives ys) h in
        let l = k + count_symbols xs in
        choice (symbols_fit xs v k premises.0) (choices_fit ys v l premises.1)
        (by_form.parts_among_alternatives (next_alternative xs ys)) (by_form.further_alternative xs ys)
        (total_joined made_alternatives (added_symbols of v k xs) (added_alternatives of v l ys))
        (total_joined made_parts (added_symbols of v k xs) (added_alternatives of v l ys))
