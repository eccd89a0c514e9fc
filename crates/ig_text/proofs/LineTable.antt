-- The table of line starts gives lines as they are counted in the text.
use Rattle.std.proofs.Common.{◌≡◌, ◌∙◌, ℕ, zero, suc, ◌+◌, ◌-◌, ◌<◌, ◌≤◌, List, [], ◌∷◌, true, false, cond, Some, length, get_or, take, refl, sym, ap, subst, arith, leb}
use Rattle.std.proofs.lemmas.Bool.Decides.{nat_tests}
use Rattle.std.proofs.lemmas.List.Sums.{sum_by-cons, count_by-le-length}
use Rattle.std.proofs.lemmas.List.{length-take}
use Rattle.std.specs.List.{count_by}
use Rattle.std.specs.List.Sorted.{IsNonDecreasing, IsPartitionPoint}
use Rattle.ig_text.specs.Input.{Input}
use Rattle.ig_text.specs.Lines.{is_line_feed, line_of, line_at}
use Rattle.ig_text.specs.LineTable.{starts_behind, line_starts, IsSplitAt}

-- the first start behind a position is greater than it
first_greater : (b : ℕ) (xs : List ℕ) → 0 < length (starts_behind b xs) → b < get_or (starts_behind b xs) 0 0
first_greater b [] h = absurd (omega arith)
first_greater b (c ∷ cs) h =
    (elim (is_line_feed c) as
    (λ v. 0 < length (cond v ((b + 1) ∷ starts_behind (b + 1) cs) (starts_behind (b + 1) cs)) →
    b < get_or (cond v ((b + 1) ∷ starts_behind (b + 1) cs) (starts_behind (b + 1) cs)) 0 0) [
      | true ↦ λ k. omega arith
      | false ↦ λ k. omega (arith, first_greater (b + 1) cs k)
    ])
    h

-- a start before others that rise
after : (d s : ℕ) (rest : List ℕ) (e : ℕ) → d ≤ s → ((i j : ℕ) → i ≤ j → j < length (s ∷ rest) → get_or (s ∷ rest) i e ≤ get_or (s ∷ rest) j e) →
    (i j : ℕ) → i ≤ j → j < length (d ∷ s ∷ rest) → get_or (d ∷ s ∷ rest) i e ≤ get_or (d ∷ s ∷ rest) j e
after d s rest e h up zero zero m n = omega arith
after d s rest e h up zero (suc j) m n = omega (arith, up 0 j (omega arith) (omega arith))
after d s rest e h up (suc i) zero m n = absurd (omega arith)
after d s rest e h up (suc i) (suc j) m n = up i j (omega arith) (omega arith)

-- the starts rise
rise : (d b : ℕ) (xs : List ℕ) → d ≤ b → (i j e : ℕ) → i ≤ j → j < length (d ∷ starts_behind b xs) →
    get_or (d ∷ starts_behind b xs) i e ≤ get_or (d ∷ starts_behind b xs) j e
rise d b [] h zero zero e m n = omega arith
rise d b [] h zero (suc j) e m n = absurd (omega arith)
rise d b [] h (suc i) zero e m n = absurd (omega arith)
rise d b [] h (suc i) (suc j) e m n = absurd (omega arith)
rise d b (c ∷ cs) h i j e m n =
    (elim (is_line_feed c) as
    (λ v. (i j : ℕ) → i ≤ j → j < length (d ∷ cond v ((b + 1) ∷ starts_behind (b + 1) cs) (starts_behind (b + 1) cs)) →
    get_or (d ∷ cond v ((b + 1) ∷ starts_behind (b + 1) cs) (starts_behind (b + 1) cs)) i e ≤
    get_or (d ∷ cond v ((b + 1) ∷ starts_behind (b + 1) cs) (starts_behind (b + 1) cs)) j e) [
      | true ↦ λ i j m n. after d (b + 1) (starts_behind (b + 1) cs) e (omega arith) (λ i j. rise (b + 1) (b + 1) cs (omega arith) i j e) i j m n
      | false ↦ λ i j m n. rise d (b + 1) cs (omega arith) i j e m n
    ])
    i j m n

-- the starts of lines rise
pub starts_rise : (text starts : List ℕ) → starts ≡ line_starts text → IsNonDecreasing starts
starts_rise text starts e =
    subst IsNonDecreasing (sym e) (λ i j d m n. rise 0 0 text (omega arith) i j d m n)

le : (a b : ℕ) → leb a b ≡ true → a ≤ b
le a b e = grind (arith, nat_tests)

gt : (a b : ℕ) → leb a b ≡ false → b < a
gt a b e = grind (arith, nat_tests)

-- a partition point splits the starts into those up to a position and those behind it
pub split_from : (starts : List ℕ) (p k : ℕ) → k ≤ length starts →
    IsPartitionPoint (λ y. leb y p ≡ true) (λ y. leb y p ≡ false) starts k → IsSplitAt starts p k
split_from starts p k within h =
    record {
      within = within;
      front = λ i l. le (get_or starts i 0) p (h.0 i 0 (omega arith) l);
      back = λ i f l. gt (get_or starts i 0) p (h.1 i 0 f l);
    }

tail_split : (d : ℕ) (rest : List ℕ) (p q k : ℕ) → p ≡ q → IsSplitAt (d ∷ rest) p (suc k) → IsSplitAt rest q k
tail_split d rest p q k e s =
    record {
      within = omega (arith, s.within);
      front = λ i h. omega (arith, s.front (suc i) (omega arith));
      back = λ i h l. omega (arith, s.back (suc i) (omega arith) (omega arith));
    }

moved : (starts : List ℕ) (p q k : ℕ) → p ≡ q → IsSplitAt starts p k → IsSplitAt starts q k
moved starts p q k e s = subst (λ (z : ℕ). IsSplitAt starts z k) e s

counted : (c : ℕ) (cs : List ℕ) → count_by is_line_feed (c ∷ cs) ≡ cond (is_line_feed c) 1 0 + count_by is_line_feed cs
counted c cs = sum_by-cons (λ x. cond (is_line_feed x) 1 0) c cs

-- a position is in the line of the last start that isn't behind it: d is the start of the line of b
placed : (xs : List ℕ) (d b m i : ℕ) → d ≤ b → m ≤ length xs → IsSplitAt (d ∷ starts_behind b xs) (b + m) (suc i) →
    count_by is_line_feed (take m xs) ≡ i
placed xs d b zero zero h l s = refl
placed xs d b zero (suc i) h l s =
    absurd (omega (arith, s.within, s.front 1 (omega arith), first_greater b xs (omega (arith, s.within))))
placed [] d b (suc m) i h l s = absurd (omega arith)
placed (c ∷ cs) d b (suc m) zero h l s =
    let r =
    (elim (is_line_feed c) as
    (λ v. IsSplitAt (d ∷ cond v ((b + 1) ∷ starts_behind (b + 1) cs) (starts_behind (b + 1) cs)) (b + suc m) 1 →
    cond v 1 0 + count_by is_line_feed (take m cs) ≡ 0) [
      | true ↦ λ t. absurd (omega (arith, t.back 1 (omega arith) (omega arith)))
      | false ↦
          λ t.
          let r =
          placed cs d (b + 1) m 0 (omega arith) (omega arith)
          (moved (d ∷ starts_behind (b + 1) cs) (b + suc m) (b + 1 + m) 1 (omega arith) t) in
          omega (arith, r)
    ])
    s in
    counted c (take m cs) ∙ r
placed (c ∷ cs) d b (suc m) (suc i) h l s =
    let r =
    (elim (is_line_feed c) as
    (λ v. IsSplitAt (d ∷ cond v ((b + 1) ∷ starts_behind (b + 1) cs) (starts_behind (b + 1) cs)) (b + suc m) (suc (suc i)) →
    cond v 1 0 + count_by is_line_feed (take m cs) ≡ suc i) [
      | true ↦
          λ t.
          let r =
          placed cs (b + 1) (b + 1) m i (omega arith) (omega arith)
          (tail_split d ((b + 1) ∷ starts_behind (b + 1) cs) (b + suc m) (b + 1 + m) (suc i) (omega arith) t) in
          omega (arith, r)
      | false ↦
          λ t.
          let r =
          placed cs d (b + 1) m (suc i) (omega arith) (omega arith)
          (moved (d ∷ starts_behind (b + 1) cs) (b + suc m) (b + 1 + m) (suc (suc i)) (omega arith) t) in
          omega (arith, r)
    ])
    s in
    counted c (take m cs) ∙ r

-- the number of starts up to a position is its line
at_split : (text : Input) (starts : List ℕ) (p k : ℕ) → starts ≡ line_starts text.characters → p ≤ length text.characters →
    IsSplitAt starts p k → k ≡ line_of text p
at_split text starts p zero e l s =
    let t : IsSplitAt (line_starts text.characters) p 0 = subst (λ (z : List ℕ). IsSplitAt z p 0) e s in
    absurd (omega (arith, t.back 0 (omega arith) (omega arith)))
at_split text starts p (suc i) e l s =
    let t : IsSplitAt (line_starts text.characters) (0 + p) (suc i) =
    moved (line_starts text.characters) p (0 + p) (suc i) (omega arith) (subst (λ (z : List ℕ). IsSplitAt z p (suc i)) e s) in
    omega (arith, placed text.characters 0 0 p i (omega arith) l t)

-- the same, as the line of a position
pub line_is : (text : Input) (starts : List ℕ) (p k : ℕ) → starts ≡ line_starts text.characters → p ≤ length text.characters →
    IsSplitAt starts p k → Some k ≡ line_at text p
line_is text starts p k e l s =
    let inside : leb p (length text.characters) ≡ true = grind (arith, nat_tests) in
    rw inside (ap Some (at_split text starts p k e l s))

-- there are no more lines than positions
pub line_le : (text : Input) (starts : List ℕ) (p k : ℕ) → starts ≡ line_starts text.characters → p ≤ length text.characters →
    IsSplitAt starts p k → k ≤ length text.characters + 1
line_le text starts p k e l s =
    omega (
      arith,
      at_split text starts p k e l s,
      count_by-le-length is_line_feed (take p text.characters),
      length-take p text.characters,
    )

-- a position has a start up to it
pub some_start : (characters starts : List ℕ) (p k : ℕ) → starts ≡ line_starts characters → IsSplitAt starts p k → 0 < k
some_start characters starts p zero e s =
    let t : IsSplitAt (line_starts characters) p 0 = subst (λ (z : List ℕ). IsSplitAt z p 0) e s in
    absurd (omega (arith, t.back 0 (omega arith) (omega arith)))
some_start characters starts p (suc k) e s = omega arith
