-- The table of tab stops gives columns as they are counted in the text.
use Rattle.std.proofs.Common.{◌≡◌, ◌∙◌, ◌⊎◌, inl, inr, ⊎_elim, ℕ, zero, suc, ◌+◌, ◌-◌, ◌*◌, ◌/◌, ◌<◌, ◌≤◌, List, [], ◌∷◌, ◌++◌, Bool, true, false, cond, length, get_or, take, drop, set, refl, sym, ap, subst, arith, leb, Contains}
use Rattle.std.proofs.Math.Nat.{div-mul-le_self}
use Rattle.std.proofs.lemmas.Bool.Decides.{nat_tests}
use Rattle.std.proofs.lemmas.List.Elements.{Contains-get_or}
use Rattle.std.proofs.lemmas.List.Sums.{sum_by-cons}
use Rattle.std.proofs.lemmas.List.{length-take, get_or_default}
use Rattle.std.specs.List.{count_by}
use Rattle.std.specs.List.Sorted.{IsNonDecreasingBy, IsPartitionPoint}
use Rattle.ig_text.specs.Input.{Input, IsTabWidth}
use Rattle.ig_text.specs.Limits.{most_tabs}
use Rattle.ig_text.specs.Lines.{is_line_feed, is_tab, columns_with, since_line_feed, column_of}
use Rattle.ig_text.specs.LineTable.{starts_behind, line_starts, IsSplitAt}
use Rattle.ig_text.specs.StopTable.{stops_behind, tab_stops, IsStopSplit, IsLastUpTo, IsMark}
use Rattle.ig_text.specs.declared.stops.Stop.{Stop}
use Rattle.ig_text.proofs.Lists.{contains_first, contains_later, in_rest, none_in_nil}
use Rattle.ig_text.proofs.LineTable.{starts_rise}

-- a character that is neither line feed nor tab takes one column
one_column : (z n c : ℕ) → is_line_feed c ≡ false → is_tab c ≡ false → columns_with z n c ≡ n + 1
one_column z n c f t = rw (f, t) refl

-- a character takes at most as many columns as a tab
pub columns_few : (z n c : ℕ) → IsTabWidth z → columns_with z n c ≤ n + z
columns_few z n c w =
    (elim (is_line_feed c) as (λ v. cond v 0 (cond (is_tab c) ((n / z + 1) * z) (n + 1)) ≤ n + z) [
      | true ↦ omega arith
      | false ↦
          (elim (is_tab c) as (λ v. cond v ((n / z + 1) * z) (n + 1) ≤ n + z) [
            | true ↦ tab
            | false ↦ omega (arith, w.some)
          ])
    ])
  where
    tab : (n / z + 1) * z ≤ n + z
    tab = omega (arith, div-mul-le_self n z)

-- so do many characters
pub since_few : (z n : ℕ) (xs : List ℕ) → IsTabWidth z → since_line_feed z n xs ≤ n + most_tabs * length xs
since_few z n [] w = omega arith
since_few z n (c ∷ cs) w =
    omega (arith, since_few z (columns_with z n c) cs w, columns_few z n c w, w.few)

-- from a place on there is one column for each character, where none is a line feed or a tab
columns_on : (z n : ℕ) (xs : List ℕ) (m p : ℕ) → m ≤ p → p ≤ length xs →
    ((i : ℕ) → m ≤ i → i < p → is_line_feed (get_or xs i 0) ≡ false) →
    ((i : ℕ) → m ≤ i → i < p → is_tab (get_or xs i 0) ≡ false) →
    since_line_feed z n (take p xs) ≡ since_line_feed z n (take m xs) + (p - m)
columns_on z n xs zero zero h l f t = omega arith
columns_on z n xs (suc m) zero h l f t = absurd (omega arith)
columns_on z n [] m (suc p) h l f t = absurd (omega arith)
columns_on z n (c ∷ cs) zero (suc p) h l f t =
    let one = one_column z n c (f 0 (omega arith) (omega arith)) (t 0 (omega arith) (omega arith)) in
    let r =
    columns_on z (columns_with z n c) cs 0 p (omega arith) (omega arith)
    (λ i a b. f (suc i) (omega arith) (omega (arith, b))) (λ i a b. t (suc i) (omega arith) (omega (arith, b))) in
    omega (arith, one, r)
columns_on z n (c ∷ cs) (suc m) (suc p) h l f t =
    let r =
    columns_on z (columns_with z n c) cs m p (omega arith) (omega arith)
    (λ i a b. f (suc i) (omega (arith, a)) (omega (arith, b))) (λ i a b. t (suc i) (omega (arith, a)) (omega (arith, b))) in
    omega (arith, r)

-- the column behind a first character, at a place behind it
further : (z n c : ℕ) (cs : List ℕ) (b s k : ℕ) → b + 1 < s → since_line_feed z (columns_with z n c) (take (s - (b + 1)) cs) ≡ k →
    since_line_feed z n (take (s - b) (c ∷ cs)) ≡ k
further z n c cs b s k h e = let d : s - b ≡ suc (s - (b + 1)) = omega (arith, h) in rw d e

-- the column directly behind a first character
directly : (z n c : ℕ) (cs : List ℕ) (b s : ℕ) → b + 1 ≡ s → since_line_feed z n (take (s - b) (c ∷ cs)) ≡ columns_with z n c
directly z n c cs b s h = let d : s - b ≡ suc zero = omega (arith, h) in rw d refl

-- a stop is behind where the characters begin, and has its column
abbrev IsStop : ℕ → ℕ → ℕ → List ℕ → Stop → Type 0
IsStop z b n xs s = (b < s.position) × (since_line_feed z n (take (s.position - b) xs) + 1 ≡ s.column)

first_stop : (z b n c : ℕ) (cs : List ℕ) (s : Stop) → record { position = b + 1; column = columns_with z n c + 1 } ≡ s → IsStop z b n (c ∷ cs) s
first_stop z b n c cs s e =
    let p : b + 1 ≡ s.position = ap (λ (t : Stop). t.position) e in
    let k : columns_with z n c + 1 ≡ s.column = ap (λ (t : Stop). t.column) e in
    (omega (arith, p), ap (λ m. m + 1) (directly z n c cs b s.position p) ∙ k)

later_stop : (z b n c : ℕ) (cs : List ℕ) (s : Stop) → IsStop z (b + 1) (columns_with z n c) cs s → IsStop z b n (c ∷ cs) s
later_stop z b n c cs s r =
    (omega (arith, r.0), ap (λ m. m + 1) (further z n c cs b s.position (since_line_feed z (columns_with z n c) (take (s.position - (b + 1)) cs)) r.0 refl) ∙ r.1)

stop_column : (z b n : ℕ) (xs : List ℕ) (s : Stop) → Contains (stops_behind z b n xs) s → IsStop z b n xs s
stop_column z b n [] s h = absurd (none_in_nil s h)
stop_column z b n (c ∷ cs) s h =
    let later : Contains (stops_behind z (b + 1) (columns_with z n c) cs) s → IsStop z b n (c ∷ cs) s =
    λ k. later_stop z b n c cs s (stop_column z (b + 1) (columns_with z n c) cs s k) in
    (elim (is_tab c) as
    (λ v. Contains (cond v (record { position = b + 1; column = columns_with z n c + 1 } ∷ stops_behind z (b + 1) (columns_with z n c) cs)
    (stops_behind z (b + 1) (columns_with z n c) cs)) s → IsStop z b n (c ∷ cs) s) [
      | true ↦
          λ k.
          ⊎_elim (first_stop z b n c cs s) later
          (in_rest (record { position = b + 1; column = columns_with z n c + 1 }) (stops_behind z (b + 1) (columns_with z n c) cs) s k)
      | false ↦ later
    ])
    h

-- a start of a line behind the first one is behind where the characters begin, in column 1
abbrev IsStart : ℕ → ℕ → ℕ → List ℕ → ℕ → Type 0
IsStart z b n xs s = (b < s) × (since_line_feed z n (take (s - b) xs) ≡ 0)

first_start : (z b n c : ℕ) (cs : List ℕ) (s : ℕ) → is_line_feed c ≡ true → b + 1 ≡ s → IsStart z b n (c ∷ cs) s
first_start z b n c cs s t e =
    let none : columns_with z n c ≡ 0 = rw t refl in
    (omega (arith, e), directly z n c cs b s e ∙ none)

later_start : (z b n c : ℕ) (cs : List ℕ) (s : ℕ) → IsStart z (b + 1) (columns_with z n c) cs s → IsStart z b n (c ∷ cs) s
later_start z b n c cs s r = (omega (arith, r.0), further z n c cs b s 0 r.0 r.1)

start_by : (z b n c : ℕ) (cs : List ℕ) (s : ℕ) → (Contains (starts_behind (b + 1) cs) s → IsStart z b n (c ∷ cs) s) → (v : Bool) → is_line_feed c ≡ v →
    Contains (cond v ((b + 1) ∷ starts_behind (b + 1) cs) (starts_behind (b + 1) cs)) s → IsStart z b n (c ∷ cs) s
start_by z b n c cs s later true t k = ⊎_elim (first_start z b n c cs s t) later (in_rest (b + 1) (starts_behind (b + 1) cs) s k)
start_by z b n c cs s later false t k = later k

start_column : (z b n : ℕ) (xs : List ℕ) (s : ℕ) → Contains (starts_behind b xs) s → IsStart z b n xs s
start_column z b n [] s h = absurd (none_in_nil s h)
start_column z b n (c ∷ cs) s h =
    start_by z b n c cs s (λ k. later_start z b n c cs s (start_column z (b + 1) (columns_with z n c) cs s k)) (is_line_feed c) refl h

-- behind each line feed a line starts
start_of_feed : (b : ℕ) (xs : List ℕ) (i : ℕ) → i < length xs → is_line_feed (get_or xs i 0) ≡ true →
    Contains (starts_behind b xs) (b + i + 1)
start_of_feed b [] i l t = absurd (omega (arith, l))
start_of_feed b (c ∷ cs) zero l t =
    let here : starts_behind b (c ∷ cs) ≡ (b + 1) ∷ starts_behind (b + 1) cs = rw t refl in
    let place : b + 1 ≡ b + 0 + 1 = omega arith in
    rw here (subst (λ p. Contains ((b + 1) ∷ starts_behind (b + 1) cs) p) place (contains_first (b + 1) (starts_behind (b + 1) cs)))
start_of_feed b (c ∷ cs) (suc i) l t =
    let r = start_of_feed (b + 1) cs i (omega (arith, l)) t in
    let place : b + 1 + i + 1 ≡ b + suc i + 1 = omega arith in
    subst (λ p. Contains (starts_behind b (c ∷ cs)) p) place
    ((elim (is_line_feed c) as
    (λ v. Contains (cond v ((b + 1) ∷ starts_behind (b + 1) cs) (starts_behind (b + 1) cs)) (b + 1 + i + 1)) [
      | true ↦ contains_later (b + 1) (starts_behind (b + 1) cs) (b + 1 + i + 1) r
      | false ↦ r
    ]))

-- behind each tab there is a stop
stop_of_tab : (z b n : ℕ) (xs : List ℕ) (i : ℕ) → i < length xs → is_tab (get_or xs i 0) ≡ true →
    (s : Stop) × Contains (stops_behind z b n xs) s × (s.position ≡ b + i + 1)
stop_of_tab z b n [] i l t = absurd (omega (arith, l))
stop_of_tab z b n (c ∷ cs) zero l t =
    let here : Stop = record { position = b + 1; column = columns_with z n c + 1 } in
    let whole : stops_behind z b n (c ∷ cs) ≡ here ∷ stops_behind z (b + 1) (columns_with z n c) cs = rw t refl in
    (here, rw whole (contains_first here (stops_behind z (b + 1) (columns_with z n c) cs)), omega arith)
stop_of_tab z b n (c ∷ cs) (suc i) l t =
    let r = stop_of_tab z (b + 1) (columns_with z n c) cs i (omega (arith, l)) t in (
      r.0,
      (elim (is_tab c) as
          (λ v. Contains (cond v (record { position = b + 1; column = columns_with z n c + 1 } ∷ stops_behind z (b + 1) (columns_with z n c) cs)
          (stops_behind z (b + 1) (columns_with z n c) cs)) r.0) [
            | true ↦ contains_later _ (stops_behind z (b + 1) (columns_with z n c) cs) r.0 r.1
            | false ↦ r.1
          ]),
      omega (arith, r.2),
    )

-- one stop before others that rise
rise_after : (x : Stop) (rest : List Stop) → ((s : Stop) → Contains rest s → x.position ≤ s.position) →
    IsNonDecreasingBy (λ (s : Stop). s.position) rest → IsNonDecreasingBy (λ (s : Stop). s.position) (x ∷ rest)
rise_after x rest h up zero zero d m n = omega arith
rise_after x rest h up zero (suc j) d m n = h (get_or rest j d) (Contains-get_or rest j d (omega (arith, n)))
rise_after x rest h up (suc i) zero d m n = absurd (omega arith)
rise_after x rest h up (suc i) (suc j) d m n = up i j d (omega (arith, m)) (omega (arith, n))

-- the stops rise
pub stops_rise : (z b n : ℕ) (xs : List ℕ) → IsNonDecreasingBy (λ (s : Stop). s.position) (stops_behind z b n xs)
stops_rise z b n [] = λ i j d m l. absurd (omega (arith, l))
stops_rise z b n (c ∷ cs) =
    let here : Stop = record { position = b + 1; column = columns_with z n c + 1 } in
    let rest = stops_behind z (b + 1) (columns_with z n c) cs in
    (elim (is_tab c) as (λ v. IsNonDecreasingBy (λ (s : Stop). s.position) (cond v (here ∷ rest) rest)) [
      | true ↦
          rise_after here rest
          (λ s k. let r = stop_column z (b + 1) (columns_with z n c) cs s k in omega (arith, r.0))
          (stops_rise z (b + 1) (columns_with z n c) cs)
      | false ↦ stops_rise z (b + 1) (columns_with z n c) cs
    ])

counted : (c : ℕ) (cs : List ℕ) → count_by is_tab (c ∷ cs) ≡ cond (is_tab c) 1 0 + count_by is_tab cs
counted c cs = sum_by-cons (λ x. cond (is_tab x) 1 0) c cs

-- there are as many stops as tabs
pub stops_long : (z b n : ℕ) (xs : List ℕ) → length (stops_behind z b n xs) ≡ count_by is_tab xs
stops_long z b n [] = refl
stops_long z b n (c ∷ cs) =
    let r = stops_long z (b + 1) (columns_with z n c) cs in
    (elim (is_tab c) as
    (λ v. length (cond v (record { position = b + 1; column = columns_with z n c + 1 } ∷ stops_behind z (b + 1) (columns_with z n c) cs)
    (stops_behind z (b + 1) (columns_with z n c) cs)) ≡ cond v 1 0 + count_by is_tab cs) [
      | true ↦ omega (arith, r)
      | false ↦ omega (arith, r)
    ]) ∙
    sym (counted c cs)

le : (a b : ℕ) → leb a b ≡ true → a ≤ b
le a b e = grind (arith, nat_tests)

gt : (a b : ℕ) → leb a b ≡ false → b < a
gt a b e = grind (arith, nat_tests)

-- a partition point splits the stops into those up to a position and those behind it
pub stop_split : (stops : List Stop) (p k : ℕ) → k ≤ length stops →
    IsPartitionPoint (λ (s : Stop). leb s.position p ≡ true) (λ (s : Stop). leb s.position p ≡ false) stops k → IsStopSplit stops p k
stop_split stops p k within h =
    record {
      within = within;
      front = λ i d l. le (get_or stops i d).position p (h.0 i d (omega arith) l);
      back = λ i d f l. gt (get_or stops i d).position p (h.1 i d f l);
    }

-- where no stop is up to a position, the start is the last place
pub none_up_to : (stops : List Stop) (p : ℕ) (start : Stop) → IsStopSplit stops p 0 → IsLastUpTo stops p start start
none_up_to stops p start s =
    record {
      onward = omega arith;
      before = λ h. h;
      known = inl refl;
      last = λ other k h. let b = s.back k.0 other (omega arith) k.1 in absurd (omega (arith, b, h, ap (λ (t : Stop). t.position) k.2));
    }

-- no stop up to a position is greater than the last one
up_to_last : (stops : List Stop) (p k : ℕ) (stop : Stop) → IsNonDecreasingBy (λ (s : Stop). s.position) stops →
    IsStopSplit stops p k → 0 < k → stop ≡ get_or stops (k - 1) stop → (other : Stop) → Contains stops other →
    other.position ≤ p → other.position ≤ stop.position
up_to_last stops p k stop up s some e other c l = by (leb k c.0) refl
  where
    at : (get_or stops c.0 other).position ≡ other.position
    at = ap (λ (t : Stop). t.position) c.2

    there : k - 1 < length stops → (get_or stops (k - 1) other).position ≡ stop.position
    there h = ap (λ (t : Stop). t.position) (get_or_default stops (k - 1) other stop h ∙ sym e)

    by : (v : Bool) → leb k c.0 ≡ v → other.position ≤ stop.position
    by true t = let b = s.back c.0 other (le k c.0 t) c.1 in absurd (omega (arith, b, l, at))
    by false t =
        let h : k - 1 < length stops = omega (arith, s.within, some) in
        let r = up c.0 (k - 1) other (omega (arith, gt k c.0 t)) h in omega (arith, r, at, there h)

-- where the last stop up to a position is before the start, the start is the last place
pub start_is_last : (stops : List Stop) (p k : ℕ) (start stop : Stop) → IsNonDecreasingBy (λ (s : Stop). s.position) stops →
    IsStopSplit stops p k → 0 < k → stop ≡ get_or stops (k - 1) stop → stop.position < start.position →
    IsLastUpTo stops p start start
start_is_last stops p k start stop up s some e h =
    record {
      onward = omega arith;
      before = λ l. l;
      known = inl refl;
      last = λ other c l. let r = up_to_last stops p k stop up s some e other c l in omega (arith, r, h);
    }

-- else it is the stop
pub stop_is_last : (stops : List Stop) (p k : ℕ) (start stop : Stop) → IsNonDecreasingBy (λ (s : Stop). s.position) stops →
    IsStopSplit stops p k → 0 < k → stop ≡ get_or stops (k - 1) stop → start.position ≤ stop.position →
    IsLastUpTo stops p start stop
stop_is_last stops p k start stop up s some e h =
    let within : k - 1 < length stops = omega (arith, s.within, some) in
    let at : (get_or stops (k - 1) stop).position ≡ stop.position = ap (λ (t : Stop). t.position) (sym e) in
    record {
      onward = h;
      before = λ l. omega (arith, s.front (k - 1) stop (omega (arith, some)), at);
      known = inr (k - 1, within, sym e);
      last = up_to_last stops p k stop up s some e;
    }

member_at : (starts : List ℕ) (i s : ℕ) → i < length starts → s ≡ get_or starts i s → Contains starts s
member_at starts i s l e = (i, l, sym e)

-- a start of a line is 0, or in column 1 behind a line feed
start_is_first : (z : ℕ) (xs : List ℕ) (s : ℕ) → Contains (line_starts xs) s → since_line_feed z 0 (take s xs) ≡ 0
start_is_first z xs s c =
    ⊎_elim (λ e. subst (λ (t : ℕ). since_line_feed z 0 (take t xs) ≡ 0) e refl)
    (λ k. let same : s - 0 ≡ s = omega arith in let r = start_column z 0 0 xs s k in subst (λ (t : ℕ). since_line_feed z 0 (take t xs) ≡ 0) same r.1)
    (in_rest 0 (starts_behind 0 xs) s c)

-- no line feed stands between the last start up to a position and the position
no_feed : (xs starts : List ℕ) (p k start : ℕ) → starts ≡ line_starts xs → p ≤ length xs → IsSplitAt starts p k → 0 < k →
    start ≡ get_or starts (k - 1) start → (i : ℕ) → start ≤ i → i < p → is_line_feed (get_or xs i 0) ≡ false
no_feed xs starts p k start e l s some read i h m = by (is_line_feed (get_or xs i 0)) refl
  where
    by : (v : Bool) → is_line_feed (get_or xs i 0) ≡ v → v ≡ false
    by false t = refl
    by true t =
        let c : Contains starts (0 + i + 1) =
        subst (λ (z : List ℕ). Contains z (0 + i + 1)) (sym e)
        (contains_later 0 (starts_behind 0 xs) (0 + i + 1) (start_of_feed 0 xs i (omega (arith, m, l)) t)) in
        absurd (late (leb k c.0) c refl)
      where
        late : (v : Bool) → (c : Contains starts (0 + i + 1)) → leb k c.0 ≡ v → ⊥
        late true c t =
            let b = s.back c.0 (le k c.0 t) c.1 in
            let at : get_or starts c.0 0 ≡ 0 + i + 1 = get_or_default starts c.0 0 (0 + i + 1) c.1 ∙ c.2 in
            omega (arith, b, at, m)
        late false c t =
            let within : k - 1 < length starts = omega (arith, s.within, some) in
            let r = starts_rise xs starts e c.0 (k - 1) 0 (omega (arith, gt k c.0 t)) within in
            let at : get_or starts c.0 0 ≡ 0 + i + 1 = get_or_default starts c.0 0 (0 + i + 1) c.1 ∙ c.2 in
            let last : get_or starts (k - 1) 0 ≡ start = get_or_default starts (k - 1) 0 start within ∙ sym read in
            omega (arith, r, at, last, h)

-- the last start or stop up to a position is a place from which columns go on by ones
pub mark_from : (text : Input) (starts : List ℕ) (stops : List Stop) (p k start : ℕ) (mark : Stop) →
    starts ≡ line_starts text.characters → stops ≡ tab_stops text → p ≤ length text.characters → IsSplitAt starts p k →
    start ≡ get_or starts (k - 1) start → IsLastUpTo stops p (record { position = start; column = 1 }) mark → IsMark text p mark
mark_from text starts stops p zero start mark e f l s read u =
    let t : IsSplitAt (line_starts text.characters) p 0 = subst (λ (z : List ℕ). IsSplitAt z p 0) e s in
    absurd (omega (arith, t.back 0 (omega arith) (omega arith)))
mark_from text starts stops p (suc k) start mark e f l s read u =
    record {
      before = u.before up_to;
      column = ⊎_elim from_start from_stop u.known;
      no_line_feed = λ i h m.
          no_feed text.characters starts p (suc k) start e l s (omega arith) read i (omega (arith, u.onward, h)) m;
      no_tab = λ i h m. free i h m (is_tab (get_or text.characters i 0)) refl;
    }
  where
    within : suc k - 1 < length starts
    within = omega (arith, s.within)

    up_to : start ≤ p
    up_to = omega (arith, s.front (suc k - 1) (omega arith), get_or_default starts (suc k - 1) 0 start within, read)

    from_start : mark ≡ record { position = start; column = 1 } → mark.column ≡ column_of text mark.position
    from_start h =
        let c : Contains (line_starts text.characters) start =
        subst (λ (z : List ℕ). Contains z start) e (member_at starts (suc k - 1) start within read) in
        let first = start_is_first text.tabs text.characters start c in
        rw h (ap (λ n. n + 1) (sym first))

    from_stop : Contains stops mark → mark.column ≡ column_of text mark.position
    from_stop c =
        let r =
        stop_column text.tabs 0 0 text.characters mark (subst (λ (z : List Stop). Contains z mark) f c) in
        let same : mark.position - 0 ≡ mark.position = omega arith in
        sym (subst (λ (k : ℕ). since_line_feed text.tabs 0 (take k text.characters) + 1 ≡ mark.column) same r.1)

    free : (i : ℕ) → mark.position ≤ i → i < p → (v : Bool) → is_tab (get_or text.characters i 0) ≡ v → v ≡ false
    free i h m false t = refl
    free i h m true t =
        let r = stop_of_tab text.tabs 0 0 text.characters i (omega (arith, m, l)) t in
        let c : Contains stops r.0 = subst (λ (z : List Stop). Contains z r.0) (sym f) r.1 in
        absurd (omega (arith, u.last r.0 c (omega (arith, r.2, m)), r.2, h))

-- the column of a position from that of its mark
pub column_is : (text : Input) (p : ℕ) (mark : Stop) → p ≤ length text.characters → IsMark text p mark →
    mark.column + (p - mark.position) ≡ column_of text p
column_is text p mark l m =
    let r = columns_on text.tabs 0 text.characters mark.position p m.before l m.no_line_feed m.no_tab in
    omega (arith, r, m.column)

-- columns are few enough for a number of 32 bits
pub column_few : (text : Input) (p : ℕ) → IsTabWidth text.tabs → p ≤ length text.characters →
    column_of text p ≤ most_tabs * length text.characters + 1
column_few text p w l =
    omega (arith, since_few text.tabs 0 (take p text.characters) w, length-take p text.characters)
