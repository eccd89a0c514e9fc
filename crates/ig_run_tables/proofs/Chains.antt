-- Cells in chains, by their buckets.
use Rattle.std.proofs.Common.{◌≡◌, ℕ, zero, suc, ◌+◌, ◌-◌, ◌<◌, ◌≤◌, ◌≢◌, List, [], ◌∷◌, ◌++◌, length, refl, sym, ap, ◌∙◌, subst, arith, Bool, true, false, nat_eq, ⊎_elim}
use Rattle.std.specs.Prelude.{slice_index_or, if◌then◌else◌}
use Rattle.std.proofs.lemmas.Bool.{eqb-true, cases_lt}
use Rattle.std.proofs.Common.{set, eqb, eq-eqb}
use Rattle.std.proofs.lemmas.List.{get_or_append_left, get_or_push, length_push, length-set, get_or-set_other}
use Rattle.std.proofs.lemmas.Grind.{get_or-set_at}
use Rattle.std.proofs.lemmas.Bool.Decides.{eqb_tells}
use Rattle.ig_text.proofs.Orders.{below_or_at}
use Rattle.ig_run_tables.specs.Chained.{last, AreChained, Walks}

-- a read within a list doesn't depend on its default
pub any_default : {X : Type 0} (xs : List X) (k : ℕ) (d e : X) → k < length xs → slice_index_or xs k d ≡ slice_index_or xs k e
any_default [] k d e lt = absurd (omega arith)
any_default (x ∷ xs) zero d e lt = refl
any_default (x ∷ xs) (suc k) d e lt = any_default xs k d e (omega arith)

module _ {C : Type 0} (bucket : C → ℕ) (none : C) where
  -- a cell is below the bound
  pub last_below : (cells : List C) (b n : ℕ) → last bucket none cells b n ≤ n
  last_below cells b zero = omega arith
  last_below cells b (suc n) =
      elim (nat_eq (bucket (slice_index_or cells n none)) b) as (λ (t : Bool). (if t then suc n else last bucket none cells b n) ≤ suc n)
      [ true ↦ omega arith | false ↦ omega (arith, last_below cells b n) ]

  -- behind the last one no cell is in the bucket
  pub none_behind : (cells : List C) (b n k : ℕ) → k < n → last bucket none cells b n ≤ k →
      nat_eq (bucket (slice_index_or cells k none)) b ≡ false
  none_behind cells b zero k lt h = absurd (omega arith)
  none_behind cells b (suc n) k lt h =
      (elim (nat_eq (bucket (slice_index_or cells n none)) b) as
      (λ (t : Bool). nat_eq (bucket (slice_index_or cells n none)) b ≡ t →
      (if t then suc n else last bucket none cells b n) ≤ k → nat_eq (bucket (slice_index_or cells k none)) b ≡ false) [
        | true ↦ λ e i. absurd (omega arith)
        | false ↦ λ e i. ⊎_elim (λ (l : k < n). none_behind cells b n k l i)
            (λ (same : k ≡ n). ap (λ (z : ℕ). nat_eq (bucket (slice_index_or cells z none)) b) same ∙ e) (below_or_at k n (omega arith))
      ]) refl h

  -- the last one is in the bucket
  pub last_in : (cells : List C) (b n k : ℕ) → last bucket none cells b n ≡ suc k →
      nat_eq (bucket (slice_index_or cells k none)) b ≡ true
  last_in cells b zero k e = cc
  last_in cells b (suc n) k e =
      (elim (nat_eq (bucket (slice_index_or cells n none)) b) as
      (λ (t : Bool). nat_eq (bucket (slice_index_or cells n none)) b ≡ t →
      (if t then suc n else last bucket none cells b n) ≡ suc k → nat_eq (bucket (slice_index_or cells k none)) b ≡ true) [
        | true ↦ λ e i. let same : k ≡ n = omega (arith, i) in
            ap (λ (z : ℕ). nat_eq (bucket (slice_index_or cells z none)) b) same ∙ e
        | false ↦ λ e i. last_in cells b n k i
      ]) refl e

  -- cells to come change nothing
  pub last_more : (cells more : List C) (b n : ℕ) → n ≤ length cells →
      last bucket none (cells ++ more) b n ≡ last bucket none cells b n
  last_more cells more b zero h = refl
  last_more cells more b (suc n) h =
      let same : slice_index_or (cells ++ more) n none ≡ slice_index_or cells n none = get_or_append_left cells more none n (omega arith) in
      ap (λ (c : C). if nat_eq (bucket c) b then suc n else last bucket none (cells ++ more) b n) same ∙
      ap (λ (z : ℕ). if nat_eq (bucket (slice_index_or cells n none)) b then suc n else z) (last_more cells more b n (omega arith))

  -- the last cell of a bucket, with one cell more
  pub last_push : (cells : List C) (c : C) (b : ℕ) →
      last bucket none (cells ++ c ∷ []) b (length (cells ++ c ∷ [])) ≡
      (if nat_eq (bucket c) b then suc (length cells) else last bucket none cells b (length cells))
  last_push cells c b =
      let n = length cells in
      let long : length (cells ++ c ∷ []) ≡ suc (length cells) = let e = length_push cells c in omega (arith, e) in
      ap (last bucket none (cells ++ c ∷ []) b) long ∙
      ap (λ (z : C). if nat_eq (bucket z) b then suc n else last bucket none (cells ++ c ∷ []) b n) (get_or_push cells c none n refl) ∙
      ap (λ (z : ℕ). if nat_eq (bucket c) b then suc n else z) (last_more cells (c ∷ []) b n (omega arith))

  head_added : (onward : ℕ → ℕ) (mask base : ℕ) (heads : List ℕ) (cells : List C) (c : C) →
      AreChained bucket none onward mask base heads cells → bucket c ≤ mask → (b : ℕ) → b ≤ mask →
      slice_index_or (set heads (bucket c) (base + length cells + 1)) b 0 - base ≡
      last bucket none (cells ++ c ∷ []) b (length (cells ++ c ∷ []))
  head_added onward mask base heads cells c are fits b le =
      let n = length cells in
      let at = bucket c in
      ⊎_elim
      (λ (h : (eqb at b ≡ true) × (at ≡ b)).
      let v : slice_index_or (set heads at (base + n + 1)) b 0 ≡ base + n + 1 = get_or-set_at heads at b (base + n + 1) 0 (sym h.1) (omega (arith, are.all, fits)) in
      let t : (if nat_eq at b then suc n else last bucket none cells b n) ≡ suc n = ap (λ (z : Bool). if z then suc n else last bucket none cells b n) h.0 in
      let l = last_push cells c b in
      omega (arith, v, t, l))
      (λ (h : (eqb at b ≡ false) × (at ≢ b)).
      let v : slice_index_or (set heads at (base + n + 1)) b 0 ≡ slice_index_or heads b 0 =
      get_or-set_other heads at b (base + n + 1) 0 (λ e. h.1 (sym e)) in
      let t : (if nat_eq at b then suc n else last bucket none cells b n) ≡ last bucket none cells b n = ap (λ (z : Bool). if z then suc n else last bucket none cells b n) h.0 in
      let l = last_push cells c b in
      let o = are.head b le in
      omega (arith, v, t, l, o))
      (eqb_tells at b)

  next_added : (onward more : ℕ → ℕ) (mask base : ℕ) (heads : List ℕ) (cells : List C) (c : C) →
      AreChained bucket none onward mask base heads cells → bucket c ≤ mask → ((k : ℕ) → k < length cells → more k ≡ onward k) →
      more (length cells) ≡ slice_index_or heads (bucket c) 0 → (k : ℕ) → k < length (cells ++ c ∷ []) →
      more k - base ≡ last bucket none (cells ++ c ∷ []) (bucket (slice_index_or (cells ++ c ∷ []) k none)) k
  next_added onward more mask base heads cells c are fits kept next_is k lt =
      let n = length cells in
      ⊎_elim
      (λ (h : k < n).
      let same : slice_index_or (cells ++ c ∷ []) k none ≡ slice_index_or cells k none = get_or_append_left cells (c ∷ []) none k h in
      subst (λ (z : C). more k - base ≡ last bucket none (cells ++ c ∷ []) (bucket z) k) (sym same)
      (ap (λ (m : ℕ). m - base) (kept k h) ∙ are.next k h ∙ sym (last_more cells (c ∷ []) (bucket (slice_index_or cells k none)) k (omega arith))))
      (λ (e : k ≡ n).
      let same : slice_index_or (cells ++ c ∷ []) k none ≡ c = get_or_push cells c none k (sym e) in
      subst (λ (z : C). more k - base ≡ last bucket none (cells ++ c ∷ []) (bucket z) k) (sym same)
      (subst (λ (m : ℕ). more m - base ≡ last bucket none (cells ++ c ∷ []) (bucket c) m) (sym e)
      (ap (λ (m : ℕ). m - base) next_is ∙ are.head (bucket c) fits ∙ sym (last_more cells (c ∷ []) (bucket c) n (omega arith)))))
      (below_or_at k n (let e = length_push cells c in omega (arith, e)))

  within_added : (onward : ℕ → ℕ) (mask base : ℕ) (heads : List ℕ) (cells : List C) (c : C) →
      AreChained bucket none onward mask base heads cells → bucket c ≤ mask → (b : ℕ) → b ≤ mask →
      slice_index_or (set heads (bucket c) (base + length cells + 1)) b 0 ≤ base + length (cells ++ c ∷ [])
  within_added onward mask base heads cells c are fits b le =
      let n = length cells in
      let at = bucket c in
      let long = length_push cells c in
      ⊎_elim
      (λ (h : (eqb at b ≡ true) × (at ≡ b)).
      let v : slice_index_or (set heads at (base + n + 1)) b 0 ≡ base + n + 1 = get_or-set_at heads at b (base + n + 1) 0 (sym h.1) (omega (arith, are.all, fits)) in
      omega (arith, v, long))
      (λ (h : (eqb at b ≡ false) × (at ≢ b)).
      let v : slice_index_or (set heads at (base + n + 1)) b 0 ≡ slice_index_or heads b 0 =
      get_or-set_other heads at b (base + n + 1) 0 (λ e. h.1 (sym e)) in
      let w = are.within b le in
      omega (arith, v, long, w))
      (eqb_tells at b)

  -- a cell is added, which names the last one of its bucket
  pub added : (onward more : ℕ → ℕ) (mask base : ℕ) (heads : List ℕ) (cells : List C) (c : C) →
      AreChained bucket none onward mask base heads cells → bucket c ≤ mask → ((k : ℕ) → k < length cells → more k ≡ onward k) →
      more (length cells) ≡ slice_index_or heads (bucket c) 0 →
      AreChained bucket none more mask base (set heads (bucket c) (base + length cells + 1)) (cells ++ c ∷ [])
  added onward more mask base heads cells c are fits kept next_is =
      record {
        head = head_added onward mask base heads cells c are fits;
        next = next_added onward more mask base heads cells c are fits kept next_is;
        within = within_added onward mask base heads cells c are fits;
        all = let l = length-set heads (bucket c) (base + length cells + 1) in omega (arith, l, are.all);
      }

  module _ {K : Type 0} (key_of : C → K) (key : K) (home : ℕ) (is_home : (c : C) → key_of c ≡ key → bucket c ≡ home) where
    -- a cell of another bucket hasn't the key
    other : (cells : List C) (m : ℕ) → nat_eq (bucket (slice_index_or cells m none)) home ≡ false →
        key_of (slice_index_or cells m none) ≡ key → ⊥
    other cells m f is =
        let t : eqb (bucket (slice_index_or cells m none)) home ≡ true =
        eq-eqb (bucket (slice_index_or cells m none)) home (is_home (slice_index_or cells m none) is) in
        cc (f, t)

    -- what a walk has passed: between a cell and the one that it names no cell has the key
    walks : (onward : ℕ → ℕ) (mask base : ℕ) (heads : List ℕ) (cells : List C) (k : ℕ) → AreChained bucket none onward mask base heads cells →
        k < length cells → bucket (slice_index_or cells k none) ≡ home → (m : ℕ) →
        onward k - base ≤ m → m < k → key_of (slice_index_or cells m none) ≡ key → ⊥
    walks onward mask base heads cells k are lt same m behind before is =
        let n : last bucket none cells home k ≤ m =
        subst (λ (z : ℕ). last bucket none cells z k ≤ m) same (let e = are.next k lt in omega (arith, e, behind)) in
        other cells m (none_behind cells home k m before n) is

    -- the walk from a head
    pub walk_starts : (onward : ℕ → ℕ) (mask base : ℕ) (heads : List ℕ) (cells : List C) (at : ℕ) →
        AreChained bucket none onward mask base heads cells → home ≤ mask → at ≡ slice_index_or heads home 0 →
        Walks bucket none key_of base cells key home at
    walk_starts onward mask base heads cells at are le at_is =
        let first : at - base ≡ last bucket none cells home (length cells) = ap (λ (z : ℕ). z - base) at_is ∙ are.head home le in
        record {
          passed = λ m behind lt is. other cells m (none_behind cells home (length cells) m lt (omega (arith, first, behind))) is;
          within = let l = last_below cells home (length cells) in omega (arith, first, l);
          in_bucket = λ k e. eqb-true (bucket (slice_index_or cells k none)) home (last_in cells home (length cells) k (sym first ∙ e));
        }

    -- the walk goes on from a cell that hasn't the key
    pub walk_goes : (onward : ℕ → ℕ) (mask base : ℕ) (heads : List ℕ) (cells : List C) (at k : ℕ) →
        AreChained bucket none onward mask base heads cells → Walks bucket none key_of base cells key home at → at - base ≡ suc k →
        (key_of (slice_index_or cells k none) ≡ key → ⊥) → Walks bucket none key_of base cells key home (onward k)
    walk_goes onward mask base heads cells at k are w at_is not_here =
        let within : k < length cells = omega (arith, w.within, at_is) in
        let same : bucket (slice_index_or cells k none) ≡ home = w.in_bucket k at_is in
        let named = are.next k within in
        let below = last_below cells (bucket (slice_index_or cells k none)) k in
        record {
          passed = λ m behind m_lt is.
              ⊎_elim
              (λ (h : m < suc k).
              ⊎_elim (λ (i : m < k). walks onward mask base heads cells k are within same m behind i is)
              (λ (e : m ≡ k). not_here (subst (λ (z : ℕ). key_of (slice_index_or cells z none) ≡ key) e is))
              (below_or_at m k (omega arith)))
              (λ (h : suc k ≤ m). w.passed m (omega (arith, at_is, h)) m_lt is)
              (cases_lt m (suc k));
          within = omega (arith, named, below, within);
          in_bucket = λ j e.
              let last_is : last bucket none cells home k ≡ suc j =
              subst (λ (z : ℕ). last bucket none cells z k ≡ suc j) same (sym named ∙ e) in
              eqb-true (bucket (slice_index_or cells j none)) home (last_in cells home k j last_is);
        }

  -- each cell names one before it
  pub walk_smaller : (onward : ℕ → ℕ) (mask base : ℕ) (heads : List ℕ) (cells : List C) (k : ℕ) →
      AreChained bucket none onward mask base heads cells → k < length cells → onward k - base ≤ k
  walk_smaller onward mask base heads cells k are within =
      let named = are.next k within in
      let below = last_below cells (bucket (slice_index_or cells k none)) k in
      omega (arith, named, below)
