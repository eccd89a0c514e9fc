-- A pair with its values where a symbol stands, and how it changes under marks, along a sequence and inside a list.
use Rattle.std.proofs.Common.{◌≡◌, ◌≢◌, ◌≤◌, ◌∙◌, ℕ, Bool, true, false, List, [], ◌∷◌, ◌++◌, map, length, Option, Some, None, refl, sym, ap, ap₂, subst, arith, pos}
use Rattle.std.proofs.lemmas.List.{map-append}
use Rattle.ig_text.specs.Input.{Input}
use Rattle.ig_text.specs.Lines.{column_of}
use Rattle.ig_expr.specs.Expression.{Expression}
use Rattle.ig_expr.specs.Evaluation.{with_two}
use Rattle.ig_expr.specs.Blocks.{outer}
use Rattle.ig_expr.specs.Operations.{integer}
use Rattle.ig_expr.specs.declared.value.Value.{Value}
use Rattle.ig_expr.specs.declared.value.Value.TheVariants as value
use Rattle.ig_grammar.specs.Binding.{Binding}
use Rattle.ig_meaning.specs.Environment.{Environment, HasValue, HaveValues, no_values, next_value, with_value, replaced}
use Rattle.ig_blocks_parts.specs.Allowed.{start_value, IsBefore, outer_column}
use Rattle.ig_blocks_parts.specs.Setting.{Setting, Pair, lacking, carried, opened, cleared, m_of, f_of, opened_by, cleared_by, inner, pair_bindings, column_bindings, column_here}
use Rattle.ig_blocks_parts.proofs.Reading.{AreApart, BindingsRead, IsSteady, get, Agree, Keep}
use Rattle.ig_blocks_parts.proofs.Columns.{outer_is, column_within}
use Rattle.ig_blocks_parts.proofs.Values.{get_same, get_other, agree_replaced, keep_replaced, keep_all}

abbrev pub int : ℕ → Value
int m = value.Int (pos m)

abbrev pub start_int : Option ℕ → Value
start_int f = value.Int (start_value f)

abbrev pub pair_values : Pair → ℕ → Option ℕ → List Value
pair_values lacking m f = []
pair_values carried m f = []
pair_values (opened a b) m f = int m ∷ start_int f ∷ []
pair_values cleared m f = int m ∷ start_int f ∷ []

abbrev pub column_values : Bool → ℕ → List Value
column_values false k = []
column_values true k = int k ∷ []

some_int : (a b : ℕ) → Some (int a) ≡ Some (int b) → a ≡ b
some_int a b e = cc

start_none : (f : Option ℕ) → Some (start_int None) ≡ Some (start_int f) → f ≡ None
start_none None e = refl
start_none (Some p) e = absurd (cc)

module _ (s : Setting) (text : Input) where
  -- the pair has these values
  pub record Holds (p : Pair) (m : ℕ) (f : Option ℕ) (env : Environment) (here : ℕ) : Type 0 where
    pub column : HasValue text env here (m_of s p) (int m)
    pub start : HasValue text env here (f_of s p) (start_int f)

  -- a symbol of the source and what became of it stand at a position, each in its environment
  pub record Situated (env other : Environment) (p : Pair) (m : ℕ) (f : Option ℕ) (i : ℕ) : Type 0 where
    pub agree : Agree s env other
    pub holds : Holds p m f other i
    pub before : IsBefore f i
    pub within : i ≤ length text.characters

  before_later : (f : Option ℕ) (i h : ℕ) → i ≤ h → IsBefore f i → IsBefore f h
  before_later None i h le b = omega arith
  before_later (Some p) i h le b = omega (arith, le, b)

  holds_moved : (p : Pair) (m : ℕ) (f : Option ℕ) (env after : Environment) (i h : ℕ) → IsSteady p → Keep s env after →
      Holds p m f env i → Holds p m f after h
  holds_moved lacking m f env after i h steady keep holds = record { column = holds.column; start = holds.start }
  holds_moved carried m f env after i h steady keep holds =
      record { column = keep.keeps_m ∙ holds.column; start = keep.keeps_f ∙ holds.start }
  holds_moved (opened a b) m f env after i h steady keep holds = absurd steady
  holds_moved cleared m f env after i h steady keep holds = absurd steady

  -- further on in a sequence
  pub situated_later : (env other env2 other2 : Environment) (p : Pair) (m : ℕ) (f : Option ℕ) (i h : ℕ) → IsSteady p → i ≤ h →
      h ≤ length text.characters → Agree s env2 other2 → Keep s other other2 → Situated env other p m f i → Situated env2 other2 p m f h
  situated_later env other env2 other2 p m f i h steady le within agree keep at =
      record {
        agree = agree;
        holds = holds_moved p m f other other2 i h steady keep at.holds;
        before = before_later f i h le at.before;
        within = within;
      }

  -- directly under `offside`
  pub situated_opened : (env other : Environment) (p : Pair) (m : ℕ) (f : Option ℕ) (i : ℕ) → Situated env other p m f i →
      Situated env other (opened_by s p) (outer_column text i m f) (Some i) i
  situated_opened env other p m f i at =
      record {
        agree = at.agree;
        holds = record {
          column = ap₂ (with_two (outer text i)) at.holds.column at.holds.start ∙ outer_is text m f i at.before at.within;
          start = refl;
        };
        before = omega arith;
        within = at.within;
      }

  holds_cleared : (p : Pair) (other : Environment) (i : ℕ) → Holds (cleared_by p) 0 None other i
  holds_cleared lacking other i = record { column = refl; start = refl }
  holds_cleared carried other i = record { column = refl; start = refl }
  holds_cleared (opened a b) other i = record { column = refl; start = refl }
  holds_cleared cleared other i = record { column = refl; start = refl }

  -- directly under `ignore`
  pub situated_cleared : (env other : Environment) (p : Pair) (m : ℕ) (f : Option ℕ) (i : ℕ) → Situated env other p m f i →
      Situated env other (cleared_by p) 0 None i
  situated_cleared env other p m f i at =
      record { agree = at.agree; holds = holds_cleared p other i; before = omega arith; within = at.within }

  -- without a pair, and under `ignore`, the values are 0 and -1
  pub lacking_values : (m : ℕ) (f : Option ℕ) (other : Environment) (i : ℕ) → Holds lacking m f other i → (m ≡ 0) × (f ≡ None)
  lacking_values m f other i h = (sym (some_int 0 m h.column), start_none f h.start)

  pub cleared_values : (m : ℕ) (f : Option ℕ) (other : Environment) (i : ℕ) → Holds cleared m f other i → (m ≡ 0) × (f ≡ None)
  cleared_values m f other i h = (sym (some_int 0 m h.column), start_none f h.start)

  pub have_append : (env : Environment) (here : ℕ) {es : List Expression} {vs : List Value} (ds : List Expression) (ws : List Value) →
      HaveValues text env here es vs → HaveValues text env here ds ws → HaveValues text env here (es ++ ds) (vs ++ ws)
  have_append env here ds ws no_values b = b
  have_append env here ds ws (next_value e es v vs has rest) b = next_value e (es ++ ds) v (vs ++ ws) has (have_append env here ds ws rest b)

  -- the values of added expressions behind those of others
  pub record Splits (env : Environment) (here : ℕ) (es ds : List Expression) (vs : List Value) : Type 0 where
    pub first : List Value
    pub others : List Value
    pub have_first : HaveValues text env here es first
    pub have_others : HaveValues text env here ds others
    pub joined : vs ≡ first ++ others

  pub have_split : (env : Environment) (here : ℕ) (es ds : List Expression) (vs : List Value) →
      HaveValues text env here (es ++ ds) vs → Splits env here es ds vs
  have_split env here [] ds vs h = record { first = []; others = vs; have_first = no_values; have_others = h; joined = refl }
  have_split env here (e ∷ es) ds [] h = elim h [ ]
  have_split env here (e ∷ es) ds (v ∷ vs) (next_value e2 es2 v2 vs2 has rest) =
      let k = have_split env here es ds vs rest in
      record { first = v ∷ k.first; others = k.others; have_first = next_value e es v k.first has k.have_first; have_others = k.have_others; joined = λ z. v ∷ k.joined z }

  pub have_same : (env : Environment) (here : ℕ) {es : List Expression} {vs : List Value} (ws : List Value) →
      HaveValues text env here es vs → HaveValues text env here es ws → vs ≡ ws
  have_same env here ws no_values no_values = refl
  have_same env here ws (next_value e es v vs has rest) (next_value e2 es2 w ws2 has2 rest2) =
      let same : v ≡ w = cc in
      let others : vs ≡ ws2 = have_same env here ws2 rest rest2 in
      λ z. same z ∷ others z

  replaced_append : (env : Environment) (here : ℕ) (home : Environment) (bs cs : List Binding) (vs ws : List Value) →
      HaveValues text env here (map (λ b. b.value) bs) vs → replaced home (bs ++ cs) (vs ++ ws) ≡ replaced (replaced home bs vs) cs ws
  replaced_append env here home [] cs [] ws h = refl
  replaced_append env here home [] cs (v ∷ vs) ws h = elim h [ ]
  replaced_append env here home (b ∷ bs) cs [] ws h = elim h [ ]
  replaced_append env here home (b ∷ bs) cs (v ∷ vs) ws (next_value e es v2 vs2 has rest) =
      replaced_append env here (with_value home b.name v) bs cs vs ws rest

  pub pair_values_had : (p : Pair) (m : ℕ) (f : Option ℕ) (other : Environment) (i : ℕ) → Holds p m f other i →
      HaveValues text other i (map (λ b. b.value) (pair_bindings s p)) (pair_values p m f)
  pair_values_had lacking m f other i h = no_values
  pair_values_had carried m f other i h = no_values
  pair_values_had (opened a b) m f other i h = next_value a (b ∷ []) (int m) (start_int f ∷ []) h.column (next_value b [] (start_int f) [] h.start no_values)
  pair_values_had cleared m f other i h =
      next_value (m_of s cleared) (f_of s cleared ∷ []) (int m) (start_int f ∷ []) h.column (next_value (f_of s cleared) [] (start_int f) [] h.start no_values)

  pub column_value_had : (al : Bool) (other : Environment) (i : ℕ) → i ≤ length text.characters →
      HaveValues text other i (map (λ b. b.value) (column_bindings s al)) (column_values al (column_of text i))
  column_value_had false other i within = no_values
  column_value_had true other i within =
      next_value column_here [] (int (column_of text i)) [] (ap integer (column_within text i within)) no_values

  -- whether the column of an aligned list is bound
  abbrev pub HasColumn : Bool → Environment → ℕ → Type 0
  HasColumn false other k = Unit {0}
  HasColumn true other k = get other s.c ≡ Some (int k)

  column_kept : (al : Bool) (other : Environment) (k : ℕ) → (x : List ℕ) → s.c ≢ x →
      get (replaced other (column_bindings s al) (column_values al k)) x ≡ get other x
  column_kept false other k x ne = refl
  column_kept true other k x ne = get_other other s.c (int k) x ne

  column_bound : (al : Bool) (other : Environment) (k : ℕ) → HasColumn al (replaced other (column_bindings s al) (column_values al k)) k
  column_bound false other k = tt
  column_bound true other k = get_same other s.c (int k)

  module _ (apart : AreApart s) where
    abbrev with_pair : Environment → ℕ → Option ℕ → Environment
    with_pair other m f = with_value (with_value other s.m (int m)) s.f (start_int f)

    agree_pair : (env other : Environment) (m : ℕ) (f : Option ℕ) → Agree s env other → Agree s env (with_pair other m f)
    agree_pair env other m f a =
        record { same = λ x w. a.same x w ∙ sym (get_other (with_value other s.m (int m)) s.f (start_int f) x (λ e. w.not_f (sym e)) ∙ get_other other s.m (int m) x (λ e. w.not_m (sym e))) }

    holds_pair : (other : Environment) (m : ℕ) (f : Option ℕ) (i : ℕ) → Holds carried m f (with_pair other m f) i
    holds_pair other m f i =
        record {
          column = get_other (with_value other s.m (int m)) s.f (start_int f) s.m (λ e. apart.m_f (sym e)) ∙ get_same other s.m (int m);
          start = get_same (with_value other s.m (int m)) s.f (start_int f);
        }

    -- inside a list, an option or a group, behind other bindings
    inside_pair : (env other home : Environment) (p : Pair) (m : ℕ) (f : Option ℕ) (i : ℕ) → Agree s env home → Keep s other home →
        IsBefore f i → i ≤ length text.characters → Holds p m f other i →
        Situated env (replaced home (pair_bindings s p) (pair_values p m f)) (inner p) m f i
    inside_pair env other home lacking m f i agree keep before within holds =
        record { agree = agree; holds = record { column = holds.column; start = holds.start }; before = before; within = within }
    inside_pair env other home carried m f i agree keep before within holds =
        record { agree = agree; holds = holds_moved carried m f other home i i tt keep holds; before = before; within = within }
    inside_pair env other home (opened a b) m f i agree keep before within holds =
        record { agree = agree_pair env home m f agree; holds = holds_pair home m f i; before = before; within = within }
    inside_pair env other home cleared m f i agree keep before within holds =
        record { agree = agree_pair env home m f agree; holds = holds_pair home m f i; before = before; within = within }

    pub inner_steady : (p : Pair) → IsSteady (inner p)
    inner_steady lacking = tt
    inner_steady carried = tt
    inner_steady (opened a b) = tt
    inner_steady cleared = tt

    holds_column : (p : Pair) (al : Bool) (other : Environment) (m : ℕ) (f : Option ℕ) (i k : ℕ) → IsSteady p → Holds p m f other i →
        Holds p m f (replaced other (column_bindings s al) (column_values al k)) i
    holds_column lacking al other m f i k steady h = record { column = h.column; start = h.start }
    holds_column carried al other m f i k steady h =
        record {
          column = column_kept al other k s.m (λ e. apart.m_c (sym e)) ∙ h.column;
          start = column_kept al other k s.f (λ e. apart.f_c (sym e)) ∙ h.start;
        }
    holds_column (opened a b) al other m f i k steady h = absurd steady
    holds_column cleared al other m f i k steady h = absurd steady

    -- what stands inside a box: the pair is bound, and the column where the list is aligned
    pub record IsInside (env inside : Environment) (al : Bool) (p : Pair) (m : ℕ) (f : Option ℕ) (i : ℕ) : Type 0 where
      pub situated : Situated env inside (inner p) m f i
      pub column : HasColumn al inside (column_of text i)

    pub inside_box : (env other : Environment) (al : Bool) (p : Pair) (m : ℕ) (f : Option ℕ) (i : ℕ) → Situated env other p m f i →
        IsInside env (replaced other (pair_bindings s p ++ column_bindings s al) (pair_values p m f ++ column_values al (column_of text i))) al p m f i
    inside_box env other al p m f i at =
        let home = replaced other (pair_bindings s p) (pair_values p m f) in
        let k = column_of text i in
        let first : Situated env home (inner p) m f i = inside_pair env other other p m f i at.agree (keep_all s other) at.before at.within at.holds in
        let same : replaced other (pair_bindings s p ++ column_bindings s al) (pair_values p m f ++ column_values al k) ≡ replaced home (column_bindings s al) (column_values al k) =
        replaced_append other i other (pair_bindings s p) (column_bindings s al) (pair_values p m f) (column_values al k) (pair_values_had p m f other i at.holds) in
        let there : IsInside env (replaced home (column_bindings s al) (column_values al k)) al p m f i =
        record {
          situated = record {
            agree = record { same = λ x w. first.agree.same x w ∙ sym (column_kept al home k x (λ e. w.not_c (sym e))) };
            holds = holds_column (inner p) al home m f i k (inner_steady p) first.holds;
            before = at.before;
            within = at.within;
          };
          column = column_bound al home k;
        } in
        subst (λ z. IsInside env z al p m f i) (sym same) there

    -- the values of the bindings of a box
    pub box_values : (other : Environment) (al : Bool) (p : Pair) (m : ℕ) (f : Option ℕ) (i : ℕ) → i ≤ length text.characters → Holds p m f other i →
        HaveValues text other i (map (λ b. b.value) (pair_bindings s p ++ column_bindings s al)) (pair_values p m f ++ column_values al (column_of text i))
    box_values other al p m f i within holds =
        subst (λ es. HaveValues text other i es (pair_values p m f ++ column_values al (column_of text i))) (sym (map-append (λ b. b.value) (pair_bindings s p) (column_bindings s al)))
        (have_append other i (map (λ b. b.value) (column_bindings s al)) (column_values al (column_of text i)) (pair_values_had p m f other i holds) (column_value_had al other i within))

    -- inside an entry of the source
    pub inside_entry : (env other : Environment) (bs : List Binding) (vs : List Value) (p : Pair) (m : ℕ) (f : Option ℕ) (i : ℕ) →
        BindingsRead s bs → HaveValues text other i (map (λ b. b.value) bs) vs → Situated env other p m f i →
        Situated (replaced env bs vs) (replaced other (bs ++ pair_bindings s p) (vs ++ pair_values p m f)) (inner p) m f i
    inside_entry env other bs vs p m f i read have at =
        subst (λ z. Situated (replaced env bs vs) z (inner p) m f i) (sym (replaced_append other i other bs (pair_bindings s p) vs (pair_values p m f) have))
        (inside_pair (replaced env bs vs) other (replaced other bs vs) p m f i (agree_replaced s bs vs env other at.agree) (keep_replaced s bs vs other read) at.before at.within at.holds)
