-- Each occurrence has its partner.
use Rattle.std.proofs.Common.{◌≡◌, ℕ, Bool, true, false, List, [], ◌∷◌, ◌++◌, refl, sym, ◌∙◌, ap, subst, cond, Option, Some, None, append_assoc}
use Rattle.std.specs.Prelude.{◌≢◌}
use Rattle.ig_expr.specs.Expression.{Expression, Integer, Truth, Here, Variable, Not, Negative, Binary, Of, Same, Spells, Outer, Inside, FreeBefore, FreeAfter}
use Rattle.ig_expr.specs.Names.{look_up}
use Rattle.ig_text.specs.Words.{is_word}
use Rattle.ig_text.proofs.Positions.{beside-cons}
use Rattle.ig_text.proofs.Characters.{differs}
use Rattle.ig_expr.specs.Kinds.{of_one, of_two, kind_of_operation, argument_of}
use Rattle.ig_expr.specs.declared.kind.Kind.{Kind}
use Rattle.ig_expr.specs.declared.kind.Kind.TheVariants as kind
use Rattle.ig_grammar.specs.Binding.{Binding}
use Rattle.ig_grammar.specs.Symbol.{Symbol, Literal, OneOf, Call, Label, Guard, Let, Opt, Star, Plus, SepStar, SepPlus, Group, Offside, Ignore, Align, Filtered, Seq, Entry}
use Rattle.ig_grammar.specs.Symbol.{Symbols, no_symbols, next_symbol, Alternatives, no_alternatives, next_alternative}
use Rattle.ig_grammar.specs.Visible.{Visible, names, kinds, kind_at, bound, binds, all_bind, with_kind, replaced, Occurrence, at, inside, inside_sequence, inside_choices}
use Rattle.ig_levels.specs.Levels.{Pair, no_pair, with_pair, in_symbols, in_alternatives}
use Rattle.ig_pass.specs.Added.{left_name, right_name}
use Rattle.ig_levels.proofs.WithBounds.{IsSource, OfSource, BindingsOfSource}
use Rattle.ig_levels.proofs.Keeping.{no_pair_added}
use Rattle.ig_levels.proofs.Kinded.{bound_kinds, InsertedKinds, here, behind, PairFits, Paired, no_pairs, next_pair}
use Rattle.ig_levels.proofs.WithBounds.{Clear, SymbolsClear, AlternativesClear}

abbrev pub find : Visible → List ℕ → Option Kind
find v x = look_up (names v) (kinds v) x

pub find_cons : (n : List ℕ) (k : Kind) (rest : Visible) (x : List ℕ) → find ((n, k) ∷ rest) x ≡ cond (is_word n x) (Some k) (find rest x)
find_cons n k rest x =
    beside-cons (λ z. is_word z x) n (names rest) k (kinds rest)

pub find_next : (n : List ℕ) (k : Kind) (rest : Visible) (x : List ℕ) → n ≢ x → find ((n, k) ∷ rest) x ≡ find rest x
find_next n k rest x other = find_cons n k rest x ∙ ap (λ b. cond b (Some k) (find rest x)) (differs n x other)

past_bounds : (m : Bool) (rest : Visible) (x : List ℕ) → IsSource x → find (bound_kinds m ++ rest) x ≡ find rest x
past_bounds false rest x s = refl
past_bounds true rest x s =
    find_next left_name kind.Int ((right_name, kind.Int) ∷ rest) x (λ e. s.not_left (sym e)) ∙ find_next right_name kind.Int rest x (λ e. s.not_right (sym e))

pub same_found : {m : Bool} {v w : Visible} → InsertedKinds m v w → (x : List ℕ) → IsSource x → find w x ≡ find v x
same_found {m = m} (here rest v e) x s = ap (λ z. find z x) e ∙ past_bounds m rest x s
same_found (behind name k rest v source ins) x s =
    find_cons name k v x ∙ ap (cond (is_word name x) (Some k)) (same_found ins x s) ∙ sym (find_cons name k rest x)

pub same_kind : (e : Expression) {m : Bool} {v w : Visible} → InsertedKinds m v w → OfSource e → kind_at w e ≡ kind_at v e
same_kind (Integer n) ins s = refl
same_kind (Truth b) ins s = refl
same_kind Here ins s = refl
same_kind (Variable x) ins s = same_found ins x s
same_kind (Not a) ins s = ap (of_one kind.Bool kind.Bool) (same_kind a ins s)
same_kind (Negative a) ins s = ap (of_one kind.Int kind.Int) (same_kind a ins s)
same_kind (Binary op a b) ins s = λ z. kind_of_operation op (same_kind a ins s.0 z) (same_kind b ins s.1 z)
same_kind (Of f a) ins s = ap (of_one (argument_of f) kind.Int) (same_kind a ins s)
same_kind (Same a b) ins s = λ z. of_two kind.Span kind.Bool (same_kind a ins s.0 z) (same_kind b ins s.1 z)
same_kind (Spells a word) ins s = ap (of_one kind.Span kind.Bool) (same_kind a ins s)
same_kind (Outer a b) ins s = λ z. of_two kind.Int kind.Int (same_kind a ins s.0 z) (same_kind b ins s.1 z)
same_kind (Inside a b) ins s = λ z. of_two kind.Int kind.Bool (same_kind a ins s.0 z) (same_kind b ins s.1 z)
same_kind (FreeBefore pattern) ins s = refl
same_kind (FreeAfter pattern) ins s = refl

pub appended : {m : Bool} {v w : Visible} → InsertedKinds m v w → (xs : Visible) → InsertedKinds m (v ++ xs) (w ++ xs)
appended {m = m} (here rest v e) xs = here (rest ++ xs) (v ++ xs) (ap (λ z. z ++ xs) e ∙ append_assoc (bound_kinds m) rest xs)
appended (behind name k rest v source ins) xs = behind name k (rest ++ xs) (v ++ xs) source (appended ins xs)

past_new : (m : Bool) (rest : Visible) (name : List ℕ) (k : Kind) → IsSource name →
    with_kind (bound_kinds m ++ rest) name (Some k) ≡ bound_kinds m ++ with_kind rest name (Some k)
past_new false rest name k s = refl
past_new true rest name k s =
    let p : is_word left_name name ≡ false = differs left_name name (λ e. s.not_left (sym e)) in
    let q : is_word right_name name ≡ false = differs right_name name (λ e. s.not_right (sym e)) in
    rw (p, q) refl

renewed_some : {m : Bool} {v w : Visible} → InsertedKinds m v w → (name : List ℕ) (k : Kind) → IsSource name →
    InsertedKinds m (with_kind v name (Some k)) (with_kind w name (Some k))
renewed_some {m = m} (here rest v e) name k s =
    here (with_kind rest name (Some k)) (with_kind v name (Some k)) (ap (λ z. with_kind z name (Some k)) e ∙ past_new m rest name k s)
renewed_some {m = m} (behind n l rest v source ins) name k s = go (is_word n name) (renewed_some ins name k s)
  where
    go : (t : Bool) → InsertedKinds m (with_kind rest name (Some k)) (with_kind v name (Some k)) →
        InsertedKinds m (cond t ((name, k) ∷ rest) ((n, l) ∷ with_kind rest name (Some k))) (cond t ((name, k) ∷ v) ((n, l) ∷ with_kind v name (Some k)))
    go true below = behind name k rest v s ins
    go false below = behind n l (with_kind rest name (Some k)) (with_kind v name (Some k)) source below

renewed : {m : Bool} {v w : Visible} → InsertedKinds m v w → (name : List ℕ) (o : Option Kind) → IsSource name →
    InsertedKinds m (with_kind v name o) (with_kind w name o)
renewed ins name None s = ins
renewed ins name (Some k) s = renewed_some ins name k s

pub all_renewed : {m : Bool} (bs : List Binding) (outer_v outer_w v w : Visible) → InsertedKinds m outer_v outer_w → InsertedKinds m v w → BindingsOfSource bs →
    InsertedKinds m (replaced outer_v v bs) (replaced outer_w w bs)
all_renewed [] outer_v outer_w v w outer ins s = ins
all_renewed {m = m} (b ∷ bs) outer_v outer_w v w outer ins s =
    all_renewed bs outer_v outer_w (with_kind v b.name (kind_at outer_v b.value)) (with_kind w b.name (kind_at outer_w b.value)) outer
    (subst (λ o. InsertedKinds m (with_kind v b.name (kind_at outer_v b.value)) (with_kind w b.name o)) (sym (same_kind b.value outer s.1))
    (renewed ins b.name (kind_at outer_v b.value) s.0)) s.2

pub no_pair_fits : (v : Visible) → PairFits v no_pair
no_pair_fits v = record { left_kind = refl; right_kind = refl; own = no_pair_added }

module _ (levelled : List ℕ → Bool) where
  pub paired_append : {m : Bool} {os us ps qs : List Occurrence} → Paired levelled m os us → Paired levelled m ps qs → Paired levelled m (os ++ ps) (us ++ qs)
  paired_append no_pairs b = b
  paired_append {ps = ps} {qs = qs} (next_pair v w x p os us ins fits clear rest) b = next_pair v w x p (os ++ ps) (us ++ qs) ins fits clear (paired_append rest b)

  mutual
    pub same_binds : (x : Symbol) (p : Pair) {m : Bool} (v w : Visible) → InsertedKinds m v w → Clear x → binds w (with_pair levelled p x) ≡ binds v x
    same_binds (Literal word) p v w ins c = refl
    same_binds (OneOf class) p v w ins c = refl
    same_binds (Call name arguments) p v w ins c = refl
    same_binds (Label name x) p v w ins c = ap (λ z. z ++ (name, kind.Span) ∷ []) (same_binds x p v w ins c.1)
    same_binds (Guard e) p v w ins c = refl
    same_binds (Let name e) p v w ins c = ap (bound name) (same_kind e ins c.1)
    same_binds (Opt x) p v w ins c = refl
    same_binds (Star x) p v w ins c = refl
    same_binds (Plus x) p v w ins c = refl
    same_binds (SepStar x separator) p v w ins c = refl
    same_binds (SepPlus x separator) p v w ins c = refl
    same_binds (Group choices) p v w ins c = refl
    same_binds (Offside x) p v w ins c = same_binds x no_pair v w ins c
    same_binds (Ignore x) p v w ins c = same_binds x no_pair v w ins c
    same_binds (Align x) p v w ins c = same_binds x no_pair v w ins c
    same_binds (Filtered x filters) p v w ins c = same_binds x no_pair v w ins c
    same_binds (Seq xs) p v w ins c = same_bound xs v w ins c
    same_binds (Entry bindings x) p v w ins c = refl

    pub same_bound : (xs : Symbols) {m : Bool} (v w : Visible) → InsertedKinds m v w → SymbolsClear xs → all_bind w (in_symbols levelled xs) ≡ all_bind v xs
    same_bound no_symbols v w ins c = refl
    same_bound (next_symbol x xs) {m = m} v w ins c =
        let first = same_binds x no_pair v w ins c.0 in
        let after : InsertedKinds m (v ++ binds v x) (w ++ binds w (with_pair levelled no_pair x)) =
        subst (λ z. InsertedKinds m (v ++ binds v x) (w ++ z)) (sym first) (appended ins (binds v x)) in
        λ z. first z ++ same_bound xs (v ++ binds v x) (w ++ binds w (with_pair levelled no_pair x)) after c.1 z

  around : (x : Symbol) {m : Bool} (v w : Visible) → InsertedKinds m v w → Clear x → Paired levelled m (inside v x) (inside w (with_pair levelled no_pair x)) →
      Paired levelled m (at v x ∷ inside v x) (at w (with_pair levelled no_pair x) ∷ inside w (with_pair levelled no_pair x))
  around x v w ins c within = next_pair v w x no_pair _ _ ins (no_pair_fits w) c within

  mutual
    pub inside_paired : (x : Symbol) (p : Pair) {m : Bool} (v w : Visible) → InsertedKinds m v w → PairFits w p → Clear x →
        Paired levelled m (inside v x) (inside w (with_pair levelled p x))
    inside_paired (Literal word) p v w ins fits c = no_pairs
    inside_paired (OneOf class) p v w ins fits c = no_pairs
    inside_paired (Call name arguments) p v w ins fits c = no_pairs
    inside_paired (Label name x) p v w ins fits c = next_pair v w x p _ _ ins fits c.1 (inside_paired x p v w ins fits c.1)
    inside_paired (Guard e) p v w ins fits c = no_pairs
    inside_paired (Let name e) p v w ins fits c = no_pairs
    inside_paired (Opt x) p v w ins fits c = around x v w ins c (inside_paired x no_pair v w ins (no_pair_fits w) c)
    inside_paired (Star x) p v w ins fits c = around x v w ins c (inside_paired x no_pair v w ins (no_pair_fits w) c)
    inside_paired (Plus x) p v w ins fits c = around x v w ins c (inside_paired x no_pair v w ins (no_pair_fits w) c)
    inside_paired (SepStar x separator) p v w ins fits c = paired_append (around x v w ins c.0 (inside_paired x no_pair v w ins (no_pair_fits w) c.0)) (around separator v w ins c.1 (inside_paired separator no_pair v w ins (no_pair_fits w) c.1))
    inside_paired (SepPlus x separator) p v w ins fits c = paired_append (around x v w ins c.0 (inside_paired x no_pair v w ins (no_pair_fits w) c.0)) (around separator v w ins c.1 (inside_paired separator no_pair v w ins (no_pair_fits w) c.1))
    inside_paired (Group choices) p v w ins fits c = choices_paired choices v w ins c
    inside_paired (Offside x) p v w ins fits c = around x v w ins c (inside_paired x no_pair v w ins (no_pair_fits w) c)
    inside_paired (Ignore x) p v w ins fits c = around x v w ins c (inside_paired x no_pair v w ins (no_pair_fits w) c)
    inside_paired (Align x) p v w ins fits c = around x v w ins c (inside_paired x no_pair v w ins (no_pair_fits w) c)
    inside_paired (Filtered x filters) p v w ins fits c = around x v w ins c (inside_paired x no_pair v w ins (no_pair_fits w) c)
    inside_paired (Seq xs) p v w ins fits c = sequence_paired xs v w ins c
    inside_paired (Entry bindings x) p v w ins fits c =
        around x (replaced v v bindings) (replaced w w bindings) (all_renewed bindings v w v w ins ins c.0) c.1 (inside_paired x no_pair (replaced v v bindings) (replaced w w bindings) (all_renewed bindings v w v w ins ins c.0) (no_pair_fits (replaced w w bindings)) c.1)

    pub sequence_paired : (xs : Symbols) {m : Bool} (v w : Visible) → InsertedKinds m v w → SymbolsClear xs →
        Paired levelled m (inside_sequence v xs) (inside_sequence w (in_symbols levelled xs))
    sequence_paired no_symbols v w ins c = no_pairs
    sequence_paired (next_symbol x xs) {m = m} v w ins c =
        let after : InsertedKinds m (v ++ binds v x) (w ++ binds w (with_pair levelled no_pair x)) =
        subst (λ z. InsertedKinds m (v ++ binds v x) (w ++ z)) (sym (same_binds x no_pair v w ins c.0)) (appended ins (binds v x)) in
        paired_append (around x v w ins c.0 (inside_paired x no_pair v w ins (no_pair_fits w) c.0)) (sequence_paired xs (v ++ binds v x) (w ++ binds w (with_pair levelled no_pair x)) after c.1)

    pub choices_paired : (choices : Alternatives) {m : Bool} (v w : Visible) → InsertedKinds m v w → AlternativesClear choices →
        Paired levelled m (inside_choices v choices) (inside_choices w (in_alternatives levelled choices))
    choices_paired no_alternatives v w ins c = no_pairs
    choices_paired (next_alternative xs others) v w ins c = paired_append (sequence_paired xs v w ins c.0) (choices_paired others v w ins c.1)
