-- The variables that are kept, one after another.
use Rattle.std.proofs.Common.{◌≡◌, ◌∙◌, ℕ, ◌<◌, ◌≤◌, ◌+◌, List, [], ◌∷◌, ◌++◌, Bool, true, false, length, get_or, drop, sym, ap, subst, append_assoc}
use Rattle.std.specs.Prelude.{if◌then◌else◌}
use Rattle.std.proofs.Math.ListN.{get_or-map}
use Rattle.std.proofs.lemmas.List.{append-nil, map-append, length-map, drop_more, drop_all, get_or_default}
use Rattle.ig_expr.specs.declared.kind.Kind.{Kind}
use Rattle.ig_grammar.specs.Visible.{Visible, names, kinds, parameters}
use Rattle.ig_grammar.specs.declared.declaration.Param.{Param}
use Rattle.ig_ebnf_variables.specs.Lists.{keep}

as_many : (v : Visible) → length (names v) ≡ length v
as_many v = length-map v (λ pair. pair.0)

-- a variable has a kind
has_kind : (v : Visible) (ns : List (List ℕ)) (ks : List Kind) (i : ℕ) → ns ≡ names v → ks ≡ kinds v → i < length ns →
    i < length ks
has_kind v ns ks i m o l =
    let e : length ns ≡ length ks =
    ap length m ∙ as_many v ∙ sym (length-map v (λ pair. pair.1)) ∙ sym (ap length o) in
    subst (λ n. i < n) e l

-- the first of the variables behind a place
first_of : (v : Visible) (ns : List (List ℕ)) (ks : List Kind) (i : ℕ) (n : List ℕ) (k : Kind) → ns ≡ names v → ks ≡ kinds v →
    i < length ns → n ≡ get_or ns i n → k ≡ get_or ks i k → drop i v ≡ (n, k) ∷ drop (i + 1) v
first_of v ns ks i n k m o l e f =
    let within : i < length v = subst (λ z. i < z) (ap length m ∙ as_many v) l in
    let name : (get_or v i (n, k)).0 ≡ n =
    sym (get_or-map (λ (pair : List ℕ × Kind). pair.0) v i (n, k)) ∙ sym (e ∙ ap (λ z. get_or z i n) m) in
    let kind : (get_or v i (n, k)).1 ≡ k =
    sym (get_or-map (λ (pair : List ℕ × Kind). pair.1) v i (n, k)) ∙ sym (f ∙ ap (λ z. get_or z i k) o) in
    drop_more v i (n, k) within ∙ (λ j. (name j, kind j) ∷ drop (i + 1) v)

abbrev pub given : Bool → List ℕ → Kind → List Param
given b n k = if b then record { name = n; kind = k } ∷ [] else []

more : (b : Bool) (before : List Param) (n : List ℕ) (k : Kind) (w : Visible) →
    parameters (before ++ given b n k) ++ w ≡ parameters before ++ (if b then (n, k) ∷ w else w)
more true before n k w =
    ap (λ z. z ++ w) (map-append (λ (p : Param). (p.name, p.kind)) before (given true n k)) ∙
    append_assoc (parameters before) ((n, k) ∷ []) w
more false before n k w = ap (λ z. parameters z ++ w) (append-nil before)

pub keep_step : (p : List ℕ → Bool) (v all : Visible) (ns : List (List ℕ)) (ks : List Kind) (before after : List Param)
    (i : ℕ) (n : List ℕ) (k d : Kind) (b : Bool) → ns ≡ names v → ks ≡ kinds v → i < length ns → n ≡ get_or ns i n →
    k ≡ get_or ks i d → b ≡ p n → parameters before ++ keep p (drop i v) ≡ all → after ≡ before ++ given b n k →
    parameters after ++ keep p (drop (i + 1) v) ≡ all
keep_step p v all ns ks before after i n k d b m o l e f t before_is after_is =
    let rest = keep p (drop (i + 1) v) in
    let at : k ≡ get_or ks i k = f ∙ get_or_default ks i d k (has_kind v ns ks i m o l) in
    (λ j. parameters (after_is j) ++ rest) ∙ more b before n k rest ∙
    ap (λ x. parameters before ++ (if x then (n, k) ∷ rest else rest)) t ∙
    sym (ap (λ x. parameters before ++ keep p x) (first_of v ns ks i n k m o l e at)) ∙ before_is

pub keep_end : (p : List ℕ → Bool) (v all : Visible) (ns : List (List ℕ)) (before : List Param) (i : ℕ) →
    ns ≡ names v → length ns ≤ i → parameters before ++ keep p (drop i v) ≡ all → parameters before ≡ all
keep_end p v all ns before i m l before_is =
    let none : drop i v ≡ [] = drop_all i v (subst (λ z. z ≤ i) (ap length m ∙ as_many v) l) in
    sym (append-nil (parameters before)) ∙ sym (ap (λ x. parameters before ++ keep p x) none) ∙ before_is
