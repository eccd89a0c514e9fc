-- The names that are visible at all dots of an alternative.
use Rattle.std.proofs.Common.{◌≡◌, ℕ, zero, suc, ◌+◌, ◌≤◌, ◌<◌, drop, get_or, List, [], ◌∷◌, ◌++◌, map, Some, length, take, slice_get, refl, sym, ap, ◌∙◌, subst, append_assoc, arith, length-append, take_all, ⊎_elim}
use Rattle.std.specs.List.{flat_map}
use Rattle.std.proofs.lemmas.Option.{same_Some}
use Rattle.std.proofs.lemmas.List.{append-nil, map-append, drop_more, drop_all}
use Rattle.ig_text.proofs.Lists.{sides}
use Rattle.ig_item.specs.Step.{Step, names_of}
use Rattle.ig_item.specs.View.{step_of}
use Rattle.ig_item.specs.declared.step.Step as program
use Rattle.ig_item.specs.Visible.{names_at_dots, AreSeen}
use Rattle.ig_item.specs.Laws.{NamesAreAtDots}

one_more : (names : List (List ℕ)) (steps : List Step) → length (names_at_dots names steps) ≡ length steps + 1
one_more names [] = refl
one_more names (s ∷ steps) = let h = one_more (names ++ names_of s) steps in omega (arith, h)

each_at : (names : List (List ℕ)) (steps : List Step) (dot : ℕ) → dot ≤ length steps →
    slice_get (names_at_dots names steps) dot ≡ Some (names ++ flat_map names_of (take dot steps))
each_at names [] zero within = ap Some (sym (append-nil names))
each_at names [] (suc dot) within = absurd (omega arith)
each_at names (s ∷ steps) zero within = ap Some (sym (append-nil names))
each_at names (s ∷ steps) (suc dot) within =
    each_at (names ++ names_of s) steps dot (omega arith) ∙
    ap Some (append_assoc names (names_of s) (flat_map names_of (take dot steps)))

pub names_at_each : NamesAreAtDots
names_at_each nonterminal alternative =
    record {
      number = one_more nonterminal.params alternative.steps;
      each = each_at nonterminal.params alternative.steps;
    }

-- what the first of the words are, seen by each count
abbrev pub prefixes : List (List ℕ) → List ℕ → List (List (List ℕ))
prefixes names seen = map (λ n. take n names) seen

take_left : (xs ys : List (List ℕ)) (n : ℕ) → n ≤ length xs → take n (xs ++ ys) ≡ take n xs
take_left xs ys zero within = refl
take_left [] ys (suc n) within = absurd (omega arith)
take_left (x ∷ xs) ys (suc n) within = ap (λ (zs : List (List ℕ)). x ∷ zs) (take_left xs ys n (omega arith))

more_names : (names bound : List (List ℕ)) (seen : List ℕ) → AreSeen names seen →
    prefixes (names ++ bound) seen ≡ prefixes names seen
more_names names bound [] are = refl
more_names names bound (n ∷ seen) are =
    let here = take_left names bound n (are 0 n refl) in
    let rest = more_names names bound seen (λ k m e. are (suc k) m e) in
    λ i. here i ∷ rest i

pub none_seen : (names : List (List ℕ)) → AreSeen names []
none_seen names k n e = cc

pub seen_still : (names bound : List (List ℕ)) (seen : List ℕ) → AreSeen names seen → AreSeen (names ++ bound) seen
seen_still names bound seen are k n e = let h = are k n e in omega (arith, h, length-append names bound)

last_seen : (names : List (List ℕ)) (m n : ℕ) → slice_get (length names ∷ []) m ≡ Some n → n ≤ length names
last_seen names zero n e = let h : length names ≡ n = same_Some (length names) n e in omega (arith, h)
last_seen names (suc m) n e = cc

pub seen_all : (names : List (List ℕ)) (seen : List ℕ) → AreSeen names seen → AreSeen names (seen ++ length names ∷ [])
seen_all names seen are k n e =
    ⊎_elim (λ h. are k n h) (λ h. last_seen names h.0 n h.2) (sides seen (length names ∷ []) k n e)

pub all_prefixes : (names : List (List ℕ)) (seen : List ℕ) →
    prefixes names (seen ++ length names ∷ []) ≡ prefixes names seen ++ names ∷ []
all_prefixes names seen =
    map-append (λ (n : ℕ). take n names) seen (length names ∷ []) ∙
    ap (λ (ns : List (List ℕ)). prefixes names seen ++ ns ∷ []) (take_all (length names) names (omega arith))

-- one step further
pub further : (names : List (List ℕ)) (seen : List ℕ) (step : Step) (steps : List Step) → AreSeen names seen →
    prefixes (names ++ names_of step) (seen ++ length names ∷ []) ++ names_at_dots (names ++ names_of step) steps ≡
    prefixes names seen ++ names_at_dots names (step ∷ steps)
further names seen step steps are =
    let rest = names_at_dots (names ++ names_of step) steps in
    ap (λ (ps : List (List (List ℕ))). ps ++ rest)
    (more_names names (names_of step) (seen ++ length names ∷ []) (seen_all names seen are) ∙ all_prefixes names seen) ∙
    append_assoc (prefixes names seen) (names ∷ []) rest

-- a loop over the steps has come to step i of all: the dots before it are seen, and those to come are left
pub record Sees (params names : List (List ℕ)) (all : List program.Step) (i : ℕ) (seen : List ℕ) : Type 0 where
  pub whole : prefixes names seen ++ names_at_dots names (map step_of (drop i all)) ≡ names_at_dots params (map step_of all)
  pub are : AreSeen names seen

pub starts : (names : List (List ℕ)) (all : List program.Step) (seen : List ℕ) → seen ≡ [] → Sees names names all 0 seen
starts names all seen e =
    subst (λ (s : List ℕ). Sees names names all 0 s) (sym e) (record { whole = refl; are = none_seen names })

pub goes : (params names : List (List ℕ)) (all : List program.Step) (i : ℕ) (seen : List ℕ) (x : program.Step) (m : ℕ)
    (new_names : List (List ℕ)) (new_seen : List ℕ) → Sees params names all i seen → i < length all → x ≡ get_or all i x →
    m ≡ length names → new_seen ≡ seen ++ m ∷ [] → new_names ≡ names ++ names_of (step_of x) →
    Sees params new_names all (i + 1) new_seen
goes params names all i seen x m new_names new_seen s lt is m_is seen_is names_are =
    let rest : drop i all ≡ x ∷ drop (i + 1) all =
    drop_more all i x lt ∙ ap (λ (z : program.Step). z ∷ drop (i + 1) all) (sym is) in
    let now_seen : new_seen ≡ seen ++ length names ∷ [] = seen_is ∙ ap (λ (k : ℕ). seen ++ k ∷ []) m_is in
    let there : Sees params (names ++ names_of (step_of x)) all (i + 1) (seen ++ length names ∷ []) =
    record {
      whole =
          further names seen (step_of x) (map step_of (drop (i + 1) all)) s.are ∙
          ap (λ (zs : List program.Step). prefixes names seen ++ names_at_dots names (map step_of zs)) (sym rest) ∙ s.whole;
      are = seen_still names (names_of (step_of x)) (seen ++ length names ∷ []) (seen_all names seen s.are);
    } in
    subst (λ (ns : List (List ℕ)). Sees params ns all (i + 1) new_seen) (sym names_are)
    (subst (λ (zs : List ℕ). Sees params (names ++ names_of (step_of x)) all (i + 1) zs) (sym now_seen) there)

pub ends : (params names : List (List ℕ)) (all : List program.Step) (i : ℕ) (seen : List ℕ) (m : ℕ) (new_seen : List ℕ) →
    Sees params names all i seen → length all ≤ i → m ≡ length names → new_seen ≡ seen ++ m ∷ [] →
    prefixes names new_seen ≡ names_at_dots params (map step_of all)
ends params names all i seen m new_seen s over m_is seen_is =
    ap (prefixes names) (seen_is ∙ ap (λ (k : ℕ). seen ++ k ∷ []) m_is) ∙ all_prefixes names seen ∙
    ap (λ (zs : List program.Step). prefixes names seen ++ names_at_dots names (map step_of zs))
    (sym (drop_all i all over)) ∙ s.whole

pub ends_seen : (names : List (List ℕ)) (seen : List ℕ) (m : ℕ) (new_seen : List ℕ) → AreSeen names seen →
    m ≡ length names → new_seen ≡ seen ++ m ∷ [] → AreSeen names new_seen
ends_seen names seen m new_seen are m_is seen_is =
    subst (AreSeen names) (sym (seen_is ∙ ap (λ (k : ℕ). seen ++ k ∷ []) m_is)) (seen_all names seen are)
