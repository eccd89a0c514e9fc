-- The kinds at the dots of an alternative: those behind its last step, as far as a dot sees them.
use Rattle.std.proofs.Common.{◌≡◌, ℕ, zero, suc, ◌+◌, ◌-◌, ◌≤◌, ◌++◌, List, [], ◌∷◌, Option, Some, None, Bor, refl, sym, ap, ap₂, ◌∙◌, subst, slice_get, length, map, take, drop, arith}
use Rattle.std.specs.Prelude.{option_map, option_and_then, MatchOption}
use Rattle.std.specs.Option.{option_copied}
use Rattle.std.specs.Slice.{IsGetRangeResult}
use Rattle.std.specs.List.{flat_map}
use Rattle.std.proofs.Math.Nat.{sub-zero}
use Rattle.std.proofs.Math.Seq.{take-append_seam}
use Rattle.std.proofs.lemmas.Bool.{false≢true}
use Rattle.std.proofs.lemmas.Option.{same_Some, slice_get-map, slice_get_within, get_or_from_slice_get}
use Rattle.std.proofs.lemmas.List.{append_assoc, append-nil, length-append, drop_more}
use Rattle.ig_text.proofs.Lists.{mapped_at, contains_from_at}
use Rattle.ig_text.proofs.Options.{stepped, mapped}
use Rattle.ig_expr.specs.declared.kind.Kind.{Kind}
use Rattle.ig_expr.specs.Kinds.{kind_in}
use Rattle.ig_item.specs.Core.{IsAlternative, numbered}
use Rattle.ig_item.specs.Laws.{NamesGrow, NamesAreAtDots}
use Rattle.ig_item.specs.Step.{Step, Test, Bind, Term, Call, labels, names_of}
use Rattle.ig_item.specs.View.{step_of}
use Rattle.ig_item.specs.declared.step.Step as program
use Rattle.ig_item.specs.Visible.{kinds_at, kinds_behind, kinds_of, kinds_of_label, names_at, names_at_dots}
use Rattle.ig_item.specs.WellKinded.{IsWellKinded, ExpressionsFit}
use Rattle.ig_item.specs.declared.core_grammar.Nonterminal.{Nonterminal}
use Rattle.ig_item.specs.declared.core_grammar.CoreAlt.{CoreAlt}
use Rattle.ig_verify.specs.Kinds.{HasKinds, HasNoKinds, all_kinds, row_of, rows_of}
use Rattle.ig_verify.specs.declared.kind_table.KindRow.{KindRow}

-- behind one more step
pub behind_next : (names more : List (List ℕ)) (ks new bound : List Kind) (s : Step) (rest : List Step) (o : Option (List Kind)) →
    more ≡ names ++ names_of s → new ≡ ks ++ bound → Some bound ≡ kinds_of names ks s →
    kinds_behind names ks (s ∷ rest) ≡ o → kinds_behind more new rest ≡ o
behind_next names more ks new bound s rest o p q b e =
    ap₂ (λ (ns : List (List ℕ)) (vs : List Kind). kinds_behind ns vs rest) p q ∙
    ap (option_and_then (λ (bs : List Kind). kinds_behind (names ++ names_of s) (ks ++ bs) rest)) b ∙ e

label_length : (label : Option (List ℕ)) → length (kinds_of_label label) ≡ length (labels label)
-- a label binds as many kinds as names
label_length None = refl
-- a label binds as many kinds as names
label_length (Some name) = refl

-- a step binds as many kinds as names
bound_length : (names : List (List ℕ)) (ks : List Kind) (s : Step) (bound : List Kind) → kinds_of names ks s ≡ Some bound →
    length bound ≡ length (names_of s)
bound_length names ks (Test e) bound h = ap length (same_Some bound [] (sym h))
bound_length names ks (Bind name e) bound h =
    let m = mapped (λ (k : Kind). k ∷ []) (kind_in names ks e) bound h in ap length m.2
bound_length names ks (Term what label excluded) bound h = ap length (sym (same_Some _ bound h)) ∙ label_length label
bound_length names ks (Call callee arguments label excluded) bound h =
    ap length (sym (same_Some _ bound h)) ∙ label_length label

both_longer : {A B : Type 0} (xs ys : List A) (us vs : List B) → length xs ≡ length us → length ys ≡ length vs →
    length (xs ++ ys) ≡ length (us ++ vs)
both_longer xs ys us vs p q = length-append xs ys ∙ ap₂ (λ (m n : ℕ). m + n) p q ∙ sym (length-append us vs)

pub kinds_length : (names : List (List ℕ)) (ks : List Kind) (steps : List Step) (kinds : List Kind) → length ks ≡ length names →
    kinds_behind names ks steps ≡ Some kinds → length kinds ≡ length (names ++ flat_map names_of steps)
kinds_length names ks [] kinds same e =
    ap length (sym (same_Some ks kinds e)) ∙ same ∙ ap length (sym (append-nil names))
kinds_length names ks (s ∷ rest) kinds same e =
    let st = stepped (λ (bs : List Kind). kinds_behind (names ++ names_of s) (ks ++ bs) rest) (kinds_of names ks s) kinds e in
    let longer = both_longer ks st.0 names (names_of s) same (bound_length names ks s st.0 st.1) in
    kinds_length (names ++ names_of s) (ks ++ st.0) rest kinds longer st.2 ∙
    ap length (append_assoc names (names_of s) (flat_map names_of rest))

-- the invariant of the loop over the steps, a step further
pub further : (grow : NamesGrow) (each : NamesAreAtDots) (n : Nonterminal) (a : CoreAlt) (steps : List program.Step) (k m : ℕ)
    (s : program.Step) (ks seen new bound : List Kind) (all : List (List (List ℕ))) (names : List (List ℕ)) →
    map step_of steps ≡ a.steps → slice_get steps k ≡ Some s → m ≡ k → all ≡ names_at_dots n.params a.steps →
    Some names ≡ slice_get all m → seen ≡ ks → new ≡ ks ++ bound → Some bound ≡ kinds_of names seen (step_of s) →
    kinds_behind (names_at n a k) ks (map step_of (drop k steps)) ≡ kinds_behind n.params n.kinds a.steps →
    kinds_behind (names_at n a (k + 1)) new (map step_of (drop (k + 1) steps)) ≡ kinds_behind n.params n.kinds a.steps
further grow each n a steps k m s ks seen new bound all names is there same all_are visible shown added found e =
    let at : slice_get a.steps k ≡ Some (step_of s) =
    ap (λ (z : List Step). slice_get z k) (sym is) ∙ mapped_at step_of steps k s there in
    let split : drop k steps ≡ s ∷ drop (k + 1) steps =
    drop_more steps k s (slice_get_within steps k s there) ∙
    ap (λ (z : program.Step). z ∷ drop (k + 1) steps) (get_or_from_slice_get steps k s s there) in
    let one : k + 1 ≡ suc k = omega arith in
    let more : names_at n a (k + 1) ≡ names_at n a k ++ names_of (step_of s) =
    ap (names_at n a) one ∙ grow n a k (step_of s) at in
    let within : k ≤ length a.steps = (let w = slice_get_within a.steps k (step_of s) at in omega (arith, w)) in
    let known : names ≡ names_at n a k =
    same_Some names (names_at n a k)
    (visible ∙ ap (slice_get all) same ∙ ap (λ (z : List (List (List ℕ))). slice_get z k) all_are ∙ (each n a).each k within) in
    behind_next (names_at n a k) (names_at n a (k + 1)) ks new bound (step_of s) (map step_of (drop (k + 1) steps))
    (kinds_behind n.params n.kinds a.steps) more added
    (found ∙ ap₂ (λ (ns : List (List ℕ)) (us : List Kind). kinds_of ns us (step_of s)) known shown)
    (subst (λ (z : List program.Step). kinds_behind (names_at n a k) ks (map step_of z) ≡ kinds_behind n.params n.kinds a.steps) split e)

-- where an expression fits, a step binds kinds
binds : (names : List (List ℕ)) (ks : List Kind) (s : Step) → ExpressionsFit names ks s →
    (bound : List Kind) × (kinds_of names ks s ≡ Some bound)
binds names ks (Test e) fits = ([], refl)
binds names ks (Bind name e) fits = (fits.0 ∷ [], ap (option_map (λ (k : Kind). k ∷ [])) fits.1)
binds names ks (Term what label excluded) fits = (kinds_of_label label, refl)
binds names ks (Call callee arguments label excluded) fits = (kinds_of_label label, refl)

-- each step fits what is visible before it
record AllFit (names : List (List ℕ)) (ks : List Kind) (steps : List Step) : Type 0 where
  pub each : (dot : ℕ) (s : Step) → slice_get steps dot ≡ Some s →
      (kinds : List Kind) × (kinds_behind names ks (take dot steps) ≡ Some kinds) ×
      ExpressionsFit (names ++ flat_map names_of (take dot steps)) kinds s

-- then there are kinds behind all of them
all_kinds_there : (names : List (List ℕ)) (ks : List Kind) (steps : List Step) → AllFit names ks steps →
    (all : List Kind) × (kinds_behind names ks steps ≡ Some all)
all_kinds_there names ks [] fit = (ks, refl)
all_kinds_there names ks (s ∷ rest) fit =
    let h = fit.each 0 s refl in
    let fits : ExpressionsFit names ks s =
    subst (λ (z : List Kind). ExpressionsFit names z s) (sym (same_Some ks h.0 h.1))
    (subst (λ (z : List (List ℕ)). ExpressionsFit z h.0 s) (append-nil names) h.2) in
    let b = binds names ks s fits in
    let unfolded : (us : List Step) → kinds_behind names ks (s ∷ us) ≡ kinds_behind (names ++ names_of s) (ks ++ b.0) us =
    λ us. ap (option_and_then (λ (bs : List Kind). kinds_behind (names ++ names_of s) (ks ++ bs) us)) b.1 in
    let further_on = all_kinds_there (names ++ names_of s) (ks ++ b.0) rest (record {
      each = λ dot t at.
          let g = fit.each (suc dot) t at in (
            g.0,
            sym (unfolded (take dot rest)) ∙ g.1,
            subst (λ (z : List (List ℕ)). ExpressionsFit z g.0 t)
                (sym (append_assoc names (names_of s) (flat_map names_of (take dot rest)))) g.2,
          );
    }) in
    (further_on.0, unfolded rest ∙ further_on.1)

-- in a well-kinded core grammar each alternative has kinds behind its last step
there_kinds : (core : List Nonterminal) → IsWellKinded core → (n a : ℕ) (nt : Nonterminal) (alt : CoreAlt) →
    IsAlternative core n a nt alt → (all : List Kind) × (kinds_behind nt.params nt.kinds alt.steps ≡ Some all)
there_kinds core well n a nt alt has =
    all_kinds_there nt.params nt.kinds alt.steps (record {
      each = λ dot s at. let f = well.steps n a nt alt has dot s at in (f.kinds, f.visible, f.expressions);
    })

-- kinds behind steps begin with those before them
begin_with : (names : List (List ℕ)) (ks : List Kind) (steps : List Step) (all : List Kind) →
    kinds_behind names ks steps ≡ Some all → (more : List Kind) × (all ≡ ks ++ more)
begin_with names ks [] all e = ([], sym (same_Some ks all e) ∙ sym (append-nil ks))
begin_with names ks (s ∷ rest) all e =
    let st = stepped (λ (bs : List Kind). kinds_behind (names ++ names_of s) (ks ++ bs) rest) (kinds_of names ks s) all e in
    let h = begin_with (names ++ names_of s) (ks ++ st.0) rest all st.2 in
    (st.0 ++ h.0, h.1 ∙ append_assoc ks st.0 h.0)

-- and with those at each dot
prefix : (names : List (List ℕ)) (ks : List Kind) (steps : List Step) (all : List Kind) (dot : ℕ) →
    kinds_behind names ks steps ≡ Some all →
    (kinds : List Kind) × (kinds_behind names ks (take dot steps) ≡ Some kinds) × ((more : List Kind) × (all ≡ kinds ++ more))
prefix names ks steps all zero e = (ks, refl, begin_with names ks steps all e)
prefix names ks [] all (suc dot) e = (ks, refl, begin_with names ks [] all e)
prefix names ks (s ∷ rest) all (suc dot) e =
    let st = stepped (λ (bs : List Kind). kinds_behind (names ++ names_of s) (ks ++ bs) rest) (kinds_of names ks s) all e in
    let h = prefix (names ++ names_of s) (ks ++ st.0) rest all dot st.2 in (
      h.0,
      ap (option_and_then (λ (bs : List Kind). kinds_behind (names ++ names_of s) (ks ++ bs) (take dot rest))) st.1 ∙ h.1,
      h.2,
    )

-- as many as names
seen_kinds : (names : List (List ℕ)) (ks : List Kind) (steps : List Step) (all : List Kind) (dot : ℕ) → length ks ≡ length names →
    kinds_behind names ks steps ≡ Some all →
    (kinds_behind names ks (take dot steps) ≡ Some (take (length (names ++ flat_map names_of (take dot steps))) all)) ×
    (length (names ++ flat_map names_of (take dot steps)) ≤ length all)
seen_kinds names ks steps all dot same e =
    let h = prefix names ks steps all dot e in
    let counted = kinds_length names ks (take dot steps) h.0 same h.1 in
    let cut : take (length (names ++ flat_map names_of (take dot steps))) all ≡ h.0 =
    ap (λ (k : ℕ). take k all) (sym counted) ∙ ap (take (length h.0)) h.2.1 ∙ take-append_seam h.0 h.2.0 in
    let long = ap length h.2.1 ∙ length-append h.0 h.2.0 in
    (h.1 ∙ ap Some (sym cut), omega (arith, counted, long))

numbered_image : {X Y : Type 0} (f : X → Y) (xs : List X) (a : ℕ) → numbered (map f xs) a ≡ option_map f (numbered xs a)
numbered_image f xs zero = refl
numbered_image f xs (suc k) = slice_get-map f xs k

-- what the table has for a number is of an alternative
record IsRowOf (core : List Nonterminal) (n a : ℕ) (row : KindRow) : Type 0 where
  pub nonterminal : Nonterminal
  pub alternative : CoreAlt
  pub has : IsAlternative core n a nonterminal alternative
  pub is : row ≡ row_of nonterminal alternative

row_found : (core : List Nonterminal) (table : List (List KindRow)) (n a : ℕ) (rows shown : List KindRow) (row : KindRow) →
    table ≡ all_kinds core → Some rows ≡ slice_get table n → shown ≡ rows → Some row ≡ numbered shown a →
    IsRowOf core n a row
row_found core table n a rows shown row table_is rows_at same row_at =
    let h = mapped rows_of (slice_get core n) rows
    (sym (slice_get-map rows_of core n) ∙ ap (λ (z : List (List KindRow)). slice_get z n) (sym table_is) ∙ sym rows_at) in
    let g = mapped (row_of h.0) (numbered h.0.alternatives a) row
    (sym (numbered_image (row_of h.0) h.0.alternatives a) ∙ ap (λ (z : List KindRow). numbered z a) (sym (same ∙ h.2)) ∙ sym row_at) in
    record { nonterminal = h.0; alternative = g.0; has = record { there = h.1; has = g.1 }; is = g.2 }

module _ (each : NamesAreAtDots) (core : List Nonterminal) (well : IsWellKinded core) (table : List (List KindRow)) (n a dot : ℕ)
    (rows shown : List KindRow) (row : KindRow) (table_is : table ≡ all_kinds core) (rows_at : Some rows ≡ slice_get table n)
    (same : shown ≡ rows) (row_at : Some row ≡ numbered shown a) where
  -- there are kinds behind the last step
  pub no_row : row.kinds ≡ None → ⊥
  no_row none =
      let r = row_found core table n a rows shown row table_is rows_at same row_at in
      let t = there_kinds core well n a r.nonterminal r.alternative r.has in
      let e : None ≡ Some t.0 = sym none ∙ ap (λ (z : KindRow). z.kinds) r.is ∙ t.1 in
      cc

  -- the dot sees so many of them
  pub found : (names : List (List ℕ)) (all ks : List Kind) (part : Option (Bor (List Kind))) → Some names ≡ slice_get row.names dot →
      row.kinds ≡ Some all → ks ≡ all → IsGetRangeResult ks 0 (length names) part →
      MatchOption (option_copied part) (HasNoKinds core n a dot) (HasKinds core n a dot)
  found names all ks part names_at_dot kinds_are ks_are got =
      let r = row_found core table n a rows shown row table_is rows_at same row_at in
      let nt = r.nonterminal in
      let alt = r.alternative in
      let one = each nt alt in
      let there : slice_get (names_at_dots nt.params alt.steps) dot ≡ Some names =
      ap (λ (z : KindRow). slice_get z.names dot) (sym r.is) ∙ sym names_at_dot in
      let within : dot ≤ length alt.steps =
      (let w = slice_get_within (names_at_dots nt.params alt.steps) dot names there in let m = one.number in omega (arith, w, m)) in
      let known : names ≡ names_at nt alt dot = same_Some names (names_at nt alt dot) (sym there ∙ one.each dot within) in
      let behind : kinds_behind nt.params nt.kinds alt.steps ≡ Some all = ap (λ (z : KindRow). z.kinds) (sym r.is) ∙ kinds_are in
      let s = seen_kinds nt.params nt.kinds alt.steps all dot (well.parameters nt (contains_from_at core n nt r.has.there)) behind in
      let few : length names ≤ length ks =
      (let p = ap length known in let q = ap length ks_are in let z = s.1 in omega (arith, p, q, z)) in
      let cut : (xs : List Kind) → xs ≡ take (length names - 0) ks → kinds_at nt alt dot ≡ Some xs =
      λ xs e. s.0 ∙ ap Some (sym (e ∙ ap (λ (k : ℕ). take k ks) (sub-zero (length names)) ∙
      ap₂ (λ (k : ℕ) (us : List Kind). take k us) (ap length known) ks_are)) in
      result nt alt r.has within ks (length names) part few cut got
    where
      result : (nt : Nonterminal) (alt : CoreAlt) → IsAlternative core n a nt alt → dot ≤ length alt.steps → (us : List Kind) (m : ℕ)
          (p : Option (Bor (List Kind))) → m ≤ length us →
          ((xs : List Kind) → xs ≡ take (m - 0) us → kinds_at nt alt dot ≡ Some xs) → IsGetRangeResult us 0 m p →
          MatchOption (option_copied p) (HasNoKinds core n a dot) (HasKinds core n a dot)
      result nt alt has within us m None few cut g = absurd (false≢true (g.1 (omega (arith, few))))
      result nt alt has within us m (Some p) few cut g =
          record { nonterminal = nt; alternative = alt; has = has; within = within; visible = cut p.now g.0.2 }
