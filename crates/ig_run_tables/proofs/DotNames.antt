-- The names and forms at a dot, as they are looked up in the table of all dots.
use Rattle.std.proofs.Common.{◌≡◌, ℕ, zero, suc, ◌≤◌, List, Option, Some, None, length, map, refl, sym, ap, ◌∙◌, arith, slice_get}
use Rattle.std.specs.Prelude.{option_map, IfNone}
use Rattle.std.proofs.lemmas.Option.{same_Some, slice_get-map, slice_get_within}
use Rattle.ig_item.specs.Core.{IsAlternative, numbered}
use Rattle.ig_item.specs.Laws.{NamesAreAtDots}
use Rattle.ig_item.specs.Step.{Step}
use Rattle.ig_item.specs.Visible.{names_at, names_at_dots}
use Rattle.ig_item.specs.declared.core_grammar.Nonterminal.{Nonterminal}
use Rattle.ig_item.specs.declared.core_grammar.CoreAlt.{CoreAlt}
use Rattle.ig_run_tables.specs.Compiled.{form_of, expressions_of}
use Rattle.ig_run_tables.specs.Names.{all_dots, dots_of, dots_of_alternatives}
use Rattle.ig_run_tables.specs.declared.compiled.Form.{Form}
use Rattle.ig_run_tables.specs.declared.names.Dots.{Dots}
use Rattle.ig_run_tables.proofs.Forms.{forms_there, forms_before}

-- what holds anyway holds where nothing is found
pub in_any_case : {A : Type 0} {P : Type 0} (found : Option A) → P → IfNone found P
in_any_case None p = p
in_any_case (Some x) p = tt

numbered_image : {X Y : Type 0} (f : X → Y) (xs : List X) (a : ℕ) → numbered (map f xs) a ≡ option_map f (numbered xs a)
numbered_image f xs zero = refl
numbered_image f xs (suc k) = slice_get-map f xs k

-- the row that the table has for the nonterminal of an alternative
row_found : (core : List Nonterminal) (table : List (List Dots)) (n a : ℕ) (row : List Dots) (nonterminal : Nonterminal)
    (alternative : CoreAlt) → table ≡ all_dots core → Some row ≡ slice_get table n → IsAlternative core n a nonterminal alternative →
    row ≡ dots_of_alternatives nonterminal
row_found core table n a row nonterminal alternative table_is row_at has =
    same_Some row (dots_of_alternatives nonterminal)
    (row_at ∙ ap (λ (z : List (List Dots)). slice_get z n) table_is ∙ slice_get-map dots_of_alternatives core n ∙
    ap (option_map dots_of_alternatives) has.there)

-- what the table has for an alternative
pub dots_found : (core : List Nonterminal) (table : List (List Dots)) (n a : ℕ) (row : List Dots) (dots : Dots) (nonterminal : Nonterminal)
    (alternative : CoreAlt) → table ≡ all_dots core → Some row ≡ slice_get table n → Some dots ≡ numbered row a →
    IsAlternative core n a nonterminal alternative → dots ≡ dots_of nonterminal.params alternative.steps
dots_found core table n a row dots nonterminal alternative table_is row_at dots_at has =
    let row_is = row_found core table n a row nonterminal alternative table_is row_at has in
    let f : CoreAlt → Dots = λ (z : CoreAlt). dots_of nonterminal.params z.steps in
    same_Some dots (f alternative)
    (dots_at ∙ ap (λ (z : List Dots). numbered z a) row_is ∙ numbered_image f nonterminal.alternatives a ∙ ap (option_map f) has.has)

-- it has a row for the nonterminal of each alternative
pub has_row : (core : List Nonterminal) (table : List (List Dots)) (n a : ℕ) (nonterminal : Nonterminal) (alternative : CoreAlt) →
    table ≡ all_dots core → None ≡ slice_get table n → IsAlternative core n a nonterminal alternative → ⊥
has_row core table n a nonterminal alternative table_is no_row has =
    let e : None ≡ Some (dots_of_alternatives nonterminal) =
    no_row ∙ ap (λ (z : List (List Dots)). slice_get z n) table_is ∙ slice_get-map dots_of_alternatives core n ∙
    ap (option_map dots_of_alternatives) has.there in
    cc

-- and in it what belongs to the alternative
pub has_dots : (core : List Nonterminal) (table : List (List Dots)) (n a : ℕ) (row : List Dots) (nonterminal : Nonterminal)
    (alternative : CoreAlt) → table ≡ all_dots core → Some row ≡ slice_get table n → None ≡ numbered row a →
    IsAlternative core n a nonterminal alternative → ⊥
has_dots core table n a row nonterminal alternative table_is row_at no_dots has =
    let f : CoreAlt → Dots = λ (z : CoreAlt). dots_of nonterminal.params z.steps in
    let e : None ≡ Some (f alternative) =
    no_dots ∙ ap (λ (z : List Dots). numbered z a) (row_found core table n a row nonterminal alternative table_is row_at has) ∙
    numbered_image f nonterminal.alternatives a ∙ ap (option_map f) has.has in
    cc

-- the names that it has for a dot
pub names_found : (law : NamesAreAtDots) (core : List Nonterminal) (table : List (List Dots)) (n a dot : ℕ) (row : List Dots) (dots : Dots)
    (names : List (List ℕ)) (nonterminal : Nonterminal) (alternative : CoreAlt) →
    table ≡ all_dots core → Some row ≡ slice_get table n → Some dots ≡ numbered row a → Some names ≡ slice_get dots.names dot →
    IsAlternative core n a nonterminal alternative → names ≡ names_at nonterminal alternative dot
names_found law core table n a dot row dots names nonterminal alternative table_is row_at dots_at names_there has =
    let dots_are = dots_found core table n a row dots nonterminal alternative table_is row_at dots_at has in
    let at : slice_get (names_at_dots nonterminal.params alternative.steps) dot ≡ Some names =
    sym (names_there ∙ ap (λ (z : Dots). slice_get z.names dot) dots_are) in
    let one = law nonterminal alternative in
    let within : dot ≤ length alternative.steps =
    (let w = slice_get_within (names_at_dots nonterminal.params alternative.steps) dot names at in let m = one.number in omega (arith, w, m)) in
    same_Some names (names_at nonterminal alternative dot) (sym at ∙ one.each dot within)

-- the forms that it has for a dot before a step
pub forms_found : (core : List Nonterminal) (table : List (List Dots)) (n a dot : ℕ) (row : List Dots) (dots : Dots) (names : List (List ℕ))
    (forms : List Form) (nonterminal : Nonterminal) (alternative : CoreAlt) (step : Step) →
    table ≡ all_dots core → Some row ≡ slice_get table n → Some dots ≡ numbered row a → Some names ≡ slice_get dots.names dot →
    Some forms ≡ slice_get dots.forms dot → IsAlternative core n a nonterminal alternative → slice_get alternative.steps dot ≡ Some step →
    forms ≡ map (form_of names) (expressions_of step)
forms_found core table n a dot row dots names forms nonterminal alternative step table_is row_at dots_at names_there forms_are has next =
    let dots_are = dots_found core table n a row dots nonterminal alternative table_is row_at dots_at has in
    forms_there (names_at_dots nonterminal.params alternative.steps) alternative.steps dot names step forms
    (sym (names_there ∙ ap (λ (z : Dots). slice_get z.names dot) dots_are)) next
    (sym (forms_are ∙ ap (λ (z : Dots). slice_get z.forms dot) dots_are))

-- before a step, names are visible
names_before : (law : NamesAreAtDots) (nonterminal : Nonterminal) (alternative : CoreAlt) (step : Step) (dot : ℕ) →
    slice_get alternative.steps dot ≡ Some step →
    slice_get (names_at_dots nonterminal.params alternative.steps) dot ≡ Some (names_at nonterminal alternative dot)
names_before law nonterminal alternative step dot next =
    let within = slice_get_within alternative.steps dot step next in
    let one = law nonterminal alternative in
    one.each dot (omega (arith, within))

-- the table has names for each dot before a step
pub has_names : (law : NamesAreAtDots) (core : List Nonterminal) (table : List (List Dots)) (n a dot : ℕ) (row : List Dots) (dots : Dots)
    (nonterminal : Nonterminal) (alternative : CoreAlt) (step : Step) →
    table ≡ all_dots core → Some row ≡ slice_get table n → Some dots ≡ numbered row a → None ≡ slice_get dots.names dot →
    IsAlternative core n a nonterminal alternative → slice_get alternative.steps dot ≡ Some step → ⊥
has_names law core table n a dot row dots nonterminal alternative step table_is row_at dots_at no_names has next =
    let dots_are = dots_found core table n a row dots nonterminal alternative table_is row_at dots_at has in
    let e : None ≡ Some (names_at nonterminal alternative dot) =
    no_names ∙ ap (λ (z : Dots). slice_get z.names dot) dots_are ∙ names_before law nonterminal alternative step dot next in
    cc

-- and it has forms for it
pub has_forms : (law : NamesAreAtDots) (core : List Nonterminal) (table : List (List Dots)) (n a dot : ℕ) (row : List Dots) (dots : Dots)
    (nonterminal : Nonterminal) (alternative : CoreAlt) (step : Step) →
    table ≡ all_dots core → Some row ≡ slice_get table n → Some dots ≡ numbered row a → None ≡ slice_get dots.forms dot →
    IsAlternative core n a nonterminal alternative → slice_get alternative.steps dot ≡ Some step → ⊥
has_forms law core table n a dot row dots nonterminal alternative step table_is row_at dots_at no_forms has next =
    let dots_are = dots_found core table n a row dots nonterminal alternative table_is row_at dots_at has in
    forms_before (names_at_dots nonterminal.params alternative.steps) alternative.steps dot (names_at nonterminal alternative dot) step
    (names_before law nonterminal alternative step dot next) next
    (sym (no_forms ∙ ap (λ (z : Dots). slice_get z.forms dot) dots_are))
