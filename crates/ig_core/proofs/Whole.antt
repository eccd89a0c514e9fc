-- The whole core grammar, put together.
use Rattle.std.proofs.Common.{◌≡◌, ℕ, zero, suc, ◌+◌, ◌<◌, ◌≤◌, List, [], ◌∷◌, ◌++◌, length, refl, sym, ap, ap₂, ◌∙◌, arith, Option, Some, None, subst, Contains}
use Rattle.std.specs.Prelude.{slice_get, sum_by}
use Rattle.std.proofs.Math.Path.{fun_ext}
use Rattle.std.proofs.lemmas.List.Sums.{sum_by-cons}
use Rattle.std.specs.BTreeMap.{BTreeMap}
use denote.Ref.{Bor}
use Rattle.ig_grammar.specs.Symbol.{Call}
use Rattle.ig_grammar.specs.Numbering.{alternatives, layout_among}
use Rattle.ig_meaning.specs.Permitted.{behind_layout}
use Rattle.ig_grammar.specs.Checked.{FitShapes}
use Rattle.ig_grammar.specs.declared.symbol.Alt.{Alt}
use Rattle.ig_grammar.specs.declared.declaration.Decl.{Decl}
use Rattle.ig_grammar.specs.declared.grammar.Grammar.{Grammar}
use Rattle.ig_grammar.specs.declared.place.Shape.{Shape}
use Rattle.ig_grammar.specs.declared.place.Shape.TheVariants.{Root}
use Rattle.ig_item.specs.Core.{dots, dots_of_nonterminal, dots_of_alternative}
use Rattle.ig_item.specs.declared.core_grammar.Nonterminal.{Nonterminal}
use Rattle.ig_core.specs.Tables.{given, number_by, found_from, Numbers}
use Rattle.ig_core.specs.CoreOf.{Shaped, shaped, unrooted, place, number_in, number_of, nonterminal_of, nonterminals_of, alternative_of, alternatives_of, core_of, root_of, root_among, written_root, start_symbols, call_of}
use Rattle.ig_pass.specs.Rooted.{is_root}
use Rattle.ig_core.specs.Steps.{step_of, steps_of}
use Rattle.std.specs.Prelude.{if◌then◌else◌, MatchOption, is_some}
use Rattle.std.specs.Bool.{Decides}
use Rattle.std.proofs.Common.{Bool, true, false, drop, get_or, take}
use Rattle.std.proofs.lemmas.List.{length-map, drop_more, take_more}
use Rattle.std.proofs.lemmas.List.Sums.{sum_by-append}
use Rattle.std.proofs.lemmas.Option.{same_Some}
use Rattle.ig_grammar.specs.declared.declaration.Level.{Level}
use Rattle.ig_core.specs.Dots.{alt_dots, level_dots, decl_dots, row_dots, row}
use Rattle.ig_item.specs.Limits.{most_dots}
use Rattle.ig_text.specs.Words.{is_word}
use Rattle.ig_text.proofs.Lists.{at_from_contains}
use Rattle.ig_text.proofs.Pairwise.{beside}
use Rattle.std.specs.Option.{unwrap_or}

-- the number of a name is that of the table
number_from : (n past : ℕ) (all : List Shaped) (name : List ℕ) → past ≡ n + length all → given (found_from n all name) past ≡ n + place all name
number_from n past [] name is = is
number_from n past (x ∷ all) name is = go (is_word x.decl.name name) (number_from (suc n) past all name (omega (arith, is)))
  where
    go : (b : Bool) → given (found_from (suc n) all name) past ≡ suc n + place all name →
        given (if b then Some n else found_from (suc n) all name) past ≡ n + (if b then 0 else suc (place all name))
    go true h = omega arith
    go false h = h ∙ (let e : suc n + place all name ≡ n + suc (place all name) = omega arith in e)

pub number_is : (table : BTreeMap (Bor (List ℕ)) ℕ) (past : ℕ) (all : List Shaped) → Numbers table all → past ≡ suc (length all) → (name : List ℕ) →
    number_by table past name ≡ number_in all name
number_is table past all numbers is name =
    ap (λ o. given o past) (numbers name) ∙ number_from 1 past all name (omega (arith, is)) ∙ (let e : 1 + place all name ≡ suc (place all name) = omega arith in e)

-- the table is the numbering
pub numbering : (g : Grammar) (shapes : List Shape) (table : BTreeMap (Bor (List ℕ)) ℕ) (past : ℕ) → Numbers table (unrooted g.decls shapes) →
    past ≡ suc (length (unrooted g.decls shapes)) → number_by table past ≡ number_of g shapes
numbering g shapes table past numbers is = fun_ext (number_is table past (unrooted g.decls shapes) numbers is)

pub core_is : (g : Grammar) (shapes : List Shape) (number : List ℕ → ℕ) (root : Nonterminal) (whole : List Nonterminal) → number ≡ number_of g shapes →
    root ≡ nonterminal_of number 0 (shaped (root_of g shapes) Root) → whole ≡ root ∷ nonterminals_of number 1 (unrooted g.decls shapes) → whole ≡ core_of g shapes
core_is g shapes number root whole same first all =
    all ∙ ap (λ z. z ∷ nonterminals_of number 1 (unrooted g.decls shapes)) first ∙
    ap (λ n. nonterminal_of n 0 (shaped (root_of g shapes) Root) ∷ nonterminals_of n 1 (unrooted g.decls shapes)) same

pub built_whole : (g : Grammar) (shapes : List Shape) (decls : List Decl) (table : BTreeMap (Bor (List ℕ)) ℕ) (cnt past : ℕ) (root : Nonterminal)
    (a b whole result : List Nonterminal) → decls ≡ g.decls → Numbers table (unrooted decls shapes) → cnt ≡ length (unrooted decls shapes) → past ≡ cnt + 1 →
    root ≡ nonterminal_of (number_by table past) 0 (shaped (root_of g shapes) Root) → a ≡ [] → b ≡ a ++ root ∷ [] →
    whole ≡ b ++ nonterminals_of (number_by table past) (length b) (unrooted decls shapes) → result ≡ whole → result ≡ core_of g shapes
built_whole g shapes decls table cnt past root a b whole result same numbers counted is_past first empty pushed all is =
    let b_is : b ≡ root ∷ [] = pushed ∙ ap (λ z. z ++ root ∷ []) empty in
    let past_is : past ≡ suc (length (unrooted decls shapes)) = omega (arith, counted, is_past) in
    core_is g shapes (number_by table past) root result
    (numbering g shapes table past (subst (λ z. Numbers table (unrooted z shapes)) same numbers) (past_is ∙ ap (λ z. suc (length (unrooted z shapes))) same)) first
    (is ∙ all ∙ ap (λ z. z ++ nonterminals_of (number_by table past) (length z) (unrooted decls shapes)) b_is ∙
    ap (λ z. root ∷ nonterminals_of (number_by table past) 1 (unrooted z shapes)) same)

-- the dots, from those of declarations
dots_made : (number : List ℕ → ℕ) (s : Shape) (n k : ℕ) (alts : List Alt) → sum_by dots_of_alternative (alternatives_of number s n k alts) ≡ sum_by alt_dots alts
dots_made number s n k [] = refl
dots_made number s n k (alt ∷ alts) =
    let h = dots_made number s n (suc k) alts in
    let l : length (steps_of number alt.symbols) ≡ length alt.symbols = length-map alt.symbols (step_of number) in
    let i : sum_by dots_of_alternative (alternatives_of number s n k (alt ∷ alts)) ≡ length (steps_of number alt.symbols) + 1 + sum_by dots_of_alternative (alternatives_of number s n (suc k) alts) =
    sum_by-cons dots_of_alternative (alternative_of number s n k alt) (alternatives_of number s n (suc k) alts) in
    let j : sum_by alt_dots (alt ∷ alts) ≡ length alt.symbols + 1 + sum_by alt_dots alts = sum_by-cons alt_dots alt alts in
    omega (arith, h, l, i, j)

dots_by_level : (levels : List Level) → sum_by alt_dots (alternatives levels) ≡ sum_by level_dots levels
dots_by_level [] = refl
dots_by_level (level ∷ others) =
    let h = dots_by_level others in
    let e : sum_by alt_dots (level.alts ++ alternatives others) ≡ sum_by alt_dots level.alts + sum_by alt_dots (alternatives others) =
    sum_by-append alt_dots level.alts (alternatives others) in
    let f : sum_by level_dots (level ∷ others) ≡ sum_by alt_dots level.alts + sum_by level_dots others = sum_by-cons level_dots level others in
    omega (arith, h, e, f)

dots_of_row : (number : List ℕ → ℕ) (n : ℕ) (x : Shaped) → dots_of_nonterminal (nonterminal_of number n x) ≡ row_dots x
dots_of_row number n x = dots_made number x.shape n 1 (alternatives x.decl.levels) ∙ dots_by_level x.decl.levels

dots_of_rows : (number : List ℕ → ℕ) (n : ℕ) (all : List Shaped) → dots (nonterminals_of number n all) ≡ sum_by row_dots all
dots_of_rows number n [] = refl
dots_of_rows number n (x ∷ all) =
    let h = dots_of_rows number (suc n) all in
    let a = dots_of_row number n x in
    let i : dots (nonterminals_of number n (x ∷ all)) ≡ dots_of_nonterminal (nonterminal_of number n x) + dots (nonterminals_of number (suc n) all) =
    sum_by-cons dots_of_nonterminal (nonterminal_of number n x) (nonterminals_of number (suc n) all) in
    let j : sum_by row_dots (x ∷ all) ≡ row_dots x + sum_by row_dots all = sum_by-cons row_dots x all in
    omega (arith, h, a, i, j)

pub dots_are : (g : Grammar) (shapes : List Shape) → dots (core_of g shapes) ≡ decl_dots (root_of g shapes) + sum_by row_dots (unrooted g.decls shapes)
dots_are g shapes =
    dots_of_rows (number_of g shapes) 0 (shaped (root_of g shapes) Root ∷ unrooted g.decls shapes) ∙
    sum_by-cons row_dots (shaped (root_of g shapes) Root) (unrooted g.decls shapes)

-- a declaration has no more alternatives than dots
alts_within : (alts : List Alt) → length alts ≤ sum_by alt_dots alts
alts_within [] = omega arith
alts_within (alt ∷ alts) =
    let i : length alts ≤ sum_by alt_dots alts = alts_within alts in
    let j : sum_by alt_dots (alt ∷ alts) ≡ length alt.symbols + 1 + sum_by alt_dots alts = sum_by-cons alt_dots alt alts in
    omega (arith, i, j)

few_by : (decl : Decl) → length (alternatives decl.levels) ≤ decl_dots decl
few_by decl =
    let a : length (alternatives decl.levels) ≤ sum_by alt_dots (alternatives decl.levels) = alts_within (alternatives decl.levels) in
    let b : sum_by alt_dots (alternatives decl.levels) ≡ decl_dots decl = dots_by_level decl.levels in
    omega (arith, a, b)

-- and one that doesn't stand for the root has no more dots than all of them
row_within : (decls : List Decl) (shapes : List Shape) (k : ℕ) (decl : Decl) (s : Shape) → slice_get decls k ≡ Some decl → slice_get shapes k ≡ Some s →
    is_root s ≡ false → decl_dots decl ≤ sum_by row_dots (unrooted decls shapes)
row_within [] shapes k decl s e f other = cc
row_within (d ∷ decls) [] k decl s e f other = cc
row_within (d ∷ decls) (t ∷ shapes) zero decl s e f other = go (is_root t) (ap is_root (same_Some t s f) ∙ other)
  where
    go : (b : Bool) → b ≡ false → decl_dots decl ≤ sum_by row_dots (if b then unrooted decls shapes else shaped d t ∷ unrooted decls shapes)
    go true is = cc
    go false is =
        let same : decl_dots d ≡ decl_dots decl = ap decl_dots (same_Some d decl e) in
        let j : sum_by row_dots (shaped d t ∷ unrooted decls shapes) ≡ decl_dots d + sum_by row_dots (unrooted decls shapes) =
        sum_by-cons row_dots (shaped d t) (unrooted decls shapes) in
        omega (arith, same, j)
row_within (d ∷ decls) (t ∷ shapes) (suc k) decl s e f other = go (is_root t) (row_within decls shapes k decl s e f other)
  where
    go : (b : Bool) → decl_dots decl ≤ sum_by row_dots (unrooted decls shapes) →
        decl_dots decl ≤ sum_by row_dots (if b then unrooted decls shapes else shaped d t ∷ unrooted decls shapes)
    go true h = h
    go false h =
        let j : sum_by row_dots (shaped d t ∷ unrooted decls shapes) ≡ decl_dots d + sum_by row_dots (unrooted decls shapes) =
        sum_by-cons row_dots (shaped d t) (unrooted decls shapes) in
        omega (arith, h, j)

pub few_root : (g : Grammar) (shapes : List Shape) → dots (core_of g shapes) ≤ most_dots → length (alternatives (root_of g shapes).levels) ≤ most_dots
few_root g shapes few =
    let a = few_by (root_of g shapes) in
    let e = dots_are g shapes in
    omega (arith, a, e, few)

pub few_each : (g : Grammar) (shapes : List Shape) → FitShapes g shapes → dots (core_of g shapes) ≤ most_dots → (decl : Decl) → Contains g.decls decl →
    length (alternatives decl.levels) ≤ most_dots
few_each g shapes fit few decl among =
    let at = at_from_contains g.decls decl among in
    let shape = beside g.decls shapes at.0 decl fit.counted at.1 in
    go at.0 at.1 shape.0 shape.1
  where
    other : (k : ℕ) → slice_get g.decls k ≡ Some decl → (s : Shape) → slice_get shapes k ≡ Some s → is_root s ≡ false → length (alternatives decl.levels) ≤ most_dots
    other k e s f differs =
        let a = few_by decl in
        let b = row_within g.decls shapes k decl s e f differs in
        let all = dots_are g shapes in
        omega (arith, a, b, all, few)

    go : (k : ℕ) → slice_get g.decls k ≡ Some decl → (s : Shape) → slice_get shapes k ≡ Some s → length (alternatives decl.levels) ≤ most_dots
    go k e Root f = let one : length (alternatives decl.levels) ≡ 1 = (fit.each k decl Root e f).count in omega (arith, one)
    go k e s f = other k e s f refl

-- one alternative more
pub dots_more : (alts : List Alt) (i : ℕ) (alt : Alt) (before dots symbols : ℕ) → i < length alts → alt ≡ get_or alts i alt →
    dots ≡ before + sum_by alt_dots (take i alts) → symbols ≡ length alt.symbols → dots + (symbols + 1) ≡ before + sum_by alt_dots (take (i + 1) alts)
dots_more alts i alt before dots symbols within read have is =
    let a = ap (sum_by alt_dots) (take_more alts i alt within ∙ ap (λ z. take i alts ++ z ∷ []) (sym read)) in
    let b = sum_by-append alt_dots (take i alts) (alt ∷ []) in
    let e : sum_by alt_dots (alt ∷ []) ≡ 0 + (length alt.symbols + 1) = refl in
    omega (arith, a, b, e, have, is)

left : (decls : List Decl) (shapes : List Shape) (i : ℕ) (decl : Decl) (r : Shape) → length shapes ≡ length decls → i < length decls →
    decl ≡ get_or decls i decl →
    unrooted (drop i decls) (drop i shapes) ≡
    (if is_root (get_or shapes i r) then unrooted (drop (i + 1) decls) (drop (i + 1) shapes) else shaped decl (get_or shapes i r) ∷ unrooted (drop (i + 1) decls) (drop (i + 1) shapes))
left decls shapes i decl r same within read =
    ap₂ unrooted (drop_more decls i decl within ∙ ap (λ z. z ∷ drop (i + 1) decls) (sym read)) (drop_more shapes i r (omega (arith, same, within)))

-- one row of the sum
pub sum_passed : (decls : List Decl) (shapes : List Shape) (i : ℕ) (decl : Decl) (r : Shape) → length shapes ≡ length decls → i < length decls →
    decl ≡ get_or decls i decl → is_root (get_or shapes i r) ≡ true →
    sum_by row_dots (unrooted (drop i decls) (drop i shapes)) ≡ sum_by row_dots (unrooted (drop (i + 1) decls) (drop (i + 1) shapes))
sum_passed decls shapes i decl r same within read is =
    ap (sum_by row_dots) (left decls shapes i decl r same within read ∙
    ap (λ (b : Bool). if b then unrooted (drop (i + 1) decls) (drop (i + 1) shapes) else shaped decl (get_or shapes i r) ∷ unrooted (drop (i + 1) decls) (drop (i + 1) shapes)) is)

pub sum_more : (decls : List Decl) (shapes : List Shape) (i : ℕ) (decl : Decl) (r : Shape) → length shapes ≡ length decls → i < length decls →
    decl ≡ get_or decls i decl → is_root (get_or shapes i r) ≡ false →
    sum_by row_dots (unrooted (drop i decls) (drop i shapes)) ≡ decl_dots decl + sum_by row_dots (unrooted (drop (i + 1) decls) (drop (i + 1) shapes))
sum_more decls shapes i decl r same within read is =
    ap (sum_by row_dots) (left decls shapes i decl r same within read ∙
    ap (λ (b : Bool). if b then unrooted (drop (i + 1) decls) (drop (i + 1) shapes) else shaped decl (get_or shapes i r) ∷ unrooted (drop (i + 1) decls) (drop (i + 1) shapes)) is) ∙
    sum_by-cons row_dots (shaped decl (get_or shapes i r)) (unrooted (drop (i + 1) decls) (drop (i + 1) shapes))

pub row_sum : (decls : List Decl) (shapes : List Shape) (i : ℕ) (decl : Decl) (r : Shape) → length shapes ≡ length decls → i < length decls →
    decl ≡ get_or decls i decl →
    sum_by row_dots (unrooted (drop i decls) (drop i shapes)) ≡
    sum_by row_dots (row decl (get_or shapes i r)) + sum_by row_dots (unrooted (drop (i + 1) decls) (drop (i + 1) shapes))
row_sum decls shapes i decl r same within read = ap (sum_by row_dots) (left decls shapes i decl r same within read) ∙ go (is_root (get_or shapes i r))
  where
    go : (b : Bool) → sum_by row_dots (if b then unrooted (drop (i + 1) decls) (drop (i + 1) shapes) else shaped decl (get_or shapes i r) ∷ unrooted (drop (i + 1) decls) (drop (i + 1) shapes)) ≡
        sum_by row_dots (if b then [] else shaped decl (get_or shapes i r) ∷ []) + sum_by row_dots (unrooted (drop (i + 1) decls) (drop (i + 1) shapes))
    go true = let e : sum_by row_dots [] ≡ 0 = refl in omega (arith, e)
    go false =
        sum_by-append row_dots (shaped decl (get_or shapes i r) ∷ []) (unrooted (drop (i + 1) decls) (drop (i + 1) shapes))

pub made_root_dots : (g : Grammar) → layout_among g.decls ≡ None → decl_dots (written_root g) ≡ length (call_of g.start) + 1
made_root_dots g none =
    let a : decl_dots (written_root g) ≡ 0 + (0 + (length (start_symbols g g.start) + 1)) = refl in
    let b = go g.start in
    omega (arith, a, b)
  where
    go : (o : Option (List ℕ)) → length (start_symbols g o) ≡ length (call_of o)
    go None = refl
    go (Some start) = ap (λ z. length (behind_layout z (Call start [] ∷ []))) none

pub root_dots_none : (g : Grammar) (shapes : List Shape) → root_among g.decls shapes ≡ None → layout_among g.decls ≡ None →
    decl_dots (root_of g shapes) ≡ length (call_of g.start) + 1
root_dots_none g shapes none no_layout = ap (λ o. decl_dots (unwrap_or o (written_root g))) none ∙ made_root_dots g no_layout

pub root_dots_some : (g : Grammar) (shapes : List Shape) (decl : Decl) → root_among g.decls shapes ≡ Some decl → decl_dots (root_of g shapes) ≡ decl_dots decl
root_dots_some g shapes decl some = ap (λ o. decl_dots (unwrap_or o (written_root g))) some

pub few_call : (start : Option (List ℕ)) → length (call_of start) + 1 ≤ most_dots
few_call None = omega arith
few_call (Some s) = omega arith

pub few_some : (g : Grammar) (shapes : List Shape) (decls : List Decl) (n : ℕ) (o : Option ℕ) (b : Bool) → decls ≡ g.decls → n ≡ decl_dots (root_of g shapes) →
    MatchOption o (most_dots < n + sum_by row_dots (unrooted decls shapes)) (λ m. (m ≡ n + sum_by row_dots (unrooted decls shapes)) × (m ≤ most_dots)) → b ≡ is_some o →
    Decides b (dots (core_of g shapes) ≤ most_dots)
few_some g shapes decls n None b same root many is =
    let e = dots_are g shapes in
    let f = ap (λ z. sum_by row_dots (unrooted z shapes)) same in
    let no : b ≡ false = is in
    ((λ yes. cc), (λ few. absurd (omega (arith, e, f, root, many, few))))
few_some g shapes decls n (Some m) b same root counted is =
    let e = dots_are g shapes in
    let f = ap (λ z. sum_by row_dots (unrooted z shapes)) same in
    let p = counted.0 in
    let q = counted.1 in
    ((λ yes. omega (arith, e, f, root, p, q)), (λ few. is))

pub few_none : (g : Grammar) (shapes : List Shape) → most_dots < decl_dots (root_of g shapes) → Decides false (dots (core_of g shapes) ≤ most_dots)
few_none g shapes many = let e = dots_are g shapes in ((λ yes. cc), (λ few. absurd (omega (arith, e, many, few))))
