-- Alternatives and nonterminals, built one after the other.
use Rattle.std.proofs.Common.{◌≡◌, ℕ, suc, ◌+◌, ◌-◌, ◌<◌, ◌≤◌, List, [], ◌∷◌, ◌++◌, length, refl, sym, ap, ap₂, ◌∙◌, arith, drop, get_or, Bool, true, false, if◌then◌else◌, length-append, length-drop, append_assoc, take}
use Rattle.std.proofs.lemmas.List.{drop_more, take_more, length-take-le, append-nil}
use Rattle.ig_grammar.specs.Numbering.{alternatives, tag_of}
use Rattle.ig_grammar.specs.declared.symbol.Alt.{Alt}
use Rattle.ig_grammar.specs.declared.declaration.Level.{Level}
use Rattle.ig_grammar.specs.declared.declaration.Decl.{Decl}
use Rattle.ig_grammar.specs.declared.place.Shape.{Shape}
use Rattle.ig_item.specs.Step.{Step}
use Rattle.ig_item.specs.declared.core_grammar.Nonterminal.{Nonterminal}
use Rattle.ig_item.specs.declared.core_grammar.CoreAlt.{CoreAlt}
use Rattle.ig_item.specs.Limits.{most_dots}
use Rattle.ig_core.specs.Steps.{steps_of}
use Rattle.ig_core.specs.CoreOf.{shaped, unrooted, alternative_of, alternatives_of, nonterminal_of, nonterminals_of}
use Rattle.ig_pass.specs.Rooted.{is_root}

-- the rest of a list, as its first member and what is behind that
pub rest_is : {X : Type 0} (xs : List X) (i : ℕ) (x : X) → i < length xs → x ≡ get_or xs i x → drop i xs ≡ x ∷ drop (i + 1) xs
rest_is xs i x within read = drop_more xs i x within ∙ ap (λ y. y ∷ drop (i + 1) xs) (sym read)

module _ (number : List ℕ → ℕ) where
  alts_split : (s : Shape) (n k m : ℕ) (xs ys : List Alt) → m ≡ k + length xs →
      alternatives_of number s n k (xs ++ ys) ≡ alternatives_of number s n k xs ++ alternatives_of number s n m ys
  alts_split s n k m [] ys e = let same : k ≡ m = omega (arith, e) in ap (λ (z : ℕ). alternatives_of number s n z ys) same
  alts_split s n k m (x ∷ xs) ys e =
      let next : m ≡ suc k + length xs = omega (arith, e) in
      ap (λ (z : List CoreAlt). alternative_of number s n k x ∷ z) (alts_split s n (suc k) m xs ys next)

  alts_length : (s : Shape) (n k : ℕ) (alts : List Alt) → length (alternatives_of number s n k alts) ≡ length alts
  alts_length s n k [] = refl
  alts_length s n k (alt ∷ alts) = ap suc (alts_length s n (suc k) alts)

  -- one alternative more is built
  pub alt_built : (s : Shape) (n : ℕ) (before after whole : List CoreAlt) (made : CoreAlt) (alts : List Alt) (i : ℕ) (alt : Alt) →
      before ++ alternatives_of number s n (suc (length before)) (drop i alts) ≡ whole → i < length alts → alt ≡ get_or alts i alt →
      after ≡ before ++ made ∷ [] → made ≡ alternative_of number s n (suc (length before)) alt →
      after ++ alternatives_of number s n (suc (length after)) (drop (i + 1) alts) ≡ whole
  alt_built s n before after whole made alts i alt have within read added is =
      let rest = drop (i + 1) alts in
      let l : length after ≡ suc (length before) =
      ap length added ∙ length-append before (made ∷ []) ∙ (let e : length before + 1 ≡ suc (length before) = omega arith in e) in
      ap (λ (z : ℕ). after ++ alternatives_of number s n (suc z) rest) l ∙
      ap (λ (z : List CoreAlt). z ++ alternatives_of number s n (suc (suc (length before))) rest) added ∙
      append_assoc before (made ∷ []) (alternatives_of number s n (suc (suc (length before))) rest) ∙
      ap (λ (z : CoreAlt). before ++ z ∷ alternatives_of number s n (suc (suc (length before))) rest) is ∙
      ap (λ (z : List Alt). before ++ alternatives_of number s n (suc (length before)) z) (sym (rest_is alts i alt within read)) ∙ have

  -- its number fits
  pub alt_fits : (s : Shape) (n : ℕ) (before first : List CoreAlt) (alts : List Alt) (i : ℕ) →
      before ++ alternatives_of number s n (suc (length before)) (drop i alts) ≡ first ++ alternatives_of number s n (suc (length first)) alts →
      i < length alts → length first + length alts ≤ most_dots → length before < most_dots
  alt_fits s n before first alts i have within few =
      let a : length (before ++ alternatives_of number s n (suc (length before)) (drop i alts)) ≡ length before + length (drop i alts) =
      length-append before (alternatives_of number s n (suc (length before)) (drop i alts)) ∙
      ap (λ (z : ℕ). length before + z) (alts_length s n (suc (length before)) (drop i alts)) in
      let b : length (first ++ alternatives_of number s n (suc (length first)) alts) ≡ length first + length alts =
      length-append first (alternatives_of number s n (suc (length first)) alts) ∙
      ap (λ (z : ℕ). length first + z) (alts_length s n (suc (length first)) alts) in
      let e = ap length have in
      let r : length (drop i alts) ≡ length alts - i = length-drop i alts in
      omega (arith, a, b, e, r, within, few)

  pub alt_is : (s : Shape) (n m k : ℕ) (alt : Alt) (t : Rattle.ig_text.specs.declared.tag.Tag.Tag) (steps : List Step) → m ≡ k → t ≡ tag_of s n m →
      steps ≡ steps_of number alt.symbols → record { tag = t; steps = steps } ≡ alternative_of number s n k alt
  alt_is s n m k alt t steps same tagged made =
      ap₂ (λ z w. record { tag = z; steps = w }) (tagged ∙ ap (tag_of s n) same) made

  -- one level more is built
  level_more : (s : Shape) (n : ℕ) (before after whole : List CoreAlt) (level : Level) (others : List Level) →
      before ++ alternatives_of number s n (suc (length before)) (alternatives (level ∷ others)) ≡ whole →
      after ≡ before ++ alternatives_of number s n (suc (length before)) level.alts →
      after ++ alternatives_of number s n (suc (length after)) (alternatives others) ≡ whole
  level_more s n before after whole level others have added =
      let built = alternatives_of number s n (suc (length before)) level.alts in
      let l : length after ≡ length before + length level.alts =
      ap length added ∙ length-append before built ∙ ap (λ (z : ℕ). length before + z) (alts_length s n (suc (length before)) level.alts) in
      let next : suc (length after) ≡ suc (length before) + length level.alts = omega (arith, l) in
      ap (λ (z : List CoreAlt). z ++ alternatives_of number s n (suc (length after)) (alternatives others)) added ∙
      append_assoc before built (alternatives_of number s n (suc (length after)) (alternatives others)) ∙
      ap (λ (z : List CoreAlt). before ++ z)
      (sym (alts_split s n (suc (length before)) (suc (length after)) level.alts (alternatives others) next)) ∙ have

  pub level_built : (s : Shape) (n : ℕ) (before after whole : List CoreAlt) (levels : List Level) (i : ℕ) (level : Level) (alts : List Alt) →
      before ++ alternatives_of number s n (suc (length before)) (alternatives (drop i levels)) ≡ whole → i < length levels →
      level ≡ get_or levels i level → alts ≡ level.alts → after ≡ before ++ alternatives_of number s n (suc (length before)) alts →
      after ++ alternatives_of number s n (suc (length after)) (alternatives (drop (i + 1) levels)) ≡ whole
  level_built s n before after whole levels i level alts have within read viewed added =
      level_more s n before after whole level (drop (i + 1) levels)
      (ap (λ (z : List Level). before ++ alternatives_of number s n (suc (length before)) (alternatives z)) (sym (rest_is levels i level within read)) ∙ have)
      (added ∙ ap (λ (z : List Alt). before ++ alternatives_of number s n (suc (length before)) z) viewed)

  pub level_fits : (s : Shape) (n : ℕ) (before : List CoreAlt) (levels : List Level) (i : ℕ) (level : Level) (alts : List Alt) →
      before ++ alternatives_of number s n (suc (length before)) (alternatives (drop i levels)) ≡ alternatives_of number s n 1 (alternatives levels) →
      i < length levels → level ≡ get_or levels i level → alts ≡ level.alts → length (alternatives levels) ≤ most_dots → length before + length alts ≤ most_dots
  level_fits s n before levels i level alts have within read viewed few =
      let rest = alternatives (drop i levels) in
      let a : length (before ++ alternatives_of number s n (suc (length before)) rest) ≡ length before + length rest =
      length-append before (alternatives_of number s n (suc (length before)) rest) ∙ ap (λ (z : ℕ). length before + z) (alts_length s n (suc (length before)) rest) in
      let b : length rest ≡ length level.alts + length (alternatives (drop (i + 1) levels)) =
      ap (λ (z : List Level). length (alternatives z)) (rest_is levels i level within read) ∙ length-append level.alts (alternatives (drop (i + 1) levels)) in
      let c : length (alternatives_of number s n 1 (alternatives levels)) ≡ length (alternatives levels) = alts_length s n 1 (alternatives levels) in
      let e = ap length have in
      let same : length alts ≡ length level.alts = ap length viewed in
      omega (arith, a, b, c, e, same, few)

  -- what is left of the declarations
  pub next_row : (decls : List Decl) (shapes : List Shape) (i : ℕ) (decl : Decl) (shape : Shape) → i < length decls → decl ≡ get_or decls i decl →
      i < length shapes → shape ≡ get_or shapes i shape →
      unrooted (drop i decls) (drop i shapes) ≡
      (if is_root shape then unrooted (drop (i + 1) decls) (drop (i + 1) shapes) else shaped decl shape ∷ unrooted (drop (i + 1) decls) (drop (i + 1) shapes))
  next_row decls shapes i decl shape within read within_shapes read_shape =
      ap₂ unrooted (rest_is decls i decl within read) (rest_is shapes i shape within_shapes read_shape)

  pub row_skipped : (decls : List Decl) (shapes : List Shape) (i : ℕ) (decl : Decl) (shape : Shape) (before whole : List Nonterminal) → i < length decls →
      decl ≡ get_or decls i decl → i < length shapes → shape ≡ get_or shapes i shape → is_root shape ≡ true →
      before ++ nonterminals_of number (length before) (unrooted (drop i decls) (drop i shapes)) ≡ whole →
      before ++ nonterminals_of number (length before) (unrooted (drop (i + 1) decls) (drop (i + 1) shapes)) ≡ whole
  row_skipped decls shapes i decl shape before whole within read within_shapes read_shape is have =
      ap (λ z. before ++ nonterminals_of number (length before) z)
      (sym (next_row decls shapes i decl shape within read within_shapes read_shape ∙
      ap (λ (b : Bool). if b then unrooted (drop (i + 1) decls) (drop (i + 1) shapes) else shaped decl shape ∷ unrooted (drop (i + 1) decls) (drop (i + 1) shapes)) is)) ∙ have

  pub row_built : (decls : List Decl) (shapes : List Shape) (i : ℕ) (decl : Decl) (shape : Shape) (before after whole : List Nonterminal) (made : Nonterminal) →
      i < length decls → decl ≡ get_or decls i decl → i < length shapes → shape ≡ get_or shapes i shape → is_root shape ≡ false →
      before ++ nonterminals_of number (length before) (unrooted (drop i decls) (drop i shapes)) ≡ whole → after ≡ before ++ made ∷ [] →
      made ≡ nonterminal_of number (length before) (shaped decl shape) →
      after ++ nonterminals_of number (length after) (unrooted (drop (i + 1) decls) (drop (i + 1) shapes)) ≡ whole
  row_built decls shapes i decl shape before after whole made within read within_shapes read_shape is have added made_is =
      let rest = unrooted (drop (i + 1) decls) (drop (i + 1) shapes) in
      let l : length after ≡ suc (length before) =
      ap length added ∙ length-append before (made ∷ []) ∙ (let e : length before + 1 ≡ suc (length before) = omega arith in e) in
      ap (λ (z : ℕ). after ++ nonterminals_of number z rest) l ∙
      ap (λ (z : List Nonterminal). z ++ nonterminals_of number (suc (length before)) rest) added ∙
      append_assoc before (made ∷ []) (nonterminals_of number (suc (length before)) rest) ∙
      ap (λ (z : Nonterminal). before ++ z ∷ nonterminals_of number (suc (length before)) rest) made_is ∙
      ap (λ z. before ++ nonterminals_of number (length before) z)
      (sym (next_row decls shapes i decl shape within read within_shapes read_shape ∙
      ap (λ (b : Bool). if b then rest else shaped decl shape ∷ rest) is)) ∙ have

-- the declarations up to one more
pub unrooted_push : (decls : List Decl) (shapes : List Shape) (d : Decl) (s : Shape) → length shapes ≡ length decls →
    unrooted (decls ++ d ∷ []) (shapes ++ s ∷ []) ≡ unrooted decls shapes ++ (if is_root s then [] else shaped d s ∷ [])
unrooted_push [] [] d s same = refl
unrooted_push [] (t ∷ shapes) d s same = cc
unrooted_push (e ∷ decls) [] d s same = cc
unrooted_push (e ∷ decls) (t ∷ shapes) d s same = go (is_root t) (unrooted_push decls shapes d s (let h : suc (length shapes) ≡ suc (length decls) = same in omega (arith, h)))
  where
    go : (b : Bool) → unrooted (decls ++ d ∷ []) (shapes ++ s ∷ []) ≡ unrooted decls shapes ++ (if is_root s then [] else shaped d s ∷ []) →
        (if b then unrooted (decls ++ d ∷ []) (shapes ++ s ∷ []) else shaped e t ∷ unrooted (decls ++ d ∷ []) (shapes ++ s ∷ [])) ≡
        (if b then unrooted decls shapes else shaped e t ∷ unrooted decls shapes) ++ (if is_root s then [] else shaped d s ∷ [])
    go true h = h
    go false h = ap (λ z. shaped e t ∷ z) h

pub more_taken : {X : Type 0} (xs : List X) (i : ℕ) (x r : X) → i < length xs → x ≡ get_or xs i r → take (i + 1) xs ≡ take i xs ++ x ∷ []
more_taken xs i x r within read = take_more xs i r within ∙ ap (λ z. take i xs ++ z ∷ []) (sym read)

-- one row more
pub row_taken : (decls : List Decl) (shapes : List Shape) (i : ℕ) (decl : Decl) (shape r : Shape) → length shapes ≡ length decls → i < length decls →
    decl ≡ get_or decls i decl → shape ≡ get_or shapes i r →
    unrooted (take (i + 1) decls) (take (i + 1) shapes) ≡ unrooted (take i decls) (take i shapes) ++ (if is_root shape then [] else shaped decl shape ∷ [])
row_taken decls shapes i decl shape r same within read read_shape =
    ap₂ unrooted (more_taken decls i decl decl within read) (more_taken shapes i shape r (omega (arith, same, within)) read_shape) ∙
    unrooted_push (take i decls) (take i shapes) decl shape
    (length-take-le i shapes (omega (arith, same, within)) ∙ sym (length-take-le i decls (omega (arith, within))))

pub row_passed : (decls : List Decl) (shapes : List Shape) (i : ℕ) (decl : Decl) (shape r : Shape) → length shapes ≡ length decls → i < length decls →
    decl ≡ get_or decls i decl → shape ≡ get_or shapes i r → is_root shape ≡ true →
    unrooted (take (i + 1) decls) (take (i + 1) shapes) ≡ unrooted (take i decls) (take i shapes)
row_passed decls shapes i decl shape r same within read read_shape is =
    row_taken decls shapes i decl shape r same within read read_shape ∙
    ap (λ (b : Bool). unrooted (take i decls) (take i shapes) ++ (if b then [] else shaped decl shape ∷ [])) is ∙ append-nil (unrooted (take i decls) (take i shapes))

pub row_added : (decls : List Decl) (shapes : List Shape) (i : ℕ) (decl : Decl) (shape r : Shape) → length shapes ≡ length decls → i < length decls →
    decl ≡ get_or decls i decl → shape ≡ get_or shapes i r → is_root shape ≡ false →
    unrooted (take (i + 1) decls) (take (i + 1) shapes) ≡ unrooted (take i decls) (take i shapes) ++ shaped decl shape ∷ []
row_added decls shapes i decl shape r same within read read_shape is =
    row_taken decls shapes i decl shape r same within read read_shape ∙
    ap (λ (b : Bool). unrooted (take i decls) (take i shapes) ++ (if b then [] else shaped decl shape ∷ [])) is

-- the loops over rows
pub count_more : (decls : List Decl) (shapes : List Shape) (i : ℕ) (decl : Decl) (r : Shape) (n m : ℕ) → length shapes ≡ length decls → i < length decls →
    decl ≡ get_or decls i decl → is_root (get_or shapes i r) ≡ false → n ≡ length (unrooted (take i decls) (take i shapes)) → m ≡ n + 1 →
    m ≡ length (unrooted (take (i + 1) decls) (take (i + 1) shapes))
count_more decls shapes i decl r n m same within read is have more =
    let a = ap length (row_added decls shapes i decl (get_or shapes i r) r same within read refl is) in
    let b = length-append (unrooted (take i decls) (take i shapes)) (shaped decl (get_or shapes i r) ∷ []) in
    omega (arith, a, b, have, more)

pub count_same : (decls : List Decl) (shapes : List Shape) (i : ℕ) (decl : Decl) (r : Shape) (n m : ℕ) → length shapes ≡ length decls → i < length decls →
    decl ≡ get_or decls i decl → is_root (get_or shapes i r) ≡ true → n ≡ length (unrooted (take i decls) (take i shapes)) → m ≡ n →
    m ≡ length (unrooted (take (i + 1) decls) (take (i + 1) shapes))
count_same decls shapes i decl r n m same within read is have more =
    more ∙ have ∙ ap length (sym (row_passed decls shapes i decl (get_or shapes i r) r same within read refl is))
