-- What becomes of options, lists and groups, with what becomes of their parts.
use Rattle.std.proofs.Common.{◌≡◌, ◌∙◌, ℕ, zero, suc, Bool, true, false, List, [], ◌∷◌, ◌++◌, Some, refl, ap, subst}
use Rattle.ig_text.specs.declared.tag.Tag.{Tag}
use Rattle.ig_grammar.specs.Binding.{Binding}
use Rattle.ig_grammar.specs.Numbering.{IsChoice, choice}
use Rattle.ig_grammar.specs.Symbol.{Symbol, Opt, Star, Plus, SepStar, SepPlus, Group, Filtered, Seq, Entry}
use Rattle.ig_grammar.specs.Symbol.{Symbols, listed, Alternatives}
use Rattle.ig_grammar.specs.declared.declaration.DeclKind.{DeclKind}
use Rattle.ig_meaning.specs.Annotated.{HasParts}
use Rattle.ig_meaning.specs.Annotated as a
use Rattle.ig_blocks_parts.specs.Setting as setting
use Rattle.ig_blocks_parts.specs.Setting.{Setting, Pair, pair_bindings, column_bindings}
use Rattle.ig_blocks_parts.proofs.Reading.{IsSteady, bare, pair_in, is_aligned}
use Rattle.ig_blocks_parts.proofs.Lowered as low
use Rattle.ig_blocks_parts.proofs.Lowered.{Lowered, Item, Covered, Choices}

-- a list, or filters round one
abbrev MayBeAligned : Symbol → Type 0
MayBeAligned (Opt x) = Unit {0}
MayBeAligned (Star x) = Unit {0}
MayBeAligned (Plus x) = Unit {0}
MayBeAligned (SepStar x separator) = Unit {0}
MayBeAligned (SepPlus x separator) = Unit {0}
MayBeAligned (Group choices) = Unit {0}
MayBeAligned (Filtered x filters) = Unit {0}
MayBeAligned x = ⊥

module _ (s : Setting) (c : DeclKind) where
  -- the lowered alternative of a group
  pub record Chosen (p : Pair) (k : ℕ) (xs : Symbols) (cs : Alternatives) : Type 0 where
    pub symbols : Symbols
    pub chosen : IsChoice cs k symbols
    pub covered : Covered s c p (listed xs) (listed symbols)

  pub choose : (p : Pair) (cs ds : Alternatives) (before k : ℕ) (xs : Symbols) → Choices s c p cs ds → k ≡ suc before → choice cs before ≡ Some xs →
      Chosen p k xs ds
  choose p cs ds before k xs (low.no_choices p2) is e = absurd (cc)
  choose p cs ds zero k xs (low.next_choice p2 ys zs others more2 first rest) is e =
      let same : ys ≡ xs = cc in
      record { symbols = zs; chosen = (0, is, refl); covered = subst (λ q. Covered s c p (listed q) (listed zs)) same first }
  choose p cs ds (suc before) k xs (low.next_choice p2 ys zs others more2 first rest) is e =
      let r = choose p others more2 before (suc before) xs rest refl e in
      record { symbols = r.symbols; chosen = (suc (r.chosen.0), is ∙ ap suc r.chosen.1, r.chosen.2); covered = r.covered }

  -- an option, a list or a group in place; the items of an aligned list are tested
  pub data Whole (p : Pair) : Bool → Symbol → Symbol → Type 0 where
    option : (x y : Symbol) → Item s c false p x y → Whole p false (Opt x) (Opt y)
    stars : (al : Bool) (x y : Symbol) → Item s c al p x y → Whole p al (Star x) (Star y)
    pluses : (al : Bool) (x y : Symbol) → Item s c al p x y → Whole p al (Plus x) (Plus y)
    sep_stars : (al : Bool) (x y separator other : Symbol) → Item s c al p x y → Item s c false p separator other →
        Whole p al (SepStar x separator) (SepStar y other)
    sep_pluses : (al : Bool) (x y separator other : Symbol) → Item s c al p x y → Item s c false p separator other →
        Whole p al (SepPlus x separator) (SepPlus y other)
    group : (choices others : Alternatives) → Choices s c p choices others → Whole p false (Group choices) (Group others)

  -- a part of one is a list in place, or stands with its tests
  pub data Part (p : Pair) : Symbol → Symbol → Type 0 where
    itself : (al : Bool) (x y : Symbol) → Whole p al x y → Part p x y
    item : (al : Bool) (x y : Symbol) → Item s c al p x y → Part p x y

  pub data Parts (p : Pair) : List Symbol → List Symbol → Type 0 where
    no_parts : Parts p [] []
    more_parts : (x y : Symbol) (xs ys : List Symbol) → Part p x y → Parts p xs ys → Parts p (x ∷ xs) (y ∷ ys)

  one_part : (p : Pair) (x y : Symbol) → Part p x y → Parts p (x ∷ []) (y ∷ [])
  one_part p x y part = more_parts x y [] [] part no_parts

  two_parts : (p : Pair) (x y z w : Symbol) → Part p x y → Part p z w → Parts p (x ∷ z ∷ []) (y ∷ w ∷ [])
  two_parts p x y z w first second = more_parts x y (z ∷ []) (w ∷ []) first (one_part p z w second)

  pub record PartsTo (p : Pair) (parts : List Symbol) (y : Symbol) (form : Tag) : Type 0 where
    pub others : List Symbol
    pub has : HasParts y form others
    pub each : Parts p parts others

  pub parts_to : (al : Bool) (p : Pair) (y : Symbol) {x : Symbol} {form : Tag} {parts : List Symbol} → HasParts x form parts → IsSteady p → Whole p al x y →
      PartsTo p parts y form
  parts_to al p y (a.absent x) steady (option x2 z it) = record { others = []; has = a.absent z; each = no_parts }
  parts_to al p y (a.present x) steady (option x2 z it) = record { others = z ∷ []; has = a.present z; each = one_part p x z (item false x z it) }
  parts_to al p y (a.nil x) steady (stars al2 x2 z it) = record { others = []; has = a.nil z; each = no_parts }
  parts_to al p y (a.snoc x) steady (stars al2 x2 z it) =
      record { others = Star z ∷ z ∷ []; has = a.snoc z; each = two_parts p (Star x) (Star z) x z (itself al (Star x) (Star z) (stars al x z it)) (item al x z it) }
  parts_to al p y (a.one_item x) steady (pluses al2 x2 z it) = record { others = z ∷ []; has = a.one_item z; each = one_part p x z (item al x z it) }
  parts_to al p y (a.more_items x) steady (pluses al2 x2 z it) =
      record { others = Plus z ∷ z ∷ []; has = a.more_items z; each = two_parts p (Plus x) (Plus z) x z (itself al (Plus x) (Plus z) (pluses al x z it)) (item al x z it) }
  parts_to al p y (a.first_item x sep) steady (sep_pluses al2 x2 z sep2 w it it2) =
      record { others = z ∷ []; has = a.first_item z w; each = one_part p x z (item al x z it) }
  parts_to al p y (a.further_item x sep) steady (sep_pluses al2 x2 z sep2 w it it2) =
      record {
        others = SepPlus z w ∷ w ∷ z ∷ [];
        has = a.further_item z w;
        each = more_parts (SepPlus x sep) (SepPlus z w) (sep ∷ x ∷ []) (w ∷ z ∷ []) (itself al (SepPlus x sep) (SepPlus z w) (sep_pluses al x z sep w it it2))
            (two_parts p sep w x z (item false sep w it2) (item al x z it));
      }
  parts_to al p y (a.no_item x sep) steady (sep_stars al2 x2 z sep2 w it it2) = record { others = []; has = a.no_item z w; each = no_parts }
  parts_to al p y (a.some_items x sep) steady (sep_stars al2 x2 z sep2 w it it2) =
      record {
        others = SepPlus z w ∷ [];
        has = a.some_items z w;
        each = one_part p (SepPlus x sep) (SepPlus z w) (itself al (SepPlus x sep) (SepPlus z w) (sep_pluses al x z sep w it it2));
      }
  parts_to al p y (a.chosen choices k xs chosen) steady (group choices2 others ch) =
      let w = choose p choices others chosen.0 k xs ch chosen.1 chosen.2 in
      record {
        others = Seq w.symbols ∷ [];
        has = a.chosen others k w.symbols w.chosen;
        each = one_part p (Seq xs) (Seq w.symbols) (item false (Seq xs) (Seq w.symbols)
            (low.item false p (Seq xs) (Seq w.symbols) (Seq w.symbols) [] (low.seq p xs w.symbols steady w.covered) refl));
      }

  -- in place under a pair that is handed down, or with bindings
  pub data Boxed (al : Bool) (p : Pair) (x y : Symbol) : Type 0 where
    in_place : IsSteady p → Whole p al x y → Boxed al p x y
    in_box : (bs : List Binding) (z : Symbol) → Whole (setting.inner p) al x z → bs ≡ pair_bindings s p ++ column_bindings s al → y ≡ Entry bs z →
        Boxed al p x y

  -- before an option, a list or a group stands no test
  pub boxed : {al : Bool} {p : Pair} {x y : Symbol} {gs : List Symbol} {form : Tag} {parts : List Symbol} → HasParts x form parts →
      Lowered s c al p x gs y → (gs ≡ []) × Boxed al p x y
  boxed has (low.literal p word gs proper tests) = elim has [ ]
  boxed has (low.one_of p class gs proper tests) = elim has [ ]
  boxed has (low.token p name arguments gs known read proper tests) = elim has [ ]
  boxed has (low.call p name arguments more kind known other into handed read is) = elim has [ ]
  boxed has (low.label p name x y gs written inside) = elim has [ ]
  boxed has (low.guard p e read) = elim has [ ]
  boxed has (low.let_be p name e written read) = elim has [ ]
  boxed has (low.opt_in p x y steady it) = (refl, in_place steady (option x y it))
  boxed has (low.star_in p x y steady it) = (refl, in_place steady (stars false x y it))
  boxed has (low.plus_in p x y steady it) = (refl, in_place steady (pluses false x y it))
  boxed has (low.sep_star_in p x y sep other steady it it2) = (refl, in_place steady (sep_stars false x y sep other it it2))
  boxed has (low.sep_plus_in p x y sep other steady it it2) = (refl, in_place steady (sep_pluses false x y sep other it it2))
  boxed has (low.group_in p choices others steady ch) = (refl, in_place steady (group choices others ch))
  boxed has (low.opt_box p bs x y it is) = (refl, in_box bs (Opt y) (option x y it) is refl)
  boxed has (low.star_box al p bs x y it is) = (refl, in_box bs (Star y) (stars al x y it) is refl)
  boxed has (low.plus_box al p bs x y it is) = (refl, in_box bs (Plus y) (pluses al x y it) is refl)
  boxed has (low.sep_star_box al p bs x y sep other it it2 is) = (refl, in_box bs (SepStar y other) (sep_stars al x y sep other it it2) is refl)
  boxed has (low.sep_plus_box al p bs x y sep other it it2 is) = (refl, in_box bs (SepPlus y other) (sep_pluses al x y sep other it it2) is refl)
  boxed has (low.group_box p bs choices others ch is) = (refl, in_box bs (Group others) (group choices others ch) is refl)
  boxed has (low.filtered p x y filters gs inside) = elim has [ ]
  boxed has (low.filtered_list p x y filters gs inside) = elim has [ ]
  boxed has (low.seq p xs ys steady covered) = elim has [ ]
  boxed has (low.entry p bindings more x y read inside is) = elim has [ ]

  -- none of them is a mark
  pub unmarked : {p : Pair} {x y : Symbol} {gs : List Symbol} {form : Tag} {parts : List Symbol} → HasParts x form parts →
      Lowered s c (is_aligned x) (pair_in s p x) (bare x) gs y → Lowered s c false p x gs y
  unmarked (a.absent x) l = l
  unmarked (a.present x) l = l
  unmarked (a.nil x) l = l
  unmarked (a.snoc x) l = l
  unmarked (a.one_item x) l = l
  unmarked (a.more_items x) l = l
  unmarked (a.first_item x separator) l = l
  unmarked (a.further_item x separator) l = l
  unmarked (a.no_item x separator) l = l
  unmarked (a.some_items x separator) l = l
  unmarked (a.chosen choices k xs chosen) l = l

  -- directly under `align`, or a list that is a part of a list
  pub data Listed (p : Pair) : Symbol → List Symbol → Symbol → Type 0 where
    aligned : (x y : Symbol) (gs : List Symbol) → Lowered s c true p x gs y → Listed p x gs y
    part : (al : Bool) (x y : Symbol) → IsSteady p → Whole p al x y → Listed p x [] y

  pub listed_form : {p : Pair} {x y : Symbol} {gs : List Symbol} → Listed p x gs y → MayBeAligned x
  listed_form (aligned _ _ _ (low.star_box al p bs x y it is)) = tt
  listed_form (aligned _ _ _ (low.plus_box al p bs x y it is)) = tt
  listed_form (aligned _ _ _ (low.sep_star_box al p bs x y sep other it it2 is)) = tt
  listed_form (aligned _ _ _ (low.sep_plus_box al p bs x y sep other it it2 is)) = tt
  listed_form (aligned _ _ _ (low.filtered_list p x y filters gs inside)) = tt
  listed_form (part al _ _ steady (option x y it)) = tt
  listed_form (part al _ _ steady (stars al2 x y it)) = tt
  listed_form (part al _ _ steady (pluses al2 x y it)) = tt
  listed_form (part al _ _ steady (sep_stars al2 x y sep other it it2)) = tt
  listed_form (part al _ _ steady (sep_pluses al2 x y sep other it it2)) = tt
  listed_form (part al _ _ steady (group choices others ch)) = tt

  pub listed_box : {p : Pair} {x y : Symbol} {gs : List Symbol} {form : Tag} {parts : List Symbol} → HasParts x form parts → Listed p x gs y →
      (gs ≡ []) × (al : Bool) × Boxed al p x y
  listed_box has (aligned x y gs l) = let b = boxed has l in (b.0, true, b.1)
  listed_box has (part al x y steady w) = (refl, al, in_place steady w)
