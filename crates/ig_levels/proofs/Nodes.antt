-- What a node of an alternative keeps to.
use Rattle.std.proofs.Common.{◌≡◌, ℕ, suc, ◌+◌, ◌≤◌, Bool, true, false, List, [], ◌∷◌, ◌++◌, map, length, refl, sym, ◌∙◌, ap, subst, Some, inl, inr, arith, cond}
use Rattle.std.specs.Prelude.{◌⊎◌, ◌&&◌, ◌||◌, not, slice_get, ◌==◌}
use Rattle.std.proofs.lemmas.Option.{slice_get-map, same_Some}
use Rattle.std.proofs.lemmas.List.{append-nil}
use Rattle.ig_text.specs.Input.{Input}
use Rattle.ig_text.specs.declared.tag.Tag.{Tag}
use Rattle.ig_text.specs.declared.tag.Tag.TheVariants as tag
use Rattle.ig_text.specs.Tree.{Tree, Trees, none, more, one, join}
use Rattle.ig_text.proofs.Trees.{join_join, more_parts}
use Rattle.ig_text.proofs.Options.{mapped}
use Rattle.ig_text.proofs.Booleans.{first_true, rest_true}
use Rattle.ig_grammar.specs.Symbol.{Symbol}
use Rattle.ig_meaning.specs.Environment.{Environment}
use Rattle.ig_grammar.specs.Numbering.{Levelled, Declares, IsAlternative, by_level, tag_of}
use Rattle.ig_meaning.specs.Operands.{HasLeftOperand, HasRightOperand, left_bound, right_bound}
use Rattle.ig_meaning.specs.Clean.{Applies, IsClean}
use Rattle.ig_meaning.specs.Derivation.{Covers, Derives}
use Rattle.ig_grammar.specs.declared.declaration.Assoc.{Assoc}
use Rattle.ig_grammar.specs.declared.declaration.Assoc.TheVariants.{Free, Left, Right, Nonassoc}
use Rattle.ig_grammar.specs.declared.declaration.DeclKind.{DeclKind}
use Rattle.ig_grammar.specs.declared.declaration.Level.{Level}
use Rattle.ig_grammar.specs.declared.declaration.Decl.{Decl}
use Rattle.ig_grammar.specs.declared.grammar.Grammar.{Grammar}
use Rattle.ig_grammar.specs.declared.place.Shape.{Shape}
use Rattle.ig_grammar.specs.declared.place.Shape.TheVariants.{Rule, Opt, Star, Plus, SepPlus, SepStar, Group, Root}
use Rattle.ig_grammar.specs.declared.symbol.Alt.{Alt}
use Rattle.ig_levels.specs.Spines.{AtLeast, Asks}
use Rattle.ig_levels.specs.Levels.{is_levelled, is_free, is_test, is_operand, is_left, is_right, only_tests, has_left, has_right, Place, place_in}
use Rattle.ig_levels.proofs.WithBounds.{Bounds}
use Rattle.ig_levels.proofs.Takes.{OwnKind, Wanted, Handed, left_of, right_of}
use Rattle.ig_levels.proofs.Finding.{operand_calls, left_sought, right_sought, no_later_left}
use Rattle.ig_levels.proofs.Operating.{last_same, test_bare, tests_bare, operand_alone, right_tree, low_at, high_at}

same_rule : (d k e l : ℕ) → tag.Rule d k ≡ tag.Rule e l → (d ≡ e) × (k ≡ l)
same_rule d k e l h = (cc, cc)

not_among : (a b : Tag) (c : Bool) (e l : ℕ) → cond c a b ≡ tag.Rule e l → (a ≡ tag.Rule e l → ⊥) → (b ≡ tag.Rule e l → ⊥) → ⊥
not_among a b true e l h p q = p h
not_among a b false e l h p q = q h

rule_of : (shape : Shape) (d k e l : ℕ) → tag_of shape d k ≡ tag.Rule e l → (d ≡ e) × (k ≡ l)
rule_of Rule d k e l h = same_rule d k e l h
rule_of Opt d k e l h = absurd (not_among tag.Absent tag.Present (k == 1) e l h (λ z. cc) (λ z. cc))
rule_of Star d k e l h = absurd (not_among tag.Nil tag.Snoc (k == 1) e l h (λ z. cc) (λ z. cc))
rule_of Plus d k e l h = absurd (not_among tag.One tag.More (k == 1) e l h (λ z. cc) (λ z. cc))
rule_of SepPlus d k e l h = absurd (not_among tag.One tag.More (k == 1) e l h (λ z. cc) (λ z. cc))
rule_of SepStar d k e l h = absurd (not_among tag.Absent tag.Present (k == 1) e l h (λ z. cc) (λ z. cc))
rule_of Group d k e l h = absurd (cc)
rule_of Root d k e l h = absurd (cc)

at_either : {X : Type 0} (xs ys : List X) (k : ℕ) (a : X) → slice_get (xs ++ ys) k ≡ Some a →
    (slice_get xs k ≡ Some a) ⊎ ((m : ℕ) × (slice_get ys m ≡ Some a))
at_either [] ys k a h = inr (k, h)
at_either (x ∷ xs) ys ℕ.zero a h = inl h
at_either (x ∷ xs) ys (suc k) a h = at_either xs ys k a h

mapped_at : {X Y : Type 0} (f : X → Y) (xs : List X) (k : ℕ) (y : Y) → slice_get (map f xs) k ≡ Some y → (x : X) × (y ≡ f x)
mapped_at f xs k y h = let m = mapped f (slice_get xs k) y (sym (slice_get-map f xs k) ∙ h) in (m.0, m.2)

abbrev leveled_by : ℕ → Assoc → Alt → Levelled
leveled_by n assoc alt = record { alternative = alt; level = n; assoc = assoc }

level_at_least : (levels : List Level) (k : ℕ) (a : Levelled) → slice_get (by_level levels) k ≡ Some a → 1 ≤ a.level
level_at_least [] k a h = absurd (cc)
level_at_least (level ∷ others) k a h =
    one_of_both (at_either (map (leveled_by (length others + 1) level.assoc) level.alts) (by_level others) k a h) (λ m e. level_at_least others m a e)
  where
    one_of_both : (slice_get (map (leveled_by (length others + 1) level.assoc) level.alts) k ≡ Some a) ⊎ ((m : ℕ) × (slice_get (by_level others) m ≡ Some a)) →
        ((m : ℕ) → slice_get (by_level others) m ≡ Some a → 1 ≤ a.level) → 1 ≤ a.level
    one_of_both (inl e) later =
        let from = mapped_at (leveled_by (length others + 1) level.assoc) level.alts k a e in
        subst (λ (z : Levelled). 1 ≤ z.level) (sym from.1) (omega arith)
    one_of_both (inr e) later = later e.0 e.1

pub record Loose (a : Levelled) : Type 0 where
  pub left : left_bound a ≡ 1
  pub right : right_bound a ≡ 1

free_bounds : (assoc : Assoc) (alt : Alt) → not (is_free assoc) ≡ false → Loose (leveled_by 1 assoc alt)
free_bounds Free alt h = record { left = refl; right = refl }
free_bounds Left alt h = absurd (cc)
free_bounds Right alt h = absurd (cc)
free_bounds Nonassoc alt h = absurd (cc)

loose_bounds : (levels : List Level) (k : ℕ) (a : Levelled) → is_levelled levels ≡ false → slice_get (by_level levels) k ≡ Some a → Loose a
loose_bounds [] k a is h = absurd (cc)
loose_bounds (level ∷ []) k a is h =
    let from = mapped_at (leveled_by 1 level.assoc) level.alts k a (ap (λ xs. slice_get xs k) (sym (append-nil (map (leveled_by 1 level.assoc) level.alts))) ∙ h) in
    subst Loose (sym from.1) (free_bounds level.assoc from.0 is)
loose_bounds (level ∷ next ∷ others) k a is h = absurd (cc)

module _ (g : Grammar) (shapes : List Shape) (text : Input) where
  pub record SameNode (decl1 decl : Decl) (a1 a : Levelled) : Type 0 where
    pub declaration : decl1 ≡ decl
    pub alternative : a1 ≡ a

  pub same_node : {name : List ℕ} {d k : ℕ} {decl : Decl} {shape : Shape} {a : Levelled} → Declares g shapes name d decl shape → IsAlternative decl k a →
      (decl1 : Decl) (a1 : Levelled) → Applies g (tag_of shape d k) decl1 a1 → SameNode decl1 decl a1 a
  same_node {d = d} {k = k} {decl = decl} {shape = shape} {a = a} declares numbered decl1 a1 applies =
      let same = rule_of shape d k applies.d applies.k applies.tagged in
      let place : applies.declaration.0 ≡ declares.numbered.0 =
      (let e : suc applies.declaration.0 ≡ suc declares.numbered.0 = sym applies.declaration.1 ∙ sym same.0 ∙ declares.numbered.1 in omega (arith, e)) in
      let declaration : decl1 ≡ decl = same_Some decl1 decl (sym applies.declaration.2 ∙ ap (slice_get g.decls) place ∙ declares.numbered.2) in
      let number : applies.numbered.0 ≡ numbered.0 =
      (let e : suc applies.numbered.0 ≡ suc numbered.0 = sym applies.numbered.1 ∙ sym same.1 ∙ numbered.1 in omega (arith, e)) in
      record {
        declaration = declaration;
        alternative = same_Some a1 a (sym applies.numbered.2 ∙ (λ z. slice_get (by_level (declaration z).levels) (number z)) ∙ numbered.2);
      }

  right_before : {own : List ℕ} {xs : List Symbol} → (has : HasRightOperand own xs) → has.first ∷ has.others ≡ [] → ⊥
  right_before has e = cc

  -- a levelled node asks what its symbols keep to
  pub asks_of : {name : List ℕ} {d k : ℕ} {decl : Decl} {shape : Shape} {a : Levelled} → Declares g shapes name d decl shape → IsAlternative decl k a →
      is_levelled decl.levels ≡ true → (l r : ℕ) (b : Bounds) (ts : Trees) → left_of b ≡ l → right_of b ≡ r →
      Wanted g (place_in decl a) b true a.alternative.symbols ts →
      (has_left (place_in decl a) true a.alternative.symbols ≡ true → l ≤ a.level) →
      (has_right (place_in decl a) true a.alternative.symbols ≡ true → r ≤ a.level) →
      Asks g l r (tag_of shape d k) ts
  asks_of {d = d} {k = k} {decl = decl} {shape = shape} {a = a} declares numbered is l r b ts at_left at_right wanted left_tested right_tested =
      record {
        first = λ a1 t begins.
            let same = same_node declares numbered begins.decl a1 begins.applies in
            let has : HasLeftOperand decl.name a.alternative.symbols =
            subst (λ (z : Decl). HasLeftOperand z.name a.alternative.symbols) same.declaration
            (subst (λ (z : Levelled). HasLeftOperand begins.decl.name z.alternative.symbols) same.alternative begins.has) in
            let found = left_sought (place_in decl a) a.alternative.symbols has.first has.second has.others is has.calls has.split in
            subst (λ (z : Levelled). (l ≤ z.level) × AtLeast g l (left_bound z) t) (sym same.alternative)
            (left_tested found, subst (λ z. AtLeast g z (left_bound a) t) at_left (wanted.left found t begins.after begins.first));
        last = λ a1 t ends.
            let same = same_node declares numbered ends.decl a1 ends.applies in
            let has : HasRightOperand decl.name a.alternative.symbols =
            subst (λ (z : Decl). HasRightOperand z.name a.alternative.symbols) same.declaration
            (subst (λ (z : Levelled). HasRightOperand ends.decl.name z.alternative.symbols) same.alternative ends.has) in
            let found = right_sought (place_in decl a) true a.alternative.symbols (has.first ∷ has.others) has.last is has.calls has.split (λ f. right_before has) in
            subst (λ (z : Levelled). (r ≤ z.level) × AtLeast g (right_bound z) r t) (sym same.alternative)
            (right_tested found, subst (λ z. AtLeast g (right_bound a) z t) at_right (wanted.right found ends.before t ends.last));
      }

  -- a node of an unlevelled declaration asks nothing
  pub clean_unlevelled : {name : List ℕ} {d k : ℕ} {decl : Decl} {shape : Shape} {a : Levelled} → Declares g shapes name d decl shape → IsAlternative decl k a →
      is_levelled decl.levels ≡ false → (ts : Trees) → IsClean g (tag_of shape d k) ts
  clean_unlevelled {decl = decl} {a = a} declares numbered is ts =
      let loose = loose_bounds decl.levels numbered.0 a is numbered.2 in
      record {
        left = λ a1 b operand other low us begins on ends.
            let same = same_node declares numbered begins.decl a1 begins.applies in
            let one : left_bound a1 ≡ 1 = ap left_bound same.alternative ∙ loose.left in
            let least : 1 ≤ b.level = level_at_least ends.decl.levels ends.applies.numbered.0 b ends.applies.numbered.2 in
            omega (arith, one, least);
        right = λ a1 b operand other low us ends on begins.
            let same = same_node declares numbered ends.decl a1 ends.applies in
            let one : right_bound a1 ≡ 1 = ap right_bound same.alternative ∙ loose.right in
            let least : 1 ≤ b.level = level_at_least begins.decl.levels begins.applies.numbered.0 b begins.applies.numbered.2 in
            omega (arith, one, least);
      }

  pub clean_other : (tag1 : Tag) → ((d k : ℕ) → tag1 ≡ tag.Rule d k → ⊥) → (ts : Trees) → IsClean g tag1 ts
  clean_other tag1 other ts =
      record {
        left = λ a b operand operand1 low us begins on ends. absurd (other begins.applies.d begins.applies.k begins.applies.tagged);
        right = λ a b operand operand1 low us ends on begins. absurd (other ends.applies.d ends.applies.k ends.applies.tagged);
      }

  -- what the symbol and the others keep to, all of them keep to
  pub wanted_join : {c : DeclKind} {x : Symbol} {others : List Symbol} {env between after : Environment} {i e h j : ℕ} {ts us : Trees} {ks ls : List ℕ} →
      Derives g shapes text c x env i e h ts between ks → Covers g shapes text c others between h j us after ls →
      (vs : Trees) → vs ≡ join ts us → (p : Place) (b : Bounds) (first : Bool) → OwnKind g shapes p c →
      (is_operand p.own x ≡ true → p.active ≡ true → Handed g (low_at g shapes text p b first x others) (high_at g shapes text p b first x others) ts) →
      Wanted g p b (first && is_test x) others us → Wanted g p b first (x ∷ others) vs
  wanted_join {x = x} {others = others} {ts = ts} {us = us} head rest vs trees p b first own handed wanted =
      record {
        left = λ has t rs split. on_left (is_left p first x others) refl has t rs split;
        right = λ has rs t split. on_right (is_left p first x others) refl (is_right p first x others) refl has rs t split;
      }
    where
      skip : (m : Bool) → is_test x ≡ m → has_left p (first && m) others ≡ true → (t : Tree) (rs : Trees) → vs ≡ more t rs → us ≡ more t rs
      skip true is has t rs split =
          let bare : ts ≡ none = test_bare g shapes text x is head in
          (λ z. join (sym bare z) us) ∙ sym trees ∙ split
      skip false is has t rs split = absurd (never first has)
        where
          never : (f : Bool) → has_left p (f && false) others ≡ true → ⊥
          never true h = let k : has_left p false others ≡ false = no_later_left p others in cc
          never false h = let k : has_left p false others ≡ false = no_later_left p others in cc

      on_left : (m : Bool) → is_left p first x others ≡ m → (m || has_left p (first && is_test x) others) ≡ true → (t : Tree) (rs : Trees) → vs ≡ more t rs →
          AtLeast g (left_of b) p.left t
      on_left true is has t rs split =
          let operand = first_true (is_operand p.own x) (p.active && (first && not (only_tests others))) is in
          let active = first_true p.active (first && not (only_tests others)) (rest_true (is_operand p.own x) (p.active && (first && not (only_tests others))) is) in
          let alone = operand_alone g shapes text p.own (operand_calls p.own x operand) head (own active) in
          let same : more t rs ≡ more alone.tree us = sym split ∙ trees ∙ ap (λ z. join z us) alone.alone in
          let given : AtLeast g (cond true (left_of b) (cond (is_right p first x others) p.right 0)) (cond true p.left (cond (is_right p first x others) (right_of b) 0)) alone.tree =
          subst (λ z. AtLeast g (cond z (left_of b) (cond (is_right p first x others) p.right 0)) (cond z p.left (cond (is_right p first x others) (right_of b) 0)) alone.tree) is
          ((handed operand active).first alone.tree none alone.alone) in
          subst (AtLeast g (left_of b) p.left) (sym (more_parts t alone.tree rs us same).0) given
      on_left false is has t rs split =
          wanted.left has t rs (skip (is_test x) refl has t rs split)

      on_right : (m : Bool) → is_left p first x others ≡ m → (n : Bool) → is_right p first x others ≡ n → (n || has_right p (first && is_test x) others) ≡ true →
          (rs : Trees) (t : Tree) → vs ≡ join rs (one t) → AtLeast g p.right (right_of b) t
      on_right m not_left false is has rs t split =
          let last = right_tree g shapes text rest p (first && is_test x) own has in
          let same : t ≡ last.tree =
          last_same rs (join ts last.before) t last.tree (sym split ∙ trees ∙ ap (join ts) last.split ∙ sym (join_join ts last.before (one last.tree))) in
          subst (AtLeast g p.right (right_of b)) (sym same) (wanted.right has last.before last.tree last.split)
      on_right m not_left true is has rs t split =
          let operand = first_true (is_operand p.own x) (p.active && (not first && only_tests others)) is in
          let more_true = rest_true (is_operand p.own x) (p.active && (not first && only_tests others)) is in
          let active = first_true p.active (not first && only_tests others) more_true in
          let both = rest_true p.active (not first && only_tests others) more_true in
          let only = rest_true (not first) (only_tests others) both in
          let alone = operand_alone g shapes text p.own (operand_calls p.own x operand) head (own active) in
          let bare : us ≡ none = tests_bare g shapes text rest only in
          let same : t ≡ alone.tree = last_same rs none t alone.tree (sym split ∙ trees ∙ (λ z. join (alone.alone z) (bare z))) in
          let no_left : is_left p first x others ≡ false = never_both first (first_true (not first) (only_tests others) both) in
          let given : AtLeast g p.right (right_of b) alone.tree =
          subst (λ z. AtLeast g (cond z p.right 0) (cond z (right_of b) 0) alone.tree) is
          (subst (λ z. AtLeast g (cond z (left_of b) (cond (is_right p first x others) p.right 0)) (cond z p.left (cond (is_right p first x others) (right_of b) 0)) alone.tree) no_left
          ((handed operand active).first alone.tree none alone.alone)) in
          subst (AtLeast g p.right (right_of b)) (sym same) given
        where
          never_both : (f : Bool) → not f ≡ true → (is_operand p.own x && (p.active && (f && not (only_tests others)))) ≡ false
          never_both true h = absurd (cc)
          never_both false h = go (is_operand p.own x) p.active
            where
              go : (u v : Bool) → (u && (v && false)) ≡ false
              go true true = refl
              go true false = refl
              go false v = refl
