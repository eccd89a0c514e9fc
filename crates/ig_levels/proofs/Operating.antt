-- Which trees operands have.
use Rattle.std.proofs.Common.{◌≡◌, ℕ, Bool, true, false, List, ◌∷◌, refl, sym, ◌∙◌, ap, subst, cond}
use Rattle.std.specs.Prelude.{◌&&◌, ◌||◌, not}
use Rattle.ig_text.specs.Input.{Input}
use Rattle.ig_text.specs.Tree.{Tree, Trees, none, more, one, join}
use Rattle.ig_text.proofs.Trees.{join_join}
use Rattle.ig_text.proofs.Booleans.{first_true, rest_true}
use Rattle.ig_expr.specs.declared.value.Value.{Value}
use Rattle.ig_grammar.specs.Symbol.{Symbol, Guard, Let}
use Rattle.ig_meaning.specs.Environment.{Environment}
use Rattle.ig_meaning.specs.Operands.{Calls, plain, labelled}
use Rattle.ig_meaning.specs.Derivation.{Covers, Derives, Instance, Trails}
use Rattle.ig_meaning.specs.Derivation.{empty, symbol, token, call, label, guard, let_be}
use Rattle.ig_meaning.specs.Derivation.{alternative, layout, no_layout, outside}
use Rattle.ig_grammar.specs.Numbering.{Declares}
use Rattle.ig_grammar.specs.declared.declaration.DeclKind.{DeclKind}
use Rattle.ig_grammar.specs.declared.declaration.DeclKind.TheVariants.{Lexical}
use Rattle.ig_grammar.specs.declared.declaration.Decl.{Decl}
use Rattle.ig_grammar.specs.declared.grammar.Grammar.{Grammar}
use Rattle.ig_grammar.specs.declared.place.Shape.{Shape}
use Rattle.ig_levels.specs.Levels.{is_test, only_tests, is_operand, Place, is_left, is_right, has_left, has_right}
use Rattle.ig_levels.proofs.WithBounds.{Bounds}
use Rattle.ig_levels.proofs.Takes.{OwnKind, Wanted, Handed, left_of, right_of}
use Rattle.ig_levels.specs.Spines.{AtLeast}
use Rattle.ig_levels.proofs.Finding.{operand_calls, no_later_left, behind_test, at_symbol, or_true}
use Rattle.ig_levels.proofs.SpineFacts.{no_bounds}

pub last_same : (ts us : Trees) (t u : Tree) → join ts (one t) ≡ join us (one u) → t ≡ u
last_same none none t u e = cc
last_same none (more v none) t u e = absurd (cc)
last_same none (more v (more w us)) t u e = absurd (cc)
last_same (more v none) none t u e = absurd (cc)
last_same (more v (more w ts)) none t u e = absurd (cc)
last_same (more v ts) (more w us) t u e = let f : join ts (one t) ≡ join us (one u) = cc in last_same ts us t u f

module _ (g : Grammar) (shapes : List Shape) (text : Input) where
  pub test_bare : (x : Symbol) → is_test x ≡ true → {c : DeclKind} {env after : Environment} {i e j : ℕ} {ts : Trees} {starts : List ℕ} →
      Derives g shapes text c x env i e j ts after starts → ts ≡ none
  test_bare (Guard e) h (guard c condition env i holds) = refl
  test_bare (Let name e) h (let_be c name1 expression v env after i has bound) = refl
  test_bare x h d = absurd (cc)

  pub tests_bare : {c : DeclKind} {xs : List Symbol} {env after : Environment} {i j : ℕ} {vs : Trees} {starts : List ℕ} →
      Covers g shapes text c xs env i j vs after starts → only_tests xs ≡ true → vs ≡ none
  tests_bare (empty c env i) h = refl
  tests_bare (symbol c x others env between after i e h j ts us vs ks ls starts first rest trees exposes) only =
      let a : ts ≡ none = test_bare x (first_true (is_test x) (only_tests others) only) first in
      let b : us ≡ none = tests_bare rest (rest_true (is_test x) (only_tests others) only) in
      trees ∙ (λ z. join (a z) (b z))

  pub record Alone (ts : Trees) : Type 0 where
    pub tree : Tree
    pub alone : ts ≡ one tree

  bare_trail : {c : DeclKind} {e j : ℕ} {us : Trees} → Trails g shapes text c e j us → Lexical ≡ c → us ≡ none
  bare_trail (layout name kind e j t starts declared instance) lexical = absurd (cc)
  bare_trail (no_layout e undeclared) lexical = refl
  bare_trail (outside c e other) lexical = refl

  instance_kind : {name : List ℕ} {vs : List Value} {kind c : DeclKind} {i e : ℕ} {t : Tree} {starts : List ℕ} →
      Instance g shapes text name vs kind i e t starts →
      ((d : ℕ) (decl : Decl) (shape : Shape) → Declares g shapes name d decl shape → decl.kind ≡ c) → kind ≡ c
  instance_kind (alternative name vs kind d k decl shape a env after i e ts t starts declares numbered bound same covers tree) own =
      same ∙ own d decl shape declares

  pub operand_alone : (own : List ℕ) {x : Symbol} → Calls own x → {c : DeclKind} {env after : Environment} {i e j : ℕ} {ts : Trees} {starts : List ℕ} →
      Derives g shapes text c x env i e j ts after starts →
      ((d : ℕ) (decl : Decl) (shape : Shape) → Declares g shapes own d decl shape → decl.kind ≡ c) → Alone ts
  operand_alone own (plain arguments) (token c name arguments1 vs env i e j t us ts ks starts have instance trails trees exposes) kinds =
      record { tree = t; alone = trees ∙ ap (more t) (bare_trail trails (instance_kind instance kinds)) }
  operand_alone own (plain arguments) (call c kind name arguments1 vs env i j t starts have instance other) kinds = record { tree = t; alone = refl }
  operand_alone own (labelled lab arguments) (label c name x env between after i e j ts starts inner bound) kinds =
      operand_alone own (plain arguments) inner kinds

  pub record FirstOf (ts : Trees) : Type 0 where
    pub tree : Tree
    pub others : Trees
    pub split : ts ≡ more tree others

  pub record LastOf (ts : Trees) : Type 0 where
    pub before : Trees
    pub tree : Tree
    pub split : ts ≡ join before (one tree)

  -- the operands have trees
  pub left_tree : {c : DeclKind} {xs : List Symbol} {env after : Environment} {i j : ℕ} {vs : Trees} {starts : List ℕ} →
      Covers g shapes text c xs env i j vs after starts → (p : Place) (first : Bool) → OwnKind g shapes p c → has_left p first xs ≡ true → FirstOf vs
  left_tree (empty c env i) p first own has = absurd (cc)
  left_tree {c = c} (symbol c1 x others env between after i e h j ts us vs ks ls starts head rest trees exposes) p first own has =
      go (is_test x) refl (left_tree rest p first own)
    where
      go : (b : Bool) → is_test x ≡ b → (has_left p first others ≡ true → FirstOf us) → FirstOf vs
      go true is below =
          let under = below (sym (behind_test p first x others is) ∙ has) in
          let bare : ts ≡ none = test_bare x is head in
          record { tree = under.tree; others = under.others; split = trees ∙ (λ z. join (bare z) (under.split z)) }
      go false is below =
          let here : is_left p first x others ≡ true = sym (at_symbol p first x others is) ∙ has in
          let operand = first_true (is_operand p.own x) (p.active && (first && not (only_tests others))) here in
          let active = first_true p.active (first && not (only_tests others)) (rest_true (is_operand p.own x) (p.active && (first && not (only_tests others))) here) in
          let alone = operand_alone p.own (operand_calls p.own x operand) head (own active) in
          record { tree = alone.tree; others = us; split = trees ∙ ap (λ z. join z us) alone.alone }

  pub right_tree : {c : DeclKind} {xs : List Symbol} {env after : Environment} {i j : ℕ} {vs : Trees} {starts : List ℕ} →
      Covers g shapes text c xs env i j vs after starts → (p : Place) (first : Bool) → OwnKind g shapes p c → has_right p first xs ≡ true → LastOf vs
  right_tree (empty c env i) p first own has = absurd (cc)
  right_tree (symbol c x others env between after i e h j ts us vs ks ls starts head rest trees exposes) p first own has =
      go (is_right p first x others) refl has (right_tree rest p (first && is_test x) own)
    where
      go : (b : Bool) → is_right p first x others ≡ b → (b || has_right p (first && is_test x) others) ≡ true →
          (has_right p (first && is_test x) others ≡ true → LastOf us) → LastOf vs
      go true here has below =
          let operand = first_true (is_operand p.own x) (p.active && (not first && only_tests others)) here in
          let more_true = rest_true (is_operand p.own x) (p.active && (not first && only_tests others)) here in
          let active = first_true p.active (not first && only_tests others) more_true in
          let only = rest_true (not first) (only_tests others) (rest_true p.active (not first && only_tests others) more_true) in
          let alone = operand_alone p.own (operand_calls p.own x operand) head (own active) in
          let bare : us ≡ none = tests_bare rest only in
          record { before = none; tree = alone.tree; split = trees ∙ (λ z. join (alone.alone z) (bare z)) }
      go false here has below =
          let under = below has in
          record { before = join ts under.before; tree = under.tree; split = trees ∙ ap (join ts) under.split ∙ sym (join_join ts under.before (one under.tree)) }

  abbrev pub low_at : Place → Bounds → Bool → Symbol → List Symbol → ℕ
  low_at p b first x others = cond (is_left p first x others) (left_of b) (cond (is_right p first x others) p.right 0)

  abbrev pub high_at : Place → Bounds → Bool → Symbol → List Symbol → ℕ
  high_at p b first x others = cond (is_left p first x others) p.left (cond (is_right p first x others) (right_of b) 0)

  one_alone : (t u : Tree) (us : Trees) → more t us ≡ one u → us ≡ none
  one_alone t u us e = cc

  -- what symbols want is handed to the first of them
  pub handed_at : {c : DeclKind} {x : Symbol} {others : List Symbol} {env between after : Environment} {i e h j : ℕ} {ts us : Trees} {ks ls : List ℕ} →
      Derives g shapes text c x env i e h ts between ks → Covers g shapes text c others between h j us after ls →
      (vs : Trees) → vs ≡ join ts us → (p : Place) (b : Bounds) (first : Bool) → OwnKind g shapes p c → Wanted g p b first (x ∷ others) vs →
      Handed g (low_at p b first x others) (high_at p b first x others) ts
  handed_at {x = x} {others = others} {ts = ts} {us = us} head rest vs trees p b first own wanted =
      record { first = λ t rs split. go t rs split (is_left p first x others) refl (is_right p first x others) refl }
    where
      go : (t : Tree) (rs : Trees) → ts ≡ more t rs → (m : Bool) → is_left p first x others ≡ m → (n : Bool) → is_right p first x others ≡ n →
          AtLeast g (cond m (left_of b) (cond n p.right 0)) (cond m p.left (cond n (right_of b) 0)) t
      go t rs split true l n r =
          wanted.left (ap (λ z. z || has_left p (first && is_test x) others) l) t (join rs us) (trees ∙ ap (λ z. join z us) split)
      go t rs split false l true r =
          let operand = first_true (is_operand p.own x) (p.active && (not first && only_tests others)) r in
          let more_true = rest_true (is_operand p.own x) (p.active && (not first && only_tests others)) r in
          let active = first_true p.active (not first && only_tests others) more_true in
          let only = rest_true (not first) (only_tests others) (rest_true p.active (not first && only_tests others) more_true) in
          let alone = operand_alone p.own (operand_calls p.own x operand) head (own active) in
          let bare : us ≡ none = tests_bare rest only in
          let ends : rs ≡ none = one_alone t alone.tree rs (sym split ∙ alone.alone) in
          wanted.right (ap (λ z. z || has_right p (first && is_test x) others) r) none t (trees ∙ (λ z. join (split z) (bare z)) ∙ (λ z. join (more t (ends z)) none))
      go t rs split false l false r = no_bounds g t

  -- and the others want the rest
  pub wanted_behind : {c : DeclKind} {x : Symbol} {others : List Symbol} {env between : Environment} {i e h : ℕ} {ts us : Trees} {ks : List ℕ} →
      Derives g shapes text c x env i e h ts between ks → (vs : Trees) → vs ≡ join ts us → (p : Place) (b : Bounds) (first : Bool) →
      Wanted g p b first (x ∷ others) vs → Wanted g p b (first && is_test x) others us
  wanted_behind {x = x} {others = others} {ts = ts} {us = us} head vs trees p b first wanted =
      record {
        left = λ has t rs split. go t rs split has (is_test x) refl;
        right = λ has rs t split.
            wanted.right (ap (λ z. is_right p first x others || z) has ∙ or_true (is_right p first x others)) (join ts rs) t
            (trees ∙ ap (join ts) split ∙ sym (join_join ts rs (one t)));
      }
    where
      go : (t : Tree) (rs : Trees) → us ≡ more t rs → has_left p (first && is_test x) others ≡ true → (m : Bool) → is_test x ≡ m → AtLeast g (left_of b) p.left t
      go t rs split has true is =
          let bare : ts ≡ none = test_bare x is head in
          wanted.left (ap (λ z. is_left p first x others || z) has ∙ or_true (is_left p first x others)) t rs (trees ∙ (λ z. join (bare z) (split z)))
      go t rs split has false is =
          let here : has_left p (first && false) others ≡ true = subst (λ z. has_left p (first && z) others ≡ true) is has in
          absurd (never first here)
        where
          never : (f : Bool) → has_left p (f && false) others ≡ true → ⊥
          never true h = let k : has_left p false others ≡ false = no_later_left p others in cc
          never false h = let k : has_left p false others ≡ false = no_later_left p others in cc
