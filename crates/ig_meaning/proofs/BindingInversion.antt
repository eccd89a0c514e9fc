-- What the trees with values of each form of symbol are.
use Rattle.std.proofs.Common.{◌≡◌, ℕ, List, [], ◌∷◌, ◌++◌, map, refl, sym, ◌∙◌, ap, subst, inl, inr, Some, None}
use Rattle.std.specs.Prelude.{◌⊎◌}
use Rattle.ig_text.specs.Input.{Input}
use Rattle.ig_text.specs.declared.tag.Tag.{Tag}
use Rattle.ig_text.specs.declared.tag.Tag.TheVariants as tag
use Rattle.ig_expr.specs.declared.value.Value.{Value}
use Rattle.ig_grammar.specs.Symbol.{Symbol, Literal, OneOf, Call, Label, Guard, Let, Opt, Star, Plus, SepStar, SepPlus, Group, Offside, Ignore, Align, Filtered, Seq, Entry}
use Rattle.ig_grammar.specs.Symbol.{Symbols, listed}
use Rattle.ig_meaning.specs.Environment.{Environment, HasValue, HaveValues, AreBound, replaced}
use Rattle.ig_grammar.specs.Numbering.{Levelled, Declares, IsAlternative, IsChoice, tag_of, layout_among}
use Rattle.ig_meaning.specs.Derivation.{span_value}
use Rattle.ig_expr.specs.ValuedTree.{Tree, Trees, Leaf, Node, none, more, one, join}
use Rattle.ig_meaning.specs.Annotated.{bound_between, IsRound, HasParts, Bind, Binds, BindApart, Within, Behind}
use Rattle.ig_meaning.specs.Annotated as a
use Rattle.ig_grammar.specs.declared.declaration.DeclKind.{DeclKind}
use Rattle.ig_grammar.specs.declared.declaration.DeclKind.TheVariants.{Syntax, Lexical}
use Rattle.ig_grammar.specs.declared.declaration.Decl.{Decl}
use Rattle.ig_grammar.specs.declared.grammar.Grammar.{Grammar}
use Rattle.ig_grammar.specs.declared.place.Shape.{Shape}
use Rattle.ig_meaning.proofs.Telling.{choice_once}

-- these parts under the one tag, those under the other
abbrev EitherParts : Tag → List Symbol → Tag → List Symbol → Tag → List Symbol → Type 0
EitherParts first xs second ys form parts = ((form ≡ first) × (parts ≡ xs)) ⊎ ((form ≡ second) × (parts ≡ ys))

abbrev PartsBy : Symbol → Tag → List Symbol → Type 0
PartsBy (Opt x) form parts = EitherParts tag.Absent [] tag.Present (x ∷ []) form parts
PartsBy (Star x) form parts = EitherParts tag.Nil [] tag.Snoc (Star x ∷ x ∷ []) form parts
PartsBy (Plus x) form parts = EitherParts tag.One (x ∷ []) tag.More (Plus x ∷ x ∷ []) form parts
PartsBy (SepPlus x s) form parts = EitherParts tag.One (x ∷ []) tag.More (SepPlus x s ∷ s ∷ x ∷ []) form parts
PartsBy (SepStar x s) form parts = EitherParts tag.Absent [] tag.Present (SepPlus x s ∷ []) form parts
PartsBy (Group choices) form parts =
    (k : ℕ) × (xs : Symbols) × IsChoice choices k xs × (form ≡ tag.GroupAlt k) × (parts ≡ Seq xs ∷ [])
PartsBy x form parts = ⊥

parts_by : {x : Symbol} {form : Tag} {parts : List Symbol} → HasParts x form parts → PartsBy x form parts
parts_by (a.absent x) = inl (refl, refl)
parts_by (a.present x) = inr (refl, refl)
parts_by (a.nil x) = inl (refl, refl)
parts_by (a.snoc x) = inr (refl, refl)
parts_by (a.one_item x) = inl (refl, refl)
parts_by (a.more_items x) = inr (refl, refl)
parts_by (a.first_item x s) = inl (refl, refl)
parts_by (a.further_item x s) = inr (refl, refl)
parts_by (a.no_item x s) = inl (refl, refl)
parts_by (a.some_items x s) = inr (refl, refl)
parts_by (a.chosen choices k xs chosen) = (k, xs, chosen, refl, refl)

either_once : (first second form : Tag) (xs ys ps qs : List Symbol) → (first ≡ second → ⊥) →
    EitherParts first xs second ys form ps → EitherParts first xs second ys form qs → ps ≡ qs
either_once first second form xs ys ps qs differ (inl p) (inl q) = p.1 ∙ sym q.1
either_once first second form xs ys ps qs differ (inl p) (inr q) = absurd (differ (sym p.0 ∙ q.0))
either_once first second form xs ys ps qs differ (inr p) (inl q) = absurd (differ (sym q.0 ∙ p.0))
either_once first second form xs ys ps qs differ (inr p) (inr q) = p.1 ∙ sym q.1

absent_present : tag.Absent ≡ tag.Present → ⊥
absent_present e = cc

nil_snoc : tag.Nil ≡ tag.Snoc → ⊥
nil_snoc e = cc

one_more : tag.One ≡ tag.More → ⊥
one_more e = cc

parts_agree : (x : Symbol) (form : Tag) (ps qs : List Symbol) → PartsBy x form ps → PartsBy x form qs → ps ≡ qs
parts_agree (Opt x) form ps qs p q = either_once tag.Absent tag.Present form [] (x ∷ []) ps qs absent_present p q
parts_agree (Star x) form ps qs p q = either_once tag.Nil tag.Snoc form [] (Star x ∷ x ∷ []) ps qs nil_snoc p q
parts_agree (Plus x) form ps qs p q = either_once tag.One tag.More form (x ∷ []) (Plus x ∷ x ∷ []) ps qs one_more p q
parts_agree (SepPlus x s) form ps qs p q =
    either_once tag.One tag.More form (x ∷ []) (SepPlus x s ∷ s ∷ x ∷ []) ps qs one_more p q
parts_agree (SepStar x s) form ps qs p q =
    either_once tag.Absent tag.Present form [] (SepPlus x s ∷ []) ps qs absent_present p q
parts_agree (Group choices) form ps qs (k, xs, chosen, tagged, parts) (l, ys, chosen', tagged', parts') =
    let both : tag.GroupAlt k ≡ tag.GroupAlt l = sym tagged ∙ tagged' in
    let numbers : k ≡ l = cc in
    let alike : xs ≡ ys = choice_once choices l xs ys (subst (λ z. IsChoice choices z xs) numbers chosen) chosen' in
    parts ∙ ap (λ z. Seq z ∷ []) alike ∙ sym parts'
parts_agree x form ps qs p q = absurd p

-- a form of symbol has the same parts under the same tag
pub parts_once : {x : Symbol} {form other : Tag} {ps qs : List Symbol} → HasParts x form ps → HasParts x other qs → form ≡ other →
    ps ≡ qs
parts_once {x = x} {form = form} {ps = ps} {qs = qs} p q same =
    parts_agree x form ps qs (parts_by p) (parts_by (subst (λ z. HasParts x z qs) (sym same) q))

module _ (g : Grammar) (shapes : List Shape) (text : Input) where
  abbrev pub BindBy : DeclKind → List Symbol → Environment → ℕ → ℕ → Trees → Environment → Type 0
  BindBy c [] env i j vs after = (i ≡ j) × (vs ≡ none) × (after ≡ env)
  BindBy c (x ∷ others) env i j vs after =
      (between : Environment) × (e : ℕ) × (h : ℕ) × (ts : Trees) × (us : Trees) × Binds g shapes text c x env i e h ts between ×
      Bind g shapes text c others between h j us after × (vs ≡ join ts us)

  -- a tree of this kind, and what stands behind it
  abbrev pub FirstBy : DeclKind → DeclKind → Tree → ℕ → ℕ → Trees → Type 0
  FirstBy c kind t e j ts = (us : Trees) × Behind g shapes text c kind e j us × (ts ≡ more t us)

  abbrev pub NodeBy : DeclKind → Symbol → Environment → ℕ → ℕ → ℕ → Trees → Environment → Type 0
  NodeBy c x env i e j ts after =
      (form : Tag) × (parts : List Symbol) × (us : Trees) × (bound : List Value) × HasParts x form parts ×
      BindApart g shapes text c parts env i j us bound × (ts ≡ one (Node form bound i j us)) × (e ≡ j) × (after ≡ env)

  abbrev pub BindsBy : DeclKind → Symbol → Environment → ℕ → ℕ → ℕ → Trees → Environment → Type 0
  BindsBy c (Literal word) env i e j ts after = FirstBy c Lexical (Leaf i e) e j ts × (after ≡ env)
  BindsBy c (OneOf class) env i e j ts after = FirstBy c Lexical (Leaf i e) e j ts × (after ≡ env)
  BindsBy c (Call name arguments) env i e j ts after =
      (kind : DeclKind) × (vs : List Value) × (t : Tree) × HaveValues text env i arguments vs ×
      Within g shapes text name vs kind i e t × FirstBy c kind t e j ts × (after ≡ env)
  BindsBy c (Label name x) env i e j ts after =
      (between : Environment) × Binds g shapes text c x env i e j ts between × (after ≡ between ++ (name, span_value i e) ∷ [])
  BindsBy c (Guard condition) env i e j ts after = (i ≡ e) × (i ≡ j) × (ts ≡ none) × (after ≡ env)
  BindsBy c (Let name expression) env i e j ts after =
      (v : Value) × HasValue text env i expression v × (after ≡ env ++ (name, v) ∷ []) × (i ≡ e) × (i ≡ j) × (ts ≡ none)
  BindsBy c (Offside x) env i e j ts after = Binds g shapes text c x env i e j ts after
  BindsBy c (Ignore x) env i e j ts after = Binds g shapes text c x env i e j ts after
  BindsBy c (Align x) env i e j ts after = Binds g shapes text c x env i e j ts after
  BindsBy c (Filtered x filters) env i e j ts after = Binds g shapes text c x env i e j ts after
  BindsBy c (Seq xs) env i e j ts after = Bind g shapes text c (listed xs) env i j ts after × (e ≡ j)
  BindsBy c (Entry bindings x) env i e j ts after =
      (vs : List Value) × (inside : Environment) × (between : Environment) × (f : ℕ) ×
      HaveValues text env i (map (λ b. b.value) bindings) vs × (inside ≡ replaced env bindings vs) ×
      Binds g shapes text c x inside i f j ts between × (e ≡ j) × (after ≡ env)
  BindsBy c x env i e j ts after = NodeBy c x env i e j ts after

  node_by : {c : DeclKind} {x : Symbol} {form : Tag} {parts : List Symbol} {env after : Environment} {i e j : ℕ} {ts : Trees} →
      HasParts x form parts → NodeBy c x env i e j ts after → BindsBy c x env i e j ts after
  node_by (a.absent x) b = b
  node_by (a.present x) b = b
  node_by (a.nil x) b = b
  node_by (a.snoc x) b = b
  node_by (a.one_item x) b = b
  node_by (a.more_items x) b = b
  node_by (a.first_item x s) b = b
  node_by (a.further_item x s) b = b
  node_by (a.no_item x s) b = b
  node_by (a.some_items x s) b = b
  node_by (a.chosen choices k xs chosen) b = b

  pub by_node : {c : DeclKind} {x : Symbol} {form : Tag} {parts : List Symbol} {env after : Environment} {i e j : ℕ} {ts : Trees} →
      HasParts x form parts → BindsBy c x env i e j ts after → NodeBy c x env i e j ts after
  by_node (a.absent x) b = b
  by_node (a.present x) b = b
  by_node (a.nil x) b = b
  by_node (a.snoc x) b = b
  by_node (a.one_item x) b = b
  by_node (a.more_items x) b = b
  by_node (a.first_item x s) b = b
  by_node (a.further_item x s) b = b
  by_node (a.no_item x s) b = b
  by_node (a.some_items x s) b = b
  by_node (a.chosen choices k xs chosen) b = b

  round_by : {c : DeclKind} {x y : Symbol} {env after : Environment} {i e j : ℕ} {ts : Trees} → IsRound x y →
      Binds g shapes text c x env i e j ts after → BindsBy c y env i e j ts after
  round_by a.offside b = b
  round_by a.ignore b = b
  round_by a.align b = b
  round_by (a.filtered filters) b = b

  pub by_round : {c : DeclKind} {x y : Symbol} {env after : Environment} {i e j : ℕ} {ts : Trees} → IsRound x y →
      BindsBy c y env i e j ts after → Binds g shapes text c x env i e j ts after
  by_round a.offside b = b
  by_round a.ignore b = b
  by_round a.align b = b
  by_round (a.filtered filters) b = b

  pub bind_by : {c : DeclKind} {xs : List Symbol} {env after : Environment} {i j : ℕ} {vs : Trees} →
      Bind g shapes text c xs env i j vs after → BindBy c xs env i j vs after
  bind_by (a.nothing c env i) = (refl, refl, refl)
  bind_by (a.next c x others env between after i e h j ts us vs first rest trees) = (between, e, h, ts, us, first, rest, trees)

  pub binds_by : {c : DeclKind} {x : Symbol} {env after : Environment} {i e j : ℕ} {ts : Trees} →
      Binds g shapes text c x env i e j ts after → BindsBy c x env i e j ts after
  binds_by (a.literal c word env i e j us behind) = ((us, behind, refl), refl)
  binds_by (a.one_of c class env i e j us behind) = ((us, behind, refl), refl)
  binds_by (a.call c kind name arguments vs env i e j t us have within behind) =
      (kind, vs, t, have, within, (us, behind, refl), refl)
  binds_by (a.label c name x env between after i e j ts inner bound) = (between, inner, bound)
  binds_by (a.guard c condition env i) = (refl, refl, refl, refl)
  binds_by (a.let_be c name expression v env after i has bound) = (v, has, bound, refl, refl, refl)
  binds_by (a.node c x form parts env i j ts bound has inner) =
      node_by has (form, parts, ts, bound, has, inner, refl, refl, refl)
  binds_by (a.round c x y env after i e j ts mark inner) = round_by mark inner
  binds_by (a.sequence c xs env after i j ts inner) = (inner, refl)
  binds_by (a.entry c bindings x vs env inside after i e j ts have renewed inner) =
      (vs, inside, after, e, have, renewed, inner, refl, refl)

  abbrev pub ApartBy : DeclKind → List Symbol → Environment → ℕ → ℕ → Trees → List Value → Type 0
  ApartBy c [] env i j vs bound = (i ≡ j) × (vs ≡ none) × (bound ≡ [])
  ApartBy c (x ∷ others) env i j vs bound =
      (after : Environment) × (e : ℕ) × (h : ℕ) × (ts : Trees) × (us : Trees) × (some : List Value) ×
      Binds g shapes text c x env i e h ts after × BindApart g shapes text c others env h j us some × (vs ≡ join ts us) ×
      (bound ≡ bound_between env after ++ some)

  pub apart_by : {c : DeclKind} {xs : List Symbol} {env : Environment} {i j : ℕ} {vs : Trees} {bound : List Value} →
      BindApart g shapes text c xs env i j vs bound → ApartBy c xs env i j vs bound
  apart_by (a.no_part c env i) = (refl, refl, refl)
  apart_by (a.next_part c x others env after i e h j ts us vs some bound first rest trees values) =
      (after, e, h, ts, us, some, first, rest, trees, values)

  pub record WithinBy (name : List ℕ) (vs : List Value) (kind : DeclKind) (i e : ℕ) (t : Tree) : Type 0 where
    pub d : ℕ
    pub k : ℕ
    pub decl : Decl
    pub shape : Shape
    pub by : Levelled
    pub env : Environment
    pub after : Environment
    pub ts : Trees
    pub declares : Declares g shapes name d decl shape
    pub numbered : IsAlternative decl k by
    pub bound : AreBound decl.params vs env
    pub same : kind ≡ decl.kind
    pub binds : Bind g shapes text kind by.alternative.symbols env i e ts after
    pub tree : t ≡ Node (tag_of shape d k) (bound_between env after) i e ts

  pub within_by : {name : List ℕ} {vs : List Value} {kind : DeclKind} {i e : ℕ} {t : Tree} →
      Within g shapes text name vs kind i e t → WithinBy name vs kind i e t
  within_by (a.alternative name vs kind d k decl shape by env after i e ts t declares numbered bound same binds tree) =
      record { d = d; k = k; decl = decl; shape = shape; by = by; env = env; after = after; ts = ts; declares = declares; numbered = numbered; bound = bound; same = same; binds = binds; tree = tree }

  abbrev pub BehindBy : DeclKind → DeclKind → ℕ → ℕ → Trees → Type 0
  BehindBy c kind e j ts =
      ((c ≡ Syntax) × (kind ≡ Lexical) × (name : List ℕ) × (form : DeclKind) × (t : Tree) × (layout_among g.decls ≡ Some name) ×
      Within g shapes text name [] form e j t × (ts ≡ one t)) ⊎
      ((c ≡ Syntax → kind ≡ Lexical → layout_among g.decls ≡ None) × (e ≡ j) × (ts ≡ none))

  pub behind_by : {c kind : DeclKind} {e j : ℕ} {ts : Trees} → Behind g shapes text c kind e j ts → BehindBy c kind e j ts
  behind_by (a.layout name form e j t declared within) = inl (refl, refl, name, form, t, declared, within, refl)
  behind_by (a.no_layout c kind e undeclared) = inr (undeclared, refl, refl)
