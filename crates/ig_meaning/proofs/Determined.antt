-- A tree has one annotation: what symbols cover, leave and bind is determined by where they begin and by their trees.
use Rattle.std.proofs.Common.{◌≡◌, ℕ, List, [], ◌∷◌, ◌++◌, map, refl, sym, ◌∙◌, ap, subst, inl, inr, Option, Some, None}
use Rattle.std.proofs.lemmas.Option.{same_Some}
use Rattle.ig_text.specs.Input.{Input}
use Rattle.ig_text.specs.declared.tag.Tag.{Tag}
use Rattle.ig_text.specs.Tree as plain
use Rattle.ig_text.specs.TagNumber.{number_of}
use Rattle.ig_text.proofs.Trees.{join_join}
use Rattle.ig_expr.specs.Expression.{Expression}
use Rattle.ig_expr.specs.Evaluation.{value_of}
use Rattle.ig_expr.specs.declared.value.Value.{Value}
use Rattle.ig_grammar.specs.Symbol.{Symbol}
use Rattle.ig_meaning.specs.Environment.{Environment, names, values, HaveValues, no_values, next_value, AreBound, no_parameters, next_parameter, replaced}
use Rattle.ig_grammar.specs.Names as declared_names
use Rattle.ig_grammar.specs.Numbering.{Levelled, Declares, IsAlternative, tag_of, layout_among}
use Rattle.ig_meaning.specs.Derivation.{span_value}
use Rattle.ig_expr.specs.ValuedTree.{Tree, Trees, Leaf, Node, none, more, one, join, bare_tree, bare_trees}
use Rattle.ig_meaning.specs.Annotated.{bound_between, HasParts, Bind, Binds, BindApart, Within, Behind}
use Rattle.ig_meaning.specs.Annotated as a
use Rattle.ig_grammar.specs.declared.declaration.DeclKind.{DeclKind}
use Rattle.ig_grammar.specs.declared.declaration.DeclKind.TheVariants.{Syntax, Lexical}
use Rattle.ig_grammar.specs.declared.declaration.Decl.{Decl}
use Rattle.ig_grammar.specs.declared.declaration.Param.{Param}
use Rattle.ig_grammar.specs.declared.grammar.Grammar.{Grammar}
use Rattle.ig_grammar.specs.declared.place.Shape.{Shape}
use Rattle.ig_meaning.proofs.Tags.{TagsTellAlternatives}
use Rattle.ig_meaning.proofs.Annotation.{bare_join}
use Rattle.ig_meaning.proofs.Telling.{declared_once, alternative_once}
use Rattle.ig_meaning.proofs.BindingInversion.{parts_once, NodeBy, BehindBy, bind_by, binds_by, by_node, by_round, apart_by, within_by, behind_by}

abbrev with_first : Option Value → Option (List Value) → Option (List Value)
with_first (Some v) (Some vs) = Some (v ∷ vs)
with_first v vs = None

module _ (text : Input) (env : Environment) (here : ℕ) where
  abbrev values_at : List Expression → Option (List Value)
  values_at [] = Some []
  values_at (e ∷ es) = with_first (value_of text (names env) (values env) here e) (values_at es)

  have_values : {es : List Expression} {vs : List Value} → HaveValues text env here es vs → values_at es ≡ Some vs
  have_values no_values = refl
  have_values (next_value e es v vs has others) = λ k. with_first (has k) (have_values others k)

  values_once : (es : List Expression) (vs ws : List Value) → HaveValues text env here es vs → HaveValues text env here es ws → vs ≡ ws
  values_once es vs ws p q = same_Some vs ws (sym (have_values p) ∙ have_values q)

abbrev bound_by : List Param → List Value → Environment
bound_by (p ∷ ps) (v ∷ vs) = (p.name, v) ∷ bound_by ps vs
bound_by ps vs = []

are_bound : {ps : List Param} {vs : List Value} {env : Environment} → AreBound ps vs env → env ≡ bound_by ps vs
are_bound no_parameters = refl
are_bound (next_parameter p ps v vs env others bound same) = same ∙ ap (λ rest. (p.name, v) ∷ rest) (are_bound bound)

-- the trees without their values, and further trees behind them
abbrev pub ahead : Trees → plain.Trees → plain.Trees
ahead ts rest = plain.join (bare_trees ts) rest

-- of joined trees the second ones stand behind the first ones
parted : (ts us vs : Trees) (rest : plain.Trees) → vs ≡ join ts us → ahead vs rest ≡ ahead ts (ahead us rest)
parted ts us vs rest trees =
    ap (λ z. ahead z rest) trees ∙ ap (λ z. plain.join z rest) (bare_join ts us) ∙ join_join (bare_trees ts) (bare_trees us) rest

first_of : (t u : plain.Tree) (ts us : plain.Trees) → plain.more t ts ≡ plain.more u us → t ≡ u
first_of t u ts us e = cc

others_of : (t u : plain.Tree) (ts us : plain.Trees) → plain.more t ts ≡ plain.more u us → ts ≡ us
others_of t u ts us e = cc

leaf_ends : (i e f : ℕ) → plain.Leaf i e ≡ plain.Leaf i f → e ≡ f
leaf_ends i e f same = cc

-- nodes that are equal
abbrev AreAlike : Tag → Tag → ℕ → ℕ → plain.Trees → plain.Trees → Type 0
AreAlike t u j k ts us = (t ≡ u) × (j ≡ k) × (ts ≡ us)

alike : (t u : Tag) (i j k : ℕ) (ts us : plain.Trees) → plain.Node t i j ts ≡ plain.Node u i k us → AreAlike t u j k ts us
alike t u i j k ts us e =
    let tags : t ≡ u = cc in
    let ends : j ≡ k = cc in
    let children : ts ≡ us = cc in (tags, ends, children)

-- the same end and trees, and the same behind them
abbrev AreOneBehind : ℕ → ℕ → Trees → Trees → plain.Trees → plain.Trees → Type 0
AreOneBehind j k ts us rest others = (j ≡ k) × (ts ≡ us) × (rest ≡ others)

-- the same ends, environment and trees, and the same behind them
abbrev pub AreOne : ℕ → ℕ → ℕ → ℕ → Environment → Environment → Trees → Trees → plain.Trees → plain.Trees → Type 0
AreOne e f j k after later ts us rest others = (e ≡ f) × (j ≡ k) × (after ≡ later) × (ts ≡ us) × (rest ≡ others)

module _ (g : Grammar) (shapes : List Shape) (text : Input) (distinct : declared_names.AreDistinct (declared_names.names g.decls)) (tells : TagsTellAlternatives g shapes) where
  -- what each further annotation of the same trees is, whatever stands behind them
  abbrev pub BindOnce : DeclKind → List Symbol → Environment → ℕ → ℕ → Trees → Environment → Type 0
  BindOnce c xs env i j ts after =
      (k : ℕ) (us : Trees) (later : Environment) (rest others : plain.Trees) → Bind g shapes text c xs env i k us later →
      ahead ts rest ≡ ahead us others → (j ≡ k) × (after ≡ later) × (ts ≡ us) × (rest ≡ others)

  abbrev pub BindsOnce : DeclKind → Symbol → Environment → ℕ → ℕ → ℕ → Trees → Environment → Type 0
  BindsOnce c x env i e j ts after =
      (f k : ℕ) (us : Trees) (later : Environment) (rest others : plain.Trees) → Binds g shapes text c x env i f k us later →
      ahead ts rest ≡ ahead us others → AreOne e f j k after later ts us rest others

  abbrev ApartOnce : DeclKind → List Symbol → Environment → ℕ → ℕ → Trees → List Value → Type 0
  ApartOnce c xs env i j ts bound =
      (k : ℕ) (us : Trees) (values : List Value) (rest others : plain.Trees) → BindApart g shapes text c xs env i k us values →
      ahead ts rest ≡ ahead us others → (j ≡ k) × (bound ≡ values) × (ts ≡ us) × (rest ≡ others)

  abbrev pub WithinOnce : List ℕ → List Value → DeclKind → ℕ → ℕ → Tree → Type 0
  WithinOnce name vs kind i e t =
      (form : DeclKind) (f : ℕ) (u : Tree) → Within g shapes text name vs form i f u → bare_tree t ≡ bare_tree u →
      (kind ≡ form) × (e ≡ f) × (t ≡ u)

  abbrev BehindOnce : DeclKind → DeclKind → ℕ → ℕ → Trees → Type 0
  BehindOnce c kind e j ts =
      (k : ℕ) (us : Trees) (rest others : plain.Trees) → Behind g shapes text c kind e k us → ahead ts rest ≡ ahead us others →
      AreOneBehind j k ts us rest others

  leaf_once : (c : DeclKind) (i e f j k : ℕ) (us ts : Trees) (rest others : plain.Trees) → BehindOnce c Lexical e j us →
      (vs : Trees) → Behind g shapes text c Lexical f k vs → ts ≡ more (Leaf i f) vs →
      plain.more (plain.Leaf i e) (ahead us rest) ≡ ahead ts others →
      (e ≡ f) × (j ≡ k) × (more (Leaf i e) us ≡ ts) × (rest ≡ others)
  leaf_once c i e f j k us ts rest others once vs behind form same =
      let both : plain.more (plain.Leaf i e) (ahead us rest) ≡ plain.more (plain.Leaf i f) (ahead vs others) =
      same ∙ ap (λ z. ahead z others) form in
      let ends : e ≡ f = leaf_ends i e f (first_of (plain.Leaf i e) (plain.Leaf i f) (ahead us rest) (ahead vs others) both) in
      let r = once k vs rest others (subst (λ z. Behind g shapes text c Lexical z k vs) (sym ends) behind) (others_of (plain.Leaf i e) (plain.Leaf i f) (ahead us rest) (ahead vs others) both) in
      (ends, r.0, (λ z. more (Leaf i (ends z)) (r.1 z)) ∙ sym form, r.2)

  call_once : (c kind form : DeclKind) (name : List ℕ) (vs ws : List Value) (i e f j k : ℕ) (t u : Tree) (us ys ts : Trees) (rest others : plain.Trees) →
      WithinOnce name vs kind i e t → BehindOnce c kind e j us → vs ≡ ws → Within g shapes text name ws form i f u →
      Behind g shapes text c form f k ys → ts ≡ more u ys → plain.more (bare_tree t) (ahead us rest) ≡ ahead ts others →
      (e ≡ f) × (j ≡ k) × (more t us ≡ ts) × (rest ≡ others)
  call_once c kind form name vs ws i e f j k t u us ys ts rest others once behind_once valued within behind shown same =
      let both : plain.more (bare_tree t) (ahead us rest) ≡ plain.more (bare_tree u) (ahead ys others) =
      same ∙ ap (λ z. ahead z others) shown in
      let p = once form f u (subst (λ z. Within g shapes text name z form i f u) (sym valued) within) (first_of (bare_tree t) (bare_tree u) (ahead us rest) (ahead ys others) both) in
      let q = subst (λ z. Behind g shapes text c z e k ys) (sym p.0) (subst (λ z. Behind g shapes text c form z k ys) (sym p.1) behind) in
      let r = behind_once k ys rest others q (others_of (bare_tree t) (bare_tree u) (ahead us rest) (ahead ys others) both) in
      (p.1, r.0, (λ z. more (p.2 z) (r.1 z)) ∙ sym shown, r.2)

  node_once : (c : DeclKind) (x : Symbol) (form : Tag) (parts : List Symbol) (env later : Environment) (i j f k : ℕ) (ts us : Trees) (bound : List Value)
      (rest others : plain.Trees) → HasParts x form parts → ApartOnce c parts env i j ts bound → NodeBy g shapes text c x env i f k us later →
      plain.more (plain.Node form i j (bare_trees ts)) rest ≡ ahead us others →
      AreOne j f j k env later (one (Node form bound i j ts)) us rest others
  node_once c x form parts env later i j f k ts us bound rest others has once (other, parts', vs, values, has', inner, shown, ends, kept) same =
      let t : plain.Tree = plain.Node form i j (bare_trees ts) in
      let u : plain.Tree = plain.Node other i k (bare_trees vs) in
      let both : plain.more t rest ≡ plain.more u others = same ∙ ap (λ z. ahead z others) shown in
      let p = alike form other i j k (bare_trees ts) (bare_trees vs) (first_of t u rest others both) in
      let q = subst (λ z. BindApart g shapes text c z env i k vs values) (sym (parts_once has has' p.0)) inner in
      let r = once k vs values plain.none plain.none q (ap (λ z. plain.join z plain.none) p.2) in
      (p.1 ∙ sym ends, p.1, sym kept, (λ z. one (Node (p.0 z) (r.1 z) i (p.1 z) (r.2 z))) ∙ sym shown, others_of t u rest others both)

  alternative_within : (name : List ℕ) (vs : List Value) (kind : DeclKind) (d k : ℕ) (decl : Decl) (shape : Shape) (by : Levelled) (env after : Environment)
      (i e : ℕ) (ts : Trees) (t : Tree) → Declares g shapes name d decl shape → IsAlternative decl k by → AreBound decl.params vs env →
      kind ≡ decl.kind → t ≡ Node (tag_of shape d k) (bound_between env after) i e ts →
      BindOnce kind by.alternative.symbols env i e ts after → WithinOnce name vs kind i e t
  alternative_within name vs kind d k decl shape by env after i e ts t declares numbered bound same tree once form f u other equal =
      let b = within_by g shapes text other in
      let single = declared_once g shapes text distinct tells name d b.d decl b.decl shape b.shape declares b.declares in
      let both : plain.Node (tag_of shape d k) i e (bare_trees ts) ≡ plain.Node (tag_of b.shape b.d b.k) i f (bare_trees b.ts) =
      sym (ap bare_tree tree) ∙ equal ∙ ap bare_tree b.tree in
      let p = alike (tag_of shape d k) (tag_of b.shape b.d b.k) i e f (bare_trees ts) (bare_trees b.ts) both in
      let there : IsAlternative decl b.k b.by = subst (λ (q : Decl). IsAlternative q b.k b.by) (sym single.declaration) b.numbered in
      let tags : tag_of shape d b.k ≡ tag_of b.shape b.d b.k = λ z. tag_of (single.form_of z) (single.number z) b.k in
      let numbers : k ≡ b.k = tells name d k b.k decl shape by b.by declares numbered there (ap number_of (p.0 ∙ sym tags)) in
      let bys : by ≡ b.by = alternative_once g shapes text distinct tells decl decl k b.k by b.by refl numbers numbered there in
      let kinds : kind ≡ form = same ∙ ap (λ (q : Decl). q.kind) single.declaration ∙ sym b.same in
      let envs : env ≡ b.env =
      are_bound bound ∙ ap (λ (q : Decl). bound_by q.params vs) single.declaration ∙ sym (are_bound b.bound) in
      let binds = subst (λ z. Bind g shapes text z by.alternative.symbols env i f b.ts b.after) (sym kinds)
      (subst (λ (z : Levelled). Bind g shapes text form z.alternative.symbols env i f b.ts b.after) (sym bys)
      (subst (λ z. Bind g shapes text form b.by.alternative.symbols z i f b.ts b.after) (sym envs) b.binds)) in
      let r = once f b.ts b.after plain.none plain.none binds (ap (λ z. plain.join z plain.none) p.2) in
      (kinds, r.0, tree ∙ (λ z. Node (p.0 z) (bound_between (envs z) (r.1 z)) i (r.0 z) (r.2 z)) ∙ sym b.tree)

  layout_once : (name : List ℕ) (kind : DeclKind) (e j k : ℕ) (t : Tree) (us : Trees) (rest others : plain.Trees) →
      layout_among g.decls ≡ Some name → WithinOnce name [] kind e j t → BehindBy g shapes text Syntax Lexical e k us →
      plain.more (bare_tree t) rest ≡ ahead us others → AreOneBehind j k (one t) us rest others
  layout_once name kind e j k t us rest others declared once (inl (syntax, lexical, other, form, u, declared', within, shown)) same =
      let both : plain.more (bare_tree t) rest ≡ plain.more (bare_tree u) others = same ∙ ap (λ z. ahead z others) shown in
      let named : name ≡ other = same_Some name other (sym declared ∙ declared') in
      let p = once form k u (subst (λ z. Within g shapes text z [] form e k u) (sym named) within) (first_of (bare_tree t) (bare_tree u) rest others both) in
      (p.1, ap one p.2 ∙ sym shown, others_of (bare_tree t) (bare_tree u) rest others both)
  layout_once name kind e j k t us rest others declared once (inr (undeclared, ends, shown)) same =
      let both : None ≡ Some name = sym (undeclared refl refl) ∙ declared in absurd (cc)

  nothing_once : (c kind : DeclKind) (e k : ℕ) (us : Trees) (rest others : plain.Trees) →
      (c ≡ Syntax → kind ≡ Lexical → layout_among g.decls ≡ None) → BehindBy g shapes text c kind e k us →
      rest ≡ ahead us others → AreOneBehind e k none us rest others
  nothing_once c kind e k us rest others undeclared (inl (syntax, lexical, other, form, u, declared, within, shown)) same =
      let both : None ≡ Some other = sym (undeclared syntax lexical) ∙ declared in absurd (cc)
  nothing_once c kind e k us rest others undeclared (inr (free, ends, shown)) same =
      (ends, sym shown, same ∙ ap (λ z. ahead z others) shown)

  mutual
    pub bind_once : {c : DeclKind} {xs : List Symbol} {env after : Environment} {i j : ℕ} {ts : Trees} →
        Bind g shapes text c xs env i j ts after → BindOnce c xs env i j ts after
    bind_once (a.nothing c env i) k us later rest others second same =
        let b = bind_by g shapes text second in (b.0, sym b.2, sym b.1, same ∙ ap (λ z. ahead z others) b.1)
    bind_once (a.next c x xs env between after i e h j ts us vs first onward trees) k ws later rest others second same =
        let b = bind_by g shapes text second in
        let apart = sym (parted ts us vs rest trees) ∙ same ∙ parted b.3 b.4 ws others b.7 in
        let p = binds_once first b.1 b.2 b.3 b.0 (ahead us rest) (ahead b.4 others) b.5 apart in
        let q = subst (λ z. Bind g shapes text c xs z h k b.4 later) (sym p.2) (subst (λ z. Bind g shapes text c xs b.0 z k b.4 later) (sym p.1) b.6) in
        let r = bind_once onward k b.4 later rest others q p.4 in
        (r.0, r.1, trees ∙ (λ z. join (p.3 z) (r.2 z)) ∙ sym b.7, r.3)

    pub binds_once : {c : DeclKind} {x : Symbol} {env after : Environment} {i e j : ℕ} {ts : Trees} →
        Binds g shapes text c x env i e j ts after → BindsOnce c x env i e j ts after
    binds_once (a.literal c word env i e j us behind) f k ws later rest others second same =
        let b = binds_by g shapes text second in
        let r = leaf_once c i e f j k us ws rest others (behind_once behind) b.0.0 b.0.1 b.0.2 same in (r.0, r.1, sym b.1, r.2, r.3)
    binds_once (a.one_of c class env i e j us behind) f k ws later rest others second same =
        let b = binds_by g shapes text second in
        let r = leaf_once c i e f j k us ws rest others (behind_once behind) b.0.0 b.0.1 b.0.2 same in (r.0, r.1, sym b.1, r.2, r.3)
    binds_once (a.call c kind name arguments vs env i e j t us have within behind) f k ws later rest others second same =
        let b = binds_by g shapes text second in
        let r = call_once c kind b.0 name vs b.1 i e f j k t b.2 us b.5.0 ws rest others (within_once within) (behind_once behind) (values_once text env i arguments vs b.1 have b.3) b.4 b.5.1 b.5.2 same in
        (r.0, r.1, sym b.6, r.2, r.3)
    binds_once (a.label c name x env between after i e j ts inner bound) f k ws later rest others second same =
        let b = binds_by g shapes text second in
        let r = binds_once inner f k ws b.0 rest others b.1 same in
        (r.0, r.1, bound ∙ (λ z. r.2 z ++ (name, span_value i (r.0 z)) ∷ []) ∙ sym b.2, r.3, r.4)
    binds_once (a.guard c condition env i) f k ws later rest others second same =
        let b = binds_by g shapes text second in (b.0, b.1, sym b.3, sym b.2, same ∙ ap (λ z. ahead z others) b.2)
    binds_once (a.let_be c name expression v env after i has bound) f k ws later rest others second same =
        let b = binds_by g shapes text second in
        let valued : v ≡ b.0 = same_Some v b.0 (sym has ∙ b.1) in
        (b.3, b.4, bound ∙ (λ z. env ++ (name, valued z) ∷ []) ∙ sym b.2, sym b.5, same ∙ ap (λ z. ahead z others) b.5)
    binds_once (a.node c x form parts env i j ts bound has inner) f k ws later rest others second same =
        node_once c x form parts env later i j f k ts ws bound rest others has (apart_once inner) (by_node g shapes text has (binds_by g shapes text second)) same
    binds_once (a.round c x y env after i e j ts mark inner) f k ws later rest others second same =
        binds_once inner f k ws later rest others (by_round g shapes text mark (binds_by g shapes text second)) same
    binds_once (a.sequence c xs env after i j ts inner) f k ws later rest others second same =
        let b = binds_by g shapes text second in
        let r = bind_once inner k ws later rest others b.0 same in (r.0 ∙ sym b.1, r.0, r.1, r.2, r.3)
    binds_once (a.entry c bindings x vs env inside after i e j ts have renewed inner) f k ws later rest others second same =
        let b = binds_by g shapes text second in
        let valued = values_once text env i (map (λ q. q.value) bindings) vs b.0 have b.4 in
        let insides : inside ≡ b.1 = renewed ∙ ap (replaced env bindings) valued ∙ sym b.5 in
        let q = subst (λ z. Binds g shapes text c x z i b.3 k ws b.2) (sym insides) b.6 in
        let r = binds_once inner b.3 k ws b.2 rest others q same in
        (r.1 ∙ sym b.7, r.1, sym b.8, r.3, r.4)

    apart_once : {c : DeclKind} {xs : List Symbol} {env : Environment} {i j : ℕ} {ts : Trees} {bound : List Value} →
        BindApart g shapes text c xs env i j ts bound → ApartOnce c xs env i j ts bound
    apart_once (a.no_part c env i) k us values rest others second same =
        let b = apart_by g shapes text second in (b.0, sym b.2, sym b.1, same ∙ ap (λ z. ahead z others) b.1)
    apart_once (a.next_part c x xs env after i e h j ts us vs some bound first onward trees valued) k ws values rest others second same =
        let b = apart_by g shapes text second in
        let apart = sym (parted ts us vs rest trees) ∙ same ∙ parted b.3 b.4 ws others b.8 in
        let p = binds_once first b.1 b.2 b.3 b.0 (ahead us rest) (ahead b.4 others) b.6 apart in
        let q = subst (λ z. BindApart g shapes text c xs env z k b.4 b.5) (sym p.1) b.7 in
        let r = apart_once onward k b.4 b.5 rest others q p.4 in
        (r.0, valued ∙ (λ z. bound_between env (p.2 z) ++ r.1 z) ∙ sym b.9, trees ∙ (λ z. join (p.3 z) (r.2 z)) ∙ sym b.8, r.3)

    pub within_once : {name : List ℕ} {vs : List Value} {kind : DeclKind} {i e : ℕ} {t : Tree} →
        Within g shapes text name vs kind i e t → WithinOnce name vs kind i e t
    within_once (a.alternative name vs kind d k decl shape by env after i e ts t declares numbered bound same binds tree) =
        alternative_within name vs kind d k decl shape by env after i e ts t declares numbered bound same tree (bind_once binds)

    behind_once : {c kind : DeclKind} {e j : ℕ} {ts : Trees} → Behind g shapes text c kind e j ts → BehindOnce c kind e j ts
    behind_once (a.layout name kind e j t declared within) k us rest others second same =
        layout_once name kind e j k t us rest others declared (within_once within) (behind_by g shapes text second) same
    behind_once (a.no_layout c kind e undeclared) k us rest others second same =
        nothing_once c kind e k us rest others undeclared (behind_by g shapes text second) same
