-- Permitted trees that don't differ are equal, and have one annotation.
use Rattle.std.proofs.Common.{◌≡◌, ℕ, List, [], ◌∷◌, length, refl, sym, ◌∙◌, ap, subst, arith}
use Rattle.std.proofs.lemmas.Bool.Decides.{nat_tests}
use Rattle.std.proofs.lemmas.Option.{same_Some}
use Rattle.std.specs.declared.cmp.Ordering.TheVariants.{Equal}
use Rattle.std.specs.Ordering.{ordering_then, nat_cmp}
use Rattle.std.specs.Cmp.Lexicographic.{slice_cmp}
use Rattle.ig_text.specs.Input.{Input}
use Rattle.ig_text.specs.declared.tag.Tag.TheVariants.{Root}
use Rattle.ig_text.specs.Tree as plain
use Rattle.ig_expr.specs.declared.value.Value.{Value}
use Rattle.ig_grammar.specs.Symbol.{Symbol, Call}
use Rattle.ig_grammar.specs.Names.{names, AreDistinct}
use Rattle.ig_grammar.specs.Numbering.{Levelled, Declares, layout_among}
use Rattle.ig_meaning.specs.Derivation.{Covers, Derives, Instance}
use Rattle.ig_expr.specs.ValuedTree.{Tree, Trees, Leaf, Node, none, more, bare_tree, bare_trees}
use Rattle.ig_meaning.specs.Annotated.{bound_between, Bind, Binds, Annotates}
use Rattle.ig_meaning.specs.AnnotatedLaws.{AnnotationsAreUnique}
use Rattle.ig_meaning.specs.Environment.{Environment}
use Rattle.ig_meaning.specs.Laws as laws
use Rattle.ig_text.specs.TagNumber.{number_of}
use Rattle.ig_text.proofs.Options.{equal_parts}
use Rattle.ig_expr.specs.ValueOrder.{value_cmp}
use Rattle.ig_expr.specs.TreeOrder.{begin_of, starts_cmp, tree_cmp, trees_cmp, children_cmp}
use Rattle.ig_meaning.specs.Order.{UndifferingTreesAreEqual}
use Rattle.ig_meaning.proofs.Tags.{TagsTellAlternatives, fitting_shapes_tell}
use Rattle.ig_meaning.specs.Permitted.{Permitted, IsRootAlternative, written, declared, behind_layout}
use Rattle.ig_grammar.specs.declared.declaration.DeclKind.{DeclKind}
use Rattle.ig_grammar.specs.declared.declaration.Decl.{Decl}
use Rattle.ig_grammar.specs.declared.grammar.Grammar.{Grammar}
use Rattle.ig_grammar.specs.declared.place.Shape.{Shape}
use Rattle.ig_grammar.specs.declared.place.Shape.TheVariants as shape
use Rattle.ig_meaning.proofs.Tiling.{AreClose, AllClose, AllSameTags, same_tree, same_trees, covers_tiles, derives_tiles, instance_tiles}
use Rattle.ig_meaning.proofs.Telling.{declared_once, alternative_once, covers_told, derives_told, instance_told, told_whole}
use Rattle.ig_meaning.proofs.Determined.{bind_once, binds_once, within_once}

same_number : (a b : ℕ) → nat_cmp a b ≡ Equal → a ≡ b
same_number a b e = grind (arith, nat_tests)

same_begin : (t : Tree) → laws.begin_of (bare_tree t) ≡ begin_of t
same_begin (Leaf i j) = refl
same_begin (Node tag bound i j ts) = refl

mutual
  close_tree : (t u : Tree) → tree_cmp t u ≡ Equal → AreClose (bare_tree t) (bare_tree u)
  close_tree (Leaf i j) (Leaf k l) e = tt
  close_tree (Leaf i j) (Node tag bound k l us) e = absurd (cc)
  close_tree (Node tag bound i j ts) (Leaf k l) e = absurd (cc)
  close_tree (Node tag bound i j ts) (Node other values k l us) e =
      let a = equal_parts (nat_cmp (number_of tag) (number_of other)) (ordering_then (slice_cmp value_cmp bound values) (ordering_then (starts_cmp ts us) (trees_cmp ts us))) e in
      let b = equal_parts (slice_cmp value_cmp bound values) (ordering_then (starts_cmp ts us) (trees_cmp ts us)) a.1 in
      let c = equal_parts (starts_cmp ts us) (trees_cmp ts us) b.1 in
      (same_number (number_of tag) (number_of other) a.0, close_trees ts us c.0 c.1)

  close_trees : (ts us : Trees) → starts_cmp ts us ≡ Equal → trees_cmp ts us ≡ Equal → AllClose (bare_trees ts) (bare_trees us)
  close_trees none none s e = tt
  close_trees none (more u us) s e = absurd (cc)
  close_trees (more t ts) none s e = absurd (cc)
  close_trees (more t ts) (more u us) s e =
      let a = equal_parts (starts_cmp ts us) (nat_cmp (begin_of t) (begin_of u)) s in
      let b = equal_parts (tree_cmp t u) (trees_cmp ts us) e in
      (same_begin t ∙ same_number (begin_of t) (begin_of u) a.1 ∙ sym (same_begin u), close_tree t u b.0, close_trees ts us a.0 b.1)

close_children : (ts us : Trees) → children_cmp ts us ≡ Equal → AllClose (bare_trees ts) (bare_trees us)
close_children ts us e =
    let parts = equal_parts (starts_cmp ts us) (trees_cmp ts us) e in close_trees ts us parts.0 parts.1

module _ (g : Grammar) (shapes : List Shape) (text : Input) (distinct : AreDistinct (names g.decls)) (tells : TagsTellAlternatives g shapes) where
  abbrev pub AreOneRoot : DeclKind → DeclKind → List Symbol → List Symbol → Type 0
  AreOneRoot kind other xs ys = (kind ≡ other) × (xs ≡ ys)

  pub one_root : {kind other : DeclKind} {xs ys : List Symbol} → IsRootAlternative g shapes kind xs → IsRootAlternative g shapes other ys →
      AreOneRoot kind other xs ys
  one_root (written start xs named free same) (written begin ys named' free' same') =
      let starts : start ≡ begin = same_Some start begin (sym named ∙ named') in
      (refl, same ∙ ap (λ n. behind_layout (layout_among g.decls) (Call n [] ∷ [])) starts ∙ sym same')
  one_root (written start xs named free same) (declared begin d decl a kind ys named' declares numbered read same') =
      let starts : begin ≡ start = same_Some begin start (sym named' ∙ named) in
      absurd (free d decl (subst (λ n. Declares g shapes n d decl shape.Root) starts declares))
  one_root (declared start d decl a kind xs named declares numbered read same) (written begin ys named' free same') =
      let starts : start ≡ begin = same_Some start begin (sym named ∙ named') in
      absurd (free d decl (subst (λ n. Declares g shapes n d decl shape.Root) starts declares))
  one_root (declared start d decl a kind xs named declares numbered read same) (declared begin e other b kind' ys named' declares' numbered' read' same') =
      let starts : begin ≡ start = same_Some begin start (sym named' ∙ named) in
      let once = declared_once g shapes text distinct tells start d e decl other shape.Root shape.Root declares (subst (λ n. Declares g shapes n e other shape.Root) starts declares') in
      let alike : a ≡ b = alternative_once g shapes text distinct tells decl other 1 1 a b once.declaration refl numbered numbered' in
      (read ∙ ap (λ (q : Decl). q.kind) once.declaration ∙ sym read', same ∙ ap (λ (q : Levelled). q.alternative.symbols) alike ∙ sym same')

  bind_determined : {c : DeclKind} {xs : List Symbol} {env after later : Environment} {i j k : ℕ} {ts us : Trees} →
      Bind g shapes text c xs env i j ts after → Bind g shapes text c xs env i k us later →
      bare_trees ts ≡ bare_trees us → (j ≡ k) × (after ≡ later) × (ts ≡ us)
  bind_determined {later = later} {k = k} {us = us} first second same =
      let r = bind_once g shapes text distinct tells first k us later plain.none plain.none second (ap (λ z. plain.join z plain.none) same) in
      (r.0, r.1, r.2)

  binds_determined : {c : DeclKind} {x : Symbol} {env after later : Environment} {i e f j k : ℕ} {ts us : Trees} →
      Binds g shapes text c x env i e j ts after → Binds g shapes text c x env i f k us later →
      bare_trees ts ≡ bare_trees us → (e ≡ f) × (j ≡ k) × (after ≡ later) × (ts ≡ us)
  binds_determined {later = later} {f = f} {k = k} {us = us} first second same =
      let r = binds_once g shapes text distinct tells first f k us later plain.none plain.none second (ap (λ z. plain.join z plain.none) same) in
      (r.0, r.1, r.2, r.3)

  covers_equal : {c : DeclKind} {xs : List Symbol} {env other after later : Environment} {i j : ℕ} {ks ls : List ℕ} (ts us : Trees) →
      Covers g shapes text c xs env i j (bare_trees ts) after ks → Covers g shapes text c xs other i j (bare_trees us) later ls →
      AllClose (bare_trees ts) (bare_trees us) → bare_trees ts ≡ bare_trees us
  covers_equal {other = other} {later = later} {i = i} {j = j} {ls = ls} ts us first second close =
      let told = covers_told g shapes text distinct tells first other later i j (bare_trees us) ls second in
      let tags : AllSameTags (bare_trees ts) (bare_trees us) = told_whole (bare_trees ts) (bare_trees us) told close in
      same_trees (bare_trees ts) (bare_trees us) i j (covers_tiles g shapes text first) (covers_tiles g shapes text second) close tags

  derives_equal : {c : DeclKind} {x : Symbol} {env other after later : Environment} {i e f j : ℕ} {ks ls : List ℕ} (ts us : Trees) →
      Derives g shapes text c x env i e j (bare_trees ts) after ks → Derives g shapes text c x other i f j (bare_trees us) later ls →
      AllClose (bare_trees ts) (bare_trees us) → bare_trees ts ≡ bare_trees us
  derives_equal {other = other} {later = later} {i = i} {f = f} {j = j} {ls = ls} ts us first second close =
      let told = derives_told g shapes text distinct tells first other later i f j (bare_trees us) ls second in
      let tags : AllSameTags (bare_trees ts) (bare_trees us) = told_whole (bare_trees ts) (bare_trees us) told close in
      same_trees (bare_trees ts) (bare_trees us) i j (derives_tiles g shapes text first) (derives_tiles g shapes text second) close tags

  instance_equal : {name : List ℕ} {vs ws : List Value} {kind form : DeclKind} {i e : ℕ} {ks ls : List ℕ} (t u : Tree) →
      Instance g shapes text name vs kind i e (bare_tree t) ks → Instance g shapes text name ws form i e (bare_tree u) ls →
      tree_cmp t u ≡ Equal → bare_tree t ≡ bare_tree u
  instance_equal {ws = ws} {form = form} {i = i} {e = e} {ls = ls} t u first second same =
      let close = close_tree t u same in
      let tags = instance_told g shapes text distinct tells first ws form i e (bare_tree u) ls second close in
      let p = instance_tiles g shapes text first in
      let q = instance_tiles g shapes text second in
      same_tree (bare_tree t) (bare_tree u) (p.0 ∙ sym q.0) (p.1 ∙ sym q.1) p.2 q.2 close tags

  permitted_equal : (t u : plain.Tree) → Permitted g shapes text t → Permitted g shapes text u → AreClose t u → t ≡ u
  permitted_equal t u p q same =
      let close : AreClose (plain.Node Root 0 (length text.characters) p.children) (plain.Node Root 0 (length text.characters) q.children) =
      subst (AreClose (plain.Node Root 0 (length text.characters) p.children)) q.whole (subst (λ z. AreClose z u) p.whole same) in
      let root = one_root p.root q.root in
      let second = subst (λ xs. Covers g shapes text p.kind xs [] 0 (length text.characters) q.children q.after q.starts) (sym root.1) (subst (λ c. Covers g shapes text c q.symbols [] 0 (length text.characters) q.children q.after q.starts) (sym root.0) q.covered) in
      let told = covers_told g shapes text distinct tells p.covered [] q.after 0 (length text.characters) q.children q.starts second in
      let tags : AllSameTags p.children q.children = told_whole p.children q.children told close.1 in
      let children : p.children ≡ q.children =
      same_trees p.children q.children 0 (length text.characters) (covers_tiles g shapes text p.covered) (covers_tiles g shapes text q.covered) close.1 tags in
      p.whole ∙ ap (plain.Node Root 0 (length text.characters)) children ∙ sym q.whole

  determined : {t : plain.Tree} {u v : Tree} → Annotates g shapes text t u → Annotates g shapes text t v → u ≡ v
  determined p q =
      let both : plain.Node Root 0 (length text.characters) (bare_trees p.children) ≡ plain.Node Root 0 (length text.characters) (bare_trees q.children) =
      sym (ap bare_tree p.whole) ∙ p.same ∙ sym q.same ∙ ap bare_tree q.whole in
      let children : bare_trees p.children ≡ bare_trees q.children = cc in
      let root = one_root p.root q.root in
      let second = subst (λ xs. Bind g shapes text p.kind xs [] 0 (length text.characters) q.children q.after) (sym root.1) (subst (λ c. Bind g shapes text c q.symbols [] 0 (length text.characters) q.children q.after) (sym root.0) q.binds) in
      let r = bind_determined p.binds second children in
      p.whole ∙ (λ z. Node Root (bound_between [] (r.1 z)) 0 (length text.characters) (r.2 z)) ∙ sym q.whole

pub undiffering : UndifferingTreesAreEqual
undiffering g shapes text distinct fit =
    let tells = fitting_shapes_tell g shapes fit in
    record {
      covers = λ ts us first second same. covers_equal g shapes text distinct tells ts us first second (close_children ts us same);
      derives = λ ts us first second same. derives_equal g shapes text distinct tells ts us first second (close_children ts us same);
      instance = instance_equal g shapes text distinct tells;
      permitted = λ t u first second same.
          permitted_equal g shapes text distinct tells (bare_tree t) (bare_tree u) first second (close_tree t u same);
    }

pub unique : AnnotationsAreUnique
unique g shapes text distinct fit =
    let tells = fitting_shapes_tell g shapes fit in
    record {
      bind = bind_determined g shapes text distinct tells;
      binds = binds_determined g shapes text distinct tells;
      within = λ first second same. within_once g shapes text distinct tells first _ _ _ second same;
      annotates = determined g shapes text distinct tells;
    }
