-- A grammar in which a declaration stands for the root permits the same trees without levels, with the same values.
use Rattle.std.proofs.Common.{◌≡◌, ℕ, suc, Bool, true, false, List, [], ◌∷◌, length, refl, sym, ◌∙◌, ap, subst, Some}
use Rattle.std.specs.Prelude.{◌↔◌, slice_get}
use Rattle.ig_text.specs.Input.{Input}
use Rattle.ig_text.specs.declared.tag.Tag.TheVariants as tag
use Rattle.ig_text.specs.Tree.{Tree, Trees, Node}
use Rattle.ig_text.proofs.Lists.{at_from_contains}
use Rattle.ig_expr.specs.ValuedTree as valued
use Rattle.ig_grammar.specs.Symbol.{Symbol}
use Rattle.ig_meaning.specs.Environment.{Environment}
use Rattle.ig_grammar.specs.Numbering.{Levelled, Declares, IsAlternative}
use Rattle.ig_meaning.specs.Clean.{Clean, AllClean}
use Rattle.ig_meaning.specs.Laws.{HasNoOperators, TreesWithoutOperatorsAreClean}
use Rattle.ig_meaning.specs.Derivation.{Covers}
use Rattle.ig_meaning.specs.Annotated.{bound_between, Bind, Annotates}
use Rattle.ig_meaning.specs.Permitted.{Permitted, IsRootAlternative, written, declared}
use Rattle.ig_grammar.specs.declared.declaration.DeclKind.{DeclKind}
use Rattle.ig_grammar.specs.declared.declaration.Level.{Level}
use Rattle.ig_grammar.specs.declared.declaration.Decl.{Decl}
use Rattle.ig_grammar.specs.declared.grammar.Grammar.{Grammar}
use Rattle.ig_grammar.specs.declared.place.Shape.{Shape}
use Rattle.ig_grammar.specs.declared.place.Shape.TheVariants as shape
use Rattle.ig_grammar.specs.declared.symbol.Alt.{Alt}
use Rattle.ig_pass.specs.KeptByRoot.{RootAt}
use Rattle.ig_pass.specs.Sound.{IsFree}
use Rattle.ig_text.proofs.Options.{mapped}
use Rattle.std.proofs.lemmas.Option.{slice_get-map, same_Some}
use Rattle.ig_levels.specs.Levels.{names_levelled, is_levelled, lowered_declaration, lowered_grammar, one_level, symbols_in, place_in}
use Rattle.ig_levels.proofs.WithBounds.{unbounded, Inserted, here}
use Rattle.ig_levels.proofs.Premises.{Lowerable}
use Rattle.ig_levels.proofs.Takes.{Takes}
use Rattle.ig_levels.proofs.Declaring.{takes_of}
use Rattle.ig_levels.proofs.Lowering.{flat, alternative_to, alternative_from}
use Rattle.ig_levels.proofs.Forth.{covers_to}
use Rattle.ig_levels.proofs.Back.{covers_from}
use Rattle.ig_levels.proofs.Nodes.{clean_other}
use Rattle.ig_levels.proofs.Idle.{idle_wanted, no_tests}
use Rattle.ig_levels.proofs.Values.{bind_to}

one_free : (levels : List Level) (alts : List Alt) → HasNoOperators (one_level levels alts)
one_free [] alts = tt
one_free (level ∷ levels) alts = refl

-- the grammar without levels has no operators
pub lowered_is_free : (g : Grammar) → IsFree (lowered_grammar g)
lowered_is_free g decl among =
    let at = at_from_contains (lowered_grammar g).decls decl among in
    let from = mapped (lowered_declaration (names_levelled g.decls)) (slice_get g.decls at.0) decl
    (sym (slice_get-map (lowered_declaration (names_levelled g.decls)) g.decls at.0) ∙ at.1) in
    subst (λ (z : Decl). HasNoOperators z.levels) (sym from.2) (one_free from.0.levels _)

module _ (g : Grammar) (shapes : List Shape) (text : Input) (cleans : TreesWithoutOperatorsAreClean) (may : Lowerable g shapes)
    (root : RootAt (record { grammar = g; shapes = shapes })) where
  abbrev g' : Grammar
  g' = lowered_grammar g

  abbrev levelled : List ℕ → Bool
  levelled = names_levelled g.decls

  takes : Takes g g' shapes shapes levelled
  takes = takes_of g shapes may

  -- where a shape is `Root`, its declaration is the start
  pub record StartAt (start : List ℕ) : Type 0 where
    pub d : ℕ
    pub decl : Decl
    pub declares : Declares g shapes start d decl shape.Root

  root_at : (start : List ℕ) → g.start ≡ Some start → StartAt start
  root_at start starts =
      record {
        d = suc root.before;
        decl = root.decl;
        declares = record {
          numbered = (root.before, refl, root.declared);
          shaped = (root.before, refl, root.shaped);
          named = same_Some root.decl.name start (sym root.start ∙ starts);
        };
      }

  all_clean : (t : Tree) → Clean g' t
  all_clean t = cleans g' (lowered_is_free g) t

  nowhere : Inserted unbounded [] []
  nowhere = here [] [] refl

  -- a declared root has no levels
  idle_root : (start : List ℕ) (d : ℕ) (decl : Decl) → Declares g shapes start d decl shape.Root → is_levelled decl.levels ≡ false
  idle_root start d decl declares = go (is_levelled decl.levels) refl
    where
      go : (b : Bool) → is_levelled decl.levels ≡ b → b ≡ false
      go true e = let is : shape.Root ≡ shape.Rule = may.rules d decl shape.Root declares.numbered declares.shaped e in absurd (cc)
      go false e = refl

  declared_to : (start : List ℕ) (d : ℕ) (decl : Decl) (a : Levelled) → g.start ≡ Some start → Declares g shapes start d decl shape.Root → IsAlternative decl 1 a →
      (children : Trees) (after : Environment) (starts : List ℕ) → Covers g shapes text decl.kind a.alternative.symbols [] 0 (length text.characters) children after starts →
      AllClean g children → Permitted g' shapes text (Node tag.Root 0 (length text.characters) children)
  declared_to start d decl a starts declares numbered children after ks covers clean =
      let idle = idle_root start d decl declares in
      let lower = covers_to g g' shapes shapes levelled text takes covers (place_in decl a) unbounded true (λ e. absurd (cc)) (λ e. absurd (cc)) clean
      (idle_wanted g (place_in decl a) idle unbounded true a.alternative.symbols children) (may.clear d decl 1 a declares.numbered numbered) [] nowhere in
      record {
        kind = decl.kind;
        symbols = symbols_in levelled (place_in decl a) a.level a.alternative.symbols;
        children = children;
        after = lower.left;
        starts = ks;
        root = declared start d (lowered_declaration levelled decl) (flat levelled decl a) decl.kind _ starts
            (takes.forth start d decl shape.Root declares) (alternative_to levelled decl 1 a numbered) refl refl;
        covered = subst (λ (z : List Symbol). Covers g' shapes text decl.kind z [] 0 (length text.characters) children lower.left ks)
            (sym (no_tests levelled (place_in decl a) idle a.level a.alternative.symbols)) lower.covers;
        whole = refl;
        clean = all_clean (Node tag.Root 0 (length text.characters) children);
      }

  forth : (t : Tree) → Permitted g shapes text t → Permitted g' shapes text t
  forth t permitted =
      subst (Permitted g' shapes text) (sym permitted.whole) (go permitted.root permitted.covered (subst (Clean g) permitted.whole permitted.clean).1)
    where
      go : {kind : DeclKind} {symbols : List Symbol} {children : Trees} {after : Environment} {starts : List ℕ} → IsRootAlternative g shapes kind symbols →
          Covers g shapes text kind symbols [] 0 (length text.characters) children after starts → AllClean g children → Permitted g' shapes text (Node tag.Root 0 (length text.characters) children)
      go (written start symbols start_is undeclared same) covers clean =
          let at = root_at start start_is in absurd (undeclared at.d at.decl at.declares)
      go {children = children} {after = after} {starts = starts} (declared start d decl a kind symbols start_is declares numbered kinds same) covers clean =
          declared_to start d decl a start_is declares numbered children after starts
          (subst (λ z. Covers g shapes text z a.alternative.symbols [] 0 (length text.characters) children after starts) kinds
          (subst (λ z. Covers g shapes text kind z [] 0 (length text.characters) children after starts) same covers)) clean

  declared_from : (start : List ℕ) (d : ℕ) (lower : Decl) (lower_a : Levelled) → g.start ≡ Some start → Declares g' shapes start d lower shape.Root →
      IsAlternative lower 1 lower_a → (children : Trees) (after : Environment) (starts : List ℕ) →
      Covers g' shapes text lower.kind lower_a.alternative.symbols [] 0 (length text.characters) children after starts → Permitted g shapes text (Node tag.Root 0 (length text.characters) children)
  declared_from start d lower lower_a starts declares numbered children after ks covers =
      let from = takes.back start d lower shape.Root declares in
      let decl = from.decl in
      let alt = alternative_from levelled decl 1 lower_a (subst (λ (z : Decl). IsAlternative z 1 lower_a) from.same numbered) in
      let a = alt.a in
      let idle = idle_root start d decl from.declares in
      let higher = covers_from g g' shapes shapes levelled text takes covers [] a.alternative.symbols (place_in decl a) unbounded true
      (ap (λ (z : Levelled). z.alternative.symbols) alt.same ∙ no_tests levelled (place_in decl a) idle a.level a.alternative.symbols)
      (λ e. absurd (cc)) (λ e. absurd (cc)) (λ e. absurd (cc)) (may.clear d decl 1 a from.declares.numbered alt.numbered) [] nowhere in
      record {
        kind = decl.kind;
        symbols = a.alternative.symbols;
        children = children;
        after = higher.after;
        starts = ks;
        root = declared start d decl a decl.kind _ starts from.declares alt.numbered refl refl;
        covered = subst (λ z. Covers g shapes text z a.alternative.symbols [] 0 (length text.characters) children higher.after ks) (ap (λ (z : Decl). z.kind) from.same) higher.covers;
        whole = refl;
        clean = (clean_other g shapes text tag.Root (λ d k z. cc) children, higher.clean);
      }

  back : (t : Tree) → Permitted g' shapes text t → Permitted g shapes text t
  back t permitted = subst (Permitted g shapes text) (sym permitted.whole) (go permitted.root permitted.covered)
    where
      go : {kind : DeclKind} {symbols : List Symbol} {children : Trees} {after : Environment} {starts : List ℕ} → IsRootAlternative g' shapes kind symbols →
          Covers g' shapes text kind symbols [] 0 (length text.characters) children after starts → Permitted g shapes text (Node tag.Root 0 (length text.characters) children)
      go (written start symbols start_is undeclared same) covers =
          let at = root_at start start_is in
          absurd (undeclared at.d (lowered_declaration levelled at.decl) (takes.forth start at.d at.decl shape.Root at.declares))
      go {children = children} {after = after} {starts = starts} (declared start d lower lower_a kind symbols start_is declares numbered kinds same) covers =
          declared_from start d lower lower_a start_is declares numbered children after starts
          (subst (λ z. Covers g' shapes text z lower_a.alternative.symbols [] 0 (length text.characters) children after starts) kinds
          (subst (λ z. Covers g' shapes text kind z [] 0 (length text.characters) children after starts) same covers))

  pub permits_same : (t : Tree) → Permitted g shapes text t ↔ Permitted g' shapes text t
  permits_same t = (forth t, back t)

  annotated_to : (u : valued.Tree) (t : Tree) (start : List ℕ) (d : ℕ) (decl : Decl) (a : Levelled) → g.start ≡ Some start → Declares g shapes start d decl shape.Root →
      IsAlternative decl 1 a → (children : valued.Trees) (after : Environment) → Bind g shapes text decl.kind a.alternative.symbols [] 0 (length text.characters) children after →
      u ≡ valued.Node tag.Root (bound_between [] after) 0 (length text.characters) children → valued.bare_tree u ≡ t → Annotates g' shapes text t u
  annotated_to u t start d decl a starts declares numbered children after bind whole same =
      let idle = idle_root start d decl declares in
      let lower = bind_to g g' shapes shapes levelled text takes bind (place_in decl a) unbounded true (λ e. absurd (cc))
      (may.clear d decl 1 a declares.numbered numbered) [] nowhere in
      record {
        kind = decl.kind;
        symbols = symbols_in levelled (place_in decl a) a.level a.alternative.symbols;
        children = children;
        after = lower.grown;
        root = declared start d (lowered_declaration levelled decl) (flat levelled decl a) decl.kind _ starts
            (takes.forth start d decl shape.Root declares) (alternative_to levelled decl 1 a numbered) refl refl;
        binds = subst (λ (z : List Symbol). Bind g' shapes text decl.kind z [] 0 (length text.characters) children lower.grown)
            (sym (no_tests levelled (place_in decl a) idle a.level a.alternative.symbols)) lower.bind;
        whole = whole ∙ ap (λ z. valued.Node tag.Root (bound_between [] z) 0 (length text.characters) children) lower.source;
        same = same;
      }

  pub annotates_same : (t : Tree) (u : valued.Tree) → Annotates g shapes text t u → Annotates g' shapes text t u
  annotates_same t u annotated = go annotated.kind annotated.symbols annotated.root annotated.binds
    where
      go : (kind : DeclKind) (symbols : List Symbol) → IsRootAlternative g shapes kind symbols →
          Bind g shapes text kind symbols [] 0 (length text.characters) annotated.children annotated.after → Annotates g' shapes text t u
      go kind symbols (written start _ start_is undeclared same) bind =
          let at = root_at start start_is in absurd (undeclared at.d at.decl at.declares)
      go kind symbols (declared start d decl a _ _ start_is declares numbered kinds same) bind =
          annotated_to u t start d decl a start_is declares numbered annotated.children annotated.after
          (subst (λ z. Bind g shapes text z a.alternative.symbols [] 0 (length text.characters) annotated.children annotated.after) kinds
          (subst (λ z. Bind g shapes text kind z [] 0 (length text.characters) annotated.children annotated.after) same bind)) annotated.whole annotated.same
