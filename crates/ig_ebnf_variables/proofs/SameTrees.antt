-- The pass keeps the permitted trees.
use Rattle.ig_text.specs.Input.{Input}
use Rattle.ig_text.proofs.Lists.{at_from_contains, either_place, from_map}
use Rattle.std.proofs.lemmas.Option.{same_Some}
use Rattle.ig_ebnf_variables.proofs.OfAdded.{of_added_at}
use Rattle.ig_ebnf_variables.proofs.LoweredGrammar.{new_free}
use Rattle.ig_ebnf_variables.proofs.AddedNames.{IsPlainly}
use Rattle.std.proofs.Common.{◌≡◌, ℕ, ◌+◌, List, [], ◌∷◌, ◌++◌, map, length, refl, sym, ◌∙◌, ap, subst, Some, inl}
use Rattle.std.proofs.Common.{inr}
use Rattle.std.specs.Prelude.{◌⊎◌, slice_get, Contains}
use Rattle.ig_text.specs.declared.tag.Tag.TheVariants as tag
use Rattle.ig_ebnf_variables.proofs.Back.{covers_from}
use Rattle.ig_grammar.specs.Checked.{CheckedGrammar}
use Rattle.ig_pass.specs.SameTrees.{PermitSame}
use Rattle.ig_pass.specs.SameValues.{KeepsValues}
use Rattle.ig_expr.specs.ValuedTree as valued
use Rattle.ig_meaning.specs.Annotated.{Annotates}
use Rattle.ig_meaning.specs.Laws.{TreesWithoutOperatorsAreClean}
use Rattle.ig_ebnf_variables.proofs.Definitions.{SymbolsProper, AllDeclared, Takes, Binds, Quiet, IsOld, MayBeLowered}
use Rattle.ig_ebnf_variables.proofs.Forth.{covers_to}
use Rattle.ig_ebnf_variables.proofs.ValuedForth.{bind_to, same_values}
use Rattle.ig_ebnf_variables.proofs.LoweredGrammar.{takes_of}
use Rattle.ig_ebnf_variables.proofs.AddedNames.{all_plain}
use Rattle.ig_ebnf_variables.proofs.InstanceParts.{nothing_of}
use Rattle.ig_ebnf_variables.specs.Lists.{added_symbols, lowered, lowered_grammar, Made, new_declaration, new_symbols}
use Rattle.ig_ebnf_variables.specs.Lists.{all_elements, all_added, decls_of, forms_of}
use Rattle.ig_grammar.specs.Numbering.{Levelled, Declares, IsAlternative}
use Rattle.ig_grammar.specs.Symbol.{Symbol, Call, gathered, listed}
use Rattle.ig_grammar.specs.Visible.{Visible, parameters}
use Rattle.ig_grammar.specs.declared.declaration.Decl.{Decl}
use Rattle.ig_grammar.specs.declared.declaration.DeclKind.{DeclKind}
use Rattle.ig_grammar.specs.declared.declaration.DeclKind.TheVariants.{Syntax}
use Rattle.ig_grammar.specs.declared.grammar.Grammar.{Grammar}
use Rattle.ig_grammar.specs.declared.place.Shape.{Shape}
use Rattle.ig_meaning.specs.Derivation.{Covers}
use Rattle.ig_meaning.specs.Environment.{Environment}
use Rattle.ig_meaning.specs.Laws.{HasNoOperators}
use Rattle.ig_meaning.specs.Permitted.{Permitted, IsRootAlternative, written, declared, behind_layout}
use Rattle.ig_text.specs.Tree.{Tree, Trees, Node, join}
use Rattle.ig_grammar.specs.declared.place.Shape.TheVariants as shape
use Rattle.ig_grammar.specs.Gathered.{listed_gathered}
use Rattle.ig_ebnf_variables.proofs.Elements.{all_ready, reaching}

module _ (clean_tree : TreesWithoutOperatorsAreClean) (g : Grammar) (shapes : List Shape) (text : Input)
    (may : MayBeLowered g shapes) where
  abbrev g' : Grammar
  g' = lowered_grammar g

  abbrev shapes' : List Shape
  shapes' = shapes ++ forms_of (all_added g.decls)

  abbrev made : List Made
  made = all_added g.decls

  takes : Takes g g' shapes shapes' (IsOld g)
  takes = takes_of g shapes may

  quiet : (c : DeclKind) → Quiet g c
  quiet c e = may.no_layout

  quiet' : (c : DeclKind) → Quiet g' c
  quiet' c e = takes.layout ∙ may.no_layout

  binds_nothing : Binds [] []
  binds_nothing = record { at = λ n. refl }

  free : (decl : Decl) → Contains g.decls decl → HasNoOperators decl.levels
  free decl among = let at = at_from_contains g.decls decl among in may.free at.0 decl at.1

  free' : (decl : Decl) → Contains g'.decls decl → HasNoOperators decl.levels
  free' decl among =
      let at = at_from_contains g'.decls decl among in
      go at.0 decl (either_place (map new_declaration g.decls) (decls_of made) at.0 decl at.1)
    where
      go : (b : ℕ) (d : Decl) → (slice_get (map new_declaration g.decls) b ≡ Some d) ⊎
          ((m : ℕ) × (slice_get (decls_of made) m ≡ Some d) × (b ≡ length (map new_declaration g.decls) + m)) →
          HasNoOperators d.levels
      go b d (inl e) =
          let from = from_map new_declaration g.decls b d e in
          subst (λ (z : Decl). HasNoOperators z.levels) (sym from.2)
          (new_free from.0.name (parameters from.0.params) from.0.levels (may.free b from.0 from.1))
      go b d (inr e) =
          let from = from_map (λ (x : Made). x.decl) made e.0 d e.1 in
          subst (λ (z : Decl). HasNoOperators z.levels) (sym from.2)
          (of_added_at IsPlainly made (all_plain g.decls) e.0 from.0 from.1).free

  start_old : (start : List ℕ) → g.start ≡ Some start → IsOld g start
  start_old start starts = subst (IsOld g) (same_Some may.started.0 start (sym may.started.1 ∙ starts)) may.started.2

  -- the root alternative without lists
  pub record RootTo (kind : DeclKind) (symbols : List Symbol) : Type 0 where
    pub of : List ℕ
    pub v : Visible
    pub k : ℕ
    pub root : IsRootAlternative g' shapes' kind (new_symbols of v k (gathered symbols))
    pub proper : SymbolsProper (IsOld g) v (gathered symbols)
    pub present : AllDeclared g' shapes' (added_symbols of v k (gathered symbols))
    pub nothing : Binds v []

  root_to : {kind : DeclKind} {symbols : List Symbol} → IsRootAlternative g shapes kind symbols → RootTo kind symbols
  root_to (written start symbols starts undeclared same) =
      subst (RootTo Syntax) (sym (same ∙ ap (λ z. behind_layout z (Call start [] ∷ [])) may.no_layout))
      (record {
        of = [];
        v = [];
        k = 1;
        root =
            written start _ starts
            (λ d decl declares. let from = takes.back start d decl shape.Root (start_old start starts) declares in
            undeclared d from.decl from.declares)
            (ap (λ z. behind_layout z (Call start [] ∷ [])) (sym (takes.layout ∙ may.no_layout)));
        proper = (start_old start starts, tt);
        present = tt;
        nothing = binds_nothing;
      })
  root_to (declared start d decl a kind symbols starts declares numbered kinds same) =
      let num = takes.numbered_to start d decl shape.Root declares 1 a numbered in
      let no_params =
      may.bare declares.numbered.0 decl declares.numbered.2 (starts ∙ ap Some (sym declares.named)) in
      subst (RootTo kind) (sym same)
      (record {
        of = decl.name;
        v = parameters decl.params;
        k = num.begins.k;
        root = declared start d (new_declaration decl) num.lower kind _ starts
            (takes.forth start d decl shape.Root declares) num.numbered kinds (sym num.same);
        proper = num.begins.proper;
        present = num.begins.present;
        nothing = subst (λ z. Binds (parameters z) []) (sym no_params) binds_nothing;
      })

  forth : (t : Tree) → Permitted g shapes text t → Permitted g' shapes' text t
  forth t permitted =
      let to = root_to permitted.root in
      let lower =
      covers_to g g' shapes shapes' (IsOld g) text takes permitted.covered to.of to.v to.k permitted.kind
      (quiet permitted.kind) (quiet' permitted.kind) to.proper to.present to.nothing [] (record { at = λ n u. refl }) in
      record {
        kind = permitted.kind;
        symbols = new_symbols to.of to.v to.k (gathered permitted.symbols);
        children = permitted.children;
        after = lower.left;
        starts = lower.starts;
        root = to.root;
        covered = lower.covers;
        whole = permitted.whole;
        clean = clean_tree g' free' t;
      }

  -- and with values
  annotated : (t : Tree) (u : valued.Tree) → Annotates g shapes text t u → Annotates g' shapes' text t u
  annotated t u annotates =
      let to = root_to annotates.root in
      let lower =
      bind_to g g' shapes shapes' (IsOld g) text takes annotates.binds to.of to.v to.k annotates.kind
      (quiet annotates.kind) (quiet' annotates.kind) to.proper to.present to.nothing [] (record { at = λ n u. refl }) in
      record {
        kind = annotates.kind;
        symbols = new_symbols to.of to.v to.k (gathered annotates.symbols);
        children = annotates.children;
        after = lower.left;
        root = to.root;
        binds = lower.bind;
        whole = annotates.whole ∙
            ap (λ z. valued.Node tag.Root z 0 (length text.characters) annotates.children) (same_values lower.grown);
        same = annotates.same;
      }

  -- back, from what elements cover
  pub record Backed (kind : DeclKind) (xs : List Symbol) (children : Trees) : Type 0 where
    pub after : Environment
    pub starts : List ℕ
    pub covers : Covers g shapes text kind xs [] 0 (length text.characters) children after starts

  backed : {kind : DeclKind} {zs : List Symbol} {children : Trees} {left : Environment} {starts : List ℕ} →
      Covers g' shapes' text kind zs [] 0 (length text.characters) children left starts →
      (of : List ℕ) (v : Visible) (k : ℕ) (xs : List Symbol) → zs ≡ new_symbols of v k (gathered xs) →
      SymbolsProper (IsOld g) v (gathered xs) → AllDeclared g' shapes' (added_symbols of v k (gathered xs)) →
      Binds v [] →
      Backed kind xs children
  backed {kind = kind} {children = children} covers of v k xs same proper present b =
      let here =
      covers_from g g' shapes shapes' (IsOld g) text takes covers of [] (all_elements v k (gathered xs)) same v v
      refl v _
      (all_ready g' shapes' (IsOld g) of (gathered xs) v k proper present) kind (quiet kind) (quiet' kind) [] [] b b
      (record { at = λ n u. refl }) (record { at = λ n u. refl }) (record { at = λ n u. refl }) (λ n u. tt) in
      let first = nothing_of here.first refl in
      let inner = reaching g shapes text (gathered xs) v k here.second in
      let all : children ≡ here.us = here.trees ∙ ap (λ z. join z here.us) first.trees in
      record {
        after = here.out;
        starts = inner.starts;
        covers =
            subst (λ z. Covers g shapes text kind z [] 0 (length text.characters) children here.out inner.starts)
            (listed_gathered xs)
            (subst (λ z. Covers g shapes text kind (listed (gathered xs)) [] 0 (length text.characters) z here.out inner.starts)
            (sym all)
            (subst
            (λ z. Covers g shapes text kind (listed (gathered xs)) [] z (length text.characters) here.us here.out
            inner.starts) (sym first.place) inner.covers));
      }

  start_from : (start : List ℕ) → g.start ≡ Some start →
      ((d : ℕ) (decl : Decl) → Declares g' shapes' start d decl shape.Root → ⊥) →
      (children : Trees) (after : Environment) (starts : List ℕ) →
      Covers g' shapes' text Syntax (Call start [] ∷ []) [] 0 (length text.characters) children after starts →
      Permitted g shapes text (Node tag.Root 0 (length text.characters) children)
  start_from start starts undeclared children after ks covers =
      let higher = backed covers [] [] 1 (Call start [] ∷ []) refl (start_old start starts, tt) tt binds_nothing in
      record {
        kind = Syntax;
        symbols = Call start [] ∷ [];
        children = children;
        after = higher.after;
        starts = higher.starts;
        root =
            written start _ starts
            (λ d decl declares. undeclared d (new_declaration decl) (takes.forth start d decl shape.Root declares))
            (ap (λ z. behind_layout z (Call start [] ∷ [])) (sym may.no_layout));
        covered = higher.covers;
        whole = refl;
        clean = clean_tree g free (Node tag.Root 0 (length text.characters) children);
      }

  declared_from : (start : List ℕ) (d : ℕ) (lower : Decl) (lower_a : Levelled) → g.start ≡ Some start →
      Declares g' shapes' start d lower shape.Root →
      IsAlternative lower 1 lower_a → (children : Trees) (after : Environment) (starts : List ℕ) →
      Covers g' shapes' text lower.kind lower_a.alternative.symbols [] 0 (length text.characters) children after starts →
      Permitted g shapes text (Node tag.Root 0 (length text.characters) children)
  declared_from start d lower lower_a starts declares numbered children after ks covers =
      let from = takes.back start d lower shape.Root (start_old start starts) declares in
      let decl = from.decl in
      let num =
      takes.numbered_from start d decl shape.Root from.declares 1 lower_a
      (subst (λ (z : Decl). IsAlternative z 1 lower_a) from.same numbered) in
      let no_params =
      may.bare from.declares.numbered.0 decl from.declares.numbered.2
      (starts ∙ ap Some (sym from.declares.named)) in
      let higher =
      backed covers decl.name (parameters decl.params) num.begins.k num.a.alternative.symbols num.same
      num.begins.proper num.begins.present
      (subst (λ z. Binds (parameters z) []) (sym no_params) binds_nothing) in
      record {
        kind = decl.kind;
        symbols = num.a.alternative.symbols;
        children = children;
        after = higher.after;
        starts = higher.starts;
        root = declared start d decl num.a decl.kind _ starts from.declares num.numbered refl refl;
        covered =
            subst
            (λ z. Covers g shapes text z num.a.alternative.symbols [] 0 (length text.characters) children higher.after
            higher.starts) (ap (λ (z : Decl). z.kind) from.same) higher.covers;
        whole = refl;
        clean = clean_tree g free (Node tag.Root 0 (length text.characters) children);
      }

  back : (t : Tree) → Permitted g' shapes' text t → Permitted g shapes text t
  back t permitted = subst (Permitted g shapes text) (sym permitted.whole) (go permitted.root permitted.covered)
    where
      go : {kind : DeclKind} {symbols : List Symbol} {children : Trees} {after : Environment} {starts : List ℕ} →
          IsRootAlternative g' shapes' kind symbols →
          Covers g' shapes' text kind symbols [] 0 (length text.characters) children after starts →
          Permitted g shapes text (Node tag.Root 0 (length text.characters) children)
      go {children = children} {after = after} {starts = starts} (written start symbols start_here undeclared same)
          covers =
          start_from start start_here undeclared children after starts
          (subst (λ z. Covers g' shapes' text Syntax z [] 0 (length text.characters) children after starts)
          (same ∙ ap (λ z. behind_layout z (Call start [] ∷ [])) (takes.layout ∙ may.no_layout)) covers)
      go {children = children} {after = after} {starts = starts}
          (declared start d lower lower_a kind symbols start_here declares numbered kinds same) covers =
          declared_from start d lower lower_a start_here declares numbered children after starts
          (subst (λ z. Covers g' shapes' text z lower_a.alternative.symbols [] 0 (length text.characters) children after starts)
          kinds
          (subst (λ z. Covers g' shapes' text kind z [] 0 (length text.characters) children after starts) same covers))

pub lowering_is_the_same : TreesWithoutOperatorsAreClean → (c : CheckedGrammar) → MayBeLowered c.grammar c.shapes →
    PermitSame c (lowered c)
lowering_is_the_same clean_tree c may =
    record {
      same = λ text t.
          (forth clean_tree c.grammar c.shapes text may t, back clean_tree c.grammar c.shapes text may t);
    }

pub lowering_keeps_values : TreesWithoutOperatorsAreClean → (c : CheckedGrammar) → MayBeLowered c.grammar c.shapes →
    KeepsValues c (lowered c)
lowering_keeps_values clean_tree c may =
    record { values = λ text t u permitted. annotated clean_tree c.grammar c.shapes text may t u }
