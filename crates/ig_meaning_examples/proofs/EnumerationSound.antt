-- Each member of the enumeration is a derivation with low trees.
use Rattle.std.proofs.Common.{◌≡◌, ◌∙◌, ℕ, zero, suc, ◌+◌, ◌<◌, List, [], ◌∷◌, ◌++◌, map, length, refl, ap, subst, arith, add-zero, Option, Some, None, true}
use Rattle.std.specs.Prelude.{slice_get, ◌≢◌}
use Rattle.std.specs.Cmp.Lexicographic.{bytes_decides}
use Rattle.ig_text.specs.Input.{Input}
use Rattle.ig_text.specs.declared.class.Class.{Class}
use Rattle.ig_text.specs.declared.pattern.Pattern.TheVariants as pattern
use Rattle.ig_text.specs.declared.tag.Tag.TheVariants as tag
use Rattle.ig_text.specs.Pattern.{Matches}
use Rattle.ig_text.specs.Tree.{Tree, Leaf, Node, more, one, join, height, greatest_height}
use Rattle.ig_expr.specs.Expression.{Expression}
use Rattle.ig_expr.specs.Evaluation.{value_of}
use Rattle.ig_text.specs.Words.{is_word}
use Rattle.ig_text.proofs.Trees.{joined_height}
use Rattle.ig_expr.specs.declared.value.Value.{Value}
use Rattle.ig_meaning_examples.specs.Matches.{MatchesAreKnown}
use Rattle.ig_grammar.specs.Symbol.{Symbol, Literal, OneOf, Call, Label, Guard, Let, Opt, Star, Plus, SepStar, SepPlus, Group, Offside, Ignore, Align, Filtered, Seq, Entry}
use Rattle.ig_grammar.specs.Symbol.{Symbols, no_symbols, next_symbol, Alternatives, no_alternatives, next_alternative, gathered, listed}
use Rattle.ig_meaning.specs.Environment.{Environment, names, values, replaced, HaveValues}
use Rattle.ig_grammar.specs.Numbering.{by_level, tag_of, layout_among, choice, IsChoice}
use Rattle.ig_meaning.specs.Derivation.{exposed, span_value, Covers, Derives, Lists, Items, Instance, Trails}
use Rattle.ig_meaning.specs.Derivation.{empty, symbol, literal, one_of, token, call, label, guard, let_be, absent, present, star, plus, sep_star, sep_plus, group, offside, ignore, align, filtered, sequence, entry}
use Rattle.ig_meaning.specs.Derivation.{nil, snoc, one_item, more_items, first_item, further_item, no_item, some_items, bare, with_filters, alternative, layout, no_layout, outside}
use Rattle.ig_grammar.specs.Binding.{Binding}
use Rattle.ig_grammar.specs.declared.filter.Filter.{Filter}
use Rattle.ig_grammar.specs.declared.declaration.DeclKind.{DeclKind}
use Rattle.ig_grammar.specs.declared.declaration.DeclKind.TheVariants.{Syntax, Lexical, Layout, Plain}
use Rattle.ig_grammar.specs.declared.declaration.Decl.{Decl}
use Rattle.ig_grammar.specs.declared.grammar.Grammar.{Grammar}
use Rattle.ig_grammar.specs.declared.place.Shape.{Shape}
use Rattle.ig_grammar.specs.Gathered.{listed_gathered}
use Rattle.ig_meaning_examples.proofs.Choosing.{OfEach}
use Rattle.ig_meaning_examples.proofs.Members.{below, each_append, each_map, each_of_each, each_given, each_from, Any, any}
use Rattle.ig_meaning_examples.proofs.Deciding.{values_at, values_have, bound_by, bound_are, is_truth, truth_is, ends_of, ends_match, passes_all, passes_all_decides, are_right, are_right_decides, are_aligned, are_aligned_decides}
use Rattle.ig_meaning_examples.proofs.Enumeration as all
use Rattle.ig_meaning_examples.proofs.Enumeration.{Outcome, Covering, Listing, Itemised, Instanced, Trailing, Lower, nothing, before}

syntax_is_no_token : Syntax ≢ Lexical
syntax_is_no_token h = cc

layout_is_no_token : Layout ≢ Lexical
layout_is_no_token h = cc

plain_is_no_token : Plain ≢ Lexical
plain_is_no_token h = cc

lexical_is_other : Lexical ≢ Syntax
lexical_is_other h = cc

layout_is_other : Layout ≢ Syntax
layout_is_other h = cc

plain_is_other : Plain ≢ Syntax
plain_is_other h = cc

module _ (g : Grammar) (shapes : List Shape) (text : Input) where
  -- with trees lower than n
  abbrev pub IsCovering : ℕ → DeclKind → Symbols → Environment → ℕ → Covering → Type 0
  IsCovering n c xs env i r =
      Covers g shapes text c (listed xs) env i r.end r.trees r.after r.starts × (greatest_height r.trees < n)

  abbrev pub IsOutcome : ℕ → DeclKind → Symbol → Environment → ℕ → Outcome → Type 0
  IsOutcome n c x env i o =
      Derives g shapes text c x env i o.own o.end o.trees o.after o.starts × (greatest_height o.trees < n)

  abbrev pub IsListing : ℕ → DeclKind → Symbol → Environment → ℕ → Listing → Type 0
  IsListing n c x env i l = Lists g shapes text c x env i l.end l.tree l.starts l.items × (height l.tree < n)

  abbrev IsItemised : ℕ → DeclKind → Symbol → Environment → ℕ → Itemised → Type 0
  IsItemised n c x env i o =
      Items g shapes text c x env i o.own o.end o.trees o.after o.starts o.items × (greatest_height o.trees < n)

  abbrev IsInstanced : ℕ → List ℕ → List Value → ℕ → Instanced → Type 0
  IsInstanced n name vs i t = Instance g shapes text name vs t.kind i t.end t.tree t.starts × (height t.tree < n)

  abbrev IsTrailing : ℕ → DeclKind → ℕ → Trailing → Type 0
  IsTrailing n c e r = Trails g shapes text c e r.end r.trees × (greatest_height r.trees < n)

  pub record IsSound (n : ℕ) (lower : Lower) : Type 0 where
    pub room : lower.room ≡ true → 0 < n
    pub covered : (c : DeclKind) (xs : Symbols) (env : Environment) (i : ℕ) → OfEach (IsCovering n c xs env i) (lower.covered c xs env i)
    pub derived : (c : DeclKind) (x : Symbol) (env : Environment) (i : ℕ) → OfEach (IsOutcome n c x env i) (lower.derived c x env i)
    pub lists : (c : DeclKind) (x : Symbol) (env : Environment) (i : ℕ) → OfEach (IsListing n c x env i) (lower.lists c x env i)

module _ (known : MatchesAreKnown) (g : Grammar) (shapes : List Shape) (text : Input) (n : ℕ) (lower : Lower) (sound : IsSound g shapes text n lower) where
  abbrev InstancedHere : List ℕ → List Value → ℕ → Instanced → Type 0
  InstancedHere = IsInstanced g shapes text (suc n)

  abbrev OutcomeHere : DeclKind → Symbol → Environment → ℕ → Outcome → Type 0
  OutcomeHere = IsOutcome g shapes text (suc n)

  abbrev ListingHere : DeclKind → Symbol → Environment → ℕ → Listing → Type 0
  ListingHere = IsListing g shapes text (suc n)

  abbrev CoveringHere : DeclKind → Symbols → Environment → ℕ → Covering → Type 0
  CoveringHere = IsCovering g shapes text (suc n)

  by_alternatives : (name : List ℕ) (vs : List Value) (k : ℕ) (decl : Decl) (shape : Shape) (env : Environment) (i : ℕ) →
      slice_get g.decls k ≡ Some decl → slice_get shapes k ≡ Some shape → decl.name ≡ name → bound_by decl.params vs ≡ Some env →
      OfEach (InstancedHere name vs i) (all.by_alternatives g shapes text lower k decl shape env i)
  by_alternatives name vs k decl shape env i declared shaped named bound =
      each_of_each Any (InstancedHere name vs i) _ (below (length (by_level decl.levels))) (any _) (λ j _.
      each_from (InstancedHere name vs i) (slice_get (by_level decl.levels) j) _ (λ a numbered.
      each_map (IsCovering g shapes text n decl.kind (gathered a.alternative.symbols) env i) (InstancedHere name vs i) (all.instanced g shapes text lower k j decl shape i) (lower.covered decl.kind (gathered a.alternative.symbols) env i) (sound.covered decl.kind (gathered a.alternative.symbols) env i) (λ r c.
      (alternative name vs decl.kind (suc k) (suc j) decl shape a env r.after i r.end r.trees (Node (tag_of shape (suc k) (suc j)) i r.end r.trees) r.starts (record { numbered = (k, refl, declared); shaped = (k, refl, shaped); named = named }) (j, refl, numbered) (bound_are decl.params vs env bound) refl (subst (λ xs. Covers g shapes text decl.kind xs env i r.end r.trees r.after r.starts) (listed_gathered a.alternative.symbols) c.0) refl, omega (arith, c.1)))))

  pub instances : (name : List ℕ) (vs : List Value) (i : ℕ) →
      OfEach (InstancedHere name vs i) (all.instances g shapes text lower name vs i)
  instances name vs i =
      each_of_each Any (InstancedHere name vs i) _ (below (length g.decls)) (any _) (λ k _.
      each_from (InstancedHere name vs i) (slice_get g.decls k) _ (λ decl declared.
      each_given (InstancedHere name vs i) (is_word decl.name name) _ (λ named.
      each_from (InstancedHere name vs i) (slice_get shapes k) _ (λ shape shaped.
      each_from (InstancedHere name vs i) (bound_by decl.params vs) _ (λ env bound.
      by_alternatives name vs k decl shape env i declared shaped ((bytes_decides decl.name name).0 named) bound)))))

  trailed : (e : ℕ) (found : Option (List ℕ)) → layout_among g.decls ≡ found →
      OfEach (IsTrailing g shapes text (suc n) Syntax e) (all.trailed g shapes text lower found e)
  trailed e None h = ((no_layout e h, omega arith), tt)
  trailed e (Some name) h =
      each_map (InstancedHere name [] e) (IsTrailing g shapes text (suc n) Syntax e) _ (all.instances g shapes text lower name [] e) (instances name [] e) (λ t d.
      (layout name t.kind e t.end t.tree t.starts h d.0, omega (arith, d.1)))

  trails : (c : DeclKind) (e : ℕ) → OfEach (IsTrailing g shapes text (suc n) c e) (all.trails g shapes text lower c e)
  trails Syntax e = trailed e (layout_among g.decls) refl
  trails Lexical e = ((outside Lexical e lexical_is_other, omega arith), tt)
  trails Layout e = ((outside Layout e layout_is_other, omega arith), tt)
  trails Plain e = ((outside Plain e plain_is_other, omega arith), tt)

  of_literal : (c : DeclKind) (word : List ℕ) (env : Environment) (i : ℕ) →
      OfEach (OutcomeHere c (Literal word) env i) (all.derived g shapes text lower c (Literal word) env i)
  of_literal c word env i =
      each_of_each (Matches text (pattern.Literal word) i) (OutcomeHere c (Literal word) env i) _ (ends_of text (pattern.Literal word) i) (ends_match known text (pattern.Literal word) i) (λ e m.
      each_map (IsTrailing g shapes text (suc n) c e) (OutcomeHere c (Literal word) env i) _ (all.trails g shapes text lower c e) (trails c e) (λ r t.
      (literal c word env i e r.end r.trees (more (Leaf i e) r.trees) (exposed c i) m t.0 refl refl, omega (arith, t.1))))

  of_class : (c : DeclKind) (class : Class) (env : Environment) (i : ℕ) →
      OfEach (OutcomeHere c (OneOf class) env i) (all.derived g shapes text lower c (OneOf class) env i)
  of_class c class env i =
      each_of_each (Matches text (pattern.OneOf class) i) (OutcomeHere c (OneOf class) env i) _ (ends_of text (pattern.OneOf class) i) (ends_match known text (pattern.OneOf class) i) (λ e m.
      each_map (IsTrailing g shapes text (suc n) c e) (OutcomeHere c (OneOf class) env i) _ (all.trails g shapes text lower c e) (trails c e) (λ r t.
      (one_of c class env i e r.end r.trees (more (Leaf i e) r.trees) (exposed c i) m t.0 refl refl, omega (arith, t.1))))

  other_call : (c kind : DeclKind) (name : List ℕ) (arguments : List Expression) (vs : List Value) (env : Environment) (i e : ℕ)
      (t : Tree) (ks : List ℕ) → HaveValues text env i arguments vs → kind ≢ Lexical → Instance g shapes text name vs kind i e t ks →
      height t < suc n →
      OfEach (OutcomeHere c (Call name arguments) env i) (record { own = e; end = e; trees = one t; after = env; starts = ks } ∷ [])
  other_call c kind name arguments vs env i e t ks have other instance low =
      ((call c kind name arguments vs env i e t ks have instance other, omega (arith, low)), tt)

  of_called : (c kind : DeclKind) (name : List ℕ) (arguments : List Expression) (vs : List Value) (env : Environment) (i e : ℕ)
      (t : Tree) (ks : List ℕ) → HaveValues text env i arguments vs → Instance g shapes text name vs kind i e t ks →
      height t < suc n → OfEach (OutcomeHere c (Call name arguments) env i) (all.called g shapes text lower c i env kind e t ks)
  of_called c Lexical name arguments vs env i e t ks have instance low =
      each_map (IsTrailing g shapes text (suc n) c e) (OutcomeHere c (Call name arguments) env i) _ (all.trails g shapes text lower c e) (trails c e) (λ r d.
      (token c name arguments vs env i e r.end t r.trees (more t r.trees) ks (exposed c i) have instance d.0 refl refl, omega (arith, low, d.1)))
  of_called c Syntax name arguments vs env i e t ks have instance low =
      other_call c Syntax name arguments vs env i e t ks have syntax_is_no_token instance low
  of_called c Layout name arguments vs env i e t ks have instance low =
      other_call c Layout name arguments vs env i e t ks have layout_is_no_token instance low
  of_called c Plain name arguments vs env i e t ks have instance low =
      other_call c Plain name arguments vs env i e t ks have plain_is_no_token instance low

  of_call : (c : DeclKind) (name : List ℕ) (arguments : List Expression) (env : Environment) (i : ℕ) →
      OfEach (OutcomeHere c (Call name arguments) env i) (all.derived g shapes text lower c (Call name arguments) env i)
  of_call c name arguments env i =
      each_from (OutcomeHere c (Call name arguments) env i) (values_at text env i arguments) _ (λ vs have.
      each_of_each (InstancedHere name vs i) (OutcomeHere c (Call name arguments) env i) _ (all.instances g shapes text lower name vs i) (instances name vs i) (λ t d.
      of_called c t.kind name arguments vs env i t.end t.tree t.starts (values_have text env i arguments vs have) d.0 d.1))

  of_guard : (c : DeclKind) (condition : Expression) (env : Environment) (i : ℕ) →
      OfEach (OutcomeHere c (Guard condition) env i) (all.derived g shapes text lower c (Guard condition) env i)
  of_guard c condition env i =
      each_from (OutcomeHere c (Guard condition) env i) (value_of text (names env) (values env) i condition) _ (λ v has.
      each_given (OutcomeHere c (Guard condition) env i) (is_truth v) _ (λ true.
      ((guard c condition env i (has ∙ ap Some (truth_is v true)), omega arith), tt)))

  of_let : (c : DeclKind) (name : List ℕ) (expression : Expression) (env : Environment) (i : ℕ) →
      OfEach (OutcomeHere c (Let name expression) env i) (all.derived g shapes text lower c (Let name expression) env i)
  of_let c name expression env i =
      each_from (OutcomeHere c (Let name expression) env i) (value_of text (names env) (values env) i expression) _ (λ v has.
      ((let_be c name expression v env (env ++ (name, v) ∷ []) i has refl, omega arith), tt))

  of_option : (c : DeclKind) (x : Symbol) (env : Environment) (i : ℕ) →
      OfEach (OutcomeHere c (Opt x) env i) (all.derived g shapes text lower c (Opt x) env i)
  of_option c x env i =
      each_append (OutcomeHere c (Opt x) env i) _ _ (each_given (OutcomeHere c (Opt x) env i) lower.room _ (λ room. ((absent c x env i, omega (arith, sound.room room)), tt))) (each_map (IsOutcome g shapes text n c x env i) (OutcomeHere c (Opt x) env i) (all.present i env) (lower.derived c x env i) (sound.derived c x env i) (λ o d.
      (present c x env o.after i o.own o.end o.trees o.starts d.0, omega (arith, d.1))))

  of_star : (c : DeclKind) (x : Symbol) (env : Environment) (i : ℕ) →
      OfEach (ListingHere c (Star x) env i) (all.lists g shapes text lower c (Star x) env i)
  of_star c x env i =
      each_append (ListingHere c (Star x) env i) _ _ (each_given (ListingHere c (Star x) env i) lower.room _ (λ room. ((nil c x env i, omega (arith, sound.room room)), tt))) (each_of_each (IsListing g shapes text n c (Star x) env i) (ListingHere c (Star x) env i) _ (lower.lists c (Star x) env i) (sound.lists c (Star x) env i) (λ l m.
      each_map (IsOutcome g shapes text n c x env l.end) (ListingHere c (Star x) env i) (all.extended tag.Snoc i l) (lower.derived c x env l.end) (sound.derived c x env l.end) (λ o d.
      (snoc c x env o.after i l.end o.own o.end l.tree o.trees l.starts o.starts (l.starts ++ o.starts) l.items (l.items ++ l.end ∷ []) m.0 d.0 refl refl, omega (arith, m.1, d.1)))))

  of_plus : (c : DeclKind) (x : Symbol) (env : Environment) (i : ℕ) →
      OfEach (ListingHere c (Plus x) env i) (all.lists g shapes text lower c (Plus x) env i)
  of_plus c x env i =
      each_append (ListingHere c (Plus x) env i) (map (all.single i) (lower.derived c x env i)) _
      (each_map (IsOutcome g shapes text n c x env i) (ListingHere c (Plus x) env i) (all.single i) (lower.derived c x env i) (sound.derived c x env i) (λ o d.
      (one_item c x env o.after i o.own o.end o.trees o.starts d.0, omega (arith, d.1))))
      (each_of_each (IsListing g shapes text n c (Plus x) env i) (ListingHere c (Plus x) env i) _ (lower.lists c (Plus x) env i) (sound.lists c (Plus x) env i) (λ l m.
      each_map (IsOutcome g shapes text n c x env l.end) (ListingHere c (Plus x) env i) (all.extended tag.More i l) (lower.derived c x env l.end) (sound.derived c x env l.end) (λ o d.
      (more_items c x env o.after i l.end o.own o.end l.tree o.trees l.starts o.starts (l.starts ++ o.starts) l.items (l.items ++ l.end ∷ []) m.0 d.0 refl refl, omega (arith, m.1, d.1)))))

  of_separated : (c : DeclKind) (x s : Symbol) (env : Environment) (i : ℕ) (l : Listing) (p o : Outcome) →
      IsListing g shapes text n c (SepPlus x s) env i l → IsOutcome g shapes text n c s env l.end p →
      IsOutcome g shapes text n c x env p.end o → ListingHere c (SepPlus x s) env i (all.separated i l p o)
  of_separated c x s env i l p o m q d =
      (further_item c x s env p.after o.after i l.end p.own p.end o.own o.end l.tree p.trees o.trees (join p.trees o.trees) l.starts p.starts o.starts (l.starts ++ p.starts ++ o.starts) l.items (l.items ++ p.end ∷ []) m.0 q.0 d.0 refl refl refl, omega (arith, m.1, q.1, d.1, joined_height p.trees o.trees))

  of_sep_plus : (c : DeclKind) (x s : Symbol) (env : Environment) (i : ℕ) →
      OfEach (ListingHere c (SepPlus x s) env i) (all.lists g shapes text lower c (SepPlus x s) env i)
  of_sep_plus c x s env i =
      each_append (ListingHere c (SepPlus x s) env i) (map (all.single i) (lower.derived c x env i)) _
      (each_map (IsOutcome g shapes text n c x env i) (ListingHere c (SepPlus x s) env i) (all.single i) (lower.derived c x env i) (sound.derived c x env i) (λ o d.
      (first_item c x s env o.after i o.own o.end o.trees o.starts d.0, omega (arith, d.1))))
      (each_of_each (IsListing g shapes text n c (SepPlus x s) env i) (ListingHere c (SepPlus x s) env i) _ (lower.lists c (SepPlus x s) env i) (sound.lists c (SepPlus x s) env i) (λ l m.
      each_of_each (IsOutcome g shapes text n c s env l.end) (ListingHere c (SepPlus x s) env i) _ (lower.derived c s env l.end) (sound.derived c s env l.end) (λ p q.
      each_map (IsOutcome g shapes text n c x env p.end) (ListingHere c (SepPlus x s) env i) (all.separated i l p) (lower.derived c x env p.end) (sound.derived c x env p.end) (λ o d.
      of_separated c x s env i l p o m q d))))

  of_sep_star : (c : DeclKind) (x s : Symbol) (env : Environment) (i : ℕ) →
      OfEach (ListingHere c (SepStar x s) env i) (all.lists g shapes text lower c (SepStar x s) env i)
  of_sep_star c x s env i =
      each_append (ListingHere c (SepStar x s) env i) _ _ (each_given (ListingHere c (SepStar x s) env i) lower.room _ (λ room. ((no_item c x s env i, omega (arith, sound.room room)), tt))) (each_map (IsListing g shapes text n c (SepPlus x s) env i) (ListingHere c (SepStar x s) env i) (all.some_list i) (lower.lists c (SepPlus x s) env i) (sound.lists c (SepPlus x s) env i) (λ l m.
      (some_items c x s env i l.end l.tree l.starts l.items m.0, omega (arith, m.1))))

  lists : (c : DeclKind) (x : Symbol) (env : Environment) (i : ℕ) →
      OfEach (ListingHere c x env i) (all.lists g shapes text lower c x env i)
  lists c (Star x) env i = of_star c x env i
  lists c (Plus x) env i = of_plus c x env i
  lists c (SepStar x s) env i = of_sep_star c x s env i
  lists c (SepPlus x s) env i = of_sep_plus c x s env i
  lists c x env i = tt

  of_bare : (c : DeclKind) (x : Symbol) (env : Environment) (i : ℕ) →
      OfEach (IsItemised g shapes text (suc n) c x env i) (map (all.itemised env) (all.lists g shapes text lower c x env i))
  of_bare c x env i =
      each_map (ListingHere c x env i) (IsItemised g shapes text (suc n) c x env i) (all.itemised env) (all.lists g shapes text lower c x env i) (lists c x env i) (λ l m.
      (bare c x env i l.end l.tree l.starts l.items m.0, omega (arith, m.1)))

  items : (c : DeclKind) (x : Symbol) (env : Environment) (i : ℕ) →
      OfEach (IsItemised g shapes text (suc n) c x env i) (all.items g shapes text lower c x env i)
  items c (Filtered x filters) env i =
      each_of_each (IsItemised g shapes text (suc n) c x env i) (IsItemised g shapes text (suc n) c (Filtered x filters) env i) _ (all.items g shapes text lower c x env i) (items c x env i) (λ o d.
      each_given (IsItemised g shapes text (suc n) c (Filtered x filters) env i) (passes_all text i o.own filters) _ (λ passed.
      ((with_filters c x filters env o.after i o.own o.end o.trees o.starts o.items d.0 ((passes_all_decides known text i o.own filters).0 passed), d.1), tt)))
  items c x env i = of_bare c x env i

  of_listing : (c : DeclKind) (x : Symbol) (env : Environment) (i : ℕ) →
      ((l : Listing) → Lists g shapes text c x env i l.end l.tree l.starts l.items →
      Derives g shapes text c x env i l.end l.end (one l.tree) env l.starts) →
      OfEach (OutcomeHere c x env i) (map (all.of_listing env) (all.lists g shapes text lower c x env i))
  of_listing c x env i whole =
      each_map (ListingHere c x env i) (OutcomeHere c x env i) (all.of_listing env) (all.lists g shapes text lower c x env i) (lists c x env i) (λ l m.
      (whole l m.0, omega (arith, m.1)))

  abbrev IsChoiceFrom : Alternatives → Alternatives → ℕ → Type 0
  IsChoiceFrom choices rest k = (b : ℕ) (xs : Symbols) → choice rest b ≡ Some xs → IsChoice choices (k + b) xs

  chosen : (c : DeclKind) (choices rest : Alternatives) (k : ℕ) (env : Environment) (i : ℕ) → IsChoiceFrom choices rest k →
      OfEach (OutcomeHere c (Group choices) env i) (all.chosen g shapes text lower c rest k env i)
  chosen c choices no_alternatives k env i place = tt
  chosen c choices (next_alternative xs others) k env i place =
      each_append (OutcomeHere c (Group choices) env i) (map (all.grouped k i env) (lower.covered c xs env i)) _
      (each_map (IsCovering g shapes text n c xs env i) (OutcomeHere c (Group choices) env i) (all.grouped k i env) (lower.covered c xs env i) (sound.covered c xs env i) (λ r d.
      (group c choices k xs env r.after i r.end r.trees r.starts (subst (λ z. IsChoice choices z xs) (add-zero k) (place 0 xs refl)) d.0, omega (arith, d.1))))
      (chosen c choices others (suc k) env i (λ b ys found. let next : k + suc b ≡ suc k + b = omega arith in subst (λ z. IsChoice choices z ys) next (place (suc b) ys found)))

  of_group : (c : DeclKind) (choices : Alternatives) (env : Environment) (i : ℕ) →
      OfEach (OutcomeHere c (Group choices) env i) (all.derived g shapes text lower c (Group choices) env i)
  of_group c choices env i =
      chosen c choices choices 1 env i (λ b xs found. let next : 1 + b ≡ suc b = omega arith in (b, next, found))

  abbrev HasSymbols : Symbols → Type 0
  HasSymbols xs = (c : DeclKind) (env : Environment) (i : ℕ) → OfEach (CoveringHere c xs env i) (all.covered g shapes text lower c xs env i)

  abbrev HasSymbol : Symbol → Type 0
  HasSymbol x = (c : DeclKind) (env : Environment) (i : ℕ) → OfEach (OutcomeHere c x env i) (all.derived g shapes text lower c x env i)

  of_labelled : (name : List ℕ) (x : Symbol) → HasSymbol x → HasSymbol (Label name x)
  of_labelled name x has c env i =
      each_map (OutcomeHere c x env i) (OutcomeHere c (Label name x) env i) (all.labelled name i) (all.derived g shapes text lower c x env i) (has c env i) (λ o d.
      (label c name x env o.after (o.after ++ (name, span_value i o.own) ∷ []) i o.own o.end o.trees o.starts d.0 refl, d.1))

  of_offside : (x : Symbol) → HasSymbol x → HasSymbol (Offside x)
  of_offside x has c env i =
      each_of_each (OutcomeHere c x env i) (OutcomeHere c (Offside x) env i) _ (all.derived g shapes text lower c x env i) (has c env i) (λ o d.
      each_given (OutcomeHere c (Offside x) env i) (are_right text i o.starts) _ (λ right.
      ((offside c x env o.after i o.own o.end o.trees o.starts d.0 ((are_right_decides text i o.starts).0 right), d.1), tt)))

  of_ignore : (x : Symbol) → HasSymbol x → HasSymbol (Ignore x)
  of_ignore x has c env i =
      each_map (OutcomeHere c x env i) (OutcomeHere c (Ignore x) env i) all.hidden (all.derived g shapes text lower c x env i) (has c env i) (λ o d.
      (ignore c x env o.after i o.own o.end o.trees o.starts d.0, d.1))

  of_align : (x : Symbol) → HasSymbol (Align x)
  of_align x c env i =
      each_of_each (IsItemised g shapes text (suc n) c x env i) (OutcomeHere c (Align x) env i) _ (all.items g shapes text lower c x env i) (items c x env i) (λ o d.
      each_given (OutcomeHere c (Align x) env i) (are_aligned text o.items) _ (λ aligned.
      ((align c x env o.after i o.own o.end o.trees o.starts o.items d.0 ((are_aligned_decides text o.items).0 aligned), d.1), tt)))

  of_filtered : (x : Symbol) (filters : List Filter) → HasSymbol x → HasSymbol (Filtered x filters)
  of_filtered x filters has c env i =
      each_of_each (OutcomeHere c x env i) (OutcomeHere c (Filtered x filters) env i) _ (all.derived g shapes text lower c x env i) (has c env i) (λ o d.
      each_given (OutcomeHere c (Filtered x filters) env i) (passes_all text i o.own filters) _ (λ passed.
      ((filtered c x filters env o.after i o.own o.end o.trees o.starts d.0 ((passes_all_decides known text i o.own filters).0 passed), d.1), tt)))

  of_sequence : (xs : Symbols) → HasSymbols xs → HasSymbol (Seq xs)
  of_sequence xs has c env i =
      each_map (CoveringHere c xs env i) (OutcomeHere c (Seq xs) env i) all.of_covering (all.covered g shapes text lower c xs env i) (has c env i) (λ r d.
      (sequence c xs env r.after i r.end r.trees r.starts d.0, d.1))

  of_entry : (bindings : List Binding) (x : Symbol) → HasSymbol x → HasSymbol (Entry bindings x)
  of_entry bindings x has c env i =
      each_from (OutcomeHere c (Entry bindings x) env i) (values_at text env i (map (λ b. b.value) bindings)) _ (λ vs have.
      each_map (OutcomeHere c x (replaced env bindings vs) i) (OutcomeHere c (Entry bindings x) env i) (all.entered env) (all.derived g shapes text lower c x (replaced env bindings vs) i) (has c (replaced env bindings vs) i) (λ o d.
      (entry c bindings x vs env (replaced env bindings vs) o.after i o.own o.end o.trees o.starts (values_have text env i (map (λ b. b.value) bindings) vs have) refl d.0, d.1)))

  of_next : (x : Symbol) (xs : Symbols) → HasSymbol x → HasSymbols xs → HasSymbols (next_symbol x xs)
  of_next x xs first rest c env i =
      each_of_each (OutcomeHere c x env i) (CoveringHere c (next_symbol x xs) env i) _ (all.derived g shapes text lower c x env i) (first c env i) (λ o d.
      each_map (CoveringHere c xs o.after o.end) (CoveringHere c (next_symbol x xs) env i) (all.joined o) (all.covered g shapes text lower c xs o.after o.end) (rest c o.after o.end) (λ r m.
      (symbol c x (listed xs) env o.after r.after i o.own o.end r.end o.trees r.trees (join o.trees r.trees) o.starts r.starts (o.starts ++ r.starts) d.0 m.0 refl refl, omega (arith, d.1, m.1, joined_height o.trees r.trees))))

  mutual
    pub covered : (xs : Symbols) → HasSymbols xs
    covered no_symbols c env i = ((empty c env i, omega arith), tt)
    covered (next_symbol x xs) c env i = of_next x xs (derived x) (covered xs) c env i

    pub derived : (x : Symbol) → HasSymbol x
    derived (Literal word) c env i = of_literal c word env i
    derived (OneOf class) c env i = of_class c class env i
    derived (Call name arguments) c env i = of_call c name arguments env i
    derived (Label name x) c env i = of_labelled name x (derived x) c env i
    derived (Guard condition) c env i = of_guard c condition env i
    derived (Let name expression) c env i = of_let c name expression env i
    derived (Opt x) c env i = of_option c x env i
    derived (Star x) c env i = of_listing c (Star x) env i (λ l m. star c x env i l.end l.tree l.starts l.items m)
    derived (Plus x) c env i = of_listing c (Plus x) env i (λ l m. plus c x env i l.end l.tree l.starts l.items m)
    derived (SepStar x s) c env i = of_listing c (SepStar x s) env i (λ l m. sep_star c x s env i l.end l.tree l.starts l.items m)
    derived (SepPlus x s) c env i = of_listing c (SepPlus x s) env i (λ l m. sep_plus c x s env i l.end l.tree l.starts l.items m)
    derived (Group choices) c env i = of_group c choices env i
    derived (Offside x) c env i = of_offside x (derived x) c env i
    derived (Ignore x) c env i = of_ignore x (derived x) c env i
    derived (Align x) c env i = of_align x c env i
    derived (Filtered x filters) c env i = of_filtered x filters (derived x) c env i
    derived (Seq xs) c env i = of_sequence xs (covered xs) c env i
    derived (Entry bindings x) c env i = of_entry bindings x (derived x) c env i

module _ (known : MatchesAreKnown) (g : Grammar) (shapes : List Shape) (text : Input) where
  pub sound_before : (n : ℕ) → IsSound g shapes text n (before g shapes text n)
  sound_before zero = record { room = λ r. absurd (cc); covered = λ c xs env i. tt; derived = λ c x env i. tt; lists = λ c x env i. tt }
  sound_before (suc n) =
      record {
        room = λ r. omega arith;
        covered = λ c xs. covered known g shapes text n (before g shapes text n) (sound_before n) xs c;
        derived = λ c x. derived known g shapes text n (before g shapes text n) (sound_before n) x c;
        lists = lists known g shapes text n (before g shapes text n) (sound_before n);
      }
