-- What the lowered grammar derives under the pair, the source derives with allowed starts.
use Rattle.std.proofs.Common.{◌≡◌, ◌≢◌, ◌⊎◌, ◌<◌, ◌≤◌, ◌∙◌, ℕ, zero, suc, ◌+◌, Bool, true, false, List, [], ◌∷◌, ◌++◌, map, length, Option, Some, None, Contains, refl, sym, ap, ap₂, subst, inl, inr, arith}
use Rattle.std.proofs.lemmas.Option.{slice_get_within}
use Rattle.std.proofs.lemmas.List.{map-append}
use Rattle.ig_text.specs.Input.{Input}
use Rattle.ig_text.specs.Lines.{column_of}
use Rattle.ig_text.specs.Tree.{Tree, Trees, Node, one, join}
use Rattle.ig_text.proofs.Trees.{join-none}
use Rattle.ig_expr.specs.Expression.{Expression}
use Rattle.ig_expr.specs.declared.value.Value.{Value}
use Rattle.ig_grammar.specs.Binding.{Binding}
use Rattle.ig_grammar.specs.Symbol.{Symbol, Call, Opt, Star, Plus, SepStar, SepPlus, Group, Offside, Ignore, Align, Symbols, listed, Alternatives}
use Rattle.ig_meaning.specs.Environment.{Environment, HaveValues, AreBound, replaced}
use Rattle.ig_grammar.specs.Numbering.{Levelled, Declares, IsAlternative, IsChoice, choice, tag_of}
use Rattle.ig_meaning.specs.Blocks.{AreAligned}
use Rattle.ig_meaning.specs.Derivation.{exposed, span_value, Covers, Derives, Lists, Items, Instance, Trails}
use Rattle.ig_meaning.specs.Derivation.{empty, symbol, literal, one_of, token, call, label, guard, let_be, absent, present, star, plus, sep_star, sep_plus, group, offside, ignore, align, filtered, sequence, entry}
use Rattle.ig_meaning.specs.Derivation.{nil, snoc, one_item, more_items, first_item, further_item, no_item, some_items, bare, with_filters, alternative, layout, no_layout, outside}
use Rattle.ig_grammar.specs.declared.declaration.DeclKind.{DeclKind}
use Rattle.ig_grammar.specs.declared.declaration.DeclKind.TheVariants.{Syntax, Lexical, Layout}
use Rattle.ig_grammar.specs.declared.declaration.Decl.{Decl}
use Rattle.ig_grammar.specs.declared.grammar.Grammar.{Grammar}
use Rattle.ig_grammar.specs.declared.place.Shape.{Shape}
use Rattle.ig_blocks_parts.specs.Allowed.{IsBefore, Allows, outer_column}
use Rattle.ig_blocks_parts.specs.Setting as setting
use Rattle.ig_blocks_parts.proofs.Reading as reading
use Rattle.ig_blocks_parts.specs.Setting.{Setting, Pair, lacking, carried, opened, cleared, m_of, f_of, opened_by, cleared_by, pair_bindings, column_bindings, guards, column_guards, extra_by, pair_by, wrapped}
use Rattle.ig_blocks_parts.proofs.Reading.{AreApart, IsWritten, Reads, AllRead, BindingsRead, IsSteady, pair_in, is_aligned, Agree, Keep}
use Rattle.ig_blocks_parts.proofs.Lowered as low
use Rattle.ig_blocks_parts.proofs.Lowered.{Lowered, Placed, Item, Listing, Covered, Choices, IsHanded}
use Rattle.ig_blocks_parts.proofs.Takes.{Takes, IsRemade}
use Rattle.ig_blocks_parts.proofs.Columns.{block_allows}
use Rattle.ig_blocks_parts.proofs.Values.{agree_bound, keep_all, keep_then, keep_bound, value_agrees, have_back}
use Rattle.ig_blocks_parts.proofs.Starts.{Each, each_none, each_one, each_join, derives_after}
use Rattle.ig_blocks_parts.proofs.Situations.{pair_values, column_values, Holds, Situated, situated_later, have_split, have_same, pair_values_had, HasColumn, IsInside, inside_box, box_values, inside_entry, inner_steady, lacking_values}
use Rattle.ig_blocks_parts.proofs.Tests.{Fits, fits_none, fits_join, fits_exposed, AreTrue, true_left, true_right, guards_allow, true_column, pair_args, pair_params, bound_back, situated_first}
use Rattle.ig_blocks_parts.proofs.Forth.{pair_steady, read_values, extra_had, no_extra}
use Rattle.ig_blocks_parts.proofs.Standing.{column_in, start_in, situated_in, Row, last, tested, Behind, behind, Standing, alone, back_of, standing}

module _ (s : Setting) (apart : AreApart s) (g g2 : Grammar) (shapes shapes2 : List Shape) (text : Input) (takes : Takes s g g2 shapes shapes2) where
  -- of an aligned list also that its items stand in one column
  abbrev pub Sourced : Bool → DeclKind → Symbol → Environment → ℕ → ℕ → ℕ → Trees → Environment → List ℕ → Type 0
  Sourced false c x env i e j ts after starts = Derives g shapes text c x env i e j ts after starts
  Sourced true c x env i e j ts after starts = (items : List ℕ) × Items g shapes text c x env i e j ts after starts items × AreAligned text items

  pub record Source (al : Bool) (c : DeclKind) (x : Symbol) (env other : Environment) (m : ℕ) (f : Option ℕ) (i e j : ℕ) (ts : Trees) (left : Environment) : Type 0 where
    pub after : Environment
    pub exposes : List ℕ
    pub derived : Sourced al c x env i e j ts after exposes
    pub agrees : Agree s after left
    pub keeps : Keep s other left
    pub fits : Fits (s.paired Syntax) text c m f exposes

  -- behind tests, which hold
  pub record TestedSource (al : Bool) (c : DeclKind) (x : Symbol) (hs : List Symbol) (env other : Environment) (m : ℕ) (f : Option ℕ) (i j : ℕ) (ts : Trees) (left : Environment) : Type 0 where
    pub own : ℕ
    pub source : Source al c x env other m f i own j ts left
    pub tests : AreTrue s text other i hs

  pub record ItemSource (al : Bool) (c : DeclKind) (x : Symbol) (env other : Environment) (m : ℕ) (f : Option ℕ) (i j : ℕ) (ts : Trees) (left : Environment) : Type 0 where
    pub own : ℕ
    pub source : Source false c x env other m f i own j ts left
    pub tests : AreTrue s text other i (column_guards s al)

  pub record CoversSource (c : DeclKind) (xs : List Symbol) (env other : Environment) (m : ℕ) (f : Option ℕ) (i j : ℕ) (ts : Trees) (left : Environment) : Type 0 where
    pub after : Environment
    pub exposes : List ℕ
    pub covered : Covers g shapes text c xs env i j ts after exposes
    pub agrees : Agree s after left
    pub keeps : Keep s other left
    pub fits : Fits (s.paired Syntax) text c m f exposes

  pub record ListsSource (al : Bool) (c : DeclKind) (x : Symbol) (env : Environment) (m : ℕ) (f : Option ℕ) (k i j : ℕ) (t : Tree) : Type 0 where
    pub exposes : List ℕ
    pub items : List ℕ
    pub there : Lists g shapes text c x env i j t exposes items
    pub fits : Fits (s.paired Syntax) text c m f exposes
    pub columns : al ≡ true → Each (λ q. column_of text q ≡ k) items

  -- a list as a symbol of the lowered grammar derives it
  pub record ListingSource (al : Bool) (c : DeclKind) (x : Symbol) (env other : Environment) (m : ℕ) (f : Option ℕ) (k i e j : ℕ) (ts : Trees) (left : Environment) : Type 0 where
    pub t : Tree
    pub source : ListsSource al c x env m f k i j t
    pub own_end : e ≡ j
    pub trees : ts ≡ one t
    pub leaves : left ≡ other

  pub record InstanceSource (name : List ℕ) (vs : List Value) (kind : DeclKind) (m : ℕ) (f : Option ℕ) (i e : ℕ) (t : Tree) : Type 0 where
    pub exposes : List ℕ
    pub there : Instance g shapes text name vs kind i e t exposes
    pub fits : Fits (s.paired Syntax) text kind m f exposes

  instance_kind : {name : List ℕ} {vs : List Value} {kind : DeclKind} {i e : ℕ} {t : Tree} {starts : List ℕ} (k : DeclKind) →
      Instance g2 shapes2 text name vs kind i e t starts → s.kind_of name ≡ Some k → kind ≡ k
  instance_kind kd (alternative name vs kind d k new shape b env after i e ts t starts declares numbered bound same covers tree) known =
      let old = takes.back name kd d k new shape b known declares numbered in
      let made : IsRemade s old.0 new old.1 b = old.4 in
      same ∙ made.kind ∙ takes.kinds name kd d old.0 shape known old.2

  -- from a symbol without its marks to the symbol
  marks_back : (c : DeclKind) (x : Symbol) (env other : Environment) (m : ℕ) (f : Option ℕ) (i e j : ℕ) (ts : Trees) (left : Environment) → IsBefore f i →
      Source (is_aligned x) c (reading.bare x) env other (column_in text i x m f) (start_in text i x m f) i e j ts left →
      Source false c x env other m f i e j ts left
  marks_back c (Offside x) env other m f i e j ts left before src =
      let r = marks_back c x env other (outer_column text i m f) (Some i) i e j ts left (omega arith) src in
      let both = λ (q : ℕ) (h : Contains r.exposes q). block_allows text m f i q before (derives_after takes.in_order g shapes text r.derived q h) (r.fits.allowed q h) in
      record {
        after = r.after;
        exposes = r.exposes;
        derived = offside c x env r.after i e j ts r.exposes r.derived (λ q h. (both q h).1);
        agrees = r.agrees;
        keeps = r.keeps;
        fits = record { allowed = λ q h. (both q h).0; silent = r.fits.silent };
      }
  marks_back c (Ignore x) env other m f i e j ts left before src =
      let r = marks_back c x env other 0 None i e j ts left (omega arith) src in
      record {
        after = r.after;
        exposes = [];
        derived = ignore c x env r.after i e j ts r.exposes r.derived;
        agrees = r.agrees;
        keeps = r.keeps;
        fits = fits_none (s.paired Syntax) text c m f;
      }
  marks_back c (Align x) env other m f i e j ts left before src =
      record {
        after = src.after;
        exposes = src.exposes;
        derived = align c x env src.after i e j ts src.exposes src.derived.0 src.derived.1 src.derived.2;
        agrees = src.agrees;
        keeps = src.keeps;
        fits = src.fits;
      }
  marks_back c x env other m f i e j ts left before src = src

  -- a symbol in place, from its two forms
  item_back : (c : DeclKind) (al : Bool) (p : Pair) (x z : Symbol) (env other : Environment) (m : ℕ) (f : Option ℕ) (i e j : ℕ) (ts : Trees) (left : Environment) →
      IsBefore f i → Standing s c al p x z →
      (Lowered s c (is_aligned x) (pair_in s p x) (reading.bare x) [] z →
      Source (is_aligned x) c (reading.bare x) env other (column_in text i x m f) (start_in text i x m f) i e j ts left) →
      ((gs : List Symbol) (y : Symbol) → Behind (column_guards s al ++ gs) y z → Lowered s c (is_aligned x) (pair_in s p x) (reading.bare x) gs y →
      TestedSource (is_aligned x) c (reading.bare x) (column_guards s al ++ gs) env other (column_in text i x m f) (start_in text i x m f) i j ts left) →
      ItemSource al c x env other m f i j ts left
  item_back c al p x z env other m f i e j ts left before (alone none_there l) alone_back tested_back =
      record { own = e; source = marks_back c x env other m f i e j ts left before (alone_back l); tests = subst (AreTrue s text other i) (sym none_there) tt }
  item_back c al p x z env other m f i e j ts left before (back_of gs y b l) alone_back tested_back =
      let r = tested_back gs y b l in
      record {
        own = r.own;
        source = marks_back c x env other m f i r.own j ts left before r.source;
        tests = true_left s text other i (column_guards s al) gs r.tests;
      }

  -- the lowered alternative of a group
  record Chosen (c : DeclKind) (p : Pair) (k : ℕ) (ys : Symbols) (cs : Alternatives) : Type 0 where
    pub symbols : Symbols
    pub chosen : IsChoice cs k symbols
    pub covered : Covered s c p (listed symbols) (listed ys)

  choose : (c : DeclKind) (p : Pair) (cs ds : Alternatives) (before k : ℕ) (ys : Symbols) → Choices s c p cs ds → k ≡ suc before → choice ds before ≡ Some ys →
      Chosen c p k ys cs
  choose c p cs ds before k ys (low.no_choices p2) is e = absurd (cc)
  choose c p cs ds zero k ys (low.next_choice p2 xs zs others more2 first rest) is e =
      let same : zs ≡ ys = cc in
      record { symbols = xs; chosen = (0, is, refl); covered = subst (λ q. Covered s c p (listed xs) (listed q)) same first }
  choose c p cs ds (suc before) k ys (low.next_choice p2 xs zs others more2 first rest) is e =
      let r = choose c p others more2 before (suc before) ys rest refl e in
      record { symbols = r.symbols; chosen = (suc (r.chosen.0), is ∙ ap suc r.chosen.1, r.chosen.2); covered = r.covered }

  derive_list : (c : DeclKind) (al : Bool) (p : Pair) (x y : Symbol) (env : Environment) (i j : ℕ) (t : Tree) (starts items : List ℕ) → Listing s c al p x y →
      Lists g shapes text c x env i j t starts items → Derives g shapes text c x env i j j (one t) env starts
  derive_list c al p x y env i j t starts items (low.stars al2 p2 x2 z steady it) d = star c x2 env i j t starts items d
  derive_list c al p x y env i j t starts items (low.pluses al2 p2 x2 z steady it) d = plus c x2 env i j t starts items d
  derive_list c al p x y env i j t starts items (low.sep_stars al2 p2 x2 z sep sep2 steady it it2) d = sep_star c x2 sep env i j t starts items d
  derive_list c al p x y env i j t starts items (low.sep_pluses al2 p2 x2 z sep sep2 steady it it2) d = sep_plus c x2 sep env i j t starts items d

  aligned_by : (k : ℕ) (items : List ℕ) → Each (λ q. column_of text q ≡ k) items → AreAligned text items
  aligned_by k items all p q a b = all p a ∙ sym (all q b)

  source_list : (al : Bool) (c : DeclKind) (p : Pair) (x y : Symbol) (env : Environment) (m : ℕ) (f : Option ℕ) (k i j : ℕ) (t : Tree) → Listing s c al p x y →
      (r : ListsSource al c x env m f k i j t) → Sourced al c x env i j j (one t) env r.exposes
  source_list false c p x y env m f k i j t l r = derive_list c false p x y env i j t r.exposes r.items l r.there
  source_list true c p x y env m f k i j t l r = (r.items, bare c x env i j t r.exposes r.items r.there, aligned_by k r.items (r.columns refl))

  -- a list in place
  listing_in : (c : DeclKind) (p : Pair) (x y : Symbol) (env other : Environment) (m : ℕ) (f : Option ℕ) (k i e j : ℕ) (ts : Trees) (left : Environment) → Listing s c false p x y →
      Agree s env other → ListingSource false c x env other m f k i e j ts left → Source false c x env other m f i e j ts left
  listing_in c p x y env other m f k i e j ts left l agree r =
      record {
        after = env;
        exposes = r.source.exposes;
        derived = subst (λ z. Derives g shapes text c x env i z j ts env r.source.exposes) (sym r.own_end)
            (subst (λ z. Derives g shapes text c x env i j j z env r.source.exposes) (sym r.trees) (source_list false c p x y env m f k i j r.t l r.source));
        agrees = subst (Agree s env) (sym r.leaves) agree;
        keeps = subst (Keep s other) (sym r.leaves) (keep_all s other);
        fits = r.source.fits;
      }

  -- what an entry derives, from what stands inside
  listing_box : (al : Bool) (c : DeclKind) (p : Pair) (x y : Symbol) (env other inside : Environment) (m : ℕ) (f : Option ℕ) (k i e j : ℕ) (ts : Trees) (left : Environment) → Listing s c al p x y →
      Agree s env other → ListingSource al c x env inside m f k i e j ts left → Source al c x env other m f i j j ts other
  listing_box al c p x y env other inside m f k i e j ts left l agree r =
      record {
        after = env;
        exposes = r.source.exposes;
        derived = subst (λ z. Sourced al c x env i j j z env r.source.exposes) (sym r.trees) (source_list al c p x y env m f k i j r.t l r.source);
        agrees = agree;
        keeps = keep_all s other;
        fits = r.source.fits;
      }

  opt_outside : (c : DeclKind) (x : Symbol) (env other inside : Environment) (m : ℕ) (f : Option ℕ) (i e j : ℕ) (ts : Trees) (left : Environment) → Agree s env other →
      Source false c (Opt x) env inside m f i e j ts left → Source false c (Opt x) env other m f i j j ts other
  opt_outside c x env other inside m f i e j ts left agree r =
      let v = takes.inverts g shapes text in let by = v.derives r.derived in
      record {
        after = env;
        exposes = r.exposes;
        derived = subst (λ z. Derives g shapes text c (Opt x) env i z j ts env r.exposes) by.1 (subst (λ z. Derives g shapes text c (Opt x) env i e j ts z r.exposes) by.2 r.derived);
        agrees = agree;
        keeps = keep_all s other;
        fits = r.fits;
      }

  group_outside : (c : DeclKind) (choices : Alternatives) (env other inside : Environment) (m : ℕ) (f : Option ℕ) (i e j : ℕ) (ts : Trees) (left : Environment) → Agree s env other →
      Source false c (Group choices) env inside m f i e j ts left → Source false c (Group choices) env other m f i j j ts other
  group_outside c choices env other inside m f i e j ts left agree r =
      let v = takes.inverts g shapes text in let by = v.derives r.derived in
      record {
        after = env;
        exposes = r.exposes;
        derived = subst (λ z. Derives g shapes text c (Group choices) env i z j ts env r.exposes) by.7 (subst (λ z. Derives g shapes text c (Group choices) env i e j ts z r.exposes) by.8 r.derived);
        agrees = agree;
        keeps = keep_all s other;
        fits = r.fits;
      }

  -- the environment inside a box is that of its bindings
  inside_is : (al : Bool) (p : Pair) (m : ℕ) (f : Option ℕ) (env other inside : Environment) (i : ℕ) (bs : List Binding) (vs : List Value) → Situated s text env other p m f i →
      bs ≡ pair_bindings s p ++ column_bindings s al → HaveValues text other i (map (λ b. b.value) bs) vs → inside ≡ replaced other bs vs → IsInside s text apart env inside al p m f i
  inside_is al p m f env other inside i bs vs at is have renewed =
      let ws = pair_values p m f ++ column_values al (column_of text i) in
      let values_are : vs ≡ ws = have_same s text other i ws (subst (λ z. HaveValues text other i (map (λ b. b.value) z) vs) is have) (box_values s text apart other al p m f i at.within at.holds) in
      subst (λ z. IsInside s text apart env z al p m f i) (sym (renewed ∙ ap₂ (replaced other) is values_are)) (inside_box s text apart env other al p m f i at)

  -- a call
  call_back : (c kind kd : DeclKind) (p : Pair) (name : List ℕ) (arguments : List Expression) (vs : List Value) (env other : Environment)
      (m : ℕ) (f : Option ℕ) (i j : ℕ) (t : Tree) → kind ≢ Lexical → AllRead s arguments → HaveValues text other i arguments vs →
      Situated s text env other p m f i → (r : InstanceSource name vs kind m f i j t) → Fits (s.paired Syntax) text c m f r.exposes → Source false c (Call name arguments) env other m f i j j (one t) other
  call_back c kind kd p name arguments vs env other m f i j t other_kind read have at r fits =
      record {
        after = env;
        exposes = r.exposes;
        derived = call c kind name arguments vs env i j t r.exposes (have_back s text env other i at.agree have read) r.there other_kind;
        agrees = at.agree;
        keeps = keep_all s other;
        fits = fits;
      }

  -- what an unpaired call exposes is allowed under each pair
  unpaired_fits : (c kind kd : DeclKind) (p : Pair) (m : ℕ) (f : Option ℕ) (other : Environment) (i : ℕ) (starts : List ℕ) → kind ≡ kd → (s.paired Syntax ≡ true → kd ≡ Syntax → c ≡ Syntax) →
      ((s.paired Syntax ≡ true) × (kd ≢ Syntax)) ⊎ (p ≡ lacking) → Holds s text p m f other i → Fits (s.paired Syntax) text kind 0 None starts → Fits (s.paired Syntax) text c m f starts
  unpaired_fits c kind kd p m f other i starts same into (inl other_kind) holds fits =
      let silent = fits.silent other_kind.0 (λ e. other_kind.1 (sym same ∙ e)) in
      record { allowed = λ q h. absurd (silent q h); silent = λ w n. silent }
  unpaired_fits c kind kd p m f other i starts same into (inr is) holds fits =
      let v = lacking_values s text m f other i (subst (λ z. Holds s text z m f other i) is holds) in
      record {
        allowed = subst (λ z. Each (Allows text z f) starts) (sym v.0) (subst (λ z. Each (Allows text 0 z) starts) (sym v.1) fits.allowed);
        silent = λ w n. fits.silent w (λ e. n (into w (sym same ∙ e)));
      }

  -- the written arguments of a lowered call, and the pair
  args_by : (b : Bool) (p : Pair) (m : ℕ) (f : Option ℕ) (other : Environment) (i : ℕ) (arguments more2 : List Expression) (ws : List Value) → Holds s text p m f other i →
      more2 ≡ arguments ++ extra_by b (m_of s p) (f_of s p) → HaveValues text other i more2 ws →
      (vs : List Value) × HaveValues text other i arguments vs × (ws ≡ vs ++ pair_args s text b m f)
  args_by b p m f other i arguments more2 ws holds is have =
      let k = have_split s text other i arguments (extra_by b (m_of s p) (f_of s p)) ws (subst (λ z. HaveValues text other i z ws) is have) in
      (k.first, k.have_first, k.joined ∙ ap (λ z. k.first ++ z) (have_same s text other i (pair_args s text b m f) k.have_others (extra_had s apart g g2 shapes shapes2 text takes b p m f other i holds)))

  remade : (kind kd : DeclKind) (name : List ℕ) (vs : List Value) (d k : ℕ) (decl new : Decl) (shape : Shape) (a b : Levelled) (env other : Environment) (m : ℕ) (f : Option ℕ)
      (i e : ℕ) (ts : Trees) (left : Environment) → kind ≡ new.kind → Declares g shapes name d decl shape → IsAlternative decl k a → IsRemade s decl new a b →
      AreBound decl.params vs env → CoversSource kind a.alternative.symbols env other m f i e ts left →
      (t : Tree) → t ≡ Node (tag_of shape d k) i e ts → InstanceSource name vs kind m f i e t
  remade kind kd name vs d k decl new shape a b env other m f i e ts left same declares numbered made bound r t tree =
      record {
        exposes = r.exposes;
        there = alternative name vs kind d k decl shape a env r.after i e ts t r.exposes declares numbered bound (same ∙ made.kind) r.covered tree;
        fits = r.fits;
      }

  mutual
    pub from_covers : {c : DeclKind} {ys : List Symbol} {other left : Environment} {i j : ℕ} {vs : Trees} {starts : List ℕ} →
        Covers g2 shapes2 text c ys other i j vs left starts → (p : Pair) (m : ℕ) (f : Option ℕ) (env : Environment) (xs : List Symbol) →
        IsSteady p → Covered s c p xs ys → Situated s text env other p m f i → CoversSource c xs env other m f i j vs left
    from_covers (empty c other i) p m f env xs steady (low.nothing p2) at =
        record { after = env; exposes = []; covered = empty c env i; agrees = at.agree; keeps = keep_all s other; fits = fits_none (s.paired Syntax) text c m f }
    from_covers (symbol c y ys other between left i e h j ts us vs ks ls starts first rest trees exposes) p m f env xs steady (low.next p2 x y2 xs2 ys2 it more2) at =
        let wo = takes.in_order g2 shapes2 text in let o = wo.derives first in
        let r = item_back c false p x y env other m f i e h ts between at.before (standing s c false p x y it)
        (λ l. from_derives first (is_aligned x) (pair_in s p x) (column_in text i x m f) (start_in text i x m f) env (reading.bare x) [] l (situated_in s text x env other p m f i at) tt)
        (λ gs z b l. from_tested first (is_aligned x) (pair_in s p x) (column_in text i x m f) (start_in text i x m f) env (reading.bare x) (column_guards s false ++ gs) gs z b l (true_right s text other i (column_guards s false) gs) (situated_in s text x env other p m f i at)) in
        let a = r.source in
        let b = from_covers rest p m f a.after xs2 steady more2
        (situated_later s text env other a.after between p m f i h steady (omega (arith, o.begins, o.ends)) (o.within at.within) a.agrees a.keeps at) in
        record {
          after = b.after;
          exposes = a.exposes ++ b.exposes;
          covered = symbol c x xs2 env a.after b.after i r.own h j ts us vs a.exposes b.exposes (a.exposes ++ b.exposes) a.derived b.covered trees refl;
          agrees = b.agrees;
          keeps = keep_then s other between left a.keeps b.keeps;
          fits = fits_join (s.paired Syntax) text c m f a.exposes b.exposes (a.exposes ++ b.exposes) refl a.fits b.fits;
        }

    -- tests in a row, and a symbol behind them
    pub from_row : {c : DeclKind} {zs : List Symbol} {other left : Environment} {i j : ℕ} {vs : Trees} {starts : List ℕ} →
        Covers g2 shapes2 text c zs other i j vs left starts → (al : Bool) (p : Pair) (m : ℕ) (f : Option ℕ) (env : Environment) (x : Symbol) (hs gs : List Symbol) (y : Symbol) →
        Row hs y zs → Lowered s c al p x gs y → (AreTrue s text other i hs → AreTrue s text other i gs) → Situated s text env other p m f i →
        TestedSource al c x hs env other m f i j vs left
    from_row (empty c other i) al p m f env x hs gs y row l known at = elim row [ ]
    from_row (symbol c y2 others other between left i e h j ts us vs ks ls starts first rest trees exposes) al p m f env x hs gs y (last y3) l known at =
        let r = from_derives first al p m f env x gs l at (known tt) in
        let v = takes.inverts g2 shapes2 text in let by = v.covers rest in
        let trees_are : ts ≡ vs = sym (trees ∙ ap (join ts) by.1 ∙ join-none ts) in
        record {
          own = e;
          source = subst (λ z. Source al c x env other m f i e z vs left) by.0
              (subst (λ z. Source al c x env other m f i e h z left) trees_are (subst (λ z. Source al c x env other m f i e h ts z) (sym by.2) r));
          tests = tt;
        }
    from_row (symbol c y2 others other between left i e h j ts us vs ks ls starts (guard c2 condition other2 i2 holds) rest trees exposes) al p m f env x hs gs y (tested condition2 hs2 y3 zs row) l known at =
        let r = from_row rest al p m f env x hs2 gs y row l (λ t. known (holds, t)) at in
        record { own = r.own; source = subst (λ z. Source al c x env other m f i r.own j z left) (sym trees) r.source; tests = (holds, r.tests) }

    pub from_tested : {c : DeclKind} {z : Symbol} {other left : Environment} {i e j : ℕ} {ts : Trees} {starts : List ℕ} →
        Derives g2 shapes2 text c z other i e j ts left starts → (al : Bool) (p : Pair) (m : ℕ) (f : Option ℕ) (env : Environment) (x : Symbol) (hs gs : List Symbol) (y : Symbol) →
        Behind hs y z → Lowered s c al p x gs y → (AreTrue s text other i hs → AreTrue s text other i gs) → Situated s text env other p m f i →
        TestedSource al c x hs env other m f i j ts left
    from_tested (sequence c xs other left i j ts starts inside) al p m f env x hs gs y (behind hs2 y2 zs row) l known at =
        from_row inside al p m f env x hs gs y row l known at
    from_tested d al p m f env x hs gs y b l known at = elim b [ ]

    pub from_listing : {c : DeclKind} {y : Symbol} {other left : Environment} {i e j : ℕ} {ts : Trees} {starts : List ℕ} →
        Derives g2 shapes2 text c y other i e j ts left starts → (al : Bool) (p : Pair) (m : ℕ) (f : Option ℕ) (env : Environment) (x : Symbol) →
        Listing s c al p x y → Situated s text env other p m f i → (k : ℕ) → HasColumn s text al other k → ListingSource al c x env other m f k i e j ts left
    from_listing (star c z other i j t starts items list) al p m f env x (low.stars al2 p2 x2 z2 steady it) at k col =
        record { t = t; source = from_lists list al p m f env (Star x2) (low.stars al p x2 z steady it) at k col; own_end = refl; trees = refl; leaves = refl }
    from_listing (plus c z other i j t starts items list) al p m f env x (low.pluses al2 p2 x2 z2 steady it) at k col =
        record { t = t; source = from_lists list al p m f env (Plus x2) (low.pluses al p x2 z steady it) at k col; own_end = refl; trees = refl; leaves = refl }
    from_listing (sep_star c z sep2 other i j t starts items list) al p m f env x (low.sep_stars al2 p2 x2 z2 sep sep3 steady it it2) at k col =
        record { t = t; source = from_lists list al p m f env (SepStar x2 sep) (low.sep_stars al p x2 z sep sep2 steady it it2) at k col; own_end = refl; trees = refl; leaves = refl }
    from_listing (sep_plus c z sep2 other i j t starts items list) al p m f env x (low.sep_pluses al2 p2 x2 z2 sep sep3 steady it it2) at k col =
        record { t = t; source = from_lists list al p m f env (SepPlus x2 sep) (low.sep_pluses al p x2 z sep sep2 steady it it2) at k col; own_end = refl; trees = refl; leaves = refl }
    from_listing d al p m f env x l at k col = elim l [ ]

    pub from_derives : {c : DeclKind} {y : Symbol} {other left : Environment} {i e j : ℕ} {ts : Trees} {starts : List ℕ} →
        Derives g2 shapes2 text c y other i e j ts left starts → (al : Bool) (p : Pair) (m : ℕ) (f : Option ℕ) (env : Environment) (x : Symbol) (gs : List Symbol) →
        Lowered s c al p x gs y → Situated s text env other p m f i → AreTrue s text other i gs → Source al c x env other m f i e j ts left
    from_derives (literal c word other i e j us ts starts spells trails trees exposes) al p m f env x gs (low.literal p2 word2 gs2 proper is) at true_tests =
        record {
          after = env;
          exposes = exposed c i;
          derived = literal c word env i e j us ts (exposed c i) spells (from_trails trails spells.within) trees refl;
          agrees = at.agree;
          keeps = keep_all s other;
          fits = fits_exposed (s.paired Syntax) text c m f i (guards_allow s text p m f other i at.holds at.before at.within (subst (AreTrue s text other i) is true_tests));
        }
    from_derives (one_of c class other i e j us ts starts among trails trees exposes) al p m f env x gs (low.one_of p2 class2 gs2 proper is) at true_tests =
        let here : i < length text.characters = slice_get_within text.characters i among.character among.there in
        let next : e ≡ i + 1 = among.next in
        record {
          after = env;
          exposes = exposed c i;
          derived = one_of c class env i e j us ts (exposed c i) among (from_trails trails (omega (arith, next, here))) trees refl;
          agrees = at.agree;
          keeps = keep_all s other;
          fits = fits_exposed (s.paired Syntax) text c m f i (guards_allow s text p m f other i at.holds at.before at.within (subst (AreTrue s text other i) is true_tests));
        }
    from_derives (token c name arguments vs other i e j t us ts ks starts have instance trails trees exposes) al p m f env x gs (low.token p2 name2 arguments2 gs2 known read proper is) at true_tests =
        let wo = takes.in_order g2 shapes2 text in let o = wo.instance instance in
        let r = from_instance instance Lexical known vs 0 None (sym (no_extra s apart g g2 shapes shapes2 text takes vs (s.paired Lexical) 0 None takes.lexical_unpaired)) (λ z. (refl, refl)) (omega arith) at.within in
        record {
          after = env;
          exposes = exposed c i;
          derived = token c name arguments vs env i e j t us ts r.exposes (exposed c i) (have_back s text env other i at.agree have read) r.there (from_trails trails (o.within at.within)) trees refl;
          agrees = at.agree;
          keeps = keep_all s other;
          fits = fits_exposed (s.paired Syntax) text c m f i (guards_allow s text p m f other i at.holds at.before at.within (subst (AreTrue s text other i) is true_tests));
        }
    from_derives (token c name arguments vs other i e j t us ts ks starts have instance trails trees exposes) al p m f env x gs (low.call p2 name2 arguments2 more2 kind2 known not_lexical into handed read is) at true_tests =
        absurd (not_lexical (sym (instance_kind kind2 instance known)))
    from_derives (call c kind name arguments vs other i j t starts have instance other_kind) al p m f env x gs (low.token p2 name2 arguments2 gs2 known read proper is) at true_tests =
        absurd (other_kind (instance_kind Lexical instance known))
    from_derives (call c kind name more2 ws other i j t starts have instance other_kind) al p m f env x gs (low.call p2 name2 arguments more3 kind2 known not_lexical into (inl paired) read is) at true_tests =
        let k = args_by (s.paired kind2) p m f other i arguments more2 ws at.holds is have in
        let same = instance_kind kind2 instance known in
        let r = from_instance instance kind2 known k.0 m f k.2 (λ z. absurd (cc)) at.before at.within in
        call_back c kind kind2 p name arguments k.0 env other m f i j t other_kind read k.1 at r
        (record { allowed = r.fits.allowed; silent = λ w n. r.fits.silent w (λ e. n (into w (sym same ∙ e))) })
    from_derives (call c kind name more2 ws other i j t starts have instance other_kind) al p m f env x gs (low.call p2 name2 arguments more3 kind2 known not_lexical into (inr unpaired) read is) at true_tests =
        let k = args_by (s.paired kind2) p m f other i arguments more2 ws at.holds is have in
        let same = instance_kind kind2 instance known in
        let plain : ws ≡ k.0 ++ pair_args s text (s.paired kind2) 0 None =
        k.2 ∙ no_extra s apart g g2 shapes shapes2 text takes k.0 (s.paired kind2) m f unpaired.0 ∙ sym (no_extra s apart g g2 shapes shapes2 text takes k.0 (s.paired kind2) 0 None unpaired.0) in
        let r = from_instance instance kind2 known k.0 0 None plain (λ z. (refl, refl)) (omega arith) at.within in
        let fits = unpaired_fits c kind kind2 p m f other i r.exposes same into unpaired.1 at.holds r.fits in
        record {
          after = env;
          exposes = r.exposes;
          derived = call c kind name arguments k.0 env i j t r.exposes (have_back s text env other i at.agree k.1 read) r.there other_kind;
          agrees = at.agree;
          keeps = keep_all s other;
          fits = fits;
        }
    from_derives (label c name y2 other between left i e j ts starts inside bound) al p m f env x gs (low.label p2 name2 x2 y3 gs2 written (low.placed p3 x3 y4 gs3 l)) at true_tests =
        let r = marks_back c x2 env other m f i e j ts between at.before
        (from_derives inside (is_aligned x2) (pair_in s p x2) (column_in text i x2 m f) (start_in text i x2 m f) env (reading.bare x2) gs l (situated_in s text x2 env other p m f i at) true_tests) in
        record {
          after = r.after ++ (name, span_value i e) ∷ [];
          exposes = r.exposes;
          derived = label c name x2 env r.after (r.after ++ (name, span_value i e) ∷ []) i e j ts r.exposes r.derived refl;
          agrees = subst (Agree s (r.after ++ (name, span_value i e) ∷ [])) (sym bound) (agree_bound s r.after between name (span_value i e) r.agrees);
          keeps = subst (Keep s other) (sym bound) (keep_bound s other between name (span_value i e) written r.keeps);
          fits = r.fits;
        }
    from_derives (guard c condition other i holds) al p m f env x gs (low.guard p2 e2 read) at true_tests =
        record {
          after = env;
          exposes = [];
          derived = guard c condition env i (value_agrees s text env other at.agree i condition read ∙ holds);
          agrees = at.agree;
          keeps = keep_all s other;
          fits = fits_none (s.paired Syntax) text c m f;
        }
    from_derives (let_be c name expression v other left i has bound) al p m f env x gs (low.let_be p2 name2 e2 written read) at true_tests =
        record {
          after = env ++ (name, v) ∷ [];
          exposes = [];
          derived = let_be c name expression v env (env ++ (name, v) ∷ []) i (value_agrees s text env other at.agree i expression read ∙ has) refl;
          agrees = subst (Agree s (env ++ (name, v) ∷ [])) (sym bound) (agree_bound s env other name v at.agree);
          keeps = subst (Keep s other) (sym bound) (keep_bound s other other name v written (keep_all s other));
          fits = fits_none (s.paired Syntax) text c m f;
        }
    from_derives (absent c z other i) al p m f env x gs (low.opt_in p2 x2 z2 steady it) at true_tests =
        record { after = env; exposes = []; derived = absent c x2 env i; agrees = at.agree; keeps = keep_all s other; fits = fits_none (s.paired Syntax) text c m f }
    from_derives (present c z other between i e j ts starts inside) al p m f env x gs (low.opt_in p2 x2 z2 steady it) at true_tests =
        let r = item_back c false p x2 z env other m f i e j ts between at.before (standing s c false p x2 z it)
        (λ l. from_derives inside (is_aligned x2) (pair_in s p x2) (column_in text i x2 m f) (start_in text i x2 m f) env (reading.bare x2) [] l (situated_in s text x2 env other p m f i at) tt)
        (λ gs2 y2 b l. from_tested inside (is_aligned x2) (pair_in s p x2) (column_in text i x2 m f) (start_in text i x2 m f) env (reading.bare x2) (column_guards s false ++ gs2) gs2 y2 b l (true_right s text other i (column_guards s false) gs2) (situated_in s text x2 env other p m f i at)) in
        let a = r.source in
        record { after = env; exposes = a.exposes; derived = present c x2 env a.after i r.own j ts a.exposes a.derived; agrees = at.agree; keeps = keep_all s other; fits = a.fits }
    from_derives (star c z other i j t starts items list) al p m f env x gs (low.star_in p2 x2 z2 steady it) at true_tests =
        let ll : Listing s c false p (Star x2) (Star z) = low.stars false p x2 z steady it in
        listing_in c p (Star x2) (Star z) env other m f 0 i j j (one t) other ll at.agree
        (record { t = t; source = from_lists list false p m f env (Star x2) ll at 0 tt; own_end = refl; trees = refl; leaves = refl })
    from_derives (plus c z other i j t starts items list) al p m f env x gs (low.plus_in p2 x2 z2 steady it) at true_tests =
        let ll : Listing s c false p (Plus x2) (Plus z) = low.pluses false p x2 z steady it in
        listing_in c p (Plus x2) (Plus z) env other m f 0 i j j (one t) other ll at.agree
        (record { t = t; source = from_lists list false p m f env (Plus x2) ll at 0 tt; own_end = refl; trees = refl; leaves = refl })
    from_derives (sep_star c z sep2 other i j t starts items list) al p m f env x gs (low.sep_star_in p2 x2 z2 sep sep3 steady it it2) at true_tests =
        let ll : Listing s c false p (SepStar x2 sep) (SepStar z sep2) = low.sep_stars false p x2 z sep sep2 steady it it2 in
        listing_in c p (SepStar x2 sep) (SepStar z sep2) env other m f 0 i j j (one t) other ll at.agree
        (record { t = t; source = from_lists list false p m f env (SepStar x2 sep) ll at 0 tt; own_end = refl; trees = refl; leaves = refl })
    from_derives (sep_plus c z sep2 other i j t starts items list) al p m f env x gs (low.sep_plus_in p2 x2 z2 sep sep3 steady it it2) at true_tests =
        let ll : Listing s c false p (SepPlus x2 sep) (SepPlus z sep2) = low.sep_pluses false p x2 z sep sep2 steady it it2 in
        listing_in c p (SepPlus x2 sep) (SepPlus z sep2) env other m f 0 i j j (one t) other ll at.agree
        (record { t = t; source = from_lists list false p m f env (SepPlus x2 sep) ll at 0 tt; own_end = refl; trees = refl; leaves = refl })
    from_derives (group c choices k ys other between i j ts starts chosen inside) al p m f env x gs (low.group_in p2 cs ds steady ch) at true_tests =
        let w = choose c p cs choices chosen.0 k ys ch chosen.1 chosen.2 in
        let r = from_covers inside p m f env (listed w.symbols) steady w.covered at in
        record { after = env; exposes = r.exposes; derived = group c cs k w.symbols env r.after i j ts r.exposes w.chosen r.covered; agrees = at.agree; keeps = keep_all s other; fits = r.fits }
    from_derives (filtered c y2 filters other left i e j ts starts inside passes) al p m f env x gs (low.filtered p2 x2 y3 filters2 gs2 (low.placed p3 x3 y4 gs3 l)) at true_tests =
        let r = marks_back c x2 env other m f i e j ts left at.before
        (from_derives inside (is_aligned x2) (pair_in s p x2) (column_in text i x2 m f) (start_in text i x2 m f) env (reading.bare x2) gs l (situated_in s text x2 env other p m f i at) true_tests) in
        record { after = r.after; exposes = r.exposes; derived = filtered c x2 filters env r.after i e j ts r.exposes r.derived passes; agrees = r.agrees; keeps = r.keeps; fits = r.fits }
    from_derives (filtered c y2 filters other left i e j ts starts inside passes) al p m f env x gs (low.filtered_list p2 x2 y3 filters2 gs2 l) at true_tests =
        let r = from_derives inside true p m f env x2 gs l at true_tests in
        record {
          after = r.after;
          exposes = r.exposes;
          derived = (r.derived.0, with_filters c x2 filters env r.after i e j ts r.exposes r.derived.0 r.derived.1 passes, r.derived.2);
          agrees = r.agrees;
          keeps = r.keeps;
          fits = r.fits;
        }
    from_derives (sequence c ys other left i j ts starts inside) al p m f env x gs (low.seq p2 xs ys2 steady cv) at true_tests =
        let r = from_covers inside p m f env (listed xs) steady cv at in
        record { after = r.after; exposes = r.exposes; derived = sequence c xs env r.after i j ts r.exposes r.covered; agrees = r.agrees; keeps = r.keeps; fits = r.fits }
    from_derives (entry c bs y2 vs other inside left i e j ts starts have renewed derived) al p m f env x gs (low.opt_box p2 bs2 x2 z it is) at true_tests =
        let b = inside_is false p m f env other inside i bs vs at is have renewed in
        opt_outside c x2 env other inside m f i e j ts left at.agree
        (from_derives derived false (setting.inner p) m f env (Opt x2) [] (low.opt_in (setting.inner p) x2 z (inner_steady s text apart p) it) b.situated tt)
    from_derives (entry c bs y2 vs other inside left i e j ts starts have renewed derived) al p m f env x gs (low.star_box al2 p2 bs2 x2 z it is) at true_tests =
        let b = inside_is al p m f env other inside i bs vs at is have renewed in
        let ll : Listing s c al (setting.inner p) (Star x2) (Star z) = low.stars al (setting.inner p) x2 z (inner_steady s text apart p) it in
        listing_box al c (setting.inner p) (Star x2) (Star z) env other inside m f (column_of text i) i e j ts left ll at.agree (from_listing derived al (setting.inner p) m f env (Star x2) ll b.situated (column_of text i) b.column)
    from_derives (entry c bs y2 vs other inside left i e j ts starts have renewed derived) al p m f env x gs (low.plus_box al2 p2 bs2 x2 z it is) at true_tests =
        let b = inside_is al p m f env other inside i bs vs at is have renewed in
        let ll : Listing s c al (setting.inner p) (Plus x2) (Plus z) = low.pluses al (setting.inner p) x2 z (inner_steady s text apart p) it in
        listing_box al c (setting.inner p) (Plus x2) (Plus z) env other inside m f (column_of text i) i e j ts left ll at.agree (from_listing derived al (setting.inner p) m f env (Plus x2) ll b.situated (column_of text i) b.column)
    from_derives (entry c bs y2 vs other inside left i e j ts starts have renewed derived) al p m f env x gs (low.sep_star_box al2 p2 bs2 x2 z sep sep2 it it2 is) at true_tests =
        let b = inside_is al p m f env other inside i bs vs at is have renewed in
        let ll : Listing s c al (setting.inner p) (SepStar x2 sep) (SepStar z sep2) = low.sep_stars al (setting.inner p) x2 z sep sep2 (inner_steady s text apart p) it it2 in
        listing_box al c (setting.inner p) (SepStar x2 sep) (SepStar z sep2) env other inside m f (column_of text i) i e j ts left ll at.agree (from_listing derived al (setting.inner p) m f env (SepStar x2 sep) ll b.situated (column_of text i) b.column)
    from_derives (entry c bs y2 vs other inside left i e j ts starts have renewed derived) al p m f env x gs (low.sep_plus_box al2 p2 bs2 x2 z sep sep2 it it2 is) at true_tests =
        let b = inside_is al p m f env other inside i bs vs at is have renewed in
        let ll : Listing s c al (setting.inner p) (SepPlus x2 sep) (SepPlus z sep2) = low.sep_pluses al (setting.inner p) x2 z sep sep2 (inner_steady s text apart p) it it2 in
        listing_box al c (setting.inner p) (SepPlus x2 sep) (SepPlus z sep2) env other inside m f (column_of text i) i e j ts left ll at.agree (from_listing derived al (setting.inner p) m f env (SepPlus x2 sep) ll b.situated (column_of text i) b.column)
    from_derives (entry c bs y2 vs other inside left i e j ts starts have renewed derived) al p m f env x gs (low.group_box p2 bs2 cs ds ch is) at true_tests =
        let b = inside_is false p m f env other inside i bs vs at is have renewed in
        group_outside c cs env other inside m f i e j ts left at.agree
        (from_derives derived false (setting.inner p) m f env (Group cs) [] (low.group_in (setting.inner p) cs ds (inner_steady s text apart p) ch) b.situated tt)
    from_derives (entry c more2 y2 ws other inside left i e j ts starts have renewed derived) al p m f env x gs (low.entry p2 bindings more3 x2 y3 read (low.placed p3 x3 y4 gs3 l) is) at true_tests =
        let k = have_split s text other i (map (λ b. b.value) bindings) (map (λ b. b.value) (pair_bindings s p)) ws
        (subst (λ z. HaveValues text other i z ws) (map-append (λ b. b.value) bindings (pair_bindings s p)) (subst (λ z. HaveValues text other i (map (λ b. b.value) z) ws) is have)) in
        let values_are : ws ≡ k.first ++ pair_values p m f =
        k.joined ∙ ap (λ z. k.first ++ z) (have_same s text other i (pair_values p m f) k.have_others (pair_values_had s text p m f other i at.holds)) in
        let home = replaced env bindings k.first in
        let there : Situated s text home inside (setting.inner p) m f i =
        subst (λ z. Situated s text home z (setting.inner p) m f i) (sym (renewed ∙ ap₂ (replaced other) is values_are))
        (inside_entry s text apart env other bindings k.first p m f i read k.have_first at) in
        let r = marks_back c x2 home inside m f i e j ts left at.before
        (from_derives derived (is_aligned x2) (pair_in s (setting.inner p) x2) (column_in text i x2 m f) (start_in text i x2 m f) home (reading.bare x2) [] l (situated_in s text x2 home inside (setting.inner p) m f i there) tt) in
        record {
          after = env;
          exposes = r.exposes;
          derived = entry c bindings x2 k.first env home r.after i e j ts r.exposes (have_back s text env other i at.agree k.have_first (read_values s bindings read)) refl r.derived;
          agrees = at.agree;
          keeps = keep_all s other;
          fits = r.fits;
        }
    from_derives d al p m f env x gs l at true_tests = elim l [ ]

    pub from_lists : {c : DeclKind} {y : Symbol} {other : Environment} {i j : ℕ} {t : Tree} {starts items : List ℕ} →
        Lists g2 shapes2 text c y other i j t starts items → (al : Bool) (p : Pair) (m : ℕ) (f : Option ℕ) (env : Environment) (x : Symbol) →
        Listing s c al p x y → Situated s text env other p m f i → (k : ℕ) → HasColumn s text al other k → ListsSource al c x env m f k i j t
    from_lists (nil c z other i) al p m f env x (low.stars al2 p2 x2 z2 steady it) at k col =
        record { exposes = []; items = []; there = nil c x2 env i; fits = fits_none (s.paired Syntax) text c m f; columns = λ e. each_none (λ q. column_of text q ≡ k) }
    from_lists (snoc c z other left i h e j t ts ks ls starts ps items list item exposes begin) al p m f env x (low.stars al2 p2 x2 z2 steady it) at k col =
        let wo = takes.in_order g2 shapes2 text in let o = wo.lists list in
        let a = from_lists list al p m f env (Star x2) (low.stars al p x2 z steady it) at k col in
        let there = situated_later s text env other env other p m f i h steady (omega (arith, o.begins, o.ends)) (o.within at.within) at.agree (keep_all s other) at in
        let r = item_back c al p x2 z env other m f h e j ts left there.before (standing s c al p x2 z it)
        (λ l. from_derives item (is_aligned x2) (pair_in s p x2) (column_in text h x2 m f) (start_in text h x2 m f) env (reading.bare x2) [] l (situated_in s text x2 env other p m f h there) tt)
        (λ gs2 y2 b l. from_tested item (is_aligned x2) (pair_in s p x2) (column_in text h x2 m f) (start_in text h x2 m f) env (reading.bare x2) (column_guards s al ++ gs2) gs2 y2 b l (true_right s text other h (column_guards s al) gs2) (situated_in s text x2 env other p m f h there)) in
        let b = r.source in
        record {
          exposes = a.exposes ++ b.exposes;
          items = a.items ++ h ∷ [];
          there = snoc c x2 env b.after i h r.own j t ts a.exposes b.exposes (a.exposes ++ b.exposes) a.items (a.items ++ h ∷ []) a.there b.derived refl refl;
          fits = fits_join (s.paired Syntax) text c m f a.exposes b.exposes (a.exposes ++ b.exposes) refl a.fits b.fits;
          columns = λ d. each_join (λ q. column_of text q ≡ k) a.items (h ∷ []) (a.items ++ h ∷ []) refl (a.columns d) (each_one (λ q. column_of text q ≡ k) h (true_column s text al other h k (o.within at.within) col r.tests d));
        }
    from_lists (one_item c z other left i e j ts starts item) al p m f env x (low.pluses al2 p2 x2 z2 steady it) at k col =
        let r = item_back c al p x2 z env other m f i e j ts left at.before (standing s c al p x2 z it)
        (λ l. from_derives item (is_aligned x2) (pair_in s p x2) (column_in text i x2 m f) (start_in text i x2 m f) env (reading.bare x2) [] l (situated_in s text x2 env other p m f i at) tt)
        (λ gs2 y2 b l. from_tested item (is_aligned x2) (pair_in s p x2) (column_in text i x2 m f) (start_in text i x2 m f) env (reading.bare x2) (column_guards s al ++ gs2) gs2 y2 b l (true_right s text other i (column_guards s al) gs2) (situated_in s text x2 env other p m f i at)) in
        let b = r.source in
        record {
          exposes = b.exposes;
          items = i ∷ [];
          there = one_item c x2 env b.after i r.own j ts b.exposes b.derived;
          fits = b.fits;
          columns = λ d. each_one (λ q. column_of text q ≡ k) i (true_column s text al other i k at.within col r.tests d);
        }
    from_lists (more_items c z other left i h e j t ts ks ls starts ps items list item exposes begin) al p m f env x (low.pluses al2 p2 x2 z2 steady it) at k col =
        let wo = takes.in_order g2 shapes2 text in let o = wo.lists list in
        let a = from_lists list al p m f env (Plus x2) (low.pluses al p x2 z steady it) at k col in
        let there = situated_later s text env other env other p m f i h steady (omega (arith, o.begins, o.ends)) (o.within at.within) at.agree (keep_all s other) at in
        let r = item_back c al p x2 z env other m f h e j ts left there.before (standing s c al p x2 z it)
        (λ l. from_derives item (is_aligned x2) (pair_in s p x2) (column_in text h x2 m f) (start_in text h x2 m f) env (reading.bare x2) [] l (situated_in s text x2 env other p m f h there) tt)
        (λ gs2 y2 b l. from_tested item (is_aligned x2) (pair_in s p x2) (column_in text h x2 m f) (start_in text h x2 m f) env (reading.bare x2) (column_guards s al ++ gs2) gs2 y2 b l (true_right s text other h (column_guards s al) gs2) (situated_in s text x2 env other p m f h there)) in
        let b = r.source in
        record {
          exposes = a.exposes ++ b.exposes;
          items = a.items ++ h ∷ [];
          there = more_items c x2 env b.after i h r.own j t ts a.exposes b.exposes (a.exposes ++ b.exposes) a.items (a.items ++ h ∷ []) a.there b.derived refl refl;
          fits = fits_join (s.paired Syntax) text c m f a.exposes b.exposes (a.exposes ++ b.exposes) refl a.fits b.fits;
          columns = λ d. each_join (λ q. column_of text q ≡ k) a.items (h ∷ []) (a.items ++ h ∷ []) refl (a.columns d) (each_one (λ q. column_of text q ≡ k) h (true_column s text al other h k (o.within at.within) col r.tests d));
        }
    from_lists (first_item c z sep2 other left i e j ts starts item) al p m f env x (low.sep_pluses al2 p2 x2 z2 sep sep3 steady it it2) at k col =
        let r = item_back c al p x2 z env other m f i e j ts left at.before (standing s c al p x2 z it)
        (λ l. from_derives item (is_aligned x2) (pair_in s p x2) (column_in text i x2 m f) (start_in text i x2 m f) env (reading.bare x2) [] l (situated_in s text x2 env other p m f i at) tt)
        (λ gs2 y2 b l. from_tested item (is_aligned x2) (pair_in s p x2) (column_in text i x2 m f) (start_in text i x2 m f) env (reading.bare x2) (column_guards s al ++ gs2) gs2 y2 b l (true_right s text other i (column_guards s al) gs2) (situated_in s text x2 env other p m f i at)) in
        let b = r.source in
        record {
          exposes = b.exposes;
          items = i ∷ [];
          there = first_item c x2 sep env b.after i r.own j ts b.exposes b.derived;
          fits = b.fits;
          columns = λ d. each_one (λ q. column_of text q ≡ k) i (true_column s text al other i k at.within col r.tests d);
        }
    from_lists (further_item c z sep2 other between left i h q n e j t us ts vs ks ms ls starts ps items list part item trees exposes begin) al p m f env x (low.sep_pluses al2 p2 x2 z2 sep sep3 steady it it2) at k col =
        let wo = takes.in_order g2 shapes2 text in let o = wo.lists list in
        let wo2 = takes.in_order g2 shapes2 text in let o2 = wo2.derives part in
        let a = from_lists list al p m f env (SepPlus x2 sep) (low.sep_pluses al p x2 z sep sep2 steady it it2) at k col in
        let there = situated_later s text env other env other p m f i h steady (omega (arith, o.begins, o.ends)) (o.within at.within) at.agree (keep_all s other) at in
        let past : n ≤ length text.characters = o2.within (o.within at.within) in
        let there2 = situated_later s text env other env other p m f i n steady (omega (arith, o.begins, o.ends, o2.begins, o2.ends)) past at.agree (keep_all s other) at in
        let d = item_back c false p sep sep2 env other m f h q n us between there.before (standing s c false p sep sep2 it2)
        (λ l. from_derives part (is_aligned sep) (pair_in s p sep) (column_in text h sep m f) (start_in text h sep m f) env (reading.bare sep) [] l (situated_in s text sep env other p m f h there) tt)
        (λ gs2 y2 b l. from_tested part (is_aligned sep) (pair_in s p sep) (column_in text h sep m f) (start_in text h sep m f) env (reading.bare sep) (column_guards s false ++ gs2) gs2 y2 b l (true_right s text other h (column_guards s false) gs2) (situated_in s text sep env other p m f h there)) in
        let r = item_back c al p x2 z env other m f n e j ts left there2.before (standing s c al p x2 z it)
        (λ l. from_derives item (is_aligned x2) (pair_in s p x2) (column_in text n x2 m f) (start_in text n x2 m f) env (reading.bare x2) [] l (situated_in s text x2 env other p m f n there2) tt)
        (λ gs2 y2 b l. from_tested item (is_aligned x2) (pair_in s p x2) (column_in text n x2 m f) (start_in text n x2 m f) env (reading.bare x2) (column_guards s al ++ gs2) gs2 y2 b l (true_right s text other n (column_guards s al) gs2) (situated_in s text x2 env other p m f n there2)) in
        let b = r.source in
        let sp = d.source in
        record {
          exposes = a.exposes ++ sp.exposes ++ b.exposes;
          items = a.items ++ n ∷ [];
          there = further_item c x2 sep env sp.after b.after i h d.own n r.own j t us ts vs a.exposes sp.exposes b.exposes (a.exposes ++ sp.exposes ++ b.exposes) a.items (a.items ++ n ∷ []) a.there sp.derived b.derived trees refl refl;
          fits = fits_join (s.paired Syntax) text c m f (a.exposes ++ sp.exposes) b.exposes (a.exposes ++ sp.exposes ++ b.exposes) refl (fits_join (s.paired Syntax) text c m f a.exposes sp.exposes (a.exposes ++ sp.exposes) refl a.fits sp.fits) b.fits;
          columns = λ w. each_join (λ v. column_of text v ≡ k) a.items (n ∷ []) (a.items ++ n ∷ []) refl (a.columns w) (each_one (λ v. column_of text v ≡ k) n (true_column s text al other n k past col r.tests w));
        }
    from_lists (no_item c z sep2 other i) al p m f env x (low.sep_stars al2 p2 x2 z2 sep sep3 steady it it2) at k col =
        record { exposes = []; items = []; there = no_item c x2 sep env i; fits = fits_none (s.paired Syntax) text c m f; columns = λ e. each_none (λ q. column_of text q ≡ k) }
    from_lists (some_items c z sep2 other i j t starts items list) al p m f env x (low.sep_stars al2 p2 x2 z2 sep sep3 steady it it2) at k col =
        let a = from_lists list al p m f env (SepPlus x2 sep) (low.sep_pluses al p x2 z sep sep2 steady it it2) at k col in
        record { exposes = a.exposes; items = a.items; there = some_items c x2 sep env i j t a.exposes a.items a.there; fits = a.fits; columns = a.columns }

    pub from_instance : {name : List ℕ} {ws : List Value} {kind : DeclKind} {i e : ℕ} {t : Tree} {starts : List ℕ} →
        Instance g2 shapes2 text name ws kind i e t starts → (kd : DeclKind) → s.kind_of name ≡ Some kd → (vs : List Value) (m : ℕ) (f : Option ℕ) →
        ws ≡ vs ++ pair_args s text (s.paired kd) m f → (s.paired kd ≡ false → (m ≡ 0) × (f ≡ None)) → IsBefore f i → i ≤ length text.characters →
        InstanceSource name vs kind m f i e t
    from_instance (alternative name ws kind d k new shape b other left i e ts t starts declares numbered bound same covers tree) kd known vs m f split unpaired before within =
        let old = takes.back name kd d k new shape b known declares numbered in
        let decl = old.0 in
        let a = old.1 in
        let made : IsRemade s old.0 new old.1 b = old.4 in
        let is : decl.kind ≡ kd = takes.kinds name kd d decl shape known old.2 in
        let params : new.params ≡ decl.params ++ pair_params s text (s.paired kd) = made.params ∙ ap (λ z. decl.params ++ pair_params s text (s.paired z)) is in
        let w = bound_back s text (s.paired kd) m f decl.params vs other (subst (λ z. AreBound z (vs ++ pair_args s text (s.paired kd) m f) other) params (subst (λ z. AreBound new.params z other) split bound)) in
        let cv : Covered s kind (pair_by (s.paired kd)) a.alternative.symbols b.alternative.symbols =
        subst (λ z. Covered s z (pair_by (s.paired kd)) a.alternative.symbols b.alternative.symbols) (sym (same ∙ made.kind))
        (subst (λ z. Covered s decl.kind (pair_by (s.paired z)) a.alternative.symbols b.alternative.symbols) is made.symbols) in
        let at : Situated s text w.env other (pair_by (s.paired kd)) m f i =
        subst (λ z. Situated s text w.env z (pair_by (s.paired kd)) m f i) (sym w.joined) (situated_first s text apart (s.paired kd) m f i w.bound made.written unpaired before within) in
        remade kind kd name vs d k decl new shape a b w.env other m f i e ts left same old.2 old.3 made w.bound
        (from_covers covers (pair_by (s.paired kd)) m f w.env a.alternative.symbols (pair_steady (s.paired kd)) cv at) t tree

    pub from_trails : {c : DeclKind} {e j : ℕ} {ts : Trees} → Trails g2 shapes2 text c e j ts → e ≤ length text.characters → Trails g shapes text c e j ts
    from_trails (layout name kind e j t starts declared instance) within =
        let there = sym takes.layout ∙ declared in
        let r = from_instance instance Layout (takes.layout_kind name there) [] 0 None (sym (no_extra s apart g g2 shapes shapes2 text takes [] (s.paired Layout) 0 None takes.layout_unpaired)) (λ z. (refl, refl)) (omega arith) within in
        layout name kind e j t r.exposes there r.there
    from_trails (no_layout e undeclared) within = no_layout e (sym takes.layout ∙ undeclared)
    from_trails (outside c e other) within = outside c e other
