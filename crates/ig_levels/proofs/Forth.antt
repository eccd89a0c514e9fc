-- A clean tree is derived under the bounds that it keeps.
use Rattle.std.proofs.Common.{◌≡◌, ℕ, ◌≤◌, Bool, true, false, List, [], ◌∷◌, ◌++◌, map, refl, sym, ◌∙◌, ap, subst, Some}
use Rattle.std.specs.Prelude.{◌≢◌, ◌&&◌}
use Rattle.ig_text.specs.Input.{Input}
use Rattle.ig_text.specs.declared.tag.Tag.TheVariants as tag
use Rattle.ig_text.specs.Tree.{Tree, Trees, Node, none, more, one, join}
use Rattle.ig_expr.specs.declared.value.Value.{Value}
use Rattle.ig_grammar.specs.Symbol.{Symbol, listed}
use Rattle.ig_meaning.specs.Environment.{AreBound, Environment, replaced}
use Rattle.ig_grammar.specs.Numbering.{Levelled, Declares, IsAlternative, tag_of}
use Rattle.ig_meaning.specs.Operands.{HasRightOperand, left_bound, right_bound}
use Rattle.ig_meaning.specs.Clean.{Clean, AllClean}
use Rattle.ig_meaning.specs.Derivation.{Covers, Derives, Lists, Items, Instance, Trails, span_value}
use Rattle.ig_meaning.specs.Derivation.{empty, symbol, literal, one_of, token, call, label, guard, let_be, absent, present, star, plus, sep_star, sep_plus, group, offside, ignore, align, filtered, sequence, entry}
use Rattle.ig_meaning.specs.Derivation.{nil, snoc, one_item, more_items, first_item, further_item, no_item, some_items, bare, with_filters, alternative, layout, no_layout, outside}
use Rattle.ig_grammar.specs.declared.declaration.DeclKind.{DeclKind}
use Rattle.ig_grammar.specs.declared.declaration.Decl.{Decl}
use Rattle.ig_grammar.specs.declared.grammar.Grammar.{Grammar}
use Rattle.ig_grammar.specs.declared.place.Shape.{Shape}
use Rattle.ig_levels.specs.Spines.{AtLeast, Asks}
use Rattle.ig_levels.specs.Levels.{added_parameters, Pair, no_pair, with_pair, in_symbols, in_alternatives, lowered, lowered_declaration, test_of, place_in, is_levelled, is_test, Place, elsewhere, has_left, has_right, pair_at}
use Rattle.ig_pass.specs.Added.{left_name, right_name}
use Rattle.ig_levels.proofs.WithBounds.{Bounds, bounded, bounds_of, bound_values, bound_pairs, Inserted, PairHas, Clear, AllClear}
use Rattle.ig_levels.proofs.Takes.{Takes, OwnKind, Fits, Wanted, Handed, left_of, right_of}
use Rattle.ig_levels.proofs.SpineFacts.{no_bounds, asked}
use Rattle.ig_levels.proofs.Finding.{EndsWith, left_found as left_operand, right_found as right_operand}
use Rattle.ig_levels.proofs.Inserting.{appended, all_renewed, has_to, have_to, arguments_to, bound_to, parameters_inserted, test_to, left_found, right_found, find}
use Rattle.ig_levels.proofs.Operating.{handed_at, wanted_behind, low_at, high_at, left_tree, right_tree}
use Rattle.ig_levels.proofs.Lowering.{nothing_wanted, listed_lowered, chosen_to, alternative_to, clear_listed, clear_choice, bindings_of_source, clean_parts, no_pair_has, pair_has, flat}

module _ (g g' : Grammar) (shapes shapes' : List Shape) (levelled : List ℕ → Bool) (text : Input)
    (takes : Takes g g' shapes shapes' levelled) where
  pub record CoversTo (b : Bounds) (c : DeclKind) (xs : List Symbol) (env' : Environment) (i j : ℕ) (vs : Trees) (after : Environment) (starts : List ℕ) : Type 0 where
    pub left : Environment
    pub covers : Covers g' shapes' text c xs env' i j vs left starts
    pub inserted : Inserted b after left

  pub record DerivesTo (b : Bounds) (c : DeclKind) (x : Symbol) (env' : Environment) (i e j : ℕ) (ts : Trees) (after : Environment) (starts : List ℕ) : Type 0 where
    pub left : Environment
    pub derives : Derives g' shapes' text c x env' i e j ts left starts
    pub inserted : Inserted b after left

  pub record ItemsTo (b : Bounds) (c : DeclKind) (x : Symbol) (env' : Environment) (i e j : ℕ) (ts : Trees) (after : Environment) (starts items : List ℕ) : Type 0 where
    pub left : Environment
    pub derives : Items g' shapes' text c x env' i e j ts left starts items
    pub inserted : Inserted b after left

  any : (l r : ℕ) (ts : Trees) → l ≡ 0 → r ≡ 0 → Handed g l r ts
  any l r ts p q = record { first = λ t us split. subst (λ z. AtLeast g z r t) (sym p) (subst (λ z. AtLeast g 0 z t) (sym q) (no_bounds g t)) }

  with_tests : {c : DeclKind} {xs : List Symbol} {env : Environment} {i j : ℕ} {vs : Trees} {after : Environment} {starts : List ℕ} →
      (m : Bool) (level l : ℕ) (name : List ℕ) → (m ≡ true → (find env name ≡ Some (Rattle.ig_expr.specs.declared.value.Value.TheVariants.Int (Rattle.std.specs.Prelude.pos l))) × (l ≤ level)) →
      Covers g' shapes' text c xs env i j vs after starts → Covers g' shapes' text c (test_of m level name ++ xs) env i j vs after starts
  with_tests {c = c} {xs = xs} {env = env} {i = i} {j = j} {vs = vs} {after = after} {starts = starts} true level l name holds covers =
      symbol c _ xs env env after i i i j none vs vs [] starts starts
      (guard c _ env i (let at = holds refl in test_to text env i level l name at.0 at.1)) covers refl refl
  with_tests false level l name holds covers = covers

  fits_in : (m : Bool) (l r : ℕ) → m ≡ true → (l1 : ℕ) × (r1 : ℕ) × (bounds_of m l r ≡ bounded l1 r1)
  fits_in m l r is = (l, r, ap (λ z. bounds_of z l r) is)

  own_kind : {name : List ℕ} {d : ℕ} {decl : Decl} {shape : Shape} {kind : DeclKind} → Declares g shapes name d decl shape → kind ≡ decl.kind →
      (a : Levelled) → OwnKind g shapes (place_in decl a) kind
  own_kind {d = d} {decl = decl} {shape = shape} declares same a is d1 decl1 shape1 declares1 =
      ap (λ (z : Decl). z.kind) (takes.once decl.name d1 d decl1 decl shape1 shape declares1 (record { numbered = declares.numbered; shaped = declares.shaped; named = refl })) ∙ sym same

  rule_tag : {name : List ℕ} {d k : ℕ} {decl : Decl} {shape : Shape} → Declares g shapes name d decl shape → is_levelled decl.levels ≡ true →
      tag_of shape d k ≡ tag.Rule d k
  rule_tag {name = name} {d = d} {k = k} {decl = decl} {shape = shape} declares is = ap (λ z. tag_of z d k) (takes.rules name d decl shape declares is)

  asked_first : {name : List ℕ} {d k : ℕ} {decl : Decl} {shape : Shape} {a : Levelled} → Declares g shapes name d decl shape → IsAlternative decl k a →
      (l r : ℕ) (ts : Trees) → Asks g l r (tag_of shape d k) ts → has_left (place_in decl a) true a.alternative.symbols ≡ true →
      (t : Tree) (us : Trees) → ts ≡ more t us → (l ≤ a.level) × AtLeast g l (left_bound a) t
  asked_first {d = d} {k = k} {decl = decl} {shape = shape} {a = a} declares numbered l r ts asks has t us first =
      let found = left_operand (place_in decl a) a.alternative.symbols has in
      asks.first a t (record {
        decl = decl;
        applies = record { d = d; k = k; tagged = rule_tag declares found.active; declaration = declares.numbered; numbered = numbered };
        has = found.has;
        after = us;
        first = first;
      })

  right_operand_of : (p : Place) (xs : List Symbol) → EndsWith p true xs → HasRightOperand p.own xs
  right_operand_of p xs ends = go ends.before refl
    where
      go : (before : List Symbol) → ends.before ≡ before → HasRightOperand p.own xs
      go [] e = absurd (ends.more refl e)
      go (y ∷ ys) e = record { first = y; others = ys; last = ends.last; split = ends.split ∙ ap (λ z. z ++ ends.last ∷ []) e; calls = ends.calls }

  asked_last : {name : List ℕ} {d k : ℕ} {decl : Decl} {shape : Shape} {a : Levelled} → Declares g shapes name d decl shape → IsAlternative decl k a →
      (l r : ℕ) (ts : Trees) → Asks g l r (tag_of shape d k) ts → has_right (place_in decl a) true a.alternative.symbols ≡ true →
      (us : Trees) (t : Tree) → ts ≡ join us (one t) → (r ≤ a.level) × AtLeast g (right_bound a) r t
  asked_last {d = d} {k = k} {decl = decl} {shape = shape} {a = a} declares numbered l r ts asks has us t last =
      let found = right_operand (place_in decl a) true a.alternative.symbols has in
      asks.last a t (record {
        decl = decl;
        applies = record { d = d; k = k; tagged = rule_tag declares found.active; declaration = declares.numbered; numbered = numbered };
        has = right_operand_of (place_in decl a) a.alternative.symbols found;
        before = us;
        last = last;
      })

  left_is : (m : Bool) (l r : ℕ) → m ≡ true → left_of (bounds_of m l r) ≡ l
  left_is m l r is = ap (λ z. left_of (bounds_of z l r)) is

  right_is : (m : Bool) (l r : ℕ) → m ≡ true → right_of (bounds_of m l r) ≡ r
  right_is m l r is = ap (λ z. right_of (bounds_of z l r)) is

  wanted_of : {name : List ℕ} {d k : ℕ} {decl : Decl} {shape : Shape} {a : Levelled} → Declares g shapes name d decl shape → IsAlternative decl k a →
      (l r : ℕ) (ts : Trees) → Asks g l r (tag_of shape d k) ts → Wanted g (place_in decl a) (bounds_of (is_levelled decl.levels) l r) true a.alternative.symbols ts
  wanted_of {decl = decl} {a = a} declares numbered l r ts asks =
      record {
        left = λ has t us split.
            subst (λ z. AtLeast g z (left_bound a) t) (sym (left_is (is_levelled decl.levels) l r (left_operand (place_in decl a) a.alternative.symbols has).active))
            (asked_first declares numbered l r ts asks has t us split).1;
        right = λ has us t split.
            subst (λ z. AtLeast g (right_bound a) z t) (sym (right_is (is_levelled decl.levels) l r (right_operand (place_in decl a) true a.alternative.symbols has).active))
            (asked_last declares numbered l r ts asks has us t split).1;
      }

  -- the alternative with its tests, from what its symbols cover
  assembled : {name : List ℕ} {vs : List Value} {kind : DeclKind} {d k : ℕ} {decl : Decl} {shape : Shape} {a : Levelled} {env after after' : Environment}
      {i e : ℕ} {ts : Trees} {starts : List ℕ} (l r : ℕ) →
      Declares g shapes name d decl shape → IsAlternative decl k a → AreBound decl.params vs env → kind ≡ decl.kind →
      Covers g shapes text kind a.alternative.symbols env i e ts after starts → Asks g l r (tag_of shape d k) ts →
      Inserted (bounds_of (is_levelled decl.levels) l r) env (env ++ bound_pairs (bounds_of (is_levelled decl.levels) l r)) →
      Covers g' shapes' text kind (lowered levelled (place_in decl a) true a.alternative.symbols) (env ++ bound_pairs (bounds_of (is_levelled decl.levels) l r)) i e ts after' starts →
      Instance g' shapes' text name (vs ++ bound_values (bounds_of (levelled name) l r)) kind i e (Node (tag_of shape d k) i e ts) starts
  assembled {name = name} {vs = vs} {kind = kind} {d = d} {k = k} {decl = decl} {shape = shape} {a = a} {env = env} {after = after} {after' = after'} {i = i} {e = e} {ts = ts} {starts = starts}
      l r declares numbered bound same covers asks ins lower =
      let p = place_in decl a in
      let b = bounds_of (is_levelled decl.levels) l r in
      let own = own_kind declares same a in
      let right_tested = with_tests (has_right p true a.alternative.symbols) a.level r right_name (λ has.
      let found = right_operand p true a.alternative.symbols has in
      let fit = fits_in (is_levelled decl.levels) l r found.active in
      let last = right_tree g shapes text covers p true own has in
      (right_found ins l r (ap (λ z. bounds_of z l r) found.active), (asked_last declares numbered l r ts asks has last.before last.tree last.split).0)) lower in
      let left_tested = with_tests (has_left p true a.alternative.symbols) a.level l left_name (λ has.
      let found = left_operand p a.alternative.symbols has in
      let first = left_tree g shapes text covers p true own has in
      (left_found ins l r (ap (λ z. bounds_of z l r) found.active), (asked_first declares numbered l r ts asks has first.tree first.others first.split).0)) right_tested in
      alternative name _ kind d k (lowered_declaration levelled decl) shape (flat levelled decl a) _ after' i e ts _ starts
      (takes.forth name d decl shape declares) (alternative_to levelled decl k a numbered)
      (subst (λ z. AreBound (decl.params ++ added_parameters (is_levelled decl.levels)) (vs ++ bound_values (bounds_of z l r)) (env ++ bound_pairs b))
      (sym (takes.known name d decl shape declares)) (bound_to bound (is_levelled decl.levels) l r))
      same left_tested refl

  mutual
    pub covers_to : {c : DeclKind} {xs : List Symbol} {env after : Environment} {i j : ℕ} {vs : Trees} {starts : List ℕ} →
        Covers g shapes text c xs env i j vs after starts → (p : Place) (b : Bounds) (first : Bool) → Fits p b → OwnKind g shapes p c →
        AllClean g vs → Wanted g p b first xs vs → AllClear xs → (env' : Environment) → Inserted b env env' →
        CoversTo b c (lowered levelled p first xs) env' i j vs after starts
    covers_to (empty c env i) p b first fits own clean wanted clear env' ins = record { left = env'; covers = empty c env' i; inserted = ins }
    covers_to (symbol c x others env between after i e h j ts us vs ks ls starts head rest trees exposes) p b first fits own clean wanted clear env' ins =
        let cleans = clean_parts g ts us (subst (AllClean g) trees clean) in
        let here = derives_to head (pair_at p first x others) (low_at g shapes text p b first x others) (high_at g shapes text p b first x others) b
        cleans.0 (handed_at g shapes text head rest vs trees p b first own wanted) clear.0 env' ins (pair_has text ins p fits first x others i g) in
        let next = covers_to rest p b (first && is_test x) fits own cleans.1 (wanted_behind g shapes text head vs trees p b first wanted) clear.1 here.left here.inserted in
        record {
          left = next.left;
          covers = symbol c (with_pair levelled (pair_at p first x others) x) (lowered levelled p (first && is_test x) others) env' here.left next.left
              i e h j ts us vs ks ls starts here.derives next.covers trees exposes;
          inserted = next.inserted;
        }

    pub derives_to : {c : DeclKind} {x : Symbol} {env after : Environment} {i e j : ℕ} {ts : Trees} {starts : List ℕ} →
        Derives g shapes text c x env i e j ts after starts → (pair : Pair) (l r : ℕ) (b : Bounds) →
        AllClean g ts → Handed g l r ts → Clear x → (env' : Environment) → Inserted b env env' → PairHas text env' i pair l r →
        DerivesTo b c (with_pair levelled pair x) env' i e j ts after starts
    derives_to (literal c word env i e j us ts starts spells trails trees exposes) pair l r b clean handed clear env' ins has =
        let cleans = subst (AllClean g) trees clean in
        record { left = env'; derives = literal c word env' i e j us ts starts spells (trails_to trails cleans.1) trees exposes; inserted = ins }
    derives_to (one_of c class env i e j us ts starts among trails trees exposes) pair l r b clean handed clear env' ins has =
        let cleans = subst (AllClean g) trees clean in
        record { left = env'; derives = one_of c class env' i e j us ts starts among (trails_to trails cleans.1) trees exposes; inserted = ins }
    derives_to (token c name arguments vs env i e j t us ts ks starts have instance trails trees exposes) pair l r b clean handed clear env' ins has =
        let cleans = subst (AllClean g) trees clean in
        record {
          left = env';
          derives = token c name _ _ env' i e j t us ts ks starts
              (arguments_to text (have_to text ins i arguments vs clear have) pair l r (levelled name) has)
              (instance_to instance l r cleans.0 (handed.first t us trees)) (trails_to trails cleans.1) trees exposes;
          inserted = ins;
        }
    derives_to (call c kind name arguments vs env i j t starts have instance other) pair l r b clean handed clear env' ins has =
        record {
          left = env';
          derives = call c kind name _ _ env' i j t starts
              (arguments_to text (have_to text ins i arguments vs clear have) pair l r (levelled name) has)
              (instance_to instance l r clean.0 (handed.first t none refl)) other;
          inserted = ins;
        }
    derives_to (label c name x env between after i e j ts starts inner bound) pair l r b clean handed clear env' ins has =
        let here = derives_to inner pair l r b clean handed clear.1 env' ins has in
        record {
          left = here.left ++ (name, span_value i e) ∷ [];
          derives = label c name (with_pair levelled pair x) env' here.left _ i e j ts starts here.derives refl;
          inserted = subst (λ z. Inserted b z (here.left ++ (name, span_value i e) ∷ [])) (sym bound) (appended here.inserted ((name, span_value i e) ∷ []));
        }
    derives_to (guard c condition env i holds) pair l r b clean handed clear env' ins has =
        record { left = env'; derives = guard c condition env' i (has_to text ins i condition _ clear holds); inserted = ins }
    derives_to (let_be c name expression v env after i value_is bound) pair l r b clean handed clear env' ins has =
        record {
          left = env' ++ (name, v) ∷ [];
          derives = let_be c name expression v env' _ i (has_to text ins i expression v clear.1 value_is) refl;
          inserted = subst (λ z. Inserted b z (env' ++ (name, v) ∷ [])) (sym bound) (appended ins ((name, v) ∷ []));
        }
    derives_to (absent c x env i) pair l r b clean handed clear env' ins has =
        record { left = env'; derives = absent c (with_pair levelled no_pair x) env' i; inserted = ins }
    derives_to (present c x env between i e j ts starts inner) pair l r b clean handed clear env' ins has =
        let here = derives_to inner no_pair 0 0 b clean.0.1 (any 0 0 ts refl refl) clear env' ins (no_pair_has text env' i) in
        record { left = env'; derives = present c (with_pair levelled no_pair x) env' here.left i e j ts starts here.derives; inserted = ins }
    derives_to (star c x env i j t starts items list) pair l r b clean handed clear env' ins has =
        record { left = env'; derives = star c (with_pair levelled no_pair x) env' i j t starts items (lists_to list b clean.0 clear env' ins); inserted = ins }
    derives_to (plus c x env i j t starts items list) pair l r b clean handed clear env' ins has =
        record { left = env'; derives = plus c (with_pair levelled no_pair x) env' i j t starts items (lists_to list b clean.0 clear env' ins); inserted = ins }
    derives_to (sep_star c x separator env i j t starts items list) pair l r b clean handed clear env' ins has =
        record {
          left = env';
          derives = sep_star c (with_pair levelled no_pair x) (with_pair levelled no_pair separator) env' i j t starts items (lists_to list b clean.0 clear env' ins);
          inserted = ins;
        }
    derives_to (sep_plus c x separator env i j t starts items list) pair l r b clean handed clear env' ins has =
        record {
          left = env';
          derives = sep_plus c (with_pair levelled no_pair x) (with_pair levelled no_pair separator) env' i j t starts items (lists_to list b clean.0 clear env' ins);
          inserted = ins;
        }
    derives_to (group c choices k xs env between i j ts starts chosen inner) pair l r b clean handed clear env' ins has =
        let here = covers_to inner elsewhere b true (λ is. absurd (cc)) (λ is. absurd (cc)) clean.0.1 (nothing_wanted g b true (listed xs) ts)
        (clear_listed xs (clear_choice choices chosen.0 xs clear chosen.2)) env' ins in
        record {
          left = env';
          derives = group c (in_alternatives levelled choices) k (in_symbols levelled xs) env' here.left i j ts starts (chosen_to levelled choices k xs chosen)
              (subst (λ z. Covers g' shapes' text c z env' i j ts here.left starts) (listed_lowered levelled true xs) here.covers);
          inserted = ins;
        }
    derives_to (offside c x env after i e j ts starts inner right) pair l r b clean handed clear env' ins has =
        let here = derives_to inner no_pair 0 0 b clean (any 0 0 ts refl refl) clear env' ins (no_pair_has text env' i) in
        record { left = here.left; derives = offside c (with_pair levelled no_pair x) env' here.left i e j ts starts here.derives right; inserted = here.inserted }
    derives_to (ignore c x env after i e j ts starts inner) pair l r b clean handed clear env' ins has =
        let here = derives_to inner no_pair 0 0 b clean (any 0 0 ts refl refl) clear env' ins (no_pair_has text env' i) in
        record { left = here.left; derives = ignore c (with_pair levelled no_pair x) env' here.left i e j ts starts here.derives; inserted = here.inserted }
    derives_to (align c x env after i e j ts starts items inner column) pair l r b clean handed clear env' ins has =
        let here = items_to inner b clean clear env' ins in
        record { left = here.left; derives = align c (with_pair levelled no_pair x) env' here.left i e j ts starts items here.derives column; inserted = here.inserted }
    derives_to (filtered c x filters env after i e j ts starts inner passes) pair l r b clean handed clear env' ins has =
        let here = derives_to inner no_pair 0 0 b clean (any 0 0 ts refl refl) clear env' ins (no_pair_has text env' i) in
        record { left = here.left; derives = filtered c (with_pair levelled no_pair x) filters env' here.left i e j ts starts here.derives passes; inserted = here.inserted }
    derives_to (sequence c xs env after i j ts starts inner) pair l r b clean handed clear env' ins has =
        let here = covers_to inner elsewhere b true (λ is. absurd (cc)) (λ is. absurd (cc)) clean (nothing_wanted g b true (listed xs) ts)
        (clear_listed xs clear) env' ins in
        record {
          left = here.left;
          derives = sequence c (in_symbols levelled xs) env' here.left i j ts starts
              (subst (λ z. Covers g' shapes' text c z env' i j ts here.left starts) (listed_lowered levelled true xs) here.covers);
          inserted = here.inserted;
        }
    derives_to (entry c bindings x vs env inside after i e j ts starts have renewed inner) pair l r b clean handed clear env' ins has =
        let within : Inserted b inside (replaced env' bindings vs) =
        subst (λ z. Inserted b z (replaced env' bindings vs)) (sym renewed) (all_renewed bindings vs env env' ins clear.0) in
        let here = derives_to inner no_pair 0 0 b clean (any 0 0 ts refl refl) clear.1 (replaced env' bindings vs) within (no_pair_has text (replaced env' bindings vs) i) in
        record {
          left = env';
          derives = entry c bindings (with_pair levelled no_pair x) vs env' (replaced env' bindings vs) here.left i e j ts starts
              (have_to text ins i (map (λ b. b.value) bindings) vs (bindings_of_source bindings clear.0) have) refl here.derives;
          inserted = ins;
        }

    pub lists_to : {c : DeclKind} {x : Symbol} {env : Environment} {i j : ℕ} {t : Tree} {starts items : List ℕ} →
        Lists g shapes text c x env i j t starts items → (b : Bounds) → Clean g t → Clear x → (env' : Environment) → Inserted b env env' →
        Lists g' shapes' text c (with_pair levelled no_pair x) env' i j t starts items
    lists_to (nil c x env i) b clean clear env' ins = nil c (with_pair levelled no_pair x) env' i
    lists_to (snoc c x env after i h e j t ts ks ls starts ps items list item exposes begins) b clean clear env' ins =
        let here = derives_to item no_pair 0 0 b clean.1.1 (any 0 0 ts refl refl) clear env' ins (no_pair_has text env' h) in
        snoc c (with_pair levelled no_pair x) env' here.left i h e j t ts ks ls starts ps items (lists_to list b clean.1.0 clear env' ins) here.derives exposes begins
    lists_to (one_item c x env after i e j ts starts item) b clean clear env' ins =
        let here = derives_to item no_pair 0 0 b clean.1 (any 0 0 ts refl refl) clear env' ins (no_pair_has text env' i) in
        one_item c (with_pair levelled no_pair x) env' here.left i e j ts starts here.derives
    lists_to (more_items c x env after i h e j t ts ks ls starts ps items list item exposes begins) b clean clear env' ins =
        let here = derives_to item no_pair 0 0 b clean.1.1 (any 0 0 ts refl refl) clear env' ins (no_pair_has text env' h) in
        more_items c (with_pair levelled no_pair x) env' here.left i h e j t ts ks ls starts ps items (lists_to list b clean.1.0 clear env' ins) here.derives exposes begins
    lists_to (first_item c x separator env after i e j ts starts item) b clean clear env' ins =
        let here = derives_to item no_pair 0 0 b clean.1 (any 0 0 ts refl refl) clear.0 env' ins (no_pair_has text env' i) in
        first_item c (with_pair levelled no_pair x) (with_pair levelled no_pair separator) env' here.left i e j ts starts here.derives
    lists_to (further_item c x separator env between after i h f m e j t us ts vs ks ms ls starts ps items list part item trees exposes begins) b clean clear env' ins =
        let cleans = clean_parts g us ts (subst (AllClean g) trees clean.1.1) in
        let one_part = derives_to part no_pair 0 0 b cleans.0 (any 0 0 us refl refl) clear.1 env' ins (no_pair_has text env' h) in
        let here = derives_to item no_pair 0 0 b cleans.1 (any 0 0 ts refl refl) clear.0 env' ins (no_pair_has text env' m) in
        further_item c (with_pair levelled no_pair x) (with_pair levelled no_pair separator) env' one_part.left here.left i h f m e j t us ts vs ks ms ls starts ps items
        (lists_to list b clean.1.0 clear env' ins) one_part.derives here.derives trees exposes begins
    lists_to (no_item c x separator env i) b clean clear env' ins = no_item c (with_pair levelled no_pair x) (with_pair levelled no_pair separator) env' i
    lists_to (some_items c x separator env i j t starts items list) b clean clear env' ins =
        some_items c (with_pair levelled no_pair x) (with_pair levelled no_pair separator) env' i j t starts items (lists_to list b clean.1.0 clear env' ins)

    pub items_to : {c : DeclKind} {x : Symbol} {env after : Environment} {i e j : ℕ} {ts : Trees} {starts items : List ℕ} →
        Items g shapes text c x env i e j ts after starts items → (b : Bounds) → AllClean g ts → Clear x → (env' : Environment) → Inserted b env env' →
        ItemsTo b c (with_pair levelled no_pair x) env' i e j ts after starts items
    items_to (bare c x env i j t starts items list) b clean clear env' ins =
        record { left = env'; derives = bare c (with_pair levelled no_pair x) env' i j t starts items (lists_to list b clean.0 clear env' ins); inserted = ins }
    items_to (with_filters c x filters env after i e j ts starts items inner passes) b clean clear env' ins =
        let here = items_to inner b clean clear env' ins in
        record { left = here.left; derives = with_filters c (with_pair levelled no_pair x) filters env' here.left i e j ts starts items here.derives passes; inserted = here.inserted }

    pub instance_to : {name : List ℕ} {vs : List Value} {kind : DeclKind} {i e : ℕ} {t : Tree} {starts : List ℕ} →
        Instance g shapes text name vs kind i e t starts → (l r : ℕ) → Clean g t → AtLeast g l r t →
        Instance g' shapes' text name (vs ++ bound_values (bounds_of (levelled name) l r)) kind i e t starts
    instance_to (alternative name vs kind d k decl shape a env after i e ts t starts declares numbered bound same covers tree) l r clean least =
        let cleans = subst (Clean g) tree clean in
        let leasts = subst (AtLeast g l r) tree least in
        let asks = asked g l r (tag_of shape d k) i e ts cleans.0 leasts in
        let b = bounds_of (is_levelled decl.levels) l r in
        let ins = parameters_inserted bound (takes.parameters name d decl shape declares) b in
        let here = covers_to covers (place_in decl a) b true (fits_in (is_levelled decl.levels) l r) (own_kind declares same a) cleans.1
        (wanted_of declares numbered l r ts asks) (takes.clear name d decl shape k a declares numbered) (env ++ bound_pairs b) ins in
        subst (λ z. Instance g' shapes' text name (vs ++ bound_values (bounds_of (levelled name) l r)) kind i e z starts) (sym tree)
        (assembled l r declares numbered bound same covers asks ins here.covers)

    pub trails_to : {c : DeclKind} {e j : ℕ} {ts : Trees} → Trails g shapes text c e j ts → AllClean g ts → Trails g' shapes' text c e j ts
    trails_to (layout name kind e j t starts declared instance) clean =
        layout name kind e j t starts (takes.layout ∙ declared)
        (subst (λ z. Instance g' shapes' text name (bound_values (bounds_of z 0 0)) kind e j t starts) (takes.layout_plain name declared)
        (instance_to instance 0 0 clean.0 (no_bounds g t)))
    trails_to (no_layout e undeclared) clean = no_layout e (takes.layout ∙ undeclared)
    trails_to (outside c e other) clean = outside c e other
