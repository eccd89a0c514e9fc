-- What symbols bind they bind under any bounds, too.
use Rattle.std.proofs.Common.{◌≡◌, ℕ, Bool, true, false, List, [], ◌∷◌, ◌++◌, map, append_assoc, refl, sym, ◌∙◌, ap, subst}
use Rattle.std.specs.Prelude.{◌&&◌}
use Rattle.std.proofs.lemmas.List.{append-nil}
use Rattle.ig_text.specs.Input.{Input}
use Rattle.ig_text.specs.declared.tag.Tag.{Tag}
use Rattle.ig_expr.specs.ValuedTree.{Tree, Trees, Node, none}
use Rattle.ig_expr.specs.declared.value.Value.{Value}
use Rattle.ig_grammar.specs.Symbol.{Symbol}
use Rattle.ig_grammar.specs.Numbering.{tag_of}
use Rattle.ig_grammar.specs.declared.declaration.DeclKind.{DeclKind}
use Rattle.ig_grammar.specs.declared.grammar.Grammar.{Grammar}
use Rattle.ig_grammar.specs.declared.place.Shape.{Shape}
use Rattle.ig_meaning.specs.Environment.{AreBound, Environment, replaced}
use Rattle.ig_meaning.specs.Derivation.{span_value}
use Rattle.ig_meaning.specs.Annotated.{IsRound, HasParts, Bind, Binds, BindApart, Within, Behind}
use Rattle.ig_meaning.specs.Annotated as a
use Rattle.ig_levels.specs.Levels.{added_parameters, Pair, no_pair, with_pair, in_symbols, lowered, lowered_declaration, test_of, place_in, is_levelled, is_test, Place, elsewhere, has_left, has_right, pair_at}
use Rattle.ig_pass.specs.Added.{left_name, right_name}
use Rattle.ig_pass.specs.Grown.{bound_alike}
use Rattle.ig_levels.proofs.WithBounds.{Bounds, bounds_of, bound_values, bound_pairs, Inserted, PairHas, Clear, AllClear}
use Rattle.ig_levels.proofs.Takes.{Takes, Fits}
use Rattle.ig_levels.proofs.Inserting.{appended, all_renewed, has_to, have_to, arguments_to, bound_to, parameters_inserted}
use Rattle.ig_levels.proofs.Lowering.{listed_lowered, chosen_to, alternative_to, clear_listed, clear_choice, bindings_of_source, no_pair_has, pair_has, flat}

module _ (levelled : List ℕ → Bool) where
  parts_to : {x : Symbol} {form : Tag} {parts : List Symbol} → HasParts x form parts → (pair : Pair) →
      HasParts (with_pair levelled pair x) form (map (with_pair levelled no_pair) parts)
  parts_to (a.absent x) pair = a.absent (with_pair levelled no_pair x)
  parts_to (a.present x) pair = a.present (with_pair levelled no_pair x)
  parts_to (a.nil x) pair = a.nil (with_pair levelled no_pair x)
  parts_to (a.snoc x) pair = a.snoc (with_pair levelled no_pair x)
  parts_to (a.one_item x) pair = a.one_item (with_pair levelled no_pair x)
  parts_to (a.more_items x) pair = a.more_items (with_pair levelled no_pair x)
  parts_to (a.first_item x s) pair = a.first_item (with_pair levelled no_pair x) (with_pair levelled no_pair s)
  parts_to (a.further_item x s) pair = a.further_item (with_pair levelled no_pair x) (with_pair levelled no_pair s)
  parts_to (a.no_item x s) pair = a.no_item (with_pair levelled no_pair x) (with_pair levelled no_pair s)
  parts_to (a.some_items x s) pair = a.some_items (with_pair levelled no_pair x) (with_pair levelled no_pair s)
  parts_to (a.chosen choices k xs chosen) pair = a.chosen _ k (in_symbols levelled xs) (chosen_to levelled choices k xs chosen)

  round_to : {x y : Symbol} → IsRound x y → (pair : Pair) → IsRound (with_pair levelled no_pair x) (with_pair levelled pair y)
  round_to a.offside pair = a.offside
  round_to a.ignore pair = a.ignore
  round_to a.align pair = a.align
  round_to (a.filtered filters) pair = a.filtered filters

clear_parts : {x : Symbol} {form : Tag} {parts : List Symbol} → HasParts x form parts → Clear x → AllClear parts
clear_parts (a.absent x) clear = tt
clear_parts (a.present x) clear = (clear, tt)
clear_parts (a.nil x) clear = tt
clear_parts (a.snoc x) clear = (clear, (clear, tt))
clear_parts (a.one_item x) clear = (clear, tt)
clear_parts (a.more_items x) clear = (clear, (clear, tt))
clear_parts (a.first_item x s) clear = (clear.0, tt)
clear_parts (a.further_item x s) clear = (clear, (clear.1, (clear.0, tt)))
clear_parts (a.no_item x s) clear = tt
clear_parts (a.some_items x s) clear = (clear, tt)
clear_parts (a.chosen choices k xs chosen) clear = (clear_choice choices chosen.0 xs clear chosen.2, tt)

clear_inside : {x y : Symbol} → IsRound x y → Clear y → Clear x
clear_inside a.offside clear = clear
clear_inside a.ignore clear = clear
clear_inside a.align clear = clear
clear_inside (a.filtered filters) clear = clear

module _ (g g' : Grammar) (shapes shapes' : List Shape) (levelled : List ℕ → Bool) (text : Input)
    (takes : Takes g g' shapes shapes' levelled) where
  -- the environment of the other grammar grows by the same names and values
  pub record BindTo (c : DeclKind) (ys : List Symbol) (env env' : Environment) (i j : ℕ) (ts : Trees) (after : Environment) : Type 0 where
    pub grown : Environment
    pub source : after ≡ env ++ grown
    pub bind : Bind g' shapes' text c ys env' i j ts (env' ++ grown)

  pub record BindsTo (c : DeclKind) (y : Symbol) (env env' : Environment) (i e j : ℕ) (ts : Trees) (after : Environment) : Type 0 where
    pub grown : Environment
    pub source : after ≡ env ++ grown
    pub binds : Binds g' shapes' text c y env' i e j ts (env' ++ grown)

  still : {c : DeclKind} {y : Symbol} {env env' : Environment} {i e j : ℕ} {ts : Trees} → Binds g' shapes' text c y env' i e j ts env' →
      BindsTo c y env env' i e j ts env
  still {c = c} {y = y} {env = env} {env' = env'} {i = i} {e = e} {j = j} {ts = ts} binds =
      record {
        grown = [];
        source = sym (append-nil env);
        binds = subst (Binds g' shapes' text c y env' i e j ts) (sym (append-nil env')) binds;
      }

  -- a name more
  named : {c : DeclKind} {y z : Symbol} {env env' between after : Environment} {i e j : ℕ} {ts : Trees} (name : List ℕ) (v : Value) →
      (here : BindsTo c y env env' i e j ts between) → after ≡ between ++ (name, v) ∷ [] →
      Binds g' shapes' text c z env' i e j ts ((env' ++ here.grown) ++ (name, v) ∷ []) → BindsTo c z env env' i e j ts after
  named {c = c} {z = z} {env = env} {env' = env'} {i = i} {e = e} {j = j} {ts = ts} name v here bound binds =
      record {
        grown = here.grown ++ (name, v) ∷ [];
        source = bound ∙ ap (λ q. q ++ (name, v) ∷ []) here.source ∙ append_assoc env here.grown ((name, v) ∷ []);
        binds = subst (Binds g' shapes' text c z env' i e j ts) (append_assoc env' here.grown ((name, v) ∷ [])) binds;
      }

  later : {b : Bounds} {env env' after : Environment} (grown : Environment) → Inserted b env env' → after ≡ env ++ grown → Inserted b after (env' ++ grown)
  later {b = b} {env' = env'} grown ins source = subst (λ z. Inserted b z (env' ++ grown)) (sym source) (appended ins grown)

  with_test : {c : DeclKind} {ys : List Symbol} {env after : Environment} {i j : ℕ} {ts : Trees} (m : Bool) (level : ℕ) (name : List ℕ) →
      Bind g' shapes' text c ys env i j ts after → Bind g' shapes' text c (test_of m level name ++ ys) env i j ts after
  with_test {c = c} {ys = ys} {env = env} {after = after} {i = i} {j = j} {ts = ts} true level name bind =
      a.next c _ ys env env after i i i j none ts ts (a.guard c _ env i) bind refl
  with_test false level name bind = bind

  mutual
    pub bind_to : {c : DeclKind} {xs : List Symbol} {env after : Environment} {i j : ℕ} {ts : Trees} →
        Bind g shapes text c xs env i j ts after → (p : Place) (b : Bounds) (first : Bool) → Fits p b → AllClear xs →
        (env' : Environment) → Inserted b env env' → BindTo c (lowered levelled p first xs) env env' i j ts after
    bind_to (a.nothing c env i) p b first fits clear env' ins =
        record {
          grown = [];
          source = sym (append-nil env);
          bind = subst (Bind g' shapes' text c [] env' i i none) (sym (append-nil env')) (a.nothing c env' i);
        }
    bind_to (a.next c x others env between after i e h j ts us vs head rest trees) p b first fits clear env' ins =
        let here = binds_to head (pair_at p first x others) _ _ b clear.0 env' ins (pair_has text ins p fits first x others i g) in
        let next = bind_to rest p b (first && is_test x) fits clear.1 (env' ++ here.grown) (later here.grown ins here.source) in
        record {
          grown = here.grown ++ next.grown;
          source = next.source ∙ ap (λ z. z ++ next.grown) here.source ∙ append_assoc env here.grown next.grown;
          bind = subst (Bind g' shapes' text c (lowered levelled p first (x ∷ others)) env' i j vs) (append_assoc env' here.grown next.grown)
              (a.next c (with_pair levelled (pair_at p first x others) x) (lowered levelled p (first && is_test x) others) env' (env' ++ here.grown) _
              i e h j ts us vs here.binds next.bind trees);
        }

    pub binds_to : {c : DeclKind} {x : Symbol} {env after : Environment} {i e j : ℕ} {ts : Trees} →
        Binds g shapes text c x env i e j ts after → (pair : Pair) (l r : ℕ) (b : Bounds) → Clear x →
        (env' : Environment) → Inserted b env env' → PairHas text env' i pair l r →
        BindsTo c (with_pair levelled pair x) env env' i e j ts after
    binds_to (a.literal c word env i e j us behind) pair l r b clear env' ins has = still (a.literal c word env' i e j us (behind_to behind))
    binds_to (a.one_of c class env i e j us behind) pair l r b clear env' ins has = still (a.one_of c class env' i e j us (behind_to behind))
    binds_to (a.call c kind name arguments vs env i e j t us have within behind) pair l r b clear env' ins has =
        still (a.call c kind name _ _ env' i e j t us (arguments_to text (have_to text ins i arguments vs clear have) pair l r (levelled name) has)
        (within_to within l r) (behind_to behind))
    binds_to (a.label c name x env between after i e j ts inner bound) pair l r b clear env' ins has =
        let here = binds_to inner pair l r b clear.1 env' ins has in
        named name (span_value i e) here bound (a.label c name (with_pair levelled pair x) env' (env' ++ here.grown) _ i e j ts here.binds refl)
    binds_to (a.guard c condition env i) pair l r b clear env' ins has = still (a.guard c condition env' i)
    binds_to (a.let_be c name expression v env after i value_is bound) pair l r b clear env' ins has =
        record {
          grown = (name, v) ∷ [];
          source = bound;
          binds = a.let_be c name expression v env' _ i (has_to text ins i expression v clear.1 value_is) refl;
        }
    binds_to (a.node c x form parts env i j ts bound has_parts inner) pair l r b clear env' ins has =
        still (a.node c (with_pair levelled pair x) form (map (with_pair levelled no_pair) parts) env' i j ts bound (parts_to levelled has_parts pair)
        (apart_to inner b (clear_parts has_parts clear) env' ins))
    binds_to (a.round c x y env after i e j ts mark inner) pair l r b clear env' ins has =
        let here = binds_to inner no_pair 0 0 b (clear_inside mark clear) env' ins (no_pair_has text env' i) in
        record {
          grown = here.grown;
          source = here.source;
          binds = a.round c (with_pair levelled no_pair x) (with_pair levelled pair y) env' _ i e j ts (round_to levelled mark pair) here.binds;
        }
    binds_to (a.sequence c xs env after i j ts inner) pair l r b clear env' ins has =
        let here = bind_to inner elsewhere b true (λ is. absurd (cc)) (clear_listed xs clear) env' ins in
        record {
          grown = here.grown;
          source = here.source;
          binds = a.sequence c (in_symbols levelled xs) env' _ i j ts
              (subst (λ z. Bind g' shapes' text c z env' i j ts (env' ++ here.grown)) (listed_lowered levelled true xs) here.bind);
        }
    binds_to (a.entry c bindings x vs env inside after i e j ts have renewed inner) pair l r b clear env' ins has =
        let within : Inserted b inside (replaced env' bindings vs) =
        subst (λ z. Inserted b z (replaced env' bindings vs)) (sym renewed) (all_renewed bindings vs env env' ins clear.0) in
        let here = binds_to inner no_pair 0 0 b clear.1 (replaced env' bindings vs) within (no_pair_has text (replaced env' bindings vs) i) in
        still (a.entry c bindings (with_pair levelled no_pair x) vs env' (replaced env' bindings vs) _ i e j ts
        (have_to text ins i (map (λ b. b.value) bindings) vs (bindings_of_source bindings clear.0) have) refl here.binds)

    apart_to : {c : DeclKind} {parts : List Symbol} {env : Environment} {i j : ℕ} {ts : Trees} {bound : List Value} →
        BindApart g shapes text c parts env i j ts bound → (b : Bounds) → AllClear parts → (env' : Environment) → Inserted b env env' →
        BindApart g' shapes' text c (map (with_pair levelled no_pair) parts) env' i j ts bound
    apart_to (a.no_part c env i) b clear env' ins = a.no_part c env' i
    apart_to (a.next_part c x others env after i e h j ts us vs some bound head rest trees all) b clear env' ins =
        let here = binds_to head no_pair 0 0 b clear.0 env' ins (no_pair_has text env' i) in
        a.next_part c (with_pair levelled no_pair x) (map (with_pair levelled no_pair) others) env' (env' ++ here.grown) i e h j ts us vs some bound
        here.binds (apart_to rest b clear.1 env' ins) trees (all ∙ ap (λ z. z ++ some) (bound_alike env after env' here.grown here.source))

    pub within_to : {name : List ℕ} {vs : List Value} {kind : DeclKind} {i e : ℕ} {t : Tree} →
        Within g shapes text name vs kind i e t → (l r : ℕ) →
        Within g' shapes' text name (vs ++ bound_values (bounds_of (levelled name) l r)) kind i e t
    within_to (a.alternative name vs kind d k decl shape by env after i e ts t declares numbered bound same inner tree) l r =
        let p = place_in decl by in
        let b = bounds_of (is_levelled decl.levels) l r in
        let ins = parameters_inserted bound (takes.parameters name d decl shape declares) b in
        let here = bind_to inner p b true (λ is. (l, r, ap (λ z. bounds_of z l r) is)) (takes.clear name d decl shape k by declares numbered) (env ++ bound_pairs b) ins in
        a.alternative name _ kind d k (lowered_declaration levelled decl) shape (flat levelled decl by) (env ++ bound_pairs b) _ i e ts t
        (takes.forth name d decl shape declares) (alternative_to levelled decl k by numbered)
        (subst (λ z. AreBound (decl.params ++ added_parameters (is_levelled decl.levels)) (vs ++ bound_values (bounds_of z l r)) (env ++ bound_pairs b))
        (sym (takes.known name d decl shape declares)) (bound_to bound (is_levelled decl.levels) l r))
        same
        (with_test (has_left p true by.alternative.symbols) by.level left_name (with_test (has_right p true by.alternative.symbols) by.level right_name here.bind))
        (tree ∙ ap (λ z. Node (tag_of shape d k) z i e ts) (bound_alike env after (env ++ bound_pairs b) here.grown here.source))

    behind_to : {c kind : DeclKind} {e j : ℕ} {ts : Trees} → Behind g shapes text c kind e j ts → Behind g' shapes' text c kind e j ts
    behind_to (a.layout name kind e j t declared within) =
        a.layout name kind e j t (takes.layout ∙ declared)
        (subst (λ z. Within g' shapes' text name (bound_values (bounds_of z 0 0)) kind e j t) (takes.layout_plain name declared) (within_to within 0 0))
    behind_to (a.no_layout c kind e undeclared) = a.no_layout c kind e (λ syntax lexical. takes.layout ∙ undeclared syntax lexical)
