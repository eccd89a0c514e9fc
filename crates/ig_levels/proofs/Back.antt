-- A tree that is derived under bounds is clean and keeps them.
use Rattle.std.proofs.Common.{◌≡◌, ℕ, Bool, true, false, List, [], ◌∷◌, ◌++◌, map, refl, sym, ◌∙◌, ap, subst, Some}
use Rattle.std.specs.Prelude.{◌&&◌, pos}
use Rattle.ig_text.specs.Input.{Input}
use Rattle.ig_text.specs.declared.tag.Tag.TheVariants as tag
use Rattle.ig_text.specs.Place.{Spells}
use Rattle.ig_text.specs.Pattern.{IsOneOf}
use Rattle.ig_text.specs.Tree.{Tree, Trees, Node, none, more, one, join}
use Rattle.ig_expr.specs.Expression.{Expression, Integer, Variable, Binary}
use Rattle.ig_expr.specs.declared.operator.Op.TheVariants.{GreaterEqual}
use Rattle.ig_expr.specs.declared.value.Value.{Value}
use Rattle.ig_expr.specs.declared.value.Value.TheVariants as value
use Rattle.ig_grammar.specs.Binding.{Binding}
use Rattle.ig_grammar.specs.Symbol.{Symbol, Literal, OneOf, Call, Label, Guard, Let, Opt, Star, Plus, SepStar, SepPlus, Group, Offside, Ignore, Align, Filtered, Seq, Entry}
use Rattle.ig_grammar.specs.Symbol.{listed}
use Rattle.ig_meaning.specs.Environment.{Environment, HasValue, HaveValues, AreBound, replaced}
use Rattle.ig_grammar.specs.Numbering.{Levelled, Declares, IsAlternative, IsChoice, tag_of, layout_among}
use Rattle.ig_meaning.specs.Operands.{Calls, plain, labelled}
use Rattle.ig_meaning.specs.Clean.{Clean, AllClean}
use Rattle.ig_meaning.specs.Filtering.{PassesAll}
use Rattle.ig_meaning.specs.Derivation.{Covers, Derives, Lists, Items, Instance, Trails, span_value}
use Rattle.ig_meaning.specs.Derivation.{empty, symbol, literal, one_of, token, call, label, guard, let_be, absent, present, star, plus, sep_star, sep_plus, group, offside, ignore, align, filtered, sequence, entry}
use Rattle.ig_meaning.specs.Derivation.{nil, snoc, one_item, more_items, first_item, further_item, no_item, some_items, bare, with_filters, alternative, layout, no_layout, outside}
use Rattle.ig_grammar.specs.declared.declaration.DeclKind.{DeclKind}
use Rattle.ig_grammar.specs.declared.declaration.Decl.{Decl}
use Rattle.ig_grammar.specs.declared.grammar.Grammar.{Grammar}
use Rattle.ig_grammar.specs.declared.place.Shape.{Shape}
use Rattle.ig_levels.specs.Spines.{AtLeast}
use Rattle.ig_levels.specs.Levels.{Pair, no_pair, with_pair, in_symbols, in_alternatives, lowered, test_of, place_in, is_levelled, is_test, is_operand, Place, elsewhere, has_left, has_right, pair_at, added_parameters, pair_arguments}
use Rattle.ig_pass.specs.Added.{left_name, right_name}
use Rattle.ig_levels.proofs.SameForm.{SameForm}
use Rattle.ig_levels.proofs.WithBounds.{Bounds, bounded, bounds_of, bound_values, Inserted, PairHas, Clear, AllClear}
use Rattle.ig_levels.proofs.Takes.{Takes, OwnKind, Fits, Wanted, Handed, left_of, right_of}
use Rattle.ig_levels.proofs.SpineFacts.{node_at_least, node_is_clean}
use Rattle.ig_levels.proofs.Finding.{operand_calls}
use Rattle.ig_levels.proofs.Inserting.{appended, all_renewed, has_from, have_from, arguments_from, bound_from, parameters_inserted, test_from, left_found, right_found}
use Rattle.ig_levels.proofs.Operating.{low_at, high_at}
use Rattle.ig_levels.proofs.Lowering.{listed_lowered, clear_listed, clear_choice, bindings_of_source, clean_join, no_pair_has, pair_has, alternative_from, chosen_from}
use Rattle.ig_levels.proofs.Nodes.{asks_of, clean_unlevelled, clean_other, wanted_join}

module _ (g g' : Grammar) (shapes shapes' : List Shape) (levelled : List ℕ → Bool) (text : Input)
    (takes : Takes g g' shapes shapes' levelled) where
  -- a call of a levelled declaration, or labels round one
  abbrev pub IsLevelledCall : Symbol → Type 0
  IsLevelledCall (Call name arguments) = levelled name ≡ true
  IsLevelledCall (Label name x) = IsLevelledCall x
  IsLevelledCall x = ⊥

  abbrev pub AllHold : Environment → ℕ → List Expression → Type 0
  AllHold env i [] = Unit {0}
  AllHold env i (e ∷ es) = HasValue text env i e (value.Bool true) × AllHold env i es

  pub record CoversFrom (p : Place) (b : Bounds) (first : Bool) (tests : List Expression) (c : DeclKind) (xs : List Symbol) (env env' : Environment) (i j : ℕ)
      (vs : Trees) (left : Environment) (starts : List ℕ) : Type 0 where
    pub after : Environment
    pub covers : Covers g shapes text c xs env i j vs after starts
    pub inserted : Inserted b after left
    pub clean : AllClean g vs
    pub wanted : Wanted g p b first xs vs
    pub hold : AllHold env' i tests

  pub record DerivesFrom (l r : ℕ) (b : Bounds) (c : DeclKind) (x : Symbol) (env : Environment) (i e j : ℕ) (ts : Trees) (left : Environment) (starts : List ℕ) : Type 0 where
    pub after : Environment
    pub derives : Derives g shapes text c x env i e j ts after starts
    pub inserted : Inserted b after left
    pub clean : AllClean g ts
    pub handed : IsLevelledCall x → Handed g l r ts

  pub record ListsFrom (c : DeclKind) (x : Symbol) (env : Environment) (i j : ℕ) (t : Tree) (starts items : List ℕ) : Type 0 where
    pub lists : Lists g shapes text c x env i j t starts items
    pub clean : Clean g t

  pub record ItemsFrom (b : Bounds) (c : DeclKind) (x : Symbol) (env : Environment) (i e j : ℕ) (ts : Trees) (left : Environment) (starts items : List ℕ) : Type 0 where
    pub after : Environment
    pub derives : Items g shapes text c x env i e j ts after starts items
    pub inserted : Inserted b after left
    pub clean : AllClean g ts

  pub record InstanceFrom (l r : ℕ) (name : List ℕ) (vs : List Value) (kind : DeclKind) (i e : ℕ) (t : Tree) (starts : List ℕ) : Type 0 where
    pub instance : Instance g shapes text name vs kind i e t starts
    pub clean : Clean g t
    pub least : levelled name ≡ true → AtLeast g l r t

  pub record TrailsFrom (c : DeclKind) (e j : ℕ) (ts : Trees) : Type 0 where
    pub trails : Trails g shapes text c e j ts
    pub clean : AllClean g ts

  abbrev conditions : Bool → ℕ → List ℕ → List Expression
  conditions true level name = Binary GreaterEqual (Integer (pos level)) (Variable name) ∷ []
  conditions false level name = []

  abbrev tests_in : Place → ℕ → List Symbol → List Expression
  tests_in p level xs = conditions (has_left p true xs) level left_name ++ conditions (has_right p true xs) level right_name

  tests_are : (m n : Bool) (level : ℕ) (zs : List Symbol) →
      test_of m level left_name ++ (test_of n level right_name ++ zs) ≡ map Guard (conditions m level left_name ++ conditions n level right_name) ++ zs
  tests_are true true level zs = refl
  tests_are true false level zs = refl
  tests_are false true level zs = refl
  tests_are false false level zs = refl

  left_holds : (env : Environment) (i level : ℕ) (m n : Bool) → AllHold env i (conditions m level left_name ++ conditions n level right_name) → m ≡ true →
      HasValue text env i (Binary GreaterEqual (Integer (pos level)) (Variable left_name)) (value.Bool true)
  left_holds env i level true n hold is = hold.0
  left_holds env i level false n hold is = absurd (cc)

  right_holds : (env : Environment) (i level : ℕ) (m n : Bool) → AllHold env i (conditions m level left_name ++ conditions n level right_name) → n ≡ true →
      HasValue text env i (Binary GreaterEqual (Integer (pos level)) (Variable right_name)) (value.Bool true)
  right_holds env i level true true hold is = hold.1.0
  right_holds env i level false true hold is = hold.0
  right_holds env i level m false hold is = absurd (cc)

  pub record GuardParts (condition : Expression) (env' between : Environment) (i h : ℕ) (ts : Trees) (ks : List ℕ) : Type 0 where
    pub holds : HasValue text env' i condition (value.Bool true)
    pub environment : env' ≡ between
    pub place : i ≡ h
    pub bare_trees : ts ≡ none
    pub quiet : ks ≡ []

  guard_parts : {c : DeclKind} {y : Symbol} {env' between : Environment} {i e h : ℕ} {ts : Trees} {ks : List ℕ} →
      Derives g' shapes' text c y env' i e h ts between ks → (condition : Expression) → y ≡ Guard condition → GuardParts condition env' between i h ts ks
  guard_parts (guard c condition1 env' i holds) condition same =
      let conditions_same : condition1 ≡ condition = cc in
      record {
        holds = subst (λ z. HasValue text env' i z (value.Bool true)) conditions_same holds;
        environment = refl;
        place = refl;
        bare_trees = refl;
        quiet = refl;
      }
  guard_parts d condition same = absurd (cc)

  moved : {c : DeclKind} {xs : List Symbol} {env after : Environment} {i h j : ℕ} {vs us : Trees} {starts ls : List ℕ} → i ≡ h → vs ≡ us → starts ≡ ls →
      Covers g shapes text c xs env h j us after ls → Covers g shapes text c xs env i j vs after starts
  moved {c = c} {xs = xs} {env = env} {after = after} {i = i} {h = h} {j = j} {vs = vs} {us = us} {starts = starts} {ls = ls} p q s covers =
      subst (λ z. Covers g shapes text c xs env z j vs after starts) (sym p)
      (subst (λ z. Covers g shapes text c xs env h j z after starts) (sym q) (subst (λ z. Covers g shapes text c xs env h j us after z) (sym s) covers))

  peeled : {p : Place} {b : Bounds} {first : Bool} {tests : List Expression} {c : DeclKind} {xs : List Symbol} {env env' between left : Environment} {i h j : ℕ}
      {ts us vs : Trees} {ks ls starts : List ℕ} (condition : Expression) → GuardParts condition env' between i h ts ks → vs ≡ join ts us → starts ≡ ks ++ ls →
      CoversFrom p b first tests c xs env between h j us left ls → CoversFrom p b first (condition ∷ tests) c xs env env' i j vs left starts
  peeled {p = p} {b = b} {first = first} {tests = tests} {xs = xs} {env' = env'} {between = between} {i = i} {h = h} {us = us} {vs = vs} {ls = ls} {starts = starts} condition parts trees exposes rest =
      let whole : vs ≡ us = trees ∙ ap (λ z. join z us) parts.bare_trees in
      let all : starts ≡ ls = exposes ∙ ap (λ z. z ++ ls) parts.quiet in
      record {
        after = rest.after;
        covers = moved parts.place whole all rest.covers;
        inserted = rest.inserted;
        clean = subst (AllClean g) (sym whole) rest.clean;
        wanted = subst (Wanted g p b first xs) (sym whole) rest.wanted;
        hold = (
          parts.holds,
          subst (λ z. AllHold z i tests) (sym parts.environment) (subst (λ z. AllHold between z tests) (sym parts.place) rest.hold),
        );
      }

  -- the instance in the source, from what the symbols of its alternative cover there
  concluded : {name : List ℕ} {vs : List Value} {kind : DeclKind} {d k : ℕ} {decl : Decl} {shape : Shape} {a : Levelled} {env env' left : Environment}
      {i e : ℕ} {ts : Trees} {starts : List ℕ} (l r : ℕ) →
      Declares g shapes name d decl shape → IsAlternative decl k a → AreBound decl.params vs env → kind ≡ decl.kind →
      Inserted (bounds_of (is_levelled decl.levels) l r) env env' →
      CoversFrom (place_in decl a) (bounds_of (is_levelled decl.levels) l r) true (tests_in (place_in decl a) a.level a.alternative.symbols) kind a.alternative.symbols
      env env' i e ts left starts →
      InstanceFrom l r name vs kind i e (Node (tag_of shape d k) i e ts) starts
  concluded {name = name} {vs = vs} {kind = kind} {d = d} {k = k} {decl = decl} {shape = shape} {a = a} {env = env} {env' = env'} {i = i} {e = e} {ts = ts} {starts = starts}
      l r declares numbered bound same ins here = go (is_levelled decl.levels) refl
    where
      go : (m : Bool) → is_levelled decl.levels ≡ m → InstanceFrom l r name vs kind i e (Node (tag_of shape d k) i e ts) starts
      go true is =
          let bounds : bounds_of (is_levelled decl.levels) l r ≡ bounded l r = ap (λ z. bounds_of z l r) is in
          let asks = asks_of g shapes text declares numbered is l r (bounds_of (is_levelled decl.levels) l r) ts (ap left_of bounds) (ap right_of bounds) here.wanted
          (λ has. test_from text env' i a.level l left_name (left_found ins l r bounds)
          (left_holds env' i a.level (has_left (place_in decl a) true a.alternative.symbols) (has_right (place_in decl a) true a.alternative.symbols) here.hold has))
          (λ has. test_from text env' i a.level r right_name (right_found ins l r bounds)
          (right_holds env' i a.level (has_left (place_in decl a) true a.alternative.symbols) (has_right (place_in decl a) true a.alternative.symbols) here.hold has)) in
          record {
            instance = alternative name vs kind d k decl shape a env here.after i e ts _ starts declares numbered bound same here.covers refl;
            clean = (node_is_clean g l r (tag_of shape d k) ts asks, here.clean);
            least = λ lev. node_at_least g l r (tag_of shape d k) i e ts asks;
          }
      go false is =
          record {
            instance = alternative name vs kind d k decl shape a env here.after i e ts _ starts declares numbered bound same here.covers refl;
            clean = (clean_unlevelled g shapes text declares numbered is ts, here.clean);
            least = λ lev. let no : levelled name ≡ false = takes.known name d decl shape declares ∙ is in absurd (cc);
          }

  own_kind : {name : List ℕ} {d : ℕ} {decl : Decl} {shape : Shape} {kind : DeclKind} → Declares g shapes name d decl shape → kind ≡ decl.kind →
      (a : Levelled) → OwnKind g shapes (place_in decl a) kind
  own_kind {d = d} {decl = decl} {shape = shape} declares same a is d1 decl1 shape1 declares1 =
      ap (λ (z : Decl). z.kind) (takes.once decl.name d1 d decl1 decl shape1 shape declares1 (record { numbered = declares.numbered; shaped = declares.shaped; named = refl })) ∙ sym same

  first_tree : {t u : Tree} {us vs : Trees} → more t us ≡ more u vs → t ≡ u
  first_tree e = cc

  operand_levelled : (own : List ℕ) (x : Symbol) → is_operand own x ≡ true → levelled own ≡ true → IsLevelledCall x
  operand_levelled own x is lev = go (operand_calls own x is)
    where
      go : {y : Symbol} → Calls own y → IsLevelledCall y
      go (plain arguments) = lev
      go (labelled lab arguments) = lev

  -- what stands for a symbol has its form
  forms_kept : (pair : Pair) (x : Symbol) → SameForm (with_pair levelled pair x) x
  forms_kept pair (Literal word) = tt
  forms_kept pair (OneOf class) = tt
  forms_kept pair (Call name arguments) = tt
  forms_kept pair (Label name x) = tt
  forms_kept pair (Guard e) = tt
  forms_kept pair (Let name e) = tt
  forms_kept pair (Opt x) = tt
  forms_kept pair (Star x) = tt
  forms_kept pair (Plus x) = tt
  forms_kept pair (SepStar x separator) = tt
  forms_kept pair (SepPlus x separator) = tt
  forms_kept pair (Group choices) = tt
  forms_kept pair (Offside x) = tt
  forms_kept pair (Ignore x) = tt
  forms_kept pair (Align x) = tt
  forms_kept pair (Filtered x filters) = tt
  forms_kept pair (Seq xs) = tt
  forms_kept pair (Entry bindings x) = tt

  same_form : {y : Symbol} (pair : Pair) (x : Symbol) → y ≡ with_pair levelled pair x → SameForm y x
  same_form pair x same = subst (λ z. SameForm z x) (sym same) (forms_kept pair x)

  mutual
    pub covers_from : {c : DeclKind} {ys : List Symbol} {env' left : Environment} {i j : ℕ} {vs : Trees} {starts : List ℕ} →
        Covers g' shapes' text c ys env' i j vs left starts → (tests : List Expression) (xs : List Symbol) (p : Place) (b : Bounds) (first : Bool) →
        ys ≡ map Guard tests ++ lowered levelled p first xs → Fits p b → OwnKind g shapes p c → (p.active ≡ true → levelled p.own ≡ true) →
        AllClear xs → (env : Environment) → Inserted b env env' → CoversFrom p b first tests c xs env env' i j vs left starts
    covers_from (empty c env' i) [] [] p b first same fits own lev clear env ins =
        record {
          after = env;
          covers = empty c env i;
          inserted = ins;
          clean = tt;
          wanted = record { left = λ has t us split. absurd (cc); right = λ has ts t split. absurd (cc) };
          hold = tt;
        }
    covers_from (empty c env' i) tests xs p b first same fits own lev clear env ins = absurd (cc)
    covers_from (symbol c y others env' between left i e h j ts us vs ks ls starts head rest trees exposes) [] [] p b first same fits own lev clear env ins = absurd (cc)
    covers_from (symbol c y others env' between left i e h j ts us vs ks ls starts head rest trees exposes) [] (x ∷ xs) p b first same fits own lev clear env ins =
        let here = derives_from head x (pair_at p first x xs) (low_at g shapes text p b first x xs) (high_at g shapes text p b first x xs) b (cc) clear.0 env ins
        (pair_has text ins p fits first x xs i g) in
        let next = covers_from rest [] xs p b (first && is_test x) (cc) fits own lev clear.1 here.after here.inserted in
        record {
          after = next.after;
          covers = symbol c x xs env here.after next.after i e h j ts us vs ks ls starts here.derives next.covers trees exposes;
          inserted = next.inserted;
          clean = subst (AllClean g) (sym trees) (clean_join g ts us here.clean next.clean);
          wanted = wanted_join g shapes text here.derives next.covers vs trees p b first own
              (λ operand active. here.handed (operand_levelled p.own x operand (lev active))) next.wanted;
          hold = tt;
        }
    covers_from (symbol c y others env' between left i e h j ts us vs ks ls starts head rest trees exposes) (e1 ∷ tests) xs p b first same fits own lev clear env ins =
        let parts = guard_parts head e1 (cc) in
        peeled e1 parts trees exposes (covers_from rest tests xs p b first (cc) fits own lev clear env (subst (Inserted b env) parts.environment ins))

    pub derives_from : {c : DeclKind} {y : Symbol} {env' left : Environment} {i e j : ℕ} {ts : Trees} {starts : List ℕ} →
        Derives g' shapes' text c y env' i e j ts left starts → (x : Symbol) (pair : Pair) (l r : ℕ) (b : Bounds) → y ≡ with_pair levelled pair x →
        Clear x → (env : Environment) → Inserted b env env' → PairHas text env' i pair l r → DerivesFrom l r b c x env i e j ts left starts
    derives_from (literal c word env' i e j us ts starts spells trails trees exposes) (Literal w) pair l r b same clear env ins has =
        let there = trails_from trails in
        let words : word ≡ w = cc in
        record {
          after = env;
          derives = literal c w env i e j us ts starts (subst (λ z. Spells text z i e) words spells) there.trails trees exposes;
          inserted = ins;
          clean = subst (AllClean g) (sym trees) (tt, there.clean);
          handed = λ never. absurd never;
        }
    derives_from (literal c word env' i e j us ts starts spells trails trees exposes) x pair l r b same clear env ins has = absurd (same_form pair x same)
    derives_from (one_of c class env' i e j us ts starts among trails trees exposes) (OneOf k) pair l r b same clear env ins has =
        let there = trails_from trails in
        let classes : class ≡ k = cc in
        record {
          after = env;
          derives = one_of c k env i e j us ts starts (subst (λ z. IsOneOf text z i e) classes among) there.trails trees exposes;
          inserted = ins;
          clean = subst (AllClean g) (sym trees) (tt, there.clean);
          handed = λ never. absurd never;
        }
    derives_from (one_of c class env' i e j us ts starts among trails trees exposes) x pair l r b same clear env ins has = absurd (same_form pair x same)
    derives_from (token c name1 arguments1 ws env' i e j t us ts ks starts have instance trails trees exposes) (Call name arguments) pair l r b same clear env ins has =
        let args : arguments1 ≡ arguments ++ pair_arguments (levelled name) pair = cc in
        let names : name1 ≡ name = cc in
        let from = arguments_from text env' i arguments pair l r (levelled name) ws has (subst (λ z. HaveValues text env' i z ws) args have) in
        let here = instance_from instance name from.before l r names from.whole in
        let there = trails_from trails in
        record {
          after = env;
          derives = token c name arguments from.before env i e j t us ts ks starts (have_from text ins i arguments from.before clear from.have) here.instance there.trails trees exposes;
          inserted = ins;
          clean = subst (AllClean g) (sym trees) (here.clean, there.clean);
          handed = λ lev. record { first = λ u rs split. (let same_tree : t ≡ u = first_tree (sym trees ∙ split) in subst (AtLeast g l r) same_tree (here.least lev)) };
        }
    derives_from (token c name1 arguments1 ws env' i e j t us ts ks starts have instance trails trees exposes) x pair l r b same clear env ins has = absurd (same_form pair x same)
    derives_from (call c kind name1 arguments1 ws env' i j t starts have instance other) (Call name arguments) pair l r b same clear env ins has =
        let args : arguments1 ≡ arguments ++ pair_arguments (levelled name) pair = cc in
        let names : name1 ≡ name = cc in
        let from = arguments_from text env' i arguments pair l r (levelled name) ws has (subst (λ z. HaveValues text env' i z ws) args have) in
        let here = instance_from instance name from.before l r names from.whole in
        record {
          after = env;
          derives = call c kind name arguments from.before env i j t starts (have_from text ins i arguments from.before clear from.have) here.instance other;
          inserted = ins;
          clean = (here.clean, tt);
          handed = λ lev. record { first = λ u rs split. (let same_tree : t ≡ u = first_tree split in subst (AtLeast g l r) same_tree (here.least lev)) };
        }
    derives_from (call c kind name1 arguments1 ws env' i j t starts have instance other) x pair l r b same clear env ins has = absurd (same_form pair x same)
    derives_from (label c name1 y env' between left i e j ts starts inner bound) (Label name x) pair l r b same clear env ins has =
        let here = derives_from inner x pair l r b (cc) clear.1 env ins has in
        let names : name1 ≡ name = cc in
        record {
          after = here.after ++ (name, span_value i e) ∷ [];
          derives = label c name x env here.after _ i e j ts starts here.derives refl;
          inserted = subst (Inserted b (here.after ++ (name, span_value i e) ∷ [])) (sym (bound ∙ ap (λ z. between ++ (z, span_value i e) ∷ []) names)) (appended here.inserted ((name, span_value i e) ∷ []));
          clean = here.clean;
          handed = here.handed;
        }
    derives_from (label c name1 y env' between left i e j ts starts inner bound) x pair l r b same clear env ins has = absurd (same_form pair x same)
    derives_from (guard c condition1 env' i holds) (Guard condition) pair l r b same clear env ins has =
        let conds : condition1 ≡ condition = cc in
        record {
          after = env;
          derives = guard c condition env i (has_from text ins i condition _ clear (subst (λ z. HasValue text env' i z (value.Bool true)) conds holds));
          inserted = ins;
          clean = tt;
          handed = λ never. absurd never;
        }
    derives_from (guard c condition1 env' i holds) x pair l r b same clear env ins has = absurd (same_form pair x same)
    derives_from (let_be c name1 expression1 v env' left i value_is bound) (Let name expression) pair l r b same clear env ins has =
        let names : name1 ≡ name = cc in
        let exprs : expression1 ≡ expression = cc in
        record {
          after = env ++ (name, v) ∷ [];
          derives = let_be c name expression v env _ i (has_from text ins i expression v clear.1 (subst (λ z. HasValue text env' i z v) exprs value_is)) refl;
          inserted = subst (Inserted b (env ++ (name, v) ∷ [])) (sym (bound ∙ ap (λ z. env' ++ (z, v) ∷ []) names)) (appended ins ((name, v) ∷ []));
          clean = tt;
          handed = λ never. absurd never;
        }
    derives_from (let_be c name1 expression1 v env' left i value_is bound) x pair l r b same clear env ins has = absurd (same_form pair x same)
    derives_from (absent c y env' i) (Opt x) pair l r b same clear env ins has =
        record {
          after = env;
          derives = absent c x env i;
          inserted = ins;
          clean = ((clean_other g shapes text tag.Absent (λ d k z. cc) none, tt), tt);
          handed = λ never. absurd never;
        }
    derives_from (absent c y env' i) x pair l r b same clear env ins has = absurd (same_form pair x same)
    derives_from (present c y env' between i e j ts starts inner) (Opt x) pair l r b same clear env ins has =
        let here = derives_from inner x no_pair 0 0 b (cc) clear env ins (no_pair_has text env' i) in
        record {
          after = env;
          derives = present c x env here.after i e j ts starts here.derives;
          inserted = ins;
          clean = ((clean_other g shapes text tag.Present (λ d k z. cc) ts, here.clean), tt);
          handed = λ never. absurd never;
        }
    derives_from (present c y env' between i e j ts starts inner) x pair l r b same clear env ins has = absurd (same_form pair x same)
    derives_from (star c y env' i j t starts items list) (Star x) pair l r b same clear env ins has =
        let here = lists_from list (Star x) same clear env b ins in
        record {
          after = env;
          derives = star c x env i j t starts items here.lists;
          inserted = ins;
          clean = (here.clean, tt);
          handed = λ never. absurd never;
        }
    derives_from (star c y env' i j t starts items list) x pair l r b same clear env ins has = absurd (same_form pair x same)
    derives_from (plus c y env' i j t starts items list) (Plus x) pair l r b same clear env ins has =
        let here = lists_from list (Plus x) same clear env b ins in
        record {
          after = env;
          derives = plus c x env i j t starts items here.lists;
          inserted = ins;
          clean = (here.clean, tt);
          handed = λ never. absurd never;
        }
    derives_from (plus c y env' i j t starts items list) x pair l r b same clear env ins has = absurd (same_form pair x same)
    derives_from (sep_star c y separator1 env' i j t starts items list) (SepStar x separator) pair l r b same clear env ins has =
        let here = lists_from list (SepStar x separator) same clear env b ins in
        record {
          after = env;
          derives = sep_star c x separator env i j t starts items here.lists;
          inserted = ins;
          clean = (here.clean, tt);
          handed = λ never. absurd never;
        }
    derives_from (sep_star c y separator1 env' i j t starts items list) x pair l r b same clear env ins has = absurd (same_form pair x same)
    derives_from (sep_plus c y separator1 env' i j t starts items list) (SepPlus x separator) pair l r b same clear env ins has =
        let here = lists_from list (SepPlus x separator) same clear env b ins in
        record {
          after = env;
          derives = sep_plus c x separator env i j t starts items here.lists;
          inserted = ins;
          clean = (here.clean, tt);
          handed = λ never. absurd never;
        }
    derives_from (sep_plus c y separator1 env' i j t starts items list) x pair l r b same clear env ins has = absurd (same_form pair x same)
    derives_from (group c choices1 k ys env' between i j ts starts chosen inner) (Group choices) pair l r b same clear env ins has =
        let from = chosen_from levelled choices k ys (let all : choices1 ≡ in_alternatives levelled choices = cc in subst (λ z. IsChoice z k ys) all chosen) in
        let here = covers_from inner [] (listed from.xs) elsewhere b true (ap listed from.same ∙ sym (listed_lowered levelled true from.xs)) (λ is. absurd (cc)) (λ is. absurd (cc)) (λ is. absurd (cc)) (clear_listed from.xs (clear_choice choices from.chosen.0 from.xs clear from.chosen.2)) env ins in
        record {
          after = env;
          derives = group c choices k from.xs env here.after i j ts starts from.chosen here.covers;
          inserted = ins;
          clean = ((clean_other g shapes text (tag.GroupAlt k) (λ d m z. cc) ts, here.clean), tt);
          handed = λ never. absurd never;
        }
    derives_from (group c choices1 k ys env' between i j ts starts chosen inner) x pair l r b same clear env ins has = absurd (same_form pair x same)
    derives_from (offside c y env' left i e j ts starts inner right) (Offside x) pair l r b same clear env ins has =
        let here = derives_from inner x no_pair 0 0 b (cc) clear env ins (no_pair_has text env' i) in
        record {
          after = here.after;
          derives = offside c x env here.after i e j ts starts here.derives right;
          inserted = here.inserted;
          clean = here.clean;
          handed = λ never. absurd never;
        }
    derives_from (offside c y env' left i e j ts starts inner right) x pair l r b same clear env ins has = absurd (same_form pair x same)
    derives_from (ignore c y env' left i e j ts starts inner) (Ignore x) pair l r b same clear env ins has =
        let here = derives_from inner x no_pair 0 0 b (cc) clear env ins (no_pair_has text env' i) in
        record {
          after = here.after;
          derives = ignore c x env here.after i e j ts starts here.derives;
          inserted = here.inserted;
          clean = here.clean;
          handed = λ never. absurd never;
        }
    derives_from (ignore c y env' left i e j ts starts inner) x pair l r b same clear env ins has = absurd (same_form pair x same)
    derives_from (align c y env' left i e j ts starts items inner column) (Align x) pair l r b same clear env ins has =
        let here = items_from inner x (cc) clear env b ins in
        record {
          after = here.after;
          derives = align c x env here.after i e j ts starts items here.derives column;
          inserted = here.inserted;
          clean = here.clean;
          handed = λ never. absurd never;
        }
    derives_from (align c y env' left i e j ts starts items inner column) x pair l r b same clear env ins has = absurd (same_form pair x same)
    derives_from (filtered c y filters1 env' left i e j ts starts inner passes) (Filtered x filters) pair l r b same clear env ins has =
        let here = derives_from inner x no_pair 0 0 b (cc) clear env ins (no_pair_has text env' i) in
        let all : filters1 ≡ filters = cc in
        record {
          after = here.after;
          derives = filtered c x filters env here.after i e j ts starts here.derives (subst (PassesAll text i e) all passes);
          inserted = here.inserted;
          clean = here.clean;
          handed = λ never. absurd never;
        }
    derives_from (filtered c y filters1 env' left i e j ts starts inner passes) x pair l r b same clear env ins has = absurd (same_form pair x same)
    derives_from (sequence c ys env' left i j ts starts inner) (Seq xs) pair l r b same clear env ins has =
        let here = covers_from inner [] (listed xs) elsewhere b true (let all : ys ≡ in_symbols levelled xs = cc in ap listed all ∙ sym (listed_lowered levelled true xs)) (λ is. absurd (cc)) (λ is. absurd (cc)) (λ is. absurd (cc)) (clear_listed xs clear) env ins in
        record {
          after = here.after;
          derives = sequence c xs env here.after i j ts starts here.covers;
          inserted = here.inserted;
          clean = here.clean;
          handed = λ never. absurd never;
        }
    derives_from (sequence c ys env' left i j ts starts inner) x pair l r b same clear env ins has = absurd (same_form pair x same)
    derives_from (entry c bindings1 y vs env' within left i e j ts starts have renewed inner) (Entry bindings x) pair l r b same clear env ins has =
        let all : bindings1 ≡ bindings = cc in
        let renewed1 : within ≡ replaced env' bindings vs = renewed ∙ ap (λ z. replaced env' z vs) all in
        let here = derives_from inner x no_pair 0 0 b (cc) clear.1 (replaced env bindings vs) (subst (Inserted b (replaced env bindings vs)) (sym renewed1) (all_renewed bindings vs env env' ins clear.0)) (no_pair_has text within i) in
        record {
          after = env;
          derives = entry c bindings x vs env (replaced env bindings vs) here.after i e j ts starts (have_from text ins i (map (λ b. b.value) bindings) vs (bindings_of_source bindings clear.0) (subst (λ (z : List Binding). HaveValues text env' i (map (λ b. b.value) z) vs) all have)) refl here.derives;
          inserted = ins;
          clean = here.clean;
          handed = λ never. absurd never;
        }
    derives_from (entry c bindings1 y vs env' within left i e j ts starts have renewed inner) x pair l r b same clear env ins has = absurd (same_form pair x same)

    pub lists_from : {c : DeclKind} {y : Symbol} {env' : Environment} {i j : ℕ} {t : Tree} {starts items : List ℕ} →
        Lists g' shapes' text c y env' i j t starts items → (x : Symbol) → y ≡ with_pair levelled no_pair x → Clear x → (env : Environment) (b : Bounds) →
        Inserted b env env' → ListsFrom c x env i j t starts items
    lists_from (nil c y env' i) (Star x) same clear env b ins =
        record { lists = nil c x env i; clean = (clean_other g shapes text tag.Nil (λ d k z. cc) (none), tt) }
    lists_from (nil c y env' i) x same clear env b ins = absurd (same_form no_pair x same)
    lists_from (snoc c y env' left i h e j t ts ks ls starts ps items list item exposes begins) (Star x) same clear env b ins =
        let before = lists_from list (Star x) same clear env b ins in
        let here = derives_from item x no_pair 0 0 b (cc) clear env ins (no_pair_has text env' h) in
        record { lists = snoc c x env here.after i h e j t ts ks ls starts ps items before.lists here.derives exposes begins; clean = (clean_other g shapes text tag.Snoc (λ d k z. cc) (more t ts), (before.clean, here.clean)) }
    lists_from (snoc c y env' left i h e j t ts ks ls starts ps items list item exposes begins) x same clear env b ins = absurd (same_form no_pair x same)
    lists_from (one_item c y env' left i e j ts starts item) (Plus x) same clear env b ins =
        let here = derives_from item x no_pair 0 0 b (cc) clear env ins (no_pair_has text env' i) in
        record { lists = one_item c x env here.after i e j ts starts here.derives; clean = (clean_other g shapes text tag.One (λ d k z. cc) (ts), here.clean) }
    lists_from (one_item c y env' left i e j ts starts item) x same clear env b ins = absurd (same_form no_pair x same)
    lists_from (more_items c y env' left i h e j t ts ks ls starts ps items list item exposes begins) (Plus x) same clear env b ins =
        let before = lists_from list (Plus x) same clear env b ins in
        let here = derives_from item x no_pair 0 0 b (cc) clear env ins (no_pair_has text env' h) in
        record { lists = more_items c x env here.after i h e j t ts ks ls starts ps items before.lists here.derives exposes begins; clean = (clean_other g shapes text tag.More (λ d k z. cc) (more t ts), (before.clean, here.clean)) }
    lists_from (more_items c y env' left i h e j t ts ks ls starts ps items list item exposes begins) x same clear env b ins = absurd (same_form no_pair x same)
    lists_from (first_item c y separator1 env' left i e j ts starts item) (SepPlus x separator) same clear env b ins =
        let here = derives_from item x no_pair 0 0 b (cc) clear.0 env ins (no_pair_has text env' i) in
        record { lists = first_item c x separator env here.after i e j ts starts here.derives; clean = (clean_other g shapes text tag.One (λ d k z. cc) (ts), here.clean) }
    lists_from (first_item c y separator1 env' left i e j ts starts item) x same clear env b ins = absurd (same_form no_pair x same)
    lists_from (further_item c y separator1 env' between left i h f m e j t us ts vs ks ms ls starts ps items list part item trees exposes begins) (SepPlus x separator) same clear env b ins =
        let before = lists_from list (SepPlus x separator) same clear env b ins in
        let middle = derives_from part separator no_pair 0 0 b (cc) clear.1 env ins (no_pair_has text env' h) in
        let here = derives_from item x no_pair 0 0 b (cc) clear.0 env ins (no_pair_has text env' m) in
        record { lists = further_item c x separator env middle.after here.after i h f m e j t us ts vs ks ms ls starts ps items before.lists middle.derives here.derives trees exposes begins; clean = (clean_other g shapes text tag.More (λ d k z. cc) (more t vs), (before.clean, subst (AllClean g) (sym trees) (clean_join g us ts middle.clean here.clean))) }
    lists_from (further_item c y separator1 env' between left i h f m e j t us ts vs ks ms ls starts ps items list part item trees exposes begins) x same clear env b ins = absurd (same_form no_pair x same)
    lists_from (no_item c y separator1 env' i) (SepStar x separator) same clear env b ins =
        record { lists = no_item c x separator env i; clean = (clean_other g shapes text tag.Absent (λ d k z. cc) (none), tt) }
    lists_from (no_item c y separator1 env' i) x same clear env b ins = absurd (same_form no_pair x same)
    lists_from (some_items c y separator1 env' i j t starts items list) (SepStar x separator) same clear env b ins =
        let before = lists_from list (SepPlus x separator) (cc) clear env b ins in
        record { lists = some_items c x separator env i j t starts items before.lists; clean = (clean_other g shapes text tag.Present (λ d k z. cc) (one t), (before.clean, tt)) }
    lists_from (some_items c y separator1 env' i j t starts items list) x same clear env b ins = absurd (same_form no_pair x same)

    pub items_from : {c : DeclKind} {y : Symbol} {env' left : Environment} {i e j : ℕ} {ts : Trees} {starts items : List ℕ} →
        Items g' shapes' text c y env' i e j ts left starts items → (x : Symbol) → y ≡ with_pair levelled no_pair x → Clear x → (env : Environment) (b : Bounds) →
        Inserted b env env' → ItemsFrom b c x env i e j ts left starts items
    items_from (with_filters c y filters1 env' left i e j ts starts items inner passes) (Filtered x filters) same clear env b ins =
        let here = items_from inner x (cc) clear env b ins in
        let all : filters1 ≡ filters = cc in
        record {
          after = here.after;
          derives = with_filters c x filters env here.after i e j ts starts items here.derives (subst (PassesAll text i e) all passes);
          inserted = here.inserted;
          clean = here.clean;
        }
    items_from (with_filters c y filters1 env' left i e j ts starts items inner passes) x same clear env b ins = absurd (same_form no_pair x same)
    items_from (bare c y env' i j t starts items list) x same clear env b ins =
        let here = lists_from list x same clear env b ins in
        record { after = env; derives = bare c x env i j t starts items here.lists; inserted = ins; clean = (here.clean, tt) }

    pub instance_from : {name1 : List ℕ} {ws : List Value} {kind : DeclKind} {i e : ℕ} {t : Tree} {starts : List ℕ} →
        Instance g' shapes' text name1 ws kind i e t starts → (name : List ℕ) (vs : List Value) (l r : ℕ) → name1 ≡ name →
        ws ≡ vs ++ bound_values (bounds_of (levelled name) l r) → InstanceFrom l r name vs kind i e t starts
    instance_from (alternative name1 ws kind d k lower shape lower_a env' left i e ts t starts declares numbered bound same covers tree) name vs l r names values =
        let from = takes.back name d lower shape (subst (λ z. Declares g' shapes' z d lower shape) names declares) in
        let decl = from.decl in
        let alt = alternative_from levelled decl k lower_a (subst (λ (z : Decl). IsAlternative z k lower_a) from.same numbered) in
        let a = alt.a in
        let b = bounds_of (is_levelled decl.levels) l r in
        let known = takes.known name d decl shape from.declares in
        let given : ws ≡ vs ++ bound_values b = values ∙ ap (λ z. vs ++ bound_values (bounds_of z l r)) known in
        let params = bound_from decl.params vs (is_levelled decl.levels) l r env'
        (subst (λ (z : List Value). AreBound (decl.params ++ added_parameters (is_levelled decl.levels)) z env') given
        (subst (λ (z : Decl). AreBound z.params ws env') from.same bound)) in
        let ins : Inserted b params.env env' =
        subst (Inserted b params.env) (sym params.whole) (parameters_inserted params.bound (takes.parameters name d decl shape from.declares) b) in
        let kinds : kind ≡ decl.kind = same ∙ ap (λ (z : Decl). z.kind) from.same in
        let here = covers_from covers (tests_in (place_in decl a) a.level a.alternative.symbols) a.alternative.symbols (place_in decl a) b true
        (ap (λ (z : Levelled). z.alternative.symbols) alt.same ∙
        tests_are (has_left (place_in decl a) true a.alternative.symbols) (has_right (place_in decl a) true a.alternative.symbols) a.level
        (lowered levelled (place_in decl a) true a.alternative.symbols))
        (λ is. (l, r, ap (λ z. bounds_of z l r) is)) (own_kind from.declares kinds a)
        (λ is. ap levelled from.declares.named ∙ known ∙ is)
        (takes.clear name d decl shape k a from.declares alt.numbered) params.env ins in
        subst (λ z. InstanceFrom l r name vs kind i e z starts) (sym tree) (concluded l r from.declares alt.numbered params.bound kinds ins here)

    pub trails_from : {c : DeclKind} {e j : ℕ} {ts : Trees} → Trails g' shapes' text c e j ts → TrailsFrom c e j ts
    trails_from (layout name kind e j t starts declared instance) =
        let here : layout_among g.decls ≡ Some name = sym takes.layout ∙ declared in
        let plain = takes.layout_plain name here in
        let from = instance_from instance name [] 0 0 refl (ap (λ z. bound_values (bounds_of z 0 0)) (sym plain)) in
        record { trails = layout name kind e j t starts here from.instance; clean = (from.clean, tt) }
    trails_from (no_layout e undeclared) = record { trails = no_layout e (sym takes.layout ∙ undeclared); clean = tt }
    trails_from (outside c e other) = record { trails = outside c e other; clean = tt }
