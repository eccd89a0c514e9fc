-- The added tests hold exactly where the pair allows a token and where an item stands in the column of its list; and how
-- the parameters of a declaration are bound with the pair behind them.
use Rattle.std.proofs.Common.{◌≡◌, ◌≢◌, ◌≤◌, ◌∙◌, ℕ, suc, ◌+◌, Bool, true, false, List, [], ◌∷◌, ◌++◌, length, Option, Some, None, refl, sym, ap, ap₂, subst, arith, length-append}
use Rattle.std.proofs.lemmas.List.{append-nil}
use Rattle.std.specs.Prelude.{nat_eq}
use Rattle.std.proofs.lemmas.Bool.Decides.{eqb_tells}
use Rattle.ig_text.specs.Input.{Input}
use Rattle.ig_text.specs.Lines.{column_of}
use Rattle.ig_text.proofs.Characters.{differs}
use Rattle.ig_expr.specs.Expression.{Expression}
use Rattle.ig_expr.specs.Expression as expression
use Rattle.ig_expr.specs.Evaluation.{value_of, with_two}
use Rattle.ig_expr.specs.Blocks.{inside}
use Rattle.ig_expr.specs.Operations.{operation, integer, truth}
use Rattle.ig_expr.specs.declared.operator.Op.TheVariants.{Equal}
use Rattle.ig_expr.specs.declared.value.Value.{Value}
use Rattle.ig_expr.specs.declared.value.Value.TheVariants as value
use Rattle.ig_grammar.specs.Symbol.{Symbol, Guard}
use Rattle.ig_meaning.specs.Environment.{Environment, names, values, HasValue, AreBound, no_parameters, next_parameter}
use Rattle.ig_meaning.specs.Derivation.{exposed}
use Rattle.ig_grammar.specs.declared.declaration.DeclKind.{DeclKind}
use Rattle.ig_grammar.specs.declared.declaration.DeclKind.TheVariants.{Syntax, Lexical, Layout, Plain}
use Rattle.ig_grammar.specs.declared.declaration.Param.{Param}
use Rattle.ig_blocks_parts.specs.Allowed.{IsBefore, Allows}
use Rattle.ig_blocks_parts.specs.Setting.{Setting, Pair, lacking, carried, opened, cleared, m_of, f_of, guards, column_guards, column_here, extra_by, pair_by}
use Rattle.ig_blocks_parts.proofs.Reading.{AreApart, IsWritten, IsProper, get}
use Rattle.ig_blocks_parts.proofs.Takes.{AreWritten}
use Rattle.ig_blocks_parts.specs.Blocks.{int_param}
use Rattle.ig_blocks_parts.proofs.Columns.{all_allowed, inside_allows, allows_inside, column_within, int_eq_pos}
use Rattle.ig_blocks_parts.proofs.Values.{get_cons}
use Rattle.ig_blocks_parts.proofs.Looking.{find_pushed_new, find_pushed_other, if_false}
use Rattle.ig_blocks_parts.proofs.Starts.{Each, each_none, each_one, each_join}
use Rattle.ig_blocks_parts.proofs.Situations.{int, start_int, Holds, Situated, HasColumn, lacking_values, cleared_values}

-- in a declaration of kind c the exposed starts are allowed, and there are none where the declaration is no syntax one
pub record Fits (marked : Bool) (text : Input) (c : DeclKind) (m : ℕ) (f : Option ℕ) (starts : List ℕ) : Type 0 where
  pub allowed : Each (Allows text m f) starts
  pub silent : marked ≡ true → c ≢ Syntax → Each (λ q. ⊥) starts

pub fits_none : (marked : Bool) (text : Input) (c : DeclKind) (m : ℕ) (f : Option ℕ) → Fits marked text c m f []
fits_none marked text c m f = record { allowed = each_none (Allows text m f); silent = λ k h. each_none (λ q. ⊥) }

pub fits_join : (marked : Bool) (text : Input) (c : DeclKind) (m : ℕ) (f : Option ℕ) (xs ys zs : List ℕ) → zs ≡ xs ++ ys → Fits marked text c m f xs →
    Fits marked text c m f ys → Fits marked text c m f zs
fits_join marked text c m f xs ys zs e a b =
    record { allowed = each_join (Allows text m f) xs ys zs e a.allowed b.allowed; silent = λ k h. each_join (λ q. ⊥) xs ys zs e (a.silent k h) (b.silent k h) }

pub fits_exposed : (marked : Bool) (text : Input) (c : DeclKind) (m : ℕ) (f : Option ℕ) (i : ℕ) → Allows text m f i → Fits marked text c m f (exposed c i)
fits_exposed marked text Syntax m f i a = record { allowed = each_one (Allows text m f) i a; silent = λ k h. absurd (h refl) }
fits_exposed marked text Lexical m f i a = fits_none marked text Lexical m f
fits_exposed marked text Layout m f i a = fits_none marked text Layout m f
fits_exposed marked text Plain m f i a = fits_none marked text Plain m f

true_of : (b : Bool) → Some (value.Bool b) ≡ Some (value.Bool true) → b ≡ true
true_of b e = cc

module _ (s : Setting) (text : Input) where
  abbrev pub IsTrue : Environment → ℕ → Symbol → Type 0
  IsTrue env i (Guard e) = HasValue text env i e (value.Bool true)
  IsTrue env i x = ⊥

  abbrev pub AreTrue : Environment → ℕ → List Symbol → Type 0
  AreTrue env i [] = Unit {0}
  AreTrue env i (g ∷ gs) = IsTrue env i g × AreTrue env i gs

  pub true_left : (env : Environment) (i : ℕ) (gs hs : List Symbol) → AreTrue env i (gs ++ hs) → AreTrue env i gs
  true_left env i [] hs t = tt
  true_left env i (g ∷ gs) hs t = (t.0, true_left env i gs hs t.1)

  pub true_right : (env : Environment) (i : ℕ) (gs hs : List Symbol) → AreTrue env i (gs ++ hs) → AreTrue env i hs
  true_right env i [] hs t = t
  true_right env i (g ∷ gs) hs t = true_right env i gs hs t.1

  pub true_join : (env : Environment) (i : ℕ) (gs hs : List Symbol) → AreTrue env i gs → AreTrue env i hs → AreTrue env i (gs ++ hs)
  true_join env i [] hs t u = u
  true_join env i (g ∷ gs) hs t u = (t.0, true_join env i gs hs t.1 u)

  inside_is : (p : Pair) (m : ℕ) (f : Option ℕ) (other : Environment) (i : ℕ) → Holds s text p m f other i →
      value_of text (names other) (values other) i (expression.Inside (m_of s p) (f_of s p)) ≡ inside text i (int m) (start_int f)
  inside_is p m f other i h = ap₂ (with_two (inside text i)) h.column h.start

  -- the tests before a token hold where its start is allowed
  pub allowed_guards : (c : DeclKind) (p : Pair) (m : ℕ) (f : Option ℕ) (other : Environment) (i : ℕ) → IsProper c p →
      Holds s text p m f other i → IsBefore f i → i ≤ length text.characters → (c ≡ Syntax → Allows text m f i) → AreTrue other i (guards s p)
  allowed_guards c lacking m f other i proper h before within a = tt
  allowed_guards c carried m f other i proper h before within a =
      (inside_is carried m f other i h ∙ allows_inside text m f i before within (a proper), tt)
  allowed_guards c (opened d e) m f other i proper h before within a =
      (inside_is (opened d e) m f other i h ∙ allows_inside text m f i before within (a proper), tt)
  allowed_guards c cleared m f other i proper h before within a = tt

  pub guards_allow : (p : Pair) (m : ℕ) (f : Option ℕ) (other : Environment) (i : ℕ) →
      Holds s text p m f other i → IsBefore f i → i ≤ length text.characters → AreTrue other i (guards s p) → Allows text m f i
  guards_allow lacking m f other i h before within t =
      let v = lacking_values s text m f other i h in
      subst (λ z. Allows text z f i) (sym v.0) (subst (λ z. Allows text 0 z i) (sym v.1) (all_allowed text i))
  guards_allow carried m f other i h before within t = inside_allows text m f i before within (sym (inside_is carried m f other i h) ∙ t.0)
  guards_allow (opened d e) m f other i h before within t = inside_allows text m f i before within (sym (inside_is (opened d e) m f other i h) ∙ t.0)
  guards_allow cleared m f other i h before within t =
      let v = cleared_values s text m f other i h in
      subst (λ z. Allows text z f i) (sym v.0) (subst (λ z. Allows text 0 z i) (sym v.1) (all_allowed text i))

  column_test : (other : Environment) (h k : ℕ) → h ≤ length text.characters → get other s.c ≡ Some (int k) →
      value_of text (names other) (values other) h (expression.Binary Equal column_here (expression.Variable s.c)) ≡
      Some (value.Bool (nat_eq (column_of text h) k))
  column_test other h k within e =
      ap₂ (with_two (operation Equal)) (ap integer (column_within text h within)) e ∙
      ap truth (int_eq_pos (column_of text h) k)

  -- the test before an item holds where it stands in the column of its list
  pub column_true : (al : Bool) (other : Environment) (h k : ℕ) → h ≤ length text.characters → HasColumn s text al other k →
      (al ≡ true → column_of text h ≡ k) → AreTrue other h (column_guards s al)
  column_true false other h k within e c = tt
  column_true true other h k within e c =
      let same : nat_eq (column_of text h) k ≡ true = grind (arith, eqb_tells (column_of text h) k, c refl) in
      (column_test other h k within e ∙ ap truth same, tt)

  pub true_column : (al : Bool) (other : Environment) (h k : ℕ) → h ≤ length text.characters → HasColumn s text al other k →
      AreTrue other h (column_guards s al) → al ≡ true → column_of text h ≡ k
  true_column false other h k within e t a = absurd (cc)
  true_column true other h k within e t a =
      let same : nat_eq (column_of text h) k ≡ true = true_of _ (sym (column_test other h k within e) ∙ t.0) in
      grind (arith, eqb_tells (column_of text h) k, same)

  -- parameters, with those of the pair behind them
  abbrev pub pair_bound : Bool → ℕ → Option ℕ → Environment
  pair_bound b m f = extra_by b (s.m, int m) (s.f, start_int f)

  abbrev pub pair_params : Bool → List Param
  pair_params b = extra_by b (int_param s.m) (int_param s.f)

  abbrev pub pair_args : Bool → ℕ → Option ℕ → List Value
  pair_args b m f = extra_by b (int m) (start_int f)

  pair_alone : (b : Bool) (m : ℕ) (f : Option ℕ) → AreBound (pair_params b) (pair_args b m f) (pair_bound b m f)
  pair_alone false m f = no_parameters
  pair_alone true m f =
      next_parameter (int_param s.m) (int_param s.f ∷ []) (int m) (start_int f ∷ []) ((s.m, int m) ∷ (s.f, start_int f) ∷ []) ((s.f, start_int f) ∷ [])
      (next_parameter (int_param s.f) [] (start_int f) [] ((s.f, start_int f) ∷ []) [] no_parameters refl) refl

  pub bound_forth : (b : Bool) (m : ℕ) (f : Option ℕ) {ps : List Param} {vs : List Value} {env : Environment} → AreBound ps vs env →
      AreBound (ps ++ pair_params b) (vs ++ pair_args b m f) (env ++ pair_bound b m f)
  bound_forth b m f no_parameters = pair_alone b m f
  bound_forth b m f (next_parameter p ps v vs env others rest is) =
      next_parameter p (ps ++ pair_params b) v (vs ++ pair_args b m f) (env ++ pair_bound b m f) (others ++ pair_bound b m f)
      (bound_forth b m f rest) (ap (λ z. z ++ pair_bound b m f) is)

  bound_length : {ps : List Param} {vs : List Value} {env : Environment} → AreBound ps vs env → length ps ≡ length vs
  bound_length no_parameters = refl
  bound_length (next_parameter p ps v vs env others rest is) = let n : length ps ≡ length vs = bound_length rest in ap suc n

  pub record IsBoundBefore (b : Bool) (m : ℕ) (f : Option ℕ) (ps : List Param) (vs : List Value) (other : Environment) : Type 0 where
    pub env : Environment
    pub bound : AreBound ps vs env
    pub joined : other ≡ env ++ pair_bound b m f

  bound_alone : (b : Bool) (m : ℕ) (f : Option ℕ) (other : Environment) → AreBound (pair_params b) (pair_args b m f) other → other ≡ pair_bound b m f
  bound_alone false m f other no_parameters = refl
  bound_alone true m f other (next_parameter p ps v vs env others (next_parameter p2 ps2 v2 vs2 env2 others2 no_parameters is2) is) =
      is ∙ ap (λ z. (s.m, int m) ∷ z) is2

  args_length : (b : Bool) (m : ℕ) (f : Option ℕ) → length (pair_params b) ≡ length (pair_args b m f)
  args_length false m f = refl
  args_length true m f = refl

  bound_by : (b : Bool) (m : ℕ) (f : Option ℕ) (ps : List Param) (vs : List Value) (other : Environment) → length ps ≡ length vs →
      AreBound (ps ++ pair_params b) (vs ++ pair_args b m f) other → IsBoundBefore b m f ps vs other
  bound_by b m f [] [] other n h = record { env = []; bound = no_parameters; joined = bound_alone b m f other h }
  bound_by b m f [] (v ∷ vs) other n h = absurd (omega (arith, n))
  bound_by b m f (p ∷ ps) [] other n h = absurd (omega (arith, n))
  bound_by b m f (p ∷ ps) (v ∷ vs) other n (next_parameter p2 ps2 v2 vs2 env others rest is) =
      let r = bound_by b m f ps vs others (omega (arith, n)) rest in
      record {
        env = (p.name, v) ∷ r.env;
        bound = next_parameter p ps v vs ((p.name, v) ∷ r.env) r.env r.bound refl;
        joined = is ∙ ap (λ z. (p.name, v) ∷ z) r.joined;
      }

  pub bound_back : (b : Bool) (m : ℕ) (f : Option ℕ) (ps : List Param) (vs : List Value) (other : Environment) →
      AreBound (ps ++ pair_params b) (vs ++ pair_args b m f) other → IsBoundBefore b m f ps vs other
  bound_back b m f ps vs other h =
      let n : length (ps ++ pair_params b) ≡ length (vs ++ pair_args b m f) = bound_length h in
      let l : length (ps ++ pair_params b) ≡ length ps + length (pair_params b) = length-append ps (pair_params b) in
      let r : length (vs ++ pair_args b m f) ≡ length vs + length (pair_args b m f) = length-append vs (pair_args b m f) in
      let a : length (pair_params b) ≡ length (pair_args b m f) = args_length b m f in
      bound_by b m f ps vs other (omega (arith, n, l, r, a)) h

  unbound : (y : List ℕ) {ps : List Param} {vs : List Value} {env : Environment} → AreBound ps vs env → AreWritten s ps →
      ((x : List ℕ) → IsWritten s x → x ≢ y) → get env y ≡ None
  unbound y no_parameters w ne = refl
  unbound y (next_parameter p ps v vs env others rest is) w ne =
      subst (λ z. get z y ≡ None) (sym is)
      (get_cons p.name v others y ∙ if_false _ (Some v) (get others y) (differs p.name y (ne p.name w.0)) ∙ unbound y rest w.1 ne)

  module _ (apart : AreApart s) where
    two_pushed : (env : Environment) (m : ℕ) (f : Option ℕ) → env ++ pair_bound true m f ≡ (env ++ (s.m, int m) ∷ []) ++ (s.f, start_int f) ∷ []
    two_pushed [] m f = refl
    two_pushed (pair ∷ env) m f = ap (λ z. pair ∷ z) (two_pushed env m f)

    -- at the start of an alternative
    pub situated_first : (b : Bool) (m : ℕ) (f : Option ℕ) (i : ℕ) {ps : List Param} {vs : List Value} {env : Environment} → AreBound ps vs env →
        AreWritten s ps → (b ≡ false → (m ≡ 0) × (f ≡ None)) → IsBefore f i → i ≤ length text.characters →
        Situated s text env (env ++ pair_bound b m f) (pair_by b) m f i
    situated_first false m f i {ps} {vs} {env} bound w unpaired before within =
        let v = unpaired refl in
        record {
          agree = record { same = λ x h. ap (λ z. get z x) (sym (append-nil env)) };
          holds = record { column = ap (λ z. Some (int z)) (sym v.0); start = ap (λ z. Some (start_int z)) (sym v.1) };
          before = before;
          within = within;
        }
    situated_first true m f i {ps} {vs} {env} bound w unpaired before within =
        let one = env ++ (s.m, int m) ∷ [] in
        let two = one ++ (s.f, start_int f) ∷ [] in
        let m_there : get two s.m ≡ Some (int m) =
        find_pushed_other one s.f (start_int f) s.m (λ e. apart.m_f (sym e)) ∙ find_pushed_new env s.m (int m) (unbound s.m bound w (λ x h. h.not_m)) in
        let f_there : get two s.f ≡ Some (start_int f) =
        find_pushed_new one s.f (start_int f) (find_pushed_other env s.m (int m) s.f apart.m_f ∙ unbound s.f bound w (λ x h. h.not_f)) in
        let there : Situated s text env two carried m f i = record {
          agree = record { same = λ x h. sym (find_pushed_other one s.f (start_int f) x (λ e. h.not_f (sym e)) ∙ find_pushed_other env s.m (int m) x (λ e. h.not_m (sym e))) };
          holds = record { column = m_there; start = f_there };
          before = before;
          within = within;
        } in
        subst (λ z. Situated s text env z carried m f i) (sym (two_pushed env m f)) there
