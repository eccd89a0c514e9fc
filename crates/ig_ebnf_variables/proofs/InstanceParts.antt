-- What the instance of an added declaration is made of.
use Rattle.std.proofs.Common.{◌≡◌, ℕ, suc, ◌+◌, Bool, true, false, List, [], ◌∷◌, ◌++◌, map, refl, sym, ◌∙◌, ap}
use Rattle.std.proofs.Common.{subst, Some}
use Rattle.std.proofs.lemmas.Bool.{or_parts}
use Rattle.std.proofs.lemmas.Option.{same_Some}
use Rattle.std.specs.Prelude.{slice_get, ◌||◌}
use Rattle.ig_ebnf_variables.proofs.Definitions.{has, Agree, BindingsFit, Takes}
use Rattle.ig_ebnf_variables.proofs.Environments.{Holds, zipped, held, held_by, bound_from, params_wanted, flipped, has_append}
use Rattle.ig_ebnf_variables.proofs.AddedInstances.{alternative_of}
use Rattle.ig_ebnf_variables.specs.Lists.{made, params_for, arguments, Element, elements, all_elements, count}
use Rattle.ig_expr.specs.Expression.{Expression}
use Rattle.ig_expr.specs.declared.value.Value.{Value}
use Rattle.ig_grammar.specs.Binding.{Binding}
use Rattle.ig_grammar.specs.Numbering.{Declares, IsAlternative, tag_of, Levelled}
use Rattle.ig_grammar.specs.Symbol.{Symbol, Literal, OneOf, Call, Label, Guard, Let, Opt, Star, Plus, SepStar}
use Rattle.ig_grammar.specs.Symbol.{SepPlus, Group, Offside, Ignore, Align}
use Rattle.ig_grammar.specs.Symbol.{Filtered, Seq, Entry, Symbols, no_symbols, next_symbol}
use Rattle.ig_grammar.specs.Visible.{Visible, binds, all_bind}
use Rattle.ig_grammar.specs.declared.declaration.Decl.{Decl}
use Rattle.ig_grammar.specs.declared.declaration.DeclKind.{DeclKind}
use Rattle.ig_grammar.specs.declared.declaration.DeclKind.TheVariants.{Plain}
use Rattle.ig_grammar.specs.declared.grammar.Grammar.{Grammar}
use Rattle.ig_grammar.specs.declared.place.Shape.{Shape}
use Rattle.ig_meaning.specs.Derivation.{Covers, empty, symbol}
use Rattle.ig_meaning.specs.Environment.{Environment, HaveValues, AreBound}
use Rattle.ig_pass.specs.Needs.{bindings_use, any_uses, is_bound, uses}
use Rattle.ig_text.specs.Input.{Input}
use Rattle.ig_text.specs.Tree.{Tree, Trees, Node, none}
use Rattle.ig_text.specs.Words.{is_word}
use Rattle.std.specs.Cmp.Lexicographic.{bytes_decides}

pub record Nothing (i j : ℕ) (vs : Trees) : Type 0 where
  pub place : i ≡ j
  pub trees : vs ≡ none

pub nothing_of : {g : Grammar} {shapes : List Shape} {text : Input} {c : DeclKind} {zs : List Symbol}
    {env after : Environment} {i j : ℕ} {vs : Trees} {starts : List ℕ} →
    Covers g shapes text c zs env i j vs after starts → zs ≡ [] → Nothing i j vs
nothing_of (empty c env i) e = record { place = refl; trees = refl }
nothing_of (symbol c x others env between after i e h j ts us vs ks ls starts head rest trees exposes) same =
    absurd (cc)

-- one of two alternatives
pub two : {R : Type 0} {X : Type 0} (first second : X) (n m : ℕ) (z : X) → n ≡ suc m →
    slice_get (first ∷ second ∷ []) m ≡ Some z →
    (n ≡ 1 → z ≡ first → R) → (n ≡ 2 → z ≡ second → R) → R
two first second n ℕ.zero z e at here there = here e (sym (same_Some first z at))
two first second n (suc ℕ.zero) z e at here there = there e (sym (same_Some second z at))
two first second n (suc (suc m)) z e at here there = absurd (cc)

pub record Opened (ps : Visible) (sh : Shape) (alts : List (List Symbol)) (ws : List Value) (kind : DeclKind)
    (d n : ℕ) (zs : List Symbol) (env : Environment) (i e : ℕ) (ts : Trees) (t : Tree) : Type 0 where
  pub m : ℕ
  pub number : n ≡ suc m
  pub at : slice_get alts m ≡ Some zs
  pub environment : env ≡ zipped ps ws
  pub tree : t ≡ Node (tag_of sh d n) i e ts
  pub plain : kind ≡ Plain

pub opened : {g g' : Grammar} {shapes shapes' : List Shape} {May : List ℕ → Type 0} → Takes g g' shapes shapes' May →
    (title other : List ℕ) (ps : Visible) (sh : Shape) (alts : List (List Symbol)) →
    (declared : (d : ℕ) × Declares g' shapes' title d (made title ps sh alts).decl sh) →
    {values : List Value} {kind : DeclKind} {d n : ℕ} {decl : Decl} {form : Shape} {a : Levelled} {env : Environment}
    {i e : ℕ} {ts : Trees} {t : Tree} →
    other ≡ title → Declares g' shapes' other d decl form → IsAlternative decl n a → AreBound decl.params values env →
    kind ≡ decl.kind →
    t ≡ Node (tag_of form d n) i e ts → Opened ps sh alts values kind d n a.alternative.symbols env i e ts t
opened {g' = g'} {shapes' = shapes'} takes title other ps sh alts declared {values = values} {d = d} {n = n}
    {decl = decl} {form = form} {a = a} {env = env} {i = i} {e = e} {ts = ts} names declares numbered bound same
    tree =
    let once =
    takes.once title d declared.0 decl (made title ps sh alts).decl form sh
    (subst (λ z. Declares g' shapes' z d decl form) names declares) declared.1 in
    let number = subst (λ (z : Decl). IsAlternative z n a) once.0 numbered in
    record {
      m = number.0;
      number = number.1;
      at = alternative_of alts number.0 a number.2;
      environment = bound_from ps values env (subst (λ (z : Decl). AreBound z.params values env) once.0 bound);
      tree = tree ∙ ap (λ z. Node (tag_of z d n) i e ts) once.1;
      plain = same ∙ ap (λ (z : Decl). z.kind) once.0;
    }

-- the values of the variables that an added declaration gets
pub form_holds : (text : Input) (v : Visible) (wanted : List ℕ → Bool) (args : List Expression)
    (env env' : Environment) (i : ℕ) (ws : List Value) →
    HaveValues text env' i args ws → args ≡ arguments [] (params_for v wanted) → Agree wanted env env' →
    Holds (params_for v wanted) env ws
form_holds text v wanted args env env' i ws have same s =
    let ps = params_for v wanted in
    held ps env' env ws (held_by text ps env' i ws (subst (λ z. HaveValues text env' i z ws) same have))
    (flipped (params_wanted v wanted env env' s))

pub bound_wanted : (v : Visible) (wanted : List ℕ → Bool) (bs : List Binding) (n : List ℕ) → BindingsFit v wanted bs →
    is_bound n bs ≡ true → wanted n ≡ true
bound_wanted v wanted [] n fit e = absurd (cc)
bound_wanted v wanted (b ∷ bs) n fit e = go (is_word b.name n) refl (bound_wanted v wanted bs n fit.3)
  where
    go : (t : Bool) → is_word b.name n ≡ t → (is_bound n bs ≡ true → wanted n ≡ true) → wanted n ≡ true
    go true f below = ap wanted (sym ((bytes_decides b.name n).0 f)) ∙ fit.1
    go false f below = below (sym (ap (λ z. z || is_bound n bs) f) ∙ e)

pub uses_mapped : (bs : List Binding) (n : List ℕ) → any_uses n (map (λ b. b.value) bs) ≡ bindings_use n bs
uses_mapped [] n = refl
uses_mapped (b ∷ bs) n = ap (λ z. uses n b.value || z) (uses_mapped bs n)

-- no element binds the name
abbrev pub NoneBinds : List ℕ → List Element → Type 0
NoneBinds n [] = Unit {0}
NoneBinds n (e ∷ es) = (has (binds e.v e.x) n ≡ false) × NoneBinds n es

none_append : (n : List ℕ) (es fs : List Element) → NoneBinds n es → NoneBinds n fs → NoneBinds n (es ++ fs)
none_append n [] fs h k = k
none_append n (e ∷ es) fs h k = (h.0, none_append n es fs h.1 k)

mutual
  pub none_binds : (n : List ℕ) (x : Symbol) (v : Visible) (k : ℕ) → has (binds v x) n ≡ false →
      NoneBinds n (elements v k x)
  none_binds n (Seq xs) v k h = all_none n xs v k h
  none_binds n (Literal w) v k h = (h, tt)
  none_binds n (OneOf w) v k h = (h, tt)
  none_binds n (Call m es) v k h = (h, tt)
  none_binds n (Label m x) v k h = (h, tt)
  none_binds n (Guard e) v k h = (h, tt)
  none_binds n (Let m e) v k h = (h, tt)
  none_binds n (Opt x) v k h = (h, tt)
  none_binds n (Star x) v k h = (h, tt)
  none_binds n (Plus x) v k h = (h, tt)
  none_binds n (SepStar x s) v k h = (h, tt)
  none_binds n (SepPlus x s) v k h = (h, tt)
  none_binds n (Group ys) v k h = (h, tt)
  none_binds n (Offside x) v k h = (h, tt)
  none_binds n (Ignore x) v k h = (h, tt)
  none_binds n (Align x) v k h = (h, tt)
  none_binds n (Filtered x fs) v k h = (h, tt)
  none_binds n (Entry bs x) v k h = (h, tt)

  all_none : (n : List ℕ) (xs : Symbols) (v : Visible) (k : ℕ) → has (all_bind v xs) n ≡ false →
      NoneBinds n (all_elements v k xs)
  all_none n no_symbols v k h = tt
  all_none n (next_symbol x xs) v k h =
      let parts =
      or_parts (has (binds v x) n) (has (all_bind (v ++ binds v x) xs) n)
      (sym (has_append (binds v x) (all_bind (v ++ binds v x) xs) n) ∙ h) in
      none_append n (elements v k x) (all_elements (v ++ binds v x) (k + count x) xs) (none_binds n x v k parts.0)
      (all_none n xs (v ++ binds v x) (k + count x) parts.1)
