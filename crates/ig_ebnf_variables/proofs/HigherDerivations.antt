-- What is found in the source, going back from what is derived without lists.
use Rattle.std.proofs.Common.{Bool, true}
use Rattle.ig_grammar.specs.declared.declaration.DeclKind.TheVariants.{Syntax}
use Rattle.ig_ebnf_variables.proofs.Definitions.{Agree}
use Rattle.ig_pass.specs.Needs.{needs}
use Rattle.ig_ebnf_variables.proofs.Elements.{elements_need}
use Rattle.std.proofs.Common.{◌≡◌, ℕ, suc, List, [], ◌∷◌, sym, ◌∙◌, subst}
use Rattle.ig_ebnf_variables.proofs.Definitions.{Keeps, Quiet, AllDeclared, IsForm, Takes}
use Rattle.ig_ebnf_variables.proofs.AddedInstances.{bare as bare_end, no_trail}
use Rattle.ig_ebnf_variables.proofs.InstanceParts.{opened}
use Rattle.ig_ebnf_variables.specs.Lists.{made, params_for, new_symbol}
use Rattle.ig_ebnf_variables.specs.Lists.{new, new_alternatives, sep_plus_alternatives, added}
use Rattle.ig_expr.specs.declared.value.Value.{Value}
use Rattle.ig_grammar.specs.Numbering.{Declares}
use Rattle.ig_grammar.specs.Symbol.{Symbol, Literal, OneOf, Call, Label, Guard, Let, Opt, Star, Plus, SepStar}
use Rattle.ig_grammar.specs.Symbol.{SepPlus, Group, Offside, Ignore, Align}
use Rattle.ig_grammar.specs.Symbol.{Filtered, Seq, Entry}
use Rattle.ig_grammar.specs.Visible.{Visible}
use Rattle.ig_grammar.specs.declared.declaration.DeclKind.{DeclKind}
use Rattle.ig_grammar.specs.declared.declaration.DeclKind.TheVariants.{Lexical, Plain}
use Rattle.ig_grammar.specs.declared.grammar.Grammar.{Grammar}
use Rattle.ig_grammar.specs.declared.place.Shape.{Shape}
use Rattle.ig_meaning.specs.Derivation.{Covers, Derives, Lists, Instance, Trails}
use Rattle.ig_meaning.specs.Derivation.{star, plus, sep_star, sep_plus}
use Rattle.ig_meaning.specs.Derivation.{alternative}
use Rattle.ig_meaning.specs.Environment.{Environment}
use Rattle.ig_pass.specs.Added.{added_name}
use Rattle.ig_pass.specs.Needs.{needs}
use Rattle.ig_text.specs.Input.{Input}
use Rattle.ig_text.specs.Tree.{Tree, Trees, more, one, join}
use Rattle.ig_grammar.specs.declared.place.Shape.TheVariants as shape

abbrev pub IsList : Symbol → Type 0
IsList (Star x) = Unit {0}
IsList (Plus x) = Unit {0}
IsList (SepStar x separator) = Unit {0}
IsList (SepPlus x separator) = Unit {0}
IsList x = ⊥

-- agreement, at fewer names and at none
pub part : {wanted some : List ℕ → Bool} {env env' : Environment} → Agree wanted env env' →
    ((n : List ℕ) → some n ≡ true → wanted n ≡ true) → Agree some env env'
part s sub = record { at = λ n u. s.at n (sub n u) }

pub plain_quiet : {kind : DeclKind} → kind ≡ Plain → kind ≡ Syntax → ⊥
plain_quiet p z = let bad : Plain ≡ Syntax = sym p ∙ z in absurd (cc)

pub nothing_needed : (env env' : Environment) → Agree (λ n. elements_need n []) env env'
nothing_needed env env' = record { at = λ n u. absurd (cc) }

module _ (g : Grammar) (shapes : List Shape) (text : Input) where
  -- two lists of symbols, each from an environment of its own
  pub record CoversFrom (c : DeclKind) (xs ys : List Symbol) (env low : Environment) (i j : ℕ) (vs : Trees) : Type 0
    where
      pub h : ℕ
      pub ts : Trees
      pub us : Trees
      pub after : Environment
      pub out : Environment
      pub ks : List ℕ
      pub ls : List ℕ
      pub first : Covers g shapes text c xs env i h ts after ks
      pub second : Covers g shapes text c ys low h j us out ls
      pub trees : vs ≡ join ts us

  pub record DerivesFrom (c : DeclKind) (x : Symbol) (env env' : Environment) (i e j : ℕ) (ts : Trees)
      (left : Environment) : Type 0 where
    pub after : Environment
    pub starts : List ℕ
    pub derives : Derives g shapes text c x env i e j ts after starts
    pub keeps : Keeps env env' after left

  pub record ListFrom (c : DeclKind) (x : Symbol) (env : Environment) (i j : ℕ) (t : Tree) : Type 0 where
    pub starts : List ℕ
    pub items : List ℕ
    pub lists : Lists g shapes text c x env i j t starts items

  pub record FormFrom (c : DeclKind) (x : Symbol) (env : Environment) (i j : ℕ) (t : Tree) : Type 0 where
    pub starts : List ℕ
    pub derives : Derives g shapes text c x env i j j (one t) env starts
    pub list : IsList x → ListFrom c x env i j t

  pub record HeadFrom (c : DeclKind) (x : Symbol) (env env' : Environment) (i j : ℕ) (ts : Trees)
      (left : Environment) : Type 0 where
    pub t : Tree
    pub trees : ts ≡ one t
    pub same : env' ≡ left
    pub list : ListFrom c x env i j t

  pub record HeadRest (c : DeclKind) (x : Symbol) (xs ys : List Symbol) (env low : Environment) (i j : ℕ)
      (vs : Trees) : Type 0 where
    pub h : ℕ
    pub t : Tree
    pub us : Trees
    pub trees : vs ≡ more t us
    pub list : ListFrom c x env i h t
    pub rest : CoversFrom c xs ys env low h j us

  pub record InstanceFrom (name : List ℕ) (ws : List Value) (kind : DeclKind) (i e : ℕ) (t : Tree) : Type 0 where
    pub starts : List ℕ
    pub instance : Instance g shapes text name ws kind i e t starts

  pub of_list : {c : DeclKind} {x : Symbol} {env : Environment} {i j : ℕ} {t u : Tree} → t ≡ u →
      ListFrom c x env i j u → IsList x → FormFrom c x env i j t
  of_list {c = c} {x = Star x} {env = env} {i = i} {j = j} {t = t} same here is =
      let list = subst (ListFrom c (Star x) env i j) (sym same) here in
      record {
        starts = list.starts;
        derives = star c x env i j t list.starts list.items list.lists;
        list = λ _. list;
      }
  of_list {c = c} {x = Plus x} {env = env} {i = i} {j = j} {t = t} same here is =
      let list = subst (ListFrom c (Plus x) env i j) (sym same) here in
      record {
        starts = list.starts;
        derives = plus c x env i j t list.starts list.items list.lists;
        list = λ _. list;
      }
  of_list {c = c} {x = SepStar x s} {env = env} {i = i} {j = j} {t = t} same here is =
      let list = subst (ListFrom c (SepStar x s) env i j) (sym same) here in
      record {
        starts = list.starts;
        derives = sep_star c x s env i j t list.starts list.items list.lists;
        list = λ _. list;
      }
  of_list {c = c} {x = SepPlus x s} {env = env} {i = i} {j = j} {t = t} same here is =
      let list = subst (ListFrom c (SepPlus x s) env i j) (sym same) here in
      record {
        starts = list.starts;
        derives = sep_plus c x s env i j t list.starts list.items list.lists;
        list = λ _. list;
      }
  of_list {x = Literal _} same here is = absurd is
  of_list {x = OneOf _} same here is = absurd is
  of_list {x = Call _ _} same here is = absurd is
  of_list {x = Label _ _} same here is = absurd is
  of_list {x = Guard _} same here is = absurd is
  of_list {x = Let _ _} same here is = absurd is
  of_list {x = Opt _} same here is = absurd is
  of_list {x = Group _} same here is = absurd is
  of_list {x = Offside _} same here is = absurd is
  of_list {x = Ignore _} same here is = absurd is
  of_list {x = Align _} same here is = absurd is
  of_list {x = Filtered _ _} same here is = absurd is
  of_list {x = Seq _} same here is = absurd is
  of_list {x = Entry _ _} same here is = absurd is

module _ (g g' : Grammar) (shapes shapes' : List Shape) (May : List ℕ → Type 0) (text : Input)
    (takes : Takes g g' shapes shapes' May) where
  pub trails_from : {d : DeclKind} {e j : ℕ} {us : Trees} (c : DeclKind) → Quiet g c → Quiet g' d →
      Trails g' shapes' text d e j us → Trails g shapes text c e j us
  trails_from {e = e} {us = us} c q q' trails =
      let parts = no_trail g' shapes' text q' trails in
      subst (λ z. Trails g shapes text c e z us) parts.place
      (subst (λ z. Trails g shapes text c e e z) (sym parts.trees) (bare_end g shapes text c q e))

  -- the instance of an added declaration isn't one of a lexical declaration
  pub not_lexical : {name : List ℕ} {ws : List Value} {kind : DeclKind} {i e : ℕ} {t : Tree} {starts : List ℕ} →
      Instance g' shapes' text name ws kind i e t starts →
      (title : List ℕ) (ps : Visible) (sh : Shape) (alts : List (List Symbol)) →
      (declared : (d : ℕ) × Declares g' shapes' title d (made title ps sh alts).decl sh) →
      name ≡ title → kind ≡ Lexical → ⊥
  not_lexical
      (alternative name vs kind d n decl sh1 a env after i e ts t starts declares numbered bound same covers tree)
      title ps sh alts declared names is =
      let open_it = opened takes title name ps sh alts declared names declares numbered bound same tree in
      let bad : Lexical ≡ Plain = sym is ∙ open_it.plain in absurd (cc)

  pub form_not_lexical : (of : List ℕ) (v : Visible) (k : ℕ) (y : Symbol) → IsForm y →
      AllDeclared g' shapes' (added of v k y) →
      {name : List ℕ} {ws : List Value} {kind : DeclKind} {i e : ℕ} {t : Tree} {starts : List ℕ} →
      Instance g' shapes' text name ws kind i e t starts → name ≡ added_name of k → kind ≡ Lexical → ⊥
  form_not_lexical of v k (Opt x) f all instance names is =
      not_lexical instance (added_name of k) (params_for v (λ n. needs n (Opt x))) shape.Opt
      ([] ∷ new of v (suc k) x ∷ []) all.0 names is
  form_not_lexical of v k (Star x) f all instance names is =
      not_lexical instance (added_name of k) (params_for v (λ n. needs n (Star x))) shape.Star
      ([] ∷ (new_symbol of v k (Star x) ∷ new of v (suc k) x) ∷ []) all.0 names is
  form_not_lexical of v k (Plus x) f all instance names is =
      not_lexical instance (added_name of k) (params_for v (λ n. needs n (Plus x))) shape.Plus
      (new of v (suc k) x ∷ (new_symbol of v k (Plus x) ∷ new of v (suc k) x) ∷ []) all.0 names is
  form_not_lexical of v k (SepStar x separator) f all instance names is =
      not_lexical instance (added_name of k) (params_for v (λ n. needs n (SepStar x separator))) shape.SepStar
      ([] ∷ (new_symbol of v (suc k) (SepPlus x separator) ∷ []) ∷ []) all.0 names is
  form_not_lexical of v k (SepPlus x separator) f all instance names is =
      not_lexical instance (added_name of k) (params_for v (λ n. needs n (SepPlus x separator))) shape.SepPlus
      (sep_plus_alternatives of v k x separator) all.0 names is
  form_not_lexical of v k (Group choices) f all instance names is =
      not_lexical instance (added_name of k) (params_for v (λ n. needs n (Group choices))) shape.Group
      (new_alternatives of v (suc k) choices) all.0 names is
  form_not_lexical of v k (Literal _) f all instance names is = absurd f
  form_not_lexical of v k (OneOf _) f all instance names is = absurd f
  form_not_lexical of v k (Call _ _) f all instance names is = absurd f
  form_not_lexical of v k (Label _ _) f all instance names is = absurd f
  form_not_lexical of v k (Guard _) f all instance names is = absurd f
  form_not_lexical of v k (Let _ _) f all instance names is = absurd f
  form_not_lexical of v k (Offside _) f all instance names is = absurd f
  form_not_lexical of v k (Ignore _) f all instance names is = absurd f
  form_not_lexical of v k (Align _) f all instance names is = absurd f
  form_not_lexical of v k (Filtered _ _) f all instance names is = absurd f
  form_not_lexical of v k (Seq _) f all instance names is = absurd f
  form_not_lexical of v k (Entry _ _) f all instance names is = absurd f
