-- What is derived without lists is derived in the source.
use Rattle.std.proofs.Common.{◌≡◌, ℕ, suc, ◌+◌, Bool, true, List, [], ◌∷◌, ◌++◌, map, refl, sym, ◌∙◌, ap, subst}
use Rattle.std.proofs.lemmas.Bool.{or_left, or_right, and_parts, and_from}
use Rattle.std.specs.Prelude.{◌||◌, ◌&&◌, not}
use Rattle.ig_ebnf_variables.proofs.BoundNames.{derives_add}
use Rattle.ig_ebnf_variables.proofs.EntryValues.{binds_replaced, has_replaced, argument_value, arguments_from, argument_has}
use Rattle.ig_ebnf_variables.proofs.EntryValues.{bindings_valued}
use Rattle.ig_ebnf_variables.proofs.Definitions.{has, find, Binds, Agree, Keeps, Quiet, Proper, AllDeclared, Ready, IsSingle}
use Rattle.ig_ebnf_variables.proofs.Definitions.{IsForm, Takes}
use Rattle.ig_ebnf_variables.proofs.Environments.{has_to, have_to, keeps_none}
use Rattle.ig_ebnf_variables.proofs.Environments.{keeps_both, keeps_append, binds_more, Holds}
use Rattle.ig_ebnf_variables.proofs.Environments.{entered_agrees, binds_parameters, has_params, valued, flipped}
use Rattle.ig_ebnf_variables.proofs.AddedInstances.{chosen_from}
use Rattle.ig_ebnf_variables.proofs.InstanceParts.{nothing_of, two, opened, form_holds, bound_wanted, uses_mapped, NoneBinds}
use Rattle.ig_ebnf_variables.proofs.InstanceParts.{none_binds}
use Rattle.ig_ebnf_variables.proofs.Elements.{elements_need, elements_want, all_elements_want, sources, standing, reaching}
use Rattle.ig_ebnf_variables.specs.Lists.{count, params_for, arguments, argument, Element, elements, all_elements, entering}
use Rattle.ig_ebnf_variables.specs.Lists.{new_symbol}
use Rattle.ig_ebnf_variables.specs.Lists.{new_element, new, new_alternatives, sep_plus_alternatives, added}
use Rattle.ig_expr.specs.declared.value.Value.{Value}
use Rattle.ig_grammar.specs.Numbering.{Declares, IsAlternative, tag_of}
use Rattle.ig_grammar.specs.Symbol.{Symbol, Literal, OneOf, Call, Label, Guard, Let, Opt, Star, Plus, SepStar}
use Rattle.ig_grammar.specs.Symbol.{SepPlus, Group, Offside, Ignore, Align}
use Rattle.ig_grammar.specs.Symbol.{Filtered, Seq, Entry, listed, gathered}
use Rattle.ig_grammar.specs.Visible.{Visible, binds, all_bind, parameters}
use Rattle.ig_grammar.specs.declared.declaration.Decl.{Decl}
use Rattle.ig_grammar.specs.declared.declaration.DeclKind.{DeclKind}
use Rattle.ig_grammar.specs.declared.grammar.Grammar.{Grammar}
use Rattle.ig_grammar.specs.declared.place.Shape.{Shape}
use Rattle.ig_meaning.specs.Derivation.{Covers, Derives, Lists, Instance, span_value, empty, symbol, literal, one_of}
use Rattle.ig_meaning.specs.Derivation.{token}
use Rattle.ig_meaning.specs.Derivation.{call, label, guard, let_be, absent, present, star, plus, sep_star, sep_plus}
use Rattle.ig_meaning.specs.Derivation.{group, offside, ignore, align}
use Rattle.ig_meaning.specs.Derivation.{filtered, sequence, entry, nil, snoc, one_item, more_items, first_item}
use Rattle.ig_meaning.specs.Derivation.{further_item, no_item, some_items}
use Rattle.ig_meaning.specs.Derivation.{alternative}
use Rattle.ig_meaning.specs.Environment.{Environment, HasValue, HaveValues, AreBound, replaced}
use Rattle.ig_meaning.specs.Filtering.{PassesAll}
use Rattle.ig_pass.specs.Added.{added_name}
use Rattle.ig_pass.specs.Needs.{needs, alternatives_need, is_pair, bindings_use, is_bound}
use Rattle.ig_text.specs.Input.{Input}
use Rattle.ig_text.specs.Pattern.{IsOneOf}
use Rattle.ig_text.specs.Place.{Spells}
use Rattle.ig_text.specs.Tree.{Tree, Trees, Node, none, more, one, join}
use Rattle.ig_text.specs.declared.tag.Tag.TheVariants as tag
use Rattle.ig_text.proofs.Trees.{join_join}
use Rattle.ig_expr.specs.declared.value.Value.TheVariants as value
use Rattle.ig_grammar.specs.Visible as visible
use Rattle.ig_grammar.specs.declared.place.Shape.TheVariants as shape
use Rattle.ig_grammar.specs.Gathered.{listed_gathered}
use Rattle.ig_ebnf_variables.proofs.HigherDerivations.{part, plain_quiet, nothing_needed, IsList, of_list, trails_from, not_lexical, form_not_lexical}
use Rattle.ig_ebnf_variables.proofs.HigherDerivations as higher
use Rattle.ig_ebnf_variables.proofs.Elements.{declared_first, declared_second, ready, all_ready}

module _ (g g' : Grammar) (shapes shapes' : List Shape) (May : List ℕ → Type 0) (text : Input)
    (takes : Takes g g' shapes shapes' May) where
  abbrev CoversFrom : DeclKind → List Symbol → List Symbol → Environment → Environment → ℕ → ℕ → Trees → Type 0
  CoversFrom = higher.CoversFrom g shapes text

  abbrev DerivesFrom : DeclKind → Symbol → Environment → Environment → ℕ → ℕ → ℕ → Trees → Environment → Type 0
  DerivesFrom = higher.DerivesFrom g shapes text

  abbrev FormFrom : DeclKind → Symbol → Environment → ℕ → ℕ → Tree → Type 0
  FormFrom = higher.FormFrom g shapes text

  abbrev HeadFrom : DeclKind → Symbol → Environment → Environment → ℕ → ℕ → Trees → Environment → Type 0
  HeadFrom = higher.HeadFrom g shapes text

  abbrev HeadRest : DeclKind → Symbol → List Symbol → List Symbol → Environment → Environment → ℕ → ℕ → Trees → Type 0
  HeadRest = higher.HeadRest g shapes text

  abbrev InstanceFrom : List ℕ → List Value → DeclKind → ℕ → ℕ → Tree → Type 0
  InstanceFrom = higher.InstanceFrom g shapes text

  quiet' : {c : DeclKind} → Quiet g c → Quiet g' c
  quiet' q e = takes.layout ∙ q e

  mutual
    -- elements from `env`, and then others from `low`, which want nothing of what the first bind
    pub covers_from : {d : DeclKind} {zs : List Symbol} {env' left : Environment} {i j : ℕ} {vs : Trees}
        {starts : List ℕ} →
        Covers g' shapes' text d zs env' i j vs left starts → (of : List ℕ) (es fs : List Element) →
        zs ≡ map (new_element of) es ++ map (new_element of) fs →
        (v w : Visible) → Ready g' shapes' May of v es w → (v2 w2 : Visible) → Ready g' shapes' May of v2 fs w2 →
        (c : DeclKind) → Quiet g c → Quiet g' d →
        (env low : Environment) → Binds v env → Binds v2 low → Agree (λ n. elements_need n es) env env' →
        Agree (λ n. elements_need n fs) low env' →
        Agree (λ n. elements_need n fs) env low → ((n : List ℕ) → elements_need n fs ≡ true → NoneBinds n es) →
        CoversFrom c (sources es) (sources fs) env low i j vs
    covers_from (empty d env' i) of [] [] same v w r v2 w2 r2 c q q' env low b b2 s s2 s3 apart =
        record {
          h = i;
          ts = none;
          us = none;
          after = env;
          out = low;
          ks = [];
          ls = [];
          first = empty c env i;
          second = empty c low i;
          trees = refl;
        }
    covers_from (empty d env' i) of es fs same v w r v2 w2 r2 c q q' env low b b2 s s2 s3 apart = absurd (cc)
    covers_from (symbol d z others env' between left i e h j ts us vs ks ls starts head rest trees exposes) of [] []
        same v w r v2 w2 r2 c q q' env low b b2 s s2 s3 apart = absurd (cc)
    covers_from (symbol d z others env' between left i e h j ts us vs ks ls starts head rest trees exposes) of []
        (f ∷ fs) same v w r v2 w2 r2 c q q' env low b b2 s s2 s3 apart =
        let here =
        derives_from head of f.v f.k f.x (cc) r2.1 r2.2 r2.3 c q q' low (subst (λ z. Binds z low) (sym r2.0) b2)
        (part s2 (λ n u. or_left (needs n f.x) (elements_need n fs) u)) in
        let b3 =
        binds_more (subst (λ z. Binds z low) (sym r2.0) b2)
        (derives_add g shapes May text here.derives f.v r2.2) in
        let v3 = f.v ++ binds f.v f.x in
        let next =
        covers_from rest of [] fs (cc) v3 v3 refl v3 w2 r2.4 c q q' here.after here.after b3 b3
        (nothing_needed here.after between)
        (record { at = λ n u. here.keeps.at n (s2.at n (or_right (needs n f.x) (elements_need n fs) u)) })
        (record { at = λ n u. refl }) (λ n u. tt) in
        let first = nothing_of next.first refl in
        record {
          h = i;
          ts = none;
          us = vs;
          after = env;
          out = next.out;
          ks = [];
          ls = here.starts ++ next.ls;
          first = empty c env i;
          second =
              symbol c f.x (sources fs) low here.after next.out i e h j ts us vs here.starts next.ls _ here.derives
              (subst (λ z. Covers g shapes text c (sources fs) here.after z j us next.out next.ls) (sym first.place)
              (subst (λ z. Covers g shapes text c (sources fs) here.after next.h j z next.out next.ls)
              (sym (next.trees ∙ ap (λ z. join z next.us) first.trees)) next.second)) trees refl;
          trees = refl;
        }
    covers_from (symbol d z others env' between left i e h j ts us vs ks ls starts head rest trees exposes) of
        (x ∷ es) fs same v w r v2 w2 r2 c q q' env low b b2 s s2 s3 apart =
        let here =
        derives_from head of x.v x.k x.x (cc) r.1 r.2 r.3 c q q' env (subst (λ z. Binds z env) (sym r.0) b)
        (part s (λ n u. or_left (needs n x.x) (elements_need n es) u)) in
        let adds = derives_add g shapes May text here.derives x.v r.2 in
        let b3 = binds_more (subst (λ z. Binds z env) (sym r.0) b) adds in
        let next = covers_from rest of es fs (cc) (x.v ++ binds x.v x.x) w r.4 v2 w2 r2 c q q' here.after low b3 b2
        (record { at = λ n u. here.keeps.at n (s.at n (or_right (needs n x.x) (elements_need n es) u)) })
        (record {
          at = λ n u. sym (s3.at n u) ∙ sym (adds.others n (apart n u).0) ∙
              here.keeps.at n (s3.at n u ∙ s2.at n u);
        })
        (record { at = λ n u. adds.others n (apart n u).0 ∙ s3.at n u }) (λ n u. (apart n u).1) in
        record {
          h = next.h;
          ts = join ts next.ts;
          us = next.us;
          after = next.after;
          out = next.out;
          ks = here.starts ++ next.ks;
          ls = next.ls;
          first =
              symbol c x.x (sources es) env here.after next.after i e h next.h ts next.ts _ here.starts next.ks _
              here.derives next.first refl refl;
          second = next.second;
          trees = trees ∙ ap (join ts) next.trees ∙ sym (join_join ts next.ts next.us);
        }

    pub derives_from : {d : DeclKind} {z : Symbol} {env' left : Environment} {i e j : ℕ} {ts : Trees}
        {starts : List ℕ} →
        Derives g' shapes' text d z env' i e j ts left starts → (of : List ℕ) (v : Visible) (k : ℕ) (x : Symbol) →
        z ≡ new_symbol of v k x → IsSingle x →
        Proper May v x → AllDeclared g' shapes' (added of v k x) → (c : DeclKind) → Quiet g c → Quiet g' d →
        (env : Environment) → Binds v env → Agree (λ n. needs n x) env env' → DerivesFrom c x env env' i e j ts left
    derives_from (literal d word env' i e j us ts starts spells trails trees exposes) of v k (Literal w) same single p
        all c q q' env b s =
        let words : word ≡ w = cc in
        record {
          after = env;
          starts = _;
          derives =
              literal c w env i e j us ts _ (subst (λ z. Spells text z i e) words spells)
              (trails_from g g' shapes shapes' May text takes c q q' trails) trees refl;
          keeps = keeps_none env env';
        }
    derives_from (literal d word env' i e j us ts starts spells trails trees exposes) of v k x same single p all c q
        q' env b s = absurd (cc)
    derives_from (one_of d class env' i e j us ts starts among trails trees exposes) of v k (OneOf o) same single p
        all c q q' env b s =
        let classes : class ≡ o = cc in
        record {
          after = env;
          starts = _;
          derives =
              one_of c o env i e j us ts _ (subst (λ z. IsOneOf text z i e) classes among)
              (trails_from g g' shapes shapes' May text takes c q q' trails) trees refl;
          keeps = keeps_none env env';
        }
    derives_from (one_of d class env' i e j us ts starts among trails trees exposes) of v k x same single p all c q q'
        env b s = absurd (cc)
    derives_from (token d name1 args1 ws env' i e j t us ts ks starts have instance trails trees exposes) of v k
        (Call name args) same single p all c q q' env b s =
        let names : name1 ≡ name = cc in
        let given : args1 ≡ args = cc in
        let there = instance_from instance name names p in
        record {
          after = env;
          starts = _;
          derives =
              token c name args ws env i e j t us ts there.starts _
              (have_to text i args ws (flipped s) (subst (λ z. HaveValues text env' i z ws) given have))
              there.instance
              (trails_from g g' shapes shapes' May text takes c q q' trails) trees refl;
          keeps = keeps_none env env';
        }
    derives_from (token d name1 args1 ws env' i e j t us ts ks starts have instance trails trees exposes) of v k
        (Opt x) same single p all c q q' env b s =
        absurd (form_not_lexical g g' shapes shapes' May text takes of v k (Opt x) tt all instance (cc) refl)
    derives_from (token d name1 args1 ws env' i e j t us ts ks starts have instance trails trees exposes) of v k
        (Star x) same single p all c q q' env b s =
        absurd (form_not_lexical g g' shapes shapes' May text takes of v k (Star x) tt all instance (cc) refl)
    derives_from (token d name1 args1 ws env' i e j t us ts ks starts have instance trails trees exposes) of v k
        (Plus x) same single p all c q q' env b s =
        absurd (form_not_lexical g g' shapes shapes' May text takes of v k (Plus x) tt all instance (cc) refl)
    derives_from (token d name1 args1 ws env' i e j t us ts ks starts have instance trails trees exposes) of v k
        (SepStar x separator) same single p all c q q' env b s =
        absurd
        (form_not_lexical g g' shapes shapes' May text takes of v k (SepStar x separator) tt all instance (cc)
        refl)
    derives_from (token d name1 args1 ws env' i e j t us ts ks starts have instance trails trees exposes) of v k
        (SepPlus x separator) same single p all c q q' env b s =
        absurd
        (form_not_lexical g g' shapes shapes' May text takes of v k (SepPlus x separator) tt all instance (cc)
        refl)
    derives_from (token d name1 args1 ws env' i e j t us ts ks starts have instance trails trees exposes) of v k
        (Group choices) same single p all c q q' env b s =
        absurd (form_not_lexical g g' shapes shapes' May text takes of v k (Group choices) tt all instance (cc) refl)
    derives_from (token d name1 args1 ws env' i e j t us ts ks starts have instance trails trees exposes) of v k
        (Entry bindings x) same single p all c q q' env b s =
        absurd
        (form_not_lexical g g' shapes shapes' May text takes of (visible.replaced v v bindings) k x p.0 all
        instance (cc) refl)
    derives_from (token d name1 args1 ws env' i e j t us ts ks starts have instance trails trees exposes) of v k x
        same single p all c q q' env b s = absurd (cc)
    derives_from (call d kind name1 args1 ws env' i j t starts have instance other) of v k (Call name args) same
        single p all c q q' env b s =
        let names : name1 ≡ name = cc in
        let given : args1 ≡ args = cc in
        let there = instance_from instance name names p in
        record {
          after = env;
          starts = there.starts;
          derives =
              call c kind name args ws env i j t there.starts
              (have_to text i args ws (flipped s) (subst (λ z. HaveValues text env' i z ws) given have))
              there.instance other;
          keeps = keeps_none env env';
        }
    derives_from (call d kind name1 args1 ws env' i j t starts have instance other) of v k (Opt x) same single p all c
        q q' env b s =
        let here =
        forms_from instance of v k (Opt x) tt (cc) p all c q env b
        (form_holds text v (λ n. needs n (Opt x)) args1 env env' i ws have (cc) s) in
        record { after = env; starts = here.starts; derives = here.derives; keeps = keeps_none env env' }
    derives_from (call d kind name1 args1 ws env' i j t starts have instance other) of v k (Star x) same single p all
        c q q' env b s =
        let here =
        forms_from instance of v k (Star x) tt (cc) p all c q env b
        (form_holds text v (λ n. needs n (Star x)) args1 env env' i ws have (cc) s) in
        record { after = env; starts = here.starts; derives = here.derives; keeps = keeps_none env env' }
    derives_from (call d kind name1 args1 ws env' i j t starts have instance other) of v k (Plus x) same single p all
        c q q' env b s =
        let here =
        forms_from instance of v k (Plus x) tt (cc) p all c q env b
        (form_holds text v (λ n. needs n (Plus x)) args1 env env' i ws have (cc) s) in
        record { after = env; starts = here.starts; derives = here.derives; keeps = keeps_none env env' }
    derives_from (call d kind name1 args1 ws env' i j t starts have instance other) of v k (SepStar x separator) same
        single p all c q q' env b s =
        let here =
        forms_from instance of v k (SepStar x separator) tt (cc) p all c q env b
        (form_holds text v (λ n. needs n (SepStar x separator)) args1 env env' i ws have (cc) s) in
        record { after = env; starts = here.starts; derives = here.derives; keeps = keeps_none env env' }
    derives_from (call d kind name1 args1 ws env' i j t starts have instance other) of v k (SepPlus x separator) same
        single p all c q q' env b s =
        let here =
        forms_from instance of v k (SepPlus x separator) tt (cc) p all c q env b
        (form_holds text v (λ n. needs n (SepPlus x separator)) args1 env env' i ws have (cc) s) in
        record { after = env; starts = here.starts; derives = here.derives; keeps = keeps_none env env' }
    derives_from (call d kind name1 args1 ws env' i j t starts have instance other) of v k (Group choices) same single
        p all c q q' env b s =
        let here =
        forms_from instance of v k (Group choices) tt (cc) p all c q env b
        (form_holds text v (λ n. needs n (Group choices)) args1 env env' i ws have (cc) s) in
        record { after = env; starts = here.starts; derives = here.derives; keeps = keeps_none env env' }
    derives_from (call d kind name1 args1 ws env' i j t starts have instance other) of v k (Entry bindings x) same
        single p all c q q' env b s =
        let wanted : List ℕ → Bool = λ n. needs n x in
        let w = visible.replaced v v bindings in
        let ps = params_for w wanted in
        let given : args1 ≡ arguments bindings ps = cc in
        let have1 = subst (λ z. HaveValues text env' i z ws) given have in
        let vals =
        bindings_valued text v wanted bindings i env' p.1 (λ n u. argument_has text bindings ps i env' ws n have1
        (has_params w wanted n ∙
        and_from (has w n) (needs n x)
        (has_replaced v wanted v bindings n p.1 ∙ or_right (has v n) (is_bound n bindings) u)
        (bound_wanted v wanted bindings n p.1 u))) in
        let s_bindings : Agree (λ n. bindings_use n bindings) env env' =
        part s (λ n u. or_left (bindings_use n bindings) (not (is_bound n bindings) && needs n x) u) in
        let here_have =
        have_to text i (map (λ b. b.value) bindings) vals.0
        (flipped (part s_bindings (λ n u. sym (uses_mapped bindings n) ∙ u))) vals.1 in
        let within = replaced env bindings vals.0 in
        let values_same : (n : List ℕ) → has ps n ≡ true → valued text env' i (argument bindings n) ≡ find within n =
        λ n u. argument_value text v wanted bindings vals.0 i env env' env n p.1 here_have s_bindings
        (λ y. s.at n (or_right (bindings_use n bindings) (not (is_bound n bindings) && needs n x)
        (and_from (not (is_bound n bindings)) (needs n x) (ap not y)
        (and_parts (has w n) (needs n x) (sym (has_params w wanted n) ∙ u)).1))) in
        let here =
        forms_from instance of w k x p.0 (cc) p.2 all c q within
        (binds_replaced text v wanted bindings vals.0 i env v env p.1 here_have b)
        (arguments_from text bindings ps i env' within ws values_same have1) in
        record {
          after = env;
          starts = here.starts;
          derives =
              entry c bindings x vals.0 env within within i j j (one t) here.starts here_have refl here.derives;
          keeps =
              keeps_none env env';
        }
    derives_from (call d kind name1 args1 ws env' i j t starts have instance other) of v k x same single p all c q q'
        env b s = absurd (cc)
    derives_from (label d name1 y env' between left i e j ts starts inner bound) of v k (Label name x) same single p
        all c q q' env b s =
        let here = derives_from inner of v k x (cc) p.0 p.1 all c q q' env b s in
        let names : name1 ≡ name = cc in
        let further = (name, span_value i e) ∷ [] in
        record {
          after = here.after ++ further;
          starts = here.starts;
          derives = label c name x env here.after _ i e j ts here.starts here.derives refl;
          keeps =
              subst (Keeps env env' (here.after ++ further))
              (sym (bound ∙ ap (λ z. between ++ (z, span_value i e) ∷ []) names))
              (keeps_both here.keeps (keeps_append here.after between further));
        }
    derives_from (label d name1 y env' between left i e j ts starts inner bound) of v k x same single p all c q q' env
        b s = absurd (cc)
    derives_from (guard d condition1 env' i holds) of v k (Guard condition) same single p all c q q' env b s =
        let conds : condition1 ≡ condition = cc in
        record {
          after = env;
          starts = [];
          derives =
              guard c condition env i
              (has_to text i condition _ (flipped s)
              (subst (λ z. HasValue text env' i z (value.Bool true)) conds holds));
          keeps = keeps_none env env';
        }
    derives_from (guard d condition1 env' i holds) of v k x same single p all c q q' env b s = absurd (cc)
    derives_from (let_be d name1 expression1 w env' left i value_is bound) of v k (Let name expression) same single p
        all c q q' env b s =
        let names : name1 ≡ name = cc in
        let exprs : expression1 ≡ expression = cc in
        let further = (name, w) ∷ [] in
        record {
          after = env ++ further;
          starts = [];
          derives =
              let_be c name expression w env _ i
              (has_to text i expression w (flipped s) (subst (λ z. HasValue text env' i z w) exprs value_is)) refl;
          keeps =
              subst (Keeps env env' (env ++ further)) (sym (bound ∙ ap (λ z. env' ++ (z, w) ∷ []) names))
              (keeps_append env env' further);
        }
    derives_from (let_be d name1 expression1 w env' left i value_is bound) of v k x same single p all c q q' env b s =
        absurd (cc)
    derives_from (absent d y env' i) of v k (Literal lit) same single p all c q q' env b s = absurd (cc)
    derives_from (absent d y env' i) of v k x same single p all c q q' env b s = absurd (cc)
    derives_from (present d y env' between i e j ts starts inner) of v k (Literal lit) same single p all c q q' env b
        s = absurd (cc)
    derives_from (present d y env' between i e j ts starts inner) of v k x same single p all c q q' env b s =
        absurd (cc)
    derives_from (star d y env' i j t starts items list) of v k (Literal lit) same single p all c q q' env b s =
        absurd (cc)
    derives_from (star d y env' i j t starts items list) of v k x same single p all c q q' env b s = absurd (cc)
    derives_from (plus d y env' i j t starts items list) of v k (Literal lit) same single p all c q q' env b s =
        absurd (cc)
    derives_from (plus d y env' i j t starts items list) of v k x same single p all c q q' env b s = absurd (cc)
    derives_from (sep_star d y separator env' i j t starts items list) of v k (Literal lit) same single p all c q q'
        env b s = absurd (cc)
    derives_from (sep_star d y separator env' i j t starts items list) of v k x same single p all c q q' env b s =
        absurd (cc)
    derives_from (sep_plus d y separator env' i j t starts items list) of v k (Literal lit) same single p all c q q'
        env b s = absurd (cc)
    derives_from (sep_plus d y separator env' i j t starts items list) of v k x same single p all c q q' env b s =
        absurd (cc)
    derives_from (group d choices m ys env' between i j ts starts chosen inner) of v k (Literal lit) same single p all
        c q q' env b s = absurd (cc)
    derives_from (group d choices m ys env' between i j ts starts chosen inner) of v k x same single p all c q q' env
        b s = absurd (cc)
    derives_from (offside d y env' left i e j ts starts inner right) of v k (Offside x) same single p all c q q' env b
        s = absurd p
    derives_from (offside d y env' left i e j ts starts inner right) of v k x same single p all c q q' env b s =
        absurd (cc)
    derives_from (ignore d y env' left i e j ts starts inner) of v k (Ignore x) same single p all c q q' env b s =
        absurd p
    derives_from (ignore d y env' left i e j ts starts inner) of v k x same single p all c q q' env b s = absurd (cc)
    derives_from (align d y env' left i e j ts starts items inner column) of v k (Align x) same single p all c q q'
        env b s = absurd p
    derives_from (align d y env' left i e j ts starts items inner column) of v k x same single p all c q q' env b s =
        absurd (cc)
    derives_from (filtered d y filters1 env' left i e j ts starts inner passes) of v k (Filtered x filters) same
        single p all c q q' env b s =
        let here = derives_from inner of v k x (cc) p.0 p.1 all c q q' env b s in
        let all_filters : filters1 ≡ filters = cc in
        record {
          after = here.after;
          starts = here.starts;
          derives =
              filtered c x filters env here.after i e j ts here.starts here.derives
              (subst (PassesAll text i e) all_filters passes);
          keeps = here.keeps;
        }
    derives_from (filtered d y filters1 env' left i e j ts starts inner passes) of v k x same single p all c q q' env
        b s = absurd (cc)
    derives_from (sequence d ys env' left i j ts starts inner) of v k (Seq xs) same single p all c q q' env b s =
        absurd single
    derives_from (sequence d ys env' left i j ts starts inner) of v k x same single p all c q q' env b s = absurd (cc)
    derives_from (entry d bindings1 y vs env' within left i e j ts starts have renewed inner) of v k (Literal lit)
        same single p all c q q' env b s = absurd (cc)
    derives_from (entry d bindings1 y vs env' within left i e j ts starts have renewed inner) of v k x same single p
        all c q q' env b s = absurd (cc)

    -- the call of the declaration itself
    head_from : {d : DeclKind} {z : Symbol} {env' left : Environment} {i e j : ℕ} {ts : Trees} {starts : List ℕ} →
        Derives g' shapes' text d z env' i e j ts left starts → (of : List ℕ) (v : Visible) (k : ℕ) (y : Symbol) →
        z ≡ entering of k [] v (λ n. needs n y) → (is : IsForm y) → IsList y →
        Proper May v y → AllDeclared g' shapes' (added of v k y) → (c : DeclKind) → Quiet g c →
        (env : Environment) → Binds v env → Agree (λ n. needs n y) env env' → HeadFrom c y env env' i j ts left
    head_from (call d kind name1 args1 ws env' i j t starts have instance other) of v k y same is list p all c q env b
        s =
        let here =
        forms_from instance of v k y is (cc) p all c q env b
        (form_holds text v (λ n. needs n y) args1 env env' i ws have (cc) s) in
        record { t = t; trees = refl; same = refl; list = here.list list }
    head_from (token d name1 args1 ws env' i e j t us ts ks starts have instance trails trees exposes) of v k y same
        is list p all c q env b s =
        absurd (form_not_lexical g g' shapes shapes' May text takes of v k y is all instance (cc) refl)
    head_from d of v k y same is list p all c q env b s = absurd (cc)

    head_rest : {d : DeclKind} {zs : List Symbol} {env' left : Environment} {i j : ℕ} {vs : Trees} {starts : List ℕ} →
        Covers g' shapes' text d zs env' i j vs left starts →
        (of : List ℕ) (v : Visible) (k : ℕ) (y : Symbol) (es fs : List Element) →
        zs ≡ entering of k [] v (λ n. needs n y) ∷ (map (new_element of) es ++ map (new_element of) fs) →
        (is : IsForm y) → IsList y →
        Proper May v y → AllDeclared g' shapes' (added of v k y) → (w w2 : Visible) → Ready g' shapes' May of v es w →
        Ready g' shapes' May of v fs w2 →
        (c : DeclKind) → Quiet g c → Quiet g' d → (env : Environment) → Binds v env →
        Agree (λ n. needs n y) env env' →
        ((n : List ℕ) → elements_need n es ≡ true → needs n y ≡ true) →
        ((n : List ℕ) → elements_need n fs ≡ true → needs n y ≡ true) →
        ((n : List ℕ) → elements_need n fs ≡ true → NoneBinds n es) →
        HeadRest c y (sources es) (sources fs) env env i j vs
    head_rest (empty d env' i) of v k y es fs same is list p all w w2 r r2 c q q' env b s in_es in_fs apart =
        absurd (cc)
    head_rest (symbol d z others env' between left i e h j ts us vs ks ls starts head rest trees exposes) of v k y es
        fs same is list p all w w2 r r2 c q q' env b s in_es in_fs apart =
        let here = head_from head of v k y (cc) is list p all c q env b s in
        let s2 : Agree (λ n. needs n y) env between = subst (Agree (λ n. needs n y) env) here.same s in
        let next =
        covers_from rest of es fs (cc) v w r v w2 r2 c q q' env env b b (part s2 in_es) (part s2 in_fs)
        (record { at = λ n u. refl }) apart in
        record {
          h = h;
          t = here.t;
          us = us;
          trees = trees ∙ ap (λ z. join z us) here.trees;
          list = here.list;
          rest = next;
        }

    forms_from : {name1 : List ℕ} {ws : List Value} {kind : DeclKind} {i j : ℕ} {t : Tree} {starts : List ℕ} →
        Instance g' shapes' text name1 ws kind i j t starts → (of : List ℕ) (v : Visible) (k : ℕ) (y : Symbol) →
        IsForm y → name1 ≡ added_name of k →
        Proper May v y → AllDeclared g' shapes' (added of v k y) → (c : DeclKind) → Quiet g c →
        (env : Environment) → Binds v env → Holds (params_for v (λ n. needs n y)) env ws → FormFrom c y env i j t
    forms_from
        (alternative name1 ws kind d n decl sh a env' left i e ts t starts declares numbered bound same covers tree)
        of v k (Opt x) is names p all c q env b holds =
        let wanted : List ℕ → Bool = λ n. needs n (Opt x) in
        let open_it =
        opened takes (added_name of k) name1 (params_for v wanted) shape.Opt ([] ∷ new of v (suc k) x ∷ []) all.0
        names declares numbered bound same tree in
        let agree = subst (Agree wanted env) (sym open_it.environment) (entered_agrees v wanted env ws b holds) in
        let q' : Quiet g' kind = λ z. absurd (plain_quiet open_it.plain z) in
        two [] (new of v (suc k) x) n open_it.m a.alternative.symbols open_it.number open_it.at
        (λ number zs. let rest = nothing_of covers zs in
        let whole : t ≡ Node tag.Absent i e none = open_it.tree ∙
        (λ z. Node (tag_of shape.Opt d (number z)) i e (rest.trees z)) in
        record {
          starts = [];
          derives = subst (λ z. Derives g shapes text c (Opt x) env i e e (one z) env []) (sym whole)
              (subst (λ z. Derives g shapes text c (Opt x) env i z z (one (Node tag.Absent i z none)) env [])
              rest.place (absent c x env i));
          list = λ never. absurd never;
        })
        (λ number zs.
        let from =
        covers_from covers of [] (elements v (suc k) x) zs v v refl v _
        (ready g' shapes' May of x v (suc k) p all.1) c q q' env env b b (nothing_needed env env')
        (part agree (λ n u. or_right (is_pair n) (needs n x) (sym (elements_want n x v (suc k)) ∙ u)))
        (record { at = λ n u. refl }) (λ n u. tt) in
        let first = nothing_of from.first refl in
        let inner = standing g shapes text x v (suc k) from.second in
        let whole : t ≡ Node tag.Present i e from.us =
        open_it.tree ∙ (λ z. Node (tag_of shape.Opt d (number z)) i e (from.trees z)) ∙
        ap (λ z. Node tag.Present i e (join z from.us)) first.trees in
        record {
          starts = inner.starts;
          derives = subst (λ z. Derives g shapes text c (Opt x) env i e e (one z) env inner.starts) (sym whole)
              (present c x env from.out i inner.e e from.us inner.starts
              (subst (λ z. Derives g shapes text c x env z inner.e e from.us from.out inner.starts) (sym first.place)
              inner.derives));
          list = λ never. absurd never;
        })
    forms_from
        (alternative name1 ws kind d n decl sh a env' left i e ts t starts declares numbered bound same covers tree)
        of v k (Star x) is names p all c q env b holds =
        let wanted : List ℕ → Bool = λ n. needs n (Star x) in
        let open_it =
        opened takes (added_name of k) name1 (params_for v wanted) shape.Star
        ([] ∷ (new_symbol of v k (Star x) ∷ new of v (suc k) x) ∷ []) all.0 names declares numbered bound same
        tree in
        let agree = subst (Agree wanted env) (sym open_it.environment) (entered_agrees v wanted env ws b holds) in
        let q' : Quiet g' kind = λ z. absurd (plain_quiet open_it.plain z) in
        two [] (new_symbol of v k (Star x) ∷ new of v (suc k) x) n open_it.m a.alternative.symbols open_it.number
        open_it.at
        (λ number zs. let rest = nothing_of covers zs in
        of_list g shapes text (open_it.tree ∙ (λ z. Node (tag_of shape.Star d (number z)) i e (rest.trees z)))
        (record {
          starts = [];
          items = [];
          lists =
              subst (λ z. Lists g shapes text c (Star x) env i z (Node tag.Nil i z none) [] []) rest.place
              (nil c x env i);
        }) tt)
        (λ number zs.
        let from =
        head_rest covers of v k (Star x) [] (elements v (suc k) x) zs tt tt p all v _ refl
        (ready g' shapes' May of x v (suc k) p all.1) c q q' env b agree
        (λ n u. absurd (cc)) (λ n u. or_right (is_pair n) (needs n x) (sym (elements_want n x v (suc k)) ∙ u))
        (λ n u. tt) in
        let first = nothing_of from.rest.first refl in
        let inner = standing g shapes text x v (suc k) from.rest.second in
        let us_are : from.us ≡ from.rest.us = from.rest.trees ∙ ap (λ z. join z from.rest.us) first.trees in
        of_list g shapes text
        (open_it.tree ∙ (λ z. Node (tag_of shape.Star d (number z)) i e (from.trees z)) ∙
        ap (λ z. Node tag.Snoc i e (more from.t z)) us_are)
        (record {
          starts = _;
          items = _;
          lists =
              snoc c x env from.rest.out i from.h inner.e e from.t from.rest.us from.list.starts inner.starts _
              from.list.items _ from.list.lists
              (subst (λ z. Derives g shapes text c x env z inner.e e from.rest.us from.rest.out inner.starts)
              (sym first.place) inner.derives) refl refl;
        }) tt)
    forms_from
        (alternative name1 ws kind d n decl sh a env' left i e ts t starts declares numbered bound same covers tree)
        of v k (Plus x) is names p all c q env b holds =
        let wanted : List ℕ → Bool = λ n. needs n (Plus x) in
        let open_it =
        opened takes (added_name of k) name1 (params_for v wanted) shape.Plus
        (new of v (suc k) x ∷ (new_symbol of v k (Plus x) ∷ new of v (suc k) x) ∷ []) all.0 names declares
        numbered bound same tree in
        let agree = subst (Agree wanted env) (sym open_it.environment) (entered_agrees v wanted env ws b holds) in
        let q' : Quiet g' kind = λ z. absurd (plain_quiet open_it.plain z) in
        two (new of v (suc k) x) (new_symbol of v k (Plus x) ∷ new of v (suc k) x) n open_it.m a.alternative.symbols
        open_it.number open_it.at
        (λ number zs.
        let from =
        covers_from covers of [] (elements v (suc k) x) zs v v refl v _
        (ready g' shapes' May of x v (suc k) p all.1) c q q' env env b b (nothing_needed env env')
        (part agree (λ n u. or_right (is_pair n) (needs n x) (sym (elements_want n x v (suc k)) ∙ u)))
        (record { at = λ n u. refl }) (λ n u. tt) in
        let first = nothing_of from.first refl in
        let inner = standing g shapes text x v (suc k) from.second in
        of_list g shapes text
        (open_it.tree ∙ (λ z. Node (tag_of shape.Plus d (number z)) i e (from.trees z)) ∙
        ap (λ z. Node tag.One i e (join z from.us)) first.trees)
        (record {
          starts = inner.starts;
          items = i ∷ [];
          lists = one_item c x env from.out i inner.e e from.us inner.starts
              (subst (λ z. Derives g shapes text c x env z inner.e e from.us from.out inner.starts) (sym first.place)
              inner.derives);
        }) tt)
        (λ number zs.
        let from =
        head_rest covers of v k (Plus x) [] (elements v (suc k) x) zs tt tt p all v _ refl
        (ready g' shapes' May of x v (suc k) p all.1) c q q' env b agree
        (λ n u. absurd (cc)) (λ n u. or_right (is_pair n) (needs n x) (sym (elements_want n x v (suc k)) ∙ u))
        (λ n u. tt) in
        let first = nothing_of from.rest.first refl in
        let inner = standing g shapes text x v (suc k) from.rest.second in
        let us_are : from.us ≡ from.rest.us = from.rest.trees ∙ ap (λ z. join z from.rest.us) first.trees in
        of_list g shapes text
        (open_it.tree ∙ (λ z. Node (tag_of shape.Plus d (number z)) i e (from.trees z)) ∙
        ap (λ z. Node tag.More i e (more from.t z)) us_are)
        (record {
          starts = _;
          items = _;
          lists =
              more_items c x env from.rest.out i from.h inner.e e from.t from.rest.us from.list.starts inner.starts _
              from.list.items _ from.list.lists
              (subst (λ z. Derives g shapes text c x env z inner.e e from.rest.us from.rest.out inner.starts)
              (sym first.place) inner.derives) refl refl;
        }) tt)
    forms_from
        (alternative name1 ws kind d n decl sh a env' left i e ts t starts declares numbered bound same covers tree)
        of v k (SepPlus x separator) is names p all c q env b holds =
        let wanted : List ℕ → Bool = λ n. needs n (SepPlus x separator) in
        let later = suc k + count x in
        let open_it =
        opened takes (added_name of k) name1 (params_for v wanted) shape.SepPlus
        (sep_plus_alternatives of v k x separator) all.0 names declares numbered bound same tree in
        let agree = subst (Agree wanted env) (sym open_it.environment) (entered_agrees v wanted env ws b holds) in
        let q' : Quiet g' kind = λ z. absurd (plain_quiet open_it.plain z) in
        let x_ready =
        ready g' shapes' May of x v (suc k) p.0
        (declared_first g' shapes' May (added of v (suc k) x) (added of v later separator) all.1) in
        let s_ready =
        ready g' shapes' May of separator v later p.1
        (declared_second g' shapes' May (added of v (suc k) x) (added of v later separator) all.1) in
        two (new of v (suc k) x)
        (new_symbol of v k (SepPlus x separator) ∷ (new of v later separator ++ new of v (suc k) x)) n open_it.m
        a.alternative.symbols open_it.number open_it.at
        (λ number zs.
        let from =
        covers_from covers of [] (elements v (suc k) x) zs v v refl v _ x_ready c q q' env env b b
        (nothing_needed env env')
        (part agree
        (λ n u. or_right (is_pair n) (needs n x || needs n separator)
        (or_left (needs n x) (needs n separator) (sym (elements_want n x v (suc k)) ∙ u))))
        (record { at = λ n u. refl }) (λ n u. tt) in
        let first = nothing_of from.first refl in
        let inner = standing g shapes text x v (suc k) from.second in
        of_list g shapes text
        (open_it.tree ∙ (λ z. Node (tag_of shape.SepPlus d (number z)) i e (from.trees z)) ∙
        ap (λ z. Node tag.One i e (join z from.us)) first.trees)
        (record {
          starts = inner.starts;
          items = i ∷ [];
          lists = first_item c x separator env from.out i inner.e e from.us inner.starts
              (subst (λ z. Derives g shapes text c x env z inner.e e from.us from.out inner.starts) (sym first.place)
              inner.derives);
        }) tt)
        (λ number zs.
        let from =
        head_rest covers of v k (SepPlus x separator) (elements v later separator) (elements v (suc k) x) zs tt tt
        p all _ _ s_ready x_ready c q q' env b agree
        (λ n u. or_right (is_pair n) (needs n x || needs n separator)
        (or_right (needs n x) (needs n separator) (sym (elements_want n separator v later) ∙ u)))
        (λ n u. or_right (is_pair n) (needs n x || needs n separator)
        (or_left (needs n x) (needs n separator) (sym (elements_want n x v (suc k)) ∙ u)))
        (λ n u. none_binds n separator v later (p.2 n (sym (elements_want n x v (suc k)) ∙ u))) in
        let middle = standing g shapes text separator v later from.rest.first in
        let inner = standing g shapes text x v (suc k) from.rest.second in
        of_list g shapes text (open_it.tree ∙ (λ z. Node (tag_of shape.SepPlus d (number z)) i e (from.trees z)))
        (record {
          starts = _;
          items = _;
          lists =
              further_item c x separator env from.rest.after from.rest.out i from.h middle.e from.rest.h inner.e e
              from.t from.rest.ts from.rest.us from.us
              from.list.starts middle.starts inner.starts _ from.list.items _ from.list.lists middle.derives
              inner.derives from.rest.trees refl refl;
        }) tt)
    forms_from
        (alternative name1 ws kind d n decl sh a env' left i e ts t starts declares numbered bound same covers tree)
        of v k (SepStar x separator) is names p all c q env b holds =
        let wanted : List ℕ → Bool = λ n. needs n (SepStar x separator) in
        let open_it =
        opened takes (added_name of k) name1 (params_for v wanted) shape.SepStar
        ([] ∷ (new_symbol of v (suc k) (SepPlus x separator) ∷ []) ∷ []) all.0 names declares numbered bound same
        tree in
        let agree = subst (Agree wanted env) (sym open_it.environment) (entered_agrees v wanted env ws b holds) in
        let q' : Quiet g' kind = λ z. absurd (plain_quiet open_it.plain z) in
        two [] (new_symbol of v (suc k) (SepPlus x separator) ∷ []) n open_it.m a.alternative.symbols open_it.number
        open_it.at
        (λ number zs. let rest = nothing_of covers zs in
        of_list g shapes text (open_it.tree ∙ (λ z. Node (tag_of shape.SepStar d (number z)) i e (rest.trees z)))
        (record {
          starts = [];
          items = [];
          lists =
              subst (λ z. Lists g shapes text c (SepStar x separator) env i z (Node tag.Absent i z none) [] [])
              rest.place (no_item c x separator env i);
        }) tt)
        (λ number zs.
        let from =
        head_rest covers of v (suc k) (SepPlus x separator) [] [] zs tt tt p all.1 v v refl refl c q q' env b
        agree (λ n u. absurd (cc)) (λ n u. absurd (cc)) (λ n u. tt) in
        let first = nothing_of from.rest.first refl in
        let second = nothing_of from.rest.second refl in
        let us_are : from.us ≡ none = from.rest.trees ∙ (λ z. join (first.trees z) (second.trees z)) in
        let place : from.h ≡ e = first.place ∙ second.place in
        of_list g shapes text
        (open_it.tree ∙ (λ z. Node (tag_of shape.SepStar d (number z)) i e (from.trees z)) ∙
        ap (λ z. Node tag.Present i e (more from.t z)) us_are)
        (record {
          starts = from.list.starts;
          items = from.list.items;
          lists = some_items c x separator env i e from.t from.list.starts from.list.items
              (subst
              (λ z. Lists g shapes text c (SepPlus x separator) env i z from.t from.list.starts from.list.items)
              place from.list.lists);
        }) tt)
    forms_from
        (alternative name1 ws kind d n decl sh a env' left i e ts t starts declares numbered bound same covers tree)
        of v k (Group choices) is names p all c q env b holds =
        let wanted : List ℕ → Bool = λ n. needs n (Group choices) in
        let open_it =
        opened takes (added_name of k) name1 (params_for v wanted) shape.Group
        (new_alternatives of v (suc k) choices) all.0 names declares numbered bound same tree in
        let agree = subst (Agree wanted env) (sym open_it.environment) (entered_agrees v wanted env ws b holds) in
        let q' : Quiet g' kind = λ z. absurd (plain_quiet open_it.plain z) in
        let at =
        chosen_from g' shapes' text May of v choices (suc k) open_it.m a.alternative.symbols open_it.at p all.1 in
        let from =
        covers_from covers of [] (all_elements v at.parts.k2 at.xs) at.same v v refl v _
        (all_ready g' shapes' May of at.xs v at.parts.k2 at.parts.proper at.parts.present)
        c q q' env env b b (nothing_needed env env')
        (part agree
        (λ n u. or_right (is_pair n) (alternatives_need n choices)
        (at.parts.needed n (sym (all_elements_want n at.xs v at.parts.k2) ∙ u)))) (record { at = λ n u. refl })
        (λ n u. tt) in
        let first = nothing_of from.first refl in
        let inner = reaching g shapes text at.xs v at.parts.k2 from.second in
        let whole : t ≡ Node (tag.GroupAlt n) i e from.us = open_it.tree ∙
        ap (λ z. Node (tag.GroupAlt n) i e z) (from.trees ∙ ap (λ z. join z from.us) first.trees) in
        record {
          starts = inner.starts;
          derives =
              subst (λ z. Derives g shapes text c (Group choices) env i e e (one z) env inner.starts) (sym whole)
              (group c choices n at.xs env from.out i e from.us inner.starts (open_it.m, open_it.number, at.chosen)
              (subst (λ z. Covers g shapes text c (listed at.xs) env z e from.us from.out inner.starts)
              (sym first.place) inner.covers));
          list = λ never. absurd never;
        }
    forms_from instance of v k (Literal _) is names p all c q env b holds = absurd is
    forms_from instance of v k (OneOf _) is names p all c q env b holds = absurd is
    forms_from instance of v k (Call _ _) is names p all c q env b holds = absurd is
    forms_from instance of v k (Label _ _) is names p all c q env b holds = absurd is
    forms_from instance of v k (Guard _) is names p all c q env b holds = absurd is
    forms_from instance of v k (Let _ _) is names p all c q env b holds = absurd is
    forms_from instance of v k (Offside _) is names p all c q env b holds = absurd is
    forms_from instance of v k (Ignore _) is names p all c q env b holds = absurd is
    forms_from instance of v k (Align _) is names p all c q env b holds = absurd is
    forms_from instance of v k (Filtered _ _) is names p all c q env b holds = absurd is
    forms_from instance of v k (Seq _) is names p all c q env b holds = absurd is
    forms_from instance of v k (Entry _ _) is names p all c q env b holds = absurd is

    pub instance_from : {name1 : List ℕ} {ws : List Value} {kind : DeclKind} {i e : ℕ} {t : Tree} {starts : List ℕ} →
        Instance g' shapes' text name1 ws kind i e t starts → (name : List ℕ) → name1 ≡ name → May name →
        InstanceFrom name ws kind i e t
    instance_from
        (alternative name1 ws kind d n lower sh lower_a env left i e ts t starts declares numbered bound same covers
        tree) name names may =
        let from = takes.back name d lower sh may (subst (λ z. Declares g' shapes' z d lower sh) names declares) in
        let decl = from.decl in
        let num =
        takes.numbered_from name d decl sh from.declares n lower_a
        (subst (λ (z : Decl). IsAlternative z n lower_a) from.same numbered) in
        let bound1 : AreBound decl.params ws env = subst (λ (z : Decl). AreBound z.params ws env) from.same bound in
        let kinds : kind ≡ decl.kind = same ∙ ap (λ (z : Decl). z.kind) from.same in
        let q : Quiet g kind = λ z. takes.quiet name d decl sh from.declares (sym kinds ∙ z) in
        let v = parameters decl.params in
        let b = binds_parameters decl.params ws env bound1 in
        let xs = gathered num.a.alternative.symbols in
        let here =
        covers_from covers decl.name [] (all_elements v num.begins.k xs) num.same v v refl v _
        (all_ready g' shapes' May decl.name xs v num.begins.k num.begins.proper num.begins.present)
        kind q (quiet' q) env env b b (nothing_needed env env) (record { at = λ m u. refl })
        (record { at = λ m u. refl }) (λ m u. tt) in
        let first = nothing_of here.first refl in
        let inner = reaching g shapes text xs v num.begins.k here.second in
        let ts_are : ts ≡ here.us = here.trees ∙ ap (λ z. join z here.us) first.trees in
        record {
          starts = inner.starts;
          instance =
              alternative name ws kind d n decl sh num.a env here.out i e ts t inner.starts from.declares num.numbered
              bound1 kinds
              (subst (λ z. Covers g shapes text kind z env i e ts here.out inner.starts)
              (listed_gathered num.a.alternative.symbols)
              (subst (λ z. Covers g shapes text kind (listed xs) env i e z here.out inner.starts) (sym ts_are)
              (subst (λ z. Covers g shapes text kind (listed xs) env z e here.us here.out inner.starts)
              (sym first.place) inner.covers))) tree;
        }
