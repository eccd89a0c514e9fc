-- What is derived in the source is derived without lists.
use Rattle.ig_grammar.specs.Symbol.{Literal, OneOf, Label, Guard, Let, Offside, Ignore, Align, Filtered, Entry}
use Rattle.std.proofs.Common.{◌≡◌, ℕ, suc, ◌+◌, Bool, true, List, [], ◌∷◌, ◌++◌, map, refl, sym, ◌∙◌, ap, subst}
use Rattle.std.specs.Prelude.{◌||◌, ◌&&◌, not}
use Rattle.std.proofs.lemmas.List.{map-append}
use Rattle.std.proofs.lemmas.Bool.{or_left, or_right, and_parts, and_from}
use Rattle.ig_text.specs.Input.{Input}
use Rattle.ig_text.specs.declared.tag.Tag.TheVariants as tag
use Rattle.ig_ebnf_variables.proofs.BoundNames.{derives_add}
use Rattle.ig_ebnf_variables.proofs.EntryValues.{binds_replaced, argument_value, arguments_to}
use Rattle.ig_ebnf_variables.proofs.Definitions.{has, find, Binds, Agree, Keeps, Quiet, Proper, SymbolsProper, AllDeclared}
use Rattle.ig_ebnf_variables.proofs.Definitions.{IsSingle, IsForm, Takes}
use Rattle.ig_ebnf_variables.proofs.Environments.{has_to, have_to, keeps_none}
use Rattle.ig_ebnf_variables.proofs.Environments.{keeps_both, keeps_append, binds_more, Holds}
use Rattle.ig_ebnf_variables.proofs.Environments.{zipped, enter, entered_agrees, binds_parameters, has_params, held_by, valued}
use Rattle.ig_ebnf_variables.proofs.AddedInstances.{instance_of, calling, bare as bare_end, no_trail, swapped, chosen_to}
use Rattle.ig_ebnf_variables.proofs.AddedInstances.{form_call}
use Rattle.ig_ebnf_variables.specs.Lists.{count, params_for, arguments, argument, element, elements, all_elements, entering}
use Rattle.ig_ebnf_variables.specs.Lists.{new_symbol, new_element, new}
use Rattle.ig_ebnf_variables.specs.Lists.{new_symbols, new_alternatives, sep_plus_alternatives, added, added_symbols}
use Rattle.ig_ebnf_variables.specs.Lists.{new_declaration}
use Rattle.ig_expr.specs.declared.value.Value.{Value}
use Rattle.ig_grammar.specs.Symbol.{Symbol, Call, Opt, Star, Plus, SepStar, SepPlus, Group, Seq, gathered}
use Rattle.ig_grammar.specs.Visible.{Visible, binds, parameters}
use Rattle.ig_grammar.specs.declared.declaration.DeclKind.{DeclKind}
use Rattle.ig_grammar.specs.declared.declaration.DeclKind.TheVariants.{Plain}
use Rattle.ig_grammar.specs.declared.grammar.Grammar.{Grammar}
use Rattle.ig_grammar.specs.declared.place.Shape.{Shape}
use Rattle.ig_meaning.specs.Derivation.{Covers, Derives, Lists, Instance, Trails, span_value, empty, symbol, literal}
use Rattle.ig_meaning.specs.Derivation.{one_of, token}
use Rattle.ig_meaning.specs.Derivation.{call, label, guard, let_be, absent, present, star, plus, sep_star, sep_plus}
use Rattle.ig_meaning.specs.Derivation.{group, offside, ignore, align}
use Rattle.ig_meaning.specs.Derivation.{filtered, sequence, entry, nil, snoc, one_item, more_items, first_item}
use Rattle.ig_meaning.specs.Derivation.{further_item, no_item, some_items}
use Rattle.ig_meaning.specs.Derivation.{alternative}
use Rattle.ig_meaning.specs.Environment.{Environment}
use Rattle.ig_pass.specs.Added.{added_name}
use Rattle.ig_pass.specs.Needs.{needs, symbols_need, alternatives_need, is_pair, bindings_use, is_bound}
use Rattle.ig_text.specs.Tree.{Tree, Trees, Node, none, more, one}
use Rattle.ig_text.proofs.Trees.{join-none}
use Rattle.ig_grammar.specs.Visible as visible
use Rattle.ig_grammar.specs.declared.place.Shape.TheVariants as shape
use Rattle.ig_grammar.specs.Gathered.{gathered_listed}
use Rattle.ig_ebnf_variables.proofs.Elements.{joined, declared_first, declared_second}

pub form_single : (x : Symbol) → IsForm x → IsSingle x
form_single (Opt x) f = tt
form_single (Star x) f = tt
form_single (Plus x) f = tt
form_single (SepStar x s) f = tt
form_single (SepPlus x s) f = tt
form_single (Group ys) f = tt
form_single (Seq xs) f = absurd f
form_single (Literal _) f = absurd f
form_single (OneOf _) f = absurd f
form_single (Call _ _) f = absurd f
form_single (Label _ _) f = absurd f
form_single (Guard _) f = absurd f
form_single (Let _ _) f = absurd f
form_single (Offside _) f = absurd f
form_single (Ignore _) f = absurd f
form_single (Align _) f = absurd f
form_single (Filtered _ _) f = absurd f
form_single (Entry _ _) f = absurd f

module _ (g g' : Grammar) (shapes shapes' : List Shape) (May : List ℕ → Type 0) (text : Input)
    (takes : Takes g g' shapes shapes' May) where
  pub record CoversTo (c : DeclKind) (zs : List Symbol) (env env' : Environment) (i j : ℕ) (vs : Trees)
      (after : Environment) : Type 0 where
    pub left : Environment
    pub starts : List ℕ
    pub covers : Covers g' shapes' text c zs env' i j vs left starts
    pub keeps : Keeps env env' after left

  pub record OneTo (c : DeclKind) (z : Symbol) (env env' : Environment) (i e j : ℕ) (ts : Trees)
      (after : Environment) : Type 0 where
    pub left : Environment
    pub starts : List ℕ
    pub derives : Derives g' shapes' text c z env' i e j ts left starts
    pub keeps : Keeps env env' after left

  pub record DerivesTo (of : List ℕ) (v : Visible) (k : ℕ) (c : DeclKind) (x : Symbol) (env env' : Environment)
      (i e j : ℕ) (ts : Trees) (after : Environment) : Type 0 where
    pub covers : CoversTo c (new of v k x) env env' i j ts after
    pub single : IsSingle x → OneTo c (new_symbol of v k x) env env' i e j ts after

  pub record InstanceTo (name : List ℕ) (ws : List Value) (kind : DeclKind) (i e : ℕ) (t : Tree) : Type 0 where
    pub starts : List ℕ
    pub instance : Instance g' shapes' text name ws kind i e t starts

  alone : {of : List ℕ} {v : Visible} {k : ℕ} {c : DeclKind} {x : Symbol} {env env' : Environment} {i e j : ℕ}
      {ts : Trees} {after : Environment} →
      elements v k x ≡ element v k x ∷ [] → OneTo c (new_symbol of v k x) env env' i e j ts after →
      DerivesTo of v k c x env env' i e j ts after
  alone {of = of} {v = v} {k = k} {c = c} {x = x} {env = env} {env' = env'} {i = i} {e = e} {j = j} {ts = ts}
      {after = after} same here =
      record {
        covers = record {
          left = here.left;
          starts = here.starts ++ [];
          covers =
              subst (λ z. Covers g' shapes' text c (map (new_element of) z) env' i j ts here.left (here.starts ++ []))
              (sym same)
              (symbol c (new_symbol of v k x) [] env' here.left here.left i e j j ts none ts here.starts [] _
              here.derives (empty c here.left j) (sym (join-none ts)) refl);
          keeps = here.keeps;
        };
        single = λ s. here;
      }

  quiet' : {c : DeclKind} → Quiet g c → Quiet g' c
  quiet' q e = takes.layout ∙ q e

  quiet_plain : Quiet g' Plain
  quiet_plain e = absurd (cc)

  -- a trail covers nothing
  trails_to : {c : DeclKind} {e j : ℕ} {us : Trees} (d : DeclKind) → Quiet g c → Quiet g' d →
      Trails g shapes text c e j us → Trails g' shapes' text d e j us
  trails_to {e = e} {us = us} d q q' trails =
      let parts = no_trail g shapes text q trails in
      subst (λ z. Trails g' shapes' text d e z us) parts.place
      (subst (λ z. Trails g' shapes' text d e e z) (sym parts.trees) (bare_end g' shapes' text d q' e))

  part : {wanted some : List ℕ → Bool} {env env' : Environment} → Agree wanted env env' →
      ((n : List ℕ) → some n ≡ true → wanted n ≡ true) → Agree some env env'
  part s sub = record { at = λ n u. s.at n (sub n u) }

  -- the call of an added declaration
  called : (of : List ℕ) (k : ℕ) (v : Visible) (wanted : List ℕ → Bool) (c : DeclKind) (env env' : Environment)
      (ws : List Value) → Holds (params_for v wanted) env ws →
      Agree wanted env env' → {i j : ℕ} {t : Tree} → InstanceTo (added_name of k) ws Plain i j t →
      OneTo c (entering of k [] v wanted) env env' i j j (one t) env
  called of k v wanted c env env' ws holds s here =
      record {
        left = env';
        starts = here.starts;
        derives = calling g' shapes' text of k v wanted c env env' ws holds s here.instance;
        keeps =
            keeps_none env env';
      }

  mutual
    pub covers_to : {c : DeclKind} {ys : List Symbol} {env after : Environment} {i j : ℕ} {vs : Trees}
        {starts : List ℕ} →
        Covers g shapes text c ys env i j vs after starts → (of : List ℕ) (v : Visible) (k : ℕ) (d : DeclKind) →
        Quiet g c → Quiet g' d →
        SymbolsProper May v (gathered ys) → AllDeclared g' shapes' (added_symbols of v k (gathered ys)) →
        Binds v env →
        (env' : Environment) → Agree (λ n. symbols_need n (gathered ys)) env env' →
        CoversTo d (new_symbols of v k (gathered ys)) env env' i j vs after
    covers_to (empty c env i) of v k d q q' p all b env' s =
        record { left = env'; starts = []; covers = empty d env' i; keeps = keeps_none env env' }
    covers_to (symbol c x others env between after i e h j ts us vs ks ls starts head rest trees exposes) of v k d q
        q' p all b env' s =
        let w = v ++ binds v x in
        let xs = gathered others in
        let here =
        (derives_to head of v k d q q' p.0
        (declared_first g' shapes' May (added of v k x) (added_symbols of w (k + count x) xs) all) b env'
        (part s (λ n u. or_left (needs n x) (symbols_need n xs) u))).covers in
        let next =
        covers_to rest of w (k + count x) d q q' p.1
        (declared_second g' shapes' May (added of v k x) (added_symbols of w (k + count x) xs) all)
        (binds_more b (derives_add g shapes May text head v p.0)) here.left
        (record { at = λ n u. here.keeps.at n (s.at n (or_right (needs n x) (symbols_need n xs) u)) }) in
        record {
          left = next.left;
          starts = here.starts ++ next.starts;
          covers = subst (λ z. Covers g' shapes' text d z env' i j vs next.left (here.starts ++ next.starts))
              (sym (map-append (new_element of) (elements v k x) (all_elements w (k + count x) xs)))
              (subst
              (λ z. Covers g' shapes' text d (new of v k x ++ new_symbols of w (k + count x) xs) env' i j z
              next.left (here.starts ++ next.starts)) (sym trees)
              (joined g' shapes' text here.covers next.covers));
          keeps = keeps_both here.keeps next.keeps;
        }

    pub derives_to : {c : DeclKind} {x : Symbol} {env after : Environment} {i e j : ℕ} {ts : Trees}
        {starts : List ℕ} →
        Derives g shapes text c x env i e j ts after starts → (of : List ℕ) (v : Visible) (k : ℕ) (d : DeclKind) →
        Quiet g c → Quiet g' d →
        Proper May v x → AllDeclared g' shapes' (added of v k x) → Binds v env →
        (env' : Environment) → Agree (λ n. needs n x) env env' → DerivesTo of v k d x env env' i e j ts after
    derives_to (literal c word env i e j us ts starts spells trails trees exposes) of v k d q q' p all b env' s =
        alone refl
        (record {
          left = env';
          starts = _;
          derives = literal d word env' i e j us ts _ spells (trails_to d q q' trails) trees refl;
          keeps =
              keeps_none env env';
        })
    derives_to (one_of c class env i e j us ts starts among trails trees exposes) of v k d q q' p all b env' s =
        alone refl
        (record {
          left = env';
          starts = _;
          derives = one_of d class env' i e j us ts _ among (trails_to d q q' trails) trees refl;
          keeps =
              keeps_none env env';
        })
    derives_to (token c name arguments vs env i e j t us ts ks starts have instance trails trees exposes) of v k d q
        q' p all b env' s =
        let there = instance_to instance in
        alone refl (record {
          left = env';
          starts = _;
          derives =
              token d name arguments vs env' i e j t us ts there.starts _ (have_to text i arguments vs s have)
              there.instance (trails_to d q q' trails) trees refl;
          keeps = keeps_none env env';
        })
    derives_to (call c kind name arguments vs env i j t starts have instance other) of v k d q q' p all b env' s =
        let there = instance_to instance in
        alone refl (record {
          left = env';
          starts = there.starts;
          derives =
              call d kind name arguments vs env' i j t there.starts (have_to text i arguments vs s have)
              there.instance other;
          keeps = keeps_none env env';
        })
    derives_to (label c name x env between after i e j ts starts inner bound) of v k d q q' p all b env' s =
        let here = (derives_to inner of v k d q q' p.1 all b env' s).single p.0 in
        let more = (name, span_value i e) ∷ [] in
        alone refl (record {
          left = here.left ++ more;
          starts = here.starts;
          derives = label d name (new_symbol of v k x) env' here.left _ i e j ts here.starts here.derives refl;
          keeps =
              subst (λ z. Keeps env env' z (here.left ++ more)) (sym bound)
              (keeps_both here.keeps (keeps_append between here.left more));
        })
    derives_to (guard c condition env i holds) of v k d q q' p all b env' s =
        alone refl
        (record {
          left = env';
          starts = [];
          derives = guard d condition env' i (has_to text i condition _ s holds);
          keeps = keeps_none env env';
        })
    derives_to (let_be c name expression w env after i value_is bound) of v k d q q' p all b env' s =
        let more = (name, w) ∷ [] in
        alone refl (record {
          left = env' ++ more;
          starts = [];
          derives = let_be d name expression w env' _ i (has_to text i expression w s value_is) refl;
          keeps = subst (λ z. Keeps env env' z (env' ++ more)) (sym bound) (keeps_append env env' more);
        })
    derives_to (absent c x env i) of v k d q q' p all b env' s =
        let wanted : List ℕ → Bool = λ n. needs n (Opt x) in
        let in_it = enter v wanted env b in
        let ps = params_for v wanted in
        alone refl (called of k v wanted d env env' in_it.ws in_it.holds s
        (record {
          starts = [];
          instance =
              instance_of g' shapes' text (added_name of k) ps shape.Opt ([] ∷ new of v (suc k) x ∷ []) all.0 env
              in_it.ws in_it.holds 0 [] refl (empty Plain (zipped ps in_it.ws) i);
        }))
    derives_to (present c x env between i e j ts starts inner) of v k d q q' p all b env' s =
        let wanted : List ℕ → Bool = λ n. needs n (Opt x) in
        let in_it = enter v wanted env b in
        let ps = params_for v wanted in
        let agree = entered_agrees v wanted env in_it.ws b in_it.holds in
        let here =
        (derives_to inner of v (suc k) Plain q quiet_plain p all.1 b (zipped ps in_it.ws)
        (part agree (λ n u. or_right (is_pair n) (needs n x) u))).covers in
        alone refl (called of k v wanted d env env' in_it.ws in_it.holds s
        (record {
          starts = here.starts;
          instance =
              instance_of g' shapes' text (added_name of k) ps shape.Opt ([] ∷ new of v (suc k) x ∷ []) all.0 env
              in_it.ws in_it.holds 1 (new of v (suc k) x) refl here.covers;
        }))
    derives_to (star c x env i j t starts items list) of v k d q q' p all b env' s =
        let wanted : List ℕ → Bool = λ n. needs n (Star x) in
        let in_it = enter v wanted env b in
        alone refl
        (called of k v wanted d env env' in_it.ws in_it.holds s
        (lists_to list of v k q p all b in_it.ws in_it.holds))
    derives_to (plus c x env i j t starts items list) of v k d q q' p all b env' s =
        let wanted : List ℕ → Bool = λ n. needs n (Plus x) in
        let in_it = enter v wanted env b in
        alone refl
        (called of k v wanted d env env' in_it.ws in_it.holds s
        (lists_to list of v k q p all b in_it.ws in_it.holds))
    derives_to (sep_star c x separator env i j t starts items list) of v k d q q' p all b env' s =
        let wanted : List ℕ → Bool = λ n. needs n (SepStar x separator) in
        let in_it = enter v wanted env b in
        alone refl
        (called of k v wanted d env env' in_it.ws in_it.holds s
        (lists_to list of v k q p all b in_it.ws in_it.holds))
    derives_to (sep_plus c x separator env i j t starts items list) of v k d q q' p all b env' s =
        let wanted : List ℕ → Bool = λ n. needs n (SepPlus x separator) in
        let in_it = enter v wanted env b in
        alone refl
        (called of k v wanted d env env' in_it.ws in_it.holds s
        (lists_to list of v k q p all b in_it.ws in_it.holds))
    derives_to (group c choices m xs env between i j ts starts chosen inner) of v k d q q' p all b env' s =
        let wanted : List ℕ → Bool = λ n. needs n (Group choices) in
        let in_it = enter v wanted env b in
        let ps = params_for v wanted in
        let agree = entered_agrees v wanted env in_it.ws b in_it.holds in
        let at = chosen_to g' shapes' text May of v choices (suc k) chosen.0 xs chosen.2 p all.1 in
        let back = sym (gathered_listed xs) in
        let here = covers_to inner of v at.k2 Plain q quiet_plain (subst (SymbolsProper May v) back at.proper)
        (subst (λ z. AllDeclared g' shapes' (added_symbols of v at.k2 z)) back at.present) b (zipped ps in_it.ws)
        (part agree
        (λ n u. or_right (is_pair n) (alternatives_need n choices)
        (at.needed n (ap (symbols_need n) back ∙ u)))) in
        alone refl (called of k v wanted d env env' in_it.ws in_it.holds s
        (record {
          starts = here.starts;
          instance =
              subst
              (λ z. Instance g' shapes' text (added_name of k) in_it.ws Plain i j (Node (tag.GroupAlt z) i j ts)
              here.starts) (sym chosen.1)
              (instance_of g' shapes' text (added_name of k) ps shape.Group (new_alternatives of v (suc k) choices)
              all.0 env in_it.ws in_it.holds chosen.0 (new_symbols of v at.k2 xs) at.at
              (subst
              (λ z. Covers g' shapes' text Plain (new_symbols of v at.k2 z) (zipped ps in_it.ws) i j ts here.left
              here.starts) (gathered_listed xs) here.covers));
        }))
    derives_to (offside c x env after i e j ts starts inner right) of v k d q q' p all b env' s = absurd p
    derives_to (ignore c x env after i e j ts starts inner) of v k d q q' p all b env' s = absurd p
    derives_to (align c x env after i e j ts starts items inner column) of v k d q q' p all b env' s = absurd p
    derives_to (filtered c x filters env after i e j ts starts inner passes) of v k d q q' p all b env' s =
        let here = (derives_to inner of v k d q q' p.1 all b env' s).single p.0 in
        alone refl (record {
          left = here.left;
          starts = here.starts;
          derives = filtered d (new_symbol of v k x) filters env' here.left i e j ts here.starts here.derives passes;
          keeps = here.keeps;
        })
    derives_to (sequence c xs env after i j ts starts inner) of v k d q q' p all b env' s =
        let back = sym (gathered_listed xs) in
        let here = covers_to inner of v k d q q' (subst (SymbolsProper May v) back p)
        (subst (λ z. AllDeclared g' shapes' (added_symbols of v k z)) back all) b env'
        (part s (λ n u. ap (symbols_need n) back ∙ u)) in
        record {
          covers = subst (λ z. CoversTo d (new_symbols of v k z) env env' i j ts after) (gathered_listed xs) here;
          single = λ no_single. absurd no_single;
        }
    derives_to (entry c bindings x vs env inside after i e j ts starts have renewed inner) of v k d q q' p all b env'
        s =
        let w = visible.replaced v v bindings in
        let wanted : List ℕ → Bool = λ n. needs n x in
        let ps = params_for w wanted in
        let binds_in : Binds w inside =
        subst (Binds w) (sym renewed) (binds_replaced text v wanted bindings vs i env v env p.1 have b) in
        let here =
        (derives_to inner of w k d q q' p.2 all binds_in inside (record { at = λ n u. refl })).single
        (form_single x p.0) in
        let same : (n : List ℕ) → has ps n ≡ true → valued text env' i (argument bindings n) ≡ find inside n =
        λ n u. argument_value text v wanted bindings vs i env env' env n p.1 have
        (record { at = λ m y. s.at m (or_left (bindings_use m bindings) (not (is_bound m bindings) && needs m x) y) })
        (λ y. s.at n (or_right (bindings_use n bindings) (not (is_bound n bindings) && needs n x)
        (and_from (not (is_bound n bindings)) (needs n x) (ap not y)
        (and_parts (has w n) (needs n x) (sym (has_params w wanted n) ∙ u)).1))) ∙
        ap (λ z. find z n) (sym renewed) in
        alone refl (record {
          left = env';
          starts = here.starts;
          derives =
              swapped g' shapes' text here.derives (added_name of k) (arguments [] ps) (arguments bindings ps) env'
              (form_call of w k x p.0)
              (λ us h. arguments_to text bindings ps i env' inside us same (held_by text ps inside i us h)) q';
          keeps = keeps_none env env';
        })

    -- the items of a list, with the environment of its declaration
    pub lists_to : {c : DeclKind} {y : Symbol} {env : Environment} {i j : ℕ} {t : Tree} {starts items : List ℕ} →
        Lists g shapes text c y env i j t starts items → (of : List ℕ) (v : Visible) (k : ℕ) → Quiet g c →
        Proper May v y → AllDeclared g' shapes' (added of v k y) → Binds v env →
        (ws : List Value) → Holds (params_for v (λ n. needs n y)) env ws → InstanceTo (added_name of k) ws Plain i j t
    lists_to (nil c x env i) of v k q p all b ws holds =
        let ps = params_for v (λ n. needs n (Star x)) in
        record {
          starts = [];
          instance =
              instance_of g' shapes' text (added_name of k) ps shape.Star
              ([] ∷ (new_symbol of v k (Star x) ∷ new of v (suc k) x) ∷ []) all.0 env ws holds 0 [] refl
              (empty Plain (zipped ps ws) i);
        }
    lists_to (snoc c x env after i h e j t ts ks ls starts us items list item exposes begins) of v k q p all b ws
        holds =
        let wanted : List ℕ → Bool = λ n. needs n (Star x) in
        let ps = params_for v wanted in
        let low = zipped ps ws in
        let agree = entered_agrees v wanted env ws b holds in
        let before = lists_to list of v k q p all b ws holds in
        let own = calling g' shapes' text of k v wanted Plain env low ws holds agree before.instance in
        let here =
        (derives_to item of v (suc k) Plain q quiet_plain p all.1 b low
        (part agree (λ n u. or_right (is_pair n) (needs n x) u))).covers in
        record {
          starts = before.starts ++ here.starts;
          instance =
              instance_of g' shapes' text (added_name of k) ps shape.Star
              ([] ∷ (new_symbol of v k (Star x) ∷ new of v (suc k) x) ∷ []) all.0 env ws holds 1
              (new_symbol of v k (Star x) ∷ new of v (suc k) x) refl
              (symbol Plain (new_symbol of v k (Star x)) (new of v (suc k) x) low low here.left i h h j (one t) ts
              (more t ts) before.starts here.starts _ own here.covers refl refl);
        }
    lists_to (one_item c x env after i e j ts starts item) of v k q p all b ws holds =
        let wanted : List ℕ → Bool = λ n. needs n (Plus x) in
        let ps = params_for v wanted in
        let low = zipped ps ws in
        let agree = entered_agrees v wanted env ws b holds in
        let here =
        (derives_to item of v (suc k) Plain q quiet_plain p all.1 b low
        (part agree (λ n u. or_right (is_pair n) (needs n x) u))).covers in
        record {
          starts = here.starts;
          instance =
              instance_of g' shapes' text (added_name of k) ps shape.Plus
              (new of v (suc k) x ∷ (new_symbol of v k (Plus x) ∷ new of v (suc k) x) ∷ []) all.0 env ws holds 0
              (new of v (suc k) x) refl here.covers;
        }
    lists_to (more_items c x env after i h e j t ts ks ls starts us items list item exposes begins) of v k q p all b
        ws holds =
        let wanted : List ℕ → Bool = λ n. needs n (Plus x) in
        let ps = params_for v wanted in
        let low = zipped ps ws in
        let agree = entered_agrees v wanted env ws b holds in
        let before = lists_to list of v k q p all b ws holds in
        let own = calling g' shapes' text of k v wanted Plain env low ws holds agree before.instance in
        let here =
        (derives_to item of v (suc k) Plain q quiet_plain p all.1 b low
        (part agree (λ n u. or_right (is_pair n) (needs n x) u))).covers in
        record {
          starts = before.starts ++ here.starts;
          instance =
              instance_of g' shapes' text (added_name of k) ps shape.Plus
              (new of v (suc k) x ∷ (new_symbol of v k (Plus x) ∷ new of v (suc k) x) ∷ []) all.0 env ws holds 1
              (new_symbol of v k (Plus x) ∷ new of v (suc k) x) refl
              (symbol Plain (new_symbol of v k (Plus x)) (new of v (suc k) x) low low here.left i h h j (one t) ts
              (more t ts) before.starts here.starts _ own here.covers refl refl);
        }
    lists_to (first_item c x separator env after i e j ts starts item) of v k q p all b ws holds =
        let wanted : List ℕ → Bool = λ n. needs n (SepPlus x separator) in
        let ps = params_for v wanted in
        let low = zipped ps ws in
        let agree = entered_agrees v wanted env ws b holds in
        let here =
        (derives_to item of v (suc k) Plain q quiet_plain p.0
        (declared_first g' shapes' May (added of v (suc k) x) (added of v (suc k + count x) separator) all.1) b
        low
        (part agree
        (λ n u. or_right (is_pair n) (needs n x || needs n separator)
        (or_left (needs n x) (needs n separator) u)))).covers in
        record {
          starts = here.starts;
          instance =
              instance_of g' shapes' text (added_name of k) ps shape.SepPlus
              (sep_plus_alternatives of v k x separator) all.0 env ws holds 0 (new of v (suc k) x) refl here.covers;
        }
    lists_to
        (further_item c x separator env between after i h f m e j t us ts vs ks ms ls starts rs items list middle item
        trees exposes begins) of v k q p all b ws holds =
        let wanted : List ℕ → Bool = λ n. needs n (SepPlus x separator) in
        let ps = params_for v wanted in
        let low = zipped ps ws in
        let agree = entered_agrees v wanted env ws b holds in
        let before = lists_to list of v k q p all b ws holds in
        let own = calling g' shapes' text of k v wanted Plain env low ws holds agree before.instance in
        let one_part =
        (derives_to middle of v (suc k + count x) Plain q quiet_plain p.1
        (declared_second g' shapes' May (added of v (suc k) x) (added of v (suc k + count x) separator) all.1) b
        low
        (part agree
        (λ n u. or_right (is_pair n) (needs n x || needs n separator)
        (or_right (needs n x) (needs n separator) u)))).covers in
        let adds = derives_add g shapes May text middle v p.1 in
        let here =
        (derives_to item of v (suc k) Plain q quiet_plain p.0
        (declared_first g' shapes' May (added of v (suc k) x) (added of v (suc k + count x) separator) all.1) b
        one_part.left
        (record {
          at = λ n u. sym (adds.others n (p.2 n u)) ∙
              one_part.keeps.at n
              (agree.at n
              (or_right (is_pair n) (needs n x || needs n separator)
              (or_left (needs n x) (needs n separator) u)));
        })).covers in
        record {
          starts = before.starts ++ (one_part.starts ++ here.starts);
          instance =
              instance_of g' shapes' text (added_name of k) ps shape.SepPlus
              (sep_plus_alternatives of v k x separator) all.0 env ws holds 1
              (new_symbol of v k (SepPlus x separator) ∷ (new of v (suc k + count x) separator ++ new of v (suc k) x))
              refl
              (symbol Plain (new_symbol of v k (SepPlus x separator))
              (new of v (suc k + count x) separator ++ new of v (suc k) x) low low here.left i h h j (one t) vs
              (more t vs)
              before.starts (one_part.starts ++ here.starts) _ own
              (subst
              (λ z. Covers g' shapes' text Plain (new of v (suc k + count x) separator ++ new of v (suc k) x) low
              h j z here.left (one_part.starts ++ here.starts)) (sym trees)
              (joined g' shapes' text one_part.covers here.covers)) refl refl);
        }
    lists_to (no_item c x separator env i) of v k q p all b ws holds =
        let ps = params_for v (λ n. needs n (SepStar x separator)) in
        record {
          starts = [];
          instance =
              instance_of g' shapes' text (added_name of k) ps shape.SepStar
              ([] ∷ (new_symbol of v (suc k) (SepPlus x separator) ∷ []) ∷ []) all.0 env ws holds 0 [] refl
              (empty Plain (zipped ps ws) i);
        }
    lists_to (some_items c x separator env i j t starts items list) of v k q p all b ws holds =
        let wanted : List ℕ → Bool = λ n. needs n (SepPlus x separator) in
        let ps = params_for v wanted in
        let low = zipped ps ws in
        let agree = entered_agrees v wanted env ws b holds in
        let before = lists_to list of v (suc k) q p all.1 b ws holds in
        let own = calling g' shapes' text of (suc k) v wanted Plain env low ws holds agree before.instance in
        record {
          starts = before.starts ++ [];
          instance =
              instance_of g' shapes' text (added_name of k) ps shape.SepStar
              ([] ∷ (new_symbol of v (suc k) (SepPlus x separator) ∷ []) ∷ []) all.0 env ws holds 1
              (new_symbol of v (suc k) (SepPlus x separator) ∷ []) refl
              (symbol Plain (new_symbol of v (suc k) (SepPlus x separator)) [] low low low i j j j (one t) none
              (one t) before.starts [] _ own (empty Plain low j) refl refl);
        }

    pub instance_to : {name : List ℕ} {vs : List Value} {kind : DeclKind} {i e : ℕ} {t : Tree} {starts : List ℕ} →
        Instance g shapes text name vs kind i e t starts → InstanceTo name vs kind i e t
    instance_to
        (alternative name vs kind d n decl sh a env after i e ts t starts declares numbered bound same covers tree) =
        let num = takes.numbered_to name d decl sh declares n a numbered in
        let q : Quiet g kind = λ z. takes.quiet name d decl sh declares (sym same ∙ z) in
        let here =
        covers_to covers decl.name (parameters decl.params) num.begins.k kind q (quiet' q) num.begins.proper
        num.begins.present
        (binds_parameters decl.params vs env bound) env (record { at = λ m u. refl }) in
        record {
          starts = here.starts;
          instance =
              alternative name vs kind d n (new_declaration decl) sh num.lower env here.left i e ts t here.starts
              (takes.forth name d decl sh declares) num.numbered bound same
              (subst (λ z. Covers g' shapes' text kind z env i e ts here.left here.starts) (sym num.same) here.covers)
              tree;
        }
