-- The core grammar of a grammar has the trees that the grammar permits, with the same values.
use Rattle.std.proofs.Common.{◌≡◌, ℕ, zero, suc, ◌<◌, List, [], ◌∷◌, map, All, Some, None, length, slice_get, refl, sym, ap, ◌∙◌, subst, arith, inl, inr}
use Rattle.std.specs.Prelude.{◌⊎◌, ◌↔◌}
use Rattle.std.specs.Option.{unwrap_or}
use Rattle.std.proofs.lemmas.Option.{same_Some, slice_get_within}
use Rattle.std.proofs.lemmas.List.Elements.{All-nil, All-cons}
use Rattle.ig_text.specs.Input.{Input}
use Rattle.ig_text.specs.declared.tag.Tag.TheVariants as tag
use Rattle.ig_text.specs.Tree.{Tree, Trees, Node}
use Rattle.ig_text.proofs.Pairwise.{beside}
use Rattle.ig_text.proofs.Lists.{contains_from_at, mapped_at, only_one}
use Rattle.ig_grammar.specs.Symbol.{Symbol, Call}
use Rattle.ig_meaning.specs.Annotated.{Annotates}
use Rattle.ig_meaning.specs.Environment.{values}
use Rattle.ig_grammar.specs.Numbering.{Levelled, Declares, IsAlternative, alternatives, tag_of, layout_among}
use Rattle.ig_meaning.specs.Permitted.{Permitted, IsRootAlternative, written, declared, behind_layout}
use Rattle.ig_meaning.specs.Laws.{TreesWithoutOperatorsAreClean}
use Rattle.ig_grammar.specs.declared.declaration.DeclKind.{DeclKind}
use Rattle.ig_grammar.specs.declared.declaration.DeclKind.TheVariants.{Syntax}
use Rattle.ig_grammar.specs.declared.declaration.Decl.{Decl}
use Rattle.ig_grammar.specs.declared.declaration.Assoc.TheVariants.{Free}
use Rattle.ig_grammar.specs.declared.symbol.Alt.{Alt}
use Rattle.ig_grammar.specs.declared.grammar.Grammar.{Grammar}
use Rattle.ig_grammar.specs.declared.place.Shape.{Shape}
use Rattle.ig_grammar.specs.declared.place.Shape.TheVariants.{Rule, Root}
use Rattle.ig_expr.specs.ValuedTree as valued
use Rattle.ig_expr.specs.declared.value.Value.{Value}
use Rattle.ig_item.specs.Annotated as item
use Rattle.ig_item.specs.Core as core
use Rattle.ig_item.specs.CoreTrees as trees
use Rattle.ig_item.specs.CoreTrees.{Leads, HasTree, CoreTree}
use Rattle.ig_item.specs.declared.core_grammar.Nonterminal.{Nonterminal}
use Rattle.ig_item.specs.declared.core_grammar.CoreAlt.{CoreAlt}
use Rattle.ig_pass.specs.Remaining.{Remains}
use Rattle.ig_core.specs.Steps.{steps_of}
use Rattle.ig_core.specs.CoreOf.{Shaped, shaped, unrooted, root_among, written_root, start_symbols, root_of, place, number_of, alternatives_of, nonterminal_of, core_of}
use Rattle.ig_core.proofs.Scoped.{ready_has_core}
use Rattle.ig_core.proofs.Premises.{IsCalled, HasCore}
use Rattle.ig_core.specs.Ready.{IsReady}
use Rattle.ig_core.proofs.Numbers.{Target, Source, Numbers}
use Rattle.ig_pass.specs.EachLevel.{alternative_at as without_level}
use Rattle.ig_core.proofs.Forth.{leads}
use Rattle.ig_core.proofs.Values.{leaves}
use Rattle.ig_core.proofs.Back.{CoversFrom, covers}
use Rattle.ig_core.proofs.Places.{kept, Origin, origin, root_cases, RootAt, NoRoot, found, there, nonterminal_at, nonterminal_was, alternative_at, alternative_was, with_level, same_tag}

-- a nonterminal of the core grammar, and its alternative
pub record AtNumber (number : List ℕ → ℕ) (n k : ℕ) (x : Shaped) (nonterminal : Nonterminal) (made_of : CoreAlt) : Type 0 where
  pub a : Levelled
  pub numbered : IsAlternative x.decl k a
  pub params : nonterminal.params ≡ map (λ p. p.name) x.decl.params
  pub same : made_of ≡ record { tag = tag_of x.shape n k; steps = steps_of number a.alternative.symbols }

pub at_number : (number : List ℕ → ℕ) (n k : ℕ) (x : Shaped) (nonterminal : Nonterminal) (alt : CoreAlt) → nonterminal ≡ nonterminal_of number n x →
    core.numbered nonterminal.alternatives k ≡ Some alt → AtNumber number n k x nonterminal alt
at_number number n zero x nonterminal alt is has = absurd (cc)
at_number number n (suc k) x nonterminal alt is has =
    let from =
    alternative_was number x.shape n (alternatives x.decl.levels) k alt
    (ap (λ (z : Nonterminal). slice_get z.alternatives k) (sym is) ∙ has) in
    let levelled = with_level x.decl.levels k from.0 from.1 in
    record {
      a = levelled.0;
      numbered = (k, refl, levelled.1);
      params = ap (λ (z : Nonterminal). z.params) is;
      same =
          from.2 ∙ ap (λ (z : Alt). record { tag = tag_of x.shape n (suc k); steps = steps_of number z.symbols }) (sym levelled.2);
    }

pub to_number : (number : List ℕ → ℕ) (n k : ℕ) (x : Shaped) (a : Levelled) → IsAlternative x.decl k a →
    core.numbered (alternatives_of number x.shape n 1 (alternatives x.decl.levels)) k ≡
    Some (record { tag = tag_of x.shape n k; steps = steps_of number a.alternative.symbols })
to_number number n k x a is =
    ap (core.numbered (alternatives_of number x.shape n 1 (alternatives x.decl.levels))) is.1 ∙
    alternative_at number x.shape n (alternatives x.decl.levels) is.0 a.alternative (without_level x.decl.levels is.0 a is.2) ∙
    ap (λ (z : ℕ). Some (record { tag = tag_of x.shape n z; steps = steps_of number a.alternative.symbols })) (sym is.1)

module _ (g : Grammar) (shapes : List Shape) (text : Input) (has : HasCore g shapes) where
  abbrev pub number : List ℕ → ℕ
  number = number_of g shapes

  abbrev pub May : List ℕ → ℕ → Type 0
  May = IsCalled g shapes

  -- declarations of one name are one
  pub once : (j k : ℕ) (x y : Decl) → slice_get g.decls j ≡ Some x → slice_get g.decls k ≡ Some y → x.name ≡ y.name → j ≡ k
  once j k x y at_j at_k same = has.distinct j k x.name (mapped_at (λ (z : Decl). z.name) g.decls j x at_j) (mapped_at (λ (z : Decl). z.name) g.decls k y at_k ∙ ap Some (sym same))

  rule_first : (k : ℕ) → slice_get shapes k ≡ Some Rule → (r : ℕ) → slice_get shapes r ≡ Some Root → k < r
  rule_first k at r root = has.after_rules k r at root

  -- the tag of a declaration has its nonterminal's number
  own_tag : (m : ℕ) (x : Shaped) (o : Origin g.decls shapes m x) (a : ℕ) → tag_of x.shape (suc m) a ≡ tag_of x.shape (suc o.k) a
  own_tag m x o a = same_tag x.shape (suc m) (suc o.k) a (λ rule. ap suc (o.same (rule_first o.k (o.shape_at ∙ ap Some rule))))

  target : (name : List ℕ) (n d k : ℕ) (decl : Decl) (shape : Shape) (a : Levelled) → May name n → Declares g shapes name d decl shape →
      IsAlternative decl k a → Target g shapes (core_of g shapes) number May name d k decl shape a
  target name n d k decl shape a may declares is =
      let same_place : may.0 ≡ declares.numbered.0 =
      once may.0 declares.numbered.0 may.1 decl may.3 declares.numbered.2 (may.6 ∙ sym declares.named) in
      let same_shape_place : may.0 ≡ declares.shaped.0 = (let p : suc declares.numbered.0 ≡ suc declares.shaped.0 = sym declares.numbered.1 ∙ declares.shaped.1 in omega (arith, p, same_place)) in
      let shape_is : may.2 ≡ shape = same_Some may.2 shape (sym may.4 ∙ ap (slice_get shapes) same_shape_place ∙ declares.shaped.2) in
      let one = kept g.decls shapes may.0 may.1 may.2 may.3 may.4 may.5 in
      let at = there (unrooted g.decls shapes) name one.m (shaped may.1 may.2) one.at may.6 in
      let x = at.0 in
      let m = place (unrooted g.decls shapes) name in
      let o = origin g.decls shapes m x at.1 in
      let own : o.k ≡ declares.numbered.0 =
      once o.k declares.numbered.0 x.decl decl o.decl_at declares.numbered.2 (found (unrooted g.decls shapes) name x at.1 ∙ sym declares.named) in
      let own_shape : o.k ≡ declares.shaped.0 = (let p : suc declares.numbered.0 ≡ suc declares.shaped.0 = sym declares.numbered.1 ∙ declares.shaped.1 in omega (arith, p, own)) in
      let decl_is : x.decl ≡ decl = same_Some x.decl decl (sym o.decl_at ∙ ap (slice_get g.decls) own ∙ declares.numbered.2) in
      let x_shape : x.shape ≡ shape = same_Some x.shape shape (sym o.shape_at ∙ ap (slice_get shapes) own_shape ∙ declares.shaped.2) in
      let d_is : suc o.k ≡ d = ap suc own ∙ sym declares.numbered.1 in
      let tags : tag_of x.shape (suc m) k ≡ tag_of shape d k =
      own_tag m x o k ∙ ap (λ (z : Shape). tag_of z (suc o.k) k) x_shape ∙ ap (λ (z : ℕ). tag_of shape z k) d_is in
      record {
        nonterminal = nonterminal_of number (suc m) x;
        has =
            record {
              there = nonterminal_at number (unrooted g.decls shapes) m x at.1;
              has =
                  to_number number (suc m) k x a (subst (λ (z : Decl). IsAlternative z k a) (sym decl_is) is) ∙
                  ap (λ z. Some (record { tag = z; steps = steps_of number a.alternative.symbols })) tags;
            };
        params = ap (λ (z : Decl). map (λ p. p.name) z.params) decl_is;
      }

  -- the nonterminal of a name that may be called
  pub callee : (name : List ℕ) (n : ℕ) (may : May name n) →
      (x : Shaped) × (slice_get (core_of g shapes) (number name) ≡ Some (nonterminal_of number (number name) x)) × (x.decl ≡ may.1)
  callee name n may =
      let one = kept g.decls shapes may.0 may.1 may.2 may.3 may.4 may.5 in
      let at = there (unrooted g.decls shapes) name one.m (shaped may.1 may.2) one.at may.6 in
      let x = at.0 in
      let m = place (unrooted g.decls shapes) name in
      let o = origin g.decls shapes m x at.1 in
      let own : o.k ≡ may.0 = once o.k may.0 x.decl may.1 o.decl_at may.3 (found (unrooted g.decls shapes) name x at.1 ∙ sym may.6) in (
        x,
        nonterminal_at number (unrooted g.decls shapes) m x at.1,
        same_Some x.decl may.1 (sym o.decl_at ∙ ap (slice_get g.decls) own ∙ may.3),
      )

  source : (name : List ℕ) (n k : ℕ) (nonterminal : Nonterminal) (alternative : CoreAlt) → May name n →
      core.IsAlternative (core_of g shapes) (number name) k nonterminal alternative →
      Source g shapes (core_of g shapes) number May name n k nonterminal alternative
  source name n k nonterminal alternative may is =
      let m = place (unrooted g.decls shapes) name in
      let from = nonterminal_was number (unrooted g.decls shapes) m nonterminal is.there in
      let x = from.0 in
      let o = origin g.decls shapes m x from.1 in
      let at = at_number number (suc m) k x nonterminal alternative from.2 is.has in
      let named : x.decl.name ≡ name = found (unrooted g.decls shapes) name x from.1 in
      let own : may.0 ≡ o.k = once may.0 o.k may.1 x.decl may.3 o.decl_at (may.6 ∙ sym named) in
      let decl_is : may.1 ≡ x.decl = same_Some may.1 x.decl (sym may.3 ∙ ap (slice_get g.decls) own ∙ o.decl_at) in
      record {
        d = suc o.k;
        decl = x.decl;
        shape = x.shape;
        a = at.a;
        declares = record { numbered = (o.k, refl, o.decl_at); shaped = (o.k, refl, o.shape_at); named = named };
        numbered = at.numbered;
        params = at.params;
        arity = ap (λ (z : Decl). length z.params) (sym decl_is) ∙ may.7;
        same = at.same ∙ ap (λ z. record { tag = z; steps = steps_of number at.a.alternative.symbols }) (own_tag m x o k);
      }

  remaining : (decl : Decl) (k b : ℕ) (a : Levelled) → slice_get g.decls b ≡ Some decl → IsAlternative decl k a → All (Remains May) a.alternative.symbols
  remaining decl k b a at is =
      has.remains decl a.alternative (contains_from_at g.decls b decl at)
      (contains_from_at (alternatives decl.levels) is.0 a.alternative (without_level decl.levels is.0 a is.2))

  numbers : Numbers g shapes (core_of g shapes) number May
  numbers =
      record {
        forth = target;
        back = source;
        remains = λ name d k decl shape a declares is. remaining decl k declares.numbered.0 a declares.numbered.2 is;
        no_layout = has.no_layout;
      }

  -- the root alternative of the core grammar
  root_is_alternative : (root : Decl) (a : Levelled) → root_of g shapes ≡ root → IsAlternative root 1 a →
      core.IsAlternative (core_of g shapes) 0 1 (nonterminal_of number 0 (shaped root Root))
      (record { tag = tag.Root; steps = steps_of number a.alternative.symbols })
  root_is_alternative root a is alternative =
      record {
        there = ap (λ (z : Decl). Some (nonterminal_of number 0 (shaped z Root))) is;
        has = to_number number 0 1 (shaped root Root) a alternative;
      }

  root_to : (root : Decl) (a : Levelled) (children : Trees) (t : Tree) → root_of g shapes ≡ root → root.params ≡ [] → IsAlternative root 1 a →
      Leads (core_of g shapes) text [] [] (steps_of number a.alternative.symbols) 0 (length text.characters) children → t ≡ Node tag.Root 0 (length text.characters) children →
      CoreTree (core_of g shapes) text t
  root_to root a children t is plain alternative lead whole =
      trees.node 0 1 [] (nonterminal_of number 0 (shaped root Root)) (record { tag = tag.Root; steps = steps_of number a.alternative.symbols }) 0 (length text.characters)
      children t (root_is_alternative root a is alternative)
      (subst (λ z. Leads (core_of g shapes) text z [] (steps_of number a.alternative.symbols) 0 (length text.characters) children)
      (sym (ap (λ ps. map (λ p. p.name) ps) plain)) lead) whole

  record RootFrom (c : DeclKind) (root : Decl) (t : Tree) : Type 0 where
    a : Levelled
    k : ℕ
    numbered : IsAlternative root k a
    children : Trees
    covered : CoversFrom g shapes (core_of g shapes) number May text numbers c a.alternative.symbols [] 0 (length text.characters) children
    whole : t ≡ Node tag.Root 0 (length text.characters) children

  root_from : {n : ℕ} {vs : List Value} {i j : ℕ} {t : Tree} → HasTree (core_of g shapes) text n vs i j t → n ≡ 0 → vs ≡ [] → i ≡ 0 → j ≡ length text.characters →
      (c : DeclKind) (root : Decl) → root_of g shapes ≡ root → root.params ≡ [] →
      ((k : ℕ) (a : Levelled) → IsAlternative root k a → All (Remains May) a.alternative.symbols) → RootFrom c root t
  root_from (trees.node n k vs nonterminal alternative i j ts t is lead whole) zero_n nil first last c root root_is plain all =
      let there : slice_get (core_of g shapes) 0 ≡ Some nonterminal = ap (slice_get (core_of g shapes)) (sym zero_n) ∙ is.there in
      let nonterminal_is : nonterminal ≡ nonterminal_of number 0 (shaped root Root) =
      sym (same_Some (nonterminal_of number 0 (shaped (root_of g shapes) Root)) nonterminal there) ∙ ap (λ (z : Decl). nonterminal_of number 0 (shaped z Root)) root_is in
      let at = at_number number 0 k (shaped root Root) nonterminal alternative nonterminal_is is.has in
      let from =
      covers g shapes (core_of g shapes) number May text numbers lead c at.a.alternative.symbols (all k at.a at.numbered)
      (ap (λ (z : CoreAlt). z.steps) at.same) [] (at.params ∙ ap (λ ps. map (λ p. p.name) ps) plain) nil in
      record {
        a = at.a;
        k = k;
        numbered = at.numbered;
        children = ts;
        covered =
            subst (λ z. CoversFrom g shapes (core_of g shapes) number May text numbers c at.a.alternative.symbols [] z (length text.characters) ts) first
            (subst (λ z. CoversFrom g shapes (core_of g shapes) number May text numbers c at.a.alternative.symbols [] i z ts) last from);
        whole =
            whole ∙ ap (λ (z : CoreAlt). Node z.tag i j ts) at.same ∙ ap (λ z. Node tag.Root z j ts) first ∙ ap (λ z. Node tag.Root 0 z ts) last;
      }

  all_alternatives : (decl : Decl) (k : ℕ) → slice_get g.decls k ≡ Some decl → (n : ℕ) (a : Levelled) → IsAlternative decl n a → All (Remains May) a.alternative.symbols
  all_alternatives decl k at n a is = remaining decl n k a at is

  -- a declaration of a shape, where both stand in one place
  declares_at : (k : ℕ) (decl : Decl) (shape : Shape) → slice_get g.decls k ≡ Some decl → slice_get shapes k ≡ Some shape →
      Declares g shapes decl.name (suc k) decl shape
  declares_at k decl shape at shape_at = record { numbered = (k, refl, at); shaped = (k, refl, shape_at); named = refl }

  pub shape_beside : {name : List ℕ} {d : ℕ} {decl : Decl} {shape : Shape} → (declares : Declares g shapes name d decl shape) →
      slice_get shapes declares.numbered.0 ≡ Some shape
  shape_beside declares =
      let p : suc declares.numbered.0 ≡ suc declares.shaped.0 = sym declares.numbered.1 ∙ declares.shaped.1 in
      let same : declares.numbered.0 ≡ declares.shaped.0 = omega (arith, p) in
      ap (slice_get shapes) same ∙ declares.shaped.2

  pub no_declared : NoRoot g.decls shapes → (start : List ℕ) (d : ℕ) (decl : Decl) → Declares g shapes start d decl Root → ⊥
  no_declared none start d decl declares = none declares.numbered.0 decl declares.numbered.2 (shape_beside declares)

  -- where no declaration stands for the root
  start_name : List ℕ
  start_name = has.started.0

  abbrev pub start_calls : List Symbol
  start_calls = behind_layout (layout_among g.decls) (Call has.started.0 [] ∷ [])

  pub symbols_are : start_symbols g g.start ≡ start_calls
  symbols_are = ap (start_symbols g) has.started.1

  pub calls_are : start_calls ≡ Call has.started.0 [] ∷ []
  calls_are = ap (λ z. behind_layout z (Call has.started.0 [] ∷ [])) has.no_layout

  pub may_start : NoRoot g.decls shapes → May has.started.0 0
  may_start none =
      let k = has.started.2.0 in
      let decl = has.started.2.1 in
      let shape = beside g.decls shapes k decl has.counted has.started.2.2 in
      (k, decl, shape.0, has.started.2.2, shape.1, (λ same. none k decl has.started.2.2 (shape.1 ∙ ap Some same)), has.started.2.3, has.started.2.4)

  start_remains : NoRoot g.decls shapes → All (Remains May) start_calls
  start_remains none =
      subst (λ z. All (Remains May) z) (sym calls_are)
      (All-cons (Remains May) (Call has.started.0 []) [] (may_start none) (All-nil (Remains May)))

  abbrev pub first_alternative : Levelled
  first_alternative = record { alternative = record { symbols = start_symbols g g.start }; level = 1; assoc = Free }

  pub written_is : (k : ℕ) (a : Levelled) → IsAlternative (written_root g) k a → a.alternative.symbols ≡ start_calls
  written_is k a is = ap (λ (z : Levelled). z.alternative.symbols) (sym (only_one first_alternative a is.0 is.2)) ∙ symbols_are

  pub unrooted_root : root_among g.decls shapes ≡ None → root_of g shapes ≡ written_root g
  unrooted_root none = ap (λ o. unwrap_or o (written_root g)) none

  pub rooted_root : (decl : Decl) → RootAt g.decls shapes decl → root_of g shapes ≡ decl
  rooted_root decl at = ap (λ o. unwrap_or o (written_root g)) at.chosen

  permitted : TreesWithoutOperatorsAreClean → {t : Tree} (kind : DeclKind) (symbols : List Symbol) (children : Trees) → IsRootAlternative g shapes kind symbols →
      CoversFrom g shapes (core_of g shapes) number May text numbers kind symbols [] 0 (length text.characters) children → t ≡ Node tag.Root 0 (length text.characters) children →
      Permitted g shapes text t
  permitted clean {t = t} kind symbols children root covered whole =
      record {
        kind = kind;
        symbols = symbols;
        children = children;
        after = covered.after;
        starts = covered.starts;
        root = root;
        covered = covered.covers;
        whole = whole;
        clean = clean g has.free t;
      }

  to_permitted : TreesWithoutOperatorsAreClean → (t : Tree) → CoreTree (core_of g shapes) text t → Permitted g shapes text t
  to_permitted clean t tree = go (root_cases g.decls shapes)
    where
      go : ((root_among g.decls shapes ≡ None) × NoRoot g.decls shapes) ⊎ ((decl : Decl) × RootAt g.decls shapes decl) → Permitted g shapes text t
      go (inl none) =
          let from =
          root_from tree refl refl refl refl Syntax (written_root g) (unrooted_root none.0) refl
          (λ k a is. subst (λ z. All (Remains May) z) (sym (written_is k a is)) (start_remains none.1)) in
          permitted clean Syntax start_calls from.children
          (written has.started.0 start_calls has.started.1 (λ d decl declares. no_declared none.1 has.started.0 d decl declares) refl)
          (subst (λ z. CoversFrom g shapes (core_of g shapes) number May text numbers Syntax z [] 0 (length text.characters) from.children)
          (written_is from.k from.a from.numbered) from.covered) from.whole
      go (inr there) =
          let decl = there.0 in
          let at = there.1 in
          let rooted = has.rooted at.k decl at.decl_at at.shape_at in
          let from =
          root_from tree refl refl refl refl decl.kind decl (rooted_root decl at) rooted.2 (all_alternatives decl at.k at.decl_at) in
          let within : from.numbered.0 < length (alternatives decl.levels) =
          slice_get_within (alternatives decl.levels) from.numbered.0 from.a.alternative (without_level decl.levels from.numbered.0 from.a from.numbered.2) in
          let one : length (alternatives decl.levels) ≡ 1 = rooted.1 in
          let first : 1 ≡ suc from.numbered.0 = omega (arith, within, one) in
          permitted clean decl.kind from.a.alternative.symbols from.children
          (declared decl.name (suc at.k) decl from.a decl.kind from.a.alternative.symbols rooted.0 (declares_at at.k decl Root at.decl_at at.shape_at)
          (from.numbered.0, first, from.numbered.2) refl refl) from.covered from.whole

  -- the root of the core grammar has the root alternative
  record RootOf (symbols : List Symbol) : Type 0 where
    root : Decl
    a : Levelled
    is : root_of g shapes ≡ root
    plain : root.params ≡ []
    numbered : IsAlternative root 1 a
    same : symbols ≡ a.alternative.symbols
    remains : All (Remains May) symbols

  root_alternative : {kind : DeclKind} {symbols : List Symbol} → IsRootAlternative g shapes kind symbols → RootOf symbols
  root_alternative alternative = go alternative (root_cases g.decls shapes)
    where
      go : {kind : DeclKind} {symbols : List Symbol} → IsRootAlternative g shapes kind symbols →
          ((root_among g.decls shapes ≡ None) × NoRoot g.decls shapes) ⊎ ((decl : Decl) × RootAt g.decls shapes decl) → RootOf symbols
      go (written start symbols start_is undeclared same) (inl none) =
          let start_same : start ≡ has.started.0 = same_Some start has.started.0 (sym start_is ∙ has.started.1) in
          let symbols_same : symbols ≡ start_calls = same ∙ ap (λ z. behind_layout (layout_among g.decls) (Call z [] ∷ [])) start_same in
          record {
            root = written_root g;
            a = first_alternative;
            is = unrooted_root none.0;
            plain = refl;
            numbered = (0, refl, refl);
            same = symbols_same ∙ sym symbols_are;
            remains = subst (λ z. All (Remains May) z) (sym symbols_same) (start_remains none.1);
          }
      go (written start symbols start_is undeclared same) (inr there) =
          let at = there.1 in
          let rooted = has.rooted at.k there.0 at.decl_at at.shape_at in
          let start_same : there.0.name ≡ start = same_Some there.0.name start (sym rooted.0 ∙ start_is) in
          absurd (undeclared (suc at.k) there.0 (subst (λ z. Declares g shapes z (suc at.k) there.0 Root) start_same (declares_at at.k there.0 Root at.decl_at at.shape_at)))
      go (declared start d decl a kind symbols start_is declares is kinds same) (inl none) = absurd (no_declared none.1 start d decl declares)
      go (declared start d decl a kind symbols start_is declares is kinds same) (inr there) =
          let at = there.1 in
          let rooted = has.rooted at.k there.0 at.decl_at at.shape_at in
          let start_same : there.0.name ≡ decl.name = same_Some there.0.name start (sym rooted.0 ∙ start_is) ∙ sym declares.named in
          let place_same : at.k ≡ declares.numbered.0 = once at.k declares.numbered.0 there.0 decl at.decl_at declares.numbered.2 start_same in
          let decl_same : there.0 ≡ decl = same_Some there.0 decl (sym at.decl_at ∙ ap (slice_get g.decls) place_same ∙ declares.numbered.2) in
          record {
            root = decl;
            a = a;
            is = rooted_root there.0 at ∙ decl_same;
            plain = ap (λ (z : Decl). z.params) (sym decl_same) ∙ rooted.2;
            numbered = is;
            same = same;
            remains =
                subst (λ z. All (Remains May) z) (sym same)
                (all_alternatives decl declares.numbered.0 declares.numbered.2 1 a is);
          }

  from_permitted : (t : Tree) → Permitted g shapes text t → CoreTree (core_of g shapes) text t
  from_permitted t p =
      let at = root_alternative p.root in
      root_to at.root at.a p.children t at.is at.plain at.numbered
      (subst (λ z. Leads (core_of g shapes) text [] [] (steps_of number z) 0 (length text.characters) p.children) at.same
      (leads g shapes (core_of g shapes) number May text numbers p.covered at.remains)) p.whole

  -- the root, with values
  from_annotated : (t : Tree) (u : valued.Tree) → Annotates g shapes text t u → item.Annotates (core_of g shapes) text t u
  from_annotated t u annotated =
      let at = root_alternative annotated.root in
      let steps = steps_of number at.a.alternative.symbols in
      let bound = values annotated.after in
      record {
        within =
            item.node 0 1 [] (nonterminal_of number 0 (shaped at.root Root)) (record { tag = tag.Root; steps = steps }) 0 (length text.characters) annotated.children bound u
            (root_is_alternative at.root at.a at.is at.numbered)
            (subst (λ z. item.Leaves (core_of g shapes) text z [] steps 0 (length text.characters) annotated.children bound)
            (sym (ap (λ ps. map (λ p. p.name) ps) at.plain))
            (subst (λ z. item.Leaves (core_of g shapes) text [] [] (steps_of number z) 0 (length text.characters) annotated.children bound) at.same
            (leaves g shapes (core_of g shapes) number May text numbers annotated.binds at.remains)))
            annotated.whole;
        same = annotated.same;
      }

-- the core grammar of what the passes leave has the trees that it permits
pub core_trees_permitted : TreesWithoutOperatorsAreClean → (g : Grammar) (shapes : List Shape) (text : Input) (t : Tree) →
    IsReady g shapes → CoreTree (core_of g shapes) text t ↔ Permitted g shapes text t
core_trees_permitted clean g shapes text t ready =
    let has = ready_has_core g shapes ready in
    (to_permitted g shapes text has clean t, from_permitted g shapes text has t)

-- and what annotates a permitted tree annotates it there
pub core_values : (g : Grammar) (shapes : List Shape) (text : Input) (t : Tree) (u : valued.Tree) → IsReady g shapes →
    Annotates g shapes text t u → item.Annotates (core_of g shapes) text t u
core_values g shapes text t u ready = from_annotated g shapes text (ready_has_core g shapes ready) t u
