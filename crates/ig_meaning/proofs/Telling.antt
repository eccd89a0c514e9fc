-- Two derivations of one symbol whose trees have the same numbers of tags have the same tags, where each name is declared
-- once and the numbers of tags tell alternatives apart.
use Rattle.std.proofs.Common.{◌≡◌, ℕ, suc, List, [], refl, sym, ◌∙◌, ap, subst, arith, inl, inr, Some, None}
use Rattle.std.specs.Prelude.{◌≢◌, slice_get, option_map}
use Rattle.std.proofs.lemmas.Option.{slice_get-map, same_Some}
use Rattle.ig_text.specs.Input.{Input}
use Rattle.ig_text.specs.declared.tag.Tag.{Tag}
use Rattle.ig_text.specs.declared.tag.Tag.TheVariants as tag
use Rattle.ig_text.specs.Tree.{Tree, Trees, Leaf, Node, none, more, one, join}
use Rattle.ig_expr.specs.declared.value.Value.{Value}
use Rattle.ig_grammar.specs.Symbol.{Symbol, Star, Plus, SepStar, SepPlus, Filtered}
use Rattle.ig_grammar.specs.Symbol.{Symbols, Alternatives, listed}
use Rattle.ig_meaning.specs.Environment.{Environment}
use Rattle.ig_grammar.specs.Names.{names, AreDistinct}
use Rattle.ig_grammar.specs.Numbering.{Levelled, by_level, Declares, IsAlternative, IsChoice, choice, tag_of, layout_among}
use Rattle.ig_meaning.specs.Derivation.{Covers, Derives, Lists, Items, Instance, Trails}
use Rattle.ig_meaning.specs.Derivation.{empty, symbol, literal, one_of, token, call, label, guard, let_be, absent, present, star, plus, sep_star, sep_plus, group, offside, ignore, align, filtered, sequence, entry}
use Rattle.ig_meaning.specs.Derivation.{nil, snoc, one_item, more_items, first_item, further_item, no_item, some_items, bare, with_filters, alternative, layout, no_layout, outside}
use Rattle.ig_text.specs.TagNumber.{number_of}
use Rattle.ig_text.proofs.Trees.{join-none, join_join}
use Rattle.ig_meaning.proofs.Tags.{TagsTellAlternatives}
use Rattle.ig_grammar.specs.declared.declaration.DeclKind.{DeclKind}
use Rattle.ig_grammar.specs.declared.declaration.DeclKind.TheVariants.{Syntax, Lexical}
use Rattle.ig_grammar.specs.declared.declaration.Decl.{Decl}
use Rattle.ig_grammar.specs.declared.grammar.Grammar.{Grammar}
use Rattle.ig_grammar.specs.declared.place.Shape.{Shape}
use Rattle.ig_meaning.specs.Inversion.{Called, Chosen, Listed, Lengthened, OfOneItem, ListsBy, ItemsBy, TrailsBy}
use Rattle.ig_meaning.proofs.Inversion.{covers_by, derives_by, lists_by, items_by, instance_by, trails_by}
use Rattle.ig_meaning.proofs.Tiling.{AreClose, AllClose, HaveSameTags, AllSameTags}

tags_join : (ts us vs ws : Trees) → AllSameTags ts us → AllSameTags vs ws → AllSameTags (join ts vs) (join us ws)
tags_join none none vs ws a b = b
tags_join none (more u us) vs ws a b = absurd a
tags_join (more t ts) none vs ws a b = absurd a
tags_join (more t ts) (more u us) vs ws a b = (a.0, tags_join ts us vs ws a.1 b)

-- what is close, with further trees behind, has the same tags, and what is behind is close
abbrev ToldBefore : Trees → Trees → Trees → Trees → Type 0
ToldBefore ts us rest others = AllClose (join ts rest) (join us others) → AllSameTags ts us × AllClose rest others

abbrev IsTold : Trees → Trees → Type 0
IsTold ts us = (rest others : Trees) → ToldBefore ts us rest others

abbrev pub IsToldTree : Tree → Tree → Type 0
IsToldTree t u = AreClose t u → HaveSameTags t u

told_as : (ts us vs ws : Trees) → vs ≡ ts → ws ≡ us → IsTold ts us → IsTold vs ws
told_as ts us vs ws p q told = subst (λ z. IsTold z ws) (sym p) (subst (λ z. IsTold ts z) (sym q) told)

told_none : IsTold none none
told_none rest others close = (tt, close)

told_more : (t u : Tree) (ts us : Trees) → IsToldTree t u → IsTold ts us → IsTold (more t ts) (more u us)
told_more t u ts us first told rest others close =
    let behind = told rest others close.2 in ((first close.1, behind.0), behind.1)

told_one : (t u : Tree) → IsToldTree t u → IsTold (one t) (one u)
told_one t u first = told_more t u none none first told_none

told_single : (t u : Tree) (us : Trees) → us ≡ one u → IsToldTree t u → IsTold (one t) us
told_single t u us same first = told_as (one t) (one u) (one t) us refl same (told_one t u first)

told_join : (ts us vs ws : Trees) → IsTold ts us → IsTold vs ws → IsTold (join ts vs) (join us ws)
told_join ts us vs ws first second rest others close =
    let apart : AllClose (join ts (join vs rest)) (join us (join ws others)) =
    subst (AllClose (join ts (join vs rest))) (join_join us ws others) (subst (λ z. AllClose z (join (join us ws) others)) (join_join ts vs rest) close) in
    let a = first (join vs rest) (join ws others) apart in
    let b = second rest others a.1 in (tags_join ts us vs ws a.0 b.0, b.1)

pub told_whole : (ts us : Trees) → IsTold ts us → AllClose ts us → AllSameTags ts us
told_whole ts us told close =
    (told none none (subst (AllClose (join ts none)) (sym (join-none us)) (subst (λ z. AllClose z us) (sym (join-none ts)) close))).0

told_node : (t : Tag) (i j k l : ℕ) (ts us : Trees) (u : Tree) → u ≡ Node t k l us → IsTold ts us → IsToldTree (Node t i j ts) u
told_node t i j k l ts us u same told =
    subst (IsToldTree (Node t i j ts)) (sym same) (λ close. (refl, told_whole ts us told close.1))

-- nodes whose tags have two numbers
told_apart : (t other : Tag) (i j k l : ℕ) (ts us : Trees) (u : Tree) → u ≡ Node other k l us →
    (number_of t ≡ number_of other → ⊥) → IsToldTree (Node t i j ts) u
told_apart t other i j k l ts us u same differ =
    subst (IsToldTree (Node t i j ts)) (sym same) (λ close. absurd (differ close.0))

one_or_two : ◌≡◌ {A = ℕ} 1 2 → ⊥
one_or_two e = omega (arith, e)

two_or_one : ◌≡◌ {A = ℕ} 2 1 → ⊥
two_or_one e = omega (arith, e)

pub choice_once : (choices : Alternatives) (k : ℕ) (xs ys : Symbols) → IsChoice choices k xs → IsChoice choices k ys → xs ≡ ys
choice_once choices k xs ys p q =
    let places : p.0 ≡ q.0 = let both : suc p.0 ≡ suc q.0 = sym p.1 ∙ q.1 in omega (arith, both) in
    same_Some xs ys (sym p.2 ∙ ap (choice choices) places ∙ q.2)

module _ (g : Grammar) (shapes : List Shape) (text : Input) (distinct : AreDistinct (names g.decls)) (tells : TagsTellAlternatives g shapes) where
  pub record AreOne (d e : ℕ) (decl other : Decl) (shape form : Shape) : Type 0 where
    pub number : d ≡ e
    pub declaration : decl ≡ other
    pub form_of : shape ≡ form

  named_at : (name : List ℕ) (k : ℕ) (decl : Decl) → slice_get g.decls k ≡ Some decl → decl.name ≡ name →
      slice_get (names g.decls) k ≡ Some name
  named_at name k decl found named =
      slice_get-map (λ (d : Decl). d.name) g.decls k ∙ ap (option_map (λ (d : Decl). d.name)) found ∙ ap Some named

  pub declared_once : (name : List ℕ) (d e : ℕ) (decl other : Decl) (shape form : Shape) → Declares g shapes name d decl shape →
      Declares g shapes name e other form → AreOne d e decl other shape form
  declared_once name d e decl other shape form a b =
      let k = a.numbered.0 in
      let l = b.numbered.0 in
      let places : k ≡ l = distinct k l name (named_at name k decl a.numbered.2 a.named) (named_at name l other b.numbered.2 b.named) in
      let number : d ≡ e = a.numbered.1 ∙ ap suc places ∙ sym b.numbered.1 in
      let shaped : a.shaped.0 ≡ b.shaped.0 = let both : suc a.shaped.0 ≡ suc b.shaped.0 = sym a.shaped.1 ∙ number ∙ b.shaped.1 in omega (arith, both) in
      record {
        number = number;
        declaration = same_Some decl other (sym a.numbered.2 ∙ ap (slice_get g.decls) places ∙ b.numbered.2);
        form_of = same_Some shape form (sym a.shaped.2 ∙ ap (slice_get shapes) shaped ∙ b.shaped.2);
      }

  pub alternative_once : (decl other : Decl) (k l : ℕ) (a b : Levelled) → decl ≡ other → k ≡ l → IsAlternative decl k a →
      IsAlternative other l b → a ≡ b
  alternative_once decl other k l a b same number p q =
      let places : p.0 ≡ q.0 = let both : suc p.0 ≡ suc q.0 = sym p.1 ∙ number ∙ q.1 in omega (arith, both) in
      same_Some a b (sym p.2 ∙ (λ z. slice_get (by_level (same z).levels) (places z)) ∙ q.2)

  pub same_kind : {name : List ℕ} {vs ws : List Value} {kind other : DeclKind} {i e k f : ℕ} {t u : Tree} {starts ls : List ℕ} →
      Instance g shapes text name vs kind i e t starts → Instance g shapes text name ws other k f u ls → kind ≡ other
  same_kind {name = name} first second =
      let a = instance_by g shapes text first in
      let b = instance_by g shapes text second in
      let once = declared_once name a.0 b.0 a.2 b.2 a.3 b.3 a.8 b.8 in
      a.11 ∙ ap (λ (d : Decl). d.kind) once.declaration ∙ sym b.11

  -- what each further derivation of the same is told
  abbrev CoversTold : DeclKind → List Symbol → Trees → Type 0
  CoversTold c xs vs =
      (env after : Environment) (i j : ℕ) (us : Trees) (starts : List ℕ) → Covers g shapes text c xs env i j us after starts → IsTold vs us

  abbrev DerivesTold : DeclKind → Symbol → Trees → Type 0
  DerivesTold c x ts =
      (env after : Environment) (i e j : ℕ) (us : Trees) (starts : List ℕ) → Derives g shapes text c x env i e j us after starts → IsTold ts us

  abbrev ListsTold : DeclKind → Symbol → Tree → Type 0
  ListsTold c x t =
      (env : Environment) (i j : ℕ) (u : Tree) (starts items : List ℕ) → Lists g shapes text c x env i j u starts items → IsToldTree t u

  abbrev ItemsTold : DeclKind → Symbol → Trees → Type 0
  ItemsTold c x ts =
      (env after : Environment) (i e j : ℕ) (us : Trees) (starts items : List ℕ) → Items g shapes text c x env i e j us after starts items → IsTold ts us

  abbrev pub InstanceTold : List ℕ → Tree → Type 0
  InstanceTold name t =
      (vs : List Value) (kind : DeclKind) (i e : ℕ) (u : Tree) (starts : List ℕ) → Instance g shapes text name vs kind i e u starts → IsToldTree t u

  abbrev TrailsTold : DeclKind → Trees → Type 0
  TrailsTold c ts = (e j : ℕ) (us : Trees) → Trails g shapes text c e j us → IsTold ts us

  token_told : (c : DeclKind) (name : List ℕ) (vs ws : List Value) (i e k f j : ℕ) (t : Tree) (tr ts us : Trees) (ks ls : List ℕ) →
      ts ≡ more t tr → Instance g shapes text name vs Lexical i e t ks → InstanceTold name t → TrailsTold c tr →
      Called g shapes text c name ws k f j us ls → IsTold ts us
  token_told c name vs ws i e k f j t tr ts us ks ls trees instance told trailing (inl (u, vr, ms, other, trails, same, exposes)) =
      told_as (more t tr) (more u vr) ts us trees same (told_more t u tr vr (told ws Lexical k f u ms other) (trailing f j vr trails))
  token_told c name vs ws i e k f j t tr ts us ks ls trees instance told trailing (inr (u, kind, other, differs, ends, same)) =
      absurd (differs (sym (same_kind instance other)))

  call_told : (c kind : DeclKind) (name : List ℕ) (vs ws : List Value) (i e k f j : ℕ) (t : Tree) (us : Trees) (ks ls : List ℕ) →
      Instance g shapes text name vs kind i e t ks → kind ≢ Lexical → InstanceTold name t →
      Called g shapes text c name ws k f j us ls → IsTold (one t) us
  call_told c kind name vs ws i e k f j t us ks ls instance differs told (inl (u, vr, ms, other, trails, same, exposes)) =
      absurd (differs (same_kind instance other))
  call_told c kind name vs ws i e k f j t us ks ls instance differs told (inr (u, kind', other, differ, ends, same)) =
      told_single t u us same (told ws kind' k j u ls other)

  alternative_told : (name : List ℕ) (vs : List Value) (kind : DeclKind) (d k : ℕ) (decl : Decl) (shape : Shape) (a : Levelled)
      (i e : ℕ) (ts : Trees) (t : Tree) → Declares g shapes name d decl shape → IsAlternative decl k a → kind ≡ decl.kind →
      t ≡ Node (tag_of shape d k) i e ts → CoversTold kind a.alternative.symbols ts → InstanceTold name t
  alternative_told name vs kind d k decl shape a i e ts t declares numbered same tree told ws kind' i' e' u starts other =
      let b = instance_by g shapes text other in
      let once = declared_once name d b.0 decl b.2 shape b.3 declares b.8 in
      let number : number_of (tag_of b.3 b.0 b.1) ≡ number_of (tag_of shape d b.1) = λ z. number_of (tag_of (sym once.form_of z) (sym once.number z) b.1) in
      let kinds : kind ≡ kind' = same ∙ ap (λ (q : Decl). q.kind) once.declaration ∙ sym b.11 in
      let there : IsAlternative decl b.1 b.4 = subst (λ (q : Decl). IsAlternative q b.1 b.4) (sym once.declaration) b.9 in
      let by_tags : IsToldTree (Node (tag_of shape d k) i e ts) (Node (tag_of b.3 b.0 b.1) i' e' b.7) = λ close.
      let numbers : k ≡ b.1 = tells name d k b.1 decl shape a b.4 declares numbered there (close.0 ∙ number) in
      let alike : a ≡ b.4 = alternative_once decl decl k b.1 a b.4 refl numbers numbered there in
      let covers = subst (λ (q : Levelled). Covers g shapes text kind q.alternative.symbols b.5 i' e' b.7 b.6 starts) (sym alike) (subst (λ q. Covers g shapes text q b.4.alternative.symbols b.5 i' e' b.7 b.6 starts) (sym kinds) b.12) in
      ((λ z. tag_of (once.form_of z) (once.number z) (numbers z)), told_whole ts b.7 (told b.5 b.6 i' e' b.7 starts covers) close.1) in
      subst (λ z. IsToldTree z u) (sym tree) (subst (IsToldTree (Node (tag_of shape d k) i e ts)) (sym b.13) by_tags)

  longer_told : (c : DeclKind) (list x : Symbol) (t : Tree) (ts us : Trees) (env : Environment) (i j : ℕ) (starts items : List ℕ) →
      ListsTold c list t → DerivesTold c x ts → Lengthened g shapes text c list x env i j us starts items → IsTold (more t ts) us
  longer_told c list x t ts us env i j starts items first second (after, h, e, u, vs, ks, ls, ps, before, item, same, exposes, begins) =
      told_as (more t ts) (more u vs) (more t ts) us refl same (told_more t u ts vs (first env i h u ks ps before) (second env after h e j vs ls item))

  nil_told : (c : DeclKind) (x : Symbol) (i : ℕ) (env : Environment) (k l : ℕ) (u : Tree) (starts items : List ℕ) →
      ListsBy g shapes text c (Star x) env k l u starts items → IsToldTree (Node tag.Nil i i none) u
  nil_told c x i env k l u starts items (inl (ends, same, exposes, begins)) =
      told_node tag.Nil i i k k none none u same told_none
  nil_told c x i env k l u starts items (inr (us, same, longer)) =
      told_apart tag.Nil tag.Snoc i i k l none us u same one_or_two

  snoc_told : (c : DeclKind) (x : Symbol) (i j : ℕ) (t : Tree) (ts : Trees) → ListsTold c (Star x) t → DerivesTold c x ts →
      (env : Environment) (k l : ℕ) (u : Tree) (starts items : List ℕ) →
      ListsBy g shapes text c (Star x) env k l u starts items → IsToldTree (Node tag.Snoc i j (more t ts)) u
  snoc_told c x i j t ts first second env k l u starts items (inl (ends, same, exposes, begins)) =
      told_apart tag.Snoc tag.Nil i j k k (more t ts) none u same two_or_one
  snoc_told c x i j t ts first second env k l u starts items (inr (us, same, longer)) =
      told_node tag.Snoc i j k l (more t ts) us u same (longer_told c (Star x) x t ts us env k l starts items first second longer)

  one_told : (c : DeclKind) (x : Symbol) (i j : ℕ) (ts : Trees) → DerivesTold c x ts →
      (env : Environment) (k l : ℕ) (u : Tree) (starts items : List ℕ) →
      OfOneItem g shapes text c x env k l u starts items → IsToldTree (Node tag.One i j ts) u
  one_told c x i j ts item env k l u starts items (after, e, us, other, same, begins) =
      told_node tag.One i j k l ts us u same (item env after k e l us starts other)

  more_than_one : (c : DeclKind) (x : Symbol) (i j : ℕ) (ts : Trees) (env : Environment) (k l : ℕ) (u : Tree) (starts items : List ℕ) →
      OfOneItem g shapes text c x env k l u starts items → IsToldTree (Node tag.More i j ts) u
  more_than_one c x i j ts env k l u starts items (after, e, us, other, same, begins) =
      told_apart tag.More tag.One i j k l ts us u same two_or_one

  first_told : (c : DeclKind) (x : Symbol) (i j : ℕ) (ts : Trees) → DerivesTold c x ts →
      (env : Environment) (k l : ℕ) (u : Tree) (starts items : List ℕ) →
      ListsBy g shapes text c (Plus x) env k l u starts items → IsToldTree (Node tag.One i j ts) u
  first_told c x i j ts item env k l u starts items (inl one) = one_told c x i j ts item env k l u starts items one
  first_told c x i j ts item env k l u starts items (inr (us, same, longer)) =
      told_apart tag.One tag.More i j k l ts us u same one_or_two

  further_told : (c : DeclKind) (x : Symbol) (i j : ℕ) (t : Tree) (ts : Trees) → ListsTold c (Plus x) t → DerivesTold c x ts →
      (env : Environment) (k l : ℕ) (u : Tree) (starts items : List ℕ) →
      ListsBy g shapes text c (Plus x) env k l u starts items → IsToldTree (Node tag.More i j (more t ts)) u
  further_told c x i j t ts first second env k l u starts items (inl one) =
      more_than_one c x i j (more t ts) env k l u starts items one
  further_told c x i j t ts first second env k l u starts items (inr (us, same, longer)) =
      told_node tag.More i j k l (more t ts) us u same (longer_told c (Plus x) x t ts us env k l starts items first second longer)

  first_separated_told : (c : DeclKind) (x s : Symbol) (i j : ℕ) (ts : Trees) → DerivesTold c x ts →
      (env : Environment) (k l : ℕ) (u : Tree) (starts items : List ℕ) →
      ListsBy g shapes text c (SepPlus x s) env k l u starts items → IsToldTree (Node tag.One i j ts) u
  first_separated_told c x s i j ts item env k l u starts items (inl one) = one_told c x i j ts item env k l u starts items one
  first_separated_told c x s i j ts item env k l u starts items (inr (between, after, h, f, m, e, v, us, vs, ks, ms, ls, ps, before, part, last, same, exposes, begins)) =
      told_apart tag.One tag.More i j k l ts (more v (join us vs)) u same one_or_two

  separated_told : (c : DeclKind) (x s : Symbol) (i j : ℕ) (t : Tree) (us ts vs : Trees) → vs ≡ join us ts →
      ListsTold c (SepPlus x s) t → DerivesTold c s us → DerivesTold c x ts →
      (env : Environment) (k l : ℕ) (u : Tree) (starts items : List ℕ) →
      ListsBy g shapes text c (SepPlus x s) env k l u starts items → IsToldTree (Node tag.More i j (more t vs)) u
  separated_told c x s i j t us ts vs trees first second third env k l u starts items (inl one) =
      more_than_one c x i j (more t vs) env k l u starts items one
  separated_told c x s i j t us ts vs trees first second third env k l u starts items (inr (between, after, h, f, m, e, v, ws, ys, ks, ms, ls, ps, before, part, last, same, exposes, begins)) =
      let parts = told_as (join us ts) (join ws ys) vs (join ws ys) trees refl (told_join us ws ts ys (second env between h f m ws ms part) (third env after m e l ys ls last)) in
      told_node tag.More i j k l (more t vs) (more v (join ws ys)) u same (told_more t v vs (join ws ys) (first env k h v ks ps before) parts)

  no_item_told : (c : DeclKind) (x s : Symbol) (i : ℕ) (env : Environment) (k l : ℕ) (u : Tree) (starts items : List ℕ) →
      ListsBy g shapes text c (SepStar x s) env k l u starts items → IsToldTree (Node tag.Absent i i none) u
  no_item_told c x s i env k l u starts items (inl (ends, same, exposes, begins)) =
      told_node tag.Absent i i k k none none u same told_none
  no_item_told c x s i env k l u starts items (inr (v, list, same)) =
      told_apart tag.Absent tag.Present i i k l none (one v) u same one_or_two

  some_items_told : (c : DeclKind) (x s : Symbol) (i j : ℕ) (t : Tree) → ListsTold c (SepPlus x s) t →
      (env : Environment) (k l : ℕ) (u : Tree) (starts items : List ℕ) →
      ListsBy g shapes text c (SepStar x s) env k l u starts items → IsToldTree (Node tag.Present i j (one t)) u
  some_items_told c x s i j t told env k l u starts items (inl (ends, same, exposes, begins)) =
      told_apart tag.Present tag.Absent i j k k (one t) none u same two_or_one
  some_items_told c x s i j t told env k l u starts items (inr (v, list, same)) =
      told_node tag.Present i j k l (one t) (one v) u same (told_one t v (told env k l v starts items list))

  absent_told : (c : DeclKind) (x : Symbol) (i : ℕ) (env : Environment) (k l : ℕ) (us : Trees) (starts : List ℕ) →
      Chosen g shapes text c x env k l us starts → IsTold (one (Node tag.Absent i i none)) us
  absent_told c x i env k l us starts (inl (ends, same, exposes)) =
      told_single (Node tag.Absent i i none) (Node tag.Absent k k none) us same (told_node tag.Absent i i k k none none (Node tag.Absent k k none) refl told_none)
  absent_told c x i env k l us starts (inr (between, e, vs, other, same)) =
      told_single (Node tag.Absent i i none) (Node tag.Present k l vs) us same (told_apart tag.Absent tag.Present i i k l none vs (Node tag.Present k l vs) refl one_or_two)

  present_told : (c : DeclKind) (x : Symbol) (i j : ℕ) (ts : Trees) → DerivesTold c x ts →
      (env : Environment) (k l : ℕ) (us : Trees) (starts : List ℕ) →
      Chosen g shapes text c x env k l us starts → IsTold (one (Node tag.Present i j ts)) us
  present_told c x i j ts told env k l us starts (inl (ends, same, exposes)) =
      told_single (Node tag.Present i j ts) (Node tag.Absent k k none) us same (told_apart tag.Present tag.Absent i j k k ts none (Node tag.Absent k k none) refl two_or_one)
  present_told c x i j ts told env k l us starts (inr (between, e, vs, other, same)) =
      told_single (Node tag.Present i j ts) (Node tag.Present k l vs) us same (told_node tag.Present i j k l ts vs (Node tag.Present k l vs) refl (told env between k e l vs starts other))

  listed_told : (c : DeclKind) (x : Symbol) (t : Tree) (env after : Environment) (k f l : ℕ) (us : Trees) (starts : List ℕ) →
      ListsTold c x t → Listed g shapes text c x env k f l us after starts → IsTold (one t) us
  listed_told c x t env after k f l us starts told (u, items, list, ends, same, kept) =
      told_single t u us same (told env k l u starts items list)

  group_told : (c : DeclKind) (choices : Alternatives) (k : ℕ) (xs : Symbols) (i j : ℕ) (ts : Trees) → IsChoice choices k xs →
      CoversTold c (listed xs) ts → (l : ℕ) (ys : Symbols) (env between : Environment) (m n : ℕ) (vs us : Trees) (starts : List ℕ) →
      IsChoice choices l ys → Covers g shapes text c (listed ys) env m n vs between starts → us ≡ one (Node (tag.GroupAlt l) m n vs) →
      IsTold (one (Node (tag.GroupAlt k) i j ts)) us
  group_told c choices k xs i j ts place told l ys env between m n vs us starts other covers same =
      let by_numbers : IsToldTree (Node (tag.GroupAlt k) i j ts) (Node (tag.GroupAlt l) m n vs) = λ close.
      let numbers : k ≡ l = close.0 in
      let alike : xs ≡ ys = choice_once choices l xs ys (subst (λ z. IsChoice choices z xs) numbers place) other in
      (ap tag.GroupAlt numbers, told_whole ts vs (told env between m n vs starts (subst (λ (z : Symbols). Covers g shapes text c (listed z) env m n vs between starts) (sym alike) covers)) close.1) in
      told_single (Node (tag.GroupAlt k) i j ts) (Node (tag.GroupAlt l) m n vs) us same by_numbers

  bare_told : (c : DeclKind) (x : Symbol) (t : Tree) (env₀ : Environment) (i₀ j₀ : ℕ) (ks₀ ps₀ : List ℕ) → Lists g shapes text c x env₀ i₀ j₀ t ks₀ ps₀ →
      ListsTold c x t → (env after : Environment) (i e j : ℕ) (us : Trees) (starts items : List ℕ) →
      ItemsBy g shapes text c x env i e j us after starts items → IsTold (one t) us
  bare_told c (Filtered x filters) t env₀ i₀ j₀ ks₀ ps₀ list told env after i e j us starts items by = absurd (lists_by g shapes text list)
  bare_told c x t env₀ i₀ j₀ ks₀ ps₀ list told env after i e j us starts items by =
      told_single t by.0 us by.3 (told env i j by.0 starts items by.1)

  layout_told : (name : List ℕ) (t : Tree) → layout_among g.decls ≡ Some name → InstanceTold name t →
      (c : DeclKind) (e j : ℕ) (us : Trees) → c ≡ Syntax → TrailsBy g shapes text c e j us → IsTold (one t) us
  layout_told name t declared told c e j us same (inl (is, other, kind, u, starts, found, instance, trees)) =
      let named : other ≡ name = same_Some other name (sym found ∙ declared) in
      told_single t u us trees (told [] kind e j u starts (subst (λ (n : List ℕ). Instance g shapes text n [] kind e j u starts) named instance))
  layout_told name t declared told c e j us same (inr (undeclared, ends, trees)) =
      let both : None ≡ Some name = sym (undeclared same) ∙ declared in absurd (cc)

  untrailed_told : (c : DeclKind) (e j : ℕ) (us : Trees) → (c ≡ Syntax → layout_among g.decls ≡ None) → TrailsBy g shapes text c e j us → IsTold none us
  untrailed_told c e j us undeclared (inl (is, name, kind, u, starts, found, instance, trees)) =
      let both : None ≡ Some name = sym (undeclared is) ∙ found in absurd (cc)
  untrailed_told c e j us undeclared (inr (free, ends, trees)) = told_as none none none us refl trees told_none

  mutual
    pub covers_told : {c : DeclKind} {xs : List Symbol} {env after : Environment} {i j : ℕ} {vs : Trees} {starts : List ℕ} →
        Covers g shapes text c xs env i j vs after starts → CoversTold c xs vs
    covers_told (empty c env i) env' after' i' j' ws starts' other =
        let by = covers_by g shapes text other in told_as none none none ws refl by.1 told_none
    covers_told (symbol c x others env between after i e h j ts us vs ks ls starts first rest trees exposes) env' after' i' j' ws starts' other =
        let by = covers_by g shapes text other in
        told_as (join ts us) (join by.3 by.4) vs ws trees by.9 (told_join ts by.3 us by.4 (derives_told first env' by.0 i' by.1 by.2 by.3 by.5 by.7) (covers_told rest by.0 after' by.2 j' by.4 by.6 by.8))

    pub derives_told : {c : DeclKind} {x : Symbol} {env after : Environment} {i e j : ℕ} {ts : Trees} {starts : List ℕ} →
        Derives g shapes text c x env i e j ts after starts → DerivesTold c x ts
    derives_told (literal c word env i e j us ts starts spells trails trees exposes) env' after' i' e' j' ws starts' other =
        let by = derives_by g shapes text other in
        told_as (more (Leaf i e) us) (more (Leaf i' e') by.0) ts ws trees by.3 (told_more (Leaf i e) (Leaf i' e') us by.0 (λ close. tt) (trails_told trails e' j' by.0 by.2))
    derives_told (one_of c class env i e j us ts starts among trails trees exposes) env' after' i' e' j' ws starts' other =
        let by = derives_by g shapes text other in
        told_as (more (Leaf i e) us) (more (Leaf i' e') by.0) ts ws trees by.3 (told_more (Leaf i e) (Leaf i' e') us by.0 (λ close. tt) (trails_told trails e' j' by.0 by.2))
    derives_told (token c name arguments vs env i e j t us ts ks starts have instance trails trees exposes) env' after' i' e' j' ws starts' other =
        let by = derives_by g shapes text other in
        token_told c name vs by.0 i e i' e' j' t us ts ws ks starts' trees instance (instance_told instance) (trails_told trails) by.2
    derives_told (call c kind name arguments vs env i j t starts have instance differs) env' after' i' e' j' ws starts' other =
        let by = derives_by g shapes text other in
        call_told c kind name vs by.0 i j i' e' j' t ws starts starts' instance differs (instance_told instance) by.2
    derives_told (label c name x env between after i e j ts starts inner bound) env' after' i' e' j' ws starts' other =
        let by = derives_by g shapes text other in derives_told inner env' by.0 i' e' j' ws starts' by.1
    derives_told (guard c condition env i holds) env' after' i' e' j' ws starts' other =
        let by = derives_by g shapes text other in told_as none none none ws refl by.3 told_none
    derives_told (let_be c name expression v env after i has bound) env' after' i' e' j' ws starts' other =
        let by = derives_by g shapes text other in told_as none none none ws refl by.5 told_none
    derives_told (absent c x env i) env' after' i' e' j' ws starts' other =
        absent_told c x i env' i' j' ws starts' (derives_by g shapes text other).0
    derives_told (present c x env between i e j ts starts inner) env' after' i' e' j' ws starts' other =
        present_told c x i j ts (derives_told inner) env' i' j' ws starts' (derives_by g shapes text other).0
    derives_told (star c x env i j t starts items list) env' after' i' e' j' ws starts' other =
        listed_told c (Star x) t env' after' i' e' j' ws starts' (lists_told list) (derives_by g shapes text other)
    derives_told (plus c x env i j t starts items list) env' after' i' e' j' ws starts' other =
        listed_told c (Plus x) t env' after' i' e' j' ws starts' (lists_told list) (derives_by g shapes text other)
    derives_told (sep_star c x separator env i j t starts items list) env' after' i' e' j' ws starts' other =
        listed_told c (SepStar x separator) t env' after' i' e' j' ws starts' (lists_told list) (derives_by g shapes text other)
    derives_told (sep_plus c x separator env i j t starts items list) env' after' i' e' j' ws starts' other =
        listed_told c (SepPlus x separator) t env' after' i' e' j' ws starts' (lists_told list) (derives_by g shapes text other)
    derives_told (group c choices k xs env between i j ts starts place inner) env' after' i' e' j' ws starts' other =
        let by = derives_by g shapes text other in
        group_told c choices k xs i j ts place (covers_told inner) by.0 by.1 env' by.2 i' j' by.3 ws starts' by.4 by.5 by.6
    derives_told (offside c x env after i e j ts starts inner right) env' after' i' e' j' ws starts' other =
        derives_told inner env' after' i' e' j' ws starts' (derives_by g shapes text other).0
    derives_told (ignore c x env after i e j ts starts inner) env' after' i' e' j' ws starts' other =
        let by = derives_by g shapes text other in derives_told inner env' after' i' e' j' ws by.0 by.1
    derives_told (align c x env after i e j ts starts items inner column) env' after' i' e' j' ws starts' other =
        let by = derives_by g shapes text other in items_told inner env' after' i' e' j' ws starts' by.0 by.1
    derives_told (filtered c x filters env after i e j ts starts inner passes) env' after' i' e' j' ws starts' other =
        derives_told inner env' after' i' e' j' ws starts' (derives_by g shapes text other).0
    derives_told (sequence c xs env after i j ts starts inner) env' after' i' e' j' ws starts' other =
        covers_told inner env' after' i' j' ws starts' (derives_by g shapes text other).0
    derives_told (entry c bindings x vs env inside after i e j ts starts have renewed inner) env' after' i' e' j' ws starts' other =
        let by = derives_by g shapes text other in derives_told inner by.1 by.2 i' by.3 j' ws starts' by.6

    lists_told : {c : DeclKind} {x : Symbol} {env : Environment} {i j : ℕ} {t : Tree} {starts items : List ℕ} →
        Lists g shapes text c x env i j t starts items → ListsTold c x t
    lists_told (nil c x env i) env' i' j' u starts' items' other =
        nil_told c x i env' i' j' u starts' items' (lists_by g shapes text other)
    lists_told (snoc c x env after i h e j t ts ks ls starts ps items list item exposes begins) env' i' j' u starts' items' other =
        snoc_told c x i j t ts (lists_told list) (derives_told item) env' i' j' u starts' items' (lists_by g shapes text other)
    lists_told (one_item c x env after i e j ts starts item) env' i' j' u starts' items' other =
        first_told c x i j ts (derives_told item) env' i' j' u starts' items' (lists_by g shapes text other)
    lists_told (more_items c x env after i h e j t ts ks ls starts ps items list item exposes begins) env' i' j' u starts' items' other =
        further_told c x i j t ts (lists_told list) (derives_told item) env' i' j' u starts' items' (lists_by g shapes text other)
    lists_told (first_item c x separator env after i e j ts starts item) env' i' j' u starts' items' other =
        first_separated_told c x separator i j ts (derives_told item) env' i' j' u starts' items' (lists_by g shapes text other)
    lists_told (further_item c x separator env between after i h f m e j t us ts vs ks ms ls starts ps items list part item trees exposes begins) env' i' j' u starts' items' other =
        separated_told c x separator i j t us ts vs trees (lists_told list) (derives_told part) (derives_told item) env' i' j' u starts' items' (lists_by g shapes text other)
    lists_told (no_item c x separator env i) env' i' j' u starts' items' other =
        no_item_told c x separator i env' i' j' u starts' items' (lists_by g shapes text other)
    lists_told (some_items c x separator env i j t starts items list) env' i' j' u starts' items' other =
        some_items_told c x separator i j t (lists_told list) env' i' j' u starts' items' (lists_by g shapes text other)

    items_told : {c : DeclKind} {x : Symbol} {env after : Environment} {i e j : ℕ} {ts : Trees} {starts items : List ℕ} →
        Items g shapes text c x env i e j ts after starts items → ItemsTold c x ts
    items_told (bare c x env i j t starts items list) env' after' i' e' j' us starts' items' other =
        bare_told c x t env i j starts items list (lists_told list) env' after' i' e' j' us starts' items' (items_by g shapes text other)
    items_told (with_filters c x filters env after i e j ts starts items inner passes) env' after' i' e' j' us starts' items' other =
        items_told inner env' after' i' e' j' us starts' items' (items_by g shapes text other).0

    pub instance_told : {name : List ℕ} {vs : List Value} {kind : DeclKind} {i e : ℕ} {t : Tree} {starts : List ℕ} →
        Instance g shapes text name vs kind i e t starts → InstanceTold name t
    instance_told (alternative name vs kind d k decl shape a env after i e ts t starts declares numbered bound same covers tree) =
        alternative_told name vs kind d k decl shape a i e ts t declares numbered same tree (covers_told covers)

    trails_told : {c : DeclKind} {e j : ℕ} {ts : Trees} → Trails g shapes text c e j ts → TrailsTold c ts
    trails_told (layout name kind e j t starts declared instance) e' j' us other =
        layout_told name t declared (instance_told instance) Syntax e' j' us refl (trails_by g shapes text other)
    trails_told (no_layout e undeclared) e' j' us other =
        untrailed_told Syntax e' j' us (λ same. undeclared) (trails_by g shapes text other)
    trails_told (outside c e differs) e' j' us other =
        untrailed_told c e' j' us (λ same. absurd (differs same)) (trails_by g shapes text other)
