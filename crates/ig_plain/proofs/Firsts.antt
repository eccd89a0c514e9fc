-- The first items of an instance.
use Rattle.std.proofs.Common.{◌≡◌, ◌⊎◌, ⊎_elim, inl, inr, ℕ, zero, suc, ◌+◌, ◌<◌, ◌≤◌, List, [], ◌++◌, Some, Contains, None, Option, length, refl, sym, ap, ◌∙◌, subst, arith, slice_get}
use Rattle.std.specs.Prelude.{Result, Ok, Err, slice_index_or, option_map}
use Rattle.std.proofs.lemmas.Option.{same_Some, slice_get_within, get_or_from_slice_get}
use Rattle.std.proofs.lemmas.List.Elements.{Contains-append_right}
use Rattle.ig_text.proofs.Lists.{get_within, contains_from_at, mapped_in}
use Rattle.ig_item.specs.Core.{IsAlternative, numbered}
use Rattle.ig_item.specs.Items.{Item, first}
use Rattle.ig_item.specs.Tables.{instance_by}
use Rattle.ig_item.specs.declared.core_grammar.Nonterminal.{Nonterminal}
use Rattle.ig_item.specs.declared.core_grammar.CoreAlt.{CoreAlt}
use Rattle.ig_item.specs.declared.items.Instance.{Instance}
use Rattle.ig_item.specs.declared.items.InstanceKey.{InstanceKey}
use Rattle.ig_item.specs.declared.items.Item as stored
use Rattle.ig_item.specs.declared.run_fault.RunFault.{RunFault}
use Rattle.ig_item.specs.declared.ways.Way.TheVariants.{Begin}
use Rattle.ig_plain.specs.declared.found.Found.{Found}
use Rattle.ig_plain.specs.declared.trail.Trail.{Trail}
use Rattle.ig_run_moves.specs.Tables.{no_key, first_stored}
use Rattle.ig_run_laws.specs.Rules.{IsFirstOf}
use Rattle.ig_plain.specs.Found.{means, Named, Grows, Adds}
use Rattle.ig_plain.specs.Rules.{IsFirst}
use Rattle.ig_plain.specs.Trail.{By, Records, Unfound}
use Rattle.ig_plain.proofs.Growth.{grows_weaker, longer, instance_kept, extends_or, extends_cases, means_grown}
use Rattle.ig_plain.proofs.Additions.{adds_nothing, adds_alike, adds_then}
use Rattle.ig_plain.proofs.Recording.{records_nothing, records_same, records_then}

module _ (core : List Nonterminal) (instance : ℕ) (key : InstanceKey) (budget : ℕ) (a : Found)
    (at : slice_get a.keys instance ≡ Some key) where
  abbrev callee : Instance
  callee = instance_by a.envs.keys key

  env_there : key.env < length a.envs.keys
  env_there = a.named.values key (contains_from_at a.keys instance key at)

  pub no_firsts : slice_get core key.nonterminal ≡ None → Adds key.start (IsFirstOf core callee) budget a a (Ok tt)
  no_firsts none =
      adds_nothing key.start (IsFirstOf core callee) budget a
      (λ x m. let e : None ≡ Some m.nonterminal = sym none ∙ m.has.there in cc)

  pub records_none : (t : Trail) → slice_get core key.nonterminal ≡ None → Records (By Begin (IsFirstOf core callee)) a a t t
  records_none t none =
      records_nothing (By Begin (IsFirstOf core callee)) a t (λ w x m. let e : None ≡ Some m.1.nonterminal = sym none ∙ m.1.has.there in cc)

  never : (n : ℕ) → n ≤ 0 → (m : Nonterminal) → {c : CoreAlt} → IsAlternative core key.nonterminal n m c → ⊥
  never zero l m h = let e = h.has in cc
  never (suc n) l m h = omega (arith, l)

  pub begins : Adds key.start (IsFirst core callee 0) budget a a (Ok tt)
  begins = adds_nothing key.start (IsFirst core callee 0) budget a (λ x m. absurd (never m.number m.few m.nonterminal m.has))

  pub records_begins : (t : Trail) → Records (By Begin (IsFirst core callee 0)) a a t t
  records_begins t = records_nothing (By Begin (IsFirst core callee 0)) a t (λ w x m. never m.1.number m.1.few m.1.nonterminal m.1.has)

  first_named : (n : ℕ) (b : Found) → Grows key.start (IsFirst core callee n) a b → Named b (first_stored instance key (n + 1))
  first_named n b g =
      record {
        instance = let l = slice_get_within a.keys instance key at in let e = ap length g.keys in omega (arith, l, e);
        env = let l = longer a.envs.keys b.envs.keys g.envs in let q = env_there in omega (arith, l, q);
      }

  first_means : (n : ℕ) (b : Found) → Grows key.start (IsFirst core callee n) a b → means b (first_stored instance key (n + 1)) ≡
      first callee (n + 1)
  first_means n b g =
      let k : slice_index_or b.keys instance no_key ≡ key =
      ap (λ (z : List InstanceKey). slice_index_or z instance no_key) g.keys ∙ get_or_from_slice_get a.keys instance key no_key at in
      let i : instance_by b.envs.keys (slice_index_or b.keys instance no_key) ≡ callee =
      ap (instance_by b.envs.keys) k ∙ instance_kept a.envs.keys b.envs.keys key g.envs env_there in
      let e : slice_index_or b.envs.keys key.env [] ≡ slice_index_or a.envs.keys key.env [] = extends_or a.envs.keys b.envs.keys key.env [] g.envs env_there in
      λ j. record { instance = i j; alternative = n + 1; dot = 0; env = e j; position = key.start }

  up_to : (n : ℕ) (x : Item) → IsFirst core callee (n + 1) x → IsFirst core callee n x ⊎ (x ≡ first callee (n + 1))
  up_to n x m = go (leb_cases m.number n m.few)
    where
      leb_cases : (k n : ℕ) → k ≤ n + 1 → (k ≤ n) ⊎ (k ≡ n + 1)
      leb_cases zero n l = inl (omega arith)
      leb_cases (suc k) zero l = inr (omega (arith, l))
      leb_cases (suc k) (suc n) l =
          ⊎_elim (λ (h : k ≤ n). inl (omega (arith, h))) (λ (h : k ≡ n + 1). inr (omega (arith, h))) (leb_cases k n (omega (arith, l)))

      go : (m.number ≤ n) ⊎ (m.number ≡ n + 1) → IsFirst core callee n x ⊎ (x ≡ first callee (n + 1))
      go (inl h) = inl (record { number = m.number; nonterminal = m.nonterminal; alternative = m.alternative; has = m.has; few = h; is = m.is })
      go (inr h) = inr (m.is ∙ ap (first callee) h)

  numbered_next : (nonterminal : Nonterminal) (n : ℕ) (alternative : CoreAlt) → slice_get nonterminal.alternatives n ≡ Some alternative →
      numbered nonterminal.alternatives (n + 1) ≡ Some alternative
  numbered_next nonterminal n alternative e =
      let q : n + 1 ≡ suc n = omega arith in ap (numbered nonterminal.alternatives) q ∙ e

  more_first : (n : ℕ) (x : Item) → IsFirst core callee n x → IsFirst core callee (n + 1) x
  more_first n x m =
      record { number = m.number; nonterminal = m.nonterminal; alternative = m.alternative; has = m.has; few = let l = m.few in omega (arith, l); is = m.is }

  first_of : (n : ℕ) (x : Item) → IsFirst core callee n x → IsFirstOf core callee x
  first_of n x m =
      record { number = m.number; nonterminal = m.nonterminal; alternative = m.alternative; has = m.has; is = m.is }

  -- the next one, of a nonterminal that has so many alternatives
  module _ (n : ℕ) (nonterminal : Nonterminal) (b : Found) (there : slice_get core key.nonterminal ≡ Some nonterminal)
      (lt : n < length nonterminal.alternatives) (g : Grows key.start (IsFirst core callee n) a b) (next : stored.Item)
      (next_is : next ≡ first_stored instance key (n + 1)) where
    next_means : means b next ≡ first callee (n + 1)
    next_means = ap (means b) next_is ∙ first_means n b g

    pub next_named : Named b next
    next_named = subst (Named b) (sym next_is) (first_named n b g)

    is_first : (x : Item) → x ≡ means b next → IsFirst core callee (n + 1) x
    is_first x e =
        let alt = get_within nonterminal.alternatives n lt in
        record {
          number = n + 1;
          nonterminal = nonterminal;
          alternative = alt.0;
          has = record { there = there; has = numbered_next nonterminal n alt.0 alt.1 };
          few = omega arith;
          is = e ∙ next_means;
        }

    splits : (x : Item) → IsFirst core callee (n + 1) x → IsFirst core callee n x ⊎ (x ≡ means b next)
    splits x m =
        ⊎_elim (λ (h : IsFirst core callee n x). inl h) (λ (h : x ≡ first callee (n + 1)). inr (h ∙ sym next_means)) (up_to n x m)

    pub goes : (c : Found) (r : Result (Unit {0}) RunFault) → Adds key.start (IsFirst core callee n) budget a b (Ok tt) →
        Adds next.position (λ x. x ≡ means b next) budget b c r → Adds key.start (IsFirst core callee (n + 1)) budget a c r
    goes c r d e =
        adds_then key.start (IsFirst core callee (n + 1)) (IsFirst core callee n) (λ x. x ≡ means b next) budget a b c r
        (more_first n) is_first splits d
        (subst (λ (p : ℕ). Adds p (λ x. x ≡ means b next) budget b c r) (ap (λ (z : stored.Item). z.position) next_is) e)

    pub records_goes : (c : Found) (t u v : Trail) → Records (By Begin (IsFirst core callee n)) a b t u →
        Records (By Begin (λ x. x ≡ means b next)) b c u v → Records (By Begin (IsFirst core callee (n + 1))) a c t v
    records_goes c t u v d e =
        records_then (By Begin (IsFirst core callee (n + 1))) (By Begin (IsFirst core callee n)) (By Begin (λ x. x ≡ means b next)) a b c t u v d e
        (λ w x m. (m.0, more_first n x m.1)) (λ w x m. (m.0, is_first x m.1))
        (λ w x m. ⊎_elim (λ (h : IsFirst core callee n x). inl (m.0, h)) (λ (h : x ≡ means b next). inr (m.0, h)) (splits x m.1))

    -- it isn't there
    pub is_new : Unfound a (IsFirstOf core callee) → Contains b.here.items next → ⊥
    is_new new c =
        ⊎_elim
        (λ (h : Contains a.here.items next).
        let same : means b next ≡ means a next = means_grown key.start (IsFirst core callee n) a b next g (a.named.here next h) in
        new (means a next) (first_of (n + 1) (means a next) (is_first (means a next) (sym same)))
        (mapped_in (means a) (a.done.items ++ a.here.items) next (Contains-append_right a.done.items a.here.items next h)))
        (λ (h : Contains g.here.more next).
        let m = g.each next h in
        let numbers : m.number ≡ n + 1 = ap (λ (z : Item). z.alternative) (sym m.is ∙ next_means) in
        let few = m.few in omega (arith, numbers, few))
        (extends_cases a.here.items b.here.items next g.here c)

  few_firsts : (n : ℕ) (nonterminal : Nonterminal) → slice_get core key.nonterminal ≡ Some nonterminal → length nonterminal.alternatives ≤ n →
      (x : Item) → IsFirstOf core callee x → IsFirst core callee n x
  few_firsts n nonterminal there all x m =
      record {
        number = m.number;
        nonterminal = m.nonterminal;
        alternative = m.alternative;
        has = m.has;
        few = within m.number m.nonterminal m.alternative m.has;
        is = m.is;
      }
    where
      within : (k : ℕ) (m : Nonterminal) (c : CoreAlt) → IsAlternative core key.nonterminal k m c → k ≤ n
      within zero m c h = omega arith
      within (suc k) m c h =
          let e : m ≡ nonterminal = same_Some m nonterminal (sym h.there ∙ there) in
          let l = slice_get_within m.alternatives k c h.has in let s = ap (λ (z : Nonterminal). length z.alternatives) e in omega (arith, l, s, all)

  pub ends : (n : ℕ) (nonterminal : Nonterminal) (b : Found) → slice_get core key.nonterminal ≡ Some nonterminal → length nonterminal.alternatives ≤ n →
      Adds key.start (IsFirst core callee n) budget a b (Ok tt) → Adds key.start (IsFirstOf core callee) budget a b (Ok tt)
  ends n nonterminal b there all d =
      adds_alike key.start (IsFirst core callee n) (IsFirstOf core callee) budget a b (Ok tt) (first_of n) (few_firsts n nonterminal there all) d

  pub records_ends : (n : ℕ) (nonterminal : Nonterminal) (b : Found) (t u : Trail) → slice_get core key.nonterminal ≡ Some nonterminal →
      length nonterminal.alternatives ≤ n → Records (By Begin (IsFirst core callee n)) a b t u → Records (By Begin (IsFirstOf core callee)) a b t u
  records_ends n nonterminal b t u there all r =
      records_same Begin (IsFirst core callee n) (IsFirstOf core callee) a b t u (first_of n) (few_firsts n nonterminal there all) r

  pub stops : (n : ℕ) (nonterminal : Nonterminal) (c : Found) (f : RunFault) → Adds key.start (IsFirst core callee n) budget a c (Err f) →
      Adds key.start (IsFirstOf core callee) budget a c (Err f)
  stops n nonterminal c f d =
      record {
        grows = grows_weaker key.start (IsFirst core callee n) (IsFirstOf core callee) a c (first_of n) d.grows;
        has = tt;
        within = tt;
        fault = d.fault;
      }

pub mapped_some : {A B : Type 0} (f : A → B) (o : Option A) (y : B) → Some y ≡ option_map f o → (x : A) × (o ≡ Some x) × (y ≡ f x)
mapped_some f (Some x) y e = (x, refl, same_Some y (f x) e)
mapped_some f None y e = cc

pub mapped_none : {A B : Type 0} (f : A → B) (o : Option A) → None ≡ option_map f o → o ≡ None
mapped_none f (Some x) e = cc
mapped_none f None e = refl
