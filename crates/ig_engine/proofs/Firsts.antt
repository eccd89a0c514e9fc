-- The first items of an instance.
use Rattle.std.proofs.Common.{◌≡◌, ◌⊎◌, ⊎_elim, inl, inr, ℕ, zero, suc, ◌+◌, ◌<◌, ◌≤◌, List, Some, Contains, None, Option, length, refl, sym, ap, ◌∙◌, arith, slice_get}
use Rattle.std.specs.Prelude.{Result, Ok, Err, option_map}
use Rattle.std.proofs.lemmas.Option.{same_Some, slice_get_within}
use Rattle.ig_text.proofs.Lists.{get_within, contains_from_at, mapped_in}
use Rattle.ig_item.specs.Core.{IsAlternative, numbered}
use Rattle.ig_item.specs.Items.{Item, first}
use Rattle.ig_item.specs.Tables.{instance_by}
use Rattle.ig_item.specs.declared.core_grammar.Nonterminal.{Nonterminal}
use Rattle.ig_item.specs.declared.core_grammar.CoreAlt.{CoreAlt}
use Rattle.ig_item.specs.declared.items.Instance.{Instance}
use Rattle.ig_item.specs.declared.items.InstanceKey.{InstanceKey}
use Rattle.ig_item.specs.declared.items.Item as stored
use Rattle.ig_item.specs.declared.run_fault.RunFault.{RunFault}
use Rattle.ig_item.specs.declared.ways.Way.{Way}
use Rattle.ig_item.specs.declared.ways.Way.TheVariants.{Begin}
use Rattle.ig_run_moves.specs.Finding as by_number
use Rattle.ig_run_moves.specs.Tables.{first_stored}
use Rattle.ig_run_laws.specs.Rules.{IsFirstOf}
use Rattle.ig_engine.specs.Adding.{Adds, By, IsAdded, Pushes}
use Rattle.ig_engine.specs.Given as laws
use Rattle.ig_engine.specs.Reached.{Reached, AreTables, Named, keys_in, means, reached, seen}
use Rattle.ig_engine.proofs.Adding.{adds_alike, adds_nothing, adds_then, pushes_add, stops_alike}
use Rattle.ig_engine.proofs.Lists.{extends_cases}

-- x is the first item of one of the first n alternatives
pub record IsFirst (core : List Nonterminal) (callee : Instance) (n : ℕ) (x : Item) : Type 0 where
  pub number : ℕ
  pub nonterminal : Nonterminal
  pub alternative : CoreAlt
  pub has : IsAlternative core callee.nonterminal number nonterminal alternative
  pub few : number ≤ n
  pub is : x ≡ first callee number

module _ (given : laws.Tables) (core : List Nonterminal) (node : ℕ) (key : InstanceKey) (budget : ℕ) (a : Reached) (t : AreTables a)
    (at : slice_get (keys_in a) node ≡ Some key) where
  abbrev callee : Instance
  callee = instance_by a.envs key

  abbrev pub May : ℕ → Way → Item → Type 0
  May n = By Begin (IsFirst core callee n)

  abbrev pub All : Way → Item → Type 0
  All = By Begin (IsFirstOf core callee)

  key_there : Contains (keys_in a) key
  key_there = contains_from_at (keys_in a) node key at

  pub no_firsts : slice_get core key.nonterminal ≡ None → Adds All budget a a (Ok tt)
  no_firsts none =
      adds_nothing All budget a t (λ w x m. let e : None ≡ Some m.1.nonterminal = sym none ∙ m.1.has.there in cc)

  never : (n : ℕ) → n ≤ 0 → (m : Nonterminal) (c : CoreAlt) → IsAlternative core key.nonterminal n m c → ⊥
  never zero l m c h = let e = h.has in cc
  never (suc n) l m c h = omega (arith, l)

  pub begins : IsAdded (May 0) budget a a
  begins = adds_nothing (May 0) budget a t (λ w x m. never m.1.number m.1.few m.1.nonterminal m.1.alternative m.1.has)

  up_to : (n : ℕ) (x : Item) → IsFirst core callee (n + 1) x → IsFirst core callee n x ⊎ (x ≡ first callee (n + 1))
  up_to n x m = go (leb_cases m.number n m.few)
    where
      leb_cases : (k n : ℕ) → k ≤ n + 1 → (k ≤ n) ⊎ (k ≡ n + 1)
      leb_cases zero n l = inl (omega arith)
      leb_cases (suc k) zero l = inr (omega (arith, l))
      leb_cases (suc k) (suc n) l =
          ⊎_elim (λ (h : k ≤ n). inl (omega (arith, h))) (λ (h : k ≡ n + 1). inr (omega (arith, h))) (leb_cases k n (omega (arith, l)))

      go : (m.number ≤ n) ⊎ (m.number ≡ n + 1) → IsFirst core callee n x ⊎ (x ≡ first callee (n + 1))
      go (inl h) = inl (record { number = m.number; nonterminal = m.nonterminal; alternative = m.alternative; has = m.has; few = h; is = m.is })
      go (inr h) = inr (m.is ∙ ap (first callee) h)

  numbered_next : (nonterminal : Nonterminal) (n : ℕ) (alternative : CoreAlt) → slice_get nonterminal.alternatives n ≡ Some alternative →
      numbered nonterminal.alternatives (n + 1) ≡ Some alternative
  numbered_next nonterminal n alternative e =
      let q : n + 1 ≡ suc n = omega arith in ap (numbered nonterminal.alternatives) q ∙ e

  more_first : (n : ℕ) (w : Way) (x : Item) → May n w x → May (n + 1) w x
  more_first n w x m = (
    m.0,
    record {
      number = m.1.number;
      nonterminal = m.1.nonterminal;
      alternative = m.1.alternative;
      has = m.1.has;
      few = let l = m.1.few in omega (arith, l);
      is = m.1.is;
    },
  )

  first_of : (n : ℕ) (w : Way) (x : Item) → May n w x → All w x
  first_of n w x m =
      (m.0, record { number = m.1.number; nonterminal = m.1.nonterminal; alternative = m.1.alternative; has = m.1.has; is = m.1.is })

  -- the next one, of a nonterminal that has so many alternatives
  module _ (n : ℕ) (nonterminal : Nonterminal) (f : by_number.Finding) (there : slice_get core key.nonterminal ≡ Some nonterminal)
      (lt : n < length nonterminal.alternatives) (d : IsAdded (May n) budget a (reached a.envs a.nodes f)) where
    abbrev next : stored.Item
    next = first_stored node key (n + 1)

    next_is : means a next ≡ first callee (n + 1)
    next_is = (given.firsts_are_named a.envs (keys_in a) node key (n + 1) (t.values key key_there) at).is

    next_named : Named a next
    next_named = (given.firsts_are_named a.envs (keys_in a) node key (n + 1) (t.values key key_there) at).named

    is_first : (x : Item) → x ≡ means a next → IsFirst core callee (n + 1) x
    is_first x e =
        let alt = get_within nonterminal.alternatives n lt in
        record {
          number = n + 1;
          nonterminal = nonterminal;
          alternative = alt.0;
          has = record { there = there; has = numbered_next nonterminal n alt.0 alt.1 };
          few = omega arith;
          is = e ∙ next_is;
        }

    next_into : (w : Way) (x : Item) → By Begin (λ z. z ≡ means a next) w x → May (n + 1) w x
    next_into w x m = (m.0, is_first x m.1)

    splits : (w : Way) (x : Item) → May (n + 1) w x → May n w x ⊎ By Begin (λ z. z ≡ means a next) w x
    splits w x m =
        ⊎_elim (λ (h : IsFirst core callee n x). inl (m.0, h)) (λ (h : x ≡ first callee (n + 1)). inr (m.0, h ∙ sym next_is))
        (up_to n x m.1)

    -- it isn't there
    new_seen : ((x : Item) → IsFirstOf core callee x → Contains (seen a).items x → ⊥) →
        Contains (seen (reached a.envs a.nodes f)).items (means a next) → ⊥
    new_seen new c =
        ⊎_elim (λ (h : Contains (seen a).items (means a next)). new (means a next) (first_of (n + 1) Begin (means a next) (refl, is_first (means a next) refl)).1 h)
        (λ (h : Contains d.finds.items.more (means a next)). late (d.finds.each (means a next) h))
        (extends_cases (seen a).items (seen (reached a.envs a.nodes f)).items (means a next) d.finds.items c)
      where
        late : (way : Way) × May n way (means a next) → ⊥
        late q =
            let numbers : q.1.1.number ≡ n + 1 = ap (λ (z : Item). z.alternative) (sym q.1.1.is ∙ next_is) in
            let few = q.1.1.few in omega (arith, numbers, few)

    pub is_new : ((x : Item) → IsFirstOf core callee x → Contains (seen a).items x → ⊥) → Contains f.items next → ⊥
    is_new new c = new_seen new (mapped_in (means a) f.items next c)

    pub goes : ((x : Item) → IsFirstOf core callee x → Contains (seen a).items x → ⊥) → (f' : by_number.Finding)
        (r : Result (Unit {0}) RunFault) → Pushes f f' next Begin budget r → Adds (May (n + 1)) budget a (reached a.envs a.nodes f') r
    goes new f' r p =
        adds_then (May (n + 1)) (May n) (By Begin (λ z. z ≡ means a next)) budget a (reached a.envs a.nodes f) (reached a.envs a.nodes f') r
        (more_first n) next_into splits d
        (pushes_add given (reached a.envs a.nodes f) d.tables f' next next_named Begin budget r (new_seen new) p)

  few_firsts : (n : ℕ) (nonterminal : Nonterminal) → slice_get core key.nonterminal ≡ Some nonterminal → length nonterminal.alternatives ≤ n →
      (w : Way) (x : Item) → All w x → May n w x
  few_firsts n nonterminal there all w x m = (
    m.0,
    record {
      number = m.1.number;
      nonterminal = m.1.nonterminal;
      alternative = m.1.alternative;
      has = m.1.has;
      few = within m.1.number m.1.nonterminal m.1.alternative m.1.has;
      is = m.1.is;
    },
  )
    where
      within : (k : ℕ) (m : Nonterminal) (c : CoreAlt) → IsAlternative core key.nonterminal k m c → k ≤ n
      within zero m c h = omega arith
      within (suc k) m c h =
          let e : m ≡ nonterminal = same_Some m nonterminal (sym h.there ∙ there) in
          let l = slice_get_within m.alternatives k c h.has in let s = ap (λ (z : Nonterminal). length z.alternatives) e in omega (arith, l, s, all)

  pub ends : (n : ℕ) (nonterminal : Nonterminal) (b : Reached) → slice_get core key.nonterminal ≡ Some nonterminal →
      length nonterminal.alternatives ≤ n → IsAdded (May n) budget a b → Adds All budget a b (Ok tt)
  ends n nonterminal b there all d =
      adds_alike (May n) All budget a b (Ok tt) (first_of n) (few_firsts n nonterminal there all) d

  pub stops : (n : ℕ) (b : Reached) (f : RunFault) → Adds (May n) budget a b (Err f) → Adds All budget a b (Err f)
  stops n b f d = stops_alike (May n) All budget a b f (first_of n) d

pub mapped_some : {A B : Type 0} (f : A → B) (o : Option A) (y : B) → Some y ≡ option_map f o → (x : A) × (o ≡ Some x) × (y ≡ f x)
mapped_some f (Some x) y e = (x, refl, same_Some y (f x) e)
mapped_some f None y e = cc

pub mapped_none : {A B : Type 0} (f : A → B) (o : Option A) → None ≡ option_map f o → o ≡ None
mapped_none f (Some x) e = cc
mapped_none f None e = refl
