-- Which items are indexed, as more is found.
use Rattle.std.proofs.Common.{◌≡◌, ⊎_elim, ℕ, List, [], ◌∷◌, ◌++◌, Some, Option, Contains, option_map, option_and_then, sym, ap, ◌∙◌, subst, arith}
use Rattle.std.specs.Prelude.{Bool, true, slice_index_or}
use Rattle.std.proofs.lemmas.List.Elements.{Contains-append_left, Contains-append_right}
use Rattle.ig_text.proofs.Lists.{in_pushed, it_is_in, mapped_in, unmapped_in}
use Rattle.ig_text.specs.Input.{Input}
use Rattle.ig_text.specs.declared.pattern.Pattern.{Pattern}
use Rattle.ig_item.specs.Core.{IsAlternative, numbered as member, steps_at}
use Rattle.ig_item.specs.Items.{Item, Calls}
use Rattle.ig_item.specs.declared.core_grammar.Nonterminal.{Nonterminal}
use Rattle.ig_item.specs.declared.core_grammar.CoreAlt.{CoreAlt}
use Rattle.ig_item.specs.declared.items.Instance.{Instance}
use Rattle.ig_item.specs.declared.items.InstanceKey.{InstanceKey}
use Rattle.ig_item.specs.declared.items.Item as stored
use Rattle.ig_item.specs.declared.ways.Way.{Way}
use Rattle.ig_gss.specs.Nodes as shared
use Rattle.ig_run_moves.specs.Finding as numbered
use Rattle.ig_run_moves.specs.Tables.{IsOneFurther, no_key}
use Rattle.ig_run_laws.specs.FirstCalls.{CallsNothing, IsBehindFirst, IsBehindLater}
use Rattle.ig_run_laws.specs.Rules.{IsReturn}
use Rattle.ig_engine.specs.Adding.{ComesBehind, IsAdded, at_once, looked_up}
use Rattle.ig_engine.specs.Given as laws
use Rattle.ig_engine.specs.Reached.{Reached, AreIndexed, AreTables, keys_in, means, reached, seen}
use Rattle.ig_engine.proofs.Lists.{extends_cases, extends_in}
use Rattle.ig_engine.proofs.Tables.{grown_means}

steps_in : (core : List Nonterminal) (n a : ℕ) (m : Nonterminal) (u : CoreAlt) → IsAlternative core n a m u → steps_at core n a ≡ Some u.steps
steps_in core n a m u h =
    ap (λ o. option_map (λ (alternative : CoreAlt). alternative.steps) (option_and_then (λ (z : Nonterminal). member z.alternatives a) o)) h.there ∙
    ap (option_map (λ (alternative : CoreAlt). alternative.steps)) h.has

module _ (core : List Nonterminal) (keys : List InstanceKey) where
  abbrev pub nonterminal_in : stored.Item → ℕ
  nonterminal_in x = (slice_index_or keys x.instance no_key).nonterminal

  -- the item is behind a second or later call of its alternative
  abbrev pub IsLater : stored.Item → Type 0
  IsLater x = IsBehindLater core (nonterminal_in x) x.alternative x.dot

  -- an item more
  pub pushed_indexed : (a b : numbered.Finding) (y : stored.Item) → b.items ≡ a.items ++ y ∷ [] → AreIndexed core keys a →
      ((x : stored.Item) → Contains a.indexed x → Contains b.indexed x) → (IsLater y → Contains b.indexed y) → AreIndexed core keys b
  pushed_indexed a b y items old keep new x c later =
      ⊎_elim (λ (h : Contains a.items x). keep x (old x h later))
      (λ (h : x ≡ y). subst (Contains b.indexed) (sym h) (new (subst IsLater h later)))
      (in_pushed a.items y x (subst (λ (z : List stored.Item). Contains z x) items c))

  returned_indexed : (a b : numbered.Finding) (y : stored.Item) (prev done : ℕ) → numbered.Returns a b y prev done → AreIndexed core keys a →
      AreIndexed core keys b
  returned_indexed a b y prev done (numbered.new none p indexed) old =
      pushed_indexed a b y p.items old
      (λ x c. subst (λ (z : List stored.Item). Contains z x) (sym indexed) (Contains-append_left a.indexed (y ∷ []) x c))
      (λ later. subst (λ (z : List stored.Item). Contains z y) (sym indexed) (Contains-append_right a.indexed (y ∷ []) y (it_is_in y)))
  returned_indexed a b y prev done (numbered.again number at is) old = subst (AreIndexed core keys) (sym is) old

  pub behind_indexed : (a b : numbered.Finding) (y : stored.Item) (prev done : ℕ) (is_first : Bool) → ComesBehind a b y prev done is_first →
      (is_first ≡ true → IsLater y → ⊥) → AreIndexed core keys a → AreIndexed core keys b
  behind_indexed a b y prev done is_first (at_once none p first same) never old =
      pushed_indexed a b y p.items old (λ x c. subst (λ (z : List stored.Item). Contains z x) (sym same) c)
      (λ later. absurd (never first later))
  behind_indexed a b y prev done is_first (looked_up other r) never old = returned_indexed a b y prev done r old

  -- y is one dot further than this item
  module _ (it y : stored.Item) (f : IsOneFurther it y) where
    same_steps : steps_at core (nonterminal_in it) it.alternative ≡ steps_at core (nonterminal_in y) y.alternative
    same_steps =
        ap (λ (z : ℕ). steps_at core (slice_index_or keys z no_key).nonterminal it.alternative) (sym f.instance) ∙
        ap (steps_at core (nonterminal_in y)) (sym f.alternative)

    -- no call stands before the one that y has passed
    pub never_later : CallsNothing core (nonterminal_in it) it.alternative it.dot → IsLater y → ⊥
    never_later none later =
        later.later
        (λ steps k of lt call.
        none steps k (same_steps ∙ of) (let d = f.dot in let e = later.call.next in omega (arith, d, e, lt)) call)

    -- one does
    pub is_later : (text : Input) (s : Reached) → keys_in s ≡ keys → (callee : Instance) (label : Option (List ℕ)) (excluded : List Pattern) →
        Calls core text (means s it) callee label excluded → (CallsNothing core (nonterminal_in it) it.alternative it.dot → ⊥) → IsLater y
    is_later text s same callee label excluded calls some =
        let b = calls.before in
        record {
          call = record {
            before = it.dot;
            next = f.dot;
            steps = b.alternative.steps;
            of = sym same_steps ∙
                ap (λ (z : List InstanceKey). steps_at core (slice_index_or z it.instance no_key).nonterminal it.alternative) (sym same) ∙
                steps_in core (means s it).instance.nonterminal it.alternative b.nonterminal b.alternative b.has;
            calls = (callee.nonterminal, calls.arguments, label, excluded, b.next);
          };
          later = λ none. some (λ steps k of lt call. none steps k (sym same_steps ∙ of) lt call);
        }

-- what is behind a call before which no other one stands
pub behind_first : (core : List Nonterminal) (text : Input) (caller : Item) (callee : Instance) (end : ℕ) (x : Item) →
    IsReturn core text caller callee end x → CallsNothing core caller.instance.nonterminal caller.alternative caller.dot → IsBehindFirst core x
behind_first core text caller callee end x r none =
    record {
      before = caller.dot;
      next = ap (λ (z : Item). z.dot) r.is;
      nothing = subst (λ (z : Item). CallsNothing core z.instance.nonterminal z.alternative caller.dot) (sym r.is) none;
    }

-- what was added isn't behind second or later calls, and nothing more is indexed
pub indexed_still : (given : laws.Tables) (core : List Nonterminal) (may : Way → Item → Type 0) (budget : ℕ) (a b : Reached) → AreTables a →
    IsAdded may budget a b → b.found.indexed ≡ a.found.indexed →
    ((way : Way) (x : Item) → may way x → IsBehindLater core x.instance.nonterminal x.alternative x.dot → ⊥) →
    AreIndexed core (keys_in a) a.found → AreIndexed core (keys_in b) b.found
indexed_still given core may budget a b t d same never old x c later =
    ⊎_elim
    (λ (h : Contains (seen a).items (means b x)).
    let q = unmapped_in (means a) a.found.items (means b x) h in
    let named = t.items q.0 q.1 in
    let kept = ap (λ (z : List shared.Node). means (reached b.envs z b.found) q.0) d.nodes ∙ grown_means given a b.envs d.envs t q.0 named in
    let there : q.0 ≡ x =
    given.items_are_one b.envs (keys_in b) q.0 x d.tables.environments d.tables.instances d.tables.values
    (d.tables.items q.0 (extends_in a.found.items b.found.items q.0 d.items q.1)) (d.tables.items x c) (kept ∙ q.2) in
    subst (λ (z : List stored.Item). Contains z x) (sym same)
    (old x (subst (Contains a.found.items) there q.1)
    (subst (λ (z : List shared.Node). IsLater core (shared.keys_of z) x) d.nodes later)))
    (λ (h : Contains d.finds.items.more (means b x)).
    let m = d.finds.each (means b x) h in absurd (never m.0 (means b x) m.1 later))
    (extends_cases (seen a).items (seen b).items (means b x) d.finds.items (mapped_in (means b) b.found.items x c))
