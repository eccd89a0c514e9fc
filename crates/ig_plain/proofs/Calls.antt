-- An item before a call is taken.
use Rattle.std.proofs.Common.{◌≡◌, ◌⊎◌, ⊎_elim, inl, inr, ℕ, suc, ◌<◌, ◌≤◌, List, [], ◌∷◌, ◌++◌, Some, Option, length, map, set, take, Contains, refl, sym, ap, ◌∙◌, subst, arith, slice_get}
use Rattle.std.specs.Prelude.{Bool, Result, Ok, Err}
use Rattle.std.proofs.lemmas.Option.{same_Some, slice_get_within, slice_get-get_or}
use Rattle.std.proofs.lemmas.List.Elements.{Contains-append_left, Contains-append_right, Contains-append_cases}
use Rattle.std.proofs.lemmas.List.{length-set}
use Rattle.ig_text.specs.Input.{Input}
use Rattle.ig_text.specs.declared.pattern.Pattern.{Pattern}
use Rattle.ig_text.proofs.Lists.{contains_from_at, it_is_in, contains_one, unmapped_in, among_all}
use Rattle.ig_text.proofs.Equal.{same_listed}
use Rattle.ig_expr.specs.Evaluation.{value_of}
use Rattle.ig_item.specs.Step.{Step, Call}
use Rattle.ig_item.specs.Core.{IsAlternative}
use Rattle.ig_item.specs.Visible.{names_at}
use Rattle.ig_item.specs.Items.{Item, IsComplete, Calls, MatchesNone, StandsBefore, past, span_of, first}
use Rattle.ig_item.specs.Laws.{ReachableIsClosed, ItemsAreInText}
use Rattle.ig_item.specs.WellKinded.{NoneTwice}
use Rattle.ig_item.specs.declared.core_grammar.Nonterminal.{Nonterminal}
use Rattle.ig_item.specs.declared.items.Instance.{Instance}
use Rattle.ig_item.specs.declared.items.Item as stored
use Rattle.ig_item.specs.declared.run_fault.RunFault.{RunFault}
use Rattle.ig_plain.specs.declared.found.Found.{Found}
use Rattle.ig_run_moves.specs.declared.waiting.Waiting.{Waiting}
use Rattle.ig_run_moves.specs.declared.waiting.Called.{Called}
use Rattle.ig_run_moves.specs.declared.waiting.Caller.{Caller}
use Rattle.ig_plain.specs.Found.{means, instances_in, found_in, later_in, taken_in, Named, Adds}
use Rattle.ig_run_laws.specs.Rules as rules
use Rattle.ig_run_moves.specs.Rules.{IsPastCall}
use Rattle.ig_run_laws.specs.Rules.{After, IsCaller}
use Rattle.ig_run_moves.specs.Waiting.{called_at, not_called, lengthened, first_or, with_caller}
use Rattle.ig_plain.specs.Run.{Chains, ChainEnds, HasCallers, HasEnd, IsWaiting, IsRun, IsTaken}
use Rattle.ig_plain.proofs.Extending.{extends_itself}
use Rattle.ig_plain.proofs.Growth.{grows_not}
use Rattle.ig_plain.proofs.Following.{one_step, not_both, same_alternative}
use Rattle.ig_plain.proofs.Running.{takes_found, taken_now, refuses, taken_found}
use Rattle.ig_plain.proofs.Waiters.{Keeps, callers_still, end_still, end_more, set_cases}
use Rattle.ig_plain.proofs.Links.{chain_stays, end_stays, end_within, last_in, stays_at, chain_longer, end_longer}
use Rattle.ig_plain.proofs.Completes.{keeps_grown, instances_once, item_named, firsts_kept}

-- one list of names is visible at a dot
pub visible_one : (core : List Nonterminal) (text : Input) (it : Item) (names others : List (List ℕ)) (s t : Step) →
    StandsBefore core it names s → StandsBefore core it others t → names ≡ others
visible_one core text it names others s t p q =
    let n : p.nonterminal ≡ q.nonterminal = same_Some p.nonterminal q.nonterminal (sym p.has.there ∙ q.has.there) in
    let a = same_alternative core text it.instance.nonterminal it.alternative p.nonterminal q.nonterminal p.alternative q.alternative p.has q.has in
    p.visible ∙ ap (λ z. names_at z p.alternative it.dot) n ∙ ap (λ z. names_at q.nonterminal z it.dot) a ∙ sym q.visible

-- an item calls one instance
pub calls_one : (core : List Nonterminal) (text : Input) (it : Item) (a b : Instance) (l m : Option (List ℕ)) (e f : List Pattern) →
    Calls core text it a l e → Calls core text it b m f → (a ≡ b) × (l ≡ m) × (e ≡ f)
calls_one core text it a b l m e f p q =
    let steps = one_step core text it p.names q.names (Call a.nonterminal p.arguments l e) (Call b.nonterminal q.arguments m f) p.before q.before in
    let n : a.nonterminal ≡ b.nonterminal = cc steps in
    let args : p.arguments ≡ q.arguments = cc steps in
    let names : p.names ≡ q.names = visible_one core text it p.names q.names (Call a.nonterminal p.arguments l e) (Call b.nonterminal q.arguments m f) p.before q.before in
    let vals : map (value_of text p.names it.env it.position) p.arguments ≡ map (value_of text q.names it.env it.position) q.arguments =
    ap (λ (z : List (List ℕ)). map (value_of text z it.env it.position) p.arguments) names ∙ ap (map (value_of text q.names it.env it.position)) args in
    let v : a.values ≡ b.values = same_listed a.values b.values (sym p.values ∙ vals ∙ q.values) in
    let s : a.start ≡ b.start = p.here ∙ sym q.here in
    ((λ i. record { nonterminal = n i; values = v i; start = s i }), cc steps, cc steps)

module _ (core : List Nonterminal) (text : Input) (p : ℕ) (s t : Found) (taken : List Item) (item : stored.Item) (v u : Waiting) (i : ℕ) (callee : Instance)
    (keeps : Keeps s t) (named : Named s item) (r : IsWaiting core text p s taken v) (once : NoneTwice (instances_in s))
    (at : slice_get (instances_in s) i ≡ Some callee) (calls : IsCaller core text (means s item) callee)
    (number : ℕ) (is_bare : Bool) (cells : u.callers.items ≡ lengthened v.callers.items (called_at v i).last item number is_bare)
    (called : u.called.items ≡ set v.called.items i (with_caller (called_at v i) (suc (length v.callers.items)))) where
  abbrev it : Item
  it = means s item

  lt : i < length v.called.items
  lt = let l = slice_get_within (instances_in s) i callee at in let e = r.lengths in omega (arith, l, e)

  was : slice_get v.called.items i ≡ Some (called_at v i)
  was = slice_get-get_or v.called.items i not_called lt

  only : (other : Instance) → IsCaller core text it other → other ≡ callee
  only other c = (calls_one core text it other callee c.label calls.label c.excluded calls.excluded c.calls calls.calls).0

  unfinished : IsComplete core it → ⊥
  unfinished = not_both core text it calls.calls.names _ calls.calls.before

  back : (j : ℕ) (other : Instance) → slice_get (instances_in t) j ≡ Some other → slice_get (instances_in s) j ≡ Some other
  back j other e = subst (λ (z : List Instance). slice_get z j ≡ Some other) keeps.instances e

  before_of : (j : ℕ) (after : Called) → slice_get u.called.items j ≡ Some after →
      ((j ≡ i) × (after ≡ with_caller (called_at v i) (suc (length v.callers.items)))) ⊎
      ((j ≡ i → ⊥) × (slice_get v.called.items j ≡ Some after))
  before_of j after e =
      ⊎_elim (λ h. inl (h.0, h.1)) (λ h. inr h)
      (set_cases v.called.items i (with_caller (called_at v i) (suc (length v.callers.items))) j after
      (subst (λ (z : List Called). slice_get z j ≡ Some after) called e))

  abbrev before : Called
  before = called_at v i

  abbrev place : ℕ
  place = suc (length v.callers.items)

  old : HasCallers core text s taken v.callers.items before.first before.last callee
  old = r.callers i callee before at was

  -- the chain of the callee, with the item behind it
  joined : HasCallers core text t (taken ++ it ∷ []) u.callers.items (first_or before.first place) place callee
  joined =
      record {
        chain = old.chain ++ item ∷ [];
        chained = subst (λ (z : List Caller). Chains z (first_or before.first place) (old.chain ++ item ∷ [])) (sym cells)
            (chain_longer v.callers.items item number is_bare before.first before.last old.ended old.chain old.chained);
        ended = subst (λ (z : List Caller). ChainEnds z (first_or before.first place) place) (sym cells)
            (end_longer v.callers.items item number is_bare before.first before.last old.ended);
        named = λ y c.
            ⊎_elim (λ (h : Contains old.chain y). keeps.named y (old.named y h))
            (λ (h : Contains (item ∷ []) y). keeps.named y (subst (Named s) (sym (contains_one item y h)) named))
            (Contains-append_cases old.chain (item ∷ []) y c);
        callers = λ y c.
            ⊎_elim
            (λ (h : Contains old.chain y).
            let q = old.callers y h in let e = sym (keeps.means_same y (old.named y h)) in
            (subst (Contains (taken ++ it ∷ [])) e (Contains-append_left taken (it ∷ []) (means s y) q.0), subst (λ (z : Item). IsCaller core text z callee) e q.1))
            (λ (h : Contains (item ∷ []) y).
            let e = ap (means t) (contains_one item y h) ∙ keeps.means_same item named in (
              subst (Contains (taken ++ it ∷ [])) (sym e) (Contains-append_right taken (it ∷ []) it (it_is_in it)),
              subst (λ (z : Item). IsCaller core text z callee) (sym e) calls,
            ))
            (Contains-append_cases old.chain (item ∷ []) y c);
        all = λ x c d.
            ⊎_elim
            (λ (h : Contains taken x).
            let q = old.all x h d in (q.0, Contains-append_left old.chain (item ∷ []) q.0 q.1, keeps.means_same q.0 (old.named q.0 q.1) ∙ q.2))
            (λ (h : Contains (it ∷ []) x).
            (item, Contains-append_right old.chain (item ∷ []) item (it_is_in item), keeps.means_same item named ∙ sym (contains_one it x h)))
            (Contains-append_cases taken (it ∷ []) x c);
      }

  -- the last caller of the callee calls no other instance, so the chains of those stay
  other_stays : (j : ℕ) (other : Instance) (after : Called) (e : slice_get (instances_in s) j ≡ Some other) → (j ≡ i → ⊥) →
      (known : slice_get v.called.items j ≡ Some after) → (k : ℕ) (cell : Caller) → slice_get v.callers.items k ≡ Some cell →
      Contains (r.callers j other after e known).chain cell.item →
      slice_get (lengthened v.callers.items before.last item number is_bare) k ≡ Some cell
  other_stays j other after e apart known k cell there among =
      stays_at v.callers.items item number is_bare before.last k cell
      (λ is.
      let a = ((r.callers j other after e known).callers cell.item among).1 in
      let b = (old.callers cell.item (last_in v.callers.items before.first before.last old.ended old.chain old.chained k cell (sym is) there)).1 in
      let same = (calls_one core text (means s cell.item) other callee a.label b.label a.excluded b.excluded a.calls b.calls).0 in
      apart (once j i callee (e ∙ ap Some same) at))
      there

  other_callers : (j : ℕ) (other : Instance) (after : Called) → slice_get (instances_in s) j ≡ Some other → (j ≡ i → ⊥) →
      slice_get v.called.items j ≡ Some after → HasCallers core text t (taken ++ it ∷ []) u.callers.items after.first after.last other
  other_callers j other after e apart known =
      let h = r.callers j other after e known in
      let stays = other_stays j other after e apart known in
      callers_still core text p s t taken it u.callers.items after.first after.last other keeps
      (λ c. apart (once j i callee (e ∙ ap Some (only other c)) at))
      (record {
        chain = h.chain;
        chained = subst (λ (z : List Caller). Chains z after.first h.chain) (sym cells)
            (chain_stays v.callers.items (lengthened v.callers.items before.last item number is_bare) after.first h.chain h.chained stays);
        ended = subst (λ (z : List Caller). ChainEnds z after.first after.last) (sym cells)
            (end_stays v.callers.items (lengthened v.callers.items before.last item number is_bare) after.first after.last h.ended h.chain h.chained stays);
        named = h.named;
        callers = h.callers;
        all = h.all;
      })

  ends_same : (j : ℕ) (other : Instance) (before : Called) → slice_get (instances_in s) j ≡ Some other → slice_get v.called.items j ≡ Some before →
      ((before.last_end ≡ Some p → HasEnd core (taken ++ it ∷ []) other p) × (HasEnd core (taken ++ it ∷ []) other p → before.last_end ≡ Some p))
  ends_same j other before e known =
      let d = r.ends j other before e known in
      (λ x. end_more core text p taken (it ∷ []) other (d.0 x), λ x. d.1 (end_still core text p taken it other (λ a b c. unfinished b) x))

  pub waits_call : IsWaiting core text p t (taken ++ it ∷ []) u
  waits_call =
      record {
        lengths = ap length called ∙ length-set v.called.items i (with_caller (called_at v i) (suc (length v.callers.items))) ∙ r.lengths ∙
            ap length (sym keeps.instances);
        callers = λ j other after e known.
            ⊎_elim
            (λ h.
            let same : other ≡ callee = same_Some other callee (sym (back j other e) ∙ ap (slice_get (instances_in s)) h.0 ∙ at) in
            subst (λ (z : Instance). HasCallers core text t (taken ++ it ∷ []) u.callers.items after.first after.last z) (sym same)
            (subst (λ (z : Called). HasCallers core text t (taken ++ it ∷ []) u.callers.items z.first z.last callee) (sym h.1) joined))
            (λ h. other_callers j other after (back j other e) h.0 h.1) (before_of j after known);
        ends = λ j other after e known.
            ⊎_elim
            (λ h.
            let known_before : slice_get v.called.items j ≡ Some (called_at v i) = ap (slice_get v.called.items) h.0 ∙ was in
            let d = ends_same j other (called_at v i) (back j other e) known_before in
            let same : after.last_end ≡ (called_at v i).last_end = ap (λ (z : Called). z.last_end) h.1 in
            (λ x. d.0 (sym same ∙ x), λ x. same ∙ d.1 x))
            (λ h. ends_same j other after (back j other e) h.1) (before_of j after known);
        known = λ x other c d.
            subst (λ (z : List Instance). Contains z other) (sym keeps.instances)
            (⊎_elim (λ (h : Contains taken x). r.known x other h d)
            (λ (h : Contains (it ∷ []) x).
            contains_from_at (instances_in s) i other (at ∙ ap Some (sym (only other (subst (λ (z : Item). IsCaller core text z other) (contains_one it x h) d)))))
            (Contains-append_cases taken (it ∷ []) x c));
        before = λ j after e known is.
            ⊎_elim
            (λ h. r.before i (called_at v i) e was (sym (ap (λ (z : Called). z.last_end) h.1) ∙ is))
            (λ h. r.before j after e h.1 is) (before_of j after known);
      }

module _ (core : List Nonterminal) (text : Input) (law : ReachableIsClosed) (inside : ItemsAreInText) (budget p k : ℕ) (s : Found) (v : Waiting) (item : stored.Item)
    (here : item.position ≡ p) (r : IsRun core text budget p k s v) (at : slice_get s.here.items k ≡ Some item) (i : ℕ) (callee : Instance)
    (label : Option (List ℕ)) (excluded : List Pattern) (there : slice_get (instances_in s) i ≡ Some callee)
    (calls : Calls core text (means s item) callee label excluded) where
  abbrev one : Item
  one = means s item

  -- a taken item isn't behind the position
  taken_past : (x : Item) → Contains (taken_in s k) x → x.position ≤ p
  taken_past x c =
      let a = unmapped_in (means s) (s.done.items ++ take k s.here.items) x c in
      let e : a.0.position ≡ x.position = ap (λ (z : Item). z.position) a.2 in
      ⊎_elim (λ (h : Contains s.done.items a.0). let l = r.taking.stored.before a.0 h in omega (arith, l, e))
      (λ (h : Contains (take k s.here.items) a.0). let l = r.taking.stored.at a.0 (among_all s.here.items k a.0 h) in omega (arith, l, e))
      (Contains-append_cases s.done.items (take k s.here.items) a.0 a.1)

  -- a complete item of the callee ends here
  pub ends_here : (done : Item) → Contains (taken_in s k) done → done.instance ≡ callee → done.position ≡ p
  ends_here done c of =
      let l = taken_past done c in
      let q = (inside core text done (r.taking.reachable done (Contains-append_left (found_in s) (later_in s) done (taken_found s k done c)))).onward in
      let e : done.instance.start ≡ callee.start = ap (λ (z : Instance). z.start) of in
      let f : callee.start ≡ one.position = calls.here in
      omega (arith, l, q, e, f, here)

  pub there_known : slice_get v.called.items i ≡ Some (called_at v i)
  there_known =
      slice_get-get_or v.called.items i not_called
      (let l = slice_get_within (instances_in s) i callee there in let e = r.waiting.lengths in omega (arith, l, e))

  -- the last caller of the callee is there
  pub last_there : (called_at v i).last ≤ length v.callers.items
  last_there =
      let h = r.waiting.callers i callee (called_at v i) there there_known in
      end_within v.callers.items (called_at v i).first (called_at v i).last h.ended

  -- what follows: the first items, which are there, and where the callee ended here, the item after the call
  sorts : (x : Item) → After core text (Contains (taken_in s k)) one x →
      Contains (found_in s ++ later_in s) x ⊎
      (HasEnd core (taken_in s k) callee p × MatchesNone text excluded one.position p × (x ≡ past one (span_of label one.position p) p))
  sorts x (rules.test names e before holds f) = let z = one_step core text one names calls.names _ _ before calls.before in cc
  sorts x (rules.bind names name e w before has f) = let z = one_step core text one names calls.names _ _ before calls.before in cc
  sorts x (rules.terminal names what l ex j before matches free e) = let z = one_step core text one names calls.names _ _ before calls.before in cc
  sorts x (rules.call other l ex nonterminal a alternative c has e) =
      let q = (calls_one core text one other callee l label ex excluded c calls).0 in
      inl (subst (Contains (found_in s ++ later_in s)) (sym (e ∙ ap (λ (z : Instance). first z a) q))
      (r.firsts callee (contains_from_at (instances_in s) i callee there) a nonterminal alternative
      (subst (λ (z : Instance). IsAlternative core z.nonterminal a nonterminal alternative) q has)))
  sorts x (rules.return done l ex c calls2 complete free e) =
      let q = calls_one core text one done.instance callee l label ex excluded calls2 calls in
      let ends = ends_here done c q.0 in
      inr (
        record { item = done; among = c; of = q.0; complete = complete; ends = ends },
        subst (λ (n : ℕ). MatchesNone text excluded one.position n) ends (subst (λ (z : List Pattern). MatchesNone text z one.position done.position) q.2 free),
        e ∙ ap (λ (z : Option (List ℕ)). past one (span_of z one.position done.position) done.position) q.1 ∙
            ap (λ (n : ℕ). past one (span_of label one.position n) n) ends,
      )
  sorts x (rules.returned caller l ex c calls2 complete free e) = absurd (not_both core text one calls.names _ calls.before complete)

  module _ (u : Waiting) (number : ℕ) (is_bare : Bool) (cells : u.callers.items ≡ lengthened v.callers.items (called_at v i).last item number is_bare)
      (called : u.called.items ≡ set v.called.items i (with_caller (called_at v i) (suc (length v.callers.items)))) where
    waits_then : (t : Found) → Keeps s t → IsWaiting core text p t (taken_in s k ++ one ∷ []) u
    waits_then t keeps =
        waits_call core text p s t (taken_in s k) item v u i callee keeps
        (item_named core text law budget p k s v item here r at) r.waiting
        (instances_once s r.taking.stored.tables.environments r.taking.stored.tables.instances) there
        (record { label = label; excluded = excluded; calls = calls }) number is_bare cells called

    -- the callee has no end here
    pub calls_only : ((called_at v i).last_end ≡ Some p → ⊥) → IsRun core text budget p (suc k) s u
    calls_only apart =
        let never : Item → Type 0 = λ x. ⊥ in
        let g = grows_not p never s s (extends_itself s.envs.keys) (λ h. h) refl refl refl refl in
        record {
          taking = takes_found core text law budget p k s item r.taking at never s g (λ x m. absurd m) (λ x m. absurd m) r.taking.within
              (λ x a.
              ⊎_elim (λ h. inr h) (λ h. absurd (apart ((r.waiting.ends i callee (called_at v i) there there_known).1 h.0))) (sorts x a));
          firsts = r.firsts;
          waiting = subst (λ (z : List Item). IsWaiting core text p s z u) (sym (taken_now core text law budget p k s item r.taking at never s g (λ x m. absurd m)))
              (waits_then s (keeps_grown p never s s g));
        }

    -- the callee ended here
    pub calls_past : (called_at v i).last_end ≡ Some p → (t : Found) (result : Result (Unit {0}) RunFault) →
        Adds p (IsPastCall text label excluded p one) budget s t result →
        IsTaken core text budget p k t u result
    calls_past is t result d = go result d
      where
        end : HasEnd core (taken_in s k) callee p
        end = (r.waiting.ends i callee (called_at v i) there there_known).0 is

        sound : (x : Item) → IsPastCall text label excluded p one x → After core text (Contains (taken_in s k)) one x
        sound x m =
            rules.return end.item label excluded end.among (subst (λ (z : Instance). Calls core text one z label excluded) (sym end.of) calls) end.complete
            (subst (λ (n : ℕ). MatchesNone text excluded one.position n) (sym end.ends) m.0)
            (m.1 ∙ ap (λ (n : ℕ). past one (span_of label one.position n) n) (sym end.ends))

        go : (result : Result (Unit {0}) RunFault) →
            Adds p (IsPastCall text label excluded p one) budget s t result →
            IsTaken core text budget p k t u result
        go (Ok w) d =
            record {
              taking = takes_found core text law budget p k s item r.taking at _ t d.grows sound d.has (d.within r.taking.within)
                  (λ x a. ⊎_elim (λ h. inr h) (λ h. inl (h.1, h.2)) (sorts x a));
              firsts = firsts_kept core text law budget p k s v item here r at _ t d.grows;
              waiting = subst (λ (z : List Item). IsWaiting core text p t z u) (sym (taken_now core text law budget p k s item r.taking at _ t d.grows sound))
                  (waits_then t (keeps_grown p _ s t d.grows));
            }
        go (Err f) d = refuses core text law budget p k s item r.taking at _ t f d sound
