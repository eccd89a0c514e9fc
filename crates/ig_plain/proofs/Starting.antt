-- A run starts: the first items of the root begin, and nothing is taken.
use Rattle.std.proofs.Common.{◌≡◌, ⊎_elim, ℕ, ◌<◌, List, [], ◌∷◌, ◌++◌, Some, None, length, map, Contains, sym, ap, ◌∙◌, subst, slice_get}
use Rattle.ig_text.specs.Input.{Input}
use Rattle.ig_text.proofs.Lists.{contains_from_at, contains_one, none_in_nil}
use Rattle.ig_item.specs.Items.{Item}
use Rattle.ig_item.specs.Gives as given
use Rattle.ig_item.specs.Gives.{Taken, Gives}
use Rattle.ig_item.specs.Ways as ways
use Rattle.ig_item.specs.Ways.{WayLists, WayTo, IsWay, AreEnds}
use Rattle.ig_item.specs.declared.core_grammar.Nonterminal.{Nonterminal}
use Rattle.ig_item.specs.declared.items.Instance.{Instance}
use Rattle.ig_item.specs.declared.items.Item as stored
use Rattle.ig_item.specs.declared.ways.Way.{Way}
use Rattle.ig_item.specs.declared.ways.Way.TheVariants.{Begin}
use Rattle.ig_item.specs.declared.ways.FurtherWay.{FurtherWay}
use Rattle.ig_item.specs.declared.ways.FurtherEnd.{FurtherEnd}
use Rattle.ig_plain.specs.declared.found.Found.{Found}
use Rattle.ig_plain.specs.declared.trail.Trail.{Trail}
use Rattle.ig_run_moves.specs.declared.waiting.Waiting.{Waiting}
use Rattle.ig_run_moves.specs.declared.waiting.Called.{Called}
use Rattle.ig_run_moves.specs.declared.waiting.Caller.{Caller}
use Rattle.ig_plain.specs.Found.{means, found_in, later_in, taken_in}
use Rattle.ig_run_laws.specs.Rules.{IsFirstOf}
use Rattle.ig_run_moves.specs.Waiting.{not_called}
use Rattle.ig_plain.specs.Trail as trail
use Rattle.ig_plain.specs.Trail.{IsRecorded, FollowTrail, HasTrail, Records, By, IsUntrodden}
use Rattle.ig_plain.proofs.Growth.{extends_cases}
use Rattle.ig_plain.proofs.Indexing.{indexed_same, indexed_none}

-- from no items nothing is given
none_given : (core : List Nonterminal) (text : Input) (known : Item → Type 0) (prev x : Item) (taken : Taken) →
    ((y : Item) → known y → ⊥) → Gives core text known prev taken x → ⊥
none_given core text known prev x taken none (given.test p names e y k before holds is) = none p k
none_given core text known prev x taken none (given.bind p names name e v y k before has is) = none p k
none_given core text known prev x taken none (given.terminal p names what label excluded j t y k before matches free leaf is) = none p k
none_given core text known prev x taken none (given.return p done label excluded key y k l calls completes free is) = none p k

-- nothing is found
pub nothing_found : (s : Found) → s.done.items ≡ [] → s.here.items ≡ [] → found_in s ≡ []
nothing_found s done here =
    ap (λ (z : List stored.Item). map (means s) (z ++ s.here.items)) done ∙ ap (λ (z : List stored.Item). map (means s) z) here

pub none_unfound : (f : stored.Item → Item) (xs ys : List stored.Item) → xs ≡ [] → ys ≡ [] → (x : Item) → Contains (map f (xs ++ ys)) x → ⊥
none_unfound f xs ys e d x c =
    none_in_nil x
    (subst (λ (z : List Item). Contains z x)
    (ap (λ (z : List stored.Item). map f (z ++ ys)) e ∙ ap (λ (z : List stored.Item). map f z) d) c)

module _ (core : List Nonterminal) (text : Input) (root : Instance) (s t : Found) (v : Waiting) (tr u : Trail) (no_done : s.done.items ≡ [])
    (no_here : s.here.items ≡ []) (done : t.done.items ≡ []) (later : s.later.items ≡ []) (called : v.called.items ≡ not_called ∷ []) (untrodden : IsUntrodden v tr)
    (r : Records (By Begin (IsFirstOf core root)) s t tr u) where
  abbrev known : List Item
  known = taken_in t 0

  nothing : found_in s ≡ []
  nothing = nothing_found s no_done no_here

  none_taken : (x : Item) → Contains known x → ⊥
  none_taken x c =
      none_in_nil x
      (subst (λ (z : List Item). Contains z x) (ap (λ (z : List stored.Item). map (means t) (z ++ [])) done) c)

  none_last : u.later.items ≡ []
  none_last = r.later ∙ untrodden.later

  none_later : later_in t ≡ []
  none_later = r.behind ∙ ap (λ (z : List stored.Item). map (means s) z) later

  even : length tr.ways.firsts ≡ length (found_in s)
  even = ap (λ (z : WayLists). length z.firsts) untrodden.ways ∙ sym (ap length nothing)

  further_there : (more : FurtherWay) → Contains u.ways.further more → more.item < length (found_in t)
  further_there more c =
      ⊎_elim
      (λ (h : Contains tr.ways.further more). absurd (none_in_nil more (subst (λ (z : WayLists). Contains z.further more) untrodden.ways h)))
      (λ (h : Contains r.further.more more). r.there more h)
      (extends_cases tr.ways.further u.ways.further more r.further c)

  none_before : (k : ℕ) (way : Way) → WayTo tr.ways k way → ⊥
  none_before k way (ways.found f) =
      none_in_nil way (contains_from_at [] k way (subst (λ (z : WayLists). slice_get z.firsts k ≡ Some way) untrodden.ways f))
  none_before k way (ways.again more c is e) =
      none_in_nil more (subst (λ (z : WayLists). Contains z.further more) untrodden.ways c)

  -- what is allowed begins
  begins : (way : Way) (x : Item) → By Begin (IsFirstOf core root) way x → IsWay core text (Contains known) (found_in t) x way
  begins way x m =
      subst (IsWay core text (Contains known) (found_in t) x) (sym m.0) (ways.begin (ap (λ (z : Item). z.dot) m.1.is))

  sound : (way : Way) (x : Item) → IsRecorded t u way x → IsWay core text (Contains known) (found_in t) x way
  sound way x (trail.here k at to) =
      ⊎_elim (λ (h : WayTo tr.ways k way). absurd (none_before k way h)) (λ (h : By Begin (IsFirstOf core root) way x). begins way x h)
      (r.each even k way x at to)
  sound way x (trail.later n pair e) =
      absurd (none_in_nil n (contains_from_at [] pair.0 n (subst (λ (z : List ℕ). slice_get z pair.0 ≡ Some n) none_last pair.2)))

  no_ends : u.ways.ends ≡ []
  no_ends = r.ends ∙ ap (λ (z : WayLists). z.ends) untrodden.ways

  ends : AreEnds core (Contains known) (found_in t) u.ways
  ends =
      record {
        first = λ x key k c. absurd (none_taken x k);
        exact = λ end. (
          λ c. absurd (none_in_nil end (subst (λ (z : List FurtherEnd). Contains z end) no_ends c)),
          λ q. absurd (none_taken q.further.item q.further.is_known),
        );
      }

  follow : FollowTrail core text t u known
  follow =
      record {
        numbered = r.numbered even;
        later_numbered = ap length none_last ∙ sym (ap length none_later);
        there = further_there;
        sound = sound;
        complete = λ x prev what g. absurd (none_given core text (Contains known) prev x what none_taken g);
        ends = ends;
      }

  pub starts_on : HasTrail core text 0 0 t v u
  starts_on =
      record {
        ways = follow;
        callers = λ cell c. absurd (none_in_nil cell (subst (λ (z : List Caller). Contains z cell) untrodden.callers c));
        ends = λ i callee one at there e.
            let is : one ≡ not_called =
            contains_one not_called one (subst (λ (z : List Called). Contains z one) called (contains_from_at v.called.items i one there)) in
            let z : None ≡ Some 0 = sym (ap (λ (q : Called). q.last_end) is) ∙ e in cc;
        indexed = r.indexed
            (indexed_same [] s.done.items [] s.here.items [] tr.ways.firsts [] tr.returned no_done no_here
            (ap (λ (z : WayLists). z.firsts) untrodden.ways) untrodden.returned indexed_none);
      }
