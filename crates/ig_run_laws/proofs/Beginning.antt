-- A run begins with the first root item, which waits, and with the node of the root.
use Rattle.std.proofs.Common.{◌≡◌, ◌↔◌, ◌⊎◌, ⊎_elim, inl, ℕ, zero, suc, List, [], ◌∷◌, Some, Contains, refl, sym, ap, subst, slice_get}
use Rattle.std.proofs.lemmas.Option.{same_Some}
use Rattle.ig_text.specs.Input.{Input}
use Rattle.ig_text.proofs.Lists.{contains_one, it_is_in, none_in_nil}
use Rattle.ig_item.specs.Gives as given
use Rattle.ig_item.specs.Gives.{NodeKey, Taken, Gives}
use Rattle.ig_item.specs.Items as items
use Rattle.ig_item.specs.Items.{Item, Follows, first, root_instance}
use Rattle.ig_item.specs.Laws.{ReachableIsClosed}
use Rattle.ig_item.specs.Ways as ways
use Rattle.ig_item.specs.Ways.{WayTo}
use Rattle.ig_item.specs.WellKinded.{NoneTwice}
use Rattle.ig_item.specs.declared.core_grammar.Nonterminal.{Nonterminal}
use Rattle.ig_item.specs.declared.ways.Way.{Way}
use Rattle.ig_item.specs.declared.ways.Way.TheVariants.{Begin}
use Rattle.ig_queue.specs.declared.ticket.Ticket.{Ticket}
use Rattle.ig_run_laws.specs.Finding.{IsTaken, ticket_of}
use Rattle.ig_run_laws.specs.Laws.{RunsBegin, begun}
use Rattle.ig_run_laws.specs.Run.{IsRun, IsWhole}
use Rattle.ig_run_laws.specs.Stacks.{Node, Pop, AreStacks, IsCalled, IsName, fresh, pop}
use Rattle.ig_run_laws.specs.Trail as trails
use Rattle.ig_run_laws.specs.Trail.{HasTrail, IsWayNamed}

-- one member stands once
once_alone : {X : Type 0} (x : X) → NoneTwice (x ∷ [])
once_alone x zero zero y e f = refl
once_alone x zero (suc j) y e f = cc
once_alone x (suc i) j y e f = cc

-- what a rule gives comes from a known item
from_known : (core : List Nonterminal) (text : Input) (known : Item → Type 0) (prev : Item) (taken : Taken) (x : Item) →
    Gives core text known prev taken x → known prev
from_known core text known p v y (given.test prev names e x k before holds f) = k
from_known core text known p v y (given.bind prev names name e u x k before has f) = k
from_known core text known p v y (given.terminal prev names what label excluded j taken x k before matches free e f) = k
from_known core text known p v y (given.return prev done label excluded key x k l calls completes free f) = k

module _ (core : List Nonterminal) (text : Input) (known : Item → Type 0) (none : (y : Item) → known y → ⊥) where
  -- from no item the first root item follows alone
  root_alone : (x : Item) → Follows core text known x → x ≡ first root_instance 1
  root_alone x (items.root y e) = e
  root_alone x (items.test y names c z k before holds e) = absurd (none y k)
  root_alone x (items.bind y names name c v z k before has e) = absurd (none y k)
  root_alone x (items.terminal y names what label excluded j z k before matches free e) = absurd (none y k)
  root_alone x (items.call y callee label excluded nonterminal a alternative z k calls at e) = absurd (none y k)
  root_alone x (items.return y done label excluded z k l calls complete free e) = absurd (none y k)

module _ (core : List Nonterminal) (text : Input) (waiting : List Ticket)
    (exact : (u : Ticket) → Contains waiting u ↔ (u ≡ ticket_of (first root_instance 1) 0)) (law : ReachableIsClosed) where
  abbrev root_item : Item
  root_item = first root_instance 1

  abbrev found : List Item
  found = root_item ∷ []

  abbrev nodes : List Node
  nodes = fresh root_instance ∷ []

  abbrev known : Item → Type 0
  known = IsTaken found waiting

  none_taken : (y : Item) → known y → ⊥
  none_taken y t = at t.number t.there t.taken
    where
      at : (k : ℕ) → slice_get found k ≡ Some y → (Contains waiting (ticket_of y k) → ⊥) → ⊥
      at zero e no_ticket =
          let same : root_item ≡ y = same_Some root_item y e in
          no_ticket ((exact (ticket_of y 0)).1 (ap (λ (z : Item). ticket_of z 0) (sym same)))
      at (suc k) e no_ticket = cc

  run : IsRun core text found waiting
  run =
      record {
        once = once_alone root_item;
        tickets = λ u c.
            let same = (exact u).0 c in
            record {
              item = root_item;
              there = subst (λ (z : Ticket). slice_get found z.number ≡ Some root_item) (sym same) refl;
              position = ap (λ (z : Ticket). z.position) same;
            };
        exact = λ x. (
          λ c. items.root x (contains_one root_item x c),
          λ f. subst (Contains found) (sym (root_alone core text known none_taken x f)) (it_is_in root_item),
        );
        reachable = λ x c. law core text x (items.root x (contains_one root_item x c));
      }

  at_root : (node : Node) → Contains nodes node → node ≡ fresh root_instance
  at_root node c = contains_one (fresh root_instance) node c

  no_pop : (node : Node) → Contains nodes node → (p : Pop) → Contains node.pops p → ⊥
  no_pop node there p c = none_in_nil p (subst (λ (z : Node). Contains z.pops p) (at_root node there) c)

  stacks : AreStacks core text known found nodes
  stacks =
      record {
        once = once_alone root_instance;
        keys = λ i. (
          λ c. inl (contains_one root_instance i c),
          λ d. ⊎_elim (λ (e : i ≡ root_instance). subst (Contains (root_instance ∷ [])) (sym e) (it_is_in root_instance))
              (λ (q : IsCalled core text known i). absurd (none_taken q.item q.is_known)) d,
        );
        edges = λ node there e. (
          λ c. absurd (none_in_nil e (subst (λ (z : Node). Contains z.edges e) (at_root node there) c)),
          λ q. absurd (none_taken q.item q.is_known),
        );
        dones = λ node there p c. absurd (no_pop node there p c);
        pops = λ node there p q. absurd (none_taken q.item q.is_known);
        ends_once = λ node there p q c d e. absurd (no_pop node there p c);
      }

  no_name : (key : NodeKey) (d : ℕ) → IsName nodes key d → ⊥
  no_name key d n = no_pop n.0 n.1 (pop key.end d) n.3

  sound : (k : ℕ) (x : Item) (way : Way) → slice_get found k ≡ Some x → WayTo (begun waiting).lists k way →
      IsWayNamed core text known found nodes x way
  sound k x way at (ways.found f) = begins k at f
    where
      begins : (k : ℕ) → slice_get found k ≡ Some x → slice_get (Begin ∷ []) k ≡ Some way → IsWayNamed core text known found nodes x way
      begins zero at f =
          let same : root_item ≡ x = same_Some root_item x at in
          subst (IsWayNamed core text known found nodes x) (same_Some Begin way f)
          (trails.begin (ap (λ (z : Item). z.dot) (sym same)))
      begins (suc k) at f = cc
  sound k x way at (ways.again more c e is) = absurd (none_in_nil more c)

  trail : HasTrail core text known found nodes (begun waiting).lists
  trail =
      record {
        number = refl;
        there = λ more c. absurd (none_in_nil more c);
        sound = sound;
        complete = λ k x prev taken at g. absurd (none_taken prev (from_known core text known prev taken x g));
        ends = λ end. (
          λ c. absurd (none_in_nil end c),
          λ f. absurd (no_name f.key end.first f.name),
        );
      }

  pub begins_whole : IsWhole core text (begun waiting) nodes
  begins_whole =
      record {
        run = run;
        stacks = stacks;
        have_nodes = λ x c.
            subst (λ (z : Item). Contains (root_instance ∷ []) z.instance) (sym (contains_one root_item x c)) (it_is_in root_instance);
        trail = trail;
      }

pub runs_begin : ReachableIsClosed → RunsBegin
runs_begin law core text waiting exact = begins_whole core text waiting exact law
