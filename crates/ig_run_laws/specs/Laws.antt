-- Laws of a run over a work list.
use Rattle.std.specs.Prelude.{◌≡◌, ◌↔◌, ◌⊎◌, ℕ, ◌≤◌, ◌<◌, List, [], ◌∷◌, Option, length, Contains, true}
use Rattle.ig_text.specs.Input.{Input}
use Rattle.ig_text.specs.Pattern.{Matches}
use Rattle.ig_text.specs.declared.pattern.Pattern.{Pattern}
use Rattle.ig_expr.specs.Expression.{Expression}
use Rattle.ig_expr.specs.declared.value.Value.{Value}
use Rattle.ig_expr.specs.declared.value.Value.TheVariants.{Bool}
use Rattle.ig_item.specs.Step.{Test, Bind, Term, Call}
use Rattle.ig_item.specs.Items.{Item, Reachable, IsComplete, MoreThan, StandsBefore, HasValue, MatchesNone, first, past, span_of, root_instance}
use Rattle.ig_item.specs.Ways.{AreWays}
use Rattle.ig_item.specs.WellKinded.{HasRoot}
use Rattle.ig_item.specs.declared.core_grammar.Nonterminal.{Nonterminal}
use Rattle.ig_item.specs.declared.items.Instance.{Instance}
use Rattle.ig_item.specs.declared.ways.Way.{Way}
use Rattle.ig_item.specs.declared.ways.Way.TheVariants.{Begin, Pass, Leaf, Node as Tree}
use Rattle.ig_queue.specs.declared.ticket.Ticket.{Ticket}
use Rattle.ig_run_laws.specs.AfterBy.{AfterBy, AfterCall, AfterEnd}
use Rattle.ig_run_laws.specs.Finding.{Finding, Finds, Records, IsRecorded, IsTaken, Takes, ticket_of, with_end, with_waiting}
use Rattle.ig_run_laws.specs.FirstCalls.{CallsNothing, IsBehindCall, IsBehindFirst}
use Rattle.ig_run_laws.specs.Renaming.{GivesLeast, renamed}
use Rattle.ig_run_laws.specs.Rules.{After, IsCaller, IsReturn, IsFirstOf}
use Rattle.ig_run_laws.specs.Run.{IsWhole, FollowMore}
use Rattle.ig_run_laws.specs.Stacks.{Node, Meets, IsFirstThere, HasPop, fresh, keys_of, pop}

-- at the empty schedule the found items are exactly the reachable ones
abbrev pub EndedRunsAreComplete : Type 0
EndedRunsAreComplete =
    (core : List Nonterminal) (text : Input) (a : Finding) (nodes : List Node) → IsWhole core text a nodes →
    a.waiting ≡ [] → (x : Item) → Contains a.items x ↔ Reachable core text x

-- and with the least numbers as names each of them came about in exactly the ways that the rules give
abbrev pub EndedRunsHaveWays : Type 0
EndedRunsHaveWays =
    (core : List Nonterminal) (text : Input) (a : Finding) (nodes : List Node) (least : ℕ → ℕ) → IsWhole core text a nodes →
    a.waiting ≡ [] → GivesLeast a.lists.ends least → AreWays core text a.items (renamed least a.lists)

-- what is found at the begin: the first root item, which waits
abbrev pub begun : List Ticket → Finding
begun waiting =
    record {
      items = first root_instance 1 ∷ [];
      lists = record { firsts = Begin ∷ []; further = []; ends = [] };
      waiting = waiting;
    }

-- a run begins with it, and with the node of the root
abbrev pub RunsBegin : Type 0
RunsBegin =
    (core : List Nonterminal) (text : Input) (waiting : List Ticket) →
    ((u : Ticket) → Contains waiting u ↔ (u ≡ ticket_of (first root_instance 1) 0)) →
    IsWhole core text (begun waiting) (fresh root_instance ∷ [])

-- an event: a ticket is taken, its item meets the stacks, and what follows is recorded; then the run is as before, with one
-- item more that is taken
abbrev pub EventsKeep : Type 0
EventsKeep =
    (core : List Nonterminal) (text : Input) (a b : Finding) (nodes after : List Node) (rest : List Ticket) (t : Ticket)
    (it : Item) → IsWhole core text a nodes → Takes a rest t it → Meets core text it t.number nodes after →
    (IsComplete core it → IsFirstThere nodes it) →
    Records (AfterBy core text a.items nodes it t.number) (with_waiting a rest) b → IsWhole core text b after

-- an event in which an item is complete where its node had a complete item before: it is listed beside that one
abbrev pub EndsKeep : Type 0
EndsKeep =
    (core : List Nonterminal) (text : Input) (a : Finding) (nodes : List Node) (rest : List Ticket) (t : Ticket) (it : Item)
    (done : ℕ) → IsWhole core text a nodes → Takes a rest t it → IsComplete core it →
    HasPop nodes it.instance (pop it.position done) → IsWhole core text (with_end (with_waiting a rest) done t.number) nodes

-- what is found in an event changes nothing of which items are taken
abbrev pub EventsTakeOne : Type 0
EventsTakeOne =
    (core : List Nonterminal) (text : Input) (a b : Finding) (nodes : List Node) (rest : List Ticket)
    (t : Ticket) (it : Item) → IsWhole core text a nodes → Takes a rest t it →
    Records (AfterBy core text a.items nodes it t.number) (with_waiting a rest) b →
    (x : Item) → IsTaken b.items b.waiting x ↔ IsTaken a.items rest x

-- what follows from the item that is taken and those before it: in some way
abbrev pub AllFollowsInSomeWay : Type 0
AllFollowsInSomeWay =
    (core : List Nonterminal) (text : Input) (a : Finding) (nodes : List Node) (rest : List Ticket) (t : Ticket) (it : Item) →
    IsWhole core text a nodes → Takes a rest t it → (x : Item) →
    After core text (IsTaken a.items rest) it x ↔ ((way : Way) × AfterBy core text a.items nodes it t.number way x)

-- what follows by the form of the step
abbrev pub TestsPass : Type 0
TestsPass =
    (core : List Nonterminal) (text : Input) (found : List Item) (nodes : List Node) (it : Item) (k : ℕ)
    (names : List (List ℕ)) (e : Expression) → StandsBefore core it names (Test e) → (way : Way) (x : Item) →
    AfterBy core text found nodes it k way x ↔
    ((way ≡ Pass k) × HasValue text it names e (Bool true) × (x ≡ past it [] it.position))

abbrev pub BindsPass : Type 0
BindsPass =
    (core : List Nonterminal) (text : Input) (found : List Item) (nodes : List Node) (it : Item) (k : ℕ)
    (names : List (List ℕ)) (name : List ℕ) (e : Expression) → StandsBefore core it names (Bind name e) →
    (way : Way) (x : Item) → AfterBy core text found nodes it k way x ↔
    ((way ≡ Pass k) × ((v : Value) × HasValue text it names e v × (x ≡ past it (v ∷ []) it.position)))

abbrev pub TerminalsTakeLeaves : Type 0
TerminalsTakeLeaves =
    (core : List Nonterminal) (text : Input) (found : List Item) (nodes : List Node) (it : Item) (k : ℕ)
    (names : List (List ℕ)) (what : Pattern) (label : Option (List ℕ)) (excluded : List Pattern) →
    StandsBefore core it names (Term what label excluded) → (way : Way) (x : Item) →
    AfterBy core text found nodes it k way x ↔
    ((way ≡ Leaf k) × ((j : ℕ) × Matches text what it.position j × MatchesNone text excluded it.position j ×
    (x ≡ past it (span_of label it.position j) j)))

abbrev pub CallersMeetPops : Type 0
CallersMeetPops =
    (core : List Nonterminal) (text : Input) (found : List Item) (nodes : List Node) (it : Item) (k : ℕ)
    (callee : Instance) → IsCaller core text it callee → (way : Way) (x : Item) →
    AfterBy core text found nodes it k way x ↔ AfterCall core text nodes it k callee way x

-- before a call whose arguments have no values
abbrev pub NoneIsCalled : Type 0
NoneIsCalled =
    (core : List Nonterminal) (text : Input) (found : List Item) (nodes : List Node) (it : Item) (k : ℕ)
    (names : List (List ℕ)) (callee : ℕ) (arguments : List Expression) (label : Option (List ℕ)) (excluded : List Pattern) →
    StandsBefore core it names (Call callee arguments label excluded) → ((i : Instance) → IsCaller core text it i → ⊥) →
    (way : Way) (x : Item) → AfterBy core text found nodes it k way x → ⊥

abbrev pub EndsMeetEdges : Type 0
EndsMeetEdges =
    (core : List Nonterminal) (text : Input) (found : List Item) (nodes : List Node) (it : Item) (k : ℕ) →
    IsComplete core it → (way : Way) (x : Item) →
    AfterBy core text found nodes it k way x ↔ AfterEnd core text found nodes it k way x

-- a return, where the call before which the item stands is known
abbrev pub ReturnsArePastCalls : Type 0
ReturnsArePastCalls =
    (core : List Nonterminal) (text : Input) (y : Item) (names : List (List ℕ)) (n : ℕ) (arguments : List Expression)
    (label : Option (List ℕ)) (excluded : List Pattern) (callee : Instance) →
    StandsBefore core y names (Call n arguments label excluded) → IsCaller core text y callee → (end : ℕ) (x : Item) →
    IsReturn core text y callee end x ↔
    (MatchesNone text excluded y.position end × (x ≡ past y (span_of label y.position end) end))

-- the first items of an instance that has a node are recorded
abbrev pub FirstsAreRecorded : Type 0
FirstsAreRecorded =
    (core : List Nonterminal) (text : Input) (a : Finding) (nodes : List Node) (callee : Instance) (x : Item) →
    HasRoot core → IsWhole core text a nodes → Contains (keys_of nodes) callee → IsFirstOf core callee x → IsRecorded a Begin x

-- those of one that has none aren't found
abbrev pub FirstsAreNew : Type 0
FirstsAreNew =
    (core : List Nonterminal) (text : Input) (a : Finding) (nodes : List Node) (callee : Instance) (x : Item) →
    IsWhole core text a nodes → (Contains (keys_of nodes) callee → ⊥) → IsFirstOf core callee x → Contains a.items x → ⊥

-- what follows from an item alone, over a step that calls nothing, isn't found before it is taken
abbrev pub StepsComeOnce : Type 0
StepsComeOnce =
    (core : List Nonterminal) (text : Input) (a : Finding) (nodes : List Node) (rest : List Ticket) (t : Ticket)
    (it x : Item) (way : Way) → IsWhole core text a nodes → Takes a rest t it →
    AfterBy core text a.items nodes it t.number way x → (way ≡ Pass t.number) ⊎ (way ≡ Leaf t.number) →
    Contains a.items x → ⊥

-- what stands behind the first call of its alternative and follows by a node isn't found before, either
abbrev pub FirstReturnsAreNew : Type 0
FirstReturnsAreNew =
    (core : List Nonterminal) (text : Input) (a : Finding) (nodes : List Node) (rest : List Ticket) (t : Ticket)
    (it x : Item) (prev done : ℕ) → IsWhole core text a nodes → Takes a rest t it →
    (IsComplete core it → IsFirstThere nodes it) → AfterBy core text a.items nodes it t.number (Tree prev done) x →
    IsBehindFirst core x → Contains a.items x → ⊥

-- no two items stand at one dot of an alternative of one instance, up to its first call
abbrev pub BeginsAreOne : Type 0
BeginsAreOne =
    (core : List Nonterminal) (text : Input) (a : Finding) (nodes : List Node) (y z : Item) → IsWhole core text a nodes →
    Contains a.items y → Contains a.items z → y.instance ≡ z.instance → y.alternative ≡ z.alternative → y.dot ≡ z.dot →
    CallsNothing core y.instance.nonterminal y.alternative y.dot → y ≡ z

-- what follows and stands behind a call follows by a node
abbrev pub ReturnsComeByNodes : Type 0
ReturnsComeByNodes =
    (core : List Nonterminal) (text : Input) (found : List Item) (nodes : List Node) (it x : Item) (k : ℕ) (way : Way) →
    AfterBy core text found nodes it k way x → IsBehindCall core x.instance.nonterminal x.alternative x.dot →
    (prev : ℕ) × (done : ℕ) × (way ≡ Tree prev done)

-- where an event finds more items than the budget, more follow from those that are taken, and more are reachable
abbrev pub RefusedBudgetsAreExceeded : Type 0
RefusedBudgetsAreExceeded =
    (core : List Nonterminal) (text : Input) (a : Finding) (longer : List Item) (nodes : List Node) (rest : List Ticket)
    (t : Ticket) (it : Item) (budget : ℕ) → IsWhole core text a nodes → Takes a rest t it →
    Finds (AfterBy core text a.items nodes it t.number) a.items longer → budget < length longer →
    FollowMore core text (IsTaken a.items rest) budget × MoreThan core text budget

-- and where a run has found no more, no more follow
abbrev pub BudgetsSuffice : Type 0
BudgetsSuffice =
    (core : List Nonterminal) (text : Input) (a : Finding) (nodes : List Node) (budget : ℕ) → IsWhole core text a nodes →
    length a.items ≤ budget → FollowMore core text (IsTaken a.items a.waiting) budget → ⊥
