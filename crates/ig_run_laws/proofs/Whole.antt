-- An event keeps the run, its stacks and its ways.
use Rattle.std.proofs.Common.{inl, List, Contains}
use Rattle.ig_text.specs.Input.{Input}
use Rattle.ig_item.specs.Induction.{follows_more}
use Rattle.ig_item.specs.Items.{Item, IsComplete}
use Rattle.ig_item.specs.Laws.{ReachableIsClosed}
use Rattle.ig_item.specs.declared.core_grammar.Nonterminal.{Nonterminal}
use Rattle.ig_item.specs.declared.ways.Way.{Way}
use Rattle.ig_queue.specs.declared.ticket.Ticket.{Ticket}
use Rattle.ig_run_laws.specs.AfterBy.{AfterBy}
use Rattle.ig_run_laws.specs.Finding.{Finding, Records, IsTaken, Takes, with_waiting}
use Rattle.ig_run_laws.specs.Laws.{EventsKeep}
use Rattle.ig_run_laws.specs.Run.{IsWhole}
use Rattle.ig_run_laws.specs.Stacks.{Node, AreStacks, IsFirstThere, Meets}
use Rattle.ig_run_laws.proofs.Events as events
use Rattle.ig_run_laws.proofs.Meeting.{met, alike, follower}
use Rattle.ig_run_laws.proofs.Taking.{taken_found}
use Rattle.ig_run_laws.proofs.Trails as trails

module _ (law : ReachableIsClosed) (core : List Nonterminal) (text : Input) (a b : Finding) (nodes after : List Node) (rest : List Ticket)
    (t : Ticket) (it : Item) (whole : IsWhole core text a nodes) (w : Takes a rest t it) (m : Meets core text it t.number nodes after)
    (first_there : IsComplete core it → IsFirstThere nodes it)
    (d : Records (AfterBy core text a.items nodes it t.number) (with_waiting a rest) b) where
  abbrev may : Way → Item → Type 0
  may = AfterBy core text a.items nodes it t.number

  abbrev wider : Item → Type 0
  wider = IsTaken b.items b.waiting

  stacks : AreStacks core text wider a.items after
  stacks =
      met core text (IsTaken a.items a.waiting) wider a.items it t.number nodes after whole.stacks whole.have_nodes
      (trails.too core text a b nodes after rest t it whole w m first_there d) m first_there

  were_found : (y : Item) → wider y → Contains a.items y
  were_found y k = taken_found a.items rest y (events.taken_back core text a nodes rest t it whole w b may d y k)

  pub event_kept : IsWhole core text b after
  event_kept =
      record {
        run = events.runs_on core text a nodes rest t it whole w b may d law (events.way_follows core text a nodes rest t it whole w)
            (events.follows_or core text a nodes rest t it whole w);
        stacks = alike core text wider wider a.items b.items after stacks (λ y k. k) (λ y k. k) were_found
            (trails.keeps core text a b nodes after rest t it whole w m first_there d) (d.once whole.run.once);
        have_nodes = λ x c.
            follower core text wider a.items after stacks
            (λ y k. (m.keys y.instance).1 (inl (whole.have_nodes y (were_found y k)))) x
            (follows_more core text (events.taken_forth core text a nodes rest t it whole w b may d)
            (events.found_follow core text a nodes rest t it whole w b may d law (events.way_follows core text a nodes rest t it whole w)
            (events.follows_or core text a nodes rest t it whole w) x c));
        trail = trails.trail_on core text a b nodes after rest t it whole w m first_there d;
      }

pub events_keep : ReachableIsClosed → EventsKeep
events_keep law core text a b nodes after rest t it whole w m first_there d =
    event_kept law core text a b nodes after rest t it whole w m first_there d
