-- What a forest's listing is of permitted trees.
use Rattle.std.proofs.Common.{◌≢◌, ◌↔◌, inl, inr, ℕ, ◌≤◌, List, [], get_or, Contains, Option, Some, None, Result, Ok, Err, Vec, Global, sym, subst, arith}
use Rattle.std.proofs.lemmas.List.Elements.{Contains-get_or}
use Rattle.ig_text.specs.Input.{Input}
use Rattle.ig_text.specs.Tree.{Tree, height}
use Rattle.ig_grammar.specs.Checked.{CheckedGrammar}
use Rattle.ig_item.specs.declared.core_grammar.Nonterminal.{Nonterminal}
use Rattle.ig_core.specs.Lowered.{CoreOf}
use Rattle.ig_forest.specs.Cursors.{Less}
use Rattle.ig_forest_tables.specs.Forest.{Forest}
use Rattle.ig_forest_tables.specs.Unfold.{Unfold}
use Rattle.ig_heights.specs.Heights.{IsCyclic}
use Rattle.ig_heights.specs.Laws.{HasLowTrees}
use Rattle.ig_parse.specs.Laws.{HasNoHighest}
use Rattle.ig_parse.specs.Parses.{IsForestOf}
use Rattle.ig_command_endings.specs.declared.stop.Stop.{Stop}
use Rattle.ig_command_endings.specs.declared.stop.Stop.TheVariants as halt
use Rattle.ig_command_endings.specs.declared.status.Status.{Status}
use Rattle.ig_command_endings.specs.declared.status.Status.TheVariants as status
use Rattle.ig_command.specs.Commands.{Listing}
use Rattle.ig_command_jobs.specs.Jobs.{list}
use Rattle.ig_command_jobs.specs.Listing as listing
use Rattle.ig_command_jobs.specs.Listing.{IsBounded, IsEligible, IsNoCursor, Begins, IsTreeListing, IsListedOrBehind, StandsBefore, StandsBehind}
use Rattle.ig_walker.specs.Listing.{IsBehind}
use Rattle.ig_walker.specs.Listed.{Listed, IsListedOrLater, IsListing}
use Rattle.ig_command_endings.specs.Notes.{depth_needed_note, no_cursor_note}
use Rattle.ig_command_jobs.specs.Finishes.{Finishes, depth_needed, bad_cursor, listed}
use Rattle.ig_command_answers.specs.Pages as pages
use Rattle.ig_command_answers.specs.Pages.{IsDepthFor, NeedsDepth, StandsAt, IsLost, IsListed}
use Rattle.ig_command_jobs.specs.Pages as stops
use Rattle.ig_command_jobs.specs.Pages.{StopsListing, ListsPage}
use Rattle.ig_command_endings.specs.Stops.{StopsWith}
use Rattle.ig_command_jobs.specs.Texts.{FinishesJob}

-- a listing that has no text stops a command
module _ (core : List Nonterminal) (f : Forest) (l : Listing) where
  pub page_needs_depth : (stop : Stop) → NeedsDepth f l.depth → StopsWith status.DepthNeeded depth_needed_note stop →
      ListsPage core f l (Err stop)
  page_needs_depth (halt.Note s line) needs h = stops.needs_depth s line.items needs h.0 h.1
  page_needs_depth halt.Memory needs h = tt

  pub page_lost : (stop : Stop) → (d : ℕ) × IsDepthFor f l.depth d × IsLost f d l.after →
      StopsWith status.BadCursor no_cursor_note stop → ListsPage core f l (Err stop)
  page_lost (halt.Note s line) lost h = stops.lost s line.items lost.0 lost.1 lost.2 h.0 h.1
  page_lost halt.Memory lost h = tt

module _ (c : CheckedGrammar) (text : Input) (f : Forest) (is : IsForestOf c text f) (low : HasLowTrees f)
    (unbounded : IsCyclic f ↔ HasNoHighest c text) where
  module _ (depth : Option ℕ) (d : ℕ) where
    bounded : IsDepthFor f depth d → IsBounded c text depth
    bounded = for depth
      where
        for : (o : Option ℕ) → IsDepthFor f o d → IsBounded c text o
        for None h = λ none. h.0 (unbounded.1 none)
        for (Some e) h = tt

    unfolds : IsDepthFor f depth d → (x : Listed) → IsEligible c text f depth x → Unfold f d x.cursor x.tree
    unfolds h x l = low.at_height f.root l.placed.0 d x.cursor x.tree l.placed.1 (within depth h l.within)
      where
        within : (o : Option ℕ) → IsDepthFor f o d → listing.IsWithin o x.tree → height x.tree ≤ d
        within None h w = h.1 l.placed.0 x.cursor x.tree l.placed.1
        within (Some e) h w = subst (λ z. height x.tree ≤ z) (sym h) w

    eligible : IsDepthFor f depth d → (cs : List ℕ) (t : Tree) → Unfold f d cs t →
        IsEligible c text f depth (record { cursor = cs; tree = t })
    eligible h cs t u =
        record { permitted = ((is.unfolds d t).0 (cs, u)).0; within = within depth h; placed = (d, u) }
      where
        within : (o : Option ℕ) → IsDepthFor f o d → listing.IsWithin o t
        within None h = tt
        within (Some e) h = subst (λ z. height t ≤ z) h (low.low f.root d cs t u)

    -- cursors are in the order of their trees
    in_order : (x y : Listed) → IsEligible c text f depth x → IsEligible c text f depth y → Less x.cursor y.cursor ↔ StandsBefore c text x.tree y.tree
    in_order x y l m = is.in_order l.placed.0 m.placed.0 x.cursor y.cursor x.tree y.tree l.placed.1 m.placed.1

    -- where a listing begins: what is behind the cursor is behind its tree
    record Begun (after from : Option (List ℕ)) : Type 0 where
      last : Option Tree
      begins : Begins c text f depth after last
      behind : (x : Listed) → IsEligible c text f depth x → IsBehind from x.cursor ↔ StandsBehind c text last x.tree

    begun : IsDepthFor f depth d → (after from : Option (List ℕ)) → StandsAt f d after from → Begun after from
    begun h after from (pages.at_first) = record { last = None; begins = listing.at_first; behind = λ x l. ((λ b. tt), (λ b. tt)) }
    begun h after from (pages.at_cursor word cursor e has) =
        let l = eligible h cursor has.0 has.1 in
        record {
          last = Some has.0;
          begins = listing.at_cursor word cursor has.0 (record { eligible = l; text_is = e });
          behind = λ x m. in_order (record { cursor = cursor; tree = has.0 }) x l m;
        }

    no_cursor : IsDepthFor f depth d → (after : Option (List ℕ)) (l : IsLost f d after) → IsNoCursor c text f depth l.word
    no_cursor h after l x is_cursor = l.none x.cursor (x.tree, unfolds h x is_cursor.eligible) is_cursor.text_is

    -- what comes behind cursors stands behind their trees
    listed_or_behind : (count : ℕ) (trees : List Listed) → ((y : Listed) → Contains trees y → IsEligible c text f depth y) →
        (x : Listed) → IsEligible c text f depth x → IsListedOrLater count trees x → IsListedOrBehind c text count trees x
    listed_or_behind count trees each x l (inl has) = inl has
    listed_or_behind count trees each x l (inr later) = inr (later.0, λ y has. (in_order y x (each y has) l).0 (later.1 y has))

    is_listing : IsDepthFor f depth d → {after from : Option (List ℕ)} (start : Begun after from) (count : ℕ) (trees : List Listed) →
        IsListing f d from count trees → IsTreeListing c text f depth start.last count trees
    is_listing h start count trees p =
        let each : (x : Listed) → Contains trees x → IsEligible c text f depth x = λ x has. eligible h x.cursor x.tree (p.are.unfolded x has) in
        record {
          eligible = each;
          behind = λ x has. (start.behind x (each x has)).0 (p.are.behind x has);
          order = λ i j a less within.
              let one = Contains-get_or trees i a (omega arith) in
              let other = Contains-get_or trees j a within in
              (in_order (get_or trees i a) (get_or trees j a) (each (get_or trees i a) one) (each (get_or trees j a) other)).0
              (p.are.order i j a less within);
          few = p.few;
          whole = λ x l b. listed_or_behind count trees each x l (p.whole x (unfolds h x l) ((start.behind x l).1 b));
        }

  made : (l : Listing) (out : List ℕ) → IsListed (CoreOf c) f l out → Finishes c text f (list l) status.Done out []
  made l out x =
      subst (λ (z : List ℕ). Finishes c text f (list l) status.Done z []) (sym x.page.text_is)
      (let start = begun l.depth x.depth x.for l.after x.from x.stands in
      listed l start.last x.page.trees (bounded l.depth x.depth x.for) start.begins
      (is_listing l.depth x.depth x.for start l.count x.page.trees x.page.page))

  stopped : (l : Listing) (s : Status) (note : List ℕ) → StopsListing f l s note →
      Finishes c text f (list l) s [] note × (s ≢ status.Done)
  stopped l s note (stops.needs_depth t line needs p q) =
      (rw (p, q) (depth_needed l needs.0 (unbounded.0 needs.1)), λ e. cc)
  stopped l s note (stops.lost t line d h x p q) =
      (rw (p, q) (bad_cursor l x.word (bounded l.depth d h) x.given (no_cursor l.depth d h l.after x)), λ e. cc)

  pub finishes_listing : (l : Listing) (r : Result (Vec ℕ Global) Stop) → ListsPage (CoreOf c) f l r → FinishesJob c text f (list l) r
  finishes_listing l (Ok out) h = made l out.items h
  finishes_listing l (Err (halt.Note s line)) h = stopped l s line.items h
  finishes_listing l (Err halt.Memory) h = tt
