-- Where a listing begins.
use Rattle.std.proofs.Common.{◌≡◌, ℕ, ◌<◌, List, get_or, Option, Some, None, Ok, Err, Vec, Global, refl, sym, ap, ◌∙◌, subst, arith}
use Rattle.std.proofs.lemmas.List.{get_or_default}
use Rattle.ig_text.specs.Tree.{Tree}
use Rattle.ig_forest_tables.specs.Forest.{Forest}
use Rattle.ig_forest_tables.specs.Unfold.{Unfold}
use Rattle.ig_forest.specs.Cursors.{IsShortCursor}
use Rattle.ig_forest.specs.Flat.{flat}
use Rattle.ig_forest.specs.Tags.{TagsAreNamed}
use Rattle.ig_item.specs.declared.core_grammar.Nonterminal.{Nonterminal}
use Rattle.ig_show_trees.specs.Laws.{CursorTextsDiffer}
use Rattle.ig_show_trees.specs.TreeText.{cursor_text}
use Rattle.ig_show_trees.specs.declared.cursor_text.CursorFault.{CursorFault}
use Rattle.ig_show_trees.specs.declared.cursor_text.CursorFault.TheVariants as cursor_fault
use Rattle.ig_show_trees.specs.declared.cursor_text.CursorFault.TheVariants.{NotACursor}
use Rattle.ig_walker.specs.declared.walker.WalkFault.{WalkFault}
use Rattle.ig_walker.specs.declared.walker.WalkFault.TheVariants as walk_fault
use Rattle.ig_walker.specs.declared.walker.WalkFault.TheVariants.{BadCursor}
use Rattle.ig_walker.specs.Listing.{Listing, HasTree, HasNoTree}
use Rattle.ig_command.specs.Commands as command
use Rattle.ig_command_answers.specs.Faults.{fault_of_cursor, fault_of_walk}
use Rattle.ig_command_answers.specs.Pages.{at_first, at_cursor, IsDepthFor, IsStart, Starts, IsPageText, Lists}
use Rattle.ig_command_answers.specs.declared.fault.ListFault.{ListFault}
use Rattle.ig_command_answers.specs.declared.fault.ListFault.TheVariants as fault

module _ (f : Forest) (d : ℕ) where
  pub starts_first : (l : Listing) → l ≡ record { forest = f; depth = d; last = None } → Starts f d None (Ok l)
  starts_first l e = record { from = None; stands = at_first; listing_is = e }

  module _ (word : List ℕ) where
    pub starts_behind : (cursor : List ℕ) (l : Listing) → cursor_text cursor ≡ word → HasTree f d cursor →
        l ≡ record { forest = f; depth = d; last = Some cursor } → Starts f d (Some word) (Ok l)
    starts_behind cursor l read has e =
        record { from = Some cursor; stands = at_cursor word cursor (sym read) has; listing_is = e }

    module _ (short : (e : ℕ) (cs : List ℕ) (t : Tree) → Unfold f e cs t → IsShortCursor cs) where
      -- the word is the text of no cursor
      pub starts_at_no_text : ((cs : List ℕ) → IsShortCursor cs → cursor_text cs ≡ word → ⊥) →
          Starts f d (Some word) (Err fault.NoCursor)
      starts_at_no_text none =
          record { word = word; given = refl; none = λ cursor has e. none cursor (short d cursor has.0 has.1) (sym e) }

      -- the cursor of which it is the text is that of no tree
      pub starts_at_no_tree : CursorTextsDiffer → (cursor : List ℕ) → IsShortCursor cursor → cursor_text cursor ≡ word →
          HasNoTree f d cursor → Starts f d (Some word) (Err fault.NoCursor)
      starts_at_no_tree differ cursor small read none =
          record {
            word = word;
            given = refl;
            none = λ other has e.
                let same = differ other cursor (short d other has.0 has.1) small (sym e ∙ sym read) in
                let P : List ℕ → Type 0 = λ z. Unfold f d z has.0 in none has.0 (subst P same has.1);
          }

      -- why the word isn't read as a cursor is why there is no walker
      pub starts_unread : (error : CursorFault) →
          (error ≡ NotACursor → (cs : List ℕ) → IsShortCursor cs → cursor_text cs ≡ word → ⊥) →
          Starts f d (Some word) (Err (fault_of_cursor error))
      starts_unread NotACursor none = starts_at_no_text (none refl)
      starts_unread cursor_fault.Memory none = tt

      -- why no walker stands behind the cursor is why there is none behind the word
      pub starts_unwalked : (error : WalkFault) → CursorTextsDiffer → (cursor : List ℕ) → IsShortCursor cursor →
          cursor_text cursor ≡ word → (error ≡ BadCursor → HasNoTree f d cursor) →
          Starts f d (Some word) (Err (fault_of_walk error))
      starts_unwalked BadCursor differ cursor small read none = starts_at_no_tree differ cursor small read (none refl)
      starts_unwalked walk_fault.Memory differ cursor small read none = tt

-- numbers of 32 bits make a short cursor
pub all_short : (cursor : List ℕ) → ((k : ℕ) → get_or cursor k 0 < 4294967296) → IsShortCursor cursor
all_short cursor h = λ k d within. let same = get_or_default cursor k d 0 within in let small : get_or cursor k 0 < 4294967296 = h k in omega arith

-- what comes of a listing
module _ (core : List Nonterminal) (f : Forest) (l : command.Listing) where
  module _ (d : ℕ) where
    pub lists_lost : (y : ListFault) → IsDepthFor f l.depth d → Starts f d l.after (Err y) → Lists core f l (Err y)
    lists_lost fault.DepthNeeded for h = absurd h
    lists_lost fault.NoCursor for h = (d, for, h)
    lists_lost fault.Memory for h = tt

    pub lists_made : (at : Listing) (text : Vec ℕ Global) → IsDepthFor f l.depth d → IsStart f d l.after at →
        IsPageText at l.count core text.items → Lists core f l (Ok text)
    lists_made at text for start page =
        record {
          depth = d;
          for = for;
          from = start.from;
          stands = start.stands;
          page = subst (λ (z : Listing). IsPageText z l.count core text.items) start.listing_is page;
        }

-- the walker is of that forest
pub start_named : (core : List Nonterminal) (f : Forest) (d : ℕ) (after : Option (List ℕ)) (at : Listing) → IsStart f d after at →
    ((e : ℕ) (cs : List ℕ) (t : Tree) → Unfold f e cs t → TagsAreNamed core (flat t)) →
    (e : ℕ) (cs : List ℕ) (t : Tree) → Unfold at.forest e cs t → TagsAreNamed core (flat t)
start_named core f d after at start named e cs t u =
    let same : at.forest ≡ f = ap (λ (z : Listing). z.forest) start.listing_is in
    named e cs t (subst (λ (z : Forest). Unfold z e cs t) same u)
