use Rattle.std.proofs.Common.{◌≡◌, ◌≤◌, ℕ, Vec, Global, sym, ap, subst, arith, string_bytes}
use Rattle.ig_walker.specs.Listing.{GivesTree, IsOver}
use Rattle.ig_command_answers.specs.Pages.{IsPageText}
use Rattle.ig_command_answers.proofs.Pages.{paged_none, paged_more, page_over, page_full, next_named, last_given}
use Rattle.ig_command_answers.proofs.listing.list_trees.Goals as goal

pub loop-listed-init : goal.loop-listed-init
loop-listed-init c = paged_none c.listings_grow.ensures c.args.walker.now c.args.core.now _ c.new-text.ensures.bytes

pub push_line-requires : goal.push_line-requires
push_line-requires c =
    record {
      named = next_named c.listings_grow.ensures c.args.walker.now c.args.core.now c.loop-listed.walker (string_bytes c.loop-listed.text)
          c.loop-listed._listed c.args.count c.loop-listed.invariant c.requires.named c.next.new.self c.in-Some.tree
          (rw c.in-Some.is at c.in_ok-tree.ensures.given);
    }

pub loop-listed-preserved : goal.loop-listed-preserved
loop-listed-preserved c =
    let gives : GivesTree c.loop-listed.walker c.in-Some.tree c.next.new.self = rw c.in-Some.is at c.in_ok-tree.ensures.given in
    paged_more c.listings_grow.ensures c.args.walker.now c.args.core.now c.loop-listed.walker c.next.new.self c.in-Some.tree
    (string_bytes c.loop-listed.text) (string_bytes c.push_line.new.text) c.loop-listed._listed c.loop-listed.invariant gives
    (c.in_ok-push_line.ensures gives.cursor gives.tree (last_given c.loop-listed.walker c.next.new.self c.in-Some.tree gives) gives.flat_is)

pub returns-in_default : goal.returns-in_default
returns-in_default c =
    let over : IsOver c.loop-listed.walker c.next.new.self = rw c.in_default.is at c.in_ok-tree.ensures.given in
    let few : c.loop-listed._listed ≤ c.args.count = omega arith in
    subst (IsPageText c.args.walker.now c.args.count c.args.core.now) (ap (λ (z : Vec ℕ Global). z.items) (sym c.into_bytes.ensures.value))
    (page_over c.listings_grow.ensures c.args.walker.now c.args.core.now c.loop-listed.walker (string_bytes c.loop-listed.text)
    c.loop-listed._listed c.args.count c.loop-listed.invariant c.next.new.self over few)

pub returns : goal.returns
returns c =
    let full : c.loop-listed._listed ≡ c.args.count = omega arith in
    subst (IsPageText c.args.walker.now c.args.count c.args.core.now) (ap (λ (z : Vec ℕ Global). z.items) (sym c.into_bytes-2.ensures.value))
    (page_full c.listings_grow.ensures c.args.walker.now c.args.core.now c.loop-listed.walker (string_bytes c.loop-listed.text)
    c.loop-listed._listed c.args.count c.loop-listed.invariant full)
