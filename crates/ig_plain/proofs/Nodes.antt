-- Items behind calls are found by nodes, as more of them are found.
use Rattle.std.proofs.Common.{◌≡◌, ⊎_elim, ℕ, ◌++◌, Some, length, sym, ap, ◌∙◌, arith, slice_get}
use Rattle.std.proofs.lemmas.List.{length-map}
use Rattle.std.proofs.lemmas.Option.{slice_get_within}
use Rattle.ig_text.proofs.Lists.{get_within}
use Rattle.ig_item.specs.Items.{Item}
use Rattle.ig_item.specs.Ways.{WayTo, found, again}
use Rattle.ig_item.specs.declared.ways.Way.{Way}
use Rattle.ig_item.specs.declared.ways.Way.TheVariants.{Node}
use Rattle.ig_plain.specs.declared.found.Found.{Found}
use Rattle.ig_plain.specs.declared.trail.Trail.{Trail}
use Rattle.ig_plain.specs.Found.{means, found_in}
use Rattle.ig_plain.specs.Trail.{ComeByNodes, IsIndexed, IsNodeAt, Records}
use Rattle.ig_plain.proofs.Growth.{extends_at}
use Rattle.ig_plain.proofs.Pairing.{front_at}

-- each item that is found has a way
pub ways_numbered : (a : Found) (t : Trail) → IsIndexed a t → length t.ways.firsts ≡ length (found_in a)
ways_numbered a t i = i.numbered ∙ sym (length-map (a.done.items ++ a.here.items) (means a))

module _ (may : Way → Item → Type 0) (which : Item → Type 0) (a b : Found) (t u : Trail)
    (nodes : (way : Way) (x : Item) → may way x → (prev : ℕ) × (done : ℕ) × (way ≡ Node prev done)) (r : Records may a b t u)
    (n : length t.ways.firsts ≡ length (found_in a)) (old : ComeByNodes a t which) where
  -- where there was a way before, the item was found before, or comes by a further node
  node_before : (x : Item) → which x → (k : ℕ) (way : Way) → slice_get (found_in b) k ≡ Some x → slice_get u.ways.firsts k ≡ Some way →
      WayTo t.ways k way → IsNodeAt u.ways.firsts k
  node_before x w k way at there (found f) =
      let l = slice_get_within t.ways.firsts k way f in
      let o = old x w k (front_at (found_in a) (found_in b) r.found k x (omega (arith, l, n)) at) in
      (o.0, o.1, extends_at t.ways.firsts u.ways.firsts k (Node o.0 o.1) r.firsts o.2)
  node_before x w k way at there (again more c item is) = (more.prev, more.done, there ∙ ap Some is)

  -- what was found by nodes, and what is found more, by nodes only
  pub by_nodes_on : ComeByNodes b u which
  by_nodes_on x w k at =
      let lt = slice_get_within (found_in b) k x at in
      let way = get_within u.ways.firsts k (let e = r.numbered n in omega (arith, lt, e)) in
      ⊎_elim (λ (h : WayTo t.ways k way.0). node_before x w k way.0 at way.1 h)
      (λ (h : may way.0 x). let node = nodes way.0 x h in (node.0, node.1, way.1 ∙ ap Some node.2))
      (r.each n k way.0 x at (found way.1))
