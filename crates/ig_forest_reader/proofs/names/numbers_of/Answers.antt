use Rattle.std.proofs.Common.{◌≡◌, ◌∙◌, ◌+◌, ℕ, Some, length, slice_get, ap, refl, arith}
use Rattle.std.proofs.lemmas.Option.{slice_get_read}
use Rattle.ig_forest_reader.proofs.NameIndex.{index_begins, index_grows, index_whole}
use Rattle.ig_forest_reader.proofs.names.numbers_of.Goals as goal

pub loop-nonterminal-init : goal.loop-nonterminal-init
loop-nonterminal-init c = (refl, omega arith, index_begins c.args.nonterminals.now c.new-index.result c.new-index.ensures.empty)

pub overflow_add-number : goal.overflow_add-number
overflow_add-number c =
    let few = c.requires.few in
    let less = c.loop-nonterminal-test.true in
    let same = c.loop-nonterminal.invariant.0 in
    omega (arith, few, less, same)

pub loop-nonterminal-preserved : goal.loop-nonterminal-preserved
loop-nonterminal-preserved c =
    let less = c.loop-nonterminal-test.true in
    let same = c.loop-nonterminal.invariant.0 in
    let at : slice_get c.args.nonterminals.now c.loop-nonterminal.number ≡ Some c.nonterminal-item.result =
    ap (slice_get c.args.nonterminals.now) same ∙
    slice_get_read c.args.nonterminals.now (length c.args.nonterminals.now) c.loop-nonterminal.nonterminal-index c.nonterminal-item.result refl less c.nonterminal-item.is in (
      ap (λ (n : ℕ). n + 1) same,
      omega (arith, less, same),
      index_grows c.args.nonterminals.now c.loop-nonterminal.number c.nonterminal-item.result c.loop-nonterminal.index _ _
          c.requires.tells at c.bytes_of.ensures c.loop-nonterminal.invariant.2 c.in_ok-insert.ensures.updates,
    )

pub returns : goal.returns
returns c =
    let past = c.loop-nonterminal-test.false in
    let same = c.loop-nonterminal.invariant.0 in
    index_whole c.args.nonterminals.now c.loop-nonterminal.number c.loop-nonterminal.index (omega (arith, past, same))
    c.loop-nonterminal.invariant.1 c.loop-nonterminal.invariant.2
