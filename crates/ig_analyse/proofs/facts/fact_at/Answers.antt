use Rattle.ig_analyse.proofs.Telling.{read_mark}
use Rattle.ig_analyse.proofs.facts.fact_at.Goals as goal

pub returns : goal.returns
returns c =
    let core = c.args.core.now in
    let marks = c.args.marks.now in
    let exact = c.requires.exact in
    let n = c.args.number in
    record {
      nullable = read_mark core marks.nullable.items n _ exact.nullable c.requires.number c.index.ensures;
      productive = read_mark core marks.productive.items n _ exact.productive c.requires.number c.index-2.ensures;
      reachable = read_mark core marks.reachable.items n _ exact.reachable c.requires.number c.index-3.ensures;
      left_recursive = read_mark core marks.left_recursive.items n _ exact.left_recursive c.requires.number c.index-4.ensures;
      cyclic = read_mark core marks.cyclic.items n _ exact.cyclic c.requires.number c.index-5.ensures;
    }
