use Rattle.std.proofs.Common.{arith, sym, take}
use Rattle.ig_system.proofs.file_shelf.read_piece.Goals as goal

pub returns-clause-ok : goal.returns-clause-ok
returns-clause-ok g c = record {
  part = take c.in-Ok.count c.read.new.buf;
  appended = c.in_ok-extend_from_slice.ensures.items;
  counted = sym c.in-Ok.ensures.bound.1;
  within = omega (arith, c.in-Ok.ensures.bound.0, c.read.auto.buf);
  consumed = c.in-Ok.ensures.bytes.0;
  at_end = λ none. c.in-Ok.ensures.bytes.1 none (omega (arith, c.requires, c.read.auto.buf));
}
