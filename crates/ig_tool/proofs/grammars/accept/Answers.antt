use Rattle.std.proofs.Common.{refl}
use Rattle.ig_tool.proofs.Kept.{is_kept, too_many, written_is_buildable}
use Rattle.ig_tool.proofs.grammars.accept.Goals as goal

pub build-requires : goal.build-requires
build-requires c =
    record {
      buildable = written_is_buildable c.read_grammars_are_buildable.ensures c.as_slice.result.now c.in_ok-grammar.grammar
          c.in_ok-grammar.ensures;
    }

pub returns-in-Ok : goal.returns-in-Ok
returns-in-Ok c = (
  is_kept c.read_grammars_are_buildable.ensures _ c.as_slice.result.now c.as_slice.ensures.value c.in_ok-grammar.ensures
      c.in-Ok.ensures.core c.in-Ok.ensures.numbered c.in-Ok.ensures.few,
  refl,
)

pub returns-in-Err-TooManyDots : goal.returns-in-Err-TooManyDots
returns-in-Err-TooManyDots c =
    let exact = rw c.in-Err-TooManyDots.field-0-is at c.in-Err-TooManyDots.ensures.exact in
    too_many c.as_slice.result.now c.args.bytes.items c.in_ok-grammar.grammar c.refuse.result c.as_slice.ensures.value
    c.in_ok-grammar.ensures (exact refl) c.refuse.ensures
