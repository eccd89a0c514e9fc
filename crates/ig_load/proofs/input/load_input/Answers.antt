use Rattle.std.proofs.Common.{◌∙◌}
use Rattle.ig_load.proofs.Inputs.{decoded_input, input_is_utf8, input_is_short}
use Rattle.ig_load.proofs.input.load_input.Goals as goal

pub returns-in-Ok : goal.returns-in-Ok
returns-in-Ok c =
    decoded_input c.args.size c.args.number c.as_slice.result.now (c.as_slice.ensures.value ∙ c.in_ok-bytes.ensures)
    c.in-Ok.text c.in-Ok.ensures.text

pub unreachable-requires : goal.unreachable-requires
unreachable-requires c =
    input_is_utf8 c.args.size c.args.number c.as_slice.result.now (c.as_slice.ensures.value ∙ c.in_ok-bytes.ensures)
    c.in-Err-NotUtf8.field-0-0 (rw c.in-Err-NotUtf8.field-0-is at c.in-Err-NotUtf8.ensures.fault)

pub unreachable-requires-in-Err-TooLong : goal.unreachable-requires-in-Err-TooLong
unreachable-requires-in-Err-TooLong c =
    input_is_short c.args.size c.args.number c.as_slice.result.now (c.as_slice.ensures.value ∙ c.in_ok-bytes.ensures)
    c.requires (rw c.in-Err-TooLong.field-0-is at c.in-Err-TooLong.ensures.fault)
