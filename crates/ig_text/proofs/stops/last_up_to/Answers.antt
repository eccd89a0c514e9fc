use Rattle.std.proofs.Common.{ℕ, ◌-◌, ◌<◌, get_or, length, arith}
use Rattle.std.proofs.lemmas.List.{get_or_default}
use Rattle.ig_text.proofs.StopTable.{start_is_last, stop_is_last}
use Rattle.ig_text.proofs.stops.last_up_to.Goals as goal

pub returns-then-stop-start : goal.returns-then-stop-start
returns-then-stop-start c =
    let k = c.count_up_to-count.result in
    let some : 0 < k = omega arith in
    let within : k - 1 < length c.args.stops.now = omega (arith, c.count_up_to-count.ensures.within) in
    let stop = get_or c.args.stops.now (k - 1) (record { position = 0; column = 0 }) in
    start_is_last c.args.stops.now c.args.position k c.args.start stop c.requires c.count_up_to-count.ensures some
    (get_or_default c.args.stops.now (k - 1) (record { position = 0; column = 0 }) stop within) (omega arith)

pub returns : goal.returns
returns c =
    let k = c.count_up_to-count.result in
    let some : 0 < k = omega arith in
    let within : k - 1 < length c.args.stops.now = omega (arith, c.count_up_to-count.ensures.within) in
    let stop = get_or c.args.stops.now (k - 1) (record { position = 0; column = 0 }) in
    stop_is_last c.args.stops.now c.args.position k c.args.start stop c.requires c.count_up_to-count.ensures some
    (get_or_default c.args.stops.now (k - 1) (record { position = 0; column = 0 }) stop within) (omega arith)
