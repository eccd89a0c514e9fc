use Rattle.ig_forest_reader.proofs.Composing.{read_ok}
use Rattle.ig_forest_reader.proofs.Leading.{none_read, some_is}
use Rattle.ig_forest_reader.proofs.ValuesTold.{failed_first, none_read_up, no_bracket, values_read_up}
use Rattle.ig_forest_reader.proofs.lists.push_values.Goals as goal

pub returns-in-Some : goal.returns-in-Some
returns-in-Some c =
    none_read_up c.args.close c.args.bytes.now c.in-Some.rest.now c.args.out.now.items c.requires (some_is _ _ _ c.read_behind.ensures.exact c.in-Some.is)

pub returns-in_err-behind : goal.returns-in_err-behind
returns-in_err-behind c =
    failed_first _ _ c.args.close c.args.bytes.now c.push_first.result c.in_err-behind.field-0.0 c.from_residual.result c.requires
    (λ rest is. none_read _ _ (c.read_behind.ensures.told rest is) c.in_default.is)
    c.push_first.ensures.told c.in_err-behind.was c.from_residual.ensures.1

pub returns-in_default-read_behind : goal.returns-in_default-read_behind
returns-in_default-read_behind c =
    no_bracket c.args.close c.args.bytes.now c.in_ok-behind.behind.now c.args.out.now.items _ c.requires
    (λ rest is. none_read _ _ (c.read_behind.ensures.told rest is) c.in_default.is)
    (λ x xs us p q s t e. read_ok _ _ _ _ (c.push_first.ensures.told x xs us p q s t e) c.in_ok-behind.was)
    (λ rest is. none_read _ _ (c.read_behind-2.ensures.told rest is) c.in_default-read_behind.is)

pub returns : goal.returns
returns c =
    values_read_up c.args.close c.args.bytes.now c.in_ok-behind.behind.now c.in-Some-read_behind.rest.now c.args.out.now.items _ c.requires
    (λ rest is. none_read _ _ (c.read_behind.ensures.told rest is) c.in_default.is)
    c.in_ok-behind.ensures.added
    (λ x xs us p q s t e. read_ok _ _ _ _ (c.push_first.ensures.told x xs us p q s t e) c.in_ok-behind.was)
    (some_is _ _ _ c.read_behind-2.ensures.exact c.in-Some-read_behind.is)
