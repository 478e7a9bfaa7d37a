use Rattle.std.proofs.Common.{◌≤◌, arith}
use Rattle.bt_image.specs.Symbol.{symbol_count}
use Rattle.bt_image.proofs.LimitLemmas.{limits-few, limits-many}
use Rattle.bt_image.proofs.functions.limited_names.Goals as goal

pub returns-then-functions-gt-MOST_FUNCTIONS-clause-step : goal.returns-then-functions-gt-MOST_FUNCTIONS-clause-step
returns-then-functions-gt-MOST_FUNCTIONS-clause-step c =
    let few : symbol_count c.args.file.now ≤ 262144 = omega arith in
    limits-many c.args.file.now _ c.in_ok-names.names c.len-functions.result c.in_ok-names.ensures c.len-functions.ensures.len few
    c.if-functions-gt-MOST_FUNCTIONS.true

pub returns-clause-step : goal.returns-clause-step
returns-clause-step c =
    let few : symbol_count c.args.file.now ≤ 262144 = omega arith in
    limits-few c.args.file.now _ c.in_ok-names.names c.len-functions.result c.in_ok-names.ensures c.len-functions.ensures.len few
    c.if-functions-gt-MOST_FUNCTIONS.false
