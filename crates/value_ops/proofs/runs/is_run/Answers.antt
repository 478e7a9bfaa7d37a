use Rattle.std.proofs.Common.{◌-◌, ◌<◌, length, rules}
use Rattle.std.proofs.lemmas.Bool.{ltb-true}
use Rattle.value_ops.proofs.RunLemmas.{run_has_all}
use Rattle.value_ops.proofs.runs.is_run.Goals as goal

pub returns-clause-all : goal.returns-clause-all
returns-clause-all c = λ run w word between.
    let low = c.args.ends.low in
    let high = c.args.ends.high in
    let many : high - low < length c.members.result.now = ltb-true (high - low) (length c.members.result.now) run in
    run_has_all c.args.words.now low high c.members.ensures.set c.requires.ends c.requires.filled (search rules)
    (rw c.members.ensures.words at many) w word between
