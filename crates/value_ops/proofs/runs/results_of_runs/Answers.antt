use Rattle.std.proofs.Common.{refl}
use Rattle.value_ops.specs.Run.{IsRunOf, IsPointwiseRun}
use Rattle.value_ops.specs.declared.op.Op.TheVariants.{Add, Sub}
use Rattle.value_ops.proofs.RunLemmas.{run_weaker, pointwise_run}
use Rattle.value_ops.proofs.runs.results_of_runs.Goals as goal

pub returns-in-Add : goal.returns-in-Add
returns-in-Add c =
    let op = c.args.op in
    let xs = c.args.xs.now in
    let ys = c.args.ys.now in
    rw c.in-Add.is
    (run_weaker c.sums_of_runs.result (IsRunOf Add c.args.a c.args.b) (IsPointwiseRun Add xs ys)
    (λ s run. pointwise_run Add xs ys c.args.a c.args.b s c.is_run.ensures.set c.is_run-else-not-is_run.ensures.set c.requires.left c.requires.right
    (c.if-not-is_run.ensures.all refl) (c.if-not-is_run-2.ensures.all refl) run)
    c.sums_of_runs.ensures)

pub returns-in-Sub : goal.returns-in-Sub
returns-in-Sub c =
    let op = c.args.op in
    let xs = c.args.xs.now in
    let ys = c.args.ys.now in
    rw c.in-Sub.is
    (run_weaker c.differences_of_runs.result (IsRunOf Sub c.args.a c.args.b) (IsPointwiseRun Sub xs ys)
    (λ s run. pointwise_run Sub xs ys c.args.a c.args.b s c.is_run.ensures.set c.is_run-else-not-is_run.ensures.set c.requires.left c.requires.right
    (c.if-not-is_run.ensures.all refl) (c.if-not-is_run-2.ensures.all refl) run)
    c.differences_of_runs.ensures)
