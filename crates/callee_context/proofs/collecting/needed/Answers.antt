use Rattle.callee_context.proofs.Linking.{begun_kept}
use Rattle.callee_context.specs.Program.{setting_in}
use Rattle.callee_context.proofs.collecting.needed.Goals as goal

pub returns-clause-all : goal.returns-clause-all
returns-clause-all c =
    let h = c.in_ok-opened.ensures {u = tt} in
    let b = c.in_ok-found.ensures {u = tt} in
    record {
      found = h.grows.found;
      begun = λ root has. begun_kept (setting_in c.args.program.now) _ c.open_all.new.found h.grows root (b.begun root has);
      opened = h.opened;
      count = h.count;
    }
