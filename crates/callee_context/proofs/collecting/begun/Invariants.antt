use Rattle.std.proofs.Common.{◌≡◌, ◌<◌, ℕ, get_or}
use Rattle.callee_context.specs.Program.{setting_in}
use Rattle.callee_context.specs.Worklist.{AreFound, IsBegun}
use Rattle.callee_context.proofs.collecting.begun.Given as goal

abbrev pub invariant-loop-root : goal.invariant-loop-root
invariant-loop-root l = record {
  found : AreFound (setting_in l.fn.program) l.found;
  begun : (root n : ℕ) → n < l.root-index → get_or l.roots n root ≡ root → IsBegun (setting_in l.fn.program) l.found root;
}
