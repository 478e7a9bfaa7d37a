use Rattle.std.proofs.Common.{◌≡◌, take}
use Rattle.context_list.proofs.copies.copy_args.Given as goal

-- the values so far are copied
abbrev pub invariant-loop-value : goal.invariant-loop-value
invariant-loop-value l = l.list.items ≡ take l.value-index l.args
