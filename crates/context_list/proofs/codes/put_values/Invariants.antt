use Rattle.std.proofs.Common.{◌≡◌, ◌++◌, take}
use Rattle.context_list.specs.Code.{args_code}
use Rattle.context_list.proofs.codes.put_values.Given as goal

-- the values so far stand behind what was there
abbrev pub invariant-loop-value : goal.invariant-loop-value
invariant-loop-value l = l.code.items ≡ l.initial.code.items ++ args_code (take l.value-index l.values)
