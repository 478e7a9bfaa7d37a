-- What a step comes to.
use Rattle.sparc_machine.specs.declared.machine.Machine.{Machine}
use Rattle.sparc_machine.specs.declared.trap.Trap.{Trap}

-- the machine after the step, or the trap that stops it
pub data Outcome : Type 0 where
  Stepped : (m : Machine) → Outcome
  Stopped : (trap : Trap) → Outcome
