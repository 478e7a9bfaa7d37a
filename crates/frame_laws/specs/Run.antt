-- Runs as functions of a place: the number of a machine in the run.
use Rattle.std.specs.Prelude.{ℕ}

-- what a step does to the stack of activations
pub data Move : Type 0 where
  Goes : Move
  Calls : Move
  Returns : Move

-- At each place the step from it to the next, the node of the graph of a context at which the top activation stands
-- there, if it has that context, the cycles so far, the cycles that the step owes beside what its own instruction costs
-- (an instruction that reads what the one before has loaded), and what a cell of the top activation holds.
pub record Run : Type 0 where
  pub move : ℕ → Move
  pub node : ℕ → ℕ → ℕ
  pub cycles : ℕ → ℕ
  pub owed : ℕ → ℕ
  pub content : ℕ → ℕ → ℕ
