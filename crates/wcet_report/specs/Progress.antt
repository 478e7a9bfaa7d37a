-- What the parts of a report append.
use Rattle.std.specs.Prelude.{◌≡◌, ℕ, List, ◌++◌}
use Rattle.std.specs.List.{flat_map, AllZip}
use Rattle.wcet_report.specs.Order.{AreByHead}
use Rattle.wcet_report.specs.Outcome.{loop_line}
use Rattle.wcet_report.specs.Report.{AreLines}
use Rattle.wcet_report.specs.declared.loops.LoopOutcome.{LoopOutcome}
use Rattle.wcet_report.specs.declared.outcome.Outcome.{Outcome}

-- the lines of loops by rising head were appended
pub record PutsByHead (loops : List LoopOutcome) (old new : List ℕ) : Type 0 where
  pub ordered : List LoopOutcome
  pub by_head : AreByHead loops ordered
  pub is : new ≡ old ++ flat_map loop_line ordered

-- the lines of a context were appended
pub record PutsLines (image : List ℕ) (outcome : Outcome) (old new : List ℕ) : Type 0 where
  pub part : List ℕ
  pub lines : AreLines image outcome part
  pub is : new ≡ old ++ part

-- the lines of contexts were appended
pub record PutsEach (image : List ℕ) (list : List Outcome) (old new : List ℕ) : Type 0 where
  pub parts : List (List ℕ)
  pub each : AllZip (AreLines image) list parts
  pub is : new ≡ old ++ flat_map (λ part. part) parts
