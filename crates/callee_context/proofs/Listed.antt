-- A worklist that is gone through has all needed contexts.
use Rattle.std.proofs.Common.{ℕ, List, Contains, length}
use Rattle.callee_context.specs.Worklist.{IsWorklist, NeededAreListed}
use Rattle.context_list.proofs.Numbers.{at_place}
use Rattle.context_list.specs.Numbered.{One}
use Rattle.context_outcomes.specs.Outcomes.{IsNeeded, called, root}
use Rattle.context_outcomes.specs.Setting.{Setting}
use Rattle.wcet_report.specs.declared.context.Context.{Context}

module _ (S : Setting) (list : List One) (work : IsWorklist S list (length list)) where
  listed : (sub : ℕ) (context : Context) → IsNeeded S sub context → Contains list (sub, context)
  listed sub context (root among chosen) = work.begun sub context among chosen
  listed t next (called needed caller enters leads) =
      let here = listed _ _ needed in
      work.called here.0 _ t _ next _ here.1 (at_place list (_, _) here) caller enters leads

pub needed_are_listed : NeededAreListed
needed_are_listed S list work sub context needed = listed S list work sub context needed
