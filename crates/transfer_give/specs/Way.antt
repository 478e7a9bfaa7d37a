-- The pieces of a step and of the way behind it, in one list.
use Rattle.std.specs.Prelude.{List, ◌++◌, Option}
use Rattle.abs_state.specs.State.{State}
use Rattle.abs_state.specs.declared.key.Place.{Place}
use Rattle.call_effects.specs.declared.summary.Summary.{Summary as Effects}
use Rattle.transfer_rules.specs.Fact.{Piece}
use Rattle.transfer_rules.specs.Family.{Family, Program}
use Rattle.transfer_rules.specs.Give.{beside, entered, here, pieces_of}
use Rattle.transfer_rules.specs.declared.act.Way.{Way}
use Rattle.transfer_rules.specs.declared.step.Step.{Step}

-- what the way behind a step gives, of the state before the step and the one behind it
abbrev pub way_gives : Family → Program → Place → Step → Way → Option Effects → State → State → List Piece
way_gives f m p step way callee before s =
    beside f m p step way callee before s ++ (here f p step way callee before s ++ entered m p step way s)

-- what a step and the way behind it give, of the state before it
abbrev pub acts_give : Family → Program → Place → Step → Way → Option Effects → State → List Piece
acts_give f m p step way callee s =
    pieces_of (f.step step s) (beside f m p step way callee s)
    ++ (pieces_of (f.step step s) (here f p step way callee s) ++ pieces_of (f.step step s) (entered m p step way))
