-- What program points cost with what they call, by the bounds of the contexts to which their calls lead.
use Rattle.std.specs.Prelude.{◌<◌, ◌^◌, ℕ, List, [], ◌∷◌, Option, IfSome}
use Rattle.abs_state.specs.declared.key.Place.{Place}
use Rattle.context_outcomes.specs.Setting.{Setting}
use Rattle.context_outcomes.specs.Spending.{place_cost}
use Rattle.transfer_rules.specs.Give.{Facts}

-- one bound for each program point
abbrev pub costs_at : Setting → Facts → List Place → List (Option ℕ) → List ℕ
costs_at S facts [] bounds = []
costs_at S facts (p ∷ nodes) [] = []
costs_at S facts (p ∷ nodes) (bound ∷ bounds) = place_cost S facts bound p ∷ costs_at S facts nodes bounds

-- a bound that is one can be told
abbrev pub IsTold : Option ℕ → Type 0
IsTold bound = IfSome bound (λ cost. cost < 2 ^ 63)
