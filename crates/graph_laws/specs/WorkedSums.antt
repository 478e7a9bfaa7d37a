-- Small graphs whose cells count, worked out in full.
use Rattle.std.specs.Prelude.{◌≡◌, ℕ, zero, suc, ◌+◌, ◌-◌, ◌/◌, Bool, List, [], ◌∷◌}
use Rattle.graph_laws.specs.Walk.{passes}
use Rattle.graph_laws.specs.Loops.{Loops}
use Rattle.graph_laws.specs.Nest.{loops_of}
use Rattle.graph_laws.specs.Counter.{Visit, Changes, nodes_of, IsCounted, IsTurn, turn_up, turn_down, TurnsRise, TurnsFall, AreRisingSums}
use Rattle.graph_laws.specs.Counter.{AreFallingSums, AreChosenSums, InnerLoopsKeep}
use Rattle.graph_laws.specs.Worked.{two_nodes, below_two, one_at_one, visit, nested, nested_nest}

-- a counter that falls by one in each turn of the loop of two nodes, from 3 to 0 at its head
abbrev pub one_down : Changes
one_down = record { up = λ _. 0; down = one_at_one }

abbrev pub four_falls : List Visit
four_falls = visit 0 3 ∷ visit 1 3 ∷ visit 0 2 ∷ visit 1 2 ∷ visit 0 1 ∷ visit 1 1 ∷ visit 0 0 ∷ []

-- its head is passed four times, as often as the bound allows
pub record FallingCounterMeetsItsBound : Type 0 where
  pub counted : IsCounted two_nodes below_two 0 one_down 0 3 four_falls
  pub falls : TurnsFall two_nodes below_two 0 one_down 1
  pub passed : passes 0 (nodes_of four_falls) ≡ (3 - 0) / 1 + 1

-- in the nested loops the outer head alone changes the cell, by one
abbrev pub one_at_zero : ℕ → ℕ
one_at_zero zero = 1
one_at_zero (suc n) = 0

abbrev pub head_up : Changes
head_up = record { up = one_at_zero; down = λ _. 0 }

abbrev pub head_down : Changes
head_down = record { up = λ _. 0; down = one_at_zero }

-- labels of sums that show that each turn rises by a step, each the sum that some edge gives, where inner loops change
-- nothing; and a turn that rises by no more
pub record AreLabelledRising (edge : ℕ → ℕ → Bool) (loops : Loops) (head : ℕ) (changes : Changes) (step : ℕ) : Type 0 where
  pub keep : InnerLoopsKeep loops head changes
  pub label : ℕ → ℕ
  pub rank : ℕ → ℕ
  pub chosen : AreChosenSums edge loops head changes label rank
  pub sums : AreRisingSums edge (loops.body head) head changes step label
  pub rises : TurnsRise edge (loops.body head) head changes step
  pub between : List ℕ
  pub turn : IsTurn edge (loops.body head) head between
  pub least : turn_down changes head between + step ≡ turn_up changes head between

-- the same of a cell that falls
pub record AreLabelledFalling (edge : ℕ → ℕ → Bool) (loops : Loops) (head : ℕ) (changes : Changes) (step : ℕ) : Type 0 where
  pub keep : InnerLoopsKeep loops head changes
  pub label : ℕ → ℕ
  pub rank : ℕ → ℕ
  pub chosen : AreChosenSums edge loops head changes label rank
  pub sums : AreFallingSums edge (loops.body head) head changes step label
  pub falls : TurnsFall edge (loops.body head) head changes step
  pub between : List ℕ
  pub turn : IsTurn edge (loops.body head) head between
  pub least : turn_up changes head between + step ≡ turn_down changes head between

-- each turn of the nested loops rises, or falls, by one
abbrev pub NestedSumsRise : Type 0
NestedSumsRise = AreLabelledRising nested (loops_of nested_nest) 0 head_up 1

abbrev pub NestedSumsFall : Type 0
NestedSumsFall = AreLabelledFalling nested (loops_of nested_nest) 0 head_down 1
