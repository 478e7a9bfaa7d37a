-- What a system of keys and facts means: all that its methods answer, and the limits of its ranks and lists.
use Rattle.std.specs.Prelude.{ℕ, Bool, List, Option}

-- the meaning of a system; a state is a function that gives the fact at each key, if there is one
pub record Rules (K V : Type 0) : Type 0 where
  -- the pieces that every state has to contain
  pub starts : List (K × V)
  -- the keys whose facts `gives` looks at
  pub reads : K → List K
  -- the pieces that a key gives over a state
  pub gives : K → (K → Option V) → List (K × V)
  -- the least fact that is at least both
  pub join : V → V → V
  -- whether a fact is at most another
  pub at_most : V → V → Bool
  -- whether a key counts towards the limit on nodes
  pub counted : K → Bool
  -- whether a fact may stand at a key
  pub fits : K → V → Bool
  -- a number that rises with each strict step upward
  pub rank : V → ℕ
  -- the greatest rank
  pub top : ℕ
  -- the greatest length of what `reads` and `gives` list
  pub most : ℕ
