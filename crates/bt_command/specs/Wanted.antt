-- How many workers the words of a call ask for.
use Rattle.std.specs.Prelude.{◌≡◌, ◌⊎◌, ℕ, List}
use Rattle.bt_words.specs.Request.{Asked, bounds, generates, graphs, lists, IsRequest}
use Rattle.bt_command.specs.declared.status.Status.{Status}
use Rattle.bt_command.specs.declared.status.Status.TheVariants.{Usage, Want}

-- the number of workers that is asked for, and 1 by a command that has no such number
abbrev pub workers_in : Asked → ℕ
workers_in (bounds image cycles assertions workers) = workers
workers_in (graphs image cycles assertions workers) = workers
workers_in (lists image) = 1
workers_in (generates functions workers) = workers

-- the words ask for something, and for so many workers to do it
pub record WantsWorkers (words : List (List ℕ)) (count : ℕ) : Type 0 where
  pub asked : Asked
  pub request : IsRequest words asked
  pub count_is : count ≡ workers_in asked

-- one of two statuses
abbrev pub IsUsageOrWant : Status → Type 0
IsUsageOrWant status = (status ≡ Usage) ⊎ (status ≡ Want)
