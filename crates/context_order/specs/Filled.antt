-- A table of the answers of contexts that is being filled.
use Rattle.std.specs.Prelude.{◌≡◌, ℕ, ◌+◌, true, List, [], ◌∷◌, length, slice_get, Option, Some, None}
use Rattle.context_answers.specs.declared.answer.Answer.{Answer}
use Rattle.context_list.specs.Numbered.{One}
use Rattle.context_order.specs.Answered.{IsAnsweredBy, Standing}
use Rattle.context_outcomes.specs.Calls.{AreCyclic}
use Rattle.context_outcomes.specs.Setting.{Setting, view_in}
use Rattle.graph_view.specs.Need.{calls_of}

-- at the number of each context its answer, once it is found
abbrev pub Table : Type 0
Table = List (Option Answer)

-- an answer stands in a table
abbrev pub stands_at : Table → Standing
stands_at table number answer = slice_get table number ≡ Some (Some answer)

-- an entry has an answer
abbrev pub IsThere : Option Answer → Type 0
IsThere None = ⊥
IsThere (Some answer) = Unit {0}

-- so has the one at a number
pub record HasAnswer (table : Table) (number : ℕ) : Type 0 where
  pub answer : Answer
  pub there : stands_at table number answer

-- so it is at the number of the context to which a call leads, if one is followed
abbrev pub IsKnown : Table → Option ℕ → Type 0
IsKnown table None = Unit {0}
IsKnown table (Some number) = HasAnswer table number

-- or a call is followed into a context without an answer
abbrev pub IsUnknown : Table → Option ℕ → Type 0
IsUnknown table None = ⊥
IsUnknown table (Some number) = slice_get table number ≡ Some None

-- so it is of one of some calls
pub record HasUnknown (table : Table) (links : List (Option ℕ)) : Type 0 where
  pub place : ℕ
  pub link : Option ℕ
  pub at : slice_get links place ≡ Some link
  pub unknown : IsUnknown table link

-- the bound of an entry's answer
abbrev pub bound_in : Option Answer → Option ℕ
bound_in None = None
bound_in (Some answer) = answer.bound

abbrev pub bound_of : Option (Option Answer) → Option ℕ
bound_of None = None
bound_of (Some entry) = bound_in entry

-- that of the context to which a call leads, if one is followed
abbrev pub bound_by : Table → Option ℕ → Option ℕ
bound_by table None = None
bound_by table (Some number) = bound_of (slice_get table number)

-- how many answers there are
abbrev pub filled : Table → ℕ
filled [] = 0
filled (None ∷ table) = filled table
filled (Some answer ∷ table) = 1 + filled table

-- the answers that there are, are those of the contexts, by each other
pub record AreFilled (S : Setting) (list : List One) (table : Table) : Type 0 where
  pub count : length table ≡ length list
  pub each : (n : ℕ) (one : One) (answer : Answer) → slice_get list n ≡ Some one → stands_at table n answer
      → IsAnsweredBy S list (stands_at table) one answer

-- the context at a number has a call that is followed into a context without an answer
pub record IsWaiting (S : Setting) (list : List One) (table : Table) (number : ℕ) : Type 0 where
  pub one : One
  pub at : slice_get list number ≡ Some one
  pub callee : ℕ
  pub next : One
  pub leads : slice_get list callee ≡ Some next
  pub called : calls_of (view_in S).callings one.0 next.0 ≡ true
  pub apart : AreCyclic S one.0 next.0 → ⊥
  pub unknown : slice_get table callee ≡ Some None

-- what is found of a context: it waits, or this is its answer
abbrev pub IsFound : Setting → List One → Table → ℕ → Option Answer → Type 0
IsFound S list table number None = IsWaiting S list table number
IsFound S list table number (Some answer) = (one : One) → slice_get list number ≡ Some one → IsAnsweredBy S list (stands_at table) one answer

-- the context at a number waits, unless it has an answer
abbrev pub IsStuck : Setting → List One → Table → ℕ → Type 0
IsStuck S list table number = slice_get table number ≡ Some None → IsWaiting S list table number
