-- The arguments that calls hand on, joined by what is called.
use Rattle.std.specs.Prelude.{◌≡◌, ◌==◌, ◌++◌, ◌<◌, ℕ, true, List, [], ◌∷◌, All, length, slice_index_or, Option, Some, None, if◌then◌else◌}
use Rattle.std.specs.List.{flat_map}
use Rattle.std.specs.Option.{option_to_list}
use Rattle.abs_state.specs.declared.key.Key.{Key}
use Rattle.abs_state.specs.declared.key.Key.TheVariants as key
use Rattle.transfer_rules.specs.Fact.{fits, is_kind, joined, OfArgs}
use Rattle.transfer_rules.specs.Give.{Facts, entry_of}
use Rattle.transfer_rules.specs.declared.fact.Fact.{Fact}

-- a fact is one of a call: the values of its arguments, over thresholds
abbrev pub IsGiven : List ℕ → Fact → Type 0
IsGiven t v = fits t (key.Call (entry_of 0) 0) v ≡ true

abbrev pub IsGivenOrNone : List ℕ → Option Fact → Type 0
IsGivenOrNone t None = Unit {0}
IsGivenOrNone t (Some v) = IsGiven t v

-- what a call hands on joined with what earlier calls do
abbrev pub joined_with : List ℕ → Option Fact → Fact → Fact
joined_with t None given = given
joined_with t (Some fact) given = joined t fact given

-- what calls hand on joined with what earlier calls do, one after the other
abbrev pub join_all : List ℕ → Option Fact → List Fact → Option Fact
join_all t earlier [] = earlier
join_all t earlier (v ∷ vs) = join_all t (Some (joined_with t earlier v)) vs

-- what a key hands on to a subprogram, where it is a call of that
abbrev pub given_in : Facts → ℕ → Key → List Fact
given_in x sub (key.Node p) = []
given_in x sub (key.Edge p q) = []
given_in x sub (key.Call p s) = if sub == s then option_to_list (x (key.Call p s)) else []
given_in x sub (key.Summary q) = []
given_in x sub (key.Gap q pc kind) = []

-- what keys hand on to a subprogram
abbrev pub given_to : Facts → ℕ → List Key → List Fact
given_to x sub keys = flat_map (given_in x sub) keys

-- what a table has at a place, if it has something
abbrev pub entry_at : List (Option Fact) → ℕ → Option Fact
entry_at table n = slice_index_or table n None

-- the entry of one subprogram is joined with what a call hands on, and no other
abbrev pub entry_with : List ℕ → List ℕ → List (Option Fact) → ℕ → Fact → ℕ → Option Fact
entry_with t subs table callee given n =
    if slice_index_or subs n 0 == callee then Some (joined_with t (entry_at table n) given) else entry_at table n

pub record JoinsGiven (t subs : List ℕ) (callee : ℕ) (given : Fact) (old new : List (Option Fact)) : Type 0 where
  pub count : length new ≡ length old
  pub all : All (IsGivenOrNone t) new
  pub each : (n : ℕ) → n < length subs → entry_at new n ≡ entry_with t subs old callee given n

-- each entry is joined with what a key hands on to its subprogram
pub record JoinsKey (t : List ℕ) (x : Facts) (subs : List ℕ) (k : Key) (old new : List (Option Fact)) : Type 0 where
  pub count : length new ≡ length old
  pub all : All (IsGivenOrNone t) new
  pub each : (n : ℕ) → n < length subs → (rest : List Fact)
      → join_all t (entry_at new n) rest ≡ join_all t (entry_at old n) (given_in x (slice_index_or subs n 0) k ++ rest)

-- for each listed subprogram the join of what keys hand on to it, if they do
pub record AreJoins (t : List ℕ) (x : Facts) (subs : List ℕ) (keys : List Key) (table : List (Option Fact)) : Type 0 where
  pub count : length table ≡ length subs
  pub each : (n : ℕ) → n < length subs → entry_at table n ≡ join_all t None (given_to x (slice_index_or subs n 0) keys)

-- a fact is a list of arguments
abbrev pub AreArguments : Fact → Type 0
AreArguments v = is_kind v OfArgs ≡ true

-- so is what an entry has, which has something
abbrev pub HasArguments : Option Fact → Type 0
HasArguments None = ⊥
HasArguments (Some v) = AreArguments v
