-- Facts about keys by their kind, about needs and call cycles.
use Rattle.std.specs.Prelude.{◌≡◌, ◌↔◌, ℕ, List, Contains}
use Rattle.std.specs.List.{flat_map}
use Rattle.std.specs.List.Sorted.{IsNonDecreasingBy, IsStrictlySortedBy}
use Rattle.std.specs.declared.option.Option.TheVariants.{None, Some}
use Rattle.abs_state.specs.Key.{compare}
use Rattle.abs_state.specs.declared.key.GapKind.{GapKind}
use Rattle.abs_state.specs.declared.key.Key.{Key}
use Rattle.abs_state.specs.declared.key.Key.TheVariants.{Node, Edge, Call, Gap}
use Rattle.abs_state.specs.declared.key.Place.{Place}
use Rattle.call_laws.specs.Calls.{LeadsTo}
use Rattle.graph_laws.specs.Nest.{Reaches}
use Rattle.graph_view.specs.Cycles.{IsCycleCall}
use Rattle.graph_view.specs.Lists.{place_in, step_in, calling_in, open_in}
use Rattle.graph_view.specs.Need.{calls_of, HasNeed, IsNeed}
use Rattle.graph_view.specs.Sites.{call_address}
use Rattle.graph_view.specs.Subs.{place_sub, step_sub, calling_sub, open_sub}
use Rattle.graph_view.specs.declared.lists.Calling.{Calling}

-- the lists of keys by their kind are by rising subprograms
pub record AreOwned (keys : List Key) : Type 0 where
  pub places : IsNonDecreasingBy place_sub (flat_map place_in keys)
  pub steps : IsNonDecreasingBy step_sub (flat_map step_in keys)
  pub callings : IsNonDecreasingBy calling_sub (flat_map calling_in keys)
  pub opens : IsNonDecreasingBy open_sub (flat_map open_in keys)

-- those of keys that rise are
abbrev pub KeysAreOwned : Type 0
KeysAreOwned = (keys : List Key) → IsStrictlySortedBy compare keys → AreOwned keys

-- a key is among keys exactly where what it has is in the list of its kind
pub record StandInLists (keys : List Key) : Type 0 where
  pub places : (place : Place) → Contains keys (Node place) ↔ Contains (flat_map place_in keys) place
  pub steps : (from to : Place) → Contains keys (Edge from to) ↔ Contains (flat_map step_in keys) (record { from = from; to = to })
  pub callings : (from : Place) (callee : ℕ) → Contains keys (Call from callee) ↔ Contains (flat_map calling_in keys) (record { from = from; callee = callee })
  pub opens : (sub pc : ℕ) (why : GapKind) → Contains keys (Gap sub pc why) ↔ Contains (flat_map open_in keys) (record { sub = sub; pc = pc; why = why })

abbrev pub KeysStandInLists : Type 0
KeysStandInLists = (keys : List Key) → StandInLists keys

-- a call inside a call cycle leads to a subprogram that leads back to the caller, and both are led to from the subprogram
pub record LeadsBack (callings : List Calling) (sub address : ℕ) : Type 0 where
  pub calling : Calling
  pub among : Contains callings calling
  pub is : address ≡ call_address calling
  pub caller : Reaches (calls_of callings) sub calling.from.sub
  pub callee : Reaches (calls_of callings) sub calling.callee
  pub back : Reaches (calls_of callings) calling.callee calling.from.sub

abbrev pub CycleCallsLeadBack : Type 0
CycleCallsLeadBack = (callings : List Calling) (sub address : ℕ) → IsCycleCall callings sub address → LeadsBack callings sub address

-- a subprogram is reached that has a call inside its call cycle
pub record ReachesCycleCall (callings : List Calling) (sub : ℕ) : Type 0 where
  pub member : ℕ
  pub there : LeadsTo (calls_of callings) sub member
  pub address : ℕ
  pub is : IsCycleCall callings member address

-- A subprogram without a need reaches one with a call inside its call cycle, and one with such a call has no need.
pub record NeedsAndCycles (places : List Place) (callings : List Calling) (sub : ℕ) : Type 0 where
  pub none : IsNeed places callings sub None → ReachesCycleCall callings sub
  pub some : (need : ℕ) → IsNeed places callings sub (Some need) → ReachesCycleCall callings sub → ⊥

abbrev pub NeedsEndAtCycles : Type 0
NeedsEndAtCycles = (places : List Place) (callings : List Calling) (sub : ℕ) → NeedsAndCycles places callings sub

-- a subprogram has one need
abbrev pub NeedsAreOne : Type 0
NeedsAreOne = (places : List Place) (callings : List Calling) (sub one other : ℕ) → HasNeed places callings sub one → HasNeed places callings sub other → one ≡ other
