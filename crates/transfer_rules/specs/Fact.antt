-- What is found at keys: of which kind it is, its order, its join, and how far it may rise.
use Rattle.std.specs.Prelude.{◌==◌, ℕ, ◌+◌, ◌*◌, ◌^◌, ◌&&◌, Bool, true, false, List, length, Option, Some, None, nat_lt, if◌then◌else◌}
use Rattle.std.specs.List.{list_all}
use Rattle.call_effects.specs.Mask.{is_mask}
use Rattle.call_effects.specs.Summary.{joined as joined_effects, is_at_most as are_effects_at_most}
use Rattle.call_effects.specs.declared.summary.Summary.{Summary as Effects}
use Rattle.value_lattice.specs.Height.{are_at_most, heights}
use Rattle.value_lattice.specs.Test.{is_over}
use Rattle.abs_state.specs.State.{State, is_state_over, joined_cells, joined as joined_states, is_at_most as is_state_at_most, rank as state_rank}
use Rattle.abs_state.specs.declared.key.Key.{Key}
use Rattle.abs_state.specs.declared.key.Key.TheVariants.{Node, Edge, Call, Summary, Gap}
use Rattle.abs_state.specs.declared.key.Place.{Place}
use Rattle.transfer_rules.specs.declared.fact.Fact.{Fact}
use Rattle.transfer_rules.specs.declared.fact.Fact.TheVariants as fact

-- a key and its fact
abbrev pub Piece : Type 0
Piece = Key × Fact

-- the kinds of facts
pub data Kind : Type 0 where
  OfState : Kind
  OfArgs : Kind
  OfEffects : Kind
  OfMark : Kind

-- the kind of fact that a key has
abbrev pub kind_at : Key → Kind
kind_at (Node p) = OfState
kind_at (Edge p q) = OfMark
kind_at (Call p t) = OfArgs
kind_at (Summary sub) = OfEffects
kind_at (Gap sub pc why) = OfMark

abbrev pub is_kind : Fact → Kind → Bool
is_kind (fact.State s) OfState = true
is_kind (fact.Args list) OfArgs = true
is_kind (fact.Sum effects) OfEffects = true
is_kind fact.Mark OfMark = true
is_kind _ _ = false

-- each depth that a key names is below 2
abbrev pub is_shallow : Place → Bool
is_shallow p = nat_lt p.depth 2

abbrev pub names_depths : Key → Bool
names_depths (Node p) = is_shallow p
names_depths (Edge p q) = is_shallow p && is_shallow q
names_depths (Call p t) = is_shallow p
names_depths (Summary sub) = true
names_depths (Gap sub pc why) = true

-- what a fact holds is over the thresholds
abbrev pub is_fact_over : List ℕ → Fact → Bool
is_fact_over t (fact.State s) = is_state_over t s
is_fact_over t (fact.Args list) = (length list == 13) && list_all (is_over t) list
is_fact_over t (fact.Sum effects) = is_mask effects.written
is_fact_over t fact.Mark = true

-- a fact may stand at a key
abbrev pub fits : List ℕ → Key → Fact → Bool
fits t k v = is_kind v (kind_at k) && (names_depths k && is_fact_over t v)

-- whether a fact is at most another of its kind
abbrev pub is_at_most : Fact → Fact → Bool
is_at_most (fact.State a) (fact.State b) = is_state_at_most a b
is_at_most (fact.Args a) (fact.Args b) = are_at_most a b
is_at_most (fact.Sum a) (fact.Sum b) = are_effects_at_most a b
is_at_most fact.Mark fact.Mark = true
is_at_most _ _ = false

-- the least fact that is at least two of one kind
abbrev pub joined : List ℕ → Fact → Fact → Fact
joined t (fact.State a) (fact.State b) = fact.State (joined_states t a b)
joined t (fact.Args a) (fact.Args b) = fact.Args (joined_cells t a b)
joined t (fact.Sum a) (fact.Sum b) = fact.Sum (joined_effects a b)
joined t a _ = a

-- a truth value as a number
abbrev pub bit_of : Bool → ℕ
bit_of b = if b then 1 else 0

-- how far a fact has risen
abbrev pub rank : List ℕ → Fact → ℕ
rank t (fact.State s) = state_rank t s
rank t (fact.Args list) = heights t list
rank t (fact.Sum effects) = bit_of effects.returns + (bit_of effects.skips + effects.written)
rank t fact.Mark = 0

-- the greatest rank
abbrev pub top_rank : List ℕ → ℕ
top_rank t = 48 * (128 + length t) + 2 ^ 48 + 2

-- what stands at a key, where it is of the kind
abbrev pub state_in : Option Fact → Option State
state_in (Some (fact.State s)) = Some s
state_in _ = None

abbrev pub effects_in : Option Fact → Option Effects
effects_in (Some (fact.Sum effects)) = Some effects
effects_in _ = None
