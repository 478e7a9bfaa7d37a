-- The arguments of contexts, and the thresholds that come with them.
use Rattle.std.specs.Prelude.{◌≡◌, ℕ, ℤ, true, false, List, [], ◌∷◌, ◌++◌, length, map, Some, nat_lt, if◌then◌else◌}
use Rattle.std.specs.Int.{w32, cast_signed}
use Rattle.std.specs.List.{flat_map, list_all}
use Rattle.abs_state.specs.declared.key.Key.TheVariants as key
use Rattle.abs_state.specs.declared.key.Place.{Place}
use Rattle.assert_bind.specs.Binding.{roots}
use Rattle.bt_base.specs.Graph.{has}
use Rattle.code_thresholds.specs.Number.{below, above}
use Rattle.transfer_rules.specs.Give.{Facts, argument_registers}
use Rattle.transfer_rules.specs.declared.fact.Fact.TheVariants as fact
use Rattle.value_lattice.specs.Height.{are_at_most}
use Rattle.value_lattice.specs.Least.{top}
use Rattle.value_lattice.specs.Test.{is_over}
use Rattle.value_lattice.specs.Thresholds.{widen}
use Rattle.value_lattice.specs.declared.value.Value.{Value}
use Rattle.value_lattice.specs.declared.value.Value.TheVariants.{Words, Range, Ret}
use Rattle.wcet_report.specs.declared.context.Context.{Context}
use Rattle.wcet_report.specs.declared.context.Context.TheVariants.{Plain, With}
use Rattle.context_outcomes.specs.Setting.{Setting, facts_in}

-- anything for each argument: what is known of those of a root
abbrev pub any_arguments : List Value
any_arguments = map (λ r. top) argument_registers

-- values over thresholds, one for each argument
pub record AreOver (t : List ℕ) (args : List Value) : Type 0 where
  pub count : length args ≡ 13
  pub values : list_all (is_over t) args ≡ true

-- values are at least those of each call of a subprogram
abbrev pub AreAboveCalls : Facts → ℕ → List Value → Type 0
AreAboveCalls x sub args = (p : Place) (given : List Value) → x (key.Call p sub) ≡ Some (fact.Args given) → are_at_most given args ≡ true

-- the join of the arguments of all calls of a subprogram: the least values that are
pub record AreJoined (t : List ℕ) (x : Facts) (sub : ℕ) (args : List Value) : Type 0 where
  pub over : AreOver t args
  pub above : AreAboveCalls x sub args
  pub least : (others : List Value) → AreOver t others → AreAboveCalls x sub others → are_at_most args others ≡ true

-- what holds of the arguments of every call of a subprogram: anything for a root, and else the join of all its calls'
pub record ArePlain (S : Setting) (sub : ℕ) (args : List Value) : Type 0 where
  pub root : has (roots S.binding) sub ≡ true → args ≡ any_arguments
  pub called : has (roots S.binding) sub ≡ false → AreJoined S.thresholds (facts_in S) sub args

-- the arguments of a context
abbrev pub AreArgumentsOf : Setting → ℕ → Context → List Value → Type 0
AreArgumentsOf S sub Plain args = ArePlain S sub args
AreArgumentsOf S sub (With list) args = args ≡ list

-- a number and its neighbours, where they fit 32 bits
abbrev pub near : ℤ → List ℤ
near n = below n ++ n ∷ above n

-- the numbers of a value: those at and beside the words of a set of at most four, and the ends of a range
abbrev pub numbers_in : Value → List ℤ
numbers_in (Words words) = if nat_lt 4 (length words) then [] else flat_map (λ w. near (cast_signed w32 w)) words
numbers_in (Range lo hi) = lo ∷ hi ∷ []
numbers_in Ret = []

-- the thresholds of a context with these arguments: those of the program, and the numbers of the arguments
abbrev pub thresholds_with : Setting → List Value → List ℕ
thresholds_with S args = widen S.thresholds (flat_map numbers_in args)
