-- Reasons against a bound as they are gathered, and put in order.
use Rattle.std.specs.Prelude.{◌≡◌, ◌⊎◌, ◌<◌, ℕ, true, false, List, [], ◌∷◌, length, slice_get, Option, Some, None, is_some, nat_lt, Contains, if◌then◌else◌}
use Rattle.std.specs.List.Sorted.{IsStrictlySortedBy}
use Rattle.abs_state.specs.declared.key.GapKind.{GapKind}
use Rattle.abs_state.specs.declared.key.GapKind.TheVariants as why
use Rattle.abs_state.specs.declared.key.Key.TheVariants as key
use Rattle.abs_state.specs.declared.key.Next.TheVariants.{Into}
use Rattle.abs_state.specs.declared.key.Place.{Place}
use Rattle.assert_bind.specs.declared.body.BoundAssertion.{BoundAssertion}
use Rattle.context_outcomes.specs.Outcomes.{reason_cmp}
use Rattle.graph_laws.specs.Nest.{SamePart}
use Rattle.graph_view.specs.Cycles.{IsCycleCall}
use Rattle.graph_view.specs.Need.{HasNeed, calls_of}
use Rattle.graph_view.specs.Sites.{call_address}
use Rattle.graph_view.specs.View.{ByKind, opens_of}
use Rattle.graph_view.specs.declared.lists.Calling.{Calling}
use Rattle.transfer_acts.specs.Reading.{is_stub}
use Rattle.transfer_rules.specs.Give.{Facts}
use Rattle.wcet_report.specs.declared.loops.By.{By}
use Rattle.wcet_report.specs.declared.loops.By.TheVariants.{Asserted, Counter, Nothing}
use Rattle.wcet_report.specs.declared.loops.LoopOutcome.{LoopOutcome}
use Rattle.wcet_report.specs.declared.reason.Reason.{Reason}
use Rattle.wcet_report.specs.declared.reason.Reason.TheVariants as reason

-- a list has what another has and what is such, and nothing else
pub record Adds (such : Reason → Type 0) (old new : List Reason) : Type 0 where
  pub has : (one : Reason) → Contains new one → Contains old one ⊎ such one
  pub keeps : (one : Reason) → Contains old one → Contains new one
  pub adds : (one : Reason) → such one → Contains new one

-- a list has what another has, each once, in the order of reasons
pub record IsPutInOrder (old new : List Reason) : Type 0 where
  pub rising : IsStrictlySortedBy reason_cmp new
  pub keeps : (one : Reason) → Contains old one → Contains new one
  pub adds_none : (one : Reason) → Contains new one → Contains old one

-- that something isn't known behind an instruction
abbrev pub gap_reason : GapKind → ℕ → Reason
gap_reason why.Jump pc = reason.Jump pc
gap_reason why.Call pc = reason.Call pc
gap_reason why.Instr pc = reason.Instr pc

-- that more windows are needed than the six below the entry's
abbrev pub window_reasons : Option ℕ → List Reason
window_reasons None = []
window_reasons (Some need) = if nat_lt 6 need then reason.Windows need ∷ [] else []

-- that nothing bounds a loop
abbrev pub head_reasons : Place → By → List Reason
head_reasons head (Counter counter) = []
head_reasons head (Asserted count) = []
head_reasons head Nothing = reason.Loop head ∷ []

abbrev pub loop_reasons : LoopOutcome → List Reason
loop_reasons outcome = head_reasons outcome.head outcome.by

-- a call of a subprogram is followed into a context without a bound
pub record IsOpenInto (binding : List BoundAssertion) (callings : List Calling) (facts : Facts) (sub : ℕ) (p : Place) (target : ℕ) (bound : Option ℕ) : Type 0 where
  pub there : is_some (facts (key.Call p target)) ≡ true
  pub apart : SamePart (calls_of callings) sub target → ⊥
  pub plain : is_stub binding target ≡ false
  pub unbounded : bound ≡ None

-- and this is the reason
pub record IsOpenTo (binding : List BoundAssertion) (callings : List Calling) (facts : Facts) (sub : ℕ) (p : Place) (target : ℕ) (bound : Option ℕ) (one : Reason) : Type 0 where
  pub open_into : IsOpenInto binding callings facts sub p target bound
  pub told : one ≡ reason.Callee (call_address (record { from = p; callee = target })) target

-- a program point calls so
pub record IsOpenAt (binding : List BoundAssertion) (callings : List Calling) (facts : Facts) (sub : ℕ) (p : Place) (bound : Option ℕ) (one : Reason) : Type 0 where
  pub target : ℕ
  pub into : p.next ≡ Into target
  pub to : IsOpenTo binding callings facts sub p target bound one

-- one of the first program points does, each with the bound of the context to which its call leads
pub record IsOpenAmong (binding : List BoundAssertion) (callings : List Calling) (facts : Facts) (sub : ℕ) (nodes : List Place) (bounds : List (Option ℕ)) (many : ℕ) (one : Reason) : Type 0 where
  pub place : ℕ
  pub low : place < many
  pub p : Place
  pub at : slice_get nodes place ≡ Some p
  pub bound : Option ℕ
  pub leads : slice_get bounds place ≡ Some bound
  pub calls : IsOpenAt binding callings facts sub p bound one

-- more windows are needed than the six below the entry's
pub record IsShortOf (view : ByKind) (sub need : ℕ) : Type 0 where
  pub needs : HasNeed view.places view.callings sub need
  pub more : 6 < need

-- the reasons against a bound but those of loops and of the cost
abbrev pub IsCommon : List BoundAssertion → ByKind → Facts → ℕ → List Place → List (Option ℕ) → Reason → Type 0
IsCommon binding view facts sub nodes bounds (reason.Jump pc) = Contains (opens_of view sub) (record { sub = sub; pc = pc; why = why.Jump })
IsCommon binding view facts sub nodes bounds (reason.Call pc) = Contains (opens_of view sub) (record { sub = sub; pc = pc; why = why.Call })
IsCommon binding view facts sub nodes bounds (reason.Instr pc) = Contains (opens_of view sub) (record { sub = sub; pc = pc; why = why.Instr })
IsCommon binding view facts sub nodes bounds (reason.Loop head) = ⊥
IsCommon binding view facts sub nodes bounds (reason.Irreducible one two) = ⊥
IsCommon binding view facts sub nodes bounds (reason.Callee call target) =
    IsOpenAmong binding view.callings facts sub nodes bounds (length nodes) (reason.Callee call target)
IsCommon binding view facts sub nodes bounds (reason.Recursion pc) = IsCycleCall view.callings sub pc
IsCommon binding view facts sub nodes bounds (reason.Windows need) = IsShortOf view sub need
IsCommon binding view facts sub nodes bounds (reason.TooLarge place) = ⊥
