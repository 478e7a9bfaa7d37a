-- Asserted counts of passes, as what they say of heads of contexts.
use Rattle.std.specs.Prelude.{◌≡◌, ℕ, ◌≤◌, true, false, List, [], ◌∷◌, Some, None, All}
use Rattle.assert_bind.specs.Binding.{repeats}
use Rattle.assert_bind.specs.declared.body.BoundAssertion.{BoundAssertion}
use Rattle.abs_state.specs.declared.key.Place.{Place}
use Rattle.context_runs.specs.Contexts.{Contexts, standing_of}
use Rattle.context_runs.specs.Joined.{IsPlaced, root_of, run_of}
use Rattle.frame_laws.specs.Activation.{stack_at}
use Rattle.frame_laws.specs.Context.{Standing, Free, Stub, In}
use Rattle.frame_laws.specs.Steps.{KeepsAsserted}
use Rattle.graph_laws.specs.Loops.{Loops}
use Rattle.sparc_machine.specs.Frame.{Frame, Transfer}
use Rattle.sparc_machine.specs.declared.machine.Machine.{Machine}
use Rattle.sparc_runs.specs.Meets.{Heads, Meets}
use Rattle.stack_laws.specs.Standing.{place_of}
use Rattle.transfer_rules.specs.Give.{Facts}

-- where there is no context there are no loops
abbrev pub no_loops : Loops
no_loops = record { has = λ h. false; body = λ h n. false }

abbrev pub loops_by : Contexts → Standing → Loops
loops_by F Free = no_loops
loops_by F (Stub time) = no_loops
loops_by F (In c) = (F.family c).loops

-- nor are there numbers of program points
abbrev pub number_by : Contexts → Standing → Place → ℕ
number_by F Free p = 0
number_by F (Stub time) p = 0
number_by F (In c) p = F.number c p

abbrev pub number_in : Contexts → List Frame → Transfer → Machine → ℕ
number_in F [] due m = 0
number_in F (f ∷ below) due m = number_by F (standing_of F (f ∷ below)) (place_of due f m)

-- the address of a node of a context
abbrev pub address_by : (ℕ → ℕ → ℕ) → Standing → ℕ → ℕ
address_by address Free n = 0
address_by address (Stub time) n = 0
address_by address (In c) n = address c n

-- what asserted counts speak of: the loops of the contexts of frames, whose nodes have these addresses
abbrev pub heads_of : Contexts → (ℕ → ℕ → ℕ) → Heads
heads_of F address = record {
  number = number_in F;
  loops = λ stack. loops_by F (standing_of F stack);
  pc = λ stack n. address_by address (standing_of F stack) n;
}

-- a count is asserted at an address, and it is no more than a bound
pub record IsAsserted (list : List BoundAssertion) (address bound : ℕ) : Type 0 where
  pub count : ℕ
  pub is : repeats list address ≡ Some count
  pub less : count ≤ bound

-- so it is at each head whose bound no counter shows
abbrev pub AreAsserted : List BoundAssertion → Contexts → (ℕ → ℕ → ℕ) → Type 0
AreAsserted list F address =
    (c h : ℕ) → (F.family c).loops.has h ≡ true → (F.family c).counter h ≡ None → IsAsserted list (address c h) ((F.family c).bound h)

-- then a run that meets the assertions keeps those bounds, in each frame at each place
abbrev pub AssertedCountsAreKept : Type 0
AssertedCountsAreKept =
    (F : Contexts) (image costs : List ℕ) (list : List BoundAssertion) (x : Facts) (root : ℕ) (first : Machine) (rest : List Machine) (last : ℕ)
    (address : ℕ → ℕ → ℕ)
    → IsPlaced F image costs list x root first rest last → AreAsserted list F address → Meets image (heads_of F address) first rest list
    → (place : ℕ) → place ≤ last
    → All (KeepsAsserted F.family (run_of F image costs first rest)) (stack_at F.family (run_of F image costs first rest) (root_of F first) place)
