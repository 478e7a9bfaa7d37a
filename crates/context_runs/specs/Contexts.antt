-- The contexts of frames, and what they have to do with the facts: what their calls lead to, and the numbers of program
-- points in their graphs.
use Rattle.std.specs.Prelude.{◌≡◌, ℕ, ◌+◌, ◌≤◌, true, false, List, [], ◌∷◌, Some, is_some}
use Rattle.abs_state.specs.declared.key.Key.TheVariants as key
use Rattle.abs_state.specs.declared.key.Next.{Next}
use Rattle.abs_state.specs.declared.key.Next.TheVariants.{At, Into, Back}
use Rattle.abs_state.specs.declared.key.Place.{Place}
use Rattle.assert_bind.specs.Binding.{stub}
use Rattle.assert_bind.specs.declared.body.BoundAssertion.{BoundAssertion}
use Rattle.frame_laws.specs.Context.{Family, Standing, Free, Stub, In}
use Rattle.sparc_machine.specs.Frame.{Frame}
use Rattle.sparc_machine.specs.Straight.{code_instruction, all_registers, loads}
use Rattle.sparc_runs.specs.Cost.{own_cost, annulled_cost, pair_cost}
use Rattle.stack_laws.specs.Standing.{StackFacts, waiting_place}
use Rattle.stack_laws.specs.StepFacts.{is_stub}
use Rattle.transfer_rules.specs.Give.{Facts, entry_of}

-- How the frame of a root stands; of each context its subprogram, its facts, what the call at a program point leads to, and
-- the numbers of its program points; and its graph.
pub record Contexts : Type 0 where
  pub roots : ℕ → Standing
  pub sub : ℕ → ℕ
  pub facts : ℕ → Facts
  pub follows : ℕ → Place → Standing
  pub number : ℕ → Place → ℕ
  pub family : Family

-- how a frame stands that is called from a program point
abbrev pub follows_from : Contexts → Standing → Place → Standing
follows_from F Free p = Free
follows_from F (Stub time) p = Free
follows_from F (In c) p = F.follows c p

-- how the frame on top of a stack stands: what its calls from the root's on lead to
abbrev pub standing_of : Contexts → List Frame → Standing
standing_of F [] = Free
standing_of F (root ∷ []) = F.roots root.sub
standing_of F (callee ∷ frame ∷ rest) = follows_from F (standing_of F (frame ∷ rest)) (waiting_place frame callee)

-- the facts of a context; where there is none, those of all runs
abbrev pub facts_by : Contexts → Facts → Standing → Facts
facts_by F x Free = x
facts_by F x (Stub time) = x
facts_by F x (In c) = F.facts c

abbrev pub facts_of : Contexts → Facts → StackFacts
facts_of F x frames = facts_by F x (standing_of F frames)

-- the registers that may be loaded behind a program point's step along an edge: behind a call any
abbrev pub loaded_behind : List ℕ → Place → Next → ℕ
loaded_behind image p (At n) = loads (code_instruction image p.pc)
loaded_behind image p (Into t) = all_registers
loaded_behind image p Back = loads (code_instruction image p.pc)

-- what an edge costs: what its step passes over, and what the next instruction owes to the one before
abbrev pub edge_cost : List ℕ → List ℕ → Place → Place → ℕ
edge_cost image costs p q =
    annulled_cost costs (code_instruction image p.pc) p.pc q.pc + pair_cost costs (loaded_behind image p p.next) (code_instruction image q.pc)

-- a call is among the facts of a context
pub record IsCalled (F : Contexts) (c : ℕ) (p : Place) (t : ℕ) : Type 0 where
  pub there : is_some (F.facts c (key.Call p t)) ≡ true
  pub into : p.next ≡ Into t

-- contexts have their graphs filled in: calls, entries, edges and costs are those of their facts, and no subprogram that
-- isn't looked into has a context
pub record AreFilled (image costs : List ℕ) (list : List BoundAssertion) (F : Contexts) : Type 0 where
  pub root_in : (root c : ℕ) → F.roots root ≡ In c → (F.sub c ≡ root)
  pub root_free : (root time : ℕ) → F.roots root ≡ Stub time → ⊥
  pub root_plain : (root c : ℕ) → F.roots root ≡ In c → is_stub list root ≡ false
  pub leads : (c : ℕ) (p : Place) (t : ℕ) → IsCalled F c p t → (F.family c).leads (F.number c p) ≡ Some (F.follows c p)
  pub callee : (c : ℕ) (p : Place) (t d : ℕ) → IsCalled F c p t → F.follows c p ≡ In d → F.sub d ≡ t
  pub plain : (c : ℕ) (p : Place) (t d : ℕ) → IsCalled F c p t → F.follows c p ≡ In d → is_stub list t ≡ false
  pub time : (c : ℕ) (p : Place) (t most : ℕ) → IsCalled F c p t → F.follows c p ≡ Stub most → stub list t ≡ Some most
  pub entry : (c : ℕ) → F.number c (entry_of (F.sub c)) ≡ (F.family c).entry
  pub start : (c : ℕ) → pair_cost costs all_registers (code_instruction image (F.sub c)) ≤ (F.family c).start
  pub edges : (c : ℕ) (p q : Place) → is_some (F.facts c (key.Edge p q)) ≡ true → (F.family c).edge (F.number c p) (F.number c q) ≡ true
  pub own : (c : ℕ) (p : Place) → is_some (F.facts c (key.Node p)) ≡ true
      → own_cost costs (code_instruction image p.pc) ≤ (F.family c).own.node (F.number c p)
  pub extra : (c : ℕ) (p q : Place) → is_some (F.facts c (key.Edge p q)) ≡ true
      → edge_cost image costs p q ≤ (F.family c).own.edge (F.number c p) (F.number c q)
