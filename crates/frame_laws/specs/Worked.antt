-- A small run with a call in a loop that a cell counts, a callee with a loop whose bound is asserted, and a call whose time
-- is asserted, worked out in full: each activation spends exactly its bound.
use Rattle.std.specs.Prelude.{◌≡◌, ℕ, zero, suc, ◌+◌, ◌≤◌, Bool, true, false, List, [], ◌∷◌, Option, Some, None}
use Rattle.std.specs.List.{All}
use Rattle.graph_laws.specs.Loops.{Loops}
use Rattle.graph_laws.specs.Worked.{is_zero, is_two, two_loops, one_or_two}
use Rattle.graph_laws.specs.WorkedSums.{head_up}
use Rattle.frame_laws.specs.Context.{Family, Context, Counter, Standing, Stub, In, IsSound}
use Rattle.frame_laws.specs.Run.{Run, Move, Goes, Calls, Returns}
use Rattle.frame_laws.specs.Activation.{Activation, stack_at}
use Rattle.frame_laws.specs.Steps.{AreFollowed}
use Rattle.frame_laws.specs.Laws.{Walks, SpendsTo}

-- the outer context: a loop of 0 and 1 whose head 0 counts, a call at 1, and an exit over 2, a call whose time is asserted,
-- to 3
abbrev pub outer_edge : ℕ → ℕ → Bool
outer_edge zero m = one_or_two m
outer_edge (suc zero) m = is_zero m
outer_edge (suc (suc zero)) zero = false
outer_edge (suc (suc zero)) (suc m) = is_two m
outer_edge (suc (suc (suc n))) m = false

-- the cell is 0 or 1 at the head, which adds one to it
abbrev pub outer_counter : Counter
outer_counter = record { cell = 8; changes = head_up; lo = 0; hi = 1; step = 1 }

abbrev pub counter_of_outer : ℕ → Option Counter
counter_of_outer zero = Some outer_counter
counter_of_outer (suc h) = None

abbrev pub outer_leads : ℕ → Option Standing
outer_leads zero = None
outer_leads (suc zero) = Some (In 1)
outer_leads (suc (suc zero)) = Some (Stub 5)
outer_leads (suc (suc (suc n))) = None

abbrev pub outer : Context
outer = record {
  entry = 0;
  edge = outer_edge;
  loops = two_loops;
  bound = λ _. 2;
  counter = counter_of_outer;
  start = 1;
  own = record { node = λ _. 1; edge = λ _ _. 1 };
  leads = outer_leads;
  most = Some 21;
}

-- the inner context: a node 0 with an edge to itself, passed at most twice, and an exit to 1
abbrev pub below_one_more : ℕ → Bool
below_one_more zero = true
below_one_more (suc m) = is_zero m

abbrev pub inner_edge : ℕ → ℕ → Bool
inner_edge zero m = below_one_more m
inner_edge (suc n) m = false

abbrev pub inner_body : ℕ → ℕ → Bool
inner_body zero n = is_zero n
inner_body (suc h) n = false

abbrev pub inner_loops : Loops
inner_loops = record { has = is_zero; body = inner_body }

abbrev pub inner : Context
inner = record {
  entry = 0;
  edge = inner_edge;
  loops = inner_loops;
  bound = λ _. 2;
  counter = λ _. None;
  start = 1;
  own = record { node = λ _. 1; edge = λ _ _. 1 };
  leads = λ _. None;
  most = Some 6;
}

abbrev pub worked : Family
worked zero = outer
worked (suc c) = inner

-- what a list has at a place, else the last argument
abbrev pub nth : {A : Type 0} → List A → ℕ → A → A
nth [] n other = other
nth (x ∷ xs) zero other = x
nth (x ∷ xs) (suc n) other = nth xs n other

abbrev pub worked_moves : List Move
worked_moves = Goes ∷ Calls ∷ Goes ∷ Goes ∷ Returns ∷ Goes ∷ Calls ∷ Goes ∷ Returns ∷ Returns ∷ []

abbrev pub worked_nodes : List ℕ
worked_nodes = 0 ∷ 1 ∷ 0 ∷ 0 ∷ 1 ∷ 0 ∷ 2 ∷ 0 ∷ 0 ∷ 3 ∷ []

abbrev pub worked_cycles : List ℕ
worked_cycles = 0 ∷ 2 ∷ 4 ∷ 6 ∷ 8 ∷ 10 ∷ 12 ∷ 14 ∷ 16 ∷ 19 ∷ 21 ∷ []

abbrev pub worked_contents : List ℕ
worked_contents = 0 ∷ 1 ∷ 7 ∷ 7 ∷ 7 ∷ 1 ∷ 2 ∷ 7 ∷ 7 ∷ 2 ∷ []

abbrev pub worked_run : Run
worked_run = record {
  move = λ place. nth worked_moves place Goes;
  node = λ c place. nth worked_nodes place 0;
  cycles = λ place. nth worked_cycles place 21;
  owed = λ place. 1;
  content = λ place cell. nth worked_contents place 0;
}

abbrev pub worked_stack : ℕ → List Activation
worked_stack place = stack_at worked worked_run (In 0) place

-- the contexts are sound, and each step of the run keeps to them
pub record WorkedRunIsFollowed : Type 0 where
  pub sound : IsSound worked
  pub followed : AreFollowed worked worked_run (In 0) 10

-- the activations on the stack are on walks, as at place 3, inside the callee
pub record WorkedFramesWalk : Type 0 where
  pub stack : worked_stack 3 ≡ record { standing = In 1; first = 2; later = 3 ∷ [] } ∷ record { standing = In 0; first = 0; later = 1 ∷ [] } ∷ []
  pub walk : (place : ℕ) → place ≤ 10 → All (Walks worked worked_run) (worked_stack place)

-- at place 4 the callee and its caller are within their bounds
abbrev pub WorkedFramesSpend : Type 0
WorkedFramesSpend = All (SpendsTo worked worked_run (worked_run.cycles 4)) (worked_stack 4)

-- the callee has spent its bound of six once it has returned
pub record WorkedCalleeMeetsItsBound : Type 0 where
  pub within : worked_run.cycles 5 ≤ worked_run.cycles 2 + 6
  pub meets : worked_run.cycles 5 ≡ worked_run.cycles 2 + 6

-- from the last place on the root spends its bound of 21
pub record WorkedRootMeetsItsBound : Type 0 where
  pub within : (cycles : ℕ) → cycles ≤ worked_run.cycles 9 + worked_run.owed 9 + 1 → cycles ≤ worked_run.cycles 0 + 21
  pub meets : worked_run.cycles 9 + worked_run.owed 9 + 1 ≡ worked_run.cycles 0 + 21
