-- The worked run keeps to the worked contexts, and the laws say what it spends.
use Rattle.std.proofs.Common.{◌≡◌, ℕ, zero, suc, ◌+◌, ◌<◌, ◌≤◌, true, false, List, [], ◌∷◌, ◌++◌, map, Some, None, refl, sym, ap, subst}
use Rattle.std.proofs.Common.{◌∙◌, arith}
use Rattle.std.proofs.Common.{inl, inr}
use Rattle.std.proofs.lemmas.Bool.{cases_lt}
use Rattle.std.specs.List.{All}
use Rattle.std.proofs.lemmas.List.Elements.{All-nil, All-cons}
use Rattle.graph_laws.specs.Walk.{passes}
use Rattle.frame_laws.specs.Context.{Counter, Stub, In}
use Rattle.frame_laws.specs.Run.{Goes, Calls, Returns}
use Rattle.frame_laws.specs.Activation.{Activation, last_of, is_stub}
use Rattle.frame_laws.specs.Steps.{IsEntered, IsWithin, IsAlong, PaysNode, PaysEdge, IsCall, KeepsAsserted, AreFollowed}
use Rattle.frame_laws.specs.Worked.{worked, worked_run, worked_stack, outer, outer_counter, inner, WorkedRunIsFollowed, WorkedFramesWalk, WorkedFramesSpend}
use Rattle.frame_laws.specs.Worked.{WorkedCalleeMeetsItsBound, WorkedRootMeetsItsBound}
use Rattle.frame_laws.proofs.Traces.{first_is}
use Rattle.frame_laws.proofs.Walking.{frames_on_walks}
use Rattle.frame_laws.proofs.Spending.{frames_in_bounds, popped_spend, last_spend}
use Rattle.frame_laws.proofs.WorkedContexts.{some_is, worked_sound}

-- what holds at each place below a number
abbrev AllBelow : (ℕ → Type 0) → ℕ → Type 0
AllBelow P zero = Unit {0}
AllBelow P (suc n) = AllBelow P n × P n

below : (P : ℕ → Type 0) (n : ℕ) → AllBelow P n → (p : ℕ) → p < n → P p
below P zero a p l = absurd (omega arith)
below P (suc n) a p l = elim (cases_lt p n) [
  | inl s ↦ below P n a.0 p s
  | inr s ↦ subst P (let e : n ≡ p = omega arith in e) a.1
]

-- what is said of the context of the top is said of the context that it has
at_top : (t : Activation) (r : List Activation) (d : ℕ) (P : ℕ → Type 0) → t.standing ≡ In d → P d
    → (top : Activation) (rest : List Activation) (c : ℕ) → t ∷ r ≡ top ∷ rest → top.standing ≡ In c → P c
at_top t r d P s h top rest c e i =
    let same : t.standing ≡ top.standing = ap (λ (a : Activation). a.standing) (first_is e) in
    let numbers : d ≡ c = cc in subst P numbers h

second_is : {A : Type 0} {x y u v : A} {xs ys : List A} → x ∷ u ∷ xs ≡ y ∷ v ∷ ys → u ≡ v
second_is e = cc

at_caller : (t u : Activation) (r : List Activation) (d : ℕ) (P : Activation → ℕ → Type 0) → u.standing ≡ In d → P u d
    → (popped caller : Activation) (rest : List Activation) (c : ℕ) → t ∷ u ∷ r ≡ popped ∷ caller ∷ rest → caller.standing ≡ In c → P caller c
at_caller t u r d P s h popped caller rest c e i =
    let same : u ≡ caller = second_is e in
    let there : P caller d = subst (λ (a : Activation). P a d) same h in
    let stands : u.standing ≡ caller.standing = ap (λ (a : Activation). a.standing) same in
    let numbers : d ≡ c = cc in subst (P caller) numbers there

-- an activation whose time is asserted has no context
no_context : (t : Activation) (r : List Activation) (time : ℕ) → t.standing ≡ Stub time → (top : Activation) (rest : List Activation) (c : ℕ)
    → t ∷ r ≡ top ∷ rest → top.standing ≡ In c → ⊥
no_context t r time s top rest c e i = let same : t.standing ≡ top.standing = ap (λ (a : Activation). a.standing) (first_is e) in cc

-- the cell of the outer context
outer_within : (p : ℕ) → (worked_run.node 0 p ≡ 0 → (0 ≤ worked_run.content p 8) × (worked_run.content p 8 ≤ 1)) → IsWithin outer worked_run 0 p
outer_within p h zero k has by e = subst (λ (x : Counter). (x.lo ≤ worked_run.content p x.cell) × (worked_run.content p x.cell ≤ x.hi)) (some_is by) (h e)
outer_within p h (suc n) k has by e = cc

outer_counts : (from to : ℕ) → worked_run.content to 8 + outer_counter.changes.down (worked_run.node 0 from) ≡ worked_run.content from 8
    + outer_counter.changes.up (worked_run.node 0 from)
    → (h : ℕ) (counter : Counter) → outer.loops.has h ≡ true → outer.counter h ≡ Some counter
    → worked_run.content to counter.cell + counter.changes.down (worked_run.node 0 from) ≡ worked_run.content from counter.cell + counter.changes.up
    (worked_run.node 0 from)
outer_counts from to e zero k has by =
    subst (λ (x : Counter). worked_run.content to x.cell + x.changes.down (worked_run.node 0 from) ≡ worked_run.content from x.cell + x.changes.up
    (worked_run.node 0 from)) (some_is by) e
outer_counts from to e (suc n) k has by = cc

outer_along : (from to : ℕ) → outer.edge (worked_run.node 0 from) (worked_run.node 0 to) ≡ true
    → worked_run.content to 8 + outer_counter.changes.down (worked_run.node 0 from) ≡ worked_run.content from 8 + outer_counter.changes.up
    (worked_run.node 0 from) → IsAlong outer worked_run 0 from to
outer_along from to e h = record { edge = e; counts = λ x k has by b i. outer_counts from to h x k has by }

inner_along : (from to : ℕ) → inner.edge (worked_run.node 1 from) (worked_run.node 1 to) ≡ true → IsAlong inner worked_run 1 from to
inner_along from to e = record { edge = e; counts = λ h k has by b i. cc }

abbrev first_frame : List ℕ → Activation
first_frame later = record { standing = In 0; first = 0; later = later }

abbrev callee_frame : List ℕ → Activation
callee_frame later = record { standing = In 1; first = 2; later = later }

abbrev stub_frame : List ℕ → Activation
stub_frame later = record { standing = Stub 5; first = 7; later = later }

abbrev Within : ℕ → Type 0
Within p = (top : Activation) (rest : List Activation) (c : ℕ) → worked_stack p ≡ top ∷ rest → top.standing ≡ In c → IsWithin (worked c) worked_run c p

within_outer : (p : ℕ) (t : Activation) (r : List Activation) → t.standing ≡ In 0 → worked_stack p ≡ t ∷ r → (worked_run.node 0 p ≡ 0
    → (0 ≤ worked_run.content p 8) × (worked_run.content p 8 ≤ 1)) → Within p
within_outer p t r s same h = λ top rest c e i. at_top t r 0 (λ x. IsWithin (worked x) worked_run x p) s (outer_within p h) top rest c (sym same ∙ e) i

within_inner : (p : ℕ) (t : Activation) (r : List Activation) → t.standing ≡ In 1 → worked_stack p ≡ t ∷ r → Within p
within_inner p t r s same = λ top rest c e i. at_top t r 1 (λ x. IsWithin (worked x) worked_run x p) s (λ h k has by e. cc) top rest c (sym same ∙ e) i

within_stub : (p : ℕ) (t : Activation) (r : List Activation) → t.standing ≡ Stub 5 → worked_stack p ≡ t ∷ r → Within p
within_stub p t r s same = λ top rest c e i. absurd (no_context t r 5 s top rest c (sym same ∙ e) i)

within_none : (p : ℕ) → worked_stack p ≡ [] → Within p
within_none p same = λ top rest c e i. cc

all_within : AllBelow Within 11
all_within = (
  (
    (
      (
        (
          (
            (
              (
                (
                  (
                    (
                      tt,
                      within_outer 0 (first_frame []) [] refl refl (λ e. (omega arith, omega arith)),
                    ),
                    within_outer 1 (first_frame (1 ∷ [])) [] refl refl (λ e. cc),
                  ),
                  within_inner 2 (callee_frame []) (first_frame (1 ∷ []) ∷ []) refl refl,
                ),
                within_inner 3 (callee_frame (3 ∷ [])) (first_frame (1 ∷ []) ∷ []) refl refl,
              ),
              within_inner 4 (callee_frame (3 ∷ 4 ∷ [])) (first_frame (1 ∷ []) ∷ []) refl refl,
            ),
            within_outer 5 (first_frame (1 ∷ 5 ∷ [])) [] refl refl (λ e. (omega arith, omega arith)),
          ),
          within_outer 6 (first_frame (1 ∷ 5 ∷ 6 ∷ [])) [] refl refl (λ e. cc),
        ),
        within_stub 7 (stub_frame []) (first_frame (1 ∷ 5 ∷ 6 ∷ []) ∷ []) refl refl,
      ),
      within_stub 8 (stub_frame (8 ∷ [])) (first_frame (1 ∷ 5 ∷ 6 ∷ []) ∷ []) refl refl,
    ),
    within_outer 9 (first_frame (1 ∷ 5 ∷ 6 ∷ 9 ∷ [])) [] refl refl (λ e. cc),
  ),
  within_none 10 refl,
)

-- what is asserted of the inner loop
passes_inside : (f : ℕ → ℕ) (h : ℕ) (before stretch after : List ℕ) → passes h (map f stretch) ≤ passes h (map f (before ++ (stretch ++ after)))
passes_inside f h [] [] after = omega arith
passes_inside f h [] (x ∷ stretch) after = let e : passes h (map f stretch) ≤ passes h (map f (stretch ++ after)) = passes_inside f h [] stretch after in
    omega (arith, e)
passes_inside f h (b ∷ before) stretch after =
    let e : passes h (map f stretch) ≤ passes h (map f (before ++ (stretch ++ after))) = passes_inside f h before stretch after in omega (arith, e)

-- the head of the outer loop has a counter
outer_none : (c h : ℕ) {n m : ℕ} → In 0 ≡ In c → (worked c).loops.has h ≡ true → (worked c).counter h ≡ None → n ≤ m
outer_none zero zero s has by = cc
outer_none zero (suc h) s has by = cc
outer_none (suc c) h s has by = cc

inner_keeps : (later : List ℕ) → passes 0 (map (worked_run.node 1) (2 ∷ later)) ≤ 2 → (c h : ℕ) (before stretch after : List ℕ) → In 1 ≡ In c
    → (worked c).loops.has h ≡ true
    → before ++ (stretch ++ after) ≡ 2 ∷ later → passes h (map (worked_run.node c) stretch) ≤ (worked c).bound h
inner_keeps later most zero h before stretch after s has e = cc
inner_keeps later most (suc c) (suc h) before stretch after s has e = cc
inner_keeps later most (suc c) zero before stretch after s has e =
    let n : suc c ≡ 1 = cc in
    let one : passes 0 (map (worked_run.node 1) stretch) ≤ passes 0 (map (worked_run.node 1) (before ++ (stretch ++ after))) =
    passes_inside (worked_run.node 1) 0 before stretch after in
    let all : passes 0 (map (worked_run.node 1) (before ++ (stretch ++ after))) ≡ passes 0 (map (worked_run.node 1) (2 ∷ later)) =
    ap (λ (l : List ℕ). passes 0 (map (worked_run.node 1) l)) e in
    let here : passes 0 (map (worked_run.node 1) stretch) ≤ 2 = omega (arith, one, all, most) in here

outer_asserted : (later : List ℕ) → KeepsAsserted worked worked_run (first_frame later)
outer_asserted later c h before stretch after s has by e i = outer_none c h s has by

inner_asserted : (later : List ℕ) → passes 0 (map (worked_run.node 1) (2 ∷ later)) ≤ 2 → KeepsAsserted worked worked_run (callee_frame later)
inner_asserted later most c h before stretch after s has by e i = inner_keeps later most c h before stretch after s has e

stub_asserted : (later : List ℕ) → KeepsAsserted worked worked_run (stub_frame later)
stub_asserted later c h before stretch after s has by e i = cc

abbrev Asserted : ℕ → Type 0
Asserted p = All (KeepsAsserted worked worked_run) (worked_stack p)

one_asserted : (a : Activation) → KeepsAsserted worked worked_run a → All (KeepsAsserted worked worked_run) (a ∷ [])
one_asserted a k = All-cons (KeepsAsserted worked worked_run) a [] k (All-nil (KeepsAsserted worked worked_run))

two_asserted : (a b : Activation) → KeepsAsserted worked worked_run a → KeepsAsserted worked worked_run b → All (KeepsAsserted worked worked_run) (a ∷ b ∷ [])
two_asserted a b k l = All-cons (KeepsAsserted worked worked_run) a (b ∷ []) k (one_asserted b l)

all_asserted : AllBelow Asserted 11
all_asserted = (
  (
    (
      (
        (
          (
            (
              (
                (
                  (
                    (
                      tt,
                      one_asserted (first_frame []) (outer_asserted []),
                    ),
                    one_asserted (first_frame (1 ∷ [])) (outer_asserted (1 ∷ [])),
                  ),
                  two_asserted (callee_frame []) (first_frame (1 ∷ [])) (inner_asserted [] (omega arith)) (outer_asserted (1 ∷ [])),
                ),
                two_asserted (callee_frame (3 ∷ [])) (first_frame (1 ∷ [])) (inner_asserted (3 ∷ []) (omega arith)) (outer_asserted (1 ∷ [])),
              ),
              two_asserted (callee_frame (3 ∷ 4 ∷ [])) (first_frame (1 ∷ [])) (inner_asserted (3 ∷ 4 ∷ []) (omega arith)) (outer_asserted (1 ∷ [])),
            ),
            one_asserted (first_frame (1 ∷ 5 ∷ [])) (outer_asserted (1 ∷ 5 ∷ [])),
          ),
          one_asserted (first_frame (1 ∷ 5 ∷ 6 ∷ [])) (outer_asserted (1 ∷ 5 ∷ 6 ∷ [])),
        ),
        two_asserted (stub_frame []) (first_frame (1 ∷ 5 ∷ 6 ∷ [])) (stub_asserted []) (outer_asserted (1 ∷ 5 ∷ 6 ∷ [])),
      ),
      two_asserted (stub_frame (8 ∷ [])) (first_frame (1 ∷ 5 ∷ 6 ∷ [])) (stub_asserted (8 ∷ [])) (outer_asserted (1 ∷ 5 ∷ 6 ∷ [])),
    ),
    one_asserted (first_frame (1 ∷ 5 ∷ 6 ∷ 9 ∷ [])) (outer_asserted (1 ∷ 5 ∷ 6 ∷ 9 ∷ [])),
  ),
  All-nil (KeepsAsserted worked worked_run),
)

-- the steps within an activation
abbrev GoesAt : ℕ → Type 0
GoesAt p = (top : Activation) (rest : List Activation) (c : ℕ) → worked_run.move p ≡ Goes → worked_stack p ≡ top ∷ rest → top.standing ≡ In c
    → IsAlong (worked c) worked_run c p (suc p) × PaysEdge (worked c) worked_run c p

goes_outer : (p : ℕ) (t : Activation) (r : List Activation) → t.standing ≡ In 0 → worked_stack p ≡ t ∷ r
    → IsAlong outer worked_run 0 p (suc p) × PaysEdge outer worked_run 0 p → GoesAt p
goes_outer p t r s same h = λ top rest c m e i. at_top t r 0 (λ x. IsAlong (worked x) worked_run x p (suc p) × PaysEdge
    (worked x) worked_run x p) s h top rest c (sym same ∙ e) i

goes_inner : (p : ℕ) (t : Activation) (r : List Activation) → t.standing ≡ In 1 → worked_stack p ≡ t ∷ r
    → IsAlong inner worked_run 1 p (suc p) × PaysEdge inner worked_run 1 p → GoesAt p
goes_inner p t r s same h = λ top rest c m e i. at_top t r 1 (λ x. IsAlong (worked x) worked_run x p (suc p) × PaysEdge
    (worked x) worked_run x p) s h top rest c (sym same ∙ e) i

all_go : AllBelow GoesAt 10
all_go = (
  (
    (
      (
        (
          (
            (
              (
                (
                  (
                    tt,
                    goes_outer 0 (first_frame []) [] refl refl (outer_along 0 1 refl refl, omega arith),
                  ),
                  (λ top rest c m e i. cc),
                ),
                goes_inner 2 (callee_frame []) (first_frame (1 ∷ []) ∷ []) refl refl (inner_along 2 3 refl, omega arith),
              ),
              goes_inner 3 (callee_frame (3 ∷ [])) (first_frame (1 ∷ []) ∷ []) refl refl (inner_along 3 4 refl, omega arith),
            ),
            (λ top rest c m e i. cc),
          ),
          goes_outer 5 (first_frame (1 ∷ 5 ∷ [])) [] refl refl (outer_along 5 6 refl refl, omega arith),
        ),
        (λ top rest c m e i. cc),
      ),
      (λ top rest c m e i. absurd (no_context (stub_frame []) (first_frame (1 ∷ 5 ∷ 6 ∷ []) ∷ []) 5 refl top rest c e i)),
    ),
    (λ top rest c m e i. cc),
  ),
  (λ top rest c m e i. cc),
)

-- the calls
abbrev CallsAt : ℕ → Type 0
CallsAt p = (top : Activation) (rest : List Activation) (c : ℕ) → worked_run.move p ≡ Calls → worked_stack p ≡ top ∷ rest → top.standing ≡ In c
    → IsCall worked worked_run c p

inner_entered : (d : ℕ) → In 1 ≡ In d → IsEntered (worked d) worked_run d 2
inner_entered d e = let n : 1 ≡ d = cc in subst (λ (x : ℕ). IsEntered (worked x) worked_run x 2) n (record { entry = refl; owed = omega arith })

all_call : AllBelow CallsAt 10
all_call = (
  (
    (
      (
        (
          (
            (
              (
                (
                  (
                    tt,
                    (λ top rest c m e i. cc),
                  ),
                  (λ top rest c m e i. at_top (first_frame (1 ∷ [])) [] 0 (λ x. IsCall worked worked_run x 1) refl
                      (record { callee = In 1; leads = refl; enters = inner_entered; pays = omega arith }) top rest c e i),
                ),
                (λ top rest c m e i. cc),
              ),
              (λ top rest c m e i. cc),
            ),
            (λ top rest c m e i. cc),
          ),
          (λ top rest c m e i. cc),
        ),
        (λ top rest c m e i. at_top (first_frame (1 ∷ 5 ∷ 6 ∷ [])) [] 0 (λ x. IsCall worked worked_run x 6) refl
            (record { callee = Stub 5; leads = refl; enters = λ d e. cc; pays = omega arith }) top rest c e i),
      ),
      (λ top rest c m e i. cc),
    ),
    (λ top rest c m e i. cc),
  ),
  (λ top rest c m e i. cc),
)

-- the returns
abbrev ReturnsAt : ℕ → Type 0
ReturnsAt p = (popped : Activation) (rest : List Activation) (c : ℕ) → worked_run.move p ≡ Returns → worked_stack p ≡ popped ∷ rest → popped.standing ≡ In c
    → PaysNode (worked c) worked_run c p

all_return : AllBelow ReturnsAt 10
all_return = (
  (
    (
      (
        (
          (
            (
              (
                (
                  (
                    tt,
                    (λ popped rest c m e i. cc),
                  ),
                  (λ popped rest c m e i. cc),
                ),
                (λ popped rest c m e i. cc),
              ),
              (λ popped rest c m e i. cc),
            ),
            (λ popped rest c m e i. at_top (callee_frame (3 ∷ 4 ∷ [])) (first_frame (1 ∷ []) ∷ []) 1 (λ x. PaysNode (worked x) worked_run x 4) refl
                (omega arith) popped rest c e i),
          ),
          (λ popped rest c m e i. cc),
        ),
        (λ popped rest c m e i. cc),
      ),
      (λ popped rest c m e i. cc),
    ),
    (λ popped rest c m e i. absurd (no_context (stub_frame (8 ∷ [])) (first_frame (1 ∷ 5 ∷ 6 ∷ []) ∷ []) 5 refl popped rest c e i)),
  ),
  (λ popped rest c m e i. at_top (first_frame (1 ∷ 5 ∷ 6 ∷ 9 ∷ [])) [] 0 (λ x. PaysNode (worked x) worked_run x 9) refl (omega arith) popped rest c e i),
)

-- where the callers go on
abbrev GoesOn : ℕ → Activation → ℕ → Type 0
GoesOn p caller c = IsAlong (worked c) worked_run c (last_of caller) (suc p) × (worked_run.owed (suc p) ≤ (worked c).own.edge (worked_run.node c
    (last_of caller)) (worked_run.node c (suc p)))

abbrev GoesOnAt : ℕ → Type 0
GoesOnAt p = (popped caller : Activation) (rest : List Activation) (c : ℕ) → worked_run.move p ≡ Returns → worked_stack p ≡ popped ∷ caller ∷ rest
    → caller.standing ≡ In c → GoesOn p caller c

all_go_on : AllBelow GoesOnAt 10
all_go_on = (
  (
    (
      (
        (
          (
            (
              (
                (
                  (
                    tt,
                    (λ popped caller rest c m e i. cc),
                  ),
                  (λ popped caller rest c m e i. cc),
                ),
                (λ popped caller rest c m e i. cc),
              ),
              (λ popped caller rest c m e i. cc),
            ),
            (λ popped caller rest c m e i. at_caller (callee_frame (3 ∷ 4 ∷ [])) (first_frame (1 ∷ [])) [] 0 (GoesOn 4) refl (
              outer_along 1 5 refl refl,
              omega arith,
            ) popped caller rest c e i),
          ),
          (λ popped caller rest c m e i. cc),
        ),
        (λ popped caller rest c m e i. cc),
      ),
      (λ popped caller rest c m e i. cc),
    ),
    (λ popped caller rest c m e i. at_caller (stub_frame (8 ∷ [])) (first_frame (1 ∷ 5 ∷ 6 ∷ [])) [] 0 (GoesOn 8) refl (
      outer_along 6 9 refl refl,
      omega arith,
    ) popped caller rest c e i),
  ),
  (λ popped caller rest c m e i. cc),
)

-- the time that is asserted
abbrev StubAt : ℕ → Type 0
StubAt p = (popped : Activation) (rest : List Activation) (time : ℕ) → worked_run.move p ≡ Returns → worked_stack p ≡ popped ∷ rest
    → popped.standing ≡ Stub time
    → worked_run.cycles (suc p) ≤ worked_run.cycles popped.first + time

stub_at_eight : StubAt 8
stub_at_eight popped rest time m e i =
    let same : stub_frame (8 ∷ []) ≡ popped = first_is e in
    let stands : Stub 5 ≡ popped.standing = ap (λ (a : Activation). a.standing) same in
    let times : 5 ≡ time = cc in
    let first : worked_run.cycles 7 ≡ worked_run.cycles popped.first = ap (λ (a : Activation). worked_run.cycles a.first) same in
    omega (arith, first, times)

all_stubs : AllBelow StubAt 10
all_stubs = (
  (
    (
      (
        (
          (
            (
              (
                (
                  (
                    tt,
                    (λ popped rest time m e i. cc),
                  ),
                  (λ popped rest time m e i. cc),
                ),
                (λ popped rest time m e i. cc),
              ),
              (λ popped rest time m e i. cc),
            ),
            (λ popped rest time m e i. let same : In 1 ≡ popped.standing = ap (λ (a : Activation). a.standing) (first_is e) in cc),
          ),
          (λ popped rest time m e i. cc),
        ),
        (λ popped rest time m e i. cc),
      ),
      (λ popped rest time m e i. cc),
    ),
    stub_at_eight,
  ),
  (λ popped rest time m e i. let same : In 0 ≡ popped.standing = ap (λ (a : Activation). a.standing) (first_is e) in cc),
)

root_entered : (c : ℕ) → In 0 ≡ In c → IsEntered (worked c) worked_run c 0
root_entered c e = let n : 0 ≡ c = cc in subst (λ (x : ℕ). IsEntered (worked x) worked_run x 0) n (record { entry = refl; owed = omega arith })

worked_followed : AreFollowed worked worked_run (In 0) 10
worked_followed = record {
  enters = root_entered;
  within = λ p c top rest l e i. below Within 11 all_within p (omega arith) top rest c e i;
  asserted = λ p l. below Asserted 11 all_asserted p (omega arith);
  goes = λ p c top rest l m e i. below GoesAt 10 all_go p l top rest c m e i;
  calls = λ p c top rest l m e i. below CallsAt 10 all_call p l top rest c m e i;
  returns = λ p c popped rest l m e i. below ReturnsAt 10 all_return p l popped rest c m e i;
  goes_on = λ p c popped caller rest l m e i. below GoesOnAt 10 all_go_on p l popped caller rest c m e i;
  stubs = λ p c time popped caller rest l m e i s. below StubAt 10 all_stubs p l popped (caller ∷ rest) time m e s;
}

-- the contexts of the run are sound, and each of its steps keeps to them
pub worked_is_followed : WorkedRunIsFollowed
worked_is_followed = record { sound = worked_sound; followed = worked_followed }

-- its activations are on walks of their contexts
pub worked_walk : WorkedFramesWalk
worked_walk = record { stack = refl; walk = frames_on_walks worked worked_run (In 0) 10 worked_sound worked_followed }

-- inside the callee both activations are within their bounds
pub worked_spend : WorkedFramesSpend
worked_spend = frames_in_bounds worked worked_run (In 0) 10 worked_sound worked_followed 4 (omega arith)
    (All-cons (λ (a : Activation). is_stub a.standing ≡ false) (callee_frame (3 ∷ 4 ∷ [])) (first_frame (1 ∷ []) ∷ []) refl
    (All-cons (λ (a : Activation). is_stub a.standing ≡ false) (first_frame (1 ∷ [])) [] refl (All-nil (λ (a : Activation). is_stub a.standing ≡ false))))

-- once it has returned, the callee has spent exactly its bound
pub worked_callee : WorkedCalleeMeetsItsBound
worked_callee = record {
  within = popped_spend worked worked_run (In 0) 10 worked_sound worked_followed 4 (callee_frame (3 ∷ 4 ∷ [])) (first_frame (1 ∷ []) ∷ [])
      (omega arith) refl refl 1 6 refl refl;
  meets = refl;
}

-- the run up to its last place
up_to_nine : AreFollowed worked worked_run (In 0) 9
up_to_nine = record {
  enters = root_entered;
  within = λ p c top rest l e i. worked_followed.within p c top rest (omega arith) e i;
  asserted = λ p l. worked_followed.asserted p (omega arith);
  goes = λ p c top rest l m e i. worked_followed.goes p c top rest (omega arith) m e i;
  calls = λ p c top rest l m e i. worked_followed.calls p c top rest (omega arith) m e i;
  returns = λ p c popped rest l m e i. worked_followed.returns p c popped rest (omega arith) m e i;
  goes_on = λ p c popped caller rest l m e i. worked_followed.goes_on p c popped caller rest (omega arith) m e i;
  stubs = λ p c time popped caller rest l m e i s. worked_followed.stubs p c time popped caller rest (omega arith) m e i s;
}

-- behind its last step the root has spent exactly its bound
pub worked_root : WorkedRootMeetsItsBound
worked_root = record {
  within = λ cycles pays. last_spend worked worked_run (In 0) 9 worked_sound up_to_nine (first_frame
      (1 ∷ 5 ∷ 6 ∷ 9 ∷ [])) [] refl 0 cycles refl pays 0 21 refl refl;
  meets = refl;
}
