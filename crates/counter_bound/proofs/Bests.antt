-- The best bound of the cells gone through.
use Rattle.std.proofs.Common.{◌≡◌, ◌+◌, ◌<◌, ◌≤◌, inl, inr, ℕ, Bool, cond, Option, Some, None, List, sym, ap, subst, ◌∙◌, arith}
use Rattle.std.proofs.lemmas.Bool.{cases_lt, ltb-true, ltb-false}
use Rattle.std.specs.Prelude.{nat_lt}
use Rattle.abs_state.specs.State.{State, cell_at}
use Rattle.abs_state.specs.declared.head_bound.HeadBound.{HeadBound}
use Rattle.counter_bound.specs.Best.{better_of}
use Rattle.counter_bound.specs.Counts.{CellCounts, IsCellBound, IsNoMore, IsBest, IsBestOrNone, signed, passes_by}
use Rattle.counter_bound.specs.declared.change.Change.{Change}
use Rattle.counter_bound.proofs.Counters.{one_count}
use Rattle.graph_laws.specs.Loops.{Loops}
use Rattle.graph_laws.proofs.Stretches.{tells}
use Rattle.turn_sums.specs.declared.step.TurnStep.{TurnStep}
use Rattle.value_lattice.specs.Ends.{low_end, high_end}
use Rattle.value_lattice.specs.Order.{number_at}

module _ (edge : ℕ → ℕ → Bool) (loops : Loops) (head : ℕ) (changes : List Change) (state : State) where
  -- a bound with the numbers of a cell that counts
  pub bound_is : (cell : ℕ) (by : TurnStep) (bound : HeadBound) → CellCounts edge loops head changes cell by → bound.cell ≡ cell → bound.step ≡ signed by
      → bound.lo ≡ number_at (low_end (cell_at state cell)) → bound.hi ≡ number_at (high_end (cell_at state cell)) → bound.passes ≡ passes_by state cell by
      → IsCellBound edge loops head changes state bound
  bound_is cell by bound counts e step lo hi passes = record {
    by = by;
    counts = subst (λ (x : ℕ). CellCounts edge loops head changes x by) (sym e) counts;
    step = step;
    lo = lo ∙ ap (λ (x : ℕ). number_at (low_end (cell_at state x))) (sym e);
    hi = hi ∙ ap (λ (x : ℕ). number_at (high_end (cell_at state x))) (sym e);
    passes = passes ∙ ap (λ (x : ℕ). passes_by state x by) (sym e);
  }

  -- the passes of a cell are those of its bound
  passes_same : (bound : HeadBound) (is : IsCellBound edge loops head changes state bound) (cell : ℕ) (step : TurnStep) → cell ≡ bound.cell
      → CellCounts edge loops head changes cell step → passes_by state cell step ≡ bound.passes
  passes_same bound is cell step e counts =
      let here : CellCounts edge loops head changes bound.cell step = subst (λ (x : ℕ). CellCounts edge loops head changes x step) e counts in
      let s : step ≡ is.by = one_count edge loops head changes bound.cell step is.by here is.counts in
      ap (λ (x : ℕ). passes_by state x step) e ∙ (ap (passes_by state bound.cell) s ∙ sym is.passes)

  first_best : (cell : ℕ) (bound : HeadBound) → bound.cell ≡ cell → IsCellBound edge loops head changes state bound
      → IsBestOrNone edge loops head changes state cell None → IsBest edge loops head changes state (cell + 1) bound
  first_best cell bound e is so = record {
    low = omega (arith, e);
    is = is;
    best = λ c step l counts. elim (cases_lt c cell) [
      | inl a ↦ absurd (so c step a counts)
      | inr a ↦
          let s : c ≡ bound.cell = omega (arith, l, a, e) in
          inr (sym (passes_same bound is c step s counts), (let m : bound.cell ≤ c = omega (arith, s) in m))
    ];
  }

  new_best : (cell : ℕ) (old bound : HeadBound) → bound.cell ≡ cell → IsCellBound edge loops head changes state bound → bound.passes < old.passes
      → IsBest edge loops head changes state cell old → IsBest edge loops head changes state (cell + 1) bound
  new_best cell old bound e is less so = record {
    low = omega (arith, e);
    is = is;
    best = λ c step l counts. elim (cases_lt c cell) [
      | inl a ↦ inl (fewer (passes_by state c step) c (so.best c step a counts))
      | inr a ↦
          let s : c ≡ bound.cell = omega (arith, l, a, e) in
          inr (sym (passes_same bound is c step s counts), (let m : bound.cell ≤ c = omega (arith, s) in m))
    ];
  }
    where
      fewer : (p c : ℕ) → IsNoMore old p c → bound.passes < p
      fewer p c (inl a) = omega (arith, a, less)
      fewer p c (inr a) = omega (arith, a.0, less)

  old_best : (cell : ℕ) (old bound : HeadBound) → bound.cell ≡ cell → IsCellBound edge loops head changes state bound → old.passes ≤ bound.passes
      → IsBest edge loops head changes state cell old → IsBest edge loops head changes state (cell + 1) old
  old_best cell old bound e is more so = record {
    low = (let l : old.cell < cell = so.low in omega (arith, l));
    is = so.is;
    best = λ c step l counts. elim (cases_lt c cell) [
      | inl a ↦ so.best c step a counts
      | inr a ↦
          let s : c ≡ bound.cell = omega (arith, l, a, e) in
          let p : passes_by state c step ≡ bound.passes = passes_same bound is c step s counts in
          no_more (passes_by state c step) c (let x : old.passes ≤ passes_by state c step = omega (arith, p, more) in x) (let x : old.cell ≤ c = omega (arith, s, e, so.low) in x)
    ];
  }
    where
      no_more : (p c : ℕ) → old.passes ≤ p → old.cell ≤ c → IsNoMore old p c
      no_more p c a b = elim (cases_lt old.passes p) [ inl l ↦ inl l | inr l ↦ inr ((let x : old.passes ≡ p = omega (arith, a, l) in x), b) ]

  -- a cell more that counts
  pub best_with : (cell : ℕ) (best : Option HeadBound) (bound : HeadBound) → bound.cell ≡ cell → IsCellBound edge loops head changes state bound
      → IsBestOrNone edge loops head changes state cell best
      → IsBestOrNone edge loops head changes state (cell + 1) (better_of best bound)
  best_with cell None bound e is so = first_best cell bound e is so
  best_with cell (Some old) bound e is so = elim (tells (nat_lt bound.passes old.passes)) [
    | inl t ↦ subst (λ (b : Bool). IsBestOrNone edge loops head changes state (cell + 1) (cond b (Some bound) (Some old))) (sym t)
        (new_best cell old bound e is (ltb-true bound.passes old.passes t) so)
    | inr t ↦ subst (λ (b : Bool). IsBestOrNone edge loops head changes state (cell + 1) (cond b (Some bound) (Some old))) (sym t)
        (old_best cell old bound e is (ltb-false bound.passes old.passes t) so)
  ]
