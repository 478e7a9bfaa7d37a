use Rattle.std.proofs.Common.{◌≡◌, ◌≤◌, ℕ, Some, length, map, take}
use Rattle.std.specs.Prelude.{slice_get}
use Rattle.context_order.proofs.taking.taken.Given as goal

-- the first answers are taken, and the other entries are as they were
abbrev pub invariant-loop-place : goal.invariant-loop-place
invariant-loop-place l = record {
  size : length l.table.items ≡ length l.initial.table.items;
  rest : (k : ℕ) → l.place ≤ k → slice_get l.table.items k ≡ slice_get l.initial.table.items k;
  taken : map Some l.answers.items ≡ take l.place l.initial.table.items;
}
