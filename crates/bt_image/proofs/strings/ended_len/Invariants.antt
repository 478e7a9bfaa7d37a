use Rattle.std.proofs.Common.{◌≡◌, ◌≢◌, ◌≤◌, ◌<◌, ◌+◌, ℕ, get_or}
use Rattle.bt_image.proofs.strings.ended_len.Given as goal

-- the last zero byte so far stands before this place, and none behind it
abbrev pub invariant-loop-i : goal.invariant-loop-i
invariant-loop-i l = record {
  low : l.ended ≤ l.i;
  zero_before : (k : ℕ) → l.ended ≡ k + 1 → get_or l.strings k 0 ≡ 0;
  none_behind : (k : ℕ) → l.ended ≤ k → k < l.i → get_or l.strings k 0 ≢ 0;
}
