-- Steps of turns are short: a turn has the sum of one that passes each node once.
use Rattle.std.proofs.Common.{◌≡◌, ◌+◌, ◌*◌, ◌^◌, ◌<◌, ◌≤◌, ℕ, Bool, true, List, [], ◌∷◌, length, arith}
use Rattle.counter_bound.specs.Best.{IsShortStep}
use Rattle.graph_laws.specs.Counter.{Changes}
use Rattle.graph_laws.specs.Walk.{end_of, total}
use Rattle.graph_laws.proofs.Walks.{walk_front}
use Rattle.turn_sums.specs.Search.{sum_before, AreBalanced, all_nodes}
use Rattle.turn_sums.specs.Step.{IsStep}
use Rattle.turn_sums.specs.declared.step.TurnStep.{TurnStep}
use Rattle.turn_sums.specs.declared.step.TurnStep.TheVariants.{Rises, Falls}
use Rattle.turn_sums.proofs.Paths.{total_is_before, IsShort, short_path}

most_up : (f : ℕ → ℕ) → ((n : ℕ) → f n ≤ 2147483647) → (n : ℕ) (rest : List ℕ) → sum_before f n rest ≤ length rest * 2147483647
most_up f below n [] = omega arith
most_up f below n (m ∷ rest) =
    let e : sum_before f m rest ≤ length rest * 2147483647 = most_up f below m rest in
    let l : f n ≤ 2147483647 = below n in omega (arith, e, l)

most_down : (f : ℕ → ℕ) → ((n : ℕ) → f n ≤ 2147483648) → (n : ℕ) (rest : List ℕ) → sum_before f n rest ≤ length rest * 2147483648
most_down f below n [] = omega arith
most_down f below n (m ∷ rest) =
    let e : sum_before f m rest ≤ length rest * 2147483648 = most_down f below m rest in
    let l : f n ≤ 2147483648 = below n in omega (arith, e, l)

rise_fits : (by ups downs up down short_up short_down size count total_up total_down : ℕ) → total_down + by ≡ total_up → total_up ≡ ups + up → total_down ≡ downs + down
    → ups + short_down ≡ short_up + downs → short_up ≤ size * 2147483647 → up ≤ 2147483647 → size ≤ count → count < 4294967296 → by < 2 ^ 63
rise_fits by ups downs up down short_up short_down size count total_up total_down a b c d e f g h = omega (arith, a, b, c, d, e, f, g, h)

fall_fits : (by ups downs up down short_up short_down size count total_up total_down : ℕ) → total_up + by ≡ total_down → total_up ≡ ups + up → total_down ≡ downs + down
    → ups + short_down ≡ short_up + downs → short_down ≤ size * 2147483648 → down ≤ 2147483648 → size ≤ count → count < 4294967296 → by ≤ 2 ^ 63
fall_fits by ups downs up down short_up short_down size count total_up total_down a b c d e f g h = omega (arith, a, b, c, d, e, f, g, h)

module _ (edge : ℕ → ℕ → Bool) (head : ℕ) (changes : Changes) (count : ℕ) (below : (n m : ℕ) → edge n m ≡ true → m < count)
    (balanced : AreBalanced edge head changes) (few : count < 4294967296) (ups : (n : ℕ) → changes.up n ≤ 2147483647)
    (downs : (n : ℕ) → changes.down n ≤ 2147483648) where
  pub short_step : (step : TurnStep) → IsStep edge all_nodes head changes step → IsShortStep step
  short_step (Rises by) s =
      let p : IsShort edge head changes count s.between =
      short_path edge head changes count below balanced s.between (walk_front edge head s.between (head ∷ []) s.turn.walk) s.turn.once in (
        s.one,
        rise_fits by (sum_before changes.up head s.between) (sum_before changes.down head s.between) (changes.up (end_of head s.between)) (changes.down (end_of head s.between))
            (sum_before changes.up head p.path) (sum_before changes.down head p.path) (length p.path) count (total changes.up (head ∷ s.between)) (total changes.down (head ∷ s.between))
            s.is (total_is_before changes.up head s.between) (total_is_before changes.down head s.between) p.same (most_up changes.up ups head p.path)
            (ups (end_of head s.between)) p.short few,
      )
  short_step (Falls by) s =
      let p : IsShort edge head changes count s.between =
      short_path edge head changes count below balanced s.between (walk_front edge head s.between (head ∷ []) s.turn.walk) s.turn.once in (
        s.one,
        fall_fits by (sum_before changes.up head s.between) (sum_before changes.down head s.between) (changes.up (end_of head s.between)) (changes.down (end_of head s.between))
            (sum_before changes.up head p.path) (sum_before changes.down head p.path) (length p.path) count (total changes.up (head ∷ s.between)) (total changes.down (head ∷ s.between))
            s.is (total_is_before changes.up head s.between) (total_is_before changes.down head s.between) p.same (most_down changes.down downs head p.path)
            (downs (end_of head s.between)) p.short few,
      )
