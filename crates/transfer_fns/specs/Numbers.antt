-- Thresholds as a fact of which there is one proof.
use Rattle.std.specs.Prelude.{◌≡◌, ℕ, ◌^◌, ◌<◌, true, eqb, List, All}
use Rattle.std.specs.List.Sorted.{IsStrictlyIncreasing}
use Rattle.std.specs.Set.{is_member}

-- different places, rising, the first and the last of all among them
pub record AreNumbers (t : List ℕ) : Type 0 where
  pub rising : IsStrictlyIncreasing t
  pub places : All (λ k. k < 2 ^ 32) t
  pub least : is_member eqb t 0 ≡ true
  pub greatest : is_member eqb t 4294967295 ≡ true
