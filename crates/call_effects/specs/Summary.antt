-- What a subprogram may do to its caller.
use Rattle.std.specs.Prelude.{◌≡◌, ℕ, Bool, true, false, ◌&&◌, ◌||◌, not}
use Rattle.call_effects.specs.Mask.{union, is_within}
use Rattle.call_effects.specs.declared.summary.Summary.{Summary}

-- what two summaries say together
abbrev pub joined : Summary → Summary → Summary
joined a b = record { returns = a.returns || b.returns; skips = a.skips || b.skips; written = union a.written b.written }

-- whether each truth value that is true is true of the other, and each cell is one of the other's
abbrev pub is_at_most : Summary → Summary → Bool
is_at_most a b = (not a.returns || b.returns) && (not a.skips || b.skips) && is_within a.written b.written

-- what a stub may do: it returns, and may write cells 1 to 15 and 32 to 47
abbrev pub effects_of_stub : Summary
effects_of_stub = record { returns = true; skips = false; written = 281470681808894 }

-- the order of summaries is one
pub record SummariesAreOrdered : Type 0 where
  pub same : (a : Summary) → is_at_most a a ≡ true
  pub onward : (a b c : Summary) → is_at_most a b ≡ true → is_at_most b c ≡ true → is_at_most a c ≡ true
  pub both : (a b : Summary) → is_at_most a b ≡ true → is_at_most b a ≡ true → a ≡ b

-- what two summaries say together is the least that is at least both
pub record SummariesAreJoined : Type 0 where
  pub first : (a b : Summary) → is_at_most a (joined a b) ≡ true
  pub second : (a b : Summary) → is_at_most b (joined a b) ≡ true
  pub least : (a b c : Summary) → is_at_most a c ≡ true → is_at_most b c ≡ true → is_at_most (joined a b) c ≡ true
