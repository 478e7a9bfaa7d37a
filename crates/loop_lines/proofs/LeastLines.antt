-- The least line of a loop whose address isn't among some.
use Rattle.std.proofs.Common.{◌≡◌, ℕ, ◌+◌, ◌<◌, ◌≤◌, Bool, true, false, cond, List, [], length, get_or, take, Contains, Option, Some, None, nat_lt, if◌then◌else◌, inl, inr, refl, ap, subst, ◌∙◌, arith}
use Rattle.std.proofs.lemmas.Bool.Decides.{nat_tests}
use Rattle.assert_bind.specs.declared.body.LoopLine.{LoopLine}
use Rattle.loop_lines.proofs.Lists.{in_more, last_more, none_in, of_more}
use Rattle.loop_lines.specs.Lines.{IsFirstMissing, IsFirstMissingOrNone, IsMissing, least_with}

-- of no loops all addresses are there
pub none_missing : (addresses : List ℕ) → IsFirstMissingOrNone [] addresses None
none_missing addresses = λ one has. absurd (none_in one has)

-- the lesser of two is at most the first
least_below : (o l : ℕ) → (if nat_lt o l then o else l) ≤ o
least_below o l = by (nat_lt o l) refl where
  by : (b : Bool) → nat_lt o l ≡ b → (cond b o l) ≤ o
  by true is = omega arith
  by false is = grind (arith, nat_tests)

-- and at most the second
least_under : (o l : ℕ) → (if nat_lt o l then o else l) ≤ l
least_under o l = by (nat_lt o l) refl where
  by : (b : Bool) → nat_lt o l ≡ b → (cond b o l) ≤ l
  by true is = grind (arith, nat_tests)
  by false is = omega arith

module _ (lines : List LoopLine) (i : ℕ) (d : LoopLine) (addresses : List ℕ) (low : i < length lines) where
  abbrev one : LoopLine
  one = get_or lines i d

  -- a line of before is one of now
  later : (line : ℕ) → IsMissing (take i lines) addresses line → IsMissing (take (i + 1) lines) addresses line
  later line is = record { one = is.one; among = in_more lines i d is.one low is.among; at = is.at; missing = is.missing }

  -- a line of one more is a line of before, or the last
  either : (P : Type 0) (line : ℕ) → IsMissing (take (i + 1) lines) addresses line → (IsMissing (take i lines) addresses line → P)
      → (one.line ≡ line → (Contains addresses one.pc → ⊥) → P) → P
  either P line is before last = elim (of_more lines i d is.one low is.among) [
    | inl front ↦ before (record { one = is.one; among = front; at = is.at; missing = is.missing })
    | inr end ↦ last (ap (λ (l : LoopLine). l.line) end ∙ is.at) (λ has. is.missing (subst (λ (l : LoopLine). Contains addresses l.pc) end has))
  ]

  -- the next loop's address is there
  pub next_there : (least : Option ℕ) → Contains addresses one.pc → IsFirstMissingOrNone (take i lines) addresses least
      → IsFirstMissingOrNone (take (i + 1) lines) addresses least
  next_there None there before = λ other has. elim (of_more lines i d other low has) [
    | inl front ↦ before other front
    | inr end ↦ subst (λ (l : LoopLine). Contains addresses l.pc) end there
  ]
  next_there (Some line) there before = record {
    is = later line before.is;
    least = λ other is. either (line ≤ other) other is (before.least other) (λ at missing. absurd (missing there));
  }

  -- the next loop is missing
  here : (Contains addresses one.pc → ⊥) → IsMissing (take (i + 1) lines) addresses one.line
  here missing = record { one = one; among = last_more lines i d low; at = refl; missing = missing }

  -- it isn't
  pub next_missing : (least : Option ℕ) → (Contains addresses one.pc → ⊥) → IsFirstMissingOrNone (take i lines) addresses least
      → IsFirstMissing (take (i + 1) lines) addresses (least_with least one.line)
  next_missing None missing before = record {
    is = here missing;
    least = λ other is. either (one.line ≤ other) other is (λ front. absurd (front.missing (before front.one front.among))) (λ at away. omega (arith, at));
  }
  next_missing (Some line) missing before = record {
    is = by (nat_lt line one.line);
    least = λ other is.
        either (least_with (Some line) one.line ≤ other) other is
        (λ front. let up = before.least other front in let down = least_below line one.line in omega (arith, up, down))
        (λ at away. let down = least_under line one.line in omega (arith, at, down));
  }
    where
      by : (b : Bool) → IsMissing (take (i + 1) lines) addresses (cond b line one.line)
      by true = later line before.is
      by false = here missing
