-- The order and the join of summaries, by their parts.
use Rattle.std.proofs.Common.{◌≡◌, ℕ, ◌||◌, ◌&&◌, Bool, true, false, refl, sym, ap, ◌∙◌, inl, inr, arith}
use Rattle.std.specs.Prelude.{not}
use Rattle.std.proofs.lemmas.Bool.{and_from, and_parts, cases_eq, false≢true, or_cases, or_left, or_right}
use Rattle.call_effects.proofs.MaskLemmas.{has-union, within_by, within_has, within_rises}
use Rattle.call_effects.specs.Mask.{has_cell, is_within, union}
use Rattle.call_effects.specs.Summary.{SummariesAreJoined, SummariesAreOrdered, is_at_most, joined}
use Rattle.call_effects.specs.declared.summary.Summary.{Summary}

-- whether the one follows from the other
abbrev pub implies : Bool → Bool → Bool
implies a b = not a || b

implies_same : (a : Bool) → implies a a ≡ true
implies_same true = refl
implies_same false = refl

implies_onward : (a b c : Bool) → implies a b ≡ true → implies b c ≡ true → implies a c ≡ true
implies_onward true true true one two = refl
implies_onward true true false one two = absurd (false≢true two)
implies_onward true false c one two = absurd (false≢true one)
implies_onward false b c one two = refl

implies_both : (a b : Bool) → implies a b ≡ true → implies b a ≡ true → a ≡ b
implies_both true true one two = refl
implies_both true false one two = absurd (false≢true one)
implies_both false true one two = absurd (false≢true two)
implies_both false false one two = refl

implies_first : (a b : Bool) → implies a (a || b) ≡ true
implies_first true b = refl
implies_first false b = refl

implies_second : (a b : Bool) → implies b (a || b) ≡ true
implies_second true true = refl
implies_second true false = refl
implies_second false true = refl
implies_second false false = refl

implies_least : (a b c : Bool) → implies a c ≡ true → implies b c ≡ true → implies (a || b) c ≡ true
implies_least true b c one two = one
implies_least false b c one two = two

-- sets of cells in order
pub within_same : (a : ℕ) → is_within a a ≡ true
within_same a = within_by a a (λ k has. has)

pub within_onward : (a b c : ℕ) → is_within a b ≡ true → is_within b c ≡ true → is_within a c ≡ true
within_onward a b c one two = within_by a c (λ k has. within_has b c two k (within_has a b one k has))

pub within_both : (a b : ℕ) → is_within a b ≡ true → is_within b a ≡ true → a ≡ b
within_both a b one two =
    elim (cases_eq a b) [
      | inl same ↦ same
      | inr apart ↦ absurd (let up = within_rises a b one apart in let down = within_rises b a two (λ e. apart (sym e)) in omega arith)
    ]

within_first : (a b : ℕ) → is_within a (union a b) ≡ true
within_first a b = within_by a (union a b) (λ k has. has-union a b k ∙ or_left (has_cell a k) (has_cell b k) has)

within_second : (a b : ℕ) → is_within b (union a b) ≡ true
within_second a b = within_by b (union a b) (λ k has. has-union a b k ∙ or_right (has_cell a k) (has_cell b k) has)

within_least : (a b c : ℕ) → is_within a c ≡ true → is_within b c ≡ true → is_within (union a b) c ≡ true
within_least a b c one two =
    within_by (union a b) c (λ k has.
    elim (or_cases (has_cell a k) (has_cell b k) (sym (has-union a b k) ∙ has)) [
      | inl left ↦ within_has a c one k left
      | inr right ↦ within_has b c two k right
    ])

-- the parts of the order
pub record IsUp (a b : Summary) : Type 0 where
  pub returns : implies a.returns b.returns ≡ true
  pub skips : implies a.skips b.skips ≡ true
  pub written : is_within a.written b.written ≡ true

-- an ordered summary is ordered part by part
pub up_parts : (a b : Summary) → is_at_most a b ≡ true → IsUp a b
up_parts a b up =
    let outer = and_parts (implies a.returns b.returns && implies a.skips b.skips) (is_within a.written b.written) up in
    let flags = and_parts (implies a.returns b.returns) (implies a.skips b.skips) outer.0 in
    record { returns = flags.0; skips = flags.1; written = outer.1 }

-- a summary that is ordered part by part is ordered
pub from_up : (a b : Summary) → IsUp a b → is_at_most a b ≡ true
from_up a b is =
    and_from (implies a.returns b.returns && implies a.skips b.skips) (is_within a.written b.written)
    (and_from (implies a.returns b.returns) (implies a.skips b.skips) is.returns is.skips) is.written

-- each summary is at most itself, the order goes on from one to the next, and two summaries that are at most each other
-- are the same
pub summaries_are_ordered : SummariesAreOrdered
summaries_are_ordered = record { same = same; onward = onward; both = both } where
  same : (a : Summary) → is_at_most a a ≡ true
  same a = from_up a a (record { returns = implies_same a.returns; skips = implies_same a.skips; written = within_same a.written })

  onward : (a b c : Summary) → is_at_most a b ≡ true → is_at_most b c ≡ true → is_at_most a c ≡ true
  onward a b c one two =
      let x = up_parts a b one in
      let y = up_parts b c two in
      from_up a c
      (record {
        returns = implies_onward a.returns b.returns c.returns x.returns y.returns;
        skips = implies_onward a.skips b.skips c.skips x.skips y.skips;
        written = within_onward a.written b.written c.written x.written y.written;
      })

  both : (a b : Summary) → is_at_most a b ≡ true → is_at_most b a ≡ true → a ≡ b
  both a b one two =
      let x = up_parts a b one in
      let y = up_parts b a two in
      let returns : a.returns ≡ b.returns = implies_both a.returns b.returns x.returns y.returns in
      let skips : a.skips ≡ b.skips = implies_both a.skips b.skips x.skips y.skips in
      let written : a.written ≡ b.written = within_both a.written b.written x.written y.written in
      λ i. record { returns = returns i; skips = skips i; written = written i }

-- what two summaries say together is the least that is at least both
pub summaries_are_joined : SummariesAreJoined
summaries_are_joined = record { first = first; second = second; least = least } where
  first : (a b : Summary) → is_at_most a (joined a b) ≡ true
  first a b =
      from_up a (joined a b)
      (record { returns = implies_first a.returns b.returns; skips = implies_first a.skips b.skips; written = within_first a.written b.written })

  second : (a b : Summary) → is_at_most b (joined a b) ≡ true
  second a b =
      from_up b (joined a b)
      (record { returns = implies_second a.returns b.returns; skips = implies_second a.skips b.skips; written = within_second a.written b.written })

  least : (a b c : Summary) → is_at_most a c ≡ true → is_at_most b c ≡ true → is_at_most (joined a b) c ≡ true
  least a b c one two =
      let x = up_parts a c one in
      let y = up_parts b c two in
      from_up (joined a b) c
      (record {
        returns = implies_least a.returns b.returns c.returns x.returns y.returns;
        skips = implies_least a.skips b.skips c.skips x.skips y.skips;
        written = within_least a.written b.written c.written x.written y.written;
      })
