-- What the rule of a table of parts means.
use Rattle.std.proofs.Common.{◌≡◌, ◌≢◌, ℕ, ◌<◌, ◌≤◌, [], length, get_or, sym, refl, ap, ⊎_elim, arith}
use mathlib.Core.Logic.{dite}
use mathlib.Core.Option.{some}
use native.Mathlib.Decide.{ℕ_discrete}
use lib.ListN.{get_elem?}
use Rattle.atomic_table.proofs.Lists.{at_set}
use Rattle.shard_slots.specs.Hold.{times, hold, Lacks}
use Rattle.shard_slots.specs.Table.{Table, IsHome, IsOut, IsKept, holders}
use Rattle.shard_slots.specs.Step.{IsClosing}
use Rattle.shard_slots.specs.Law.{IsHolder, IsIn}
use Rattle.shard_slots.specs.declared.hold.Hold.{Hold}
use Rattle.shard_slots.proofs.Counts.{times_contains, contains_times, sum_set, term_le, terms_le, some_term, no_terms}
use Rattle.shard_slots.proofs.Keeps.{weighs}

module _ {T : Type 0} where
  -- a part whose word is 1 is home, one whose word isn't is out
  pub is_home : (t : Table T) (n : ℕ) → IsKept t → n < length t.homes → 1 ≤ get_or t.words n 0 → IsHome t n
  is_home t n kept near one = ⊎_elim (λ home. home) (λ (out : IsOut t n). absurd (omega (arith, out.word, one))) (kept.parts n near)

  -- a part whose word isn't 1 is out
  pub is_out : (t : Table T) (n : ℕ) → IsKept t → n < length t.homes → get_or t.words n 0 ≢ 1 → IsOut t n
  is_out t n kept near other = ⊎_elim (λ (home : IsHome t n). absurd (other home.word)) (λ out. out) (kept.parts n near)

  -- a seat that has all the weight is the only one that holds anything
  pub only_holder : (t : Table T) (n id : ℕ) (seat : Hold) → IsKept t → get_elem? t.views id ≡ some seat → 128 ≤ seat.weight
      → holders n t.views ≡ times n seat.held
  only_holder t n id seat kept at all = omega (
    arith,
    sum_set (λ (s : Hold). times n s.held) t.views id seat (hold 0 []) at,
    no_terms (λ (s : Hold). times n s.held) _ (λ i other is. ⊎_elim (λ (x : (i ≡ id) × (hold 0 [] ≡ other)). sym (ap (λ (s : Hold). times n s.held) x.1))
        (λ (x : (i ≢ id) × (get_elem? t.views i ≡ some other)). ap (times n)
        (kept.light i other x.1 (omega (arith, terms_le (λ (s : Hold). s.weight) t.views id i seat other x.0 at x.1, all, kept.weights))))
        (at_set t.views id i (hold 0 []) other is)),
  )

  -- a seat with all the weight finds each part that it doesn't hold
  pub finds_all : (t : Table T) (n id : ℕ) (seat : Hold) → IsKept t → get_elem? t.views id ≡ some seat → seat.weight ≡ 128 → n < length t.homes
      → Lacks seat.held n → get_or t.words n 0 ≡ 1
  finds_all t n id seat kept at all near lacks = ⊎_elim (λ (home : IsHome t n). home.word)
      (λ (out : IsOut t n). absurd (omega (arith, out.held_once, only_holder t n id seat kept at (omega arith), lacks))) (kept.parts n near)

  -- at the closing each part is in its slot
  pub closes : (t : Table T) (n id : ℕ) → IsKept t → IsClosing id t → n < length t.homes → IsIn t n
  closes t n id kept closing near = let home = is_home t n kept near (omega (arith, finds_all t n id (hold 128 []) kept closing.here refl near refl)) in
      record { part = home.part; slot = home.slot }

  -- the word of a part is 0 or 1
  pub words_are_bits : (t : Table T) (n : ℕ) → IsKept t → n < length t.homes → get_or t.words n 0 ≤ 1
  words_are_bits t n kept near = ⊎_elim (λ (home : IsHome t n). omega (arith, home.word)) (λ (out : IsOut t n). omega (arith, out.word)) (kept.parts n near)

  holds_once : (t : Table T) (n id : ℕ) (holder : IsHolder t n id) → 1 ≤ times n holder.seat.held
  holds_once t n id holder = contains_times n holder.seat.held holder.held

  -- a part that is home has no holder
  pub unheld : (t : Table T) (n id : ℕ) → IsKept t → n < length t.homes → get_or t.words n 0 ≡ 1 → ¬ IsHolder t n id
  unheld t n id kept near one holder = let home = is_home t n kept near (omega arith) in
      absurd (omega (arith, home.unheld, holds_once t n id holder, term_le (λ (s : Hold). times n s.held) t.views id holder.seat holder.here))

  -- a part that is out has a holder
  pub has_holder : (t : Table T) (n : ℕ) → IsKept t → n < length t.homes → get_or t.words n 0 ≡ 0 → (id : ℕ) × IsHolder t n id
  has_holder t n kept near zero_word = let out = is_out t n kept near (λ e. omega arith) in
      let found = some_term (λ (s : Hold). times n s.held) t.views (omega (arith, out.held_once)) in
      (found.0, record { seat = found.1; here = found.2; held = times_contains n found.1.held found.3 })

  -- a part has at most one holder
  pub one_holder : (t : Table T) (n id other : ℕ) → IsKept t → n < length t.homes → IsHolder t n id → IsHolder t n other → id ≡ other
  one_holder t n id other kept near a b = dite (ℕ_discrete id other) (λ e. e)
      (λ apart. absurd (omega (
        arith,
        words_are_bits t n kept near,
        terms_le (λ (s : Hold). times n s.held) t.views other id b.seat a.seat apart b.here a.here,
        holds_once t n id a,
        holds_once t n other b,
        ⊎_elim {C = holders n t.views ≤ 1} (λ (home : IsHome t n). omega (arith, home.unheld)) (λ (out : IsOut t n). omega (arith, out.held_once))
            (kept.parts n near),
      )))

  -- a seat that holds a part has weight
  pub holders_weigh : (t : Table T) (n id : ℕ) → IsKept t → (holder : IsHolder t n id) → 1 ≤ holder.seat.weight
  holders_weigh t n id kept holder = weighs t id n holder.seat kept holder.here (holds_once t n id holder)
