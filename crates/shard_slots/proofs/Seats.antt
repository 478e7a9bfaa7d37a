-- What a seat is after each call: the slots that it has taken are the parts that it holds.
use Rattle.std.proofs.Common.{◌≡◌, ℕ, ◌<◌, List, [], ◌∷◌, sym, refl, ap, ◌∙◌, subst, arith, Option}
use mathlib.Core.Logic.{dite}
use native.Mathlib.Decide.{ℕ_discrete}
use Rattle.atomic_table.specs.Seated.{TableId}
use Rattle.atomic_table.specs.Table.{Me, rest}
use Rattle.shard_slots.specs.Hold.{times, hold, Holds, without}
use Rattle.shard_slots.specs.Shards.{ShardsId, count_of}
use Rattle.shard_slots.specs.Seat.{IsSeat, numbers}
use Rattle.shard_slots.specs.Play.{Reaches, Put}
use Rattle.shard_slots.specs.declared.hold.Hold.{Hold}
use Rattle.shard_slots.proofs.Counts.{same_here, same_else, times_without, none_stands}

none_numbered : {S : Type 0} (taken : List (ℕ × S)) → numbers taken ≡ [] → taken ≡ []
none_numbered [] e = refl
none_numbered (x ∷ xs) e = absurd (omega (arith, ap (times x.0) e, same_here x.0 x.0 refl))

-- a seat that holds nothing has taken no slot
pub bare_seat : {S : Type 0} (of : ShardsId) (me : Me S Hold) → IsSeat of me → me.0.held ≡ [] → me.1 ≡ []
bare_seat of me seat bare = none_numbered me.1 (none_stands (numbers me.1) (λ n. seat.slots n ∙ ap (times n) bare))

module _ {T : Type 0} (of : ShardsId) (n : ℕ) where
  pub took_seat : (me : Me (Option T) Hold) (x : Option T) → IsSeat of me → n < count_of of
      → IsSeat {S = Option T} of (hold me.0.weight (n ∷ me.0.held), (n, x) ∷ me.1)
  took_seat me x seat near = record {
    slots = λ k. omega (arith, seat.slots k);
    parts = λ k holds. dite (ℕ_discrete n k) (λ e. omega (arith, e, near)) (λ apart. seat.parts k (omega (arith, same_else n k apart, holds)));
    heavy = seat.heavy;
  }

  -- behind the load the value is written to the slot, and the exchange gives the slot back
  pub put_seat : (before reached : Me (Option T) Hold) → IsSeat of before → Holds before.0.held n → Reaches n before reached
      → IsSeat {S = Option T} of (hold reached.0.weight (without n reached.0.held), rest reached.1)
  put_seat before reached seat holds load =
      let held : reached.0.held ≡ before.0.held = ap (λ (v : Hold). v.held) load.view in
      let left : (k : ℕ) → times k (without n reached.0.held) ≡ times k (without n before.0.held) = λ k. ap (λ l. times k (without n l)) held in record {
        slots = λ k. omega (arith, ap (λ l. times k (numbers l)) load.last, load.slots k, seat.slots k, left k, times_without n k before.0.held holds);
        parts = λ k stands. seat.parts k (omega (arith, stands, left k, times_without n k before.0.held holds));
        heavy = omega (arith, seat.heavy, ap (λ (v : Hold). v.weight) load.view);
      }

-- a seat that is seen to hold a part does hold it
pub still_holds : (n : ℕ) (held other : List ℕ) → held ≡ other → Holds other n → Holds held n
still_holds n held other e holds = omega (arith, ap (times n) e, holds)

-- a seat of a table is one of the same table
pub moved : {S : Type 0} (z y : TableId) (me : Me S Hold) → z ≡ y → IsSeat z me → IsSeat y me
moved {S} z y me e seat = subst (λ x. IsSeat {S = S} x me) e seat

-- the slot that was taken last
pub last_is : {S : Type 0} (n : ℕ) (x : S) (v : Hold) (l : List (ℕ × S)) (me : Me S Hold) → me ≡ (v, (n, x) ∷ l) → me.1 ≡ (n, x) ∷ rest me.1
last_is n x v l me e = subst (λ m. m.1 ≡ (n, x) ∷ rest m.1) (sym e) refl

-- the exchange gives back the slot that was written
pub puts_back : {T : Type 0} (n : ℕ) (x : Option T) (load exchange swap : Me (Option T) Hold) → exchange ≡ (load.0, (n, x) ∷ rest load.1) → Put n exchange swap
    → swap ≡ (hold load.0.weight (without n load.0.held), rest load.1)
puts_back n x load exchange swap wrote put = put ∙ ap (λ m. (hold m.0.weight (without n m.0.held), rest m.1)) wrote

-- neither the load nor the write changes what the seat holds
pub held_stays : {S : Type 0} (before load exchange : Me S Hold) (taken : List (ℕ × S)) → exchange ≡ (load.0, taken) → load.0 ≡ before.0
    → exchange.0.held ≡ before.0.held
held_stays before load exchange taken wrote stays = ap (λ m. m.0.held) wrote ∙ ap (λ (v : Hold). v.held) stays
