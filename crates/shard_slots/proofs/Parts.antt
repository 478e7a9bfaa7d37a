-- Parts that come out of the slots of a table, one after the other.
use Rattle.std.proofs.Common.{◌≡◌, ℕ, zero, suc, ◌+◌, ◌<◌, ◌≤◌, Bool, true, false, List, [], ◌∷◌, ◌++◌, map, length, take, set, get_or, sym, refl, ap}
use Rattle.std.proofs.Common.{◌∙◌, subst, arith, get_or-set_same, get_or-set_other, Option, Some, None}
use mathlib.Core.Logic.{dite}
use mathlib.Core.Option.{some, some-injective, some-ne-none}
use native.Mathlib.Decide.{ℕ_discrete}
use lib.ListN.{get_elem?}
use Rattle.atomic_table.specs.Table.{Final, Seen}
use Rattle.shard_slots.specs.Hold.{hold}
use Rattle.shard_slots.specs.Part.{HaveParts}
use Rattle.shard_slots.specs.Table.{Table, IsKept}
use Rattle.shard_slots.specs.declared.hold.Hold.{Hold}
use Rattle.shard_slots.proofs.Means.{closes}

module _ {A : Type 0} where
  take_next : (l : List A) (n : ℕ) (a : A) → get_elem? l n ≡ some a → take (suc n) l ≡ take n l ++ a ∷ []
  take_next [] n a e = absurd (some-ne-none a (sym e))
  take_next (x ∷ xs) zero a e = ap (λ (y : A). y ∷ []) (some-injective x a e)
  take_next (x ∷ xs) (suc n) a e = ap (λ ys. x ∷ ys) (take_next xs n a e)

module _ {T : Type 0} where
  map_push : (parts : List T) (part : T) → map {B = Option T} Some (parts ++ part ∷ []) ≡ map Some parts ++ Some part ∷ []
  map_push [] part = refl
  map_push (x ∷ xs) part = ap (λ ys. Some x ∷ ys) (map_push xs part)

  -- one more part has come out
  pub one_more : (slots items : List (Option T)) (n : ℕ) (parts after : List T) (part : T) → slots ≡ items → get_elem? slots n ≡ some (Some part)
      → map Some parts ≡ take n items → after ≡ parts ++ part ∷ []
      → map Some after ≡ take (n + 1) items
  one_more slots items n parts after part same is so_far pushed = let e : n + 1 ≡ suc n = omega arith in
      ap (map Some) pushed ∙ map_push parts part ∙ ap (λ l. l ++ Some part ∷ []) so_far
      ∙ sym (take_next items n (Some part) (subst (λ l. get_elem? l n ≡ some (Some part)) same is)) ∙ ap (λ k. take k items) (sym e)

  -- no slot has no part
  pub no_part : (slots items : List (Option T)) (n : ℕ) → HaveParts items → slots ≡ items → n < length items → get_elem? slots n ≡ some None → ⊥
  no_part slots items n have same near is = let part = have n near in
      let e = sym is ∙ ap (λ l. get_elem? l n) same ∙ part.1 in cc

  -- what a table gives at its closing has a part in each slot
  pub closed_has_parts : (id : ℕ) (seat : Hold) (words : List ℕ) (slots : List (Option T)) → seat.held ≡ [] → seat.weight ≡ 128
      → Final (Seen IsKept id seat) words slots → HaveParts slots
  closed_has_parts id seat words slots bare all final n near =
      let t : Table T = final.0 in
      let here : get_elem? t.views id ≡ some (hold 128 []) = final.1.1 ∙ ap some (λ k. hold (all k) (bare k)) in
      let home = closes t n id final.1.0 record { here = here } (omega (arith, final.3, near)) in
      (home.part, final.4 n (Some home.part) home.slot)

-- a later slot stays full
pub set_full : (filled : List Bool) (n k : ℕ) → n + 1 ≤ k → get_or filled k false ≡ true → get_or (set filled n false) k false ≡ true
set_full filled n k later full = get_or-set_other filled n k false false (λ e. omega arith) ∙ full

-- the slots up to one are empty once that is
pub set_empty : (filled : List Bool) (n k : ℕ) → n < length filled → k < n + 1 → (k < n → get_or filled k false ≡ false)
    → get_or (set filled n false) k false ≡ false
set_empty filled n k within near empty =
    dite (ℕ_discrete k n) (λ e. ap (λ (j : ℕ). get_or (set filled n false) j false) e ∙ get_or-set_same filled n false false within)
    (λ apart. get_or-set_other filled n k false false (λ e. omega (arith, e, apart)) ∙ empty (omega arith))
