-- How the asks of one reading grow.
use Rattle.std.proofs.Common.{◌≡◌, ℕ, ◌+◌, ◌-◌, ◌<◌, ◌≤◌, List, [], ◌∷◌, min, refl, sym, ap, subst, ◌∙◌, arith}
use Rattle.bt_base.specs.Ask.{Ask, AreOfReading, IsOfReading, IsReadTo, IsReading, NewestGave, NewestGaveNone, WasAsked}

-- a reading so far: each of its asks gave some bytes
abbrev pub IsReadSoFar : List ℕ → ℕ → List Ask → List Ask → ℕ → Type 0
IsReadSoFar name limit old new given = (read : IsReadTo name limit old new given) × NewestGave read.asks

-- before the first ask nothing was given
pub read_none : (name : List ℕ) (limit : ℕ) (asked : List Ask) (k : ℕ) → k ≡ 0 → IsReadSoFar name limit asked asked k
read_none name limit asked k is = (record { asks = []; added = refl; each = is }, tt)

-- one more ask, from the end of what was given on
pub read_more : (name : List ℕ) (limit : ℕ) (old between new : List Ask) (k n m : ℕ) → IsReadSoFar name limit old between k → k ≤ limit
    → n ≤ min (limit - k) 65535 + 1 → new ≡ (name, k, min (limit - k) 65535 + 1, n) ∷ between → m ≡ k + n → IsReadTo name limit old new m
read_more name limit old between new k n m (so_far, gave) below fits more sum = record {
  asks = (name, k, min (limit - k) 65535 + 1, n) ∷ so_far.asks;
  added = more ∙ ap (λ (rest : List Ask). (name, k, min (limit - k) 65535 + 1, n) ∷ rest) so_far.added;
  each = (record { named = refl; room = omega arith; reach = omega arith; within = fits; sum = sym sum }, gave, so_far.each);
}

-- one more ask, which gave some bytes
pub read_on : (name : List ℕ) (limit : ℕ) (old between new : List Ask) (k n m : ℕ) → IsReadSoFar name limit old between k → k ≤ limit
    → n ≤ min (limit - k) 65535 + 1 → 0 < n → new ≡ (name, k, min (limit - k) 65535 + 1, n) ∷ between → m ≡ k + n
    → IsReadSoFar name limit old new m
unfolding read_more
read_on name limit old between new k n m so_far below fits some more sum =
    (read_more name limit old between new k n m so_far below fits more sum, some)

-- a reading that ends with one more ask
pub reading_more : (name : List ℕ) (limit : ℕ) (old between new : List Ask) (k : ℕ) → IsReadSoFar name limit old between k → k ≤ limit
    → WasAsked name k (min (limit - k) 65535 + 1) between new → IsReading name limit old new
reading_more name limit old between new k so_far below (n, fits, more) =
    (k + n, read_more name limit old between new k n (k + n) so_far below fits more refl)

-- a reading stands, whatever its newest ask gave
pub reading_is : (name : List ℕ) (limit : ℕ) (old new : List Ask) (k : ℕ) → IsReadSoFar name limit old new k → IsReading name limit old new
reading_is name limit old new k so_far = (k, so_far.0)

-- the newest ask gave no byte
pub gave_none : (ask : Ask) (between new : List Ask) → new ≡ ask ∷ between → ask.3 ≡ 0 → NewestGaveNone new
gave_none ask between new is none = subst NewestGaveNone (sym is) none

-- a reading gives one byte past the limit at most
given_most : (name : List ℕ) (limit : ℕ) (asks : List Ask) (given : ℕ) → AreOfReading name limit asks given → given ≤ limit + 1
given_most name limit [] given each = omega arith
given_most name limit (ask ∷ before) given each = omega (arith, each.0.reach, each.0.within, each.0.sum)

-- a reading that gave more than the limit gave one byte past it
pub read_past : (name : List ℕ) (limit : ℕ) (old new : List Ask) (k : ℕ) → IsReadSoFar name limit old new k → limit < k
    → IsReadTo name limit old new (limit + 1)
read_past name limit old new k so_far past =
    let most = given_most name limit so_far.0.asks k so_far.0.each in
    let exact : k ≡ limit + 1 = omega arith in
    subst (IsReadTo name limit old new) exact so_far.0
