-- How a seat reaches the slot of a part that it holds: it gives back the slots that it took later, and that one, and
-- takes them again, that one last. No slot is changed by it.
use Rattle.std.proofs.Common.{◌≡◌, ◌≢◌, ℕ, zero, suc, ◌+◌, ◌<◌, ◌≤◌, List, [], ◌∷◌, length, set, sym, refl, ap, ◌∙◌, subst, arith}
use mathlib.Core.Logic.{dite}
use mathlib.Core.Option.{Option, some, none, some-injective, some-ne-none}
use native.Mathlib.Decide.{ℕ_discrete}
use lib.ListN.{get_elem?}
use Rattle.atomic_table.specs.Table.{Act, takes, gives, chain, Valid, homes_after, carried_after}
use Rattle.atomic_table.proofs.Lists.{set_here, set_else}
use Rattle.shard_slots.specs.Hold.{same, times}
use Rattle.shard_slots.specs.Seat.{numbers}
use Rattle.shard_slots.proofs.Counts.{same_here, same_else}

module _ {A : Type 0} where
  pub within : (l : List A) (i : ℕ) (a : A) → get_elem? l i ≡ some a → i < length l
  within [] i a e = absurd (some-ne-none a (sym e))
  within (x ∷ xs) zero a e = omega arith
  within (x ∷ xs) (suc i) a e = omega (arith, within xs i a e)

  -- a place that is written and then written back
  undo : (l : List A) (i : ℕ) (a b : A) → get_elem? l i ≡ some a → set (set l i b) i a ≡ l
  undo [] i a b e = refl
  undo (x ∷ xs) zero a b e = ap (λ (y : A). y ∷ xs) (sym (some-injective x a e))
  undo (x ∷ xs) (suc i) a b e = ap (λ ys. x ∷ ys) (undo xs i a b e)

  -- the same with another place that is written in between
  undo_across : (l : List A) (i j : ℕ) (a b d : A) → i ≢ j → get_elem? l i ≡ some a → set (set (set l i b) j d) i a ≡ set l j d
  undo_across [] i j a b d apart e = refl
  undo_across (x ∷ xs) zero zero a b d apart e = absurd (apart refl)
  undo_across (x ∷ xs) zero (suc j) a b d apart e = ap (λ (y : A). y ∷ set xs j d) (sym (some-injective x a e))
  undo_across (x ∷ xs) (suc i) zero a b d apart e = ap (λ ys. d ∷ ys) (undo xs i a b e)
  undo_across (x ∷ xs) (suc i) (suc j) a b d apart e = ap (λ ys. x ∷ ys) (undo_across xs i j a b d (λ same. apart (ap suc same)) e)

module _ {S : Type 0} where
  -- each slot of a list is out, and stands there once
  pub record AreOut (homes : List (Option S)) (taken : List (ℕ × S)) : Type 0 where
    pub out : (k : ℕ) → 1 ≤ times k (numbers taken) → get_elem? homes k ≡ some none
    pub once : (k : ℕ) → times k (numbers taken) ≤ 1

  -- an act that gives back the slot n and leaves the others taken
  record GivesBack (n : ℕ) (homes : List (Option S)) (taken : List (ℕ × S)) : Type 0 where
    pub act : Act S
    pub value : S
    pub valid : Valid homes taken act
    pub homes_is : homes_after homes taken act ≡ set homes n (some value)
    pub alike : (k : ℕ) → same n k + times k (numbers (carried_after taken act)) ≡ times k (numbers taken)

  -- the other slots are out where the first is given back
  rest_out : (homes : List (Option S)) (x : ℕ × S) (xs : List (ℕ × S)) → AreOut homes (x ∷ xs) → AreOut (set homes x.0 (some x.1)) xs
  rest_out homes x xs are = record {
    out = λ k stands. set_else homes x.0 k (some x.1) (λ e. omega (arith, are.once k, same_here x.0 k (sym e), stands)) ∙ are.out k (omega arith);
    once = λ k. omega (arith, are.once k);
  }

  gives_back : (n : ℕ) (homes : List (Option S)) (taken : List (ℕ × S)) → AreOut homes taken → 1 ≤ times n (numbers taken) → GivesBack n homes taken
  gives_back n homes [] are stands = absurd (omega arith)
  gives_back n homes (x ∷ xs) are stands = dite (ℕ_discrete x.0 n)
      (λ e. record {
        act = gives;
        value = x.1;
        valid = tt;
        homes_is = ap (λ (i : ℕ). set homes i (some x.1)) e;
        alike = λ k. ap (λ (i : ℕ). same i k + times k (numbers xs)) (sym e);
      })
      (λ apart. let b = gives_back n (set homes x.0 (some x.1)) xs (rest_out homes x xs are) (omega (arith, same_else x.0 n apart, stands)) in
      let is_out : get_elem? homes x.0 ≡ some none = are.out x.0 (omega (arith, same_here x.0 x.0 refl)) in record {
        act = chain gives (chain b.act (takes x.0 x.1));
        value = b.value;
        valid = (
          tt,
          (
            b.valid,
            subst (λ hs. get_elem? hs x.0 ≡ some (some x.1)) (sym b.homes_is)
                (set_else (set homes x.0 (some x.1)) n x.0 (some b.value) apart ∙ set_here homes x.0 (some x.1) (within homes x.0 none is_out)),
          ),
        );
        homes_is = ap (λ hs. set hs x.0 none) b.homes_is ∙ undo_across homes x.0 n none (some x.1) (some b.value) apart is_out;
        alike = λ k. omega (arith, b.alike k);
      })

  -- an act after which the slot n is the one that was taken last, with the same slots taken, and none changed
  pub record Reached (n : ℕ) (homes : List (Option S)) (taken : List (ℕ × S)) : Type 0 where
    pub act : Act S
    pub value : S
    pub others : List (ℕ × S)
    pub valid : Valid homes taken act
    pub homes_stay : homes_after homes taken act ≡ homes
    pub last : carried_after taken act ≡ (n, value) ∷ others
    pub alike : (k : ℕ) → times k (numbers (carried_after taken act)) ≡ times k (numbers taken)

  -- a part that was taken is reached again
  pub reached : (n : ℕ) (homes : List (Option S)) (taken : List (ℕ × S)) → AreOut homes taken → 1 ≤ times n (numbers taken) → Reached n homes taken
  reached n homes taken are stands = let b = gives_back n homes taken are stands in let is_out : get_elem? homes n ≡ some none = are.out n stands in record {
    act = chain b.act (takes n b.value);
    value = b.value;
    others = carried_after taken b.act;
    valid = (b.valid, subst (λ hs. get_elem? hs n ≡ some (some b.value)) (sym b.homes_is) (set_here homes n (some b.value) (within homes n none is_out)));
    homes_stay = ap (λ hs. set hs n none) b.homes_is ∙ undo homes n none (some b.value) is_out;
    last = refl;
    alike = b.alike;
  }
