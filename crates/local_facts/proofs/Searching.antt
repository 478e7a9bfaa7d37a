-- What a binary search finds among rising keys, and what a loop has copied.
use Rattle.std.proofs.Common.{◌≡◌, ℕ, ◌+◌, ◌<◌, ◌≤◌, Bool, true, false, ◌||◌, cond, List, length, get_or, take, Option, Some, None, Result, Ok, Err}
use Rattle.std.proofs.Common.{Ordering, is_ok, IsTrue, Contains, refl, sym, ap, ◌∙◌, subst, arith, ⊎_elim}
use Rattle.std.specs.List.{All}
use Rattle.std.specs.List.Sorted.{IsStrictlySortedBy, IsSortedBy, IsSearchInRange, IsBinarySearchResult, IsPartitionPoint}
use Rattle.std.specs.Cmp.{IsTotalOrder}
use Rattle.std.specs.Ordering.{is_eq, is_lt, ordering_reverse}
use Rattle.std.specs.declared.cmp.Ordering.TheVariants.{Less, Equal, Greater}
use Rattle.std.proofs.lemmas.Bool.{cases_lt}
use Rattle.std.proofs.lemmas.Cmp.{tied_itself}
use Rattle.std.proofs.lemmas.List.Folds.{list_any_none, list_any_at, list_any_more}
use Rattle.std.proofs.lemmas.List.Sorted.{searchable_from_sorted}
use Rattle.std.proofs.lemmas.Map.Keys.{Less-from_sorted}
use Rattle.flow_system.specs.Facts.{fact_at}
use Rattle.flow_system.specs.Laws.{OrdersKeys, IsLawful}
use Rattle.flow_system.specs.Rules.{Rules}
use Rattle.flow_system.specs.State.{AllFit}
use Rattle.local_facts.specs.Restricted.{is_listed, beside, restricted, IsRestriction}
use Rattle.local_facts.specs.Laws.{beside_fits}
use Rattle.local_facts.specs.Copied.{found_or, CopiesBeside, IsCopyBeside}

module _ {K : Type 0} (cmp : K → K → Ordering) (total : IsTotalOrder cmp) (keep : List K) (rise : IsStrictlySortedBy cmp keep) where
  sorted : IsSortedBy (λ a b. is_lt (cmp a b)) keep
  sorted k d low high =
      ap is_lt (total.antisymm (get_or keep (k + 1) d) (get_or keep k d) ∙ ap ordering_reverse (Less-from_sorted cmp keep k (k + 1) d rise (omega arith) high))

  -- a binary search says whether the key is listed
  pub found_is_listed : (k : K) (r : Result ℕ ℕ) → IsSearchInRange r (length keep) → IsBinarySearchResult (λ y. cmp y k) keep r → is_ok r ≡ is_listed cmp keep k
  found_is_listed k (Ok i) within found = sym (list_any_at (λ q. is_eq (cmp q k)) keep i k within (ap is_eq (found k)))
  found_is_listed k (Err i) within parted = sym (list_any_none (λ q. is_eq (cmp q k)) keep none)
    where
      sides : IsPartitionPoint (λ y. cmp y k ≡ Less) (λ y. cmp y k ≡ Greater) keep i
      sides = parted (searchable_from_sorted total (λ (x : K). x) keep k sorted)

      none : All (λ q. is_eq (cmp q k) ≡ false) keep
      none j d below = ⊎_elim (λ (before : j < i). ap is_eq (sides.0 j d (omega arith) before))
          (λ (after : i ≤ j). ap is_eq (sides.1 j d after below)) (cases_lt j i)

equal_from_is_eq : (o : Ordering) → is_eq o ≡ true → o ≡ Equal
equal_from_is_eq Less e = absurd (cc)
equal_from_is_eq Equal e = refl
equal_from_is_eq Greater e = absurd (cc)

module _ {K V : Type 0} (cmp : K → K → Ordering) (order : OrdersKeys cmp) (keep : List K) (fixed facts : List (K × V)) where
  found_again : (o p : Option V) (b : Bool) → p ≡ cond b o None → found_or o p ≡ o
  found_again None p true e = e
  found_again None p false e = e
  found_again (Some v) p b e = refl

  -- one more key is copied
  pub copy_more : (keys : List K) (i : ℕ) (k : K) (old new : List (K × V)) → i < length keys → k ≡ get_or keys i k
      → IsCopyBeside cmp keep fixed facts (take i keys) old → CopiesBeside cmp keep fixed facts k old new
      → IsCopyBeside cmp keep fixed facts (take (i + 1) keys) new
  copy_more keys i k old new within is copied step q = more_cases (is_eq (cmp k q)) refl
    where
      or_true : (a : Bool) → (a || true) ≡ true
      or_true true = refl
      or_true false = refl

      or_false : (a : Bool) → (a || false) ≡ a
      or_false true = refl
      or_false false = refl

      listed : (b : Bool) → is_eq (cmp k q) ≡ b → is_listed cmp (take (i + 1) keys) q ≡ (is_listed cmp (take i keys) q || b)
      listed b e =
          list_any_more (λ x. is_eq (cmp x q)) keys i k within
          ∙ ap (λ x. is_listed cmp (take i keys) q || is_eq (cmp x q)) (sym is)
          ∙ ap (λ t. is_listed cmp (take i keys) q || t) e

      more_cases : (b : Bool) → is_eq (cmp k q) ≡ b
          → fact_at cmp new q ≡ cond (is_listed cmp (take (i + 1) keys) q) (beside cmp keep fixed (fact_at cmp facts) q) None
      more_cases true e =
          step q
          ∙ ap (λ b. cond b (found_or (beside cmp keep fixed (fact_at cmp facts) k) (fact_at cmp old q)) (fact_at cmp old q)) e
          ∙ ap (λ x. found_or (beside cmp keep fixed (fact_at cmp facts) x) (fact_at cmp old q)) (order.exact k q (equal_from_is_eq (cmp k q) e))
          ∙ found_again (beside cmp keep fixed (fact_at cmp facts) q) (fact_at cmp old q) (is_listed cmp (take i keys) q) (copied q)
          ∙ sym (ap (λ b. cond b (beside cmp keep fixed (fact_at cmp facts) q) None) (listed true e ∙ or_true (is_listed cmp (take i keys) q)))
      more_cases false e =
          step q
          ∙ ap (λ b. cond b (found_or (beside cmp keep fixed (fact_at cmp facts) k) (fact_at cmp old q)) (fact_at cmp old q)) e
          ∙ copied q
          ∙ sym (ap (λ b. cond b (beside cmp keep fixed (fact_at cmp facts) q) None) (listed false e ∙ or_false (is_listed cmp (take i keys) q)))

module _ {K V : Type 0} (cmp : K → K → Ordering) (m : Rules K V) (law : IsLawful cmp m) (starts : List (K × V)) (keep : List K)
    (fixed : List (K × V)) (sound : IsRestriction cmp m starts keep fixed) (facts : List (K × V))
    (fit : AllFit (restricted cmp m starts keep fixed) (fact_at cmp facts)) (keys : List K) (copies : List (K × V))
    (copied : IsCopyBeside cmp keep fixed facts keys copies) where
  pub copies_fit : AllFit m (fact_at cmp copies)
  copies_fit q v found = fit_cases (is_listed cmp keys q) (sym (copied q) ∙ found)
    where
      fit_cases : (b : Bool) → cond b (beside cmp keep fixed (fact_at cmp facts) q) None ≡ Some v → IsTrue (m.fits q v)
      fit_cases true e = beside_fits cmp m law starts keep fixed sound (fact_at cmp facts) fit q v e
      fit_cases false e = absurd (cc)

  contained_listed : (j : K) (list : List K) → Contains list j → is_listed cmp list j ≡ true
  contained_listed j list h = list_any_at (λ q. is_eq (cmp q j)) list h.0 j h.1 (ap (λ x. is_eq (cmp x j)) h.2 ∙ ap is_eq (tied_itself law.keys.total j))

  -- over the copies of what it reads a key gives what it gives over the state with the fixed facts beside it
  pub same_gives : (k : K) → keys ≡ m.reads k → m.gives k (fact_at cmp copies) ≡ m.gives k (beside cmp keep fixed (fact_at cmp facts))
  same_gives k read = law.looks.looks (fact_at cmp copies) (beside cmp keep fixed (fact_at cmp facts)) copies_fit
      (beside_fits cmp m law starts keep fixed sound (fact_at cmp facts) fit) k same
    where
      same : (j : K) → Contains (m.reads k) j → fact_at cmp copies j ≡ beside cmp keep fixed (fact_at cmp facts) j
      same j reads = copied j ∙ ap (λ b. cond b (beside cmp keep fixed (fact_at cmp facts) j) None)
          (contained_listed j keys (subst (λ list. Contains list j) (sym read) reads))
