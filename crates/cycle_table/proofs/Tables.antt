-- The table of a text, line by line.
use Rattle.std.proofs.Common.{◌≡◌, ◌≢◌, ℕ, zero, suc, ◌+◌, ◌<◌, ◌≤◌, inl, inr, List, [], ◌∷◌, ◌++◌, length, get_or, All, Option, Some, None, Ok, Err}
use Rattle.std.proofs.Common.{refl, sym, ap, subst, ◌∙◌, arith, append_assoc}
use Rattle.std.specs.Prelude.{slice_set, replicate}
use Rattle.std.specs.List.{range_with_len}
use Rattle.std.proofs.lemmas.Bool.{cases_eq, eq-eqb, ne_eqb}
use Rattle.std.proofs.lemmas.List.{get_or-set_same, get_or-set_other, length-set, ext_get_or, length-map, append-nil}
use Rattle.std.proofs.lemmas.List.FromFn.{length-range_with_len, get_or-map-range_with_len}
use Rattle.std.proofs.lemmas.List.Sums.{sum_by-append}
use Rattle.cycle_table.specs.Class.{place_of, cost_at}
use Rattle.cycle_table.specs.Row.{Row, says}
use Rattle.cycle_table.specs.Table.{cost_for, cost_in, costs_of, fault_said, fault_of, first_of, first_fault, completed, unless, body_of}
use Rattle.cycle_table.specs.declared.classes.Version.{Version}
use Rattle.cycle_table.specs.declared.refusal.CycleRefusal.{CycleRefusal}
use Rattle.sparc_decode.specs.declared.cost_class.CostClass.{CostClass}

-- what is no fault gives a class a cost that had none
pub record IsNew (costs : List ℕ) (class : CostClass) (cost : ℕ) : Type 0 where
  pub some : cost ≢ 0
  pub none : cost_at costs class ≡ 0

-- a cost without a fault is new and in its range
pub new_cost : (costs : List ℕ) (number : ℕ) (class : CostClass) (cost : ℕ) → fault_said costs number (Ok (class, cost)) ≡ None → IsNew costs class cost
new_cost costs number class cost fine = elim (cases_eq cost 0) [
  | inl free ↦ (let e = rw (eq-eqb cost 0 free) at fine in cc)
  | inr some ↦
      elim (cases_eq (cost_at costs class) 0) [
        | inl none ↦ record { some = some; none = none }
        | inr twice ↦ (let e = rw (ne_eqb cost 0 some, ne_eqb (cost_at costs class) 0 twice) at fine in cc)
      ]
]

-- no costs are small
no_costs_at : (n k d : ℕ) → k < n → get_or (replicate n 0) k d ≤ 1000000
no_costs_at zero k d within = absurd (omega arith)
no_costs_at (suc n) zero d within = omega arith
no_costs_at (suc n) (suc k) d within = no_costs_at n k d (omega arith)

-- no costs yet are at most the greatest
pub no_costs_small : All (λ cost. cost ≤ 1000000) (replicate 30 0)
no_costs_small k d within = no_costs_at 30 k d within

module _ (version : Version) where
  -- the costs of rows are 30
  pub length-costs_of : (rows : List Row) → length (costs_of version rows) ≡ 30
  unfolding costs_of
  length-costs_of rows = length-map (range_with_len 0 30) (cost_in version rows) ∙ length-range_with_len 0 30

  -- the cost at a place is what the lines give its class, all in all
  pub costs_of_at : (rows : List Row) (k : ℕ) → k < 30 → get_or (costs_of version rows) k 0 ≡ cost_in version rows k
  unfolding costs_of
  costs_of_at rows k within = get_or-map-range_with_len (cost_in version rows) 0 30 k k 0 within (omega arith)

  -- a line more
  pub cost_in_more : (earlier : List Row) (row : Row) (k : ℕ)
      → cost_in version (earlier ++ row ∷ []) k ≡ cost_in version earlier k + cost_for (says version row.words) k
  cost_in_more earlier row k = sum_by-append (λ (r : Row). cost_for (says version r.words) k) earlier (row ∷ []) ∙ (omega arith)

  -- the costs with one more put down
  put_down : (earlier : List Row) (row : Row) (class : CostClass) (cost : ℕ) → says version row.words ≡ Ok (class, cost)
      → cost_at (costs_of version earlier) class ≡ 0
      → slice_set (costs_of version earlier) (place_of class) cost ≡ costs_of version (earlier ++ row ∷ [])
  put_down earlier row class cost said none =
      ext_get_or 0 (slice_set (costs_of version earlier) (place_of class) cost) (costs_of version (earlier ++ row ∷ []))
      (length-set (costs_of version earlier) (place_of class) cost ∙ length-costs_of earlier ∙ sym (length-costs_of (earlier ++ row ∷ []))) at where
        within : (k : ℕ) → k < length (slice_set (costs_of version earlier) (place_of class) cost) → k < 30
        within k h = subst (λ (n : ℕ). k < n) (length-set (costs_of version earlier) (place_of class) cost ∙ length-costs_of earlier) h

        more : (k : ℕ) → k < 30 → get_or (costs_of version (earlier ++ row ∷ [])) k 0 ≡ get_or (costs_of version earlier) k 0 + cost_for (Ok (class, cost)) k
        more k h = costs_of_at (earlier ++ row ∷ []) k h ∙ cost_in_more earlier row k ∙ (λ i. sym (costs_of_at earlier k h) i + cost_for (said i) k)

        at : (k : ℕ) → k < length (slice_set (costs_of version earlier) (place_of class) cost)
            → get_or (slice_set (costs_of version earlier) (place_of class) cost) k 0 ≡ get_or (costs_of version (earlier ++ row ∷ [])) k 0
        at k h = elim (cases_eq (place_of class) k) [
          | inl same ↦
              let inside : place_of class < length (costs_of version earlier) =
              subst (λ (n : ℕ). place_of class < n) (sym (length-costs_of earlier)) (subst (λ (n : ℕ). n < 30) (sym same) (within k h)) in
              let put : get_or (slice_set (costs_of version earlier) (place_of class) cost) k 0 ≡ cost =
              ap (λ (n : ℕ). get_or (slice_set (costs_of version earlier) (place_of class) cost) n 0) (sym same)
              ∙ get_or-set_same (costs_of version earlier) (place_of class) cost 0 inside in
              let was : get_or (costs_of version earlier) k 0 ≡ 0 = ap (λ (n : ℕ). get_or (costs_of version earlier) n 0) (sym same) ∙ none in
              let given : cost_for (Ok (class, cost)) k ≡ cost = rw (eq-eqb (place_of class) k same) refl in
              let all = more k (within k h) in
              omega arith
          | inr other ↦
              let kept : get_or (slice_set (costs_of version earlier) (place_of class) cost) k 0 ≡ get_or (costs_of version earlier) k 0 =
              get_or-set_other (costs_of version earlier) (place_of class) k cost 0 (λ e. other (sym e)) in
              let given : cost_for (Ok (class, cost)) k ≡ 0 = rw (ne_eqb (place_of class) k other) refl in
              let all = more k (within k h) in
              omega arith
        ]

  -- the lines of a table that have been read, and what they give
  pub record IsRead (body rest : List Row) (costs : List ℕ) : Type 0 where
    pub earlier : List Row
    pub whole : body ≡ earlier ++ rest
    pub fault : first_fault version [] body ≡ first_fault version earlier rest
    pub given : costs ≡ costs_of version earlier

  -- nothing is read
  pub read_none : (body : List Row) → IsRead body body (replicate 30 0)
  unfolding costs_of
  read_none body = record { earlier = []; whole = refl; fault = refl; given = refl }

  -- a line more is read
  pub read_more : (body rest : List Row) (row : Row) (costs : List ℕ) (class : CostClass) (cost : ℕ) → IsRead body (row ∷ rest) costs
      → says version row.words ≡ Ok (class, cost)
      → fault_said costs row.number (Ok (class, cost)) ≡ None → IsRead body rest (slice_set costs (place_of class) cost)
  read_more body rest row costs class cost read said fine =
      let new = new_cost costs row.number class cost fine in
      let none : cost_at (costs_of version read.earlier) class ≡ 0 = subst (λ (c : List ℕ). cost_at c class ≡ 0) read.given new.none in
      let passes : fault_of version read.earlier row ≡ None = (λ i. fault_said (sym read.given i) row.number (said i)) ∙ fine in
      record {
        earlier = read.earlier ++ row ∷ [];
        whole = read.whole ∙ sym (append_assoc read.earlier (row ∷ []) rest);
        fault = read.fault ∙ ap (λ (f : Option CycleRefusal). first_of f (first_fault version (read.earlier ++ row ∷ []) rest)) passes;
        given = ap (λ (c : List ℕ). slice_set c (place_of class) cost) read.given ∙ put_down read.earlier row class cost said none;
      }

  -- the first bad line is come to
  pub read_bad : (body rest : List Row) (row : Row) (costs : List ℕ) (e : CycleRefusal) → IsRead body (row ∷ rest) costs
      → fault_said costs row.number (says version row.words) ≡ Some e → body_of version body ≡ Err e
  read_bad body rest row costs e read bad =
      let fault : first_fault version [] body ≡ Some e =
      read.fault ∙ ap (λ (f : Option CycleRefusal). first_of f (first_fault version (read.earlier ++ row ∷ []) rest))
      (ap (λ (c : List ℕ). fault_said c row.number (says version row.words)) (sym read.given) ∙ bad) in
      ap (λ (f : Option CycleRefusal). unless f (completed version (costs_of version body))) fault

  -- all lines are read
  pub read_all : (body : List Row) (costs : List ℕ) → IsRead body [] costs → body_of version body ≡ completed version costs
  read_all body costs read =
      let same : body ≡ read.earlier = read.whole ∙ append-nil read.earlier in
      ap (λ (f : Option CycleRefusal). unless f (completed version (costs_of version body))) read.fault
      ∙ ap (completed version) (ap (costs_of version) same ∙ sym read.given)
