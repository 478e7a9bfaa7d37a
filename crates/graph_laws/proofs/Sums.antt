-- Labels of sums that are chosen: they are attained, and edges back to inner heads ask nothing more of them.
use Rattle.std.proofs.Common.{◌≡◌, ◌≢◌, ◌==◌, ℕ, zero, suc, ◌+◌, ◌<◌, inl, inr, Bool, true, false, List, [], ◌∷◌, ◌++◌, refl, sym, ap, subst, ◌∙◌, arith}
use Rattle.std.proofs.lemmas.Bool.{eq-eqb}
use Rattle.std.proofs.lemmas.Bool.Decides.{eqb_tells}
use Rattle.graph_laws.specs.Walk.{IsWalk, AreInside, passes, end_of}
use Rattle.graph_laws.specs.Loops.{Loops, AreLoops, is_back}
use Rattle.graph_laws.specs.Counter.{Changes, turn_up, turn_down, IsSumFrom, AreChosenSums, HasTurn, InnerLoopsKeep, ChosenSumsAreAttained}
use Rattle.graph_laws.specs.Counter.{ForwardSumsRise, ForwardSumsFall}
use Rattle.graph_laws.proofs.Walks.{passes_other, passes-append, inside-append, walk-append, end-append}
use Rattle.graph_laws.proofs.Counters.{sum-snoc}
use Rattle.graph_laws.proofs.Stretches.{tells, both}

-- a walk from the head to a node of its body, and the sum along it
record PathTo (edge : ℕ → ℕ → Bool) (loops : Loops) (head : ℕ) (changes : Changes) (label : ℕ → ℕ) (n : ℕ) : Type 0 where
  pub between : List ℕ
  pub walk : IsWalk edge head between
  pub ends : end_of head between ≡ n
  pub inside : AreInside (loops.body head) between
  pub once : passes head between ≡ 0
  pub sum : label n + changes.up n + turn_down changes head between ≡ label head + changes.down n + turn_up changes head between

module _ (edge : ℕ → ℕ → Bool) (loops : Loops) (head : ℕ) (changes : Changes) (label : ℕ → ℕ) (rank : ℕ → ℕ)
    (at_head : loops.body head head ≡ true) (chosen : AreChosenSums edge loops head changes label rank) where
  path_to : (size n : ℕ) → rank n < size → loops.body head n ≡ true → PathTo edge loops head changes label n
  path_to zero n low i = absurd (omega arith)
  path_to (suc size) n low i = elim (eqb_tells n head) [
    | inl a ↦
        let u = ap changes.up a.1 in let d = ap changes.down a.1 in let l = ap label a.1 in
        record { between = []; walk = tt; ends = sym a.1; inside = tt; once = refl; sum = omega (arith, u, d, l) }
    | inr a ↦
        let s : IsSumFrom edge loops head changes label rank n = chosen n i a.0 in
        let lower = s.lower in
        let p : PathTo edge loops head changes label s.from = path_to size s.from (omega (arith, lower)) s.inside in
        let u = sum-snoc changes.up head n p.between in
        let d = sum-snoc changes.down head n p.between in
        let x = p.sum in let y = s.is in
        record {
          between = p.between ++ n ∷ [];
          walk = walk-append edge head p.between (n ∷ []) p.walk (subst (λ (z : ℕ). IsWalk edge z (n ∷ [])) (sym p.ends) (s.leads, tt));
          ends = end-append head n p.between [];
          inside = inside-append (loops.body head) p.between (n ∷ []) p.inside (i, tt);
          once = passes-append head p.between (n ∷ [])
              ∙ (let q = p.once in let r : passes head (n ∷ []) ≡ 0 = passes_other head n [] a.0 in omega (arith, q, r));
          sum = omega (arith, u, d, x, y);
        }
  ]

  pub sums_attained : (n : ℕ) → loops.body head n ≡ true → edge n head ≡ true → HasTurn edge (loops.body head) head changes label n
  sums_attained n i e =
      let p : PathTo edge loops head changes label n = path_to (suc (rank n)) n (omega arith) i in
      record {
        between = p.between;
        turn = record {
          walk = walk-append edge head p.between (head ∷ []) p.walk (subst (λ (z : ℕ). IsWalk edge z (head ∷ [])) (sym p.ends) (e, tt));
          inside = p.inside;
          once = p.once;
        };
        sum = p.sum;
      }

-- labels of sums that are each what some edge gives are sums of turns: the least of them is the least sum
pub chosen_sums : ChosenSumsAreAttained
chosen_sums edge loops head changes label rank at_head chosen = sums_attained edge loops head changes label rank at_head chosen

module _ (edge : ℕ → ℕ → Bool) (entry : ℕ) (loops : Loops) (head : ℕ) (changes : Changes) (label : ℕ → ℕ) (rank : ℕ → ℕ)
    (ok : AreLoops edge entry loops) (has : loops.has head ≡ true) (keep : InnerLoopsKeep loops head changes)
    (chosen : AreChosenSums edge loops head changes label rank) where
  -- along an inner loop the label stays that of its head
  label_kept : (size k n : ℕ) → rank n < size → loops.has k ≡ true → loops.body head k ≡ true → head ≢ k → loops.body k n ≡ true → label n ≡ label k
  label_kept zero k n low h i ne b = absurd (omega arith)
  label_kept (suc size) k n low h i ne b = elim (eqb_tells n k) [
    | inl a ↦ ap label a.1
    | inr a ↦
        let inside : loops.body head n ≡ true = ok.within k head n h has i (λ e. ne (sym e)) b in
        let apart : loops.body k head ≡ false = ok.apart k head h has i (λ e. ne (sym e)) in
        let other : (n == head) ≡ false = elim (eqb_tells n head) [
          | inl e ↦ let t : loops.body k head ≡ true = subst (λ (x : ℕ). loops.body k x ≡ true) e.1 b in cc
          | inr e ↦ e.0
        ] in
        let s : IsSumFrom edge loops head changes label rank n = chosen n inside other in
        let lower = s.lower in
        elim (tells (loops.body k s.from)) [
          | inl t ↦
              let on : label s.from ≡ label k = label_kept size k s.from (omega (arith, lower)) h i ne t in
              let same : changes.up s.from ≡ changes.down s.from = keep k s.from h i ne t in
              let x = s.is in omega (arith, on, same, x)
          | inr t ↦ absurd (a.1 (ok.entered k s.from n h s.leads t b))
        ]
  ]

  back_kept : (n m : ℕ) → loops.body head m ≡ true → (m == head) ≡ false → is_back loops n m ≡ true → (label n ≡ label m) × (changes.up n ≡ changes.down n)
  back_kept n m j z t =
      let b : (loops.has m ≡ true) × (loops.body m n ≡ true) = both (loops.has m) (loops.body m n) t in
      let ne : head ≢ m = λ e. (let q : (m == head) ≡ true = eq-eqb m head (sym e) in cc) in
      (label_kept (suc (rank n)) m n (omega arith) b.0 j ne b.1, keep m n b.0 j ne b.1)

-- where no inner loop changes the cell, labels that meet the checks on the edges but those back to heads meet them on all
pub forward_rise : ForwardSumsRise
forward_rise edge entry loops head changes step label rank ok has keep chosen on end = record {
  on = λ n m i j e z. elim (tells (is_back loops n m)) [
    | inl t ↦
        let k = back_kept edge entry loops head changes label rank ok has keep chosen n m j z t in
        let a = k.0 in let b = k.1 in omega (arith, a, b)
    | inr f ↦ on n m i j e f
  ];
  end = end;
}

-- the same of a cell that falls
pub forward_fall : ForwardSumsFall
forward_fall edge entry loops head changes step label rank ok has keep chosen on end = record {
  on = λ n m i j e z. elim (tells (is_back loops n m)) [
    | inl t ↦
        let k = back_kept edge entry loops head changes label rank ok has keep chosen n m j z t in
        let a = k.0 in let b = k.1 in omega (arith, a, b)
    | inr f ↦ on n m i j e f
  ];
  end = end;
}
