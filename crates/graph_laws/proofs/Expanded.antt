-- The walk that a collapsed walk stands for.
use Rattle.std.proofs.Common.{◌≡◌, ℕ, zero, suc, ◌+◌, ◌-◌, ◌*◌, ◌<◌, ◌≤◌, inl, inr, Bool, true, List, [], ◌∷◌, refl, sym, ap, subst, ◌∙◌, arith, cond}
use Rattle.graph_laws.specs.Walk.{IsWalk, AreInside, end_of, Costs}
use Rattle.graph_laws.specs.Loops.{Loops, AreLoops, IsForward}
use Rattle.graph_laws.specs.Collapsed.{Turns, further_cost, steps_cost, RankBelow, AreTurns, repeated, Expands, none, plain, head, IsExpanded}
use Rattle.graph_laws.specs.Collapsed.{CollapsedWalksExpand}
use Rattle.graph_laws.proofs.Stretches.{tells, keeps_from_held}
use Rattle.graph_laws.proofs.Costs.{spent, cost_is_spent}
use Rattle.graph_laws.proofs.Turns.{Goal, Anywhere, BackTo, area_of, IsGoal, IsMade, Made, IsLapped, held_here, after_turn, with_turns, back_is}

rank_more : (loops : Loops) (rank : ℕ → ℕ) (a b : ℕ) (rest : List ℕ) → a ≤ b → RankBelow loops rank a rest → RankBelow loops rank b rest
rank_more loops rank a b [] l r = tt
rank_more loops rank a b (n ∷ rest) l r = ((λ h. let s : rank n < a = r.0 h in omega (arith, s)), rank_more loops rank a b rest l r.1)

-- a limit for the ranks of a list
abbrev limit_of : (ℕ → ℕ) → List ℕ → ℕ
limit_of rank [] = 0
limit_of rank (n ∷ rest) = suc (rank n) + limit_of rank rest

within_limit : (loops : Loops) (rank : ℕ → ℕ) (rest : List ℕ) → RankBelow loops rank (limit_of rank rest) rest
within_limit loops rank [] = tt
within_limit loops rank (n ∷ rest) = (
  (λ h. omega arith),
  rank_more loops rank (limit_of rank rest) (limit_of rank (n ∷ rest)) rest (omega arith)
      (within_limit loops rank rest),
)

-- the walk that a turn stands for
record TurnOf (edge : ℕ → ℕ → Bool) (loops : Loops) (bound : ℕ → ℕ) (costs : Costs) (turns : Turns) (m : ℕ) : Type 0 where
  pub made : Made edge loops bound costs (BackTo m) m (turns.cost m)
  pub expands : Expands loops bound turns.walk (turns.walk m) made.rest

-- the walk that a collapsed walk stands for, without the further passes of its first node
record Expansion (edge : ℕ → ℕ → Bool) (loops : Loops) (bound : ℕ → ℕ) (costs : Costs) (turns : Turns) (goal : Goal) (n : ℕ) (rest : List ℕ) : Type 0 where
  pub full : List ℕ
  pub expands : Expands loops bound turns.walk rest full
  pub made : IsMade edge loops bound (area_of loops goal) n full
  pub ends : end_of n full ≡ end_of n rest
  pub spends : spent costs n full ≡ steps_cost loops bound costs turns n rest

-- and with them
record Passed (edge : ℕ → ℕ → Bool) (loops : Loops) (bound : ℕ → ℕ) (costs : Costs) (turns : Turns) (goal : Goal) (n : ℕ) (rest before : List ℕ) : Type 0 where
  pub full : List ℕ
  pub expands : Expands loops bound turns.walk (n ∷ rest) (n ∷ full)
  pub lapped : IsLapped edge loops bound costs (area_of loops goal) n before full (further_cost loops bound turns n)

abbrev Supply : (ℕ → ℕ → Bool) → Loops → (ℕ → ℕ) → Costs → Turns → (ℕ → ℕ) → ℕ → Type 0
Supply edge loops bound costs turns rank size = (m : ℕ) → loops.has m ≡ true → rank m < size → TurnOf edge loops bound costs turns m

module _ (edge : ℕ → ℕ → Bool) (entry : ℕ) (loops : Loops) (bound : ℕ → ℕ) (costs : Costs) (turns : Turns) (rank : ℕ → ℕ)
    (ok : AreLoops edge entry loops) (bounded : (h : ℕ) → loops.has h ≡ true → 1 ≤ bound h) (are : AreTurns edge loops bound costs turns rank) where
  passed : (size : ℕ) → Supply edge loops bound costs turns rank size → (goal : Goal) → IsGoal loops 0 goal → (n : ℕ) (rest full : List ℕ)
      → area_of loops goal n ≡ true
      → (loops.has n ≡ true → rank n < size) → Expands loops bound turns.walk rest full → IsMade edge loops bound (area_of loops goal) n full
      → Passed edge loops bound costs turns goal n rest full
  passed size supply goal g n rest full a low e made = elim (tells (loops.has n)) [
    | inl has ↦
        let t : TurnOf edge loops bound costs turns n = supply n has (low has) in
        let one = bounded n has in
        let w = with_turns edge entry loops bound costs ok 0 goal g n (turns.cost n) full has a made t.made (bound n - 1) (omega (arith, one)) in
        let l : further_cost loops bound turns n ≡ (bound n - 1) * turns.cost n = ap (λ (b : Bool). cond b ((bound n - 1) * turns.cost n) 0) has in
        record {
          full = repeated n t.made.rest (bound n - 1) full;
          expands = head has t.expands e;
          lapped = subst (λ (x : ℕ). IsLapped edge loops bound costs (area_of loops goal) n full (repeated n t.made.rest (bound n - 1) full) x) (sym l) w.0;
        }
    | inr o ↦
        let l : further_cost loops bound turns n ≡ 0 = ap (λ (b : Bool). cond b ((bound n - 1) * turns.cost n) 0) o in
        record {
          full = full;
          expands = plain o e;
          lapped = record {
            walk = made.walk;
            inside = made.inside;
            calm = λ k h b ne. made.calm k h b;
            count = λ h. cc;
            held = made.held;
            ends = refl;
            spends = omega (arith, l);
          };
        }
  ]

  along : (size : ℕ) → Supply edge loops bound costs turns rank size → (goal : Goal) → IsGoal loops 0 goal → (n : ℕ) (rest : List ℕ)
      → IsWalk edge n rest → AreInside (area_of loops goal) rest
      → IsForward loops n rest → RankBelow loops rank size rest → Expansion edge loops bound costs turns goal n rest
  along size supply goal g n [] w i f r =
      record { full = []; expands = none; made = record { walk = tt; inside = tt; calm = λ k h b. refl; held = tt }; ends = refl; spends = refl }
  along size supply goal g n (m ∷ rest) w i f r =
      let on : Expansion edge loops bound costs turns goal m rest = along size supply goal g m rest w.1 i.1 f.1 r.1 in
      let p : Passed edge loops bound costs turns goal m rest on.full = passed size supply goal g m rest on.full i.0 r.0 on.expands on.made in
      let l = p.lapped in
      record {
        full = m ∷ p.full;
        expands = p.expands;
        made = record {
          walk = (w.0, l.walk);
          inside = (i.0, l.inside);
          calm = λ k h b. after_turn edge entry loops bound costs ok 0 m p.full k h (λ e. back_is edge entry loops bound costs ok 0 n m k f.0 h b e) l.calm;
          held = (held_here edge entry loops bound costs ok 0 m p.full l.calm l.count, l.held);
        };
        ends = l.ends ∙ on.ends;
        spends = (let x = l.spends in let y = on.spends in omega (arith, x, y));
      }

  all_inside : (n : ℕ) (rest : List ℕ) → AreInside (area_of loops Anywhere) rest
  all_inside n [] = tt
  all_inside n (m ∷ rest) = (refl, all_inside m rest)

  supply : (size : ℕ) → Supply edge loops bound costs turns rank size
  supply zero m has low = absurd (omega arith)
  supply (suc size) m has low =
      let e : Expansion edge loops bound costs turns (BackTo m) m (turns.walk m) =
      along size (supply size) (BackTo m) has m (turns.walk m) (are.walk m has) (are.inside m has) (are.forward m has)
      (rank_more loops rank (rank m) size (turns.walk m) (omega arith) (are.lower m has)) in
      record {
        made = record {
          rest = e.full;
          made = e.made;
          last = costs.node (end_of m e.full) + costs.edge (end_of m e.full) m;
          ends = (subst (λ (x : ℕ). edge x m ≡ true) (sym e.ends) (are.back m has), refl);
          spends =
              (let x = e.spends in let y = are.cost m has in
              let z : costs.node (end_of m e.full) + costs.edge (end_of m e.full) m ≡
              costs.node (end_of m (turns.walk m)) + costs.edge (end_of m (turns.walk m)) m =
              ap (λ (q : ℕ). costs.node q + costs.edge q m) e.ends in omega (arith, x, y, z));
        };
        expands = e.expands;
      }

  pub expanded : (n : ℕ) (rest : List ℕ) → IsWalk edge n rest → IsForward loops n rest → IsExpanded edge loops bound costs turns n rest
  expanded n rest w f =
      let size : ℕ = suc (rank n) + limit_of rank rest in
      let e : Expansion edge loops bound costs turns Anywhere n rest =
      along (suc (rank n) + limit_of rank rest) (supply (suc (rank n) + limit_of rank rest)) Anywhere tt n rest w (all_inside n rest) f
      (rank_more loops rank (limit_of rank rest) (suc (rank n) + limit_of rank rest) rest (omega arith) (within_limit loops rank rest)) in
      let p : Passed edge loops bound costs turns Anywhere n rest e.full =
      passed (suc (rank n) + limit_of rank rest) (supply (suc (rank n) + limit_of rank rest)) Anywhere tt n rest e.full refl
      (λ h. omega arith) e.expands e.made in
      let l = p.lapped in
      record {
        full = p.full;
        expands = p.expands;
        walk = l.walk;
        keeps = keeps_from_held loops bound (n ∷ p.full) (held_here edge entry loops bound costs ok 0 n p.full l.calm l.count, l.held);
        spends =
            (let x = cost_is_spent costs n p.full in let y = l.spends in let z = e.spends in
            let q = ap costs.node (l.ends ∙ e.ends) in omega (arith, x, y, z, q));
      }

-- each collapsed walk stands for a walk that keeps the head bounds, in which each loop's turn is repeated as often as its
-- bound allows, and says what it costs
pub collapsed_expand : CollapsedWalksExpand
collapsed_expand edge entry loops bound costs turns rank ok bounded are = expanded edge entry loops bound costs turns rank ok bounded are
