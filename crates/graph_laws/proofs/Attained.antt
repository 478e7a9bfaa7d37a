-- Labels that are chosen are what some walk costs.
use Rattle.std.proofs.Common.{◌≡◌, ◌&&◌, ℕ, zero, suc, ◌+◌, ◌-◌, ◌*◌, ◌<◌, ◌≤◌, ◌⊎◌, inl, inr, Bool, true, false, List, [], ◌∷◌, Option, Some, None}
use Rattle.std.proofs.Common.{refl, sym, ap, subst, ◌∙◌, arith, cond}
use Rattle.std.specs.Prelude.{unwrap_or}
use Rattle.graph_laws.specs.Walk.{IsWalk, AreInside, end_of, Costs, cost_of}
use Rattle.graph_laws.specs.Loops.{Loops, AreLoops, KeepsBounds, is_back, edges_inside}
use Rattle.graph_laws.specs.Labels.{Labels, turn_cost, laps_cost, charge, step_cost, AreChosen, AreOwnChosen, ChosenLabelsAreAttained}
use Rattle.graph_laws.specs.Labels.{ChosenLabelsAreGreatest, OwnLabelsAreGreatest, most_from}
use Rattle.graph_laws.specs.Collapsed.{repeated}
use Rattle.graph_laws.proofs.Turns.{Goal, Anywhere, Inside, BackTo, area_of, IsGoal, Ends, IsMade, Made, IsLapped, held_here, after_turn, with_turns, back_is}
use Rattle.graph_laws.proofs.Stretches.{tells, both, first, keeps_from_held}
use Rattle.graph_laws.proofs.Costs.{cost_is_spent, labels_bound, own_bound}

abbrev label_of : Labels → (ℕ → ℕ) → Goal → ℕ → Option ℕ
label_of labels own Anywhere n = Some (labels.rest n)
label_of labels own (Inside h) n = Some (own n)
label_of labels own (BackTo h) n = labels.turn h n

record Lapped (edge : ℕ → ℕ → Bool) (loops : Loops) (bound : ℕ → ℕ) (costs : Costs) (labels : Labels) (goal : Goal) (n : ℕ) (before : List ℕ) : Type 0 where
  pub rest : List ℕ
  pub lapped : IsLapped edge loops bound costs (area_of loops goal) n before rest (laps_cost loops bound labels n)

-- a walk in an area that keeps the head bounds and costs so much
record Attains (edge : ℕ → ℕ → Bool) (loops : Loops) (bound : ℕ → ℕ) (costs : Costs) (area : ℕ → Bool) (n cost : ℕ) : Type 0 where
  pub rest : List ℕ
  pub walk : IsWalk edge n rest
  pub inside : AreInside area rest
  pub keeps : KeepsBounds loops bound (n ∷ rest)
  pub spends : cost_of costs n rest ≡ cost

-- a choice of the next node
record Next (edge : ℕ → ℕ → Bool) (loops : Loops) (bound : ℕ → ℕ) (costs : Costs) (labels : Labels) (own : ℕ → ℕ) (rank : ℕ → ℕ) (goal : Goal)
    (n value : ℕ) : Type 0 where
  pub next : ℕ
  pub asked : ℕ
  pub leads : edge n next ≡ true
  pub inside : area_of loops goal next ≡ true
  pub forward : is_back loops n next ≡ false
  pub lower : rank next < rank n
  pub label : label_of labels own goal next ≡ Some asked
  pub is : value ≡ step_cost loops bound costs labels n next + asked

some_is : {a b : ℕ} → ◌≡◌ {A = Option ℕ} (Some a) (Some b) → a ≡ b
some_is e = cc

module _ (edge : ℕ → ℕ → Bool) (entry : ℕ) (loops : Loops) (bound : ℕ → ℕ) (costs : Costs) (labels : Labels) (rank : ℕ → ℕ)
    (ok : AreLoops edge entry loops) (bounded : (h : ℕ) → loops.has h ≡ true → 1 ≤ bound h) (chosen : AreChosen edge loops bound costs labels rank)
    (at : ℕ) (own : ℕ → ℕ) (own_chosen : AreOwnChosen edge loops bound costs labels rank at own) where
  -- a walk from a node with its further passes, if it is a head, each a turn
  by_turn : (goal : Goal) → IsGoal loops at goal → (n : ℕ) (rest : List ℕ) → area_of loops goal n ≡ true → IsMade edge loops bound (area_of loops goal) n rest
      → loops.has n ≡ true → (label : Option ℕ) → labels.turn n n ≡ label
      → (loops.has n ≡ true → (v : ℕ) → labels.turn n n ≡ Some v → Made edge loops bound costs (BackTo n) n v)
      → Lapped edge loops bound costs labels goal n rest
  by_turn goal g n rest a made has None e turns =
      let t : turn_cost labels n ≡ 0 = ap (λ (o : Option ℕ). unwrap_or o 0) e in
      let l : laps_cost loops bound labels n ≡ (bound n - 1) * 0 =
      ap (λ (b : Bool). cond b ((bound n - 1) * turn_cost labels n) 0) has ∙ ap (λ (x : ℕ). (bound n - 1) * x) t in
      let z : first (loops.body n) n rest ≡ 0 = made.calm n has (ok.head n has) in
      let one = bounded n has in
      record {
        rest = rest;
        lapped = record {
          walk = made.walk;
          inside = made.inside;
          calm = λ k h b ne. made.calm k h b;
          count = λ h. omega (arith, z, one);
          held = made.held;
          ends = refl;
          spends = omega (arith, l);
        };
      }
  by_turn goal g n rest a made has (Some v) e turns =
      let t : turn_cost labels n ≡ v = ap (λ (o : Option ℕ). unwrap_or o 0) e in
      let l : laps_cost loops bound labels n ≡ (bound n - 1) * v =
      ap (λ (b : Bool). cond b ((bound n - 1) * turn_cost labels n) 0) has ∙ ap (λ (x : ℕ). (bound n - 1) * x) t in
      let one = bounded n has in
      let turn : Made edge loops bound costs (BackTo n) n v = turns has v e in
      let w = with_turns edge entry loops bound costs ok at goal g n v rest has a made turn (bound n - 1) (omega (arith, one)) in
      record {
        rest = repeated n turn.rest (bound n - 1) rest;
        lapped = subst (λ (x : ℕ). IsLapped edge loops bound costs (area_of loops goal) n rest (repeated n turn.rest (bound n - 1) rest) x) (sym l) w.0;
      }

  lap : (goal : Goal) → IsGoal loops at goal → (n : ℕ) (rest : List ℕ) → area_of loops goal n ≡ true → IsMade edge loops bound (area_of loops goal) n rest
      → (loops.has n ≡ true → (v : ℕ) → labels.turn n n ≡ Some v → Made edge loops bound costs (BackTo n) n v)
      → Lapped edge loops bound costs labels goal n rest
  lap goal g n rest a made turns = elim (tells (loops.has n)) [
    | inl has ↦ by_turn goal g n rest a made has (labels.turn n n) refl turns
    | inr o ↦
        let l : laps_cost loops bound labels n ≡ 0 = ap (λ (b : Bool). cond b ((bound n - 1) * turn_cost labels n) 0) o in
        record {
          rest = rest;
          lapped = record {
            walk = made.walk;
            inside = made.inside;
            calm = λ k h b ne. made.calm k h b;
            count = λ h. cc;
            held = made.held;
            ends = refl;
            spends = omega (arith, l);
          };
        }
  ]

  -- the next node of a walk to a goal
  choice : (goal : Goal) → IsGoal loops at goal → (n v : ℕ) → area_of loops goal n ≡ true → label_of labels own goal n ≡ Some v
      → (Ends edge costs goal n v) ⊎ Next edge loops bound costs labels own rank goal n v
  choice Anywhere g n v a e =
      let s : labels.rest n ≡ v = some_is e in
      elim (chosen.rest n) [
        | inl z ↦ inl (sym s ∙ z)
        | inr k ↦ inr (record {
          next = k.next;
          asked = k.asked;
          leads = k.leads;
          inside = refl;
          forward = k.forward;
          lower = k.lower;
          label = k.label;
          is = sym s ∙ k.is;
        })
      ]
  choice (Inside h) g n v a e =
      let s : own n ≡ v = some_is e in
      elim (own_chosen.rest n (subst (λ (x : ℕ). loops.body x n ≡ true) g.0 a)) [
        | inl z ↦ inl (sym s ∙ z)
        | inr k ↦
            let b : (edge n k.next ≡ true) × ((loops.body at n && loops.body at k.next) ≡ true) =
            both (edge n k.next) (loops.body at n && loops.body at k.next) k.leads in
            let i : (loops.body at n ≡ true) × (loops.body at k.next ≡ true) = both (loops.body at n) (loops.body at k.next) b.1 in
            inr (record {
              next = k.next;
              asked = k.asked;
              leads = b.0;
              inside = subst (λ (x : ℕ). loops.body x k.next ≡ true) (sym g.0) i.1;
              forward = k.forward;
              lower = k.lower;
              label = k.label;
              is = sym s ∙ k.is;
            })
      ]
  choice (BackTo h) g n v a e = elim (chosen.turn h n v g a e) [
    | inl z ↦ inl z
    | inr k ↦
        let b : (edge n k.next ≡ true) × ((loops.body h n && loops.body h k.next) ≡ true) =
        both (edge n k.next) (loops.body h n && loops.body h k.next) k.leads in
        let i : (loops.body h n ≡ true) × (loops.body h k.next ≡ true) = both (loops.body h n) (loops.body h k.next) b.1 in
        inr (record { next = k.next; asked = k.asked; leads = b.0; inside = i.1; forward = k.forward; lower = k.lower; label = k.label; is = k.is })
  ]

  -- a step to the next node, its further passes and the walk from it
  step_on : (goal : Goal) (n v : ℕ) (next : Next edge loops bound costs labels own rank goal n v) (on : Made edge loops bound costs goal next.next next.asked)
      → Lapped edge loops bound costs labels goal next.next on.rest → Made edge loops bound costs goal n v
  step_on goal n v next on lapped =
      let m : ℕ = next.next in
      let l = lapped.lapped in
      let c : charge loops bound labels n next.next ≡ laps_cost loops bound labels next.next =
      ap (λ (b : Bool). cond b 0 (laps_cost loops bound labels next.next)) next.forward in
      record {
        rest = next.next ∷ lapped.rest;
        made = record {
          walk = (next.leads, l.walk);
          inside = (next.inside, l.inside);
          calm = λ k has b. after_turn edge entry loops bound costs ok at next.next lapped.rest k has
              (λ e. back_is edge entry loops bound costs ok at n next.next k next.forward has b e) l.calm;
          held = (held_here edge entry loops bound costs ok at next.next lapped.rest l.calm l.count, l.held);
        };
        last = on.last;
        ends = subst (λ (x : ℕ). Ends edge costs goal x on.last) (sym l.ends) on.ends;
        spends = (let x = l.spends in let y = on.spends in let z = next.is in omega (arith, x, y, z, c));
      }

  make : (size : ℕ) (goal : Goal) → IsGoal loops at goal → (n v : ℕ) → rank n < size → area_of loops goal n ≡ true
      → label_of labels own goal n ≡ Some v → Made edge loops bound costs goal n v
  make zero goal g n v short a e = absurd (omega arith)
  make (suc size) goal g n v short a e = elim (choice goal g n v a e) [
    | inl z ↦ record { rest = []; made = record { walk = tt; inside = tt; calm = λ k has b. refl; held = tt }; last = v; ends = z; spends = omega arith }
    | inr next ↦
        let lower = next.lower in
        let on : Made edge loops bound costs goal next.next next.asked = make size goal g next.next next.asked (omega (arith, lower)) next.inside next.label in
        step_on goal n v next on (lap goal g next.next on.rest next.inside on.made
        (λ has t turn. make size (BackTo next.next) has next.next t (omega (arith, lower)) (ok.head next.next has) turn))
  ]

  attained_from : (goal : Goal) → IsGoal loops at goal → (n v : ℕ) → area_of loops goal n ≡ true → label_of labels own goal n ≡ Some v
      → ((z e : ℕ) → Ends edge costs goal z e → e ≡ costs.node z)
      → Made edge loops bound costs goal n v × Attains edge loops bound costs (area_of loops goal) n (laps_cost loops bound labels n + v)
  attained_from goal g n v a e ends =
      let made : Made edge loops bound costs goal n v = make (suc (rank n)) goal g n v (omega arith) a e in
      let lapped : Lapped edge loops bound costs labels goal n made.rest = lap goal g n made.rest a made.made
      (λ has t turn. make (suc (rank n)) (BackTo n) has n t (omega arith) (ok.head n has) turn) in
      let l = lapped.lapped in (
        made,
        record {
          rest = lapped.rest;
          walk = l.walk;
          inside = l.inside;
          keeps = keeps_from_held loops bound (n ∷ lapped.rest) (held_here edge entry loops bound costs ok at n lapped.rest l.calm l.count, l.held);
          spends = (
              let a = cost_is_spent costs n lapped.rest in
              let b = ap costs.node l.ends in
              let c = l.spends in let d = made.spends in let e = ends (end_of n made.rest) made.last made.ends in omega (arith, a, b, c, d, e));
        },
      )

-- labels that are chosen are attained
pub chosen_attained : ChosenLabelsAreAttained
chosen_attained edge entry loops bound costs labels rank ok bounded chosen =
    let a : Attains edge loops bound costs (λ n. true) entry (most_from loops bound labels entry) =
    (attained_from edge entry loops bound costs labels rank ok bounded chosen 0 costs.node (record { rest = λ n b. inl refl }) Anywhere tt entry
    (labels.rest entry) refl refl (λ z e h. h)).1 in
    record { rest = a.rest; walk = a.walk; keeps = a.keeps; spends = a.spends }

-- labels that do both say the greatest cost
pub chosen_greatest : ChosenLabelsAreGreatest
chosen_greatest edge entry loops bound costs labels rank ok bounded asks chosen = record {
  most = labels_bound edge entry loops bound costs labels ok asks;
  attained = chosen_attained edge entry loops bound costs labels rank ok bounded chosen;
}

-- the same inside one body
walk_inside : (edge : ℕ → ℕ → Bool) (body : ℕ → Bool) (n : ℕ) (rest : List ℕ) → body n ≡ true → IsWalk edge n rest → AreInside body rest
    → IsWalk (edges_inside edge body) n rest
walk_inside edge body n [] b w i = tt
walk_inside edge body n (m ∷ rest) b w i = (
  ap (λ (x : Bool). x && (body n && body m)) w.0 ∙ ap (λ (x : Bool). x && body m) b ∙ i.0,
  walk_inside edge body m rest i.0 w.1 i.1,
)

-- labels of the walks inside one body, chosen likewise, say a loop's own greatest cost
pub own_greatest : OwnLabelsAreGreatest
own_greatest edge entry loops bound costs labels rank h own ok bounded asks chosen has own_asks own_chosen =
    let a : Attains edge loops bound costs (loops.body h) h (laps_cost loops bound labels h + own h) =
    (attained_from edge entry loops bound costs labels rank ok bounded chosen h own own_chosen (Inside h) (refl, has) h (own h) (ok.head h has) refl
    (λ z e q. q)).1 in
    record {
      most = own_bound edge entry loops bound costs labels ok asks h own has own_asks;
      attained = record { rest = a.rest; walk = walk_inside edge (loops.body h) h a.rest (ok.head h has) a.walk a.inside; keeps = a.keeps; spends = a.spends };
    }
