-- What the activations of a run spend: at most what their walks cost, and so at most their bounds.
use Rattle.std.proofs.Common.{◌≡◌, ℕ, suc, ◌+◌, ◌-◌, ◌<◌, ◌≤◌, true, false, List, [], ◌∷◌, map, Option, Some, None, refl, sym, ap, subst, ◌∙◌}
use Rattle.std.proofs.Common.{arith}
use Rattle.std.specs.Prelude.{is_some, unwrap_or}
use Rattle.std.specs.List.{All}
use Rattle.std.proofs.lemmas.List.Elements.{All-nil, All-cons, All-head, All-tail}
use Rattle.graph_laws.specs.Walk.{end_of, Costs, cost_of}
use Rattle.graph_laws.proofs.Costs.{spent, cost_is_spent}
use Rattle.frame_laws.specs.Context.{Family, Standing, Free, Stub, In, IsSound, IsBound, costs_in, call_cost, is_bounded}
use Rattle.frame_laws.specs.Run.{Run, Returns}
use Rattle.frame_laws.specs.Activation.{Activation, last_of, later_nodes, is_stub, stack_at}
use Rattle.frame_laws.specs.Steps.{AreFollowed}
use Rattle.frame_laws.specs.Trace.{Claims, AreSteps, IsTraced, AreTraced, AreKept}
use Rattle.frame_laws.specs.Laws.{WalksIn, Walks, SpendsTo, FramesSpend, PoppedFramesSpend, LastFramesSpend}
use Rattle.frame_laws.proofs.Traces.{tops_are_here, traced_top, traced}
use Rattle.frame_laws.proofs.Walking.{walk_claims, walks_kept, call_enters, frames_on_walks}

-- in a bounded context no more is owed at the start than it says, and each step, with the call at its node, spends at most
-- what is owed and what the node and the edge cost
abbrev pub spend_claims : Family → Run → Claims
spend_claims family run = record {
  start = λ s p. (c most : ℕ) → s ≡ In c → (family c).most ≡ Some most → run.owed p ≤ (family c).start;
  here = λ s p. Unit {0};
  next = λ s p q. (c most : ℕ) → s ≡ In c → (family c).most ≡ Some most
      → run.cycles q + run.owed q ≤ run.cycles p + run.owed p + (costs_in family (family c)).node (run.node c p) + (family c).own.edge (run.node c p)
      (run.node c q);
  link = λ callee f caller w. Unit {0};
}

end-map : (f : ℕ → ℕ) (p : ℕ) (later : List ℕ) → end_of (f p) (map f later) ≡ f (end_of p later)
end-map f p [] = refl
end-map f p (q ∷ later) = end-map f q later

some_is : {A : Type 0} {a b : A} → ◌≡◌ {A = Option A} (Some a) (Some b) → a ≡ b
some_is e = cc

-- what a walk's end leaves of a bound
sums_up : (cycles owed node first start_owed spent cost most start : ℕ) → cycles + owed ≤ first + start_owed + spent → start_owed ≤ start
    → cost ≤ most - start → cost ≡ spent + node → start ≤ most
    → cycles + owed + node ≤ first + most
sums_up cycles owed node first start_owed spent cost most start a b c d e = omega arith

module _ (family : Family) (run : Run) where
  by_most : (first cycles : ℕ) (o : Option ℕ) → is_some o ≡ true → ((most : ℕ) → o ≡ Some most → cycles ≤ first + most) → cycles ≤ first + unwrap_or o 0
  by_most first cycles None b h = cc
  by_most first cycles (Some most) b h = h most refl

  by_standing : (s : Standing) (first cycles : ℕ) → is_bounded family (Some s) ≡ true
      → ((time : ℕ) → s ≡ Stub time → cycles ≤ first + time) → ((d most : ℕ) → s ≡ In d → (family d).most ≡ Some most → cycles ≤ first + most)
      → cycles ≤ first + call_cost family (Some s)
  by_standing Free first cycles b stub context = cc
  by_standing (Stub time) first cycles b stub context = stub time refl
  by_standing (In d) first cycles b stub context = by_most first cycles (family d).most b (λ most e. context d most refl e)

  -- along the places of an activation
  spent_along : (s : Standing) (c most p : ℕ) (later : List ℕ) → s ≡ In c → (family c).most ≡ Some most → AreSteps (spend_claims family run) s (p ∷ later)
      → run.cycles (end_of p later) + run.owed (end_of p later) ≤ run.cycles p + run.owed p + spent (costs_in family (family c)) (run.node c p) (map
      (run.node c) later)
  spent_along s c most p [] e b a = omega arith
  spent_along s c most p (q ∷ later) e b a =
      let here : run.cycles q + run.owed q ≤ run.cycles p + run.owed p + (costs_in family (family c)).node (run.node c p) + (family c).own.edge
      (run.node c p) (run.node c q) = a.1 c most e b in
      let rest : run.cycles (end_of q later) + run.owed (end_of q later) ≤ run.cycles q + run.owed q + spent (costs_in family (family c)) (run.node c q)
      (map (run.node c) later)
      = spent_along s c most q later e b a.2 in
      omega (arith, here, rest)

  -- an activation that has gone on a walk has spent at most its bound, also behind one step more
  pub own_spends : IsSound family → (activation : Activation) → IsTraced (spend_claims family run) activation → Walks family run activation
      → (c most : ℕ) → activation.standing ≡ In c → (family c).most ≡ Some most
      → run.cycles (last_of activation) + run.owed (last_of activation) + (costs_in family (family c)).node (run.node c (last_of activation))
      ≤ run.cycles activation.first + most
  own_spends sound activation t walks c most s b =
      let w : WalksIn (family c) (run.node c activation.first) (later_nodes run c activation) = walks c s in
      let costs : Costs = costs_in family (family c) in
      let bound : IsBound family (family c) most = sound.bounds c most b in
      let along : run.cycles (last_of activation) + run.owed (last_of activation) ≤ run.cycles activation.first + run.owed activation.first + spent
      (costs_in family (family c)) (run.node c activation.first) (later_nodes run c activation)
      = spent_along activation.standing c most activation.first activation.later s b t.steps in
      let owed : run.owed activation.first ≤ (family c).start = t.start c most s b in
      let at_entry : WalksIn (family c) (family c).entry (later_nodes run c activation) =
      subst (λ (n : ℕ). WalksIn (family c) n (later_nodes run c activation)) w.entry w in
      let walk : cost_of (costs_in family (family c)) (family c).entry (later_nodes run c activation) ≤ most - (family c).start =
      bound.walks (later_nodes run c activation) at_entry.walk at_entry.keeps in
      let cost : cost_of (costs_in family (family c)) (run.node c activation.first) (later_nodes run c activation) ≤ most - (family c).start =
      subst (λ (n : ℕ). cost_of (costs_in family (family c)) n (later_nodes run c activation) ≤ most - (family c).start) (sym w.entry) walk in
      let parts : cost_of (costs_in family (family c)) (run.node c activation.first) (later_nodes run c activation)
      ≡ spent (costs_in family (family c)) (run.node c activation.first) (later_nodes run c activation) + (costs_in family (family c)).node (end_of
      (run.node c activation.first) (later_nodes run c activation))
      = cost_is_spent (costs_in family (family c)) (run.node c activation.first) (later_nodes run c activation) in
      let end : (costs_in family (family c)).node (end_of (run.node c activation.first) (later_nodes run c activation)) ≡ (costs_in family (family c)).node
      (run.node c (last_of activation)) =
      ap (costs_in family (family c)).node (end-map (run.node c) activation.first activation.later) in
      let start : (family c).start ≤ most = bound.start in
      sums_up (run.cycles (last_of activation)) (run.owed (last_of activation)) ((costs_in family (family c)).node (run.node c (last_of activation)))
      (run.cycles activation.first) (run.owed activation.first)
      (spent (costs_in family (family c)) (run.node c activation.first) (later_nodes run c activation)) (cost_of (costs_in family (family c))
      (run.node c activation.first) (later_nodes run c activation))
      most (family c).start along owed cost (parts ∙ ap (λ (n : ℕ). spent (costs_in family (family c)) (run.node c activation.first)
      (later_nodes run c activation) + n) end) start

  -- what is called at a node of a bounded context is bounded: by its asserted time, or by its context's bound
  callee_spends : (s : Standing) (o : Option Standing) (first cycles : ℕ) → o ≡ Some s → is_bounded family o ≡ true
      → ((time : ℕ) → s ≡ Stub time → cycles ≤ first + time) → ((d most : ℕ) → s ≡ In d → (family d).most ≡ Some most → cycles ≤ first + most)
      → cycles ≤ first + call_cost family o
  callee_spends s o first cycles e b stub context =
      let fits : cycles ≤ first + call_cost family (Some s) = by_standing s first cycles (subst (λ (x : Option Standing). is_bounded family x
      ≡ true) e b) stub context in
      subst (λ (x : Option Standing). cycles ≤ first + call_cost family x) (sym e) fits

module _ (family : Family) (run : Run) (root : Standing) (last : ℕ) (sound : IsSound family) (facts : AreFollowed family run root last) where
  -- a popped activation in a bounded context
  popped_spends : (place : ℕ) (popped : Activation) (rest : List Activation) → place < last → run.move place ≡ Returns
      → stack_at family run root place ≡ popped ∷ rest
      → IsTraced (spend_claims family run) popped → SpendsTo family run (run.cycles (suc place)) popped
  popped_spends place popped rest l m e t c most s b =
      let walks : Walks family run popped = All-head (Walks family run) popped rest (subst (All (Walks family run)) e
      (frames_on_walks family run root last sound facts place (omega arith))) in
      let here : last_of popped ≡ place = tops_are_here family run root place popped rest e in
      let own : run.cycles (last_of popped) + run.owed (last_of popped) + (costs_in family (family c)).node (run.node c (last_of popped))
      ≤ run.cycles popped.first + most
      = own_spends family run sound popped t walks c most s b in
      let there : run.cycles place + run.owed place + (costs_in family (family c)).node (run.node c place) ≤ run.cycles popped.first + most
      = subst (λ (p : ℕ). run.cycles p + run.owed p + (costs_in family (family c)).node (run.node c p) ≤ run.cycles popped.first + most) here own in
      let pays : run.cycles (suc place) ≤ run.cycles place + run.owed place + (family c).own.node (run.node c place) =
      facts.returns place c popped rest l m e s in
      omega (arith, there, pays)

  -- the step to the place behind a return, with the callee that was waited for
  return_spends : (place : ℕ) (popped caller : Activation) (rest : List Activation) → place < last → run.move place ≡ Returns
      → stack_at family run root place ≡ popped ∷ caller ∷ rest
      → IsTraced (spend_claims family run) popped → (spend_claims family run).next caller.standing (last_of caller) (suc place)
  return_spends place popped caller rest l m e t c most s b =
      let walks : AreTraced (walk_claims family run) (popped ∷ caller ∷ rest) =
      subst (AreTraced (walk_claims family run)) e (traced (walk_claims family run) family run root last (walks_kept family run root last facts) place
      (omega arith)) in
      let link = walks.1 c s in
      let called : (family c).leads (run.node c (last_of caller)) ≡ Some popped.standing = link.0 in
      let before : run.cycles popped.first ≤ run.cycles (last_of caller) + run.owed (last_of caller) + (family c).own.node (run.node c (last_of caller)) =
      link.1 in
      let callee : run.cycles (suc place) ≤ run.cycles popped.first + call_cost family ((family c).leads (run.node c (last_of caller))) =
      callee_spends family run popped.standing ((family c).leads (run.node c (last_of caller))) (run.cycles popped.first) (run.cycles (suc place)) called
      ((sound.bounds c most b).calls (run.node c (last_of caller)))
      (λ time is. facts.stubs place c time popped caller rest l m e s is)
      (λ d bound is known. popped_spends place popped (caller ∷ rest) l m e t d bound is known) in
      let owed : run.owed (suc place) ≤ (family c).own.edge (run.node c (last_of caller)) (run.node c (suc place)) =
      (facts.goes_on place c popped caller rest l m e s).1 in
      omega (arith, before, callee, owed)

  -- each step keeps the claims
  pub spends_kept : AreKept (spend_claims family run) family run root last
  spends_kept = record {
    start = λ c most s b. (facts.enters c s).owed;
    here = tt;
    goes = λ place top rest l m e t.
        ((λ c most s b. let pays = (facts.goes place c top rest l m e s).1 in omega (arith, pays)), tt);
    calls = λ place top rest l m e t.
        ((λ d most s b. (call_enters family run root last facts top.standing place (λ c x. facts.calls place c top rest l m e x) d s).owed), tt, tt);
    returns = λ place popped caller rest l m e t.
        (return_spends place popped caller rest l m e (traced_top (spend_claims family run) popped (caller ∷ rest) t), tt);
  }

  spends_traced : (place : ℕ) → place ≤ last → AreTraced (spend_claims family run) (stack_at family run root place)
  spends_traced place l = traced (spend_claims family run) family run root last spends_kept place l

-- from the top of a stack downward, without an activation whose time is asserted
module _ (family : Family) (run : Run) (sound : IsSound family) (cycles : ℕ) where
  spends_down : (top : Activation) (rest : List Activation) → AreTraced (walk_claims family run) (top ∷ rest)
      → AreTraced (spend_claims family run) (top ∷ rest) → All (Walks family run) (top ∷ rest)
      → All (λ (a : Activation). is_stub a.standing ≡ false) (top ∷ rest) → SpendsTo family run cycles top → All (SpendsTo family run cycles) (top ∷ rest)
  spends_down top [] w t walks plain h = All-cons (SpendsTo family run cycles) top [] h (All-nil (SpendsTo family run cycles))
  spends_down top (caller ∷ rest) w t walks plain h =
      let below : All (Walks family run) (caller ∷ rest) = All-tail (Walks family run) top (caller ∷ rest) walks in
      let no_stub : is_stub top.standing ≡ false = All-head (λ (a : Activation). is_stub a.standing ≡ false) top (caller ∷ rest) plain in
      let here : SpendsTo family run cycles caller = λ c most s b.
      let link = w.1 c s in
      let called : (family c).leads (run.node c (last_of caller)) ≡ Some top.standing = link.0 in
      let before : run.cycles top.first ≤ run.cycles (last_of caller) + run.owed (last_of caller) + (family c).own.node (run.node c (last_of caller)) =
      link.1 in
      let callee : cycles ≤ run.cycles top.first + call_cost family ((family c).leads (run.node c (last_of caller))) =
      callee_spends family run top.standing ((family c).leads (run.node c (last_of caller))) (run.cycles top.first) cycles called
      ((sound.bounds c most b).calls (run.node c (last_of caller)))
      (λ time is. let no : is_stub (Stub time) ≡ false = subst (λ (x : Standing). is_stub x ≡ false) is no_stub in cc)
      (λ d bound is known. h d bound is known) in
      let own : run.cycles (last_of caller) + run.owed (last_of caller) + (costs_in family (family c)).node (run.node c (last_of caller))
      ≤ run.cycles caller.first + most =
      own_spends family run sound caller (traced_top (spend_claims family run) caller rest t.2) (All-head (Walks family run) caller rest below) c most s b in
      omega (arith, before, callee, own) in
      All-cons (SpendsTo family run cycles) top (caller ∷ rest) h
      (spends_down caller rest w.2 t.2 below (All-tail (λ (a : Activation). is_stub a.standing ≡ false) top (caller ∷ rest) plain) here)

-- the top activation in a bounded context has spent at most its bound behind the next step too, whatever it leads to
pub last_spend : LastFramesSpend
last_spend family run root last sound facts top rest e c cycles s pays d most is b =
    let t : AreTraced (spend_claims family run) (top ∷ rest) =
    subst (AreTraced (spend_claims family run)) e (spends_traced family run root last sound facts last (omega arith)) in
    let walks : Walks family run top = All-head (Walks family run) top rest (subst (All (Walks family run)) e
    (frames_on_walks family run root last sound facts last (omega arith))) in
    let same : c ≡ d = cc in
    let here : last_of top ≡ last = tops_are_here family run root last top rest e in
    let own : run.cycles (last_of top) + run.owed (last_of top) + (costs_in family (family d)).node (run.node d (last_of top)) ≤ run.cycles top.first + most
    = own_spends family run sound top (traced_top (spend_claims family run) top rest t) walks d most is b in
    let there : run.cycles last + run.owed last + (costs_in family (family d)).node (run.node d last) ≤ run.cycles top.first + most
    = subst (λ (p : ℕ). run.cycles p + run.owed p + (costs_in family (family d)).node (run.node d p) ≤ run.cycles top.first + most) here own in
    let paid : cycles ≤ run.cycles last + run.owed last + (family d).own.node (run.node d last) =
    subst (λ (x : ℕ). cycles ≤ run.cycles last + run.owed last + (family x).own.node (run.node x last)) same pays in
    omega (arith, there, paid)

-- an activation in a bounded context has spent at most its bound once it has returned
pub popped_spend : PoppedFramesSpend
popped_spend family run root last sound facts place popped rest l m e =
    let t : AreTraced (spend_claims family run) (popped ∷ rest) =
    subst (AreTraced (spend_claims family run)) e (spends_traced family run root last sound facts place (omega arith)) in
    popped_spends family run root last sound facts place popped rest l m e (traced_top (spend_claims family run) popped rest t)

-- at a place, by the activation on top
spend_by : (family : Family) (run : Run) (root : Standing) (last : ℕ) → IsSound family → AreFollowed family run root last → (place : ℕ) → place ≤ last
    → (stack : List Activation) → stack_at family run root place ≡ stack → All (λ (a : Activation). is_stub a.standing ≡ false) stack
    → All (SpendsTo family run (run.cycles place)) stack
spend_by family run root last sound facts place l [] e plain = All-nil (SpendsTo family run (run.cycles place))
spend_by family run root last sound facts place l (top ∷ rest) e plain =
    let w : AreTraced (walk_claims family run) (top ∷ rest) =
    subst (AreTraced (walk_claims family run)) e (traced (walk_claims family run) family run root last (walks_kept family run root last facts) place l) in
    let t : AreTraced (spend_claims family run) (top ∷ rest) =
    subst (AreTraced (spend_claims family run)) e (spends_traced family run root last sound facts place l) in
    let walks : All (Walks family run) (top ∷ rest) = subst (All (Walks family run)) e (frames_on_walks family run root last sound facts place l) in
    let here : last_of top ≡ place = tops_are_here family run root place top rest e in
    spends_down family run sound (run.cycles place) top rest w t walks plain
    (λ c most s b.
    let own : run.cycles (last_of top) + run.owed (last_of top) + (costs_in family (family c)).node (run.node c (last_of top)) ≤ run.cycles top.first + most
    = own_spends family run sound top (traced_top (spend_claims family run) top rest t) (All-head (Walks family run) top rest walks) c most s b in
    let cycles : run.cycles (last_of top) ≡ run.cycles place = ap run.cycles here in
    omega (arith, own, cycles))

-- at each place without an activation whose time is asserted, each in a bounded context has spent at most its bound
pub frames_in_bounds : FramesSpend
frames_in_bounds family run root last sound facts place l plain = spend_by family run root last sound facts place l (stack_at family run root place) refl plain
