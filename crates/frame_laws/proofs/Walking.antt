-- The activations of a run are on walks of the graphs of their contexts that keep the head bounds.
use Rattle.std.proofs.Common.{◌≡◌, ℕ, suc, ◌+◌, ◌-◌, ◌/◌, ◌≤◌, inl, inr, true, List, [], ◌∷◌, ◌++◌, map, Option, Some, None, refl, sym, ap, subst}
use Rattle.std.proofs.Common.{◌∙◌, arith}
use Rattle.std.specs.Prelude.{unwrap_or}
use Rattle.std.specs.List.{All}
use Rattle.std.proofs.lemmas.List.Elements.{All-nil, All-cons, All-head, All-tail}
use Rattle.graph_laws.specs.Walk.{IsWalk, AreInside, passes}
use Rattle.graph_laws.specs.Counter.{Visit, AreCounted, AreWalk, AreWithin, nodes_of, IsCounted}
use Rattle.graph_laws.proofs.Counters.{rising_passes, falling_passes}
use Rattle.frame_laws.specs.Context.{Family, Counter, Standing, Free, Stub, In, IsSound}
use Rattle.frame_laws.specs.Run.{Run, Goes, Calls, Returns}
use Rattle.frame_laws.specs.Activation.{Activation, places_of, begun_at, on_at, called_from, stack_at}
use Rattle.frame_laws.specs.Steps.{IsEntered, IsWithin, IsAlong, IsCall, KeepsAsserted, AreFollowed}
use Rattle.frame_laws.specs.Trace.{Claims, AreSteps, IsTraced, AreTraced, AreKept}
use Rattle.frame_laws.specs.Laws.{Walks, FramesWalk}
use Rattle.frame_laws.proofs.Traces.{steps_front, steps_back, stack_behind, traced_below, traced_top, traced}

-- what the walks of activations rest on, and that a waiting activation is at a call that leads to its callee
abbrev pub walk_claims : Family → Run → Claims
walk_claims family run = record {
  start = λ s p. (c : ℕ) → s ≡ In c → IsEntered (family c) run c p;
  here = λ s p. (c : ℕ) → s ≡ In c → IsWithin (family c) run c p;
  next = λ s p q. (c : ℕ) → s ≡ In c → IsAlong (family c) run c p q;
  link = λ callee f caller w. (c : ℕ) → caller ≡ In c → ((family c).leads (run.node c w) ≡ Some callee) × (run.cycles f ≤ run.cycles w + run.owed w +
      (family c).own.node (run.node c w));
}

module _ (family : Family) (run : Run) (root : Standing) (last : ℕ) (facts : AreFollowed family run root last) where
  -- a callee in a context begins at its entry
  pub call_enters : (s : Standing) (place : ℕ) → ((c : ℕ) → s ≡ In c → IsCall family run c place) → (d : ℕ) → called_from family run s place ≡ In d
      → IsEntered (family d) run d (suc place)
  call_enters Free place h d e = cc
  call_enters (Stub time) place h d e = cc
  call_enters (In c) place h d e =
      let k : IsCall family run c place = h c refl in
      k.enters d (sym (ap (λ (o : Option Standing). unwrap_or o Free) k.leads) ∙ e)

  call_leads : (s : Standing) (place c : ℕ) → s ≡ In c → IsCall family run c place → (family c).leads (run.node c place) ≡ Some (called_from family run s place)
  call_leads s place c e k =
      k.leads ∙ ap (λ (x : Standing). Some x) (sym (ap (λ (x : Standing). called_from family run x place) e ∙ ap (λ
      (o : Option Standing). unwrap_or o Free) k.leads))

  -- each step keeps the claims
  pub walks_kept : AreKept (walk_claims family run) family run root last
  walks_kept = record {
    start = λ c e. facts.enters c e;
    here = λ c e. facts.within 0 c (begun_at root 0) [] (omega arith) refl e;
    goes = λ place top rest l m e t. (
      (λ c s. (facts.goes place c top rest l m e s).0),
      (λ c s. facts.within (suc place) c (on_at top (suc place)) rest (omega arith) (stack_behind family run root place Goes (top ∷ rest) m e) s),
    );
    calls = λ place top rest l m e t. (
      (λ d s. call_enters top.standing place (λ c x. facts.calls place c top rest l m e x) d s),
      (λ d s. facts.within (suc place) d (begun_at (called_from family run top.standing place) (suc place)) (top ∷ rest) (omega arith)
          (stack_behind family run root place Calls (top ∷ rest) m e) s),
      (λ c s. let k = facts.calls place c top rest l m e s in (call_leads top.standing place c s k, k.pays)),
    );
    returns = λ place popped caller rest l m e t. (
      (λ c s. (facts.goes_on place c popped caller rest l m e s).0),
      (λ c s. facts.within (suc place) c (on_at caller (suc place)) rest (omega arith) (stack_behind family run root place Returns
          (popped ∷ caller ∷ rest) m e) s),
    );
  }

-- two parts of a list that together are another list's image are images of two parts of it
record IsSplit (f : ℕ → ℕ) (xs ys zs : List ℕ) : Type 0 where
  pub front : List ℕ
  pub back : List ℕ
  pub is : front ++ back ≡ zs
  pub first : map f front ≡ xs
  pub second : map f back ≡ ys

split_map : (f : ℕ → ℕ) (xs ys zs : List ℕ) → xs ++ ys ≡ map f zs → IsSplit f xs ys zs
split_map f [] ys zs e = record { front = []; back = zs; is = refl; first = refl; second = sym e }
split_map f (x ∷ xs) ys [] e = cc
split_map f (x ∷ xs) ys (z ∷ zs) e =
    let h : x ≡ f z = cc in
    let t : xs ++ ys ≡ map f zs = cc in
    let r : IsSplit f xs ys zs = split_map f xs ys zs t in
    record {
      front = z ∷ r.front;
      back = r.back;
      is = ap (λ (l : List ℕ). z ∷ l) r.is;
      first =
          ap (λ (l : List ℕ). f z ∷ l) r.first ∙ ap (λ (n : ℕ). n ∷ xs) (sym h);
      second = r.second;
    }

module _ (family : Family) (run : Run) (sound : IsSound family) where
  -- the steps of an activation are a walk
  walk_of_steps : (s : Standing) (c p : ℕ) (later : List ℕ) → s ≡ In c → AreSteps (walk_claims family run) s (p ∷ later)
      → IsWalk (family c).edge (run.node c p) (map (run.node c) later)
  walk_of_steps s c p [] e a = tt
  walk_of_steps s c p (q ∷ later) e a = ((a.1 c e).edge, walk_of_steps s c q later e a.2)

  -- what a cell holds at each place
  abbrev visits : ℕ → ℕ → List ℕ → List Visit
  visits c cell places = map (λ p. record { node = run.node c p; content = run.content p cell }) places

  nodes-visits : (c cell : ℕ) (places : List ℕ) → nodes_of (visits c cell places) ≡ map (run.node c) places
  nodes-visits c cell [] = refl
  nodes-visits c cell (p ∷ places) = ap (λ (l : List ℕ). run.node c p ∷ l) (nodes-visits c cell places)

  module _ (s : Standing) (c : ℕ) (is : s ≡ In c) (h : ℕ) (has : (family c).loops.has h ≡ true) (counter : Counter) (by : (family c).counter h
      ≡ Some counter) where
    are_walk : (places : List ℕ) → AreSteps (walk_claims family run) s places → AreWalk (family c).edge (nodes_of (visits c counter.cell places))
    are_walk [] a = tt
    are_walk (p ∷ later) a = subst (λ (l : List ℕ). IsWalk (family c).edge (run.node c p) l) (sym (nodes-visits c counter.cell later))
        (walk_of_steps s c p later is a)

    are_counted : (places : List ℕ) → AreSteps (walk_claims family run) s places → AreInside ((family c).loops.body h) (map (run.node c) places)
        → AreCounted counter.changes (visits c counter.cell places)
    are_counted [] a i = tt
    are_counted (p ∷ []) a i = tt
    are_counted (p ∷ q ∷ rest) a i = ((a.1 c is).counts h counter has by i.0 i.1.0, are_counted (q ∷ rest) a.2 i.1)

    are_within : (places : List ℕ) → AreSteps (walk_claims family run) s places → AreWithin h counter.lo counter.hi (visits c counter.cell places)
    are_within [] a = tt
    are_within (p ∷ []) a = ((λ e. a c is h counter has by e), tt)
    are_within (p ∷ q ∷ rest) a = ((λ e. a.0 c is h counter has by e), are_within (q ∷ rest) a.2)

    counted_passes : (places : List ℕ) → AreSteps (walk_claims family run) s places → AreInside ((family c).loops.body h) (map (run.node c) places)
        → passes h (map (run.node c) places) ≤ (family c).bound h
    counted_passes places a i =
        let k = sound.counters c h counter has by in
        let nodes : nodes_of (visits c counter.cell places) ≡ map (run.node c) places = nodes-visits c counter.cell places in
        let counted : IsCounted (family c).edge ((family c).loops.body h) h counter.changes counter.lo counter.hi (visits c counter.cell places) =
        record {
          walk = are_walk places a;
          inside = subst (AreInside ((family c).loops.body h)) (sym nodes) i;
          counted = are_counted places a i;
          within =
              are_within places a;
        } in
        let most : passes h (nodes_of (visits c counter.cell places)) ≤ (counter.hi - counter.lo) / counter.step + 1 = elim k.turns [
          | inl rise ↦ rising_passes (family c).edge ((family c).loops.body h) h counter.changes counter.lo counter.hi counter.step
              (visits c counter.cell places) k.step counted rise
          | inr fall ↦ falling_passes (family c).edge ((family c).loops.body h) h counter.changes counter.lo counter.hi counter.step
              (visits c counter.cell places) k.step counted fall
        ] in
        let same : passes h (nodes_of (visits c counter.cell places)) ≡ passes h (map (run.node c) places) = ap (passes h) nodes in
        let fits : (counter.hi - counter.lo) / counter.step + 1 ≤ (family c).bound h = k.passes in
        let le : passes h (map (run.node c) places) ≤ (counter.hi - counter.lo) / counter.step + 1 =
        subst (λ (n : ℕ). n ≤ (counter.hi - counter.lo) / counter.step + 1) same most in
        omega (arith, le, fits)

  -- a head keeps its bound in each stretch, by its counter or by what is asserted
  keeps_by : (activation : Activation) → AreSteps (walk_claims family run) activation.standing (places_of activation) → KeepsAsserted family run activation
      → (c h : ℕ) (o : Option Counter) → activation.standing ≡ In c → (family c).loops.has h ≡ true → (family c).counter h ≡ o
      → (before stretch after : List ℕ) → before ++ (stretch ++ after) ≡ places_of activation → AreInside ((family c).loops.body h) (map (run.node c) stretch)
      → passes h (map (run.node c) stretch) ≤ (family c).bound h
  keeps_by activation a k c h None s has by before stretch after e i = k c h before stretch after s has by e i
  keeps_by activation a k c h (Some counter) s has by before stretch after e i =
      let whole : AreSteps (walk_claims family run) activation.standing (before ++ (stretch ++ after)) =
      subst (AreSteps (walk_claims family run) activation.standing) (sym e) a in
      counted_passes activation.standing c s h has counter by stretch
      (steps_front (walk_claims family run) activation.standing stretch after (steps_back (walk_claims family run) activation.standing before
      (stretch ++ after) whole)) i

  -- the claims along an activation make it a walk
  pub walks_of : (activation : Activation) → IsTraced (walk_claims family run) activation → KeepsAsserted family run activation → Walks family run activation
  walks_of activation t k c s = record {
    entry = (t.start c s).entry;
    walk = walk_of_steps activation.standing c activation.first activation.later s t.steps;
    keeps = record {
      kept = λ h before stretch after has e inside.
          let one : IsSplit (run.node c) before (stretch ++ after) (places_of activation) =
          split_map (run.node c) before (stretch ++ after) (places_of activation) e in
          let two : IsSplit (run.node c) stretch after one.back = split_map (run.node c) stretch after one.back (sym one.second) in
          let parts : one.front ++ (two.front ++ two.back) ≡ places_of activation = ap (λ (l : List ℕ). one.front ++ l) two.is ∙ one.is in
          let within : AreInside ((family c).loops.body h) (map (run.node c) two.front) = subst (AreInside ((family c).loops.body h)) (sym two.first) inside in
          subst (λ (l : List ℕ). passes h l ≤ (family c).bound h) two.first
          (keeps_by activation t.steps k c h ((family c).counter h) s has refl one.front two.front two.back parts within);
    };
  }

  pub all_walk : (stack : List Activation) → AreTraced (walk_claims family run) stack → All (KeepsAsserted family run) stack → All (Walks family run) stack
  all_walk [] t k = All-nil (Walks family run)
  all_walk (top ∷ rest) t k =
      All-cons (Walks family run) top rest (walks_of top (traced_top (walk_claims family run) top rest t) (All-head (KeepsAsserted family run) top rest k))
      (all_walk rest (traced_below (walk_claims family run) top rest t) (All-tail (KeepsAsserted family run) top rest k))

-- at each place of a run whose steps keep to the contexts, each activation in a context has gone on a walk of the
-- context's graph that keeps the head bounds
pub frames_on_walks : FramesWalk
frames_on_walks family run root last sound facts place l =
    all_walk family run sound (stack_at family run root place)
    (traced (walk_claims family run) family run root last (walks_kept family run root last facts) place l) (facts.asserted place l)
