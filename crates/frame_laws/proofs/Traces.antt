-- One induction for all that holds along the activations of a stack: claims that each step keeps hold at each place.
use Rattle.std.proofs.Common.{◌≡◌, ℕ, zero, suc, ◌<◌, ◌≤◌, List, [], ◌∷◌, ◌++◌, refl, sym, ap, subst, ◌∙◌, arith}
use Rattle.graph_laws.specs.Walk.{end_of}
use Rattle.graph_laws.proofs.Walks.{end-append}
use Rattle.frame_laws.specs.Context.{Family, Standing}
use Rattle.frame_laws.specs.Run.{Run, Move, Goes, Calls, Returns}
use Rattle.frame_laws.specs.Activation.{Activation, last_of, on_at, called_from, stack_after, stack_at}
use Rattle.frame_laws.specs.Trace.{Claims, AreSteps, IsTraced, AreTraced, AreKept}

-- the first of two equal lists that aren't empty
pub first_is : {A : Type 0} {x y : A} {xs ys : List A} → x ∷ xs ≡ y ∷ ys → x ≡ y
first_is e = cc

-- where a step lands, it is on top
pub last_on : (activation : Activation) (place : ℕ) → last_of (on_at activation place) ≡ place
last_on activation place = end-append activation.first place activation.later []

tops_after : (family : Family) (run : Run) (move : Move) (place : ℕ) (stack : List Activation) (top : Activation) (rest : List Activation)
    → stack_after family run move place stack ≡ top ∷ rest → last_of top ≡ suc place
tops_after family run Goes place [] top rest e = cc
tops_after family run Goes place (t ∷ r) top rest e = subst (λ (a : Activation). last_of a ≡ suc place) (first_is e) (last_on t (suc place))
tops_after family run Calls place [] top rest e = cc
tops_after family run Calls place (t ∷ r) top rest e = subst (λ (a : Activation). last_of a ≡ suc place) (first_is e) refl
tops_after family run Returns place [] top rest e = cc
tops_after family run Returns place (t ∷ []) top rest e = cc
tops_after family run Returns place (t ∷ c ∷ r) top rest e = subst (λ (a : Activation). last_of a ≡ suc place) (first_is e) (last_on c (suc place))

-- at each place the activation on top is there
pub tops_are_here : (family : Family) (run : Run) (root : Standing) (place : ℕ) (top : Activation) (rest : List Activation)
    → stack_at family run root place ≡ top ∷ rest → last_of top ≡ place
tops_are_here family run root zero top rest e = subst (λ (a : Activation). last_of a ≡ 0) (first_is e) refl
tops_are_here family run root (suc place) top rest e = tops_after family run (run.move place) place (stack_at family run root place) top rest e

-- the stack behind a step
pub stack_behind : (family : Family) (run : Run) (root : Standing) (place : ℕ) (move : Move) (stack : List Activation)
    → run.move place ≡ move → stack_at family run root place ≡ stack → stack_at family run root (suc place) ≡ stack_after family run move place stack
stack_behind family run root place move stack m e =
    ap (λ (x : Move). stack_after family run x place (stack_at family run root place)) m ∙ ap (λ (x : List Activation). stack_after family run move place x) e

steps_more : (claims : Claims) (s : Standing) (p : ℕ) (later : List ℕ) (q : ℕ) → AreSteps claims s (p ∷ later) → claims.next s (end_of p later) q
    → claims.here s q
    → AreSteps claims s (p ∷ (later ++ q ∷ []))
steps_more claims s p [] q a n h = (a, n, h)
steps_more claims s p (r ∷ later) q a n h = (a.0, a.1, steps_more claims s r later q a.2 n h)

-- the claims along a part of an activation's places
pub steps_front : (claims : Claims) (s : Standing) (xs ys : List ℕ) → AreSteps claims s (xs ++ ys) → AreSteps claims s xs
steps_front claims s [] ys a = tt
steps_front claims s (x ∷ []) [] a = a
steps_front claims s (x ∷ []) (y ∷ ys) a = a.0
steps_front claims s (x ∷ z ∷ xs) ys a = (a.0, a.1, steps_front claims s (z ∷ xs) ys a.2)

-- the rest of steps that are claimed are so
pub steps_back : (claims : Claims) (s : Standing) (xs ys : List ℕ) → AreSteps claims s (xs ++ ys) → AreSteps claims s ys
steps_back claims s [] ys a = a
steps_back claims s (x ∷ []) [] a = tt
steps_back claims s (x ∷ []) (y ∷ ys) a = a.2
steps_back claims s (x ∷ z ∷ xs) ys a = steps_back claims s (z ∷ xs) ys a.2

traced_on : (claims : Claims) (top : Activation) (rest : List Activation) (q : ℕ) → AreTraced claims (top ∷ rest) → claims.next top.standing (last_of top) q
    → claims.here top.standing q
    → AreTraced claims (on_at top q ∷ rest)
traced_on claims top [] q t n h = record { start = t.start; steps = steps_more claims top.standing top.first top.later q t.steps n h }
traced_on claims top (caller ∷ rest) q t n h = (
  record { start = t.0.start; steps = steps_more claims top.standing top.first top.later q t.0.steps n h },
  t.1,
  t.2,
)

-- the claims hold below the top too
pub traced_below : (claims : Claims) (top : Activation) (rest : List Activation) → AreTraced claims (top ∷ rest) → AreTraced claims rest
traced_below claims top [] t = tt
traced_below claims top (caller ∷ rest) t = t.2

-- and of the top
pub traced_top : (claims : Claims) (top : Activation) (rest : List Activation) → AreTraced claims (top ∷ rest) → IsTraced claims top
traced_top claims top [] t = t
traced_top claims top (caller ∷ rest) t = t.0

module _ (claims : Claims) (family : Family) (run : Run) (root : Standing) (last : ℕ) (kept : AreKept claims family run root last) where
  traced_after : (place : ℕ) (move : Move) (stack : List Activation) → place < last → run.move place ≡ move → stack_at family run root place ≡ stack
      → AreTraced claims stack → AreTraced claims (stack_after family run move place stack)
  traced_after place Goes [] l m e t = tt
  traced_after place Goes (top ∷ rest) l m e t =
      let k = kept.goes place top rest l m e t in
      let here : last_of top ≡ place = tops_are_here family run root place top rest e in
      traced_on claims top rest (suc place) t (subst (λ (x : ℕ). claims.next top.standing x (suc place)) (sym here) k.0) k.1
  traced_after place Calls [] l m e t = tt
  traced_after place Calls (top ∷ rest) l m e t =
      let k = kept.calls place top rest l m e t in
      let here : last_of top ≡ place = tops_are_here family run root place top rest e in (
        record { start = k.0; steps = k.1 },
        subst (λ (x : ℕ). claims.link (called_from family run top.standing place) (suc place) top.standing x)
            (sym here) k.2,
        t,
      )
  traced_after place Returns [] l m e t = tt
  traced_after place Returns (popped ∷ []) l m e t = tt
  traced_after place Returns (popped ∷ caller ∷ rest) l m e t =
      let k = kept.returns place popped caller rest l m e t in traced_on claims caller rest (suc place) t.2 k.0 k.1

  -- at each place the claims hold along all activations on the stack
  pub traced : (place : ℕ) → place ≤ last → AreTraced claims (stack_at family run root place)
  traced zero l = record { start = kept.start; steps = kept.here }
  traced (suc place) l = traced_after place (run.move place) (stack_at family run root place) (omega arith) refl refl (traced place (omega arith))
