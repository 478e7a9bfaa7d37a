-- Contexts have reasons exactly where they lead to one that has a reason of its own.
use Rattle.std.proofs.Common.{◌≡◌, ℕ, inl, inr, Bool, true, false, List, [], ◌∷◌, ◌++◌, refl, sym, subst}
use Rattle.graph_laws.specs.Walk.{IsWalk}
use Rattle.call_laws.specs.Calls.{LeadsTo}
use Rattle.call_laws.specs.Reason.{Causes, IsReason, own, callee, IsUnbounded, EachCallGives, ReachesOwn, BoundedCallTheBounded, UnboundedReachAReason}
use Rattle.call_laws.proofs.Results.{leads_on}

-- a call of a context with a reason gives one
gives_one : (causes : Causes) → EachCallGives causes → (c d : ℕ) → causes.calls c d ≡ true → IsUnbounded causes d → IsUnbounded causes c
gives_one causes each c d e u = let g = each c d e in record { reason = g.0; is = callee e g.1 u.is }

reaches_own : (causes : Causes) (c r : ℕ) → IsReason causes c r → ReachesOwn causes c
reaches_own causes c r (own e) = record { from = c; there = inl refl; reason = r; is = e }
reaches_own causes c r (callee {d = d} {q = q} e g i) =
    let o : ReachesOwn causes d = reaches_own causes d q i in
    record { from = o.from; there = leads_on causes.calls c d o.from e o.there; reason = o.reason; is = o.is }

given_along : (causes : Causes) → EachCallGives causes → (c m : ℕ) (between : List ℕ) → IsWalk causes.calls c (between ++ m ∷ []) → IsUnbounded causes m
    → IsUnbounded causes c
given_along causes each c m [] w u = gives_one causes each c m w.0 u
given_along causes each c m (d ∷ between) w u = gives_one causes each c d w.0 (given_along causes each d m between w.1 u)

given_from : (causes : Causes) → EachCallGives causes → (c m : ℕ) → LeadsTo causes.calls c m → IsUnbounded causes m → IsUnbounded causes c
given_from causes each c m (inl e) u = subst (IsUnbounded causes) (sym e) u
given_from causes each c m (inr r) u = given_along causes each c m r.between r.walk u

-- a context has a reason exactly where it leads to one that has a reason of its own
pub reach_reason : UnboundedReachAReason
reach_reason causes each c = (
  (λ u. reaches_own causes c u.reason u.is),
  (λ o. given_from causes each c o.from o.there (record { reason = o.reason; is = own o.is })),
)

not_true : (b : Bool) → (b ≡ true → ⊥) → b ≡ false
not_true true h = absurd (h refl)
not_true false h = refl

none_from : (causes : Causes) (c r : ℕ) → ((q : ℕ) → causes.own c q ≡ false) → ((d : ℕ) → causes.calls c d ≡ true → IsUnbounded causes d → ⊥)
    → IsReason causes c r → ⊥
none_from causes c r o b (own e) = let f : causes.own c r ≡ false = o r in cc
none_from causes c r o b (callee {d = d} {q = q} e g i) = b d e (record { reason = q; is = i })

-- a context has no reason exactly where it has none of its own and each context that it calls has none
pub bounded_call : BoundedCallTheBounded
bounded_call causes each c = (
  (λ none. ((λ r. not_true (causes.own c r) (λ e. none (record { reason = r; is = own e }))), (λ d e u. none (gives_one causes each c d e u)))),
  (λ h u. none_from causes c u.reason h.0 h.1 u.is),
)
