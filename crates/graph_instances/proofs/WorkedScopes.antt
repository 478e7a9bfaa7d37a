-- The laws of scopes at the worked graphs.
use Rattle.std.proofs.Common.{◌≡◌, ◌⊎◌, ◌||◌, ℕ, zero, suc, ◌≤◌, inl, inr, Bool, true, false, List, [], ◌∷◌, ◌++◌, refl, ap, subst, arith}
use Rattle.std.proofs.lemmas.Bool.Decides.{eqb_tells}
use Rattle.bt_base.specs.Graph.{has}
use Rattle.graph_laws.proofs.Nests.{part-sym, part-trans}
use Rattle.graph_laws.proofs.Scopes.{scopes_kept, whole_scope, body_scope, scope_one, chain_one, entries_one, entries_no_nest}
use Rattle.graph_laws.proofs.WorkedNests.{nested_is}
use Rattle.graph_laws.specs.Nest.{cut, SamePart, InScope, IsEntered, IsChain}
use Rattle.graph_laws.specs.Scope.{HoldsParts, HasTwoEntries, ComesNoEarlier, AreLeastEntries, AreFirstEntries}
use Rattle.graph_laws.specs.Walk.{IsWalk}
use Rattle.graph_laws.specs.Worked.{nested, below_three, one_or_two, two_ways}
use Rattle.graph_instances.specs.WorkedScopes.{InnerBodyKeepsItsPart, NestedLoopsAreAScope, OuterBodyIsAScope, LastNodeHasOneScope, InnerHeadHasOneChain, TwoWaysAreFirstEntries}

-- the inner body
in_three : (n : ℕ) → one_or_two n ≡ true → below_three n ≡ true
in_three zero i = cc
in_three (suc n) i = i

free_of_zero : (n : ℕ) → one_or_two n ≡ true → has (0 ∷ []) n ≡ false
free_of_zero n i = elim (eqb_tells n 0) [
  | inl a ↦ (let z : one_or_two 0 ≡ true = subst (λ (k : ℕ). one_or_two k ≡ true) a.1 i in cc)
  | inr a ↦ ap (λ (b : Bool). b || false) a.0
]

inner_holds : HoldsParts nested (0 ∷ []) one_or_two
inner_holds = record {
  scope = λ n i. (nested_is.body 0 n refl).0 (in_three n i);
  free = free_of_zero;
  whole = λ x y i p. (nested_is.body 1 y refl).1 (part-trans (cut nested (0 ∷ [])) 1 x y ((nested_is.body 1 x refl).0 i) p);
}

pub inner_kept : InnerBodyKeepsItsPart
inner_kept = record {
  holds = inner_holds;
  within = (scopes_kept nested (0 ∷ []) one_or_two inner_holds 1 2 refl).0 ((nested_is.body 1 2 refl).0 refl);
  apart = λ p.
      let z : one_or_two 0 ≡ true = (nested_is.body 1 0 refl).1 ((scopes_kept nested (0 ∷ []) one_or_two inner_holds 1 0 refl).1 p) in cc;
}

-- the whole graph
three_from : (n m : ℕ) → nested n m ≡ true → below_three n ≡ true
three_from zero m e = refl
three_from (suc zero) m e = refl
three_from (suc (suc zero)) m e = refl
three_from (suc (suc (suc n))) m e = cc

pub nested_scope : NestedLoopsAreAScope
nested_scope = record { leaves = three_from; scope = whole_scope nested below_three three_from }

-- the scope below the outer head
pub outer_scope : OuterBodyIsAScope
outer_scope = body_scope nested [] 0 below_three (λ n. nested_is.body 0 n refl)

-- the chain of both heads
both : IsChain nested 0 (1 ∷ 0 ∷ [])
both = nested_is.chain 1 refl

pub last_scope : LastNodeHasOneScope
last_scope =
    let inside : InScope nested (1 ∷ 0 ∷ []) 2 = (nested_is.body 1 2 refl).0 refl in
    record {
      chain = both;
      scope = inside;
      only = λ others c l s. scope_one nested 0 2 others (1 ∷ 0 ∷ []) c both l s inside;
    }

pub inner_chain : InnerHeadHasOneChain
inner_chain = record { chain = both; only = λ others c. chain_one nested 0 1 others (0 ∷ []) c both }

-- the loop that is entered at two nodes
round : SamePart (cut two_ways []) 1 2
round = record { there = record { between = []; walk = (refl, tt) }; back = record { between = []; walk = (refl, tt) } }

back_to_one : SamePart (cut two_ways []) 1 1
back_to_one = part-trans (cut two_ways []) 1 2 1 round (part-sym (cut two_ways []) 1 2 round)

never_back : (n : ℕ) (between : List ℕ) → IsWalk (cut two_ways []) n (between ++ 0 ∷ []) → ⊥
never_back zero [] w = let e : false ≡ true = w.0 in cc
never_back (suc zero) [] w = let e : false ≡ true = w.0 in cc
never_back (suc (suc zero)) [] w = let e : false ≡ true = w.0 in cc
never_back (suc (suc (suc n))) [] w = let e : false ≡ true = w.0 in cc
never_back n (b ∷ between) w = never_back b between w.1

-- no node of a part is 0
not_zero : (u n : ℕ) → SamePart (cut two_ways []) u n → 1 ≤ n
not_zero u zero p = absurd (never_back u p.there.between p.there.walk)
not_zero u (suc n) p = omega arith

from_outside : (n : ℕ) → two_ways 0 n ≡ true → SamePart (cut two_ways []) 1 n → IsEntered two_ways 0 [] 1 n
from_outside n e p = record { inside = p; comes = inr (record { from = 0; leads = e; outside = λ q. never_back 1 q.there.between q.there.walk }) }

one_or_above : (n : ℕ) → 1 ≤ n → (n ≡ 1) ⊎ (2 ≤ n)
one_or_above zero l = absurd (omega (arith, l))
one_or_above (suc zero) l = inl refl
one_or_above (suc (suc n)) l = inr (omega arith)

least_two : AreLeastEntries two_ways 0 [] 1 2
least_two = record {
  chain = tt;
  scope = tt;
  one = from_outside 1 refl back_to_one;
  two = from_outside 2 refl round;
  below = omega arith;
  least = λ n e. one_or_above n (not_zero 1 n e.inside);
}

no_earlier : (others : List ℕ) (u v w : ℕ) → HasTwoEntries two_ways 0 others u v w → ComesNoEarlier two_ways 0 1 others u
no_earlier [] u v w two = inr (refl, not_zero u)
no_earlier (h ∷ others) u v w two = inl (omega arith)

first_two : AreFirstEntries two_ways 0 1 2
first_two = record {
  heads = [];
  node = 1;
  entries = least_two;
  lowest = record { inside = back_to_one; least = not_zero 1 };
  first = no_earlier;
}

pub two_ways_entries : TwoWaysAreFirstEntries
two_ways_entries = record {
  entries = first_two;
  only = λ x y e. entries_one two_ways 0 x y 1 2 e first_two;
  none = entries_no_nest two_ways 0 1 2 first_two;
}
