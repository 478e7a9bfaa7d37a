-- The greatest cost of a context is determined, and so is the program point that is named where it is too large.
use Rattle.std.proofs.Common.{◌≡◌, ℕ, ◌<◌, ◌≤◌, Bool, true, List, inl, inr, sym, ap, subst, ◌∙◌, arith}
use Rattle.abs_state.specs.declared.key.Place.{Place}
use Rattle.bt_base.specs.Graph.{is_edge}
use Rattle.context_answers.proofs.Lists.{one_place}
use Rattle.context_answers.proofs.LoopsOnce.{same_bounds, same_loops}
use Rattle.context_answers.proofs.OutcomesOnce.{bounds_once, outcomes_once}
use Rattle.context_outcomes.specs.Bounding.{AreBounded, IsGreatest, IsTooLargeAt}
use Rattle.context_outcomes.specs.Heads.{AreHeadBounds}
use Rattle.context_outcomes.specs.Inside.{Inside}
use Rattle.context_outcomes.specs.Setting.{Setting}
use Rattle.context_outcomes.specs.Spending.{Callees, costs_of}
use Rattle.graph_laws.specs.Loops.{IsGreatestCost, Loops, edges_inside}
use Rattle.graph_laws.specs.Walk.{Costs}
use Rattle.loop_nest.specs.declared.natural_loop.Loop.{Loop}
use Rattle.path_bound.specs.Capped.{limit}
use Rattle.path_bound.specs.LongWalk.{IsBlamed, IsNamed}
use Rattle.path_bound.specs.Places.{bound_in, loops_in}
use Rattle.wcet_report.specs.declared.context.Context.{Context}
use Rattle.wcet_report.specs.declared.loops.LoopOutcome.{LoopOutcome}

no_more : (edge : ℕ → ℕ → Bool) (n : ℕ) (loops : Loops) (bound : ℕ → ℕ) (costs : Costs) (a b : ℕ) → IsGreatestCost edge n loops bound costs a
    → IsGreatestCost edge n loops bound costs b → a ≤ b
no_more edge n loops bound costs a b one two =
    let most = two.most one.attained.rest one.attained.walk one.attained.keeps in let spends = one.attained.spends in omega (arith, most, spends)

-- walks have one greatest cost
pub greatest_once : (edge : ℕ → ℕ → Bool) (n : ℕ) (loops : Loops) (bound : ℕ → ℕ) (costs : Costs) (a b : ℕ) → IsGreatestCost edge n loops bound costs a
    → IsGreatestCost edge n loops bound costs b → a ≡ b
greatest_once edge n loops bound costs a b one two =
    let up = no_more edge n loops bound costs a b one two in let down = no_more edge n loops bound costs b a two one in omega (arith, up, down)

-- heads are blamed by their own costs alone
blamed_too : (loops : Loops) (own other : ℕ → ℕ) → ((h : ℕ) → loops.has h ≡ true → own h ≡ other h) → (h : ℕ) → IsBlamed loops own h → IsBlamed loops other h
blamed_too loops own other same h is = record {
  head = is.head;
  large = let e = same h is.head in let l = is.large in omega (arith, e, l);
  inner = λ k has body apart. let e = same k has in let l = is.inner k has body apart in omega (arith, e, l);
}

-- the node that is named is determined
pub named_once : (loops : Loops) (own other : ℕ → ℕ) (entry n m : ℕ) → ((h : ℕ) → loops.has h ≡ true → own h ≡ other h)
    → IsNamed loops own entry n → IsNamed loops other entry m → n ≡ m
named_once loops own other entry n m same (inl one) (inl two) =
    let down = one.1 m (blamed_too loops other own (λ h has. sym (same h has)) m two.0) in
    let up = two.1 n (blamed_too loops own other same n one.0) in
    omega (arith, down, up)
named_once loops own other entry n m same (inl one) (inr two) = absurd (two.1 n (blamed_too loops own other same n one.0))
named_once loops own other entry n m same (inr one) (inl two) = absurd (one.1 m (blamed_too loops other own (λ h has. sym (same h has)) m two.0))
named_once loops own other entry n m same (inr one) (inr two) = one.0 ∙ sym two.0

module _ (S : Setting) {sub : ℕ} {context : Context} (within : Inside S sub context) (callees : Callees) where
  module _ (one two : List Loop) (xs ys : List ℕ) (first : AreBounded S within one xs) (second : AreBounded S within two ys) where
    loops_are : loops_in one ≡ loops_in two
    loops_are = same_loops (is_edge within.shape.graph) within.shape.entry one two first.nest second.nest

    bounds_are : bound_in one xs ≡ bound_in two ys
    bounds_are =
        let outcomes : first.outcomes ≡ second.outcomes =
        outcomes_once S within one two first.nest second.nest first.outcomes second.outcomes first.each second.each in
        let same : xs ≡ ys = bounds_once second.outcomes xs ys (subst (λ (o : List LoopOutcome). AreHeadBounds o xs) outcomes first.passes) second.passes in
        same_bounds (is_edge within.shape.graph) within.shape.entry one two first.nest second.nest xs ∙ ap (bound_in two) same

    -- walks cost the same by either list of loops
    over : (edge : ℕ → ℕ → Bool) (n a : ℕ) → IsGreatestCost edge n (loops_in two) (bound_in two ys) (costs_of S within.shape callees) a
        → IsGreatestCost edge n (loops_in one) (bound_in one xs) (costs_of S within.shape callees) a
    over edge n a is =
        subst (λ (bound : ℕ → ℕ). IsGreatestCost edge n (loops_in one) bound (costs_of S within.shape callees) a) (sym bounds_are)
        (subst (λ (L : Loops). IsGreatestCost edge n L (bound_in two ys) (costs_of S within.shape callees) a) (sym loops_are) is)

    pub walks_once : (a b : ℕ) → IsGreatestCost (is_edge within.shape.graph) within.shape.entry (loops_in one) (bound_in one xs) (costs_of S within.shape callees) a
        → IsGreatestCost (is_edge within.shape.graph) within.shape.entry (loops_in two) (bound_in two ys) (costs_of S within.shape callees) b → a ≡ b
    walks_once a b is too =
        greatest_once (is_edge within.shape.graph) within.shape.entry (loops_in one) (bound_in one xs) (costs_of S within.shape callees) a b is
        (over (is_edge within.shape.graph) within.shape.entry b too)

    own_once : (own other : ℕ → ℕ)
        → ((h : ℕ) → (loops_in one).has h ≡ true
        → IsGreatestCost (edges_inside (is_edge within.shape.graph) ((loops_in one).body h)) h (loops_in one) (bound_in one xs) (costs_of S within.shape callees) (own h))
        → ((h : ℕ) → (loops_in two).has h ≡ true
        → IsGreatestCost (edges_inside (is_edge within.shape.graph) ((loops_in two).body h)) h (loops_in two) (bound_in two ys) (costs_of S within.shape callees) (other h))
        → (h : ℕ) → (loops_in one).has h ≡ true → own h ≡ other h
    own_once own other owns others h has =
        let there : (loops_in two).has h ≡ true = ap (λ (L : Loops). L.has h) (sym loops_are) ∙ has in
        let body : IsGreatestCost (edges_inside (is_edge within.shape.graph) ((loops_in one).body h)) h (loops_in two) (bound_in two ys) (costs_of S within.shape callees) (other h) =
        subst (λ (L : Loops). IsGreatestCost (edges_inside (is_edge within.shape.graph) (L.body h)) h (loops_in two) (bound_in two ys) (costs_of S within.shape callees) (other h))
        (sym loops_are) (others h there) in
        greatest_once (edges_inside (is_edge within.shape.graph) ((loops_in one).body h)) h (loops_in one) (bound_in one xs) (costs_of S within.shape callees) (own h)
        (other h) (owns h has) (over (edges_inside (is_edge within.shape.graph) ((loops_in one).body h)) h (other h) body)

    pub named_same : (own other : ℕ → ℕ) (n m : ℕ)
        → ((h : ℕ) → (loops_in one).has h ≡ true
        → IsGreatestCost (edges_inside (is_edge within.shape.graph) ((loops_in one).body h)) h (loops_in one) (bound_in one xs) (costs_of S within.shape callees) (own h))
        → ((h : ℕ) → (loops_in two).has h ≡ true
        → IsGreatestCost (edges_inside (is_edge within.shape.graph) ((loops_in two).body h)) h (loops_in two) (bound_in two ys) (costs_of S within.shape callees) (other h))
        → IsNamed (loops_in one) own within.shape.entry n → IsNamed (loops_in two) other within.shape.entry m → n ≡ m
    named_same own other n m owns others is too =
        named_once (loops_in one) own other within.shape.entry n m (own_once own other owns others) is
        (subst (λ (L : Loops). IsNamed L other within.shape.entry m) (sym loops_are) too)

  -- the program point that is named is determined
  pub large_once : (p q : Place) → IsTooLargeAt S within callees p → IsTooLargeAt S within callees q → p ≡ q
  large_once p q one two =
      one_place within.shape.nodes p q one.node two.node
      (named_same one.large.loops two.large.loops one.large.bounds two.large.bounds one.large.bounded two.large.bounded one.large.own two.large.own one.node two.node
      one.large.owns two.large.owns one.large.named two.large.named)
      one.is two.is

  -- a cost that is told isn't too large
  pub told_not_large : (cost : ℕ) (p : Place) → IsGreatest S within callees cost → cost < limit → IsTooLargeAt S within callees p → ⊥
  told_not_large cost p is told large =
      let same : is.walks ≡ large.large.walks =
      walks_once is.loops large.large.loops is.bounds large.large.bounds is.bounded large.large.bounded is.walks large.large.walks is.greatest large.large.greatest in
      let e = is.is in let most = large.large.large in omega (arith, same, e, most, told)
