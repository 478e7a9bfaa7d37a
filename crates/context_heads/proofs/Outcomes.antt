-- Loops with what bounds them, one after the other.
use Rattle.std.proofs.Common.{◌≡◌, ℕ, zero, suc, ◌+◌, ◌<◌, ◌≤◌, ◌⊎◌, List, [], ◌∷◌, ◌++◌, length, get_or, Option, Some, None, inl, inr, refl, sym, ap, subst, ◌∙◌, arith}
use Rattle.std.specs.Prelude.{All, IfSome, slice_get, nat_le, if◌then◌else◌, Bool, true, false}
use Rattle.std.proofs.lemmas.List.{length_push}
use Rattle.std.proofs.lemmas.Option.{slice_get-get_or, slice_get_within}
use Rattle.abs_state.specs.State.{State}
use Rattle.abs_state.specs.declared.head_bound.HeadBound.{HeadBound}
use Rattle.abs_state.specs.declared.key.Place.{Place}
use Rattle.assert_bind.specs.declared.body.BoundAssertion.{BoundAssertion}
use Rattle.assert_lang.specs.Bounds.{IsCount}
use Rattle.bt_base.specs.Graph.{is_edge}
use Rattle.context_bounds.specs.Heads.{AreHeadOutcomes, IsHeadOutcome}
use Rattle.context_bounds.specs.Low.{IsLow}
use Rattle.context_heads.specs.Passes.{CountsOne}
use Rattle.context_outcomes.specs.Heads.{by_of, passes_by}
use Rattle.counter_bound.specs.Change.{AreAdded}
use Rattle.counter_bound.specs.Counts.{HasNest, IsBoundOrNone}
use Rattle.counter_bound.specs.declared.change.Change.{Change}
use Rattle.counter_bound.specs.declared.change.Change.TheVariants.{Add}
use Rattle.graph_laws.specs.Loops.{Loops}
use Rattle.loop_nest.specs.LoopNest.{HeadsRise}
use Rattle.loop_nest.specs.declared.natural_loop.Loop.{Loop}
use Rattle.path_bound.proofs.Facts.{below}
use Rattle.path_bound.specs.Places.{AreLoopsBelow, loops_in}
use Rattle.wcet_report.specs.declared.loops.By.TheVariants.{Asserted, Counter}
use Rattle.wcet_report.specs.declared.loops.LoopOutcome.{LoopOutcome}

some_same : {X : Type 0} {x y : X} → Some x ≡ Some y → x ≡ y
some_same e = cc

none_some : {X : Type 0} {x : X} → None ≡ Some x → ⊥
none_some e = cc

-- what stands at a place of a list
pub get_there : {X : Type 0} (xs : List X) (k : ℕ) → k < length xs → (x : X) × (slice_get xs k ≡ Some x)
get_there [] k low = absurd (omega (arith, low))
get_there (x ∷ xs) zero low = (x, refl)
get_there (x ∷ xs) (suc k) low = get_there xs k (omega (arith, low))

-- low changes are added to cells
pub low_are_added : (changes : List Change) → All IsLow changes → AreAdded changes
low_are_added changes low n cell k at =
    let within : n < length changes = slice_get_within changes n (Add cell k) at in
    let same : get_or changes n (Add cell k) ≡ Add cell k = some_same (sym (slice_get-get_or changes n (Add cell k) within) ∙ at) in
    subst IsLow same (low n (Add cell k) within)

-- the bound of a head allows one pass at least
pub counts_one : (edge : ℕ → ℕ → Bool) (loops : Loops) (head : ℕ) (changes : List Change) (state : State) (counter : Option HeadBound)
    → IsBoundOrNone edge loops head changes state counter → IfSome counter CountsOne
counts_one edge loops head changes state None is = tt
counts_one edge loops head changes state (Some bound) is = let e = is.is.passes in omega (arith, e)

pub counter_of_some : (graph : List (List ℕ)) (nest : List Loop) (number : ℕ) (changes : List Change) (state : State) (counter : Option HeadBound) → number < length nest
    → ((one : Loop) → slice_get nest number ≡ Some one → IsBoundOrNone (is_edge graph) (loops_in nest) one.head changes state counter) → IfSome counter CountsOne
counter_of_some graph nest number changes state counter low is =
    let one = get_there nest number low in counts_one (is_edge graph) (loops_in nest) one.0.head changes state counter (is one.0 one.1)

-- so does the less of what counts and what is asserted
less_allows : (counter : HeadBound) (count : ℕ) (less : Bool) → 1 ≤ counter.passes → 1 ≤ count → IfSome (passes_by (if less then Counter counter else Asserted count)) (λ passes. 1 ≤ passes)
less_allows counter count true one other = one
less_allows counter count false one other = other

pub by_allows : (counter : Option HeadBound) (count : Option ℕ) → IfSome counter CountsOne → IfSome count IsCount → IfSome (passes_by (by_of counter count)) (λ passes. 1 ≤ passes)
by_allows None None one other = tt
by_allows None (Some count) one other = other.some
by_allows (Some counter) None one other = one
by_allows (Some counter) (Some count) one other = less_allows counter count (nat_le counter.passes count) one other.some

-- a loop's place is at most its head, since heads rise
pub place_low : (loops : List Loop) → HeadsRise loops → (k : ℕ) (one : Loop) → slice_get loops k ≡ Some one → k ≤ one.head
place_low loops rise zero one at = omega arith
place_low loops rise (suc k) one at =
    let within : suc k < length loops = slice_get_within loops (suc k) one at in
    let before = get_there loops k (omega (arith, within)) in
    let low : k ≤ before.0.head = place_low loops rise k before.0 before.1 in
    let less : before.0.head < one.head = rise k (suc k) before.0 one (omega arith) before.1 at in
    omega (arith, low, less)

-- the heads of a nest are nodes
pub head_within : (graph : List (List ℕ)) (loops : List Loop) → HasNest graph loops → (k : ℕ) (one : Loop) → slice_get loops k ≡ Some one → one.head < length graph
head_within graph loops nest k one at =
    let under : AreLoopsBelow (length graph) loops = below graph nest.entry loops nest.nest nest.reached in under.heads k one at

pub pushed : {X : Type 0} (xs : List X) (x : X) (k : ℕ) (y : X) → slice_get (xs ++ x ∷ []) k ≡ Some y → (slice_get xs k ≡ Some y) ⊎ ((k ≡ length xs) × (x ≡ y))
pushed [] x zero y e = inr (refl, some_same e)
pushed [] x (suc k) y e = absurd (none_some e)
pushed (z ∷ zs) x zero y e = inl e
pushed (z ∷ zs) x (suc k) y e = elim (pushed zs x k y e) [ inl a ↦ inl a | inr b ↦ inr (ap suc b.0, b.1) ]

module _ (graph : List (List ℕ)) (nodes : List Place) (loops : List Loop) (changes : List Change) (left : Place → Option State) (binding : List BoundAssertion) where
  -- one more
  pub one_more : (many : ℕ) (list : List LoopOutcome) (one : Loop) (outcome : LoopOutcome) → AreHeadOutcomes graph nodes loops changes left binding many list
      → slice_get loops many ≡ Some one → IsHeadOutcome graph nodes loops changes left binding one outcome
      → AreHeadOutcomes graph nodes loops changes left binding (many + 1) (list ++ outcome ∷ [])
  one_more many list one outcome are at is = record {
    count = let long = length_push list outcome in omega (arith, long, are.count);
    each = λ k other told here there. elim (pushed list outcome k told there) [
      | inl old ↦ are.each k other told here old
      | inr new ↦
          let place : k ≡ many = new.0 ∙ are.count in
          let same : one ≡ other = some_same (sym at ∙ (ap (slice_get loops) (sym place) ∙ here)) in
          subst (λ (l : Loop). IsHeadOutcome graph nodes loops changes left binding l told) same
          (subst (λ (o : LoopOutcome). IsHeadOutcome graph nodes loops changes left binding one o) new.1 is)
    ];
  }
