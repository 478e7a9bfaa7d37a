-- Loops are weighed one after the other.
use Rattle.std.proofs.Common.{◌≡◌, ℕ, ◌+◌, ◌<◌, ◌≤◌, inl, inr, Bool, false, Some, List, length, set, sym, ap, subst, ◌∙◌, arith, Vec, Global}
use Rattle.std.specs.List.{slice_get}
use Rattle.std.proofs.lemmas.Bool.{cases_lt, ltb-false}
use Rattle.std.proofs.lemmas.List.{get_or-set_same, get_or-set_other}
use Rattle.std.proofs.lemmas.Option.{slice_get_within}
use Rattle.loop_nest.specs.LoopNest.{HeadsRise}
use Rattle.loop_nest.specs.declared.natural_loop.Loop.{Loop}
use Rattle.path_bound.specs.declared.stepping.Step.{Step}
use Rattle.path_bound.specs.Blamed.{is_marked, AreLarge}
use Rattle.path_bound.specs.Places.{place_of, loops_in}
use Rattle.path_bound.specs.Turning.{IsWeighed}
use Rattle.path_bound.proofs.Placed.{some_one, place_is, head_place}

module _ (edge : ℕ → ℕ → Bool) (loops : List Loop) (rise : HeadsRise loops) (node : List ℕ) (steps : List (Vec Step Global)) (laps : List ℕ)
    (large : List Bool) (place : ℕ) (one : Loop)
    (at : slice_get loops place ≡ Some one) (within : one.head < length large) (is : Bool)
    (weighed : IsWeighed edge (loops_in loops) one node steps laps is) where
  -- one loop more is weighed
  pub each_on : ((k : ℕ) (two : Loop) → k < place → slice_get loops k ≡ Some two
      → IsWeighed edge (loops_in loops) two node steps laps (is_marked large two.head))
      → (k : ℕ) (two : Loop) → k < place + 1 → slice_get loops k ≡ Some two
      → IsWeighed edge (loops_in loops) two node steps laps (is_marked (set large one.head is) two.head)
  each_on each k two l e = elim (cases_lt k place) [
    | inl a ↦
        let r : two.head < one.head = rise k place two one a e at in
        subst (λ (b : Bool). IsWeighed edge (loops_in loops) two node steps laps b)
        (sym (get_or-set_other large one.head two.head is false (λ q. omega (arith, q, r)))) (each k two a e)
    | inr a ↦
        let q : k ≡ place = omega (arith, l, a) in
        let s : one ≡ two = some_one (sym at ∙ (ap (slice_get loops) (sym q) ∙ e)) in
        subst (λ (x : Loop). IsWeighed edge (loops_in loops) x node steps laps (is_marked (set large one.head is) x.head)) s
        (subst (λ (b : Bool). IsWeighed edge (loops_in loops) one node steps laps b) (sym (get_or-set_same large one.head is false within)) weighed)
  ]

  -- the loops behind the next place aren't marked yet
  pub others_on : ((n : ℕ) → place ≤ place_of loops n → is_marked large n ≡ false) → (n : ℕ) → place + 1 ≤ place_of loops n
      → is_marked (set large one.head is) n ≡ false
  others_on others n l =
      get_or-set_other large one.head n is false
      (λ q. let p : place_of loops one.head ≡ place = place_is loops rise place one at in omega (arith, l, p, ap (place_of loops) q))
      ∙ others n (omega (arith, l))

-- in the end all loops are weighed
pub all_weighed : (edge : ℕ → ℕ → Bool) (loops : List Loop) (node : List ℕ) (steps : List (Vec Step Global)) (laps : List ℕ) (large : List Bool)
    (place : ℕ) → place ≡ length loops
    → ((k : ℕ) (two : Loop) → k < place → slice_get loops k ≡ Some two → IsWeighed edge (loops_in loops) two node steps laps (is_marked large two.head))
    → ((n : ℕ) → place ≤ place_of loops n → is_marked large n ≡ false) → AreLarge edge loops (loops_in loops) node steps laps (is_marked large)
all_weighed edge loops node steps laps large place e each others = record {
  each = λ k two g. each k two (let w : k < length loops = slice_get_within loops k two g in omega (arith, w, e)) g;
  others = λ n o. others n (let l : length loops ≤ place_of loops n =
      ltb-false (place_of loops n) (length loops) (sym (head_place loops n) ∙ o) in omega (arith, l, e));
}
