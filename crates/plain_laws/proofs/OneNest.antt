-- The loops of a graph with a nest are one, whatever list has them, so that walks keep the same bounds.
use Rattle.std.proofs.Common.{◌≡◌, ℕ, ◌<◌, ◌≤◌, Bool, true, false, List, ◌∷◌, length, inl, inr, sym, ap, subst, ◌∙◌}
use Rattle.std.specs.Prelude.{Option}
use Rattle.std.proofs.lemmas.Bool.{cases_Bool, ltb-false, ltb-true}
use Rattle.std.proofs.lemmas.Option.{slice_get_past}
use Rattle.graph_laws.proofs.Nests.{one_nest}
use Rattle.graph_laws.specs.Loops.{CostAtMost, IsAttained, KeepsBounds}
use Rattle.graph_laws.specs.Nest.{AreSame}
use Rattle.graph_laws.specs.Walk.{AreInside, Costs, passes}
use Rattle.loop_nest.specs.LoopNest.{IsLoopNest, is_head}
use Rattle.loop_nest.specs.declared.natural_loop.Loop.{Loop}
use Rattle.path_bound.proofs.Placed.{head_place, place_reads}
use Rattle.path_bound.specs.Places.{bound_in, held, loops_in, place_of}

-- a head has a place among the loops
pub head_low : (loops : List Loop) (h : ℕ) → is_head loops h ≡ true → place_of loops h < length loops
head_low loops h there = ltb-true (place_of loops h) (length loops) (sym (head_place loops h) ∙ there)

module _ (edge : ℕ → ℕ → Bool) (entry : ℕ) where
  -- the body of a head's loop is that of the nest
  body_of : (loops : List Loop) (is : IsLoopNest edge entry loops) (h n : ℕ) → is_head loops h ≡ true → (loops_in loops).body h n ≡ is.nest.body h n
  body_of loops is h n there =
      let at = place_reads loops h (head_low loops h there) in
      ap (λ (o : Option Loop). held o n) at.at
      ∙ ((is.each (place_of loops h) at.one at.at).body n ∙ ap (λ (k : ℕ). is.nest.body k n) at.head)

  -- and another node has none
  body_out : (loops : List Loop) (h n : ℕ) → is_head loops h ≡ false → (loops_in loops).body h n ≡ false
  body_out loops h n other =
      let past : length loops ≤ place_of loops h = ltb-false (place_of loops h) (length loops) (sym (head_place loops h) ∙ other) in
      ap (λ (o : Option Loop). held o n) (slice_get_past loops (place_of loops h) past)

  module _ (xs ys : List Loop) (one : IsLoopNest edge entry xs) (two : IsLoopNest edge entry ys) where
    nest_same : AreSame one.nest two.nest
    nest_same = one_nest edge entry one.nest two.nest one.is two.is

    -- the same heads
    pub heads_one : (h : ℕ) → is_head xs h ≡ is_head ys h
    heads_one h = sym (one.heads h) ∙ (nest_same.has h ∙ two.heads h)

    -- and bodies
    pub bodies_one : (h n : ℕ) → (loops_in xs).body h n ≡ (loops_in ys).body h n
    bodies_one h n =
        elim (cases_Bool (is_head xs h)) [
          | inl there ↦
              body_of xs one h n there
              ∙ (nest_same.body h n (one.heads h ∙ there) ∙ sym (body_of ys two h n (sym (heads_one h) ∙ there)))
          | inr other ↦ body_out xs h n other ∙ sym (body_out ys h n (sym (heads_one h) ∙ other))
        ]

    pub loops_one : loops_in xs ≡ loops_in ys
    loops_one = λ i. record { has = λ h. heads_one h i; body = λ h n. bodies_one h n i }

    -- a walk that keeps the bounds of the one keeps those of the other, where these are the same
    module _ (bs cs : List ℕ) (bounds : (h : ℕ) → is_head xs h ≡ true → bound_in xs bs h ≡ bound_in ys cs h) where
      pub keeps_too : (walk : List ℕ) → KeepsBounds (loops_in xs) (bound_in xs bs) walk → KeepsBounds (loops_in ys) (bound_in ys cs) walk
      keeps_too walk keeps = record {
        kept = λ h before stretch after there split inside.
            let head : is_head xs h ≡ true = heads_one h ∙ there in
            let within : AreInside ((loops_in xs).body h) stretch =
            subst (λ (body : ℕ → Bool). AreInside body stretch) (sym (λ i n. bodies_one h n i)) inside in
            subst (λ (n : ℕ). passes h stretch ≤ n) (bounds h head) (keeps.kept h before stretch after head split within);
      }

      -- what a walk spends that keeps the one is at most what all spend that keep the other
      pub attained_below : (costs : Costs) (cost most : ℕ) → IsAttained edge entry (loops_in xs) (bound_in xs bs) costs cost
          → CostAtMost edge entry (loops_in ys) (bound_in ys cs) costs most → cost ≤ most
      attained_below costs cost most attained all =
          subst (λ (n : ℕ). n ≤ most) attained.spends (all attained.rest attained.walk (keeps_too (entry ∷ attained.rest) attained.keeps))
