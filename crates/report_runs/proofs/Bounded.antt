-- A run from a root with a bound spends at most that bound.
use Rattle.std.proofs.Common.{◌≡◌, ◌≢◌, ◌∙◌, ℕ, zero, suc, ◌+◌, ◌≤◌, true, List, [], ◌∷◌, Option, Some, None, refl, ap, subst, arith}
use Rattle.std.specs.Prelude.{Contains, is_some}
use Rattle.std.proofs.lemmas.Bool.{false≢true}
use Rattle.assert_bind.specs.Binding.{roots}
use Rattle.context_outcomes.specs.Outcomes.{AreOutcomes}
use Rattle.context_outcomes.specs.Setting.{Setting}
use Rattle.context_runs.specs.Contexts.{Contexts}
use Rattle.context_runs.specs.Joined.{HaveSpent}
use Rattle.frame_laws.specs.Context.{In}
use Rattle.outcome_runs.proofs.Spending.{bounded_runs_spend}
use Rattle.outcome_runs.proofs.Ungapped.{bounded_roots_meet_no_gap}
use Rattle.outcome_runs.specs.Family.{context_of, contexts_of, root_of}
use Rattle.outcome_runs.specs.Laws.{HasBoundAt}
use Rattle.outcome_runs.specs.Told.{Entry, IsKnown, IsRootAt, Told}
use Rattle.report_runs.proofs.Rooted.{root_told}
use Rattle.report_runs.specs.Runs.{IsRunIn, SpendsAtMost}
use Rattle.sparc_machine.specs.Frame.{Config, Frame, Transfer, Stays, Calls, Returns, config_after, config_from, first_config, frames_after, frames_at, root_frame}
use Rattle.sparc_machine.specs.declared.machine.Machine.{Machine}
use Rattle.wcet_report.specs.Report.{root_bound}
use Rattle.wcet_report.specs.declared.outcome.Outcomes.{Outcomes}

-- ---- the lowest frame of a stack

-- it is this one, if there is a frame
abbrev EndsIn : Frame → List Frame → Type 0
EndsIn r [] = Unit {0}
EndsIn r (f ∷ []) = f ≡ r
EndsIn r (f ∷ g ∷ rest) = EndsIn r (g ∷ rest)

ends_after : (r : Frame) (due : Transfer) (m : Machine) (frames : List Frame) → EndsIn r frames → EndsIn r (frames_after due m frames)
ends_after r Stays m frames ends = ends
ends_after r (Calls target address) m [] ends = tt
ends_after r (Calls target address) m (top ∷ rest) ends = ends
ends_after r Returns m [] ends = tt
ends_after r Returns m (f ∷ []) ends = tt
ends_after r Returns m (f ∷ g ∷ rest) ends = ends

ends_from : (image : List ℕ) (r : Frame) (c : Config) (rest : List Machine) (i : ℕ) → EndsIn r c.frames → EndsIn r (config_from image c rest i).frames
ends_from image r c rest zero ends = ends
ends_from image r c [] (suc i) ends = ends
ends_from image r c (next ∷ rest) (suc i) ends =
    ends_from image r (config_after image c next) rest i (ends_after r c.due next c.frames ends)

-- at each place of a run it is the root's
ends_at : (image : List ℕ) (first : Machine) (rest : List Machine) (i : ℕ) → EndsIn (root_frame first) (frames_at image first rest i)
ends_at image first rest i = ends_from image (root_frame first) (first_config first) rest i refl

no_end : (f : Frame) (rest : List Frame) → f ∷ rest ≢ []
no_end f rest e = cc

-- it has spent at most the bound of its context
lowest_spent : (F : Contexts) (cycles most c : ℕ) (r : Frame) (frames : List Frame) → EndsIn r frames → frames ≢ [] → F.roots r.sub ≡ In c
    → (F.family c).most ≡ Some most → HaveSpent F cycles frames → cycles ≤ r.start.cycles + most
lowest_spent F cycles most c r [] ends some is has spent = absurd (some refl)
lowest_spent F cycles most c r (f ∷ []) ends some is has spent =
    subst (λ (g : Frame). cycles ≤ g.start.cycles + most) ends (spent.0 c most (ap (λ (g : Frame). F.roots g.sub) ends ∙ is) has)
lowest_spent F cycles most c r (f ∷ g ∷ rest) ends some is has spent =
    lowest_spent F cycles most c r (g ∷ rest) ends (no_end g rest) is has spent.1

-- ---- the root's context

some_of : (o : Option ℕ) → is_some o ≡ true → (c : ℕ) × (o ≡ Some c)
some_of None there = absurd (false≢true there)
some_of (Some c) there = (c, refl)

module _ (S : Setting) (outcomes : Outcomes) (are : AreOutcomes S outcomes) (told : Told S outcomes.list) (known : IsKnown S) where
  -- a root whose context has this bound
  record IsBounded (r bound : ℕ) : Type 0 where
    place : ℕ
    at : told.root r ≡ Some place
    is : IsRootAt told.entries r place
    bound_is : is.entry.outcome.bound ≡ Some bound

  bounded : (r bound : ℕ) → Contains outcomes.roots r → root_bound outcomes.list r ≡ Some bound → IsBounded r bound
  bounded r bound among shown =
      let rooted : Contains (roots S.binding) r = subst (λ (list : List ℕ). Contains list r) are.entries among in
      let c = some_of (told.root r) (told.all r rooted) in
      let is = told.begins r c.0 c.1 in
      record { place = c.0; at = c.1; is = is; bound_is = root_told S outcomes are told r c.0 bound is shown }

  has_bound : (r bound : ℕ) → IsBounded r bound → HasBoundAt told r
  has_bound r bound b = record { place = b.place; at = b.at; is = b.is; bounded = ap is_some b.bound_is }

  most_is : (r bound : ℕ) (b : IsBounded r bound) → ((contexts_of told).family b.place).most ≡ Some bound
  most_is r bound b = ap (λ (o : Option (Entry S)). (context_of told b.place o).most) b.is.at ∙ b.bound_is

  pub spends_at_most : (r bound : ℕ) (first : Machine) (rest : List Machine) → Contains outcomes.roots r → root_bound outcomes.list r ≡ Some bound
      → IsRunIn told r first rest → SpendsAtMost S first rest bound
  spends_at_most r bound first rest among shown run =
      let b = bounded r bound among shown in
      let has = has_bound r bound b in
      let stands : (contexts_of told).roots (root_frame first).sub ≡ In b.place =
      ap (λ (n : ℕ). root_of told (told.root n)) run.begins.pc ∙ ap (root_of told) b.at in
      record {
        no_gap = bounded_roots_meet_no_gap S outcomes.list told known r first rest run has;
        spends = λ place low some plain.
            lowest_spent (contexts_of told) _ bound b.place (root_frame first) (frames_at S.image first rest place) (ends_at S.image first rest place) some stands
            (most_is r bound b) ((bounded_runs_spend S outcomes.list told known r first rest run has place low).0.spend plain);
        pops = λ place low due alone.
            (bounded_runs_spend S outcomes.list told known r first rest run has place (omega (arith, low))).1 low (root_frame first) [] b.place bound due alone stands
            (most_is r bound b);
      }
