-- Heads whose bounds no counter shows have asserted ones.
use Rattle.std.proofs.Common.{◌≡◌, ℕ, ◌≤◌, Bool, true, false, List, Option, Some, None, refl, sym, ap, subst, ◌∙◌, arith}
use Rattle.std.specs.Prelude.{slice_get}
use Rattle.std.proofs.lemmas.Bool.{false≢true}
use Rattle.abs_state.specs.declared.key.Place.{Place}
use Rattle.assert_bind.specs.Binding.{repeats}
use Rattle.counted_runs.specs.Asserted.{IsAsserted}
use Rattle.wcet_report.specs.declared.outcome.Outcome.{Outcome}
use Rattle.context_outcomes.specs.Setting.{Setting}
use Rattle.outcome_runs.proofs.Heads.{asserted_head}
use Rattle.outcome_runs.proofs.Numbering.{number_reads}
use Rattle.outcome_runs.specs.Family.{Looped, address_in, bounds_of, context_of, contexts_of, counters_of, looped, loops_of, pc_of}
use Rattle.outcome_runs.specs.Laws.{OutcomesAreAsserted}
use Rattle.outcome_runs.specs.Told.{Entry, Told}

module _ (S : Setting) (list : List Outcome) (told : Told S list) where
  asserted_at : (c : ℕ) (o : Option (Entry S)) (h : ℕ) → (context_of told c o).loops.has h ≡ true → (context_of told c o).counter h ≡ None
      → IsAsserted S.binding (address_in told o h) ((context_of told c o).bound h)
  asserted_at c None h there none = absurd (false≢true there)
  asserted_at c (Some one) h there none = by (looped one) there none where
    by : (l : Option (Looped S one.is.within)) → (loops_of S one.is.within l).has h ≡ true → counters_of S one.is.within l h ≡ None
        → IsAsserted S.binding (pc_of told (slice_get one.is.within.shape.nodes h)) (bounds_of S one.is.within l h)
    by None there none = absurd (false≢true there)
    by (Some l) there none =
        let a = asserted_head S one.is.within l h there none in
        let at : slice_get one.is.within.shape.nodes h ≡ Some a.head.outcome.head =
        ap (slice_get one.is.within.shape.nodes) (sym a.head.head)
        ∙ number_reads one.is.within.shape.nodes a.head.outcome.head a.head.one.head a.head.is.head in
        let most = a.most in
        record { count = a.count; is = ap (λ (o : Option Place). repeats S.binding (pc_of told o)) at ∙ a.told; less = omega (arith, most) }

pub outcomes_are_asserted : OutcomesAreAsserted
outcomes_are_asserted S list told c h there none = asserted_at S list told c (slice_get told.entries c) h there none
