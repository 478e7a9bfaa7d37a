-- What is handed on along kept pieces holds of the least map, and a limit that covers the kept keys is never passed.
use Rattle.std.proofs.Common.{◌≡◌, ℕ, ◌≤◌, Bool, List, length, Option, Some, Ordering, IsTrue, refl}
use Rattle.flow_system.specs.Due.{IsHandedOn}
use Rattle.flow_system.specs.Laws.{IsLawful}
use Rattle.flow_system.specs.Rules.{Rules}
use Rattle.flow_system.proofs.Inductions.{graph_passes}
use Rattle.flow_core.specs.Refusal.{IsTooBig}
use Rattle.flow_core.specs.declared.refusals.GrowRefusal.{GrowRefusal}
use Rattle.flow_core.specs.declared.refusals.GrowRefusal.TheVariants.{Nodes, Want}
use Rattle.local_facts.specs.Handed.{IsHandedOnLocally}
use Rattle.local_facts.specs.Laws.{kept_listed, fits_whole, fits_kept, restricted_lawful}
use Rattle.local_facts.specs.Restricted.{is_listed, beside, restricted, IsRestriction, IsLeastLocal}
use Rattle.local_facts.proofs.Closing.{due_from_least}
use Rattle.local_facts.proofs.Room.{never_over}

module _ {K V : Type 0} (cmp : K → K → Ordering) (m : Rules K V) (law : IsLawful cmp m) (starts : List (K × V)) (keep : List K)
    (fixed : List (K × V)) (sound : IsRestriction cmp m starts keep fixed) where
  handed_on : (s : K → Option V) (test : K → V → Bool) → IsHandedOnLocally cmp m starts keep fixed s test
      → IsHandedOn (restricted cmp m starts keep fixed) s test
  handed_on s test on = record {
    starts = on.starts;
    greater = λ k v w fv fw. on.greater k v w (fits_whole cmp m law starts keep fixed sound k v fv) (fits_whole cmp m law starts keep fixed sound k w fw);
    given = λ j u found passes k v listed.
        let r = kept_listed (λ (piece : K × V). is_listed cmp keep piece.0) (m.gives j (beside cmp keep fixed s)) (k, v) listed in
        on.given j u found passes k v r.0 r.1;
  }

  -- each fact of the least map passes a test that is handed on
  pub least_passes : (s : K → Option V) (test : K → V → Bool) → IsLeastLocal cmp m starts keep fixed s
      → IsHandedOnLocally cmp m starts keep fixed s test → (k : K) (v : V) → s k ≡ Some v → IsTrue (test k v)
  least_passes s test least on = graph_passes cmp (restricted cmp m starts keep fixed) (restricted_lawful cmp m law starts keep fixed sound) s test
      (due_from_least cmp m law starts keep fixed sound s least) (handed_on s test on)

  -- where the limit covers the kept keys, only want of memory refuses
  pub want_alone : (limit : ℕ) → length keep ≤ limit → (refusal : GrowRefusal) → IsTooBig cmp (restricted cmp m starts keep fixed) limit refusal
      → refusal ≡ Want
  want_alone limit room (Nodes count) (one_more, over) =
      absurd (never_over cmp (restricted cmp m starts keep fixed) (restricted_lawful cmp m law starts keep fixed sound) keep
      (λ k v fits. fits_kept cmp m law starts keep fixed sound k v fits) limit over room)
  want_alone limit room Want too_big = refl
