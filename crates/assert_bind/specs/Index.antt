-- The index of a list of bound assertions: where the one about each subject stands.
use Rattle.std.specs.Prelude.{◌≡◌, ℕ, ℤ, ◌<◌, false, List, length, Option, Some, None, slice_get, All}
use Rattle.std.specs.BTreeMap.{BTreeMap, get}
use Rattle.std.specs.List.{AllPairs}
use Rattle.std.specs.declared.cmp.Ordering.{Ordering}
use Rattle.assert_lang.specs.Bounds.{IsCount}
use Rattle.assert_bind.specs.Binding.{about, roots, stubs, loops, ends}
use Rattle.assert_bind.specs.Body.{SaysWithin}
use Rattle.assert_bind.specs.Subject.{subject_of, is_same}
use Rattle.assert_bind.specs.contracts.subject.SubjectOrd.TheImpl as subject_ord
use Rattle.assert_bind.specs.declared.body.BoundAssertion.{BoundAssertion}
use Rattle.assert_bind.specs.declared.body.LoopLine.{LoopLine}
use Rattle.assert_bind.specs.declared.subject.Subject.{Subject}

-- the order of subjects
abbrev pub subject_cmp : Subject → Subject → Ordering
subject_cmp = (subject_ord.ghosts).cmp

-- the assertion about a subject stands at a place of the list, or there is none
abbrev pub IsPlace : List BoundAssertion → Subject → Option ℕ → Type 0
IsPlace list subject None = about list subject ≡ None
IsPlace list subject (Some k) = (k < length list) × (about list subject ≡ slice_get list k)

-- the index has the place of each subject
abbrev pub IsIndex : List BoundAssertion → BTreeMap Subject ℕ → Type 0
IsIndex list places = (subject : Subject) → IsPlace list subject (get subject_cmp places subject)

-- two assertions speak of different things
abbrev pub AreApart : BoundAssertion → BoundAssertion → Type 0
AreApart x y = is_same (subject_of x.body) (subject_of y.body) ≡ false

-- assertions with numbers in their limits, no two of them about the same
pub record IsSound (list : List BoundAssertion) : Type 0 where
  pub within : All SaysWithin list
  pub apart : AllPairs AreApart list

-- a list of bound assertions with its index, and what is read off it once
pub record IsBinding (list : List BoundAssertion) (places : BTreeMap Subject ℕ) (root_entries stub_entries : List ℕ)
    (loop_lines : List LoopLine) (range_ends : List ℤ) : Type 0 where
  pub sound : IsSound list
  pub index : IsIndex list places
  pub rooted : root_entries ≡ roots list
  pub stubbed : stub_entries ≡ stubs list
  pub looped : loop_lines ≡ loops list
  pub ended : range_ends ≡ ends list

-- the count of a loop is one
abbrev pub CountsWithin : LoopLine → Type 0
CountsWithin line = IsCount line.count
