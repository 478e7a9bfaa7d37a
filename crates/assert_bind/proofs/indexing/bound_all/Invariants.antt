use Rattle.std.proofs.Common.{◌≡◌, All}
use Rattle.assert_bind.specs.Binding.{binding}
use Rattle.assert_bind.specs.Body.{SpeaksOfCodeIn}
use Rattle.assert_bind.specs.Index.{IsIndex, IsSound}
use Rattle.assert_bind.proofs.BindingLemmas.{left_of}
use Rattle.assert_bind.proofs.indexing.bound_all.Given as goal

-- the assertions so far are bound, and those that are left decide the rest
abbrev pub invariant-loop-assertion : goal.invariant-loop-assertion
invariant-loop-assertion l = record {
  same : binding l.fn.image l.fn.assertions ≡ left_of l.fn.image l.fn.assertions l.list.items l.assertion-index;
  index : IsIndex l.list.items l.places;
  sound : IsSound l.list.items;
  code : All (SpeaksOfCodeIn l.fn.image) l.list.items;
}
