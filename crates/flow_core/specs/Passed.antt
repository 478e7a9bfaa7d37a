-- A key that is pending no longer, though nobody looked at it.
use Rattle.std.specs.Prelude.{false}
use Rattle.std.specs.declared.cmp.Ordering.{Ordering}
use Rattle.flow_core.specs.Core.{CoreState}
use Rattle.flow_core.specs.Queue.{with_mark}

-- the key is no longer pending, and no claim of it is out
abbrev pub passed_over : {K V : Type 0} → (K → K → Ordering) → CoreState K V → K → CoreState K V
passed_over cmp s k = record {
  facts = s.facts;
  marks = with_mark cmp s.marks k false;
  out = s.out;
  readers = s.readers;
  count = s.count;
  limit = s.limit;
}
