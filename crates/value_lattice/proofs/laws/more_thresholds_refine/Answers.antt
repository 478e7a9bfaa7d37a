use Rattle.std.specs.Prelude.{Contains}
use Rattle.value_lattice.specs.Value.{IsBetween}
use Rattle.value_lattice.proofs.OrderLemmas.{join_is_monotone}
use Rattle.value_lattice.proofs.ValueLemmas.{least_is_monotone}
use Rattle.value_lattice.proofs.laws.more_thresholds_refine.Goals as goal

pub returns : goal.returns
returns c = record {
  cover = λ t more list wider v u in_more in_wider over less. least_is_monotone t more (Contains list) (Contains wider) u v in_more.thresholds
      (λ w word has. in_wider w has) less over;
  span = λ t more low high lower higher v u in_more in_wider over less. least_is_monotone t more (IsBetween low high)
      (IsBetween lower higher) u v in_more.thresholds (λ w word has. in_wider w has) less over;
  join = join_is_monotone;
}
