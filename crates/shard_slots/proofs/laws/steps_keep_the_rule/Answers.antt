use Rattle.shard_slots.proofs.Keeps.{opening_keeps, splits_keep, joins_keep, takes_keep, misses_keep, puts_keep, loads_keep}
use Rattle.shard_slots.proofs.laws.steps_keep_the_rule.Goals as goal

pub returns : goal.returns
returns g c = record {
  opening = opening_keeps;
  split = splits_keep;
  join = joins_keep;
  take = takes_keep;
  miss = misses_keep;
  put = puts_keep;
  load = loads_keep;
}
