use Rattle.std.proofs.Common.{arith}
use Rattle.shard_slots.proofs.Means.{is_home, is_out, finds_all, closes, words_are_bits, unheld, has_holder, one_holder, holders_weigh}
use Rattle.shard_slots.proofs.laws.parts_have_one_holder.Goals as goal

pub returns : goal.returns
returns g c = record {
  words = words_are_bits;
  home = λ t n kept near one. let home = is_home t n kept near (omega arith) in record { part = home.part; slot = home.slot };
  unheld = unheld;
  empty = λ t n kept near none. (is_out t n kept near (λ e. omega arith)).slot;
  held = has_holder;
  one = one_holder;
  heavy = holders_weigh;
  all = finds_all;
  closing = closes;
}
