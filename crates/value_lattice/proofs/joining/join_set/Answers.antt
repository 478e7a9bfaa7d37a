use Rattle.value_lattice.proofs.JoinLemmas.{join_of_ret, join_flip}
use Rattle.value_lattice.proofs.ValueLemmas.{no_set_in_ret}
use Rattle.value_lattice.specs.declared.value.Value.TheVariants.{Words, Ret}
use Rattle.value_lattice.proofs.joining.join_set.Goals as goal

pub returns-in-Ret : goal.returns-in-Ret
returns-in-Ret c =
    rw c.in-Ret.is
    (join_flip c.args.t.now Ret (Words c.args.set.now) c.range_between.result
    (join_of_ret c.args.t.now (Words c.args.set.now) c.range_between.result (no_set_in_ret c.args.set.now c.requires.set.value) c.range_between.ensures))
