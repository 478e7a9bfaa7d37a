use Rattle.std.proofs.Common.{◌≡◌, Option, subst}
use Rattle.std.specs.Prelude.{IfOk}
use Rattle.value_lattice.specs.declared.value.Value.{Value}
use Rattle.transfer_values.proofs.CodeLemmas.{loaded_words, loaded_range, loaded_ret}
use Rattle.transfer_values.proofs.sources.loaded.Goals as goal

pub returns-in_ok-addresses-in-Words : goal.returns-in_ok-addresses-in-Words
returns-in_ok-addresses-in-Words c =
    subst (λ (o : Option Value). IfOk c.loaded_from.result (λ r. r ≡ o))
    (loaded_words c.args.t.now c.args.image.now c.in-Words.words c.members.result.now c.in_ok-addresses-in-Words.addresses.items
    c.as_slice.result.now c.args.address.now
    c.in-Words.is c.members.ensures.words c.in_ok-addresses-in-Words.ensures c.as_slice.ensures.value) c.loaded_from.ensures

pub returns-in-Range : goal.returns-in-Range
returns-in-Range c = loaded_range c.args.t.now c.args.image.now c.in-Range.lo c.in-Range.hi c.args.address.now c.top.result c.in-Range.is c.top.ensures.range

pub returns-in-Ret : goal.returns-in-Ret
returns-in-Ret c = loaded_ret c.args.t.now c.args.image.now c.args.address.now c.top-in-Ret.result c.in-Ret.is c.top-in-Ret.ensures.range
