use Rattle.std.proofs.Common.{◌∙◌}
use Rattle.local_facts.proofs.Searching.{found_is_listed}
use Rattle.local_facts.proofs.keeping.is_kept.Goals as goal

pub returns : goal.returns
returns g c = c.is_ok.ensures.value ∙ found_is_listed g.K.Ord.cmp g.met.K.Ord.total c.args.keep.now c.requires c.args.k c.binary_search.result
    c.binary_search.ensures.bound c.binary_search.ensures.position
