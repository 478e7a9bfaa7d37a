use Rattle.std.proofs.Common.{◌≡◌, ◌∙◌}
use Rattle.part_pool.proofs.Holdings.{holding_onward}
use Rattle.part_pool.proofs.holding.every_holding_is_good.Goals as goal

pub returns-clause-good : goal.returns-clause-good
returns-clause-good g c = λ number limit events first last kept run.
    let onward = holding_onward g.S.Key.Ord.cmp (g.S.System.rules c.args._system.now) kept.lawful (λ k. g.S.Parted.part_of c.args._system.now k ≡ number)
    events first last kept.part run in
    record { lawful = kept.lawful; part = onward.part; limit = onward.limit ∙ kept.limit }

pub returns-clause-grows : goal.returns-clause-grows
returns-clause-grows g c = λ number limit events first last kept run.
    (holding_onward g.S.Key.Ord.cmp (g.S.System.rules c.args._system.now) kept.lawful (λ k. g.S.Parted.part_of c.args._system.now k ≡ number) events first last
    kept.part run).below
