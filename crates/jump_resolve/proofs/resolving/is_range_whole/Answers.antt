use Rattle.std.proofs.Common.{rules, ◌≡◌, ℕ, ◌*◌, ◌≤◌, subst, Decides, Contains}
use Rattle.value_lattice.proofs.ValueLemmas.{rank_below}
use Rattle.value_lattice.specs.Order.{word_at, rank_of}
use Rattle.jump_resolve.proofs.TargetLemmas.{whole_range}
use Rattle.jump_resolve.proofs.resolving.is_range_whole.Goals as goal

pub returns : goal.returns
returns c =
    let first : c.rank.result ≡ rank_of c.args.lo = search rules in
    let last : c.rank-2.result ≡ rank_of c.args.hi = search rules in
    let low = subst (λ (k : ℕ). Decides c.has_between.result
    ((q : ℕ) → k ≤ 4 * q → 4 * q ≤ c.rank-2.result → Contains c.args.list.now (word_at (4 * q)))) first c.has_between.ensures in
    let both = subst (λ (k : ℕ). Decides c.has_between.result
    ((q : ℕ) → rank_of c.args.lo ≤ 4 * q → 4 * q ≤ k → Contains c.args.list.now (word_at (4 * q)))) last low in
    whole_range c.args.list.now c.has_between.result c.args.lo c.args.hi (rank_below c.args.hi c.requires.range.1) both
