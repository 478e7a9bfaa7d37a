use Rattle.std.proofs.Common.{◌≡◌, subst}
use Rattle.std.specs.Prelude.{IfOk, IfSome}
use Rattle.flow_core.specs.Queue.{IsLeast}
use Rattle.part_pool.specs.Part.{PassesOthers, TakesOwn}
use Rattle.part_pool.proofs.PartSteps.{refused_passes, took_own}
use Rattle.part_pool.proofs.part.Part.take.Goals as goal

pub returns-clause-taken : goal.returns-clause-taken
returns-clause-taken g c =
    let cmp = g.S.Key.Ord.cmp in
    let m = g.S.System.rules c.args.system.now in
    let home = g.S.Parted.part_of c.args.system.now in
    let mid = c.pass_others.new.core in
    subst (λ rules. IfOk c.take.result (λ taken. IfSome taken (λ claim. TakesOwn cmp rules (λ k. home k ≡ c.args.self.now.number) c.args.self.now.core claim
    c.take.new.self))) c.requires.named
    (took_own cmp m (g.met.S.System.lawful c.args.system.now) (λ k. home k ≡ c.args.self.now.number) c.args.self.now.core mid c.take.new.self c.take.result
    (subst (λ p. PassesOthers cmp m (λ k. home k ≡ p.number) p.core mid) c.self.view_is c.pass_others.ensures.passed)
    (subst (λ p. (k : _) → IsLeast cmp mid.marks k → home k ≡ p.number) c.self.view_is c.in_ok-pass_others.ensures.own) c.take.ensures.taken)

pub returns-clause-refused : goal.returns-clause-refused
returns-clause-refused g c =
    let cmp = g.S.Key.Ord.cmp in
    let m = g.S.System.rules c.args.system.now in
    let home = g.S.Parted.part_of c.args.system.now in
    let mid = c.pass_others.new.core in
    refused_passes cmp m (g.met.S.System.lawful c.args.system.now) (λ k. home k ≡ c.args.self.now.number)
    c.args.self.now.core mid c.take.new.self c.take.result
    (subst (λ p. PassesOthers cmp m (λ k. home k ≡ p.number) p.core mid) c.self.view_is c.pass_others.ensures.passed) c.take.ensures.unchanged
