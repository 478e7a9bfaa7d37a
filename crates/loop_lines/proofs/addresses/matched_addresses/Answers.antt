use Rattle.std.proofs.Common.{◌≤◌, ℕ, List, [], length, get_or, sym, subst, arith}
use Rattle.std.proofs.lemmas.List.{take_all}
use Rattle.std.proofs.lemmas.List.Elements.{Contains-get_or}
use Rattle.loop_lines.proofs.Gathered.{addresses_are, of_next, of_none}
use Rattle.loop_lines.proofs.addresses.matched_addresses.Goals as goal
use Rattle.loop_lines.specs.Matched.{AreOf}

pub loop-sub-init : goal.loop-sub-init
loop-sub-init c = subst (λ (l : List ℕ). AreOf c.args.view.now [] l) (sym c.new-addresses.ensures.items) (of_none c.args.view.now)

pub push_matched-requires-clause-rooted : goal.push_matched-requires-clause-rooted
push_matched-requires-clause-rooted c =
    let sub : ℕ = get_or c.subs-subs.result.now c.loop-sub.sub-index 0 in
    c.requires sub (c.subs-subs.ensures.has sub (Contains-get_or c.subs-subs.result.now c.loop-sub.sub-index 0 c.loop-sub-test.true))

pub loop-sub-preserved : goal.loop-sub-preserved
loop-sub-preserved c =
    of_next c.args.view.now c.subs-subs.result.now c.loop-sub.sub-index 0 c.loop-sub.addresses.items c.push_matched.new.addresses.items c.loop-sub-test.true
    c.loop-sub.invariant c.in_ok-push_matched.ensures

pub returns-clause-are : goal.returns-clause-are
returns-clause-are c =
    let all : length c.subs-subs.result.now ≤ c.loop-sub.sub-index = omega (arith, c.loop-sub-test.false) in
    addresses_are c.args.view.now c.subs-subs.result.now c.loop-sub.addresses.items c.put_in_order.new.numbers.items c.subs-subs.ensures
    (subst (λ (l : List ℕ). AreOf c.args.view.now l c.loop-sub.addresses.items) (take_all c.loop-sub.sub-index c.subs-subs.result.now all) c.loop-sub.invariant)
    c.put_in_order.ensures.keeps c.put_in_order.ensures.adds_none
