use Rattle.std.proofs.Common.{rules, arith, ◌≡◌, ◌<◌, ap, sym, subst}
use Rattle.shard_slots.specs.Hold.{Holds}
use Rattle.shard_slots.specs.Seat.{IsSeat, Seat}
use Rattle.shard_slots.proofs.Allowed.{reaches_part, puts_part}
use Rattle.shard_slots.proofs.Seats.{put_seat, still_holds, moved, last_is, puts_back, held_stays}
use Rattle.shard_slots.proofs.shards.Shards.put_shard.Goals as goal

pub load-requires : goal.load-requires
load-requires g c = let of = c.self.inside.table.shared.table_id in let me = c.seat.inside.seat.me in
    let same : c.seat.inside.seat.table_id ≡ of = search rules in
    let holds : Holds me.0.held c.args.n = still_holds c.args.n _ _ (ap (λ (v : Seat). v.held) c.seat.view_is) c.requires.holds in
    let near : c.args.n < of.slots = subst (λ z. c.args.n < z.slots) same (c.seat.invariant.parts c.args.n holds) in (
      same,
      omega (arith, near, c.self.invariant.0, c.self.invariant.1),
      reaches_part of _ c.args.n me (moved _ _ me same c.seat.invariant) holds,
    )

pub exchange-requires : goal.exchange-requires
exchange-requires g c = (search rules, (c.load.ensures.2.value, c.load.ensures.2.last))

pub swap-requires : goal.swap-requires
swap-requires g c = let of = c.self.inside.table.shared.table_id in let me = c.seat.inside.seat.me in let wrote = c.exchange.ensures.3 in
    let same : c.seat.inside.seat.table_id ≡ of = search rules in
    let holds : Holds me.0.held c.args.n = still_holds c.args.n _ _ (ap (λ (v : Seat). v.held) c.seat.view_is) c.requires.holds in
    let near : c.args.n < of.slots = subst (λ z. c.args.n < z.slots) same (c.seat.invariant.parts c.args.n holds) in (
      search rules,
      omega (arith, near, c.self.invariant.0, c.self.invariant.1),
      puts_part _ _ c.args.n c.args.part _ near
          (still_holds c.args.n _ _ (held_stays me c.load.new.seat.me c.exchange.new.seat.me _ wrote c.load.ensures.2.view) holds)
          (last_is _ _ _ _ _ wrote),
    )

pub invariant_of-seat : goal.invariant_of-seat
invariant_of-seat g c = let me = c.seat.inside.seat.me in
    let same : c.seat.inside.seat.table_id ≡ c.swap.new.seat.table_id = search rules in
    let holds : Holds me.0.held c.args.n = still_holds c.args.n _ _ (ap (λ (v : Seat). v.held) c.seat.view_is) c.requires.holds in
    subst (λ m. IsSeat c.swap.new.seat.table_id m)
    (sym (puts_back c.args.n _ c.load.new.seat.me c.exchange.new.seat.me c.swap.new.seat.me c.exchange.ensures.3 c.swap.ensures.2))
    (moved _ _ _ same (put_seat c.seat.inside.seat.table_id c.args.n me c.load.new.seat.me c.seat.invariant holds c.load.ensures.2))
