-- Each call's step on the table of parts is one that the rule allows.
use Rattle.std.proofs.Common.{◌≡◌, ℕ, zero, suc, ◌+◌, ◌-◌, ◌<◌, ◌≤◌, List, [], ◌∷◌, length, set, get_or, sym, refl, ap, ◌∙◌, subst, ⊎_elim, arith, Option, Some}
use mathlib.Core.Logic.{dite}
use mathlib.Core.Option.{some}
use native.Mathlib.Decide.{dec_le}
use lib.ListN.{get_elem?}
use Rattle.atomic_table.specs.Table.{Me, keeps, takes, gives, put_back, rest, Allows, Splits, Joins}
use Rattle.atomic_table.proofs.Lists.{set_again, set_else}
use Rattle.shard_slots.specs.Hold.{times, hold, Holds, Lacks, without}
use Rattle.shard_slots.specs.Shards.{ShardsId, count_of}
use Rattle.shard_slots.specs.Seat.{IsSeat}
use Rattle.shard_slots.specs.Table.{Table, IsHome, IsOut, IsKept}
use Rattle.shard_slots.specs.Play.{Took, Put, Reaches}
use Rattle.shard_slots.specs.declared.hold.Hold.{Hold}
use Rattle.shard_slots.proofs.Counts.{term_le}
use Rattle.shard_slots.proofs.Keeps.{takes_keep, puts_keep, misses_keep, loads_keep, splits_keep, joins_keep, held_is_out}
use Rattle.shard_slots.proofs.Means.{only_holder}
use Rattle.shard_slots.proofs.Reaching.{AreOut, reached}

at_zero : (l : List ℕ) (i a : ℕ) → i < length l → a ≡ get_or l i 0 → get_elem? l i ≡ some a
at_zero [] i a near e = absurd (omega arith)
at_zero (x ∷ xs) zero a near e = ap some (sym e)
at_zero (x ∷ xs) (suc i) a near e = at_zero xs i a (omega arith) e

module _ {T : Type 0} where
  tops : (n : ℕ) (x : Option T) (others taken : List (ℕ × Option T)) → taken ≡ (n, x) ∷ others → taken ≡ (n, x) ∷ rest taken
  tops n x others taken e = subst (λ l. l ≡ (n, x) ∷ rest l) (sym e) refl

  -- a step that leaves the word n as it was and changes no slot and no view changes nothing
  stays : (s : Table T) (id n word : ℕ) (v : Hold) (homes : _) → n < length s.words → word ≡ get_or s.words n 0 → homes ≡ s.homes
      → get_elem? s.views id ≡ some v
      → record { words = set s.words n word; homes = homes; views = set s.views id v } ≡ s
  stays s id n word v homes near same home at = λ k. record {
    words = set_again s.words n word (at_zero s.words n word near same) k;
    homes = home k;
    views = set_again s.views id v at k;
  }

  -- a seat with weight may take a part that it doesn't hold
  pub takes_part : (slots id n : ℕ) (me : Me (Option T) Hold) → n < slots → 1 ≤ me.0.weight → Lacks me.0.held n
      → Allows IsKept slots id me n (λ _. 0) (Took n me)
  takes_part slots id n me within heavy lacks s kept wide at _ =
      let near : n < length s.homes = subst (λ (m : ℕ). n < m) (sym wide) within in
      ⊎_elim (λ (home : IsHome s n). (
        hold me.0.weight (n ∷ me.0.held),
        takes n (Some home.part),
        home.slot,
        takes_keep id n s _ kept record { seat = me.0; here = at; heavy = heavy; part = near; found = home.word; after = refl },
        ((λ _. record { part = home.part; seat = refl }), (λ other. absurd (other home.word))),
      )) (λ (out : IsOut s n). (
        me.0,
        keeps,
        tt,
        misses_keep n s _ kept record { part = near; found = out.word; after = stays s id n 0 me.0 s.homes (omega (arith, kept.words)) (sym out.word) refl at },
        (
          (λ one. absurd (omega (arith, out.word))),
          (λ _. record {
            seat = refl;
            light = dite (dec_le 128 me.0.weight) (λ all. absurd (omega (arith, only_holder s n id me.0 kept at all, out.held_once, lacks)))
                (λ some_less. omega arith);
          }),
        ),
      )) (kept.parts n near)

  -- a seat may put back the part that it took last
  pub puts_part : (slots id n : ℕ) (part : T) (me : Me (Option T) Hold) → n < slots → Holds me.0.held n → me.1 ≡ (n, Some part) ∷ rest me.1
      → Allows IsKept slots id me n (λ _. 1) (λ _. Put n me)
  puts_part slots id n part me within holds last s kept wide at _ = (
    hold me.0.weight (without n me.0.held),
    gives,
    tt,
    puts_keep id n part s _ kept record {
      seat = me.0;
      here = at;
      held = holds;
      within = subst (λ (m : ℕ). n < m) (sym wide) within;
      after = λ k. record { words = set s.words n 1; homes = put_back s.homes (last k); views = set s.views id (hold me.0.weight (without n me.0.held)) };
    },
    refl,
  )

  -- a seat may reach a part that it holds
  pub reaches_part : (of : ShardsId) (id n : ℕ) (me : Me (Option T) Hold) → IsSeat of me → Holds me.0.held n
      → Allows IsKept (count_of of) id me n (λ word. word) (λ _. Reaches n me)
  reaches_part of id n me seat holds s kept wide at _ =
      let outs : (k : ℕ) → 1 ≤ times k me.0.held → IsOut s k = λ k stands. held_is_out s id k me.0 kept at (omega (arith, wide, seat.parts k stands)) stands in
      let are : AreOut s.homes me.1 = record {
        out = λ k stands. (outs k (omega (arith, seat.slots k))).slot;
        once = λ k. dite (dec_le 1 (times k me.0.held))
            (λ stands. omega (arith, seat.slots k, (outs k stands).held_once, term_le (λ (h : Hold). times k h.held) s.views id me.0 at))
            (λ not. omega (arith, seat.slots k));
      } in
      let r = reached n s.homes me.1 are (omega (arith, seat.slots n, holds)) in (
        me.0,
        r.act,
        r.valid,
        loads_keep s _ kept (stays s id n (get_or s.words n 0) me.0 _ (omega (arith, kept.words, wide, seat.parts n holds)) refl r.homes_stay at),
        record { view = refl; value = r.value; last = tops n r.value r.others _ r.last; slots = r.alike },
      )

  -- a seat of weight 2 or more may be split
  pub splits_seat : (id : ℕ) (v : Hold) → 2 ≤ v.weight → Splits {S = Option T} IsKept id v (hold (v.weight - 1) v.held) (hold 1 [])
  splits_seat id v heavy s kept at = splits_keep id s _ kept record { seat = v; here = at; heavy = heavy; after = refl }

  -- a seat may be joined with one that holds nothing
  pub joins_seats : (id other : ℕ) (v w : Hold) → w.held ≡ [] → Joins {S = Option T} IsKept id v other w (hold (v.weight + w.weight) v.held) (hold 0 [])
  joins_seats id other v w bare s kept at apart there = joins_keep id other s _ kept record {
    seat = v;
    joined = w;
    here = at;
    there = sym (set_else s.views id other _ apart) ∙ there;
    apart = apart;
    bare = bare;
    after = refl;
  }
