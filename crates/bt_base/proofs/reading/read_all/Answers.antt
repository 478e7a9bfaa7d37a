use Rattle.std.proofs.Common.{◌∙◌, refl, arith}
use Rattle.bt_base.proofs.Asks.{read_none, read_more, read_on, reading_is, reading_more, read_past, gave_none}
use Rattle.bt_base.proofs.Fronts.{front_none, within_none, front_more, within_more, front_all, past_limit}
use Rattle.bt_base.proofs.reading.read_all.Goals as goal

pub loop-shelf-init : goal.loop-shelf-init
loop-shelf-init g c = record {
  same = λ _. refl;
  counts = λ _. omega arith;
  piece = c.in-Ok.ensures.len;
  front = front_none _ _ _ c.new-bytes.ensures.items c.new-bytes.ensures.len;
  asked = read_none _ _ _ _ c.new-bytes.ensures.len;
  within = within_none _ _ c.new-bytes.ensures.len;
}

pub returns-in_err-count-clause-same : goal.returns-in_err-count-clause-same
returns-in_err-count-clause-same g c = λ name. c.in_err-count.ensures.same name ∙ c.loop-shelf.invariant.same name

pub returns-then-count-eq0-clause-same : goal.returns-then-count-eq0-clause-same
returns-then-count-eq0-clause-same g c = λ name. c.in_ok-count.ensures.same name ∙ c.loop-shelf.invariant.same name

pub returns-in_err-count-clause-asked : goal.returns-in_err-count-clause-asked
returns-in_err-count-clause-asked g c =
    reading_more _ _ _ _ _ _ c.loop-shelf.invariant.asked (omega arith) c.in_err-count.ensures.asked

pub returns-then-count-eq0-clause-asked : goal.returns-then-count-eq0-clause-asked
returns-then-count-eq0-clause-asked g c =
    reading_more _ _ _ _ _ _ c.loop-shelf.invariant.asked (omega arith) c.in_ok-count.ensures.asked

pub returns-then-count-eq0-clause-gave : goal.returns-then-count-eq0-clause-gave
returns-then-count-eq0-clause-gave g c =
    read_more _ _ _ _ _ _ _ _ c.loop-shelf.invariant.asked (omega arith) c.in_ok-count.ensures.within_room c.in_ok-count.ensures.gave
    c.in_ok-count.ensures.grown

pub returns-then-count-eq0-clause-end : goal.returns-then-count-eq0-clause-end
returns-then-count-eq0-clause-end g c = gave_none _ _ _ c.in_ok-count.ensures.gave (omega arith)

-- a piece of no bytes comes only where the bytes so far are all
pub returns-then-count-eq0-clause-whole : goal.returns-then-count-eq0-clause-whole
returns-then-count-eq0-clause-whole g c =
    let same = c.loop-shelf.invariant.same c.args.name.now in
    let front = front_more _ _ _ _ _ _ _ same c.in_ok-count.ensures.grown c.loop-shelf.invariant.front c.in_ok-count.ensures.given in
    front_all _ _ _ _ _ _ same c.in_ok-count.ensures.grown (omega arith) front c.in_ok-count.ensures.end

pub loop-shelf-preserved : goal.loop-shelf-preserved
loop-shelf-preserved g c =
    let same = c.loop-shelf.invariant.same c.args.name.now in
    record {
      same = λ name. c.in_ok-count.ensures.same name ∙ c.loop-shelf.invariant.same name;
      counts = λ name. omega (arith, c.loop-shelf.invariant.counts name, c.in_ok-count.ensures.counts name);
      piece = c.loop-shelf.invariant.piece;
      front = front_more _ _ _ _ _ _ _ same c.in_ok-count.ensures.grown c.loop-shelf.invariant.front c.in_ok-count.ensures.given;
      asked = read_on _ _ _ _ _ _ _ _ c.loop-shelf.invariant.asked (omega arith) c.in_ok-count.ensures.within_room (omega arith)
          c.in_ok-count.ensures.gave c.in_ok-count.ensures.grown;
      within = within_more _ _ _ _ _ _ _ same c.loop-shelf.bytes.ok.0 c.read_piece.new.bytes.ok.0 c.in_ok-count.ensures.grown c.loop-shelf.invariant.within
          c.in_ok-count.ensures.given;
    }

-- a front of more bytes than the limit allows shows that the file is longer
pub returns-clause-too_long : goal.returns-clause-too_long
returns-clause-too_long g c = λ l is. (cc, past_limit _ _ _ (omega (arith, c.loop-shelf-test.false)) c.loop-shelf.invariant.within)

pub returns-clause-passed : goal.returns-clause-passed
returns-clause-passed g c = λ l is. read_past _ _ _ _ _ c.loop-shelf.invariant.asked (omega (arith, c.loop-shelf-test.false))
