use Rattle.std.proofs.Common.{◌<◌, ◌∷◌, ◌++◌, [], Option, None, List, length, take, sym, subst, ap, ◌∙◌, arith}
use Rattle.std.proofs.lemmas.List.{length-set, take_more}
use Rattle.std.proofs.lemmas.Option.{get_or_from_slice_get}
use Rattle.context_answers.proofs.Lists.{some_same}
use Rattle.context_answers.specs.declared.answer.Answer.{Answer}
use Rattle.context_order.proofs.Filling.{entry_there, set_other}
use Rattle.context_order.specs.Filled.{IsThere}
use Rattle.context_order.proofs.taking.taken.Goals as goal

pub push_taken-requires : goal.push_taken-requires
push_taken-requires c =
    let low : c.loop-place.place < length c.args.table.items = omega (arith, c.loop-place-test.true, c.len-place-end.ensures, c.args.table.ok.0) in
    let inside : c.loop-place.place < length c.loop-place.table.items = omega (arith, low, c.loop-place.invariant.size) in
    let has = c.requires c.loop-place.place low in
    subst IsThere
    (some_same
    (sym has.there
    ∙ entry_there c.args.table.items c.loop-place.table.items c.loop-place.place c.index_mut.result.now c.take-entry.result inside c.loop-place.invariant.rest
    c.index_mut.ensures.value c.take-entry.ensures.value)) tt

pub loop-place-preserved : goal.loop-place-preserved
loop-place-preserved c =
    let low : c.loop-place.place < length c.args.table.items = omega (arith, c.loop-place-test.true, c.len-place-end.ensures, c.args.table.ok.0) in
    let inside : c.loop-place.place < length c.loop-place.table.items = omega (arith, low, c.loop-place.invariant.size) in
    record {
      size = length-set c.loop-place.table.items c.loop-place.place c.take-entry.new.self ∙ c.loop-place.invariant.size;
      rest = λ k after.
          set_other c.loop-place.table.items c.loop-place.place k c.take-entry.new.self (λ same. omega (arith, after, same))
          ∙ c.loop-place.invariant.rest k (omega (arith, after));
      taken =
          c.in_ok-push_taken.ensures {u = tt}
          ∙ (ap (λ (l : List (Option Answer)). l ++ c.take-entry.result ∷ []) c.loop-place.invariant.taken
          ∙ sym
          (take_more c.args.table.items c.loop-place.place None low
          ∙ ap (λ (o : Option Answer). take c.loop-place.place c.args.table.items ++ o ∷ [])
          (get_or_from_slice_get c.args.table.items c.loop-place.place c.take-entry.result None
          (entry_there c.args.table.items c.loop-place.table.items c.loop-place.place c.index_mut.result.now c.take-entry.result inside
          c.loop-place.invariant.rest c.index_mut.ensures.value c.take-entry.ensures.value))));
    }
