use Rattle.std.proofs.Common.{length, Some, ap, sym, ◌∙◌}
use Rattle.bt_base.proofs.Files.{bytes_at-place, given_most, answer_given}
use Rattle.bt_base.proofs.memory_shelf.MemoryShelfShelf.fetch.Goals as goal

pub returns-in-Some-clause-given : goal.returns-in-Some-clause-given
returns-in-Some-clause-given c =
    let place = rw c.deref.ensures.value at c.in-Some.ensures in
    let told = bytes_at-place c.args.self.now.files.items _ c.in-Some.place c.index.result.now place.place place.within c.index.ensures
    ∙ ap Some (sym c.deref-in-Some.ensures.value) in
    given_most _ c.deref-in-Some.result.now c.copy_from-count.new.into c.args.at c.copy_from-count.result (length c.args.into.now) told
    c.copy_from-count.ensures.count c.copy_from-count.auto.into (sym c.is_empty.ensures ∙ c.if-is_empty.false) c.copy_from-count.ensures.front

pub returns-in-Some-clause-answer : goal.returns-in-Some-clause-answer
returns-in-Some-clause-answer c =
    let place = rw c.deref.ensures.value at c.in-Some.ensures in
    let told = bytes_at-place c.args.self.now.files.items _ c.in-Some.place c.index.result.now place.place place.within c.index.ensures
    ∙ ap Some (sym c.deref-in-Some.ensures.value) in
    let contains = rw c.deref-2.ensures.value at c.contains.ensures.value in
    answer_given _ c.deref-in-Some.result.now _ c.args.at c.copy_from-count.result (length c.args.into.now) told (sym contains ∙ c.if-contains.false)
    (sym c.is_empty.ensures ∙ c.if-is_empty.false) c.copy_from-count.ensures.count
