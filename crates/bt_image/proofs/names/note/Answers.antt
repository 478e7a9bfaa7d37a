use Rattle.std.proofs.Common.{Bool, Some, nat_cmp, ◌∙◌, ap}
use Rattle.std.specs.BTreeMap.{get}
use Rattle.std.specs.Map.{keys_of}
use Rattle.bt_image.specs.Names.{better}
use Rattle.bt_image.specs.declared.names.Name.{Name}
use Rattle.bt_image.proofs.NameLemmas.{keys-insert, apart_keys}
use Rattle.bt_image.proofs.names.note.Goals as goal

pub returns : goal.returns
returns c =
    let s = c.args.s in
    let strings = c.args.strings.now in
    let e = c.in_ok-insert.ensures.entries in
    let u = c.in_ok-insert.ensures.updates in
    let new = λ (typed : Bool). let name : Name = record { at = s.name; typed = typed } in name in
    record {
      keys = ap keys_of e ∙ keys-insert c.args.names.now.entries s.value c.better.result;
      at = u.1 ∙ ap (λ (n : Name). Some n) (c.better.ensures
          ∙ ap (λ o. better strings o (new c.is_typed.result)) (c.copied-old.ensures ∙ c.get.ensures.value)
          ∙ ap (λ t. better strings (get nat_cmp c.args.names.now s.value) (new t)) c.is_typed.ensures);
      others = λ a ne. u.2 a (apart_keys s.value a ne);
    }
