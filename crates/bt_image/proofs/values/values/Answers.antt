use Rattle.bt_image.specs.Section.{test_of}
use Rattle.bt_image.proofs.ValueLemmas.{exactly_values}
use Rattle.bt_image.proofs.values.values.Goals as goal

pub returns : goal.returns
returns c =
    exactly_values (test_of c.args.access) c.args.file.now c.in_ok-found.found.items c.put_in_order.new.numbers.items c.in_ok-found.ensures
    c.put_in_order.ensures.rise c.put_in_order.ensures.keeps c.put_in_order.ensures.adds_none
