use Rattle.std.proofs.Common.{◌∙◌, length, subst}
use Rattle.bt_image.specs.Checked.{IsAccepted}
use Rattle.bt_image.specs.NextCode.{IsCodeTable}
use Rattle.bt_image.proofs.ImageLemmas.{refused_checked, refused_overlap, refused_symbols, refused_limits, refused_none, all_fit, is_image, addresses_are}
use Rattle.bt_image.proofs.image.Image.read.Goals as goal

pub returns-in-Err-clause-refused : goal.returns-in-Err-clause-refused
returns-in-Err-clause-refused c = refused_checked c.args.bytes.now c.in-Err.refusal c.in-Err.ensures.check

pub returns-in-Err-load-clause-refused : goal.returns-in-Err-load-clause-refused
returns-in-Err-load-clause-refused c = refused_overlap c.args.bytes.now c.in-Err-load.refusal c.in-Ok.ensures.check c.in-Err-load.ensures.step

pub returns-in-Err-check_symbols-clause-refused : goal.returns-in-Err-check_symbols-clause-refused
returns-in-Err-check_symbols-clause-refused c =
    refused_symbols c.args.bytes.now c.in-Err-check_symbols.refusal c.in-Ok.ensures.check c.in-Ok-load.ensures.step c.in-Err-check_symbols.ensures

pub returns-in-Err-limited_names-clause-refused : goal.returns-in-Err-limited_names-clause-refused
returns-in-Err-limited_names-clause-refused c =
    refused_limits c.args.bytes.now c.in-Err-limited_names.refusal c.in-Ok.ensures.check c.in-Ok-load.ensures.step c.in-Ok-check_symbols.ensures
    c.in-Err-limited_names.ensures.step

pub taken_functions-requires-clause-addresses : goal.taken_functions-requires-clause-addresses
taken_functions-requires-clause-addresses c =
    addresses_are c.args.bytes.now c.deref-7.result.now c.in-Ok-limited_names.names
    (c.deref-7.ensures.value ∙ c.in_ok-addresses.ensures.value) c.in-Ok-limited_names.ensures.names

pub invariant_of-result : goal.invariant_of-result
invariant_of-result c =
    let file = c.args.bytes.now in
    let accepted : IsAccepted file = record {
      unrefused = refused_none file c.in-Ok.ensures.check c.in-Ok-load.ensures.step c.in-Ok-check_symbols.ensures c.in-Ok-limited_names.ensures.step;
      bytes = all_fit file (λ k. (c.type_inv.bytes k).fits);
    } in
    let table = subst (λ xs. IsCodeTable xs (length xs) c.in_ok-code.code.items) c.deref-3.ensures.value c.in_ok-code.ensures in
    is_image file c.in_ok-bytes.bytes.items c.in-Ok.number c.in-Ok-load.loaded.items c.in_ok-code.code.items
    c.in_ok-addresses.addresses.items c.in-Ok-limited_names.names c.in_ok-entries.entries.items c.in_ok-labels.labels.items
    c.in_ok-taken.taken.items accepted c.in-Ok.ensures.checked c.in-Ok-check_symbols.ensures c.in-Ok-load.ensures.table table
    c.in_ok-addresses.ensures.value c.in_ok-addresses.ensures.rise c.in-Ok-limited_names.ensures.names
    c.in_ok-entries.ensures.entries c.in_ok-entries.ensures.order c.in_ok-labels.ensures c.in_ok-taken.ensures
    c.in_ok-bytes.ensures.items

pub returns-clause-refused : goal.returns-clause-refused
returns-clause-refused c =
    refused_none c.args.bytes.now c.in-Ok.ensures.check c.in-Ok-load.ensures.step c.in-Ok-check_symbols.ensures c.in-Ok-limited_names.ensures.step
