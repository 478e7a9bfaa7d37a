use Rattle.bt_image.proofs.SymbolLemmas.{linked_of}
use Rattle.bt_image.proofs.functions.checked_strings.Goals as goal

pub strings-requires-clause-linked : goal.strings-requires-clause-linked
strings-requires-clause-linked c = linked_of c.args.file.now c.args.number c.requires.checked.table c.requires.sound
