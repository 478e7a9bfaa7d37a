use Rattle.bt_image.proofs.NextLemmas.{have_words, next_code_from, no_code_from}
use Rattle.bt_image.proofs.next_code.next_in.Goals as goal

pub next_word-requires-clause-words : goal.next_word-requires-clause-words
next_word-requires-clause-words c = have_words c.args.file.now c.args.loaded.now c.args.table.now c.requires.loaded c.requires.table

pub returns-in-None : goal.returns-in-None
returns-in-None c = no_code_from c.args.file.now c.args.loaded.now c.args.table.now c.args.a c.requires.loaded c.requires.table c.in-None.ensures

pub returns-in-Some : goal.returns-in-Some
returns-in-Some c = next_code_from c.args.file.now c.args.loaded.now c.args.table.now c.args.a c.in-Some.x c.requires.loaded c.requires.table c.in-Some.ensures
