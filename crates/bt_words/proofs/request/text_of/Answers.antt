use Rattle.std.proofs.Common.{◌∙◌, option_map, sym, ap}
use Rattle.clap.specs.Words.{first_of, found_of, rows_of}
use Rattle.clap.proofs.WalkLemmas.{first_value-rows}
use Rattle.bt_words.proofs.Readings.{some_behind}
use Rattle.bt_words.proofs.request.text_of.Goals as goal

pub unwrap-requires : goal.unwrap-requires
unwrap-requires c =
    let read = c.get_str.ensures ∙ first_value-rows (found_of c.args.found.now) c.args.id.now in
    some_behind (λ s. s.now) c.get_str.result (first_of c.args.id.now (rows_of (found_of c.args.found.now))) read c.requires

pub returns : goal.returns
returns c =
    let read = c.get_str.ensures ∙ first_value-rows (found_of c.args.found.now) c.args.id.now in
    sym read ∙ ap (option_map (λ s. s.now)) c.unwrap.ensures
