use Rattle.std.proofs.Common.{◌<◌, sym, ◌∙◌, subst}
use Rattle.std.specs.Bool.{⊤}
use Rattle.std.proofs.lemmas.Option.{MatchOption-at_some}
use Rattle.bt_image.specs.File.{section_count}
use Rattle.bt_image.specs.Symbol.{HasSymbols}
use Rattle.bt_image.proofs.SymbolLemmas.{has_symbols}
use Rattle.bt_image.proofs.symbols.table_of.Goals as goal

pub returns-in-Some-clause-symbols : goal.returns-in-Some-clause-symbols
returns-in-Some-clause-symbols c =
    let file = c.args.file.now in
    let lt = MatchOption-at_some ⊤ (λ n. n < section_count file) c.in-Some.number c.in-Some.is c.requires.within in
    subst (HasSymbols file) (sym c.section.ensures) (has_symbols file c.in-Some.number (sym c.in-Some.is ∙ c.requires.number) c.requires.sound lt)
