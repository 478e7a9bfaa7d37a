use Rattle.std.proofs.Common.{◌≤◌, length, sym, ◌∙◌, ap, subst}
use Rattle.bt_image.specs.Symbol.{names_code, symbol_strings}
use Rattle.bt_image.specs.declared.symbol.Symbol.{Symbol}
use Rattle.bt_image.proofs.SymbolLemmas.{named_within}
use Rattle.bt_image.proofs.names.function_symbol.Goals as goal

pub name_at-requires : goal.name_at-requires
name_at-requires c =
    let file = c.args.file.now in
    let e = c.symbol-s.ensures in
    let names = ap (names_code file) (sym e) ∙ sym c.names_code.ensures ∙ c.if-not-names_code.false in
    let h = named_within file c.args.k c.requires.sound c.requires.within names in
    subst (λ xs. c.symbol-s.result.name ≤ length xs) (sym c.requires.strings) (subst (λ (s : Symbol). s.name ≤ length (symbol_strings file)) (sym e) h)
