use Rattle.std.proofs.Common.{◌<◌, sym, arith}
use Rattle.bt_image.specs.Refusal.{is_unnamed}
use Rattle.bt_image.specs.Symbol.{symbol_count}
use Rattle.bt_image.proofs.LeastLemmas.{first_passing-here}
use Rattle.bt_image.proofs.symbols.unnamed.Goals as goal

pub returns-then-is_unnamed : goal.returns-then-is_unnamed
returns-then-is_unnamed c =
    let file = c.args.file.now in
    let lt : c.loop-k.k < symbol_count file = omega (arith, c.requires.table.count) in
    sym (first_passing-here (is_unnamed file) c.loop-k.k (symbol_count file) lt c.loop-k.invariant (sym c.if-is_unnamed.ensures))
