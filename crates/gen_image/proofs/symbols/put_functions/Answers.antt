use Rattle.std.proofs.Common.{◌++◌, ap, sym, ◌∙◌, arith, rules}
use Rattle.gen_image.specs.Symbol.{symbol_bytes, function_symbol}
use Rattle.gen_image.specs.declared.symbols.Symbol.{Symbol}
use Rattle.gen_image.proofs.Eaches.{grown}
use Rattle.gen_image.proofs.Sizes.{first_name, next_name}
use Rattle.gen_image.proofs.symbols.put_functions.Goals as goal

pub loop-k-init : goal.loop-k-init
loop-k-init c = record { bytes = search rules; next = sym first_name; short = omega arith }

pub loop-k-preserved : goal.loop-k-preserved
loop-k-preserved c =
    let next = next_name c.loop-k.k in
    record {
      bytes = grown (λ k. symbol_bytes (function_symbol k)) _ _ _ _ c.loop-k.invariant.bytes
          (c.in_ok-put_symbol.ensures ∙ ap (λ (symbol : Symbol). c.loop-k.out.items ++ symbol_bytes symbol) c.function_symbol.ensures);
      next = omega arith;
      short = omega arith;
    }
