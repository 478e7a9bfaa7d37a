use Rattle.std.proofs.Common.{◌≡◌, ◌++◌, ◌+◌, ◌*◌, ◌≤◌}
use Rattle.gen_image.specs.Name.{name_at}
use Rattle.gen_image.specs.Number.{each}
use Rattle.gen_image.specs.Symbol.{symbol_bytes, function_symbol}
use Rattle.gen_image.proofs.symbols.put_functions.Given as goal

abbrev pub invariant-loop-k : goal.invariant-loop-k
invariant-loop-k l = record {
  bytes : l.out.items ≡ l.initial.out.items ++ each (λ k. symbol_bytes (function_symbol k)) l.k;
  next : l.name ≡ name_at l.k;
  short : l.name ≤ 6 * l.k + 1;
}
