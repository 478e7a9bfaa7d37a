use Rattle.std.proofs.Common.{◌≡◌, ◌+◌, min, take}
use Rattle.line_text.specs.Numeral.{value_of}
use Rattle.line_text.proofs.numerals.capped_value.Given as goal

-- the value of the digits so far, or the cap
abbrev pub invariant-loop-digit : goal.invariant-loop-digit
invariant-loop-digit l = l.value ≡ min (value_of (take l.digit-index l.word)) (l.fn.most + 1)
