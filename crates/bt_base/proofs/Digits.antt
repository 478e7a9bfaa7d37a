-- Eight hexadecimal digits are a text of ASCII.
use Rattle.std.proofs.Common.{ℕ, ◌%◌, ◌<◌, arith, rules}
use Rattle.std.proofs.lemmas.Str.{IsUtf8-from_ascii}
use Rattle.std.proofs.lemmas.Str.Ascii.{IsAscii-nil, IsAscii-cons}
use Rattle.std.specs.Str.{IsAscii, IsUtf8}
use Rattle.bt_base.specs.Text.{hex_digit, hex8_of}

-- a digit is ASCII
pub digit_ascii : (n : ℕ) → hex_digit (n % 16) < 128
digit_ascii n = grind arith

-- eight digits are ASCII, and so a text
pub hex8_ascii : (n : ℕ) → IsAscii (hex8_of n)
hex8_ascii n = search (rules, IsAscii-cons, IsAscii-nil, digit_ascii)

-- eight hexadecimal digits are UTF-8
pub hex8_utf8 : (n : ℕ) → IsUtf8 (hex8_of n)
hex8_utf8 n = IsUtf8-from_ascii (hex8_of n) (hex8_ascii n)
