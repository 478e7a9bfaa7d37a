-- Where the parts of the file begin: each behind the one before.
use Rattle.std.specs.Prelude.{ℕ, ◌+◌, ◌-◌, ◌%◌, length}
use Rattle.gen_image.specs.Code.{text}
use Rattle.gen_image.specs.Name.{strings}
use Rattle.gen_image.specs.Symbol.{symbols}
use Rattle.gen_image.specs.declared.layout.Layout.{Layout}

-- the code begins behind a header of 52 bytes
abbrev pub symbols_at : ℕ → ℕ
symbols_at n = 52 + length (text n)

abbrev pub strings_at : ℕ → ℕ
strings_at n = symbols_at n + length (symbols n)

abbrev pub strings_end : ℕ → ℕ
strings_end n = strings_at n + length (strings n)

-- how many bytes an end wants up to a multiple of 4
abbrev pub padding_behind : ℕ → ℕ
padding_behind end = (4 - end % 4) % 4

-- the places and sizes of all parts
unfoldable pub layout_of : ℕ → Layout
layout_of n = record {
  text_size = length (text n);
  symbols_at = symbols_at n;
  symbols_size = length (symbols n);
  strings_at = strings_at n;
  strings_size = length (strings n);
  padding = padding_behind (strings_end n);
  sections_at = strings_end n + padding_behind (strings_end n);
}
