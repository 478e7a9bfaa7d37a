-- How program points and cells are written.
use Rattle.std.specs.Prelude.{ℕ, ◌+◌, ◌-◌, ◌/◌, ◌%◌, ◌^◌, ◌==◌, List, [], ◌∷◌, ◌++◌, codes, decimal, nat_lt, if◌then◌else◌}
use Rattle.bt_base.specs.Text.{hex8_of}
use Rattle.abs_state.specs.declared.key.Next.{Next}
use Rattle.abs_state.specs.declared.key.Next.TheVariants.{At, Into, Back}
use Rattle.abs_state.specs.declared.key.Place.{Place}

-- what comes after an instruction at an address: nothing is written where it is the next word
abbrev pub next_text : ℕ → Next → List ℕ
next_text pc (At n) = if n == (pc + 4) % 2 ^ 32 then [] else codes ">" ++ hex8_of n
next_text pc (Into t) = codes ">into:" ++ hex8_of t
next_text pc Back = codes ">back"

-- a program point: its address, what comes next, and its depth
unfoldable pub node_text : Place → List ℕ
node_text place = hex8_of place.pc ++ (next_text place.pc place.next ++ (codes "/" ++ decimal place.depth))

-- the letter of a group of eight registers: global, out, local and in
abbrev pub group_letter : ℕ → ℕ
group_letter group = if group == 0 then 103 else (if group == 1 then 111 else (if group == 2 then 108 else 105))

-- a register by its group and its number there, from %g0 to %i7
abbrev pub register : ℕ → List ℕ
register r = 37 ∷ group_letter (r / 8) ∷ (48 + r % 8) ∷ []

-- a cell: a register of the entry's window, or one of the window behind its SAVE
abbrev pub cell_text : ℕ → List ℕ
cell_text c = if nat_lt c 32 then register c else register (c - 24) ++ codes ".1"
