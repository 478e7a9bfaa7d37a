-- What the memory forms read and touch, over an image: a read of one read-only section gives its bytes, and any
-- other read may give anything.
use Rattle.std.specs.Prelude.{ℕ, ◌+◌, ◌-◌, ◌*◌, ◌%◌, ◌^◌, Bool, true, false, List, Option, Some, None, drop, nat_lt, if◌then◌else◌}
use Rattle.std.specs.List.{list_any, range_with_len}
use Rattle.bt_image.specs.Image.{is_readonly, read_only_bytes}
use Rattle.byteorder.specs.Endian.{big_number}
use Rattle.sparc_decode.specs.declared.instruction.FloatKind.{FloatKind}
use Rattle.sparc_decode.specs.declared.instruction.FloatKind.TheVariants.{Ldf, Ldfsr, Lddf, Stf, Stfsr, Stdf}
use Rattle.sparc_decode.specs.declared.instruction.LoadKind.{LoadKind}
use Rattle.sparc_decode.specs.declared.instruction.LoadKind.TheVariants.{Ld, Ldub, Lduh, Ldd, Ldsb, Ldsh}
use Rattle.sparc_decode.specs.declared.instruction.StoreKind.{StoreKind}
use Rattle.sparc_decode.specs.declared.instruction.StoreKind.TheVariants.{St, Stb, Sth, Std}

-- how many bytes each form reads or writes, of which its address is a multiple
abbrev pub load_size : LoadKind → ℕ
load_size Ld = 4
load_size Ldub = 1
load_size Lduh = 2
load_size Ldd = 8
load_size Ldsb = 1
load_size Ldsh = 2

abbrev pub store_size : StoreKind → ℕ
store_size St = 4
store_size Stb = 1
store_size Sth = 2
store_size Std = 8

abbrev pub float_size : FloatKind → ℕ
float_size Ldf = 4
float_size Ldfsr = 4
float_size Lddf = 8
float_size Stf = 4
float_size Stfsr = 4
float_size Stdf = 8

-- whether a floating-point form is a store
abbrev pub is_float_store : FloatKind → Bool
is_float_store Ldf = false
is_float_store Ldfsr = false
is_float_store Lddf = false
is_float_store Stf = true
is_float_store Stfsr = true
is_float_store Stdf = true

abbrev pub atomic_size : Bool → ℕ
atomic_size swap = if swap then 4 else 1

-- the n bytes at an address, where they stand in one read-only section
abbrev pub constant_bytes : List ℕ → ℕ → ℕ → Option (List ℕ)
constant_bytes image address n = read_only_bytes image address n

-- whether one of the n bytes at an address is read-only
abbrev pub touches : List ℕ → ℕ → ℕ → Bool
touches image address n = list_any (λ k. is_readonly image (address + k)) (range_with_len 0 n)

-- the number that n bytes spell, where they are constant, or the low bytes of a free one
abbrev pub read_number : Option (List ℕ) → ℕ → ℕ → ℕ
read_number None n free = free % 2 ^ (8 * n)
read_number (Some these) n free = big_number n these

-- a number of so many bits, with its sign, as a word
abbrev pub sign_extended : ℕ → ℕ → ℕ
sign_extended bits x = if nat_lt x (2 ^ (bits - 1)) then x else x + 2 ^ 32 - 2 ^ bits

-- what a load of less than a double word puts into its register
abbrev pub extended : LoadKind → ℕ → ℕ
extended Ld x = x
extended Ldub x = x
extended Lduh x = x
extended Ldd x = x
extended Ldsb x = sign_extended 8 x
extended Ldsh x = sign_extended 16 x

-- the two words of a double word
abbrev pub first_word : Option (List ℕ) → ℕ → ℕ
first_word None free = free
first_word (Some these) free = big_number 4 these

abbrev pub second_word : Option (List ℕ) → ℕ → ℕ
second_word None free = free
second_word (Some these) free = big_number 4 (drop 4 these)
