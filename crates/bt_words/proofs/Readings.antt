-- What the getters of the matches read of an argument that has a value.
use Rattle.std.proofs.Common.{◌≡◌, ◌∙◌, ◌<◌, ◌≤◌, ◌^◌, ℕ, List, Option, Some, None, Result, Ok, codes, is_some, true, option_map, refl, sym, ap, subst, arith}
use Rattle.std.specs.Str.Parse.{ParsesUnsigned}
use Rattle.clap.specs.Words.{ReadsOne, Row, Text, one_of, without_minus}
use Rattle.clap.proofs.CallerReads.{signed_reads}
use Rattle.bt_words.specs.Match.{HasNumber}
use Rattle.bt_words.specs.Request.{number_of}

-- where a function of something gives something, there was something
pub some_behind : {X Y : Type 0} (f : X → Y) (o : Option X) (p : Option Y) → option_map f o ≡ p → is_some p ≡ true → is_some o ≡ true
some_behind f None p e some = let bad : is_some (option_map f None) ≡ true = ap is_some e ∙ some in cc
some_behind f (Some x) p e some = refl

-- the number that is read is the one that its value writes, from 1 to the most that it may be
pub number_read : (E : Type 0) (G : List ℕ → Result ℕ E → Type 0) (id : Text) (most : ℕ) → most < 2 ^ 32 → (rows : List Row) (r : Option ℕ)
    → HasNumber id most rows
    → ((u : List ℕ) (x : Result ℕ E) → G u x → ParsesUnsigned 32 10 u x)
    → ((t : Text) → one_of id rows ≡ Some t → ReadsOne G t r)
    → (n : ℕ) × (r ≡ Some n) × (option_map number_of (one_of id rows) ≡ Some n) × (1 ≤ n) × (n ≤ most)
number_read E G id most small rows r has only value =
    let read = value (without_minus has.text) has.read in
    let got = signed_reads E G 32 1 most has.text r read only (omega arith) has.within in
    let some : ReadsOne G (without_minus has.text) (Some got.0) = subst (ReadsOne G (without_minus has.text)) got.1 read in
    let is = (only (without_minus has.text) (Ok got.0) some).1 in
    (got.0, got.1, ap (option_map number_of) has.read ∙ ap Some (sym is), got.2, got.3)
