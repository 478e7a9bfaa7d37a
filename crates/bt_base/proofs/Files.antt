-- Files in memory: what lies under a name, and what a fetch of it gives.
use Rattle.std.proofs.Common.{◌≡◌, ℕ, ◌-◌, ◌<◌, ◌==◌, inl, inr, Bool, false, List, length, take, drop, min, get_or, Option, Some, IfSome, subst, Result, Ok}
use Rattle.std.proofs.Common.{Err, ap, sym, ◌∙◌, arith, rules, if◌then◌else◌}
use Rattle.std.specs.Option.{option_map}
use Rattle.std.proofs.lemmas.Option.{slice_get_read}
use Rattle.std.proofs.lemmas.Bool.Decides.{nat_tests}
use Rattle.bt_base.specs.File.{File, bytes_at}
use Rattle.bt_base.specs.MemoryShelf.{answer_from}
use Rattle.bt_base.specs.Shelf.{Gives}
use Rattle.bt_base.specs.declared.shelf.NoFetch.{NoFetch}
use Rattle.bt_base.specs.declared.shelf.NoFetch.TheVariants.{Failed}

-- the bytes under a name are those of the file at its place
pub bytes_at-place : (files : List File) (found : Option ℕ) (place : ℕ) (file : File) → Some place ≡ found → place < length files
    → file ≡ get_or files place file → bytes_at files found ≡ Some file.1.items
bytes_at-place files found place file e l r =
    ap (bytes_at files) (sym e) ∙ ap (option_map (λ (f : File). f.1.items)) (slice_get_read files (length files) place file (search rules) l r)

-- a buffer that isn't empty has room
some_room : (room : ℕ) → (room == 0) ≡ false → 0 < room
some_room room z = grind (arith, nat_tests)

-- as many bytes as a buffer and the rest of a file allow are given
gives_most : (bytes into : List ℕ) (at n room : ℕ) → n ≡ min room (length bytes - at) → length into ≡ room → 0 < room → take n into ≡ take n (drop at bytes)
    → Gives bytes at into n
gives_most bytes into at n room e s p f = record {
  front = f;
  end = (λ z. inl (omega arith), λ h. elim h [ inl a ↦ omega arith | inr b ↦ omega arith ]);
}

-- what was copied is the front of what is left of the file
pub given_most : (told : Option (List ℕ)) (bytes into : List ℕ) (at n room : ℕ) → told ≡ Some bytes → n ≡ min room (length bytes - at) → length into ≡ room
    → (room == 0) ≡ false → take n into ≡ take n (drop at bytes) → IfSome told (λ b. Gives b at into n)
given_most told bytes into at n room t e s z f =
    subst (λ (o : Option (List ℕ)). IfSome o (λ b. Gives b at into n)) (sym t) (gives_most bytes into at n room e s (some_room room z) f)

-- the answer of a fetch that is no fault
pub answer_given : (told : Option (List ℕ)) (bytes : List ℕ) (fails : Bool) (at n room : ℕ) → told ≡ Some bytes → fails ≡ false → (room == 0) ≡ false
    → n ≡ min room (length bytes - at)
    → ◌≡◌ {A = Result ℕ NoFetch} (Ok n) (if room == 0 then Ok 0 else (if fails then Err Failed else answer_from told at room))
answer_given told bytes fails at n room t f z e = rw (t, f, z, e) (search rules)
