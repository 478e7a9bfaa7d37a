-- How many functions there are.
use Rattle.std.proofs.Common.{◌≡◌, ℕ, ◌<◌, ◌≤◌, true, false, List, length, Some, None, refl, sym, ◌∙◌, ap, arith}
use Rattle.std.specs.Prelude.{nat_lt}
use Rattle.std.specs.BTreeMap.{BTreeMap, btree_map_len}
use Rattle.std.proofs.lemmas.Bool.Decides.{nat_tests}
use Rattle.std.proofs.lemmas.List.{length-map}
use Rattle.bt_image.specs.Names.{AreNames}
use Rattle.bt_image.specs.Refusal.{limits_refusal}
use Rattle.bt_image.specs.Symbol.{functions, symbol_count}
use Rattle.bt_image.specs.declared.names.Name.{Name}
use Rattle.bt_image.specs.declared.refusal.Counted.TheVariants.{Functions}
use Rattle.bt_image.specs.declared.refusal.ImageRefusal.TheVariants.{Limit}

-- as many as the map of names has keys
length-functions : (file strings : List ℕ) (names : BTreeMap ℕ Name) → AreNames file strings (symbol_count file) names
    → length (functions file) ≡ btree_map_len names
unfolding functions
length-functions file strings names are = ap length (sym are.keys) ∙ length-map names.entries (λ (e : ℕ × Name). e.0)

-- so many functions pass the limit
pub limits-many : (file strings : List ℕ) (names : BTreeMap ℕ Name) (count : ℕ) → AreNames file strings (symbol_count file) names → count ≡ btree_map_len names
    → symbol_count file ≤ 262144 → 16384 < count → limits_refusal file ≡ Some (Limit Functions count)
unfolding limits_refusal
limits-many file strings names count are is few many =
    let e : length (functions file) ≡ count = length-functions file strings names are ∙ sym is in
    let a : nat_lt 262144 (symbol_count file) ≡ false = grind (arith, nat_tests) in
    let b : nat_lt 16384 count ≡ true = grind (arith, nat_tests) in
    rw (a, e, b) refl

-- so few functions pass no limit
pub limits-few : (file strings : List ℕ) (names : BTreeMap ℕ Name) (count : ℕ) → AreNames file strings (symbol_count file) names → count ≡ btree_map_len names
    → symbol_count file ≤ 262144 → count ≤ 16384 → limits_refusal file ≡ None
unfolding limits_refusal
limits-few file strings names count are is few less =
    let e : length (functions file) ≡ count = length-functions file strings names are ∙ sym is in
    let a : nat_lt 262144 (symbol_count file) ≡ false = grind (arith, nat_tests) in
    let b : nat_lt 16384 count ≡ false = grind (arith, nat_tests) in
    rw (a, e, b) refl
