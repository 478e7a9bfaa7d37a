-- The labels of a file, and its functions whose entries stand in words.
use Rattle.std.proofs.Common.{◌≡◌, ℕ, zero, suc, ◌<◌, ◌≤◌, Bool, true, false, cond, List, [], ◌∷◌, length, get_or, All}
use Rattle.std.proofs.Common.{Contains, refl, sym, ◌∙◌, subst, arith, if◌then◌else◌}
use Rattle.std.specs.Prelude.{◌==◌, nat_lt}
use Rattle.std.proofs.lemmas.List.{get_or_default}
use Rattle.std.proofs.lemmas.List.Elements.{All-nil, All-cons, All-head, All-tail, All-contains}
use Rattle.bt_image.specs.Image.{is_code}
use Rattle.bt_image.specs.Label.{AreExactly, IsCodeIn, IsLabel, IsLabelWithin, IsTaken}
use Rattle.bt_image.specs.Section.{test_of}
use Rattle.bt_image.specs.Symbol.{functions, functions_among, is_function_symbol, symbol_at, symbol_count, with_number}
use Rattle.bt_image.specs.Values.{AreShared}
use Rattle.bt_image.specs.declared.section.Access.TheVariants.{Loaded}
use Rattle.bt_image.proofs.SymbolLemmas.{and_both}

-- what holds of each element holds with one more number in its place
all_cond : (P : ℕ → Type 0) (b : Bool) (xs ys : List ℕ) → All P xs → All P ys → All P (cond b xs ys)
all_cond P true xs ys p q = p
all_cond P false xs ys p q = q

all_with_number : (P : ℕ → Type 0) (x : ℕ) (xs : List ℕ) → P x → All P xs → All P (with_number x xs)
all_with_number P x [] p all = All-cons P x [] p all
all_with_number P x (y ∷ ys) p all =
    all_cond P (nat_lt x y) (x ∷ y ∷ ys) _ (All-cons P x (y ∷ ys) p all)
    (all_cond P (x == y) (y ∷ ys) _ all (All-cons P y (with_number x ys) (All-head P y ys all) (all_with_number P x ys p (All-tail P y ys all))))

-- a function symbol's value is a code address, and so each function is
symbol_code : (file : List ℕ) (k : ℕ) → is_function_symbol file k ≡ true → is_code file (symbol_at file k).value ≡ true
unfolding is_function_symbol
symbol_code file k h = let names = (and_both _ _ h).0 in (and_both _ _ ((and_both _ _ names).1)).1

all_code : (file : List ℕ) (n : ℕ) → All (λ a. is_code file a ≡ true) (functions_among file n)
all_code file zero = All-nil _
all_code file (suc n) = by (all_code file n) (is_function_symbol file n) refl
  where
    by : All (λ a. is_code file a ≡ true) (functions_among file n) → (b : Bool) → is_function_symbol file n ≡ b
        → All (λ a. is_code file a ≡ true) (if b then with_number (symbol_at file n).value (functions_among file n) else functions_among file n)
    by all true e = all_with_number (λ a. is_code file a ≡ true) (symbol_at file n).value (functions_among file n) (symbol_code file n e) all
    by all false e = all

pub function_code : (file : List ℕ) (a : ℕ) → Contains (functions file) a → is_code file a ≡ true
unfolding functions
function_code file a c = All-contains (λ x. is_code file x ≡ true) (functions_among file (symbol_count file)) a (all_code file (symbol_count file)) c

-- the functions that stand among the code addresses in words are those that are taken
pub exactly_taken : (file addresses values found : List ℕ) (n : ℕ) → addresses ≡ functions file
    → AreExactly (IsCodeIn (test_of Loaded) file) values → length addresses ≤ n
    → AreShared addresses values n found → AreExactly (IsTaken file) found
exactly_taken file addresses values found n same are le shared = record {
  rise = shared.rise;
  each = λ k d lt. (let p = shared.each (get_or found k d) (k, lt, get_or_default found k (get_or found k d) d lt) in
      let v = All-contains (IsCodeIn (test_of Loaded) file) values (get_or found k d) are.each p.1 in
      record { function = subst (λ xs. Contains xs (get_or found k d)) same p.0; place = v.place; word = v.word });
  all = λ a t. (let c = subst (λ xs. Contains xs a) (sym same) t.function in
      let at = get_or_default addresses c.0 0 a c.1 ∙ c.2 in
      let v = are.all a (record { code = function_code file a t.function; place = t.place; word = t.word }) in
      subst (Contains found) at (shared.all c.0 (let h = c.1 in omega arith) (subst (Contains values) (sym at) v)));
}

-- the labels between two ends
pub each_within : (file labels found : List ℕ) (low high : ℕ) → AreExactly (IsLabel file) labels → All (λ a. Contains labels a × (low ≤ a) × (a < high)) found
    → All (IsLabelWithin file low high) found
each_within file labels found low high are each = λ k d lt.
    let p = each k d lt in
    record { label = All-contains (IsLabel file) labels (get_or found k d) are.each p.0; above = p.1; below = p.2 }

-- each label within the ends is found
pub all_within : (file labels found : List ℕ) (low high : ℕ) → AreExactly (IsLabel file) labels
    → ((a : ℕ) → Contains labels a → low ≤ a → a < high → Contains found a) → (a : ℕ) → IsLabelWithin file low high a → Contains found a
all_within file labels found low high are all a within = all a (are.all a within.label) within.above within.below
