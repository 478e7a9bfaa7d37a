-- An image has at most one listing, since rising lists of the same numbers are the same.
use Rattle.std.proofs.Common.{◌≡◌, ℕ, suc, zero, ◌+◌, ◌<◌, ◌≤◌, ◌⊎◌, inl, inr, ⊎_elim, true, List, [], ◌∷◌, Contains, refl, sym, ap, arith, ◌∙◌, get_or}
use Rattle.std.specs.List.{flat_map}
use Rattle.std.specs.List.Sorted.{IsStrictlyIncreasing}
use Rattle.std.proofs.lemmas.List.Elements.{All-contains}
use Rattle.std.proofs.lemmas.List.Kept.{AllPairs-from_increasing}
use Rattle.bt_image.specs.Image.{is_code}
use Rattle.sparc_text.specs.Listing.{line_at, AreCodeAddresses, IsListing}

-- the rest of rising numbers rises
rest_rises : (x : ℕ) (xs : List ℕ) → IsStrictlyIncreasing (x ∷ xs) → IsStrictlyIncreasing xs
rest_rises x xs rises k below = let next : suc k + 1 ≡ suc (k + 1) = omega arith in rw next at (rises (suc k) (omega arith))

-- what stands behind the first of rising numbers is above it
rest_is_above : (x : ℕ) (xs : List ℕ) (w : ℕ) → IsStrictlyIncreasing (x ∷ xs) → Contains xs w → x < w
rest_is_above x xs w rises (k, within, is) =
    let up : get_or (x ∷ xs) 0 w < get_or (x ∷ xs) (suc k) w = AllPairs-from_increasing (x ∷ xs) rises 0 (suc k) w (omega arith) (omega arith) in
    omega (arith, up, is)

-- a number of a list is its first, or stands behind it
first_or_rest : (x : ℕ) (xs : List ℕ) (w : ℕ) → Contains (x ∷ xs) w → (x ≡ w) ⊎ Contains xs w
first_or_rest x xs w (zero, within, is) = inl is
first_or_rest x xs w (suc k, within, is) = inr (k, omega arith, is)

here : (x : ℕ) (xs : List ℕ) → Contains (x ∷ xs) x
here x xs = (0, omega arith, refl)

behind : (x : ℕ) (xs : List ℕ) (w : ℕ) → Contains xs w → Contains (x ∷ xs) w
behind x xs w (k, within, is) = (suc k, omega arith, is)

-- the first of rising numbers is the least of them
first_is_least : (x : ℕ) (xs : List ℕ) (w : ℕ) → IsStrictlyIncreasing (x ∷ xs) → Contains (x ∷ xs) w → x ≤ w
first_is_least x xs w rises has =
    ⊎_elim (λ is. omega (arith, is)) (λ rest. let above = rest_is_above x xs w rises rest in omega arith) (first_or_rest x xs w has)

-- what is above the first stands behind it
in_rest : (x : ℕ) (xs : List ℕ) (w : ℕ) → Contains (x ∷ xs) w → x < w → Contains xs w
in_rest x xs w has above = ⊎_elim (λ is. absurd (omega (arith, is))) (λ rest. rest) (first_or_rest x xs w has)

same_rising : (xs ys : List ℕ) → IsStrictlyIncreasing xs → IsStrictlyIncreasing ys → ((w : ℕ) → Contains xs w → Contains ys w)
    → ((w : ℕ) → Contains ys w → Contains xs w) → xs ≡ ys
same_rising [] [] rises others there back = refl
same_rising [] (y ∷ ys) rises others there back = absurd (omega (arith, (back y (here y ys)).1))
same_rising (x ∷ xs) [] rises others there back = absurd (omega (arith, (there x (here x xs)).1))
same_rising (x ∷ xs) (y ∷ ys) rises others there back =
    let up : y ≤ x = first_is_least y ys x others (there x (here x xs)) in
    let down : x ≤ y = first_is_least x xs y rises (back y (here y ys)) in
    let same : x ≡ y = omega arith in
    let rest : xs ≡ ys =
    same_rising xs ys (rest_rises x xs rises) (rest_rises y ys others)
    (λ w has. let above : x < w = rest_is_above x xs w rises has in in_rest y ys w (there w (behind x xs w has)) (omega arith))
    (λ w has. let above : y < w = rest_is_above y ys w others has in in_rest x xs w (back w (behind y ys w has)) (omega arith)) in
    cc

-- the code addresses of an image are one list
same_addresses : (image xs ys : List ℕ) → AreCodeAddresses image xs → AreCodeAddresses image ys → xs ≡ ys
same_addresses image xs ys first second =
    same_rising xs ys first.rise second.rise
    (λ w has. second.all w (All-contains (λ a. is_code image a ≡ true) xs w first.each has))
    (λ w has. first.all w (All-contains (λ a. is_code image a ≡ true) ys w second.each has))

-- an image has one listing
pub one_listing : (image one other : List ℕ) → IsListing image one → IsListing image other → one ≡ other
one_listing image one other first second =
    first.lines
    ∙ ap (λ (xs : List ℕ). flat_map (λ a. line_at image a) xs) (same_addresses image first.addresses second.addresses first.code second.code) ∙ sym second.lines
