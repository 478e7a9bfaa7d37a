-- A listing grows by the line at the next code address.
use Rattle.std.proofs.Common.{◌≡◌, ℕ, ◌+◌, ◌<◌, true, List, [], ◌∷◌, ◌++◌, All, Contains, Option, Some, sym, subst, ap, arith, MatchOption, ◌∙◌, ⊎_elim}
use Rattle.std.proofs.lemmas.Bool.{cases_lt, false≢true}
use Rattle.std.proofs.lemmas.Grind.{common_steps}
use Rattle.std.proofs.lemmas.List.{flat_map_more}
use Rattle.std.proofs.lemmas.List.Elements.{All-push, Contains-push, Contains-append_left}
use Rattle.std.specs.List.Sorted.{IsStrictlyIncreasing}
use Rattle.bt_image.specs.Image.{is_code, IsNextCode, HasNoCodeFrom}
use Rattle.sparc_text.specs.Listing.{line_at}
use Rattle.sparc_text.specs.Progress.{AreCodeBelow, IsListedUpTo}

-- rising numbers rise with one more that is above them all
rise_push : (xs : List ℕ) (y : ℕ) → IsStrictlyIncreasing xs → All (λ a. a < y) xs → IsStrictlyIncreasing (xs ++ y ∷ [])
rise_push xs y rise below k within = grind (arith, common_steps, rise k, below k 0)

-- the code addresses below the one behind the next code address are those before, and that one
below_push : (image addresses : List ℕ) (from at : ℕ) → AreCodeBelow image from addresses → IsNextCode image from at
    → AreCodeBelow image (at + 1) (addresses ++ at ∷ [])
below_push image addresses from at below next = record {
  rise = rise_push addresses at below.rise (λ k d within. let lt = (below.each k d within).0 in let above = next.above in omega arith);
  each = All-push (λ a. (a < at + 1) × (is_code image a ≡ true)) addresses at
      (λ k d within. let these = below.each k d within in let lt = these.0 in let above = next.above in (omega arith, these.1)) (omega arith, next.code);
  all = λ a within code.
      ⊎_elim (λ lt. Contains-append_left addresses (at ∷ []) a (below.all a lt code))
      (λ above. ⊎_elim (λ lt. absurd (let none = next.least a above lt in false≢true (sym none ∙ code)))
      (λ over. let e : at ≡ a = omega arith in subst (λ (x : ℕ). Contains (addresses ++ at ∷ []) x) e (Contains-push addresses at))
      (cases_lt a at))
      (cases_lt a from);
}

-- the text with the line at the next code address is listed up to the address behind it
pub listed_push : (image text grown : List ℕ) (at : ℕ) (next : Option ℕ) → IsListedUpTo image text (Some at)
    → grown ≡ text ++ line_at image at → MatchOption next (HasNoCodeFrom image (at + 1)) (IsNextCode image (at + 1))
    → IsListedUpTo image grown next
listed_push image text grown at next listed more follows = record {
  from = at + 1;
  addresses = listed.addresses ++ at ∷ [];
  below = below_push image listed.addresses listed.from at listed.below listed.follows;
  lines = more ∙ ap (λ (these : List ℕ). these ++ line_at image at) listed.lines ∙ flat_map_more (λ a. line_at image a) [] listed.addresses at;
  follows = follows;
}
