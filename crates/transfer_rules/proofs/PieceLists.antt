-- Lists of pieces: one is covered by another, which has for each of its pieces one of its key that is at least as great.
use Rattle.std.proofs.Common.{◌≡◌, ℕ, zero, suc, ◌<◌, Bool, true, false, List, [], ◌∷◌, ◌++◌, length, Option, Some, None, Contains, refl, sym, ap}
use Rattle.std.proofs.Common.{subst, ◌∙◌, arith, inl, inr}
use Rattle.std.specs.Prelude.{slice_index_or}
use Rattle.std.specs.List.{All, flat_map, list_any}
use Rattle.std.proofs.lemmas.Bool.{false≢true, or_cases, or_left, or_right}
use Rattle.std.proofs.lemmas.List.Elements.{All-append, All-cons, All-nil, All-weaker, Contains-append_left, Contains-append_right}
use Rattle.abs_state.specs.State.{State, is_at_most as is_state_at_most, is_state_over}
use Rattle.abs_state.specs.declared.key.GapKind.{GapKind}
use Rattle.abs_state.specs.declared.key.Key.{Key}
use Rattle.abs_state.specs.declared.key.Key.TheVariants as key
use Rattle.abs_state.specs.declared.key.Place.{Place}
use Rattle.transfer_rules.specs.Fact.{Piece, is_at_most}
use Rattle.transfer_rules.specs.Give.{gap, given_if, goes, pieces_of}
use Rattle.transfer_rules.specs.Lawful.{is_less, is_over_or_none}
use Rattle.transfer_rules.specs.declared.fact.Fact.{Fact}
use Rattle.transfer_rules.specs.declared.fact.Fact.TheVariants as fact

-- the list has a piece at this key whose fact is at least this one
pub record IsAbove (others : List Piece) (piece : Piece) : Type 0 where
  pub fact : Fact
  pub listed : Contains others (piece.0, fact)
  pub above : is_at_most piece.1 fact ≡ true

-- for each piece of the first list the second has one of its key that is at least as great
abbrev pub AreCovered : List Piece → List Piece → Type 0
AreCovered pieces others = All (IsAbove others) pieces

above_left : (xs ys : List Piece) (piece : Piece) → IsAbove xs piece → IsAbove (xs ++ ys) piece
above_left xs ys piece is = record { fact = is.fact; listed = Contains-append_left xs ys (piece.0, is.fact) is.listed; above = is.above }

above_right : (xs ys : List Piece) (piece : Piece) → IsAbove ys piece → IsAbove (xs ++ ys) piece
above_right xs ys piece is = record { fact = is.fact; listed = Contains-append_right xs ys (piece.0, is.fact) is.listed; above = is.above }

-- no piece is covered by any
pub none_covered : (others : List Piece) → AreCovered [] others
none_covered others = All-nil (IsAbove others)

pub covered_left : (pieces xs ys : List Piece) → AreCovered pieces xs → AreCovered pieces (xs ++ ys)
covered_left pieces xs ys are = All-weaker (IsAbove xs) (IsAbove (xs ++ ys)) (above_left xs ys) pieces are

pub covered_right : (pieces xs ys : List Piece) → AreCovered pieces ys → AreCovered pieces (xs ++ ys)
covered_right pieces xs ys are = All-weaker (IsAbove ys) (IsAbove (xs ++ ys)) (above_right xs ys) pieces are

-- two lists are covered by two
pub both_covered : (ps qs xs ys : List Piece) → AreCovered ps xs → AreCovered qs ys → AreCovered (ps ++ qs) (xs ++ ys)
both_covered ps qs xs ys one two = All-append (IsAbove (xs ++ ys)) ps qs (covered_left ps xs ys one) (covered_right qs xs ys two)

-- pieces in front of others
pub first_covered : (k : Key) (v u : Fact) (ps qs : List Piece) → is_at_most v u ≡ true → AreCovered ps qs → AreCovered ((k, v) ∷ ps) ((k, u) ∷ qs)
first_covered k v u ps qs up rest =
    All-cons (IsAbove ((k, u) ∷ qs)) (k, v) ps (record { fact = u; listed = (0, omega arith, refl); above = up })
    (covered_right ps ((k, u) ∷ []) qs rest)

-- one piece is covered by a greater one
pub one_covered : (k : Key) (v u : Fact) → is_at_most v u ≡ true → AreCovered ((k, v) ∷ []) ((k, u) ∷ [])
one_covered k v u up = first_covered k v u [] [] up (none_covered [])

-- what is given where something is so is given where more is so
pub given_covered : (a b : Bool) (ps qs : List Piece) → (a ≡ true → b ≡ true) → AreCovered ps qs → AreCovered (given_if a ps) (given_if b qs)
given_covered true true ps qs more are = are
given_covered true false ps qs more are = absurd (false≢true (more refl))
given_covered false b ps qs more are = none_covered (given_if b qs)

-- what each of a list gives, where another list has them all
module _ {A : Type 0} (g : A → List Piece) where
  covered_at : (ys : List A) (x : A) (k : ℕ) → k < length ys → slice_index_or ys k x ≡ x → (ps : List Piece) → AreCovered ps (g x)
      → AreCovered ps (flat_map g ys)
  covered_at [] x k below is ps are = absurd (omega arith)
  covered_at (y ∷ ys) x zero below is ps are = covered_left ps (g y) (flat_map g ys) (subst (λ (z : A). AreCovered ps (g z)) (sym is) are)
  covered_at (y ∷ ys) x (suc k) below is ps are = covered_right ps (g y) (flat_map g ys) (covered_at ys x k (omega arith) is ps are)

  -- what is given for each is covered by what is given for more
  pub each_covered : (f : A → List Piece) (xs ys : List A) → ((a : A) → Contains xs a → Contains ys a) → ((a : A) → AreCovered (f a) (g a))
      → AreCovered (flat_map f xs) (flat_map g ys)
  each_covered f [] ys more are = none_covered (flat_map g ys)
  each_covered f (x ∷ xs) ys more are =
      let here = more x (0, omega arith, refl) in
      All-append (IsAbove (flat_map g ys)) (f x) (flat_map f xs) (covered_at ys x here.0 here.1 here.2 (f x) (are x))
      (each_covered f xs ys (λ a has. more a (Contains-append_right (x ∷ []) xs a has)) are)

-- a test that one of a list passes is passed by one of a list that has them all
module _ {A : Type 0} (test : A → Bool) where
  any_at : (ys : List A) (x : A) (k : ℕ) → k < length ys → slice_index_or ys k x ≡ x → test x ≡ true → list_any test ys ≡ true
  any_at [] x k below is passes = absurd (omega arith)
  any_at (y ∷ ys) x zero below is passes = or_left (test y) (list_any test ys) (ap test is ∙ passes)
  any_at (y ∷ ys) x (suc k) below is passes = or_right (test y) (list_any test ys) (any_at ys x k (omega arith) is passes)

  -- what passes a test in a list passes it in a longer one
  pub any_of_more : (xs ys : List A) → ((a : A) → Contains xs a → Contains ys a) → list_any test xs ≡ true → list_any test ys ≡ true
  any_of_more [] ys more passes = absurd (false≢true passes)
  any_of_more (x ∷ xs) ys more passes =
      elim (or_cases (test x) (list_any test xs) passes) [
        | inl first ↦ (let here = more x (0, omega arith, refl) in any_at ys x here.0 here.1 here.2 first)
        | inr rest ↦ any_of_more xs ys (λ a has. more a (Contains-append_right (x ∷ []) xs a has)) rest
      ]

-- two states, the lesser over more thresholds
pub record IsUnder (t more : List ℕ) (a b : State) : Type 0 where
  pub lower : is_state_over more a ≡ true
  pub upper : is_state_over t b ≡ true
  pub up : is_state_at_most a b ≡ true

-- what is given of a lesser state that there may be
pub states_covered : (t more : List ℕ) (o p : Option State) (give other : State → List Piece) → is_over_or_none more o ≡ true → is_over_or_none t p ≡ true
    → is_less o p ≡ true → ((a b : State) → IsUnder t more a b → AreCovered (give a) (other b)) → AreCovered (pieces_of o give) (pieces_of p other)
states_covered t more None p give other lower upper less are = none_covered (pieces_of p other)
states_covered t more (Some a) None give other lower upper less are = absurd (false≢true less)
states_covered t more (Some a) (Some b) give other lower upper less are = are a b (record { lower = lower; upper = upper; up = less })

-- the step from one place to another, with a lesser state
pub step_covered : (p q : Place) (a b : State) → is_state_at_most a b ≡ true → AreCovered (goes p q a) (goes p q b)
step_covered p q a b up =
    first_covered (key.Node q) (fact.State a) (fact.State b) ((key.Edge p q, fact.Mark) ∷ []) ((key.Edge p q, fact.Mark) ∷ []) up
    (one_covered (key.Edge p q) fact.Mark fact.Mark refl)

-- a gap is covered by itself
pub gap_covered : (p : Place) (kind : GapKind) → AreCovered (gap p kind ∷ []) (gap p kind ∷ [])
gap_covered p kind = one_covered (key.Gap p.sub p.pc kind) fact.Mark fact.Mark refl
