-- Joins in any order.
use Rattle.std.proofs.Common.{◌≡◌, ℕ, List, [], ◌∷◌, ◌↔◌, sym, subst, All, Contains}
use Rattle.std.proofs.lemmas.List.Elements.{All-cons, All-head, All-tail, All-nil, All-contains, All-contains_itself, All-weaker}
use Rattle.value_lattice.specs.Laws.{JoinsTo, AreMore}
use Rattle.value_lattice.specs.Value.{AtMost, IsOver, IsJoin}
use Rattle.value_lattice.specs.declared.value.Value.{Value}
use Rattle.value_lattice.proofs.ValueLemmas.{same_value, over_more}

pub at_most_trans : (a b c : Value) → AtMost a b → AtMost b c → AtMost a c
at_most_trans a b c up on = record { words = λ w ra word address has. on.words w ra word address (up.words w ra word address has) }

-- the least value that is at least all of a list
record IsLeastOf (t : List ℕ) (values : List Value) (v : Value) : Type 0 where
  pub over : IsOver t v
  pub each : All (λ x. AtMost x v) values
  pub least : (u : Value) → IsOver t u → All (λ x. AtMost x u) values → AtMost v u

least_of_joins : (t : List ℕ) (a v : Value) (bs : List Value) → All (IsOver t) (a ∷ bs) → JoinsTo t a bs v → IsLeastOf t (a ∷ bs) v
least_of_joins t a v [] over is = record {
  over = subst (IsOver t) (sym is) (All-head (IsOver t) a [] over);
  each = All-cons (λ x. AtMost x v) a [] (subst (λ (x : Value). AtMost a x) (sym is) (record { words = λ w ra word address has. has }))
      (All-nil (λ x. AtMost x v));
  least = λ u over_u each. subst (λ (x : Value). AtMost x u) (sym is) (All-head (λ x. AtMost x u) a [] each);
}
least_of_joins t a v (b ∷ bs) over (m, join, rest) =
    let overs : All (IsOver t) (m ∷ bs) = All-cons (IsOver t) m bs join.over (All-tail (IsOver t) b bs (All-tail (IsOver t) a (b ∷ bs) over)) in
    let least = least_of_joins t m v bs overs rest in
    let m_below : AtMost m v = All-head (λ x. AtMost x v) m bs least.each in
    record {
      over = least.over;
      each = All-cons (λ x. AtMost x v) a (b ∷ bs) (at_most_trans a m v join.left m_below)
          (All-cons (λ x. AtMost x v) b bs (at_most_trans b m v join.right m_below) (All-tail (λ x. AtMost x v) m bs least.each));
      least = λ u over_u each.
          let tail = All-tail (λ x. AtMost x u) a (b ∷ bs) each in
          least.least u over_u (All-cons (λ x. AtMost x u) m bs (join.least u over_u (All-head (λ x. AtMost x u) a (b ∷ bs) each)
          (All-head (λ x. AtMost x u) b bs tail)) (All-tail (λ x. AtMost x u) b bs tail));
    }

-- the same values joined in any order come to one
pub joins_agree : (t : List ℕ) (a b v u : Value) (firsts seconds : List Value) → All (IsOver t) (a ∷ firsts) → All (IsOver t) (b ∷ seconds)
    → ((x : Value) → Contains (a ∷ firsts) x ↔ Contains (b ∷ seconds) x) → JoinsTo t a firsts v → JoinsTo t b seconds u → v ≡ u
joins_agree t a b v u firsts seconds over_firsts over_seconds same first second =
    let one = least_of_joins t a v firsts over_firsts first in
    let other = least_of_joins t b u seconds over_seconds second in
    let up : AtMost v u = one.least u other.over (All-weaker (Contains (a ∷ firsts)) (λ x. AtMost x u)
    (λ x has. All-contains (λ x. AtMost x u) (b ∷ seconds) x other.each ((same x).0 has)) (a ∷ firsts) (All-contains_itself (a ∷ firsts))) in
    let down : AtMost u v = other.least v one.over (All-weaker (Contains (b ∷ seconds)) (λ x. AtMost x v)
    (λ x has. All-contains (λ x. AtMost x v) (a ∷ firsts) x one.each ((same x).1 has)) (b ∷ seconds) (All-contains_itself (b ∷ seconds))) in
    same_value v u one.over.value other.over.value up down

-- lesser values over more thresholds have joins that are at most the others
pub join_is_monotone : (t more : List ℕ) (a b c d v u : Value) → AreMore t more → AtMost c a → AtMost d b → IsJoin t a b v → IsJoin more c d u → AtMost u v
join_is_monotone t more a b c d v u in_more left right join less =
    less.least v (over_more t more v in_more.thresholds join.over) (at_most_trans c a v left join.left) (at_most_trans d b v right join.right)
