-- The numbers of program points, and graphs of numbered steps.
use Rattle.std.proofs.Common.{◌≡◌, ℕ, suc, zero, ◌+◌, ◌<◌, ◌⊎◌, inl, inr, Bool, true, false, ◌||◌, ◌&&◌, ◌==◌, List, [], ◌∷◌, ◌++◌, length, get_or, take, replicate, Option, Some, None, Err, Contains, refl, sym, ap, ◌∙◌, subst, arith}
use Rattle.std.specs.Prelude.{IsSome}
use Rattle.std.specs.Cmp.{IsTotalOrder}
use Rattle.std.specs.List.Sorted.{IsStrictlySortedBy, IsSortedBy, IsBinarySearchResult, IsPartitionPoint}
use Rattle.std.specs.Ordering.{is_lt, ordering_reverse}
use Rattle.std.specs.declared.cmp.Ordering.TheVariants.{Less, Equal, Greater}
use Rattle.std.proofs.lemmas.Bool.{cases_lt, false≢true, and_parts}
use Rattle.std.proofs.lemmas.Bool.Decides.{nat_tests}
use Rattle.std.proofs.lemmas.Cmp.{tied_itself}
use Rattle.std.proofs.lemmas.List.{length-replicate, take_more}
use Rattle.std.proofs.lemmas.List.Sorted.{searchable_from_sorted}
use Rattle.std.proofs.lemmas.Map.Keys.{Less-from_sorted}
use Rattle.abs_state.proofs.KeyLemmas.{keys_are_ordered}
use Rattle.abs_state.specs.declared.key.Key.TheVariants.{Node}
use Rattle.abs_state.specs.declared.key.Place.{Place}
use Rattle.bt_base.specs.Graph.{has, is_edge, is_edge_with}
use Rattle.graph_view.proofs.Stands.{has_from, has_to, has_front, has_back, has_either}
use Rattle.graph_view.specs.Numbers.{place_cmp, IsNumber, Leads, HasStep, AddsStep, IsStepGraph}
use Rattle.graph_view.specs.declared.lists.Step.{Step}

node_key : (p q : Place) → Node p ≡ Node q → p ≡ q
node_key p q same = cc

place_exact : (p q : Place) → place_cmp p q ≡ Equal → p ≡ q
place_exact p q tie = node_key p q (keys_are_ordered.exact (Node p) (Node q) tie)

place_total : IsTotalOrder place_cmp
place_total = record {
  antisymm = λ p q. keys_are_ordered.total.antisymm (Node p) (Node q);
  trans = λ p q r. keys_are_ordered.total.trans (Node p) (Node q) (Node r);
  congr = λ p q r. keys_are_ordered.total.congr (Node p) (Node q) (Node r);
}

module _ (nodes : List Place) (rise : IsStrictlySortedBy place_cmp nodes) where
  sorted : IsSortedBy (λ a b. is_lt (place_cmp a b)) nodes
  sorted k d low high =
      ap is_lt (place_total.antisymm (get_or nodes (k + 1) d) (get_or nodes k d)
      ∙ ap ordering_reverse (Less-from_sorted place_cmp nodes k (k + 1) d rise (omega arith) high))

  -- what a binary search finds is the number
  pub number_at : (place : Place) (n : ℕ) → n < length nodes → ((d : Place) → place_cmp (get_or nodes n d) place ≡ Equal) → IsNumber nodes place n
  number_at place n within tie = record { within = within; is = λ d. place_exact (get_or nodes n d) place (tie d) }

  -- what it doesn't find isn't there
  pub none_at : (place : Place) (i : ℕ) → IsBinarySearchResult (λ y. place_cmp y place) nodes (Err i) → Contains nodes place → ⊥
  none_at place i parted (k, within, is) =
      let sides : IsPartitionPoint (λ y. place_cmp y place ≡ Less) (λ y. place_cmp y place ≡ Greater) nodes i =
      parted (searchable_from_sorted place_total (λ (p : Place). p) nodes place sorted) in
      let tie : place_cmp (get_or nodes k place) place ≡ Equal = subst (λ p. place_cmp p place ≡ Equal) (sym is) (tied_itself place_total place) in
      elim (cases_lt k i) [
        | inl before ↦ let less : Less ≡ Equal = sym (sides.0 k place (omega arith) before) ∙ tie in absurd (let f : Less ≡ Equal = less in cc)
        | inr after ↦ let more : Greater ≡ Equal = sym (sides.1 k place after within) ∙ tie in absurd (let f : Greater ≡ Equal = more in cc)
      ]

  -- a program point has one number
  pub one_number : (place : Place) (n m : ℕ) → IsNumber nodes place n → IsNumber nodes place m → n ≡ m
  one_number place n m at also = elim (cases_lt n m) [
    | inl before ↦ absurd (apart n m before also.within at also)
    | inr others ↦ elim (cases_lt m n) [ inl after ↦ absurd (apart m n after at.within also at) | inr here ↦ omega (arith, others, here) ]
  ]
    where
      apart : (j k : ℕ) → j < k → k < length nodes → IsNumber nodes place j → IsNumber nodes place k → ⊥
      apart j k less within one other =
          let order : place_cmp (get_or nodes j place) (get_or nodes k place) ≡ Less =
          Less-from_sorted place_cmp nodes j k place rise less within in
          let same : place_cmp (get_or nodes j place) (get_or nodes k place) ≡ Equal =
          (λ i. place_cmp (one.is place i) (other.is place i)) ∙ tied_itself place_total place in
          let wrong : Less ≡ Equal = sym order ∙ same in cc

number_there : (nodes : List Place) (place : Place) (n : ℕ) → IsNumber nodes place n → Contains nodes place
number_there nodes place n at = (n, at.within, at.is place)

-- a program point that isn't found isn't an end of a numbered step
pub no_from : (nodes : List Place) (step : Step) (found : Contains nodes step.from → ⊥) (n m : ℕ) → Leads nodes step n m → ⊥
no_from nodes step none n m leads = none (number_there nodes step.from n leads.from)

pub no_to : (nodes : List Place) (step : Step) (found : Contains nodes step.to → ⊥) (n m : ℕ) → Leads nodes step n m → ⊥
no_to nodes step none n m leads = none (number_there nodes step.to m leads.to)

pub not_found : (answer : Option ℕ) (P : Type 0) → ((n : ℕ) → answer ≡ Some n → ⊥) → (P → IsSome answer) → P → ⊥
not_found None P none found p = false≢true (found p)
not_found (Some n) P none found p = none n refl

-- a step of which one end isn't numbered adds nothing
pub adds_none : (nodes : List Place) (step : Step) (graph : List (List ℕ)) → ((n m : ℕ) → Leads nodes step n m → ⊥) → AddsStep nodes step graph graph
adds_none nodes step graph never = record {
  count = refl;
  has = λ n m edge. inl edge;
  keeps = λ n m edge. edge;
  adds = λ n m leads. absurd (never n m leads);
}

or_parts : (a b : Bool) → (a || b) ≡ true → (a ≡ true) ⊎ (b ≡ true)
or_parts true b is = inl refl
or_parts false b is = inr is

pub or_left : (a b : Bool) → a ≡ true → (a || b) ≡ true
or_left a b is = ap (λ c. c || b) is

pub or_right : (a b : Bool) → b ≡ true → (a || b) ≡ true
or_right true b is = refl
or_right false b is = is

test_same : (x n : ℕ) → (x == n) ≡ true → x ≡ n
test_same x n is = grind (arith, nat_tests)

pub same_tests : (n m from to : ℕ) → n ≡ from → m ≡ to → ((n == from) && (m == to)) ≡ true
same_tests n m from to one other = grind (arith, nat_tests)

-- a step between two numbers adds its edge
pub adds_one : (nodes : List Place) (step : Step) (old new : List (List ℕ)) (from to : ℕ) → IsStrictlySortedBy place_cmp nodes
    → IsNumber nodes step.from from → IsNumber nodes step.to to → length new ≡ length old
    → ((n m : ℕ) → is_edge new n m ≡ is_edge_with old from to n m) → AddsStep nodes step old new
adds_one nodes step old new from to rise at_from at_to count edges = record {
  count = count;
  has = λ n m edge.
      elim (or_parts (is_edge old n m) ((n == from) && (m == to)) (sym (edges n m) ∙ edge)) [
        | inl before ↦ inl before
        | inr added ↦
            let ends : ((n == from) ≡ true) × ((m == to) ≡ true) = and_parts (n == from) (m == to) added in
            inr (record {
              from = subst (λ k. IsNumber nodes step.from k) (sym (test_same n from ends.0)) at_from;
              to = subst (λ k. IsNumber nodes step.to k) (sym (test_same m to ends.1)) at_to;
            })
      ];
  keeps = λ n m edge. edges n m ∙ or_left (is_edge old n m) ((n == from) && (m == to)) edge;
  adds = λ n m leads.
      edges n m ∙ or_right (is_edge old n m) ((n == from) && (m == to))
      (same_tests n m from to (one_number nodes rise step.from n from leads.from at_from) (one_number nodes rise step.to m to leads.to at_to));
}

-- graphs of more and more steps

abbrev no_row : List ℕ
no_row = []

row_of_none : (n k : ℕ) → get_or (replicate n no_row) k no_row ≡ no_row
row_of_none zero k = refl
row_of_none (suc n) zero = refl
row_of_none (suc n) (suc k) = row_of_none n k

pub step_graph_none : (nodes : List Place) (count : ℕ) → count ≡ length nodes → IsStepGraph nodes [] (replicate count [])
step_graph_none nodes count is = record {
  count = length-replicate count no_row ∙ is;
  has = λ n m edge. absurd (false≢true (sym (ap (λ row. has row m) (row_of_none count n)) ∙ edge));
  all = λ n m step. absurd (omega (arith, step.among.1));
}

in_front : (xs ys : List Step) (s : Step) → Contains xs s → Contains (xs ++ ys) s
in_front xs ys s has = has_to (xs ++ ys) s (has_front xs ys s (has_from xs s has))

at_end : (xs : List Step) (s : Step) → Contains (xs ++ s ∷ []) s
at_end xs s = has_to (xs ++ s ∷ []) s (has_back xs (s ∷ []) s (inl refl))

front_or_end : (xs : List Step) (s t : Step) → Contains (xs ++ s ∷ []) t → Contains xs t ⊎ (s ≡ t)
front_or_end xs s t has = elim (has_either xs (s ∷ []) t (has_from (xs ++ s ∷ []) t has)) [
  | inl front ↦ inl (has_to xs t front)
  | inr end ↦ elim end [ inl is ↦ inr is | inr none ↦ absurd none ]
]

more_steps : (nodes : List Place) (steps : List Step) (step : Step) (old new : List (List ℕ)) → IsStepGraph nodes steps old
    → AddsStep nodes step old new → IsStepGraph nodes (steps ++ step ∷ []) new
more_steps nodes steps step old new graph added = record {
  count = added.count ∙ graph.count;
  has = λ n m edge. elim (added.has n m edge) [
    | inl before ↦
        let found : HasStep nodes steps n m = graph.has n m before in
        record { step = found.step; among = in_front steps (step ∷ []) found.step found.among; leads = found.leads }
    | inr leads ↦ record { step = step; among = at_end steps step; leads = leads }
  ];
  all = λ n m found. elim (front_or_end steps step found.step found.among) [
    | inl front ↦ added.keeps n m (graph.all n m (record { step = found.step; among = front; leads = found.leads }))
    | inr is ↦ added.adds n m (subst (λ s. Leads nodes s n m) (sym is) found.leads)
  ];
}

-- the graph of one step more
pub step_graph_more : (nodes : List Place) (steps : List Step) (i : ℕ) (d : Step) (old new : List (List ℕ)) → i < length steps
    → IsStepGraph nodes (take i steps) old → AddsStep nodes (get_or steps i d) old new → IsStepGraph nodes (take (i + 1) steps) new
step_graph_more nodes steps i d old new less graph added =
    subst (λ list. IsStepGraph nodes list new) (sym (take_more steps i d less))
    (more_steps nodes (take i steps) (get_or steps i d) old new graph added)
