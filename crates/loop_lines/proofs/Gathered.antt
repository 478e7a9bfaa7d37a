-- The addresses of the program points of a view that match asserted loops.
use Rattle.std.proofs.Common.{◌≡◌, ◌==◌, ℕ, ◌+◌, ◌<◌, Bool, true, false, List, [], ◌++◌, length, get_or, map, take, Contains, inl, inr, refl, sym, ap, subst, ◌∙◌, arith}
use Rattle.std.specs.List.Sorted.{IsStrictlySortedBy}
use Rattle.std.proofs.lemmas.Bool.{eqb-true, false≢true}
use Rattle.std.proofs.lemmas.List.Elements.{Contains-append_cases, Contains-append_left, Contains-append_right}
use Rattle.abs_state.specs.declared.key.Place.{Place}
use Rattle.bt_base.specs.Graph.{IsGraph, is_edge}
use Rattle.graph_view.proofs.Filling.{filter_from}
use Rattle.graph_view.proofs.Keyed.{filter_true}
use Rattle.graph_view.proofs.Numbered.{one_number}
use Rattle.graph_view.proofs.Stands.{has_from, has_to}
use Rattle.graph_view.specs.Numbers.{IsNumber, IsStepGraph, place_cmp}
use Rattle.graph_view.specs.Subs.{AreSubs, place_sub}
use Rattle.graph_view.specs.View.{ByKind, IsViewed, nodes_of, steps_of}
use Rattle.loop_lines.proofs.Lists.{IsOf, any_default, got, is_mapped, mapped_is, none_in, of_more}
use Rattle.loop_lines.specs.Matched.{AddsMatched, AreAddresses, AreMatching, AreOf, IsMatchedIn, Matches, address_at, pc_of}
use Rattle.transfer_rules.specs.Give.{entry_of}

-- the address of a program point by its number
pub numbered_address : (places : List Place) (place : Place) (n : ℕ) → IsNumber places place n → address_at places n ≡ place.pc
numbered_address places place n at = ap pc_of (got places n place at.within) ∙ ap (λ (p : Place). p.pc) (at.is place)

-- a program point of a list has a number
pub a_number : (places : List Place) (place : Place) → Contains places place → (n : ℕ) × IsNumber places place n
a_number places place (n, low, is) = (n, record { within = low; is = λ d. any_default places n d place low ∙ is })

-- and one with a number stands in the list
pub number_there : (places : List Place) (place : Place) (n : ℕ) → IsNumber places place n → Contains places place
number_there places place n at = (n, at.within, at.is place)

-- two tests that pass together are the same
same_test : (a b : Bool) → (a ≡ true → b ≡ true) → (b ≡ true → a ≡ true) → a ≡ b
same_test true b there back = sym (there refl)
same_test false true there back = absurd (false≢true (back refl))
same_test false false there back = refl

-- two graphs of the same steps have the same edges
step_edges : (view : ByKind) (sub : ℕ) (one two : List (List ℕ)) → IsStepGraph (nodes_of view sub) (steps_of view sub) one
    → IsStepGraph (nodes_of view sub) (steps_of view sub) two → is_edge one ≡ is_edge two
step_edges view sub one two first second = λ i n m. same n m i where
  same : (n m : ℕ) → is_edge one n m ≡ is_edge two n m
  same n m = same_test (is_edge one n m) (is_edge two n m) (λ edge. second.all n m (first.has n m edge)) (λ edge. first.all n m (second.has n m edge))

-- a subprogram with its graph, and the numbers of the program points that match
module _ (view : ByKind) (sub : ℕ) (graph : List (List ℕ)) (entry : ℕ) (numbers : List ℕ)
    (rise : IsStrictlySortedBy place_cmp (nodes_of view sub)) (is : IsGraph graph)
    (steps : IsStepGraph (nodes_of view sub) (steps_of view sub) graph) (begins : IsNumber (nodes_of view sub) (entry_of sub) entry)
    (are : AreMatching graph entry numbers) where
  abbrev places : List Place
  places = nodes_of view sub

  -- the addresses of these numbers are matched
  matched : (pc : ℕ) → Contains (map (address_at places) numbers) pc → IsMatchedIn view sub pc
  matched pc has =
      let found : IsOf (address_at places) numbers pc = mapped_is (address_at places) numbers pc has in
      let low : found.item < length graph = are.within found.item found.among in
      let within : found.item < length places = omega (arith, low, steps.count) in
      let place : Place = get_or places found.item (entry_of sub) in
      let at : IsNumber places place found.item = record { within = within; is = λ d. any_default places found.item d (entry_of sub) within } in
      record {
        graph = graph;
        is = is;
        steps = steps;
        entry = entry;
        begins = begins;
        place = place;
        node = found.item;
        at = at;
        address = sym (numbered_address places place found.item at) ∙ found.is;
        matches = (are.each found.item low).0 found.among;
      }

  -- and what is matched has such an address
  listed : (pc : ℕ) → IsMatchedIn view sub pc → Contains (map (address_at places) numbers) pc
  listed pc one =
      let edges : is_edge one.graph ≡ is_edge graph = step_edges view sub one.graph graph one.steps steps in
      let same : one.entry ≡ entry = one_number places rise (entry_of sub) one.entry entry one.begins begins in
      let matches : Matches (is_edge graph) entry one.node =
      subst (λ (e : ℕ). Matches (is_edge graph) e one.node) same (subst (λ (edge : ℕ → ℕ → Bool). Matches edge one.entry one.node) edges one.matches) in
      let low : one.node < length graph = (let l : one.node < length places = one.at.within in omega (arith, l, steps.count)) in
      subst (Contains (map (address_at places) numbers)) (numbered_address places one.place one.node one.at ∙ one.address)
      (is_mapped (address_at places) numbers one.node ((are.each one.node low).1 matches))

  -- so they add what is matched in the subprogram
  pub adds_matched : (old new : List ℕ) → new ≡ old ++ map (address_at places) numbers → AddsMatched view sub old new
  adds_matched old new same = record {
    has = λ pc has. elim (Contains-append_cases old (map (address_at places) numbers) pc (subst (λ (l : List ℕ). Contains l pc) same has)) [
      | inl before ↦ inl before
      | inr added ↦ inr (matched pc added)
    ];
    keeps = λ pc has. subst (λ (l : List ℕ). Contains l pc) (sym same) (Contains-append_left old (map (address_at places) numbers) pc has);
    adds = λ pc one. subst (λ (l : List ℕ). Contains l pc) (sym same) (Contains-append_right old (map (address_at places) numbers) pc (listed pc one));
  }

-- the subprograms gone through, one more
pub of_none : (view : ByKind) → AreOf view [] []
of_none view = record { has = λ pc has. absurd (none_in pc has); all = λ sub pc has one. absurd (none_in sub has) }

-- the next subprogram adds its own
pub of_next : (view : ByKind) (subs : List ℕ) (i d : ℕ) (old new : List ℕ) → i < length subs → AreOf view (take i subs) old
    → AddsMatched view (get_or subs i d) old new → AreOf view (take (i + 1) subs) new
of_next view subs i d old new low before adds = record {
  has = λ pc has. elim (adds.has pc has) [ inl old ↦ before.has pc old | inr one ↦ (get_or subs i d, one) ];
  all = λ sub pc has one. elim (of_more subs i d sub low has) [
    | inl front ↦ adds.keeps pc (before.all sub pc front one)
    | inr last ↦ adds.adds pc (subst (λ (s : ℕ). IsMatchedIn view s pc) (sym last) one)
  ];
}

-- a subprogram with a program point is viewed
pub node_viewed : (view : ByKind) (sub : ℕ) (place : Place) → Contains (nodes_of view sub) place → IsViewed view sub
node_viewed view sub place has =
    let among : Contains view.places place =
    has_to view.places place (filter_from (λ (p : Place). place_sub p == sub) view.places place (has_from (nodes_of view sub) place has)) in
    subst (Contains (map place_sub view.places)) (own place has) (is_mapped place_sub view.places place among)
  where
    own : (place : Place) → Contains (nodes_of view sub) place → place.sub ≡ sub
    own place has = eqb-true place.sub sub (filter_true (λ (p : Place). place_sub p == sub) view.places place (has_from (nodes_of view sub) place has))

-- those of all subprograms, in any order
pub addresses_are : (view : ByKind) (subs addresses list : List ℕ) → AreSubs view.places subs → AreOf view subs addresses
    → ((pc : ℕ) → Contains addresses pc → Contains list pc) → ((pc : ℕ) → Contains list pc → Contains addresses pc) → AreAddresses view list
addresses_are view subs addresses list all are keeps adds_none = record {
  has = λ pc has. are.has pc (adds_none pc has);
  all = λ sub pc one.
      let there : Contains (nodes_of view sub) (entry_of sub) = number_there (nodes_of view sub) (entry_of sub) one.entry one.begins in
      keeps pc (are.all sub pc (all.all sub (node_viewed view sub (entry_of sub) there)) one);
}
