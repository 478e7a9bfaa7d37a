-- Keys that a view can be made of: what their lists keep, and what is of one subprogram.
use Rattle.std.proofs.Common.{◌≡◌, ◌==◌, ℕ, suc, ◌+◌, ◌<◌, ◌≤◌, ◌^◌, inl, inr, eqb, Bool, true, false, cond, List, [], ◌∷◌, ◌++◌, length, get_or, map, Option, Some, None, Contains, refl, sym, ap, ◌∙◌, subst, arith}
use Rattle.std.specs.Cmp.{nat_eq_equiv}
use Rattle.std.specs.List.{flat_map, filter, AllByRecursion, IsDistinct}
use Rattle.std.specs.List.Sorted.{IsNonDecreasingBy, IsStrictlyIncreasing, IsStrictlySortedBy}
use Rattle.std.specs.Set.{is_member}
use Rattle.std.specs.declared.cmp.Ordering.TheVariants.{Less}
use Rattle.std.proofs.Math.ListN.{get_or-append}
use Rattle.std.proofs.lemmas.Bool.{cases_lt, false≢true, ne_eqb}
use Rattle.std.proofs.lemmas.Bool.Decides.{Decides-eqb}
use Rattle.std.proofs.lemmas.List.{length-map, get_or_push}
use Rattle.std.proofs.lemmas.List.Kept.{AllPairs-from_increasing, IsStrictlySortedBy-filter}
use Rattle.std.proofs.lemmas.Map.Keys.{IsDistinct-from_apart}
use Rattle.std.proofs.lemmas.Map.Made.{length-le_from_is_member, is_member-Decides}
use Rattle.bt_base.specs.Graph.{rows_of}
use Rattle.cyclic_parts.specs.Parts.{name_of}
use Rattle.abs_state.specs.Key.{compare}
use Rattle.abs_state.specs.declared.key.Key.{Key}
use Rattle.abs_state.specs.declared.key.Key.TheVariants.{Node, Edge, Call, Summary, Gap}
use Rattle.abs_state.specs.declared.key.Place.{Place}
use Rattle.graph_view.proofs.Filling.{filter_from, test_is, other_need}
use Rattle.graph_view.proofs.Known.{entry_found}
use Rattle.graph_view.proofs.Stands.{Has, has_from, has_to, keys_stand_in_lists}
use Rattle.graph_view.specs.CallGraph.{IsAt}
use Rattle.graph_view.specs.Cycles.{AreCycleCalls, cycle_row}
use Rattle.graph_view.specs.Details.{shown, AreReady, AreDetails, IsFound, IsWhole}
use Rattle.graph_view.specs.Laws.{StandInLists}
use Rattle.graph_view.specs.Lists.{place_in, step_in, calling_in, open_in, AreOfKeys}
use Rattle.graph_view.specs.Need.{AreCounted, AreCallers, AreNeeds, IsNeed, entry_of}
use Rattle.graph_view.specs.Numbers.{place_cmp}
use Rattle.graph_view.specs.Subs.{of_one, AreByOwner, AreSubs, place_sub, calling_sub}
use Rattle.graph_view.specs.View.{ByKind, AreViewed, by_kind, nodes_of, callings_of}
use Rattle.graph_view.specs.declared.cycles.Cycles.{Cycles}
use Rattle.graph_view.specs.declared.details.Details.{Details}
use Rattle.graph_view.specs.declared.lists.Calling.{Calling}
use Rattle.graph_view.specs.declared.lists.KeyLists.{KeyLists}

-- program points of keys that rise do

below_all : (p : Place) (keys : List Key) → AllByRecursion (λ l. compare (Node p) l ≡ Less) keys → AllByRecursion (λ q. place_cmp p q ≡ Less) (flat_map place_in keys)
below_all p [] h = tt
below_all p (Node q ∷ keys) h = (h.0, below_all p keys h.1)
below_all p (Edge from to ∷ keys) h = below_all p keys h.1
below_all p (Call from callee ∷ keys) h = below_all p keys h.1
below_all p (Summary sub ∷ keys) h = below_all p keys h.1
below_all p (Gap sub pc why ∷ keys) h = below_all p keys h.1

pub places_rise : (keys : List Key) → IsStrictlySortedBy compare keys → IsStrictlySortedBy place_cmp (flat_map place_in keys)
unfolding IsStrictlySortedBy
places_rise [] h = tt
places_rise (Node p ∷ keys) h = (below_all p keys h.0, places_rise keys h.1)
places_rise (Edge from to ∷ keys) h = places_rise keys h.1
places_rise (Call from callee ∷ keys) h = places_rise keys h.1
places_rise (Summary sub ∷ keys) h = places_rise keys h.1
places_rise (Gap sub pc why ∷ keys) h = places_rise keys h.1

pub view_is : (keys : List Key) (lists : KeyLists) → AreOfKeys keys lists → shown lists ≡ by_kind keys
view_is keys lists are = λ i. record { places = are.places i; steps = are.steps i; callings = are.callings i; opens = are.opens i }

pub ready_from : (keys : List Key) (lists : KeyLists) → AreViewed keys → AreOfKeys keys lists → AreByOwner lists → AreReady (shown lists)
ready_from keys lists viewed are owned =
    let stand : StandInLists keys = keys_stand_in_lists keys in
    record {
      places = owned.places;
      steps = owned.steps;
      callings = owned.callings;
      opens = owned.opens;
      rise = subst (IsStrictlySortedBy place_cmp) (sym are.places) (places_rise keys viewed.rising);
      few = subst (λ (l : List Place). length l < 2 ^ 32) (sym are.places) viewed.few;
      shallow = λ place h. viewed.shallow place ((stand.places place).1 (subst (λ (l : List Place). Contains l place) are.places h));
      among = λ calling h.
          subst (λ (l : List Place). Contains l calling.from) (sym are.places)
          ((stand.places calling.from).0 (viewed.calls calling.from calling.callee
          ((stand.callings calling.from calling.callee).1 (subst (λ (l : List Calling). Contains l calling) are.callings h))));
    }

-- items that pass a test
keep_first : {X : Type 0} (b : Bool) (y : X) (ys : List X) → b ≡ true → Has (cond b (y ∷ ys) ys) y
keep_first true y ys e = inl refl
keep_first false y ys e = absurd (false≢true e)

keep_rest : {X : Type 0} (b : Bool) (y : X) (ys : List X) (x : X) → Has ys x → Has (cond b (y ∷ ys) ys) x
keep_rest true y ys x h = inr h
keep_rest false y ys x h = h

pub filter_to : {X : Type 0} (p : X → Bool) (xs : List X) (x : X) → p x ≡ true → Has xs x → Has (filter p xs) x
filter_to p [] x passes h = h
filter_to p (y ∷ ys) x passes (inl e) = subst (Has (filter p (y ∷ ys))) e (keep_first (p y) y (filter p ys) (ap p e ∙ passes))
filter_to p (y ∷ ys) x passes (inr h) = keep_rest (p y) y (filter p ys) x (filter_to p ys x passes h)

true_by : {X : Type 0} (p : X → Bool) (y : X) (ys : List X) (x : X) (b : Bool) → p y ≡ b → (Has ys x → p x ≡ true) → Has (cond b (y ∷ ys) ys) x → p x ≡ true
true_by p y ys x true is rest (inl e) = sym (ap p e) ∙ is
true_by p y ys x true is rest (inr h) = rest h
true_by p y ys x false is rest h = rest h

pub filter_true : {X : Type 0} (p : X → Bool) (xs : List X) (x : X) → Has (filter p xs) x → p x ≡ true
filter_true p [] x h = absurd h
filter_true p (y ∷ ys) x h = true_by p y (filter p ys) x (p y) refl (filter_true p ys x) h

short_by : {X : Type 0} (b : Bool) (y : X) (ys : List X) (n : ℕ) → length ys ≤ n → length (cond b (y ∷ ys) ys) ≤ suc n
short_by true y ys n h = omega (arith, h)
short_by false y ys n h = omega (arith, h)

filter_short : {X : Type 0} (p : X → Bool) (xs : List X) → length (filter p xs) ≤ length xs
filter_short p [] = omega arith
filter_short p (x ∷ xs) = short_by (p x) x (filter p xs) (length xs) (filter_short p xs)

has_map : {X Y : Type 0} (f : X → Y) (xs : List X) (x : X) → Has xs x → Has (map f xs) (f x)
has_map f [] x h = absurd h
has_map f (y ∷ ys) x (inl e) = inl (ap f e)
has_map f (y ∷ ys) x (inr h) = inr (has_map f ys x h)

pub sub_there : (places : List Place) (place : Place) → Contains places place → Contains (map place_sub places) place.sub
sub_there places place h = has_to (map place_sub places) place.sub (has_map place_sub places place (has_from places place h))

-- what is of one subprogram
pub nodes_rise : (view : ByKind) → AreReady view → (sub : ℕ) → IsStrictlySortedBy place_cmp (nodes_of view sub)
nodes_rise view ready sub = IsStrictlySortedBy-filter place_cmp (λ x. place_sub x == sub) view.places ready.rise

pub nodes_few : (view : ByKind) → AreReady view → (sub : ℕ) → length (nodes_of view sub) < 2 ^ 32
nodes_few view ready sub =
    let short : length (nodes_of view sub) ≤ length view.places = filter_short (λ (x : Place). place_sub x == sub) view.places in
    omega (arith, short, ready.few)

pub calls_among : (view : ByKind) → AreReady view → (sub : ℕ) (calling : Calling) → Contains (callings_of view sub) calling → Contains (nodes_of view sub) calling.from
calls_among view ready sub calling h =
    let there : Has (callings_of view sub) calling = has_from (callings_of view sub) calling h in
    has_to (nodes_of view sub) calling.from
    (filter_to (λ (x : Place). place_sub x == sub) view.places calling.from (filter_true (λ (x : Calling). calling_sub x == sub) view.callings calling there)
    (has_from view.places calling.from
    (ready.among calling (has_to view.callings calling (filter_from (λ (x : Calling). calling_sub x == sub) view.callings calling there)))))

-- a rising list is no longer than one that has all of it
distinct_from_rising : (xs : List ℕ) → IsStrictlyIncreasing xs → IsDistinct eqb xs
distinct_from_rising xs rises =
    IsDistinct-from_apart eqb xs
    (λ i j d below within. ne_eqb _ _ (λ same. let up : get_or xs i d < get_or xs j d = AllPairs-from_increasing xs rises i j d below within in omega
    arith))

no_longer : (xs ys : List ℕ) → IsStrictlyIncreasing xs → ((w : ℕ) → Contains xs w → Contains ys w) → length xs ≤ length ys
no_longer xs ys rises in_ys =
    length-le_from_is_member nat_eq_equiv xs ys (distinct_from_rising xs rises)
    (λ q member. (is_member-Decides Decides-eqb ys q).1 (in_ys q ((is_member-Decides Decides-eqb xs q).0 member)))

module _ (view : ByKind) (ready : AreReady view) (subs : List ℕ) (are : AreSubs view.places subs) where
  pub subs_few : length subs < 2 ^ 32
  subs_few =
      let short : length subs ≤ length (map place_sub view.places) = no_longer subs (map place_sub view.places) are.rising are.has in
      let same : length (map place_sub view.places) ≡ length view.places = length-map view.places place_sub in
      omega (arith, short, same, ready.few)

  pub counted_from : AreCounted view.places view.callings subs
  counted_from = record {
    points = ready.places;
    calls = ready.callings;
    rising = are.rising;
    counted = subs_few;
    shallow = ready.shallow;
    shallow_calls = λ calling h. ready.shallow calling.from (ready.among calling h);
    listed = λ place h. are.all place.sub (sub_there view.places place h);
    listed_calls = λ calling h. are.all calling.from.sub (sub_there view.places calling.from (ready.among calling h));
  }

  pub callers_from : AreCallers view.callings subs
  callers_from = record { rising = are.rising; listed = counted_from.listed_calls }

-- the need of any subprogram
pub need_of : (places : List Place) (callings : List Calling) (subs : List ℕ) (table : List (Option ℕ)) → AreCounted places callings subs → AreNeeds places callings subs table
    → (sub : ℕ) → IsNeed places callings sub (entry_of subs table sub)
need_of places callings subs table counted needs sub = elim (entry_found subs table sub (entry_of subs table sub) needs.count refl) [
  | inl spot ↦
      subst (IsNeed places callings sub) spot.entry_is
      (subst (λ q. IsNeed places callings q (get_or table spot.number None)) spot.is (needs.each spot.number spot.within))
  | inr other ↦ subst (IsNeed places callings sub) (sym other.1) (other_need places callings subs counted sub other.0)
]

-- the details of each, one more
pub details_more : (view : ByKind) (subs : List ℕ) (all new : List Details) (details : Details) (i : ℕ) → length all ≡ i
    → ((k : ℕ) (d : Details) → k < i → AreDetails view (get_or subs k 0) (get_or all k d)) → AreDetails view (get_or subs i 0) details → new ≡ all ++ details ∷ []
    → (k : ℕ) (d : Details) → k < i + 1 → AreDetails view (get_or subs k 0) (get_or new k d)
details_more view subs all new details i count each one is k d less =
    subst (λ l. AreDetails view (get_or subs k 0) (get_or l k d)) (sym is) (elim (cases_lt k i) [
      | inl front ↦ subst (AreDetails view (get_or subs k 0)) (sym (get_or-append all (details ∷ []) d k (omega (arith, front, count)))) (each k d front)
      | inr end ↦
          let at : k ≡ i = omega (arith, less, end) in
          subst (λ j. AreDetails view (get_or subs j 0) (get_or (all ++ details ∷ []) j d)) (sym at)
          (subst (AreDetails view (get_or subs i 0)) (sym (get_or_push all details d i count)) one)
    ])

module _ (view : ByKind) (subs : List ℕ) (all : List Details) (cycles : Cycles) (needs : List (Option ℕ)) (whole : IsWhole view subs all cycles needs) where
  pub found_details : (sub : ℕ) (details : Details) → IsFound subs all sub details → AreDetails view sub details
  found_details sub details found =
      subst (AreDetails view sub) (found.is details)
      (subst (λ q. AreDetails view q (get_or all found.number details)) found.at.is (whole.details found.number details found.at.within))

  pub found_cycle : (sub number : ℕ) → IsAt subs sub number → AreCycleCalls view.callings sub (cycle_row (rows_of cycles.calls.items) (name_of cycles.names.items number))
  found_cycle sub number at =
      subst (λ q. AreCycleCalls view.callings q (cycle_row (rows_of cycles.calls.items) (name_of cycles.names.items number))) at.is (whole.cycles.each number at.within)
