-- A view can be made of the keys of a context's facts.
use Rattle.std.proofs.Common.{◌≡◌, ◌==◌, ◌&&◌, ◌<◌, ◌≤◌, ◌^◌, suc, Bool, true, false, List, [], ◌∷◌, length, Contains, inl, inr, refl, ap, ◌∙◌, arith}
use Rattle.std.specs.Prelude.{is_some}
use Rattle.std.specs.List.{All, filter, flat_map}
use Rattle.std.specs.Map.{keys_of}
use Rattle.std.proofs.lemmas.Bool.{and_from, and_parts, eqb-true}
use Rattle.std.proofs.lemmas.List.Elements.{All-cons, All-nil}
use Rattle.std.proofs.lemmas.List.Kept.{IsStrictlySortedBy-filter}
use Rattle.abs_state.specs.Key.{compare}
use Rattle.abs_state.specs.declared.key.Key.{Key}
use Rattle.abs_state.specs.declared.key.Key.TheVariants as key
use Rattle.abs_state.specs.declared.key.Place.{Place}
use Rattle.context_bounds.proofs.Kept.{kept_where}
use Rattle.context_bounds.proofs.Shapes.{keys_order}
use Rattle.context_bounds.specs.Laws.{ContextsAreViewed, stands}
use Rattle.flow_core.proofs.WritingLemmas.{key_listed, listed_key}
use Rattle.flow_system.specs.Facts.{KeysRise, fact_at}
use Rattle.graph_view.proofs.Filling.{filter_from}
use Rattle.graph_view.proofs.Keyed.{filter_true}
use Rattle.graph_view.proofs.Stands.{Has, has_to}
use Rattle.graph_view.specs.Lists.{place_in}
use Rattle.graph_view.specs.View.{AreViewed, StepStands}
use Rattle.context_bounds.proofs.Few.{few_keys}
use Rattle.local_facts.specs.Restricted.{is_listed}
use Rattle.transfer_rules.specs.Fact.{Piece}

-- whether a key is a program point
abbrev is_node : Key → Bool
is_node (key.Node p) = true
is_node (key.Edge p q) = false
is_node (key.Call p t) = false
is_node (key.Summary sub) = false
is_node (key.Gap sub pc kind) = false

-- keys name as many program points as they have keys of such
as_many : (keys : List Key) → length (flat_map place_in keys) ≡ length (filter is_node keys)
as_many [] = refl
as_many (key.Node p ∷ keys) = ap suc (as_many keys)
as_many (key.Edge p q ∷ keys) = as_many keys
as_many (key.Call p t ∷ keys) = as_many keys
as_many (key.Summary sub ∷ keys) = as_many keys
as_many (key.Gap sub pc kind ∷ keys) = as_many keys

-- what holds of each key in a list holds of all
all_of : (P : Key → Type 0) (keys : List Key) → ((k : Key) → Has keys k → P k) → All P keys
all_of P [] h = All-nil P
all_of P (k ∷ keys) h = All-cons P k keys (h k (inl refl)) (all_of P keys (λ j has. h j (inr has)))

module _ (whole pieces : List Piece) (viewed : AreViewed (keys_of whole)) (rising : KeysRise compare pieces)
    (among : (k : Key) → is_some (fact_at compare pieces k) ≡ true → is_some (fact_at compare whole k) ≡ true)
    (stand : (k : Key) → is_some (fact_at compare pieces k) ≡ true → stands (fact_at compare pieces) k ≡ true) where
  -- whether facts have a key
  abbrev s : Key → Bool
  s k = is_some (fact_at compare pieces k)

  -- the facts have each of their keys
  there : (k : Key) → Contains (keys_of pieces) k → s k ≡ true
  there k has = listed_key compare keys_order pieces k has

  -- and a key that they have is among them
  listed : (k : Key) → s k ≡ true → Contains (keys_of pieces) k
  listed k is = key_listed compare keys_order pieces k is

  -- they have no more program points than the whole
  fewer : length (filter is_node (keys_of pieces)) ≤ length (filter is_node (keys_of whole))
  fewer =
      few_keys (filter is_node (keys_of whole)) (key.Summary 0) (filter is_node (keys_of pieces))
      (IsStrictlySortedBy-filter compare is_node (keys_of pieces) rising)
      (all_of (λ k. is_listed compare (filter is_node (keys_of whole)) k ≡ true) (filter is_node (keys_of pieces))
      (λ k has.
      kept_where is_node whole k
      ∙ and_from (is_node k) (is_some (fact_at compare whole k)) (filter_true is_node (keys_of pieces) k has)
      (among k (there k (has_to (keys_of pieces) k (filter_from is_node (keys_of pieces) k has))))))

  -- so the program points are few enough
  few : length (flat_map place_in (keys_of pieces)) < 2 ^ 32
  few =
      let own = as_many (keys_of pieces) in
      let all = as_many (keys_of whole) in
      let most : length (flat_map place_in (keys_of whole)) < 2 ^ 32 = viewed.few in
      let less = fewer in
      omega (arith, own, all, most, less)

  -- the ends of steps are there
  steps : (p q : Place) → Contains (keys_of pieces) (key.Edge p q) → StepStands (keys_of pieces) p q
  steps p q has =
      let both = and_parts (s (key.Node p)) (s (key.Node q) && (p.sub == q.sub)) (stand (key.Edge p q) (there (key.Edge p q) has)) in
      let last = and_parts (s (key.Node q)) (p.sub == q.sub) both.1 in
      record { from = listed (key.Node p) both.0; to = listed (key.Node q) last.0; one = eqb-true p.sub q.sub last.1 }

  -- so a view can be made of them
  pub viewed_too : AreViewed (keys_of pieces)
  viewed_too = record {
    rising = rising;
    few = few;
    shallow = λ p has. viewed.shallow p (key_listed compare keys_order whole (key.Node p) (among (key.Node p) (there (key.Node p) has)));
    steps = steps;
    calls = λ p t has. listed (key.Node p) (stand (key.Call p t) (there (key.Call p t) has));
  }

-- a view can be made of the keys of a context
pub contexts_are_viewed : ContextsAreViewed
contexts_are_viewed whole pieces viewed rising among stand = viewed_too whole pieces viewed rising among stand
