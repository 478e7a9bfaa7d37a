-- Where the subprograms that are entered stand in a list.
use Rattle.std.proofs.Common.{◌≡◌, ℕ, false, if◌then◌else◌, List, [], ◌∷◌, Contains, Err, nat_cmp, inl, inr, sym, subst, ap}
use Rattle.std.specs.List.Sorted.{IsBinarySearchResult}
use Rattle.std.specs.List.{flat_map}
use Rattle.std.specs.Map.{keys_of}
use Rattle.std.proofs.lemmas.Bool.{false≢true}
use Rattle.std.proofs.lemmas.List.Elements.{Contains-append_left, Contains-append_right}
use Rattle.context_bounds.proofs.Shapes.{keys_order}
use Rattle.abs_state.specs.Key.{compare}
use Rattle.abs_state.specs.declared.key.Key.TheVariants as key
use Rattle.abs_state.specs.declared.key.Place.{Place}
use Rattle.assert_bind.specs.Binding.{roots}
use Rattle.bt_base.proofs.RisingLists.{search_decides}
use Rattle.call_laws.proofs.Risings.{contains_first}
use Rattle.context_inside.specs.Laws.{IsEntered}
use Rattle.context_outcomes.specs.Setting.{Setting}
use Rattle.flow_core.proofs.WritingLemmas.{flat_listed, key_listed}
use Rattle.plain_parts.specs.Listed.{AreListed, called_in, looked_into}
use Rattle.transfer_acts.specs.Reading.{is_stub}

-- a call of what is no stub has what it calls
called_there : (S : Setting) (p : Place) (sub : ℕ) → is_stub S.binding sub ≡ false → Contains (called_in S.binding (key.Call p sub)) sub
called_there S p sub plain =
    subst (λ (list : List ℕ). Contains list sub) (sym (ap (λ b. if b then [] else sub ∷ []) plain)) (contains_first sub [])

-- what is entered is looked into
entered_there : (S : Setting) (sub : ℕ) → IsEntered S sub → Contains (looked_into S.binding (keys_of S.pieces)) sub
entered_there S sub (inl root) = Contains-append_left (roots S.binding) (flat_map (called_in S.binding) (keys_of S.pieces)) sub root
entered_there S sub (inr called) =
    Contains-append_right (roots S.binding) (flat_map (called_in S.binding) (keys_of S.pieces)) sub
    (flat_listed (called_in S.binding) (keys_of S.pieces) (key.Call called.from sub) sub
    (key_listed compare keys_order S.pieces (key.Call called.from sub) called.there) (called_there S called.from sub called.plain))

-- so it is listed
pub entered_listed : (S : Setting) (subs : List ℕ) (sub : ℕ) → AreListed S.binding (keys_of S.pieces) subs → IsEntered S sub → Contains subs sub
entered_listed S subs sub listed entered = (listed.are sub).1 (entered_there S sub entered)

-- and a search finds it
pub entered_found : (S : Setting) (subs : List ℕ) (sub at : ℕ) → AreListed S.binding (keys_of S.pieces) subs → IsEntered S sub
    → IsBinarySearchResult (λ y. nat_cmp y sub) subs (Err at) → ⊥
entered_found S subs sub at listed entered found =
    false≢true ((search_decides subs sub (Err at) listed.rising found).1 (entered_listed S subs sub listed entered))
