-- Keys have one text, and the lines of each of them stand in it.
use Rattle.std.proofs.Common.{◌≡◌, ℕ, suc, zero, ◌<◌, true, false, List, [], ◌∷◌, ◌++◌, map, length, get_or, cond, refl, ap, sym, ◌∙◌, subst, arith}
use Rattle.std.proofs.Common.{append_assoc, codes}
use Rattle.std.specs.List.{filter, flat_map}
use Rattle.std.specs.Prelude.{◌==◌, Bool, Contains}
use Rattle.std.proofs.lemmas.Bool.Decides.{nat_tests}
use Rattle.abs_state.specs.declared.key.Key.{Key}
use Rattle.abs_state.specs.declared.key.Key.TheVariants.{Node, Edge, Call, Gap}
use Rattle.abs_state.specs.declared.key.Place.{Place}
use Rattle.bt_base.proofs.RisingLists.{same_rising}
use Rattle.graph_text.specs.Laws.{GraphTextIsOne, GraphTextHasPlaces, GraphTextHasSteps, GraphTextHasCalls, GraphTextHasOpens}
use Rattle.graph_text.specs.Line.{place_line, step_line, call_line, open_line, sub_line}
use Rattle.graph_text.specs.Text.{IsGraphText, part_text, whole_text, sub_text}
use Rattle.graph_view.proofs.Stands.{keys_stand_in_lists}
use Rattle.graph_view.specs.Lists.{place_in, step_in, calling_in, open_in, AreOfKeys}
use Rattle.graph_view.specs.Subs.{AreSubs, of_one, place_sub, step_sub, calling_sub, open_sub}
use Rattle.graph_view.specs.declared.lists.Calling.{Calling}
use Rattle.graph_view.specs.declared.lists.KeyLists.{KeyLists}
use Rattle.graph_view.specs.declared.lists.OpenPoint.{OpenPoint}
use Rattle.graph_view.specs.declared.lists.Step.{Step}
use Rattle.wcet_report.proofs.Within.{longer, behind, itself, in_list}
use Rattle.wcet_report.specs.Laws.{HasWithin}

-- the text that the parts append is that of the keys
pub text_from : (image : List ℕ) (keys : List Key) (returning : List ℕ) (lists : KeyLists) (subs first middle text : List ℕ)
    → AreOfKeys keys lists → AreSubs lists.places.items subs → first ≡ codes "boundt graph 1\n"
    → middle ≡ first ++ flat_map (whole_text image returning lists) subs → text ≡ middle ++ codes "end\n" → IsGraphText image keys returning text
text_from image keys returning lists subs first middle text are_of are is_first is_middle is_text =
    let wholes : flat_map (whole_text image returning lists) subs ≡ flat_map (sub_text image returning keys) subs =
    λ i. flat_map (λ sub. sub_line image returning sub
    ++ part_text (are_of.places i) (are_of.steps i) (are_of.callings i) (are_of.opens i) sub) subs in
    record {
      subs = subs;
      are = subst (λ places. AreSubs places subs) are_of.places are;
      is =
          is_text ∙ ap (λ t. t ++ codes "end\n") (is_middle ∙ ap (λ t. t ++ flat_map (whole_text image returning lists) subs) is_first
          ∙ ap (λ t. codes "boundt graph 1\n" ++ t) wholes)
          ∙ append_assoc (codes "boundt graph 1\n") (flat_map (sub_text image returning keys) subs) (codes "end\n");
    }

-- keys have at most one text
pub graph_text_is_one : GraphTextIsOne
graph_text_is_one image keys returning one other text also =
    let subs : text.subs ≡ also.subs =
    same_rising text.subs also.subs text.are.rising also.are.rising
    (λ sub has. also.are.all sub (text.are.has sub has)) (λ sub has. text.are.all sub (also.are.has sub has)) in
    text.is ∙ ap (λ list. codes "boundt graph 1\n" ++ (flat_map (sub_text image returning keys) list ++ codes "end\n")) subs ∙ sym also.is

-- what stands in a part stands in the whole
inside : (line part text : List ℕ) → HasWithin line part → HasWithin part text → HasWithin line text
inside line part text inner outer = subst (λ t. HasWithin line t) (sym outer.is) (longer line part outer.before outer.after inner)

test_own : (n : ℕ) → (n == n) ≡ true
test_own n = grind (arith, nat_tests)

behind_one : {X : Type 0} (y : X) (ys : List X) (x : X) → Contains ys x → Contains (y ∷ ys) x
behind_one y ys x (k, less, is) = (suc k, omega (arith, less), is)

contains_map : {X Y : Type 0} (f : X → Y) (xs : List X) (x : X) → Contains xs x → Contains (map f xs) (f x)
contains_map f [] x (k, less, is) = absurd (omega (arith, less))
contains_map f (y ∷ ys) x (zero, less, is) = (0, omega arith, ap f is)
contains_map f (y ∷ ys) x (suc k, less, is) = behind_one (f y) (map f ys) (f x) (contains_map f ys x (k, omega (arith, less), is))

filter_keep : {X : Type 0} (p : X → Bool) (x : X) (xs : List X) → p x ≡ true → filter p (x ∷ xs) ≡ x ∷ filter p xs
filter_keep p x xs passes = ap (λ b. cond b (x ∷ filter p xs) (filter p xs)) passes

either_way : {X : Type 0} (b : Bool) (y : X) (rest : List X) (x : X) → Contains rest x → Contains (cond b (y ∷ rest) rest) x
either_way true y rest x has = behind_one y rest x has
either_way false y rest x has = has

contains_filter : {X : Type 0} (p : X → Bool) (xs : List X) (x : X) → Contains xs x → p x ≡ true → Contains (filter p xs) x
contains_filter p [] x (k, less, is) passes = absurd (omega (arith, less))
contains_filter p (y ∷ ys) x (zero, less, is) passes =
    subst (λ list. Contains list x) (sym (filter_keep p y ys (subst (λ z. p z ≡ true) (sym is) passes))) (0, omega arith, is)
contains_filter p (y ∷ ys) x (suc k, less, is) passes =
    either_way (p y) y (filter p ys) x (contains_filter p ys x (k, omega (arith, less), is) passes)

-- what is of a subprogram is among those that are
kept : {X : Type 0} (owner : X → ℕ) (xs : List X) (x : X) → Contains xs x → Contains (of_one owner (owner x) xs) x
kept owner xs x has = contains_filter (λ y. owner y == owner x) xs x has (test_own (owner x))

-- the lines of a subprogram with a program point stand in the text
sub_within : (image : List ℕ) (keys : List Key) (returning text : List ℕ) (place : Place) → IsGraphText image keys returning text
    → Contains keys (Node place) → HasWithin (sub_text image returning keys place.sub) text
sub_within image keys returning text place graph has =
    let there : Contains (flat_map place_in keys) place = ((keys_stand_in_lists keys).places place).0 has in
    let among : Contains graph.subs place.sub =
    graph.are.all place.sub (contains_map place_sub (flat_map place_in keys) place there) in
    subst (λ t. HasWithin (sub_text image returning keys place.sub) t) (sym graph.is)
    (longer (sub_text image returning keys place.sub) (flat_map (sub_text image returning keys) graph.subs) (codes "boundt graph 1\n") (codes "end\n")
    (in_list (sub_text image returning keys) graph.subs place.sub among))

-- the lines of each kind of a subprogram
abbrev places_text : List Key → ℕ → List ℕ
places_text keys sub = flat_map place_line (of_one place_sub sub (flat_map place_in keys))

abbrev steps_text : List Key → ℕ → List ℕ
steps_text keys sub = flat_map step_line (of_one step_sub sub (flat_map step_in keys))

abbrev calls_text : List Key → ℕ → List ℕ
calls_text keys sub = flat_map call_line (of_one calling_sub sub (flat_map calling_in keys))

abbrev opens_text : List Key → ℕ → List ℕ
opens_text keys sub = flat_map open_line (of_one open_sub sub (flat_map open_in keys))

-- the four parts behind the line of a subprogram
module _ (line head places steps calls points : List ℕ) where
  in_first : HasWithin line places → HasWithin line (head ++ (places ++ (steps ++ (calls ++ points))))
  in_first has = longer line places head (steps ++ (calls ++ points)) has

  in_second : HasWithin line steps → HasWithin line (head ++ (places ++ (steps ++ (calls ++ points))))
  in_second has = behind line (places ++ (steps ++ (calls ++ points))) head (longer line steps places (calls ++ points) has)

  in_third : HasWithin line calls → HasWithin line (head ++ (places ++ (steps ++ (calls ++ points))))
  in_third has =
      behind line (places ++ (steps ++ (calls ++ points))) head
      (behind line (steps ++ (calls ++ points)) places (longer line calls steps points has))

  in_fourth : HasWithin line points → HasWithin line (head ++ (places ++ (steps ++ (calls ++ points))))
  in_fourth has =
      behind line (places ++ (steps ++ (calls ++ points))) head
      (behind line (steps ++ (calls ++ points)) places (behind line (calls ++ points) steps (behind line points calls has)))

-- the line of each program point, and of its subprogram, stands in the text
pub graph_text_has_places : GraphTextHasPlaces
graph_text_has_places image keys returning text place graph has =
    let whole : HasWithin (sub_text image returning keys place.sub) text = sub_within image keys returning text place graph has in
    let there : Contains (flat_map place_in keys) place = ((keys_stand_in_lists keys).places place).0 has in (
      inside (sub_line image returning place.sub) (sub_text image returning keys place.sub) text
          (itself (sub_line image returning place.sub)
          (part_text (flat_map place_in keys) (flat_map step_in keys) (flat_map calling_in keys) (flat_map open_in keys) place.sub)) whole,
      inside (place_line place) (sub_text image returning keys place.sub) text
          (in_first (place_line place) (sub_line image returning place.sub) (places_text keys place.sub) (steps_text keys place.sub)
          (calls_text keys place.sub) (opens_text keys place.sub)
          (in_list place_line (of_one place_sub place.sub (flat_map place_in keys)) place (kept place_sub (flat_map place_in keys) place there))) whole,
    )

-- the line of each step stands in the text
pub graph_text_has_steps : GraphTextHasSteps
graph_text_has_steps image keys returning text from to graph node has =
    let step : Step = record { from = from; to = to } in
    let there : Contains (flat_map step_in keys) step = ((keys_stand_in_lists keys).steps from to).0 has in
    inside (step_line step) (sub_text image returning keys from.sub) text
    (in_second (step_line step) (sub_line image returning from.sub) (places_text keys from.sub) (steps_text keys from.sub) (calls_text keys from.sub)
    (opens_text keys from.sub)
    (in_list step_line (of_one step_sub from.sub (flat_map step_in keys)) step (kept step_sub (flat_map step_in keys) step there)))
    (sub_within image keys returning text from graph node)

-- the line of each call stands in the text
pub graph_text_has_calls : GraphTextHasCalls
graph_text_has_calls image keys returning text from callee graph node has =
    let call : Calling = record { from = from; callee = callee } in
    let there : Contains (flat_map calling_in keys) call = ((keys_stand_in_lists keys).callings from callee).0 has in
    inside (call_line call) (sub_text image returning keys from.sub) text
    (in_third (call_line call) (sub_line image returning from.sub) (places_text keys from.sub) (steps_text keys from.sub) (calls_text keys from.sub)
    (opens_text keys from.sub)
    (in_list call_line (of_one calling_sub from.sub (flat_map calling_in keys)) call (kept calling_sub (flat_map calling_in keys) call there)))
    (sub_within image keys returning text from graph node)

-- the line of each open point stands in the text
pub graph_text_has_opens : GraphTextHasOpens
graph_text_has_opens image keys returning text place pc why graph node has =
    let point : OpenPoint = record { sub = place.sub; pc = pc; why = why } in
    let there : Contains (flat_map open_in keys) point = ((keys_stand_in_lists keys).opens place.sub pc why).0 has in
    inside (open_line point) (sub_text image returning keys place.sub) text
    (in_fourth (open_line point) (sub_line image returning place.sub) (places_text keys place.sub) (steps_text keys place.sub)
    (calls_text keys place.sub) (opens_text keys place.sub)
    (in_list open_line (of_one open_sub place.sub (flat_map open_in keys)) point (kept open_sub (flat_map open_in keys) point there)))
    (sub_within image keys returning text place graph node)
