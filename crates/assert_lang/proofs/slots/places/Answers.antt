use Rattle.std.proofs.Common.{◌≡◌, List, [], ◌∷◌, ◌++◌, Result, Ok, sym, ap, ◌∙◌, Bool, if◌then◌else◌}
use Rattle.std.proofs.lemmas.Result.{err_from_is_err_and}
use Rattle.assert_lang.proofs.PlaceLists.{behind, left, further, one_more, fault_next, is_fault, no_more}
use Rattle.assert_lang.specs.declared.refusal.Fault.{Fault}
use Rattle.assert_lang.specs.declared.spot.Spot.{Spot}
use Rattle.assert_lang.proofs.slots.places.Goals as goal

-- where a comma comes or the list ends
abbrev chosen : Bool → Result (List Spot) Fault → Result (List Spot) Fault
chosen more rest = if more then rest else Ok []

pub returns-in_err-comma : goal.returns-in_err-comma
returns-in_err-comma c =
    let p = err_from_is_err_and c.from_residual-in_err-comma.result c.from_residual-in_err-comma.ensures.1 in
    let all = one_more (left c.args.words.now) c.loop-spots.spots.items c.loop-spots.words c.place.new.words c.in_ok-place.field-0
    c.loop-spots.invariant c.in_ok-place.ensures.value in
    rw (p.1, p.2) (fault_next (left c.args.words.now) (c.loop-spots.spots.items ++ c.in_ok-place.field-0 ∷ []) c.in_err-comma.field-0.0
    (further c.place.new.words) all
    (is_fault (further c.place.new.words) c.in_err-comma.field-0.0 c.in_err-comma.ensures.value))

pub returns-then-not-branch : goal.returns-then-not-branch
returns-then-not-branch c =
    let all = one_more (left c.args.words.now) c.loop-spots.spots.items c.loop-spots.words c.place.new.words c.in_ok-place.field-0
    c.loop-spots.invariant c.in_ok-place.ensures.value in
    let none : further c.place.new.words ≡ Ok [] =
    c.in_ok-comma.ensures.value ∙ ap (λ (more : Bool). chosen more (left c.comma.new.words)) c.if-not-branch.true in
    no_more (left c.args.words.now) (c.loop-spots.spots.items ++ c.in_ok-place.field-0 ∷ []) (further c.place.new.words) all none
    ∙ ap (λ (l : List Spot). Ok l) (sym (c.new.ensures ∙ c.in_ok-push.ensures.items))

pub loop-spots-preserved : goal.loop-spots-preserved
loop-spots-preserved c =
    let all = one_more (left c.args.words.now) c.loop-spots.spots.items c.loop-spots.words c.place.new.words c.in_ok-place.field-0
    c.loop-spots.invariant c.in_ok-place.ensures.value in
    let more : further c.place.new.words ≡ left c.comma.new.words =
    c.in_ok-comma.ensures.value ∙ ap (λ (more : Bool). chosen more (left c.comma.new.words)) c.if-not-branch.false in
    let items : c.push.new.self.items ≡ c.loop-spots.spots.items ++ c.in_ok-place.field-0 ∷ [] = c.in_ok-push.ensures.items in
    all ∙ ap (behind (c.loop-spots.spots.items ++ c.in_ok-place.field-0 ∷ [])) more
    ∙ ap (λ (l : List Spot). behind l (left c.comma.new.words)) (sym {A = List Spot} items)
