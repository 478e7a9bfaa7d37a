-- What one more node of a body changes.
use Rattle.std.proofs.Common.{◌≡◌, ◌||◌, ◌⊎◌, ◌+◌, ◌<◌, inl, inr, ℕ, Bool, true, false, Some, List, get_or, refl, sym, ap, ◌∙◌, arith}
use Rattle.std.specs.List.{slice_get}
use Rattle.std.proofs.lemmas.Bool.{cases_lt}
use Rattle.call_effects.specs.Mask.{has_cell}
use Rattle.counter_bound.specs.Body.{is_marked, adds_outside, spoils, IsSpoilt, AreTouched}
use Rattle.counter_bound.specs.declared.change.Change.{Change}
use Rattle.counter_bound.specs.declared.touching.Touched.{Touched}
use Rattle.counter_bound.proofs.Candidates.{some_same}
use Rattle.counter_bound.proofs.Inner.{or_true}

first_true : (new old more : Bool) → new ≡ (old || more) → old ≡ true → new ≡ true
first_true new old more e t = e ∙ ap (λ (b : Bool). b || more) t

second_true : (new old more : Bool) → new ≡ (old || more) → more ≡ true → new ≡ true
second_true new old more e t = e ∙ (ap (λ (b : Bool). old || b) t ∙ or_true old)

either_true : (old more : Bool) → (old || more) ≡ true → (old ≡ true) ⊎ (more ≡ true)
either_true true more e = inl refl
either_true false more e = inr e

module _ (body : List ℕ) (changes : List Change) (marks : List Bool) (place : ℕ) (old new : Touched) (change : Change) (inner : Bool)
    (at : slice_get changes (get_or body place 0) ≡ Some change) (mark : is_marked marks place ≡ inner)
    (adds : (c : ℕ) → has_cell new.adds c ≡ (has_cell old.adds c || adds_outside change inner c))
    (spoilt : (c : ℕ) → has_cell new.spoilt c ≡ (has_cell old.spoilt c || spoils change inner c)) (was : AreTouched body changes marks place old) where
  pub touched_more : AreTouched body changes marks (place + 1) new
  touched_more = record {
    adds = λ i c other l e t. elim (cases_lt i place) [
      | inl a ↦ first_true (has_cell new.adds c) (has_cell old.adds c) (adds_outside change inner c) (adds c) (was.adds i c other a e t)
      | inr a ↦ second_true (has_cell new.adds c) (has_cell old.adds c) (adds_outside change inner c) (adds c)
          (add_here c i other (let q : i ≡ place = omega (arith, l, a) in q) e t)
    ];
    spoils = λ i c other l e t. elim (cases_lt i place) [
      | inl a ↦ first_true (has_cell new.spoilt c) (has_cell old.spoilt c) (spoils change inner c) (spoilt c) (was.spoils i c other a e t)
      | inr a ↦ second_true (has_cell new.spoilt c) (has_cell old.spoilt c) (spoils change inner c) (spoilt c)
          (spoil_here c i other (let q : i ≡ place = omega (arith, l, a) in q) e t)
    ];
    spoilt = λ c h. elim (either_true (has_cell old.spoilt c) (spoils change inner c) (sym (spoilt c) ∙ h)) [
      | inl a ↦
          let s : IsSpoilt body changes marks place c = was.spoilt c a in
          let l : s.place < place = s.below in
          record { place = s.place; below = omega (arith, l); change = s.change; at = s.at; spoilt = s.spoilt }
      | inr a ↦ record { place = place; below = omega arith; change = change; at = at; spoilt = ap (λ (b : Bool). spoils change b c) mark ∙ a }
    ];
  }
    where
      same : (i : ℕ) (other : Change) → i ≡ place → slice_get changes (get_or body i 0) ≡ Some other → other ≡ change
      same i other q e = some_same (sym e ∙ (ap (λ (x : ℕ). slice_get changes (get_or body x 0)) q ∙ at))

      add_here : (c i : ℕ) (other : Change) → i ≡ place → slice_get changes (get_or body i 0) ≡ Some other → adds_outside other (is_marked marks i) c ≡ true
          → adds_outside change inner c ≡ true
      add_here c i other q e t =
          ap (λ (x : Bool). adds_outside change x c) (sym (ap (is_marked marks) q ∙ mark)) ∙ (ap (λ (x : Change). adds_outside x (is_marked marks i) c) (sym (same i other q e)) ∙ t)

      spoil_here : (c i : ℕ) (other : Change) → i ≡ place → slice_get changes (get_or body i 0) ≡ Some other → spoils other (is_marked marks i) c ≡ true
          → spoils change inner c ≡ true
      spoil_here c i other q e t =
          ap (λ (x : Bool). spoils change x c) (sym (ap (is_marked marks) q ∙ mark)) ∙ (ap (λ (x : Change). spoils x (is_marked marks i) c) (sym (same i other q e)) ∙ t)
