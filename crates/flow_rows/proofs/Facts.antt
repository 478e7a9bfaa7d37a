-- Facts that fit, with one more that fits.
use Rattle.std.proofs.Common.{◌≡◌, ℕ, ◌<◌, true, List, Option, Some, Ordering, refl, sym, ◌∙◌, subst, []}
use Rattle.std.proofs.lemmas.Bool.{and_from, lt-ltb}
use Rattle.std.specs.Prelude.{IsTrue, if◌then◌else◌}
use Rattle.std.specs.Ordering.{is_eq}
use Rattle.std.specs.declared.cmp.Ordering.TheVariants.{Less, Equal, Greater}
use Rattle.abs_state.proofs.KeyLemmas.{keys_are_ordered}
use Rattle.abs_state.specs.Key.{compare}
use Rattle.abs_state.specs.State.{State, is_state_over}
use Rattle.abs_state.specs.declared.key.Key.{Key}
use Rattle.abs_state.specs.declared.key.Key.TheVariants.{Node, Summary}
use Rattle.abs_state.specs.declared.key.Place.{Place}
use Rattle.call_effects.proofs.MaskLemmas.{test_decides_masks}
use Rattle.call_effects.specs.Mask.{IsMask}
use Rattle.call_effects.specs.declared.summary.Summary.{Summary as Effects}
use Rattle.flow_system.specs.Facts.{fact_at, Writes}
use Rattle.flow_system.specs.Rules.{Rules}
use Rattle.flow_system.specs.State.{AllFit}
use Rattle.transfer_rules.specs.Fact.{fits, is_shallow}
use Rattle.transfer_rules.specs.declared.fact.Fact.{Fact}
use Rattle.transfer_rules.specs.declared.fact.Fact.TheVariants as fact

same_some : {X : Type 0} (x y : X) → ◌≡◌ {A = Option X} (Some x) (Some y) → x ≡ y
same_some x y e = cc

at : (m : Rules Key Fact) (k q : Key) (v w : Fact) (o : Ordering) → compare k q ≡ o → IsTrue (m.fits k v) → (before : Option Fact)
    → ((u : Fact) → before ≡ Some u → IsTrue (m.fits q u)) → (if is_eq o then Some v else before) ≡ Some w → IsTrue (m.fits q w)
at m k q v w Less is fit before fits e = fits w e
at m k q v w Greater is fit before fits e = fits w e
at m k q v w Equal is fit before fits e =
    subst (λ x. IsTrue (m.fits x w)) (keys_are_ordered.exact k q is) (subst (λ u. IsTrue (m.fits k u)) (same_some v w e) fit)

-- facts that fit still do when one that fits is written
pub written_fit : (m : Rules Key Fact) (old new : List (Key × Fact)) (k : Key) (v : Fact) → AllFit m (fact_at compare old) → IsTrue (m.fits k v)
    → Writes compare old new k (Some v) → AllFit m (fact_at compare new)
written_fit m old new k v fits fit writes q w found = at m k q v w (compare k q) refl fit (fact_at compare old q) (fits q) (sym (writes q) ∙ found)

-- no facts fit
pub none_fit : (m : Rules Key Fact) → AllFit m (fact_at compare [])
none_fit m q w found = cc

-- a state over the thresholds fits at a place whose depth is below 2
pub state_fits : (t : List ℕ) (p : Place) (s : State) → p.depth < 2 → is_state_over t s ≡ true → fits t (Node p) (fact.State s) ≡ true
state_fits t p s shallow over = and_from (is_shallow p) (is_state_over t s) (lt-ltb p.depth 2 shallow) over

-- what a subprogram may do fits at its key
pub effects_fit : (t : List ℕ) (sub : ℕ) (e : Effects) → IsMask e.written → fits t (Summary sub) (fact.Sum e) ≡ true
effects_fit t sub e mask = (test_decides_masks e.written).1 mask
