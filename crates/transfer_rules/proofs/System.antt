-- Lawful functions and a lawful program make a lawful system, and more thresholds a finer one.
use Rattle.std.proofs.Common.{◌≡◌, ℕ, true, List, Option, Some}
use Rattle.std.specs.List.{list_all}
use Rattle.std.proofs.lemmas.List.Elements.{All-contains, All-weaker}
use Rattle.value_lattice.proofs.TestLemmas.{over_decides}
use Rattle.value_lattice.specs.Laws.{AreMore}
use Rattle.value_lattice.specs.Test.{is_over}
use Rattle.value_lattice.specs.Thresholds.{IsThresholds}
use Rattle.value_lattice.specs.Value.{HasEndsIn, IsOver}
use Rattle.value_lattice.specs.declared.value.Value.{Value}
use Rattle.value_lattice.specs.declared.value.Value.TheVariants.{Words, Range, Ret}
use Rattle.abs_state.proofs.CellsLemmas.{over_all}
use Rattle.abs_state.proofs.KeyLemmas.{keys_are_ordered}
use Rattle.abs_state.proofs.OrderLemmas.{from_stands, stands, states_are_ordered}
use Rattle.abs_state.proofs.WriteLemmas.{writes_stand}
use Rattle.abs_state.specs.Key.{compare}
use Rattle.abs_state.specs.State.{State, entry_state, is_at_most as is_state_at_most, is_state_over}
use Rattle.abs_state.specs.declared.key.Key.{Key}
use Rattle.flow_system.specs.Laws.{HasLimits, JoinsLeast, KeepsFit, LooksAtReads, OrdersFacts, OrdersKeys}
use Rattle.flow_system.specs.State.{AllFit, ContainsPiece, IsBelow, IsCovered}
use Rattle.transfer_rules.proofs.FactKinds.{fitting, from_fitting}
use Rattle.transfer_rules.proofs.FactOrder.{arguments_in, facts_both, facts_limit, facts_onward, facts_rise, from_arguments, join_first, join_fits}
use Rattle.transfer_rules.proofs.FactOrder.{join_least, join_second, same_fact}
use Rattle.transfer_rules.proofs.Fitting.{IsFit, gives_fit, starts_fit}
use Rattle.transfer_rules.proofs.Lengths.{counted_gives, gives_looks, gives_short, reads_itself, reads_short}
use Rattle.transfer_rules.proofs.PieceLists.{AreCovered, IsAbove}
use Rattle.transfer_rules.proofs.Rising as rising
use Rattle.transfer_rules.specs.Fact.{Piece, fits, is_fact_over}
use Rattle.transfer_rules.specs.Family.{Family, Program}
use Rattle.transfer_rules.specs.Give.{gives, starts}
use Rattle.transfer_rules.specs.Lawful.{IsFinerFamily, IsLawfulFamily, MoreThresholdsAreFiner, RulesAreLawful, rules_of}
use Rattle.transfer_rules.specs.declared.fact.Fact.{Fact}
use Rattle.transfer_rules.specs.declared.fact.Fact.TheVariants as fact

entry_up : (t : List ℕ) → IsThresholds t → is_state_at_most entry_state entry_state ≡ true
entry_up t is = states_are_ordered.same t entry_state (writes_stand.entry t is)

-- pieces that are covered are so in a system with this order
covered_in : (t : List ℕ) (f : Family) (m : Program) (ps qs : List Piece) → AreCovered ps qs → IsCovered (rules_of t f m) ps qs
covered_in t f m ps qs are k v has =
    let is : IsAbove qs (k, v) = All-contains (IsAbove qs) ps (k, v) are has in
    record { fact = is.fact; listed = is.listed; above = is.above }

-- what is below in a system is below
below_in : (t more : List ℕ) (f g : Family) (m : Program) (coarse : IsLawfulFamily t m.widest f) (fine : IsLawfulFamily more m.widest g)
    (law : IsFinerFamily t more f g)
    (up : is_state_at_most entry_state entry_state ≡ true) (x y : Key → Option Fact)
    → ((k : Key) (v : Fact) → x k ≡ Some v → ContainsPiece (rules_of t f m) y k v) → rising.IsBelow t more m up f g coarse fine law x y
below_in t more f g m coarse fine law up x y below = record { fact = λ k v is. let c = below k v is in (c.fact, c.found, c.above) }

-- over functions that keep what a family has to keep, the rules of a program are a lawful system: what a key gives fits,
-- is short and over lesser facts no more, and looks only at what is read; facts are ordered and joined, and have ranks
pub rules_are_lawful : RulesAreLawful
rules_are_lawful t f m family finer program =
    record { keys = keys; fit = fit; order = order; least = least; monotone = monotone; looks = looks; limits = limits }
  where
    is : IsThresholds t
    is = family.thresholds

    keys : OrdersKeys compare
    keys = record { total = keys_are_ordered.total; exact = keys_are_ordered.exact }

    fit : KeepsFit (rules_of t f m)
    fit = record {
      starts = λ k v has. All-contains (IsFit t) (starts m) (k, v) (starts_fit t m is) has;
      gives = λ j s all k v has. All-contains (IsFit t) (gives f m j s) (k, v) (gives_fit t m is f family program s all j) has;
      join = join_fits t is;
    }

    order : OrdersFacts (rules_of t f m)
    order = record {
      same = λ k a one. same_fact t a (fitting t k a one).over;
      onward = λ k a b c one two three up also. facts_onward a b c up also;
      both = λ k a b one two up down. facts_both a b up down;
    }

    least : JoinsLeast (rules_of t f m)
    least = record { first = join_first t is; second = join_second t is; least = join_least t is }

    monotone : (x y : Key → Option Fact) → AllFit (rules_of t f m) x → AllFit (rules_of t f m) y → IsBelow (rules_of t f m) x y → (k : Key)
        → IsCovered (rules_of t f m) (gives f m k x) (gives f m k y)
    monotone x y lower upper below k =
        covered_in t f m (gives f m k x) (gives f m k y)
        (rising.gives_rise t t m (entry_up t is) f f family family finer x y lower upper (below_in t t f f m family family finer (entry_up t is) x y below) k)

    looks : LooksAtReads (rules_of t f m)
    looks = record { itself = reads_itself; looks = λ x y lower upper k same. gives_looks f m x y k same }

    limits : HasLimits (rules_of t f m)
    limits = record {
      rises = facts_rise t;
      limit = facts_limit t;
      reads = reads_short m;
      gives = λ k s all. gives_short t m f family s all k;
      counted = λ k s out. counted_gives f m k s out;
    }

-- over more thresholds more may stand
value_stays : (t more : List ℕ) (v : Value) → AreMore t more → is_over t v ≡ true → is_over more v ≡ true
value_stays t more v are over = (over_decides more v).1 (stays v ((over_decides t v).0 over)) where
  ends : (u : Value) → HasEndsIn t u → HasEndsIn more u
  ends (Words words) has = tt
  ends (Range lo hi) has = (are.thresholds _ has.0, are.thresholds _ has.1)
  ends Ret has = tt

  stays : (u : Value) → IsOver t u → IsOver more u
  stays u is = record { value = is.value; ends = ends u is.ends }

values_stay : (t more : List ℕ) (vs : List Value) → AreMore t more → list_all (is_over t) vs ≡ true → list_all (is_over more) vs ≡ true
values_stay t more vs are over =
    (over_all more vs).1
    (All-weaker (IsOver t) (IsOver more) (λ v is. (over_decides more v).0 (value_stays t more v are ((over_decides t v).1 is))) vs ((over_all t vs).0 over))

pub state_stays : (t more : List ℕ) (s : State) → AreMore t more → is_state_over t s ≡ true → is_state_over more s ≡ true
state_stays t more s are over =
    let a = stands t s over in
    from_stands more s (record { size = a.size; over = values_stay t more s.cells are a.over; zero_cell = a.zero_cell; named = a.named })

fact_stays : (t more : List ℕ) (v : Fact) → AreMore t more → is_fact_over t v ≡ true → is_fact_over more v ≡ true
fact_stays t more (fact.State s) are over = state_stays t more s are over
fact_stays t more (fact.Args list) are over =
    let a = arguments_in t list over in from_arguments more list (record { size = a.size; over = values_stay t more list are a.over })
fact_stays t more (fact.Sum e) are over = over
fact_stays t more fact.Mark are over = over

-- what fits over some thresholds fits over more
pub fit_stays : (t more : List ℕ) (k : Key) (v : Fact) → AreMore t more → fits t k v ≡ true → fits more k v ≡ true
fit_stays t more k v are is =
    let a = fitting t k v is in from_fitting more k v (record { kind = a.kind; depths = a.depths; over = fact_stays t more v are a.over })

-- over more thresholds the same rules make a finer system: what fits still fits, and each key gives no more
pub more_thresholds_are_finer : MoreThresholdsAreFiner
more_thresholds_are_finer t more f g m coarse fine law program =
    record { fits = λ k v is. fit_stays t more k v law.thresholds is; order = λ v w up. up; starts = begins; gives = given }
  where
    is : IsThresholds t
    is = coarse.thresholds

    begins : IsCovered (rules_of more g m) (starts m) (starts m)
    begins k v has =
        let fit = All-contains (IsFit t) (starts m) (k, v) (starts_fit t m is) has in
        record { fact = v; listed = has; above = same_fact t v (fitting t k v fit).over }

    same_below : (s : Key → Option Fact) → AllFit (rules_of t f m) s → (k : Key) (v : Fact) → s k ≡ Some v → ContainsPiece (rules_of t f m) s k v
    same_below s all k v found = record { fact = v; found = found; above = same_fact t v (fitting t k v (all k v found)).over }

    given : (k : Key) (s : Key → Option Fact) → AllFit (rules_of t f m) s → IsCovered (rules_of more g m) (gives g m k s) (gives f m k s)
    given k s all =
        covered_in more g m (gives g m k s) (gives f m k s)
        (rising.gives_rise t more m (entry_up t is) f g coarse fine law s s (λ j v found. fit_stays t more j v law.thresholds (all j v found)) all
        (below_in t more f g m coarse fine law (entry_up t is) s s (same_below s all)) k)
